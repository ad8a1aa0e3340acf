-- Of an object one caller at a time moves it or frees its rows.
use Rattle.std.proofs.Common.{◌≡◌, ℕ, ◌<◌, ◌∙◌, true, false, leb, ltb, Some, length, sym, ap, ⊎_elim, arith}
use Rattle.std.proofs.lemmas.Bool.{and_parts, eqb-true, leb-true, ltb-true}
use Rattle.std.proofs.lemmas.Option.{same_Some}
use Rattle.phase_core.specs.Plain.{Phases}
use Rattle.phase_core.specs.Sound.{IsSound}
use Rattle.phase_core.specs.Stages.{named_by}
use Rattle.phase_core.specs.State.{visitor_at, span_at}
use Rattle.phase_core.specs.declared.caller.SwapAt.{SwapAt}
use Rattle.phase_core.specs.declared.caller.SwapAt.TheVariants.{Moved}
use Rattle.phase_core.proofs.InSound.{object_known, visitor_known}
use Rattle.k42_joined.specs.Touching.{is_moving, is_freeing, IsAloneAt}

moving_is : (swap : SwapAt) (o : ℕ) → is_moving swap o ≡ true → swap ≡ Moved o
moving_is (Moved q) o is = ap Moved (eqb-true q o is)
moving_is swap o is = absurd (cc)

module _ (s : Phases) (sound : IsSound s) (o : ℕ) (named : o < length s.objects) where
  swapper_is : (c : ℕ) → c < length s.callers → is_moving (visitor_at s c).swap o ≡ true
      → ((sound.scene.looks o).swapper ≡ Some c) × ((sound.scene.looks o).settled ≡ true)
  swapper_is c there moves =
      let at = moving_is (visitor_at s c).swap o moves in
      let owned = (visitor_known s sound c there).swap_alone.owned o (ap named_by at) in
      let stage = owned.1 ∙ at in
      (owned.0, rw stage at (object_known s sound o named).freed_rows.stage)

  holder_is : (c i : ℕ) → c < length s.callers → is_freeing (visitor_at s c).freeing o i ≡ true
      → (sound.scene.course.holder ≡ Some c) × ((sound.scene.looks o).settled ≡ false)
  holder_is c i there frees =
      let span = span_at (visitor_at s c).freeing o in
      let both = and_parts (leb span.0 i) (ltb i span.1) frees in
      let low = leb-true span.0 i both.0 in
      let high = ltb-true i span.1 both.1 in
      let known = (visitor_known s sound c there).frees_alone.freeing o (omega (arith, low, high)) in
      (known.0, known.3)

  pub one_at_a_time : (c d : ℕ) → c < length s.callers → d < length s.callers → IsAloneAt s c o → IsAloneAt s d o → c ≡ d
  one_at_a_time c d there there' first second =
      ⊎_elim {C = c ≡ d}
      (λ moves. ⊎_elim {C = c ≡ d}
      (λ moves'. same_Some c d (sym (swapper_is c there moves).0 ∙ (swapper_is d there' moves').0))
      (λ (frees : (i : ℕ) × (is_freeing (visitor_at s d).freeing o i ≡ true)).
      let bad : true ≡ false = sym (swapper_is c there moves).1 ∙ (holder_is d frees.0 there' frees.1).1 in absurd (cc)) second)
      (λ (frees : (i : ℕ) × (is_freeing (visitor_at s c).freeing o i ≡ true)). ⊎_elim {C = c ≡ d}
      (λ moves'. let bad : true ≡ false = sym (swapper_is d there' moves').1 ∙ (holder_is c frees.0 there frees.1).1 in absurd (cc))
      (λ (frees' : (i : ℕ) × (is_freeing (visitor_at s d).freeing o i ≡ true)).
      same_Some c d (sym (holder_is c frees.0 there frees.1).0 ∙ (holder_is d frees'.0 there' frees'.1).0)) second)
      first
