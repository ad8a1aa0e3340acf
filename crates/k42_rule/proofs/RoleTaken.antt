-- What a pass keeps by itself as it takes the role, and as it gives it back.
use Rattle.std.proofs.Common.{refl, ◌≡◌, ℕ, ◌+◌, ◌-◌, List, [], ◌++◌, Option, None, drop, length, take, sym, ap, ◌∙◌, subst}
use Rattle.std.specs.Prelude.{replicate}
use Rattle.std.specs.Option.{unwrap_or}
use Rattle.std.proofs.lemmas.List.{length-drop}
use Rattle.std.proofs.Math.Seq.{take-append_seam}
use Rattle.gen_core.specs.declared.state.GraceAt.TheVariants.{Idle, Flipping}
use Rattle.k42_kinds.specs.Rows.{made_from}
use Rattle.phase_core.specs.Effects.{draining_from}
use Rattle.phase_core.specs.Stages.{object_named}
use Rattle.phase_core.specs.declared.caller.SwapAt.{SwapAt}
use Rattle.phase_core.specs.declared.caller.SwapAt.TheVariants.{Interposed}
use Rattle.k42_board.specs.Gracing.{role_view, given_view}
use Rattle.k42_board.specs.Log.{took}
use Rattle.k42_board.specs.Noting.{due_of, notes_due}
use Rattle.k42_board.specs.Seen.{Own, own_in, IsSeatOf, Mirrors}
use Rattle.k42_board.specs.Steps.{Seated}
use Rattle.k42_board.specs.Swapping.{next_entry}
use Rattle.k42_board.specs.Views.{pass_in}
use Rattle.k42_board.specs.Words.{role_word}
use Rattle.k42_board.specs.declared.view.PassView.{PassView}
use Rattle.k42_board.specs.declared.view.Row.{Row}
use Rattle.k42_board.specs.declared.view.StepName.TheVariants as steps
use Rattle.k42_board.proofs.Notings.{made_length}

pub draining_named : (swap : SwapAt) → object_named (draining_from swap) ≡ object_named swap
draining_named (Interposed o) = refl
draining_named swap = refl

pub draining_next : (swap : SwapAt) → unwrap_or (next_entry (draining_from swap)) 0 ≡ unwrap_or (next_entry swap) 0
draining_next (Interposed o) = refl
draining_next swap = refl

-- all the notes that it had are written anew
all_new : {A : Type 0} (old new : List A) (many : ℕ) → many ≡ length old → length new ≡ length old → take many (new ++ drop (length new) old) ≡ new
all_new old new many long same = ap (λ n. take n (new ++ drop (length new) old)) (long ∙ sym same) ∙ take-append_seam new (drop (length new) old)

-- the rows that were granted go to the end, and are cut off there
pub rows_given : (rows turned now : List Row) (many granted : ℕ) → turned ≡ drop granted rows ++ take granted rows → many ≡ length rows
    → now ≡ take (many - granted) turned → now ≡ drop granted rows
rows_given rows turned now many granted is long cut =
    cut ∙ (λ i. take (long i - granted) (is i)) ∙ ap (λ n. take n (drop granted rows ++ take granted rows)) (sym (length-drop granted rows))
    ∙ take-append_seam (drop granted rows) (take granted rows)

-- taking the role draws nothing
pub role_keeps : {P O R : Type 0} (v : PassView P O R) (me : Seated P O R) (found : ℕ) → IsSeatOf me (took steps.TakeRole role_word found (role_view found v)) → found ≡ 0
    → (pass_in me.0).taker.mine ≡ v.taker.mine
role_keeps {O} {R} v me found seat zero =
    ap (λ (m : Seated _ O R). (pass_in m.0).taker.mine) (subst (λ n. IsSeatOf me (took steps.TakeRole role_word n (role_view n v))) zero seat)

-- nor does it tell other shapes
pub role_shapes : {P O R : Type 0} (v : PassView P O R) (me : Seated P O R) (found : ℕ) → IsSeatOf me (took steps.TakeRole role_word found (role_view found v)) → found ≡ 0
    → (pass_in me.0).shapes ≡ v.shapes
role_shapes {O} {R} v me found seat zero =
    ap (λ (m : Seated _ O R). (pass_in m.0).shapes) (subst (λ n. IsSeatOf me (took steps.TakeRole role_word n (role_view n v))) zero seat)

module _ {P O R : Type 0} (v : PassView P O R) (own : Own) (own_is : own ≡ own_in v) where
  pub noted_anew :
      (rows : List Row) (old was new : List (Option ℕ)) (many : ℕ) → rows ≡ own.rows → old ≡ own.noted → was ≡ own.noted → many ≡ length own.noted
      → new ≡ made_from (due_of own.swap own.last rows) 0 (length was)
      → take many (new ++ drop (length new) old) ≡ notes_due v
  noted_anew rows old was new many rows_are old_is was_is long made =
      all_new old new many (long ∙ sym (ap length old_is))
      (ap length made ∙ made_length (due_of own.swap own.last rows) 0 (length was) ∙ ap length was_is ∙ sym (ap length old_is))
      ∙ made ∙ due where
        due : made_from (due_of own.swap own.last rows) 0 (length was) ≡ notes_due v
        due = rw (rows_are, was_is, own_is) refl

  pub role_mirrors :
      (me : Seated P O R) (found : ℕ) (noted : List (Option ℕ)) (swap : SwapAt) (granted : ℕ) → IsSeatOf me (took steps.TakeRole role_word found (role_view found v)) → found ≡ 0
      → v.out ≡ None → v.untold ≡ [] → noted ≡ notes_due v → swap ≡ draining_from own.swap → granted ≡ length own.rows
      → Mirrors me (record own { turn = record own.turn { grace = Flipping 0 }; noted = noted; swap = swap; graces = own.graces + 1; base = None; granted = granted })
  role_mirrors me found noted swap granted seat zero out untold noted_is swap_is granted_is =
      subst (λ (m : Seated P O R). Mirrors m (record own { turn = record own.turn { grace = Flipping 0 }; noted = noted; swap = swap; graces = own.graces + 1; base = None; granted = granted }))
      (sym (subst (λ n. IsSeatOf me (took steps.TakeRole role_word n (role_view n v))) zero seat))
      (record { seat = refl; own_is = rw (noted_is, swap_is, granted_is, own_is) refl; out = out; told = untold })

  -- as it gives the role back
  pub given_own :
      (freeing : List (ℕ × ℕ)) (rows : List Row) → freeing ≡ replicate (length v.visitor.freeing) (0, 0) → rows ≡ drop v.granted v.rows
      → record own { turn = record own.turn { grace = Idle }; freeing = freeing; rows = rows; granted = 0 } ≡ own_in (given_view v)
  given_own freeing rows freeing_is rows_are = rw (freeing_is, rows_are, own_is) refl
