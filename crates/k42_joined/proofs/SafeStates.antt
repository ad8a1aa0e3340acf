-- A state that meets every fact is safe.
use Rattle.std.proofs.Common.{◌≡◌, ◌≢◌, ℕ, ◌+◌, ◌-◌, ◌%◌, ◌<◌, ◌≤◌, ◌∙◌, Bool, true, false, ◌||◌, cond, eqb, List, length, refl, sym, ap, subst, ⊎_elim, arith}
use Rattle.std.proofs.lemmas.Bool.{cases_eq}
use Rattle.std.proofs.lemmas.Bool.Decides.{nat_tests}
use Rattle.gen_core.specs.State.{caller_at}
use Rattle.phase_core.specs.Callers.{IsAtPlace}
use Rattle.phase_core.specs.Plain.{Phases}
use Rattle.phase_core.specs.Runs.{HasRead}
use Rattle.phase_core.specs.Sound as phases
use Rattle.phase_core.specs.Stages.{IsInside, named_by}
use Rattle.phase_core.specs.State.{visitor_at}
use Rattle.phase_core.specs.declared.caller.Place.{Place}
use Rattle.phase_core.specs.declared.caller.Place.TheVariants.{Out, Missed, Direct, AtMediator, Tracked, Blocked}
use Rattle.phase_core.proofs.InSound.{object_known, visitor_known, one_swap, inside_is_present, moved_is_ready}
use Rattle.phase_core.proofs.Reached.{turn_there, moving_alone}
use Rattle.k42_stamp.specs.Laws.{AreLaws}
use Rattle.k42_stamp.specs.Layouts.{Layouts}
use Rattle.k42_joined.specs.Plain.{Joined}
use Rattle.k42_joined.specs.Locks.{other_life, is_closed_in}
use Rattle.k42_joined.specs.Numbers.{cell_of}
use Rattle.k42_joined.specs.Safe.{IsOpenRow, IsSafe}
use Rattle.k42_joined.specs.Sound.{IsSound}
use Rattle.k42_joined.specs.State.{many_procs, many_callers, many_objects, object, incarnation, cell, cell_in, is_handed}
use Rattle.k42_joined.proofs.AnswersRows.{IsMover, handed_moved}
use Rattle.k42_joined.proofs.CellNumbers.{cell_of-parity}

-- the object of a row in which a caller is
pub inside_there : (s : Phases) (sound : phases.IsSound s) (c o i : ℕ) → c < length s.callers → IsInside (visitor_at s c).place o i → o < length s.objects
inside_there s sound c o i there inside = by_place (visitor_at s c).place (visitor_known s sound c there).at_place inside where
  found : (q j : ℕ) → q < sound.scene.objects → (q ≡ o) × (j ≡ i) → o < length s.objects
  found q j within same = rw (sound.in_scene.many_objects, ← same.0) within

  by_place : (place : Place) → IsAtPlace sound.scene (caller_at s.turns c) (visitor_at s c).read place → IsInside place o i → o < length s.objects
  by_place Out at inside = absurd inside
  by_place (Missed q j) at inside = found q j at.0 inside
  by_place (Direct q j) at inside = found q j at.0 inside
  by_place (AtMediator q) at inside = absurd inside
  by_place (Tracked q j) at inside = found q j at.0 inside
  by_place (Blocked q) at inside = absurd inside

module _ {S L P O R : Type 0} (F : Layouts S L P O R) (laws : AreLaws F) (declared : List L) (s : Joined L O R) (sound : IsSound F declared s) where
  mover_of : (o : ℕ) → o < many_objects s → is_handed s o ≡ true → IsMover F laws declared s sound.cells.turns sound.cells.locks sound.cells.rows sound.answers o
  mover_of o named handed = handed_moved F laws declared s sound.cells.turns sound.cells.locks sound.cells.rows sound.answers o named handed

  -- a row that was handed on has nobody inside
  pub handed_alone : (c o i : ℕ) → c < many_callers s → o < many_objects s → is_handed s o ≡ true → IsInside (visitor_at s.phases c).place o i → ⊥
  handed_alone c o i there named handed inside =
      let mover = mover_of o named handed in
      let is = object_known s.phases sound.phases o named in
      let stage = ((visitor_known s.phases sound.phases mover.caller mover.there).swap_alone.owned o (ap named_by mover.moves)).1 ∙ mover.moves in
      let moving = (rw stage at is.bits_follow.bits).0.1 in
      moving_alone s.phases c o sound.phases (turn_there s.phases sound.phases c there) named moving i inside

  present_open : (o p : ℕ) → o < many_objects s → p < many_procs s → is_handed s o ≡ false → IsOpenRow s o (incarnation s o) p
  present_open o p named lt handed =
      let is = (sound.cells.locks.lives o p named lt).present in
      let opened : is_closed_in (incarnation s o) false (incarnation s o) ≡ false = grind (arith, nat_tests) in
      record { life = is.life; opened = is.closed ∙ ap (λ b. is_closed_in (incarnation s o) b (incarnation s o)) handed ∙ opened }

  inside_opened : (c o i p : ℕ) → c < many_callers s → IsInside (visitor_at s.phases c).place o i → p < many_procs s → IsOpenRow s o i p
  inside_opened c o i p there inside lt =
      let named = inside_there s.phases sound.phases c o i there inside in
      let present = (inside_is_present s.phases sound.phases c o i there inside).1 in
      subst (λ j. IsOpenRow s o j p) (sym present) (present_open o p named lt (by_test o named (is_handed s o) refl inside))
    where
      by_test : (o : ℕ) → o < many_objects s → (b : Bool) → is_handed s o ≡ b → IsInside (visitor_at s.phases c).place o i → b ≡ false
      by_test o named true handed inside = absurd (handed_alone c o i there named handed inside)
      by_test o named false handed inside = refl

  -- a row that was read is kept
  pub read_row_kept : (c o i : ℕ) → c < many_callers s → HasRead s.phases c o i → (object s o).freed ≤ i
  read_row_kept c o i there read =
      let x = visitor_known s.phases sound.phases c there in
      let inside : o < many_objects s = rw sound.phases.in_scene.many_objects (x.read_once.there o i read) in
      let freed = (object_known s.phases sound.phases o inside).bits_follow.freed in
      let kept = (x.rows_read o i read).kept in
      omega (arith, freed, kept)

  -- the cells of a life above the first two were given once their former row was freed
  given_again : (o row p j : ℕ) → o < many_objects s → p < many_procs s → (cell_in s o row p).life ≡ j + 2 → j < (object s o).freed
  given_again o row p j named lt life =
      ⊎_elim
      (λ (parity : row % 2 ≡ incarnation s o % 2).
      let same : cell_of o row p ≡ cell_of o (incarnation s o) p = cell_of-parity o row (incarnation s o) p parity in
      let is : incarnation s o ≡ j + 2 = sym (sound.cells.locks.lives o p named lt).present.life ∙ sym (ap (λ n. (cell s n).life) same) ∙ life in
      omega (arith, is, kept))
      (λ (parity : row % 2 ≢ incarnation s o % 2).
      let same : cell_of o row p ≡ cell_of o (incarnation s o + 1) p = cell_of-parity o row (incarnation s o + 1) p (omega (arith, parity)) in
      let is : other_life (incarnation s o) (is_handed s o) ≡ j + 2 =
      sym (sound.cells.locks.lives o p named lt).other.life ∙ sym (ap (λ n. (cell s n).life) same) ∙ life in
      by_test (is_handed s o) refl is)
      (cases_eq (row % 2) (incarnation s o % 2))
    where
      kept : incarnation s o ≤ (object s o).freed + 1
      kept = (sound.cells.locks.counted o named).kept

      by_first : (b : Bool) → eqb (incarnation s o) 0 ≡ b → cond (b || false) (incarnation s o + 1) (incarnation s o - 1) ≡ j + 2 → j < (object s o).freed
      by_first true e is = let none : incarnation s o ≡ 0 = grind (arith, nat_tests, e) in absurd (omega (arith, none, is))
      by_first false e is = omega (arith, is, kept)

      by_test : (b : Bool) → is_handed s o ≡ b → other_life (incarnation s o) b ≡ j + 2 → j < (object s o).freed
      by_test true handed is =
          let mover = mover_of o named handed in
          let freed = (moved_is_ready s.phases sound.phases mover.caller o mover.there mover.moves).freed in
          let next : other_life (incarnation s o) true ≡ incarnation s o + 1 = grind (arith, nat_tests) in
          omega (arith, freed, next, is)
      by_test false handed is = by_first (eqb (incarnation s o) 0) refl is

  pub sound_safe : IsSafe s
  sound_safe = record {
    moved_alone = λ c o i there named moving. moving_alone s.phases c o sound.phases (turn_there s.phases sound.phases c there) named moving i;
    inside_present = λ c o i there inside. (inside_is_present s.phases sound.phases c o i there inside).1;
    inside_open = inside_opened;
    read_kept = read_row_kept;
    given_freed = given_again;
    one_swap = λ o named. one_swap s.phases sound.phases o named;
  }
