-- What a pass knows as it gives its swap up.
use Rattle.std.proofs.Common.{◌≡◌, ℕ, ◌+◌, ◌<◌, true, false, cond, List, [], ◌∷◌, inr, refl, sym, ap, ◌∙◌, subst}
use Rattle.std.specs.Prelude.{max}
use Rattle.k42_kinds.specs.declared.entry.Act.{Act}
use Rattle.k42_kinds.specs.declared.entry.Answer.TheVariants.{Abandoned}
use Rattle.phase_core.specs.Stages.{is_moved}
use Rattle.phase_core.specs.declared.caller.SwapAt.TheVariants.{Idle, Moved, Reopening, Opened}
use Rattle.turn_core.specs.Plain.{Caller}
use Rattle.turn_core.specs.Stamps.{last_stamp}
use Rattle.k42_stamp.specs.Layouts.{Layouts}
use Rattle.k42_board.specs.Drawing.{entry_alone, alone_view, stamp_next}
use Rattle.k42_board.specs.Log.{ComesTo, step_at, took, last_found, with_log}
use Rattle.k42_board.specs.Protocol as protocol
use Rattle.k42_board.specs.Stepping.{Takes}
use Rattle.k42_board.specs.Swapping.{at_swap, object_swapped, rows_ended, cleared_view, MayClear}
use Rattle.k42_board.specs.Values.{incarnation_in}
use Rattle.k42_board.specs.Views.{word_begun}
use Rattle.k42_board.specs.Words.{object_word, role_word}
use Rattle.k42_board.specs.declared.view.PassView.{PassView}
use Rattle.k42_board.specs.declared.view.StepName.TheVariants as steps
use Rattle.k42_board.proofs.Gained.{extends_one}
use Rattle.k42_mediator.specs.Swaps.{staged, stage_changed, given_up_view, abandoned_view, HasGivenUp}
use Rattle.k42_mediator.proofs.LastFound.{last_takes}
use Rattle.k42_mediator.proofs.LeftOpen.{leaves_open}
use Rattle.k42_mediator.proofs.Logs.{log_now, comes_by, comes_on}

-- its entries open again
abbrev reopening : {P O R : Type 0} → PassView P O R → PassView P O R
reopening v = record (at_swap v (Reopening (object_swapped v) 0)) { abandoned = false }

abbrev reopened : {P O R : Type 0} → PassView P O R → PassView P O R
reopened v = record (at_swap v (Opened (object_swapped v))) { abandoned = false }

cleared_moved : {P O R : Type 0} (v : PassView P O R) → v.visitor.swap ≡ Moved (object_swapped v) → cleared_view v ≡ reopening v
cleared_moved v moved =
    ap (λ swap. cond (is_moved swap) (reopening v) (record (at_swap v Idle) { turned = false; rows = rows_ended v })) moved

pub rows_before : {P O R : Type 0} (word found : ℕ) (v w : PassView P O R) → v.visitor.swap ≡ Moved (object_swapped v)
    → w ≡ took steps.Clear word found (cleared_view v) → w.rows ≡ v.rows
rows_before {O} {R} word found v w moved knows =
    ap (λ (u : PassView _ O R). u.rows) (knows ∙ ap (took steps.Clear word found) (cleared_moved v moved))

-- and it has drawn that
abbrev gives_up : {P O R : Type 0} → Act O → ℕ → PassView P O R → PassView P O R
gives_up act number v = alone_view (entry_alone v act (Abandoned number)) v

module _ {P O R : Type 0} (act : Act O) (v : PassView P O R) (moved : v.visitor.swap ≡ Moved (object_swapped v)) where
  pub comes_up : (told : Act O) (number word found : ℕ) (v1 v2 v3 : PassView P O R) → told ≡ act → number ≡ incarnation_in (word_begun v.last) + 1
      → v1 ≡ took steps.Clear word found (cleared_view v)
      → ComesTo v1 (staged (stage_changed v1.visitor.swap) v1) v2
      → v3 ≡ took steps.Draw role_word 0 (gives_up told number v2)
      → ComesTo v (given_up_view act v) v3
  comes_up told number word found v1 v2 v3 same is first second third =
      let opening : ComesTo v (reopening v) v1 =
      comes_by v (reopening v) v1 (step_at steps.Clear word found ∷ v.log) (first ∙ ap (took steps.Clear word found) (cleared_moved v moved))
      (extends_one (step_at steps.Clear word found) v.log refl) in
      let opened : ComesTo v (reopened v) v2 =
      comes_on (λ (w : PassView _ O R). staged (stage_changed w.visitor.swap) w) v (reopening v) v1 v2 opening second (λ log w. refl) in
      comes_on (gives_up act (incarnation_in (word_begun v.last) + 1)) v (reopened v) v2 v3 opened
      (comes_by v2 (gives_up act (incarnation_in (word_begun v.last) + 1) v2) v3 (step_at steps.Draw role_word 0 ∷ v2.log)
      (third ∙ (λ i. took steps.Draw role_word 0 (gives_up (same i) (is i) v2))) (extends_one (step_at steps.Draw role_word 0) v2.log refl))
      (λ log w. refl)

  -- and that is later than all before it
  pub later_up : (word found stamp : ℕ) (v1 v2 : PassView P O R) → v1 ≡ took steps.Clear word found (cleared_view v)
      → ComesTo v1 (staged (stage_changed v1.visitor.swap) v1) v2 → stamp ≡ stamp_next v2 [] → last_stamp v2.taker.mine < stamp
      → last_stamp v.taker.mine < stamp_next v []
  later_up word found stamp v1 v2 first second is later =
      let taker : v2.taker ≡ v.taker =
      ap (λ (u : PassView P O R). u.taker) second.knows ∙ ap (λ (u : PassView P O R). u.taker) (first ∙ ap (took steps.Clear word found) (cleared_moved v moved)) in
      subst (λ (x : Caller O R). last_stamp x.mine < max x.clock 0 + 1) taker (subst (λ n. last_stamp v2.taker.mine < n) is later)

module _ {P O R : Type 0} (act : Act O) (v v3 : PassView P O R) (unturned : v.turned ≡ false) (comes : ComesTo v (given_up_view act v) v3) where
  pub clears_up : MayClear v3
  clears_up = subst MayClear (sym comes.knows) (inr refl)

  pub never_turned : {A : Type 0} → v3.turned ≡ true → A
  never_turned turned = absurd (let no : true ≡ false = sym turned ∙ ap (λ (u : PassView _ O R). u.turned) comes.knows ∙ unturned in cc)

module _ {S L P O R : Type 0} (F : Layouts S L P O R) (declared : List L) (act : Act O) (id' id : ℕ) (v v3 new : PassView P O R) (found : ℕ)
    (unturned : v.turned ≡ false) (comes : ComesTo v (given_up_view act v) v3) (seat : id' ≡ id) (takes : Takes F declared protocol.clear id' v3 found new) where
  pub given_up : HasGivenUp F declared id act v new
  given_up = record {
    log = v3.log;
    since = comes.log;
    cleared =
        subst (λ (u : PassView _ O R). Takes F declared protocol.clear id u (last_found new.log) new) comes.knows
        (subst (λ i. Takes F declared protocol.clear i v3 (last_found new.log) new) seat
        (last_takes F declared protocol.clear id' v3 found new takes refl));
    opened = leaves_open F declared id (object_swapped v) (with_log v3.log (given_up_view act v)) unturned;
  }

  -- it swaps nothing any more
  pub abandoned : new ≡ with_log new.log (abandoned_view act v)
  abandoned =
      log_now (abandoned_view act v) new (step_at steps.Clear (object_word (object_swapped v3)) found ∷ v3.log)
      (takes.knows ∙ ap (λ (u : PassView _ O R). took steps.Clear (object_word (object_swapped v3)) found (cleared_view u)) comes.knows
      ∙ (λ i. with_log (step_at steps.Clear (object_word (object_swapped v3)) found ∷ v3.log)
      (record (staged Idle (given_up_view act v)) { turned = sym unturned i; rows = rows_at i })))
    where
      rows_at : rows_ended (given_up_view act v) ≡ v.rows
      rows_at = ap (λ b. cond b (rows_ended (record (given_up_view act v) { turned = true })) v.rows) unturned

  pub room_stays : new.rows ≡ v3.rows
  room_stays = ap (λ (u : PassView _ O R). u.rows) abandoned ∙ sym (ap (λ (u : PassView _ O R). u.rows) comes.knows)
