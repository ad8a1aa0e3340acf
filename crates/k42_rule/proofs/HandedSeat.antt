-- The seat of a pass that has handed a row on, before and after its cells are told.
use Rattle.std.proofs.Common.{◌≡◌, ℕ, ◌≤◌, true, List, [], ◌∷◌, ◌++◌, length, Some, take, drop, sym, ap, ◌∙◌, subst}
use Rattle.k42_kinds.specs.declared.entry.Act.{Act}
use Rattle.k42_kinds.specs.declared.entry.Answer.{Answer}
use Rattle.k42_kinds.specs.declared.entry.Entry.{Entry}
use Rattle.k42_stamp.specs.Layouts.{Layouts}
use Rattle.k42_board.specs.Drawing.{MayHandOn, entry_hand, numbers_of, stamp_next, untold_view, HasSmallStamp}
use Rattle.k42_board.specs.Handing.{hands_at, handed_at}
use Rattle.k42_board.specs.Log.{took}
use Rattle.k42_board.specs.Receipts.{AreDue}
use Rattle.k42_board.specs.Seen.{IsSeatOf, Own, own_in, Mirrors}
use Rattle.k42_board.specs.Steps.{Seated}
use Rattle.k42_board.specs.Views.{pass_in}
use Rattle.k42_board.specs.declared.cell.Content.{Content}
use Rattle.k42_board.specs.declared.view.PassView.{PassView}
use Rattle.k42_board.specs.declared.view.StepName.TheVariants as steps
use Rattle.k42_board.specs.declared.view.View.TheVariants.{Crew}
use Rattle.k42_rule.proofs.Drawn.{knows_drawn}
use Rattle.k42_rule.proofs.HandedCells.{many_from, all_cells, all_numbers, parted}
use Rattle.k42_rule.proofs.HandedNotes.{seat_due}

module _ {S L P O R : Type 0} (F : Layouts S L P O R) (declared : List L) (cells : List (Content P O R)) (to : L) (answer : Answer R) (v : PassView P O R)
    (may : MayHandOn F declared (take F.procs cells) (drop F.procs cells) to answer v) (entry : Entry O R) (tag : ℕ) where
  abbrev from : List (Content P O R)
  from = take F.procs cells

  abbrev onto : List (Content P O R)
  onto = drop F.procs cells

  module _ (me : Seated P O R) (word : ℕ) (is : IsSeatOf me (took steps.Draw word 0 (hands_at from onto entry tag v))) where
    pub untold_is : (pass_in me.0).untold ≡ numbers_of cells
    untold_is = ap (λ (m : Seated P O R). (pass_in m.0).untold) is ∙ all_numbers F declared cells to answer v may

    pub mine_is : (pass_in me.0).taker.mine ≡ v.taker.mine ++ entry ∷ []
    mine_is = ap (λ (m : Seated P O R). (pass_in m.0).taker.mine) is

    pub due_is : F.procs ≤ 8 → HasSmallStamp (hands_at from onto entry tag v) → AreDue (pass_in me.0).notes F.procs true entry.stamp cells
    due_is few small =
        subst (λ (z : ℕ × List (Content P O R)). AreDue (pass_in me.0).notes z.0 true entry.stamp z.1)
        (λ j. (many_from F declared cells to answer v may j, all_cells F declared cells to answer v may j))
        (seat_due v from onto entry tag me word is small may.held_from may.held_onto (parted F declared cells to answer v may few))

    -- once all cells were told
    module _ (seated : Seated P O R) (told : IsSeatOf seated (untold_view [] (pass_in me.0))) where
      knows_is : pass_in seated.0 ≡ took steps.Draw word 0 (handed_at from onto entry tag v)
      knows_is = knows_drawn _ me seated is told

      pub mirrors_is : (before : Seated P O R) (own now : Own) → Mirrors before own → pass_in before.0 ≡ v
          → now ≡ record own { drawn = length (v.taker.mine ++ entry ∷ []); clock = entry.stamp; handed = Some tag } → Mirrors seated now
      mirrors_is before own now mirrors same becomes = record {
        seat = told ∙ (λ j. (Crew (sym (ap (λ (m : Seated P O R). pass_in m.0) told) j ∷ []), []));
        own_is =
            becomes ∙ ap (λ (o : Own). record o { drawn = length (v.taker.mine ++ entry ∷ []); clock = entry.stamp; handed = Some tag }) (mirrors.own_is ∙ ap own_in same)
            ∙ sym (ap own_in knows_is);
        out = ap (λ (x : PassView P O R). x.out) knows_is ∙ ap (λ (x : PassView P O R). x.out) (sym same) ∙ mirrors.out;
        told = ap (λ (x : PassView P O R). x.untold) knows_is;
      }

  module _ (act : Act O) (is : entry ≡ entry_hand v (numbers_of from) (numbers_of onto) act answer) where
    pub stamp_told : entry.stamp ≡ stamp_next v (numbers_of cells)
    stamp_told = ap (λ (e : Entry O R). e.stamp) is ∙ ap (stamp_next v) (all_numbers F declared cells to answer v may)
