-- What a pass knows that has asked to begin a swap.
use Rattle.std.proofs.Common.{◌≡◌, ℕ, Bool, true, false, cond, List, ◌∷◌, refl, sym, ap, ◌∙◌, subst}
use Rattle.phase_core.specs.Stages.{is_moved}
use Rattle.phase_core.specs.declared.caller.SwapAt.TheVariants.{Idle, Reopening}
use Rattle.k42_stamp.specs.Layouts.{Layouts}
use Rattle.k42_board.specs.Log.{Extends, step_at, took}
use Rattle.k42_board.specs.Protocol as protocol
use Rattle.k42_board.specs.Stepping.{Takes}
use Rattle.k42_board.specs.Swapping.{at_swap, object_swapped, rows_ended, cleared_view}
use Rattle.k42_board.specs.Tabling.{begun_view}
use Rattle.k42_board.specs.Views.{word_begun}
use Rattle.k42_board.specs.Words.{object_word}
use Rattle.k42_board.specs.declared.view.PassView.{PassView}
use Rattle.k42_board.specs.declared.view.StepName.TheVariants as steps
use Rattle.k42_board.proofs.Gained.{extends_as, extends_one}
use Rattle.k42_mediator.specs.Swaps.{HasTried}

-- a swap that ends, or opens again, keeps its last Begin and its log
cleared_keeps : {A P O R : Type 0} (part : PassView P O R → A) (v : PassView P O R)
    → part (record (at_swap v (Reopening (object_swapped v) 0)) { abandoned = false }) ≡ part v
    → part (record (at_swap v Idle) { turned = false; rows = rows_ended v }) ≡ part v → part (cleared_view v) ≡ part v
cleared_keeps {P = P} part v again over = go (is_moved v.visitor.swap) where
  go : (b : Bool)
      → part (cond b (record (at_swap v (Reopening (object_swapped v) 0)) { abandoned = false })
      (record (at_swap v Idle) { turned = false; rows = rows_ended v }))
      ≡ part v
  go true = again
  go false = over

module _ {P O R : Type 0} (word found : ℕ) (v w : PassView P O R) (knows : w ≡ took steps.Clear word found (cleared_view v)) where
  pub clear_last : w.last ≡ v.last
  clear_last = ap (λ (u : PassView _ O R). u.last) knows ∙ cleared_keeps (λ (u : PassView P O R). u.last) v refl refl

  pub clear_extends : Extends v.log w.log
  clear_extends =
      extends_as
      (ap (λ (u : PassView _ O R). u.log) knows ∙ ap (λ log. step_at steps.Clear word found ∷ log) (cleared_keeps (λ (u : PassView P O R). u.log) v refl refl))
      (extends_one (step_at steps.Clear word found) v.log refl)

module _ {S L P O R : Type 0} (F : Layouts S L P O R) (declared : List L) (id o found : ℕ) (old mid : PassView P O R)
    (takes : Takes F declared (protocol.begin o) id old found mid) where
  -- the word that its Begin found, and what it took after that
  pub tried : (new : PassView P O R) → new.last ≡ mid.last → Extends mid.log new.log → HasTried F declared id o old new
  tried new last extends =
      let word : word_begun new.last ≡ found = ap word_begun (last ∙ ap (λ (w : PassView _ O R). w.last) takes.knows) in
      record {
        asked =
            subst (λ h. Takes F declared (protocol.begin o) id old h (took steps.Begin (object_word o) h (begun_view o h old))) (sym word)
            (subst (λ (w : PassView _ O R). Takes F declared (protocol.begin o) id old found w) takes.knows takes);
        log =
            subst (λ h. Extends (step_at steps.Begin (object_word o) h ∷ old.log) new.log) (sym word)
            (subst (λ (w : PassView _ O R). Extends w.log new.log) takes.knows extends);
      }
