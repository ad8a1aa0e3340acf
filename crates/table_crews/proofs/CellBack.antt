-- A cell that was taken, drawn at, put back and left: what the pass knows then.
use Rattle.std.proofs.Common.{◌≡◌, ℕ, Bool, true, false, not, cond, List, [], ◌∷◌, ◌++◌, refl, sym, ap, ◌∙◌, subst}
use Rattle.std.specs.Prelude.{◌==◌, ◌<◌, is_some, length}
use Rattle.std.specs.List.{filter}
use Rattle.std.proofs.lemmas.Bool.{eq-eqb}
use Rattle.k42_kinds.specs.declared.entry.Entry.{Entry}
use Rattle.turn_core.specs.Names.{names}
use Rattle.k42_board.specs.Drawing.{drawn_at, numbers_of, part_in, told_note, told_notes}
use Rattle.k42_board.specs.Log.{took, logs, put_at}
use Rattle.k42_board.specs.Phases.{is_served}
use Rattle.k42_board.specs.Seen.{SysSeen, PassSeen, Keeping}
use Rattle.k42_board.specs.Taking.{noted, without, unlocked_view, reaching_view, put_view}
use Rattle.k42_board.specs.Words.{lock_word}
use Rattle.k42_board.specs.declared.cell.Content.{Content}
use Rattle.k42_board.specs.declared.view.Note.{Note}
use Rattle.k42_board.specs.declared.view.PassView.{PassView}
use Rattle.k42_board.specs.declared.view.StepName.TheVariants as steps
use Rattle.table_crews.specs.Drawn.{HasDrawn}
use Rattle.table_crews.specs.Ready.{HoldsNoCell, IsServing}
use Rattle.table_crews.proofs.OneCell.{took_cell, lock_asked, taken_from}

none_held : (n : ℕ) → filter (λ m. not (m == n)) (n ∷ []) ≡ []
none_held n = let same = eq-eqb n n refl in rw same refl

module _ {P : Type 0} where
  -- the pass once it has put the cell back, with a part or without, and left its lock
  abbrev put_back : {O R : Type 0} → ℕ → Bool → PassView P O R → PassView P O R
  put_back n full v = logs (put_at (lock_word n) full) (put_view n (took steps.Reach (lock_word n) 0 (reaching_view n v)))

  abbrev left_cell : {O R : Type 0} → ℕ → PassView P O R → PassView P O R
  left_cell n v = took steps.Unlock (lock_word n) 0 (unlocked_view n v)

  -- where it has taken the cell before, and drawn there
  abbrev pub gone_through : {O R : Type 0} (n word : ℕ) → Bool → Content P O R → List (Content P O R) → Entry O R → PassView P O R → PassView P O R
  gone_through n word full content cells entry v =
      left_cell n (put_back n full (took steps.Draw word 0 (drawn_at cells entry (took_cell n content (lock_asked n 0 v)))))

  pub went_through : {O R : Type 0} (n word found : ℕ) (full : Bool) (content : Content P O R) (cells : List (Content P O R)) (entry : Entry O R) (v roomy locked taken drawn back left : PassView P O R)
      → roomy ≡ v → found ≡ 0 → locked ≡ lock_asked n found roomy → taken ≡ took_cell n content locked → drawn ≡ took steps.Draw word 0 (drawn_at cells entry taken)
      → back ≡ put_back n full drawn → left ≡ left_cell n back → left ≡ gone_through n word full content cells entry v
  went_through {O} {R} n word found full content cells entry v roomy locked taken drawn back left same free lock take draw put leave =
      leave
      ∙ ap (left_cell n) (put
      ∙ ap (put_back n full) (draw
      ∙ ap (λ (x : PassView P O R). took steps.Draw word 0 (drawn_at cells entry x)) (taken_from n found content v roomy locked taken same lock take
      ∙ ap (λ k. took_cell n content (lock_asked n k v)) free)))

  told_cell : {O R : Type 0} (cells : List ℕ) (entry : Entry O R) (fresh : ℕ → _) (note : Note P O R) → (told_note cells entry fresh note).cell ≡ note.cell
  told_cell cells entry fresh note = go (names cells note.cell) where
    go : (b : Bool) → (cond b (record note { history = note.history ++ entry ∷ []; part = fresh note.cell }) note).cell ≡ note.cell
    go true = refl
    go false = refl

  none_left : {O R : Type 0} (n : ℕ) (note : Note P O R) → note.cell ≡ n → without n (note ∷ []) ≡ []
  none_left n note e = let same = eq-eqb note.cell n e in rw same refl

  module _ {O R : Type 0} (n word : ℕ) (full : Bool) (content : Content P O R) (cells : List (Content P O R)) (entry : Entry O R) (old new : PassSeen P O R)
      (e : new.view ≡ gone_through n word full content cells entry old.view) where
    pub through_drawn : (stamp : ℕ) → stamp ≡ entry.stamp → HasDrawn stamp old.view new.view
    through_drawn stamp is = record { entry = entry; stamped = sym is; mine = ap (λ (x : PassView P O R). x.taker.mine) e }

    pub through_serving : IsServing old.view → IsServing new.view
    through_serving is = record {
      active = ap (λ (x : PassView P O R). is_some x.turn.active) e ∙ is.active;
      served = ap (λ (x : PassView P O R). is_served x.visitor.place) e ∙ is.served;
      layout = ap (λ (x : PassView P O R). is_some x.layout) e ∙ is.layout;
    }

    pub through_free : {L : Type 0} (sys : SysSeen L) → content.number ≡ n → HoldsNoCell sys old → new.table ≡ old.table → new.queue ≡ old.queue → new.keep ≡ old.keep → HoldsNoCell sys new
    through_free sys number is table queue keep = record {
      ours = record {
        table = table ∙ is.ours.table;
        proc = subst (λ (x : PassView P O R). x.turn.proc < sys.procs) (sym e) is.ours.proc;
        waits = ap (λ (x : PassView P O R). length x.turn.waits) e ∙ is.ours.waits;
        objects = ap (λ (x : PassView P O R). length x.visitor.noted) e ∙ is.ours.objects;
        shapes = ap (λ (x : PassView P O R). x.shapes) e ∙ is.ours.shapes;
        spans = ap (λ (x : PassView P O R). length x.visitor.freeing) e ∙ is.ours.spans;
        queue = queue ∙ is.ours.queue;
        keep = ap (λ (k : Keeping). k.what) keep ∙ is.ours.keep;
      };
      held = ap (λ (x : PassView P O R). x.taker.held) e ∙ ap (λ held. filter (λ m. not (m == n)) (held ++ n ∷ [])) is.held ∙ none_held n;
      notes =
          ap (λ (x : PassView P O R). x.notes) e
          ∙ ap (λ notes. without n (told_notes (numbers_of cells) entry (part_in cells) (noted content ∷ notes))) is.notes
          ∙ none_left n (told_note (numbers_of cells) entry (part_in cells) (noted content)) (told_cell (numbers_of cells) entry (part_in cells) (noted content) ∙ number);
    }
