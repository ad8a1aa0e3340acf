-- Every step of the protocol, as a row: what it asks, what it finds, and what it does.
use Rattle.std.specs.Prelude.{◌≡◌, ℕ, ◌+◌, ◌-◌, ◌%◌, ◌^◌, ◌==◌, if◌then◌else◌, ⊤, List, [], ◌∷◌, take, drop, length, max, bit_or, is_some, Some, None}
use Rattle.atomic_table.specs.Table.{takes, gives}
use Rattle.gen_core.specs.declared.event.GenEvent.TheVariants as graces
use Rattle.phase_core.specs.Event as phases
use Rattle.phase_core.specs.Stages.{object_of}
use Rattle.turn_core.specs.declared.event.TurnEvent.TheVariants as cells
use Rattle.k42_kinds.specs.declared.entry.Entry.{Entry}
use Rattle.k42_joined.specs.Drawing.{first_cell}
use Rattle.k42_joined.specs.Event.{AtPhases, AtCells, HandWith}
use Rattle.k42_board.specs.Drawing.{MayDrawAlone, MayDrawMark, MayDrawCall, MayHandOn, HasSmallStamp, entry_alone, entry_mark, entry_at, entry_hand, numbers_of, alone_view, draws_at}
use Rattle.k42_board.specs.Freeing.{MayFree, number_noted, freed_view, MarkFound}
use Rattle.k42_board.specs.Generating.{MayEnter, entered_view, EnteredFound, MayLeave, left_view}
use Rattle.k42_board.specs.Gracing.{MayTakeRole, role_view, RoleFound, MayAskGeneration, asked_view, GenerationFound, MayLook, look_event, looked_view, ExitsFound, MayFlip, flip_word, flipped_view, MayGiveRole, given_view, RowsGiven}
use Rattle.k42_board.specs.Handing.{hands_at}
use Rattle.k42_board.specs.Log.{took, logs, put_at}
use Rattle.k42_board.specs.Noting.{notes_due, pairs_from}
use Rattle.k42_board.specs.Stepping.{WordStep, SlotStep}
use Rattle.k42_board.specs.Swapping.{object_swapped, MayChangeEntry, entry_after, entry_event, changed_view, MayBlock, blocked_view, MayMove, moves, moved_view, CountFound, MayTurnOver, turn_amount, turned_view, MayClear, clear_event, clears, ClearFound, cleared_view}
use Rattle.k42_board.specs.Tabling.{EntryFound, ObjectFound, RootFound, MayLookUp, looked_up_view, MayLoadRoot, rooted_view, MayKnock, knocked_view, MayInstall, installs, installed_view, MayEndCall, MayStepOut, ended_view, MayBegin, begun_view}
use Rattle.k42_board.specs.Taking.{MayLock, LockFound, HoldsHome, locked_view, tried_view, unlocked_view, lifted_view, gave_back, reaching_view, put_view}
use Rattle.k42_board.specs.Words.{generation_word, exits_word, local_word, lock_word, object_word, freed_word, role_word, slot_of}
use Rattle.k42_board.specs.declared.cell.Content.{Content}
use Rattle.k42_board.specs.declared.view.PassView.{PassView}
use Rattle.k42_board.specs.declared.view.StepName.TheVariants as steps

module _ {S L P : Type 0} where
  -- ACTIVITIES

  -- begins an activity in the generation that it finds
  abbrev pub enter : {O R : Type 0} → PassView P O R → WordStep S L P O R
  enter v = record {
    event = Some (AtPhases (phases.Turn (graces.Enter v.number)));
    word = generation_word v.turn.proc;
    changed = λ word. (word + 2 ^ 32) % 2 ^ 64;
    May = λ F declared. MayEnter v;
    Finds = λ found. EnteredFound v found;
    after = λ found. took steps.Enter (generation_word v.turn.proc) found (entered_view found v);
  }

  -- ends the activity of this generation
  abbrev pub leave : {O R : Type 0} → ℕ → PassView P O R → WordStep S L P O R
  leave generation v = record {
    event = Some (AtPhases (phases.Turn (graces.Leave v.number)));
    word = exits_word v.turn.proc (generation % 2);
    changed = λ word. (word + 1) % 2 ^ 64;
    May = λ F declared. MayLeave generation v;
    Finds = λ found. ⊤;
    after = λ found. took steps.Leave (exits_word v.turn.proc (generation % 2)) found (left_view v);
  }

  -- GRACES

  -- takes the role where nobody has it, and notes then what its grace may free
  abbrev pub take_role : {O R : Type 0} → PassView P O R → WordStep S L P O R
  take_role v = record {
    event = Some (AtPhases (phases.TakeRoleWith v.number (pairs_from 0 (notes_due v))));
    word = role_word;
    changed = λ word. if word == 0 then v.number + 1 else word;
    May = λ F declared. MayTakeRole v;
    Finds = λ found. RoleFound v found;
    after = λ found. took steps.TakeRole role_word found (role_view found v);
  }

  -- asks for the generation of the processors, which it is about to end
  abbrev pub ask_generation : {O R : Type 0} → PassView P O R → WordStep S L P O R
  ask_generation v = record {
    event = None;
    word = generation_word 0;
    changed = λ word. word;
    May = λ F declared. MayAskGeneration v;
    Finds = λ found. GenerationFound v found;
    after = λ found. took steps.AskGeneration (generation_word 0) found (asked_view found v);
  }

  -- reads the exits of a processor: of the generation to come before it flips the processor, of the one that it has ended
  -- later, until all have left that
  abbrev pub look : {O R : Type 0} (p parity : ℕ) → PassView P O R → WordStep S L P O R
  look p parity v = record {
    event = Some (AtPhases (phases.Turn (look_event v.number v.turn.grace)));
    word = exits_word p parity;
    changed = λ word. word;
    May = λ F declared. MayLook p parity v;
    Finds = λ found. ExitsFound v found;
    after = λ found. took steps.Look (exits_word p parity) found (looked_view found v);
  }

  -- begins the next generation of the processor
  abbrev pub flip : {O R : Type 0} → ℕ → PassView P O R → WordStep S L P O R
  flip p v = record {
    event = Some (AtPhases (phases.Turn (graces.Flip v.number)));
    word = generation_word p;
    changed = λ word. flip_word v;
    May = λ F declared. MayFlip p v;
    Finds = λ found. ⊤;
    after = λ found. took steps.Flip (generation_word p) found (flipped_view found v);
  }

  -- gives the role back, and with it the rows that it held as it took the role
  abbrev pub give_role : {O R : Type 0} → PassView P O R → WordStep S L P O R
  give_role v = record {
    event = Some (AtPhases (phases.Turn (graces.GiveRole v.number)));
    word = role_word;
    changed = λ word. 0;
    May = λ F declared. MayGiveRole v;
    Finds = λ found. RowsGiven v found;
    after = λ found. took steps.GiveRole role_word 0 (given_view v);
  }

  -- frees the rows of the object from the mark that it finds up to the number that its grace noted
  abbrev pub free : {O R : Type 0} → ℕ → PassView P O R → WordStep S L P O R
  free o v = record {
    event = Some (AtPhases (phases.Free v.number o));
    word = freed_word o;
    changed = λ word. max word (number_noted v o);
    May = λ F declared. MayFree (length declared) o v;
    Finds = λ found. MarkFound o v found;
    after = λ found. took steps.Free (freed_word o) found (freed_view o found v);
  }

  -- CALLS

  -- reads where its processor's entry of the object leads
  abbrev pub look_up : {O R : Type 0} → ℕ → PassView P O R → WordStep S L P O R
  look_up o v = record {
    event = Some (AtPhases (phases.LookUp v.number o));
    word = local_word v.turn.proc o;
    changed = λ word. word;
    May = λ F declared. MayLookUp (length declared) o v;
    Finds = λ found. EntryFound o v found;
    after = λ found. took steps.LookUp (local_word v.turn.proc o) found (looked_up_view o found v);
  }

  -- reads the object's word for the layout of the row that it missed
  abbrev pub load_root : {O R : Type 0} → ℕ → PassView P O R → WordStep S L P O R
  load_root o v = record {
    event = Some (AtPhases (phases.RootLoad v.number o));
    word = object_word o;
    changed = λ word. word;
    May = λ F declared. MayLoadRoot (length declared) o v;
    Finds = λ found. RootFound o v found;
    after = λ found. took steps.LoadRoot (object_word o) found (rooted_view found v);
  }

  -- leads its processor's entry of the object to the cell, where it is still empty as it was
  abbrev pub install : {O R : Type 0} (o cell : ℕ) → PassView P O R → WordStep S L P O R
  install o cell v = record {
    event = Some (AtPhases (phases.Install v.number o));
    word = local_word v.turn.proc o;
    changed = installs o v;
    May = λ F declared. MayInstall (length declared) o cell v;
    Finds = λ found. ⊤;
    after = λ found. took steps.Install (local_word v.turn.proc o) found (installed_view o found v);
  }

  -- ends a call that the mediator does not count
  abbrev pub end_call : {O R : Type 0} → PassView P O R → WordStep S L P O R
  end_call v = record {
    event = Some (AtPhases (phases.EndCall v.number));
    word = local_word v.turn.proc (object_of v.visitor.place);
    changed = λ word. word;
    May = λ F declared. MayEndCall v;
    Finds = λ found. ⊤;
    after = λ found. took steps.EndCall (local_word v.turn.proc (object_of v.visitor.place)) found (ended_view v);
  }

  -- knocks at the mediator, which counts the caller, and lets it in unless the swap blocks
  abbrev pub knock : {O R : Type 0} → ℕ → PassView P O R → WordStep S L P O R
  knock o v = record {
    event = Some (AtPhases (phases.Knock v.number o));
    word = object_word o;
    changed = λ word. (word + 1) % 2 ^ 64;
    May = λ F declared. MayKnock (length declared) o v;
    Finds = λ found. ObjectFound o v found;
    after = λ found. took steps.Knock (object_word o) found (knocked_view o found v);
  }

  -- is no longer counted at the mediator
  abbrev pub step_out : {O R : Type 0} → PassView P O R → WordStep S L P O R
  step_out v = record {
    event = Some (AtPhases (phases.StepOut v.number));
    word = object_word (object_of v.visitor.place);
    changed = λ word. (word + (2 ^ 64 - 1)) % 2 ^ 64;
    May = λ F declared. MayStepOut v;
    Finds = λ found. ⊤;
    after = λ found. took steps.StepOut (object_word (object_of v.visitor.place)) found (ended_view v);
  }

  -- SWAPS

  -- begins a swap of the object, unless one is under way
  abbrev pub begin : {O R : Type 0} → ℕ → PassView P O R → WordStep S L P O R
  begin o v = record {
    event = Some (AtPhases (phases.Begin v.number o));
    word = object_word o;
    changed = λ word. bit_or word 16777216;
    May = λ F declared. MayBegin (length declared) o v;
    Finds = λ found. ObjectFound o v found;
    after = λ found. took steps.Begin (object_word o) found (begun_view o found v);
  }

  -- changes the entry of the processor: to a mediator while it interposes, to an empty one while it opens
  abbrev pub change_entry : {O R : Type 0} → ℕ → PassView P O R → WordStep S L P O R
  change_entry p v = record {
    event = Some (AtPhases (entry_event v.number v.visitor.swap));
    word = local_word p (object_swapped v);
    changed = λ word. entry_after v;
    May = λ F declared. MayChangeEntry p v;
    Finds = λ found. ⊤;
    after = λ found. took steps.ChangeEntry (local_word p (object_swapped v)) found (changed_view v);
  }

  -- blocks the object, so that whoever knocks from now on is kept out
  abbrev pub block : {O R : Type 0} → PassView P O R → WordStep S L P O R
  block v = record {
    event = Some (AtPhases (phases.Block v.number));
    word = object_word (object_swapped v);
    changed = λ word. bit_or word 33554432;
    May = λ F declared. MayBlock v;
    Finds = λ found. ⊤;
    after = λ found. took steps.Block (object_word (object_swapped v)) found (blocked_view v);
  }

  -- begins to move the state of the object, where nobody is counted
  abbrev pub move : {O R : Type 0} → PassView P O R → WordStep S L P O R
  move v = record {
    event = Some (AtPhases (phases.Move v.number));
    word = object_word (object_swapped v);
    changed = moves v;
    May = λ F declared. MayMove v;
    Finds = λ found. CountFound v found;
    after = λ found. took steps.Move (object_word (object_swapped v)) found (moved_view found v);
  }

  -- turns the object over, to the next incarnation and to the layout with which its row was handed on
  abbrev pub turn_over : {O R : Type 0} → ℕ → PassView P O R → WordStep S L P O R
  turn_over tag v = record {
    event = Some (AtPhases (phases.TurnOver v.number tag));
    word = object_word (object_swapped v);
    changed = λ word. (word + turn_amount tag v) % 2 ^ 64;
    May = λ F declared. MayTurnOver tag v;
    Finds = λ found. ⊤;
    after = λ found. took steps.TurnOver (object_word (object_swapped v)) found (turned_view v);
  }

  -- gives up what it moves and has not handed on, or ends the swap
  abbrev pub clear : {O R : Type 0} → PassView P O R → WordStep S L P O R
  clear v = record {
    event = Some (AtPhases (clear_event v.number v.visitor.swap));
    word = object_word (object_swapped v);
    changed = clears v.visitor.swap;
    May = λ F declared. MayClear v;
    Finds = λ found. ClearFound v found;
    after = λ found. took steps.Clear (object_word (object_swapped v)) found (cleared_view v);
  }

  -- CELLS

  -- takes the lock of a cell, where it is free
  abbrev pub lock : {O R : Type 0} → ℕ → PassView P O R → WordStep S L P O R
  lock n v = record {
    event = Some (AtCells (cells.Lock v.number n));
    word = lock_word n;
    changed = λ word. if word == 0 then v.number + 1 else word;
    May = λ F declared. MayLock F.procs n v;
    Finds = λ found. LockFound n v found;
    after = λ found. took steps.Lock (lock_word n) found (locked_view n found v);
  }

  -- the same, but that no trace is left where another has it: the pass is as it was
  abbrev pub lock_quietly : {O R : Type 0} → ℕ → PassView P O R → WordStep S L P O R
  lock_quietly n v = record {
    event = Some (AtCells (cells.Lock v.number n));
    word = lock_word n;
    changed = λ word. if word == 0 then v.number + 1 else word;
    May = λ F declared. MayLock F.procs n v;
    Finds = λ found. LockFound n v found;
    after = λ found. tried_view (lock_word n) n found v;
  }

  -- leaves the lock of a cell that is in its place
  abbrev pub unlock : {O R : Type 0} → ℕ → PassView P O R → WordStep S L P O R
  unlock n v = record {
    event = Some (AtCells (cells.Unlock v.number n));
    word = lock_word n;
    changed = λ word. 0;
    May = λ F declared. HoldsHome n v;
    Finds = λ found. ⊤;
    after = λ found. took steps.Unlock (lock_word n) 0 (unlocked_view n v);
  }

  -- ENTRIES

  -- draws, at no cell, that a swap was refused by another, or given up
  abbrev pub draw_alone : {O R : Type 0} → Entry O R → PassView P O R → WordStep S L P O R
  draw_alone entry v = record {
    event = Some (AtCells (cells.Alone v.number entry));
    word = role_word;
    changed = λ word. word;
    May = λ F declared. MayDrawAlone entry.act entry.answer v × (entry ≡ entry_alone v entry.act entry.answer);
    Finds = λ found. HasSmallStamp (alone_view entry v);
    after = λ found. took steps.Draw role_word 0 (alone_view entry v);
  }

  -- draws, at the first cell of the present row, that a swap found its object over
  abbrev pub draw_mark : {O R : Type 0} → Content P O R → Entry O R → PassView P O R → WordStep S L P O R
  draw_mark cell entry v = record {
    event = Some (AtCells (cells.Draw v.number (cell.number ∷ []) entry));
    word = lock_word cell.number;
    changed = λ word. word;
    May = λ F declared. MayDrawMark cell entry.act entry.answer v × (entry ≡ entry_mark v cell.number entry.act entry.answer);
    Finds = λ found. HasSmallStamp (draws_at (cell ∷ []) entry v);
    after = λ found. took steps.Draw (lock_word cell.number) 0 (draws_at (cell ∷ []) entry v);
  }

  -- draws a call that was stepped, at the cells that its layout names
  abbrev pub draw_call : {O R : Type 0} → List (Content P O R) → O → R → PassView P O R → WordStep S L P O R
  draw_call contents op reply v =
      let entry = entry_at contents op reply v in record {
        event = Some (AtCells (cells.Draw v.number (numbers_of contents) entry));
        word = lock_word (first_cell (numbers_of contents));
        changed = λ word. word;
        May = λ F declared. MayDrawCall F declared contents op reply v;
        Finds = λ found. HasSmallStamp (draws_at contents entry v);
        after = λ found. took steps.Draw (lock_word (first_cell (numbers_of contents))) 0 (draws_at contents entry v);
      }

  -- closes the first cells, those of the present row on so many processors, and begins with the others the row of the new
  -- layout, by its tag
  abbrev pub hand_on : {O R : Type 0} → ℕ → List (Content P O R) → L → ℕ → Entry O R → PassView P O R → WordStep S L P O R
  hand_on procs contents to tag entry v =
      let from = take procs contents in let onto = drop procs contents in record {
        event = Some (HandWith v.number (numbers_of from) (numbers_of onto) to entry);
        word = lock_word (first_cell (numbers_of contents));
        changed = λ word. word;
        May = λ F declared.
            (MayHandOn F declared from onto to entry.answer v
            × (entry ≡ entry_hand v (numbers_of from) (numbers_of onto) (F.act_of to) entry.answer))
            × (procs ≡ F.procs) × (tag ≡ F.tag_of to);
        Finds = λ found. HasSmallStamp (hands_at from onto entry tag v);
        after = λ found. took steps.Draw (lock_word (first_cell (numbers_of contents))) 0 (hands_at from onto entry tag v);
      }

-- SLOTS

module _ {L P : Type 0} where
  -- takes the cell out of its slot, and gives the empty slot back
  abbrev pub lift : {O R : Type 0} → ℕ → Content P O R → PassView P O R → SlotStep L P O R
  lift n content v = record {
    event = Some (AtCells (cells.Take v.number n));
    cell = n;
    carried = [];
    act = takes (slot_of n) (Some content);
    after = took steps.Lift (lock_word n) 0 (lifted_view content v);
  }

  abbrev pub give_back : {O R : Type 0} → ℕ → PassView P O R → SlotStep L P O R
  give_back n v = record {
    event = None;
    cell = n;
    carried = (slot_of n, None) ∷ [];
    act = gives;
    after = gave_back (lock_word n) v;
  }

  -- takes the empty slot of the cell, and gives it back with the cell in it
  abbrev pub reach : {O R : Type 0} → ℕ → PassView P O R → SlotStep L P O R
  reach n v = record {
    event = None;
    cell = n;
    carried = [];
    act = takes (slot_of n) None;
    after = took steps.Reach (lock_word n) 0 (reaching_view n v);
  }

  abbrev pub put : {O R : Type 0} → ℕ → Content P O R → PassView P O R → SlotStep L P O R
  put n content v = record {
    event = Some (AtCells (cells.Put v.number n));
    cell = n;
    carried = (slot_of n, Some content) ∷ [];
    act = gives;
    after = logs (put_at (lock_word n) (is_some content.part)) (put_view n v);
  }
