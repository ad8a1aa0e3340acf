-- What a pass knows once it has handed a row on.
use Rattle.std.proofs.Common.{◌≡◌, inr, ℕ, zero, suc, ◌+◌, ◌<◌, ◌≤◌, Bool, true, false, ◌||◌, cond, eqb, List, [], ◌∷◌, ◌++◌, Some, None, length, take, drop, refl, sym, ap, ◌∙◌, subst, arith}
use Rattle.std.specs.List.{slice_get}
use Rattle.std.proofs.lemmas.Bool.{eqb-true}
use Rattle.std.proofs.lemmas.List.{take-append-drop}
use Rattle.std.proofs.lemmas.Option.{slice_get_within}
use Rattle.k42_kinds.specs.Histories.{is_call}
use Rattle.k42_kinds.specs.LayoutLaws.{Agree}
use Rattle.k42_kinds.specs.declared.entry.Act.{Act}
use Rattle.k42_kinds.specs.declared.entry.Answer.TheVariants.{Swapped}
use Rattle.k42_kinds.specs.declared.entry.Entry.{Entry}
use Rattle.phase_core.specs.Stages.{object_named}
use Rattle.turn_core.specs.Events.{caller_drawn}
use Rattle.turn_core.specs.Names.{names, names_once}
use Rattle.turn_core.specs.Stamps.{last_stamp}
use Rattle.k42_stamp.specs.Laws.{AreLaws}
use Rattle.k42_stamp.specs.Layouts.{Layouts}
use Rattle.k42_joined.specs.Drawing.{first_cell}
use Rattle.k42_joined.specs.Numbers.{cell_of, row_cells}
use Rattle.k42_joined.proofs.CellNumbers.{named_in_row}
use Rattle.k42_joined.proofs.LocksHand.{apart_row}
use Rattle.k42_board.specs.Cells.{cells_noted}
use Rattle.k42_board.specs.Drawing.{AreTold, IsDrawer, entry_hand, numbers_of, part_in, part_noted, stamp_next}
use Rattle.k42_board.specs.Handing.{handed_at}
use Rattle.k42_board.specs.Log.{Extends, with_log}
use Rattle.k42_board.specs.Seen.{PassSeen}
use Rattle.k42_board.specs.Values.{incarnation_in}
use Rattle.k42_board.specs.Views.{word_begun}
use Rattle.k42_board.specs.declared.cell.Content.{Content}
use Rattle.k42_board.specs.declared.view.PassView.{PassView}
use Rattle.k42_board.specs.declared.view.Taken.{Taken}
use Rattle.k42_board.proofs.HandedOn.{once_both}
use Rattle.k42_board.proofs.Noted.{each_named}
use Rattle.k42_board.proofs.RowCells.{row_once}
use Rattle.k42_rule.proofs.HandedNotes.{numbers_more}
use Rattle.k42_mediator.specs.Taken.{released, AreTaken, MayPutAllBack}
use Rattle.k42_mediator.specs.Transfers.{IsDoneNext, HasHanded}
use Rattle.k42_mediator.proofs.GivenBack.{held_due}
use Rattle.k42_mediator.proofs.Logs.{log_now}
use Rattle.k42_mediator.proofs.NotesHanded.{handed_part, released_handed, part_at_once}
use Rattle.k42_mediator.proofs.RowMoved.{at_of}
use Rattle.k42_mediator.proofs.RowReady.{HasRows, named_small}

pub two_rows_once : (procs o i : ℕ) → procs ≤ 8 → names_once (row_cells procs o i ++ row_cells procs o (i + 1)) ≡ true
two_rows_once procs o i few =
    once_both (row_cells procs o i) (row_cells procs o (i + 1)) (row_once procs o i few) (row_once procs o (i + 1) few)
    (λ n named.
    let is = named_in_row procs o i n named in let high = is.high in
    ap (names (row_cells procs o (i + 1))) is.same
    ∙ apart_row procs o (i + 1) o i is.place few (omega (arith, high)) (inr (λ same. omega (arith, same))))

-- a cell that was taken is noted
named_noted : {P O R : Type 0} (v : PassView P O R) (xs : List (Content P O R)) → AreTaken v.notes xs → (n : ℕ) → names (numbers_of xs) n ≡ true → names (cells_noted v.notes) n ≡ true
named_noted v [] taken n e = absurd (cc)
named_noted v (x ∷ xs) taken n e =
    go (eqb x.number n) refl e (taken 0 x refl).held.noted (λ more. named_noted v xs (λ j y at'. taken (suc j) y at') n more)
  where
    go : (b : Bool) → eqb x.number n ≡ b → b || names (numbers_of xs) n ≡ true → names (cells_noted v.notes) x.number ≡ true
        → (names (numbers_of xs) n ≡ true → names (cells_noted v.notes) n ≡ true) → names (cells_noted v.notes) n ≡ true
    go true same e' first rest = ap (names (cells_noted v.notes)) (sym (eqb-true x.number n same)) ∙ first
    go false apart e' first rest = rest e'

module _ {S L P O R : Type 0} (F : Layouts S L P O R) (laws : AreLaws F) (declared : List L)
    (agrees : (l m : L) → F.object_of l ≡ F.object_of m → F.tag_of l ≡ F.tag_of m
    → Agree (F.ways_of l) (F.ways_of m) (F.Whole l) (F.Whole m) (F.Serves l) (F.Serves m))
    (v : PassView P O R) (o i : ℕ) (cells : List (Content P O R)) (layout : L) (has : HasRows F declared v o i cells layout)
    (news : List (Content P O R)) (numbers : numbers_of news ≡ numbers_of cells) (entry : Entry O R) (tag : ℕ) (log : List Taken) where
  abbrev from : List (Content P O R)
  from = take F.procs news

  abbrev onto : List (Content P O R)
  onto = drop F.procs news

  abbrev w : PassView P O R
  w = with_log log (handed_at from onto entry tag v)

  both : from ++ onto ≡ news
  both = take-append-drop F.procs news

  both_numbers : numbers_of from ++ numbers_of onto ≡ numbers_of cells
  both_numbers = sym (numbers_more from onto) ∙ ap numbers_of both ∙ numbers

  once : names_once (numbers_of news) ≡ true
  once = ap names_once (numbers ∙ has.numbers) ∙ two_rows_once F.procs o i has.few

  -- the part that is noted of a cell is the one that it has
  part_is : (k : ℕ) (content : Content P O R) → slice_get news k ≡ Some content → names (cells_noted v.notes) content.number ≡ true
      → part_noted w.notes content.number ≡ content.part
  part_is k content at noted =
      let named : names (numbers_of from ++ numbers_of onto) content.number ≡ true =
      ap (λ ns. names ns content.number) (sym (numbers_more from onto) ∙ ap numbers_of both) ∙ each_named news k content at in
      handed_part (numbers_of from) (numbers_of onto) entry (part_in (from ++ onto)) v.notes content.number noted named
      ∙ ap (λ cs. part_in cs content.number) both ∙ part_at_once news k content once at

  noted_is : (k : ℕ) (content : Content P O R) → slice_get news k ≡ Some content → names (cells_noted v.notes) content.number ≡ true
  noted_is k content at = named_noted v cells has.taken content.number (ap (λ ns. names ns content.number) (sym numbers) ∙ each_named news k content at)

  -- and the cells are ready to be given back
  pub ready_handed : (id : ℕ) (told : List (Content P O R)) → AreTold w.notes news told → MayPutAllBack F declared id w told
  ready_handed id told are k content at =
      let lt = slice_get_within told k content at in let long = are.0 in
      let old = at_of news k (omega (arith, lt, long)) in
      let is = are.1 k old.0 content old.1 at in
      let number : names (numbers_of cells) content.number ≡ true =
      ap (λ ns. names ns content.number) (sym numbers) ∙ ap (names (numbers_of news)) is.number ∙ each_named news k old.0 old.1 in
      record {
        cell = named_small F laws declared agrees v o i cells layout has content.number (ap (λ ns. names ns content.number) (sym has.numbers) ∙ number);
        holds = ap (λ held. names held content.number) has.holds ∙ number;
        held = is.held;
        due = λ u alike there e.
            held_due F laws declared id content.number content.part u there
            (e ∙ ap (part_noted w.notes) is.number ∙ part_is k old.0 old.1 (noted_is k old.0 old.1) ∙ sym is.part);
      }

  -- the entry that it has drawn
  -- it is later than all before it
  pub done_later : (stamp : ℕ) → stamp ≡ stamp_next v (numbers_of news) → last_stamp v.taker.mine < stamp
      → last_stamp v.taker.mine < stamp_next v (numbers_of from ++ numbers_of onto)
  done_later stamp is later =
      subst (λ n. last_stamp v.taker.mine < n) (is ∙ ap (stamp_next v) (sym (sym (numbers_more from onto) ∙ ap numbers_of both))) later

  pub done_next : (act : Act O) → last_stamp v.taker.mine < stamp_next v (numbers_of from ++ numbers_of onto) → is_call act ≡ false → 0 < F.procs
      → numbers_of onto ≡ row_cells F.procs o (i + 1)
      → IsDoneNext act v (entry_hand v (numbers_of from) (numbers_of onto) act (Swapped (i + 1)))
  done_next act later asks some are =
      let stamp : ℕ = stamp_next v (numbers_of from ++ numbers_of onto) in
      let named : o ≡ object_named v.visitor.swap = ap object_named (sym has.moved) in
      let first : first_cell (numbers_of onto) ≡ cell_of (object_named v.visitor.swap) (incarnation_in (word_begun v.last) + 1) 0 =
      ap first_cell are ∙ first_of F.procs some ∙ (λ j. cell_of (named j) (has.row j + 1) 0) in
      record {
        later = later;
        whole = λ j. record {
          stamp = stamp;
          caller = v.number;
          index = length v.taker.mine;
          object = object_named v.visitor.swap;
          incarnation = incarnation_in (word_begun v.last);
          cell = first j;
          act = act;
          answer = Swapped (has.row j + 1);
          proc = v.turn.proc;
          generation = cond (asks j) v.turn.active None;
        };
      }
    where
      first_of : (procs : ℕ) → 0 < procs → first_cell (row_cells procs o (i + 1)) ≡ cell_of o (i + 1) 0
      first_of zero some' = absurd (omega (arith, some'))
      first_of (suc procs) some' = refl

  pub has_handed : (act : Act O) (old new : PassSeen P O R) → old.view ≡ v → new.view ≡ w → Extends old.view.log new.view.log → IsDrawer old new
      → IsDoneNext act v entry → HasHanded act tag (numbers_of cells) old new
  has_handed act old new was e extends drawer next = record {
    drawer = drawer;
    entry = entry;
    next = subst (λ u. IsDoneNext act u entry) (sym was) next;
    log = extends;
    knows =
        log_now (record (released (numbers_of cells) old.view) {
          taker = caller_drawn entry (released (numbers_of cells) old.view).taker;
          found = None;
          handed = Some tag;
          untold = [];
        }) (released (numbers_of cells) new.view) log
        (ap (released (numbers_of cells)) e ∙ ap (λ ns. released ns w) (sym both_numbers) ∙ ap (with_log log) (released_handed from onto entry tag v)
        ∙ (λ j. with_log log (record (released (both_numbers j) (sym was j)) {
          taker = caller_drawn entry (released (both_numbers j) (sym was j)).taker;
          found = None;
          handed = Some tag;
          untold = [];
        })));
  }
