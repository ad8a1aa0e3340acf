-- A row's parts stand for the object of one thread, and each entry of a row is legal after those before it.
use Rattle.std.proofs.Common.{◌≡◌, ℕ, ◌+◌, Bool, false, cond, IsTrue, List, [], ◌∷◌, ◌++◌, Some, refl, sym, ap, ◌∙◌, subst, append_assoc, arith, length}
use Rattle.std.specs.List.{AllByRecursion}
use Rattle.std.proofs.lemmas.Bool.{eq-eqb, ne_eqb}
use Rattle.std.proofs.lemmas.List.{append-nil}
use Rattle.std.proofs.lemmas.Option.{same_Some}
use Rattle.k42_kinds.specs.declared.entry.Act.{Act}
use Rattle.k42_kinds.specs.declared.entry.Act.TheVariants.{Call, Swap}
use Rattle.k42_kinds.specs.declared.entry.To.{To}
use Rattle.k42_kinds.specs.declared.entry.Answer.{Answer}
use Rattle.k42_kinds.specs.declared.entry.Answer.TheVariants.{Replied, Swapped, Busy, Spent, Gone, Abandoned}
use Rattle.k42_kinds.specs.declared.entry.Entry.{Entry}
use Rattle.k42_kinds.specs.OneThread.{OneThread}
use Rattle.k42_kinds.specs.Histories.{is_carried_out, state_moved, state_in, number_of}
use Rattle.k42_kinds.specs.Legal.{IsAnswerSoFar, IsActSoFar, is_ended_in}
use Rattle.k42_kinds.specs.LayoutLaws.{StepsRow}
use Rattle.k42_kinds.proofs.LongerHistories.{state_in-push, number_of-push}
use Rattle.k42_kinds.proofs.Splits.{EachBehind}
use Rattle.k42_stamp.specs.Replays.{replayed, Answered}
use Rattle.k42_stamp.specs.Layouts.{Layouts, IsKnown, is_dead}
use Rattle.k42_stamp.specs.Parts.{reached, reach_of, act_moves, act_replies, reply_in, part_steps}
use Rattle.k42_stamp.specs.Fits.{IsMark, IsCallOrMark, IsEntryOf}
use Rattle.k42_stamp.specs.Laws.{AreLaws}

-- an entry that is legal by those before it
abbrev pub LegalBehind : {S O R : Type 0} → OneThread S O R → List (Entry O R) → Entry O R → List (Entry O R) → Type 0
LegalBehind object before entry after = IsActSoFar object before entry entry.act

-- a call tells its reply
replied_from : {R : Type 0} (answer : Answer R) (reply : R) → reply_in answer ≡ Some reply → answer ≡ Replied reply
replied_from (Replied told) reply is = ap Replied (same_Some told reply is)
replied_from (Swapped number) reply is = cc is
replied_from (Busy number) reply is = cc is
replied_from Spent reply is = cc is
replied_from Gone reply is = cc is
replied_from (Abandoned number) reply is = cc is

-- entries of the object move it, and only what was carried out is counted
pub state_after_own : {S O R : Type 0} (object : OneThread S O R) (o : ℕ) (front : List (Entry O R)) (e : Entry O R) → e.object ≡ o → state_in object o (front ++ e ∷ []) ≡ state_moved object (state_in object o front) e.act e.answer
state_after_own object o front e own = state_in-push object o front e ∙ rw (eq-eqb e.object o own) refl

pub number_after_own : {O R : Type 0} (o : ℕ) (front : List (Entry O R)) (e : Entry O R) (b : Bool) → e.object ≡ o → is_carried_out e.answer ≡ b → number_of o (front ++ e ∷ []) ≡ number_of o front + cond b 1 0
number_after_own o front e b own out = number_of-push o front e ∙ rw (eq-eqb e.object o own, out) refl

module _ {S L P O R : Type 0} (F : Layouts S L P O R) (laws : AreLaws F) (layout : L) (known : IsKnown F layout) (o number : ℕ) where
  -- the row is whole, and stands for what the entries before tell of the object
  pub record StandsBehind (object : OneThread S O R) (front : List (Entry O R)) (parts : List P) : Type 0 where
    pub whole : F.Whole layout F.procs parts
    pub state : state_in object o front ≡ (F.ways_of layout).combine parts
    pub counted : number_of o front ≡ number

  abbrev here : OneThread S O R
  here = F.object_of layout

  -- an entry is legal, and the row after it stands for what is told after it
  pub record StepsOn (front : List (Entry O R)) (e : Entry O R) (parts : List P) : Type 0 where
    pub legal : IsActSoFar here front e e.act
    pub stands : StandsBehind here (front ++ e ∷ []) ((part_steps F layout).moves parts e)

  -- whether the object is at its end is told by the tag
  pub ended_by_tag : (front : List (Entry O R)) (parts : List P) → StandsBehind here front parts → is_ended_in here o front ≡ is_dead F layout
  ended_by_tag front parts s = ap here.is_ended s.state ∙ laws.ends layout ((F.ways_of layout).combine parts) known (laws.stands layout parts known s.whole).served

  module _ (front : List (Entry O R)) (e : Entry O R) (parts : List P) (s : StandsBehind here front parts) (own : e.object ≡ o) (named : e.incarnation ≡ number) where
    named_before : e.incarnation ≡ number_of e.object front
    named_before = named ∙ (sym s.counted ∙ ap (λ n. number_of n front) (sym own))

    call_step : (op : O) → e.act ≡ Call op → IsTrue (here.takes op)
        → StepsRow here (F.ways_of layout) (F.Whole layout F.procs) parts op (reach_of F layout e)
        → act_replies (F.ways_of layout) parts (Call op) (reach_of F layout e) ≡ reply_in e.answer
        → StepsOn front e parts
    call_step op is takes steps told =
        let answered : e.answer ≡ Replied (here.reply ((F.ways_of layout).combine parts) op) = replied_from e.answer (here.reply ((F.ways_of layout).combine parts) op) (sym told ∙ steps.replied) in
        let still : is_carried_out e.answer ≡ false = ap is_carried_out answered in
        record {
          legal = subst (λ (act : Act O). IsActSoFar here front e act) (sym is) (record {
            own_kind = takes;
            replied = answered ∙ ap (λ state. Replied (here.reply state op)) (sym s.state ∙ ap (λ n. state_in here n front) (sym own));
            incarnation = named_before;
          });
          stands = record {
            whole = subst (λ (act : Act O). F.Whole layout F.procs (act_moves (F.ways_of layout) parts act (reach_of F layout e))) (sym is) steps.whole;
            state = state_after_own here o front e own ∙ (ap (λ state. state_moved here state e.act e.answer) s.state
                ∙ (ap (λ act. state_moved here ((F.ways_of layout).combine parts) act e.answer) is
                ∙ (sym steps.moved ∙ ap (λ act. (F.ways_of layout).combine (act_moves (F.ways_of layout) parts act (reach_of F layout e))) (sym is))));
            counted = number_after_own o front e false own still ∙ omega (arith, s.counted);
          };
        }

    mark_answer : (answer : Answer R) → e.answer ≡ answer → IsMark (F.shapes_of layout) (F.tag_of layout) number answer → IsAnswerSoFar here front e answer × (is_carried_out e.answer ≡ false)
    mark_answer (Replied reply) is mark = absurd mark
    mark_answer (Swapped other) is mark = absurd mark
    mark_answer (Busy other) is mark = absurd mark
    mark_answer (Abandoned other) is mark = absurd mark
    mark_answer Spent is mark = (
      record {
        alive = ap (λ n. is_ended_in here n front) own ∙ (ended_by_tag front parts s ∙ ne_eqb (F.tag_of layout) (length (F.shapes_of layout)) (λ two. let low = mark.0 in absurd (omega arith)));
        spent = ap (λ n. number_of n front) own ∙ (s.counted ∙ mark.1);
        incarnation = named_before;
      },
      ap is_carried_out is,
    )
    mark_answer Gone is mark = (
      record {
        dead = ap (λ n. is_ended_in here n front) own ∙ (ended_by_tag front parts s ∙ eq-eqb (F.tag_of layout) (length (F.shapes_of layout)) mark);
        incarnation = named_before;
      },
      ap is_carried_out is,
    )

    stays : (to : To) → e.act ≡ Swap to → is_carried_out e.answer ≡ false → StandsBehind here (front ++ e ∷ []) ((part_steps F layout).moves parts e)
    stays to is still = record {
      whole = subst (λ (act : Act O). F.Whole layout F.procs (act_moves (F.ways_of layout) parts act (reach_of F layout e))) (sym is) s.whole;
      state = state_after_own here o front e own ∙ rw (is, still) s.state;
      counted = number_after_own o front e false own still ∙ omega (arith, s.counted);
    }

    act_step : (act : Act O) → e.act ≡ act → IsCallOrMark here (F.shapes_of layout) (F.tag_of layout) number act e.answer
        → act_replies (F.ways_of layout) parts act (reach_of F layout e) ≡ reply_in e.answer → StepsOn front e parts
    act_step (Call op) is takes told =
        call_step op is takes (subst (λ (act : Act O). StepsRow here (F.ways_of layout) (F.Whole layout F.procs) parts op (reached (F.ways_of layout) F.procs act (F.proc_of e.caller))) (sym is)
        (laws.steps layout (F.proc_of e.caller) parts op known (laws.on_one e.caller) takes s.whole)) told
    act_step (Swap to) is mark told =
        let told = mark_answer e.answer refl mark in
        record { legal = subst (λ (act : Act O). IsActSoFar here front e act) (sym is) told.0; stands = stays to is told.1 }

  pub entry_step : (front : List (Entry O R)) (e : Entry O R) (parts : List P) → StandsBehind here front parts → IsEntryOf F layout o number e
      → (part_steps F layout).answers parts e ≡ (part_steps F layout).tells e → StepsOn front e parts
  entry_step front e parts s own told = act_step front e parts s own.object own.incarnation e.act refl own.served told

  -- all entries of a row
  pub record RunsOn (object : OneThread S O R) (front es : List (Entry O R)) (parts : List P) : Type 0 where
    pub legal : EachBehind (LegalBehind object) front es
    pub stands : StandsBehind object (front ++ es) (replayed (part_steps F layout) parts es)

  pub entries_run : (front es : List (Entry O R)) (parts : List P) → StandsBehind here front parts → AllByRecursion (IsEntryOf F layout o number) es → Answered (part_steps F layout) parts es → RunsOn here front es parts
  entries_run front [] parts s own told = record { legal = tt; stands = rw append-nil s }
  entries_run front (e ∷ es) parts s own told =
      let one = entry_step front e parts s own.0 told.0 in
      let more = entries_run (front ++ e ∷ []) es ((part_steps F layout).moves parts e) one.stands own.1 told.1 in
      record { legal = (one.legal, more.legal); stands = rw (← append_assoc front (e ∷ []) es) more.stands }
