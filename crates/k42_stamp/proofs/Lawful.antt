-- The entries of an object's rows that fit, in order, are a legal history of the object.
use Rattle.std.proofs.Common.{◌≡◌, ℕ, suc, ◌<◌, true, false, List, [], ◌∷◌, ◌++◌, length, refl, sym, ap, ◌∙◌, subst, append_assoc, arith}
use Rattle.std.proofs.lemmas.Bool.{ne_eqb}
use Rattle.std.proofs.lemmas.List.{append-nil}
use Rattle.k42_limits.specs.declared.TheConstants.{LAST_INCARNATION}
use Rattle.k42_kinds.specs.declared.entry.Act.{Act}
use Rattle.k42_kinds.specs.declared.entry.Act.TheVariants.{Call, Swap}
use Rattle.k42_kinds.specs.declared.entry.Answer.{Answer}
use Rattle.k42_kinds.specs.declared.entry.Answer.TheVariants.{Swapped}
use Rattle.k42_kinds.specs.declared.entry.Entry.{Entry}
use Rattle.k42_kinds.specs.OneThread.{OneThread}
use Rattle.k42_kinds.specs.Histories.{is_call, is_carried_out, state_moved, number_of}
use Rattle.k42_kinds.specs.Legal.{IsAnswerSoFar, IsActSoFar, is_ended_in}
use Rattle.k42_kinds.proofs.Splits.{EachBehind}
use Rattle.k42_stamp.specs.Layouts.{Layouts, IsLive, is_dead}
use Rattle.k42_stamp.specs.Chains.{Row, Turn, Chain, parts_of, state_of, past_entries, entries_of}
use Rattle.k42_stamp.specs.Fits.{IsHandOf, IsRow, IsTurn, ArePast, Fits}
use Rattle.k42_stamp.specs.Laws.{AreLaws}
use Rattle.k42_stamp.proofs.Standing.{LegalBehind, state_after_own, number_after_own, StandsBehind, ended_by_tag, RunsOn, entries_run}

behind-append : {X : Type 0} (P : List X → X → List X → Type 0) → ((before : List X) (x : X) (after other : List X) → P before x after → P before x other) → (front xs ys : List X) → EachBehind P front xs → EachBehind P (front ++ xs) ys → EachBehind P front (xs ++ ys)
behind-append P any front [] ys h g = rw append-nil at g
behind-append P any front (x ∷ xs) ys h g = (any front x xs (xs ++ ys) h.0, behind-append P any (front ++ x ∷ []) xs ys h.1 (rw (← append_assoc front (x ∷ []) xs) at g))

-- what is no call is legal by its answer
by_answer : {S O R : Type 0} (object : OneThread S O R) (before : List (Entry O R)) (e : Entry O R) (act : Act O) → is_call act ≡ false → IsAnswerSoFar object before e e.answer → IsActSoFar object before e act
by_answer object before e (Call op) other legal = cc other
by_answer object before e (Swap to) other legal = legal

module _ {S L P O R : Type 0} (F : Layouts S L P O R) (laws : AreLaws F) (declared : L) (o : ℕ) where
  abbrev thread : OneThread S O R
  thread = F.object_of declared

  abbrev Stands : (past : List (Turn L P O R)) (row : Row L P O R) → IsRow F declared o past row → List (Entry O R) → List P → Type 0
  Stands past row is front parts = StandsBehind F laws row.layout is.known o (length past) thread front parts

  -- the entries of a row, behind those of the rows before
  pub row_runs : (past : List (Turn L P O R)) (row : Row L P O R) (is : IsRow F declared o past row) (front : List (Entry O R)) → Stands past row is front row.start → RunsOn F laws row.layout is.known o (length past) thread front row.entries row.start
  row_runs past row is front s =
      subst (λ (object : OneThread S O R). RunsOn F laws row.layout is.known o (length past) object front row.entries row.start) is.kind
      (entries_run F laws row.layout is.known o (length past) front row.entries row.start
      (subst (λ (object : OneThread S O R). StandsBehind F laws row.layout is.known o (length past) object front row.start) (sym is.kind) s) is.own is.replied)

  alive_there : (past : List (Turn L P O R)) (row : Row L P O R) (is : IsRow F declared o past row) (front : List (Entry O R)) (parts : List P) → Stands past row is front parts → IsLive F row.layout → is_ended_in thread o front ≡ false
  alive_there past row is front parts s live =
      subst (λ (object : OneThread S O R). is_ended_in object o front ≡ is_dead F row.layout) is.kind
      (ended_by_tag F laws row.layout is.known o (length past) front parts (subst (λ (object : OneThread S O R). StandsBehind F laws row.layout is.known o (length past) object front parts) (sym is.kind) s))
      ∙ ne_eqb (F.tag_of row.layout) (length (F.shapes_of row.layout)) (λ two. absurd (omega arith))

  -- the entry with which the next row begins is that of a legal swap
  hand_legal : (past : List (Turn L P O R)) (row : Row L P O R) (is : IsRow F declared o past row) (front : List (Entry O R)) (parts : List P) (layout : L) (e : Entry O R)
      → Stands past row is front parts → IsLive F row.layout → length past < LAST_INCARNATION → IsHandOf (F.act_of layout) o (suc (length past)) e → IsActSoFar thread front e e.act
  hand_legal past row is front parts layout e s live unspent hand =
      by_answer thread front e e.act (ap is_call hand.act ∙ laws.asks layout) (subst (λ (answer : Answer R). IsAnswerSoFar thread front e answer) (sym hand.answer) (record {
        next = omega (arith, sym s.counted ∙ ap (λ n. number_of n front) (sym hand.object));
        alive = ap (λ n. is_ended_in thread n front) hand.object ∙ alive_there past row is front parts s live;
        unspent = rw (hand.object, s.counted) unspent;
        incarnation = omega (arith, hand.incarnation) ∙ (sym s.counted ∙ ap (λ n. number_of n front) (sym hand.object));
      }))

  -- and the next row stands for what is told after it
  hand_stands : (past : List (Turn L P O R)) (turn : Turn L P O R) (is : IsTurn F declared o past turn) (front : List (Entry O R)) → Stands past turn.row is.row front (parts_of F turn.row)
      → (row : Row L P O R) (next : IsRow F declared o (turn ∷ past) row) → Stands (turn ∷ past) row next (front ++ turn.done ∷ []) row.start
  hand_stands past turn is front s row next =
      let e = turn.done in
      let old = state_of F turn.row in
      let serves = laws.admits row.layout turn.row.layout old next.known is.live (is.row.kind ∙ sym next.kind) (laws.stands turn.row.layout (parts_of F turn.row) is.row.known s.whole).served in
      let imported = laws.imports row.layout (F.admitted row.layout old) next.known serves in
      let moved = subst (λ (object : OneThread S O R). state_moved object old (F.act_of row.layout) (Swapped (suc (length past))) ≡ F.admitted row.layout old) next.kind (laws.swaps row.layout old next.known (suc (length past))) in
      record {
        whole = subst (F.Whole row.layout F.procs) (sym next.started) imported.whole;
        state = state_after_own thread o front e next.begun.object ∙ (ap (λ state. state_moved thread state e.act e.answer) s.state
            ∙ (ap (λ act. state_moved thread old act e.answer) next.begun.act ∙ (ap (λ answer. state_moved thread old (F.act_of row.layout) answer) next.begun.answer
            ∙ (moved ∙ (sym imported.back ∙ ap (F.ways_of row.layout).combine (sym next.started))))));
        counted = number_after_own o front e true next.begun.object (ap is_carried_out next.begun.answer) ∙ omega (arith, s.counted);
      }

  -- the entries before a row, and how it begins
  pub record Begun (past : List (Turn L P O R)) (row : Row L P O R) (is : IsRow F declared o past row) : Type 0 where
    pub legal : EachBehind (LegalBehind thread) [] (past_entries past)
    pub stands : Stands past row is (past_entries past) row.start

  pub begun : IsLive F declared → (past : List (Turn L P O R)) → ArePast F declared o past → (row : Row L P O R) (is : IsRow F declared o past row) → Begun past row is
  begun live [] turns row is =
      let begins = laws.begins row.layout is.known in
      record {
        legal = tt;
        stands = record {
          whole = subst (F.Whole row.layout F.procs) (sym is.started) begins.whole;
          state = ap (λ object. object.start) (sym is.kind) ∙ (sym (begins.empty (rw is.begun live)) ∙ ap (F.ways_of row.layout).combine (sym is.started));
          counted = refl;
        };
      }
  begun live (turn ∷ past) turns row is =
      let was = begun live past turns.1 turn.row turns.0.row in
      let runs = row_runs past turn.row turns.0.row (past_entries past) was.stands in
      let front = past_entries past ++ turn.row.entries in
      let legal = hand_legal past turn.row turns.0.row front (parts_of F turn.row) row.layout turn.done runs.stands turns.0.live turns.0.unspent is.begun in
      record {
        legal = behind-append (LegalBehind thread) (λ before e after other h. h) [] (past_entries past) (turn.row.entries ++ turn.done ∷ []) was.legal
            (behind-append (LegalBehind thread) (λ before e after other h. h) (past_entries past) turn.row.entries (turn.done ∷ []) runs.legal (legal, tt));
        stands = rw (← append_assoc (past_entries past) turn.row.entries (turn.done ∷ [])) (hand_stands past turn turns.0 front runs.stands row is);
      }

  module _ (histories : ℕ → ℕ → List (Entry O R)) (chain : Chain L P O R) (fits : Fits F declared o histories chain) where
    last_runs : RunsOn F laws chain.row.layout fits.row.known o (length chain.past) thread (past_entries chain.past) chain.row.entries chain.row.start
    last_runs = row_runs chain.past chain.row fits.row (past_entries chain.past) (begun fits.declared_live chain.past fits.past chain.row fits.row).stands

    pub chain_legal : EachBehind (LegalBehind thread) [] (entries_of chain)
    chain_legal = behind-append (LegalBehind thread) (λ before e after other h. h) [] (past_entries chain.past) chain.row.entries (begun fits.declared_live chain.past fits.past chain.row fits.row).legal last_runs.legal

    -- the parts of the row that the object has now are whole, and stand for its state
    pub chain_stands : Stands chain.past chain.row fits.row (entries_of chain) (parts_of F chain.row)
    chain_stands = last_runs.stands
