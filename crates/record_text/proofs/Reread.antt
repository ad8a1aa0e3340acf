-- The record of a lawful history keeps all rules, and a record has one first fault at most.
use Rattle.std.proofs.Common.{◌≡◌, ℕ, zero, suc, ◌+◌, ◌<◌, ◌≤◌, cond, true, false, List, [], ◌∷◌, ◌++◌, length, map, take, drop, refl, sym, ap, ◌∙◌, inl, inr, arith}
use Rattle.std.specs.Prelude.{◌==◌, Option, Some, None, slice_get}
use Rattle.std.specs.Option.{option_map, option_map_or}
use Rattle.std.proofs.lemmas.Bool.{eq-eqb, cases_order}
use Rattle.std.proofs.lemmas.List.{length-map, map-append, take-append-drop, take-map, drop-map}
use Rattle.std.proofs.lemmas.List.Elements.{filter-append}
use Rattle.std.proofs.lemmas.Option.{same_Some, slice_get-map}
use Rattle.k42_kinds.specs.declared.operation.Op.{Op}
use Rattle.k42_kinds.specs.declared.operation.Reply.{Reply}
use Rattle.k42_kinds.specs.declared.entry.Entry.{Entry}
use Rattle.k42_kinds.specs.Histories.{entries_of}
use Rattle.k42_kinds.proofs.Splits.{All-at_split, heads}
use Rattle.script_text.specs.Lawful.{IsLawful, Deed, deed_of, deeds_from, call_lines, kinds_of}
use Rattle.script_text.specs.declared.script.CallLine.{CallLine}
use Rattle.script_text.specs.declared.script.Script.{Script}
use Rattle.script_text.specs.declared.script.WorkerLines.{WorkerLines}
use Rattle.record_text.specs.Histories.{calls_of, line_number, line_of}
use Rattle.record_text.specs.Told.{answered, lines_by}
use Rattle.record_text.specs.Rules.{Rule, Stamps, Order, Calls, Swaps, Refusals, Generations, all_rules, IsLegalLine, IsNextLine, Keeps, KeepsAt, KeepsRules, HasAllLines, IsLawfulRecord, BreaksFirst, IsFaultOfLine, IsFirstFault}
use Rattle.record_text.specs.declared.record.Record.{Record}
use Rattle.record_text.specs.declared.record.RecordLine.{RecordLine}
use Rattle.record_text.proofs.BareEntries.{legal_to}
use Rattle.k42_places.proofs.Rests.{drop_at}
use Rattle.record_text.proofs.Referee.Faults.{keeps_at}

-- a deed among those that the lines ask is what the line of its place asks
record IsAsked (calls : List CallLine) (from place : ℕ) (deed : Deed) : Type 0 where
  line : CallLine
  there : slice_get calls place ≡ Some line
  same : deed ≡ record { index = from + place; object = line.object; act = line.act }

asked_at : (calls : List CallLine) (from : ℕ) (before : List Deed) (deed : Deed) (after : List Deed) → deeds_from from calls ≡ before ++ deed ∷ after → IsAsked calls from (length before) deed
asked_at [] from [] deed after e = cc
asked_at [] from (d ∷ before) deed after e = cc
asked_at (call ∷ calls) from [] deed after e = record {
  line = call;
  there = refl;
  same = sym (heads (record { index = from; object = call.object; act = call.act }) deed (deeds_from (from + 1) calls) after e).head ∙ ap (λ (n : ℕ). record { index = n; object = call.object; act = call.act }) (omega arith);
}
asked_at (call ∷ calls) from (d ∷ before) deed after e =
    let rest = asked_at calls (from + 1) before deed after (heads (record { index = from; object = call.object; act = call.act }) d (deeds_from (from + 1) calls) (before ++ deed ∷ after) e).tail in
    record { line = rest.line; there = rest.there; same = rest.same ∙ ap (λ (n : ℕ). record { index = n; object = rest.line.object; act = rest.line.act }) (omega arith) }

same_call : (one other : CallLine) → one.line ≡ other.line → one.object ≡ other.object → one.act ≡ other.act → one ≡ other
same_call one other line object act i = record { line = line i; object = object i; act = act i }

length_deeds : (calls : List CallLine) (from : ℕ) → length (deeds_from from calls) ≡ length calls
length_deeds [] from = refl
length_deeds (call ∷ calls) from = ap suc (length_deeds calls (from + 1))

record IsLineOf (script : Script) (version : ℕ) (history : List (Entry Op Reply)) (place : ℕ) (line : RecordLine) : Type 0 where
  entry : Entry Op Reply
  there : slice_get history place ≡ Some entry
  same : line_of script version entry ≡ line

mapped : (script : Script) (version : ℕ) (history : List (Entry Op Reply)) (place : ℕ) (line : RecordLine) (found : Option (Entry Op Reply)) → slice_get history place ≡ found → option_map (line_of script version) found ≡ Some line → IsLineOf script version history place line
mapped script version history place line (Some entry) there e = record { entry = entry; there = there; same = same_Some (line_of script version entry) line e }
mapped script version history place line None there e = cc e

module _ (script : Script) (version : ℕ) where
  by-map : (worker : ℕ) (history : List (Entry Op Reply)) → lines_by worker (map (line_of script version) history) ≡ map (line_of script version) (entries_of worker history)
  by-map worker [] = refl
  by-map worker (entry ∷ history) = elim (entry.caller == worker) as (λ b. cond b (line_of script version entry ∷ lines_by worker (map (line_of script version) history)) (lines_by worker (map (line_of script version) history)) ≡ map (line_of script version) (cond b (entry ∷ entries_of worker history) (entries_of worker history))) [
    | true ↦ ap (λ (rest : List RecordLine). line_of script version entry ∷ rest) (by-map worker history)
    | false ↦ by-map worker history
  ]

  pub length_by : (worker : ℕ) (history : List (Entry Op Reply)) → length (lines_by worker (map (line_of script version) history)) ≡ length (entries_of worker history)
  length_by worker history = ap length (by-map worker history) ∙ length-map (entries_of worker history) (line_of script version)

  module _ (history : List (Entry Op Reply)) (lawful : IsLawful script history) where
    module _ (before : List (Entry Op Reply)) (entry : Entry Op Reply) (after : List (Entry Op Reply)) (split : history ≡ before ++ entry ∷ after) where
      own_split : entries_of entry.caller history ≡ entries_of entry.caller before ++ entry ∷ entries_of entry.caller after
      own_split = ap (entries_of entry.caller) split ∙ filter-append (λ (other : Entry Op Reply). other.caller == entry.caller) before (entry ∷ after) ∙ rw (eq-eqb entry.caller entry.caller refl) refl

      module _ (worker : WorkerLines) (found : slice_get script.workers entry.caller ≡ Some worker) where
        own_asked : IsAsked (call_lines worker.items) 0 (length (map deed_of (entries_of entry.caller before))) (deed_of entry)
        own_asked =
            let deeds : deeds_from 0 (call_lines worker.items) ≡ map deed_of (entries_of entry.caller before) ++ deed_of entry ∷ map deed_of (entries_of entry.caller after) =
            sym (lawful.in_order entry.caller worker found) ∙ ap (map deed_of) own_split ∙ map-append deed_of (entries_of entry.caller before) (entry ∷ entries_of entry.caller after) in
            asked_at (call_lines worker.items) 0 (map deed_of (entries_of entry.caller before)) (deed_of entry) (map deed_of (entries_of entry.caller after)) deeds

        own_count : length (map deed_of (entries_of entry.caller before)) ≡ length (entries_of entry.caller before)
        own_count = length-map (entries_of entry.caller before) deed_of

        -- an entry's index counts the entries of its caller before it
        pub own_index : entry.index ≡ length (entries_of entry.caller before)
        own_index = omega (arith, ap (λ (d : Deed). d.index) own_asked.same, own_count)

        next_line : IsNextLine script (map (line_of script version) before) (line_of script version entry)
        next_line =
            let calls : calls_of script entry.caller ≡ call_lines worker.items = ap (λ (l : Option WorkerLines). option_map_or (λ (w : WorkerLines). call_lines w.items) l []) found in
            let asked = own_asked in
            let there : slice_get (calls_of script entry.caller) (length (entries_of entry.caller before)) ≡ Some asked.line = rw calls (rw own_count at asked.there) in
            let number : line_number script entry.caller entry.index ≡ asked.line.line = ap (λ (n : ℕ). line_number script entry.caller n) own_index ∙ ap (λ (found : Option CallLine). option_map_or (λ (l : CallLine). l.line) found 0) there in
            let line : asked.line ≡ answered (line_of script version entry) = same_call asked.line (answered (line_of script version entry)) (sym number) (ap (λ (d : Deed). d.object) (sym asked.same)) (ap (λ (d : Deed). d.act) (sym asked.same)) in
            rw (length_by entry.caller before) (there ∙ ap (λ (l : CallLine). Some l) line)

    complete : HasAllLines script (map (line_of script version) history)
    complete worker = at (slice_get script.workers worker) refl
      where
        at : (found : Option WorkerLines) → slice_get script.workers worker ≡ found → length (calls_of script worker) ≤ length (lines_by worker (map (line_of script version) history))
        at None is = rw is (omega arith)
        at (Some own) is =
            let done : length (entries_of worker history) ≡ length (call_lines own.items) = sym (length-map (entries_of worker history) deed_of) ∙ ap length (lawful.in_order worker own is) ∙ length_deeds (call_lines own.items) 0 in
            omega (arith, done, length_by worker history, ap length (ap (λ (l : Option WorkerLines). option_map_or (λ (w : WorkerLines). call_lines w.items) l []) is))

-- what holds behind the entries of a history holds behind its lines
keeps_mapped : (script : Script) (version : ℕ) (history : List (Entry Op Reply)) (place : ℕ) (entry : Entry Op Reply) (rule : Rule) → Keeps script (map (line_of script version) (take place history)) (line_of script version entry) (map (line_of script version) (drop (place + 1) history)) rule → Keeps script (take place (map (line_of script version) history)) (line_of script version entry) (drop (place + 1) (map (line_of script version) history)) rule
keeps_mapped script version history place entry rule keeps = rw (take-map (line_of script version) place history, drop-map (line_of script version) (place + 1) history) keeps

pub caller_found : (workers : List WorkerLines) (caller : ℕ) → caller < length workers → (worker : WorkerLines) × (slice_get workers caller ≡ Some worker)
caller_found [] caller within = absurd (omega arith)
caller_found (worker ∷ workers) zero within = (worker, refl)
caller_found (worker ∷ workers) (suc caller) within = caller_found workers caller (omega arith)

module _ (script : Script) (version : ℕ) (history : List (Entry Op Reply)) (lawful : IsLawful script history) where
  abbrev told_lines : List RecordLine
  told_lines = map (line_of script version) history

  rules_kept : (place : ℕ) → KeepsAt script told_lines place Generations → (rule : Rule) → KeepsAt script told_lines place rule
  rules_kept place generations rule line there =
      let made = mapped script version history place line (slice_get history place) refl (sym (slice_get-map (line_of script version) history place) ∙ there) in
      let split : history ≡ take place history ++ made.entry ∷ drop (place + 1) history = sym (take-append-drop place history) ∙ ap (λ (rest : List (Entry Op Reply)). take place history ++ rest) (drop_at history place made.entry made.there) in
      let own = caller_found script.workers made.entry.caller (All-at_split (λ (entry : Entry Op Reply). entry.caller < length script.workers) history lawful.no_stranger (take place history) made.entry (drop (place + 1) history) split) in
      let legal : IsLegalLine script (map (line_of script version) (take place history)) (line_of script version made.entry) (map (line_of script version) (drop (place + 1) history)) =
      legal_to script version (kinds_of script) (take place history) made.entry (drop (place + 1) history) (lawful.legal.legal (take place history) made.entry (drop (place + 1) history) split) in
      let there_is : slice_get told_lines place ≡ Some (line_of script version made.entry) = there ∙ ap (λ (l : RecordLine). Some l) (sym made.same) in
      keeps rule made.entry there_is
      (lawful.legal.numbered (take place history) made.entry (drop (place + 1) history) split ∙ ap (λ (n : ℕ). n + 1) (sym (length-map (take place history) (line_of script version))))
      (next_line script version history lawful (take place history) made.entry (drop (place + 1) history) split own.0 own.1) legal line there
    where
      keeps : (rule : Rule) (entry : Entry Op Reply) → slice_get told_lines place ≡ Some (line_of script version entry) → entry.stamp ≡ length (map (line_of script version) (take place history)) + 1 → IsNextLine script (map (line_of script version) (take place history)) (line_of script version entry)
          → IsLegalLine script (map (line_of script version) (take place history)) (line_of script version entry) (map (line_of script version) (drop (place + 1) history)) → KeepsAt script told_lines place rule
      keeps Stamps entry here stamped next legal = keeps_at script told_lines place (line_of script version entry) here Stamps (keeps_mapped script version history place entry Stamps stamped)
      keeps Order entry here stamped next legal = keeps_at script told_lines place (line_of script version entry) here Order (keeps_mapped script version history place entry Order next)
      keeps Calls entry here stamped next legal = keeps_at script told_lines place (line_of script version entry) here Calls (keeps_mapped script version history place entry Calls (λ _. legal))
      keeps Swaps entry here stamped next legal = keeps_at script told_lines place (line_of script version entry) here Swaps (keeps_mapped script version history place entry Swaps (λ _. legal))
      keeps Refusals entry here stamped next legal = keeps_at script told_lines place (line_of script version entry) here Refusals (keeps_mapped script version history place entry Refusals (λ _. legal))
      keeps Generations entry here stamped next legal = generations

-- a lawful record keeps all rules
pub rules_from_lawful : (script : Script) (written : Record) → IsLawfulRecord script written → KeepsRules script written.lines
rules_from_lawful script written record_lawful =
    let lines_are : written.lines ≡ map (line_of script written.version) record_lawful.history = ap (λ (w : Record). w.lines) record_lawful.same in
    record {
      each = λ place rule. rw (← lines_are) at (rules_kept script written.version record_lawful.history record_lawful.lawful place (rw lines_are at (record_lawful.generations place)) rule);
      complete = rw lines_are (complete script written.version record_lawful.history record_lawful.lawful);
    }

broken_or_kept : (Kept : Rule → Type 0) (rules : List Rule) (number : ℕ) → ((rule : Rule) → Kept rule) → BreaksFirst Kept rules number → ⊥
broken_or_kept Kept [] number all broken = broken
broken_or_kept Kept (rule ∷ rules) number all (inl here) = here.1 (all rule)
broken_or_kept Kept (rule ∷ rules) number all (inr later) = broken_or_kept Kept rules number all later.1

-- a record that keeps all rules has no fault
no_fault : (script : Script) (written : Record) (line rule : ℕ) → KeepsRules script written.lines → IsFirstFault script written line rule → ⊥
no_fault script written line rule keeps (inl fault) = broken_or_kept (KeepsAt script written.lines fault.place) all_rules rule (keeps.each fault.place) fault.broken
no_fault script written line rule keeps (inr fault) = fault.missing keeps.complete

pub lawful_faultless : (script : Script) (written : Record) (line rule : ℕ) → IsLawfulRecord script written → IsFirstFault script written line rule → ⊥
lawful_faultless script written line rule lawful fault = no_fault script written line rule (rules_from_lawful script written lawful) fault

one_broken : (Kept : Rule → Type 0) (rules : List Rule) (number other : ℕ) → BreaksFirst Kept rules number → BreaksFirst Kept rules other → number ≡ other
one_broken Kept [] number other first second = absurd first
one_broken Kept (rule ∷ rules) number other (inl a) (inl b) = a.0 ∙ sym b.0
one_broken Kept (rule ∷ rules) number other (inl a) (inr b) = absurd (a.1 b.0)
one_broken Kept (rule ∷ rules) number other (inr a) (inl b) = absurd (b.1 a.0)
one_broken Kept (rule ∷ rules) number other (inr a) (inr b) = one_broken Kept rules number other a.1 b.1

module _ (script : Script) (written : Record) where
  same_place : (line rule other_line other_rule : ℕ) (a : IsFaultOfLine script written.lines line rule) (b : IsFaultOfLine script written.lines other_line other_rule) → a.place ≡ b.place → (line ≡ other_line) × (rule ≡ other_rule)
  same_place line rule other_line other_rule a b same =
      (omega (arith, a.numbered, b.numbered, same), one_broken (KeepsAt script written.lines a.place) all_rules rule other_rule a.broken (rw (← same) at b.broken))

  pub one_fault : (line rule other_line other_rule : ℕ) → IsFirstFault script written line rule → IsFirstFault script written other_line other_rule → (line ≡ other_line) × (rule ≡ other_rule)
  one_fault line rule other_line other_rule (inl a) (inl b) = elim (cases_order a.place b.place) [
    | inl same ↦ same_place line rule other_line other_rule a b same
    | inr (inl before) ↦ absurd (broken_or_kept (KeepsAt script written.lines a.place) all_rules rule (b.before a.place before) a.broken)
    | inr (inr after) ↦ absurd (broken_or_kept (KeepsAt script written.lines b.place) all_rules other_rule (a.before b.place after) b.broken)
  ]
  one_fault line rule other_line other_rule (inl a) (inr b) = absurd (broken_or_kept (KeepsAt script written.lines a.place) all_rules rule (b.before a.place) a.broken)
  one_fault line rule other_line other_rule (inr a) (inl b) = absurd (broken_or_kept (KeepsAt script written.lines b.place) all_rules other_rule (a.before b.place) b.broken)
  one_fault line rule other_line other_rule (inr a) (inr b) = (a.numbered ∙ sym b.numbered, a.order ∙ sym b.order)
