-- A record whose lines keep all rules is that of a lawful history.
use Rattle.std.proofs.Common.{◌≡◌, ℕ, suc, ◌+◌, ◌<◌, ◌≤◌, List, [], ◌∷◌, ◌++◌, length, map, take, drop, add-one, refl, sym, ap, ◌∙◌, inl, inr}
use Rattle.std.proofs.Math.Dec.{eqb}
use Rattle.std.specs.Prelude.{Option, Some, None, MatchOption, slice_get, if◌then◌else◌}
use Rattle.std.specs.Option.{option_map_or}
use Rattle.std.specs.List.{AllByRecursion}
use Rattle.std.proofs.lemmas.Bool.Decides.{eqb_tells}
use Rattle.std.proofs.lemmas.List.{length-map, length-append, map-append, append-nil, append_assoc}
use Rattle.std.proofs.lemmas.List.Elements.{All-from_recursion, recursion_from_All}
use Rattle.std.proofs.Math.Seq.{take-append_seam}
use Rattle.std.proofs.Math.ListN.{drop_of_length-le}
use Rattle.k42_kinds.specs.declared.operation.Op.{Op}
use Rattle.k42_kinds.specs.declared.operation.Reply.{Reply}
use Rattle.k42_kinds.specs.declared.entry.Act.{Act}
use Rattle.k42_kinds.specs.declared.entry.Act.TheVariants.{Call, Swap}
use Rattle.k42_kinds.specs.declared.entry.Answer.{Answer}
use Rattle.k42_kinds.specs.declared.entry.Answer.TheVariants.{Replied, Swapped, Busy, Spent, Gone, Abandoned}
use Rattle.k42_kinds.specs.declared.entry.Entry.{Entry}
use Rattle.k42_kinds.specs.Histories.{entries_of}
use Rattle.script_text.specs.Lawful.{IsNotGivenUp, Deed, deed_of, deeds_from, call_lines, kinds_of}
use Rattle.script_text.specs.declared.script.CallLine.{CallLine}
use Rattle.script_text.specs.declared.script.Script.{Script}
use Rattle.script_text.specs.declared.script.WorkerLines.{WorkerLines}
use Rattle.record_text.specs.Histories.{calls_of, line_number, line_of}
use Rattle.record_text.specs.Spelling.{HasText, HasSpelling, IsOfVersion, Ends, HasGeneration}
use Rattle.record_text.specs.Told.{told, answered, lines_by, told_generation}
use Rattle.record_text.specs.Rules.{Stamps, Order, Calls, Swaps, Refusals, Generations, IsLegalLine, IsNextLine, KeepsRules, IsLawfulRecord}
use Rattle.record_text.specs.declared.record.Extra.{Extra}
use Rattle.record_text.specs.declared.record.Record.{Record}
use Rattle.record_text.specs.declared.record.RecordLine.{RecordLine}
use Rattle.record_text.proofs.BareEntries.{legal_from}
use Rattle.record_text.proofs.Referee.Crews.{by-push_own, by-push_other}
use Rattle.record_text.proofs.Referee.Faults.{act_rules}
use Rattle.k42_places.proofs.Appended.{slice_get-append_seam}
use Rattle.k42_places.proofs.Rests.{drop_at}

abbrev told_processor : Option Extra → ℕ
told_processor (Some extra) = extra.proc
told_processor None = 0

-- the entry of a line that answers its worker's line of this place
abbrev entry_at : ℕ → RecordLine → Entry Op Reply
entry_at index line = record {
  stamp = line.stamp;
  caller = line.worker;
  index = index;
  object = line.object;
  incarnation = line.incarnation;
  cell = 0;
  act = line.act;
  answer = line.answer;
  proc = told_processor line.extra;
  generation = told_generation line.extra;
}

-- the history of the lines behind others
abbrev history_from : List RecordLine → List RecordLine → List (Entry Op Reply)
history_from front [] = []
history_from front (line ∷ lines) = entry_at (length (lines_by line.worker front)) line ∷ history_from (front ++ line ∷ []) lines

module _ (script : Script) where
  -- each line answers the next of its worker's
  abbrev AreNext : List RecordLine → List RecordLine → Type 0
  AreNext front [] = Unit {0}
  AreNext front (line ∷ lines) = IsNextLine script front line × AreNext (front ++ line ∷ []) lines

  are_next : (front lines : List RecordLine) → ((place : ℕ) (line : RecordLine) → slice_get lines place ≡ Some line → IsNextLine script (front ++ take place lines) line) → AreNext front lines
  are_next front [] each = tt
  are_next front (line ∷ lines) each = (
    rw (append-nil front) at (each 0 line refl),
    are_next (front ++ line ∷ []) lines (λ place other there. rw (append_assoc front (line ∷ []) (take place lines)) (each (suc place) other there)),
  )

  extra_same : (version : ℕ) (act : Act Op) (extra : Option Extra) → MatchOption extra (version ≡ 1) (λ e. (version ≡ 2) × HasGeneration act e.generation) → (if eqb version 2 then Some (record { proc = told_processor extra; generation = told_generation extra }) else None) ≡ extra
  extra_same version act (Some extra) is = rw is.0 refl
  extra_same version act None is = rw is refl

  line_same : (version : ℕ) (front : List RecordLine) (line : RecordLine) → IsNextLine script front line → IsOfVersion version line → line_of script version (entry_at (length (lines_by line.worker front)) line) ≡ line
  line_same version front line next told =
      let number : line_number script line.worker (length (lines_by line.worker front)) ≡ line.line = ap (λ (found : Option CallLine). option_map_or (λ (l : CallLine). l.line) found 0) next in
      rw (number, extra_same version line.act line.extra told.told) refl

  -- the history's record is the one that it was made of
  lines_back : (version : ℕ) (front lines : List RecordLine) → AreNext front lines → AllByRecursion (IsOfVersion version) lines → map (line_of script version) (history_from front lines) ≡ lines
  lines_back version front [] next told = refl
  lines_back version front (line ∷ lines) next told =
      ap (λ (l : RecordLine). l ∷ map (line_of script version) (history_from (front ++ line ∷ []) lines)) (line_same version front line next.0 told.0)
      ∙ ap (λ (rest : List RecordLine). line ∷ rest) (lines_back version (front ++ line ∷ []) lines next.1 told.1)

  module _ (worker : ℕ) where
    -- the worker does its lines
    deeds_back : (front lines : List RecordLine) → AreNext front lines → length (calls_of script worker) ≤ length (lines_by worker (front ++ lines)) → map deed_of (entries_of worker (history_from front lines)) ≡ deeds_from (length (lines_by worker front)) (drop (length (lines_by worker front)) (calls_of script worker))
    deeds_back front [] next complete =
        let none : drop (length (lines_by worker front)) (calls_of script worker) ≡ [] = drop_of_length-le (calls_of script worker) {i = length (lines_by worker front)} (rw (append-nil front) at complete) in
        rw none refl
    deeds_back front (line ∷ lines) next complete =
        let rest = deeds_back (front ++ line ∷ []) lines next.1 (rw (append_assoc front (line ∷ []) lines) complete) in
        elim (eqb_tells line.worker worker) [
          | inl own ↦
              let here : slice_get (calls_of script worker) (length (lines_by worker front)) ≡ Some (answered line) = rw own.1 at next.0 in
              let left = drop_at (calls_of script worker) (length (lines_by worker front)) (answered line) here in
              let more : length (lines_by worker (front ++ line ∷ [])) ≡ length (lines_by worker front) + 1 = ap length (by-push_own worker front line own.1) ∙ length-append (lines_by worker front) (line ∷ []) in
              let counted : length (lines_by line.worker front) ≡ length (lines_by worker front) = ap (λ (w : ℕ). length (lines_by w front)) own.1 in
              rw (own.0, left, counted) (ap (λ (ds : List Deed). record { index = length (lines_by worker front); object = line.object; act = line.act } ∷ ds) (rw more at rest))
          | inr other ↦
              let same : length (lines_by worker (front ++ line ∷ [])) ≡ length (lines_by worker front) = ap length (by-push_other worker front line other.1) in
              rw other.0 (rw same at rest)
        ]

  known_callers : (front lines : List RecordLine) → AllByRecursion (HasSpelling script) lines → AllByRecursion (λ entry. entry.caller < length script.workers) (history_from front lines)
  known_callers front [] all = tt
  known_callers front (line ∷ lines) all = (all.0.by_worker, known_callers (front ++ line ∷ []) lines all.1)

  not_given_up : (act : Act Op) (answer : Answer Reply) → Ends act answer → IsNotGivenUp answer
  not_given_up (Call op) (Abandoned number) form = form
  not_given_up (Swap to) (Abandoned number) form = form
  not_given_up act (Replied reply) form = tt
  not_given_up act (Swapped number) form = tt
  not_given_up act (Busy number) form = tt
  not_given_up act Spent form = tt
  not_given_up act Gone form = tt

  none_given_up : (front lines : List RecordLine) → AllByRecursion (HasSpelling script) lines → AllByRecursion (λ entry. IsNotGivenUp entry.answer) (history_from front lines)
  none_given_up front [] all = tt
  none_given_up front (line ∷ lines) all = (not_given_up line.act line.answer all.0.answered, none_given_up (front ++ line ∷ []) lines all.1)

-- what stands at a split of the lines keeps its rules there
pub record KeepsThere (script : Script) (before : List RecordLine) (line : RecordLine) (after : List RecordLine) : Type 0 where
  pub stamped : line.stamp ≡ length before + 1
  pub legal : IsLegalLine script before line after

behind_seam : {X : Type 0} (before : List X) (x : X) (after : List X) → drop (length before + 1) (before ++ x ∷ after) ≡ after
behind_seam [] x after = refl
behind_seam (y ∷ before) x after = rw add-one (rw add-one at (behind_seam before x after))

keeps_there : (script : Script) (lines : List RecordLine) → KeepsRules script lines → (before : List RecordLine) (line : RecordLine) (after : List RecordLine) → lines ≡ before ++ line ∷ after → KeepsThere script before line after
keeps_there script lines keeps before line after split =
    let there : slice_get lines (length before) ≡ Some line = rw split (slice_get-append_seam before line after) in
    let front : take (length before) lines ≡ before = rw split (take-append_seam before (line ∷ after)) in
    let back : drop (length before + 1) lines ≡ after = rw split (behind_seam before line after) in
    let legal : IsLegalLine script (take (length before) lines) line (drop (length before + 1) lines) = elim (act_rules line.act line.answer) [
      | inl is ↦ keeps.each (length before) Calls line there is
      | inr (inl is) ↦ keeps.each (length before) Swaps line there is
      | inr (inr is) ↦ keeps.each (length before) Refusals line there is
    ] in
    record {
      stamped = rw front at (keeps.each (length before) Stamps line there);
      legal = rw (front, back) at legal;
    }

pub lawful_from_rules : (script : Script) (written : Record) → HasText script written → KeepsRules script written.lines → IsLawfulRecord script written
lawful_from_rules script written text keeps =
    let lines = written.lines in
    let version = written.version in
    let next = are_next script [] lines (λ place line there. keeps.each place Order line there) in
    let history = history_from [] lines in
    let back : map (line_of script version) history ≡ lines = lines_back script version [] lines next (recursion_from_All (IsOfVersion version) lines text.told) in
    let spelled = recursion_from_All (HasSpelling script) lines text.spelled in
    let there : (before : List (Entry Op Reply)) (entry : Entry Op Reply) (after : List (Entry Op Reply)) → history ≡ before ++ entry ∷ after → KeepsThere script (map (line_of script version) before) (line_of script version entry) (map (line_of script version) after) =
    λ before entry after split. keeps_there script lines keeps (map (line_of script version) before) (line_of script version entry) (map (line_of script version) after)
    (sym back ∙ ap (map (line_of script version)) split ∙ map-append (line_of script version) before (entry ∷ after)) in
    record {
      history = history;
      lawful = record {
        legal = record {
          numbered = λ before entry after split. (there before entry after split).stamped ∙ ap (λ (n : ℕ). n + 1) (length-map before (line_of script version));
          legal = λ before entry after split. legal_from script version (kinds_of script) before entry after (there before entry after split).legal;
        };
        in_order = λ number worker found.
            let calls : calls_of script number ≡ call_lines worker.items = ap (λ (l : Option WorkerLines). option_map_or (λ (w : WorkerLines). call_lines w.items) l []) found in
            rw calls at (deeds_back script number [] lines next (keeps.complete number));
        no_stranger = All-from_recursion (λ (entry : Entry Op Reply). entry.caller < length script.workers) history (known_callers script [] lines spelled);
        none_given_up = All-from_recursion (λ (entry : Entry Op Reply). IsNotGivenUp entry.answer) history (none_given_up script [] lines spelled);
      };
      same = ap (λ (ls : List RecordLine). record { lines = ls; version = version }) (sym back);
      generations = λ place. keeps.each place Generations;
    }
