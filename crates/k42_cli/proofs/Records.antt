-- A lawful history of a sound script has a record, and the record a text.
use Rattle.std.proofs.Common.{◌≡◌, ℕ, zero, suc, ◌+◌, ◌<◌, List, [], ◌∷◌, ◌++◌, length, get_or, take, drop, map, inl, inr, refl, sym, ap, ◌∙◌, subst, arith}
use Rattle.std.specs.Prelude.{All, Some, Result, Ok, Err, IfOk, slice_get}
use Rattle.std.proofs.lemmas.Bool.{eq-eqb}
use Rattle.std.proofs.lemmas.List.{map-append, take-append-drop}
use Rattle.std.proofs.lemmas.List.Elements.{All-map, filter-append}
use Rattle.std.proofs.lemmas.Option.{slice_get_within, get_or_from_slice_get}
use Rattle.std.proofs.Math.Seq.{drop-cons}
use Rattle.k42_kinds.specs.Histories.{entries_of}
use Rattle.k42_kinds.specs.Legal.{IsLegalAct, IsLegalAnswer}
use Rattle.k42_kinds.specs.declared.operation.KindName.{KindName}
use Rattle.k42_kinds.specs.declared.operation.Op.{Op}
use Rattle.k42_kinds.specs.declared.operation.Reply.{Reply}
use Rattle.k42_kinds.specs.declared.entry.Act.{Act}
use Rattle.k42_kinds.specs.declared.entry.Act.TheVariants.{Call, Swap}
use Rattle.k42_kinds.specs.declared.entry.Answer.{Answer}
use Rattle.k42_kinds.specs.declared.entry.Answer.TheVariants.{Replied, Swapped, Busy, Spent, Gone, Abandoned}
use Rattle.k42_kinds.specs.declared.entry.Entry.{Entry}
use Rattle.k42_kinds.proofs.Splits.{heads, no_split, All-at_split}
use Rattle.script_text.specs.Lawful.{kinds_of, call_lines, Deed, deed_of, deeds_from, IsNotGivenUp, IsLawful}
use Rattle.script_text.specs.Sound.{IsActOn, IsSoundLine, IsSoundWorker, IsSound}
use Rattle.script_text.specs.declared.script.CallLine.{CallLine}
use Rattle.script_text.specs.declared.script.Script.{Script}
use Rattle.script_text.specs.declared.script.WorkerLines.{WorkerLines}
use Rattle.record_text.specs.Histories.{calls_of, HasLine, line_of, record_of}
use Rattle.record_text.specs.Rules.{IsLawfulRecord}
use Rattle.record_text.specs.Spelling.{EndsCall, EndsSwap, Ends, HasSpelling, HasGeneration, IsOfVersion, IsVersion, HasText}
use Rattle.co_system.specs.Systems.{HistorySeen}
use Rattle.k42_workers.specs.Plans.{plan_due}
use Rattle.k42_cli.specs.Program.{IsRun}

-- a deed of these lines, counted on from a number, at a place
pub record IsDeedAt (lines : List CallLine) (first place : ℕ) (deed : Deed) : Type 0 where
  pub line : CallLine
  pub there : slice_get lines place ≡ Some line
  pub index : deed.index ≡ first + place
  pub object : deed.object ≡ line.object
  pub act : deed.act ≡ line.act

deeds_from-split : (lines : List CallLine) (first : ℕ) (front : List Deed) (deed : Deed) (back : List Deed) → deeds_from first lines ≡ front ++ deed ∷ back → IsDeedAt lines first (length front) deed
deeds_from-split [] first front deed back e = absurd (no_split front deed back e)
deeds_from-split (line ∷ lines) first [] deed back e =
    let same = (heads (record { index = first; object = line.object; act = line.act }) deed (deeds_from (first + 1) lines) back e).head in
    record {
      line = line;
      there = refl;
      index = ap (λ (d : Deed). d.index) (sym same) ∙ omega arith;
      object = ap (λ (d : Deed). d.object) (sym same);
      act = ap (λ (d : Deed). d.act) (sym same);
    }
deeds_from-split (line ∷ lines) first (other ∷ front) deed back e =
    let rest = deeds_from-split lines (first + 1) front deed back (heads (record { index = first; object = line.object; act = line.act }) other (deeds_from (first + 1) lines) (front ++ deed ∷ back) e).tail in
    record { line = rest.line; there = rest.there; index = omega (arith, rest.index); object = rest.object; act = rest.act }

-- what holds of each split of a list holds of all its elements
pub each_all : {X : Type 0} (P : X → Type 0) (xs : List X) → ((before : List X) (x : X) (after : List X) → xs ≡ before ++ x ∷ after → P x) → All P xs
each_all P xs each = λ k d within. each (take k xs) (get_or xs k d) (drop (suc k) xs) (sym (take-append-drop k xs) ∙ ap (λ (back : List _). take k xs ++ back) (drop-cons xs k d within))

-- a place that is there has an element
pub found_at : {X : Type 0} (xs : List X) (n : ℕ) → n < length xs → (x : X) × (slice_get xs n ≡ Some x)
found_at [] n within = absurd (omega arith)
found_at (x ∷ xs) zero within = (x, refl)
found_at (x ∷ xs) (suc n) within = found_at xs n (omega arith)

-- what follows of each value follows of a value that there may be
pub where_ok : {X E : Type 0} (P Q : X → Type 0) → ((x : X) → P x → Q x) → (result : Result X E) → IfOk result P → IfOk result Q
where_ok P Q each (Ok x) holds = each x holds
where_ok P Q each (Err e) holds = tt

-- what holds of all elements holds of the one that is found
pub All-found : {X : Type 0} (P : X → Type 0) (xs : List X) (n : ℕ) (x : X) → All P xs → slice_get xs n ≡ Some x → P x
All-found P xs n x all found = subst P (get_or_from_slice_get xs n x x found) (all n x (slice_get_within xs n x found))

-- the entries of a caller, where one of them stands between others
entries_of-split : (caller : ℕ) (before : List (Entry Op Reply)) (entry : Entry Op Reply) (after : List (Entry Op Reply)) → entry.caller ≡ caller → entries_of caller (before ++ entry ∷ after) ≡ entries_of caller before ++ entry ∷ entries_of caller after
entries_of-split caller before entry after own = filter-append _ before (entry ∷ after) ∙ rw (eq-eqb entry.caller caller own) refl

-- how an act may legally be answered, it may be spelled
ends_swap : (kind : KindName) (before : List (Entry Op Reply)) (entry : Entry Op Reply) (after : List (Entry Op Reply)) (answer : Answer Reply) → IsNotGivenUp answer → IsLegalAnswer kind before entry after answer → EndsSwap answer
ends_swap kind before entry after (Swapped number) kept legal = tt
ends_swap kind before entry after Spent kept legal = tt
ends_swap kind before entry after Gone kept legal = tt
ends_swap kind before entry after (Busy number) kept legal = omega (arith, legal.timely.incarnation)
ends_swap kind before entry after (Abandoned number) kept legal = kept
ends_swap kind before entry after (Replied reply) kept legal = legal

ends_act : (kind : KindName) (before : List (Entry Op Reply)) (entry : Entry Op Reply) (after : List (Entry Op Reply)) (act : Act Op) → IsNotGivenUp entry.answer → IsLegalAct kind before entry after act → Ends act entry.answer
ends_act kind before entry after (Call op) kept legal = subst EndsCall (sym legal.replied) tt
ends_act kind before entry after (Swap to) kept legal = ends_swap kind before entry after entry.answer kept legal

-- the line that an entry answers
record Answers (script : Script) (entry : Entry Op Reply) : Type 0 where
  has : HasLine script entry
  kind : KindName
  declared : slice_get (kinds_of script) entry.object ≡ Some kind
  asked : IsActOn kind entry.act
  ends : Ends entry.act entry.answer

module _ (script : Script) (sound : IsSound script) (history : List (Entry Op Reply)) (lawful : IsLawful script history) where
  -- each entry of a worker is the deed of one of its lines
  pub deed_by : (before : List (Entry Op Reply)) (entry : Entry Op Reply) (after : List (Entry Op Reply)) → history ≡ before ++ entry ∷ after → (worker : WorkerLines) → slice_get script.workers entry.caller ≡ Some worker → IsDeedAt (call_lines worker.items) 0 (length (map deed_of (entries_of entry.caller before))) (deed_of entry)
  deed_by before entry after e worker found =
      let caller = entry.caller in
      let own = lawful.in_order caller worker found in
      let split : map deed_of (entries_of caller before) ++ deed_of entry ∷ map deed_of (entries_of caller after) ≡ deeds_from 0 (call_lines worker.items) =
      sym (map-append deed_of (entries_of caller before) (entry ∷ entries_of caller after)) ∙ ap (map deed_of) (sym (entries_of-split caller before entry after refl)) ∙ ap (λ (h : List (Entry Op Reply)). map deed_of (entries_of caller h)) (sym e) ∙ own in
      deeds_from-split (call_lines worker.items) 0 (map deed_of (entries_of caller before)) (deed_of entry) (map deed_of (entries_of caller after)) (sym split)

  answers_by : (before : List (Entry Op Reply)) (entry : Entry Op Reply) (after : List (Entry Op Reply)) → history ≡ before ++ entry ∷ after → (worker : WorkerLines) → slice_get script.workers entry.caller ≡ Some worker → Answers script entry
  answers_by before entry after e worker found =
      let caller = entry.caller in
      let deed = deed_by before entry after e worker found in
      let line = All-found (IsSoundLine script) (call_lines worker.items) (length (map deed_of (entries_of caller before))) deed.line (All-found (IsSoundWorker script) script.workers caller worker sound.workers found).lines deed.there in
      let calls : calls_of script caller ≡ call_lines worker.items = rw found refl in
      let legal = lawful.legal.legal before entry after e in
      record {
        has = record {
          caller = slice_get_within script.workers caller worker found;
          index = omega (arith, slice_get_within (call_lines worker.items) (length (map deed_of (entries_of caller before))) deed.line deed.there, deed.index, ap length calls);
        };
        kind = line.kind;
        declared = ap (slice_get (kinds_of script)) deed.object ∙ line.declared;
        asked = subst (λ (act : Act Op). IsActOn line.kind act) (sym deed.act) line.asked;
        ends = ends_act legal.kind before entry after entry.act (All-at_split (λ (other : Entry Op Reply). IsNotGivenUp other.answer) history lawful.none_given_up before entry after e) legal.legal;
      }

  answers : (before : List (Entry Op Reply)) (entry : Entry Op Reply) (after : List (Entry Op Reply)) → history ≡ before ++ entry ∷ after → Answers script entry
  answers before entry after e =
      let worker = found_at script.workers entry.caller (All-at_split (λ (other : Entry Op Reply). other.caller < length script.workers) history lawful.no_stranger before entry after e) in
      answers_by before entry after e worker.0 worker.1

  -- each entry is that of a line
  pub lines_there : All (HasLine script) history
  lines_there = each_all (HasLine script) history (λ before entry after e. (answers before entry after e).has)

  -- what a record of this version tells of an entry
  told_by : (version : ℕ) → IsVersion version → (entry : Entry Op Reply) → HasGeneration entry.act entry.generation → IsOfVersion version (line_of script version entry)
  told_by version (inl one) entry has = rw one (record { told = refl })
  told_by version (inr two) entry has = rw two (record { told = (refl, has) })

  -- and the record of all has a text
  pub text_there : All (λ (entry : Entry Op Reply). HasGeneration entry.act entry.generation) history → (version : ℕ) → IsVersion version → HasText script (record_of script history version)
  text_there has version is = record {
    version = is;
    spelled = All-map (HasSpelling script) (line_of script version) history (each_all (λ entry. HasSpelling script (line_of script version entry)) history (λ before entry after e.
        let a = answers before entry after e in
        record { by_worker = a.has.caller; kind = a.kind; of_object = a.declared; asked = a.asked; answered = a.ends }));
    told = All-map (IsOfVersion version) (line_of script version) history (each_all (λ entry. IsOfVersion version (line_of script version entry)) history (λ before entry after e.
        told_by version is entry (All-at_split (λ (other : Entry Op Reply). HasGeneration other.act other.generation) history has before entry after e)));
  }

-- what a run gives is a run
pub run_of : (script : Script) → IsSound script → (history : HistorySeen) → IsLawful script history.entries → history.plan ≡ plan_due script → ((version : ℕ) → IsLawfulRecord script (record_of script history.entries version))
    → All (λ (entry : Entry Op Reply). HasGeneration entry.act entry.generation) history.entries → IsRun script history
run_of script sound history lawful plan judged has = record {
  lawful = lawful;
  plan = plan;
  spelled = text_there script sound history.entries lawful has;
  judged = judged;
}

pub run_where_ok : {E : Type 0} (script : Script) → IsSound script → (result : Result HistorySeen E) → IfOk result (λ history. IsLawful script history.entries) → IfOk result (λ history. history.plan ≡ plan_due script)
    → IfOk result (λ history. (version : ℕ) → IsLawfulRecord script (record_of script history.entries version)) → IfOk result (λ history. All (λ entry. HasGeneration entry.act entry.generation) history.entries) → IfOk result (IsRun script)
run_where_ok script sound (Ok history) lawful plan judged has = run_of script sound history lawful plan judged has
run_where_ok script sound (Err error) lawful plan judged has = tt
