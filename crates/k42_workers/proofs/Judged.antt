-- A legal history in which each worker's entries are in order for those with which it has done its lines is lawful, and its
-- records are.
use Rattle.std.proofs.Common.{◌≡◌, ℕ, zero, suc, ◌<◌, Bool, true, false, cond, List, [], ◌∷◌, ◌++◌, length, get_or, take, drop, map, refl, sym, ap, ◌∙◌, subst}
use Rattle.std.specs.Prelude.{◌==◌, All, Option, Some, None, IfSome, slice_get}
use Rattle.std.specs.Option.{option_map}
use Rattle.std.proofs.lemmas.Simd.{map-map}
use Rattle.std.proofs.lemmas.List.{length-map, take-map}
use Rattle.std.proofs.lemmas.Option.{same_Some, slice_get-map, slice_get_within}
use Rattle.k42_places.proofs.Appended.{slice_get-append_left, slice_get-append_seam}
use Rattle.k42_kinds.specs.Histories.{entries_of, unstamped}
use Rattle.k42_kinds.specs.declared.operation.Op.{Op}
use Rattle.k42_kinds.specs.declared.operation.Reply.{Reply}
use Rattle.k42_kinds.specs.declared.entry.Entry.{Entry}
use Rattle.k42_kinds.proofs.Splits.{heads, All-at_split}
use Rattle.script_text.specs.Lawful.{Deed, deed_of, IsNotGivenUp, IsLawful}
use Rattle.script_text.specs.declared.script.Script.{Script}
use Rattle.script_text.specs.declared.script.WorkerLines.{WorkerLines}
use Rattle.record_text.specs.Histories.{extra_of, line_of, record_of}
use Rattle.record_text.specs.Rules.{KeepsGenerations, IsLawfulRecord}
use Rattle.record_text.specs.Spelling.{HasGeneration}
use Rattle.record_text.specs.Told.{lines_by, processor_of, told_generation, generations_by, blocks_of, block_at, AreInStep}
use Rattle.record_text.specs.declared.record.Extra.{Extra}
use Rattle.record_text.specs.declared.record.RecordLine.{RecordLine}
use Rattle.k42_workers.specs.Workers.{IsMadeBy, HasDoneLines, IsRunOf}
use Rattle.k42_workers.proofs.Filtered.{filter-map, split_at, each_all, found_at, All-found, entries_of-split}

-- an entry of one list stands in another at the same place, but for its stamp
record IsTwin (others : List (Entry Op Reply)) (place : ℕ) (entry : Entry Op Reply) : Type 0 where
  twin : Entry Op Reply
  there : slice_get others place ≡ Some twin
  same : unstamped entry ≡ unstamped twin

twin_at : (entries others : List (Entry Op Reply)) → map unstamped entries ≡ map unstamped others → (place : ℕ) (entry : Entry Op Reply) → slice_get entries place ≡ Some entry → IsTwin others place entry
twin_at [] others same place entry there = cc
twin_at (first ∷ entries) [] same place entry there = cc
twin_at (first ∷ entries) (other ∷ others) same zero entry there =
    let parts = heads (unstamped first) (unstamped other) (map unstamped entries) (map unstamped others) same in
    record { twin = other; there = refl; same = ap unstamped (sym (same_Some first entry there)) ∙ parts.head }
twin_at (first ∷ entries) (other ∷ others) same (suc place) entry there =
    let parts = heads (unstamped first) (unstamped other) (map unstamped entries) (map unstamped others) same in
    let rest = twin_at entries others parts.tail place entry there in
    record { twin = rest.twin; there = rest.there; same = rest.same }

unstamped_deeds : (entries : List (Entry Op Reply)) → map deed_of (map unstamped entries) ≡ map deed_of entries
unstamped_deeds [] = refl
unstamped_deeds (entry ∷ entries) = ap (λ (rest : List Deed). deed_of entry ∷ rest) (unstamped_deeds entries)

-- the generation that is told of an entry is the entry's
told_of : (extra : Bool) (entry : Entry Op Reply) (told : ℕ) → told_generation (cond extra (Some (record { proc = entry.proc; generation = entry.generation })) None) ≡ Some told → entry.generation ≡ Some told
told_of true entry told here = here
told_of false entry told here = cc

-- and the processor is
processor_told : (extra : Bool) (entry : Entry Op Reply) (processor : ℕ) → entry.proc ≡ processor → IfSome (cond extra (Some (record { proc = entry.proc; generation = entry.generation })) None) (λ (told : Extra). told.proc ≡ processor)
processor_told true entry processor here = here
processor_told false entry processor here = tt

-- the entry of which a generation is told
record IsTold (found : Option (Entry Op Reply)) (told : ℕ) : Type 0 where
  entry : Entry Op Reply
  there : found ≡ Some entry
  generation : entry.generation ≡ Some told

told_by : (script : Script) (version : ℕ) (found : Option (Entry Op Reply)) (told : ℕ) → option_map (λ (entry : Entry Op Reply). told_generation (line_of script version entry).extra) found ≡ Some (Some told) → IsTold found told
told_by script version None told here = cc
told_by script version (Some entry) told here = record { entry = entry; there = refl; generation = told_of (version == 2) entry told (same_Some (told_generation (line_of script version entry).extra) (Some told) here) }

-- the lines of a worker are those of its entries
lines_of_worker : (script : Script) (version caller : ℕ) (entries : List (Entry Op Reply)) → lines_by caller (map (line_of script version) entries) ≡ map (line_of script version) (entries_of caller entries)
lines_of_worker script version caller entries = filter-map (λ (line : RecordLine). line.worker == caller) (line_of script version) entries

count_of_worker : (script : Script) (version caller : ℕ) (entries : List (Entry Op Reply)) → length (lines_by caller (map (line_of script version) entries)) ≡ length (entries_of caller entries)
count_of_worker script version caller entries = ap length (lines_of_worker script version caller entries) ∙ length-map (entries_of caller entries) (line_of script version)

-- and so are their generations
generations_of_worker : (script : Script) (version caller : ℕ) (entries : List (Entry Op Reply)) → generations_by caller (map (line_of script version) entries) ≡ map (λ (entry : Entry Op Reply). told_generation (line_of script version entry).extra) (entries_of caller entries)
generations_of_worker script version caller entries =
    ap (map (λ (line : RecordLine). told_generation line.extra)) (lines_of_worker script version caller entries) ∙ map-map (λ (line : RecordLine). told_generation line.extra) (line_of script version) (entries_of caller entries)

told_at : (script : Script) (version caller : ℕ) (entries : List (Entry Op Reply)) (place told : ℕ) → slice_get (generations_by caller (map (line_of script version) entries)) place ≡ Some (Some told) → IsTold (slice_get (entries_of caller entries) place) told
told_at script version caller entries place told here =
    told_by script version (slice_get (entries_of caller entries) place) told
    (sym (slice_get-map (λ (entry : Entry Op Reply). told_generation (line_of script version entry).extra) (entries_of caller entries) place) ∙ (rw (generations_of_worker script version caller entries) at here))

-- the entry whose line this is
record IsLineOf (script : Script) (version : ℕ) (found : Option (Entry Op Reply)) (line : RecordLine) : Type 0 where
  entry : Entry Op Reply
  there : found ≡ Some entry
  same : line_of script version entry ≡ line

line_by_entry : (script : Script) (version : ℕ) (found : Option (Entry Op Reply)) (line : RecordLine) → option_map (line_of script version) found ≡ Some line → IsLineOf script version found line
line_by_entry script version None line here = cc
line_by_entry script version (Some entry) line here = record { entry = entry; there = refl; same = same_Some (line_of script version entry) line here }

-- what is in step is so in the same blocks
same_step : {block other later_block later_other : ℕ} (former generation : ℕ) → block ≡ other → later_block ≡ later_other → AreInStep other later_other former generation → AreInStep block later_block former generation
same_step former generation same later_same step = record { risen = step.risen; level = λ some level. step.level (λ none. some (later_same ∙ none)) (sym same ∙ level ∙ later_same) }

module _ (script : Script) (history : List (Entry Op Reply)) (run : IsRunOf script history) where
  -- where an entry of the history stands among its worker's
  record IsAmong (before : List (Entry Op Reply)) (entry : Entry Op Reply) : Type 0 where
    worker : WorkerLines
    found : slice_get script.workers entry.caller ≡ Some worker
    entries : List (Entry Op Reply)
    done : HasDoneLines worker entries
    here : IsTwin entries (length (entries_of entry.caller before)) entry
    earlier : (place : ℕ) (other : Entry Op Reply) → slice_get (entries_of entry.caller before) place ≡ Some other → IsTwin entries place other

  among : (before : List (Entry Op Reply)) (entry : Entry Op Reply) (after : List (Entry Op Reply)) → history ≡ before ++ entry ∷ after → IsAmong before entry
  among before entry after e =
      let caller = entry.caller in
      let worker = found_at script.workers caller (All-at_split (λ (other : Entry Op Reply). other.caller < length script.workers) history run.no_stranger before entry after e) in
      let own = run.each caller worker.0 worker.1 in
      let parted : entries_of caller history ≡ entries_of caller before ++ entry ∷ entries_of caller after = ap (entries_of caller) e ∙ entries_of-split caller before entry after refl in
      record {
        worker = worker.0;
        found = worker.1;
        entries = own.entries;
        done = own.done;
        here = twin_at (entries_of caller history) own.entries own.in_order.same (length (entries_of caller before)) entry
            (ap (λ (all : List (Entry Op Reply)). slice_get all (length (entries_of caller before))) parted ∙ slice_get-append_seam (entries_of caller before) entry (entries_of caller after));
        earlier = λ place other there. twin_at (entries_of caller history) own.entries own.in_order.same place other
            (ap (λ (all : List (Entry Op Reply)). slice_get all place) parted ∙ slice_get-append_left (entries_of caller before) (entry ∷ entries_of caller after) place other there);
      }

  -- each entry was made by its worker
  made : (before : List (Entry Op Reply)) (entry : Entry Op Reply) (after : List (Entry Op Reply)) → history ≡ before ++ entry ∷ after → (place : IsAmong before entry) → IsMadeBy place.worker entry
  made before entry after e place =
      let twin = place.here.twin in
      let of = All-found (IsMadeBy place.worker) place.entries (length (entries_of entry.caller before)) twin place.done.made place.here.there in
      let act : entry.act ≡ twin.act = ap (λ (one : Entry Op Reply). one.act) place.here.same in
      let generation : entry.generation ≡ twin.generation = ap (λ (one : Entry Op Reply). one.generation) place.here.same in
      record {
        processor = ap (λ (one : Entry Op Reply). one.proc) place.here.same ∙ of.processor;
        kept = subst IsNotGivenUp (sym (ap (λ (one : Entry Op Reply). one.answer) place.here.same)) of.kept;
        generation = rw (act, generation) of.generation;
      }

  pub lawful : IsLawful script history
  lawful = record {
    legal = run.legal;
    in_order = λ number worker found.
        let own = run.each number worker found in
        sym (unstamped_deeds (entries_of number history)) ∙ ap (map deed_of) own.in_order.same ∙ unstamped_deeds own.entries ∙ own.done.deeds;
    no_stranger = run.no_stranger;
    none_given_up = each_all (λ entry. IsNotGivenUp entry.answer) history (λ before entry after e. (made before entry after e (among before entry after e)).kept);
  }

  -- a call has a generation, a swap has none
  pub generations : All (λ entry. HasGeneration entry.act entry.generation) history
  generations = each_all (λ entry. HasGeneration entry.act entry.generation) history (λ before entry after e. (made before entry after e (among before entry after e)).generation)

  -- a block is looked up among the worker's
  block_of : (caller place : ℕ) (worker : WorkerLines) → slice_get script.workers caller ≡ Some worker → block_at script caller place ≡ get_or (blocks_of worker.items) place 0
  block_of caller place worker found = rw found refl

  -- the generation of each line is in step with those before it
  step_kept : (version : ℕ) (before : List (Entry Op Reply)) (entry : Entry Op Reply) → IsAmong before entry
      → (generation : ℕ) → told_generation (extra_of version entry) ≡ Some generation
      → (earlier former : ℕ) → slice_get (generations_by entry.caller (map (line_of script version) before)) earlier ≡ Some (Some former)
      → AreInStep (block_at script entry.caller earlier) (block_at script entry.caller (length (lines_by entry.caller (map (line_of script version) before)))) former generation
  step_kept version before entry place generation later earlier former there =
      let caller = entry.caller in
      let own = entries_of caller before in
      let first = told_at script version caller before earlier former there in
      let twin = place.earlier earlier first.entry first.there in
      let step = place.done.in_step earlier (length own) twin.twin place.here.twin (slice_get_within own earlier first.entry first.there) twin.there place.here.there former generation
      (sym (ap (λ (one : Entry Op Reply). one.generation) twin.same) ∙ first.generation) (sym (ap (λ (one : Entry Op Reply). one.generation) place.here.same) ∙ told_of (version == 2) entry generation later) in
      same_step former generation (block_of caller earlier place.worker place.found)
      (block_of caller (length (lines_by caller (map (line_of script version) before))) place.worker place.found ∙ ap (λ (n : ℕ). get_or (blocks_of place.worker.items) n 0) (count_of_worker script version caller before)) step

  -- the line of each entry keeps the generations
  kept_by : (version : ℕ) (before : List (Entry Op Reply)) (entry : Entry Op Reply) (after : List (Entry Op Reply)) → history ≡ before ++ entry ∷ after → KeepsGenerations script (map (line_of script version) before) (line_of script version entry)
  kept_by version before entry after e =
      let place = among before entry after e in
      let on : entry.proc ≡ place.worker.proc = (made before entry after e place).processor in
      let processor : entry.proc ≡ processor_of script entry.caller = rw place.found on in
      record {
        processor = processor_told (version == 2) entry (processor_of script entry.caller) processor;
        generation = step_kept version before entry place;
      }

  kept_at : (version place : ℕ) (line : RecordLine) → slice_get (map (line_of script version) history) place ≡ Some line → KeepsGenerations script (take place (map (line_of script version) history)) line
  kept_at version place line there =
      let found = line_by_entry script version (slice_get history place) line (sym (slice_get-map (line_of script version) history place) ∙ there) in
      rw (take-map, ← found.same) (kept_by version (take place history) found.entry (drop (suc place) history) (split_at history place found.entry found.there))

  -- the record is lawful in all that it tells
  pub judged_lawful : (version : ℕ) → IsLawfulRecord script (record_of script history version)
  judged_lawful version = record { history = history; lawful = lawful; same = refl; generations = kept_at version }
