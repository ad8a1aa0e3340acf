-- What is true of the script after each line that is not refused.
use Rattle.std.proofs.Common.{◌≡◌, ℕ, ◌+◌, ◌<◌, ◌≤◌, Bool, false, List, [], ◌∷◌, ◌++◌, length, refl, sym, subst, length-append, arith}
use Rattle.std.specs.Prelude.{Some, All, slice_get}
use Rattle.std.specs.List.{list_any, AllByRecursion}
use Rattle.std.specs.Str.{bytes_eq}
use Rattle.std.proofs.lemmas.List.{append-nil, map-append}
use Rattle.std.proofs.lemmas.List.Elements.{All-nil, All-push, All-weaker, All-from_recursion, recursion_from_All}
use Rattle.std.proofs.lemmas.List.Sums.{sum_by_push}
use Rattle.std.proofs.lemmas.Option.{none-some}
use Rattle.k42_kinds.specs.declared.operation.KindName.{KindName}
use Rattle.k42_limits.specs.declared.TheConstants.{PROCESSORS, OBJECTS, CALLERS, CALL_LINES}
use Rattle.k42_places.proofs.Appended.{slice_get-append_left}
use Rattle.script_text.specs.Language.{with_item, with_object, with_worker, with_last_item}
use Rattle.script_text.specs.Lawful.{kinds_of, call_lines}
use Rattle.script_text.specs.Offences.{call_count, object_names, worker_names, is_open_behind, is_in_block}
use Rattle.script_text.specs.Sound.{IsSoundLine, IsFreeName, HasDistinctNames}
use Rattle.script_text.specs.declared.script.CallLine.{CallLine}
use Rattle.script_text.specs.declared.script.Item.{Item}
use Rattle.script_text.specs.declared.script.Item.TheVariants.{Begin, End, Line}
use Rattle.script_text.specs.declared.script.ObjectLine.{ObjectLine}
use Rattle.script_text.specs.declared.script.Script.{Script}
use Rattle.script_text.specs.declared.script.WorkerHead.{WorkerHead}
use Rattle.script_text.specs.declared.script.WorkerLines.{WorkerLines}
use Rattle.script_text.proofs.SoundLists.{distinct-push, AreRising, rising-push, BlocksMatchSoFar, blocks-push, EarlierAreClosed, closed-push, with_item-closed, call_lines-push, with_one, with_item-each, with_item-names, with_item-length, asked_by, with_item-count}

-- The lines are sound for the script, their numbers rise, and each is below that of the next line.
pub record HoldsLines (next : ℕ) (script : Script) (lines : List CallLine) : Type 0 where
  pub sound : All (IsSoundLine script) lines
  pub rising : AreRising lines
  pub earlier : All (λ line. line.line < next) lines

pub record HoldsWorker (next : ℕ) (script : Script) (worker : WorkerLines) : Type 0 where
  pub processor : worker.proc < script.procs
  pub lines : HoldsLines next script (call_lines worker.items)
  pub blocks : BlocksMatchSoFar false worker.items

-- what is true of the script where the next line has this number
pub record IsSoundSoFar (next : ℕ) (script : Script) : Type 0 where
  pub processors : script.procs ≤ PROCESSORS
  pub start : script.procs ≡ 0 → (script.objects ≡ []) × (script.workers ≡ [])
  pub objects : length script.objects ≤ OBJECTS
  pub callers : length script.workers ≤ CALLERS
  pub workers : AllByRecursion (HoldsWorker next script) script.workers
  pub closed : EarlierAreClosed script.workers
  pub names : HasDistinctNames script
  pub few : call_count script ≤ CALL_LINES

-- the new script has the processors and the objects of the old one, and may have more objects
record Extends (old new : Script) : Type 0 where
  procs : old.procs ≡ new.procs
  kinds : (place : ℕ) (kind : KindName) → slice_get (kinds_of old) place ≡ Some kind → slice_get (kinds_of new) place ≡ Some kind

module _ (old new : Script) (extends : Extends old new) (next later : ℕ) (le : next ≤ later) where
  line_kept : (line : CallLine) → IsSoundLine old line → IsSoundLine new line
  line_kept line sound = record { kind = sound.kind; declared = extends.kinds line.object sound.kind sound.declared; asked = sound.asked }

  lines_kept : (lines : List CallLine) → HoldsLines next old lines → HoldsLines later new lines
  lines_kept lines holds = record {
    sound = All-weaker (IsSoundLine old) (IsSoundLine new) line_kept lines holds.sound;
    rising = holds.rising;
    earlier = All-weaker (λ (line : CallLine). line.line < next) (λ (line : CallLine). line.line < later) (λ line before. omega (arith, before, le)) lines holds.earlier;
  }

  worker_kept : (worker : WorkerLines) → HoldsWorker next old worker → HoldsWorker later new worker
  worker_kept worker holds = record { processor = subst (λ (procs : ℕ). worker.proc < procs) extends.procs holds.processor; lines = lines_kept (call_lines worker.items) holds.lines; blocks = holds.blocks }

  workers_kept : (workers : List WorkerLines) → AllByRecursion (HoldsWorker next old) workers → AllByRecursion (HoldsWorker later new) workers
  workers_kept [] holds = tt
  workers_kept (worker ∷ workers) holds = (worker_kept worker holds.0, workers_kept workers holds.1)

-- the item may be the next one: a line has the next number and is sound
abbrev pub IsNextItem : ℕ → Script → Item → Type 0
IsNextItem next script Begin = Unit {0}
IsNextItem next script End = Unit {0}
IsNextItem next script (Line line) = IsSoundLine script line × (line.line ≡ next)

module _ (next : ℕ) (script : Script) where
  lines_more : (lines : List CallLine) (item : Item) → IsNextItem next script item → HoldsLines next script lines → HoldsLines (next + 1) script (lines ++ call_lines (item ∷ []))
  lines_more lines Begin may holds = subst (HoldsLines (next + 1) script) (sym (append-nil lines)) (lines_kept script script (record { procs = refl; kinds = λ place kind e. e }) next (next + 1) (omega arith) lines holds)
  lines_more lines End may holds = subst (HoldsLines (next + 1) script) (sym (append-nil lines)) (lines_kept script script (record { procs = refl; kinds = λ place kind e. e }) next (next + 1) (omega arith) lines holds)
  lines_more lines (Line line) may holds = record {
    sound = All-push (IsSoundLine script) lines line holds.sound may.0;
    rising = rising-push lines line holds.rising (All-weaker (λ (early : CallLine). early.line < next) (λ (early : CallLine). early.line < line.line) (λ early before. omega (arith, before, may.1)) lines holds.earlier);
    earlier = All-push (λ (early : CallLine). early.line < next + 1) lines line
        (All-weaker (λ (early : CallLine). early.line < next) (λ (early : CallLine). early.line < next + 1) (λ early before. omega (arith, before)) lines holds.earlier) (omega (arith, may.1));
  }

  worker_more : (worker : WorkerLines) (item : Item) → IsNextItem next script item → BlocksMatchSoFar (is_open_behind false worker.items) (item ∷ []) → HoldsWorker next script worker → HoldsWorker (next + 1) script (with_one worker item)
  worker_more worker item may fits holds = record {
    processor = holds.processor;
    lines = subst (HoldsLines (next + 1) script) (sym (call_lines-push worker.items item)) (lines_more (call_lines worker.items) item may holds.lines);
    blocks = blocks-push false worker.items item holds.blocks fits;
  }

-- the script goes on to be so where nothing is added
module _ (next : ℕ) (script : Script) (sound : IsSoundSoFar next script) where
  pub same_script : IsSoundSoFar (next + 1) script
  same_script = record {
    processors = sound.processors;
    start = sound.start;
    objects = sound.objects;
    callers = sound.callers;
    workers = workers_kept script script (record { procs = refl; kinds = λ place kind e. e }) next (next + 1) (omega arith) script.workers sound.workers;
    closed = sound.closed;
    names = sound.names;
    few = sound.few;
  }

  pub keeps_procs : (procs : ℕ) → script.procs ≡ 0 → (1 ≤ procs) × (procs ≤ PROCESSORS) → IsSoundSoFar (next + 1) (record script { procs = procs })
  keeps_procs procs none range = record {
    processors = range.1;
    start = λ zero. absurd (omega (arith, zero, range.0));
    objects = sound.objects;
    callers = sound.callers;
    workers = subst (λ (workers : List WorkerLines). AllByRecursion (HoldsWorker (next + 1) (record script { procs = procs })) workers) (sym (sound.start none).1) tt;
    closed = sound.closed;
    names = record { object_names = sound.names.object_names; worker_names = sound.names.worker_names; free_objects = sound.names.free_objects; free_workers = sound.names.free_workers };
    few = sound.few;
  }

  pub keeps_object : (object : ObjectLine) → (script.procs ≡ 0 → ⊥) → IsFreeName object.name → list_any (bytes_eq object.name) (object_names script) ≡ false → length script.objects < OBJECTS → IsSoundSoFar (next + 1) (with_object script object)
  keeps_object object some free new few = record {
    processors = sound.processors;
    start = λ zero. absurd (some zero);
    objects = omega (arith, few, length-append script.objects (object ∷ []));
    callers = sound.callers;
    workers = workers_kept script (with_object script object) (record { procs = refl; kinds = longer }) next (next + 1) (omega arith) script.workers sound.workers;
    closed = sound.closed;
    names = record {
      object_names = rw (map-append (λ (line : ObjectLine). line.name) script.objects (object ∷ [])) (distinct-push (object_names script) object.name sound.names.object_names new);
      worker_names = sound.names.worker_names;
      free_objects = All-push (λ (line : ObjectLine). IsFreeName line.name) script.objects object sound.names.free_objects free;
      free_workers = sound.names.free_workers;
    };
    few = sound.few;
  }
    where
      longer : (place : ℕ) (kind : KindName) → slice_get (kinds_of script) place ≡ Some kind → slice_get (kinds_of (with_object script object)) place ≡ Some kind
      longer place kind there = rw (map-append (λ (line : ObjectLine). line.kind) script.objects (object ∷ [])) (slice_get-append_left (kinds_of script) (object.kind ∷ []) place kind there)

  -- workers with one more behind them
  workers_push : (P : WorkerLines → Type 0) (workers : List WorkerLines) (worker : WorkerLines) → AllByRecursion P workers → P worker → AllByRecursion P (workers ++ worker ∷ [])
  workers_push P [] worker each last = (last, tt)
  workers_push P (first ∷ workers) worker each last = (each.0, workers_push P workers worker each.1 last)

  pub keeps_worker : (head : WorkerHead) → (script.procs ≡ 0 → ⊥) → IsFreeName head.name → head.proc < script.procs → list_any (bytes_eq head.name) (worker_names script) ≡ false → length script.workers < CALLERS → is_in_block script ≡ false
      → IsSoundSoFar (next + 1) (with_worker script head)
  keeps_worker head some free placed new few outside =
      let idle : WorkerLines = record { name = head.name; proc = head.proc; items = [] } in
      record {
        processors = sound.processors;
        start = λ zero. absurd (some zero);
        objects = sound.objects;
        callers = omega (arith, few, length-append script.workers (idle ∷ []));
        workers = workers_push (HoldsWorker (next + 1) (with_worker script head)) script.workers idle
            (workers_kept script (with_worker script head) (record { procs = refl; kinds = λ place kind e. e }) next (next + 1) (omega arith) script.workers sound.workers)
            (record {
              processor = placed;
              lines = record { sound = All-nil (IsSoundLine (with_worker script head)); rising = λ i j earlier later before at_i at_j. absurd (none-some earlier at_i); earlier = All-nil (λ (line : CallLine). line.line < next + 1) };
              blocks = refl;
            });
        closed = closed-push script.workers idle sound.closed outside;
        names = record {
          object_names = sound.names.object_names;
          worker_names = rw (map-append (λ (worker : WorkerLines). worker.name) script.workers (idle ∷ [])) (distinct-push (worker_names script) head.name sound.names.worker_names new);
          free_objects = sound.names.free_objects;
          free_workers = All-push (λ (worker : WorkerLines). IsFreeName worker.name) script.workers idle sound.names.free_workers free;
        };
        few = omega (arith, sound.few, sum_by_push asked_by script.workers idle);
      }

  pub keeps_item : (item : Item) → (script.procs ≡ 0 → ⊥) → IsNextItem next script item → BlocksMatchSoFar (is_in_block script) (item ∷ []) → call_count script + length (call_lines (item ∷ [])) ≤ CALL_LINES → IsSoundSoFar (next + 1) (with_last_item script item)
  keeps_item item some may fits few =
      let new : Script = with_last_item script item in
      let kept : Extends script new = record { procs = refl; kinds = λ place kind e. e } in
      record {
        processors = sound.processors;
        start = λ zero. absurd (some zero);
        objects = sound.objects;
        callers = rw (with_item-length item script.workers) sound.callers;
        workers = with_item-each (HoldsWorker next script) (HoldsWorker (next + 1) new) item script.workers (worker_kept script new kept next (next + 1) (omega arith))
            (λ worker last holds. worker_kept script new kept (next + 1) (next + 1) (omega arith) (with_one worker item)
            (worker_more next script worker item may (subst (λ (in_block : Bool). BlocksMatchSoFar in_block (item ∷ [])) (sym last) fits) holds))
            sound.workers;
        closed = with_item-closed item script.workers sound.closed;
        names = record {
          object_names = sound.names.object_names;
          worker_names = rw (with_item-names item script.workers) sound.names.worker_names;
          free_objects = sound.names.free_objects;
          free_workers = All-from_recursion (λ (worker : WorkerLines). IsFreeName worker.name) (with_item item script.workers)
              (with_item-each (λ (worker : WorkerLines). IsFreeName worker.name) (λ (worker : WorkerLines). IsFreeName worker.name) item script.workers (λ worker free. free) (λ worker last free. free)
              (recursion_from_All (λ (worker : WorkerLines). IsFreeName worker.name) script.workers sound.names.free_workers));
        };
        few = omega (arith, few, with_item-count item script.workers);
      }
