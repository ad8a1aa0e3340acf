-- Every script that can be read is sound.
use Rattle.std.proofs.Common.{◌≡◌, ℕ, ◌+◌, ◌==◌, Bool, true, false, cond, not, ◌&&◌, List, [], ◌∷◌, ◌++◌, length, length-append, refl, subst, arith}
use Rattle.std.specs.Prelude.{Option, Some, None, Result, Ok, Err, IfOk, IfSome}
use Rattle.std.specs.List.{AllByRecursion}
use Rattle.std.proofs.lemmas.Bool.Decides.{nat_tests}
use Rattle.std.proofs.lemmas.List.Elements.{All-nil, All-from_recursion}
use Rattle.std.proofs.lemmas.Option.{none-some}
use Rattle.script_text.specs.Lines.{lines_of, text_of}
use Rattle.script_text.specs.Tokens.{tokens_of, says_nothing}
use Rattle.script_text.specs.Forms.{form_of, begins_procs}
use Rattle.script_text.specs.Offences.{is_open_behind, is_last_open, is_in_block, wants_procs}
use Rattle.script_text.specs.Language.{with_said, no_script, script_after, is_refused_for, offends_by, causes, cause_of, fault_at, last_number, script_at_end, unless_refused, read_on, parsed}
use Rattle.script_text.specs.Sound.{BlocksMatch, IsSoundWorker, IsFreeName, IsSound}
use Rattle.script_text.specs.Outcome.{Answers}
use Rattle.script_text.specs.declared.form.Form.{Form}
use Rattle.script_text.specs.declared.fault.ParseEnd.{ParseEnd}
use Rattle.script_text.specs.declared.fault.ScriptCause.{ScriptCause}
use Rattle.script_text.specs.declared.fault.ScriptCause.TheVariants.{ProcsExpected, UnknownWord, BadNumber, BadName, NameTwice, UnknownObject, WrongKind, WorkerExpected, TooMany, BlockFault}
use Rattle.script_text.specs.declared.fault.ScriptFault.{ScriptFault}
use Rattle.script_text.specs.declared.script.ObjectLine.{ObjectLine}
use Rattle.script_text.specs.declared.script.Script.{Script}
use Rattle.script_text.specs.declared.script.WorkerLines.{WorkerLines}
use Rattle.script_text.proofs.SoundForms.{IsFormed, IsProcs, form_of-formed, form_of-procs}
use Rattle.script_text.proofs.SoundLists.{EarlierAreClosed}
use Rattle.script_text.proofs.SoundSteps.{HoldsWorker, IsSoundSoFar, same_script}
use Rattle.script_text.proofs.Refusals.{first_of-none}
use Rattle.script_text.proofs.SoundRequests.{keeps_form}
use Rattle.script_text.proofs.Underway.{with_lines-push}

-- a line with these tokens and this form says nothing, or what no test refuses
IsAccepted : Script → Bool → List (List ℕ) → Option Form → Type 0
IsAccepted script silent tokens form =
    AllByRecursion (λ (cause : ScriptCause). (not silent && is_refused_for script tokens form cause) ≡ false)
    (ProcsExpected ∷ UnknownWord ∷ BadNumber ∷ BadName ∷ NameTwice ∷ UnknownObject ∷ WrongKind ∷ WorkerExpected ∷ TooMany ∷ BlockFault ∷ [])

-- where there are no processors yet, a line that is not refused begins as one of them
begins_when_wanted : (script : Script) (tokens : List (List ℕ)) → wants_procs script tokens ≡ false → script.procs ≡ 0 → begins_procs tokens ≡ true
begins_when_wanted script tokens wanted none = grind (arith, nat_tests, wanted, none)

module _ (next : ℕ) (script : Script) (sound : IsSoundSoFar next script) (tokens : List (List ℕ)) where
  keeps_said : (silent : Bool) (form : Option Form) → IfSome form (IsFormed script.procs) → (begins_procs tokens ≡ true → IfSome form IsProcs) → IsAccepted script silent tokens form
      → IsSoundSoFar (next + 1) (cond silent script (with_said script next form))
  unfolding IsAccepted
  keeps_said true form formed begins accepted = same_script next script sound
  keeps_said false None formed begins accepted = same_script next script sound
  keeps_said false (Some form) formed begins accepted =
      keeps_form next script sound form (λ none. begins (begins_when_wanted script tokens accepted.0 none)) formed (record {
        known = accepted.1.0;
        new = accepted.1.1.1.1.0;
        own_kind = accepted.1.1.1.1.1.1.0;
        few = accepted.1.1.1.1.1.1.1.1.0;
        in_place = accepted.1.1.1.1.1.1.1.1.1.0;
      })

-- one more line that is not refused
pub keeps_line : (before : List (List ℕ)) (line : List ℕ) → IsSoundSoFar (1 + length before) (script_after before) → cause_of before line ≡ None → IsSoundSoFar (1 + length (before ++ line ∷ [])) (script_after (before ++ line ∷ []))
unfolding IsAccepted
keeps_line before line sound none =
    let tokens : List (List ℕ) = tokens_of (text_of line) in
    let tests = first_of-none (offends_by before line) causes none in
    let longer : (1 + length before) + 1 ≡ 1 + length (before ++ line ∷ []) = omega (arith, length-append before (line ∷ [])) in
    let kept = keeps_said (1 + length before) (script_after before) sound tokens (says_nothing tokens) (form_of (script_after before).procs tokens) (form_of-formed (script_after before).procs tokens)
    (form_of-procs (script_after before).procs tokens) tests.1.1 in
    rw (with_lines-push no_script 1 before line, ← longer) kept

module _ (next : ℕ) (script : Script) where
  -- a worker that has no activity open
  sound_worker : (worker : WorkerLines) → HoldsWorker next script worker → is_open_behind false worker.items ≡ false → IsSoundWorker script worker
  sound_worker worker holds closed = record {
    processor = holds.processor;
    lines = holds.lines.sound;
    rising = holds.lines.rising;
    blocks = subst (BlocksMatch false worker.items) closed holds.blocks;
  }

  pub sound_workers : (workers : List WorkerLines) → AllByRecursion (HoldsWorker next script) workers → EarlierAreClosed workers → is_last_open workers ≡ false → AllByRecursion (IsSoundWorker script) workers
  sound_workers [] holds earlier last = tt
  sound_workers (worker ∷ []) holds earlier last = (sound_worker worker holds.0 last, tt)
  sound_workers (worker ∷ other ∷ workers) holds earlier last = (sound_worker worker holds.0 earlier.0, sound_workers (other ∷ workers) holds.1 earlier.1 last)

-- at the end a script of some processors, with no activity open, is sound
ended_script : (next : ℕ) (script : Script) → IsSoundSoFar next script → (script.procs == 0) ≡ false → is_in_block script ≡ false → IsSound script
ended_script next script sound some closed = record {
  some_processor = grind (arith, nat_tests, some);
  processors = sound.processors;
  objects = sound.objects;
  callers = sound.callers;
  workers = All-from_recursion (IsSoundWorker script) script.workers (sound_workers next script script.workers sound.workers sound.closed closed);
  names = sound.names;
  few = sound.few;
}

err-ok : {Y : Type 0} (fault : ScriptFault) (script : Script) → ◌≡◌ {A = Result Script ScriptFault} (Err fault) (Ok script) → Y
err-ok fault script e = absurd cc

-- what is answered at the end is the script that was read, which has processors and no activity open
ended_by : (none in_block : Bool) (early late : ScriptFault) (read script : Script) → ◌≡◌ {A = Result Script ScriptFault} (cond none (Err early) (cond in_block (Err late) (Ok read))) (Ok script) → (none ≡ false) × (in_block ≡ false) × (read ≡ script)
ended_by true in_block early late read script e = err-ok early script e
ended_by false true early late read script e = err-ok late script e
ended_by false false early late read script e = (refl, refl, cc)

ended_sound : (next number : ℕ) (read script : Script) → IsSoundSoFar next read → script_at_end number read ≡ Ok script → IsSound script
ended_sound next number read script sound e =
    let ended = ended_by (read.procs == 0) (is_in_block read) (fault_at number ProcsExpected) (fault_at number BlockFault) read script e in
    subst IsSound ended.2 (ended_script next read sound ended.0 ended.1)

unless_sound : (number : ℕ) (cause : Option ScriptCause) (next : Result Script ScriptFault) (script : Script) → (cause ≡ None → next ≡ Ok script → IsSound script) → unless_refused number cause next ≡ Ok script → IsSound script
unless_sound number (Some cause) next script sound e = err-ok (fault_at number cause) script e
unless_sound number None next script sound e = sound refl e

read_on-sound : (before lines : List (List ℕ)) (script : Script) → IsSoundSoFar (1 + length before) (script_after before) → read_on before lines ≡ Ok script → IsSound script
read_on-sound before [] script sound e = ended_sound (1 + length before) (last_number before) (script_after before) script sound e
read_on-sound before (line ∷ lines) script sound e =
    unless_sound (length before + 1) (cause_of before line) (read_on (before ++ line ∷ []) lines) script
    (λ none found. read_on-sound (before ++ line ∷ []) lines script (keeps_line before line sound none) found) e

-- before the first line
pub nothing_read : IsSoundSoFar 1 no_script
nothing_read = record {
  processors = omega arith;
  start = λ none. (refl, refl);
  objects = omega arith;
  callers = omega arith;
  workers = tt;
  closed = tt;
  names = record {
    object_names = λ i j name at_i at_j. absurd (none-some name at_i);
    worker_names = λ i j name at_i at_j. absurd (none-some name at_i);
    free_objects = All-nil (λ (object : ObjectLine). IsFreeName object.name);
    free_workers = All-nil (λ (worker : WorkerLines). IsFreeName worker.name);
  };
  few = omega arith;
}

-- a script that the bytes spell is sound
pub parsed-sound : (bytes : List ℕ) (script : Script) → parsed bytes ≡ Ok script → IsSound script
parsed-sound bytes script e = read_on-sound [] (lines_of bytes) script nothing_read e

-- so is one that was answered
pub answered-sound : (bytes : List ℕ) (result : Result Script ParseEnd) → Answers (parsed bytes) result → IfOk result IsSound
answered-sound bytes (Ok script) answers = parsed-sound bytes script answers
answered-sound bytes (Err end) answers = tt
