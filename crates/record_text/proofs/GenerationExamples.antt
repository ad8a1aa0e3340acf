-- Records of version 2: generations may fall from one worker to another, and not within one worker.
use Rattle.std.proofs.Common.{◌≡◌, ℕ, zero, suc, ◌<◌, List, [], ◌∷◌, take, refl, subst, arith}
use Rattle.std.specs.Prelude.{Some, slice_get, codes}
use Rattle.std.proofs.lemmas.List.Elements.{All-from_recursion}
use Rattle.std.proofs.lemmas.Option.{same_Some}
use Rattle.k42_kinds.specs.declared.operation.KindName.TheVariants.{Counter}
use Rattle.k42_kinds.specs.declared.operation.LayoutName.TheVariants.{Shared}
use Rattle.k42_kinds.specs.declared.operation.Op.{Op}
use Rattle.k42_kinds.specs.declared.operation.Op.TheVariants.{Add, Get}
use Rattle.k42_kinds.specs.declared.operation.Reply.{Reply}
use Rattle.k42_kinds.specs.declared.operation.Reply.TheVariants.{Done, Number}
use Rattle.k42_kinds.specs.declared.entry.Act.{Act}
use Rattle.k42_kinds.specs.declared.entry.Act.TheVariants.{Call}
use Rattle.k42_kinds.specs.declared.entry.Answer.TheVariants.{Replied}
use Rattle.k42_kinds.specs.declared.entry.Entry.{Entry}
use Rattle.k42_kinds.proofs.LegalHistories.{legal_history}
use Rattle.script_text.specs.Lawful.{IsNotGivenUp, IsLawful, DoesItsLines}
use Rattle.script_text.specs.declared.script.Item.{Item}
use Rattle.script_text.specs.declared.script.Item.TheVariants.{Line}
use Rattle.script_text.specs.declared.script.Script.{Script}
use Rattle.script_text.specs.declared.script.WorkerLines.{WorkerLines}
use Rattle.record_text.specs.Histories.{line_of, record_of}
use Rattle.record_text.specs.Rules.{Generations, KeepsAt, KeepsGenerations, IsLawfulRecord}
use Rattle.record_text.specs.declared.record.RecordLine.{RecordLine}

abbrev calls : ℕ → Act Op → Item
calls number act = Line (record { line = number; object = 0; act = act })

-- a worker on the processor of this number
abbrev worker : List ℕ → ℕ → List Item → WorkerLines
worker name proc items = record { name = name; proc = proc; items = items }

-- a script of one counter
abbrev counting : List WorkerLines → Script
counting workers = record { procs = 2; objects = record { name = codes "hits"; kind = Counter; layout = Shared } ∷ []; workers = workers }

abbrev entry : ℕ → ℕ → ℕ → Act Op → Reply → ℕ → ℕ → Entry Op Reply
entry stamp caller index act reply proc generation = record { stamp = stamp; caller = caller; index = index; object = 0; incarnation = 0; cell = 0; act = act; answer = Replied reply; proc = proc; generation = Some generation }

-- ---- two workers with a line each

abbrev first_worker : WorkerLines
first_worker = worker (codes "a") 0 (calls 4 (Call (Add 1)) ∷ [])

abbrev second_worker : WorkerLines
second_worker = worker (codes "b") 1 (calls 6 (Call Get) ∷ [])

abbrev of_two : Script
of_two = counting (first_worker ∷ second_worker ∷ [])

-- the later line, of the other worker, has the lower generation
abbrev falling_between : List (Entry Op Reply)
falling_between = entry 1 0 0 (Call (Add 1)) Done 0 5 ∷ entry 2 1 0 (Call Get) (Number 1) 1 3 ∷ []

two_in_order : (number : ℕ) (lines : WorkerLines) → slice_get of_two.workers number ≡ Some lines → DoesItsLines falling_between number lines
two_in_order zero lines found = subst (λ (w : WorkerLines). DoesItsLines falling_between 0 w) (same_Some first_worker lines found) refl
two_in_order (suc zero) lines found = subst (λ (w : WorkerLines). DoesItsLines falling_between 1 w) (same_Some second_worker lines found) refl
two_in_order (suc (suc number)) lines found = cc

two_lawful : IsLawful of_two falling_between
two_lawful = record {
  legal = legal_history _ _ (search arith) (search arith);
  in_order = two_in_order;
  no_stranger = All-from_recursion (λ (e : Entry Op Reply). e.caller < 2) falling_between (search arith);
  none_given_up = All-from_recursion (λ (e : Entry Op Reply). IsNotGivenUp e.answer) falling_between (search arith);
}

abbrev lines_of_two : List RecordLine
lines_of_two = (record_of of_two falling_between 2).lines

two_in_step : (place : ℕ) → KeepsAt of_two lines_of_two place Generations
two_in_step zero line found = subst (λ (l : RecordLine). KeepsGenerations of_two [] l) (same_Some (line_of of_two 2 (entry 1 0 0 (Call (Add 1)) Done 0 5)) line found)
    (record { processor = refl; generation = λ generation is earlier former there. cc there })
two_in_step (suc zero) line found = subst (λ (l : RecordLine). KeepsGenerations of_two (take 1 lines_of_two) l) (same_Some (line_of of_two 2 (entry 2 1 0 (Call Get) (Number 1) 1 3)) line found)
    (record { processor = refl; generation = λ generation is earlier former there. cc there })
two_in_step (suc (suc place)) line found = cc

falls_between_workers : IsLawfulRecord of_two (record_of of_two falling_between 2)
falls_between_workers = record { history = falling_between; lawful = two_lawful; same = refl; generations = two_in_step }

-- ---- one worker with two lines

abbrev only_worker : WorkerLines
only_worker = worker (codes "a") 0 (calls 4 (Call (Add 1)) ∷ calls 5 (Call Get) ∷ [])

abbrev of_one : Script
of_one = counting (only_worker ∷ [])

-- the two lines, in these generations
abbrev told_in : ℕ → ℕ → List (Entry Op Reply)
told_in former later = entry 1 0 0 (Call (Add 1)) Done 0 former ∷ entry 2 0 1 (Call Get) (Number 1) 0 later ∷ []

one_in_order : (former later number : ℕ) (lines : WorkerLines) → slice_get of_one.workers number ≡ Some lines → DoesItsLines (told_in former later) number lines
one_in_order former later zero lines found = subst (λ (w : WorkerLines). DoesItsLines (told_in former later) 0 w) (same_Some only_worker lines found) refl
one_in_order former later (suc number) lines found = cc

-- in whatever generations, the history is lawful
one_lawful : (former later : ℕ) → IsLawful of_one (told_in former later)
one_lawful former later = record {
  legal = legal_history _ _ (search arith) (search arith);
  in_order = one_in_order former later;
  no_stranger = All-from_recursion (λ (e : Entry Op Reply). e.caller < 1) (told_in former later) (search arith);
  none_given_up = All-from_recursion (λ (e : Entry Op Reply). IsNotGivenUp e.answer) (told_in former later) (search arith);
}

-- but the record is not where the generation falls
falls_within_worker : IsLawfulRecord of_one (record_of of_one (told_in 5 3) 2) → ⊥
falls_within_worker lawful =
    let keeps = lawful.generations 1 (line_of of_one 2 (entry 2 0 1 (Call Get) (Number 1) 0 3)) refl in
    let step = keeps.generation 3 refl 0 5 refl in
    absurd (omega (arith, step.risen))
