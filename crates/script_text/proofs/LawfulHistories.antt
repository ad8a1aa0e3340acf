-- A script, a history that is lawful for it, and histories that are not.
use Rattle.std.proofs.Common.{◌≡◌, ℕ, zero, suc, ◌<◌, List, [], ◌∷◌, Some, refl, arith}
use Rattle.std.specs.Prelude.{slice_get}
use Rattle.k42_kinds.specs.declared.operation.KindName.TheVariants.{Counter}
use Rattle.k42_kinds.specs.declared.operation.LayoutName.TheVariants.{Shared}
use Rattle.k42_kinds.specs.declared.operation.Op.{Op}
use Rattle.k42_kinds.specs.declared.operation.Op.TheVariants.{Add, Get}
use Rattle.k42_kinds.specs.declared.operation.Reply.{Reply}
use Rattle.k42_kinds.specs.declared.operation.Reply.TheVariants.{Done, Number}
use Rattle.k42_kinds.specs.declared.entry.Act.{Act}
use Rattle.k42_kinds.specs.declared.entry.Act.TheVariants.{Call, Swap}
use Rattle.k42_kinds.specs.declared.entry.To.TheVariants.{Layout}
use Rattle.k42_kinds.specs.declared.entry.Answer.TheVariants.{Replied, Abandoned}
use Rattle.k42_kinds.specs.declared.entry.Entry.{Entry}
use Rattle.std.proofs.lemmas.List.Elements.{All-from_recursion}
use Rattle.k42_kinds.proofs.LegalHistories.{legal_history}
use Rattle.k42_kinds.proofs.ExampleLines.{line}
use Rattle.k42_kinds.proofs.Splits.{All-at_split}
use Rattle.script_text.specs.declared.script.Item.{Item}
use Rattle.script_text.specs.declared.script.Item.TheVariants.{Begin, End, Line}
use Rattle.script_text.specs.declared.script.Script.{Script}
use Rattle.script_text.specs.declared.script.WorkerLines.{WorkerLines}
use Rattle.script_text.specs.Lawful.{IsLawful, DoesItsLines, IsNotGivenUp}

-- a line that asks something of object 0
abbrev asks : ℕ → Act Op → Item
asks number act = Line (record { line = number; object = 0; act = act })

-- the worker `a` adds 5 and asks for the value in one activity; the worker `b` asks for the value
abbrev adder : WorkerLines
adder = record { name = 97 ∷ []; proc = 0; items = Begin ∷ asks 6 (Call (Add 5)) ∷ asks 7 (Call Get) ∷ End ∷ [] }

abbrev reader : WorkerLines
reader = record { name = 98 ∷ []; proc = 0; items = asks 10 (Call Get) ∷ [] }

-- they share the counter `hits`
abbrev two_workers : Script
two_workers = record { procs = 1; objects = record { name = 104 ∷ 105 ∷ 116 ∷ 115 ∷ []; kind = Counter; layout = Shared } ∷ []; workers = adder ∷ reader ∷ [] }

abbrev taking_turns : List (Entry Op Reply)
taking_turns = line 1 0 0 0 (Call (Add 5)) (Replied Done) ∷ line 2 1 0 0 (Call Get) (Replied (Number 5)) ∷ line 3 0 1 0 (Call Get) (Replied (Number 5)) ∷ []

each_does_its_lines : (number : ℕ) (worker : WorkerLines) → slice_get two_workers.workers number ≡ Some worker → DoesItsLines taking_turns number worker
each_does_its_lines zero worker there = cc
each_does_its_lines (suc zero) worker there = cc
each_does_its_lines (suc (suc number)) worker there = cc

taking_turns_lawful : IsLawful two_workers taking_turns
taking_turns_lawful = record {
  legal = legal_history _ _ (search arith) (search arith);
  in_order = each_does_its_lines;
  no_stranger = search arith;
  none_given_up = All-from_recursion (λ (entry : Entry Op Reply). IsNotGivenUp entry.answer) taking_turns search;
}

-- `b` is not there
missing_worker : IsLawful two_workers (line 1 0 0 0 (Call (Add 5)) (Replied Done) ∷ line 2 0 1 0 (Call Get) (Replied (Number 5)) ∷ []) → ⊥
missing_worker lawful = let same = lawful.in_order 1 reader refl in cc

-- the last line of `a` is not there
missing_line : IsLawful two_workers (line 1 0 0 0 (Call (Add 5)) (Replied Done) ∷ line 2 1 0 0 (Call Get) (Replied (Number 5)) ∷ []) → ⊥
missing_line lawful = let same = lawful.in_order 0 adder refl in cc

-- `b` asks twice
repeated_line : IsLawful two_workers (line 1 0 0 0 (Call (Add 5)) (Replied Done) ∷ line 2 1 0 0 (Call Get) (Replied (Number 5)) ∷ line 3 1 0 0 (Call Get) (Replied (Number 5)) ∷ line 4 0 1 0 (Call Get) (Replied (Number 5)) ∷ []) → ⊥
repeated_line lawful = let same = lawful.in_order 1 reader refl in cc

-- somebody else asks too
stranger : IsLawful two_workers (line 1 0 0 0 (Call (Add 5)) (Replied Done) ∷ line 2 1 0 0 (Call Get) (Replied (Number 5)) ∷ line 3 0 1 0 (Call Get) (Replied (Number 5)) ∷ line 4 2 0 0 (Call Get) (Replied (Number 5)) ∷ []) → ⊥
stranger lawful = omega (arith, All-at_split (λ (entry : Entry Op Reply). entry.caller < 2) _ lawful.no_stranger taking_turns (line 4 2 0 0 (Call Get) (Replied (Number 5))) [] refl)

-- the worker `a` asks for a swap of the counter
abbrev one_swap : Script
one_swap = record two_workers { workers = record adder { items = asks 4 (Swap (Layout 0)) ∷ [] } ∷ [] }

given_up : IsLawful one_swap (line 1 0 0 0 (Swap (Layout 0)) (Abandoned 1) ∷ []) → ⊥
given_up lawful = All-at_split (λ (entry : Entry Op Reply). IsNotGivenUp entry.answer) _ lawful.none_given_up [] (line 1 0 0 0 (Swap (Layout 0)) (Abandoned 1)) [] refl
