-- Histories that are not lawful for a script: for each part of the definition one that breaks this part.
use Rattle.std.proofs.Common.{ℕ, List, [], ◌∷◌, map, refl, ap, arith}
use Rattle.std.specs.Prelude.{codes}
use Rattle.k42_kinds.specs.declared.operation.KindName.TheVariants.{Counter}
use Rattle.k42_kinds.specs.declared.operation.LayoutName.TheVariants.{Shared}
use Rattle.k42_kinds.specs.declared.operation.Op.{Op}
use Rattle.k42_kinds.specs.declared.operation.Op.TheVariants.{Add, Get}
use Rattle.k42_kinds.specs.declared.operation.Reply.{Reply}
use Rattle.k42_kinds.specs.declared.operation.Reply.TheVariants.{Done, Number}
use Rattle.k42_kinds.specs.declared.entry.Act.{Act}
use Rattle.k42_kinds.specs.declared.entry.Act.TheVariants.{Call, Swap}
use Rattle.k42_kinds.specs.declared.entry.To.TheVariants.{Layout}
use Rattle.k42_kinds.specs.declared.entry.Answer.TheVariants.{Replied, Busy}
use Rattle.k42_kinds.specs.declared.entry.Entry.{Entry}
use Rattle.k42_kinds.specs.Legal.{IsRival}
use Rattle.k42_kinds.proofs.LegalHistories.{illegal_at}
use Rattle.k42_kinds.proofs.Splits.{none-Any}
use Rattle.k42_kinds.proofs.ExampleLines.{line, on}
use Rattle.script_text.specs.declared.script.Item.{Item}
use Rattle.script_text.specs.declared.script.Item.TheVariants.{Line}
use Rattle.script_text.specs.declared.script.ObjectLine.{ObjectLine}
use Rattle.script_text.specs.declared.script.Script.{Script}
use Rattle.script_text.specs.declared.script.WorkerLines.{WorkerLines}
use Rattle.script_text.specs.Lawful.{IsLawful, Deed}

abbrev asks : ℕ → ℕ → Act Op → Item
asks number object act = Line (record { line = number; object = object; act = act })

abbrev worker : List ℕ → List Item → WorkerLines
worker name items = record { name = name; proc = 0; items = items }

abbrev counter : List ℕ → ObjectLine
counter name = record { name = name; kind = Counter; layout = Shared }

-- a worker adds 5 to the first of two counters, and asks for the value of the second
abbrev adder : WorkerLines
adder = worker (codes "a") (asks 5 0 (Call (Add 5)) ∷ asks 6 1 (Call Get) ∷ [])

abbrev two_counters : Script
two_counters = record { procs = 1; objects = counter (codes "hits") ∷ counter (codes "more") ∷ []; workers = adder ∷ [] }

abbrev added : Entry Op Reply
added = line 1 0 0 0 (Call (Add 5)) (Replied Done)

not_legal : IsLawful two_counters (added ∷ on 1 (line 2 0 1 0 (Call Get) (Replied (Number 5))) ∷ []) → ⊥
not_legal lawful = illegal_at (Counter ∷ Counter ∷ []) Counter (added ∷ []) (on 1 (line 2 0 1 0 (Call Get) (Replied (Number 5)))) [] refl (λ legal. grind arith) lawful.legal

exchanged_lines : IsLawful two_counters (on 1 (line 1 0 1 0 (Call Get) (Replied (Number 0))) ∷ line 2 0 0 0 (Call (Add 5)) (Replied Done) ∷ []) → ⊥
exchanged_lines lawful = let same = ap (λ (deeds : List Deed). map (λ (deed : Deed). deed.index) deeds) (lawful.in_order 0 adder refl) in cc

other_object : IsLawful two_counters (added ∷ line 2 0 1 0 (Call Get) (Replied (Number 5)) ∷ []) → ⊥
other_object lawful = let same = ap (λ (deeds : List Deed). map (λ (deed : Deed). deed.object) deeds) (lawful.in_order 0 adder refl) in cc

other_act : IsLawful two_counters (line 1 0 0 0 (Call (Add 6)) (Replied Done) ∷ on 1 (line 2 0 1 0 (Call Get) (Replied (Number 0))) ∷ []) → ⊥
other_act lawful = let same = ap (λ (deeds : List Deed). map (λ (deed : Deed). deed.act) deeds) (lawful.in_order 0 adder refl) in cc

other_place : IsLawful two_counters (added ∷ on 1 (line 2 0 2 0 (Call Get) (Replied (Number 0))) ∷ []) → ⊥
other_place lawful = let same = ap (λ (deeds : List Deed). map (λ (deed : Deed). deed.index) deeds) (lawful.in_order 0 adder refl) in cc

-- two workers ask for a swap of one counter, and nobody else does
abbrev swapper : List ℕ → ℕ → WorkerLines
swapper name number = worker name (asks number 0 (Swap (Layout 1)) ∷ [])

abbrev two_swaps : Script
two_swaps = record { procs = 1; objects = counter (codes "hits") ∷ []; workers = swapper (codes "a") 4 ∷ swapper (codes "b") 6 ∷ [] }

abbrev one_refusal : Entry Op Reply
one_refusal = line 1 0 0 0 (Swap (Layout 1)) (Busy 1)

abbrev other_refusal : Entry Op Reply
other_refusal = line 2 1 0 0 (Swap (Layout 1)) (Busy 1)

refused_both : IsLawful two_swaps (one_refusal ∷ other_refusal ∷ []) → ⊥
refused_both lawful =
    illegal_at (Counter ∷ []) Counter [] one_refusal (other_refusal ∷ []) refl (λ legal. none-Any (IsRival one_refusal 1) (other_refusal ∷ []) (search arith) legal.rival) lawful.legal
