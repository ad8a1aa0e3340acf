-- Lines that break a rule, for each rule and each part of it, and lines that are not the first to break one.
use Rattle.std.proofs.Common.{◌≡◌, ℕ, zero, suc, ◌<◌, Bool, false, List, [], ◌∷◌, ◌++◌, map, inl, inr, refl, ap, subst, arith}
use Rattle.std.specs.Prelude.{Option, Some, None, is_some, codes}
use Rattle.k42_kinds.specs.declared.operation.KindName.TheVariants.{Counter}
use Rattle.k42_kinds.specs.declared.operation.LayoutName.TheVariants.{Shared}
use Rattle.k42_kinds.specs.declared.operation.Op.{Op}
use Rattle.k42_kinds.specs.declared.operation.Op.TheVariants.{Add, Get, Seen}
use Rattle.k42_kinds.specs.declared.operation.Reply.{Reply}
use Rattle.k42_kinds.specs.declared.operation.Reply.TheVariants.{Done, None as Nothing, Number}
use Rattle.k42_kinds.specs.declared.entry.Act.{Act}
use Rattle.k42_kinds.specs.declared.entry.Act.TheVariants.{Call, Swap}
use Rattle.k42_kinds.specs.declared.entry.To.{To}
use Rattle.k42_kinds.specs.declared.entry.To.TheVariants.{Layout, Dead, Watch, Unwatch}
use Rattle.k42_kinds.specs.declared.entry.Answer.{Answer}
use Rattle.k42_kinds.specs.declared.entry.Answer.TheVariants.{Replied, Swapped, Busy}
use Rattle.k42_kinds.specs.declared.entry.Entry.{Entry}
use Rattle.k42_kinds.specs.Legal.{IsLegal, IsRival}
use Rattle.k42_kinds.proofs.LegalHistories.{legal_at_kind}
use Rattle.k42_kinds.proofs.Splits.{none-Any}
use Rattle.script_text.specs.declared.script.CallLine.{CallLine}
use Rattle.script_text.specs.declared.script.Item.{Item}
use Rattle.script_text.specs.declared.script.Item.TheVariants.{Begin, End, Line}
use Rattle.script_text.specs.declared.script.Script.{Script}
use Rattle.script_text.specs.declared.script.WorkerLines.{WorkerLines}
use Rattle.record_text.specs.Histories.{record_of}
use Rattle.record_text.specs.Rules.{Rule, Stamps, Order, Calls, Swaps, Refusals, Generations, Keeps, IsLegalLine, KeepsAt, HasAllLines, IsLawfulRecord, BreaksFirst, all_rules, IsFaultOfLine, IsFaultOfEnd, IsFirstFault}
use Rattle.record_text.specs.Told.{told}
use Rattle.record_text.specs.declared.record.Record.{Record}
use Rattle.record_text.specs.declared.record.RecordLine.{RecordLine}

abbrev asks : ℕ → Act Op → Item
asks number act = Line (record { line = number; object = 0; act = act })

abbrev worker : List ℕ → ℕ → List Item → WorkerLines
worker name proc items = record { name = name; proc = proc; items = items }

-- one worker adds 1 and asks for the value in one activity, and two ask for a swap
abbrev counting : Script
counting = record {
  procs = 2;
  objects = record { name = codes "hits"; kind = Counter; layout = Shared } ∷ [];
  workers =
      worker (codes "a") 0 (Begin ∷ asks 5 (Call (Add 1)) ∷ asks 6 (Call Get) ∷ End ∷ [])
      ∷ worker (codes "b") 1 (asks 9 (Swap (Layout 1)) ∷ [])
      ∷ worker (codes "c") 1 (asks 11 (Swap (Layout 1)) ∷ [])
      ∷ [];
}

-- a line of version 1, by its stamp, worker, number and incarnation
abbrev tells : ℕ → ℕ → ℕ → ℕ → Act Op → Answer Reply → RecordLine
tells stamp worker number incarnation act answer = record { stamp = stamp; worker = worker; line = number; object = 0; act = act; answer = answer; incarnation = incarnation; extra = None }

-- the same of version 2, with the processor and the generation
abbrev with : ℕ → ℕ → RecordLine → RecordLine
with proc generation line = record line { extra = Some (record { proc = proc; generation = Some generation }) }

abbrev added : RecordLine
added = tells 1 0 5 0 (Call (Add 1)) (Replied Done)

abbrev read : RecordLine
read = tells 2 0 6 0 (Call Get) (Replied (Number 1))

-- the line breaks the rule between these
abbrev Breaks : List RecordLine → RecordLine → List RecordLine → Rule → Type 0
Breaks before line after rule = Keeps counting before line after rule → ⊥

-- ---- the stamps, and the order of the lines

stamp_too_high : Breaks [] (record added { stamp = 2 }) [] Stamps
stamp_too_high kept = omega (arith, kept)

stamp_again : Breaks (added ∷ []) (record read { stamp = 1 }) [] Stamps
stamp_again kept = omega (arith, kept)

-- what stands in the script, where something does
abbrev said_number : Option CallLine → ℕ
said_number (Some said) = said.line
said_number None = 0

abbrev said_object : Option CallLine → ℕ
said_object (Some said) = said.object
said_object None = 0

abbrev said_act : Option CallLine → Act Op
said_act (Some said) = said.act
said_act None = Call Get

line_too_early : Breaks [] read [] Order
line_too_early kept = let same = ap said_number kept in cc

line_again : Breaks (added ∷ []) added [] Order
line_again kept = let same = ap said_number kept in cc

line_too_many : Breaks (added ∷ read ∷ []) read [] Order
line_too_many kept = cc kept

line_of_another_act : Breaks [] (record added { act = Call (Add 2) }) [] Order
line_of_another_act kept = let same = ap said_act kept in cc

line_of_another_object : Breaks [] (record added { object = 1 }) [] Order
line_of_another_object kept = let same = ap said_object kept in cc

line_of_another_worker : Breaks [] (record added { worker = 1 }) [] Order
line_of_another_worker kept = let same = ap said_number kept in cc

line_of_nobody : Breaks [] (record added { worker = 3 }) [] Order
line_of_nobody kept = cc kept

-- ---- the answers

-- the line tells of an entry that is not legal
illegal : (before : List RecordLine) (line : RecordLine) (after : List RecordLine) → line.object ≡ 0 → (IsLegal Counter (map told before) (told line) (map told after) → ⊥) →
    IsLegalLine counting before line after → ⊥
illegal before line after declared not_legal legal = not_legal (legal_at_kind (Counter ∷ []) Counter (map told before) (told line) (map told after) (rw declared) legal)

wrong_reply : Breaks (added ∷ []) (record read { answer = Replied (Number 2) }) [] Calls
wrong_reply kept = illegal (added ∷ []) (record read { answer = Replied (Number 2) }) [] refl (λ legal. grind (arith, legal.replied)) (kept refl)

call_elsewhere : Breaks (added ∷ []) (record read { incarnation = 1 }) [] Calls
call_elsewhere kept = illegal (added ∷ []) (record read { incarnation = 1 }) [] refl (λ legal. grind (arith, legal.incarnation)) (kept refl)

skipped_number : Breaks [] (tells 1 1 9 0 (Swap (Layout 1)) (Swapped 2)) [] Swaps
skipped_number kept = illegal [] (tells 1 1 9 0 (Swap (Layout 1)) (Swapped 2)) [] refl (λ legal. grind (arith, legal.next)) (kept refl)

swapped_elsewhere : Breaks [] (tells 1 1 9 1 (Swap (Layout 1)) (Swapped 1)) [] Swaps
swapped_elsewhere kept = illegal [] (tells 1 1 9 1 (Swap (Layout 1)) (Swapped 1)) [] refl (λ legal. grind (arith, legal.incarnation)) (kept refl)

swap_answered_as_call : Breaks [] (tells 1 1 9 0 (Swap (Layout 1)) (Replied Done)) [] Swaps
swap_answered_as_call kept = illegal [] (tells 1 1 9 0 (Swap (Layout 1)) (Replied Done)) [] refl (λ legal. legal) (kept refl)

busy_for_nobody : Breaks [] (tells 1 1 9 0 (Swap (Layout 1)) (Busy 1)) [] Refusals
busy_for_nobody kept = illegal [] (tells 1 1 9 0 (Swap (Layout 1)) (Busy 1)) [] refl (λ legal. none-Any (IsRival (told (tells 1 1 9 0 (Swap (Layout 1)) (Busy 1))) 1) [] tt legal.rival) (kept refl)

-- ---- the layer round an object

-- a watch, and one call of what is watched
abbrev watched : List RecordLine
watched = tells 1 0 5 0 (Swap Watch) (Swapped 1) ∷ tells 2 0 6 1 (Call (Add 1)) (Replied Done) ∷ []

-- the same, and then another swap
abbrev and_then : To → List RecordLine
and_then to = watched ++ tells 3 0 7 1 (Swap to) (Swapped 2) ∷ []

count_too_high : Breaks watched (tells 3 0 7 1 (Call Seen) (Replied (Number 2))) [] Calls
count_too_high kept = illegal watched (tells 3 0 7 1 (Call Seen) (Replied (Number 2))) [] refl (λ legal. grind (arith, legal.replied)) (kept refl)

count_too_low : Breaks watched (tells 3 0 7 1 (Call Seen) (Replied (Number 0))) [] Calls
count_too_low kept = illegal watched (tells 3 0 7 1 (Call Seen) (Replied (Number 0))) [] refl (λ legal. grind (arith, legal.replied)) (kept refl)

count_lost_at_a_swap : Breaks (and_then (Layout 1)) (tells 4 0 8 2 (Call Seen) (Replied (Number 0))) [] Calls
count_lost_at_a_swap kept = illegal (and_then (Layout 1)) (tells 4 0 8 2 (Call Seen) (Replied (Number 0))) [] refl (λ legal. grind (arith, legal.replied)) (kept refl)

count_kept_at_a_watch : Breaks (and_then Watch) (tells 4 0 8 2 (Call Seen) (Replied (Number 1))) [] Calls
count_kept_at_a_watch kept = illegal (and_then Watch) (tells 4 0 8 2 (Call Seen) (Replied (Number 1))) [] refl (λ legal. grind (arith, legal.replied)) (kept refl)

count_left_by_an_unwatch : Breaks (and_then Unwatch) (tells 4 0 8 2 (Call Seen) (Replied (Number 1))) [] Calls
count_left_by_an_unwatch kept = illegal (and_then Unwatch) (tells 4 0 8 2 (Call Seen) (Replied (Number 1))) [] refl (λ legal. cc legal.replied) (kept refl)

count_without_a_watch : Breaks (added ∷ []) (tells 2 0 6 0 (Call Seen) (Replied (Number 1))) [] Calls
count_without_a_watch kept = illegal (added ∷ []) (tells 2 0 6 0 (Call Seen) (Replied (Number 1))) [] refl (λ legal. cc legal.replied) (kept refl)

no_count_at_the_end : Breaks (and_then Dead) (tells 4 0 8 2 (Call Seen) (Replied Nothing)) [] Calls
no_count_at_the_end kept = illegal (and_then Dead) (tells 4 0 8 2 (Call Seen) (Replied Nothing)) [] refl (λ legal. cc legal.replied) (kept refl)

watch_of_the_dead : Breaks (and_then Dead) (tells 4 0 8 2 (Swap Watch) (Swapped 3)) [] Swaps
watch_of_the_dead kept = illegal (and_then Dead) (tells 4 0 8 2 (Swap Watch) (Swapped 3)) [] refl (λ legal. cc legal.alive) (kept refl)

-- ---- refusals

-- two refusals do not justify each other
abbrev one_refusal : RecordLine
one_refusal = tells 1 1 9 0 (Swap (Layout 1)) (Busy 1)

abbrev other_refusal : RecordLine
other_refusal = tells 2 2 11 0 (Swap (Layout 1)) (Busy 1)

busy_for_each_other : Breaks [] one_refusal (other_refusal ∷ []) Refusals
busy_for_each_other kept =
    illegal [] one_refusal (other_refusal ∷ []) refl (λ legal. none-Any (IsRival (told one_refusal) 1) (told other_refusal ∷ []) (search arith) legal.rival) (kept refl)

-- ---- processors and generations

other_processor : Breaks [] (with 1 0 added) [] Generations
other_processor kept = omega (arith, kept.processor)

generation_falls : Breaks (with 0 5 added ∷ []) (with 0 3 read) [] Generations
generation_falls kept = let step = kept.generation 3 refl 0 5 refl in absurd (omega (arith, step.risen))

two_generations_in_an_activity : Breaks (with 0 5 added ∷ []) (with 0 7 read) [] Generations
two_generations_in_an_activity kept = let step = kept.generation 7 refl 0 5 refl in absurd (omega (arith, step.level (λ none. omega (arith, none)) refl))

-- ---- whole records

missing_line : HasAllLines counting (added ∷ []) → ⊥
missing_line complete = omega (arith, complete 0)

-- the first line tells what version 2 tells besides
abbrev first_tells_more : List RecordLine → Bool
first_tells_more [] = false
first_tells_more (line ∷ lines) = is_some line.extra

abbrev tells_more : Record → Bool
tells_more written = first_tells_more written.lines

-- a line of version 1 tells no processor
told_in_version_1 : IsLawfulRecord counting (record { lines = with 0 0 added ∷ []; version = 1 }) → ⊥
told_in_version_1 lawful = by lawful.history lawful.same
  where
    by : (history : List (Entry Op Reply)) → ◌≡◌ {A = Record} (record { lines = with 0 0 added ∷ []; version = 1 }) (record_of counting history 1) → ⊥
    by [] same = cc (ap tells_more same)
    by (entry ∷ history) same = cc (ap tells_more same)

-- ---- the first fault

-- a line behind one that breaks a rule is not the first
later_line : IsFirstFault counting (record { lines = record added { stamp = 3 } ∷ record read { stamp = 3 } ∷ []; version = 1 }) 3 2 → ⊥
later_line (inl fault) =
    let behind : 0 < fault.place = omega (arith, fault.numbered) in
    omega (arith, fault.before 0 behind Stamps (record added { stamp = 3 }) refl)
later_line (inr fault) = omega (arith, fault.numbered)

-- no line is told by the place of another
other_line : IsFaultOfLine counting (record added { stamp = 3 } ∷ read ∷ []) 1 2 → ⊥
other_line fault = omega (arith, fault.numbered)

-- nor is a rule behind one that the line breaks too
later_rule : IsFirstFault counting (record { lines = record added { stamp = 3; line = 6 } ∷ []; version = 1 }) 2 8 → ⊥
later_rule (inr fault) = omega (arith, fault.numbered)
later_rule (inl fault) =
    let here : fault.place ≡ 0 = omega (arith, fault.numbered) in
    let kept : BreaksFirst (KeepsAt counting (record added { stamp = 3; line = 6 } ∷ []) 0) all_rules 8 =
    subst (λ (place : ℕ). BreaksFirst (KeepsAt counting (record added { stamp = 3; line = 6 } ∷ []) place) all_rules 8) here fault.broken in
    elim kept [
      | inl stamps ↦ omega (arith, stamps.0)
      | inr behind ↦ omega (arith, behind.0 (record added { stamp = 3; line = 6 }) refl)
    ]

-- where no line is missing the end breaks no rule, and where one is it breaks no other rule
end_of_all : IsFaultOfEnd counting (added ∷ read ∷ tells 3 1 9 0 (Swap (Layout 1)) (Swapped 1) ∷ tells 4 2 11 1 (Swap (Layout 1)) (Swapped 2) ∷ []) 6 8 → ⊥
end_of_all fault = fault.missing all
  where
    all : HasAllLines counting (added ∷ read ∷ tells 3 1 9 0 (Swap (Layout 1)) (Swapped 1) ∷ tells 4 2 11 1 (Swap (Layout 1)) (Swapped 2) ∷ [])
    all zero = omega arith
    all (suc zero) = omega arith
    all (suc (suc zero)) = omega arith
    all (suc (suc (suc worker))) = omega arith

end_by_another_rule : IsFaultOfEnd counting (added ∷ []) 3 2 → ⊥
end_by_another_rule fault = omega (arith, fault.order)
