-- Layouts of all kinds: rows as they are due, states that are served, and some that are refused.
use Rattle.std.proofs.Common.{◌≡◌, ◌^◌, List, [], ◌∷◌, refl, arith}
use Rattle.std.specs.FinMap as finite
use Rattle.k42_kinds.specs.declared.operation.KindName.TheVariants as kinds
use Rattle.k42_kinds.specs.declared.operation.Op.TheVariants.{Add, Get, Drain, Read}
use Rattle.k42_kinds.specs.declared.operation.Reply.TheVariants.{Number, Gone}
use Rattle.k42_kinds.specs.declared.entry.Act.TheVariants.{Swap}
use Rattle.k42_kinds.specs.declared.entry.To.TheVariants as tos
use Rattle.k42_kinds.specs.declared.entry.Answer.TheVariants.{Busy}
use Rattle.k42_kinds.specs.declared.entry.Reach.TheVariants.{One, All}
use Rattle.k42_kinds.specs.declared.states.AnyState.TheVariants as states
use Rattle.k42_kinds.specs.Histories.{state_moved}
use Rattle.k42_kinds.specs.LayoutLaws.{AdmitsAsSwapped}
use Rattle.k42_kinds.specs.Objects.{plain_object}
use Rattle.co_pages.specs.Places.{no_places}
use Rattle.co_any.specs.declared.part.AnyPart.{AnyPart}
use Rattle.co_any.specs.declared.part.AnyPart.TheVariants as parts
use Rattle.co_any.specs.Layouts.{ways_of, whole_of, serves_of, admitted_of, act_of}

-- a counter that is spread over two processors
abbrev amounts : List AnyPart
amounts = parts.Amount 5 ∷ parts.Amount 7 ∷ []

whole_amounts : whole_of kinds.Counter 1 2 amounts
whole_amounts = record { own = refl; whole = refl }

-- one of three processors has no amount
amount_too_few : whole_of kinds.Counter 1 3 amounts → ⊥
amount_too_few whole = cc whole.whole

-- a part of another layout stands among them, and the whole row stands for another kind
other_part : whole_of kinds.Counter 1 2 (parts.Amount 5 ∷ parts.Dead ∷ []) → ⊥
other_part whole = cc whole.own

other_kind : whole_of kinds.Directory 1 2 amounts → ⊥
other_kind whole = cc whole.own

counted : (ways_of kinds.Counter 1).combine amounts ≡ states.Counter 12
counted = refl

added : (ways_of kinds.Counter 1).part_after (parts.Amount 7) (Add 3) ≡ parts.Amount 10
added = refl

drained : (ways_of kinds.Counter 1).row_after amounts Drain ≡ parts.Amount 0 ∷ parts.Amount 0 ∷ []
drained = refl

imported : (ways_of kinds.Counter 1).imported 2 (states.Counter 12) ≡ parts.Amount 12 ∷ parts.Amount 0 ∷ []
imported = refl

-- each cell of spread pages knows its number
empty_places : (ways_of kinds.Pages 1).empty 8 7 ≡ parts.Places (no_places 8 7)
empty_places = refl

-- what the tags reach
reached :
    ((ways_of kinds.Counter 0).reach 8 (Add 1) 7 ≡ One 0)
    × ((ways_of kinds.Counter 1).reach 8 (Add 1) 7 ≡ One 7)
    × ((ways_of kinds.Pages 1).reach 8 (Read 17) 7 ≡ One 1)
    × ((ways_of kinds.Counter 1).reach 8 Get 7 ≡ All)
    × ((ways_of kinds.Counter 2).reach 8 Get 7 ≡ One 0)
reached = (refl, refl, refl, refl, refl)

-- a dead object has one part for all processors, with nothing in it
dead_row : whole_of kinds.Pages 2 8 (parts.Dead ∷ [])
dead_row = refl

two_dead : whole_of kinds.Pages 2 2 (parts.Dead ∷ parts.Dead ∷ []) → ⊥
two_dead whole = cc whole

amount_of_the_dead : whole_of kinds.Counter 2 1 (parts.Amount 0 ∷ []) → ⊥
amount_of_the_dead whole = cc whole

gone : ((ways_of kinds.Counter 2).part_reply parts.Dead Get ≡ Gone) × ((ways_of kinds.Counter 2).row_reply (parts.Dead ∷ []) Get ≡ Gone)
gone = (refl, refl)

not_nought : (ways_of kinds.Counter 2).part_reply parts.Dead Get ≡ Number 0 → ⊥
not_nought same = cc same

-- a live layout serves the values of its own kind alone, and the dead one serves the dead state alone
served : serves_of kinds.Counter 1 (states.Counter 12)
served = omega arith

too_great : serves_of kinds.Counter 1 (states.Counter (2 ^ 64)) → ⊥
too_great served = omega (arith, served)

of_another_kind : serves_of kinds.Counter 0 (states.Directory finite.empty) → ⊥
of_another_kind served = served

dead_at_a_live_one : serves_of kinds.Counter 0 states.Dead → ⊥
dead_at_a_live_one served = served

dead_served : serves_of kinds.Counter 2 states.Dead
dead_served = refl

live_at_the_dead_one : serves_of kinds.Counter 2 (states.Counter 0) → ⊥
live_at_the_dead_one served = cc served

admitted : (admitted_of 1 (states.Counter 12) ≡ states.Counter 12) × (admitted_of 2 (states.Counter 12) ≡ states.Dead)
admitted = (refl, refl)

asked : (act_of 0 ≡ Swap (tos.Layout 0)) × (act_of 1 ≡ Swap (tos.Layout 1)) × (act_of 2 ≡ Swap tos.Dead)
asked = (refl, refl, refl)

-- a swap that was carried out leaves what its layout admits, and one that was refused leaves the state
swapped : AdmitsAsSwapped (plain_object kinds.Counter) (act_of 1) (states.Counter 12) (states.Counter 12)
swapped number = refl

destroyed : AdmitsAsSwapped (plain_object kinds.Counter) (act_of 2) (states.Counter 12) states.Dead
destroyed number = refl

alive_when_destroyed : AdmitsAsSwapped (plain_object kinds.Counter) (act_of 2) (states.Counter 12) (states.Counter 12) → ⊥
alive_when_destroyed admits = let left = admits 1 in cc left

refused : state_moved (plain_object kinds.Counter) (states.Counter 12) (Swap tos.Dead) (Busy 1) ≡ states.Counter 12
refused = refl
