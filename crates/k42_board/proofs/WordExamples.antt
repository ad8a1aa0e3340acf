-- Computed words: of objects, entries and generations, and what is read of them.
use Rattle.std.proofs.Common.{◌≡◌, ◌+◌, ◌-◌, ◌*◌, ◌%◌, ◌^◌, true, false, eqb, List, [], ◌∷◌, None, Some, refl}
use Rattle.std.specs.Int.RustNames.{bit_or}
use Rattle.k42_shapes.specs.declared.shape.Shape.{Shape}
use Rattle.k42_shapes.specs.declared.shape.Shape.TheVariants.{One, Each, Groups}
use Rattle.k42_shapes.specs.Shapes.{shared_and_spread}
use Rattle.k42_kinds.specs.declared.operation.Reply.{Reply}
use Rattle.k42_kinds.specs.declared.entry.Answer.TheVariants.{Busy, Spent, Gone}
use Rattle.phase_core.specs.Effects.{direct_entry, entry_to}
use Rattle.phase_core.specs.Plain.{Object}
use Rattle.phase_core.specs.State.{empty_entry, mediator_entry}
use Rattle.phase_core.specs.declared.caller.SwapAt.TheVariants.{Moved, Opened}
use Rattle.k42_board.specs.Swapping.{clears}
use Rattle.k42_board.specs.Tabling.{entry_in, is_over_in}
use Rattle.k42_board.specs.Values.{generation_value, object_value, local_value, generation_in, has_bit, count_in, layout_in, incarnation_in, answer_in}

-- the layouts of an object that is shared, spread, or in groups of two
abbrev in_twos : List Shape
in_twos = One ∷ Each ∷ Groups 2 ∷ []

-- an object while its swap blocks, and two callers are counted
abbrev blocked : Object
blocked = record {
  shapes = shared_and_spread;
  count = 2;
  swap = true;
  block = true;
  moving = false;
  complete = false;
  layout = 1;
  incarnation = 3;
  entries = [];
  freed = 3;
}

abbrev moved : Object
moved = record blocked { count = 0; moving = true }

-- turned over to the shared layout
abbrev turned : Object
turned = record moved { block = false; moving = false; complete = true; layout = 0; incarnation = 4 }

blocked_is : object_value blocked ≡ 13203668994
blocked_is = refl

moved_is : object_value moved ≡ 13270777856
moved_is = refl

turned_is : object_value turned ≡ 17330864128
turned_is = refl

-- what is read of them

count_is : count_in 13203668994 ≡ 2
count_is = refl

layout_is : layout_in 13203668994 ≡ 1
layout_is = refl

incarnation_is : incarnation_in 13203668994 ≡ 3
incarnation_is = refl

swap_is : has_bit 13203668994 24 ≡ true
swap_is = refl

block_is : has_bit 13203668994 25 ≡ true
block_is = refl

move_is : has_bit 13203668994 26 ≡ false
move_is = refl

complete_is : has_bit 13203668994 27 ≡ false
complete_is = refl

turned_layout : layout_in 17330864128 ≡ 0
turned_layout = refl

turned_complete : has_bit 17330864128 27 ≡ true
turned_complete = refl

turned_block : has_bit 17330864128 25 ≡ false
turned_block = refl

-- and what they answer to a Begin: the number of the swap that is under way

blocked_answers : answer_in {R = Reply} 2 13203668994 ≡ Some (Busy 4)
blocked_answers = refl

moved_answers : answer_in {R = Reply} 2 13270777856 ≡ Some (Busy 4)
moved_answers = refl

turned_answers : answer_in {R = Reply} 2 17330864128 ≡ Some (Busy 4)
turned_answers = refl

-- no swap is under way at this incarnation of the spread layout, and a new one begins
free_answers : answer_in {R = Reply} 2 13153337344 ≡ None
free_answers = refl

-- a dead object, and a refused swap on it
dead_answers : answer_in {R = Reply} 2 536870912 ≡ Some Gone
dead_answers = refl

dead_while_refused : answer_in {R = Reply} 2 553648128 ≡ Some Gone
dead_while_refused = refl

-- at the last incarnation, and one before it
last_answers : answer_in {R = Reply} 2 4503595332403200 ≡ Some Spent
last_answers = refl

last_while_refused : answer_in {R = Reply} 2 4503595349180416 ≡ Some Spent
last_while_refused = refl

before_the_last : answer_in {R = Reply} 2 4503591054213120 ≡ Some (Busy 1048575)
before_the_last = refl

last_is_over : is_over_in 2 4503595332403200 ≡ true
last_is_over = refl

before_is_not_over : is_over_in 2 4503591054213120 ≡ false
before_is_not_over = refl

-- a dead object with fifteen live layouts: its number fills the four bits, and leaves the incarnation

abbrev widest : Object
widest = record blocked { count = 0; swap = false; block = false; layout = 15 }

widest_is : object_value widest ≡ 16911433728
widest_is = refl

widest_layout : layout_in 16911433728 ≡ 15
widest_layout = refl

widest_incarnation : incarnation_in 16911433728 ≡ 3
widest_incarnation = refl

widest_answers : answer_in {R = Reply} 15 16911433728 ≡ Some Gone
widest_answers = refl

-- among so many the third layout is a live one
third_answers : answer_in {R = Reply} 15 536870912 ≡ None
third_answers = refl

third_is_not_over : is_over_in 15 536870912 ≡ false
third_is_not_over = refl

-- the steps of a swap, on these words

-- a counted caller makes it another word than the one that nobody is counted at
counted_is_another : eqb 13203668994 13203668992 ≡ false
counted_is_another = refl

begun : bit_or 13153337344 16777216 ≡ 13170114560
begun = refl

blocked_by : bit_or 13170114560 33554432 ≡ 13203668992
blocked_by = refl

turned_by : (13270777856 + (2 ^ 32 + 2 ^ 28 * 0 + 2 ^ 25 - 2 ^ 28 * 1)) % 2 ^ 64 ≡ 17330864128
turned_by = refl

-- from the last live layout to the dead one, and back to the first
turned_dead : (16760438784 + (2 ^ 32 + 2 ^ 28 * 15 + 2 ^ 25 - 2 ^ 28 * 14)) % 2 ^ 64 ≡ 21357395968
turned_dead = refl

turned_dead_layout : layout_in 21357395968 ≡ 15
turned_dead_layout = refl

turned_first : (16760438784 + (2 ^ 32 + 2 ^ 28 * 0 + 2 ^ 25 - 2 ^ 28 * 14)) % 2 ^ 64 ≡ 17330864128
turned_first = refl

given_up : clears (Moved 0) 13270777856 ≡ 13170114560
given_up = refl

ended : clears (Opened 0) 17330864128 ≡ 17179869184
ended = refl

-- a refused begin's word, with a caller that is counted
ended_as_counted : clears (Opened 0) 553648129 ≡ 536870913
ended_as_counted = refl

-- entries

direct_is : local_value (direct_entry shared_and_spread 1 5 3) ≡ 12884903185
direct_is = refl

direct_read : entry_in 12884903185 ≡ direct_entry shared_and_spread 1 5 3
direct_read = refl

-- in groups of two the processors 4 and 5 are led to the cell 2
grouped_is : local_value (direct_entry in_twos 2 5 3) ≡ 12884902433
grouped_is = refl

grouped_other : local_value (direct_entry in_twos 2 4 3) ≡ 12884902433
grouped_other = refl

grouped_read : entry_in 12884902433 ≡ entry_to 2 2 3
grouped_read = refl

empty_is : local_value (empty_entry 1) ≡ 4294967296
empty_is = refl

empty_read : entry_in 4294967296 ≡ empty_entry 1
empty_read = refl

mediator_is : local_value (mediator_entry 3) ≡ 12884901890
mediator_is = refl

-- the first entry of all is empty, and is no empty one of the next incarnation
first_read : entry_in 0 ≡ empty_entry 0
first_read = refl

first_is_another : eqb (local_value (empty_entry 0)) 4294967296 ≡ false
first_is_another = refl

-- generations

generation_is : generation_value (record { generation = 2; entered = 7; exits_even = 3; exits_odd = 1 }) ≡ 30064771074
generation_is = refl

generation_read : generation_in 30064771074 ≡ 2
generation_read = refl

-- the carry of the last entry that the word counts drops off, and leaves the generation
many_entries : generation_value (record { generation = 2; entered = 2 ^ 32; exits_even = 3; exits_odd = 1 }) ≡ 2
many_entries = refl

entry_added : (generation_value (record { generation = 2; entered = 2 ^ 32 - 1; exits_even = 3; exits_odd = 1 }) + 2 ^ 32) % 2 ^ 64 ≡ 2
entry_added = refl
