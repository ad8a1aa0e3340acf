-- A counter, a directory and pages of six processors in groups, computed; and what they are not.
use Rattle.std.proofs.Common.{◌≡◌, ℕ, [], ◌∷◌, refl, arith}
use Rattle.k42_shapes.specs.declared.shape.Shape.{Shape}
use Rattle.k42_shapes.specs.declared.shape.Shape.TheVariants.{One as Together, Each, Groups}
use Rattle.k42_kinds.specs.declared.operation.Op.{Op}
use Rattle.k42_kinds.specs.declared.operation.Op.TheVariants.{Add, Get, Size, Read, Clean}
use Rattle.k42_kinds.specs.declared.operation.Reply.{Reply}
use Rattle.k42_kinds.specs.declared.operation.Reply.TheVariants.{Number}
use Rattle.k42_kinds.specs.declared.entry.Reach.TheVariants.{One, All}
use Rattle.k42_kinds.specs.Rows.{Ways, empty_row, row_moved}
use Rattle.co_counter.specs.Counters.{HasAmounts, spread}
use Rattle.co_directory.specs.Directories as directories
use Rattle.co_pages.specs.SpreadRows as pages
use Rattle.co_groups.specs.Grouped.{grouped, IsGrouped}

abbrev pub pairs : Shape
pairs = Groups 2

abbrev pub fours : Shape
fours = Groups 4

abbrev pub counted : Shape → Ways ℕ ℕ Op Reply
counted shape = grouped shape spread

pub six_in_pairs_have_three_cells : empty_row (counted pairs) pairs 6 ≡ 0 ∷ 0 ∷ 0 ∷ []
six_in_pairs_have_three_cells = refl

pub six_in_fours_have_two_cells : empty_row (counted fours) fours 6 ≡ 0 ∷ 0 ∷ []
six_in_fours_have_two_cells = refl

pub the_last_processor_adds_in_the_last_cell : (counted pairs).reach 6 (Add 8) 5 ≡ One 2
the_last_processor_adds_in_the_last_cell = refl

pub neighbours_add_in_one_cell : (counted pairs).reach 6 (Add 1) 2 ≡ (counted pairs).reach 6 (Add 1) 3
neighbours_add_in_one_cell = refl

pub a_get_needs_all_cells : (counted pairs).reach 6 Get 5 ≡ All
a_get_needs_all_cells = refl

pub together_all_add_in_one_cell : (counted Together).reach 6 (Add 1) 5 ≡ One 0
together_all_add_in_one_cell = refl

pub apart_each_adds_in_its_own : (counted Each).reach 6 (Add 1) 5 ≡ One 5
apart_each_adds_in_its_own = refl

pub the_amounts_are_summed : (counted pairs).combine (3 ∷ 4 ∷ 8 ∷ []) ≡ 15
the_amounts_are_summed = refl

pub and_told : (counted pairs).row_reply (3 ∷ 4 ∷ 8 ∷ []) Get ≡ Number 15
and_told = refl

pub an_add_leaves_the_other_amounts : row_moved (counted pairs) (3 ∷ 4 ∷ 0 ∷ []) (Add 8) (One 2) ≡ 3 ∷ 4 ∷ 8 ∷ []
an_add_leaves_the_other_amounts = refl

pub a_value_is_imported_to_two_cells : (counted fours).imported 6 15 ≡ 15 ∷ 0 ∷ []
a_value_is_imported_to_two_cells = refl

pub a_name_is_found_in_ones_own_group : (grouped pairs directories.spread).reach 6 Size 5 ≡ One 2
a_name_is_found_in_ones_own_group = refl

-- page 7 lives in cell 7 modulo 2, whoever asks for it
pub a_page_lives_in_one_of_two_cells : (grouped fours pages.spread).reach 6 (Read 7) 0 ≡ One 1
a_page_lives_in_one_of_two_cells = refl

pub a_clean_needs_all_cells : (grouped fours pages.spread).reach 6 Clean 5 ≡ All
a_clean_needs_all_cells = refl

pub three_amounts_are_a_row : IsGrouped pairs HasAmounts 6 (3 ∷ 4 ∷ 8 ∷ [])
three_amounts_are_a_row = refl

pub an_amount_for_each_is_no_row_of_pairs : IsGrouped pairs HasAmounts 6 (1 ∷ 2 ∷ 4 ∷ 0 ∷ 0 ∷ 8 ∷ []) → ⊥
an_amount_for_each_is_no_row_of_pairs whole = absurd (omega (arith, whole))

pub no_caller_keeps_its_own_number : (counted pairs).reach 6 (Add 8) 5 ≡ One 5 → ⊥
no_caller_keeps_its_own_number same = absurd (cc same)

pub a_page_is_not_in_a_cell_of_its_own : (grouped fours pages.spread).reach 6 (Read 7) 0 ≡ One 7 → ⊥
a_page_is_not_in_a_cell_of_its_own same = absurd (cc same)

pub the_last_of_fours_is_not_the_first : (counted fours).reach 6 (Add 1) 5 ≡ One 0 → ⊥
the_last_of_fours_is_not_the_first same = absurd (cc same)
