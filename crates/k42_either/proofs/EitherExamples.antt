-- A tally and a mark as objects of one type, computed; and what they are not.
use Rattle.std.specs.Prelude.{ℕ, Bool, true, false, ◌<◌, [], ◌∷◌}
use Rattle.std.proofs.Common.{◌≡◌, ◌+◌, refl, ap, arith}
use Rattle.k42_kinds.specs.declared.entry.Act.TheVariants.{Call, Swap}
use Rattle.k42_kinds.specs.declared.entry.To.TheVariants as tos
use Rattle.k42_kinds.specs.OneThread.{OneThread, ends_as}
use Rattle.k42_kinds.specs.Packing.{labelled}
use Rattle.k42_either.specs.Eithers.{either_object}
use Rattle.k42_either.specs.EitherLaws.{apart, same_first}
use Rattle.k42_either.specs.EitherPackings.{joined, parted}
use Rattle.k42_either.specs.EitherRows.{EitherRow, ServesEither, either_act}
use Rattle.k42_either.specs.declared.either.Either.{Either}
use Rattle.k42_either.specs.declared.either.Either.TheVariants.{First, Second}

-- an operation is what it adds, and the reply is the sum before it; a destroy leaves 1000, which is its end
abbrev pub tally : ℕ → OneThread ℕ ℕ ℕ
tally start = record {
  start = start;
  takes = λ op. true;
  after = λ sum op. sum + op;
  reply = λ sum op. sum;
  swapped = ends_as 1000;
  is_ended = λ sum. false;
}

-- an operation sets it, and the reply is how it stood
abbrev pub mark : ℕ → OneThread Bool Bool Bool
mark start = record {
  start = false;
  takes = λ op. op;
  after = λ set op. op;
  reply = λ set op. set;
  swapped = λ set to. set;
  is_ended = λ set. set;
}

-- what is gone is replied 99
abbrev pub object_of : Either ℕ ℕ → OneThread (Either ℕ Bool) (Either ℕ Bool) (Either ℕ Bool)
object_of = either_object (First 99) tally mark

pub a_tally_starts_as_its_own : (object_of (First 5)).start ≡ First 5
a_tally_starts_as_its_own = refl

pub a_mark_starts_as_its_own : (object_of (Second 5)).start ≡ Second false
a_mark_starts_as_its_own = refl

pub a_tally_adds : (object_of (First 5)).after (First 3) (First 4) ≡ First 7
a_tally_adds = refl

pub a_tally_replies_the_sum : (object_of (First 5)).reply (First 3) (First 4) ≡ First 3
a_tally_replies_the_sum = refl

pub a_mark_is_set : (object_of (Second 5)).after (Second false) (Second true) ≡ Second true
a_mark_is_set = refl

pub a_mark_refuses_what_it_refuses_alone : (object_of (Second 5)).takes (Second false) ≡ false
a_mark_refuses_what_it_refuses_alone = refl

pub a_destroy_ends_a_tally_as_alone : (object_of (First 5)).swapped (First 3) tos.Dead ≡ First 1000
a_destroy_ends_a_tally_as_alone = refl

pub a_mark_is_at_its_end_as_alone : (object_of (Second 5)).is_ended (Second true) ≡ true
a_mark_is_at_its_end_as_alone = refl

pub what_it_does_not_take_leaves_it : (object_of (First 5)).after (First 3) (Second true) ≡ First 3
what_it_does_not_take_leaves_it = refl

pub and_is_replied_so : (object_of (First 5)).reply (First 3) (Second true) ≡ First 99
and_is_replied_so = refl

-- what they are not

pub a_tally_takes_a_set : (object_of (First 5)).takes (Second true) ≡ true → ⊥
a_tally_takes_a_set takes = absurd (cc takes)

pub a_mark_takes_a_sum : (object_of (Second 5)).takes (First 4) ≡ true → ⊥
a_mark_takes_a_sum takes = absurd (cc takes)

pub a_mark_replies_a_sum : (object_of (Second 5)).reply (Second true) (Second true) ≡ First 1 → ⊥
a_mark_replies_a_sum replied = absurd (cc replied)

pub a_tally_is_a_mark : object_of (First 5) ≡ object_of (Second 5) → ⊥
a_tally_is_a_mark same = apart ℕ Bool ℕ Bool (First 99) (tally 5) (mark 5) same

pub tallies_of_two_starts_are_one : object_of (First 5) ≡ object_of (First 6) → ⊥
tallies_of_two_starts_are_one same =
    let starts = ap (λ (object : OneThread ℕ ℕ ℕ). object.start) (same_first ℕ Bool ℕ Bool (First 99) (tally 5) (tally 6) same) in
    absurd (omega (arith, starts))

-- the tags

pub a_tag_of_the_first_is_doubled : joined (First (labelled 7 65)) ≡ labelled 14 65
a_tag_of_the_first_is_doubled = refl

pub a_tag_of_the_second_is_odd : joined (Second (labelled 7 65)) ≡ labelled 15 65
a_tag_of_the_second_is_odd = refl

pub an_odd_tag_tells_the_second : parted (labelled 15 65) ≡ Second (labelled 7 65)
an_odd_tag_tells_the_second = refl

pub an_odd_tag_tells_the_first : parted (labelled 15 65) ≡ First (labelled 7 65) → ⊥
an_odd_tag_tells_the_first same = absurd (cc same)

-- the last tag that is still that of a reply, and the first that is not
pub the_last_low_tag_leaves_that_of_a_reply : (joined (Second (labelled 119 0))).tag < 240
the_last_low_tag_leaves_that_of_a_reply = omega arith

pub the_next_tag_leaves_that_of_a_reply : (joined (First (labelled 120 0))).tag < 240 → ⊥
the_next_tag_leaves_that_of_a_reply low = absurd (omega (arith, low))

-- rows, states and acts

pub a_row_of_tallies : EitherRow {A = ℕ} {B = ℕ} {P = ℕ} {Q = Bool} (λ layout procs row. row ≡ 1 ∷ 2 ∷ []) (λ layout procs row. row ≡ true ∷ []) (First 0) 2 (First 1 ∷ First 2 ∷ [])
a_row_of_tallies = record { own = refl; whole = refl }

pub a_row_has_parts_of_both : EitherRow {A = ℕ} {B = ℕ} {P = ℕ} {Q = Bool} (λ layout procs row. row ≡ 1 ∷ []) (λ layout procs row. row ≡ true ∷ []) (First 0) 2 (First 1 ∷ Second true ∷ []) → ⊥
a_row_has_parts_of_both row = absurd (cc row.own)

pub a_layout_of_tallies_serves_a_mark : ServesEither {A = ℕ} {B = ℕ} {S = ℕ} {T = Bool} (λ layout sum. sum ≡ 3) (λ layout set. set ≡ true) (First 0) (Second true) → ⊥
a_layout_of_tallies_serves_a_mark served = served

pub a_swap_of_a_mark_is_a_swap : either_act {O = ℕ} {U = Bool} (λ number. Call number) (λ number. Swap (tos.Layout number)) (Second 1) ≡ Swap (tos.Layout 1)
a_swap_of_a_mark_is_a_swap = refl

pub a_call_of_a_tally_is_one_of_the_first : either_act {O = ℕ} {U = Bool} (λ number. Call number) (λ number. Swap (tos.Layout number)) (First 4) ≡ Call (First 4)
a_call_of_a_tally_is_one_of_the_first = refl
