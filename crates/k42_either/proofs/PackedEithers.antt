-- What is unpacked of one of two types is what was packed.
use Rattle.std.proofs.Common.{◌≡◌, ℕ, ◌+◌, ◌*◌, ◌/◌, ◌%◌, ◌==◌, List, if◌then◌else◌, refl, sym, ap, subst, ◌∙◌, arith}
use Rattle.k42_kinds.specs.declared.packed.Label.{Label}
use Rattle.k42_kinds.specs.declared.packed.Size.{Size}
use Rattle.k42_kinds.specs.Packing.{Packing, HasSize, IsNoMoreThan, IsPacked, labelled}
use Rattle.k42_either.specs.EitherPackings.{joined, parted, greater_size, either_label, either_words, either_bytes, either_size, EitherFits, either_unpacked, either_packing}
use Rattle.k42_either.specs.declared.either.Either.{Either}
use Rattle.k42_either.specs.declared.either.Either.TheVariants.{First, Second}

doubled_is_even : (tag : ℕ) → (2 * tag) % 2 ≡ 0
doubled_is_even tag = omega arith

one_more_is_odd : (tag : ℕ) → (2 * tag + 1) % 2 ≡ 1
one_more_is_odd tag = omega arith

half_of_doubled : (tag : ℕ) → (2 * tag) / 2 ≡ tag
half_of_doubled tag = omega arith

half_of_one_more : (tag : ℕ) → (2 * tag + 1) / 2 ≡ tag
half_of_one_more tag = omega arith

abbrev sided : ℕ → ℕ → ℕ → Either Label Label
sided rest half small = if rest == 0 then First (labelled half small) else Second (labelled half small)

pub parted-joined : (label : Either Label Label) → parted (joined label) ≡ label
parted-joined (First label) = λ i. sided (doubled_is_even label.tag i) (half_of_doubled label.tag i) label.small
parted-joined (Second label) = λ i. sided (one_more_is_odd label.tag i) (half_of_one_more label.tag i) label.small

module _ {V W : Type 0} (first : Packing V) (second : Packing W) where
  less_than_first : (size : Size) → IsNoMoreThan size first.most → IsNoMoreThan size (greater_size first.most second.most)
  less_than_first size few = record { words = omega (arith, few.words); bytes = omega (arith, few.bytes) }

  less_than_second : (size : Size) → IsNoMoreThan size second.most → IsNoMoreThan size (greater_size first.most second.most)
  less_than_second size few = record { words = omega (arith, few.words); bytes = omega (arith, few.bytes) }

  -- what holds of the label with which it was packed holds of that which was joined and parted
  packed_behind : (value : Either V W) (label : Either Label Label) → either_label first second value ≡ label
      → either_unpacked first second label (either_words first second value) (either_bytes first second value) ≡ value
      → EitherFits first second label (either_words first second value) (either_bytes first second value)
      → ((words bytes : List ℕ) → EitherFits first second label words bytes → HasSize (either_size first second label) words bytes)
      → IsNoMoreThan (either_size first second label) (greater_size first.most second.most)
      → IsPacked (either_packing first second) value
  packed_behind value label is again fits sized few =
      let same : parted (joined (either_label first second value)) ≡ label = parted-joined (either_label first second value) ∙ is in
      record {
        again = ap (λ (own : Either Label Label). either_unpacked first second own (either_words first second value) (either_bytes first second value)) same ∙ again;
        fits = subst (λ (own : Either Label Label). EitherFits first second own (either_words first second value) (either_bytes first second value)) (sym same) fits;
        sized = subst (λ (own : Either Label Label). (words bytes : List ℕ) → EitherFits first second own words bytes → HasSize (either_size first second own) words bytes) (sym same) sized;
        few = subst (λ (own : Either Label Label). IsNoMoreThan (either_size first second own) (greater_size first.most second.most)) (sym same) few;
      }

  pub packed_first : (value : V) → IsPacked first value → IsPacked (either_packing first second) (First value)
  packed_first value packed =
      packed_behind (First value) (First (first.label value)) refl (ap First packed.again) packed.fits packed.sized (less_than_first (first.size (first.label value)) packed.few)

  pub packed_second : (value : W) → IsPacked second value → IsPacked (either_packing first second) (Second value)
  packed_second value packed =
      packed_behind (Second value) (Second (second.label value)) refl (ap Second packed.again) packed.fits packed.sized (less_than_second (second.size (second.label value)) packed.few)
