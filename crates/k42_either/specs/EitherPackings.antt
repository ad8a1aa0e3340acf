-- Values of two types as a log keeps them: the tag tells also of which of the two a value is.
use Rattle.std.specs.Prelude.{ℕ, ◌+◌, ◌*◌, ◌/◌, ◌%◌, ◌==◌, if◌then◌else◌, max, List}
use Rattle.k42_kinds.specs.declared.packed.Label.{Label}
use Rattle.k42_kinds.specs.declared.packed.Size.{Size}
use Rattle.k42_kinds.specs.Packing.{Packing, labelled}
use Rattle.k42_either.specs.declared.either.Either.{Either}
use Rattle.k42_either.specs.declared.either.Either.TheVariants.{First, Second}

-- a tag of the first is doubled, and one more than doubled is a tag of the second
abbrev pub joined : Either Label Label → Label
joined (First label) = labelled (2 * label.tag) label.small
joined (Second label) = labelled (2 * label.tag + 1) label.small

-- whose label it is, and which of theirs
abbrev pub parted : Label → Either Label Label
parted label =
    if label.tag % 2 == 0 then First (labelled (label.tag / 2) label.small)
    else Second (labelled (label.tag / 2) label.small)

abbrev pub greater_size : Size → Size → Size
greater_size one other = record { words = max one.words other.words; bytes = max one.bytes other.bytes }

module _ {V W : Type 0} (first : Packing V) (second : Packing W) where
  abbrev pub either_label : Either V W → Either Label Label
  either_label (First value) = First (first.label value)
  either_label (Second value) = Second (second.label value)

  abbrev pub either_words : Either V W → List ℕ
  either_words (First value) = first.words value
  either_words (Second value) = second.words value

  abbrev pub either_bytes : Either V W → List ℕ
  either_bytes (First value) = first.bytes value
  either_bytes (Second value) = second.bytes value

  abbrev pub either_size : Either Label Label → Size
  either_size (First label) = first.size label
  either_size (Second label) = second.size label

  abbrev pub EitherFits : Either Label Label → List ℕ → List ℕ → Type 0
  EitherFits (First label) = first.Fits label
  EitherFits (Second label) = second.Fits label

  abbrev pub either_unpacked : Either Label Label → List ℕ → List ℕ → Either V W
  either_unpacked (First label) words bytes = First (first.unpack label words bytes)
  either_unpacked (Second label) words bytes = Second (second.unpack label words bytes)

  abbrev pub either_packing : Packing (Either V W)
  either_packing = record {
    label = λ value. joined (either_label value);
    words = either_words;
    bytes = either_bytes;
    size = λ label. either_size (parted label);
    most = greater_size first.most second.most;
    Fits = λ label. EitherFits (parted label);
    unpack = λ label. either_unpacked (parted label);
  }
