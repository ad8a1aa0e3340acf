-- A value as a log keeps it: a label in the head of an entry, and words and bytes besides.
use Rattle.std.specs.Prelude.{◌≡◌, ℕ, ◌<◌, ◌≤◌, List, length}
use Rattle.k42_kinds.specs.declared.packed.Label.{Label}
use Rattle.k42_kinds.specs.declared.packed.Size.{Size}
use Rattle.k42_kinds.specs.declared.packed.TheConstants.{REPLY_TAGS}

-- How the values of a type are packed and unpacked. The label tells how many words and bytes there are, and
-- no value has more than the most. Not all words and bytes so many may stand behind a label: those that fit
-- are unpacked.
pub record Packing (V : Type 0) : Type 1 where
  pub label : V → Label
  pub words : V → List ℕ
  pub bytes : V → List ℕ
  pub size : Label → Size
  pub most : Size
  pub Fits : Label → List ℕ → List ℕ → Type 0
  pub unpack : Label → List ℕ → List ℕ → V

abbrev pub labelled : ℕ → ℕ → Label
labelled tag small = record { tag = tag; small = small }

-- there are so many words and bytes
pub record HasSize (size : Size) (whole_words whole_bytes : List ℕ) : Type 0 where
  pub words : length whole_words ≡ size.words
  pub bytes : length whole_bytes ≡ size.bytes

-- one size is no more than another
pub record IsNoMoreThan (one other : Size) : Type 0 where
  pub words : one.words ≤ other.words
  pub bytes : one.bytes ≤ other.bytes

-- What is unpacked is what was packed. That fits behind its label, and all that fits there has the size that
-- is told.
pub record IsPacked {V : Type 0} (packing : Packing V) (value : V) : Type 0 where
  pub again : packing.unpack (packing.label value) (packing.words value) (packing.bytes value) ≡ value
  pub fits : packing.Fits (packing.label value) (packing.words value) (packing.bytes value)
  pub sized :
      (words bytes : List ℕ) → packing.Fits (packing.label value) words bytes
      → HasSize (packing.size (packing.label value)) words bytes
  pub few : IsNoMoreThan (packing.size (packing.label value)) packing.most

-- a reply's label has one of the lower tags, and no small number
pub record IsReplyLabel (label : Label) : Type 0 where
  pub tag : label.tag < REPLY_TAGS
  pub small : label.small ≡ 0
