-- Details that others follow: what comes first stays, and what is behind it.
use Rattle.std.proofs.Common.{◌≡◌, ◌∙◌, length, ap, sym}
use Rattle.std.proofs.lemmas.List.{append-nil, append_assoc, drop-append-le, take-append-le, take_at, drop_at}
use Rattle.k42_kinds.specs.declared.packed.Size.{Size}
use Rattle.k42_log.specs.Details.{Details, HasSoMany, behind, front, joined, no_details}

pub joined_assoc : (a b c : Details) → joined (joined a b) c ≡ joined a (joined b c)
joined_assoc a b c i = record { words = append_assoc a.words b.words c.words i; bytes = append_assoc a.bytes b.bytes c.bytes i }

pub joined-none : (details : Details) → joined details no_details ≡ details
joined-none details i = record { words = append-nil details.words i; bytes = append-nil details.bytes i }

pub front-joined : (size : Size) (details more : Details) → HasSoMany size details
    → front size (joined details more) ≡ front size details
front-joined size details more has i = record {
  words = take-append-le size.words details.words more.words has.words i;
  bytes = take-append-le size.bytes details.bytes more.bytes has.bytes i;
}

pub behind-joined : (size : Size) (details more : Details) → HasSoMany size details
    → behind size (joined details more) ≡ joined (behind size details) more
behind-joined size details more has i = record {
  words = drop-append-le size.words details.words more.words has.words i;
  bytes = drop-append-le size.bytes details.bytes more.bytes has.bytes i;
}

-- where the first are just so many, these are the front, and the others are behind them

pub record HasJust (size : Size) (details : Details) : Type 0 where
  pub words : length details.words ≡ size.words
  pub bytes : length details.bytes ≡ size.bytes

pub front_at : (size : Size) (details more : Details) → HasJust size details
    → front size (joined details more) ≡ details
front_at size details more has i = record {
  words = take_at details.words more.words size.words has.words i;
  bytes = take_at details.bytes more.bytes size.bytes has.bytes i;
}

pub behind_at : (size : Size) (details more : Details) → HasJust size details
    → behind size (joined details more) ≡ more
behind_at size details more has i = record {
  words = drop_at details.words more.words size.words has.words i;
  bytes = drop_at details.bytes more.bytes size.bytes has.bytes i;
}

-- without others too
pub front_just : (size : Size) (details : Details) → HasJust size details → front size details ≡ details
front_just size details has = sym (ap (front size) (joined-none details)) ∙ front_at size details no_details has
