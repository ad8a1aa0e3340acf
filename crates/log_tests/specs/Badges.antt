-- The operations and replies of a badge as a log keeps them.
use Rattle.std.specs.Prelude.{ℕ, ◌+◌, ◌-◌, ◌==◌, Bool, true, IsTrue, if◌then◌else◌, min, List, [], ◌∷◌, length}
use Rattle.k42_limits.specs.declared.TheConstants.{NAME_BYTES, TEXT_BYTES}
use Rattle.k42_kinds.specs.declared.packed.Label.{Label}
use Rattle.k42_kinds.specs.declared.packed.Size.{Size}
use Rattle.k42_kinds.specs.Words.{is_name, is_text}
use Rattle.k42_kinds.specs.Packing.{Packing, HasSize, labelled}
use Rattle.k42_kinds.specs.PackedCalls.{first_word, sized}
use Rattle.log_tests.specs.declared.badge.BadgeOp.{BadgeOp}
use Rattle.log_tests.specs.declared.badge.BadgeOp.TheVariants.{Number, Give}
use Rattle.log_tests.specs.declared.badge.BadgeReply.{BadgeReply}
use Rattle.log_tests.specs.declared.badge.BadgeReply.TheVariants.{Bore, Reads}

abbrev pub op_label : BadgeOp → Label
op_label (Number number) = labelled 0 0
op_label (Give name) = labelled 1 (length name)

abbrev pub op_words : BadgeOp → List ℕ
op_words (Number number) = number ∷ []
op_words (Give name) = []

abbrev pub op_bytes : BadgeOp → List ℕ
op_bytes (Number number) = []
op_bytes (Give name) = name

abbrev pub op_size : Label → Size
op_size label = if label.tag == 0 then sized 1 0 else sized 0 (min label.small NAME_BYTES)

abbrev pub op_unpacked : Label → List ℕ → List ℕ → BadgeOp
op_unpacked label words bytes = if label.tag == 0 then Number (first_word words) else Give bytes

-- its name is a name
abbrev pub is_named : BadgeOp → Bool
is_named (Number number) = true
is_named (Give name) = is_name name

pub record FitsOp (label : Label) (whole_words whole_bytes : List ℕ) : Type 0 where
  pub sized : HasSize (op_size label) whole_words whole_bytes
  pub named : IsTrue (is_named (op_unpacked label whole_words whole_bytes))

abbrev pub op_packing : Packing BadgeOp
op_packing = record {
  label = op_label;
  words = op_words;
  bytes = op_bytes;
  size = op_size;
  most = sized 1 NAME_BYTES;
  Fits = FitsOp;
  unpack = op_unpacked;
}

abbrev pub reply_label : BadgeReply → Label
reply_label (Bore number) = labelled 0 0
reply_label (Reads text) = labelled (1 + length text) 0

abbrev pub reply_words : BadgeReply → List ℕ
reply_words (Bore number) = number ∷ []
reply_words (Reads text) = []

abbrev pub reply_bytes : BadgeReply → List ℕ
reply_bytes (Bore number) = []
reply_bytes (Reads text) = text

abbrev pub reply_size : Label → Size
reply_size label = if label.tag == 0 then sized 1 0 else sized 0 (min (label.tag - 1) TEXT_BYTES)

abbrev pub reply_unpacked : Label → List ℕ → List ℕ → BadgeReply
reply_unpacked label words bytes = if label.tag == 0 then Bore (first_word words) else Reads bytes

-- its text is a text
abbrev pub is_worded : BadgeReply → Bool
is_worded (Bore number) = true
is_worded (Reads text) = is_text text

pub record FitsReply (label : Label) (whole_words whole_bytes : List ℕ) : Type 0 where
  pub sized : HasSize (reply_size label) whole_words whole_bytes
  pub worded : IsTrue (is_worded (reply_unpacked label whole_words whole_bytes))

abbrev pub reply_packing : Packing BadgeReply
reply_packing = record {
  label = reply_label;
  words = reply_words;
  bytes = reply_bytes;
  size = reply_size;
  most = sized 1 TEXT_BYTES;
  Fits = FitsReply;
  unpack = reply_unpacked;
}
