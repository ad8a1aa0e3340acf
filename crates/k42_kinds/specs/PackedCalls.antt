-- The operations and replies of the three kinds as a log keeps them.
use Rattle.std.specs.Prelude.{ℕ, ◌+◌, ◌-◌, ◌*◌, ◌/◌, ◌%◌, ◌==◌, Bool, true, IsTrue, if◌then◌else◌, min, List, [], ◌∷◌, length, slice_index_or}
use Rattle.k42_limits.specs.declared.TheConstants.{NAME_BYTES, TEXT_BYTES}
use Rattle.k42_kinds.specs.declared.operation.Op.{Op}
use Rattle.k42_kinds.specs.declared.operation.Op.TheVariants.{Add, Get, Drain, Bind, Find, Unbind, Size, Write, Read, Dirty, Clean, Seen}
use Rattle.k42_kinds.specs.declared.operation.Reply.{Reply}
use Rattle.k42_kinds.specs.declared.operation.Reply.TheVariants.{Done, Taken, None, Number, Text, Zero, Gone}
use Rattle.k42_kinds.specs.declared.packed.Label.{Label}
use Rattle.k42_kinds.specs.declared.packed.Size as sizes
use Rattle.k42_kinds.specs.Words.{is_name, is_text}
use Rattle.k42_kinds.specs.Packing.{Packing, HasSize, labelled}

abbrev pub first_word : List ℕ → ℕ
first_word words = slice_index_or words 0 0

abbrev pub sized : ℕ → ℕ → sizes.Size
sized words bytes = record { words = words; bytes = bytes }

-- The small number is an amount, the length of a name, or a page and the length of its text.
abbrev pub op_label : Op → Label
op_label (Add amount) = labelled 0 amount
op_label Get = labelled 1 0
op_label Drain = labelled 2 0
op_label (Bind key number) = labelled 3 (length key)
op_label (Find key) = labelled 4 (length key)
op_label (Unbind key) = labelled 5 (length key)
op_label Size = labelled 6 0
op_label (Write page text) = labelled 7 (length text * 65_536 + page)
op_label (Read page) = labelled 8 page
op_label Dirty = labelled 9 0
op_label Clean = labelled 10 0
op_label Seen = labelled 11 0

abbrev pub op_words : Op → List ℕ
op_words (Bind key number) = number ∷ []
op_words _ = []

abbrev pub op_bytes : Op → List ℕ
op_bytes (Bind key number) = key
op_bytes (Find key) = key
op_bytes (Unbind key) = key
op_bytes (Write page text) = text
op_bytes _ = []

abbrev pub op_size : Label → sizes.Size
op_size label =
    if label.tag == 3 then sized 1 (min label.small NAME_BYTES)
    else if label.tag == 4 then sized 0 (min label.small NAME_BYTES)
    else if label.tag == 5 then sized 0 (min label.small NAME_BYTES)
    else if label.tag == 7 then sized 0 (min (label.small / 65_536) TEXT_BYTES)
    else sized 0 0

abbrev pub op_unpacked : Label → List ℕ → List ℕ → Op
op_unpacked label words bytes =
    if label.tag == 0 then Add label.small
    else if label.tag == 1 then Get
    else if label.tag == 2 then Drain
    else if label.tag == 3 then Bind bytes (first_word words)
    else if label.tag == 4 then Find bytes
    else if label.tag == 5 then Unbind bytes
    else if label.tag == 6 then Size
    else if label.tag == 7 then Write (label.small % 65_536) bytes
    else if label.tag == 8 then Read (label.small % 65_536)
    else if label.tag == 9 then Dirty
    else if label.tag == 10 then Clean
    else Seen

-- its names are names, and its text is a text
abbrev pub is_spelled : Op → Bool
is_spelled (Bind key number) = is_name key
is_spelled (Find key) = is_name key
is_spelled (Unbind key) = is_name key
is_spelled (Write page text) = is_text text
is_spelled _ = true

-- they have the size that the label tells, and a name or a text where what is unpacked has one
pub record FitsOp (label : Label) (whole_words whole_bytes : List ℕ) : Type 0 where
  pub sized : HasSize (op_size label) whole_words whole_bytes
  pub spelled : IsTrue (is_spelled (op_unpacked label whole_words whole_bytes))

abbrev pub op_packing : Packing Op
op_packing = record {
  label = op_label;
  words = op_words;
  bytes = op_bytes;
  size = op_size;
  most = sized 1 TEXT_BYTES;
  Fits = FitsOp;
  unpack = op_unpacked;
}

-- The tag of a text tells its length.
abbrev pub reply_label : Reply → Label
reply_label Done = labelled 0 0
reply_label Taken = labelled 1 0
reply_label None = labelled 2 0
reply_label (Number number) = labelled 3 0
reply_label Zero = labelled 4 0
reply_label Gone = labelled 5 0
reply_label (Text text) = labelled (6 + length text) 0

abbrev pub reply_words : Reply → List ℕ
reply_words (Number number) = number ∷ []
reply_words _ = []

abbrev pub reply_bytes : Reply → List ℕ
reply_bytes (Text text) = text
reply_bytes _ = []

abbrev pub reply_size : Label → sizes.Size
reply_size label = if label.tag == 3 then sized 1 0 else sized 0 (min (label.tag - 6) TEXT_BYTES)

abbrev pub reply_unpacked : Label → List ℕ → List ℕ → Reply
reply_unpacked label words bytes =
    if label.tag == 0 then Done
    else if label.tag == 1 then Taken
    else if label.tag == 2 then None
    else if label.tag == 3 then Number (first_word words)
    else if label.tag == 4 then Zero
    else if label.tag == 5 then Gone
    else Text bytes

-- its text is a text
abbrev pub is_spelled_reply : Reply → Bool
is_spelled_reply (Text text) = is_text text
is_spelled_reply _ = true

-- they have the size that the label tells, and a text where what is unpacked has one
pub record FitsReply (label : Label) (whole_words whole_bytes : List ℕ) : Type 0 where
  pub sized : HasSize (reply_size label) whole_words whole_bytes
  pub spelled : IsTrue (is_spelled_reply (reply_unpacked label whole_words whole_bytes))

abbrev pub reply_packing : Packing Reply
reply_packing = record {
  label = reply_label;
  words = reply_words;
  bytes = reply_bytes;
  size = reply_size;
  most = sized 1 TEXT_BYTES;
  Fits = FitsReply;
  unpack = reply_unpacked;
}
