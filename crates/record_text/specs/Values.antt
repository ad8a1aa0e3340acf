-- The values that a line of a record has: numbers of their widths, keys that are names, and texts.
use Rattle.std.specs.Prelude.{◌≡◌, ◌<◌, ◌^◌, true, length, All, IfSome}
use Rattle.k42_kinds.specs.Words.{is_name, is_text}
use Rattle.k42_kinds.specs.declared.operation.Op.{Op}
use Rattle.k42_kinds.specs.declared.operation.Op.TheVariants.{Add, Bind, Find, Unbind, Write}
use Rattle.k42_kinds.specs.declared.operation.Reply.{Reply}
use Rattle.k42_kinds.specs.declared.operation.Reply.TheVariants.{Number, Text}
use Rattle.k42_kinds.specs.declared.entry.Act.{Act}
use Rattle.k42_kinds.specs.declared.entry.Act.TheVariants.{Call}
use Rattle.k42_kinds.specs.declared.entry.Answer.{Answer}
use Rattle.k42_kinds.specs.declared.entry.Answer.TheVariants.{Replied, Swapped, Busy}
use Rattle.record_text.specs.declared.record.Extra.{Extra}
use Rattle.record_text.specs.declared.record.RecordLine.{RecordLine}
use Rattle.record_text.specs.declared.record.Record.{Record}

-- what an operation is given has the form
abbrev pub FitsOperation : Op → Type 0
FitsOperation (Add amount) = amount < 2 ^ 32
FitsOperation (Bind key number) = (is_name key ≡ true) × (number < 2 ^ 64)
FitsOperation (Find key) = is_name key ≡ true
FitsOperation (Unbind key) = is_name key ≡ true
FitsOperation (Write page text) = is_text text ≡ true
FitsOperation _ = Unit {0}

abbrev pub FitsAct : Act Op → Type 0
FitsAct (Call op) = FitsOperation op
FitsAct _ = Unit {0}

abbrev pub FitsReply : Reply → Type 0
FitsReply (Number number) = number < 2 ^ 64
FitsReply (Text text) = is_text text ≡ true
FitsReply _ = Unit {0}

abbrev pub FitsAnswer : Answer Reply → Type 0
FitsAnswer (Replied reply) = FitsReply reply
FitsAnswer (Swapped number) = number < 2 ^ 32
FitsAnswer (Busy number) = number < 2 ^ 32
FitsAnswer _ = Unit {0}

pub record FitsExtra (extra : Extra) : Type 0 where
  pub proc : extra.proc < 2 ^ 32
  pub generation : IfSome extra.generation (λ generation. generation < 2 ^ 32)

pub record FitsLine (line : RecordLine) : Type 0 where
  pub stamp : line.stamp < 2 ^ 64
  pub number : line.line < 2 ^ 32
  pub act : FitsAct line.act
  pub answer : FitsAnswer line.answer
  pub incarnation : line.incarnation < 2 ^ 32
  pub extra : IfSome line.extra FitsExtra

-- the lines have such values, and their number is one of 64 bits
pub record FitsRecord (written : Record) : Type 0 where
  pub lines : All FitsLine written.lines
  pub few : length written.lines < 2 ^ 64
