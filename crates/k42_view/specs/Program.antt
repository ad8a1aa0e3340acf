-- What the program is to do for its words and its input.
use Rattle.std.specs.Prelude.{◌≡◌, ℕ, ◌<◌, ◌⊎◌, List, codes, Option, Some, None, IfSome, Ok}
use Rattle.k42_io.specs.Sink.{Grows, GrowsByFront}
use Rattle.script_text.specs.Language.{parsed}
use Rattle.script_text.specs.declared.script.Script.{Script}
use Rattle.record_text.specs.declared.record.Record.{Record}
use Rattle.record_picture.specs.Picture.{picture}
use Rattle.record_picture.specs.declared.verdict.Verdict as marks
use Rattle.record_picture.specs.declared.verdict.Verdict.TheVariants as marked
use Rattle.record_picture.specs.declared.window.Window.{Window}
use Rattle.k42_input.specs.Dues.{IsRefusalDue, CompletesCheck}
use Rattle.k42_input.specs.Ends.{Ends, IsQuiet, Told, IsConsumed, IsUnread, FailsToRead, LacksMemory}
use Rattle.k42_input.specs.Separation.{script_part}
use Rattle.k42_input.specs.Verdicts.{IsSpelledIn, IsFoundOf, IsVerdict, spelling_rule, status_of, verdict_line}
use Rattle.k42_input.specs.declared.status.Status.{Status}
use Rattle.k42_input.specs.declared.status.Status.TheVariants as statuses
use Rattle.k42_input.specs.declared.verdict.Verdict.{Verdict}
use Rattle.k42_input.specs.declared.verdict.Verdict.TheVariants.{Lawful, Unlawful}

-- the line that names the words
abbrev pub usage_line : List ℕ
usage_line = codes "usage: k42-view [FROM COUNT] < input > record.svg\n"

-- the verdict as a picture tells it, which counts the entries itself
abbrev pub mark_of : Verdict → marks.Verdict
mark_of (Lawful entries) = marked.Lawful
mark_of (Unlawful line rule) = marked.Unlawful line rule

-- The output is the picture of the record under what is found of it, lawful or not.
pub record IsDrawn (window : Window) (script : Script) (written : Record) (status : Status)
    (output : List ℕ) : Type 0 where
  pub verdict : Verdict
  pub found : IsFoundOf script written verdict
  pub answered : status ≡ status_of verdict
  pub text : output ≡ picture script written (mark_of verdict) window

-- The script part is a script, the record part is a record, and the output is its picture.
pub record IsPictureDue (window : Window) (input : List ℕ) (status : Status) (output : List ℕ)
    : Type 0 where
  pub script : Script
  pub written : Record
  pub accepted : parsed (script_part input) ≡ Ok script
  pub spelled : IsSpelledIn script input written
  pub drawn : IsDrawn window script written status output

-- The output is the line of this verdict.
pub record IsTold (verdict : Verdict) (status : Status) (output : List ℕ) : Type 0 where
  pub answered : status ≡ status_of verdict
  pub text : output ≡ verdict_line verdict

-- The script part is a script, but no record stands behind it: the output is the line that says at
-- which line the rule of spelling is broken.
pub record IsMisspeltDue (input : List ℕ) (status : Status) (output : List ℕ) : Type 0 where
  pub script : Script
  pub line : ℕ
  pub accepted : parsed (script_part input) ≡ Ok script
  pub found : IsVerdict script input (Unlawful line spelling_rule)
  pub told : IsTold (Unlawful line spelling_rule) status output

-- The output that is due for the window that the words ask for and for the input, and the status
-- with it: a picture, or one line that says why there is none.
abbrev pub IsDue : Option Window → List ℕ → Status → List ℕ → Type 0
IsDue (Some window) input status output =
    IsPictureDue window input status output
    ⊎ IsMisspeltDue input status output
    ⊎ ((status ≡ statuses.Refused) × IsRefusalDue (script_part input) output)
IsDue None input status output = (status ≡ statuses.Usage) × (output ≡ usage_line)

-- The output that is due with this status was written whole, and nothing failed.
pub record WritesDue (asked : Option Window) (ends : Ends) (status : Status) : Type 0 where
  pub bytes : List ℕ
  pub output : List ℕ
  pub told : Told ends bytes
  pub due : IsDue asked bytes status output
  pub written : Grows ends.taken ends.taken_after output
  pub quiet : IsQuiet ends

-- A write failed and no read did, and the front of an output that was due was written.
pub record FailsToWrite (asked : Option Window) (ends : Ends) : Type 0 where
  pub fault : ends.write_faults < ends.write_faults_after
  pub reads : ends.read_faults_after ≡ ends.read_faults
  pub bytes : List ℕ
  pub status : Status
  pub output : List ℕ
  pub told : Told ends bytes
  pub due : IsDue asked bytes status output
  pub written : GrowsByFront ends.taken ends.taken_after output

-- What each status says of the ends. Where a record is lawful its input was read to the end. Words
-- that ask for nothing read nothing.
abbrev pub Says : Option Window → Ends → Status → Type 0
Says (Some window) ends statuses.Ok =
    WritesDue (Some window) ends statuses.Ok × IsConsumed ends.left ends.left_after
Says (Some window) ends statuses.Unlawful = WritesDue (Some window) ends statuses.Unlawful
Says (Some window) ends statuses.Refused = WritesDue (Some window) ends statuses.Refused
Says (Some window) ends statuses.ReadFault = FailsToRead ends
Says (Some window) ends statuses.WriteFault = FailsToWrite (Some window) ends
Says (Some window) ends statuses.Memory = LacksMemory ends
Says None ends statuses.Usage = WritesDue None ends statuses.Usage × IsUnread ends
Says None ends statuses.WriteFault = FailsToWrite None ends × IsUnread ends
Says _ _ _ = ⊥

-- What the program answers where no fault came: a script that is accepted has its record drawn or
-- told as misspelt, one that is refused is refused, else memory ran out; and words that ask for
-- nothing name the words. What is due says which picture or line.
abbrev pub Completes : Option Window → List ℕ → Status → Type 0
Completes (Some window) bytes status = CompletesCheck (parsed (script_part bytes)) status
Completes None bytes status = status ≡ statuses.Usage

-- The output is due for the bytes that the source had left, and a lawful record was read to the end.
pub record IsWorkedOut (window : Window) (left left_after : Option (List ℕ)) (status : Status)
    (output : List ℕ) : Type 0 where
  pub bytes : List ℕ
  pub told : IfSome left (λ before. before ≡ bytes)
  pub due : IsDue (Some window) bytes status output
  pub consumed : status ≡ statuses.Ok → IsConsumed left left_after
