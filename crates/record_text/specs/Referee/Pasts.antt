-- What is known of a record while its lines are judged.
use Rattle.std.specs.Prelude.{◌≡◌, ℕ, ◌+◌, ◌≤◌, true, List, length, map, take, drop, Some, slice_get}
use Rattle.k42_kinds.specs.declared.operation.KindName.{KindName}
use Rattle.script_text.specs.Lawful.{kinds_of}
use Rattle.script_text.specs.declared.script.Script.{Script}
use Rattle.script_text.specs.declared.script.WorkerLines.{WorkerLines}
use Rattle.record_text.specs.Referee.Courses.{IsWalked, StandsAtLine}
use Rattle.record_text.specs.Referee.Doers.{Knows, has_rival}
use Rattle.record_text.specs.Referee.Judged.{IsKept}
use Rattle.record_text.specs.Referee.Marks.{Shows}
use Rattle.record_text.specs.Referee.Seen.{AreLeast, least_of, furthest_of}
use Rattle.record_text.specs.Told.{told, generations_by}
use Rattle.record_text.specs.declared.judging.course.Course.{Course}
use Rattle.record_text.specs.declared.judging.object.Object.{Object}
use Rattle.record_text.specs.declared.judging.Whole.{Whole}
use Rattle.record_text.specs.declared.judging.Past.{Past}
use Rattle.record_text.specs.declared.record.RecordLine.{RecordLine}

-- what is known of all lines
pub record IsWhole (lines : List RecordLine) (whole : Whole) : Type 0 where
  pub doers : Knows lines whole.doers
  pub later : AreLeast lines whole.later.items

-- the objects are as the lines before say
pub record AreKept (kinds : List KindName) (before : List RecordLine) (objects : List Object)
    : Type 0 where
  pub size : length objects ≡ length kinds
  pub each : (number : ℕ) (kind : KindName) (object : Object)
      → slice_get kinds number ≡ Some kind → slice_get objects number ≡ Some object
      → IsKept kind number (map told before) object

-- each worker has passed its lines
pub record AreWalked (script : Script) (before : List RecordLine) (courses : List Course)
    : Type 0 where
  pub size : length courses ≡ length script.workers
  pub each : (worker : ℕ) (lines : WorkerLines) (course : Course)
      → slice_get script.workers worker ≡ Some lines → slice_get courses worker ≡ Some course
      → IsWalked lines.items (generations_by worker before) course

-- a line of the worker comes next
pub record Stands (script : Script) (worker : ℕ) (courses : List Course) : Type 0 where
  pub lines : WorkerLines
  pub course : Course
  pub found : slice_get script.workers worker ≡ Some lines
  pub there : slice_get courses worker ≡ Some course
  pub standing : StandsAtLine lines.items course

-- the past of a record is what its lines so far have left
pub record IsPast (script : Script) (before : List RecordLine) (past : Past) : Type 0 where
  pub objects : AreKept (kinds_of script) before past.objects.items
  pub courses : AreWalked script before past.courses.items
  pub seen : Shows past.seen (λ worker object. furthest_of worker object before)

-- another's swap of this number may have refused the line
pub record IsRefusable (lines : List RecordLine) (line : RecordLine) (place number : ℕ)
    : Type 0 where
  pub incarnation : line.incarnation + 1 ≡ number
  pub earlier : furthest_of line.worker line.object (take place lines) ≤ number
  pub later : number ≤ least_of line.worker line.object (drop (place + 1) lines) + 1
  pub rival : has_rival lines line.worker line.object number ≡ true
