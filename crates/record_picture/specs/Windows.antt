-- Which entries of a record a picture shows.
use Rattle.std.specs.Prelude.{List, take, drop}
use Rattle.record_text.specs.declared.record.RecordLine.{RecordLine}
use Rattle.record_picture.specs.declared.window.Window.{Window}

-- those behind so many others, and no more than so many
abbrev pub shown : Window → List RecordLine → List RecordLine
shown window lines = take window.count (drop window.before lines)
