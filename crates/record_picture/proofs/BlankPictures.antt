-- Names and texts add no markup to a picture.
use Rattle.std.proofs.Common.{◌≡◌, List, ℕ, length, map, take, drop, refl}
use Rattle.std.proofs.lemmas.List.{length-map, drop-map, take-map}
use Rattle.script_text.specs.declared.script.Script.{Script}
use Rattle.record_text.specs.declared.record.Record.{Record}
use Rattle.record_text.specs.declared.record.RecordLine.{RecordLine}
use Rattle.record_picture.specs.Blanks.{blank_worker, blank_script, blank_line, blank_record}
use Rattle.record_picture.specs.Picture.{ground, entries, picture}
use Rattle.record_picture.specs.Windows.{shown}
use Rattle.record_picture.specs.declared.verdict.Verdict.{Verdict}
use Rattle.record_picture.specs.declared.window.Window.{Window}
use Rattle.record_picture.specs.Harmless.{markup}
use Rattle.record_picture.proofs.Markups.{markup-append}
use Rattle.record_picture.proofs.BlankPieces.{boxes-blank, lanes-blank, swap_lines-blank, frames-blank, fault-blank}

ground-blank : (script : Script) (before lines : List RecordLine) → markup (ground script before lines) ≡ markup (ground (blank_script script) (map blank_line before) (map blank_line lines))
unfolding ground
ground-blank script before lines = simp (markup-append, lanes-blank script, frames-blank script before lines, swap_lines-blank script lines) refl

entries-blank : (script : Script) (before : ℕ) (lines : List RecordLine) (verdict : Verdict) → markup (entries script before lines verdict) ≡ markup (entries (blank_script script) before (map blank_line lines) verdict)
unfolding entries
entries-blank script before lines verdict = rw (length-map script.workers blank_worker)
    (simp (markup-append, boxes-blank script before lines, fault-blank (length script.workers) before lines verdict) refl)

shown-blank : (window : Window) (lines : List RecordLine) → shown window (map blank_line lines) ≡ map blank_line (shown window lines)
shown-blank window lines = rw (drop-map blank_line window.before lines) (take-map blank_line window.count (drop window.before lines))

pub picture-blank : (script : Script) (written : Record) (verdict : Verdict) (window : Window) → markup (picture script written verdict window) ≡ markup (picture (blank_script script) (blank_record written) verdict window)
picture-blank script written verdict window =
    rw (shown-blank window written.lines, take-map blank_line window.before written.lines, length-map script.workers blank_worker, length-map written.lines blank_line, length-map (shown window written.lines) blank_line)
    (simp (markup-append, ground-blank script (take window.before written.lines) (shown window written.lines), entries-blank script window.before (shown window written.lines) verdict) refl)
