use Rattle.std.proofs.Common.{◌≡◌, ◌<◌, length, arith, sym, ◌∙◌}
use Rattle.record_text.specs.Reader.Cursor.{left_tokens}
use Rattle.record_text.specs.Spelling.{version_number}
use Rattle.record_text.proofs.Reader.EntryLines.{ended-more}
use Rattle.record_text.proofs.reading.ended.Goals as goal

pub returns-then-not-is_empty : goal.returns-then-not-is_empty
returns-then-not-is_empty c =
    let some : 0 < length c.args.rest.now = search arith in
    let same : length c.args.lines.items ≡ c.len-count.result = search arith in
    ended-more (version_number c.args.version) c.args.lines.items (left_tokens c.args.line) c.args.rest.now c.len-count.result some same (sym c.is_last.ensures ∙ c.if-not-is_last.false)
