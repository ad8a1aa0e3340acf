use Rattle.std.proofs.Common.{◌≡◌, drop, map, fold}
use Rattle.co_pages.specs.SpreadRows as spread_rows
use Rattle.co_any.specs.Layouts.{places_of}
use Rattle.co_any.proofs.exports.collected.Given as goal

abbrev pub invariant-loop-part : goal.invariant-loop-part
invariant-loop-part l = fold spread_rows.cell_put_in l.pages (map places_of (drop l.part-index l.parts)) ≡ spread_rows.collected (map places_of l.parts)
