-- Pages put into a map, one after the other.
use Rattle.std.specs.Prelude.{ℕ}
use Rattle.std.specs.FinMap as finite
use Rattle.k42_kinds.specs.declared.page.Page.{Page}
use Rattle.k42_kinds.specs.Objects.{Pages}

-- the page takes the place of what its number had
abbrev pub put_in : Pages → ℕ × Page → Pages
put_in pages entry = finite.insert pages entry.0 entry.1
