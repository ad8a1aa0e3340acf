-- Pages kept as one map, which all processors use.
use Rattle.std.specs.Prelude.{ℕ, List, [], ◌∷◌}
use Rattle.std.specs.FinMap as finite
use Rattle.k42_kinds.specs.declared.operation.Op.{Op}
use Rattle.k42_kinds.specs.declared.operation.Reply.{Reply}
use Rattle.k42_kinds.specs.declared.entry.Reach.TheVariants.{One}
use Rattle.k42_kinds.specs.Objects.{Pages, pages_after, pages_reply}
use Rattle.k42_kinds.specs.Rows.{Ways, changed_at}

-- every map of pages can be kept
abbrev pub IsAny : Pages → Type 0
IsAny pages = Unit {0}

-- the one map that is kept, for all processors
abbrev pub IsOneMap : ℕ → List Pages → Type 0
IsOneMap procs (pages ∷ []) = Unit {0}
IsOneMap procs _ = ⊥

abbrev pub map_of : List Pages → Pages
map_of [] = finite.empty
map_of (pages ∷ others) = pages

abbrev pub shared : Ways Pages Pages Op Reply
shared = record {
  reach = λ procs op proc. One 0;
  empty = λ procs cell. finite.empty;
  part_after = pages_after;
  part_reply = pages_reply;
  row_after = λ row op. changed_at (λ pages. pages_after pages op) row 0;
  row_reply = λ row op. pages_reply (map_of row) op;
  combine = map_of;
  imported = λ procs pages. pages ∷ [];
}
