-- Two ways to keep a directory: as one map, and as a copy of it for each processor.
use Rattle.std.specs.Prelude.{◌≡◌, ℕ, List, [], ◌∷◌, map, length, replicate}
use Rattle.std.specs.FinMap as finite
use Rattle.k42_kinds.specs.declared.operation.Op.{Op}
use Rattle.k42_kinds.specs.declared.operation.Op.TheVariants.{Find, Size}
use Rattle.k42_kinds.specs.declared.operation.Reply.{Reply}
use Rattle.k42_kinds.specs.declared.entry.Reach.{Reach}
use Rattle.k42_kinds.specs.declared.entry.Reach.TheVariants.{One, All}
use Rattle.k42_kinds.specs.Objects.{Directory, directory_after, directory_reply}
use Rattle.k42_kinds.specs.Rows.{Ways, changed_at}

-- the first map of a row; nothing is bound where there is none
abbrev pub first_map : List Directory → Directory
first_map [] = finite.empty
first_map (names ∷ others) = names

-- the one map that is kept, for all processors
abbrev pub IsOneMap : ℕ → List Directory → Type 0
IsOneMap procs maps = length maps ≡ 1

abbrev pub shared : Ways Directory Directory Op Reply
shared = record {
  reach = λ procs op proc. One 0;
  empty = λ procs cell. finite.empty;
  part_after = directory_after;
  part_reply = directory_reply;
  row_after = λ maps op. changed_at (λ names. directory_after names op) maps 0;
  row_reply = λ maps op. directory_reply (first_map maps) op;
  combine = first_map;
  imported = λ procs names. names ∷ [];
}

-- one and the same map for each processor
abbrev pub AreCopies : ℕ → List Directory → Type 0
AreCopies procs copies = copies ≡ replicate procs (first_map copies)

-- a caller reads the copy of its own processor; what changes the directory changes all copies
abbrev pub spread_reach : ℕ → Op → ℕ → Reach
spread_reach procs (Find key) proc = One proc
spread_reach procs Size proc = One proc
spread_reach procs _ proc = All

abbrev pub spread : Ways Directory Directory Op Reply
spread = record {
  reach = spread_reach;
  empty = λ procs cell. finite.empty;
  part_after = directory_after;
  part_reply = directory_reply;
  row_after = λ copies op. map (λ names. directory_after names op) copies;
  row_reply = λ copies op. directory_reply (first_map copies) op;
  combine = first_map;
  imported = λ procs names. replicate procs names;
}
