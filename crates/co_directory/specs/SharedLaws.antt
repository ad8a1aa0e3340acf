-- The shared directory keeps the laws of layouts.
use Rattle.std.specs.Prelude.{ℕ, List, [], ◌∷◌, refl}
use Rattle.std.proofs.Common.{arith}
use Rattle.k42_kinds.specs.declared.operation.Op.{Op}
use Rattle.k42_kinds.specs.declared.entry.Reach.TheVariants.{One, All}
use Rattle.k42_kinds.specs.Objects.{Directory, directory_object}
use Rattle.k42_kinds.specs.LayoutLaws.{StepsRow}
use Rattle.co_directory.specs.Directories.{IsOneMap, shared}

pub shared_steps : (procs : ℕ) (maps : List Directory) (op : Op) → IsOneMap procs maps → StepsRow directory_object shared (IsOneMap procs) maps op (One 0)
shared_steps procs [] op whole = absurd (omega arith)
shared_steps procs (names ∷ others) op whole = record { whole = whole; moved = refl; replied = refl }

pub shared_steps_all : (procs : ℕ) (maps : List Directory) (op : Op) → IsOneMap procs maps → StepsRow directory_object shared (IsOneMap procs) maps op All
shared_steps_all procs [] op whole = absurd (omega arith)
shared_steps_all procs (names ∷ others) op whole = record { whole = whole; moved = refl; replied = refl }
