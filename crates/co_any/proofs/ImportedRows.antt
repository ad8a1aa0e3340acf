-- A row that was made of a state is whole.
use Rattle.std.proofs.Common.{◌≡◌, ℕ, ◌<◌, ◌≤◌, List, sym, subst}
use Rattle.k42_kinds.specs.declared.operation.KindName.{KindName}
use Rattle.co_any.specs.declared.part.AnyPart.{AnyPart}
use Rattle.k42_kinds.specs.declared.states.AnyState.{AnyState}
use Rattle.co_any.specs.Layouts.{ways_of, whole_of, serves_of}
use Rattle.co_any.specs.AnyLaws.{any_imports}

pub whole_imported :
    (kind : KindName) (tag procs : ℕ) (state : AnyState) (row : List AnyPart) → tag ≤ 2 → 0 < procs
    → serves_of kind tag state → row ≡ (ways_of kind tag).imported procs state
    → whole_of kind tag procs row
whole_imported kind tag procs state row known some served made =
    subst (whole_of kind tag procs) (sym made) (any_imports kind tag procs state known some served).whole
