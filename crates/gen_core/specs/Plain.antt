-- The state as contracts see it: the fields of the code, with plain lists.
use Rattle.std.specs.Prelude.{ℕ, List, Option}
use Rattle.gen_core.specs.declared.state.GenProc.{GenProc}
use Rattle.gen_core.specs.declared.state.GraceAt.{GraceAt}

pub record Caller : Type 0 where
  pub proc : ℕ
  pub active : Option ℕ
  pub grace : GraceAt
  pub coming : Option ℕ
  pub waits : List ℕ

pub record Generations : Type 0 where
  pub procs : List GenProc
  pub callers : List Caller
  pub role : Option ℕ
