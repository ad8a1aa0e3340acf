-- The entries of a generated script's history can be counted.
use Rattle.std.proofs.Common.{◌≡◌, ℕ, ◌<◌, ◌≤◌, ◌^◌, List, length, subst, arith}
use Rattle.k42_kinds.specs.declared.operation.Op.{Op}
use Rattle.k42_kinds.specs.declared.operation.Reply.{Reply}
use Rattle.k42_kinds.specs.declared.entry.Entry.{Entry}
use Rattle.script_text.specs.Generated.{generated}
use Rattle.script_text.specs.Lawful.{IsLawful}
use Rattle.script_text.specs.declared.script.Script.{Script}
use Rattle.load_totals.proofs.StepActs.{length_is}

pub countable : (script : Script) (entries : List (Entry Op Reply)) → (n : ℕ) × (n ≤ 10000) × (script ≡ generated n) → IsLawful script entries → length entries < 2 ^ 32
countable script entries is lawful = omega (arith, is.1, length_is is.0 entries (subst (λ s. IsLawful s entries) is.2 lawful))
