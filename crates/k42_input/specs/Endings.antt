-- The number with which the program ends.
use Rattle.std.specs.Prelude.{ℕ}
use Rattle.k42_input.specs.declared.status.Status.{Status}
use Rattle.k42_input.specs.declared.status.Status.TheVariants as statuses

-- 0 for work that was done, 1 to 6 for what stood in its way
abbrev pub exit_number : Status → ℕ
exit_number statuses.Ok = 0
exit_number statuses.Unlawful = 1
exit_number statuses.Usage = 2
exit_number statuses.Refused = 3
exit_number statuses.ReadFault = 4
exit_number statuses.WriteFault = 5
exit_number statuses.Memory = 6
