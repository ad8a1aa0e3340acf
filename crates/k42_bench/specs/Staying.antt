-- A pass in its activity.
use Rattle.std.specs.Prelude.{◌≡◌}
use Rattle.k42_crews.specs.Ready.{IsIn}
use Rattle.co_system.specs.Systems.{SystemSeen, SystemPass}

-- it is in its activity still, that of the same caller, and has given nothing more to a section
pub record StaysIn (system : SystemSeen) (old new : SystemPass) : Type 0 where
  pub is_in : IsIn system new
  pub caller : new.view.number ≡ old.view.number
  pub keep : new.keep ≡ old.keep
