-- What reading a script answers.
use Rattle.std.specs.Prelude.{◌≡◌, Result, Ok, Err}
use Rattle.script_text.specs.declared.fault.ParseEnd.{ParseEnd}
use Rattle.script_text.specs.declared.fault.ParseEnd.TheVariants as ends
use Rattle.script_text.specs.declared.fault.ScriptFault.{ScriptFault}

-- the refusal is that of the definition, and want of memory is free
abbrev pub Refuses : {X : Type 0} → Result X ScriptFault → ParseEnd → Type 0
Refuses due ends.Memory = Unit {0}
Refuses due (ends.Fault fault) = due ≡ Err fault

-- what was answered is what is due, unless memory ran out
abbrev pub Answers : {X : Type 0} → Result X ScriptFault → Result X ParseEnd → Type 0
Answers due (Ok value) = due ≡ Ok value
Answers due (Err end) = Refuses due end
