-- The words of the causes.
use Rattle.std.specs.Prelude.{ℕ, List, codes}
use Rattle.script_text.specs.declared.fault.ScriptCause.{ScriptCause}
use Rattle.script_text.specs.declared.fault.ScriptCause.TheVariants.{ProcsExpected, UnknownWord, BadNumber, BadName, NameTwice, UnknownObject, WrongKind, WorkerExpected, TooMany, BlockFault, TooLong, BadByte}

-- a cause as the program prints it
abbrev pub cause_word : ScriptCause → List ℕ
cause_word ProcsExpected = codes "ProcsExpected"
cause_word UnknownWord = codes "UnknownWord"
cause_word BadNumber = codes "BadNumber"
cause_word BadName = codes "BadName"
cause_word NameTwice = codes "NameTwice"
cause_word UnknownObject = codes "UnknownObject"
cause_word WrongKind = codes "WrongKind"
cause_word WorkerExpected = codes "WorkerExpected"
cause_word TooMany = codes "TooMany"
cause_word BlockFault = codes "BlockFault"
cause_word TooLong = codes "TooLong"
cause_word BadByte = codes "BadByte"
