-- The words of a program, by what the system answers where it is asked for them.
use Rattle.std.specs.Prelude.{ℕ, Bool, true, false, List, [], ◌∷◌, drop, map, if◌then◌else◌, Option, Some, None, Result, Ok, Err, String, string_bytes}
use Rattle.std.specs.IoError.{error_kind}
use Rattle.std.specs.Vec.Iter.{into_iter_items}
use Rattle.std.specs.declared.io.Error.{Error}
use Rattle.std.specs.declared.io.ErrorKind.{ErrorKind}
use Rattle.std.specs.declared.io.ErrorKind.TheVariants.{OutOfMemory}
use Rattle.std.specs.declared.vec.IntoIter.{IntoIter}

-- whether the cause is that there was no memory
abbrev pub is_want_of_memory : ErrorKind → Bool
is_want_of_memory OutOfMemory = true
is_want_of_memory _ = false

-- The words behind the program's name, or none where there was no memory for them. In place of
-- words that are not UTF-8, or were not to be had, stands one empty word, which is no form of any
-- program.
abbrev pub words_said : {Z : Type 0} → Result (IntoIter (String Z) Z) Error → Option (List (List ℕ))
words_said (Ok args) = Some (map string_bytes (drop 1 (into_iter_items args)))
words_said (Err error) = if is_want_of_memory (error_kind error) then None else Some ([] ∷ [])
