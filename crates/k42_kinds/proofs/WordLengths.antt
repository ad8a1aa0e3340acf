-- How long names and texts are.
use Rattle.std.proofs.Common.{ℕ, ◌≤◌, List, [], ◌∷◌, length, IsTrue, arith}
use Rattle.std.proofs.lemmas.Bool.Decides.{nat_tests}
use Rattle.k42_limits.specs.declared.TheConstants.{NAME_BYTES, TEXT_BYTES}
use Rattle.k42_kinds.specs.Words.{is_name, is_text}

pub name_few : (bytes : List ℕ) → IsTrue (is_name bytes) → length bytes ≤ NAME_BYTES
name_few [] spelled = absurd (cc spelled)
name_few (first ∷ rest) spelled = grind (arith, nat_tests, spelled)

pub text_few : (bytes : List ℕ) → IsTrue (is_text bytes) → length bytes ≤ TEXT_BYTES
text_few bytes spelled = grind (arith, nat_tests, spelled)
