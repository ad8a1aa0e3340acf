-- What stands past the first byte that is too many makes no difference.
use Rattle.std.proofs.Common.{◌≡◌, ℕ, ◌+◌, ◌<◌, ◌≤◌, Bool, true, false, cond, List, [], ◌∷◌, ◌++◌, length, take, refl, sym, ap, ◌∙◌, arith}
use Rattle.std.specs.Prelude.{Err}
use Rattle.std.proofs.lemmas.Bool.Decides.{nat_tests}
use Rattle.std.proofs.lemmas.List.{length-take}
use Rattle.k42_limits.specs.declared.TheConstants.{SCRIPT_BYTES}
use Rattle.script_text.specs.Lines.{lines_of, byte_count, holds_byte}
use Rattle.script_text.specs.Language.{byte_limit, cause_of, fault_at, unless_refused, read_on, parsed}
use Rattle.script_text.specs.declared.fault.ScriptCause.TheVariants.{TooLong}
use Rattle.script_text.proofs.FirstBytes.{ends_before, behind, ends_before-true, ends_before-false, cut_lines, lines_of-take}
use Rattle.script_text.proofs.Underway.{byte_count-push, cause_of-long}

-- a line that holds the first byte that is too many is refused, whatever it is
long_refused : (before : List (List ℕ)) (line : List ℕ) (lines : List (List ℕ)) → byte_count before < byte_limit → byte_limit ≤ byte_count before + length line → read_on before (line ∷ lines) ≡ Err (fault_at (length before + 1) TooLong)
long_refused before line lines within long =
    let holds : holds_byte byte_limit before line ≡ true = grind (arith, nat_tests, within, long) in
    rw (cause_of-long before line holds) refl

read_on-choice : (before : List (List ℕ)) (n : ℕ) (line : List ℕ) (lines : List (List ℕ)) → 0 < n → byte_count before + n ≡ byte_limit
    → (0 < behind n line → byte_count (before ++ line ∷ []) + behind n line ≡ byte_limit → read_on (before ++ line ∷ []) (cut_lines (behind n line) lines) ≡ read_on (before ++ line ∷ []) lines)
    → (short : Bool) → ends_before n line ≡ short → read_on before (cond short (line ∷ cut_lines (behind n line) lines) (take n line ∷ [])) ≡ read_on before (line ∷ lines)
read_on-choice before n line lines some room later true e =
    let ends = ends_before-true n line e in
    let rest = later (omega (arith, ends.0, ends.1)) (omega (arith, room, ends.1, byte_count-push before line)) in
    ap (unless_refused (length before + 1) (cause_of before line)) rest
read_on-choice before n line lines some room later false e =
    let long = ends_before-false n line e in
    long_refused before (take n line) [] (omega (arith, room, some)) (omega (arith, room, length-take n line, long)) ∙ sym (long_refused before line lines (omega (arith, room, some)) (omega (arith, room, long)))

read_on-cut : (before : List (List ℕ)) (n : ℕ) (lines : List (List ℕ)) → 0 < n → byte_count before + n ≡ byte_limit → read_on before (cut_lines n lines) ≡ read_on before lines
unfolding cut_lines
read_on-cut before n [] some room = refl
read_on-cut before n (line ∷ lines) some room = read_on-choice before n line lines some room (read_on-cut (before ++ line ∷ []) (behind n line) lines) (ends_before n line) refl

-- the definition reads no further than the first byte that is too many
pub parsed-take : (bytes : List ℕ) → parsed (take byte_limit bytes) ≡ parsed bytes
parsed-take bytes = ap (read_on []) (lines_of-take bytes SCRIPT_BYTES) ∙ read_on-cut [] byte_limit (lines_of bytes) (omega arith) refl
