-- A script that is read line by line.
use Rattle.std.proofs.Common.{◌≡◌, ℕ, suc, ◌+◌, ◌-◌, ◌<◌, ◌≤◌, Bool, true, false, cond, not, ◌&&◌, List, [], ◌∷◌, ◌++◌, length, add-zero, refl, sym, ap, ◌∙◌, arith}
use Rattle.std.specs.Prelude.{Option, Some, None, Ok, Err}
use Rattle.std.proofs.lemmas.Bool.Decides.{nat_tests}
use Rattle.std.proofs.lemmas.List.{length-append}
use Rattle.std.proofs.lemmas.List.Sums.{sum_by-append}
use Rattle.script_text.specs.Lines.{lines_of, text_of, is_printable_text, byte_count, holds_byte}
use Rattle.script_text.specs.Tokens.{tokens_of, says_nothing}
use Rattle.script_text.specs.Cuts.{CutsLine}
use Rattle.script_text.specs.Language.{with_line, with_lines, no_script, script_after, refuses, first_of, causes_of_form, cause_of, byte_limit, fault_at, read_on, parsed}
use Rattle.script_text.specs.Reading.{Shows, Takes, script_so_far, refusal_of}
use Rattle.script_text.specs.declared.fault.ScriptCause.{ScriptCause}
use Rattle.script_text.specs.declared.fault.ScriptCause.TheVariants.{ProcsExpected, TooLong, BadByte}
use Rattle.script_text.specs.declared.script.Script.{Script}
use Rattle.script_text.specs.declared.reading.Reading.{Reading}

-- Some lines were read, none of which offends, and the rest of the bytes decides what the script is.
pub record IsUnderway (bytes rest : List ℕ) (line : ℕ) (reading : Reading) : Type 0 where
  pub before : List (List ℕ)
  pub goes_on : read_on before (lines_of rest) ≡ parsed bytes
  pub counted : length before ≡ line
  pub few : line ≤ byte_count before
  pub whole : byte_count before + length rest ≡ length bytes
  pub within : byte_count before < byte_limit
  pub shows : Shows (script_after before) reading

pub underway_at_start : (bytes : List ℕ) (reading : Reading) → Shows no_script reading → IsUnderway bytes bytes 0 reading
underway_at_start bytes reading shows = record { before = []; goes_on = refl; counted = refl; few = omega arith; whole = omega arith; within = omega arith; shows = shows }

-- the script with one more line at the end
pub with_lines-push : (script : Script) (number : ℕ) (before : List (List ℕ)) (line : List ℕ) → with_lines script number (before ++ line ∷ []) ≡ with_line (with_lines script number before) (number + length before) (text_of line)
with_lines-push script number [] line = rw add-zero refl
with_lines-push script number (first ∷ before) line =
    let next : (number + 1) + length before ≡ number + suc (length before) = omega arith in
    with_lines-push (with_line script number (text_of first)) (number + 1) before line ∙ rw next refl

pub byte_count-push : (before : List (List ℕ)) (line : List ℕ) → byte_count (before ++ line ∷ []) ≡ byte_count before + length line
byte_count-push before line = omega (arith, sum_by-append length before (line ∷ []))

-- a line that holds the first byte that is too many is refused for it
pub cause_of-long : (before : List (List ℕ)) (line : List ℕ) → holds_byte byte_limit before line ≡ true → cause_of before line ≡ Some TooLong
cause_of-long before line long = rw long refl

unless_skipped : (printable skipped : Bool) (test : ScriptCause → Bool)
    → cond (not printable) (Some BadByte) (first_of (λ cause. not skipped && test cause) (ProcsExpected ∷ causes_of_form)) ≡ cond (not printable) (Some BadByte) (cond skipped None (first_of test (ProcsExpected ∷ causes_of_form)))
unless_skipped printable true test = refl
unless_skipped printable false test = refl

-- any other line is refused by its text alone
pub cause_of-short : (before : List (List ℕ)) (line : List ℕ) → holds_byte byte_limit before line ≡ false → cause_of before line ≡ refusal_of (script_after before) (text_of line)
cause_of-short before line short =
    rw short (unless_skipped (is_printable_text (text_of line)) (says_nothing (tokens_of (text_of line))) (refuses (script_after before) (tokens_of (text_of line))))

-- the reader has taken the line
pub taken : (script : Script) (number : ℕ) (text : List ℕ) (answer : Option ScriptCause) (new : Reading) → Takes script number text (Ok answer) new → answer ≡ None → (refusal_of script text ≡ None) × Shows (with_line script number text) new
taken script number text None new takes none = takes
taken script number text (Some cause) new takes none = cc

-- or has refused it
pub refused : (script : Script) (number : ℕ) (text : List ℕ) (answer : Option ScriptCause) (cause : ScriptCause) (new : Reading) → Takes script number text (Ok answer) new → answer ≡ Some cause → refusal_of script text ≡ Some cause
refused script number text None cause new takes some = cc
refused script number text (Some given) cause new takes some = takes ∙ some

module _ (bytes rest text after : List ℕ) (line : ℕ) (reading : Reading) (u : IsUnderway bytes rest line reading) (cut : CutsLine rest text after) where
  lengths : byte_count u.before + length cut.line + length after ≡ length bytes
  lengths = omega (arith, u.whole, length-append cut.line after, ap length cut.whole)

  refused_here : (cause : ScriptCause) → cause_of u.before cut.line ≡ Some cause → parsed bytes ≡ Err (fault_at (line + 1) cause)
  refused_here cause offending = sym u.goes_on ∙ rw (cut.first, offending, u.counted) refl

  -- the line holds the first byte that is too many
  pub refused_for_length : byte_limit ≤ length bytes - length after → parsed bytes ≡ Err (fault_at (line + 1) TooLong)
  refused_for_length long =
      let holds : holds_byte byte_limit u.before cut.line ≡ true = grind (arith, nat_tests, u.within, long, lengths) in
      refused_here TooLong (cause_of-long u.before cut.line holds)

  decided : length bytes - length after < byte_limit → cause_of u.before cut.line ≡ refusal_of (script_so_far reading) text
  decided short =
      let holds : holds_byte byte_limit u.before cut.line ≡ false = grind (arith, nat_tests, short, lengths) in
      cause_of-short u.before cut.line holds ∙ ap (λ (script : Script). refusal_of script (text_of cut.line)) (sym u.shows.same) ∙ ap (refusal_of (script_so_far reading)) cut.says

  -- the line is refused
  pub refused_for_form : (cause : ScriptCause) → length bytes - length after < byte_limit → refusal_of (script_so_far reading) text ≡ Some cause → parsed bytes ≡ Err (fault_at (line + 1) cause)
  refused_for_form cause short refused = refused_here cause (decided short ∙ refused)

  -- the line was read
  pub underway_on : (new : Reading) → length bytes - length after < byte_limit → refusal_of (script_so_far reading) text ≡ None → Shows (with_line (script_so_far reading) (line + 1) text) new → IsUnderway bytes after (line + 1) new
  underway_on new short taken shows = record {
    before = u.before ++ cut.line ∷ [];
    goes_on = goes_here ∙ u.goes_on;
    counted = omega (arith, u.counted, length-append u.before (cut.line ∷ []));
    few = omega (arith, u.few, byte_count-push u.before cut.line, cut.some);
    whole = omega (arith, lengths, byte_count-push u.before cut.line);
    within = omega (arith, lengths, byte_count-push u.before cut.line, short);
    shows = record { same = shows.same ∙ same_here; kept = shows.kept };
  }
    where
      goes_here : read_on (u.before ++ cut.line ∷ []) (lines_of after) ≡ read_on u.before (lines_of rest)
      goes_here = rw (cut.first, decided short, taken) refl

      same_here : with_line (script_so_far reading) (line + 1) text ≡ script_after (u.before ++ cut.line ∷ [])
      same_here =
          let next : 1 + length u.before ≡ line + 1 = omega (arith, u.counted) in
          ap (λ (script : Script). with_line script (line + 1) text) u.shows.same ∙ ap (with_line (script_after u.before) (line + 1)) (sym cut.says)
          ∙ ap (λ (number : ℕ). with_line (script_after u.before) number (text_of cut.line)) (sym next) ∙ sym (with_lines-push no_script 1 u.before cut.line)

  -- nothing stands behind the lines that were read
  pub ends_here : length rest ≡ 0 → parsed bytes ≡ read_on u.before []
  ends_here none = ends_of rest u.goes_on none
    where
      ends_of : (left : List ℕ) → read_on u.before (lines_of left) ≡ parsed bytes → length left ≡ 0 → parsed bytes ≡ read_on u.before []
      ends_of [] goes_on none = sym goes_on
      ends_of (byte ∷ left) goes_on none = absurd (omega (arith, none))
