-- What decides on a line of words with one space between each two.
use Rattle.std.proofs.Common.{◌≡◌, ℕ, ◌+◌, ◌≤◌, Bool, true, false, inl, inr, eqb, List, [], ◌∷◌, ◌++◌, length, refl, sym, ap, ◌∙◌, arith}
use Rattle.std.specs.Prelude.{Some, None}
use Rattle.std.specs.List.{AllByRecursion, list_all, flat_map}
use Rattle.std.proofs.lemmas.Bool.{and_parts}
use Rattle.std.proofs.lemmas.Bool.Decides.{nat_tests}
use Rattle.std.proofs.lemmas.List.Elements.{recursion_from_All}
use Rattle.std.proofs.lemmas.List.Folds.{list_all-append}
use Rattle.std.proofs.lemmas.Option.{none-some}
use Rattle.k42_kinds.specs.Words.{is_visible}
use Rattle.k42_limits.specs.declared.TheConstants.{SCRIPT_BYTES, LINE_FEED, SPACE}
use Rattle.script_text.specs.Accepted.{IsWord, IsLineOf, EndsInTime, IsAcceptedWhere}
use Rattle.script_text.specs.Forms.{form_of}
use Rattle.script_text.specs.Language.{byte_limit, cause_of, NoneOffends, script_after}
use Rattle.script_text.specs.Lines.{text_of, is_printable, byte_count, holds_byte}
use Rattle.script_text.specs.Reading.{refusal_of, refusal_said}
use Rattle.script_text.specs.Spelled.{spaced, IsToken}
use Rattle.script_text.specs.Tokens.{says_nothing}
use Rattle.script_text.specs.declared.fault.ScriptCause.TheVariants.{TooLong}
use Rattle.script_text.specs.declared.form.Form.{Form}
use Rattle.script_text.specs.declared.script.Script.{Script}
use Rattle.script_text.proofs.FirstOffence.{holds_behind}
use Rattle.script_text.proofs.Refusals.{Passes, said_when, passes_when}
use Rattle.script_text.proofs.SoundScripts.{keeps_line, nothing_read}
use Rattle.script_text.proofs.SoundSteps.{IsSoundSoFar}
use Rattle.script_text.proofs.Spacing.{tokens_of-spaced}
use Rattle.script_text.proofs.Spellings.{word_token}
use Rattle.script_text.proofs.Underway.{byte_count-push, cause_of-long, cause_of-short}

visible_printable : (b : ℕ) → is_visible b ≡ true → is_printable b ≡ true
visible_printable b e = grind (arith, nat_tests, e)

printable_within : (b : ℕ) → is_printable b ≡ true → eqb b LINE_FEED ≡ false
printable_within b e = grind (arith, nat_tests, e)

word_tokens : (words : List (List ℕ)) → AllByRecursion IsWord words → AllByRecursion IsToken words
word_tokens [] are = tt
word_tokens (word ∷ words) are = (word_token word are.0.0 are.0.1, word_tokens words are.1)

word_printable : (word : List ℕ) → list_all is_visible word ≡ true → list_all is_printable word ≡ true
word_printable [] all = refl
word_printable (b ∷ word) all =
    let parts = and_parts (is_visible b) (list_all is_visible word) all in
    rw (visible_printable b parts.0) (word_printable word parts.1)

behind_printable : (words : List (List ℕ)) → AllByRecursion IsWord words → list_all is_printable (flat_map (λ word. (SPACE ∷ []) ++ word) words) ≡ true
behind_printable [] are = refl
behind_printable (word ∷ words) are =
    list_all-append is_printable word (flat_map (λ other. (SPACE ∷ []) ++ other) words) ∙ rw (word_printable word are.0.1, behind_printable words are.1) refl

spaced_printable : (words : List (List ℕ)) → AllByRecursion IsWord words → list_all is_printable (spaced words) ≡ true
spaced_printable [] are = refl
spaced_printable (word ∷ words) are =
    list_all-append is_printable word (flat_map (λ other. (SPACE ∷ []) ++ other) words) ∙ rw (word_printable word are.0.1, behind_printable words are.1) refl

text_of-ended : (text : List ℕ) → list_all is_printable text ≡ true → text_of (text ++ LINE_FEED ∷ []) ≡ text
text_of-ended [] all = refl
text_of-ended (b ∷ text) all =
    let parts = and_parts (is_printable b) (list_all is_printable text) all in
    rw (printable_within b parts.0, text_of-ended text parts.1) refl

text_of-open : (text : List ℕ) → list_all is_printable text ≡ true → text_of text ≡ text
text_of-open [] all = refl
text_of-open (b ∷ text) all =
    let parts = and_parts (is_printable b) (list_all is_printable text) all in
    rw (printable_within b parts.0, text_of-open text parts.1) refl

text_of-line : (words : List (List ℕ)) (line : List ℕ) → AllByRecursion IsWord words → IsLineOf words line → text_of line ≡ spaced words
text_of-line words line are (inl ended) = ap text_of ended ∙ text_of-ended (spaced words) (spaced_printable words are)
text_of-line words line are (inr bare) = ap text_of bare ∙ text_of-open (spaced words) (spaced_printable words are)

refusal_of-spaced : (script : Script) (words : List (List ℕ)) → AllByRecursion IsWord words → says_nothing words ≡ false → refusal_of script (spaced words) ≡ refusal_said script words
refusal_of-spaced script words are says = rw (spaced_printable words are, tokens_of-spaced words (word_tokens words are), says) refl

-- lines of which none offends end in time, and the script so far is sound
pub ended_in_time : (before : List (List ℕ)) → NoneOffends before → byte_count before ≤ SCRIPT_BYTES
ended_in_time before none = holds_behind (λ (lines : List (List ℕ)). byte_count lines ≤ SCRIPT_BYTES) keeps before (omega arith) none
  where
    keeps : (lines : List (List ℕ)) (line : List ℕ) → byte_count lines ≤ SCRIPT_BYTES → cause_of lines line ≡ None → byte_count (lines ++ line ∷ []) ≤ SCRIPT_BYTES
    keeps lines line within accepted = by (holds_byte byte_limit lines line) refl
      where
        by : (b : Bool) → holds_byte byte_limit lines line ≡ b → byte_count (lines ++ line ∷ []) ≤ SCRIPT_BYTES
        by true long = absurd (none-some TooLong (sym accepted ∙ cause_of-long lines line long))
        by false short =
            let ends : byte_count lines + length line ≤ SCRIPT_BYTES = grind (arith, nat_tests, within, short) in
            omega (arith, ends, byte_count-push lines line)

pub sound_so_far : (before : List (List ℕ)) → NoneOffends before → IsSoundSoFar (1 + length before) (script_after before)
sound_so_far before none = holds_behind (λ (lines : List (List ℕ)). IsSoundSoFar (1 + length lines) (script_after lines)) keeps_line before nothing_read none

module _ (before : List (List ℕ)) (within : byte_count before ≤ SCRIPT_BYTES) (words : List (List ℕ)) (are : AllByRecursion IsWord words) (says : says_nothing words ≡ false) (line : List ℕ) (is : IsLineOf words line) where
  short_line : holds_byte byte_limit before line ≡ false → cause_of before line ≡ refusal_said (script_after before) words
  short_line short = cause_of-short before line short ∙ ap (refusal_of (script_after before)) (text_of-line words line are is) ∙ refusal_of-spaced (script_after before) words are says

  accepted_parts : cause_of before line ≡ None → EndsInTime before line × (refusal_said (script_after before) words ≡ None)
  accepted_parts accepted = by (holds_byte byte_limit before line) refl
    where
      by : (b : Bool) → holds_byte byte_limit before line ≡ b → EndsInTime before line × (refusal_said (script_after before) words ≡ None)
      by true long = absurd (none-some TooLong (sym accepted ∙ cause_of-long before line long))
      by false short = (grind (arith, nat_tests, within, short), sym (short_line short) ∙ accepted)

  accepted_from : EndsInTime before line → refusal_said (script_after before) words ≡ None → cause_of before line ≡ None
  accepted_from ends none = short_line (grind (arith, nat_tests, ends)) ∙ none

-- A line of words whose form is known is accepted exactly where it ends in time and no test refuses
-- it, and so exactly where what the tests come to holds.
pub accepted_where : (before words : List (List ℕ)) (form : Form) (Holds : Type 0) → says_nothing words ≡ false → form_of (script_after before).procs words ≡ Some form
    → (IsSoundSoFar (1 + length before) (script_after before) → AllByRecursion IsWord words → (Passes (script_after before) words form → Holds) × (Holds → Passes (script_after before) words form)) → IsAcceptedWhere before words Holds
accepted_where before words form Holds says is tests none all line of_words =
    let are = recursion_from_All IsWord words all in
    let within = ended_in_time before none in
    let come_to = tests (sound_so_far before none) are in (
      λ accepted. let parts = accepted_parts before within words are says line of_words accepted in (parts.0, come_to.0 (passes_when (script_after before) words form is parts.1)),
      λ may. accepted_from before within words are says line of_words may.0 (said_when (script_after before) words form is (come_to.1 may.1)),
    )
