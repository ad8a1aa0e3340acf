-- The tokens of a record have neither spaces nor line feeds in them, so that a line is cut into just its tokens.
use Rattle.std.proofs.Common.{◌≡◌, ℕ, ◌^◌, ◌<◌, Bool, true, false, List, [], ◌∷◌, ◌++◌, length, refl, sym, ap, ◌∙◌, eqb, arith}
use Rattle.std.specs.Prelude.{Option, Some, None, option_map}
use Rattle.std.specs.Option.{option_map_or}
use Rattle.std.specs.List.{list_all, join_with_byte}
use Rattle.std.specs.Fmt.{decimal}
use Rattle.std.proofs.lemmas.Bool.{and_parts}
use Rattle.std.proofs.lemmas.Bool.Decides.{nat_tests}
use Rattle.std.proofs.lemmas.List.{append_assoc, append-nil}
use Rattle.std.proofs.lemmas.List.Splits.{join_with_byte-slice_split}
use Rattle.std.proofs.lemmas.Option.{same_Some}
use Rattle.k42_kinds.specs.Words.{is_digit, is_lower, continues_name, is_name, is_visible, is_text}
use Rattle.script_text.specs.Numbers.{is_number}
use Rattle.script_text.specs.Lines.{lines_of}
use Rattle.script_text.proofs.DecimalNumbers.{number_of-decimal}
use Rattle.record_text.specs.Tokens.{spaced, line_with}
use Rattle.record_text.specs.Reader.Lines.{body_of, pieces_of, tokens_on}
use Rattle.record_text.proofs.Reader.ByteCuts.{IsWithout, lines_of-ended, pieces_of-more, pieces_of-last, tokens_on-ended}
use Rattle.record_text.proofs.Reader.Parts.{passed}
use Rattle.record_text.proofs.Reader.Names.{false_unless}

-- each byte of the token shows on paper
abbrev pub is_solid : List ℕ → Bool
is_solid token = list_all is_visible token

abbrev pub are_solid : List (List ℕ) → Bool
are_solid tokens = list_all is_solid tokens

pub implied : {X : Type 0} (p q : X → Bool) → ((x : X) → p x ≡ true → q x ≡ true) → (xs : List X) → list_all p xs ≡ true → list_all q xs ≡ true
implied p q each [] all = refl
implied p q each (x ∷ xs) all =
    let parts = and_parts (p x) (list_all p xs) all in
    rw (each x parts.0, implied p q each xs parts.1) refl

true_is_false : true ≡ false → ⊥
true_is_false e = absurd cc

shown_is_hidden : (b byte : ℕ) → b ≡ byte → is_visible b ≡ true → is_visible byte ≡ false → ⊥
shown_is_hidden b byte same shown hidden = true_is_false (sym shown ∙ ap is_visible same ∙ hidden)

-- a byte that does not show is none of a solid token
without : (byte : ℕ) (bytes : List ℕ) → is_visible byte ≡ false → is_solid bytes ≡ true → IsWithout byte bytes
without byte [] hidden solid = tt
without byte (b ∷ bytes) hidden solid =
    let parts = and_parts (is_visible b) (is_solid bytes) solid in (
      false_unless (eqb b byte) (λ same. shown_is_hidden b byte (grind (arith, nat_tests, same)) parts.0 hidden),
      without byte bytes hidden parts.1,
    )

IsWithout-append : (byte : ℕ) (xs ys : List ℕ) → IsWithout byte xs → IsWithout byte ys → IsWithout byte (xs ++ ys)
IsWithout-append byte [] ys none_x none_y = none_y
IsWithout-append byte (x ∷ xs) ys none_x none_y = (none_x.0, IsWithout-append byte xs ys none_x.1 none_y)

pieces_of-spaced : (token : List ℕ) (tokens : List (List ℕ)) → are_solid (token ∷ tokens) ≡ true → pieces_of (spaced (token ∷ tokens)) ≡ token ∷ tokens
pieces_of-spaced token [] solid =
    let parts = and_parts (is_solid token) true solid in
    ap pieces_of (append-nil token) ∙ pieces_of-last token (without 32 token refl parts.0)
pieces_of-spaced token (next ∷ tokens) solid =
    let parts = and_parts (is_solid token) (are_solid (next ∷ tokens)) solid in
    pieces_of-more token (spaced (next ∷ tokens)) (without 32 token refl parts.0) ∙ ap (λ (pieces : List (List ℕ)). token ∷ pieces) (pieces_of-spaced next tokens parts.1)

-- a line that is made of tokens has just these
tokens_on-line_with : (token : List ℕ) (tokens : List (List ℕ)) → are_solid (token ∷ tokens) ≡ true → tokens_on (line_with (token ∷ tokens)) ≡ token ∷ tokens
tokens_on-line_with token tokens solid = tokens_on-ended (spaced (token ∷ tokens)) ∙ pieces_of-spaced token tokens solid

pub spaced-without : (token : List ℕ) (tokens : List (List ℕ)) → are_solid (token ∷ tokens) ≡ true → IsWithout 10 (spaced (token ∷ tokens))
spaced-without token [] solid = IsWithout-append 10 token [] (without 10 token refl (and_parts (is_solid token) true solid).0) tt
spaced-without token (next ∷ tokens) solid =
    let parts = and_parts (is_solid token) (are_solid (next ∷ tokens)) solid in
    IsWithout-append 10 token (32 ∷ spaced (next ∷ tokens)) (without 10 token refl parts.0) (refl, spaced-without next tokens parts.1)

-- it is the first line of what begins with it
lines_of-line_with : (token : List ℕ) (tokens : List (List ℕ)) (rest : List ℕ) → are_solid (token ∷ tokens) ≡ true → lines_of (line_with (token ∷ tokens) ++ rest) ≡ line_with (token ∷ tokens) ∷ lines_of rest
lines_of-line_with token tokens rest solid =
    ap lines_of (append_assoc (spaced (token ∷ tokens)) (10 ∷ []) rest) ∙ lines_of-ended (spaced (token ∷ tokens)) rest (spaced-without token tokens solid)

-- ---- a line is made of the tokens that it has

body_goes_on : (b : ℕ) (line : List ℕ) (rest : Option (List ℕ)) (body : List ℕ) → ((inner : List ℕ) → rest ≡ Some inner → line ≡ inner ++ 10 ∷ []) → option_map (λ (inner : List ℕ). b ∷ inner) rest ≡ Some body → b ∷ line ≡ body ++ 10 ∷ []
body_goes_on b line None body ends e = absurd cc
body_goes_on b line (Some inner) body ends e = rw (← same_Some (b ∷ inner) body e) (ap (λ (left : List ℕ). b ∷ left) (ends inner refl))

body_ends : (line body : List ℕ) → body_of line ≡ Some body → line ≡ body ++ 10 ∷ []
body_ends [] body e = absurd cc
body_ends (b ∷ []) body e =
    let this = passed (eqb b 10) (Some []) body e in
    rw (← same_Some [] body this.1) (ap (λ (c : ℕ). c ∷ []) (grind (arith, nat_tests, this.0)))
body_ends (b ∷ c ∷ line) body e = body_goes_on b (c ∷ line) (body_of (c ∷ line)) body (body_ends (c ∷ line)) e

spaced-join : (token : List ℕ) (tokens : List (List ℕ)) → spaced (token ∷ tokens) ≡ join_with_byte 32 (token ∷ tokens)
spaced-join token [] = append-nil token
spaced-join token (next ∷ tokens) = ap (λ (left : List ℕ). token ++ (32 ∷ left)) (spaced-join next tokens)

made_of : (line : List ℕ) (body : Option (List ℕ)) (token : List ℕ) (tokens : List (List ℕ)) → ((inner : List ℕ) → body ≡ Some inner → line ≡ inner ++ 10 ∷ []) → option_map_or pieces_of body [] ≡ token ∷ tokens → line ≡ line_with (token ∷ tokens)
made_of line None token tokens ends e = absurd cc
made_of line (Some body) token tokens ends e =
    let joined : spaced (token ∷ tokens) ≡ body = spaced-join token tokens ∙ ap (join_with_byte 32) (sym e) ∙ join_with_byte-slice_split 32 body in
    ends body refl ∙ ap (λ (text : List ℕ). text ++ 10 ∷ []) (sym joined)

pub line_of_tokens : (line : List ℕ) (tokens : List (List ℕ)) → 0 < length tokens → tokens_on line ≡ tokens → line ≡ line_with tokens
line_of_tokens line [] some e = absurd (omega (arith, some))
line_of_tokens line (token ∷ tokens) some e = made_of line (body_of line) token tokens (body_ends line) e

pub tokens_of_line : (tokens : List (List ℕ)) → 0 < length tokens → are_solid tokens ≡ true → tokens_on (line_with tokens) ≡ tokens
tokens_of_line [] some solid = absurd (omega (arith, some))
tokens_of_line (token ∷ tokens) some solid = tokens_on-line_with token tokens solid

pub lines_of_line : (tokens : List (List ℕ)) (rest : List ℕ) → 0 < length tokens → are_solid tokens ≡ true → lines_of (line_with tokens ++ rest) ≡ line_with tokens ∷ lines_of rest
lines_of_line [] rest some solid = absurd (omega (arith, some))
lines_of_line (token ∷ tokens) rest some solid = lines_of-line_with token tokens rest solid

-- ---- the parts of a record are solid

digit_shows : (b : ℕ) → is_digit b ≡ true → is_visible b ≡ true
digit_shows b is = grind (arith, nat_tests, is)

number_digits : (bytes : List ℕ) → is_number bytes ≡ true → list_all is_digit bytes ≡ true
number_digits [] is = absurd cc
number_digits (d ∷ []) is = rw is refl
number_digits (d ∷ e ∷ ds) is = (and_parts _ (list_all is_digit (d ∷ e ∷ ds)) is).1

pub decimal_solid : (n : ℕ) → n < 2 ^ 64 → is_solid (decimal n) ≡ true
decimal_solid n small =
    let number = (passed (is_number (decimal n)) (Some _) n ((number_of-decimal (decimal n) n small).1 refl)).0 in
    implied is_digit is_visible digit_shows (decimal n) (number_digits (decimal n) number)

name_byte_shows : (b : ℕ) → continues_name b ≡ true → is_visible b ≡ true
name_byte_shows b is = grind (arith, nat_tests, is)

first_shows : (b : ℕ) → is_lower b ≡ true → is_visible b ≡ true
first_shows b is = grind (arith, nat_tests, is)

pub name_solid : (name : List ℕ) → is_name name ≡ true → is_solid name ≡ true
name_solid [] is = absurd cc
name_solid (b ∷ bytes) is =
    let parts = and_parts _ (list_all continues_name bytes) is in
    let first = and_parts _ (is_lower b) parts.0 in
    rw (first_shows b first.1, implied continues_name is_visible name_byte_shows bytes parts.1) refl

pub text_solid : (text : List ℕ) → is_text text ≡ true → is_solid text ≡ true
text_solid text is = (and_parts _ (list_all is_visible text) is).1
