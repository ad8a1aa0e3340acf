-- A part that is read is spelled so, and what is spelled so is read.
use Rattle.std.proofs.Common.{◌≡◌, ℕ, ◌^◌, ◌<◌, ◌≤◌, Bool, true, false, cond, ◌&&◌, List, [], ◌∷◌, refl, sym, ap, ◌∙◌, eq-eqb, eqb, leb, arith, inl, inr}
use Rattle.std.specs.Prelude.{◌⊎◌, Option, Some, None}
use Rattle.std.specs.Option.{option_and_then}
use Rattle.std.specs.Str.{bytes_eq}
use Rattle.std.specs.Fmt.{decimal}
use Rattle.std.proofs.lemmas.Bool.Decides.{nat_tests}
use Rattle.std.proofs.lemmas.Option.{same_Some}
use Rattle.std.proofs.lemmas.Slice.Eq.{bytes_eq-Decides}
use Rattle.k42_kinds.specs.Words.{is_name, is_text}
use Rattle.script_text.specs.Numbers.{number_of, number_within}
use Rattle.script_text.proofs.DecimalNumbers.{number_of-decimal}
use Rattle.record_text.specs.Reader.Parts.{◌>>=◌, spelled_at, behind_word, number_at, name_at, text_at, marked_number, marked_at, at_end, most_32}

-- what the first of two steps found, and what the second made of it
pub step : {A B : Type 0} (first : Option A) (next : A → Option B) (y : B) → (first >>= next) ≡ Some y → (x : A) × (first ≡ Some x) × (next x ≡ Some y)
step (Some x) next y e = (x, refl, e)
step None next y e = absurd cc

-- the way that a test went
pub chosen : {A : Type 0} (test : Bool) (x y z : A) → cond test x y ≡ z → ((test ≡ true) × (x ≡ z)) ⊎ ((test ≡ false) × (y ≡ z))
chosen true x y z e = inl (refl, e)
chosen false x y z e = inr (refl, e)

-- only the way with a result is left
pub passed : {A : Type 0} (test : Bool) (x : Option A) (z : A) → cond test x None ≡ Some z → (test ≡ true) × (x ≡ Some z)
passed true x z e = (refl, e)
passed false x z e = absurd cc

pub same_word : (token word : List ℕ) → bytes_eq token word ≡ true → token ≡ word
same_word token word e = (bytes_eq-Decides token word).0 e

pub equal_words : (word : List ℕ) → bytes_eq word word ≡ true
equal_words word = (bytes_eq-Decides word word).1 refl

-- the token is this word, or the rest of the chain decides
pub word_or : {A : Type 0} (token word : List ℕ) (x y : Option A) (z : A) → cond (bytes_eq token word) x y ≡ Some z → ((token ≡ word) × (x ≡ Some z)) ⊎ (y ≡ Some z)
word_or token word x y z e =
    elim (chosen (bytes_eq token word) x y (Some z) e) [
      | inl this ↦ inl (same_word token word this.0, this.1)
      | inr other ↦ inr other.1
    ]

-- a value and what is left
pub pair_is : {A B : Type 0} (a c : A) (b d : B) → ◌≡◌ {A = Option (A × B)} (Some (a, b)) (Some (c, d)) → (a ≡ c) × (b ≡ d)
pair_is {A} {B} a c b d e =
    let both = same_Some (a, b) (c, d) e in
    (ap (λ (p : A × B). p.0) both, ap (λ (p : A × B). p.1) both)

-- the first token spells the value
pub record Spells {X : Type 0} (spelling : List ℕ → Option X) (tokens : List (List ℕ)) (value : X) (rest : List (List ℕ)) : Type 0 where
  pub token : List ℕ
  pub first : tokens ≡ token ∷ rest
  pub means : spelling token ≡ Some value

pub spelled_takes : {X : Type 0} (spelling : List ℕ → Option X) (tokens : List (List ℕ)) (value : X) (rest : List (List ℕ)) → spelled_at spelling tokens ≡ Some (value, rest) → Spells spelling tokens value rest
unfolding spelled_at
spelled_takes spelling [] value rest e = absurd cc
spelled_takes {X} spelling (token ∷ tokens) value rest e =
    let second = step (spelling token) (λ (v : X). Some (v, tokens)) (value, rest) e in
    let both = pair_is second.0 value tokens rest second.2 in
    record { token = token; first = ap (λ (left : List (List ℕ)). token ∷ left) both.1; means = second.1 ∙ ap (λ (v : X). Some v) both.0 }

pub spelled_again : {X : Type 0} (spelling : List ℕ → Option X) (token : List ℕ) (value : X) (rest : List (List ℕ)) → spelling token ≡ Some value → spelled_at spelling (token ∷ rest) ≡ Some (value, rest)
unfolding spelled_at
spelled_again spelling token value rest means = rw means refl

pub word_passes : (word : List ℕ) (tokens rest : List (List ℕ)) → behind_word word tokens ≡ Some rest → tokens ≡ word ∷ rest
unfolding behind_word
word_passes word [] rest e = absurd cc
word_passes word (token ∷ tokens) rest e =
    let this = passed (bytes_eq token word) (Some tokens) rest e in
    rw (same_word token word this.0, same_Some tokens rest this.1) refl

pub word_again : (word : List ℕ) (rest : List (List ℕ)) → behind_word word (word ∷ rest) ≡ Some rest
unfolding behind_word
word_again word rest = rw (equal_words word) refl

-- a number in a range is the number
pub record IsWithin (low high : ℕ) (token : List ℕ) (n : ℕ) : Type 0 where
  pub spelled : token ≡ decimal n
  pub above : low ≤ n
  pub below : n ≤ high

within_test : (low high : ℕ) (found : Option ℕ) (n : ℕ) → option_and_then (λ number. cond (leb low number && leb number high) (Some number) None) found ≡ Some n → (found ≡ Some n) × (low ≤ n) × (n ≤ high)
within_test low high None n e = absurd cc
within_test low high (Some m) n e =
    let this = passed (leb low m && leb m high) (Some m) n e in
    let same = same_Some m n this.1 in
    (this.1, grind (arith, nat_tests, this.0, same), grind (arith, nat_tests, this.0, same))

pub number_means : (low high : ℕ) (token : List ℕ) (n : ℕ) → high < 2 ^ 64 → number_within low high token ≡ Some n → IsWithin low high token n
number_means low high token n small e =
    let parts = within_test low high (number_of token) n e in
    record { spelled = (number_of-decimal token n (omega (arith, parts.2))).0 parts.0; above = parts.1; below = parts.2 }

pub number_spelled : (low high n : ℕ) → high < 2 ^ 64 → low ≤ n → n ≤ high → number_within low high (decimal n) ≡ Some n
number_spelled low high n small above below =
    rw ((number_of-decimal (decimal n) n (omega arith)).1 refl) (grind (arith, nat_tests, above, below))

-- a number at the front
pub record TakesNumber (low high : ℕ) (tokens : List (List ℕ)) (n : ℕ) (rest : List (List ℕ)) : Type 0 where
  pub spelled : tokens ≡ decimal n ∷ rest
  pub above : low ≤ n
  pub below : n ≤ high

pub number_takes : (low high : ℕ) (tokens : List (List ℕ)) (n : ℕ) (rest : List (List ℕ)) → high < 2 ^ 64 → number_at low high tokens ≡ Some (n, rest) → TakesNumber low high tokens n rest
number_takes low high tokens n rest small e =
    let first = spelled_takes (number_within low high) tokens n rest e in
    let number = number_means low high first.token n small first.means in
    record { spelled = first.first ∙ ap (λ (token : List ℕ). token ∷ rest) number.spelled; above = number.above; below = number.below }

pub number_again : (low high n : ℕ) (rest : List (List ℕ)) → high < 2 ^ 64 → low ≤ n → n ≤ high → number_at low high (decimal n ∷ rest) ≡ Some (n, rest)
number_again low high n rest small above below =
    spelled_again (number_within low high) (decimal n) n rest (number_spelled low high n small above below)

-- a token that is its own value
own_takes : (test : List ℕ → Bool) (tokens : List (List ℕ)) (value : List ℕ) (rest : List (List ℕ)) → spelled_at (λ token. cond (test token) (Some token) None) tokens ≡ Some (value, rest) → (tokens ≡ value ∷ rest) × (test value ≡ true)
own_takes test tokens value rest e =
    let first = spelled_takes (λ token. cond (test token) (Some token) None) tokens value rest e in
    let this = passed (test first.token) (Some first.token) value first.means in
    let same = same_Some first.token value this.1 in
    (first.first ∙ ap (λ (token : List ℕ). token ∷ rest) same, ap test (sym same) ∙ this.0)

own_again : (test : List ℕ → Bool) (value : List ℕ) (rest : List (List ℕ)) → test value ≡ true → spelled_at (λ token. cond (test token) (Some token) None) (value ∷ rest) ≡ Some (value, rest)
own_again test value rest is = spelled_again (λ token. cond (test token) (Some token) None) value value rest (rw is refl)

pub name_takes : (tokens : List (List ℕ)) (key : List ℕ) (rest : List (List ℕ)) → name_at tokens ≡ Some (key, rest) → (tokens ≡ key ∷ rest) × (is_name key ≡ true)
name_takes tokens key rest e = own_takes is_name tokens key rest e

pub name_again : (key : List ℕ) (rest : List (List ℕ)) → is_name key ≡ true → name_at (key ∷ rest) ≡ Some (key, rest)
name_again key rest is = own_again is_name key rest is

pub text_takes : (tokens : List (List ℕ)) (text : List ℕ) (rest : List (List ℕ)) → text_at tokens ≡ Some (text, rest) → (tokens ≡ text ∷ rest) × (is_text text ≡ true)
text_takes tokens text rest e = own_takes is_text tokens text rest e

pub text_again : (text : List ℕ) (rest : List (List ℕ)) → is_text text ≡ true → text_at (text ∷ rest) ≡ Some (text, rest)
text_again text rest is = own_again is_text text rest is

marked_means : (mark : ℕ) (token : List ℕ) (n : ℕ) → marked_number mark token ≡ Some n → (token ≡ mark ∷ decimal n) × (n < 2 ^ 32)
marked_means mark [] n e = absurd cc
marked_means mark (byte ∷ digits) n e =
    let this = passed (eqb byte mark) (number_within 0 most_32 digits) n e in
    let same : byte ≡ mark = grind (arith, nat_tests, this.0) in
    let number = number_means 0 most_32 digits n (omega arith) this.1 in
    (rw (same, number.spelled) refl, omega (arith, number.below))

pub marked_takes : (mark : ℕ) (tokens : List (List ℕ)) (n : ℕ) (rest : List (List ℕ)) → marked_at mark tokens ≡ Some (n, rest) → (tokens ≡ (mark ∷ decimal n) ∷ rest) × (n < 2 ^ 32)
marked_takes mark tokens n rest e =
    let first = spelled_takes (marked_number mark) tokens n rest e in
    let number = marked_means mark first.token n first.means in
    (first.first ∙ ap (λ (token : List ℕ). token ∷ rest) number.0, number.1)

pub marked_again : (mark n : ℕ) (rest : List (List ℕ)) → n < 2 ^ 32 → marked_at mark ((mark ∷ decimal n) ∷ rest) ≡ Some (n, rest)
marked_again mark n rest small =
    spelled_again (marked_number mark) (mark ∷ decimal n) n rest (rw (eq-eqb mark mark refl) (number_spelled 0 most_32 n (omega arith) (omega arith) (omega (arith, small))))

pub end_is : (tokens : List (List ℕ)) (done : Unit {0}) → at_end tokens ≡ Some done → tokens ≡ []
end_is [] done e = refl
end_is (token ∷ tokens) done e = absurd cc
