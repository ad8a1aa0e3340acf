-- A line is cut off behind its bytes that print.
use Rattle.std.proofs.Common.{◌≡◌, ◌≢◌, ℕ, zero, suc, ◌+◌, ◌-◌, ◌<◌, ◌≤◌, Bool, true, false, ◌&&◌, inl, inr, nat_eq, List, [], ◌∷◌, length, get_or, take, drop, add-zero, refl, sym, ap, ◌∙◌, arith}
use Rattle.std.proofs.Math.Nat.{suc-add}
use Rattle.std.proofs.lemmas.Bool.{cases_lt, false≢true}
use Rattle.std.proofs.lemmas.Bool.Decides.{nat_tests}
use Rattle.std.proofs.lemmas.List.{get_or-drop, length-drop, take_rest}
use Rattle.k42_limits.specs.declared.TheConstants.{LINE_FEED}
use Rattle.script_text.specs.Lines.{is_printable, is_printable_text}
use Rattle.script_text.proofs.LineCuts.{EndsAt}

-- n bytes print, and the byte behind them does not
pub record PrintsTo (bytes : List ℕ) (n : ℕ) : Type 0 where
  pub within : n ≤ length bytes
  pub before : (k : ℕ) → k < n → is_printable (get_or bytes k 0) ≡ true
  pub found : n < length bytes → is_printable (get_or bytes n 0) ≡ false

is_printable-line_feed : (byte : ℕ) → is_printable byte ≡ true → byte ≢ LINE_FEED
is_printable-line_feed byte printable same = false≢true (ap is_printable (sym same) ∙ printable)

-- the first line feed stands behind the bytes that print
ends_behind : (bytes : List ℕ) (n k : ℕ) → PrintsTo bytes n → EndsAt (drop n bytes) k → EndsAt bytes (n + k)
ends_behind bytes n k prints ends = record {
  within = omega (arith, ends.within, prints.within, length-drop n bytes);
  before = λ i lt. elim (cases_lt i n) [
    | inl in_front ↦ is_printable-line_feed (get_or bytes i 0) (prints.before i in_front)
    | inr behind ↦
        let there : n + (i - n) ≡ i = omega arith in
        rw (get_or-drop n bytes (i - n) 0, there) at (ends.before (i - n) (omega arith))
  ];
  found = λ lt. rw (get_or-drop n bytes k 0) at (ends.found (omega (arith, prints.within, length-drop n bytes)));
}

-- the same, as the rest of the bytes is cut off
pub ends_at : (bytes : List ℕ) (n k : ℕ) → PrintsTo bytes n → EndsAt (take (length bytes - n) (drop n bytes)) k → EndsAt bytes (n + k)
ends_at bytes n k prints ends = ends_behind bytes n k prints (rw take_rest at ends)

behind : (byte : ℕ) (bytes : List ℕ) (n : ℕ) → PrintsTo (byte ∷ bytes) (suc n) → PrintsTo bytes n
behind byte bytes n prints = record {
  within = omega (arith, prints.within);
  before = λ k lt. prints.before (suc k) (omega arith);
  found = λ lt. prints.found (omega arith);
}

all_print : (bytes : List ℕ) (n : ℕ) → PrintsTo bytes n → is_printable_text (take n bytes) ≡ true
all_print bytes zero prints = refl
all_print [] (suc n) prints = refl
all_print (byte ∷ bytes) (suc n) prints = rw (prints.before 0 (omega arith)) (all_print bytes n (behind byte bytes n prints))

and_false : (b : Bool) → (b && false) ≡ false
and_false true = refl
and_false false = refl

one_does_not : (bytes : List ℕ) (n k : ℕ) → PrintsTo bytes n → n < length bytes → is_printable_text (take (suc (n + k)) bytes) ≡ false
one_does_not [] n k prints more = absurd (omega arith)
one_does_not (byte ∷ bytes) zero k prints more = rw (prints.found more) refl
one_does_not (byte ∷ bytes) (suc n) k prints more =
    rw (suc-add n k, one_does_not bytes n k (behind byte bytes n prints) (omega arith)) (and_false (is_printable byte))

-- the text prints where the line feed stands right behind the bytes that do
pub prints_where : (bytes : List ℕ) (n k : ℕ) → PrintsTo bytes n → n + k ≤ length bytes → nat_eq k 0 ≡ is_printable_text (take (n + k) bytes)
prints_where bytes n zero prints within = rw add-zero (sym (all_print bytes n prints))
prints_where bytes n (suc k) prints within =
    let next : n + suc k ≡ suc (n + k) = omega arith in
    let some : nat_eq (suc k) 0 ≡ false = grind (arith, nat_tests) in
    rw (next, one_does_not bytes n k prints (omega arith)) some
