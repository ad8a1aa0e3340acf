-- What the facts of histories are worth after one more entry was drawn.
use Rattle.std.proofs.Common.{◌≡◌, ◌≢◌, ℕ, ◌+◌, ◌<◌, List, [], ◌∷◌, ◌++◌, length, sym, ap, ◌∙◌, subst, inl, inr, arith}
use Rattle.std.specs.Prelude.{Some, slice_get}
use Rattle.std.proofs.lemmas.Bool.Decides.{eqb_tells}
use Rattle.std.proofs.lemmas.List.{get_or-set_same, get_or-set_other, length-append}
use Rattle.std.proofs.lemmas.List.Sums.{sum_by-set}
use Rattle.k42_places.specs.Places.{EachPlace}
use Rattle.k42_places.proofs.Appended.{at_push, slice_get-append_left, slice_get-append_seam}
use Rattle.k42_kinds.specs.declared.entry.Entry.{Entry}
use Rattle.turn_core.specs.Plain.{Caller, Turns}
use Rattle.turn_core.specs.State.{caller_at, fresh_caller, change_caller}
use Rattle.turn_core.specs.Events.{caller_drawn}
use Rattle.turn_core.specs.Stamps.{last_stamp}
use Rattle.turn_core.specs.Sound.{drawn_by, held_by, entries_drawn, StandsIn, IsHistory}
use Rattle.turn_core.proofs.Rising.{rising-push, rising-one}

-- the callers after this one drew the entry
abbrev pub with_drawn : {O R : Type 0} → Turns O R → ℕ → Entry O R → List (Caller O R)
with_drawn s c entry = (change_caller (caller_drawn entry) s c).callers

pub drawn_by-same : {O R : Type 0} (s : Turns O R) (c : ℕ) (entry : Entry O R) → c < length s.callers → drawn_by (with_drawn s c entry) c ≡ drawn_by s.callers c ++ entry ∷ []
drawn_by-same {O} {R} s c entry there = ap (λ (x : Caller O R). x.mine) (get_or-set_same s.callers c (caller_drawn entry (caller_at s c)) fresh_caller there)

pub drawn_by-other : {O R : Type 0} (s : Turns O R) (c d : ℕ) (entry : Entry O R) → d ≢ c → drawn_by (with_drawn s c entry) d ≡ drawn_by s.callers d
drawn_by-other {O} {R} s c d entry apart = ap (λ (x : Caller O R). x.mine) (get_or-set_other s.callers c d (caller_drawn entry (caller_at s c)) fresh_caller apart)

pub held_by-drawn : {O R : Type 0} (s : Turns O R) (c d : ℕ) (entry : Entry O R) → c < length s.callers → held_by (with_drawn s c entry) d ≡ held_by s.callers d
held_by-drawn {O} {R} s c d entry there = elim (eqb_tells d c) [
  | inl same ↦ rw same.1 (ap (λ (x : Caller O R). x.held) (get_or-set_same s.callers c (caller_drawn entry (caller_at s c)) fresh_caller there))
  | inr apart ↦ ap (λ (x : Caller O R). x.held) (get_or-set_other s.callers c d (caller_drawn entry (caller_at s c)) fresh_caller apart.1)
]

-- what stood in its caller's list stands there still
pub stands-drawn : {O R : Type 0} (s : Turns O R) (c : ℕ) (entry other : Entry O R) → c < length s.callers → StandsIn s.callers other → StandsIn (with_drawn s c entry) other
stands-drawn {O} {R} s c entry other there stands = elim (eqb_tells other.caller c) [
  | inl same ↦ subst (λ (list : List (Entry O R)). slice_get list other.index ≡ Some other) (sym (ap (drawn_by (with_drawn s c entry)) same.1 ∙ drawn_by-same s c entry there)) (slice_get-append_left (drawn_by s.callers c) (entry ∷ []) other.index other (subst (λ d. slice_get (drawn_by s.callers d) other.index ≡ Some other) same.1 stands))
  | inr apart ↦ subst (λ (list : List (Entry O R)). slice_get list other.index ≡ Some other) (sym (drawn_by-other s c other.caller entry apart.1)) stands
]

-- the new entry stands in it
pub new_stands : {O R : Type 0} (s : Turns O R) (c : ℕ) (entry : Entry O R) → c < length s.callers → entry.caller ≡ c → entry.index ≡ length (drawn_by s.callers c) → StandsIn (with_drawn s c entry) entry
new_stands {O} {R} s c entry there caller index =
    let placed : slice_get (drawn_by s.callers c ++ entry ∷ []) entry.index ≡ Some entry = subst (λ n. slice_get (drawn_by s.callers c ++ entry ∷ []) n ≡ Some entry) (sym index) (slice_get-append_seam (drawn_by s.callers c) entry []) in
    let here : slice_get (drawn_by (with_drawn s c entry) c) entry.index ≡ Some entry = subst (λ (list : List (Entry O R)). slice_get list entry.index ≡ Some entry) (sym (drawn_by-same s c entry there)) placed in
    subst (λ d. slice_get (drawn_by (with_drawn s c entry) d) entry.index ≡ Some entry) (sym caller) here

pub entries-drawn : {O R : Type 0} (s : Turns O R) (c : ℕ) (entry : Entry O R) → c < length s.callers → entries_drawn (with_drawn s c entry) ≡ entries_drawn s.callers + 1
entries-drawn s c entry there =
    omega (arith, sum_by-set (λ x. length x.mine) s.callers c (caller_drawn entry (caller_at s c)) fresh_caller there, length-append (caller_at s c).mine (entry ∷ []))

-- a history is one still, and with the entry behind it too
pub history-kept : {O R : Type 0} (s : Turns O R) (c : ℕ) (entry : Entry O R) (history : List (Entry O R)) → c < length s.callers → IsHistory s.callers history → IsHistory (with_drawn s c entry) history
history-kept s c entry history there old = record { rising = old.rising; drawn = λ i other e. stands-drawn s c entry other there (old.drawn i other e) }

pub history-push : {O R : Type 0} (s : Turns O R) (c : ℕ) (entry : Entry O R) (history : List (Entry O R)) → c < length s.callers → StandsIn (with_drawn s c entry) entry → last_stamp history < entry.stamp → IsHistory s.callers history → IsHistory (with_drawn s c entry) (history ++ entry ∷ [])
history-push s c entry history there stands above old = record {
  rising = rising-push history entry old.rising above;
  drawn = λ i other e. elim (at_push history entry i other e) [
    | inl was ↦ stands-drawn s c entry other there (old.drawn i other was.1)
    | inr is ↦ subst (StandsIn (with_drawn s c entry)) is.1 stands
  ];
}

pub history-one : {O R : Type 0} (s : Turns O R) (c : ℕ) (entry : Entry O R) → StandsIn (with_drawn s c entry) entry → IsHistory (with_drawn s c entry) (entry ∷ [])
history-one s c entry stands = record {
  rising = rising-one entry;
  drawn = λ i other e. elim (at_push [] entry i other e) [
    | inl was ↦ absurd (omega (arith, was.0))
    | inr is ↦ subst (StandsIn (with_drawn s c entry)) is.1 stands
  ];
}

module _ {A : Type 0} where
  pub each_last : (P : A → Type 0) (xs : List A) (x : A) → EachPlace (λ i y. P y) (xs ++ x ∷ []) → P x
  each_last P xs x each = each (length xs) x (slice_get-append_seam xs x [])

  pub each_front : (P : A → Type 0) (xs : List A) (x : A) → EachPlace (λ i y. P y) (xs ++ x ∷ []) → EachPlace (λ i y. P y) xs
  each_front P xs x each i y e = each i y (slice_get-append_left xs (x ∷ []) i y e)

  pub each_push : (P : A → Type 0) (xs : List A) (x : A) → EachPlace (λ i y. P y) xs → P x → EachPlace (λ i y. P y) (xs ++ x ∷ [])
  each_push P xs x each here i y e = elim (at_push xs x i y e) [
    | inl was ↦ each i y was.1
    | inr is ↦ subst P is.1 here
  ]
