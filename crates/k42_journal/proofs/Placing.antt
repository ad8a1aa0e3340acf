-- Entries that are put in order: just these entries, and in order where no two stand alike.
use Rattle.std.proofs.Common.{◌≡◌, suc, Bool, true, false, cond, List, [], ◌∷◌, length, refl, ap, ◌∙◌, inl, inr, ◌⊎◌}
use Rattle.std.specs.List.{AllByRecursion}
use Rattle.k42_kinds.specs.declared.entry.Entry.{Entry}
use Rattle.k42_stamp.specs.Orders.{IsBefore, Ordered, In}
use Rattle.k42_stamp.proofs.Elements.{all_weaker, all_at, all_in}
use Rattle.k42_stamp.proofs.Ordering.{before-trans}
use Rattle.k42_journal.specs.Keys.{comes_before}
use Rattle.k42_journal.specs.Merged.{placed, in_order}
use Rattle.k42_journal.proofs.Below.{before_decides}

-- how many, and which

length_chosen : {O R : Type 0} (b : Bool) (entry one : Entry O R) (others more : List (Entry O R)) → length more ≡ suc (length others) → length (cond b (one ∷ more) (entry ∷ one ∷ others)) ≡ suc (suc (length others))
length_chosen true entry one others more is = ap suc is
length_chosen false entry one others more is = refl

length-placed : {O R : Type 0} (entry : Entry O R) (entries : List (Entry O R)) → length (placed entry entries) ≡ suc (length entries)
length-placed entry [] = refl
length-placed entry (one ∷ others) = length_chosen (comes_before one entry) entry one others (placed entry others) (length-placed entry others)

pub length-in_order : {O R : Type 0} (entries : List (Entry O R)) → length (in_order entries) ≡ length entries
length-in_order [] = refl
length-in_order (entry ∷ entries) = length-placed entry (in_order entries) ∙ ap suc (length-in_order entries)

in_chosen : {O R : Type 0} (b : Bool) (e entry one : Entry O R) (others more : List (Entry O R)) → (In e more → (e ≡ entry) ⊎ In e others)
    → In e (cond b (one ∷ more) (entry ∷ one ∷ others)) → (e ≡ entry) ⊎ In e (one ∷ others)
in_chosen true e entry one others more known is = elim is [
  | inl same ↦ inr (inl same)
  | inr there ↦ elim (known there) [ inl same ↦ inl same | inr else ↦ inr (inr else) ]
]
in_chosen false e entry one others more known is = is

in-placed : {O R : Type 0} (e entry : Entry O R) (entries : List (Entry O R)) → In e (placed entry entries) → (e ≡ entry) ⊎ In e entries
in-placed e entry [] is = is
in-placed e entry (one ∷ others) is = in_chosen (comes_before one entry) e entry one others (placed entry others) (in-placed e entry others) is

chosen_in : {O R : Type 0} (b : Bool) (e entry one : Entry O R) (others more : List (Entry O R)) → ((e ≡ entry) ⊎ In e others → In e more)
    → (e ≡ entry) ⊎ In e (one ∷ others) → In e (cond b (one ∷ more) (entry ∷ one ∷ others))
chosen_in true e entry one others more known is = elim is [
  | inl same ↦ inr (known (inl same))
  | inr (inl same) ↦ inl same
  | inr (inr there) ↦ inr (known (inr there))
]
chosen_in false e entry one others more known is = is

placed_in : {O R : Type 0} (e entry : Entry O R) (entries : List (Entry O R)) → (e ≡ entry) ⊎ In e entries → In e (placed entry entries)
placed_in e entry [] is = is
placed_in e entry (one ∷ others) is = chosen_in (comes_before one entry) e entry one others (placed entry others) (placed_in e entry others) is

pub in-in_order : {O R : Type 0} (e : Entry O R) (entries : List (Entry O R)) → In e (in_order entries) → In e entries
in-in_order e [] is = is
in-in_order e (entry ∷ entries) is = elim (in-placed e entry (in_order entries) is) [
  | inl same ↦ inl same
  | inr there ↦ inr (in-in_order e entries there)
]

pub in_order_in : {O R : Type 0} (e : Entry O R) (entries : List (Entry O R)) → In e entries → In e (in_order entries)
in_order_in e [] is = is
in_order_in e (entry ∷ entries) is = placed_in e entry (in_order entries) (elim is [
  | inl same ↦ inl same
  | inr there ↦ inr (in_order_in e entries there)
])

-- in order

abbrev pub AreApart : {O R : Type 0} → Entry O R → Entry O R → Type 0
AreApart one other = IsBefore other one ⊎ IsBefore one other

ordered_chosen : {O R : Type 0} (b : Bool) (entry one : Entry O R) (others more : List (Entry O R)) → comes_before one entry ≡ b → Ordered IsBefore (one ∷ others) → AreApart entry one
    → Ordered IsBefore more → ((e : Entry O R) → In e more → (e ≡ entry) ⊎ In e others) → Ordered IsBefore (cond b (one ∷ more) (entry ∷ one ∷ others))
ordered_chosen {O} {R} true entry one others more is up apart up_more known = (all_in (IsBefore one) more behind, up_more) where
  before : IsBefore one entry
  before = (before_decides one entry).0 is

  behind : (e : Entry O R) → In e more → IsBefore one e
  behind e there = elim (known e there) [
    | inl same ↦ rw same before
    | inr else ↦ all_at (IsBefore one) others e up.0 else
  ]
ordered_chosen false entry one others more is up apart up_more known = ((before, all_weaker (IsBefore one) (IsBefore entry) (λ e later. before-trans entry one e before later) others up.0), up) where
  before : IsBefore entry one
  before = elim apart [
    | inl sooner ↦ let told = (before_decides one entry).1 sooner in absurd (cc)
    | inr later ↦ later
  ]

Ordered-placed : {O R : Type 0} (entry : Entry O R) (entries : List (Entry O R)) → Ordered IsBefore entries → AllByRecursion (AreApart entry) entries → Ordered IsBefore (placed entry entries)
Ordered-placed entry [] up apart = (tt, tt)
Ordered-placed entry (one ∷ others) up apart =
    ordered_chosen (comes_before one entry) entry one others (placed entry others) refl up apart.0 (Ordered-placed entry others up.1 apart.1) (λ e there. in-placed e entry others there)

-- no two entries stand alike
abbrev pub AreAllApart : {O R : Type 0} → List (Entry O R) → Type 0
AreAllApart entries = Ordered AreApart entries

pub Ordered-in_order : {O R : Type 0} (entries : List (Entry O R)) → AreAllApart entries → Ordered IsBefore (in_order entries)
Ordered-in_order [] apart = tt
Ordered-in_order (entry ∷ entries) apart =
    Ordered-placed entry (in_order entries) (Ordered-in_order entries apart.1)
    (all_in (AreApart entry) (in_order entries) (λ e there. all_at (AreApart entry) entries e apart.0 (in-in_order e entries there)))
