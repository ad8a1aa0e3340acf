-- One more entry at the end of a caller's list: when refusals stay timely.
use Rattle.std.proofs.Common.{◌≡◌, ℕ, ◌+◌, ◌≤◌, ◌⊎◌, ◌∙◌, List, [], ◌∷◌, ◌++◌, refl, sym, ap, subst, inl, inr, ⊎_elim}
use Rattle.std.proofs.lemmas.List.Elements.{All-append, All-from_recursion}
use Rattle.k42_kinds.specs.declared.entry.Answer.TheVariants.{Busy, Abandoned}
use Rattle.k42_kinds.specs.declared.entry.Entry.{Entry}
use Rattle.k42_kinds.specs.Legal.{IsOwn, IsNotPast, IsTimely}
use Rattle.k42_stamp.specs.Orders.{In}
use Rattle.k42_stamp.proofs.Elements.{in_right}
use Rattle.k42_joined.specs.Answers.{AreTimely}
use Rattle.k42_joined.proofs.RowsStamps.{all_placed}

module _ {E : Type 0} where
  -- an entry stands last, or before the last
  pub record IsLast (before after m : List E) (f e : E) : Type 0 where
    pub none : after ≡ []
    pub front : before ≡ m
    pub here : f ≡ e

  pub record IsBeforeLast (before after m : List E) (f e : E) : Type 0 where
    pub rest : List E
    pub back : after ≡ rest ++ e ∷ []
    pub front : m ≡ before ++ f ∷ rest

  no_more : (bs after : List E) (f : E) → [] ≡ bs ++ f ∷ after → ⊥
  no_more [] after f same = cc
  no_more (b ∷ bs) after f same = cc

  pub split_push : (before after m : List E) (f e : E) → m ++ e ∷ [] ≡ before ++ f ∷ after
      → IsLast before after m f e ⊎ IsBeforeLast before after m f e
  split_push [] after [] f e same = inl (record { none = cc; front = refl; here = cc })
  split_push (b ∷ bs) after [] f e same = let tail : [] ≡ bs ++ f ∷ after = cc in absurd (no_more bs after f tail)
  split_push [] after (x ∷ xs) f e same =
      let tail : xs ++ e ∷ [] ≡ after = cc in
      let head : x ≡ f = cc in
      inr (record { rest = xs; back = sym tail; front = ap (λ y. y ∷ xs) head })
  split_push (b ∷ bs) after (x ∷ xs) f e same =
      let tail : xs ++ e ∷ [] ≡ bs ++ f ∷ after = cc in
      let head : x ≡ b = cc in
      ⊎_elim (λ (last : IsLast bs after xs f e). inl (record { none = last.none; front = ap (λ ys. b ∷ ys) last.front ∙ ap (λ y. y ∷ xs) (sym head); here = last.here }))
      (λ (more : IsBeforeLast bs after xs f e). inr (record { rest = more.rest; back = more.back; front = ap (λ y. y ∷ xs) head ∙ ap (λ ys. b ∷ ys) more.front }))
      (split_push bs after xs f e tail)

-- what an earlier refusal asks of a later entry
pub record IsLaterFor {O R : Type 0} (m : List (Entry O R)) (e : Entry O R) : Type 0 where
  pub busy : (f : Entry O R) (number : ℕ) → In f m → f.answer ≡ Busy number → IsOwn f e → number ≤ e.incarnation + 1
  pub abandoned : (f : Entry O R) (number : ℕ) → In f m → f.answer ≡ Abandoned number → IsOwn f e → number ≤ e.incarnation + 1

-- what a refusal asks of the entries before it
pub record IsTimelyLast {O R : Type 0} (m : List (Entry O R)) (e : Entry O R) (number : ℕ) : Type 0 where
  pub incarnation : e.incarnation + 1 ≡ number
  pub earlier : (f : Entry O R) → In f m → IsOwn e f → IsNotPast number f

timely_last : {O R : Type 0} (m : List (Entry O R)) (e : Entry O R) (number : ℕ) → IsTimelyLast m e number → IsTimely m e [] number
timely_last m e number is = record {
  incarnation = is.incarnation;
  earlier = All-from_recursion (λ other. IsOwn e other → IsNotPast number other) m (all_placed (λ other. IsOwn e other → IsNotPast number other) m is.earlier);
  later = All-from_recursion (λ other. IsOwn e other → number ≤ other.incarnation + 1) [] tt;
}

timely_more : {O R : Type 0} (before rest : List (Entry O R)) (f e : Entry O R) (number : ℕ) → (IsOwn f e → number ≤ e.incarnation + 1) → IsTimely before f rest number
    → IsTimely before f (rest ++ e ∷ []) number
timely_more before rest f e number late is = record {
  incarnation = is.incarnation;
  earlier = is.earlier;
  later = All-append (λ other. IsOwn f other → number ≤ other.incarnation + 1) rest (e ∷ []) is.later
      (All-from_recursion (λ other. IsOwn f other → number ≤ other.incarnation + 1) (e ∷ []) (late, tt));
}

pub timely_push : {O R : Type 0} (m : List (Entry O R)) (e : Entry O R) → AreTimely m → IsLaterFor m e
    → ((number : ℕ) → e.answer ≡ Busy number → IsTimelyLast m e number) → ((number : ℕ) → e.answer ≡ Abandoned number → IsTimelyLast m e number)
    → AreTimely (m ++ e ∷ [])
timely_push {O} {R} m e timely late busy abandoned before f after cut =
    ⊎_elim {C = Stands before f after}
    (λ (last : IsLast before after m f e).
    subst (λ b. Stands b f after) (sym last.front) (subst (λ g. Stands m g after) (sym last.here) (subst (λ a. Stands m e a) (sym last.none)
    ((λ number is. timely_last m e number (busy number is)), (λ number is. timely_last m e number (abandoned number is))))))
    (λ (more : IsBeforeLast before after m f e).
    let inside : In f m = subst (λ (es : List (Entry O R)). In f es) (sym more.front) (in_right f before (f ∷ more.rest) (inl refl)) in
    let old = timely before f more.rest more.front in
    subst (λ a. Stands before f a) (sym more.back) (
      (λ number is. timely_more before more.rest f e number (late.busy f number inside is) (old.0 number is)),
      (λ number is. timely_more before more.rest f e number (late.abandoned f number inside is) (old.1 number is)),
    ))
    (split_push before after m f e cut)
  where
    Stands : List (Entry O R) → Entry O R → List (Entry O R) → Type 0
    Stands before f after =
        ((number : ℕ) → f.answer ≡ Busy number → IsTimely before f after number)
        × ((number : ℕ) → f.answer ≡ Abandoned number → IsTimely before f after number)
