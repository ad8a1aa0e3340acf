-- The callers' lists and the histories before and after a step, and which entries stand in both.
use Rattle.std.proofs.Common.{◌≡◌, ◌≢◌, ℕ, zero, suc, ◌<◌, ◌≤◌, ◌⊎◌, ◌∙◌, Bool, true, List, [], ◌∷◌, ◌++◌, length, map, get_or, set, refl, sym, ap, subst, inl, inr, ⊎_elim, arith}
use Rattle.std.specs.List.{slice_get}
use Rattle.std.specs.Prelude.{Some}
use Rattle.std.proofs.lemmas.Bool.{cases_eq}
use Rattle.std.proofs.lemmas.Option.{same_Some, slice_get_within}
use Rattle.k42_kinds.specs.declared.entry.Entry.{Entry}
use Rattle.k42_kinds.specs.declared.entry.Act.{Act}
use Rattle.k42_kinds.specs.declared.entry.Answer.{Answer}
use Rattle.k42_places.proofs.Written.{at_set, slice_get-set_here, slice_get-set_else}
use Rattle.k42_stamp.specs.Chains.{Chain}
use Rattle.k42_stamp.specs.Lists.{InSome, InRows, InHistory, AreThose}
use Rattle.k42_stamp.specs.Orders.{In}
use Rattle.k42_stamp.proofs.Elements.{in_left, in_right, in-append}

-- lists of which one changes in nothing that is read
pub map-set_same : {A B : Type 0} (f : A → B) (xs : List A) (c : ℕ) (a d : A) → f a ≡ f (get_or xs c d) → map f (set xs c a) ≡ map f xs
map-set_same f [] c a d same = refl
map-set_same f (x ∷ xs) zero a d same = ap (λ y. y ∷ map f xs) same
map-set_same f (x ∷ xs) (suc c) a d same = ap (λ ys. f x ∷ ys) (map-set_same f xs c a d same)

pub map-set : {A B : Type 0} (f : A → B) (xs : List A) (c : ℕ) (a : A) → map f (set xs c a) ≡ set (map f xs) c (f a)
map-set f [] c a = refl
map-set f (x ∷ xs) zero a = refl
map-set f (x ∷ xs) (suc c) a = ap (λ ys. f x ∷ ys) (map-set f xs c a)

-- one caller's list with one more entry
module _ {O R : Type 0} (lists : List (List (Entry O R))) (c : ℕ) (mine : List (Entry O R)) (e : Entry O R) (here : slice_get lists c ≡ Some mine) where
  abbrev longer : List (List (Entry O R))
  longer = set lists c (mine ++ e ∷ [])

  pub some_new : InSome longer e
  some_new = record {
    place = c;
    list = mine ++ e ∷ [];
    there = slice_get-set_here lists c (mine ++ e ∷ []) (slice_get_within lists c mine here);
    has = in_right e mine (e ∷ []) (inl refl);
  }

  pub some_old : (f : Entry O R) → InSome lists f → InSome longer f
  some_old f is =
      ⊎_elim
      (λ (same : is.place ≡ c).
      let own : is.list ≡ mine = same_Some is.list mine (sym is.there ∙ ap (slice_get lists) same ∙ here) in
      record {
        place = c;
        list = mine ++ e ∷ [];
        there = slice_get-set_here lists c (mine ++ e ∷ []) (slice_get_within lists c mine here);
        has = in_left f mine (e ∷ []) (subst (λ (xs : List (Entry O R)). In f xs) own is.has);
      })
      (λ (other : is.place ≢ c). record {
        place = is.place;
        list = is.list;
        there = slice_get-set_else lists c is.place (mine ++ e ∷ []) other ∙ is.there;
        has = is.has;
      })
      (cases_eq is.place c)

  pub some_split : (f : Entry O R) → InSome longer f → (f ≡ e) ⊎ InSome lists f
  some_split f is =
      ⊎_elim
      (λ (t : (is.place ≡ c) × (mine ++ e ∷ [] ≡ is.list)).
      ⊎_elim (λ old. inr (record { place = c; list = mine; there = here; has = old }))
      (λ new. ⊎_elim (λ same. inl same) (λ none. absurd none) new)
      (in-append f mine (e ∷ []) (subst (λ (xs : List (Entry O R)). In f xs) (sym t.1) is.has)))
      (λ (t : (is.place ≢ c) × (slice_get lists is.place ≡ Some is.list)).
      inr (record { place = is.place; list = is.list; there = t.1; has = is.has }))
      (at_set lists c is.place (mine ++ e ∷ []) is.list is.there)

-- what a step does to the histories at the rows that there are
pub record Grows {L P O R : Type 0} (procs : ℕ) (old new : ℕ → ℕ → ℕ → List (Entry O R)) (chains newer : List (Chain L P O R)) (e : Entry O R) : Type 0 where
  -- every chain goes on, and none is new
  pub chain : (o : ℕ) (x : Chain L P O R) → slice_get chains o ≡ Some x → (y : Chain L P O R) × (slice_get newer o ≡ Some y) × (length x.past ≤ length y.past)
  pub kept :
      (o row p : ℕ) (x : Chain L P O R) (f : Entry O R) → slice_get chains o ≡ Some x → row ≤ length x.past → p < procs
      → In f (old o row p) → In f (new o row p)
  pub split :
      (o row p : ℕ) (y : Chain L P O R) (f : Entry O R) → slice_get newer o ≡ Some y → row ≤ length y.past → p < procs
      → In f (new o row p) → (f ≡ e) ⊎ ((x : Chain L P O R) × (slice_get chains o ≡ Some x) × InRows procs (length x.past) (old o) f)

-- the entry stands in the lists and, where it passes, in the histories
pub grown_those : {L P O R : Type 0} (procs : ℕ) (passes : Act O → Answer R → Bool) (lists : List (List (Entry O R))) (c : ℕ) (mine : List (Entry O R)) (e : Entry O R)
    → slice_get lists c ≡ Some mine → (old new : ℕ → ℕ → ℕ → List (Entry O R)) (chains newer : List (Chain L P O R)) → Grows procs old new chains newer e
    → (passes e.act e.answer ≡ true → InHistory procs new newer e) → AreThose procs passes lists old chains
    → AreThose procs passes (set lists c (mine ++ e ∷ [])) new newer
grown_those {O} {R} procs passes lists c mine e here old new chains newer grows stands those = record {
  placed = λ f is pass. ⊎_elim
      (λ (same : f ≡ e). subst (λ (g : Entry O R). InHistory procs new newer g) (sym same) (stands (subst (λ (g : Entry O R). passes g.act g.answer ≡ true) same pass)))
      (λ was. go_on f (those.placed f was pass)) (some_split lists c mine e here f is);
  given = λ o y f at is pass. let row = is.0 in let p = is.1 in
      ⊎_elim
      (λ (same : f ≡ e). subst (λ (g : Entry O R). InSome (set lists c (mine ++ e ∷ [])) g) (sym same) (some_new lists c mine e here))
      (λ was. some_old lists c mine e here f (those.given o was.0 f was.1 was.2 pass))
      (grows.split o row p y f at is.2 is.3 is.4);
} where
  go_on : (f : Entry O R) → InHistory procs old chains f → InHistory procs new newer f
  go_on f was =
      let next = grows.chain f.object was.chain was.there in
      let is = was.has in
      let le = is.2 in
      let more = next.2 in
      record {
        chain = next.0;
        there = next.1;
        has = (is.0, is.1, omega (arith, le, more), is.3, grows.kept f.object is.0 is.1 was.chain f was.there is.2 is.3 is.4);
      }
