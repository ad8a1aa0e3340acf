-- The next entry of lists that are merged, and what its move keeps.
use Rattle.std.proofs.Common.{◌≡◌, ◌≢◌, ℕ, zero, suc, ◌+◌, ◌<◌, List, [], ◌∷◌, ◌++◌, length, map, get_or, refl, sym, ap, ◌∙◌, subst, inl, inr, ◌⊎◌, ⊎_elim, arith}
use Rattle.std.specs.Prelude.{Some, slice_get, slice_set}
use Rattle.std.specs.List.{AllByRecursion}
use Rattle.std.proofs.lemmas.List.Sums.{sum_by-cons}
use Rattle.std.proofs.lemmas.Bool.Decides.{eqb_tells}
use Rattle.std.proofs.lemmas.Option.{same_Some, slice_get_within}
use Rattle.k42_kinds.specs.declared.entry.Entry.{Entry}
use Rattle.k42_places.proofs.Written.{at_set, slice_get-set_here, slice_get-set_else}
use Rattle.k42_stamp.specs.Lists.{IsListOf, AreLists, InSome, IsTrace}
use Rattle.k42_stamp.specs.Merging.{IsNext, AreEmpty, IsAlone, HasMoved, entries_in}
use Rattle.k42_stamp.specs.Orders.{IsBelow, IsBefore, key_of, Ordered, In}
use Rattle.k42_stamp.proofs.Elements.{all_weaker, all_append, in_left, in_right, in-append}
use Rattle.k42_stamp.proofs.Ordering.{Ordered-append, before-trans, before-irreflexive, below_or, side_of}

-- a list that begins with an entry
pub begins : {O R : Type 0} (list : List (Entry O R)) (entry : Entry O R) → slice_get list 0 ≡ Some entry → (more : List (Entry O R)) × (list ≡ entry ∷ more)
begins [] entry at = absurd (cc)
begins {O} {R} (one ∷ more) entry at = (more, ap (λ (e : Entry O R). e ∷ more) (same_Some one entry at))

same_list : {O R : Type 0} (xs ys : List (Entry O R)) → Some xs ≡ Some ys → xs ≡ ys
same_list xs ys is = same_Some xs ys is

same_first : {O R : Type 0} (x y : Entry O R) (xs ys : List (Entry O R)) → x ∷ xs ≡ y ∷ ys → x ≡ y
same_first x y xs ys is = cc

none_begins : {O R : Type 0} (lists : List (List (Entry O R))) (p : ℕ) (one : Entry O R) (more : List (Entry O R)) → AreEmpty lists → slice_get lists p ≡ Some (one ∷ more) → ⊥
none_begins [] p one more empty at = cc
none_begins (list ∷ lists) zero one more empty at = let same = same_list list (one ∷ more) at in let none = empty.0 in cc
none_begins (list ∷ lists) (suc p) one more empty at = none_begins lists p one more empty.1 at

not_itself : {O R : Type 0} (entry one : Entry O R) → entry ≡ one → IsBefore one entry → ⊥
not_itself entry one is before = before-irreflexive entry (subst (λ e. IsBefore e entry) (sym is) before)

-- the only list that begins with an entry
pub next_alone : {O R : Type 0} (entry : Entry O R) (others : List (Entry O R)) (lists : List (List (Entry O R))) → AreEmpty lists → IsNext ((entry ∷ others) ∷ lists) 0 entry
next_alone {O} {R} entry others lists empty = record { others = others; there = refl; first = first } where
  first : (p : ℕ) (one : Entry O R) (more : List (Entry O R)) → slice_get ((entry ∷ others) ∷ lists) p ≡ Some (one ∷ more) → IsBefore one entry → ⊥
  first zero one more at before = not_itself entry one (same_first entry one others more (same_list (entry ∷ others) (one ∷ more) at)) before
  first (suc p) one more at before = none_begins lists p one more empty at

-- an entry that the next one of the other lists is not before
before_either : {O R : Type 0} (one entry other : Entry O R) → IsBefore one entry → (IsBefore other entry → ⊥) → IsBefore one other
before_either one entry other before late =
    ⊎_elim {C = IsBefore one other} (λ (b : IsBefore other entry). absurd (late b))
    (λ (t : (key_of other ≡ key_of entry) ⊎ IsBefore entry other). ⊎_elim {C = IsBefore one other}
    (λ (same : key_of other ≡ key_of entry). subst (λ key. IsBelow (key_of one) key) (sym same) before)
    (λ (b : IsBefore entry other). before-trans one entry other before b) t)
    (below_or (key_of other) (key_of entry) refl)

pub next_stays : {O R : Type 0} (entry other : Entry O R) (others : List (Entry O R)) (lists : List (List (Entry O R))) (place : ℕ) → IsNext lists place other → (IsBefore other entry → ⊥) → IsNext ((entry ∷ others) ∷ lists) 0 entry
next_stays {O} {R} entry other others lists place next late = record { others = others; there = refl; first = first } where
  first : (p : ℕ) (one : Entry O R) (more : List (Entry O R)) → slice_get ((entry ∷ others) ∷ lists) p ≡ Some (one ∷ more) → IsBefore one entry → ⊥
  first zero one more at before = not_itself entry one (same_first entry one others more (same_list (entry ∷ others) (one ∷ more) at)) before
  first (suc p) one more at before = next.first p one more at (before_either one entry other before late)

-- an entry that the next one of the other lists is before
next_behind : {O R : Type 0} (entry other : Entry O R) (others : List (Entry O R)) (lists : List (List (Entry O R))) (place : ℕ) → IsNext lists place other → IsBefore other entry → IsNext ((entry ∷ others) ∷ lists) (suc place) other
next_behind {O} {R} entry other others lists place next sooner = record { others = next.others; there = next.there; first = first } where
  first : (p : ℕ) (one : Entry O R) (more : List (Entry O R)) → slice_get ((entry ∷ others) ∷ lists) p ≡ Some (one ∷ more) → IsBefore one other → ⊥
  first zero one more at before =
      let same : entry ≡ one = same_first entry one others more (same_list (entry ∷ others) (one ∷ more) at) in
      before-irreflexive other (before-trans other entry other sooner (subst (λ e. IsBefore e other) (sym same) before))
  first (suc p) one more at before = next.first p one more at before

pub next_later : {O R : Type 0} (entry other : Entry O R) (others : List (Entry O R)) (lists : List (List (Entry O R))) (place : ℕ) → IsNext lists place other → IsBefore other entry → IsNext ((entry ∷ others) ∷ lists) (place + 1) other
next_later entry other others lists place next sooner =
    let same : suc place ≡ place + 1 = omega arith in
    subst (λ p. IsNext ((entry ∷ others) ∷ lists) p other) same (next_behind entry other others lists place next sooner)

same_or : (m n : ℕ) → (m ≡ n) ⊎ (m ≢ n)
same_or m n = elim (eqb_tells m n) [ inl same ↦ inl same.1 | inr other ↦ inr other.1 ]

-- how many entries are left once one has moved
pub one_fewer : {O R : Type 0} (lists : List (List (Entry O R))) (place : ℕ) (entry : Entry O R) (others : List (Entry O R)) → slice_get lists place ≡ Some (entry ∷ others) → entries_in (slice_set lists place others) + 1 ≡ entries_in lists
one_fewer [] place entry others at = absurd (cc)
one_fewer {O} {R} (list ∷ lists) zero entry others at =
    let same : list ≡ entry ∷ others = same_list list (entry ∷ others) at in
    let long : length list ≡ length others + 1 = rw same (omega arith) in
    by_cons list others lists long
  where
    by_cons : (list others : List (Entry O R)) (lists : List (List (Entry O R))) → length list ≡ length others + 1 → entries_in (others ∷ lists) + 1 ≡ entries_in (list ∷ lists)
    by_cons list others lists long = omega (arith, sum_by-cons length others lists, sum_by-cons length list lists, long)
one_fewer (list ∷ lists) (suc place) entry others at =
    let rest = one_fewer lists place entry others at in
    omega (arith, sum_by-cons length list (slice_set lists place others), sum_by-cons length list lists, rest)

-- the entry that was taken out of the list of the next one is that one
read_at : {O R : Type 0} (lists : List (List (Entry O R))) (place : ℕ) (list d : List (Entry O R)) → slice_get lists place ≡ Some list → get_or lists place d ≡ list
read_at [] place list d at = absurd (cc)
read_at (one ∷ lists) zero list d at = same_list one list at
read_at (one ∷ lists) (suc place) list d at = read_at lists place list d at

pub taken_there : {O R : Type 0} (lists : List (List (Entry O R))) (place : ℕ) (entry first : Entry O R) (list others : List (Entry O R)) → IsNext lists place entry → get_or lists place list ≡ list → list ≡ first ∷ others → slice_get lists place ≡ Some (first ∷ others)
taken_there lists place entry first list others next read begins =
    let same : entry ∷ next.others ≡ first ∷ others = sym (read_at lists place (entry ∷ next.others) list next.there) ∙ read ∙ begins in
    subst (λ l. slice_get lists place ≡ Some l) same next.there

pub has_moved : {O R : Type 0} (lists : List (List (Entry O R))) (place : ℕ) (entry first : Entry O R) (list others merged after : List (Entry O R)) → IsNext lists place entry → get_or lists place list ≡ list → list ≡ first ∷ others → after ≡ merged ++ first ∷ [] → HasMoved lists (slice_set lists place others) merged after
has_moved lists place entry first list others merged after next read begins grown =
    let both : entry ∷ next.others ≡ first ∷ others = sym (read_at lists place (entry ∷ next.others) list next.there) ∙ read ∙ begins in
    let same : entry ≡ first = same_first entry first next.others others both in
    record {
      place = place;
      entry = first;
      next = record {
        others = others;
        there = taken_there lists place entry first list others next read begins;
        first = λ p one more is before. next.first p one more is (subst (λ e. IsBefore one e) (sym same) before);
      };
      left = refl;
      moved = grown;
    }

-- what is merged so far of the lists: all that is left stands behind it
pub record IsMerging {O R : Type 0} (lists rests : List (List (Entry O R))) (merged : List (Entry O R)) : Type 0 where
  pub are : AreLists rests
  pub ordered : Ordered IsBefore merged
  pub later : (p : ℕ) (list : List (Entry O R)) → slice_get rests p ≡ Some list → AllByRecursion (λ one. AllByRecursion (IsBefore one) list) merged
  pub all : (e : Entry O R) → InSome lists e → In e merged ⊎ InSome rests e
  pub merged_only : (e : Entry O R) → In e merged → InSome lists e
  pub rests_only : (e : Entry O R) → InSome rests e → InSome lists e

nothing_merged : {O R : Type 0} (list : List (Entry O R)) → AllByRecursion (λ one. AllByRecursion (IsBefore one) list) []
nothing_merged list = tt

pub begins_merging : {O R : Type 0} (lists : List (List (Entry O R))) (merged : List (Entry O R)) → AreLists lists → merged ≡ [] → IsMerging lists lists merged
begins_merging lists merged are none = rw none (record {
  are = are;
  ordered = tt;
  later = λ p list at. tt;
  all = λ e is. inr is;
  merged_only = λ e is. absurd is;
  rests_only = λ e is. is;
})

-- the tail of a caller's list is one
tail_of : {O R : Type 0} (caller : ℕ) (entry : Entry O R) (others : List (Entry O R)) → IsListOf caller (entry ∷ others) → IsListOf caller others
tail_of caller entry others is = record { rising = is.rising.1; own = is.own.1 }

-- the first entry of a caller's list stands before all others
behind_first : {O R : Type 0} (caller : ℕ) (entry : Entry O R) (others : List (Entry O R)) → IsListOf caller (entry ∷ others) → AllByRecursion (IsBefore entry) others
behind_first caller entry others is = all_weaker (λ e. entry.stamp < e.stamp) (IsBefore entry) (λ e less. inl less) others is.rising.0

module _ {O R : Type 0} (lists rests : List (List (Entry O R))) (merged : List (Entry O R)) (so_far : IsMerging lists rests merged) (place : ℕ) (entry : Entry O R) (next : IsNext rests place entry) where
  left : List (List (Entry O R))
  left = slice_set rests place next.others

  own : IsListOf place (entry ∷ next.others)
  own = so_far.are place (entry ∷ next.others) next.there

  -- the next entry stands before the first of each other list
  before_other : (p : ℕ) (one : Entry O R) (more : List (Entry O R)) → p ≢ place → slice_get rests p ≡ Some (one ∷ more) → IsBefore entry one
  before_other p one more another at =
      let its = so_far.are p (one ∷ more) at in
      ⊎_elim {C = IsBefore entry one} (λ (b : IsBefore one entry). absurd (next.first p one more at b)) (λ (b : IsBefore entry one). b)
      (side_of entry one (λ callers. let mine : entry.caller ≡ place = own.own.0 in let other : one.caller ≡ p = its.own.0 in absurd (another (sym other ∙ callers ∙ mine))))

  -- and so before all of it
  before_list : (p : ℕ) (list : List (Entry O R)) → p ≢ place → slice_get rests p ≡ Some list → AllByRecursion (IsBefore entry) list
  before_list p [] another at = tt
  before_list p (one ∷ more) another at =
      let first = before_other p one more another at in
      (first, all_weaker (IsBefore one) (IsBefore entry) (λ e b. before-trans entry one e first b) more (behind_first p one more (so_far.are p (one ∷ more) at)))

  pub goes_on : (grown : List (Entry O R)) → grown ≡ merged ++ entry ∷ [] → IsMerging lists (slice_set rests place next.others) grown
  unfolding left
  goes_on grown is = rw is (record {
    are = λ p list at. by_place p list (at_set rests place p next.others list at);
    ordered = Ordered-append IsBefore merged (entry ∷ []) so_far.ordered (tt, tt)
        (all_weaker (λ one. AllByRecursion (IsBefore one) (entry ∷ next.others)) (λ one. AllByRecursion (IsBefore one) (entry ∷ [])) (λ one b. (b.0, tt)) merged (so_far.later place (entry ∷ next.others) next.there));
    later = λ p list at. later_at p list (at_set rests place p next.others list at);
    all = λ e there. still e (so_far.all e there);
    merged_only = λ e i. ⊎_elim {C = InSome lists e} (λ (t : In e merged). so_far.merged_only e t)
        (λ (t : In e (entry ∷ [])). ⊎_elim {C = InSome lists e} (λ (q : e ≡ entry). so_far.rests_only e (record { place = place; list = entry ∷ next.others; there = next.there; has = inl q })) (λ (none : ⊥). absurd none) t)
        (in-append e merged (entry ∷ []) i);
    rests_only = λ e i. so_far.rests_only e (back e i.place i.list i.has (at_set rests place i.place next.others i.list i.there));
  }) where
    by_place : (p : ℕ) (list : List (Entry O R)) → ((p ≡ place) × (next.others ≡ list)) ⊎ ((p ≢ place) × (slice_get rests p ≡ Some list)) → IsListOf p list
    by_place p list which = ⊎_elim {C = IsListOf p list}
        (λ (here : (p ≡ place) × (next.others ≡ list)). subst (λ n. IsListOf n list) (sym here.0) (subst (λ l. IsListOf place l) here.1 (tail_of place entry next.others own)))
        (λ (else : (p ≢ place) × (slice_get rests p ≡ Some list)). so_far.are p list else.1) which

    later_at : (p : ℕ) (list : List (Entry O R)) → ((p ≡ place) × (next.others ≡ list)) ⊎ ((p ≢ place) × (slice_get rests p ≡ Some list)) → AllByRecursion (λ one. AllByRecursion (IsBefore one) list) (merged ++ entry ∷ [])
    later_at p list which = ⊎_elim {C = AllByRecursion (λ one. AllByRecursion (IsBefore one) list) (merged ++ entry ∷ [])}
        (λ (here : (p ≡ place) × (next.others ≡ list)). subst (λ l. AllByRecursion (λ one. AllByRecursion (IsBefore one) l) (merged ++ entry ∷ [])) here.1
        (all_append (λ one. AllByRecursion (IsBefore one) next.others) merged (entry ∷ [])
        (all_weaker (λ one. AllByRecursion (IsBefore one) (entry ∷ next.others)) (λ one. AllByRecursion (IsBefore one) next.others) (λ one b. b.1) merged (so_far.later place (entry ∷ next.others) next.there))
        (behind_first place entry next.others own, tt)))
        (λ (else : (p ≢ place) × (slice_get rests p ≡ Some list)). all_append (λ one. AllByRecursion (IsBefore one) list) merged (entry ∷ []) (so_far.later p list else.1) (before_list p list else.0 else.1, tt)) which

    -- an entry that is left is one of those before
    back : (e : Entry O R) (p : ℕ) (list : List (Entry O R)) → In e list → ((p ≡ place) × (next.others ≡ list)) ⊎ ((p ≢ place) × (slice_get rests p ≡ Some list)) → InSome rests e
    back e p list has which = ⊎_elim {C = InSome rests e}
        (λ (here : (p ≡ place) × (next.others ≡ list)). record { place = place; list = entry ∷ next.others; there = next.there; has = inr (subst (In e) (sym here.1) has) })
        (λ (else : (p ≢ place) × (slice_get rests p ≡ Some list)). record { place = p; list = list; there = else.1; has = has }) which

    -- and an entry of those before has moved, or is left
    stays_at : (e : Entry O R) (p : ℕ) (list : List (Entry O R)) → slice_get rests p ≡ Some list → In e list → (p ≡ place) ⊎ (p ≢ place) → In e (merged ++ entry ∷ []) ⊎ InSome (slice_set rests place next.others) e
    stays_at e p list at has which = ⊎_elim {C = In e (merged ++ entry ∷ []) ⊎ InSome (slice_set rests place next.others) e}
        (λ (here : p ≡ place).
        let same : list ≡ entry ∷ next.others = same_list list (entry ∷ next.others) (sym at ∙ ap (slice_get rests) here ∙ next.there) in
        ⊎_elim {C = In e (merged ++ entry ∷ []) ⊎ InSome (slice_set rests place next.others) e}
        (λ (q : e ≡ entry). inl (in_right e merged (entry ∷ []) (inl q)))
        (λ (t : In e next.others). inr (record { place = place; list = next.others; there = slice_get-set_here rests place next.others (slice_get_within rests place (entry ∷ next.others) next.there); has = t }))
        (subst (In e) same has))
        (λ (else : p ≢ place). inr (record { place = p; list = list; there = slice_get-set_else rests place p next.others else ∙ at; has = has })) which

    still : (e : Entry O R) → In e merged ⊎ InSome rests e → In e (merged ++ entry ∷ []) ⊎ InSome (slice_set rests place next.others) e
    still e which = ⊎_elim {C = In e (merged ++ entry ∷ []) ⊎ InSome (slice_set rests place next.others) e}
        (λ (t : In e merged). inl (in_left e merged (entry ∷ []) t))
        (λ (t : InSome rests e). stays_at e t.place t.list t.there t.has (same_or t.place place)) which

-- once an entry has moved
pub merges_on : {O R : Type 0} (lists rests left : List (List (Entry O R))) (merged after : List (Entry O R)) → IsMerging lists rests merged → HasMoved rests left merged after → IsMerging lists left after
merges_on lists rests left merged after so_far has = rw (has.left) (goes_on lists rests merged so_far has.place has.entry has.next after has.moved)

in_none : {O R : Type 0} (lists : List (List (Entry O R))) (p : ℕ) (list : List (Entry O R)) (e : Entry O R) → AreEmpty lists → slice_get lists p ≡ Some list → In e list → ⊥
in_none lists p [] e empty at has = has
in_none lists p (one ∷ more) e empty at has = none_begins lists p one more empty at

-- once nothing is left
pub all_merged : {O R : Type 0} (lists rests : List (List (Entry O R))) (merged after : List (Entry O R)) → IsMerging lists rests merged → AreEmpty rests → after ≡ merged → IsTrace lists after
all_merged lists rests merged after so_far empty is = rw is (record {
  ordered = so_far.ordered;
  all = λ e there. ⊎_elim {C = In e merged} (λ (t : In e merged). t) (λ (t : InSome rests e). absurd (in_none rests t.place t.list e empty t.there t.has)) (so_far.all e there);
  only = so_far.merged_only;
})

rising_before : {O R : Type 0} (list : List (Entry O R)) → Ordered (λ one other. one.stamp < other.stamp) list → Ordered IsBefore list
rising_before [] up = tt
rising_before (entry ∷ list) up = (all_weaker (λ e. entry.stamp < e.stamp) (IsBefore entry) (λ e less. inl less) list up.0, rising_before list up.1)

pub read_map : {X Y : Type 0} (f : X → Y) (xs : List X) (place : ℕ) (x : X) (y : Y) → slice_get (map f xs) place ≡ Some y → get_or xs place x ≡ x → f x ≡ y
read_map f [] place x y at read = absurd (cc)
read_map f (one ∷ xs) zero x y at read = let same : f one ≡ y = same_Some (f one) y at in ap f (sym read) ∙ same
read_map f (one ∷ xs) (suc place) x y at read = read_map f xs place x y at read

-- a list that alone has entries is merged
pub alone_merged : {X O R : Type 0} (items : X → List (Entry O R)) (lists : List X) (place : ℕ) (list : X) → AreLists (map items lists) → IsAlone (map items lists) place → get_or lists place list ≡ list → IsTrace (map items lists) (items list)
alone_merged {O} {R} items lists place list are alone read = record {
  ordered = rising_before (items list) (are place (items list) there).rising;
  all = λ e i. all_at_place e i.place i.list i.there i.has (same_or i.place place);
  only = λ e i. record { place = place; list = items list; there = there; has = i };
} where
  there : slice_get (map items lists) place ≡ Some (items list)
  there = subst (λ l. slice_get (map items lists) place ≡ Some l) (sym (read_map items lists place list alone.list alone.there read)) alone.there

  all_at_place : (e : Entry O R) (p : ℕ) (other : List (Entry O R)) → slice_get (map items lists) p ≡ Some other → In e other → (p ≡ place) ⊎ (p ≢ place) → In e (items list)
  all_at_place e p other at has which = ⊎_elim {C = In e (items list)}
      (λ (here : p ≡ place). subst (In e) (same_list other (items list) (sym at ∙ ap (slice_get (map items lists)) here ∙ there)) has)
      (λ (else : p ≢ place). let none : In e [] = subst (In e) (alone.others p other at else) has in absurd none) which
