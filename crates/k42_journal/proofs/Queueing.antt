-- The queue of first entries: its end is the next one, and what is taken and entered keeps it.
use Rattle.std.proofs.Common.{◌≡◌, ◌≢◌, ℕ, zero, suc, ◌<◌, false, List, [], ◌∷◌, ◌++◌, ◌-◌, ◌≤◌, length, take, drop, get_or, refl, sym, ap, ◌∙◌, subst, inl, inr, ◌⊎◌, arith}
use Rattle.std.specs.Prelude.{Option, Some, None, IfSome, ◌==◌, slice_get, slice_set}
use Rattle.std.specs.List.{AllByRecursion}
use native.Mathlib.Numerals.{unary_clauses}
use Rattle.std.proofs.lemmas.List.{take-append-drop}
use Rattle.std.proofs.lemmas.Bool.{ne_eqb, false_from_ne_true, true≢false}
use Rattle.std.proofs.lemmas.Bool.Decides.{eqb_tells}
use Rattle.std.proofs.lemmas.Option.{same_Some, slice_get_within, get_or_from_slice_get}
use Rattle.k42_kinds.specs.declared.entry.Act.TheVariants.{Swap}
use Rattle.k42_kinds.specs.declared.entry.Answer.TheVariants.{Gone}
use Rattle.k42_kinds.specs.declared.entry.Entry.{Entry}
use Rattle.k42_kinds.specs.declared.entry.To.TheVariants.{Dead}
use Rattle.k42_places.proofs.Written.{slice_get-set_here, slice_get-set_else}
use Rattle.k42_places.proofs.Appended.{at_push, slice_get-append_left, slice_get-append_seam}
use Rattle.k42_log.specs.declared.unread.Standing.{Standing}
use Rattle.k42_log.specs.Standing.{standing_of}
use Rattle.k42_stamp.specs.Orders.{IsBelow, IsBefore, key_of, Ordered, In}
use Rattle.k42_stamp.specs.Lists.{AreLists, IsListOf}
use Rattle.k42_stamp.specs.Merging.{IsNext, AreEmpty, entries_in}
use Rattle.k42_stamp.proofs.NextEntries.{one_fewer}
use Rattle.k42_stamp.proofs.Totals.{total_empty}
use Rattle.k42_stamp.proofs.Elements.{all_at, all_in, all_front, in_left, in_right, in-append}
use Rattle.k42_stamp.proofs.Ordering.{before-trans, before-irreflexive, below_or, Ordered-inserted}
use Rattle.k42_journal.specs.Keys.{key_at, stands_before}
use Rattle.k42_journal.specs.Queues.{IsBehind, IsFirstOf, IsQueueOf, HasEntered, HasEnteredFirst, IsTaken}
use Rattle.k42_journal.proofs.Below.{stands_decides}

-- an entry that stands so, whatever its object is asked and answers
abbrev entry_at : Standing → Entry ℕ ℕ
entry_at standing = record {
  stamp = standing.stamp;
  index = 0;
  caller = standing.caller;
  object = standing.object;
  incarnation = 0;
  cell = standing.cell;
  act = Swap Dead;
  answer = Gone;
  proc = 0;
  generation = None;
}

before_of : (one other : Standing) → IsBehind one other → IsBefore (entry_at other) (entry_at one)
before_of one other is = (stands_decides other one).0 is

behind_of : (one other : Standing) → IsBefore (entry_at other) (entry_at one) → IsBehind one other
behind_of one other is = (stands_decides other one).1 is

behind-trans : (x y z : Standing) → IsBehind x y → IsBehind y z → IsBehind x z
behind-trans x y z is then = behind_of x z (before-trans (entry_at z) (entry_at y) (entry_at x) (before_of y z then) (before_of x y is))

behind-irreflexive : (x : Standing) → IsBehind x x → ⊥
behind-irreflexive x is = before-irreflexive (entry_at x) (before_of x x is)

-- those of other callers are on one side
other_side : (one other : Standing) → one.caller ≢ other.caller → stands_before one other ≡ false → IsBehind one other
other_side one other differ late = elim (below_or (key_at other) (key_at one) refl) [
  | inl before ↦ (stands_decides other one).1 before
  | inr (inl same) ↦ let callers : other.caller ≡ one.caller = cc in absurd (differ (sym callers))
  | inr (inr behind) ↦ let told = (stands_decides one other).1 behind in absurd (cc)
]

-- the place at which one enters

all_get : (P : Standing → Type 0) (xs : List Standing) (i : ℕ) (d : Standing) → AllByRecursion P xs → i < length xs → P (get_or xs i d)
all_get P [] i d all within = absurd (omega arith)
all_get P (x ∷ xs) zero d all within = all.0
all_get P (x ∷ xs) (suc i) d all within = all_get P xs i d all.1 (omega arith)

-- where one does not stand before it, none behind that one does
pub none_before : (standing : Standing) (queue : List Standing) (place : ℕ) (d : Standing) → Ordered IsBehind queue → place ≤ length queue
    → (0 < place → stands_before (get_or queue (place - 1) d) standing ≡ false) → AllByRecursion (λ one. stands_before one standing ≡ false) (take place queue)
none_before standing [] zero d up within late = tt
none_before standing [] (suc place) d up within late = tt
none_before standing (x ∷ queue) zero d up within late = tt
none_before standing (x ∷ queue) (suc zero) d up within late = (late (omega arith), tt)
none_before standing (x ∷ queue) (suc (suc place)) d up within late =
    let last = get_or queue place d in
    let not : stands_before last standing ≡ false = simp unary_clauses at late (omega arith) in (
      false_from_ne_true (stands_before x standing) (λ is. absurd (true≢false (sym (behind-trans standing x last is (all_get (IsBehind x) queue place d up.0 (omega arith))) ∙ not))),
      none_before standing queue (suc place) d up.1 (omega arith) (λ some. simp unary_clauses not),
    )

-- which are there once one has entered

in_split : (e : Standing) (i : ℕ) (xs : List Standing) → In e xs → In e (take i xs) ⊎ In e (drop i xs)
in_split e i xs has = in-append e (take i xs) (drop i xs) (subst (In e) (sym (take-append-drop i xs)) has)

of_split : (e : Standing) (i : ℕ) (xs : List Standing) → In e (take i xs) ⊎ In e (drop i xs) → In e xs
of_split e i xs has = subst (In e) (take-append-drop i xs) (elim has [ inl front ↦ in_left e (take i xs) (drop i xs) front | inr back ↦ in_right e (take i xs) (drop i xs) back ])

in_entered : (e standing : Standing) (old new : List Standing) → HasEntered standing old new → In e new → (e ≡ standing) ⊎ In e old
in_entered e standing old new is has =
    let place = is.place in
    elim (in-append e (take place old) (standing ∷ drop place old) (subst (In e) is.entered has)) [
      | inl front ↦ inr (of_split e place old (inl front))
      | inr (inl same) ↦ inl same
      | inr (inr back) ↦ inr (of_split e place old (inr back))
    ]

entered_in : (e standing : Standing) (old new : List Standing) → HasEntered standing old new → (e ≡ standing) ⊎ In e old → In e new
entered_in e standing old new is has = subst (In e) (sym is.entered) (among (elim has [ inl same ↦ inl same | inr there ↦ inr (in_split e is.place old there) ])) where
  front : List Standing
  front = take is.place old

  back : List Standing
  back = drop is.place old

  among : (e ≡ standing) ⊎ (In e front ⊎ In e back) → In e (front ++ standing ∷ back)
  among which = elim which [
    | inl same ↦ in_right e front (standing ∷ back) (inl same)
    | inr (inl there) ↦ in_left e front (standing ∷ back) there
    | inr (inr there) ↦ in_right e front (standing ∷ back) (inr there)
  ]

-- a queue of the lists but one
pub record IsQueueBut {O R : Type 0} (lists : List (List (Entry O R))) (but : ℕ) (queue : List Standing) : Type 0 where
  pub ordered : Ordered IsBehind queue
  pub all : (place : ℕ) (entry : Entry O R) (others : List (Entry O R)) → place ≢ but → slice_get lists place ≡ Some (entry ∷ others) → In (standing_of entry) queue
  pub only : (standing : Standing) → In standing queue → (standing.caller ≢ but) × IsFirstOf lists standing

same_or : (m n : ℕ) → (m ≡ n) ⊎ (m ≢ n)
same_or m n = elim (eqb_tells m n) [ inl same ↦ inl same.1 | inr other ↦ inr other.1 ]

same_list : {O R : Type 0} (xs ys : List (Entry O R)) → Some xs ≡ Some ys → xs ≡ ys
same_list xs ys is = same_Some xs ys is

same_first : {O R : Type 0} (x y : Entry O R) (xs ys : List (Entry O R)) → x ∷ xs ≡ y ∷ ys → x ≡ y
same_first x y xs ys is = cc

same_there : {O R : Type 0} (lists : List (List (Entry O R))) (place at : ℕ) (one other : List (Entry O R)) → slice_get lists place ≡ Some one → slice_get lists at ≡ Some other → place ≡ at → one ≡ other
same_there lists place at one other is there same = same_list one other (sym is ∙ (ap (slice_get lists) same ∙ there))

-- that list is empty
pub none_enters : {O R : Type 0} (lists : List (List (Entry O R))) (but : ℕ) (queue : List Standing) → IsQueueBut lists but queue → slice_get lists but ≡ Some [] → IsQueueOf lists queue
none_enters lists but queue is none = record {
  ordered = is.ordered;
  all = λ place entry others at. elim (same_or place but) [
    | inl same ↦ let no : entry ∷ others ≡ [] = same_there lists place but (entry ∷ others) [] at none same in absurd (cc)
    | inr differ ↦ is.all place entry others differ at
  ];
  only = λ standing has. (is.only standing has).1;
}

-- or its first entry has entered
pub first_enters : {O R : Type 0} (lists : List (List (Entry O R))) (but : ℕ) (old new : List Standing) (first : Entry O R) (more : List (Entry O R)) → IsQueueBut lists but old
    → slice_get lists but ≡ Some (first ∷ more) → first.caller ≡ but
    → HasEntered (standing_of first) old new → IsQueueOf lists new
first_enters lists but old new first more is there own entered = record {
  ordered = subst (Ordered IsBehind) (sym entered.entered) (Ordered-inserted IsBehind behind-trans standing (take place old) (drop place old)
      (subst (Ordered IsBehind) (sym (take-append-drop place old)) is.ordered) (all_in (λ one. IsBehind one standing) (take place old) earlier) entered.is.others);
  all = λ at entry others has. elim (same_or at but) [
    | inl same ↦
        let one : entry ≡ first = same_first entry first others more (same_there lists at but (entry ∷ others) (first ∷ more) has there same) in
        entered_in (standing_of entry) standing old new entered (inl (ap standing_of one))
    | inr differ ↦ entered_in (standing_of entry) standing old new entered (inr (is.all at entry others differ has))
  ];
  only = λ one has. elim (in_entered one standing old new entered has) [
    | inl same ↦ subst (IsFirstOf lists) (sym same) here
    | inr was ↦ (is.only one was).1
  ];
} where
  standing : Standing
  standing = standing_of first

  place : ℕ
  place = entered.place

  here : IsFirstOf lists standing
  here = record { entry = first; others = more; there = ap (slice_get lists) own ∙ there; is = refl }

  earlier : (one : Standing) → In one (take place old) → IsBehind one standing
  earlier one has = other_side one standing (λ same. (is.only one (of_split one place old (inl has))).0 (same ∙ own))
      (all_at (λ x. stands_before x standing ≡ false) (take place old) one entered.is.behind has)

-- or one of these
pub first_entered : {O R : Type 0} (lists : List (List (Entry O R))) (but : ℕ) (old new : List Standing) (list : List (Entry O R)) → IsQueueBut lists but old
    → slice_get lists but ≡ Some list → IsListOf but list → HasEnteredFirst list old new → IsQueueOf lists new
first_entered lists but old new [] is there own same = subst (IsQueueOf lists) (sym same) (none_enters lists but old is there)
first_entered lists but old new (entry ∷ others) is there own entered = first_enters lists but old new entry others is there own.own.0 entered

-- the end of the queue

ordered_parts : (xs : List Standing) (last : Standing) → Ordered IsBehind (xs ++ last ∷ []) → Ordered IsBehind xs × AllByRecursion (λ x. IsBehind x last) xs
ordered_parts [] last up = (tt, tt)
ordered_parts (x ∷ xs) last up =
    let rest = ordered_parts xs last up.1 in
    ((all_front (IsBehind x) xs (last ∷ []) up.0, rest.0), (all_at (IsBehind x) (xs ++ last ∷ []) last up.0 (in_right last xs (last ∷ []) (inl refl)), rest.1))

module _ {O R : Type 0} (lists : List (List (Entry O R))) (old front : List Standing) (last : Standing) (are : AreLists lists) (is : IsQueueOf lists old) (cut : old ≡ front ++ last ∷ []) where
  in_old : (e : Standing) → In e (front ++ last ∷ []) → In e old
  in_old e has = subst (In e) (sym cut) has

  pub parts : Ordered IsBehind front × AllByRecursion (λ x. IsBehind x last) front
  parts = ordered_parts front last (subst (Ordered IsBehind) cut is.ordered)

  pub first_at : IsFirstOf lists last
  first_at = is.only last (in_old last (in_right last front (last ∷ []) (inl refl)))

  -- is the next entry
  pub next_at : IsNext lists last.caller first_at.entry
  next_at = record { others = first_at.others; there = first_at.there; first = first } where
    entry : Entry O R
    entry = first_at.entry

    none_before : (one : Entry O R) → In (standing_of one) front ⊎ In (standing_of one) (last ∷ []) → IsBefore one entry → ⊥
    none_before one where_ before = elim where_ [
      | inl there ↦
          let behind : IsBehind (standing_of one) last = all_at (λ x. IsBehind x last) front (standing_of one) parts.1 there in
          let later : IsBehind (standing_of one) (standing_of entry) = subst (IsBehind (standing_of one)) first_at.is behind in
          before-irreflexive one (before-trans one entry one before ((stands_decides (standing_of entry) (standing_of one)).0 later))
      | inr (inl same) ↦
          let alike : standing_of one ≡ standing_of entry = same ∙ first_at.is in
          before-irreflexive entry (subst (λ key. IsBelow key (key_of entry)) (ap key_at alike) before)
      | inr (inr none) ↦ none
    ]

    first : (p : ℕ) (one : Entry O R) (more : List (Entry O R)) → slice_get lists p ≡ Some (one ∷ more) → IsBefore one entry → ⊥
    first p one more at before = none_before one (in-append (standing_of one) front (last ∷ []) (subst (In (standing_of one)) cut (is.all p one more at))) before

  -- once it is taken, the others are a queue of the other lists
  pub queue_left : (left : List (Entry O R)) → IsQueueBut (slice_set lists last.caller left) last.caller front
  queue_left left = record {
    ordered = parts.0;
    all = λ place entry others differ at.
        let was : slice_get lists place ≡ Some (entry ∷ others) = sym (slice_get-set_else lists last.caller place left differ) ∙ at in
        among (standing_of entry) (is.all place entry others was) (λ same. differ (sym (are place (entry ∷ others) was).own.0 ∙ ap (λ (s : Standing). s.caller) same));
    only = λ one has. (apart one has, still one (is.only one (in_old one (in_left one front (last ∷ []) has))) (apart one has));
  } where
    apart : (one : Standing) → In one front → one.caller ≢ last.caller
    apart one has same =
        let its = is.only one (in_old one (in_left one front (last ∷ []) has)) in
        let entries : its.entry ∷ its.others ≡ first_at.entry ∷ first_at.others =
        same_there lists one.caller last.caller (its.entry ∷ its.others) (first_at.entry ∷ first_at.others) its.there first_at.there same in
        let alike : one ≡ last = its.is ∙ (ap standing_of (same_first its.entry first_at.entry its.others first_at.others entries) ∙ sym first_at.is) in
        behind-irreflexive last (subst (λ x. IsBehind x last) alike (all_at (λ x. IsBehind x last) front one parts.1 has))

    still : (one : Standing) → IsFirstOf lists one → one.caller ≢ last.caller → IsFirstOf (slice_set lists last.caller left) one
    still one its differ = record { entry = its.entry; others = its.others; there = slice_get-set_else lists last.caller one.caller left differ ∙ its.there; is = its.is }

    among : (e : Standing) → In e old → (e ≡ last → ⊥) → In e front
    among e has differ = elim (in-append e front (last ∷ []) (subst (In e) cut has)) [
      | inl there ↦ there
      | inr (inl same) ↦ absurd (differ same)
      | inr (inr none) ↦ absurd none
    ]

  -- and what is left of its list stands at its place
  pub left_at : (left : List (Entry O R)) → slice_get (slice_set lists last.caller left) last.caller ≡ Some left
  left_at left = slice_get-set_here lists last.caller left (slice_get_within lists last.caller (first_at.entry ∷ first_at.others) first_at.there)

  -- its list, read at its place
  begins_with : (list : List (Entry O R)) → get_or lists last.caller list ≡ list → list ≡ first_at.entry ∷ first_at.others
  begins_with list read = sym read ∙ get_or_from_slice_get lists last.caller (first_at.entry ∷ first_at.others) list first_at.there

  pub within : last.caller < length lists
  within = slice_get_within lists last.caller (first_at.entry ∷ first_at.others) first_at.there

  module _ (list left : List (Entry O R)) (read : get_or lists last.caller list ≡ list) (is_left : left ≡ drop 1 list) where
    others_left : left ≡ first_at.others
    others_left = is_left ∙ ap (drop 1) (begins_with list read)

    pub one_taken : (result : Option (Entry O R)) → result ≡ slice_get list 0 → (result ≡ Some first_at.entry) × IfSome result (IsTaken lists (slice_set lists last.caller left))
    unfolding next_at first_at
    one_taken result is =
        let some : result ≡ Some first_at.entry = is ∙ ap (λ (l : List (Entry O R)). slice_get l 0) (begins_with list read) in
        let taken : IsTaken lists (slice_set lists last.caller left) first_at.entry = record { place = last.caller; next = next_at; left = ap (slice_set lists last.caller) others_left } in
        (some, subst (λ (r : Option (Entry O R)). IfSome r (IsTaken lists (slice_set lists last.caller left))) (sym some) taken)

    pub queue_after : (new : List Standing) → HasEnteredFirst left front new → IsQueueOf (slice_set lists last.caller left) new
    queue_after new entered =
        let was = are last.caller (first_at.entry ∷ first_at.others) first_at.there in
        let own : IsListOf last.caller left = subst (IsListOf last.caller) (sym others_left) (record { rising = was.rising.1; own = was.own.1 }) in
        first_entered (slice_set lists last.caller left) last.caller front new left (queue_left left) (left_at left) own entered

-- where nothing is queued, no list has entries

empty_each : {O R : Type 0} (lists : List (List (Entry O R))) → ((place : ℕ) (entry : Entry O R) (others : List (Entry O R)) → slice_get lists place ≡ Some (entry ∷ others) → ⊥) → AreEmpty lists
empty_each [] none = tt
empty_each ([] ∷ lists) none = (refl, empty_each lists (λ place entry others at. none (suc place) entry others at))
empty_each ((entry ∷ others) ∷ lists) none = absurd (none 0 entry others refl)

pub none_left : {O R : Type 0} (lists : List (List (Entry O R))) (queue : List Standing) → IsQueueOf lists queue → queue ≡ [] → AreEmpty lists
none_left lists queue is none = empty_each lists (λ place entry others at. subst (In (standing_of entry)) none (is.all place entry others at))

-- one list more, before its first entry has entered

pub no_queue : {O R : Type 0} → IsQueueOf {O = O} {R = R} [] []
no_queue = record {
  ordered = tt;
  all = λ place entry others at. absurd (cc);
  only = λ standing has. absurd has;
}

pub list_more : {O R : Type 0} (lists : List (List (Entry O R))) (list : List (Entry O R)) (queue : List Standing) → IsQueueOf lists queue → IsQueueBut (lists ++ list ∷ []) (length lists) queue
list_more lists list queue is = record {
  ordered = is.ordered;
  all = λ place entry others differ at. elim (at_push lists list place (entry ∷ others) at) [
    | inl there ↦ is.all place entry others there.1
    | inr last ↦ absurd (differ last.0)
  ];
  only = λ standing has.
      let its = is.only standing has in
      let within = slice_get_within lists standing.caller (its.entry ∷ its.others) its.there in (
        (λ same. omega (arith, within, same)),
        record { entry = its.entry; others = its.others; there = slice_get-append_left lists (list ∷ []) standing.caller (its.entry ∷ its.others) its.there; is = its.is },
      );
}

pub empty_queue : {O R : Type 0} (lists : List (List (Entry O R))) (queue : List Standing) → IsQueueOf lists queue → (length queue == 0) ≡ (entries_in lists == 0)
empty_queue lists [] is = let none = total_empty lists (none_left lists [] is refl) in rw none refl
empty_queue lists (standing ∷ queue) is =
    let its = is.only standing (inl refl) in
    let fewer = one_fewer lists standing.caller its.entry its.others its.there in
    let some : (entries_in lists == 0) ≡ false = ne_eqb (entries_in lists) 0 (λ none. omega (arith, fewer, none)) in
    let queued : (length (standing ∷ queue) == 0) ≡ false = ne_eqb (length (standing ∷ queue)) 0 (λ none. omega (arith, none)) in
    queued ∙ sym some

pub queue_more : {O R : Type 0} (lists : List (List (Entry O R))) (list : List (Entry O R)) (old new : List Standing)
    → IsQueueOf lists old → IsListOf (length lists) list → HasEnteredFirst list old new → IsQueueOf (lists ++ list ∷ []) new
queue_more lists list old new is own entered =
    first_entered (lists ++ list ∷ []) (length lists) old new list (list_more lists list old is) (slice_get-append_seam lists list []) own entered
