-- Lists whose entries are those of rows that fit merge to one legal history.
use Rattle.std.proofs.Common.{◌≡◌, ℕ, zero, suc, ◌+◌, Bool, true, false, cond, ◌&&◌, eqb, ◌==◌, List, [], ◌∷◌, ◌++◌, length, Some, refl, sym, ap, ◌∙◌, subst, inl, arith}
use Rattle.std.specs.Prelude.{fold, slice_get}
use Rattle.std.specs.List.{filter}
use Rattle.std.proofs.lemmas.Bool.{eq-eqb}
use Rattle.std.proofs.lemmas.Bool.Decides.{nat_tests}
use Rattle.std.proofs.lemmas.Option.{same_Some}
use Rattle.std.proofs.lemmas.List.Elements.{filter-append}
use Rattle.k42_kinds.specs.declared.entry.Act.{Act}
use Rattle.k42_kinds.specs.declared.entry.Act.TheVariants.{Call, Swap}
use Rattle.k42_kinds.specs.declared.entry.Answer.{Answer}
use Rattle.k42_kinds.specs.declared.entry.Answer.TheVariants.{Replied, Swapped, Busy, Spent, Gone, Abandoned}
use Rattle.k42_kinds.specs.declared.entry.Entry.{Entry}
use Rattle.k42_kinds.specs.OneThread.{OneThread}
use Rattle.k42_kinds.specs.Histories.{is_carried_out, is_carried_out_on, state_moved, state_moved_by, state_in, number_of}
use Rattle.k42_kinds.specs.Legal.{IsAnswerSoFar, IsActSoFar, IsSoFarAmongObjects}
use Rattle.k42_kinds.proofs.Splits.{each_split}
use Rattle.k42_stamp.specs.Orders.{IsBefore, In}
use Rattle.k42_stamp.specs.Layouts.{Layouts}
use Rattle.k42_stamp.specs.Chains.{Chain, entries_of}
use Rattle.k42_stamp.specs.Fits.{Fits}
use Rattle.k42_stamp.specs.Laws.{AreLaws}
use Rattle.k42_stamp.specs.Lists.{numbered_from, IsTrace, IsMerged, is_step, LetsSteps, InRows, AreThose, AllFit, AreLegal}
use Rattle.k42_stamp.proofs.Elements.{in_right, in-filter, in-from_filter}
use Rattle.k42_stamp.proofs.Ordering.{Ordered-filter, same_entries}
use Rattle.k42_stamp.proofs.Standing.{LegalBehind}
use Rattle.k42_stamp.proofs.Lawful.{chain_legal}
use Rattle.k42_stamp.proofs.Rowed.{chain_ordered, rows_in_chain, chain_in_rows}

-- numbering anew changes stamps alone

fold-numbered : {A O R : Type 0} (f : A → Entry O R → A) → ((a : A) (e : Entry O R) (n : ℕ) → f a (record e { stamp = n }) ≡ f a e) → (a : A) (n : ℕ) (es : List (Entry O R)) → fold f a (numbered_from n es) ≡ fold f a es
fold-numbered f same a n [] = refl
fold-numbered f same a n (e ∷ es) = ap (λ b. fold f b (numbered_from (suc n) es)) (same a e n) ∙ fold-numbered f same (f a e) (suc n) es

state_in-numbered : {S O R : Type 0} (object : OneThread S O R) (o n : ℕ) (es : List (Entry O R)) → state_in object o (numbered_from n es) ≡ state_in object o es
state_in-numbered object o n es = fold-numbered (state_moved_by object o) (λ a e n. refl) object.start n es

number_of-numbered : {O R : Type 0} (o n : ℕ) (es : List (Entry O R)) → number_of o (numbered_from n es) ≡ number_of o es
number_of-numbered o n es = fold-numbered (λ a e. a + cond (is_carried_out_on o e) 1 0) (λ a e n. refl) 0 n es

-- a split of numbered entries is one of the entries
pub record NumberedSplit {O R : Type 0} (n : ℕ) (es before : List (Entry O R)) (e : Entry O R) (after : List (Entry O R)) : Type 0 where
  pub front : List (Entry O R)
  pub here : Entry O R
  pub back : List (Entry O R)
  pub cut : es ≡ front ++ here ∷ back
  pub numbered : before ≡ numbered_from n front
  pub same : e ≡ record here { stamp = n + length front }

pub record SameHeads {E : Type 0} (x y : E) (xs ys : List E) : Type 0 where
  pub head : x ≡ y
  pub tail : xs ≡ ys

heads_same : {E : Type 0} (x y : E) (xs ys : List E) → x ∷ xs ≡ y ∷ ys → SameHeads x y xs ys
heads_same x y xs ys is = record { head = cc; tail = cc }

numbered_split : {O R : Type 0} (n : ℕ) (es before : List (Entry O R)) (e : Entry O R) (after : List (Entry O R)) → numbered_from n es ≡ before ++ e ∷ after → NumberedSplit n es before e after
numbered_split n [] [] e after is = cc is
numbered_split n [] (b ∷ before) e after is = cc is
numbered_split n (x ∷ es) [] e after is =
    let same = heads_same (record x { stamp = n }) e (numbered_from (suc n) es) after is in
    record { front = []; here = x; back = es; cut = refl; numbered = refl; same = sym same.head ∙ ap (λ m. record x { stamp = m }) (omega arith) }
numbered_split {O} {R} n (x ∷ es) (b ∷ before) e after is =
    let same = heads_same (record x { stamp = n }) b (numbered_from (suc n) es) (before ++ e ∷ after) is in
    let rest = numbered_split (suc n) es before e after same.tail in
    record {
      front = x ∷ rest.front;
      here = rest.here;
      back = rest.back;
      cut = ap (λ l. x ∷ l) rest.cut;
      numbered = ap (λ (y : Entry O R). y ∷ before) (sym same.head) ∙ ap (λ l. record x { stamp = n } ∷ l) rest.numbered;
      same = rest.same ∙ ap (λ m. record rest.here { stamp = m }) (omega arith);
    }

-- entries that fail a test and change nothing

fold-filter : {A O R : Type 0} (f : A → Entry O R → A) (q : Entry O R → Bool) → ((a : A) (e : Entry O R) → q e ≡ false → f a e ≡ a) → (a : A) (es : List (Entry O R)) → fold f a es ≡ fold f a (filter q es)
fold-filter f q still a [] = refl
fold-filter {O} {R} f q still a (e ∷ es) = fold-filter f q still (f a e) es ∙ one f q still a e (filter q es) (q e) refl where
  one : {A : Type 0} (f : A → Entry O R → A) (q : Entry O R → Bool) → ((a : A) (e : Entry O R) → q e ≡ false → f a e ≡ a) → (a : A) (e : Entry O R) (es : List (Entry O R)) (b : Bool) → q e ≡ b → fold f (f a e) es ≡ fold f a (cond b (e ∷ es) es)
  one f q still a e es true is = refl
  one f q still a e es false is = rw (still a e is) refl

abbrev pub passes_of : {O R : Type 0} → (Act O → Answer R → Bool) → ℕ → Entry O R → Bool
passes_of passes o e = (e.object == o) && passes e.act e.answer

no_step : {O R : Type 0} (passes : Act O → Answer R → Bool) → LetsSteps passes → (act : Act O) (answer : Answer R) (b : Bool) → is_step act answer ≡ b → passes act answer ≡ false → is_step act answer ≡ false
no_step passes lets act answer true is fails = let yes = lets act answer is in cc
no_step passes lets act answer false is fails = is

still_state : {S O R : Type 0} (object : OneThread S O R) (state : S) (act : Act O) (answer : Answer R) → is_step act answer ≡ false → state_moved object state act answer ≡ state
still_state object state (Call op) answer still = cc still
still_state object state (Swap to) answer still = rw still refl

not_out : {O R : Type 0} (act : Act O) (answer : Answer R) → is_step act answer ≡ false → is_carried_out answer ≡ false
not_out (Call op) answer still = cc still
not_out (Swap to) answer still = still

module _ {O R : Type 0} (passes : Act O → Answer R → Bool) (lets : LetsSteps passes) (o : ℕ) where
  state_moved-other : {S : Type 0} (object : OneThread S O R) (state : S) (e : Entry O R) (b : Bool) → eqb e.object o ≡ b → b && passes e.act e.answer ≡ false → state_moved_by object o state e ≡ state
  state_moved-other object state e true is fails = rw is (still_state object state e.act e.answer (no_step passes lets e.act e.answer (is_step e.act e.answer) refl fails))
  state_moved-other object state e false is fails = rw is refl

  number-other : (n : ℕ) (e : Entry O R) (b : Bool) → eqb e.object o ≡ b → b && passes e.act e.answer ≡ false → n + cond (is_carried_out_on o e) 1 0 ≡ n
  number-other n e true is fails = rw (is, not_out e.act e.answer (no_step passes lets e.act e.answer (is_step e.act e.answer) refl fails)) (omega arith)
  number-other n e false is fails = rw is (omega arith)

  pub state_in-filter : {S : Type 0} (object : OneThread S O R) (es : List (Entry O R)) → state_in object o es ≡ state_in object o (filter (passes_of passes o) es)
  state_in-filter object es = fold-filter (state_moved_by object o) (passes_of passes o) (λ a e fails. state_moved-other object a e (eqb e.object o) refl fails) object.start es

  pub number_of-filter : (es : List (Entry O R)) → number_of o es ≡ number_of o (filter (passes_of passes o) es)
  number_of-filter es = fold-filter (λ a e. a + cond (is_carried_out_on o e) 1 0) (passes_of passes o) (λ a e fails. number-other a e (eqb e.object o) refl fails) 0 es

-- a list is split where what passes of it is
pub record FilterSplit {E : Type 0} (q : E → Bool) (es front : List E) (e : E) : Type 0 where
  pub before : List E
  pub after : List E
  pub cut : es ≡ before ++ e ∷ after
  pub passed : filter q before ≡ front

module _ {E : Type 0} (q : E → Bool) where
  -- by whether the first passes
  first_split : (x : E) (es : List E) (e : E) → ((front back : List E) → filter q es ≡ front ++ e ∷ back → FilterSplit q es front e)
      → (front back : List E) (b : Bool) → q x ≡ b → cond b (x ∷ filter q es) (filter q es) ≡ front ++ e ∷ back → FilterSplit q (x ∷ es) front e
  first_split x es e more [] back true kept is = let same = heads_same x e (filter q es) back is in record { before = []; after = es; cut = ap (λ y. y ∷ es) same.head; passed = refl }
  first_split x es e more (f ∷ front) back true kept is =
      let same = heads_same x f (filter q es) (front ++ e ∷ back) is in
      let rest = more front back same.tail in
      record { before = x ∷ rest.before; after = rest.after; cut = ap (λ l. x ∷ l) rest.cut; passed = rw kept (ap (λ l. x ∷ l) rest.passed ∙ ap (λ y. y ∷ front) same.head) }
  first_split x es e more front back false fails is =
      let rest = more front back is in
      record { before = x ∷ rest.before; after = rest.after; cut = ap (λ l. x ∷ l) rest.cut; passed = rw fails rest.passed }

  pub filter_split : (es front : List E) (e : E) (back : List E) → filter q es ≡ front ++ e ∷ back → FilterSplit q es front e
  filter_split [] [] e back is = cc is
  filter_split [] (f ∷ front) e back is = cc is
  filter_split (x ∷ es) front e back is = first_split x es e (λ front back cut. filter_split es front e back cut) front back (q x) refl is

-- what is legal so far is so by the state and the number that the entries before tell, whatever its stamp
module _ {S O R : Type 0} (object : OneThread S O R) (these those : List (Entry O R)) (e : Entry O R) (stamp : ℕ)
    (state : state_in object e.object these ≡ state_in object e.object those) (number : number_of e.object these ≡ number_of e.object those) where
  abbrev stamped : Entry O R
  stamped = record e { stamp = stamp }

  answer_same : (answer : Answer R) → IsAnswerSoFar object those e answer → IsAnswerSoFar object these stamped answer
  answer_same (Swapped k) legal = record { next = legal.next ∙ ap (λ n. n + 1) (sym number); alive = ap object.is_ended state ∙ legal.alive; unspent = rw number legal.unspent; incarnation = legal.incarnation ∙ sym number }
  answer_same Spent legal = record { alive = ap object.is_ended state ∙ legal.alive; spent = number ∙ legal.spent; incarnation = legal.incarnation ∙ sym number }
  answer_same Gone legal = record { dead = ap object.is_ended state ∙ legal.dead; incarnation = legal.incarnation ∙ sym number }
  answer_same (Busy k) legal = tt
  answer_same (Abandoned k) legal = tt
  answer_same (Replied reply) legal = legal

  pub so_far_same : (act : Act O) → IsActSoFar object those e act → IsActSoFar object these stamped act
  so_far_same (Call op) legal = record { own_kind = legal.own_kind; replied = legal.replied ∙ ap (λ s. Replied (object.reply s op)) (sym state); incarnation = legal.incarnation ∙ sym number }
  so_far_same (Swap to) legal = answer_same e.answer legal

-- where a list has an element, a list of the same length has one
there_too : {A B : Type 0} (xs : List A) (ys : List B) (i : ℕ) (x : A) → length xs ≡ length ys → slice_get xs i ≡ Some x → (y : B) × (slice_get ys i ≡ Some y)
there_too [] ys i x same is = cc is
there_too (z ∷ xs) [] i x same is = absurd (omega arith)
there_too (z ∷ xs) (y ∷ ys) zero x same is = (y, refl)
there_too (z ∷ xs) (y ∷ ys) (suc i) x same is = there_too xs ys i x (omega arith) is

both_true : (b d : Bool) → b && d ≡ true → (b ≡ true) × (d ≡ true)
both_true true d h = (refl, h)
both_true false d h = cc h

same_number : (m n : ℕ) → eqb m n ≡ true → m ≡ n
same_number m n h = grind (arith, nat_tests)

module _ {S L P O R : Type 0} (F : Layouts S L P O R) (laws : AreLaws F) (declarations : List L) (histories : ℕ → ℕ → ℕ → List (Entry O R)) (chains : List (Chain L P O R))
    (lists : List (List (Entry O R))) (passes : Act O → Answer R → Bool) (lets : LetsSteps passes) (all : AllFit F declarations histories chains) (those : AreThose F.procs passes lists histories chains)
    (trace : List (Entry O R)) (is : IsTrace lists trace) where
  module _ (o : ℕ) (declared : L) (chain : Chain L P O R) (there : slice_get chains o ≡ Some chain) (fits : Fits F declared o (histories o) chain) where
    into_chain : (f : Entry O R) → In f (filter (passes_of passes o) trace) → In f (filter (passes_of passes o) (entries_of chain))
    into_chain f i =
        let was = in-from_filter (passes_of passes o) f trace i in
        let both = both_true (eqb f.object o) (passes f.act f.answer) was.1 in
        let own = same_number f.object o both.0 in
        let at_row = those.placed f (is.only f was.0) both.1 in
        let same : at_row.chain ≡ chain = same_Some at_row.chain chain (sym at_row.there ∙ (ap (slice_get chains) own ∙ there)) in
        in-filter (passes_of passes o) f (entries_of chain)
        (rows_in_chain F declared o (histories o) chain f fits (subst (λ (c : Chain L P O R). InRows F.procs (length c.past) (histories o) f) same (subst (λ n. InRows F.procs (length at_row.chain.past) (histories n) f) own at_row.has)))
        was.1

    from_chain : (f : Entry O R) → In f (filter (passes_of passes o) (entries_of chain)) → In f (filter (passes_of passes o) trace)
    from_chain f i =
        let was = in-from_filter (passes_of passes o) f (entries_of chain) i in
        let both = both_true (eqb f.object o) (passes f.act f.answer) was.1 in
        in-filter (passes_of passes o) f trace (is.all f (those.given o chain f there (chain_in_rows F declared o (histories o) laws chain f fits was.0) both.1)) was.1

    -- what passes of the trace is what passes of the object's rows
    same_passed : filter (passes_of passes o) trace ≡ filter (passes_of passes o) (entries_of chain)
    same_passed = same_entries (filter (passes_of passes o) trace) (filter (passes_of passes o) (entries_of chain)) (Ordered-filter IsBefore (passes_of passes o) trace is.ordered)
        (Ordered-filter IsBefore (passes_of passes o) (entries_of chain) (chain_ordered F declared o (histories o) chain fits)) into_chain from_chain

    here_legal : (before : List (Entry O R)) (e : Entry O R) (after : List (Entry O R)) (stamp : ℕ) → trace ≡ before ++ e ∷ after → e.object ≡ o → passes e.act e.answer ≡ true
        → IsActSoFar (F.object_of declared) (numbered_from 1 before) (record e { stamp = stamp }) e.act
    here_legal before e after stamp cut own pass =
        let q = passes_of passes o in
        let object = F.object_of declared in
        let passed : q e ≡ true = rw (eq-eqb e.object o own, pass) refl in
        let there : filter q (entries_of chain) ≡ filter q before ++ e ∷ filter q after = sym same_passed ∙ (ap (filter q) cut ∙ (filter-append q before (e ∷ after) ∙ ap (λ b. filter q before ++ cond b (e ∷ filter q after) (filter q after)) passed)) in
        let split = filter_split q (entries_of chain) (filter q before) e (filter q after) there in
        let state : state_in object o (numbered_from 1 before) ≡ state_in object o split.before = state_in-numbered object o 1 before ∙ (state_in-filter passes lets o object before ∙ (ap (state_in object o) (sym split.passed) ∙ sym (state_in-filter passes lets o object split.before))) in
        let number : number_of o (numbered_from 1 before) ≡ number_of o split.before = number_of-numbered o 1 before ∙ (number_of-filter passes lets o before ∙ (ap (number_of o) (sym split.passed) ∙ sym (number_of-filter passes lets o split.before))) in
        so_far_same object (numbered_from 1 before) split.before e stamp
        (ap (λ n. state_in object n (numbered_from 1 before)) own ∙ (state ∙ ap (λ n. state_in object n split.before) (sym own)))
        (ap (λ n. number_of n (numbered_from 1 before)) own ∙ (number ∙ ap (λ n. number_of n split.before) (sym own))) e.act
        (each_split (LegalBehind object) [] (entries_of chain) (chain_legal F laws declared o (histories o) chain fits) split.before e split.after split.cut)

  entry_legal : (before : List (Entry O R)) (e : Entry O R) (after : List (Entry O R)) (stamp : ℕ) → trace ≡ before ++ e ∷ after → passes e.act e.answer ≡ true → (rest : List (Entry O R))
      → IsSoFarAmongObjects F.object_of declarations (numbered_from 1 before) (record e { stamp = stamp }) rest
  entry_legal before e after stamp cut pass rest =
      let at_row = those.placed e (is.only e (rw cut (in_right e before (e ∷ after) (inl refl)))) pass in
      let declared = there_too chains declarations e.object at_row.chain all.many at_row.there in
      record {
        kind = declared.0;
        declared = declared.1;
        legal = here_legal e.object declared.0 at_row.chain at_row.there (all.each e.object declared.0 at_row.chain declared.1 at_row.there) before e after stamp cut refl pass;
      }

  pub trace_legal : AreLegal F declarations passes (numbered_from 1 trace)
  trace_legal before e after cut pass =
      let split = numbered_split 1 trace before e after cut in
      let pass_here : passes split.here.act split.here.answer ≡ true = subst (λ (f : Entry O R). passes f.act f.answer ≡ true) split.same pass in
      let IsLegalHere : List (Entry O R) → Entry O R → Type 0 = λ front here. IsSoFarAmongObjects F.object_of declarations front here after in
      subst (λ (here : Entry O R). IsLegalHere before here) (sym split.same)
      (subst (λ (front : List (Entry O R)). IsLegalHere front (record split.here { stamp = 1 + length split.front })) (sym split.numbered)
      (entry_legal split.front split.here split.back (1 + length split.front) split.cut pass_here after))

-- the merged list, whatever its entries are
pub merged_legal : {S L P O R : Type 0} (F : Layouts S L P O R) → AreLaws F → (declarations : List L) (histories : ℕ → ℕ → ℕ → List (Entry O R)) (chains : List (Chain L P O R)) (lists : List (List (Entry O R))) (passes : Act O → Answer R → Bool)
    → LetsSteps passes → AllFit F declarations histories chains → AreThose F.procs passes lists histories chains → (merged : List (Entry O R)) → IsMerged lists merged → AreLegal F declarations passes merged
merged_legal F laws declarations histories chains lists passes lets all those merged is = subst (AreLegal F declarations passes) (sym is.numbered) (trace_legal F laws declarations histories chains lists passes lets all those is.trace is.just)
