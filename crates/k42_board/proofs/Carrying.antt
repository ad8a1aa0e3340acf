-- Each move of a row keeps the rule of the queue.
use Rattle.std.proofs.Common.{◌≡◌, ℕ, zero, suc, ◌+◌, ◌<◌, Bool, true, false, cond, List, [], ◌∷◌, ◌++◌, Some, length, get_or, set, sum_by, sym, refl, ap, ◌∙◌, subst, ⊎_elim, arith}
use Rattle.std.specs.List.{slice_get}
use Rattle.std.proofs.lemmas.List.Sums.{sum_by-set, sum_by-append}
use mathlib.Core.Option.{some, some-injective, some-ne-none}
use lib.ListN.{get_elem?}
use Rattle.atomic_table.specs.Seated.{TableId}
use Rattle.atomic_table.proofs.Lists.{at_set, at_snoc}
use Rattle.crossbeam_queue.specs.Fifo.{Pushes, Pops, Forks, Learns}
use Rattle.k42_places.proofs.Appended.{at_push}
use Rattle.k42_board.specs.Queueing.{is_row, times, IsRetired, Carries, table_of, carried_none, no_table, tied_to, Pushed, Popped, IsRuled, fresh_carried}
use Rattle.k42_board.specs.declared.retired.Carried.{Carried}
use Rattle.k42_board.specs.declared.retired.Slip.{Slip}
use Rattle.k42_board.specs.declared.view.Row.{Row}

-- a sum as one member becomes another, and as one more is at the end

at_known : {A : Type 0} (xs : List A) (i : ℕ) (a : A) → get_elem? xs i ≡ some a → (i < length xs) × (get_or xs i a ≡ a)
at_known [] i a at = absurd (some-ne-none a (sym at))
at_known (x ∷ xs) zero a at = (omega arith, some-injective x a at)
at_known (x ∷ xs) (suc i) a at = let more = at_known xs i a at in let lt = more.0 in (omega (arith, lt), more.1)

sum_set : {A : Type 0} (f : A → ℕ) (xs : List A) (i : ℕ) (a b : A) (more : ℕ) → get_elem? xs i ≡ some a → f b ≡ f a + more
    → sum_by f (set xs i b) ≡ sum_by f xs + more
sum_set f xs i a b more at is =
    let there = at_known xs i a at in
    let both = sum_by-set f xs i b a there.0 in let same = ap f there.1 in omega (arith, both, same, is)

sum_one : {A : Type 0} (f : A → ℕ) (b : A) → sum_by f (b ∷ []) ≡ f b
sum_one f b = let one : sum_by f (b ∷ []) ≡ 0 + f b = refl in omega (arith, one)

sum_push : {A : Type 0} (f : A → ℕ) (xs : List A) (b : A) → sum_by f (xs ++ b ∷ []) ≡ sum_by f xs + f b
sum_push f xs b = let all = sum_by-append f xs (b ∷ []) in let one = sum_one f b in omega (arith, all, one)

sum_first : {A : Type 0} (f : A → ℕ) (b : A) (xs : List A) → sum_by f (b ∷ xs) ≡ f b + sum_by f xs
sum_first f b xs = let all : sum_by f (b ∷ xs) ≡ sum_by f (b ∷ []) + sum_by f xs = sum_by-append f (b ∷ []) xs in let one = sum_one f b in omega (arith, all, one)

once_more : (row other : Row) (rows : List Row) → times row (rows ++ other ∷ []) ≡ times row rows + cond (is_row row other) 1 0
once_more row other rows = sum_push (λ r. cond (is_row row r) 1 0) rows other

only_one : {A : Type 0} (a b : A) (i : ℕ) → get_elem? (a ∷ []) i ≡ some b → a ≡ b
only_one a b zero e = some-injective a b e
only_one a b (suc i) e = absurd (some-ne-none b (sym e))

true_false : true ≡ false → ⊥
true_false e = cc

module _ {P O R : Type 0} where
  -- where one pass is tied, all are
  all_tied : (items : List (Slip P O R)) (views : List Carried) → Carries items views → (pass : ℕ) (v : Carried) → get_elem? views pass ≡ some v → v.tied ≡ true
      → (j : ℕ) (u : Carried) → get_elem? views j ≡ some u → u.tied ≡ true
  all_tied items views h pass v at tied j u e = by_test u.tied refl where
    by_test : (b : Bool) → u.tied ≡ b → u.tied ≡ true
    by_test true is = is
    by_test false is =
        let alone = (h.untied j u e is).1 in
        let same = only_one u v pass (subst (λ (l : List Carried). get_elem? l pass ≡ some v) alone at) in
        absurd (true_false (sym tied ∙ ap (λ (z : Carried). z.tied) (sym same) ∙ is))

  module _ (items : List (Slip P O R)) (views : List Carried) (h : Carries items views) (pass : ℕ) (v : Carried) (at : get_elem? views pass ≡ some v) (tied : v.tied ≡ true)
      (w : Carried) (same : table_of w ≡ table_of v) (tied' : w.tied ≡ true) where
    -- as one pass becomes another, all are of the table, and none is untied
    tied_set : (j : ℕ) (u : Carried) → get_elem? (set views pass w) j ≡ some u → (u.tied ≡ true) × (table_of u ≡ h.table)
    tied_set j u e =
        ⊎_elim
        (λ here. subst (λ (z : Carried). (z.tied ≡ true) × (table_of z ≡ h.table)) here.1 (tied', same ∙ h.tied pass v at tied))
        (λ old. let is = all_tied items views h pass v at tied j u old.1 in (is, h.tied j u old.1 is))
        (at_set views pass j w u e)

  pub pushes_keep : (n pass : ℕ) (v : Carried) (x : Slip P O R) → v.tied ≡ true → IsRetired (table_of v) x → Pushes Carries n pass v x (Pushed v x)
  pushes_keep n pass v x tied ours items views room h at = (
    w,
    record {
      table = h.table;
      items_are = λ place y e.
          ⊎_elim
          (λ old. h.items_are place y old.1)
          (λ new. subst (IsRetired h.table) new.1 (subst (λ t. IsRetired t x) (h.tied pass v at tied) ours))
          (at_push items x place y e);
      tied = λ j u e is. (all j u e).1;
      untied = λ j u e is. absurd (true_false (sym (all j u e).0 ∙ is));
      counted = λ row.
          let old = h.counted row in
          let popped = sum_set (λ (u : Carried). times row u.popped) views pass v w 0 at (omega arith) in
          let pushed = sum_set (λ (u : Carried). times row u.pushed) views pass v w (cond (is_row row x.row) 1 0) at (once_more row x.row v.pushed) in
          let there = sum_push (λ (y : Slip P O R). cond (is_row row y.row) 1 0) items x in
          omega (arith, old, popped, pushed, there);
    },
    refl,
  ) where
    w : Carried
    w = record v { pushed = v.pushed ++ x.row ∷ [] }

    all : (j : ℕ) (u : Carried) → get_elem? (set views pass w) j ≡ some u → (u.tied ≡ true) × (table_of u ≡ h.table)
    all = tied_set items views h pass v at tied w refl tied

  pub pops_keep : (pass : ℕ) (v : Carried) → v.tied ≡ true → Pops (Carries {P = P} {O = O} {R = R}) pass v (Popped v)
  pops_keep pass v tied x items views h at = (
    w,
    record {
      table = h.table;
      items_are = λ place y e. h.items_are (suc place) y e;
      tied = λ j u e is. (all j u e).1;
      untied = λ j u e is. absurd (true_false (sym (all j u e).0 ∙ is));
      counted = λ row.
          let old = h.counted row in
          let popped = sum_set (λ (u : Carried). times row u.popped) views pass v w (cond (is_row row x.row) 1 0) at (once_more row x.row v.popped) in
          let pushed = sum_set (λ (u : Carried). times row u.pushed) views pass v w 0 at (omega arith) in
          let there = sum_first (λ (y : Slip P O R). cond (is_row row y.row) 1 0) x items in
          omega (arith, old, popped, pushed, there);
    },
    (subst (λ t. IsRetired t x) (sym (h.tied pass v at tied)) (h.items_are 0 x refl), refl),
  ) where
    w : Carried
    w = record v { popped = v.popped ++ x.row ∷ [] }

    all : (j : ℕ) (u : Carried) → get_elem? (set views pass w) j ≡ some u → (u.tied ≡ true) × (table_of u ≡ h.table)
    all = tied_set (x ∷ items) views h pass v at tied w refl tied

  pub learns_rule : (pass : ℕ) (v : Carried) → Learns (Carries {P = P} {O = O} {R = R}) pass v (IsRuled v)
  learns_rule pass v items views h at = (views, pass, at, h)

  -- a new pass has moved no row
  pub forks_keep : (pass : ℕ) (v : Carried) → v.tied ≡ true → Forks (Carries {P = P} {O = O} {R = R}) pass v v (fresh_carried v)
  forks_keep pass v tied items views h at = record {
    table = h.table;
    items_are = h.items_are;
    tied = λ j u e is. (all j u e).1;
    untied = λ j u e is. absurd (true_false (sym (all j u e).0 ∙ is));
    counted = λ row.
        let old = h.counted row in
        let popped = sum_set (λ (u : Carried). times row u.popped) views pass v v 0 at (omega arith) in
        let pushed = sum_set (λ (u : Carried). times row u.pushed) views pass v v 0 at (omega arith) in
        let popped' = sum_push (λ (u : Carried). times row u.popped) (set views pass v) (fresh_carried v) in
        let pushed' = sum_push (λ (u : Carried). times row u.pushed) (set views pass v) (fresh_carried v) in
        omega (arith, old, popped, pushed, popped', pushed');
  } where
    all : (j : ℕ) (u : Carried) → get_elem? (set views pass v ++ fresh_carried v ∷ []) j ≡ some u → (u.tied ≡ true) × (table_of u ≡ h.table)
    all j u e =
        ⊎_elim
        (λ old. tied_set items views h pass v at tied v refl tied j u old)
        (λ new. subst (λ (z : Carried). (z.tied ≡ true) × (table_of z ≡ h.table)) new (tied, h.tied pass v at tied))
        (at_snoc (set views pass v) (fresh_carried v) u j e)

  -- the first pass alone is tied to a table
  pub ties_keep : (table : TableId) (pass : ℕ) (v : Carried) → v.tied ≡ false
      → Forks (Carries {P = P} {O = O} {R = R}) pass v (tied_to table v) (carried_none true table)
  ties_keep table pass v untied items views h at = record {
    table = table;
    items_are = λ place x e. absurd (none_at place x (subst (λ (l : List (Slip P O R)). slice_get l place ≡ Some x) alone.0 e));
    tied = λ j u e is. (all j u e).1;
    untied = λ j u e is. absurd (true_false (sym (all j u e).0 ∙ is));
    counted = λ row.
        let old = h.counted row in
        let popped = sum_set (λ (u : Carried). times row u.popped) views pass v w 0 at (omega arith) in
        let pushed = sum_set (λ (u : Carried). times row u.pushed) views pass v w 0 at (omega arith) in
        let popped' = sum_push (λ (u : Carried). times row u.popped) (set views pass w) (carried_none true table) in
        let pushed' = sum_push (λ (u : Carried). times row u.pushed) (set views pass w) (carried_none true table) in
        omega (arith, old, popped, pushed, popped', pushed');
  } where
    w : Carried
    w = tied_to table v

    alone : (items ≡ []) × (views ≡ v ∷ [])
    alone = h.untied pass v at untied

    none_at : (place : ℕ) (x : Slip P O R) → slice_get [] place ≡ Some x → ⊥
    none_at place x e = cc

    one_place : (a b : Carried) (i : ℕ) → get_elem? (a ∷ []) i ≡ some b → i ≡ 0
    one_place a b zero e = refl
    one_place a b (suc i) e = absurd (some-ne-none b (sym e))

    all : (j : ℕ) (u : Carried) → get_elem? (set views pass w ++ carried_none true table ∷ []) j ≡ some u → (u.tied ≡ true) × (table_of u ≡ table)
    all j u e =
        ⊎_elim
        (λ old.
        ⊎_elim
        (λ here. subst (λ (z : Carried). (z.tied ≡ true) × (table_of z ≡ table)) here.1 (refl, refl))
        (λ else.
        absurd (else.0 (one_place v u j (subst (λ (l : List Carried). get_elem? l j ≡ some u) alone.1 else.1)
        ∙ sym (one_place v v pass (subst (λ (l : List Carried). get_elem? l pass ≡ some v) alone.1 at)))))
        (at_set views pass j w u old))
        (λ new. subst (λ (z : Carried). (z.tied ≡ true) × (table_of z ≡ table)) new (refl, refl))
        (at_snoc (set views pass w) (carried_none true table) u j e)

  pub begins : Carries {P = P} {O = O} {R = R} [] (carried_none false no_table ∷ [])
  begins = record {
    table = no_table;
    items_are = λ place x e. absurd (cc);
    tied = λ i v e is. ap table_of (sym (only_one (carried_none false no_table) v i e));
    untied = λ i v e is. (refl, ap (λ (z : Carried). z ∷ []) (only_one (carried_none false no_table) v i e));
    counted = λ row. refl;
  }
