-- The rows and cells of a state whose passes are new: no row was handed on, and no entry was drawn at a cell.
use Rattle.std.proofs.Common.{◌≡◌, ℕ, zero, suc, ◌+◌, ◌-◌, ◌*◌, ◌/◌, ◌%◌, ◌<◌, ◌≤◌, ◌∙◌, Bool, true, false, ltb, List, [], ◌∷◌, ◌++◌, Option, Some, None, length, map, replicate, get_or, refl, sym, ap, subst, ⊎_elim, arith}
use Rattle.std.specs.List.{slice_get}
use Rattle.std.specs.Option.{is_some}
use Rattle.std.proofs.lemmas.Bool.{cases_lt}
use Rattle.std.proofs.lemmas.List.{get_or_past, get_or_push, get_or_append_left, get_or-append-add, ext_get_or, length-map, length-replicate}
use Rattle.std.proofs.Math.ListN.{get_or-map, get_or-replicate}
use Rattle.std.proofs.lemmas.Option.{same_Some, slice_get-get_or, slice_get_within}
use Rattle.atomic_table.specs.Table.{State}
use Rattle.k42_kinds.specs.declared.entry.Entry.{Entry}
use Rattle.turn_core.specs.Plain.{Cell, Caller}
use Rattle.turn_core.specs.Names.{names}
use Rattle.turn_core.specs.Sound.{drawn_by, held_by, histories_of, IsHistory, IsCell}
use Rattle.turn_core.specs.State.{fresh_cell}
use Rattle.k42_stamp.specs.Chains.{Chain, Turn, first_of}
use Rattle.k42_stamp.specs.Fits.{Fits}
use Rattle.k42_stamp.specs.Layouts.{Layouts}
use Rattle.k42_stamp.specs.Parts.{those_at}
use Rattle.k42_joined.specs.Fitting.{HasItsTag, HasRows}
use Rattle.k42_joined.specs.Fresh.{first_lives, fresh}
use Rattle.k42_joined.specs.Locks.{AreOfLives, IsOfLife}
use Rattle.k42_joined.specs.Numbers.{cell_of, place_of}
use Rattle.k42_joined.specs.Plain.{Joined}
use Rattle.k42_joined.specs.Rows.{history_in}
use Rattle.k42_joined.specs.State.{many_objects, many_hands, many_procs, object, incarnation, cell, cell_in, layouts_of}
use Rattle.k42_board.specs.Cells.{Slot}
use Rattle.k42_board.specs.Rule.{Ruled}
use Rattle.k42_board.specs.declared.view.View.{View}
use Rattle.table_laws.specs.Opening.{AreNewPasses, IsUnused}
use Rattle.table_laws.proofs.NewPasses.{drawer_is}

pub element : {A : Type 0} (xs : List A) (i : ℕ) → i < length xs → (x : A) × (slice_get xs i ≡ Some x)
element [] i lt = absurd (omega (arith, lt))
element (x ∷ xs) zero lt = (x, refl)
element (x ∷ xs) (suc i) lt = element xs i (omega (arith, lt))

-- the cells of each object begin with 0 in its even row, and with 1 in its odd one
length-first_lives : (objects : ℕ) → length (first_lives objects) ≡ objects * 16
length-first_lives zero = refl
length-first_lives (suc objects) = let more = length-first_lives objects in omega (arith, more)

odd_life : (objects p : ℕ) → p < 8 → get_or (first_lives (suc objects)) (8 + p) 0 ≡ 1
odd_life objects p low =
    get_or-append-add (replicate 8 0) (replicate 8 1 ++ first_lives objects) p 0
    ∙ get_or_append_left (replicate 8 1) (first_lives objects) 0 p low ∙ get_or-replicate 8 p 1 0 low

next_life : (objects n : ℕ) → get_or (first_lives (suc objects)) (8 + (8 + n)) 0 ≡ get_or (first_lives objects) n 0
next_life objects n =
    get_or-append-add (replicate 8 0) (replicate 8 1 ++ first_lives objects) (8 + n) 0
    ∙ get_or-append-add (replicate 8 1) (first_lives objects) n 0

first_life : (objects n : ℕ) → n < objects * 16 → get_or (first_lives objects) n 0 ≡ n / 8 % 2
first_life zero n lt = absurd (omega (arith, lt))
first_life (suc objects) n lt =
    ⊎_elim even (λ past. ⊎_elim (odd past) (λ far. next far (first_life objects (n - 16) (omega (arith, lt, far)))) (cases_lt n 16)) (cases_lt n 8) where
      even : n < 8 → get_or (first_lives (suc objects)) n 0 ≡ n / 8 % 2
      even low =
          get_or_append_left (replicate 8 0) (replicate 8 1 ++ first_lives objects) 0 n low ∙ get_or-replicate 8 n 0 0 low
          ∙ omega (arith, low)

      odd : 8 ≤ n → n < 16 → get_or (first_lives (suc objects)) n 0 ≡ n / 8 % 2
      odd past low =
          subst (λ m. get_or (first_lives (suc objects)) m 0 ≡ n / 8 % 2) (omega (arith, past))
          (odd_life objects (n - 8) (omega (arith, past, low)) ∙ omega (arith, past, low))

      next : 16 ≤ n → get_or (first_lives objects) (n - 16) 0 ≡ (n - 16) / 8 % 2 → get_or (first_lives (suc objects)) n 0 ≡ n / 8 % 2
      next past is =
          subst (λ m. get_or (first_lives (suc objects)) m 0 ≡ n / 8 % 2) (omega (arith, past))
          (next_life objects (n - 16) ∙ is ∙ omega (arith, past))

no_history : {O R : Type 0} (life : ℕ) → get_or {A = List (Entry O R)} ([] ∷ []) life [] ≡ []
no_history zero = refl
no_history (suc life) = refl

none_of : {A : Type 0} (xs : List A) → length xs ≡ 0 → xs ≡ []
none_of [] e = refl
none_of (x ∷ xs) e = absurd (omega (arith, e))

cell_is : {O R : Type 0} (x : Cell O R) (life : ℕ) → IsUnused x → x.closed ≡ false → x.life ≡ life → length x.past ≡ 0 → x ≡ fresh_cell life
cell_is x life unused closed life_is past =
    let none : x.past ≡ [] = none_of x.past past in
    λ i. record { lock = unused.lock i; home = unused.home i; closed = closed i; life = life_is i; history = unused.history i; past = none i }

one_alone : {A : Type 0} (xs : List A) (a b : A) → a ∷ [] ≡ xs ++ b ∷ [] → xs ≡ []
one_alone [] a b e = refl
one_alone (x ∷ xs) a b e = by_rest xs e where
  by_rest : (ys : List _) → a ∷ [] ≡ x ∷ (ys ++ b ∷ []) → x ∷ xs ≡ []
  by_rest [] same = absurd (cc)
  by_rest (y ∷ ys) same = absurd (cc)

module _ {S L P O R : Type 0} (F : Layouts S L P O R) (declared : List L) (callers : List ℕ) (table : State (Slot P O R) (View P O R))
    (r : Ruled F declared (length callers) table) (new : AreNewPasses F.procs (map F.shapes_of declared) callers table.views) where
  abbrev s : Joined L O R
  s = r.rule.state

  drawn_none : (c : ℕ) → drawn_by s.turns.callers c ≡ []
  drawn_none c = ap (λ (x : Caller O R). x.mine) (drawer_is F declared callers table r new c)

  held_none : (c : ℕ) → held_by s.turns.callers c ≡ []
  held_none c = ap (λ (x : Caller O R). x.held) (drawer_is F declared callers table r new c)

  undrawn : (h : List (Entry O R)) → IsHistory s.turns.callers h → h ≡ []
  undrawn [] is = refl
  undrawn (e ∷ es) is =
      let stands : slice_get (drawn_by s.turns.callers e.caller) e.index ≡ Some e = is.drawn 0 e refl in
      let none : slice_get [] e.index ≡ Some e = subst (λ (xs : List (Entry O R)). slice_get xs e.index ≡ Some e) (drawn_none e.caller) stands in
      absurd (cc)

  cell_known : (n : ℕ) → n < length s.turns.cells → IsCell s.turns.callers n (cell s n)
  cell_known n there = r.rule.sound.cells.turns.cells n (cell s n) (slice_get-get_or s.turns.cells n (fresh_cell 0) there)

  histories_none : (n life : ℕ) → get_or (histories_of (cell s n)) life [] ≡ []
  histories_none n life = ⊎_elim here past (cases_lt n (length s.turns.cells)) where
    past : length s.turns.cells ≤ n → get_or (histories_of (cell s n)) life [] ≡ []
    past far = ap (λ (x : Cell O R). get_or (histories_of x) life []) (get_or_past s.turns.cells n (fresh_cell 0) far) ∙ no_history life

    here : n < length s.turns.cells → get_or (histories_of (cell s n)) life [] ≡ []
    here there = ⊎_elim
        (λ lives. undrawn _ ((cell_known n there).histories life _ (slice_get-get_or (histories_of (cell s n)) life [] lives)))
        (λ far. get_or_past (histories_of (cell s n)) life [] far)
        (cases_lt life (length (histories_of (cell s n))))

  unused : (n : ℕ) → n < length s.turns.cells → IsUnused (cell s n)
  unused n there = record {
    lock = lock_is;
    home = by_home (cell s n).home refl;
    history = sym (get_or_push (cell s n).past (cell s n).history [] (length (cell s n).past) refl) ∙ histories_none n (length (cell s n).past);
  } where
    by_lock : (lock : Option ℕ) → (cell s n).lock ≡ lock → (cell s n).lock ≡ None
    by_lock None e = e
    by_lock (Some c) e =
        let named : names [] n ≡ true = subst (λ held. names held n ≡ true) (held_none c) ((cell_known n there).held c e) in
        absurd (cc)

    lock_is : (cell s n).lock ≡ None
    lock_is = by_lock (cell s n).lock refl

    by_home : (home : Bool) → (cell s n).home ≡ home → (cell s n).home ≡ true
    by_home true e = e
    by_home false e =
        let gone : false ≡ true = ap (λ (lock : Option ℕ). is_some lock) (sym lock_is) ∙ (cell_known n there).away e in
        absurd (cc)

  pub all_unused : (n : ℕ) (x : Cell O R) → slice_get s.turns.cells n ≡ Some x → IsUnused x
  all_unused n x at =
      let there = slice_get_within s.turns.cells n x at in
      subst IsUnused (same_Some (cell s n) x (sym (slice_get-get_or s.turns.cells n (fresh_cell 0) there) ∙ at)) (unused n there)

  pub some_procs : 0 < F.procs
  some_procs =
      let told = r.rule.sound.cells.rows.told.procs in
      let some = r.rule.sound.phases.in_scene.in_course.limits.some_procs in
      let many = r.rule.sound.phases.in_scene.in_course.many_procs in
      omega (arith, told, some, many)

  -- an entry with which a row begins would stand in a history
  none_past : (o : ℕ) (declaration : L) (chain : Chain L P O R) → Fits F declaration o (history_in s o) chain → chain.past ≡ []
  none_past o declaration chain fits = by_past chain.past refl where
    by_past : (past : List (Turn L P O R)) → chain.past ≡ past → chain.past ≡ []
    by_past [] e = e
    by_past (turn ∷ past) e =
        let left : [] ≡ first_of chain.past ++ those_at F chain.row.layout 0 chain.row.entries =
        sym (histories_none (cell_of o (length chain.past) 0) (length chain.past / 2)) ∙ fits.left 0 some_procs in
        let some : [] ≡ turn.done ∷ those_at F chain.row.layout 0 chain.row.entries =
        subst (λ (xs : List (Turn L P O R)). [] ≡ first_of xs ++ those_at F chain.row.layout 0 chain.row.entries) e left in
        absurd (cc)

  -- what is known of the rows of an object: none was handed on
  pub record IsFirstRow (o : ℕ) : Type 0 where
    pub declaration : L
    pub declares : slice_get declared o ≡ Some declaration
    pub hands : layouts_of s o ≡ []
    pub tagged : HasItsTag F declaration s o
    pub shaped : (object s o).shapes ≡ F.shapes_of declaration

  pub first_row : (o : ℕ) → o < many_objects s → IsFirstRow o
  first_row o there =
      let fitting = r.rule.sound.cells.rows in
      let declaration = element declared o (rw (← fitting.objects) at there) in
      let chain = element fitting.chains o (rw (← fitting.objects, ← fitting.many) at there) in
      let rows : HasRows F s o declaration.0 chain.0 = fitting.each o declaration.0 chain.0 declaration.1 chain.1 in
      let none : chain.0.past ≡ [] = none_past o declaration.0 chain.0 rows.rows.fits in
      let alone : chain.0.row.layout ∷ [] ≡ layouts_of s o ++ declaration.0 ∷ [] =
      sym (ap (λ (past : List (Turn L P O R)). chain.0.row.layout ∷ map (λ turn. turn.row.layout) past) none) ∙ rows.rows.layouts in
      record {
        declaration = declaration.0;
        declares = declaration.1;
        hands = one_alone (layouts_of s o) chain.0.row.layout declaration.0 alone;
        tagged = rows.tagged;
        shaped = rows.shaped;
      }

  pub no_hands : (o : ℕ) → o < many_objects s → many_hands s o ≡ 0
  no_hands o there = ap length (first_row o there).hands

  pub first_incarnation : (o : ℕ) → o < many_objects s → incarnation s o ≡ 0
  first_incarnation o there =
      let none = no_hands o there in
      ⊎_elim (λ (is : many_hands s o ≡ incarnation s o). omega (arith, is, none)) (λ (is : many_hands s o ≡ incarnation s o + 1). absurd (omega (arith, is, none)))
      (r.rule.sound.cells.locks.counted o there).ahead

  pub hands_are : s.hands ≡ replicate (length declared) []
  hands_are =
      ext_get_or [] s.hands (replicate (length declared) []) (many ∙ sym (length-replicate {A = List L} (length declared) []))
      (λ o lt. (first_row o (rw many_hands_known at lt)).hands ∙ sym (get_or-replicate {A = List L} (length declared) o [] [] (rw many at lt))) where
        many_hands_known : length s.hands ≡ many_objects s
        many_hands_known = r.rule.sound.cells.locks.many.hands

        many : length s.hands ≡ length declared
        many = many_hands_known ∙ sym r.rule.sound.cells.rows.objects

  of_lives : (o p : ℕ) → o < many_objects s → p < many_procs s → AreOfLives 0 false (cell_in s o 0 p) (cell_in s o 1 p)
  of_lives o p there lt =
      subst (λ i. AreOfLives i (ltb i 0) (cell_in s o i p) (cell_in s o (i + 1) p)) (first_incarnation o there)
      (subst (λ n. AreOfLives (incarnation s o) (ltb (incarnation s o) n) (cell_in s o (incarnation s o) p) (cell_in s o (incarnation s o + 1) p)) (no_hands o there)
      (r.rule.sound.cells.locks.lives o p there lt))

  many_cells : length s.turns.cells ≡ many_objects s * 16
  many_cells = r.rule.sound.cells.locks.many.cells

  even_is : (o p : ℕ) → o < many_objects s → p < many_procs s → cell_in s o 0 p ≡ fresh_cell 0
  even_is o p there lt =
      let is : IsOfLife 0 false 0 (cell_in s o 0 p) = (of_lives o p there lt).present in
      let many = many_cells in let few = r.rule.sound.cells.locks.many.few_procs in
      cell_is (cell_in s o 0 p) 0 (unused (cell_of o 0 p) (omega (arith, there, lt, many, few))) is.closed is.life is.past

  odd_is : (o p : ℕ) → o < many_objects s → p < many_procs s → cell_in s o 1 p ≡ fresh_cell 1
  odd_is o p there lt =
      let is : IsOfLife 0 false 1 (cell_in s o 1 p) = (of_lives o p there lt).other in
      let many = many_cells in let few = r.rule.sound.cells.locks.many.few_procs in
      cell_is (cell_in s o 1 p) 1 (unused (cell_of o 1 p) (omega (arith, there, lt, many, few))) is.closed is.life is.past

  -- a cell of the row of a parity
  row_is : (o p parity : ℕ) → parity < 2 → o < many_objects s → p < many_procs s → cell_in s o parity p ≡ fresh_cell parity
  row_is o p zero low there lt = even_is o p there lt
  row_is o p (suc zero) low there lt = odd_is o p there lt
  row_is o p (suc (suc more)) low there lt = absurd (omega (arith, low))

  pub many_cells_are : length s.turns.cells ≡ length (fresh F declared callers).turns.cells
  many_cells_are =
      let many = many_cells in let objects = r.rule.sound.cells.rows.objects in
      let first = length-map (first_lives (length declared)) (fresh_cell {O = O} {R = R}) in let long = length-first_lives (length declared) in
      omega (arith, many, objects, first, long)

  pub cell_new : (n : ℕ) → place_of n < F.procs → cell s n ≡ cell (fresh F declared callers) n
  cell_new n near = ⊎_elim here past (cases_lt n (length s.turns.cells)) where
    past : length s.turns.cells ≤ n → cell s n ≡ cell (fresh F declared callers) n
    past far =
        let other : length (fresh F declared callers).turns.cells ≤ n = rw many_cells_are at far in
        get_or_past s.turns.cells n (fresh_cell 0) far ∙ sym (get_or_past (fresh F declared callers).turns.cells n (fresh_cell 0) other)

    here : n < length s.turns.cells → cell s n ≡ cell (fresh F declared callers) n
    here there =
        let many = many_cells in let objects = r.rule.sound.cells.rows.objects in
        let split : n ≡ cell_of (n / 16) (n / 8 % 2) (n % 8) = omega arith in
        let low : n / 8 % 2 < 2 = omega arith in
        let object : n / 16 < many_objects s = omega (arith, there, many) in
        let within : n < length declared * 16 = omega (arith, there, many, objects) in
        ap (cell s) split
        ∙ row_is (n / 16) (n % 8) (n / 8 % 2) low object (rw r.rule.sound.cells.rows.told.procs at near)
        ∙ ap fresh_cell (sym (first_life (length declared) n within))
        ∙ sym (get_or-map fresh_cell (first_lives (length declared)) n 0)
