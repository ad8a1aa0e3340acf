-- A new state meets every fact.
use Rattle.std.proofs.Common.{◌≡◌, ℕ, zero, suc, ◌+◌, ◌-◌, ◌*◌, ◌<◌, ◌≤◌, ◌∙◌, false, ltb, List, [], ◌∷◌, ◌++◌, Option, Some, None, length, map, replicate, get_or, refl, sym, ap, subst, inl, ⊎_elim, arith}
use Rattle.std.specs.List.{slice_get}
use Rattle.std.specs.Prelude.{option_map}
use Rattle.std.proofs.lemmas.Bool.{cases_lt}
use Rattle.std.proofs.lemmas.List.{get_or-map, get_or_past, length-map, length-replicate, get_or_append_left, get_or-append-add}
use Rattle.std.proofs.Math.ListN.{get_or-replicate}
use Rattle.std.proofs.lemmas.Option.{same_Some, slice_get-map, slice_get_within, get_or_from_slice_get}
use Rattle.k42_kinds.specs.Rows.{empty_row}
use Rattle.k42_kinds.specs.declared.entry.Entry.{Entry}
use Rattle.gen_core.specs.Plain.{Caller as GenCaller}
use Rattle.gen_core.specs.State as gen
use Rattle.phase_core.specs.Plain.{Object, Visitor}
use Rattle.phase_core.specs.Stages.{named_by}
use Rattle.phase_core.specs.State.{fresh_object, fresh_visitor, new_object, new_visitor, proc_of}
use Rattle.phase_core.specs.declared.caller.SwapAt.TheVariants.{Idle}
use Rattle.phase_core.proofs.Fresh.{IsSound-new}
use Rattle.turn_core.specs.Plain.{Cell, Caller}
use Rattle.turn_core.specs.State.{fresh_cell, fresh_caller}
use Rattle.turn_core.proofs.Fresh.{sound-fresh}
use Rattle.k42_stamp.specs.Chains.{Chain}
use Rattle.k42_stamp.specs.Layouts.{Layouts, IsLive, shape_of}
use Rattle.k42_stamp.specs.Lists.{InSome}
use Rattle.k42_stamp.specs.Orders.{In}
use Rattle.k42_joined.proofs.RowsStamps.{at_list}
use Rattle.k42_joined.specs.Plain.{Kept, Joined}
use Rattle.k42_joined.specs.Answers.{AreAnswered}
use Rattle.k42_joined.specs.Fitting.{lists_of, HasRows, Fitting}
use Rattle.phase_core.specs.Plain.{ObjectPlan}
use Rattle.k42_joined.specs.Fresh.{first_lives, fresh, plan_of, IsPlan}
use Rattle.k42_joined.specs.Locks.{AreOfLives, AreLocked}
use Rattle.k42_joined.specs.Rows.{history_in}
use Rattle.k42_joined.specs.Sound.{IsSound}
use Rattle.k42_joined.specs.State.{nothing_kept, many_procs, many_callers, many_objects, object, incarnation, swap_of, cell, cell_in, mine, kept_of, layouts_of, many_hands}

-- the lives of the cells

length-first_lives : (objects : ℕ) → length (first_lives objects) ≡ objects * 16
length-first_lives zero = refl
length-first_lives (suc objects) = let more = length-first_lives objects in omega (arith, more)

-- eight numbers, eight others, and what comes behind them
even_at : (p : ℕ) (rest : List ℕ) → p < 8 → get_or (replicate 8 0 ++ rest) p 0 ≡ 0
even_at p rest lt = get_or_append_left (replicate 8 0) rest 0 p lt ∙ get_or-replicate 8 p 0 0 lt

odd_at : (p : ℕ) (rest : List ℕ) → p < 8 → get_or (replicate 8 0 ++ (replicate 8 1 ++ rest)) (8 + p) 0 ≡ 1
odd_at p rest lt =
    get_or-append-add (replicate 8 0) (replicate 8 1 ++ rest) p 0
    ∙ get_or_append_left (replicate 8 1) rest 0 p lt ∙ get_or-replicate 8 p 1 0 lt

behind_at : (n : ℕ) (rest : List ℕ) → get_or (replicate 8 0 ++ (replicate 8 1 ++ rest)) (8 + (8 + n)) 0 ≡ get_or rest n 0
behind_at n rest =
    get_or-append-add (replicate 8 0) (replicate 8 1 ++ rest) (8 + n) 0 ∙ get_or-append-add (replicate 8 1) rest n 0

life_even : (objects o p : ℕ) → o < objects → p < 8 → get_or (first_lives objects) (o * 16 + p) 0 ≡ 0
life_even zero o p there lt = absurd (omega (arith, there))
life_even (suc objects) zero p there lt = ap (λ n. get_or (first_lives (suc objects)) n 0) (omega arith) ∙ even_at p (replicate 8 1 ++ first_lives objects) lt
life_even (suc objects) (suc o) p there lt =
    ap (λ n. get_or (first_lives (suc objects)) n 0) (omega arith) ∙ behind_at (o * 16 + p) (first_lives objects)
    ∙ life_even objects o p (omega (arith, there)) lt

life_odd : (objects o p : ℕ) → o < objects → p < 8 → get_or (first_lives objects) (o * 16 + (8 + p)) 0 ≡ 1
life_odd zero o p there lt = absurd (omega (arith, there))
life_odd (suc objects) zero p there lt = ap (λ n. get_or (first_lives (suc objects)) n 0) (omega arith) ∙ odd_at p (first_lives objects) lt
life_odd (suc objects) (suc o) p there lt =
    ap (λ n. get_or (first_lives (suc objects)) n 0) (omega arith) ∙ behind_at (o * 16 + (8 + p)) (first_lives objects)
    ∙ life_odd objects o p (omega (arith, there)) lt

fresh_lives : {O R : Type 0} (i n : ℕ) (x y : Cell O R) → i ≡ 0 → n ≡ 0 → x ≡ fresh_cell 0 → y ≡ fresh_cell 1 → AreOfLives i (ltb i n) x y
fresh_lives i n x y zero_is none x_is y_is =
    subst (λ j. AreOfLives j (ltb j n) x y) (sym zero_is)
    (subst (λ m. AreOfLives 0 (ltb 0 m) x y) (sym none)
    (subst (λ z. AreOfLives 0 false z y) (sym x_is)
    (subst (λ z. AreOfLives 0 false (fresh_cell 0) z) (sym y_is)
    (record {
      present = record { life = refl; closed = refl; past = refl };
      other = record { life = refl; closed = refl; past = refl };
      next = λ life. record { empty = λ no_hand. refl; begun = λ is. absurd (cc) };
    }))))

-- of an object that is not there
abbrev no_plan : ObjectPlan
no_plan = record { shapes = []; layout = 0 }

module _ {S L P O R : Type 0} (F : Layouts S L P O R) (declared : List L) (callers : List ℕ) (plan : IsPlan F declared callers) where
  abbrev s : Joined L O R
  s = fresh F declared callers

  objects_many : many_objects s ≡ length declared
  objects_many = length-map (map (plan_of F) declared) (new_object F.procs) ∙ length-map declared (plan_of F)

  callers_many : many_callers s ≡ length callers
  callers_many = length-replicate (length callers) (new_visitor (length (map (plan_of F) declared)))

  procs_many : many_procs s ≡ F.procs
  procs_many = length-replicate F.procs gen.fresh_proc

  object_new : (o : ℕ) → o < many_objects s → object s o ≡ new_object F.procs (get_or (map (plan_of F) declared) o no_plan)
  object_new o named =
      get_or-map (new_object F.procs) (map (plan_of F) declared) o no_plan fresh_object (rw (length-map (map (plan_of F) declared) (new_object F.procs)) at named)

  hands_none : (o : ℕ) → layouts_of s o ≡ []
  hands_none o =
      ⊎_elim (λ there. get_or-replicate (length declared) o [] [] there)
      (λ past. get_or_past (replicate (length declared) []) o [] (rw (length-replicate {A = List L} (length declared) []) past)) (cases_lt o (length declared))

  cell_new : (n : ℕ) → n < length declared * 16 → cell s n ≡ fresh_cell (get_or (first_lives (length declared)) n 0)
  cell_new n there =
      get_or-map fresh_cell (first_lives (length declared)) n 0 (fresh_cell 0) (rw (length-first_lives (length declared)) there)

  cell_unlocked : (n : ℕ) → (cell s n).lock ≡ None
  cell_unlocked n =
      ⊎_elim (λ there. ap (λ (x : Cell O R). x.lock) (cell_new n there))
      (λ past. ap (λ (x : Cell O R). x.lock) (get_or_past s.turns.cells n (fresh_cell 0) (rw (length-map (first_lives (length declared)) fresh_cell, length-first_lives (length declared)) past)))
      (cases_lt n (length declared * 16))

  few : many_procs s ≤ 8
  few = rw procs_many plan.phases.turns.limits.few_procs

  cell_even : (o p : ℕ) → o < many_objects s → p < many_procs s → cell_in s o 0 p ≡ fresh_cell 0
  cell_even o p named lt =
      let there = rw objects_many at named in
      let less = few in
      ap (cell s) (omega arith)
      ∙ cell_new (o * 16 + p) (omega (arith, there, lt, less))
      ∙ ap fresh_cell (life_even (length declared) o p there (omega (arith, lt, less)))

  cell_odd : (o p : ℕ) → o < many_objects s → p < many_procs s → cell_in s o 1 p ≡ fresh_cell 1
  cell_odd o p named lt =
      let there = rw objects_many at named in
      let less = few in
      ap (cell s) (omega arith)
      ∙ cell_new (o * 16 + (8 + p)) (omega (arith, there, lt, less))
      ∙ ap fresh_cell (life_odd (length declared) o p there (omega (arith, lt, less)))

  pub fresh_locked : AreLocked s
  fresh_locked = record {
    many = record {
      callers = length-replicate (length callers) fresh_caller ∙ sym callers_many;
      kept = length-replicate (length callers) nothing_kept ∙ sym callers_many;
      hands = length-replicate (length declared) [] ∙ sym objects_many;
      cells = length-map (first_lives (length declared)) fresh_cell ∙ length-first_lives (length declared) ∙ ap (λ n. n * 16) (sym objects_many);
      few_procs = few;
    };
    held = λ n c lock. let none : None ≡ Some c = sym (cell_unlocked n) ∙ lock in absurd (cc);
    counted = λ o named. record {
      ahead = inl (ap length (hands_none o) ∙ sym (ap (λ (k : Object). k.incarnation) (object_new o named)));
      kept = let zero_is = ap (λ (k : Object). k.incarnation) (object_new o named) in omega (arith, zero_is);
    };
    lives = λ o p named lt.
        let zero_is : incarnation s o ≡ 0 = ap (λ (k : Object). k.incarnation) (object_new o named) in
        fresh_lives (incarnation s o) (many_hands s o) _ _ zero_is (ap length (hands_none o))
        (ap (λ i. cell_in s o i p) zero_is ∙ cell_even o p named lt)
        (ap (λ i. cell_in s o (i + 1) p) zero_is ∙ cell_odd o p named lt);
  }

  -- no entry was drawn
  mine_none : (c : ℕ) → mine s c ≡ []
  mine_none c =
      ⊎_elim (λ there. ap (λ (x : Caller O R). x.mine) (get_or-replicate (length callers) c fresh_caller fresh_caller there))
      (λ past. ap (λ (x : Caller O R). x.mine) (get_or_past (replicate (length callers) fresh_caller) c fresh_caller (rw (length-replicate (length callers) fresh_caller) past)))
      (cases_lt c (length callers))

  kept_none : (c : ℕ) → kept_of s c ≡ nothing_kept
  kept_none c =
      ⊎_elim (λ there. get_or-replicate (length callers) c (nothing_kept {R = R}) (nothing_kept {R = R}) there)
      (λ past. get_or_past (replicate (length callers) (nothing_kept {R = R})) c (nothing_kept {R = R}) (rw (length-replicate (length callers) (nothing_kept {R = R})) past))
      (cases_lt c (length callers))

  swap_none : (c : ℕ) → swap_of s c ≡ Idle
  swap_none c =
      ⊎_elim (λ there. ap (λ (x : Visitor). x.swap) (get_or-replicate (length callers) c (new_visitor (length (map (plan_of F) declared))) fresh_visitor there))
      (λ past. ap (λ (x : Visitor). x.swap) (get_or_past s.phases.callers c fresh_visitor (rw callers_many past)))
      (cases_lt c (length callers))

  none_in : (c : ℕ) (e : Entry O R) → In e (mine s c) → ⊥
  none_in c e is = subst (λ (es : List (Entry O R)). In e es) (mine_none c) is

  pub fresh_answered : AreAnswered s
  fresh_answered c there = record {
    kept = record {
      begun = λ o named. let none : None ≡ Some o = sym (ap named_by (swap_none c)) ∙ named in absurd (cc);
      there = λ o begun. let none : None ≡ Some o = sym (ap (λ (k : Kept R). k.begun) (kept_none c)) ∙ begun in absurd (cc);
      found = λ answer is. let none : None ≡ Some answer = sym (ap (λ (k : Kept R). k.found) (kept_none c)) ∙ is in absurd (cc);
    };
    timely = λ before e after cut. absurd (no_split before e after (sym (mine_none c) ∙ cut));
    each = λ e is. absurd (none_in c e is);
    found = λ o answer begun is. let none : None ≡ Some answer = sym (ap (λ (k : Kept R). k.found) (kept_none c)) ∙ is in absurd (cc);
    drawn = λ o named. let none : None ≡ Some o = sym (ap named_by (swap_none c)) ∙ named in absurd (cc);
  } where
    no_split : (before : List (Entry O R)) (e : Entry O R) (after : List (Entry O R)) → [] ≡ before ++ e ∷ after → ⊥
    no_split [] e after same = cc
    no_split (f ∷ before) e after same = cc

  -- the rows with which the objects begin
  abbrev first_chain : L → Chain L P O R
  first_chain layout = record {
    past = [];
    row = record { layout = layout; start = empty_row (F.ways_of layout) (shape_of F layout) F.procs; entries = [] };
  }

  history_none : (o p : ℕ) → o < many_objects s → p < F.procs → history_in s o 0 p ≡ []
  history_none o p named lt = ap (λ (x : Cell O R). get_or (x.past ++ x.history ∷ []) 0 []) (cell_even o p named (rw procs_many lt))

  module _ (o : ℕ) (layout : L) (declares : slice_get declared o ≡ Some layout) where
    named : o < many_objects s
    named = rw objects_many (slice_get_within declared o layout declares)

    live : IsLive F layout
    live = plan.live o layout declares

    plan_is : get_or (map (plan_of F) declared) o no_plan ≡ plan_of F layout
    plan_is = get_or_from_slice_get (map (plan_of F) declared) o (plan_of F layout) no_plan (slice_get-map (plan_of F) declared o ∙ ap (option_map (plan_of F)) declares)

    tag_is : (get_or (map (plan_of F) declared) o no_plan).layout ≡ F.tag_of layout
    tag_is = ap (λ (start : ObjectPlan). start.layout) plan_is

    first_rows : HasRows F s o layout (first_chain layout)
    first_rows = record {
      rows = record {
        fits = record {
          declared_live = live;
          past = tt;
          row = record {
            kind = refl;
            known = let low = live in omega (arith, low);
            begun = refl;
            started = refl;
            own = tt;
            ordered = tt;
            above = tt;
            replied = tt;
          };
          past_left = tt;
          left = λ p lt. history_none o p named lt;
        };
        layouts = ap (λ ls. ls ++ layout ∷ []) (sym (hands_none o));
      };
      tagged = λ lay is.
          let first : slice_get ([] ++ layout ∷ []) (0 - incarnation s o) ≡ Some lay =
          subst (λ ls. slice_get (ls ++ layout ∷ []) (length ls - incarnation s o) ≡ Some lay) (hands_none o) is in
          let same : layout ≡ lay = one_of (0 - incarnation s o) layout lay first in
          ap F.tag_of (sym same) ∙ sym tag_is ∙ sym (ap (λ (k : Object). k.layout) (object_new o named));
      shaped = ap (λ (k : Object). k.shapes) (object_new o named) ∙ ap (λ (start : ObjectPlan). start.shapes) plan_is;
    } where
      one_of : (n : ℕ) (a b : L) → slice_get (a ∷ []) n ≡ Some b → a ≡ b
      one_of zero a b is = same_Some a b is
      one_of (suc n) a b is = absurd (cc)

  abbrev chains : List (Chain L P O R)
  chains = map first_chain declared

  no_list : (e : Entry O R) → InSome (lists_of s) e → ⊥
  no_list e is =
      let at = at_list s.turns.callers is.place is.list is.there in
      none_in is.place e (subst (λ (es : List (Entry O R)). In e es) (sym at.1) is.has)

  chain_is : (o : ℕ) (x : Chain L P O R) → slice_get chains o ≡ Some x → (layout : L) × (slice_get declared o ≡ Some layout) × (first_chain layout ≡ x)
  chain_is o x is = by_layout (slice_get declared o) refl (sym (slice_get-map first_chain declared o) ∙ is) where
    by_layout : (found : Option L) → slice_get declared o ≡ found → option_map first_chain found ≡ Some x
        → (layout : L) × (slice_get declared o ≡ Some layout) × (first_chain layout ≡ x)
    by_layout None e is = absurd (cc)
    by_layout (Some layout) e is = (layout, e, same_Some (first_chain layout) x is)

  pub fresh_fitting : Fitting F declared s
  fresh_fitting = record {
    told = record { procs = sym procs_many; proc_of = λ c there. caller_proc c (rw callers_many at there) };
    objects = sym objects_many;
    chains = chains;
    many = length-map declared first_chain;
    each = λ o layout x declares is.
        let found = chain_is o x is in
        let same : found.0 ≡ layout = same_Some found.0 layout (sym found.1 ∙ declares) in
        subst (λ y. HasRows F s o layout y) (ap first_chain (sym same) ∙ found.2) (first_rows o layout declares);
    those = record {
      placed = λ e is pass. absurd (no_list e is);
      given = λ o x e is inside pass.
          let found = chain_is o x is in
          let long : length x.past ≡ 0 = sym (ap (λ (y : Chain L P O R). length y.past) found.2) in
          let le = inside.2 in
          let first : inside.0 ≡ 0 = omega (arith, long, le) in
          let none : In e [] = subst (λ (h : List (Entry O R)). In e h) (ap (λ row. history_in s o row inside.1) first ∙ history_none o inside.1 (rw objects_many (slice_get_within declared o found.0 found.1)) inside.3) inside.4 in
          absurd none;
    };
  } where
    caller_proc : (c : ℕ) → c < length callers → F.proc_of c ≡ proc_of s.phases c
    caller_proc c there =
        plan.proc_of c there ∙ sym (ap (λ (x : GenCaller). x.proc) (get_or-map (gen.fresh_caller F.procs) callers c 0 _ there))

  pub fresh_sound : IsSound F declared s
  fresh_sound = record {
    phases = IsSound-new F.procs (map (plan_of F) declared) callers plan.phases;
    cells = record { turns = sound-fresh (first_lives (length declared)) (length callers); locks = fresh_locked; rows = fresh_fitting };
    answers = fresh_answered;
  }
