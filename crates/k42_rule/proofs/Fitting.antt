-- Each step keeps together what a pass knows of its swap.
use Rattle.std.proofs.Common.{◌≡◌, ◌≢◌, ℕ, ◌+◌, ◌≤◌, if◌then◌else◌, Bool, true, false, ◌||◌, ◌==◌, Option, Some, None, is_some, nat_lt, sym, refl, ap, ◌∙◌, subst, arith, List, [], length, get_or}
use Rattle.std.specs.Option.{unwrap_or}
use Rattle.std.proofs.lemmas.Bool.{eq-eqb}
use Rattle.std.proofs.lemmas.Option.{same_Some}
use Rattle.k42_shapes.specs.Shapes.{IsKnownTag}
use Rattle.k42_shapes.specs.declared.shape.Shape.{Shape}
use Rattle.k42_limits.specs.declared.TheConstants.{LAST_INCARNATION}
use Rattle.gen_core.specs.declared.state.GraceAt.{GraceAt}
use Rattle.gen_core.specs.declared.state.GraceAt.TheVariants.{Quiet}
use Rattle.phase_core.specs.Effects.{begun_as, drained_at, draining_from}
use Rattle.phase_core.specs.Stages.{named_by, object_named, is_idle, is_drained, is_blocking, is_moved}
use Rattle.phase_core.specs.declared.caller.SwapAt.{SwapAt}
use Rattle.phase_core.specs.declared.caller.SwapAt.TheVariants.{Idle, Begun, Interposing, Interposed, Draining, Drained, Blocking, Moved, Opening, Reopening, Opened}
use Rattle.k42_board.specs.Swapping.{after_entry, follows_turn, opens_next, is_in_begun_row, FitsSwap, IsOfLiving}
use Rattle.k42_board.specs.Tabling.{is_over_in}
use Rattle.k42_board.specs.Values.{layout_in, incarnation_in}
use Rattle.k42_board.specs.declared.view.LastBegin.{LastBegin}

-- a pass that has begun no swap
pub fits_new : (shapes : List (List Shape)) → FitsSwap shapes Idle false None None
fits_new shapes = record {
  after = λ e. absurd (cc);
  opens = λ e. absurd (cc);
  moved = λ e. absurd (cc);
  object = λ o e. absurd (cc);
  living = λ e. absurd (cc);
  known = omega arith;
}

-- a stage to which a swap goes without a Begin and without a turn-over, and keeps what it has handed on
record GoesTo (swap next : SwapAt) : Type 0 where
  pub after : follows_turn swap ≡ true → follows_turn next ≡ true
  pub opens : opens_next next ≡ true → opens_next swap ≡ true
  pub moved : is_moved swap ≡ true → is_moved next ≡ true
  pub object : (o : ℕ) → named_by next ≡ Some o → named_by swap ≡ Some o
  pub living :
      (turned : Bool) → (opens_next swap ≡ true → turned ≡ true)
      → is_in_begun_row next turned ≡ true → is_in_begun_row swap turned ≡ true

stays_at : (swap : SwapAt) → GoesTo swap swap
stays_at swap = record { after = λ e. e; opens = λ e. e; moved = λ e. e; object = λ o e. e; living = λ turned opens e. e }

-- from a stage before it turns over to the next
record IsBefore (swap : SwapAt) (o : ℕ) : Type 0 where
  pub follows : follows_turn swap ≡ false
  pub moved : is_moved swap ≡ false
  pub named : named_by swap ≡ Some o
  pub begun : (turned : Bool) → is_in_begun_row swap turned ≡ true

record IsNext (next : SwapAt) (o : ℕ) : Type 0 where
  pub opens : opens_next next ≡ false
  pub named : named_by next ≡ Some o

goes_before : (swap next : SwapAt) (o : ℕ) → IsBefore swap o → IsNext next o → GoesTo swap next
goes_before swap next o before is = record {
  after = λ e. absurd (let not = before.follows in cc);
  opens = λ e. absurd (let not = is.opens in cc);
  moved = λ e. absurd (let not = before.moved in cc);
  object = λ p e. before.named ∙ sym is.named ∙ e;
  living = λ turned opens e. before.begun turned;
}

goes_interposed : (swap : SwapAt) (o p : ℕ) (more : Bool) → IsBefore swap o → GoesTo swap (if more then Interposing o (p + 1) else Interposed o)
goes_interposed swap o p true before = goes_before swap (Interposing o (p + 1)) o before (record { opens = refl; named = refl })
goes_interposed swap o p false before = goes_before swap (Interposed o) o before (record { opens = refl; named = refl })

goes_opening : (o p : ℕ) (more : Bool) → GoesTo (Opening o p) (if more then Opening o (p + 1) else Opened o)
goes_opening o p true = record { after = λ e. refl; opens = λ e. refl; moved = λ e. absurd (cc); object = λ q e. e; living = λ turned opens e. e }
goes_opening o p false = record {
  after = λ e. refl;
  opens = λ e. refl;
  moved = λ e. absurd (cc);
  object = λ q e. e;
  living = λ turned opens e. absurd (let is = opens refl in let unturned : is_in_begun_row (Opened o) true ≡ true = subst (λ t. is_in_begun_row (Opened o) t ≡ true) is e in cc);
}

goes_reopening : (o p : ℕ) (more : Bool) → GoesTo (Reopening o p) (if more then Reopening o (p + 1) else Opened o)
goes_reopening o p true = record { after = λ e. absurd (cc); opens = λ e. absurd (cc); moved = λ e. absurd (cc); object = λ q e. e; living = λ turned opens e. refl }
goes_reopening o p false = record { after = λ e. absurd (cc); opens = λ e. absurd (cc); moved = λ e. absurd (cc); object = λ q e. e; living = λ turned opens e. refl }

goes_entry : (procs : ℕ) (swap : SwapAt) → GoesTo swap (after_entry procs swap)
goes_entry procs (Begun o) = goes_interposed (Begun o) o 0 (nat_lt (0 + 1) procs) (record { follows = refl; moved = refl; named = refl; begun = λ turned. refl })
goes_entry procs (Interposing o p) = goes_interposed (Interposing o p) o p (nat_lt (p + 1) procs) (record { follows = refl; moved = refl; named = refl; begun = λ turned. refl })
goes_entry procs (Opening o p) = goes_opening o p (nat_lt (p + 1) procs)
goes_entry procs (Reopening o p) = goes_reopening o p (nat_lt (p + 1) procs)
goes_entry procs swap = stays_at swap

goes_blocked : (swap : SwapAt) → is_drained swap ≡ true → GoesTo swap (Blocking (object_named swap))
goes_blocked (Drained o) e =
    goes_before (Drained o) (Blocking o) o (record { follows = refl; moved = refl; named = refl; begun = λ turned. refl }) (record { opens = refl; named = refl })
goes_blocked swap e = absurd (cc)

goes_moved : (swap : SwapAt) → is_blocking swap ≡ true → GoesTo swap (Moved (object_named swap))
goes_moved (Blocking o) e =
    goes_before (Blocking o) (Moved o) o (record { follows = refl; moved = refl; named = refl; begun = λ turned. refl }) (record { opens = refl; named = refl })
goes_moved swap e = absurd (cc)

goes_draining : (swap : SwapAt) → GoesTo swap (draining_from swap)
goes_draining (Interposed o) =
    goes_before (Interposed o) (Draining o) o (record { follows = refl; moved = refl; named = refl; begun = λ turned. refl }) (record { opens = refl; named = refl })
goes_draining swap = stays_at swap

goes_drained : (grace : GraceAt) (swap : SwapAt) → GoesTo swap (drained_at grace swap)
goes_drained Quiet (Draining o) =
    goes_before (Draining o) (Drained o) o (record { follows = refl; moved = refl; named = refl; begun = λ turned. refl }) (record { opens = refl; named = refl })
goes_drained grace swap = stays_at swap

-- of a swap that moves its object

moved_names : (swap : SwapAt) → is_moved swap ≡ true → named_by swap ≡ Some (object_named swap)
moved_names (Moved o) e = refl
moved_names swap e = absurd (cc)

moved_before : (swap : SwapAt) (turned : Bool) → is_moved swap ≡ true → (follows_turn swap ≡ false) × (is_in_begun_row swap turned ≡ true)
moved_before (Moved o) turned e = (refl, refl)
moved_before swap turned e = absurd (cc)

-- of none

idle_is : (swap : SwapAt) → is_idle swap ≡ true → swap ≡ Idle
idle_is Idle e = refl
idle_is swap e = absurd (cc)

-- and of one that has not moved its object, and so has handed on no row
unhanded_zero : (swap : SwapAt) (handed : Option ℕ) → (is_some handed ≡ true → is_moved swap ≡ true) → is_moved swap ≡ false → unwrap_or handed 0 ≡ 0
unhanded_zero swap None moved not = refl
unhanded_zero swap (Some tag) moved not = absurd (let is = moved refl in cc)

-- and of one that has just begun

begun_opens : (o : ℕ) (over : Bool) → opens_next (begun_as o over) ≡ false
begun_opens o true = refl
begun_opens o false = refl

begun_named : (o : ℕ) (over : Bool) → named_by (begun_as o over) ≡ Some o
begun_named o true = refl
begun_named o false = refl

begun_lives :
    (own : List Shape) (o word : ℕ) (turned over : Bool) → is_over_in (length own) word ≡ over → IsKnownTag own (layout_in word) → incarnation_in word ≤ LAST_INCARNATION
    → is_in_begun_row (begun_as o over) turned ≡ true → IsOfLiving own word
begun_lives own o word turned true is known last e = absurd (cc)
begun_lives own o word turned false is known last e =
    lives (layout_in word == length own) (incarnation_in word == LAST_INCARNATION) refl refl is where
      lives : (dead spent : Bool) → (layout_in word == length own) ≡ dead → (incarnation_in word == LAST_INCARNATION) ≡ spent → (dead || spent) ≡ false → IsOfLiving own word
      lives true spent a b e = absurd (cc)
      lives false true a b e = absurd (cc)
      lives false false a b e = record {
        layout = let not : layout_in word ≢ length own = λ two. absurd (let so = eq-eqb (layout_in word) (length own) two in cc) in omega (arith, known, not);
        last = let not : incarnation_in word ≢ LAST_INCARNATION = λ is. absurd (let so = eq-eqb (incarnation_in word) LAST_INCARNATION is in cc) in omega (arith, last, not);
      }

module _ (shapes : List (List Shape)) (swap : SwapAt) (turned : Bool) (handed : Option ℕ) (last : Option LastBegin) (fits : FitsSwap shapes swap turned handed last) where
  fits_at : (next : SwapAt) → GoesTo swap next → FitsSwap shapes next turned handed last
  fits_at next goes = record {
    after = λ e. goes.after (fits.after e);
    opens = λ e. fits.opens (goes.opens e);
    moved = λ e. goes.moved (fits.moved e);
    object = λ o e. fits.object o (goes.object o e);
    living = λ e. fits.living (goes.living turned fits.opens e);
    known = fits.known;
  }

  -- the next entry is changed
  pub fits_entry : (procs : ℕ) → FitsSwap shapes (after_entry procs swap) turned handed last
  fits_entry procs = fits_at (after_entry procs swap) (goes_entry procs swap)

  -- a drained swap blocks
  pub fits_blocked : is_drained swap ≡ true → FitsSwap shapes (Blocking (object_named swap)) turned handed last
  fits_blocked e = fits_at (Blocking (object_named swap)) (goes_blocked swap e)

  -- one that blocks moves its object
  pub fits_moved : is_blocking swap ≡ true → FitsSwap shapes (Moved (object_named swap)) turned handed last
  fits_moved e = fits_at (Moved (object_named swap)) (goes_moved swap e)

  -- its pass takes the role, and its pass's grace comes so far
  pub fits_draining : (next : SwapAt) → next ≡ draining_from swap → FitsSwap shapes next turned handed last
  fits_draining next is = rw is (fits_at (draining_from swap) (goes_draining swap))

  pub fits_drained : (grace : GraceAt) → FitsSwap shapes (drained_at grace swap) turned handed last
  fits_drained grace = fits_at (drained_at grace swap) (goes_drained grace swap)

  -- it hands on with a layout
  pub fits_handed : (tag : ℕ) → is_moved swap ≡ true → IsKnownTag (get_or shapes (object_named swap) []) tag → FitsSwap shapes swap turned (Some tag) last
  fits_handed tag e known = record {
    after = fits.after;
    opens = fits.opens;
    moved = λ some. e;
    object = fits.object;
    living = fits.living;
    known = subst (λ o. IsKnownTag (get_or shapes o []) tag) (sym (fits.object (object_named swap) (moved_names swap e))) known;
  }

  -- and turns its object over
  pub fits_turned : is_moved swap ≡ true → FitsSwap shapes (Opening (object_named swap) 0) true None last
  fits_turned e = record {
    after = λ is. refl;
    opens = λ is. refl;
    moved = λ is. absurd (cc);
    object = λ o is. fits.object o (moved_names swap e ∙ is);
    living = λ is. absurd (cc);
    known = omega arith;
  }

  -- or gives it up, where it has not handed it on
  pub fits_given_up : is_moved swap ≡ true → handed ≡ None → FitsSwap shapes (Reopening (object_named swap) 0) turned handed last
  fits_given_up e none = record {
    after = λ is. absurd (let not = (moved_before swap turned e).0 in let is_after = fits.after is in cc);
    opens = λ is. absurd (cc);
    moved = λ is. absurd (let no = ap is_some none in cc);
    object = λ o is. fits.object o (moved_names swap e ∙ is);
    living = λ is. fits.living (moved_before swap turned e).1;
    known = fits.known;
  }

  -- it ends
  pub fits_cleared : is_moved swap ≡ false → FitsSwap shapes Idle false handed last
  fits_cleared unmoved = record {
    after = λ is. absurd (cc);
    opens = λ is. absurd (cc);
    moved = λ is. absurd (let moved = fits.moved is in cc);
    object = λ o is. absurd (cc);
    living = λ is. absurd (cc);
    known = fits.known;
  }

  -- a pass with no swap finds one under way
  pub fits_told : (begin : Option LastBegin) → is_idle swap ≡ true → FitsSwap shapes swap turned handed begin
  fits_told begin e = record {
    after = fits.after;
    opens = fits.opens;
    moved = fits.moved;
    object = λ o is. absurd (let none = ap named_by (idle_is swap e) in cc);
    living = λ is. absurd (let not = ap (λ (x : SwapAt). is_in_begun_row x turned) (idle_is swap e) in cc);
    known = let zero = unhanded_zero swap handed fits.moved (ap is_moved (idle_is swap e)) in omega (arith, zero);
  }

  -- or begins its own
  pub fits_begun :
      (o word : ℕ) → is_idle swap ≡ true → IsKnownTag (get_or shapes o []) (layout_in word) → incarnation_in word ≤ LAST_INCARNATION
      → FitsSwap shapes (begun_as o (is_over_in (length (get_or shapes o [])) word)) turned handed (Some (record { object = o; word = word }))
  fits_begun o word e known last_one = record {
    after = λ is. absurd (let not = ap follows_turn (idle_is swap e) in let is_after = fits.after is in cc);
    opens = λ is. absurd (let not = begun_opens o (is_over_in (length (get_or shapes o [])) word) in cc);
    moved = λ is. absurd (let not = ap is_moved (idle_is swap e) in let moved = fits.moved is in cc);
    object = λ p is. same_Some o p (sym (begun_named o (is_over_in (length (get_or shapes o [])) word)) ∙ is);
    living = λ is. begun_lives (get_or shapes o []) o word turned (is_over_in (length (get_or shapes o [])) word) refl known last_one is;
    known = let zero = unhanded_zero swap handed fits.moved (ap is_moved (idle_is swap e)) in omega (arith, zero);
  }
