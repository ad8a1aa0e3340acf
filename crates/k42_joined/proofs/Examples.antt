-- Computed events of the joined machine, possible ones and others that are not.
use Rattle.std.proofs.Common.{◌≡◌, ℕ, zero, suc, ◌<◌, true, false, List, [], ◌∷◌, Some, None, refl, sym, subst, inl, arith}
use Rattle.std.proofs.lemmas.Option.{same_Some}
use Rattle.gen_core.specs.declared.event.GenEvent.TheVariants.{Enter, LookAhead, Flip, Look, GiveRole}
use Rattle.k42_kinds.specs.Rows.{row_replied}
use Rattle.k42_kinds.specs.declared.operation.Op.{Op}
use Rattle.k42_kinds.specs.declared.operation.Op.TheVariants.{Add, Get}
use Rattle.k42_kinds.specs.declared.operation.Reply.{Reply}
use Rattle.k42_kinds.specs.declared.operation.Reply.TheVariants.{Done, Number}
use Rattle.k42_kinds.specs.declared.entry.Act.TheVariants.{Call, Swap}
use Rattle.k42_kinds.specs.declared.entry.To.TheVariants.{Layout}
use Rattle.k42_kinds.specs.declared.entry.Answer.TheVariants.{Replied, Swapped, Busy}
use Rattle.k42_kinds.specs.declared.entry.Entry.{Entry}
use Rattle.phase_core.specs.Event.{Turn, TakeRoleWith, LookUp, Install, Knock, Begin, Interpose, Block, Move, Unblock}
use Rattle.phase_core.specs.State.{visitor_at}
use Rattle.phase_core.specs.declared.caller.Place.TheVariants.{Tracked, Blocked}
use Rattle.phase_core.specs.declared.caller.SwapAt.TheVariants.{Blocking, Moved}
use Rattle.turn_core.specs.declared.event.TurnEvent.TheVariants.{Lock, Take, Draw, Alone}
use Rattle.k42_stamp.specs.Chains.{Chain, parts_of}
use Rattle.k42_stamp.specs.Fits.{left_at}
use Rattle.k42_stamp.specs.Parts.{reach_of}
use Rattle.k42_joined.specs.Plain.{Joined}
use Rattle.k42_joined.specs.Event.{Event, AtPhases, AtCells, HandWith}
use Rattle.k42_joined.specs.Effects.{effect}
use Rattle.k42_joined.specs.Fresh.{fresh}
use Rattle.k42_joined.specs.Possible.{IsPossible}
use Rattle.k42_joined.specs.Rows.{history_in, cells_reached, AreRowsOf}
use Rattle.k42_joined.specs.State.{mine}
use Rattle.k42_joined.proofs.OneChain.{rows_are_one}
use Rattle.k42_joined.proofs.Toy.{Toy, one_part, spread, reach, F, laws}

-- one counter with a part for each of two processors, and a caller on each
abbrev declared : List Toy
declared = spread ∷ []

abbrev begin : Joined Toy Op Reply
begin = fresh F declared (0 ∷ 1 ∷ [])

abbrev run : List (Event Toy Op Reply) → Joined Toy Op Reply → Joined Toy Op Reply
run [] s = s
run (event ∷ events) s = run events (effect s event)

abbrev call : ℕ → ℕ → ℕ → Op → Reply → Entry Op Reply
call stamp caller index op reply = record {
  stamp = stamp;
  caller = caller;
  index = index;
  object = 0;
  incarnation = 0;
  cell = caller;
  act = Call op;
  answer = Replied reply;
  proc = caller;
  generation = Some 0;
}

abbrev five : Entry Op Reply
five = call 1 0 0 (Add 5) Done

abbrev seven : Entry Op Reply
seven = call 2 0 1 (Add 7) Done

-- both callers are inside, caller 0 has drawn twice at its cell, and caller 1 has taken its own
abbrev inside : Joined Toy Op Reply
inside = run (
    AtPhases (Turn (Enter 0)) ∷ AtPhases (LookUp 0 0) ∷ AtPhases (Install 0 0)
    ∷ AtPhases (Turn (Enter 1)) ∷ AtPhases (LookUp 1 0) ∷ AtPhases (Install 1 0)
    ∷ AtCells (Lock 0 0) ∷ AtCells (Take 0 0) ∷ AtCells (Draw 0 (0 ∷ []) five) ∷ AtCells (Draw 0 (0 ∷ []) seven)
    ∷ AtCells (Lock 1 1) ∷ AtCells (Take 1 1) ∷ []
    ) begin

abbrev chain : Chain Toy ℕ Op Reply
chain = record { past = []; row = record { layout = spread; start = 0 ∷ 0 ∷ []; entries = five ∷ seven ∷ [] } }

left : (cell : ℕ) → cell < 2 → history_in inside 0 0 cell ≡ left_at F [] chain.row cell
left zero lt = refl
left (suc zero) lt = refl
left (suc (suc cell)) lt = absurd (omega arith)

rows : AreRowsOf F spread inside 0 chain
rows = record {
  fits = record {
    declared_live = omega arith;
    past = tt;
    row = record {
      kind = refl;
      known = omega arith;
      begun = refl;
      started = refl;
      own = (record { object = refl; incarnation = refl; served = refl }, (record { object = refl; incarnation = refl; served = refl }, tt));
      ordered = ((inl (omega arith), tt), (tt, tt));
      above = (tt, (tt, tt));
      replied = (refl, (refl, tt));
    };
    past_left = tt;
    left = left;
  };
  layouts = refl;
}

-- a call below a stamp of another cell: it comes between the two in the order
abbrev three : Entry Op Reply
three = call 1 1 0 (Add 3) Done

three_may : IsPossible F declared inside (AtCells (Draw 1 (1 ∷ []) three))
three_may = record {
  caller = omega arith;
  may = record {
    core = refl;
    beside = record {
      bears = record { proc = refl; cell = refl };
      act = record {
        inside = refl;
        generation = refl;
        declaration = spread;
        declares = refl;
        takes = refl;
        reached = refl;
        reply = Done;
        answer = refl;
        replied = λ x is.
            subst (λ (y : Chain Toy ℕ Op Reply). row_replied (F.ways_of y.row.layout) (parts_of F y.row) (Add 3) (reach_of F y.row.layout three) ≡ Some Done)
            (rows_are_one F laws spread inside 0 chain x rows is) refl;
      };
    };
  };
}

-- not with a wrong reply
wrong_reply : IsPossible F declared inside (AtCells (Draw 1 (1 ∷ []) (call 1 1 0 (Add 3) (Number 3)))) → ⊥
wrong_reply possible =
    let is = possible.may.beside.act in
    let own : spread ≡ is.declaration = same_Some spread is.declaration is.declares in
    let computed : Some Done ≡ Some is.reply = is.replied chain (subst (λ d. AreRowsOf F d inside 0 chain) own rows) in
    let told : Replied (Number 3) ≡ Replied is.reply = is.answer in
    cc

-- not of another row than that in which the caller is
other_row : IsPossible F declared inside (AtCells (Draw 1 (1 ∷ []) (record three { incarnation = 1 }))) → ⊥
other_row possible = let inside_is : false ≡ true = possible.may.beside.act.inside in cc

-- not at one cell where all are due
one_of_all : IsPossible F declared inside (AtCells (Draw 1 (1 ∷ []) (call 1 1 0 Get (Number 12)))) → ⊥
one_of_all possible =
    let is = possible.may.beside.act in
    let own : spread ≡ is.declaration = same_Some spread is.declaration is.declares in
    let due : List ℕ = 0 ∷ 1 ∷ [] in
    let cells : 1 ∷ [] ≡ due = subst (λ d. 1 ∷ [] ≡ cells_reached 2 0 0 (reach d 2 Get 1)) (sym own) is.reached in
    cc

-- not with a stamp that does not pass what the cell and the caller had
low_stamp : IsPossible F declared inside (AtCells (Draw 1 (1 ∷ []) (call 0 1 0 (Add 3) Done))) → ⊥
low_stamp possible = let core : false ≡ true = possible.may.core in cc

-- a swap up to its hand, while caller 1 waits at the mediator
abbrev waiting : Joined Toy Op Reply
waiting = run (
    AtPhases (Begin 0 0) ∷ AtPhases (Interpose 0) ∷ AtPhases (Interpose 0) ∷ AtPhases (TakeRoleWith 0 ((0, 0) ∷ []))
    ∷ AtPhases (Turn (LookAhead 0)) ∷ AtPhases (Turn (Flip 0)) ∷ AtPhases (Turn (LookAhead 0)) ∷ AtPhases (Turn (Flip 0))
    ∷ AtPhases (Turn (Look 0)) ∷ AtPhases (Turn (Look 0)) ∷ AtPhases (Turn (GiveRole 0)) ∷ AtPhases (Block 0) ∷ AtPhases (Move 0)
    ∷ AtPhases (Turn (Enter 1)) ∷ AtPhases (LookUp 1 0) ∷ AtPhases (Knock 1 0)
    ∷ AtCells (Lock 0 0) ∷ AtCells (Take 0 0) ∷ AtCells (Lock 0 1) ∷ AtCells (Take 0 1)
    ∷ AtCells (Lock 0 8) ∷ AtCells (Take 0 8) ∷ AtCells (Lock 0 9) ∷ AtCells (Take 0 9) ∷ []
    ) begin

waits : (visitor_at waiting.phases 1).place ≡ Blocked 0
waits = refl

abbrev swap : Entry Op Reply
swap = record {
  stamp = 1;
  caller = 0;
  index = 0;
  object = 0;
  incarnation = 0;
  cell = 8;
  act = Swap (Layout 0);
  answer = Swapped 1;
  proc = 0;
  generation = None;
}

abbrev hand : Event Toy Op Reply
hand = HandWith 0 (0 ∷ 1 ∷ []) (8 ∷ 9 ∷ []) one_part swap

hand_may : IsPossible F declared waiting hand
hand_may = record {
  caller = omega arith;
  may = record {
    core = refl;
    beside = record {
      moved = refl;
      once = refl;
      freed = inl refl;
      closes = refl;
      begins = refl;
      declaration = spread;
      declares = refl;
      kind = refl;
      known = omega arith;
      present = refl;
      act = refl;
      answer = refl;
      bears = record { proc = refl; cell = refl };
      generation = refl;
    };
  };
}

-- the cells of the next row have its entry, and those of the old one are closed
handed_next : history_in (effect waiting hand) 0 1 1 ≡ swap ∷ []
handed_next = refl

-- what was handed on is neither given up nor handed on again
no_unblock : IsPossible F declared (effect waiting hand) (AtPhases (Unblock 0)) → ⊥
no_unblock possible = let may : false ≡ true = possible.may.beside in cc

no_second : IsPossible F declared (effect waiting hand) hand → ⊥
no_second possible = let first : true ≡ false = possible.may.beside.once in cc

-- a hand begins a life of other cells than those that it closes
no_same_cells : IsPossible F declared waiting (HandWith 0 (0 ∷ 1 ∷ []) (0 ∷ 1 ∷ []) one_part swap) → ⊥
no_same_cells possible = let core : false ≡ true = possible.may.core in cc

-- a caller that knocked before the block is inside, so the object is not moved, and there is no hand
abbrev tracked : Joined Toy Op Reply
tracked = run (
    AtPhases (Begin 0 0) ∷ AtPhases (Interpose 0) ∷ AtPhases (Interpose 0) ∷ AtPhases (TakeRoleWith 0 ((0, 0) ∷ []))
    ∷ AtPhases (Turn (LookAhead 0)) ∷ AtPhases (Turn (Flip 0)) ∷ AtPhases (Turn (LookAhead 0)) ∷ AtPhases (Turn (Flip 0))
    ∷ AtPhases (Turn (Look 0)) ∷ AtPhases (Turn (Look 0)) ∷ AtPhases (Turn (GiveRole 0))
    ∷ AtPhases (Turn (Enter 1)) ∷ AtPhases (LookUp 1 0) ∷ AtPhases (Knock 1 0) ∷ AtPhases (Block 0) ∷ AtPhases (Move 0) ∷ []
    ) begin

is_tracked : (visitor_at tracked.phases 1).place ≡ Tracked 0 0
is_tracked = refl

no_hand_inside : IsPossible F declared tracked hand → ⊥
no_hand_inside possible = let moved : Blocking 0 ≡ Moved 0 = possible.may.beside.moved in cc

-- a refusal that rests on an entry which its rival has not drawn yet
abbrev refused : Joined Toy Op Reply
refused = run (AtPhases (Begin 0 0) ∷ AtPhases (Begin 1 0) ∷ []) begin

abbrev busy : ℕ → Entry Op Reply
busy number = record {
  stamp = 1;
  caller = 1;
  index = 0;
  object = 0;
  incarnation = 0;
  cell = 0;
  act = Swap (Layout 0);
  answer = Busy number;
  proc = 1;
  generation = None;
}

rival_silent : mine refused 0 ≡ []
rival_silent = refl

busy_may : IsPossible F declared refused (AtCells (Alone 1 (busy 1)))
busy_may = record {
  caller = omega arith;
  may = record {
    core = refl;
    beside = record {
      bears = record { proc = refl; cell = refl };
      begun = refl;
      act = refl;
      answer = record { found = refl; before = refl };
      generation = refl;
    };
  };
}

-- and none without a rival, nor of another number
none_begun : {o : ℕ} → None ≡ Some o → ⊥
none_begun is = cc

no_rival : IsPossible F declared begin (AtCells (Alone 1 (busy 1))) → ⊥
no_rival possible = none_begun possible.may.beside.begun

other_number : IsPossible F declared refused (AtCells (Alone 1 (busy 2))) → ⊥
other_number possible = let before : 1 ≡ 2 = possible.may.beside.answer.before in omega (arith, before)
