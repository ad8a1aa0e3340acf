-- Draws and hands at a counter that is kept in a part for each of two processors, and some that are refused.
use Rattle.std.proofs.Common.{◌≡◌, ℕ, zero, suc, ◌-◌, ◌%◌, ◌^◌, ◌<◌, true, List, [], ◌∷◌, length, replicate, sum, Some, None, refl, inl, inr, arith}
use Rattle.std.specs.List.{AllByRecursion}
use Rattle.k42_kinds.specs.declared.operation.Op.{Op}
use Rattle.k42_kinds.specs.declared.operation.Op.TheVariants.{Add, Get, Drain}
use Rattle.k42_kinds.specs.declared.operation.Reply.{Reply}
use Rattle.k42_kinds.specs.declared.operation.Reply.TheVariants.{Done, Number}
use Rattle.k42_shapes.specs.Shapes.{shared_and_spread}
use Rattle.k42_kinds.specs.declared.entry.Act.TheVariants.{Call, Swap}
use Rattle.k42_kinds.specs.declared.entry.To.TheVariants.{Layout}
use Rattle.k42_kinds.specs.declared.entry.Answer.TheVariants.{Replied, Swapped}
use Rattle.k42_kinds.specs.declared.entry.Entry.{Entry}
use Rattle.k42_kinds.specs.declared.entry.Reach.{Reach}
use Rattle.k42_kinds.specs.declared.entry.Reach.TheVariants.{One, All}
use Rattle.k42_kinds.specs.Objects.{counter_object, counter_after, counter_reply}
use Rattle.k42_stamp.specs.Layouts.{Layouts}
use Rattle.k42_stamp.specs.Parts.{reach_of, touches}
use Rattle.k42_stamp.specs.Chains.{Chain}
use Rattle.k42_stamp.specs.Fits.{left_at, Fits}
use Rattle.k42_stamp.specs.Draws.{IsLater, IsNext, drawn_at, chain_with}
use Rattle.k42_stamp.specs.Hands.{IsHand, handed}

abbrev reach_here : ℕ → Op → ℕ → Reach
reach_here procs (Add amount) proc = One proc
reach_here procs _ proc = All

abbrev parts_after : List ℕ → Op → List ℕ
parts_after parts Drain = replicate (length parts) 0
parts_after parts _ = parts

-- callers 0 and 2 are on the first processor, caller 1 is on the second
abbrev two : Layouts ℕ (Unit {0}) ℕ Op Reply
two = record {
  object_of = λ _. counter_object;
  shapes_of = λ _. shared_and_spread;
  tag_of = λ _. 1;
  ways_of = λ _. record {
    reach = reach_here;
    empty = λ procs cell. 0;
    part_after = counter_after;
    part_reply = counter_reply;
    row_after = parts_after;
    row_reply = λ parts op. counter_reply (sum parts % 2 ^ 64) op;
    combine = λ parts. sum parts % 2 ^ 64;
    imported = λ procs value. value ∷ replicate (procs - 1) 0;
  };
  Whole = λ _ procs parts. length parts ≡ procs;
  Serves = λ _ value. value < 2 ^ 64;
  admitted = λ _ value. value;
  act_of = λ _. Swap (Layout 1);
  procs = 2;
  proc_of = λ caller. caller % 2;
}

abbrev call : ℕ → ℕ → ℕ → Op → Reply → Entry Op Reply
call stamp caller cell op reply = record { stamp = stamp; caller = caller; index = 0; object = 0; incarnation = 0; cell = cell; act = Call op; answer = Replied reply; proc = caller % 2; generation = Some 0 }

abbrev five : Entry Op Reply
five = call 1 0 0 (Add 5) Done

abbrev seven : Entry Op Reply
seven = call 2 0 0 (Add 7) Done

-- drawn after these two, and between them in the order
abbrev three : Entry Op Reply
three = call 1 1 1 (Add 3) Done

abbrev chain : Chain (Unit {0}) ℕ Op Reply
chain = record { past = []; row = record { layout = tt; start = 0 ∷ 0 ∷ []; entries = five ∷ seven ∷ [] } }

abbrev histories : ℕ → ℕ → List (Entry Op Reply)
histories row zero = five ∷ seven ∷ []
histories row (suc cell) = []

left : (cell : ℕ) → cell < 2 → histories 0 cell ≡ left_at two [] chain.row cell
left zero lt = refl
left (suc zero) lt = refl
left (suc (suc cell)) lt = absurd (omega arith)

fits : Fits two tt 0 histories chain
fits = record {
  declared_live = omega arith;
  past = tt;
  row = record {
    kind = refl;
    known = omega arith;
    begun = refl;
    started = refl;
    own = (record { object = refl; incarnation = refl; served = refl }, (record { object = refl; incarnation = refl; served = refl }, tt));
    ordered = ((inl (omega arith), tt), (tt, tt));
    above = (tt, (tt, tt));
    replied = (refl, (refl, tt));
  };
  past_left = tt;
  left = left;
}

later : (cell : ℕ) → cell < 2 → touches (reach_of two tt three) cell ≡ true → AllByRecursion (IsLater three) (histories 0 cell)
later zero lt there = absurd (cc)
later (suc cell) lt there = tt

next : IsNext two 0 histories chain three
next = record {
  own = record { object = refl; incarnation = refl; served = refl };
  later = later;
  after_own = ((λ same. absurd (omega arith)), ((λ same. absurd (omega arith)), tt));
  replied = refl;
}

-- the entry stands in the middle of what was drawn before
left_between : (cell : ℕ) → cell < 2 → drawn_at two tt three 0 histories 0 cell ≡ left_at two [] (chain_with chain (five ∷ three ∷ seven ∷ [])).row cell
left_between zero lt = refl
left_between (suc zero) lt = refl
left_between (suc (suc cell)) lt = absurd (omega arith)

between : Fits two tt 0 (drawn_at two tt three 0 histories) (chain_with chain (five ∷ three ∷ seven ∷ []))
between = record {
  declared_live = omega arith;
  past = tt;
  row = record {
    kind = refl;
    known = omega arith;
    begun = refl;
    started = refl;
    own = (fits.row.own.0, (next.own, fits.row.own.1));
    ordered = ((inr (refl, inr (refl, inl (omega arith))), (inl (omega arith), tt)), ((inl (omega arith), tt), (tt, tt)));
    above = (tt, (tt, (tt, tt)));
    replied = (refl, (refl, (refl, tt)));
  };
  past_left = tt;
  left = left_between;
}

-- a wrong reply is refused
wrong_reply : IsNext two 0 histories chain (call 1 1 1 (Add 3) (Number 3)) → ⊥
wrong_reply next = cc next.replied

-- and so is a caller of the first processor with a stamp that the first cell has already
same_stamp : IsNext two 0 histories chain (call 2 2 0 (Add 1) Done) → ⊥
same_stamp next = let above : 2 < 2 = (next.later 0 (omega arith) refl).1.0 in omega arith

-- a row that was read, of which only the first cell tells so
abbrev read : Entry Op Reply
read = call 3 0 0 Get (Number 12)

abbrev told_once : ℕ → ℕ → List (Entry Op Reply)
told_once row zero = five ∷ seven ∷ read ∷ []
told_once row (suc cell) = []

read_once : Fits two tt 0 told_once (chain_with chain (five ∷ seven ∷ read ∷ [])) → ⊥
read_once fits = cc (fits.left 1 (omega arith))

-- the row is handed on with what it holds
abbrev swap : Entry Op Reply
swap = record { stamp = 3; caller = 1; index = 0; object = 0; incarnation = 0; cell = 8; act = Swap (Layout 1); answer = Swapped 1; proc = 1; generation = None }

after_all : (cell : ℕ) → cell < 2 → AllByRecursion (IsLater swap) (histories 0 cell)
after_all zero lt = (omega arith, (omega arith, tt))
after_all (suc cell) lt = tt

hand : IsHand two tt 0 histories chain tt swap
hand = record {
  kind = refl;
  known = omega arith;
  told = record { object = refl; act = refl; incarnation = refl; answer = refl };
  later = after_all;
  live = omega arith;
  unspent = omega arith;
}

handed_start : (handed two chain tt swap).row.start ≡ 12 ∷ 0 ∷ []
handed_start = refl

-- but by no entry that tells of another number
wrong_number : IsHand two tt 0 histories chain tt (record swap { answer = Swapped 2 }) → ⊥
wrong_number hand = cc hand.told.answer
