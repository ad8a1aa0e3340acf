-- Handles that are empty, and a start that has ended.
use Rattle.std.proofs.Common.{◌≡◌, ℕ, Option, Some, None, List, [], ◌∷◌, length, map, Bool, true, false, refl, sym, ap, arith}
use Rattle.std.specs.List.{list_any}
use Rattle.std.specs.Prelude.{◌||◌, if◌then◌else◌, Result, Ok, Err, OnOk}
use Rattle.k42_handles.specs.Handles.{is_full, seat_of}
use Rattle.k42_board.specs.declared.keep.Keep.{Keep}
use Rattle.co_system.specs.Systems.{PlanSeen, SystemLayout, plan_fault}
use Rattle.k42_runtime.specs.declared.plan.PlanFault.{PlanFault}
use Rattle.k42_handles.specs.Codes.{keep_named}
use Rattle.k42_handles.specs.Starting.{AreGone, objects_coded, plan_by, plan_coded, plan_or}
use Rattle.k42_handles.specs.declared.plain.K42Object.{K42Object}
use Rattle.k42_handles.specs.declared.held.K42Pass.{K42Pass}
use Rattle.k42_handles.specs.declared.seat.Seat.{Seat}
use Rattle.k42_handles.specs.declared.seat.Seat.TheVariants.{Gone}

pub on_ok : {A E P Q : Type 0} (told : Result A E) → (P → Q) → OnOk told P → OnOk told Q
on_ok (Ok done) makes is = makes is
on_ok (Err why) makes is = is

chosen : (full : Bool) (seat : Seat) → full ≡ false → (if full then seat else Gone) ≡ Gone
chosen false seat is = refl
chosen true seat is = absurd (cc)

both_false : (one other : Bool) → (one || other) ≡ false → (one ≡ false) × (other ≡ false)
both_false false other is = (refl, is)
both_false true other is = absurd (cc)

pub none_full : (handles : List K42Pass) → list_any is_full handles ≡ false → AreGone handles
none_full [] none = tt
none_full (handle ∷ handles) none =
    let both = both_false (is_full handle) (list_any is_full handles) none in
    (chosen (is_full handle) handle.inner.seat both.0, none_full handles both.1)

pub gone_same : (xs ys : List K42Pass) → AreGone xs → AreGone ys → length xs ≡ length ys → map seat_of xs ≡ map seat_of ys
gone_same [] [] one other many = refl
gone_same [] (y ∷ ys) one other many = absurd (omega (arith, many))
gone_same (x ∷ xs) [] one other many = absurd (omega (arith, many))
gone_same (x ∷ xs) (y ∷ ys) one other many =
    let more : length xs ≡ length ys = omega (arith, many) in
    let rest = gone_same xs ys one.1 other.1 more in
    cc

-- a plan that is spelled has a caller for each home
callers_or : (fault : Option PlanFault) (made plan : PlanSeen) → plan_or fault made ≡ Ok plan → plan.callers ≡ made.callers
callers_or (Some fault) made plan is = absurd (cc)
callers_or None made plan is = let same : made ≡ plan = cc in sym (ap (λ (p : PlanSeen). p.callers) same)

callers_by : (procs : ℕ) (objects : Option (List SystemLayout)) (homes : List ℕ) (keep : Option Keep) (plan : PlanSeen) → plan_by procs objects homes keep ≡ Ok plan
    → plan.callers ≡ homes
callers_by procs (Some objects) homes (Some keep) plan is =
    callers_or (plan_fault procs objects homes) (record { procs = procs; objects = objects; callers = homes; keep = keep }) plan is
callers_by procs (Some objects) homes None plan is = absurd (cc)
callers_by procs None homes keep plan is = absurd (cc)

pub plan_callers : (procs : ℕ) (objects : List K42Object) (homes : List ℕ) (keep : ℕ) (plan : PlanSeen) → plan_coded procs objects homes keep ≡ Ok plan
    → plan.callers ≡ homes
plan_callers procs objects homes keep plan is = callers_by procs (objects_coded [] objects) homes (keep_named keep) plan is
