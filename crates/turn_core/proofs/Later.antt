-- What is drawn is later than its caller's clock, which never falls.
use Rattle.std.proofs.Common.{◌≡◌, ℕ, ◌<◌, ◌≤◌, Bool, true, false, cond, List, [], ◌∷◌, ◌++◌, length, get_or, refl, sym, ap, subst, arith}
use Rattle.std.specs.Prelude.{Option, Some, None}
use Rattle.std.proofs.lemmas.Option.{same_Some}
use Rattle.std.proofs.lemmas.List.{get_or-set_same}
use Rattle.k42_places.proofs.Written.{get_or-set_related}
use Rattle.k42_kinds.specs.declared.entry.Entry.{Entry}
use Rattle.turn_core.specs.declared.event.TurnEvent.{TurnEvent}
use Rattle.turn_core.specs.declared.event.TurnEvent.TheVariants.{Lock, Take, Draw, Alone, Hand, Put, Unlock, Skip}
use Rattle.turn_core.specs.Plain.{Cell, Caller, Turns}
use Rattle.turn_core.specs.State.{cell_at, caller_at, clock_of, fresh_caller, change_cell, change_caller, change_cells}
use Rattle.turn_core.specs.Events.{caller_of, drawn_in, is_possible, effect, locked, is_next, cell_told, cell_begun, cell_closed, cell_locked, cell_unlocked, caller_locked, caller_unlocked, caller_drawn, caller_skipped}
use Rattle.turn_core.specs.Runs.{happens, run}
use Rattle.turn_core.proofs.Changed.{callers-change_cells}
use Rattle.turn_core.proofs.Drawing.{next_parts, above_clock}

later_next : {O R : Type 0} (s : Turns O R) (c : ℕ) (cells : List ℕ) (entry : Entry O R) → is_next s c cells entry ≡ true → clock_of s c < entry.stamp
later_next s c cells entry next = above_clock s c cells entry (next_parts s c cells entry next)

pub later_drawn : {O R : Type 0} (s : Turns O R) (event : TurnEvent O R) (entry : Entry O R) → is_possible s event ≡ true → drawn_in event ≡ Some entry → clock_of s (caller_of event) < entry.stamp
later_drawn {O} {R} s (Draw c cells drawn) entry possible is = subst (λ (e : Entry O R). clock_of s c < e.stamp) (same_Some drawn entry is) (later_next s c cells drawn (grind (arith, possible)))
later_drawn {O} {R} s (Alone c drawn) entry possible is = subst (λ (e : Entry O R). clock_of s c < e.stamp) (same_Some drawn entry is) (later_next s c [] drawn possible)
later_drawn {O} {R} s (Hand c from onto drawn) entry possible is = subst (λ (e : Entry O R). clock_of s c < e.stamp) (same_Some drawn entry is) (later_next s c (from ++ onto) drawn (grind (arith, possible)))
later_drawn s (Lock c n) entry possible is = cc
later_drawn s (Take c n) entry possible is = cc
later_drawn s (Put c n) entry possible is = cc
later_drawn s (Unlock c n) entry possible is = cc
later_drawn s (Skip c stamp) entry possible is = cc

-- no clock falls as one caller changes whose clock does not
clock-change : {O R : Type 0} (changed : Caller O R → Caller O R) (s : Turns O R) (c d : ℕ) → clock_of s c ≤ (changed (caller_at s c)).clock → clock_of s d ≤ clock_of (change_caller changed s c) d
clock-change {O} {R} changed s c d up = get_or-set_related (λ (x y : Caller O R). x.clock ≤ y.clock) (λ x. omega arith) s.callers c d (changed (caller_at s c)) fresh_caller up

clock-cells : {O R : Type 0} (changed : Cell O R → Cell O R) (s : Turns O R) (cells : List ℕ) (d : ℕ) → clock_of (change_cells changed s cells) d ≡ clock_of s d
clock-cells changed s cells d = ap (λ callers. (get_or callers d fresh_caller).clock) (callers-change_cells changed s cells)

pub clock-effect : {O R : Type 0} (s : Turns O R) (event : TurnEvent O R) (d : ℕ) → is_possible s event ≡ true → clock_of s d ≤ clock_of (effect s event) d
clock-effect s (Lock c n) d possible = go (cell_at s n).lock where
  go : (lock : Option ℕ) → clock_of s d ≤ clock_of (locked s c n lock) d
  go None = clock-change (caller_locked n) (change_cell (cell_locked c) s n) c d (omega arith)
  go (Some holder) = omega arith
clock-effect s (Take c n) d possible = omega arith
clock-effect s (Draw c cells entry) d possible =
    let up = later_next s c cells entry (grind (arith, possible)) in
    let mine = change_caller (caller_drawn entry) s c in
    rw (clock-cells (cell_told entry) mine cells d) (clock-change (caller_drawn entry) s c d (omega (arith, up)))
clock-effect s (Alone c entry) d possible = clock-change (caller_drawn entry) s c d (omega (arith, later_next s c [] entry possible))
clock-effect s (Hand c from onto entry) d possible =
    let up = later_next s c (from ++ onto) entry (grind (arith, possible)) in
    let mine = change_caller (caller_drawn entry) s c in
    rw (clock-cells cell_closed (change_cells (cell_begun entry) mine onto) from d, clock-cells (cell_begun entry) mine onto d) (clock-change (caller_drawn entry) s c d (omega (arith, up)))
clock-effect s (Put c n) d possible = omega arith
clock-effect s (Unlock c n) d possible = clock-change (caller_unlocked n) (change_cell cell_unlocked s n) c d (omega arith)
clock-effect s (Skip c stamp) d possible = clock-change (caller_skipped stamp) s c d (omega arith)

clock-happens : {O R : Type 0} (s : Turns O R) (event : TurnEvent O R) (d : ℕ) → clock_of s d ≤ clock_of (happens s event) d
clock-happens s event d = go (is_possible s event) refl where
  go : (possible : Bool) → is_possible s event ≡ possible → clock_of s d ≤ clock_of (cond possible (effect s event) s) d
  go true e = clock-effect s event d e
  go false e = omega arith

pub clock-run : {O R : Type 0} (events : List (TurnEvent O R)) (s : Turns O R) (d : ℕ) → clock_of s d ≤ clock_of (run events s) d
clock-run [] s d = omega arith
clock-run (event ∷ events) s d = omega (arith, clock-happens s event d, clock-run events (happens s event) d)

-- a skip raises the clock to its stamp
pub clock-skipped : {O R : Type 0} (s : Turns O R) (c stamp : ℕ) → c < length s.callers → stamp ≤ clock_of (effect s (Skip c stamp)) c
clock-skipped {O} {R} s c stamp there =
    let clock = ap (λ (x : Caller O R). x.clock) (get_or-set_same s.callers c (caller_skipped stamp (caller_at s c)) fresh_caller there) in
    omega (arith, clock)

pub later_skipped : {O R : Type 0} (s : Turns O R) (c stamp : ℕ) (events : List (TurnEvent O R)) (event : TurnEvent O R) (entry : Entry O R) → c < length s.callers
    → is_possible s (Skip c stamp) ≡ true → is_possible (run events (happens s (Skip c stamp))) event ≡ true → caller_of event ≡ c → drawn_in event ≡ Some entry → stamp < entry.stamp
later_skipped s c stamp events event entry there skipped possible own is =
    let raised = effect s (Skip c stamp) in
    let same : happens s (Skip c stamp) ≡ raised = ap (λ possible. cond possible raised s) skipped in
    let last = run events (happens s (Skip c stamp)) in
    let above : clock_of last c < entry.stamp = subst (λ d. clock_of last d < entry.stamp) own (later_drawn last event entry possible is) in
    let reached : stamp ≤ clock_of (happens s (Skip c stamp)) c = subst (λ t. stamp ≤ clock_of t c) (sym same) (clock-skipped s c stamp there) in
    omega (arith, reached, clock-run events (happens s (Skip c stamp)) c, above)
