-- The layouts of all kinds keep the laws of layouts.
use Rattle.std.specs.Prelude.{◌≡◌, ℕ, zero, suc, ◌<◌, ◌≤◌, false, IsTrue, nat_le, List, [], ◌∷◌, refl}
use Rattle.std.proofs.Common.{arith, ap, sym, subst}
use Rattle.k42_shapes.specs.declared.shape.Shape.TheVariants as shapes
use Rattle.k42_shapes.specs.Shapes.{IsKnownTag, IsLiveTag, cells_of, is_dead_tag, shape_at, shared_and_spread}
use Rattle.k42_kinds.specs.declared.operation.KindName.{KindName}
use Rattle.k42_kinds.specs.declared.operation.KindName.TheVariants as kinds
use Rattle.k42_kinds.specs.declared.operation.Op.{Op}
use Rattle.k42_kinds.specs.declared.states.AnyState.{AnyState}
use Rattle.k42_kinds.specs.declared.states.AnyState.TheVariants as states
use Rattle.k42_kinds.specs.declared.entry.Reach.TheVariants.{One, All}
use Rattle.k42_kinds.specs.Objects.{plain_object, counter_object, directory_object, pages_object, is_dead}
use Rattle.k42_kinds.specs.Operations.{takes_operation}
use Rattle.k42_kinds.specs.Histories.{is_call}
use Rattle.k42_kinds.specs.Rows.{IsWithin}
use Rattle.k42_kinds.specs.LayoutLaws.{StepsRow, StandsFor, Begins, Imports, AdmitsAsSwapped, Agree}
use Rattle.co_counter.specs.Counters as counters
use Rattle.co_counter.specs.SharedLaws as one_value
use Rattle.co_counter.specs.SpreadLaws as amount_laws
use Rattle.co_directory.specs.Directories as directories
use Rattle.co_directory.specs.SharedLaws as one_directory
use Rattle.co_directory.specs.SpreadLaws as copy_laws
use Rattle.co_pages.specs.OneMap as one_map
use Rattle.co_pages.specs.SpreadRows as spread_rows
use Rattle.co_pages.specs.SharedLaws as one_map_laws
use Rattle.co_pages.specs.SpreadLaws as place_laws
use Rattle.co_any.specs.declared.part.AnyPart.{AnyPart}
use Rattle.co_any.specs.LiftedLaws.{Follows, lifted_steps, lifted_stands, lifted_begins, lifted_imports}
use Rattle.co_any.specs.Layouts.{amounts, indexed, copies, pages, places, IsDeadRow, dead, IsAlive, ways_of, whole_of, serves_of, admitted_of, act_of}

amounts_follow : Follows amounts (plain_object kinds.Counter) counter_object
amounts_follow = record { start = refl; after = λ state op. refl; reply = λ state op. refl }

indexed_follow : Follows indexed (plain_object kinds.Directory) directory_object
indexed_follow = record { start = refl; after = λ state op. refl; reply = λ state op. refl }

copies_follow : Follows copies (plain_object kinds.Directory) directory_object
copies_follow = record { start = refl; after = λ state op. refl; reply = λ state op. refl }

pages_follow : Follows pages (plain_object kinds.Pages) pages_object
pages_follow = record { start = refl; after = λ state op. refl; reply = λ state op. refl }

places_follow : Follows places (plain_object kinds.Pages) pages_object
places_follow = record { start = refl; after = λ state op. refl; reply = λ state op. refl }

-- a dead object's row stays, and every operation is told that it is gone
dead_steps : (kind : KindName) (procs : ℕ) (row : List AnyPart) (op : Op) → IsDeadRow procs row → StepsRow (plain_object kind) dead (IsDeadRow procs) row op (One 0)
dead_steps kind procs [] op whole = absurd (cc whole)
dead_steps kind procs (part ∷ []) op whole = record { whole = whole; moved = refl; replied = refl }
dead_steps kind procs (part ∷ other ∷ row) op whole = absurd (cc whole)

dead_steps_all : (kind : KindName) (procs : ℕ) (row : List AnyPart) (op : Op) → IsDeadRow procs row → StepsRow (plain_object kind) dead (IsDeadRow procs) row op All
dead_steps_all kind procs row op whole = record { whole = whole; moved = refl; replied = refl }

pub any_steps : (kind : KindName) (tag procs proc : ℕ) (row : List AnyPart) (op : Op) → IsKnownTag shared_and_spread tag → proc < procs → IsTrue (takes_operation kind op) → whole_of kind tag procs row → StepsRow (plain_object kind) (ways_of kind tag) (whole_of kind tag procs) row op ((ways_of kind tag).reach procs op proc)
any_steps kinds.Counter zero procs proc row op known there takes whole = lifted_steps amounts (λ part. refl) (plain_object kinds.Counter) counter_object amounts_follow counters.shared counters.IsOneValue procs row op (One 0) whole (one_value.shared_steps procs _ op whole.whole)
any_steps kinds.Directory zero procs proc row op known there takes whole = lifted_steps indexed (λ part. refl) (plain_object kinds.Directory) directory_object indexed_follow directories.shared directories.IsOneMap procs row op (One 0) whole (one_directory.shared_steps procs _ op whole.whole)
any_steps kinds.Pages zero procs proc row op known there takes whole = lifted_steps pages (λ part. refl) (plain_object kinds.Pages) pages_object pages_follow one_map.shared one_map.IsOneMap procs row op (One 0) whole (one_map_laws.shared_steps procs _ op whole.whole)
any_steps kinds.Counter (suc zero) procs proc row op known there takes whole = lifted_steps amounts (λ part. refl) (plain_object kinds.Counter) counter_object amounts_follow counters.spread counters.HasAmounts procs row op (counters.spread_reach procs op proc) whole (amount_laws.spread_steps procs proc _ op there takes whole.whole)
any_steps kinds.Directory (suc zero) procs proc row op known there takes whole = lifted_steps copies (λ part. refl) (plain_object kinds.Directory) directory_object copies_follow directories.spread directories.AreCopies procs row op (directories.spread_reach procs op proc) whole (copy_laws.spread_steps procs proc _ op there whole.whole)
any_steps kinds.Pages (suc zero) procs proc row op known there takes whole = lifted_steps places (λ part. refl) (plain_object kinds.Pages) pages_object places_follow spread_rows.spread spread_rows.IsSpread procs row op (spread_rows.spread_reach procs op proc) whole (place_laws.spread_steps procs proc _ op there takes whole.whole)
any_steps kind (suc (suc more)) procs proc row op known there takes whole = dead_steps kind procs row op whole

pub any_steps_all : (kind : KindName) (tag procs : ℕ) (row : List AnyPart) (op : Op) → IsKnownTag shared_and_spread tag → 0 < procs → IsTrue (takes_operation kind op) → whole_of kind tag procs row → StepsRow (plain_object kind) (ways_of kind tag) (whole_of kind tag procs) row op All
any_steps_all kinds.Counter zero procs row op known some takes whole = lifted_steps amounts (λ part. refl) (plain_object kinds.Counter) counter_object amounts_follow counters.shared counters.IsOneValue procs row op All whole (one_value.shared_steps_all procs _ op whole.whole)
any_steps_all kinds.Directory zero procs row op known some takes whole = lifted_steps indexed (λ part. refl) (plain_object kinds.Directory) directory_object indexed_follow directories.shared directories.IsOneMap procs row op All whole (one_directory.shared_steps_all procs _ op whole.whole)
any_steps_all kinds.Pages zero procs row op known some takes whole = lifted_steps pages (λ part. refl) (plain_object kinds.Pages) pages_object pages_follow one_map.shared one_map.IsOneMap procs row op All whole (one_map_laws.shared_steps_all procs _ op whole.whole)
any_steps_all kinds.Counter (suc zero) procs row op known some takes whole = lifted_steps amounts (λ part. refl) (plain_object kinds.Counter) counter_object amounts_follow counters.spread counters.HasAmounts procs row op All whole (amount_laws.spread_steps_all procs _ op some takes whole.whole)
any_steps_all kinds.Directory (suc zero) procs row op known some takes whole = lifted_steps copies (λ part. refl) (plain_object kinds.Directory) directory_object copies_follow directories.spread directories.AreCopies procs row op All whole (copy_laws.spread_steps_all procs _ op some whole.whole)
any_steps_all kinds.Pages (suc zero) procs row op known some takes whole = lifted_steps places (λ part. refl) (plain_object kinds.Pages) pages_object places_follow spread_rows.spread spread_rows.IsSpread procs row op All whole (place_laws.spread_steps_all procs _ op some takes whole.whole)
any_steps_all kind (suc (suc more)) procs row op known some takes whole = dead_steps_all kind procs row op whole

pub any_reaches : (kind : KindName) (tag procs proc : ℕ) (op : Op) → IsKnownTag shared_and_spread tag → proc < procs → IsTrue (takes_operation kind op) → IsWithin (cells_of (shape_at shared_and_spread tag) procs) ((ways_of kind tag).reach procs op proc)
any_reaches kinds.Counter zero procs proc op known there takes = omega arith
any_reaches kinds.Directory zero procs proc op known there takes = omega arith
any_reaches kinds.Pages zero procs proc op known there takes = omega arith
any_reaches kinds.Counter (suc zero) procs proc op known there takes = amount_laws.spread_reaches procs proc op there takes
any_reaches kinds.Directory (suc zero) procs proc op known there takes = copy_laws.spread_reaches procs proc op there
any_reaches kinds.Pages (suc zero) procs proc op known there takes = place_laws.spread_reaches procs proc op there takes
any_reaches kind (suc (suc zero)) procs proc op known there takes = omega arith
any_reaches kind (suc (suc (suc more))) procs proc op known there takes = absurd (omega arith)

pub any_stands : (kind : KindName) (tag procs : ℕ) (row : List AnyPart) → IsKnownTag shared_and_spread tag → 0 < procs → whole_of kind tag procs row → StandsFor (ways_of kind tag) (serves_of kind tag) (shape_at shared_and_spread tag) procs row
any_stands kinds.Counter zero procs row known some whole = lifted_stands amounts (λ part. refl) (plain_object kinds.Counter) counter_object amounts_follow counters.shared counters.IsOneValue procs counters.IsValue (IsAlive kinds.Counter) shapes.One row (λ state served. served) (one_value.shared_stands procs _ whole.whole)
any_stands kinds.Directory zero procs row known some whole = lifted_stands indexed (λ part. refl) (plain_object kinds.Directory) directory_object indexed_follow directories.shared directories.IsOneMap procs (λ names. Unit {0}) (IsAlive kinds.Directory) shapes.One row (λ state served. served) (record { sized = whole.whole; served = tt })
any_stands kinds.Pages zero procs row known some whole = lifted_stands pages (λ part. refl) (plain_object kinds.Pages) pages_object pages_follow one_map.shared one_map.IsOneMap procs one_map.IsAny (IsAlive kinds.Pages) shapes.One row (λ state served. served) (one_map_laws.shared_stands procs _ whole.whole)
any_stands kinds.Counter (suc zero) procs row known some whole = lifted_stands amounts (λ part. refl) (plain_object kinds.Counter) counter_object amounts_follow counters.spread counters.HasAmounts procs counters.IsValue (IsAlive kinds.Counter) shapes.Each row (λ state served. served) (amount_laws.spread_stands procs _ whole.whole)
any_stands kinds.Directory (suc zero) procs row known some whole = lifted_stands copies (λ part. refl) (plain_object kinds.Directory) directory_object copies_follow directories.spread directories.AreCopies procs (λ names. Unit {0}) (IsAlive kinds.Directory) shapes.Each row (λ state served. served) (copy_laws.spread_stands procs _ whole.whole)
any_stands kinds.Pages (suc zero) procs row known some whole = lifted_stands places (λ part. refl) (plain_object kinds.Pages) pages_object places_follow spread_rows.spread spread_rows.IsSpread procs one_map.IsAny (IsAlive kinds.Pages) shapes.Each row (λ state served. served) (place_laws.spread_stands procs _ whole.whole)
any_stands kind (suc (suc zero)) procs row known some whole = record { sized = rw whole refl; served = refl }
any_stands kind (suc (suc (suc more))) procs row known some whole = absurd (omega arith)

pub any_begins : (kind : KindName) (tag procs : ℕ) → IsKnownTag shared_and_spread tag → 0 < procs → Begins (plain_object kind) (ways_of kind tag) (whole_of kind tag procs) shared_and_spread tag procs
any_begins kinds.Counter zero procs known some = lifted_begins amounts (λ part. refl) (plain_object kinds.Counter) counter_object amounts_follow counters.shared counters.IsOneValue procs shared_and_spread 0 (record { whole = omega arith; empty = λ live. refl })
any_begins kinds.Directory zero procs known some = lifted_begins indexed (λ part. refl) (plain_object kinds.Directory) directory_object indexed_follow directories.shared directories.IsOneMap procs shared_and_spread 0 (record { whole = refl; empty = λ live. refl })
any_begins kinds.Pages zero procs known some = lifted_begins pages (λ part. refl) (plain_object kinds.Pages) pages_object pages_follow one_map.shared one_map.IsOneMap procs shared_and_spread 0 (record { whole = tt; empty = λ live. refl })
any_begins kinds.Counter (suc zero) procs known some = lifted_begins amounts (λ part. refl) (plain_object kinds.Counter) counter_object amounts_follow counters.spread counters.HasAmounts procs shared_and_spread 1 (amount_laws.spread_begins procs)
any_begins kinds.Directory (suc zero) procs known some = lifted_begins copies (λ part. refl) (plain_object kinds.Directory) directory_object copies_follow directories.spread directories.AreCopies procs shared_and_spread 1 (copy_laws.spread_begins procs some)
any_begins kinds.Pages (suc zero) procs known some = lifted_begins places (λ part. refl) (plain_object kinds.Pages) pages_object places_follow spread_rows.spread spread_rows.IsSpread procs shared_and_spread 1 (place_laws.spread_begins procs)
any_begins kind (suc (suc zero)) procs known some = record { whole = refl; empty = λ live. absurd (omega arith) }
any_begins kind (suc (suc (suc more))) procs known some = absurd (omega arith)

pub any_imports : (kind : KindName) (tag procs : ℕ) (state : AnyState) → IsKnownTag shared_and_spread tag → 0 < procs → serves_of kind tag state → Imports (ways_of kind tag) (whole_of kind tag procs) procs state
any_imports kinds.Counter zero procs (states.Counter value) known some served = lifted_imports amounts (λ part. refl) (plain_object kinds.Counter) counter_object amounts_follow counters.shared counters.IsOneValue procs value refl (record { whole = served; back = refl })
any_imports kinds.Directory zero procs (states.Directory names) known some served = lifted_imports indexed (λ part. refl) (plain_object kinds.Directory) directory_object indexed_follow directories.shared directories.IsOneMap procs names refl (record { whole = refl; back = refl })
any_imports kinds.Pages zero procs (states.Pages kept) known some served = lifted_imports pages (λ part. refl) (plain_object kinds.Pages) pages_object pages_follow one_map.shared one_map.IsOneMap procs kept refl (record { whole = tt; back = refl })
any_imports kinds.Counter (suc zero) procs (states.Counter value) known some served = lifted_imports amounts (λ part. refl) (plain_object kinds.Counter) counter_object amounts_follow counters.spread counters.HasAmounts procs value refl (amount_laws.spread_imports procs value some served)
any_imports kinds.Directory (suc zero) procs (states.Directory names) known some served = lifted_imports copies (λ part. refl) (plain_object kinds.Directory) directory_object copies_follow directories.spread directories.AreCopies procs names refl (copy_laws.spread_imports procs names some)
any_imports kinds.Pages (suc zero) procs (states.Pages kept) known some served = lifted_imports places (λ part. refl) (plain_object kinds.Pages) pages_object places_follow spread_rows.spread spread_rows.IsSpread procs kept refl (place_laws.spread_imports procs kept some)
any_imports kinds.Counter zero procs (states.Directory names) known some served = absurd served
any_imports kinds.Counter zero procs (states.Pages kept) known some served = absurd served
any_imports kinds.Counter zero procs states.Dead known some served = absurd served
any_imports kinds.Directory zero procs (states.Counter value) known some served = absurd served
any_imports kinds.Directory zero procs (states.Pages kept) known some served = absurd served
any_imports kinds.Directory zero procs states.Dead known some served = absurd served
any_imports kinds.Pages zero procs (states.Counter value) known some served = absurd served
any_imports kinds.Pages zero procs (states.Directory names) known some served = absurd served
any_imports kinds.Pages zero procs states.Dead known some served = absurd served
any_imports kinds.Counter (suc zero) procs (states.Directory names) known some served = absurd served
any_imports kinds.Counter (suc zero) procs (states.Pages kept) known some served = absurd served
any_imports kinds.Counter (suc zero) procs states.Dead known some served = absurd served
any_imports kinds.Directory (suc zero) procs (states.Counter value) known some served = absurd served
any_imports kinds.Directory (suc zero) procs (states.Pages kept) known some served = absurd served
any_imports kinds.Directory (suc zero) procs states.Dead known some served = absurd served
any_imports kinds.Pages (suc zero) procs (states.Counter value) known some served = absurd served
any_imports kinds.Pages (suc zero) procs (states.Directory names) known some served = absurd served
any_imports kinds.Pages (suc zero) procs states.Dead known some served = absurd served
any_imports kind (suc (suc more)) procs state known some served = record { whole = refl; back = sym served }

alive_not_dead : (kind : KindName) (state : AnyState) → IsAlive kind state → is_dead state ≡ false
alive_not_dead kind (states.Counter value) alive = refl
alive_not_dead kind (states.Directory names) alive = refl
alive_not_dead kind (states.Pages kept) alive = refl
alive_not_dead kinds.Counter states.Dead alive = absurd alive
alive_not_dead kinds.Directory states.Dead alive = absurd alive
alive_not_dead kinds.Pages states.Dead alive = absurd alive

pub any_ends : (kind : KindName) (tag : ℕ) (state : AnyState) → IsKnownTag shared_and_spread tag → serves_of kind tag state → is_dead state ≡ is_dead_tag shared_and_spread tag
any_ends kind zero state known served = alive_not_dead kind state served
any_ends kind (suc zero) state known served = alive_not_dead kind state served
any_ends kind (suc (suc zero)) state known served = ap is_dead served
any_ends kind (suc (suc (suc more))) state known served = absurd (omega arith)

-- objects with the same first state are of one kind
same_kind : (kind other : KindName) → plain_object kind ≡ plain_object other → kind ≡ other
same_kind kinds.Counter kinds.Counter same = refl
same_kind kinds.Directory kinds.Directory same = refl
same_kind kinds.Pages kinds.Pages same = refl
same_kind kinds.Counter kinds.Directory same = let start = ap (λ object. object.start) same in absurd (cc start)
same_kind kinds.Counter kinds.Pages same = let start = ap (λ object. object.start) same in absurd (cc start)
same_kind kinds.Directory kinds.Counter same = let start = ap (λ object. object.start) same in absurd (cc start)
same_kind kinds.Directory kinds.Pages same = let start = ap (λ object. object.start) same in absurd (cc start)
same_kind kinds.Pages kinds.Counter same = let start = ap (λ object. object.start) same in absurd (cc start)
same_kind kinds.Pages kinds.Directory same = let start = ap (λ object. object.start) same in absurd (cc start)

live_serves : (kind : KindName) (tag : ℕ) (state : AnyState) → IsLiveTag shared_and_spread tag → serves_of kind tag state → IsAlive kind state
live_serves kind zero state live served = served
live_serves kind (suc zero) state live served = served
live_serves kind (suc (suc more)) state live served = absurd (omega arith)

pub any_admits : (kind before : KindName) (tag old : ℕ) (state : AnyState) → IsLiveTag shared_and_spread old → plain_object before ≡ plain_object kind → serves_of before old state → serves_of kind tag (admitted_of tag state)
any_admits kind before zero old state live same served = subst (λ k. IsAlive k state) (same_kind before kind same) (live_serves before old state live served)
any_admits kind before (suc zero) old state live same served = subst (λ k. IsAlive k state) (same_kind before kind same) (live_serves before old state live served)
any_admits kind before (suc (suc more)) old state live same served = refl

pub any_swaps : (kind : KindName) (tag : ℕ) (state : AnyState) → AdmitsAsSwapped (plain_object kind) (act_of tag) state (admitted_of tag state)
any_swaps kind zero state number = refl
any_swaps kind (suc zero) state number = refl
any_swaps kind (suc (suc more)) state number = refl

pub any_asks : (tag : ℕ) → is_call (act_of tag) ≡ false
any_asks zero = refl
any_asks (suc zero) = refl
any_asks (suc (suc more)) = refl

pub any_agrees : (kind other : KindName) (tag its : ℕ) → plain_object kind ≡ plain_object other → tag ≡ its → Agree (ways_of kind tag) (ways_of other its) (whole_of kind tag) (whole_of other its) (serves_of kind tag) (serves_of other its)
any_agrees kind other tag its same tags =
    let kinds_same = same_kind kind other same in
    record {
      ways = (λ i. ways_of (kinds_same i) (tags i));
      whole = λ procs row whole. subst (λ (k : KindName). whole_of k its procs row) kinds_same (subst (λ (t : ℕ). whole_of kind t procs row) tags whole);
      served = λ state served. subst (λ (k : KindName). serves_of k its state) kinds_same (subst (λ (t : ℕ). serves_of kind t state) tags served);
    }

-- no number is missing
pub any_has_all : (tag : ℕ) → IsKnownTag shared_and_spread tag → IsTrue (nat_le tag 2)
any_has_all zero known = refl
any_has_all (suc zero) known = refl
any_has_all (suc (suc zero)) known = refl
any_has_all (suc (suc (suc more))) known = absurd (omega (arith, known))
