-- The test whether an object was destroyed, and the state that says so.
use Rattle.std.proofs.Common.{◌≡◌, ◌≢◌, true, false, IsTrue, Some, refl}
use Rattle.k42_kinds.specs.declared.operation.KindName.{KindName}
use Rattle.k42_kinds.specs.declared.operation.KindName.TheVariants as kinds
use Rattle.k42_kinds.specs.declared.operation.Op.{Op}
use Rattle.k42_kinds.specs.declared.states.AnyState.{AnyState}
use Rattle.k42_kinds.specs.declared.states.AnyState.TheVariants as states
use Rattle.k42_kinds.specs.Objects.{is_dead}
use Rattle.k42_kinds.specs.Operations.{kind_of_op, same_kind, takes_operation}

pub alive_state : (state : AnyState) → state ≢ states.Dead → is_dead state ≡ false
alive_state (states.Counter value) alive = refl
alive_state (states.Directory names) alive = refl
alive_state (states.Pages pages) alive = refl
alive_state states.Dead alive = absurd (alive refl)

pub not_dead : (state : AnyState) → is_dead state ≡ false → state ≢ states.Dead
not_dead (states.Counter value) alive = λ dead. cc
not_dead (states.Directory names) alive = λ dead. cc
not_dead (states.Pages pages) alive = λ dead. cc
not_dead states.Dead alive = cc alive

pub dead_state : (state : AnyState) → is_dead state ≡ true → state ≡ states.Dead
dead_state (states.Counter value) dead = cc dead
dead_state (states.Directory names) dead = cc dead
dead_state (states.Pages pages) dead = cc dead
dead_state states.Dead dead = refl

same_kind-itself : (kind : KindName) → same_kind kind kind ≡ true
same_kind-itself kinds.Counter = refl
same_kind-itself kinds.Directory = refl
same_kind-itself kinds.Pages = refl

-- an operation of the object's kind is one that it takes
pub takes_own : (kind : KindName) (op : Op) → kind_of_op op ≡ Some kind → IsTrue (takes_operation kind op)
takes_own kind op own = rw (own, same_kind-itself kind) refl
