-- Layouts that know of no layer: what is asked of them and of their objects.
use Rattle.std.specs.Prelude.{◌≡◌, ◌≢◌, ◌⊎◌, ℕ, Bool, true, false, None}
use Rattle.k42_kinds.specs.declared.entry.Act.{Act}
use Rattle.k42_kinds.specs.declared.entry.Act.TheVariants.{Swap}
use Rattle.k42_kinds.specs.declared.entry.To.{To}
use Rattle.k42_kinds.specs.declared.entry.To.TheVariants.{Layout, Dead}
use Rattle.k42_kinds.specs.OneThread.{OneThread}
use Rattle.k42_kinds.specs.Watched.{Asking}

-- The object does not take what asks for the count: it is left so, and answers as a dead object is told of
-- one.
pub record TakesNoSeen {S O R : Type 0} (asking : Asking O R) (object : OneThread S O R) : Type 0 where
  pub takes : (op : O) → asking.asks op ≡ true → object.takes op ≡ false
  pub after : (op : O) → asking.asks op ≡ true → (state : S) → object.after state op ≡ state
  pub reply : (op : O) → asking.asks op ≡ true → (state : S) → object.reply state op ≡ asking.tells true None

-- every swap but a destroy leaves the state
abbrev pub KeepsState : {S O R : Type 0} → OneThread S O R → Type 0
KeepsState {S} object = (state : S) (to : To) → to ≢ Dead → object.swapped state to ≡ state

-- a live layout is asked for by a number
pub record AsksForNumber {O : Type 0} (dead : Bool) (asked : Act O) : Type 0 where
  pub live : dead ≡ false
  pub number : ℕ
  pub act : asked ≡ Swap (Layout number)

-- and the dead one by a destroy
pub record AsksForEnd {O : Type 0} (dead : Bool) (asked : Act O) : Type 0 where
  pub ended : dead ≡ true
  pub act : asked ≡ Swap Dead

abbrev pub AsksByTag : {O : Type 0} → Bool → Act O → Type 0
AsksByTag dead asked = AsksForNumber dead asked ⊎ AsksForEnd dead asked
