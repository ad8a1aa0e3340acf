-- A step of an object.
use Rattle.std.specs.Prelude.{◌≡◌}

-- the reply and the new state are those of the object
pub record Steps {S O R : Type 0} (after : S → O → S) (reply : S → O → R)
    (old : S) (op : O) (replied : R) (new : S)
    : Type 0 where
  pub answer : replied ≡ reply old op
  pub moved : new ≡ after old op
