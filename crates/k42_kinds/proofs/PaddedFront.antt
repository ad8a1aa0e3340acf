-- Bytes that are copied to the front of zeros.
use Rattle.std.proofs.Common.{◌≡◌, ℕ, ◌≤◌, List, ◌++◌, length, take, drop, refl, arith}
use Rattle.std.specs.Prelude.{replicate}
use Rattle.std.proofs.lemmas.List.{drop_at, take_at, drop-replicate, length-append, length-drop, length-replicate}
use Rattle.k42_kinds.specs.Padded.{IsPadded}

-- the front has the bytes, and what stands behind it is still zero
pub padded_front : (size : ℕ) (bytes front : List ℕ) → length bytes ≤ size → front ≡ bytes → IsPadded size (length bytes) (front ++ drop (length bytes) (replicate size 0))
padded_front size bytes front fits same = rw same (record {
  whole = omega (arith, fits, length-append {A = ℕ}, length-drop {A = ℕ}, length-replicate {A = ℕ});
  within = fits;
  zeros = rw (drop_at bytes (drop (length bytes) (replicate size 0)) (length bytes) refl) (drop-replicate (length bytes) size 0);
})

-- the front is the bytes
pub front_again : (size : ℕ) (bytes front : List ℕ) → front ≡ bytes → take (length bytes) (front ++ drop (length bytes) (replicate size 0)) ≡ bytes
front_again size bytes front same = rw same (take_at bytes (drop (length bytes) (replicate size 0)) (length bytes) refl)
