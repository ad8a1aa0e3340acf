-- A short list of bytes in an array of fixed size, with zeros behind it.
use Rattle.std.specs.Prelude.{◌≡◌, ℕ, ◌-◌, ◌≤◌, List, ◌++◌, length, take, drop, replicate}
use Rattle.std.proofs.Common.{arith}
use Rattle.std.proofs.lemmas.List.{take-append-drop, length-take-le}

-- the array, and how many of its bytes count
pub record Cells : Type 0 where
  pub cells : List ℕ
  pub len : ℕ

-- what stands behind the bytes that count is zero, so the bytes alone give the array back
pub record IsPadded (size len : ℕ) (cells : List ℕ) : Type 0 where
  pub whole : length cells ≡ size
  pub within : len ≤ size
  pub zeros : drop len cells ≡ replicate (size - len) 0

abbrev pub padded : ℕ → List ℕ → Cells
padded size bytes = record { cells = bytes ++ replicate (size - length bytes) 0; len = length bytes }

length_back : (size len : ℕ) (cells : List ℕ) → IsPadded size len cells → length (take len cells) ≡ len
length_back size len cells p = length-take-le len cells (omega (arith, p.whole, p.within))

cells_back : (size len : ℕ) (cells : List ℕ) → IsPadded size len cells → take len cells ++ replicate (size - length (take len cells)) 0 ≡ cells
cells_back size len cells p = rw (length_back size len cells p, ← p.zeros) (take-append-drop len cells)

pub padded_back : (size len : ℕ) (cells : List ℕ) → IsPadded size len cells → padded size (take len cells) ≡ record { cells = cells; len = len }
padded_back size len cells p i = record { cells = cells_back size len cells p i; len = length_back size len cells p i }
