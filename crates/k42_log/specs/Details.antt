-- What an entry has besides its head: words of 64 bits, and bytes.
use Rattle.std.specs.Prelude.{ℕ, ◌+◌, ◌-◌, ◌/◌, ◌≤◌, List, [], ◌++◌, length, take, drop, min}
use Rattle.k42_kinds.specs.declared.packed.Size.{Size}
use Rattle.k42_kinds.specs.Packing.{Packing}

pub record Details : Type 0 where
  pub words : List ℕ
  pub bytes : List ℕ

abbrev pub no_details : Details
no_details = record { words = []; bytes = [] }

-- the details of one, and behind them those of another
abbrev pub joined : Details → Details → Details
joined one other = record { words = one.words ++ other.words; bytes = one.bytes ++ other.bytes }

-- the first so many, and the details behind them

abbrev pub front : Size → Details → Details
front size details = record { words = take size.words details.words; bytes = take size.bytes details.bytes }

abbrev pub behind : Size → Details → Details
behind size details = record { words = drop size.words details.words; bytes = drop size.bytes details.bytes }

-- there are so many
pub record HasSoMany (size : Size) (details : Details) : Type 0 where
  pub words : size.words ≤ length details.words
  pub bytes : size.bytes ≤ length details.bytes

abbrev pub no_size : Size
no_size = record { words = 0; bytes = 0 }

abbrev pub sum_of : Size → Size → Size
sum_of one other = record { words = one.words + other.words; bytes = one.bytes + other.bytes }

abbrev pub less_by : Size → Size → Size
less_by size other = record { words = size.words - other.words; bytes = size.bytes - other.bytes }

abbrev pub size_in : Details → Size
size_in details = record { words = length details.words; bytes = length details.bytes }

abbrev pub details_of : {V : Type 0} → Packing V → V → Details
details_of packing value = record { words = packing.words value; bytes = packing.bytes value }

-- So many entries of any kind fit where there is room for so many details, of which each has fewer than
-- this.
abbrev pub entries_fitting : Size → Size → ℕ
entries_fitting over spare = min (spare.words / over.words) (spare.bytes / over.bytes)
