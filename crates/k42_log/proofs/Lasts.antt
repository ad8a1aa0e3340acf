-- What the last head tells of the last entry.
use Rattle.std.proofs.Common.{◌≡◌, ℕ, zero, suc, ◌+◌, List, [], ◌∷◌, Option, Some, None, refl}
use Rattle.std.specs.List.{slice_get}
use Rattle.k42_kinds.specs.Packing.{Packing}
use Rattle.k42_log.specs.declared.head.Head.{Head}
use Rattle.k42_log.specs.Details.{Details}
use Rattle.k42_log.specs.Entries.{Owner, behind_entry, entries_back}
use Rattle.k42_log.specs.Logs.{incarnation_or_0, stamp_or_0}

abbrev pub head_stamp : Option Head → ℕ
head_stamp None = 0
head_stamp (Some head) = head.stamp

abbrev pub head_incarnation : Option Head → ℕ
head_incarnation None = 0
head_incarnation (Some head) = head.incarnation

pub stamp_at : {O R : Type 0} (ops : Packing O) (replies : Packing R) (owner : Owner) (first : ℕ) (heads : List Head) (details : Details) (place : ℕ)
    → stamp_or_0 (slice_get (entries_back ops replies owner first heads details) place) ≡ head_stamp (slice_get heads place)
stamp_at ops replies owner first [] details place = refl
stamp_at ops replies owner first (head ∷ heads) details zero = refl
stamp_at ops replies owner first (head ∷ heads) details (suc place) = stamp_at ops replies owner (first + 1) heads (behind_entry ops replies head details) place

pub incarnation_at : {O R : Type 0} (ops : Packing O) (replies : Packing R) (owner : Owner) (first : ℕ) (heads : List Head) (details : Details) (place : ℕ)
    → incarnation_or_0 (slice_get (entries_back ops replies owner first heads details) place) ≡ head_incarnation (slice_get heads place)
incarnation_at ops replies owner first [] details place = refl
incarnation_at ops replies owner first (head ∷ heads) details zero = refl
incarnation_at ops replies owner first (head ∷ heads) details (suc place) = incarnation_at ops replies owner (first + 1) heads (behind_entry ops replies head details) place
