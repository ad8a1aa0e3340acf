-- What a program reads and writes.
use Rattle.std.specs.Prelude.{◌≡◌, ℕ, ◌<◌, ◌⊎◌, List, [], Option, Some, IfSome}
use Rattle.k42_io.specs.Sink.{Grows, GrowsByFront, Stays}
use Rattle.k42_io.specs.declared.reading.ReadEnd.{ReadEnd}
use Rattle.k42_io.specs.declared.reading.ReadEnd.TheVariants as reads
use Rattle.k42_input.specs.declared.delivery.WorkEnd.{WorkEnd}
use Rattle.k42_input.specs.declared.delivery.WorkEnd.TheVariants as stops
use Rattle.k42_input.specs.declared.status.Status.{Status}
use Rattle.k42_input.specs.declared.status.Status.TheVariants as statuses

-- the ends of a program before and after it: what is left to read and what was taken, where that
-- is told, and the faults
pub record Ends : Type 0 where
  pub left : Option (List ℕ)
  pub left_after : Option (List ℕ)
  pub taken : Option (List ℕ)
  pub taken_after : Option (List ℕ)
  pub read_faults : ℕ
  pub read_faults_after : ℕ
  pub write_faults : ℕ
  pub write_faults_after : ℕ

-- no read and no write failed
pub record IsQuiet (ends : Ends) : Type 0 where
  pub reads : ends.read_faults_after ≡ ends.read_faults
  pub writes : ends.write_faults_after ≡ ends.write_faults

-- where the source told what it had left, it was this
abbrev pub Told : Ends → List ℕ → Type 0
Told ends bytes = IfSome ends.left (λ left. left ≡ bytes)

-- where the source told what it had left, nothing is left of it
abbrev pub IsConsumed : Option (List ℕ) → Option (List ℕ) → Type 0
IsConsumed left left_after = IfSome left (λ before. left_after ≡ Some [])

-- nothing was read
abbrev pub IsUnread : Ends → Type 0
IsUnread ends = ends.left_after ≡ ends.left

-- nothing was written
abbrev pub WritesNothing : Ends → Type 0
WritesNothing ends = Stays ends.taken ends.taken_after

-- A read failed, and nothing was written.
pub record FailsToRead (ends : Ends) : Type 0 where
  pub fault : ends.read_faults < ends.read_faults_after
  pub unwritten : WritesNothing ends

-- There was no memory, nothing failed, and nothing was written.
pub record LacksMemory (ends : Ends) : Type 0 where
  pub unwritten : WritesNothing ends
  pub quiet : IsQuiet ends

-- The text was written whole, or a write failed and its front was written.
abbrev pub Delivers : Option (List ℕ) → Option (List ℕ) → ℕ → ℕ → List ℕ → Status → Status
    → Type 0
Delivers taken taken_after faults faults_after text status answered =
    ((answered ≡ status) × Grows taken taken_after text × (faults_after ≡ faults))
    ⊎ ((answered ≡ statuses.WriteFault) × GrowsByFront taken taken_after text
    × (faults < faults_after))

-- why there is nothing to write, where reading ended early
abbrev pub end_of : ReadEnd → WorkEnd
end_of reads.Failed = stops.ReadFault
end_of reads.Memory = stops.Memory
