-- Entries for the histories that are told in full.
use Rattle.std.proofs.Common.{ℕ, None}
use Rattle.k42_kinds.specs.declared.entry.Act.{Act}
use Rattle.k42_kinds.specs.declared.entry.Answer.{Answer}
use Rattle.k42_kinds.specs.declared.entry.Entry.{Entry}

-- an entry of object 0, by its stamp, caller, index and incarnation
abbrev pub line : {O R : Type 0} → ℕ → ℕ → ℕ → ℕ → Act O → Answer R → Entry O R
line stamp caller index incarnation act answer = record { stamp = stamp; caller = caller; index = index; object = 0; incarnation = incarnation; cell = 0; act = act; answer = answer; proc = 0; generation = None }

-- the same entry of another object
abbrev pub on : {O R : Type 0} → ℕ → Entry O R → Entry O R
on object entry = record entry { object = object }
