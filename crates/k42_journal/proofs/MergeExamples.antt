-- Three callers' lists and what they merge to, and what they do not.
use Rattle.std.proofs.Common.{◌≡◌, ℕ, List, [], ◌∷◌, None, refl, sym, ap, ◌∙◌, arith}
use Rattle.std.specs.Prelude.{slice_get}
use Rattle.k42_kinds.specs.declared.operation.Op.{Op}
use Rattle.k42_kinds.specs.declared.operation.Op.TheVariants.{Get}
use Rattle.k42_kinds.specs.declared.operation.Reply.{Reply}
use Rattle.k42_kinds.specs.declared.operation.Reply.TheVariants.{Number}
use Rattle.k42_kinds.specs.declared.entry.Act.TheVariants.{Call}
use Rattle.k42_kinds.specs.declared.entry.Answer.TheVariants.{Replied}
use Rattle.k42_kinds.specs.declared.entry.Entry.{Entry}
use Rattle.k42_log.specs.Logs.{stamp_or_0}
use Rattle.k42_journal.specs.Merged.{merged_from}

abbrev drawn : (stamp object cell caller : ℕ) → Entry Op Reply
drawn stamp object cell caller =
    record { stamp = stamp; caller = caller; index = 0; object = object; incarnation = 0; cell = cell; act = Call Get; answer = Replied (Number 0); proc = 0; generation = None }

-- each of them drew at 5, and caller 0 at 9 too
abbrev lists : List (List (Entry Op Reply))
lists = (drawn 5 1 0 0 ∷ drawn 9 0 0 0 ∷ []) ∷ (drawn 5 0 2 1 ∷ []) ∷ (drawn 5 0 2 2 ∷ []) ∷ []

-- by object, cell and caller, numbered from 3
merged : merged_from 3 lists ≡ drawn 3 0 2 1 ∷ drawn 4 0 2 2 ∷ drawn 5 1 0 0 ∷ drawn 6 0 0 0 ∷ []
merged = refl

-- not by caller first
not_by_caller : merged_from 3 lists ≡ drawn 3 1 0 0 ∷ drawn 4 0 2 1 ∷ drawn 5 0 2 2 ∷ drawn 6 0 0 0 ∷ [] → ⊥
not_by_caller same = let both = sym merged ∙ same in absurd (cc)

-- not numbered from 1, nor by the former stamps
not_from_one : merged_from 3 lists ≡ drawn 1 0 2 1 ∷ drawn 2 0 2 2 ∷ drawn 3 1 0 0 ∷ drawn 4 0 0 0 ∷ [] → ⊥
not_from_one same = let both = sym merged ∙ same in absurd (cc)

not_as_drawn : merged_from 3 lists ≡ drawn 5 0 2 1 ∷ drawn 5 0 2 2 ∷ drawn 5 1 0 0 ∷ drawn 9 0 0 0 ∷ [] → ⊥
not_as_drawn same = let told : ◌≡◌ {A = ℕ} 3 5 = ap (λ entries. stamp_or_0 (slice_get entries 0)) same in absurd (omega (arith, told))

-- and no entry is left out
not_without_the_last : merged_from 3 lists ≡ drawn 3 0 2 1 ∷ drawn 4 0 2 2 ∷ drawn 5 1 0 0 ∷ [] → ⊥
not_without_the_last same = let both = sym merged ∙ same in absurd (cc)
