-- How an object that was declared shared is kept after some histories.
use Rattle.std.proofs.Common.{◌≡◌, List, [], ◌∷◌, refl}
use Rattle.k42_kinds.specs.declared.operation.Op.{Op}
use Rattle.k42_kinds.specs.declared.operation.Op.TheVariants.{Get}
use Rattle.k42_kinds.specs.declared.operation.Reply.{Reply}
use Rattle.k42_kinds.specs.declared.operation.Reply.TheVariants as replies
use Rattle.k42_kinds.specs.declared.entry.Act.TheVariants.{Call, Swap}
use Rattle.k42_kinds.specs.declared.entry.To.{To}
use Rattle.k42_kinds.specs.declared.entry.To.TheVariants.{Layout, Dead, Watch, Unwatch}
use Rattle.k42_kinds.specs.declared.entry.Answer.TheVariants.{Replied, Swapped, Busy, Spent, Gone, Abandoned}
use Rattle.k42_kinds.specs.declared.entry.Entry.{Entry}
use Rattle.k42_kinds.specs.Histories.{implementation_of}
use Rattle.k42_kinds.proofs.ExampleLines.{line, on}

-- the object 0 is kept so after this history
record IsKept (history : List (Entry Op Reply)) (implementation : To) : Type 0 where
  kept : implementation_of 0 0 history ≡ implementation

as_declared : IsKept [] (Layout 0)
as_declared = record { kept = refl }

abbrev swapped : Entry Op Reply
swapped = line 1 0 0 0 (Swap (Layout 1)) (Swapped 1)

as_swapped : IsKept (swapped ∷ line 2 0 1 1 (Call Get) (Replied (replies.Number 0)) ∷ []) (Layout 1)
as_swapped = record { kept = refl }

as_last_swapped : IsKept (swapped ∷ line 2 0 1 1 (Swap (Layout 0)) (Swapped 2) ∷ []) (Layout 0)
as_last_swapped = record { kept = refl }

-- a swap that was refused, given up or spent leaves the implementation
refused : IsKept (line 1 0 0 0 (Swap (Layout 1)) (Busy 1) ∷ []) (Layout 0)
refused = record { kept = refl }

abandoned : IsKept (swapped ∷ line 2 0 1 1 (Swap (Layout 0)) (Abandoned 2) ∷ line 3 1 0 1 (Swap Dead) (Busy 2) ∷ []) (Layout 1)
abandoned = record { kept = refl }

spent : IsKept (swapped ∷ line 2 0 1 1 (Swap (Layout 0)) Spent ∷ []) (Layout 1)
spent = record { kept = refl }

-- and so does another object's
swapped_elsewhere : IsKept (swapped ∷ on 1 (line 2 0 1 0 (Swap Dead) (Swapped 1)) ∷ []) (Layout 1)
swapped_elsewhere = record { kept = refl }

-- a destroy that was carried out leaves no live one
destroyed : IsKept (swapped ∷ line 2 0 1 1 (Swap Dead) (Swapped 2) ∷ line 3 0 2 2 (Swap (Layout 0)) Gone ∷ []) Dead
destroyed = record { kept = refl }

-- a watch and an unwatch leave the implementation, live or not
watched : IsKept (swapped ∷ line 2 0 1 1 (Swap Watch) (Swapped 2) ∷ line 3 0 2 2 (Swap Unwatch) (Swapped 3) ∷ []) (Layout 1)
watched = record { kept = refl }

watched_as_declared : IsKept (line 1 0 0 0 (Swap Watch) (Swapped 1) ∷ []) (Layout 0)
watched_as_declared = record { kept = refl }
