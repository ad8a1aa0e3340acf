-- What `seen` of object 0 must reply after some histories, which need not be legal.
use Rattle.std.proofs.Common.{◌≡◌, ◌-◌, ◌^◌, List, [], ◌∷◌, Some, refl}
use Rattle.k42_kinds.specs.declared.operation.Op.{Op}
use Rattle.k42_kinds.specs.declared.operation.Op.TheVariants.{Add, Seen}
use Rattle.k42_kinds.specs.declared.operation.Reply.{Reply}
use Rattle.k42_kinds.specs.declared.operation.Reply.TheVariants.{Done, None, Number, Gone as IsGone}
use Rattle.k42_kinds.specs.declared.entry.Act.TheVariants.{Call, Swap}
use Rattle.k42_kinds.specs.declared.entry.To.TheVariants.{Layout, Dead, Watch, Unwatch}
use Rattle.k42_kinds.specs.declared.entry.Answer.TheVariants.{Replied, Swapped, Busy, Gone}
use Rattle.k42_kinds.specs.declared.entry.Entry.{Entry}
use Rattle.k42_kinds.specs.Figures.{figure}
use Rattle.k42_kinds.specs.Watched.{counted}
use Rattle.k42_kinds.proofs.ExampleLines.{line, on}

record IsFigure (history : List (Entry Op Reply)) (reply : Reply) : Type 0 where
  told : figure 0 history ≡ reply

abbrev watch : Entry Op Reply
watch = line 1 0 0 0 (Swap Watch) (Swapped 1)

abbrev added : Entry Op Reply
added = line 2 0 1 1 (Call (Add 5)) (Replied Done)

abbrev asked : Entry Op Reply
asked = line 3 0 2 1 (Call Seen) (Replied (Number 1))

none_at_first : IsFigure [] None
none_at_first = record { told = refl }

nothing_yet : IsFigure (added ∷ watch ∷ []) (Number 0)
nothing_yet = record { told = refl }

calls_behind_a_watch : IsFigure (added ∷ watch ∷ added ∷ asked ∷ added ∷ []) (Number 2)
calls_behind_a_watch = record { told = refl }

behind_the_last_watch : IsFigure (watch ∷ added ∷ watch ∷ added ∷ []) (Number 1)
behind_the_last_watch = record { told = refl }

across_swaps : IsFigure (watch ∷ added ∷ line 3 0 2 1 (Swap (Layout 1)) (Swapped 2) ∷ added ∷ []) (Number 2)
across_swaps = record { told = refl }

none_behind_an_unwatch : IsFigure (watch ∷ added ∷ line 3 0 2 1 (Swap Unwatch) (Swapped 2) ∷ added ∷ []) None
none_behind_an_unwatch = record { told = refl }

-- a watch that was refused places nothing
refused : IsFigure (line 1 0 0 0 (Swap Watch) (Busy 1) ∷ added ∷ []) None
refused = record { told = refl }

-- it counts whoever calls
of_all_callers : IsFigure (watch ∷ added ∷ line 3 1 0 1 (Call (Add 5)) (Replied Done) ∷ []) (Number 2)
of_all_callers = record { told = refl }

-- another object's entries say nothing
elsewhere : IsFigure (watch ∷ on 1 added ∷ on 1 (line 3 0 2 0 (Swap Unwatch) (Swapped 1)) ∷ on 1 (line 4 0 3 1 (Swap Dead) (Swapped 2)) ∷ []) (Number 0)
elsewhere = record { told = refl }

dead : IsFigure (watch ∷ added ∷ line 3 0 2 1 (Swap Dead) (Swapped 2) ∷ added ∷ line 5 0 4 2 (Swap Watch) Gone ∷ []) IsGone
dead = record { told = refl }

-- the count wraps
wraps : counted (Some (2 ^ 64 - 1)) ≡ Some 0
wraps = refl

-- it is no other number
asking_counts_not : IsFigure (watch ∷ added ∷ asked ∷ []) (Number 2) → ⊥
asking_counts_not is = cc is.told

kept_behind_an_unwatch : IsFigure (watch ∷ added ∷ line 3 0 2 1 (Swap Unwatch) (Swapped 2) ∷ []) (Number 1) → ⊥
kept_behind_an_unwatch is = cc is.told

lost_by_a_swap : IsFigure (watch ∷ added ∷ line 3 0 2 1 (Swap (Layout 1)) (Swapped 2) ∷ []) (Number 0) → ⊥
lost_by_a_swap is = cc is.told

told_of_the_dead : IsFigure (watch ∷ line 2 0 1 1 (Swap Dead) (Swapped 2) ∷ []) (Number 0) → ⊥
told_of_the_dead is = cc is.told
