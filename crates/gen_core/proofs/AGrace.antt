-- A grace computed: not quiet while the activity that was there before it lasts, and quiet once it has left.
use Rattle.std.proofs.Common.{◌≡◌, Bool, true, false, sym, ◌∙◌, List, [], ◌∷◌, ◌++◌, refl, ap}
use Rattle.std.specs.List.{list_any}
use Rattle.std.proofs.lemmas.Bool.{or_right, false≢true}
use Rattle.gen_core.specs.declared.event.GenEvent.{GenEvent}
use Rattle.gen_core.specs.declared.event.GenEvent.TheVariants.{Enter, Leave, TakeRole, LookAhead, Flip, Look, GiveRole}
use Rattle.gen_core.specs.Plain.{Generations}
use Rattle.gen_core.specs.State.{fresh}
use Rattle.gen_core.specs.Events.{happens}
use Rattle.gen_core.specs.Consequences.{entries_so_far}
use Rattle.gen_core.specs.Runs.{run, Occurs, IsQuietGrace}

-- one processor, and the second of two callers in an activity
abbrev entered : Generations
entered = run (Enter 1 ∷ []) (fresh 1 (0 ∷ 0 ∷ []))

-- the first flips the processor, and looks at it
abbrev flip_and_look : List GenEvent
flip_and_look = LookAhead 0 ∷ Flip 0 ∷ Look 0 ∷ []

abbrev gives_role : GenEvent → Bool
gives_role (GiveRole c) = true
gives_role _ = false

-- an event that does not stand in a list does not occur in it
stands_in : (p : GenEvent → Bool) (event : GenEvent) (before after : List GenEvent) → p event ≡ true
    → list_any p (before ++ event ∷ after) ≡ true
stands_in p event [] after passes = rw passes refl
stands_in p event (first ∷ before) after passes = rw (stands_in p event before after passes) (or_right (p first) true refl)

not_given : (s : Generations) (events : List GenEvent) → list_any gives_role events ≡ false → ¬ Occurs (GiveRole 0) events s
not_given s events none occurs =
    let stands = stands_in gives_role (GiveRole 0) occurs.before occurs.after refl in
    false≢true (sym none ∙ ap (list_any gives_role) occurs.split ∙ stands)

not_quiet_yet : ¬ IsQuietGrace entered flip_and_look 0
not_quiet_yet grace = let quiet = grace.quiet in cc

quiet : IsQuietGrace entered (flip_and_look ++ Leave 1 ∷ Look 0 ∷ []) 0
quiet = record { takes = record { possible = refl; free = refl }; keeps = not_given _ _ refl; quiet = refl }

-- the grace is no quiet one where the role was given back
given_back : ¬ IsQuietGrace entered (flip_and_look ++ Leave 1 ∷ Look 0 ∷ GiveRole 0 ∷ []) 0
given_back grace = let quiet = grace.quiet in cc

-- nor one that did not find the role free
held_by_another : ¬ IsQuietGrace (happens (happens entered (TakeRole 0)) (LookAhead 0)) [] 0
held_by_another grace = let possible = grace.takes.possible in cc

-- two entries, one of them left
two_entries : entries_so_far (run (Enter 1 ∷ Leave 1 ∷ Enter 0 ∷ []) (fresh 1 (0 ∷ 0 ∷ []))) 0 ≡ 2
two_entries = refl
