-- What a Begin finds, and what it answers.
use Rattle.std.specs.Prelude.{ℕ, ◌+◌, Bool, true, false, ◌==◌, if◌then◌else◌, Option, Some, None}
use Rattle.k42_limits.specs.declared.TheConstants.{LAST_INCARNATION}
use Rattle.k42_shapes.specs.Shapes.{is_dead_tag}
use Rattle.k42_kinds.specs.declared.entry.Answer.{Answer}
use Rattle.k42_kinds.specs.declared.entry.Answer.TheVariants.{Busy, Spent, Gone}
use Rattle.phase_core.specs.Plain.{Object}

-- the number of the swap that is under way: it is the incarnation once the object was turned over, and
-- the next one before
abbrev pub swap_number : Object → ℕ
swap_number k = if k.complete then k.incarnation else k.incarnation + 1

-- what the word of an object answers: nothing where the swap may go on
abbrev pub answer_found : {R : Type 0} → Object → Option (Answer R)
answer_found k =
    if is_dead_tag k.shapes k.layout then Some Gone
    else if k.incarnation == LAST_INCARNATION then Some Spent
    else if k.swap then Some (Busy (swap_number k))
    else None

-- the answers that tell of an object which is over
abbrev pub tells_over : {R : Type 0} → Answer R → Bool
tells_over Spent = true
tells_over Gone = true
tells_over _ = false
