use Rattle.std.proofs.Common.{true}
use Rattle.task_tests.proofs.tests.a_swap_tells_twice_that_one_activity_has_not_left.Goals as goal

pub steps_are-requires : goal.steps_are-requires
steps_are-requires g c = rw c.as_mut_slice.ensures.value (c.in_ok-tasks.ensures.in_run true)
