use Rattle.std.proofs.Common.{true}
use Rattle.task_tests.proofs.tests.a_second_swap_tells_who_has_the_role.Goals as goal

pub steps_are-requires : goal.steps_are-requires
steps_are-requires g c = rw c.as_mut_slice.ensures.value (c.in_ok-tasks.ensures.in_run true)
