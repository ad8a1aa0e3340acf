use Rattle.std.proofs.Common.{true}
use Rattle.task_tests.proofs.tests.where_a_swap_is_refused_memory_the_object_is_open_and_the_other_task_ends.Goals as goal

pub swap_before_a_call-requires : goal.swap_before_a_call-requires
swap_before_a_call-requires g c = rw c.as_mut_slice.ensures.value (c.in_ok-tasks.ensures.in_run true)
