use Rattle.std.proofs.Common.{refl}
use Rattle.k42_view.proofs.AsCheck.{as_check}
use Rattle.k42_view.proofs.Dues.{nothing_past_limit}
use Rattle.k42_view.proofs.OneOutput.{one_due}
use Rattle.k42_view.proofs.Endings.{usage_said, work_said, is_none}
use Rattle.k42_view.proofs.program.view_main.Goals as goal

pub returns-in_default-clause-says : goal.returns-in_default-clause-says
returns-in_default-clause-says g c =
    rw (← c.window_of.ensures.window, is_none c.window_of.result c.in_default.not-Some) (usage_said (record {
      left = g.S.Source.left c.args.source.now;
      left_after = g.S.Source.left c.args.source.now;
      taken = g.K.Sink.taken c.args.sink.now;
      taken_after = g.K.Sink.taken c.deliver.new.sink;
      read_faults = g.S.Source.faults c.args.source.now;
      read_faults_after = g.S.Source.faults c.args.source.now;
      write_faults = g.K.Sink.faults c.args.sink.now;
      write_faults_after = g.K.Sink.faults c.deliver.new.sink;
    }) c.deliver.result refl refl (rw c.as_bytes.ensures.value at c.deliver.ensures.delivers))

pub returns-in-Ok-clause-says : goal.returns-in-Ok-clause-says
returns-in-Ok-clause-says g c =
    rw (← c.window_of.ensures.window, c.in-Some.is) (work_said (record {
      left = g.S.Source.left c.args.source.now;
      left_after = g.S.Source.left c.work_out.new.source;
      taken = g.K.Sink.taken c.args.sink.now;
      taken_after = g.K.Sink.taken c.deliver-in-Ok.new.sink;
      read_faults = g.S.Source.faults c.args.source.now;
      read_faults_after = g.S.Source.faults c.work_out.new.source;
      write_faults = g.K.Sink.faults c.args.sink.now;
      write_faults_after = g.K.Sink.faults c.deliver-in-Ok.new.sink;
    }) c.in-Some.window c.in-Ok.output.status c.in-Ok.output.text.items c.deliver-in-Ok.result c.in-Ok.ensures.ok c.in-Ok.ensures.quiet (rw c.deref.ensures.value at c.deliver-in-Ok.ensures.delivers))

pub returns-in_default-clause-enough : goal.returns-in_default-clause-enough
returns-in_default-clause-enough g c = nothing_past_limit

pub returns-in-Ok-clause-enough : goal.returns-in-Ok-clause-enough
returns-in-Ok-clause-enough g c = nothing_past_limit

pub returns-in-Err-ReadFault-clause-enough : goal.returns-in-Err-ReadFault-clause-enough
returns-in-Err-ReadFault-clause-enough g c = nothing_past_limit

pub returns-in-Err-Memory-clause-enough : goal.returns-in-Err-Memory-clause-enough
returns-in-Err-Memory-clause-enough g c = nothing_past_limit

pub returns-in_default-clause-one : goal.returns-in_default-clause-one
returns-in_default-clause-one g c = one_due _

pub returns-in-Ok-clause-one : goal.returns-in-Ok-clause-one
returns-in-Ok-clause-one g c = one_due _

pub returns-in-Err-ReadFault-clause-one : goal.returns-in-Err-ReadFault-clause-one
returns-in-Err-ReadFault-clause-one g c = one_due _

pub returns-in-Err-Memory-clause-one : goal.returns-in-Err-Memory-clause-one
returns-in-Err-Memory-clause-one g c = one_due _

pub returns-in_default-clause-as_check : goal.returns-in_default-clause-as_check
returns-in_default-clause-as_check g c = as_check

pub returns-in-Ok-clause-as_check : goal.returns-in-Ok-clause-as_check
returns-in-Ok-clause-as_check g c = as_check

pub returns-in-Err-ReadFault-clause-as_check : goal.returns-in-Err-ReadFault-clause-as_check
returns-in-Err-ReadFault-clause-as_check g c = as_check

pub returns-in-Err-Memory-clause-as_check : goal.returns-in-Err-Memory-clause-as_check
returns-in-Err-Memory-clause-as_check g c = as_check
