use Rattle.std.proofs.Common.{refl}
use Rattle.k42_cli.proofs.Endings.{usage_said, memory_completes, nothing_past_limit, is_none}
use Rattle.k42_cli.proofs.program.k42_main.Goals as goal

pub returns-in_default-clause-says : goal.returns-in_default-clause-says
returns-in_default-clause-says g c =
    rw (← c.form_of.ensures.form, is_none c.form_of.result c.in_default.not-Some) (usage_said (record {
      left = g.S.Source.left c.args.source.now;
      left_after = g.S.Source.left c.args.source.now;
      taken = g.K.Sink.taken c.args.sink.now;
      taken_after = g.K.Sink.taken c.deliver.new.sink;
      read_faults = g.S.Source.faults c.args.source.now;
      read_faults_after = g.S.Source.faults c.args.source.now;
      write_faults = g.K.Sink.faults c.args.sink.now;
      write_faults_after = g.K.Sink.faults c.deliver.new.sink;
    }) c.args.kept.now c.deliver.result c.requires.fresh refl refl (rw c.as_bytes.ensures.value at c.deliver.ensures.delivers))

pub returns-in-Err-Memory-clause-complete : goal.returns-in-Err-Memory-clause-complete
returns-in-Err-Memory-clause-complete g c = λ bytes told reads writes. rw (← c.form_of.ensures.form, c.in-Some.is) (memory_completes c.in-Some.form bytes)

pub returns-in_default-clause-enough : goal.returns-in_default-clause-enough
returns-in_default-clause-enough g c = nothing_past_limit

pub returns-in-Ok-clause-enough : goal.returns-in-Ok-clause-enough
returns-in-Ok-clause-enough g c = nothing_past_limit

pub returns-in-Err-ReadFault-clause-enough : goal.returns-in-Err-ReadFault-clause-enough
returns-in-Err-ReadFault-clause-enough g c = nothing_past_limit

pub returns-in-Err-Memory-clause-enough : goal.returns-in-Err-Memory-clause-enough
returns-in-Err-Memory-clause-enough g c = nothing_past_limit
