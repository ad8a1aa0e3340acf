use Rattle.std.proofs.Common.{sym, ap, ◌∙◌, arith}
use Rattle.k42_board.specs.Swapping.{next_entry}
use Rattle.k42_board.specs.declared.view.PassView.{PassView}
use Rattle.k42_mediator.proofs.EntriesChanged.{next_stage, entry_changed}
use Rattle.k42_mediator.proofs.interposing.change_entries.Goals as goal

pub entry_step-requires-after_bounds : goal.entry_step-requires-after_bounds
entry_step-requires-after_bounds g c κs within = record {
  ours = c.loop-proc.invariant.0.table ∙ c.requires.ours.table;
  may =
      ap (λ (v : PassView _ _ _). next_entry v.visitor.swap) c.loop-proc.invariant.2.knows
      ∙ next_stage c.procs-procs.result c.args.pass.now.view.visitor.swap c.loop-proc.proc c.loop-proc-test.true c.requires.first;
}

pub loop-proc-preserved : goal.loop-proc-preserved
loop-proc-preserved g c = (
  (let same = c.loop-proc.invariant.0 in let next = c.entry_step.ensures.same in record {
    table = next.table ∙ same.table;
    seat = next.seat ∙ same.seat;
    keep = next.keep ∙ same.keep;
    room = next.room ∙ same.room;
    row_room = next.row_room ∙ same.row_room;
    queue = next.queue ∙ same.queue;
    pushed = next.pushed ∙ same.pushed;
    popped = next.popped ∙ same.popped;
  }),
  (let more = c.loop-proc-test.true in omega (arith, more)),
  entry_changed c.procs-procs.result c.loop-proc.proc _ c.entry_step.result c.args.pass.now.view c.loop-proc.pass.view c.entry_step.new.pass.view
      (c.requires.ours.waits ∙ sym c.procs-procs.ensures.is) c.loop-proc-test.true c.requires.first c.loop-proc.invariant.2 c.entry_step.ensures.takes.knows,
)
