use Rattle.std.proofs.Common.{rules, sym, ◌∙◌}
use Rattle.k42_stamp.proofs.Numbering.{numbered_none, numbered_all, numbered_step}
use Rattle.k42_stamp.proofs.merging.number.Goals as goal

pub loop-place-init : goal.loop-place-init
loop-place-init g c = record { items = sym (numbered_none c.args.first c.args.entries.now.items); end = search rules }

pub loop-place-preserved : goal.loop-place-preserved
loop-place-preserved g c = record {
  items = numbered_step c.args.first c.loop-place.place c.args.entries.now.items c.loop-place.entries.items c.index_mut.result.now (search rules) c.loop-place.invariant.items c.index_mut.ensures.value;
  end = search rules;
}

pub returns : goal.returns
returns g c = c.loop-place.invariant.items ∙ numbered_all c.args.first c.loop-place.place c.args.entries.now.items (search rules)
