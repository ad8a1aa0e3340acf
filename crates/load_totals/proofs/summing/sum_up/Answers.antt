use Rattle.std.proofs.Common.{ap, ◌∙◌, subst}
use Rattle.script_text.specs.Lawful.{IsLawful}
use Rattle.load_totals.specs.Loads as loads
use Rattle.load_totals.proofs.Numbers.{due}
use Rattle.load_totals.proofs.Sums.{countable}
use Rattle.load_totals.proofs.summing.sum_up.Goals as goal

pub tallied-requires : goal.tallied-requires
tallied-requires g c = countable c.args.script.now (g.E.Entries.left c.args.entries) c.requires.generated c.requires.lawful

pub returns-clause-due : goal.returns-clause-due
returns-clause-due g c = λ n small is.
    let entries = g.E.Entries.left c.args.entries in
    c.sums.ensures ∙ ap loads.summary_of c.in_ok-tally.ensures ∙ due n small entries (subst (λ script. IsLawful script entries) is c.requires.lawful)
