use Rattle.std.proofs.Common.{◌%◌, ap, ◌∙◌}
use Rattle.std.specs.Option.{unwrap_or}
use Rattle.k42_board.specs.Words.{exits_word}
use Rattle.k42_quiesce.proofs.GoingOn.{goes_back, left_back, passes_back}
use Rattle.k42_quiesce.proofs.looking.look_back.Goals as goal

pub returns-clause-goes : goal.returns-clause-goes
returns-clause-goes g c = goes_back c.args.proc _ c.look-exits.result _ _ c.requires.grace c.look-exits.ensures.takes.knows

pub returns-clause-left : goal.returns-clause-left
returns-clause-left g c some =
    left_back c.args.proc c.waits-waits.result _ _ c.look-exits.result _ _ c.requires.grace c.waits-waits.ensures c.waits-waits.type_inv c.exits_in.ensures
    c.look-exits.ensures.takes.knows c.look-exits.ensures.takes.finds c.requires.there
    (ap (λ n. exits_word c.args.proc (n % 2)) (c.unwrap_or-base.ensures ∙ ap (λ base. unwrap_or base 0) c.base.ensures)) some

pub returns-clause-passed : goal.returns-clause-passed
returns-clause-passed g c none =
    passes_back c.args.proc c.waits-waits.result _ _ c.look-exits.result _ _ c.requires.grace c.waits-waits.ensures c.waits-waits.type_inv c.exits_in.ensures
    c.look-exits.ensures.takes.knows none
