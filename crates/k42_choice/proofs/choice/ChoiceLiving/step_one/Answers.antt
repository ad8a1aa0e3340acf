use Rattle.std.proofs.Common.{◌≡◌, IfOk, sym, subst}
use Rattle.k42_choice.specs.Choices.{choice_ways}
use Rattle.k42_choice.specs.declared.choice_part.ChoicePart.TheVariants.{First, Second}
use Rattle.k42_choice.proofs.ChosenRows.{at_first, at_second, moved_there}
use Rattle.k42_choice.proofs.choice.ChoiceLiving.step_one.Goals as goal

pub step_one-requires-clause-reached : goal.step_one-requires-clause-reached
step_one-requires-clause-reached g c = (at_first g.A.Living.gone (g.A.Living.ways c.args.self.now.first) (g.A.Living.whole c.args.self.now.first) (g.A.Living.serves c.args.self.now.first) (g.B.Living.ways c.args.self.now.second) (g.B.Living.whole c.args.self.now.second) (g.B.Living.serves c.args.self.now.second) c.args.self.now.at_second c.args.part.now c.in-First.part c.args.op.now c.in-First.is c.requires.reached).reached

pub returns-in-First-clause-replied : goal.returns-in-First-clause-replied
returns-in-First-clause-replied g c =
    let steps = at_first g.A.Living.gone (g.A.Living.ways c.args.self.now.first) (g.A.Living.whole c.args.self.now.first) (g.A.Living.serves c.args.self.now.first) (g.B.Living.ways c.args.self.now.second) (g.B.Living.whole c.args.self.now.second) (g.B.Living.serves c.args.self.now.second) c.args.self.now.at_second c.args.part.now c.in-First.part c.args.op.now c.in-First.is c.requires.reached in
    subst (λ given. IfOk c.step_one.result (λ reply. reply ≡ given)) (sym steps.replied) c.step_one.ensures.replied

pub returns-in-First-clause-moved : goal.returns-in-First-clause-moved
returns-in-First-clause-moved g c =
    let steps = at_first g.A.Living.gone (g.A.Living.ways c.args.self.now.first) (g.A.Living.whole c.args.self.now.first) (g.A.Living.serves c.args.self.now.first) (g.B.Living.ways c.args.self.now.second) (g.B.Living.whole c.args.self.now.second) (g.B.Living.serves c.args.self.now.second) c.args.self.now.at_second c.args.part.now c.in-First.part c.args.op.now c.in-First.is c.requires.reached in
    moved_there (choice_ways c.args.self.now.at_second g.A.Living.gone (g.A.Living.ways c.args.self.now.first) (g.B.Living.ways c.args.self.now.second)) (g.A.Living.ways c.args.self.now.first) (g.A.Living.whole c.args.self.now.first) First c.in-First.part c.step_one.new.part c.args.part.now c.args.op.now c.step_one.result
    steps c.step_one.ensures.moved

pub step_one-requires-in-Second-clause-reached : goal.step_one-requires-in-Second-clause-reached
step_one-requires-in-Second-clause-reached g c = (at_second g.A.Living.gone (g.A.Living.ways c.args.self.now.first) (g.A.Living.whole c.args.self.now.first) (g.A.Living.serves c.args.self.now.first) (g.B.Living.ways c.args.self.now.second) (g.B.Living.whole c.args.self.now.second) (g.B.Living.serves c.args.self.now.second) c.args.self.now.at_second c.args.part.now c.in-Second.part c.args.op.now c.in-Second.is c.requires.reached).reached

pub returns-in-Second-clause-replied : goal.returns-in-Second-clause-replied
returns-in-Second-clause-replied g c =
    let steps = at_second g.A.Living.gone (g.A.Living.ways c.args.self.now.first) (g.A.Living.whole c.args.self.now.first) (g.A.Living.serves c.args.self.now.first) (g.B.Living.ways c.args.self.now.second) (g.B.Living.whole c.args.self.now.second) (g.B.Living.serves c.args.self.now.second) c.args.self.now.at_second c.args.part.now c.in-Second.part c.args.op.now c.in-Second.is c.requires.reached in
    subst (λ given. IfOk c.step_one-in-Second.result (λ reply. reply ≡ given)) (sym steps.replied) c.step_one-in-Second.ensures.replied

pub returns-in-Second-clause-moved : goal.returns-in-Second-clause-moved
returns-in-Second-clause-moved g c =
    let steps = at_second g.A.Living.gone (g.A.Living.ways c.args.self.now.first) (g.A.Living.whole c.args.self.now.first) (g.A.Living.serves c.args.self.now.first) (g.B.Living.ways c.args.self.now.second) (g.B.Living.whole c.args.self.now.second) (g.B.Living.serves c.args.self.now.second) c.args.self.now.at_second c.args.part.now c.in-Second.part c.args.op.now c.in-Second.is c.requires.reached in
    moved_there (choice_ways c.args.self.now.at_second g.A.Living.gone (g.A.Living.ways c.args.self.now.first) (g.B.Living.ways c.args.self.now.second)) (g.B.Living.ways c.args.self.now.second) (g.B.Living.whole c.args.self.now.second) Second c.in-Second.part c.step_one-in-Second.new.part c.args.part.now c.args.op.now c.step_one-in-Second.result
    steps c.step_one-in-Second.ensures.moved
