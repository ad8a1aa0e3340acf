use Rattle.k42_either.specs.declared.either.Either.TheVariants.{First}
use Rattle.k42_either.proofs.EitherParts.{first_reached, second_reached}
use Rattle.k42_either.proofs.either_layout.EitherLayout.step_one.Goals as goal

pub step_one-requires-clause-reached : goal.step_one-requires-clause-reached
step_one-requires-clause-reached g c =
    let here = c.in-First-First-First in
    first_reached (First g.A.Reply.Gone.gone) g.A.Layout.ways g.B.Layout.ways g.A.Layout.whole g.B.Layout.whole c.args.self.now c.args.part.now c.args.op.now c.requires.reached
    here.layout here.part here.op here.is-0 here.is-1 here.is-2

pub step_one-requires-in-Second-Second-Second-clause-reached : goal.step_one-requires-in-Second-Second-Second-clause-reached
step_one-requires-in-Second-Second-Second-clause-reached g c =
    let here = c.in-Second-Second-Second in
    second_reached (First g.A.Reply.Gone.gone) g.A.Layout.ways g.B.Layout.ways g.A.Layout.whole g.B.Layout.whole c.args.self.now c.args.part.now c.args.op.now c.requires.reached
    here.layout here.part here.op here.is-0 here.is-1 here.is-2
