use Rattle.k42_crews.proofs.FreePasses.{even_tested}
use Rattle.k42_crews.proofs.sections.are_even.Goals as goal

pub returns-in-Some : goal.returns-in-Some
returns-in-Some g c =
    even_tested c.args.passes.now c.in-Some.first.now c.since.result c.are_since.result c.in-Some.ensures.item.0 c.in-Some.ensures.item.1 c.since.ensures.is c.are_since.ensures
