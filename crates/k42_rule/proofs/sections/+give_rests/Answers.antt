use Rattle.std.proofs.Common.{◌≡◌}
use Rattle.k42_board.specs.Seen.{PassSeen}
use Rattle.k42_board.specs.declared.keep.Keep.TheVariants as keeps
use Rattle.k42_rule.specs.Sections.{HasParts}
use Rattle.k42_rule.proofs.RaisedClocks.{each_both, each_first, each_other}
use Rattle.k42_rule.proofs.sections.+give_rests.Goals as goal

pub give_rest-requires : goal.give_rest-requires
give_rest-requires g t c = each_first (λ (pass : PassSeen _ _ _). pass.keep.what ≡ keeps.Sections) _ _ _ c.in-Some.ensures.cases.0 c.requires.keeps

pub give_rests-requires-clause-keeps : goal.give_rests-requires-clause-keeps
give_rests-requires-clause-keeps g t c κs within =
    each_other (λ (pass : PassSeen _ _ _). pass.keep.what ≡ keeps.Sections) _ _ _ c.in-Some.ensures.cases.0 c.requires.keeps

pub returns-in-Some-clause-parts : goal.returns-in-Some-clause-parts
returns-in-Some-clause-parts g t c =
    each_both (λ (pass : PassSeen _ _ _). HasParts pass) _ _ _ c.in-Some.ensures.cases.0 c.give_rest.ensures.parts c.give_rests.ensures.parts
