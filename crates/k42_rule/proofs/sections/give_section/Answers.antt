use Rattle.std.proofs.Common.{◌≡◌, ◌+◌, ◌≤◌, ◌++◌, length, map, vec_capacity, vec_len, sym, ap, ◌∙◌, subst}
use Rattle.std.proofs.lemmas.List.{length-map}
use Rattle.k42_places.specs.Places.{EachPlace}
use Rattle.k42_places.proofs.EachPlaces.{EachPlace-map}
use Rattle.k42_board.specs.Seen.{PassSeen}
use Rattle.k42_board.specs.Skipping.{greatest_clock}
use Rattle.k42_board.specs.declared.keep.Keep.TheVariants as keeps
use Rattle.k42_rule.specs.Finishing.{logged_in, views_of}
use Rattle.k42_rule.specs.Sections.{given_all, rests_in, skipped}
use Rattle.k42_rule.proofs.CutLists.{cut_lists, raised_parts, raised_rests}
use Rattle.k42_rule.proofs.sections.give_section.Goals as goal

pub raise_clocks-requires-clause-ours : goal.raise_clocks-requires-clause-ours
raise_clocks-requires-clause-ours g c κs within = λ n pass at. (c.requires.may.rest.each n pass at).ours

pub give_rests-requires-clause-keeps : goal.give_rests-requires-clause-keeps
give_rests-requires-clause-keeps g c κs within =
    subst (EachPlace (λ n (pass : PassSeen _ _ _). pass.keep.what ≡ keeps.Sections)) (sym c.raise_clocks.ensures)
    (EachPlace-map (λ n (pass : PassSeen _ _ _). pass.keep.what ≡ keeps.Sections) (skipped (greatest_clock (views_of c.args.passes.now))) c.args.passes.now c.requires.may.keeps)

pub give_rests-requires-clause-room : goal.give_rests-requires-clause-room
give_rests-requires-clause-room g c κs within =
    subst (λ n. vec_len c.args.logs.now + n ≤ vec_capacity c.args.logs.now)
    (sym (ap (λ (ps : _). length ps) c.raise_clocks.ensures ∙ length-map c.args.passes.now (skipped (greatest_clock (views_of c.args.passes.now)))))
    c.requires.room

pub returns-clause-logs : goal.returns-clause-logs
returns-clause-logs g c =
    c.give_rests.ensures.logs
    ∙ ap (λ rests. logged_in c.args.logs.now.items ++ rests)
    (ap rests_in c.raise_clocks.ensures ∙ raised_rests (greatest_clock (views_of c.args.passes.now)) c.args.passes.now)

pub returns-clause-cut : goal.returns-clause-cut
returns-clause-cut g c =
    cut_lists c.args.sys.now c.args.passes.now c.requires.may.rest
    (raised_parts (greatest_clock (views_of c.args.passes.now)) c.args.passes.now c.raise_clocks.new.passes c.raise_clocks.ensures c.give_rests.ensures.parts)
    c.requires.may.even

pub returns-clause-passes : goal.returns-clause-passes
returns-clause-passes g c = c.give_rests.ensures.passes ∙ ap (map given_all) c.raise_clocks.ensures
