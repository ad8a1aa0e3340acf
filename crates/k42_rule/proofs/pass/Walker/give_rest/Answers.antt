use Rattle.std.proofs.Common.{ap, ◌∙◌, subst}
use Rattle.k42_stamp.specs.Lists.{IsListOf}
use Rattle.k42_board.specs.Seen.{Own, PassSeen}
use Rattle.k42_board.specs.Views.{pass_in}
use Rattle.k42_rule.specs.Sections.{HasParts}
use Rattle.k42_rule.proofs.GivenSections.{kept_none}
use Rattle.k42_rule.proofs.pass.Walker.give_rest.Goals as goal

pub returns-clause-parts : goal.returns-clause-parts
returns-clause-parts g c =
    let has = c.self.invariant.13 in
    subst (λ (pass : PassSeen _ _ _). HasParts pass) c.self.view_is
    (record {
      list = subst (λ n. IsListOf n (pass_in c.self.inside.seat.me.0).taker.mine) (ap (λ (o : Own). o.number) c.self.invariant.0.own_is) has.list;
      parted = has.parted;
    })

pub invariant_of-self : goal.invariant_of-self
invariant_of-self g c =
    let self = c.self.inside in let old = c.self.invariant in (
      old.0,
      old.1,
      old.2,
      old.3,
      old.4,
      old.5,
      old.6,
      old.7,
      old.8,
      old.9,
      old.10,
      old.11,
      old.12,
      kept_none _ self.number self.home _ self.kept _ self.clock self.drawn (ap (λ (p : PassSeen _ _ _). p.keep.what) c.self.view_is ∙ c.requires) old.13 (ap (λ (o : Own). o.drawn) old.0.own_is)
          (c.replace-kept.ensures.after ∙ c.new-log.ensures),
      old.14,
      old.15,
      old.16,
      old.17,
      old.18,
      old.19,
      old.20,
    )
