use Rattle.std.proofs.Common.{◌∙◌, ◌<◌, [], ◌∷◌, ◌++◌, ap, sym, subst}
use Rattle.k42_limits.specs.declared.TheConstants.{PASS_ENTRIES}
use Rattle.k42_log.specs.Stored.{details_in}
use Rattle.k42_log.specs.Logs.{IsNextOf, LogSeen, next_index}
use Rattle.k42_log.proofs.Pushed.{Gives, fits_pushed, swap_pushed}
use Rattle.k42_log.proofs.log.Log.push.Goals as goal

given : (g : _) (c : goal.After-push_reserved g)
    → Gives g.O.Packed.packing g.R.Packed.packing c.self.inside c.push_reserved.new.self.items (details_in c.self.inside.stored) c.args.entry.now
given g c =
    swap_pushed g.O.Packed.packing g.R.Packed.packing c.self.inside c.args.entry.now c.in-Swap.to
    (record {
      stamp = c.args.entry.now.stamp;
      incarnation = c.args.entry.now.incarnation;
      generation = c.generation_or_0.result;
      small = c.answer_small.result;
      place = c.place_of.result;
      act = c.to_name.result;
      answer = c.end_name.result;
    }) _ c.self.invariant (subst (λ (log : LogSeen _ _). IsNextOf log c.args.entry.now) (sym c.self.view_is) c.requires.next) c.in-Swap.is
    (λ i. record {
      stamp = c.args.entry.now.stamp;
      incarnation = c.args.entry.now.incarnation;
      generation = c.generation_or_0.ensures i;
      small = c.answer_small.ensures i;
      place = c.place_of.ensures i;
      act = c.to_name.ensures i;
      answer = c.end_name.ensures i;
    })
    c.push_reserved.ensures.items

pub invariant_of-self : goal.invariant_of-self
invariant_of-self g c = record {
  whole = (given g c).whole;
  fits = fits_pushed g.O.Packed.packing g.R.Packed.packing c.self.inside _ _
      (subst (λ (log : LogSeen _ _). next_index log < PASS_ENTRIES) (sym c.self.view_is) (subst (λ n. n < PASS_ENTRIES) c.requires.next.index c.requires.next.few))
      c.push_reserved.ensures.items;
}

pub returns-in-Swap-clause-entries : goal.returns-in-Swap-clause-entries
returns-in-Swap-clause-entries g c =
    (given g c).entries ∙ ap (λ (log : LogSeen _ _). log.entries ++ c.args.entry.now ∷ []) c.self.view_is
