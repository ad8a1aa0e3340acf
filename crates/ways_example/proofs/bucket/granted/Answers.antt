use Rattle.std.proofs.Common.{rules, ◌%◌, [], ◌∷◌, List, refl, subst, ap, ◌∙◌}
use Rattle.k42_kinds.specs.Legal.{IsLegalHistoryOf}
use Rattle.co_limiter.specs.GivenIn.{given_in, latest_in}
use Rattle.ways_example.proofs.GivenTokens.{no_more}
use Rattle.ways_example.proofs.bucket.granted.Goals as goal

pub returns : goal.returns
returns g c =
    let legal : IsLegalHistoryOf g.L.Kind.object c.args.system.plan.objects c.in-Some.entries.items = search rules in
    let here = subst (λ (objects : List _). IsLegalHistoryOf g.L.Kind.object objects c.in-Some.entries.items) c.requires.object legal in
    let limited = c.histories_are_limited.ensures.limited c.args.bucket.now (c.args.layout ∷ []) c.args.layout 0 c.in-Some.entries.items here refl c.requires.bucket in
    let told = c.all_tokens.ensures in
    let entries = c.deref.ensures.value in
    record {
      limited = no_more (given_in 0 c.in-Some.entries.items) c.all_tokens.result c.args.bucket.now.capacity c.args.bucket.now.rate (latest_in 0 c.in-Some.entries.items)
          (told ∙ ap (λ list. given_in 0 list % 18446744073709551616) entries) c.requires.still limited;
    }
