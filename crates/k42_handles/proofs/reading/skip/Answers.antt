use Rattle.std.proofs.Common.{◌≡◌, ◌∙◌, ◌≤◌, drop, true, rules, ap, sym}
use Rattle.std.specs.Prelude.{is_none, slice_get}
use Rattle.k42_handles.proofs.ReadEntries.{none_is, skip_all, skip_one}
use Rattle.k42_handles.proofs.reading.skip.Goals as goal

pub returns-then-is_none : goal.returns-then-is_none
returns-then-is_none c =
    let tested : is_none c.next.result ≡ true = search rules in
    let within : c.loop.counter ≤ c.args.count = search rules in
    let none = ap (λ xs. slice_get xs 0) (sym c.loop.invariant) ∙ sym c.next.ensures.next ∙ none_is c.next.result tested in
    c.next.ensures.rest ∙ ap (drop 1) c.loop.invariant ∙ skip_all c.loop.counter c.args.count c.args.reader.now none within

pub loop-preserved : goal.loop-preserved
loop-preserved c = c.next.ensures.rest ∙ ap (drop 1) c.loop.invariant ∙ skip_one c.loop.counter c.args.reader.now
