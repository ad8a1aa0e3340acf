use Rattle.std.proofs.Common.{rules, ◌≡◌, ◌∙◌, ◌++◌, take, drop, replicate, length, min, ap}
use Rattle.k42_limits.specs.declared.TheConstants.{TEXT_BYTES}
use Rattle.k42_handles.proofs.Cells.{copied, counted}
use Rattle.k42_handles.proofs.plain.plain_text.Goals as goal

pub returns : goal.returns
returns c =
    let n = c.min-length.result in
    let t = c.args.text.now in
    let is : n ≡ min (length t) TEXT_BYTES = search rules in
    let front : c.copy_from_slice.new.self ≡ take n t = search rules in
    λ i. record { length = counted TEXT_BYTES t n is i; bytes = (ap (λ f. f ++ drop n (replicate TEXT_BYTES 0)) front ∙ copied TEXT_BYTES t n is) i }
