use Rattle.std.proofs.Common.{ap, length, arith}
use Rattle.std.proofs.lemmas.Result.{err_from_is_err_and}
use Rattle.k42_log.proofs.Sizes.{more_fitting, none_fitting}
use Rattle.k42_log.proofs.stored.Stored.reserve.Goals as goal

pub returns-in_err-reserve-clause-memory : goal.returns-in_err-reserve-clause-memory
returns-in_err-reserve-clause-memory c =
    let err = err_from_is_err_and c.from_residual.result c.from_residual.ensures.1 in
    rw err.1 (none_fitting c.args.over _ c.requires.words
    (omega (arith, c.in_err-reserve.ensures.full, c.in_err-reserve.ensures.err, c.reserve.ensures.len, c.reserve.new.self.ok.0, c.requires.words)))

pub returns-clause-fitting : goal.returns-clause-fitting
returns-clause-fitting c =
    more_fitting c.args.over _ _ c.requires.words c.requires.bytes (record {
      words = omega (arith, c.reserve.ensures.capacity, ap length c.reserve.ensures.items);
      bytes = omega (arith, c.reserve-2.ensures.capacity, ap length c.reserve-2.ensures.items);
    })
