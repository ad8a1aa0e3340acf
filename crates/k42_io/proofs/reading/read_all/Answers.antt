use Rattle.std.proofs.Common.{ℕ, arith}
use Rattle.std.proofs.lemmas.List.{length-take}
use Rattle.std.proofs.lemmas.Result.{err_from_is_err_and}
use Rattle.k42_io.proofs.Relations.{loses-both}
use Rattle.k42_io.proofs.reading.read_all.Goals as goal

pub returns-in_err-extend_from_slice-clause-err : goal.returns-in_err-extend_from_slice-clause-err
returns-in_err-extend_from_slice-clause-err g c =
    let exit = c.from_residual-in_err-extend_from_slice in
    let err = err_from_is_err_and exit.result exit.ensures.1 in
    rw (err.1) (loses-both _ _ _ _ _ _ c.loop-chunk.invariant.0 c.in_ok-count.ensures.bytes.0
    (omega (arith, length-take {A = ℕ}, c.in_ok-count.ensures.bound)))
