use Rattle.std.proofs.Common.{IsTrue, sym, subst}
use Rattle.k42_limits.specs.declared.TheConstants.{NAME_BYTES}
use Rattle.k42_kinds.specs.Words.{is_name}
use Rattle.k42_kinds.proofs.PaddedFront.{front_again, padded_front}
use Rattle.k42_kinds.proofs.WordLengths.{name_few}
use Rattle.k42_kinds.proofs.name.Name.again.Goals as goal

pub invariant_of-result : goal.invariant_of-result
invariant_of-result c = (
  padded_front NAME_BYTES c.args.bytes.now c.copy_from_slice.new.self (name_few c.args.bytes.now c.requires) c.copy_from_slice.ensures.after,
  subst (λ bytes. IsTrue (is_name bytes)) (sym (front_again NAME_BYTES c.args.bytes.now c.copy_from_slice.new.self c.copy_from_slice.ensures.after)) c.requires,
)
