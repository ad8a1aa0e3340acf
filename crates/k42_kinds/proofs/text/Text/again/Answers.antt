use Rattle.std.proofs.Common.{IsTrue, sym, subst}
use Rattle.k42_limits.specs.declared.TheConstants.{TEXT_BYTES}
use Rattle.k42_kinds.specs.Words.{is_text}
use Rattle.k42_kinds.proofs.PaddedFront.{front_again, padded_front}
use Rattle.k42_kinds.proofs.WordLengths.{text_few}
use Rattle.k42_kinds.proofs.text.Text.again.Goals as goal

pub invariant_of-result : goal.invariant_of-result
invariant_of-result c = (
  padded_front TEXT_BYTES c.args.bytes.now c.copy_from_slice.new.self (text_few c.args.bytes.now c.requires) c.copy_from_slice.ensures.after,
  subst (λ bytes. IsTrue (is_text bytes)) (sym (front_again TEXT_BYTES c.args.bytes.now c.copy_from_slice.new.self c.copy_from_slice.ensures.after)) c.requires,
)
