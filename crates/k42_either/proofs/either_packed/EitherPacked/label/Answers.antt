use Rattle.std.proofs.Common.{sym, subst}
use Rattle.k42_kinds.specs.Packing.{IsPacked}
use Rattle.k42_either.specs.EitherPackings.{either_packing}
use Rattle.k42_either.specs.declared.either.Either.{Either}
use Rattle.k42_either.proofs.PackedEithers.{packed_first, packed_second}
use Rattle.k42_either.proofs.either_packed.EitherPacked.label.Goals as goal

pub returns-in-First-clause-packed : goal.returns-in-First-clause-packed
returns-in-First-clause-packed g c =
    subst (λ (value : Either _ _). IsPacked (either_packing g.A.Packed.packing g.B.Packed.packing) value) (sym c.in-First.is)
    (packed_first g.A.Packed.packing g.B.Packed.packing c.in-First.value c.label-label.ensures.packed)

pub returns-in-Second-clause-packed : goal.returns-in-Second-clause-packed
returns-in-Second-clause-packed g c =
    subst (λ (value : Either _ _). IsPacked (either_packing g.A.Packed.packing g.B.Packed.packing) value) (sym c.in-Second.is)
    (packed_second g.A.Packed.packing g.B.Packed.packing c.in-Second.value c.label-label-in-Second.ensures.packed)
