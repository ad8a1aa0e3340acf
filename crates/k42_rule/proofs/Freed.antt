-- A pass that frees rows: what it has of them mirrors its view, and it keeps its entries.
use Rattle.std.proofs.Common.{◌≡◌, ℕ, true, None, [], nat_lt, if◌then◌else◌, slice_set, refl, sym, ap, subst}
use Rattle.k42_board.specs.Freeing.{freed_view, number_noted}
use Rattle.k42_board.specs.Log.{took}
use Rattle.k42_board.specs.Seen.{IsSeatOf, Mirrors, Own, own_in}
use Rattle.k42_board.specs.Steps.{Seated}
use Rattle.k42_board.specs.Views.{pass_in}
use Rattle.k42_board.specs.Words.{freed_word}
use Rattle.k42_board.specs.declared.view.PassView.{PassView}
use Rattle.k42_board.specs.declared.view.StepName.TheVariants as steps

-- freeing draws nothing
pub free_keeps : {P O R : Type 0} (v : PassView P O R) (me : Seated P O R) (o found : ℕ) → IsSeatOf me (took steps.Free (freed_word o) found (freed_view o found v))
    → (pass_in me.0).taker.mine ≡ v.taker.mine
free_keeps {P} {O} {R} v me o found seat = ap (λ (m : Seated P O R). (pass_in m.0).taker.mine) seat

pub free_mirrors :
    {P O R : Type 0} (v : PassView P O R) (own : Own) (own_is : own ≡ own_in v) (me : Seated P O R) (o found number : ℕ)
    → IsSeatOf me (took steps.Free (freed_word o) found (freed_view o found v)) → nat_lt found number ≡ true → number ≡ number_noted v o → v.out ≡ None → v.untold ≡ []
    → Mirrors me (record own { freeing = slice_set own.freeing o (found, number) })
free_mirrors {P} {O} {R} v own own_is me o found number seat less number_is out untold =
    subst (λ (m : Seated P O R). Mirrors m (record own { freeing = slice_set own.freeing o (found, number) })) (sym there)
    (record { seat = refl; own_is = rw (number_is, own_is) refl; out = out; told = untold }) where
      short : nat_lt found (number_noted v o) ≡ true
      short = subst (λ n. nat_lt found n ≡ true) number_is less

      there : IsSeatOf me (took steps.Free (freed_word o) found (record v { visitor = record v.visitor { freeing = slice_set v.visitor.freeing o (found, number_noted v o) } }))
      there =
          subst (λ b. IsSeatOf me (took steps.Free (freed_word o) found (record v { visitor = if b then record v.visitor { freeing = slice_set v.visitor.freeing o (found, number_noted v o) } else v.visitor })))
          short seat
