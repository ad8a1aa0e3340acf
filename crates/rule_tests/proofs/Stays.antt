-- Steps after which a pass is one of the system as before, and holds no cell.
use Rattle.std.proofs.Common.{◌≡◌, ℕ, zero, suc, Bool, true, false, cond, eqb, length, refl, sym, ap, subst}
use Rattle.std.specs.Prelude.{nat_lt, slice_set}
use Rattle.std.proofs.lemmas.List.{length-set, length-replicate}
use Rattle.k42_kinds.specs.Rows.{made_from}
use Rattle.phase_core.specs.Plain.{Visitor}
use Rattle.k42_board.specs.Freeing.{freed_view, number_noted, visitor_freed}
use Rattle.k42_board.specs.Gracing.{HasGiven, role_view, given_view}
use Rattle.k42_board.specs.Log.{took}
use Rattle.k42_board.specs.Noting.{due_note}
use Rattle.k42_board.specs.Seen.{SysSeen, PassSeen, IsSamePass}
use Rattle.k42_board.specs.Words.{freed_word, role_word}
use Rattle.k42_board.specs.declared.view.StepName.TheVariants.{TakeRole, Free, GiveRole}
use Rattle.table_crews.proofs.Alike.{IsAlike, free_alike}
use Rattle.table_crews.specs.Ready.{HoldsNoCell}

length_made : {A : Type 0} (f : ℕ → A) (first many : ℕ) → length (made_from f first many) ≡ many
length_made f first zero = refl
length_made f first (suc many) = ap suc (length_made f (suc first) many)

-- where it has tried to take the role
pub free_taken : {L P O R : Type 0} (sys : SysSeen L) (old new : PassSeen P O R) (found : ℕ) → HoldsNoCell sys old → IsSamePass old new
    → new.view ≡ took TakeRole role_word found (role_view found old.view) → HoldsNoCell sys new
free_taken sys old new found is same e = free_alike sys old new is same.table same.queue same.keep (subst (IsAlike old.view) (sym e) (go (eqb found 0) refl)) where
  go : (b : Bool) → eqb found 0 ≡ b → IsAlike old.view (took TakeRole role_word found (role_view found old.view))
  go true free = rw free (record {
    proc = refl;
    waits = refl;
    noted = length_made (due_note old.view) 0 (length old.view.visitor.noted);
    freeing = refl;
    held = refl;
    notes = refl;
    shapes = refl;
  })
  go false taken = rw taken (record { proc = refl; waits = refl; noted = refl; freeing = refl; held = refl; notes = refl; shapes = refl })

freed_spans : (x : Visitor) (o found n : ℕ) → length (visitor_freed x o found n).freeing ≡ length x.freeing
freed_spans x o found n = go (nat_lt found n) where
  go : (b : Bool) → length (cond b (record x { freeing = slice_set x.freeing o (found, n) }) x).freeing ≡ length x.freeing
  go true = length-set x.freeing o (found, n)
  go false = refl

freed_noted : (x : Visitor) (o found n : ℕ) → length (visitor_freed x o found n).noted ≡ length x.noted
freed_noted x o found n = go (nat_lt found n) where
  go : (b : Bool) → length (cond b (record x { freeing = slice_set x.freeing o (found, n) }) x).noted ≡ length x.noted
  go true = refl
  go false = refl

-- where it has freed the rows of an object
pub free_freed : {L P O R : Type 0} (sys : SysSeen L) (old new : PassSeen P O R) (o found : ℕ) → HoldsNoCell sys old → IsSamePass old new
    → new.view ≡ took Free (freed_word o) found (freed_view o found old.view) → HoldsNoCell sys new
free_freed sys old new o found is same e =
    free_alike sys old new is same.table same.queue same.keep (subst (IsAlike old.view) (sym e) (record {
      proc = refl;
      waits = refl;
      noted = freed_noted old.view.visitor o found (number_noted old.view o);
      freeing = freed_spans old.view.visitor o found (number_noted old.view o);
      held = refl;
      notes = refl;
      shapes = refl;
    }))

-- where it has given the role back
pub free_given : {L P O R : Type 0} (sys : SysSeen L) (old new : PassSeen P O R) → HoldsNoCell sys old → HasGiven old new
    → new.view ≡ took GiveRole role_word 0 (given_view old.view) → HoldsNoCell sys new
free_given sys old new is given e =
    free_alike sys old new is given.table given.queue given.keep (subst (IsAlike old.view) (sym e) (record {
      proc = refl;
      waits = refl;
      noted = refl;
      freeing = length-replicate (length old.view.visitor.freeing) (0, 0);
      held = refl;
      notes = refl;
      shapes = refl;
    }))
