-- The passes with which a table is opened are new.
use Rattle.std.proofs.Common.{◌≡◌, ℕ, zero, suc, ◌+◌, ◌∙◌, List, [], ◌∷◌, Some, map, ap, arith}
use lib.ListN.{get_elem?}
use Rattle.std.specs.List.{slice_get}
use Rattle.std.proofs.lemmas.Option.{same_Some}
use Rattle.atomic_table.specs.Table.{State, opening}
use Rattle.k42_shapes.specs.declared.shape.Shape.{Shape}
use Rattle.k42_board.specs.Cells.{Slot}
use Rattle.k42_board.specs.Views.{new_pass, new_passes, first_view}
use Rattle.k42_board.specs.declared.view.View.{View}
use Rattle.table_laws.specs.Opening.{AreNewPasses}

pass_at : {P O R : Type 0} (procs : ℕ) (shapes : List (List Shape)) (first : ℕ) (homes : List ℕ) (c home : ℕ) → slice_get homes c ≡ Some home
    → slice_get (new_passes {P = P} {O = O} {R = R} procs shapes first homes) c ≡ Some (new_pass procs shapes (first + c) home)
pass_at procs shapes first [] c home at = absurd (cc)
pass_at {P} {O} {R} procs shapes first (other ∷ homes) zero home at =
    ap (λ (p : ℕ). Some (new_pass {P = P} {O = O} {R = R} procs shapes first p)) (same_Some other home at)
    ∙ ap (λ n. Some (new_pass {P = P} {O = O} {R = R} procs shapes n home)) (omega arith)
pass_at {P} {O} {R} procs shapes first (other ∷ homes) (suc c) home at =
    pass_at {P = P} {O = O} {R = R} procs shapes (first + 1) homes c home at ∙ ap (λ n. Some (new_pass {P = P} {O = O} {R = R} procs shapes n home)) (omega arith)

pub passes_opened : {L P O R : Type 0} (shapes_of : L → List Shape) (procs : ℕ) (declared : List L) (callers words : List ℕ) (slots : List (Slot P O R)) (table : State (Slot P O R) (View P O R))
    → table ≡ opening words slots (first_view shapes_of procs declared callers) → AreNewPasses procs (map shapes_of declared) callers table.views
passes_opened {P = P} {O} {R} shapes_of procs declared callers words slots table is c home at = record {
  id = 0;
  passes = new_passes {P = P} {O = O} {R = R} procs (map shapes_of declared) 0 callers;
  there = ap (λ (t : State (Slot P O R) (View P O R)). get_elem? t.views 0) is;
  place = c;
  has = pass_at {P = P} {O = O} {R = R} procs (map shapes_of declared) 0 callers c home at ∙ ap (λ n. Some (new_pass {P = P} {O = O} {R = R} procs (map shapes_of declared) n home)) (omega arith);
}
