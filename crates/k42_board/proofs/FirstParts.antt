-- No part is due in a new state but the empty one.
use Rattle.std.proofs.Common.{◌≡◌, ℕ, zero, suc, ◌+◌, ◌-◌, ◌/◌, Bool, true, false, cond, eqb, List, [], ◌∷◌, ◌++◌, Some, None, map, length, get_or, replicate, sym, refl, ap, ◌∙◌, subst, arith}
use Rattle.std.specs.List.{slice_get, AllByRecursion}
use Rattle.std.specs.Prelude.{option_map}
use Rattle.std.proofs.lemmas.Option.{same_Some}
use Rattle.std.proofs.Math.ListN.{get_or-map}
use Rattle.k42_kinds.specs.declared.entry.Entry.{Entry}
use Rattle.k42_kinds.specs.Rows.{Ways, made_from, part_at}
use Rattle.k42_shapes.specs.Shapes.{cells_of}
use Rattle.turn_core.specs.State.{fresh_cell}
use Rattle.turn_core.specs.Plain.{Cell}
use Rattle.k42_stamp.specs.Chains.{Chain, Row, Turn, part_of, start_of}
use Rattle.k42_stamp.specs.Laws.{AreLaws}
use Rattle.k42_stamp.specs.Layouts.{Layouts, shape_of}
use Rattle.k42_stamp.proofs.Needed.{entries_all}
use Rattle.k42_joined.specs.Fresh.{first_lives, fresh}
use Rattle.k42_joined.specs.Numbers.{object_of, place_of, cell_of}
use Rattle.k42_joined.specs.Plain.{Joined}
use Rattle.k42_joined.specs.Rows.{history_in}
use Rattle.k42_joined.specs.State.{cell, layouts_of}
use Rattle.k42_board.specs.Parts.{row_in, HasDue, IsPart}

pub same_everywhere : {A : Type 0} (n i : ℕ) (a : A) → get_or (replicate n a) i a ≡ a
same_everywhere zero i a = refl
same_everywhere (suc n) zero a = refl
same_everywhere (suc n) (suc i) a = same_everywhere n i a

made_due : {S P O R : Type 0} (ways : Ways S P O R) (procs first cells place : ℕ)
    → HasDue ways procs (first + place) None (part_at (made_from (ways.empty procs) first cells) place)
made_due ways procs first zero place = tt
made_due ways procs first (suc cells) zero = ap (ways.empty procs) (omega arith)
made_due ways procs first (suc cells) (suc place) =
    subst (λ z. HasDue ways procs z None (part_at (made_from (ways.empty procs) (suc first) cells) place)) (omega arith) (made_due ways procs (suc first) cells place)

none_of : {O R : Type 0} (entries : List (Entry O R)) → AllByRecursion (λ e. ⊥) entries → entries ≡ []
none_of [] all = refl
none_of (e ∷ entries) all = absurd all.0

no_past : {A B : Type 0} (f : A → B) (xs : List A) → map f xs ≡ [] → xs ≡ []
no_past f [] e = refl
no_past f (x ∷ xs) e = absurd (cc)

tail_of : {A : Type 0} (x y : A) (xs ys : List A) → x ∷ xs ≡ y ∷ ys → xs ≡ ys
tail_of x y xs ys e = cc

module _ {S L P O R : Type 0} (F : Layouts S L P O R) (laws : AreLaws F) (declared : List L) (callers : List ℕ) where
  abbrev s : Joined L O R
  s = fresh F declared callers

  pub no_hands : (o : ℕ) → layouts_of s o ≡ []
  no_hands o = same_everywhere {A = List L} (length declared) o []

  pub cell_new : (n : ℕ) → cell s n ≡ fresh_cell (get_or (first_lives (length declared)) n 0)
  cell_new n = get_or-map fresh_cell (first_lives (length declared)) n 0

  history_empty : (o row p : ℕ) → history_in s o row p ≡ []
  history_empty o row p = ap (λ (x : Cell O R). get_or (x.past ++ x.history ∷ []) (row / 2) []) (cell_new (cell_of o row p)) ∙ one (row / 2) where
    one : (k : ℕ) → get_or {A = List (Entry O R)} ([] ∷ []) k [] ≡ []
    one zero = refl
    one (suc k) = refl

  due_first : (chain : Chain L P O R) (row : Row L P O R) (life place : ℕ) → chain.past ≡ [] → chain.row.entries ≡ []
      → chain.row.start ≡ start_of F [] chain.row.layout → row_in chain life ≡ Some row
      → HasDue (F.ways_of row.layout) F.procs place None (part_of F row place)
  due_first chain row life place no_turn no_entry started here = by_test (eqb life (length chain.past)) here where
    by_test : (b : Bool) → cond b (Some chain.row) (option_map (λ turn. turn.row) (slice_get chain.past (length chain.past - 1 - life))) ≡ Some row
        → HasDue (F.ways_of row.layout) F.procs place None (part_of F row place)
    by_test true is =
        subst (λ (z : Row L P O R). HasDue (F.ways_of z.layout) F.procs place None (part_of F z place)) (same_Some chain.row row is)
        (subst (λ (parts : List P). HasDue (F.ways_of chain.row.layout) F.procs place None (part_at parts place))
        (sym (rw no_entry started))
        (subst
        (λ z. HasDue (F.ways_of chain.row.layout) F.procs z None (part_at (made_from ((F.ways_of chain.row.layout).empty F.procs) 0 (cells_of (shape_of F chain.row.layout) F.procs)) place))
        (omega arith) (made_due (F.ways_of chain.row.layout) F.procs 0 (cells_of (shape_of F chain.row.layout) F.procs) place)))
    by_test false is = absurd (none (ap (λ (past : List (Turn L P O R)). option_map (λ turn. turn.row) (slice_get past (length chain.past - 1 - life))) (sym no_turn) ∙ is)) where
      none : None ≡ Some row → ⊥
      none e = cc

  pub first_part : (n : ℕ) → IsPart F declared s n None
  first_part n = record {
    due = λ declaration chain row declares rows here kept.
        let o = object_of n in
        let past : chain.past ≡ [] =
        no_past (λ turn. turn.row.layout) chain.past (tail_of _ _ _ _ (rows.layouts ∙ ap (λ z. z ++ declaration ∷ []) (no_hands o))) in
        let none : chain.row.entries ≡ [] =
        none_of chain.row.entries
        (entries_all F laws chain.row.layout rows.fits.row.known (λ e. ⊥) o (length chain.past) (history_in s o (length chain.past)) _ chain.row.entries
        rows.fits.row.own rows.fits.left (λ c lt. subst (AllByRecursion (λ e. ⊥)) (sym (history_empty o (length chain.past) c)) tt)) in
        due_first chain row (cell s n).life (place_of n) past none (rows.fits.row.started ∙ ap (λ z. start_of F z chain.row.layout) past) here;
    before = λ less. refl;
  }
