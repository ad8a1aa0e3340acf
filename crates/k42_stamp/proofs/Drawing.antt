-- A draw keeps that the rows fit, wherever in the order its entry comes.
use Rattle.std.proofs.Common.{◌≡◌, ◌≢◌, ℕ, ◌<◌, Bool, true, false, cond, List, [], ◌∷◌, ◌++◌, length, refl, sym, ap, ◌∙◌, ◌⊎◌, ⊎_elim, append_assoc, arith}
use Rattle.std.specs.List.{AllByRecursion}
use Rattle.std.proofs.lemmas.Bool.{eq-eqb, ne_eqb}
use Rattle.std.proofs.lemmas.List.{append-nil}
use Rattle.std.proofs.lemmas.List.Elements.{filter-append}
use Rattle.k42_kinds.specs.declared.entry.Entry.{Entry}
use Rattle.k42_kinds.specs.Rows.{IsWithin}
use Rattle.k42_stamp.specs.Orders.{IsBefore}
use Rattle.k42_stamp.specs.Replays.{replayed}
use Rattle.k42_stamp.specs.Layouts.{Layouts}
use Rattle.k42_stamp.specs.Parts.{reach_of, touches, those_at, part_steps}
use Rattle.k42_stamp.specs.Chains.{Chain, first_of}
use Rattle.k42_stamp.specs.Fits.{IsEntryOf, IsAbove, Fits}
use Rattle.k42_stamp.specs.Draws.{IsLater, IsNext, drawn_at, Draws}
use Rattle.k42_stamp.specs.Laws.{AreLaws}
use Rattle.k42_stamp.proofs.Elements.{all_weaker, all_both, all_back, all_inserted, filter-none}
use Rattle.k42_stamp.proofs.Ordering.{Placed, placed, Ordered-inserted, before-trans, before_stamp, side_of}
use Rattle.k42_stamp.proofs.Late.{inserted_answered, inserted_replayed}
use Rattle.k42_stamp.proofs.PartSteps.{AreDisjoint, parts_apart}
use Rattle.k42_stamp.proofs.Needed.{disjoint_or, disjoint_misses, needed, entry_within, all_within, entries_told, first_above, past_left-same}

-- what is left at a cell after the draw
left_drawn : {S L P O R : Type 0} (F : Layouts S L P O R) (layout : L) (c : ℕ) (e : Entry O R) (first history front back : List (Entry O R)) (b : Bool) → touches (reach_of F layout e) c ≡ b → history ≡ first ++ those_at F layout c (front ++ back)
    → AllByRecursion (λ f. AreDisjoint (reach_of F layout e) (reach_of F layout f)) back → cond b (history ++ e ∷ []) history ≡ first ++ those_at F layout c (front ++ e ∷ back)
left_drawn F layout c e first history front back true t left apart =
    let none : those_at F layout c back ≡ [] = filter-none (λ f. touches (reach_of F layout f) c) back
    (all_weaker (λ f. AreDisjoint (reach_of F layout e) (reach_of F layout f)) (λ f. touches (reach_of F layout f) c ≡ false) (λ f d. disjoint_misses c (reach_of F layout e) (reach_of F layout f) d t) back apart) in
    rw (left, filter-append (λ f. touches (reach_of F layout f) c) front back, filter-append (λ f. touches (reach_of F layout f) c) front (e ∷ back), t, none, append-nil)
    (append_assoc first (those_at F layout c front) (e ∷ []))
left_drawn F layout c e first history front back false t left apart =
    rw (left, filter-append (λ f. touches (reach_of F layout f) c) front back, filter-append (λ f. touches (reach_of F layout f) c) front (e ∷ back), t) refl

module _ {S L P O R : Type 0} (F : Layouts S L P O R) (declared : L) (o : ℕ) (histories : ℕ → ℕ → List (Entry O R)) (chain : Chain L P O R) (e : Entry O R) where
  drawn_here : (cell : ℕ) → drawn_at F chain.row.layout e (length chain.past) histories (length chain.past) cell ≡ cond (touches (reach_of F chain.row.layout e) cell) (histories (length chain.past) cell ++ e ∷ []) (histories (length chain.past) cell)
  drawn_here cell = rw (eq-eqb (length chain.past) (length chain.past) refl) refl

  pub drawn_else : (row cell : ℕ) → row ≢ length chain.past → drawn_at F chain.row.layout e (length chain.past) histories row cell ≡ histories row cell
  drawn_else row cell other = rw (ne_eqb row (length chain.past) other) refl

  module _ (laws : AreLaws F) (fits : Fits F declared o histories chain) (next : IsNext F o histories chain e) where
    within : IsWithin F.procs (reach_of F chain.row.layout e)
    within = entry_within F laws chain.row.layout fits.row.known o (length chain.past) e next.own

    -- what is not below the new entry needs none of its cells
    apart_after : AllByRecursion (λ f. IsBefore e f → AreDisjoint (reach_of F chain.row.layout e) (reach_of F chain.row.layout f)) chain.row.entries
    apart_after =
        let layout = chain.row.layout in
        let shared = entries_told F laws layout fits.row.known (IsLater e) (λ c. touches (reach_of F layout e) c ≡ true) (histories (length chain.past)) (first_of chain.past) chain.row.entries fits.left next.later in
        let Told : Entry O R → Type 0 = λ f. (t : (c : ℕ) × (c < F.procs) × (touches (reach_of F layout e) c ≡ true)) → touches (reach_of F layout f) t.0 ≡ true → IsLater e f in
        all_weaker (λ f. IsWithin F.procs (reach_of F layout f) × Told f) (λ f. IsBefore e f → AreDisjoint (reach_of F layout e) (reach_of F layout f))
        (λ f h b. ⊎_elim {C = AreDisjoint (reach_of F layout e) (reach_of F layout f)} (λ d. d)
        (λ (t : (c : ℕ) × (c < F.procs) × (touches (reach_of F layout e) c ≡ true) × (touches (reach_of F layout f) c ≡ true)).
        let low : f.stamp < e.stamp = h.1 (t.0, t.1, t.2) t.3 in let high = before_stamp e f b in absurd (omega arith))
        (disjoint_or F.procs (reach_of F layout e) (reach_of F layout f) within h.0))
        chain.row.entries
        (all_both (λ f. IsWithin F.procs (reach_of F layout f)) Told chain.row.entries (all_within F laws layout fits.row.known o (length chain.past) chain.row.entries fits.row.own) shared)

    place : Placed IsBefore before-trans e chain.row.entries
    place = placed IsBefore before-trans e chain.row.entries fits.row.ordered
        (all_weaker (λ f. f.caller ≡ e.caller → IsLater e f) (λ f. IsBefore f e ⊎ IsBefore e f) (λ f h. side_of e f h) chain.row.entries next.after_own)

    free : AllByRecursion (λ f. AreDisjoint (reach_of F chain.row.layout e) (reach_of F chain.row.layout f)) place.back
    free =
        let Apart : Entry O R → Type 0 = λ f. AreDisjoint (reach_of F chain.row.layout e) (reach_of F chain.row.layout f) in
        let apart = all_back (λ f. IsBefore e f → Apart f) place.front place.back (rw place.cut at apart_after) in
        all_weaker (λ f. IsBefore e f × (IsBefore e f → Apart f)) Apart (λ f h. h.1 h.0) place.back (all_both (IsBefore e) (λ f. IsBefore e f → Apart f) place.back place.higher apart)

    above : IsAbove chain.past e
    above =
        let c = needed F.procs (reach_of F chain.row.layout e) within in
        first_above chain.past (those_at F chain.row.layout c.0 chain.row.entries) e (rw (fits.left c.0 c.1) at (next.later c.0 c.1 c.2))

    -- the rows after the draw
    pub draw_keeps : Draws F declared o histories chain e
    draw_keeps =
        let layout = chain.row.layout in
        let steps = part_steps F layout in
        let Apart : Entry O R → Entry O R → Type 0 = λ a b. AreDisjoint (reach_of F layout a) (reach_of F layout b) in
        record {
          front = place.front;
          back = place.back;
          cut = place.cut;
          fits = record {
            declared_live = fits.declared_live;
            past = fits.past;
            row = record {
              kind = fits.row.kind;
              known = fits.row.known;
              begun = fits.row.begun;
              started = fits.row.started;
              own = all_inserted (IsEntryOf F layout o (length chain.past)) e chain.row.entries place.front place.back place.cut fits.row.own next.own;
              ordered = Ordered-inserted IsBefore before-trans e place.front place.back (rw place.cut at fits.row.ordered) place.lower place.higher;
              above = all_inserted (IsAbove chain.past) e chain.row.entries place.front place.back place.cut fits.row.above above;
              replied = inserted_answered steps Apart (parts_apart F layout) chain.row.start e place.front place.back free (rw place.cut at fits.row.replied) (rw (← place.cut) next.replied);
            };
            past_left = past_left-same F chain.past histories (drawn_at F layout e (length chain.past) histories) (λ row cell lt. drawn_else row cell (λ same. absurd (omega arith))) fits.past_left;
            left = λ cell lt. drawn_here cell ∙ left_drawn F layout cell e (first_of chain.past) (histories (length chain.past) cell) place.front place.back (touches (reach_of F layout e) cell) refl (rw (← place.cut) (fits.left cell lt)) free;
          };
          moved = inserted_replayed steps Apart (parts_apart F layout) chain.row.start e place.front place.back free ∙ ap (λ (l : List (Entry O R)). steps.moves (replayed steps chain.row.start l) e) (sym place.cut);
        }
