-- A caller that changes what is shared of one object keeps every fact.
use Rattle.std.proofs.Common.{◌≡◌, ℕ, ◌≢◌, ◌∙◌, true, false, List, Option, Some, set, length-set, sym, refl}
use Rattle.std.specs.List.{slice_get}
use Rattle.std.proofs.lemmas.Option.{same_Some}
use Rattle.gen_core.specs.Plain.{Caller}
use Rattle.gen_core.specs.Sound.{Course}
use Rattle.k42_places.proofs.EachPlaces.{EachPlace-set_else}
use Rattle.k42_places.proofs.Counts.{count_by-set_same}
use Rattle.phase_core.specs.declared.caller.Place.{Place}
use Rattle.phase_core.specs.declared.caller.Place.TheVariants.{Out, Missed, Direct, AtMediator, Tracked, Blocked}
use Rattle.phase_core.specs.declared.caller.SwapAt.{SwapAt}
use Rattle.phase_core.specs.Callers.{IsUncounted, IsAtPlace, IsRow, IsSwap, IsFreeing, IsVisitor}
use Rattle.phase_core.specs.Objects.{IsObject, counts_at, IsCounted}
use Rattle.phase_core.specs.Outlooks.{Outlook, Scene, has_moved}
use Rattle.phase_core.specs.Plain.{Object, Visitor, Phases}
use Rattle.phase_core.specs.Sound.{IsInScene}
use Rattle.phase_core.specs.State.{has_row, put_object, put_visitor}
use Rattle.k42_places.proofs.EachPairs.{EachPair-change}
use Rattle.phase_core.proofs.Pairs.{put_look, put_look-here, put_look-else, by_object}

-- a caller stays where it is as what is shared changes
pub IsAtPlace-map : (scene scene' : Scene) (g g' : Caller) (rows : List (ℕ × ℕ)) → scene'.objects ≡ scene.objects
    → (place : Place)
    → ((o i : ℕ) → i ≡ (scene.looks o).incarnation → IsUncounted scene.course (scene.looks o) g
    → (i ≡ (scene'.looks o).incarnation) × IsUncounted scene'.course (scene'.looks o) g')
    → ((o i : ℕ) → place ≡ Tracked o i → i ≡ (scene.looks o).incarnation → has_moved (scene.looks o).stage ≡ false
    → (i ≡ (scene'.looks o).incarnation) × (has_moved (scene'.looks o).stage ≡ false))
    → IsAtPlace scene g rows place → IsAtPlace scene' g' rows place
IsAtPlace-map scene scene' g g' rows same Out uncounted tracked is = tt
IsAtPlace-map scene scene' g g' rows same (Missed o i) uncounted tracked is =
    let next = uncounted o i is.1.present is.2 in (rw same is.0, record { read = is.1.read; present = next.0 }, next.1)
IsAtPlace-map scene scene' g g' rows same (Direct o i) uncounted tracked is =
    let next = uncounted o i is.1.present is.2 in (rw same is.0, record { read = is.1.read; present = next.0 }, next.1)
IsAtPlace-map scene scene' g g' rows same (AtMediator o) uncounted tracked is = rw same is
IsAtPlace-map scene scene' g g' rows same (Tracked o i) uncounted tracked is =
    let next = tracked o i refl is.1.present is.2 in (rw same is.0, record { read = is.1.read; present = next.0 }, next.1)
IsAtPlace-map scene scene' g g' rows same (Blocked o) uncounted tracked is = rw same is

-- what is shared of o is new
abbrev pub looking : Scene → ℕ → Outlook → Scene
looking scene o look = record scene { looks = put_look scene.looks o look }

-- what the callers at and above an object keep as what is shared of it changes
pub record Carries (course : Course) (gens : List Caller) (callers : List Visitor) (o : ℕ) (old new : Outlook) : Type 0 where
  pub uncounted : (g : Caller) → IsUncounted course old g → (old.incarnation ≡ new.incarnation) × IsUncounted course new g
  pub tracked : (d i : ℕ) (y : Visitor) → slice_get callers d ≡ Some y → y.place ≡ Tracked o i → has_moved old.stage ≡ false
      → (old.incarnation ≡ new.incarnation) × (has_moved new.stage ≡ false)
  pub row : (d : ℕ) (g : Caller) (i : ℕ) → slice_get gens d ≡ Some g → IsRow course old g i → IsRow course new g i

-- a caller whose place and rows stay
abbrev pub staying : Visitor → List (Option ℕ) → List (ℕ × ℕ) → SwapAt → Visitor
staying x noted freeing swap = record x { noted = noted; freeing = freeing; swap = swap }

module _ (scene : Scene) (s : Phases) (h : IsInScene scene s) (c : ℕ) (g : Caller) (x : Visitor)
    (at_g : slice_get s.turns.callers c ≡ Some g) (at_x : slice_get s.callers c ≡ Some x)
    (o : ℕ) (k : Object) (at_o : slice_get s.objects o ≡ Some k) (look : Outlook) where
  -- the facts on places and rows
  stays_at : Carries scene.course s.turns.callers s.callers o (scene.looks o) look
      → (d : ℕ) (g' : Caller) (y : Visitor) → slice_get s.turns.callers d ≡ Some g' → slice_get s.callers d ≡ Some y → IsVisitor scene d g' y
      → IsAtPlace (looking scene o look) g' y.read y.place
      × ((q i : ℕ) → has_row y.read q i ≡ true → IsRow scene.course (put_look scene.looks o look q) g' i)
  stays_at carries d g' y at_g' at_y is = (
    IsAtPlace-map scene (looking scene o look) g' g' y.read refl y.place
        (by_object (λ q l. (i : ℕ) → i ≡ (scene.looks q).incarnation → IsUncounted scene.course (scene.looks q) g' → (i ≡ l.incarnation) × IsUncounted scene.course l g')
        scene.looks o look
        (λ i present uncounted. let next = carries.uncounted g' uncounted in (present ∙ next.0, next.1))
        (λ q other i present uncounted. (present, uncounted)))
        (by_object (λ q l. (i : ℕ) → y.place ≡ Tracked q i → i ≡ (scene.looks q).incarnation → has_moved (scene.looks q).stage ≡ false → (i ≡ l.incarnation) × (has_moved l.stage ≡ false))
        scene.looks o look
        (λ i tracked present unmoved. let next = carries.tracked d i y at_y tracked unmoved in (present ∙ next.0, next.1))
        (λ q other i tracked present unmoved. (present, unmoved)))
        is.at_place,
    by_object (λ q l. (i : ℕ) → has_row y.read q i ≡ true → IsRow scene.course l g' i) scene.looks o look
        (λ i has. carries.row d g' i at_g' (is.rows_read o i has))
        (λ q other i has. is.rows_read q i has),
  )

  -- the frame
  pub keeps_look : (noted : List (Option ℕ)) (freeing : List (ℕ × ℕ)) (swap : SwapAt) (l : Object)
      → IsObject scene.course.procs scene.course.callers look o l → l.count ≡ k.count
      → Carries scene.course s.turns.callers s.callers o (scene.looks o) look
      → IsSwap (looking scene o look) c g swap
      → IsFreeing (looking scene o look) c (staying x noted freeing swap)
      → ((d : ℕ) (g' : Caller) (y : Visitor) → d ≢ c → IsSwap scene d g' y.swap → IsSwap (looking scene o look) d g' y.swap)
      → ((d : ℕ) (y : Visitor) → d ≢ c → IsFreeing scene d y → IsFreeing (looking scene o look) d y)
      → IsInScene (looking scene o look) (put_object (put_visitor s c (staying x noted freeing swap)) o l)
  keeps_look noted freeing swap l is same carries own_swap own_frees other_swap other_frees =
      let x' : Visitor = staying x noted freeing swap in
      let counts = λ (q : ℕ). count_by-set_same (λ y. counts_at y.place q) s.callers c x x' at_x refl in
      record {
        in_course = h.in_course;
        many_objects = length-set s.objects o l ∙ h.many_objects;
        many_callers = length-set s.callers c x' ∙ h.many_callers;
        objects = EachPlace-set_else (λ q m. IsObject scene.course.procs scene.course.callers (scene.looks q) q m)
            (λ q m. IsObject scene.course.procs scene.course.callers (put_look scene.looks o look q) q m) s.objects o l h.objects
            (rw (put_look-here scene.looks o look) is)
            (λ q m other at_q old. rw (put_look-else scene.looks o look q other) old);
        counted = EachPlace-set_else (IsCounted s.callers) (IsCounted (set s.callers c x')) s.objects o l h.counted
            (rw (counts o) (same ∙ h.counted o k at_o))
            (λ q m other at_q old. rw (counts q) old);
        visitors = EachPair-change (IsVisitor scene) (IsVisitor (looking scene o look)) s.turns.callers s.turns.callers s.callers c x'
            (λ i other. refl) h.visitors
            (λ g' at_g'.
            let known = h.visitors c g' x at_g' at_x in
            let stays = stays_at carries c g' x at_g' at_x known in
            let one : g ≡ g' = same_Some g g' (sym at_g ∙ at_g') in
            record {
              at_rest = known.at_rest;
              at_place = stays.0;
              rows_read = stays.1;
              read_once = known.read_once;
              swap_alone = rw (← one) own_swap;
              frees_alone = own_frees;
            })
            (λ d g' y other at_g' at_y old.
            let stays = stays_at carries d g' y at_g' at_y old in
            record {
              at_rest = old.at_rest;
              at_place = stays.0;
              rows_read = stays.1;
              read_once = old.read_once;
              swap_alone = other_swap d g' y other old.swap_alone;
              frees_alone = other_frees d y other old.frees_alone;
            });
      }
