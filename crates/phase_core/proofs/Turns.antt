-- An event of generations, whose caller is in no row, keeps every fact.
use Rattle.std.proofs.Common.{◌≡◌, ℕ, ◌≢◌, ◌∙◌, true, false, [], Option, Some, None, set, length-set, sym, refl, arith}
use Rattle.std.specs.List.{slice_get}
use Rattle.std.proofs.lemmas.Option.{same_Some}
use Rattle.gen_core.specs.Plain.{Caller, Generations}
use Rattle.gen_core.specs.Sound.{Course, IsInCourse}
use Rattle.k42_places.proofs.EachPlaces.{EachPlace-then}
use Rattle.k42_places.proofs.Counts.{count_by-set_same}
use Rattle.phase_core.specs.declared.caller.Place.TheVariants.{Out}
use Rattle.phase_core.specs.Callers.{IsOlder, IsUncounted, IsAtPlace, IsRow, IsSwap, IsFreeing, IsVisitor}
use Rattle.phase_core.specs.Objects.{IsObject, counts_at}
use Rattle.phase_core.specs.Outlooks.{Outlook, Scene, has_moved}
use Rattle.phase_core.specs.Plain.{Object, Visitor, Phases}
use Rattle.phase_core.specs.Sound.{IsInScene}
use Rattle.phase_core.specs.State.{has_row}
use Rattle.k42_places.proofs.EachPairs.{EachPair-change}
use Rattle.phase_core.proofs.Looks.{IsAtPlace-map}

-- what an active caller keeps of an object as the course and what is shared of the object change
pub record Follows (course course' : Course) (look look' : Outlook) (g : Caller) : Type 0 where
  pub incarnation : look.incarnation ≡ look'.incarnation
  pub uncounted : IsUncounted course look g → IsUncounted course' look' g
  pub tracked : has_moved look.stage ≡ false → has_moved look'.stage ≡ false
  pub row : (i : ℕ) → IsRow course look g i → IsRow course' look' g i

-- where only the course changes, who was older must stay so
pub Follows-older : (course course' : Course) (look : Outlook) (g : Caller) → (IsOlder course g → IsOlder course' g)
    → Follows course course' look look g
Follows-older course course' look g older = record {
  incarnation = refl;
  uncounted = λ old. record { draining = λ drains. older (old.draining drains); not_closed = old.not_closed };
  tracked = λ old. old;
  row = λ i old. record { kept = old.kept; recent = old.recent; present = old.present; older = λ n noted below. older (old.older n noted below) };
}

module _ (scene : Scene) (course' : Course) (looks' : ℕ → Outlook) (d : ℕ) (g : Caller) (y : Visitor) (is : IsVisitor scene d g y) where
  abbrev next : Scene
  next = record { course = course'; objects = scene.objects; looks = looks' }

  stays_by : (active : Option ℕ) → g.active ≡ active
      → ((generation : ℕ) → g.active ≡ Some generation → (q : ℕ) → Follows scene.course course' (scene.looks q) (looks' q) g)
      → IsAtPlace next g y.read y.place × ((q i : ℕ) → has_row y.read q i ≡ true → IsRow course' (looks' q) g i)
  stays_by None e follows =
      let out = is.at_rest e in
      (rw out.0 tt, λ q i has. let none : has_row [] q i ≡ true = rw out.1 at has in absurd (cc))
  stays_by (Some generation) e follows =
      let follow = follows generation e in (
        IsAtPlace-map scene next g g y.read refl y.place
            (λ q i present old. (present ∙ (follow q).incarnation, (follow q).uncounted old))
            (λ q i tracked present old. (present ∙ (follow q).incarnation, (follow q).tracked old))
            is.at_place,
        λ q i has. (follow q).row i (is.rows_read q i has),
      )

  pub stays_turned : ((generation : ℕ) → g.active ≡ Some generation → (q : ℕ) → Follows scene.course course' (scene.looks q) (looks' q) g)
      → IsAtPlace next g y.read y.place × ((q i : ℕ) → has_row y.read q i ≡ true → IsRow course' (looks' q) g i)
  stays_turned follows = stays_by g.active refl follows

module _ (scene : Scene) (s : Phases) (h : IsInScene scene s) (c : ℕ) (g : Caller) (x : Visitor)
    (at_g : slice_get s.turns.callers c ≡ Some g) (at_x : slice_get s.callers c ≡ Some x) where
  -- the frame
  pub keeps_turn : (course' : Course) (looks' : ℕ → Outlook) (turns' : Generations) (g' : Caller) (x' : Visitor)
      → let scene' : Scene = record { course = course'; objects = scene.objects; looks = looks' } in
      slice_get turns'.callers c ≡ Some g'
      → ((i : ℕ) → i ≢ c → slice_get turns'.callers i ≡ slice_get s.turns.callers i)
      → IsInCourse course' turns' → course'.procs ≡ scene.course.procs → course'.callers ≡ scene.course.callers
      → ((q : ℕ) (k : Object) → slice_get s.objects q ≡ Some k → IsObject scene.course.procs scene.course.callers (scene.looks q) q k
      → IsObject scene.course.procs scene.course.callers (looks' q) q k)
      → x.place ≡ Out → x'.place ≡ Out → x'.read ≡ []
      → IsSwap scene' c g' x'.swap → IsFreeing scene' c x'
      → ((d : ℕ) (z : Caller) → d ≢ c → slice_get s.turns.callers d ≡ Some z → (generation : ℕ) → z.active ≡ Some generation
      → (q : ℕ) → Follows scene.course course' (scene.looks q) (looks' q) z)
      → ((d : ℕ) (z : Caller) (y : Visitor) → d ≢ c → IsSwap scene d z y.swap → IsSwap scene' d z y.swap)
      → ((d : ℕ) (y : Visitor) → d ≢ c → IsFreeing scene d y → IsFreeing scene' d y)
      → IsInScene scene' (record s { turns = turns'; callers = set s.callers c x' })
  keeps_turn course' looks' turns' g' x' now else kept procs callers each out out' read' own_swap own_frees others other_swap other_frees =
      let scene' : Scene = record { course = course'; objects = scene.objects; looks = looks' } in
      record {
        in_course = kept;
        many_objects = h.many_objects;
        many_callers = length-set s.callers c x' ∙ (h.many_callers ∙ sym callers);
        objects = rw (procs, callers) (EachPlace-then (λ q k. IsObject scene.course.procs scene.course.callers (scene.looks q) q k) (λ q k. IsObject scene.course.procs scene.course.callers (looks' q) q k)
            s.objects h.objects each);
        counted = λ q k at_q. h.counted q k at_q ∙ sym (count_by-set_same (λ y. counts_at y.place q) s.callers c x x' at_x (rw (out, out') refl));
        visitors = EachPair-change (IsVisitor scene) (IsVisitor scene') s.turns.callers turns'.callers s.callers c x' else h.visitors
            (λ z at_z.
            let one : g' ≡ z = same_Some g' z (sym now ∙ at_z) in
            record {
              at_rest = λ inactive. (out', read');
              at_place = rw out' tt;
              rows_read = λ q i has. let none : has_row [] q i ≡ true = rw read' at has in absurd (cc);
              read_once = rw read' (record { there = λ q i has. absurd (cc); once = λ q i. omega arith });
              swap_alone = rw (← one) own_swap;
              frees_alone = own_frees;
            })
            (λ d z y other at_z at_y old.
            let stays = stays_turned scene course' looks' d z y old (others d z other at_z) in
            record {
              at_rest = old.at_rest;
              at_place = stays.0;
              rows_read = stays.1;
              read_once = old.read_once;
              swap_alone = other_swap d z y other old.swap_alone;
              frees_alone = other_frees d y other old.frees_alone;
            });
      }
