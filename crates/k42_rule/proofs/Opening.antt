-- A new table shows the new state.
use Rattle.std.proofs.Common.{◌≡◌, ◌≢◌, ℕ, zero, suc, ◌+◌, ◌*◌, ◌%◌, ◌^◌, ◌<◌, ◌≤◌, false, List, [], ◌∷◌, Some, None, map, length, replicate, sym, refl, ap, ◌∙◌, subst, arith, get_or}
use Rattle.std.specs.List.{slice_get, slice_index}
use Rattle.std.specs.Prelude.{option_map}
use Rattle.std.proofs.lemmas.List.{length-map, length-replicate, get_or-replicate}
use Rattle.std.proofs.lemmas.Option.{same_Some, slice_get-map, slice_get_within, get_or_from_slice_get}
use Rattle.std.proofs.Math.ListN.{get_or-map}
use mathlib.Core.Option.{some, some-injective, some-ne-none}
use lib.ListN.{get_elem?}
use Rattle.k42_shapes.specs.declared.shape.Shape.{Shape}
use Rattle.atomic_table.specs.Table.{opening}
use Rattle.atomic_table.proofs.Lists.{at_map}
use Rattle.k42_places.specs.Places.{EachPlace}
use Rattle.k42_places.proofs.EachPlaces.{EachPlace-map}
use Rattle.gen_core.specs.State.{fresh_proc, fresh_caller}
use Rattle.gen_core.specs.declared.state.GenProc.{GenProc}
use Rattle.phase_core.specs.State.{new_object, new_visitor, empty_entry, fresh_object}
use Rattle.phase_core.specs.declared.object.LocalEntry.{LocalEntry}
use Rattle.turn_core.specs.State.{fresh_cell}
use Rattle.turn_core.specs.State as turns
use Rattle.turn_core.specs.Plain.{Cell}
use Rattle.k42_stamp.specs.Laws.{AreLaws}
use Rattle.k42_stamp.specs.Layouts.{Layouts}
use Rattle.std.proofs.Math.ListN.{get_or-map}
use Rattle.turn_core.specs.Plain as turns'
use Rattle.k42_joined.specs.Fresh.{first_lives, fresh, IsPlan, plan_of}
use Rattle.k42_joined.specs.Plain.{Joined}
use Rattle.k42_joined.specs.State.{nothing_kept, many_procs}
use Rattle.k42_joined.proofs.Fresh.{fresh_sound}
use Rattle.k42_board.specs.Cells.{Slot, IsCell, IsCellShown}
use Rattle.k42_board.specs.Generations.{AreFew, AreGenerations, IsProcessorShown, in_words}
use Rattle.k42_board.specs.Phases.{AreObjects, IsObjectShown}
use Rattle.k42_board.specs.Rule.{Beside, KnowsPass, Knows, Shows, Ruled}
use Rattle.k42_rule.specs.Opened.{IsOpened}
use Rattle.k42_board.specs.Starting.{AreFirstWords, AreFirstSlots}
use Rattle.k42_board.specs.Values.{local_value}
use Rattle.k42_board.specs.Views.{new_pass, new_passes, first_view}
use Rattle.k42_board.specs.Words.{generation_word, exits_word, local_word, lock_word, object_word, freed_word, role_word, many_slots, slot_of}
use Rattle.k42_board.specs.declared.view.PassView.{PassView}
use Rattle.k42_board.specs.declared.view.View.{View}
use Rattle.k42_board.proofs.FirstParts.{same_everywhere, first_part}

replicated : {A : Type 0} (n i : ℕ) (a b : A) → slice_get (replicate n a) i ≡ Some b → (i < n) × (a ≡ b)
replicated zero i a b e = absurd (cc)
replicated (suc n) zero a b e = ((omega arith), same_Some a b e)
replicated (suc n) (suc i) a b e = let more = replicated n i a b e in ((let lt = more.0 in omega (arith, lt)), more.1)

to_get : {A : Type 0} (xs : List A) (i : ℕ) (a : A) → slice_get xs i ≡ Some a → get_elem? xs i ≡ some a
to_get [] i a e = absurd (cc)
to_get (x ∷ xs) zero a e = ap some (same_Some x a e)
to_get (x ∷ xs) (suc i) a e = to_get xs i a e

pub there_is : {A : Type 0} (xs : List A) (i : ℕ) → i < length xs → (a : A) × (slice_get xs i ≡ Some a)
there_is [] i lt = absurd (omega arith)
there_is (x ∷ xs) zero lt = (x, refl)
there_is (x ∷ xs) (suc i) lt = there_is xs i (omega arith)

-- words tell all of a caller that waits for nothing
zeros_in_words : (n : ℕ) → map (λ entries. entries % 2 ^ 32) (replicate n 0) ≡ replicate n 0
zeros_in_words zero = refl
zeros_in_words (suc n) = ap (λ ws. 0 ∷ ws) (zeros_in_words n)

pub fresh_in_words : (procs home : ℕ) → in_words (fresh_caller procs home) ≡ fresh_caller procs home
fresh_in_words procs home = ap (λ ws. record (fresh_caller procs home) { waits = ws }) (zeros_in_words procs)

spans_none : {span : ℕ × ℕ} → span ≡ (0, 0) → span.0 < span.1 → ⊥
spans_none is less = let a = ap (λ (z : ℕ × ℕ). z.0) is in let b = ap (λ (z : ℕ × ℕ). z.1) is in omega (arith, a, b, less)

-- a new pass is told the shapes of each object
shapes_told : {S L P O R : Type 0} (F : Layouts S L P O R) (declared : List L) (o : ℕ)
    → get_or (map F.shapes_of declared) o [] ≡ (get_or (map (new_object F.procs) (map (plan_of F) declared)) o fresh_object).shapes
shapes_told F [] o = refl
shapes_told F (layout ∷ declared) zero = refl
shapes_told F (layout ∷ declared) (suc o) = shapes_told F declared o

-- the passes of the first view
passes_at : {P O R : Type 0} (procs : ℕ) (shapes : List (List Shape)) (first : ℕ) (homes : List ℕ) (i : ℕ) (v : PassView P O R) → slice_get (new_passes procs shapes first homes) i ≡ Some v
    → (home : ℕ) × (slice_get homes i ≡ Some home) × (new_pass procs shapes (first + i) home ≡ v)
passes_at procs shapes first [] i v e = absurd (cc)
passes_at {P} procs shapes first (home ∷ homes) zero v e =
    (home, refl, ap (λ n. new_pass {P = P} procs shapes n home) (omega arith) ∙ same_Some (new_pass procs shapes first home) v e)
passes_at {P} procs shapes first (home ∷ homes) (suc i) v e =
    let more = passes_at procs shapes (first + 1) homes i v e in
    (more.0, more.1, ap (λ n. new_pass {P = P} procs shapes n more.0) (omega arith) ∙ more.2)

module _ {S L P O R : Type 0} (F : Layouts S L P O R) (laws : AreLaws F) (declared : List L) (callers : List ℕ) (plan : IsPlan F declared callers)
    (words : List ℕ) (slots : List (Slot P O R)) (first : AreFirstWords F.tag_of declared (length declared) words)
    (many : length slots ≡ many_slots) (filled : AreFirstSlots slots) where
  abbrev s : Joined L O R
  s = fresh F declared callers

  abbrev beside : Beside P
  beside = record {
    seat = λ c. 0;
    row_seat = λ row. 0;
    counts = record { graces = replicate (length callers) 0 };
    contents = record { part = λ n. None; out = λ n. false };
  }

  few_objects : length declared ≤ 16
  few_objects = let few = plan.phases.few_objects in let long = length-map declared (plan_of F) in omega (arith, few, long)

  few_procs : F.procs ≤ 8
  few_procs = plan.phases.turns.limits.few_procs

  blank : (i : ℕ) → ((o : ℕ) → o < 16 → object_word o ≢ i) → slice_index words i ≡ 0
  blank i apart = first.blank i (λ o lt. apart o (let few = few_objects in omega (arith, lt, few)))

  begun_none : AreFew (length s.phases.turns.callers) (replicate (length callers) 0)
  begun_none = record {
    many = length-replicate (length callers) 0 ∙ sym (length-map callers (fresh_caller F.procs));
    few = λ c n e. let is = (replicated (length callers) c 0 n e).1 in omega (arith, is);
  }

  generations : AreGenerations words s.phases.turns beside.counts
  generations = record {
    procs = λ p k e.
        let is = replicated F.procs p fresh_proc k e in
        let few = few_procs in let lt = is.0 in let less : p < 8 = omega (arith, lt, few) in
        subst (IsProcessorShown words p) is.1
        (record {
          generation = blank (generation_word p) (λ o small h. omega (arith, less));
          even = blank (exits_word p 0) (λ o small h. omega (arith, less));
          odd = blank (exits_word p 1) (λ o small h. omega (arith, less));
        });
    role = blank role_word (λ o small h. omega arith);
    graces = begun_none;
    begun = λ p k e.
        let is = (replicated F.procs p fresh_proc k e).1 in
        record { flipped = let same = ap (λ (z : GenProc). z.generation) is in omega (arith, same) };
  }

  objects : AreObjects words s.phases.objects
  objects =
      EachPlace-map (IsObjectShown words) (new_object F.procs) (map (plan_of F) declared)
      (EachPlace-map (λ o start. IsObjectShown words o (new_object F.procs start)) (plan_of F) declared
      (λ o layout e.
      let there = slice_get_within declared o layout e in let few = few_objects in let small : o < 16 = omega (arith, there, few) in
      record {
        word = let is = first.told o layout there e in omega (arith, is);
        freed = blank (freed_word o) (λ q less h. omega (arith, small));
        entries = λ p x f.
            let is = replicated F.procs p (empty_entry 0) x f in
            let low = few_procs in let lt = is.0 in
            subst (λ (z : LocalEntry). slice_index words (local_word p o) ≡ local_value z) is.1
            (blank (local_word p o) (λ q less h. omega (arith, small, low, lt)));
      }))

  few_lives : length (first_lives (length declared)) ≤ 256
  few_lives = let sixteen = length-first_lives' (length declared) in let few = few_objects in omega (arith, sixteen, few)
    where
      length-first_lives' : (n : ℕ) → length (first_lives n) ≡ n * 16
      length-first_lives' zero = refl
      length-first_lives' (suc n) = let more = length-first_lives' n in omega (arith, more)

  cells : EachPlace (IsCellShown (many_procs s) words (map some slots) beside.contents) s.turns.cells
  cells =
      EachPlace-map (IsCellShown (many_procs s) words (map some slots) beside.contents) fresh_cell (first_lives (length declared))
      (λ n life e.
      let there = slice_get_within (first_lives (length declared)) n life e in let few = few_lives in
      let small : n < 256 = omega (arith, there, few) in
      let inside : slot_of n < length slots = omega (arith, small, many) in
      let found = there_is slots (slot_of n) inside in
      let is = filled (slot_of n) found.0 found.1 in
      record {
        lock = blank (lock_word n) (λ o less h. omega (arith, small));
        slot = λ within. (
          some found.0,
          at_map some slots (slot_of n) found.0 (to_get slots (slot_of n) found.0 found.1),
          (refl, (is.0, ap some is.1, subst (λ m. IsCell m [] false None is.0) (omega (arith, small)) is.2)),
        );
      })

  shows : Shows s beside (opening words slots (first_view F.shapes_of F.procs declared callers))
  shows = record {
    many_words = first.many;
    many_slots = length-map slots some ∙ many;
    few_objects = let few = few_objects in rw (length-map (map (plan_of F) declared) (new_object F.procs), length-map declared (plan_of F)) few;
    few_entries = λ c x e.
        let none = ap (λ (y : turns'.Caller O R). length y.mine) (replicated (length callers) c turns.fresh_caller x e).1 in omega (arith, none);
    generations = generations;
    objects = objects;
    cells = cells;
  }

  knows_new : (c home : ℕ) → slice_get callers c ≡ Some home → KnowsPass F.tag_of s beside 0 (new_pass F.procs (map F.shapes_of declared) c home)
  knows_new c home e = record {
    there = rw (length-replicate (length callers) (new_visitor (length (map (plan_of F) declared)))) there;
    seat = refl;
    names = record { named = λ place row is. absurd (cc); once = λ i j row is. absurd (cc) };
    generations = record {
      turn =
          ap in_words (get_or_from_slice_get s.phases.turns.callers c (fresh_caller F.procs home) _ (slice_get-map (fresh_caller F.procs) callers c ∙ ap (option_map (fresh_caller F.procs)) e))
          ∙ fresh_in_words F.procs home;
      graces = same_everywhere (length callers) c 0;
      base = λ b is. absurd (cc);
    };
    phases = record {
      visitor = get_or-replicate (length callers) c (new_visitor (length (map (plan_of F) declared))) _ there
          ∙ ap new_visitor (length-map declared (plan_of F) ∙ sym (length-map declared F.shapes_of));
      shapes = shapes_told F declared;
      layout = λ l o i is. absurd (cc);
      learned = λ is. absurd (cc);
      swap = record {
        turned = refl;
        layout_begun = λ o is. absurd (cc);
        begun = λ o is. absurd (cc);
        next = λ o is. absurd (cc);
      };
      rows = record {
        old = λ place row is. absurd (cc);
        granted = λ place row is. absurd (cc);
        swept = λ o n is. absurd (cc);
        spans = λ o less. absurd (let none = same_everywhere {A = ℕ × ℕ} (length (map F.shapes_of declared)) o (0, 0) in spans_none none less);
      };
    };
    cells = record {
      taker = same_everywhere (length callers) c turns.fresh_caller;
      notes = λ place note is. absurd (cc);
      noted = λ n lock away. absurd (let home = ap (λ (x : turns'.Cell O R). x.home) (get_or-map fresh_cell (first_lives (length declared)) n 0) in cc);
      out = λ n is. absurd (cc);
      only = λ n lock is. absurd (cc);
    };
    trace = record {
      kept = same_everywhere (length callers) c nothing_kept;
      found = λ answer is. absurd (cc);
      over = λ answer is. absurd (cc);
      handed = λ tag is. absurd (cc);
      unhanded = λ is moved. absurd (cc);
      times = λ place entry is. absurd (cc);
    };
  } where
    there : c < length callers
    there = slice_get_within callers c home e

  seats : (id : ℕ) (view : View P O R) → get_elem? (first_view {L = L} {P = P} F.shapes_of F.procs declared callers ∷ []) id ≡ some view → Knows F.tag_of s beside id view
  seats zero view e =
      subst (Knows F.tag_of s beside 0) (some-injective _ view e) (
        (λ i j v w e f same.
            let one = (passes_at F.procs (map F.shapes_of declared) 0 callers i v e).2 in
            let other = (passes_at F.procs (map F.shapes_of declared) 0 callers j w f).2 in
            let a = ap (λ (z : PassView P O R). z.number) one in let b = ap (λ (z : PassView P O R). z.number) other in omega (arith, a, b, same)),
        λ place v is.
            let at = passes_at F.procs (map F.shapes_of declared) 0 callers place v is in
            subst (KnowsPass F.tag_of s beside 0) (ap (λ n. new_pass {P = P} F.procs (map F.shapes_of declared) n at.0) (omega arith) ∙ at.2) (knows_new place at.0 at.1),
      )
  seats (suc id) view e = absurd (some-ne-none view (sym e))

  pub opens : (ruled : Ruled F declared (length callers) (opening words slots (first_view F.shapes_of F.procs declared callers))) × (ruled.rule.state ≡ s)
  opens = (
    record {
      rule = record {
        state = s;
        sound = fresh_sound F declared callers plan;
        beside = beside;
        shows = shows;
        parts = λ n lt. first_part F laws declared callers n;
        seats = seats;
      };
      many = length-replicate (length callers) (new_visitor (length (map (plan_of F) declared)));
    },
    refl,
  )

  pub is_opened : IsOpened F declared callers
  is_opened = record {
    words = words;
    slots = slots;
    told = first;
    many = many;
    filled = filled;
    ruled = opens.0;
    new = opens.1;
  }
