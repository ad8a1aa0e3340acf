-- Flipping a processor is allowed to a pass that knows what its next generation counts on from.
use Rattle.std.proofs.Common.{◌≡◌, ◌≢◌, ℕ, ◌+◌, ◌%◌, ◌^◌, ◌<◌, ◌≤◌, Bool, true, false, cond, ltb, List, [], ◌∷◌, Option, Some, None, length, get_or, set, sym, refl, ap, ◌∙◌, subst, ⊎_elim, arith, length-set, get_or-set_same, get_or-set_other}
use Rattle.std.specs.List.{slice_get}
use Rattle.std.specs.Option.{is_some, option_map, unwrap_or}
use Rattle.std.proofs.lemmas.List.{map-set}
use Rattle.std.proofs.lemmas.Option.{slice_get_within, slice_get-get_or, same_Some}
use mathlib.Core.Option.{some}
use lib.ListN.{get_elem?}
use Rattle.atomic_table.specs.Table.{State, Step, Allows}
use Rattle.k42_places.specs.Places.{EachPlace}
use Rattle.k42_places.proofs.EachPlaces.{EachPlace-set_else}
use Rattle.k42_places.proofs.Written.{at_set}
use Rattle.gen_core.specs.Events as gens
use Rattle.gen_core.specs.Events.{place_of, after_flip}
use Rattle.gen_core.specs.Plain.{Generations, Caller}
use Rattle.gen_core.specs.Sound.{generation_of, is_flipped}
use Rattle.gen_core.specs.State.{caller_at, proc_at, fresh_proc}
use Rattle.gen_core.specs.declared.event.GenEvent.TheVariants.{Flip}
use Rattle.gen_core.specs.declared.state.GenProc.{GenProc}
use Rattle.gen_core.specs.declared.state.GraceAt.{GraceAt}
use Rattle.gen_core.specs.declared.state.GraceAt.TheVariants.{Flipping}
use Rattle.gen_core.specs.declared.state.GraceAt.TheVariants as graces
use Rattle.gen_core.proofs.Ranges.{flipping_there}
use Rattle.gen_core.proofs.Stages.{flipped-after_flip_here, flipped-after_flip_else}
use Rattle.phase_core.specs.Event.{Turn}
use Rattle.phase_core.specs.State.{visitor_at}
use Rattle.k42_stamp.specs.Laws.{AreLaws}
use Rattle.k42_stamp.specs.Layouts.{Layouts}
use Rattle.k42_joined.specs.Effects.{effect}
use Rattle.k42_joined.specs.Event.{AtPhases}
use Rattle.k42_joined.specs.Possible.{IsPossible}
use Rattle.k42_board.specs.Cells.{Slot}
use Rattle.k42_board.specs.Generations.{IsProcessorShown, AreGenerations, will_flip, grace_of, in_words}
use Rattle.k42_board.specs.Gracing.{MayFlip, flip_word, flipped_view, turn_flipped, entries_in}
use Rattle.k42_board.specs.Log.{took}
use Rattle.k42_board.specs.Rule.{KnowsPass, Rule, Ruled}
use Rattle.k42_board.specs.Seen.{IsSeatOf}
use Rattle.k42_board.specs.Steps.{Seated, Tells}
use Rattle.k42_board.specs.Values.{generation_value}
use Rattle.k42_board.specs.Words.{generation_word, exits_word, role_word}
use Rattle.k42_board.specs.declared.view.PassView.{PassView}
use Rattle.k42_board.specs.declared.view.StepName.TheVariants as steps
use Rattle.k42_board.specs.declared.view.View.{View}
use Rattle.k42_board.specs.declared.view.View.TheVariants.{Crew}
use Rattle.k42_board.proofs.Apart.{IsOfGenerations, of_processor}
use Rattle.k42_board.proofs.Begun.{processor_stays, begun_goes, flips_of, rises_by}
use Rattle.k42_board.proofs.Holding.{knows, sound, there, turn, procs_few, waits_many, in_step, base_is, role, alone, busy_test, ltb_same}
use Rattle.k42_board.proofs.Logged.{logged_moves_at}
use Rattle.k42_board.proofs.Moves.{Moves, seat_allowed}
use Rattle.k42_board.proofs.OnePass.{with_pass}
use Rattle.k42_board.proofs.Turning.{IsTurn, turned, visitors_after, state_after, with_counts, own_goes, rows_kept, same_swap}

-- exits to come are there where their lower half is told
some_told : (coming : Option ℕ) (low : ℕ) → option_map (λ exits. exits % 2 ^ 32) coming ≡ Some low
    → (is_some coming ≡ true) × (unwrap_or coming 0 % 2 ^ 32 ≡ low)
some_told None low e = absurd (cc)
some_told (Some exits) low e = (refl, same_Some (exits % 2 ^ 32) low e)

module _ {S L P O R : Type 0} (F : Layouts S L P O R) (laws : AreLaws F) (declared : List L)
    (table : State (Slot P O R) (View P O R)) (r : Rule F declared table) (id : ℕ) (v : PassView P O R)
    (at : get_elem? table.views id ≡ some (Crew (v ∷ []))) (p : ℕ) (may : MayFlip p v) where
  abbrev c : ℕ
  c = v.number

  abbrev s : Generations
  s = r.state.phases.turns

  abbrev x : Caller
  x = caller_at s c

  abbrev k : GenProc
  k = proc_at s p

  abbrev n : ℕ
  n = length s.procs

  abbrev i : ℕ
  i = generation_word p

  abbrev found : ℕ
  found = get_or table.words i 0

  turn_x : in_words x ≡ v.turn
  turn_x = turn F declared table r id v at

  grace : x.grace ≡ Flipping p
  grace = ap (λ (z : Caller). z.grace) turn_x ∙ may.grace

  busy : v.turn.grace ≢ graces.Idle
  busy idle = absurd (let at_p = may.grace in cc)

  p_there : p < n
  p_there = flipping_there s c (sound F declared table r id v at) (there F declared table r id v at) p grace

  p_few : p < 8
  p_few = let few = procs_few F declared table r id v at in let lt = p_there in omega (arith, few, lt)

  at_p : slice_get s.procs p ≡ Some k
  at_p = slice_get-get_or s.procs p fresh_proc p_there

  shown : IsProcessorShown table.words p k
  shown = r.shows.generations.procs p k at_p

  -- the processor is still in the generation that the grace found
  in_base : k.generation ≡ may.base
  in_base =
      let step = in_step F declared table r id v at busy p k at_p in
      let from = base_is F declared table r id v at busy may.base may.asked (busy_test v.turn.grace busy) in
      let whole : ℕ = (sound F declared table r id v at).course.base in
      step ∙ ap (λ (z : GraceAt). generation_of whole (is_flipped z p)) may.grace ∙ ap (generation_of whole) (ltb_same p) ∙ sym from

  -- the exits of the generation to come, of which the pass knows the lower half
  abbrev exits : ℕ
  exits = unwrap_or x.coming 0

  coming : (is_some x.coming ≡ true) × (exits % 2 ^ 32 ≡ may.exits)
  coming = some_told x.coming may.exits (ap (λ (z : Caller). z.coming) turn_x ∙ may.coming)

  abbrev k' : GenProc
  k' = record k { generation = k.generation + 1; entered = exits }

  abbrev x' : Caller
  x' = record x { waits = set x.waits p k.entered; coming = None; grace = after_flip p n }

  abbrev g : Generations
  g = record s { procs = set s.procs p k'; callers = set s.callers c x' }

  -- the generations after it
  effect_is : g ≡ gens.effect s (Flip c)
  effect_is = rw grace refl

  can : gens.is_possible s (Flip c) ≡ true
  can = rw grace coming.0

  entered : entries_in found ≡ k.entered % 2 ^ 32
  entered =
      let is = shown.generation in
      let fits = (sound F declared table r id v at).in_course.no_generation_passes_its_field p k at_p in omega (arith, is, fits)

  turn_after : in_words x' ≡ turn_flipped v.turn (entries_in found)
  turn_after =
      let many : n ≡ length v.turn.waits = sym (waits_many F declared table r id v at) in
      let at_place : p ≡ place_of v.turn.grace = ap place_of (sym may.grace) in
      ap (λ (waits : List ℕ). record x { waits = waits; coming = None; grace = after_flip p n }) (map-set (λ (entries : ℕ). entries % 2 ^ 32) x.waits p k.entered)
      ∙ ap (λ (z : Caller). record z { waits = set z.waits p (k.entered % 2 ^ 32); coming = None; grace = after_flip p n }) turn_x
      ∙ (λ j. record v.turn { waits = set v.turn.waits (at_place j) (sym entered j); coming = None; grace = after_flip (at_place j) (many j) })

  here : caller_at g c ≡ x'
  here = get_or-set_same s.callers c x' _ (there F declared table r id v at)

  turn_is : IsTurn F laws declared table r id v at (Turn (Flip c)) g (visitor_at r.state.phases c) r.beside.counts
  turn_is = record {
    possible = record {
      caller = (knows F declared table r id v at).there;
      may = record { objects = tt; core = rw can refl; beside = refl };
    };
    effect_is =
        ap (λ (z : Generations). record r.state { phases = record r.state.phases { turns = z; callers = set r.state.phases.callers c (visitor_at r.state.phases c) } }) effect_is;
    many_procs_same = length-set s.procs p k';
    turns = λ d not_c. get_or-set_other s.callers c d x' _ not_c;
    graces = λ d not_c. refl;
    base = λ d q l not_c not_idle e. absurd (let idle = alone F declared table r id v at busy d not_c in cc);
    rises = λ q. subst (λ (z : Generations). (proc_at s q).generation ≤ (proc_at z q).generation) (sym effect_is) (rises_by s (Flip c) can q);
  }

  word : flip_word v ≡ generation_value k'
  word = rw (may.asked, may.coming) (let same = in_base in let low = coming.1 in omega (arith, same, low))

  words_after : EachPlace (IsProcessorShown (set table.words i (flip_word v))) g.procs
  words_after =
      EachPlace-set_else (IsProcessorShown table.words) (IsProcessorShown (set table.words i (flip_word v))) s.procs p k'
      r.shows.generations.procs
      (record {
        generation = get_or-set_same table.words i (flip_word v) 0 (let wide = r.shows.many_words in let few = p_few in omega (arith, wide, few)) ∙ word;
        even = get_or-set_other table.words i (exits_word p 0) (flip_word v) 0 (λ e. omega (arith, e)) ∙ shown.even;
        odd = get_or-set_other table.words i (exits_word p 1) (flip_word v) 0 (λ e. omega (arith, e)) ∙ shown.odd;
      })
      (λ q l else e is.
      processor_stays table.words i (flip_word v) q l (λ h. else (omega (arith, h))) (λ h. omega (arith, h)) (λ h. omega (arith, h)) is)

  -- the flip that was to come has come
  flips : EachPlace (λ q l. (old : GenProc) × (slice_get s.procs q ≡ Some old) × (flips_of g q l ≤ flips_of s q old + 0)) g.procs
  flips q l e =
      ⊎_elim
      (λ is. (
        k,
        ap (slice_get s.procs) is.0 ∙ at_p,
        let after = now q in let before = was q in
            let done : is_flipped (after_flip p n) q ≡ true = ap (is_flipped (after_flip p n)) is.0 ∙ flipped-after_flip_here p n p_there in
            let still : ltb q p ≡ false = ap (λ (m : ℕ). ltb m p) is.0 ∙ ltb_same p in
            let more : l.generation ≡ k.generation + 1 = ap (λ (z : GenProc). z.generation) (sym is.1) in
            let none : will_flip g.role (grace_of g g.role) q ≡ 0 = after ∙ ap (λ (b : Bool). cond b 0 1) done in
            let one : will_flip s.role (grace_of s s.role) q ≡ 1 = before ∙ ap (λ (b : Bool). cond b 0 1) still in
            omega (arith, none, one, more),
      ))
      (λ old. (
        l,
        old.1,
        let after = now q in let before = was q in
            let same : is_flipped (after_flip p n) q ≡ ltb q p = flipped-after_flip_else p n p_there q (slice_get_within s.procs q l old.1) old.0 in
            let equal : will_flip g.role (grace_of g g.role) q ≡ will_flip s.role (grace_of s s.role) q = after ∙ ap (λ (b : Bool). cond b 0 1) same ∙ sym before in
            omega (arith, equal),
      ))
      (at_set s.procs p q k' l e)
    where
      held : s.role ≡ Some c
      held = role F declared table r id v at busy

      now : (q : ℕ) → will_flip g.role (grace_of g g.role) q ≡ cond (is_flipped (after_flip p n) q) 0 1
      now q =
          ap (λ (holder : Option ℕ). will_flip holder (grace_of g holder) q) held
          ∙ ap (λ (z : Caller). cond (is_flipped z.grace q) 0 1) here

      was : (q : ℕ) → will_flip s.role (grace_of s s.role) q ≡ cond (ltb q p) 0 1
      was q =
          ap (λ (holder : Option ℕ). will_flip holder (grace_of s holder) q) held
          ∙ ap (λ (z : GraceAt). cond (is_flipped z q) 0 1) grace

  generations_after : AreGenerations (set table.words i (flip_word v)) g r.beside.counts
  generations_after = record {
    procs = words_after;
    role = get_or-set_other table.words i role_word (flip_word v) 0 (λ e. let few = p_few in omega (arith, few, e)) ∙ r.shows.generations.role;
    graces = record {
      many = r.shows.generations.graces.many ∙ sym (length-set s.callers c x');
      few = r.shows.generations.graces.few;
    };
    begun = begun_goes s g r.beside.counts r.beside.counts 0 (omega arith) flips r.shows.generations.begun;
  }

  base_after : (b : ℕ) → v.base ≡ Some b → (q : ℕ) (l : GenProc) → slice_get g.procs q ≡ Some l
      → l.generation ≡ generation_of b (is_flipped (after_flip p n) q)
  base_after b asked q l e =
      ⊎_elim
      (λ is.
      let done : is_flipped (after_flip p n) q ≡ true = ap (is_flipped (after_flip p n)) is.0 ∙ flipped-after_flip_here p n p_there in
      let more : l.generation ≡ k.generation + 1 = ap (λ (z : GenProc). z.generation) (sym is.1) in
      let same : may.base ≡ b = same_Some may.base b (sym may.asked ∙ asked) in
      more ∙ ap (λ (m : ℕ). m + 1) (in_base ∙ same) ∙ ap (generation_of b) (sym done))
      (λ old.
      let same : is_flipped (after_flip p n) q ≡ ltb q p = flipped-after_flip_else p n p_there q (slice_get_within s.procs q l old.1) old.0 in
      (knows F declared table r id v at).generations.base b asked (busy_test v.turn.grace busy) q l old.1
      ∙ ap (λ (z : GraceAt). generation_of b (is_flipped z q)) may.grace ∙ ap (generation_of b) (sym same))
      (at_set s.procs p q k' l e)

  pass_after : KnowsPass F.tag_of (state_after F laws declared table r id v at (Turn (Flip c)) g (visitor_at r.state.phases c) r.beside.counts) (with_counts r.beside r.beside.counts) id (flipped_view found v)
  pass_after =
      let old = knows F declared table r id v at in
      own_goes r.state g (visitors_after F laws declared table r id v at (Turn (Flip c)) g (visitor_at r.state.phases c) r.beside.counts) v
      (turn_flipped v.turn (entries_in found)) v.visitor v.graces v.base v.rows v.granted
      F.tag_of r.beside r.beside.counts id old
      (record {
        many = length-set r.state.phases.callers c _;
        rises = turn_is.rises;
        generations = record {
          turn = ap in_words here ∙ turn_after;
          graces = old.generations.graces;
          base = λ b asked not_idle q l e.
              base_after b asked q l e ∙ ap (λ (z : Caller). generation_of b (is_flipped z.grace q)) turn_after;
        };
        visitor_is = get_or-set_same r.state.phases.callers c _ _ old.there ∙ old.phases.visitor;
        place = refl;
        swap = same_swap v.visitor.swap;
        proc = refl;
        names = old.names;
        rows_known =
            rows_kept r.state g [] v (turn_flipped v.turn (entries_in found)) v.visitor v.graces v.base v.rows v.granted
            refl refl refl refl old.phases.rows;
      })

  -- the rule after the step, and its state
  pub flips_on : (after : Rule F declared (with_pass table (set table.words i (flip_word v)) table.homes id (flipped_view found v)))
      × (after.state ≡ effect r.state (AtPhases (Turn (Flip c)))) × IsPossible F declared r.state (AtPhases (Turn (Flip c)))
  flips_on =
      turned F laws declared table r id v at (Turn (Flip c)) g (visitor_at r.state.phases c) r.beside.counts turn_is i (flip_word v) (flipped_view found v)
      (subst (λ z. IsOfGenerations z) (omega arith) (of_processor p 0 p_few (omega arith))) generations_after pass_after

pub flip_moves : {S L P O R : Type 0} (F : Layouts S L P O R) → AreLaws F → (declared : List L) (id i p : ℕ) (v : PassView P O R) → MayFlip p v → i ≡ generation_word p
    → Moves F declared (AtPhases (Turn (Flip v.number))) i (λ word. flip_word v) (λ found v. took steps.Flip i found (flipped_view found v)) id v
flip_moves {S} {L} {P} F laws declared id i p v may same = logged_moves_at steps.Flip (λ n. n) (λ found o before is. is) same goes where
  goes : Moves F declared (AtPhases (Turn (Flip v.number))) (generation_word p) (λ word. flip_word v) flipped_view id v
  goes = record { from = λ table r at. flips_on F laws declared table r id v at p may }

pub flip_allowed : {S L P O R : Type 0} (F : Layouts S L P O R) → AreLaws F → (declared : List L) (id callers i p : ℕ) (v : PassView P O R) (me : Seated P O R) → IsSeatOf me v
    → MayFlip p v → i ≡ generation_word p → (stored : ℕ) → stored ≡ flip_word v → (slots : ℕ) (step : Step (Slot P O R))
    → Allows (Ruled F declared callers) slots id me i (λ n. stored) (Tells (λ found v. took steps.Flip i found (flipped_view found v)) step me)
flip_allowed F laws declared id callers i p v me is may here stored same slots step =
    subst (λ (z : ℕ). Allows (Ruled F declared callers) slots id me i (λ n. z) (Tells (λ found v. took steps.Flip i found (flipped_view found v)) step me)) (sym same)
    (seat_allowed (flip_moves F laws declared id i p v may here) me is slots step)
