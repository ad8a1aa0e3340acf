-- Entering is allowed to an idle pass.
use Rattle.std.proofs.Common.{◌≡◌, ℕ, ◌+◌, ◌%◌, ◌^◌, ◌<◌, true, List, [], ◌∷◌, Some, None, length, get_or, set, sym, refl, ap, ◌∙◌, subst, ⊎_elim, arith, length-set, get_or-set_same, get_or-set_other}
use Rattle.std.specs.List.{slice_get}
use Rattle.std.proofs.lemmas.Bool.{and_parts}
use Rattle.std.proofs.lemmas.Option.{slice_get-get_or}
use mathlib.Core.Option.{some}
use lib.ListN.{get_elem?}
use Rattle.atomic_table.specs.Table.{State}
use Rattle.k42_places.specs.Places.{EachPlace}
use Rattle.k42_places.proofs.Written.{at_set, get_or-set_related}
use Rattle.k42_places.proofs.EachPlaces.{EachPlace-set_else}
use Rattle.gen_core.specs.Events.{is_idle, is_free, home_of, caller_entered, proc_entered}
use Rattle.gen_core.specs.Plain.{Generations, Caller}
use Rattle.gen_core.specs.State.{caller_at, proc_at, fresh_proc}
use Rattle.gen_core.specs.declared.event.GenEvent.TheVariants.{Enter}
use Rattle.gen_core.specs.declared.state.GenProc.{GenProc}
use Rattle.gen_core.specs.Events as gens
use Rattle.gen_core.specs.Sound as gen
use Rattle.gen_core.proofs.Stages.{from_is_none}
use Rattle.phase_core.specs.Plain.{Visitor}
use Rattle.phase_core.specs.State.{visitor_at}
use Rattle.phase_core.proofs.InSound.{visitor_known}
use Rattle.phase_core.proofs.Reached.{turn_there}
use Rattle.gen_core.proofs.Ranges.{home_there, few_procs}
use Rattle.phase_core.specs.Event.{Turn}
use Rattle.phase_core.specs.Stages as swaps
use Rattle.phase_core.proofs.Ranges.{turns_sound}
use Rattle.k42_stamp.specs.Laws.{AreLaws}
use Rattle.k42_stamp.specs.Layouts.{Layouts}
use Rattle.k42_joined.specs.Effects.{effect}
use Rattle.k42_joined.specs.Event.{AtPhases}
use Rattle.k42_joined.specs.Possible.{IsPossible}
use Rattle.k42_board.specs.Cells.{Slot}
use Rattle.k42_board.specs.Generating.{MayEnter, entered_view, EnteredFound}
use Rattle.k42_board.specs.Generations.{IsProcessorShown, AreGenerations, in_words}
use Rattle.k42_board.specs.Log.{took}
use Rattle.k42_board.specs.Rule.{KnowsPass, Rule}
use Rattle.k42_board.specs.Values.{generation_value, generation_in}
use Rattle.k42_board.specs.Words.{generation_word, exits_word, role_word}
use Rattle.k42_board.specs.declared.view.PassView.{PassView}
use Rattle.k42_board.specs.declared.view.StepName.TheVariants as steps
use Rattle.k42_board.specs.declared.view.View.{View}
use Rattle.k42_board.specs.declared.view.View.TheVariants.{Crew}
use Rattle.k42_board.proofs.Apart.{IsOfGenerations, of_processor}
use Rattle.k42_board.proofs.Begun.{processor_stays, begun_goes, flips_same, rises_by}
use Rattle.k42_board.proofs.Logged.{logged_moves}
use Rattle.k42_board.proofs.Moves.{Moves, Finds}
use Rattle.k42_board.proofs.OnePass.{with_pass, known}
use Rattle.k42_board.proofs.Turning.{IsTurn, turned, visitors_after, state_after, with_counts, own_goes, rows_kept, same_swap}

module _ {S L P O R : Type 0} (F : Layouts S L P O R) (laws : AreLaws F) (declared : List L)
    (table : State (Slot P O R) (View P O R)) (r : Rule F declared table) (id : ℕ) (v : PassView P O R)
    (at : get_elem? table.views id ≡ some (Crew (v ∷ []))) (may : MayEnter v) where
  abbrev s : Generations
  s = r.state.phases.turns

  abbrev c : ℕ
  c = v.number

  abbrev knows : KnowsPass F.tag_of r.state r.beside id v
  knows = known F declared table r id v at

  abbrev x : Caller
  x = caller_at s c

  abbrev k : GenProc
  k = home_of s c

  sound : gen.IsSound s
  sound = turns_sound r.state.phases r.sound.phases

  there : c < length s.callers
  there = turn_there r.state.phases r.sound.phases c knows.there

  p_there : x.proc < length s.procs
  p_there = home_there s c sound there

  p_few : x.proc < 8
  p_few = let few = few_procs s c sound there in let lt = p_there in omega (arith, few, lt)

  at_p : slice_get s.procs x.proc ≡ Some k
  at_p = slice_get-get_or s.procs x.proc fresh_proc p_there

  fits : k.generation < 2 ^ 32
  fits = r.sound.phases.in_scene.in_course.no_generation_passes_its_field x.proc k at_p

  shown : IsProcessorShown table.words x.proc k
  shown = r.shows.generations.procs x.proc k at_p

  abbrev i : ℕ
  i = generation_word x.proc

  abbrev found : ℕ
  found = get_or table.words i 0

  abbrev new : ℕ
  new = (found + 2 ^ 32) % 2 ^ 64

  abbrev g : Generations
  g = gens.effect s (Enter c)

  turn : in_words x ≡ v.turn
  turn = knows.generations.turn

  can : gens.is_possible s (Enter c) ≡ true
  can = ap is_free turn ∙ may.free

  may_enter : IsPossible F declared r.state (AtPhases (Turn (Enter c)))
  may_enter = record {
    caller = knows.there;
    may = record {
      objects = tt;
      core =
          let idle : swaps.is_idle (visitor_at r.state.phases c).swap ≡ true = ap (λ z. swaps.is_idle z.swap) knows.phases.visitor ∙ may.no_swap in
          rw (can, idle) refl;
      beside = refl;
    };
  }

  graces : (d : ℕ) → (caller_at g d).grace ≡ (caller_at s d).grace
  graces d = get_or-set_related (λ (y z : Caller). z.grace ≡ y.grace) (λ y. refl) s.callers c d (caller_entered x k) _ refl

  generations_same : (p : ℕ) (l : GenProc) → slice_get g.procs p ≡ Some l
      → (old : GenProc) × (slice_get s.procs p ≡ Some old) × (l.generation ≡ old.generation)
  generations_same p l e =
      ⊎_elim
      (λ here. (k, ap (slice_get s.procs) here.0 ∙ at_p, ap (λ z. z.generation) (sym here.1)))
      (λ old. (l, old.1, refl))
      (at_set s.procs x.proc p (proc_entered k) l e)

  turn_is : IsTurn F laws declared table r id v at (Turn (Enter c)) g (visitor_at r.state.phases c) r.beside.counts
  turn_is = record {
    possible = may_enter;
    effect_is = refl;
    many_procs_same = length-set s.procs x.proc (proc_entered k);
    turns = λ d not. get_or-set_other s.callers c d (caller_entered x k) _ not;
    graces = λ d not. refl;
    base = λ d p l not busy e. generations_same p l e;
    rises = rises_by s (Enter c) can;
  }

  word : new ≡ generation_value (proc_entered k)
  word = omega (arith, shown.generation, fits)

  words_after : EachPlace (IsProcessorShown (set table.words i new)) g.procs
  words_after =
      EachPlace-set_else (IsProcessorShown table.words) (IsProcessorShown (set table.words i new)) s.procs x.proc (proc_entered k)
      r.shows.generations.procs
      (record {
        generation = get_or-set_same table.words i new 0 (let wide = r.shows.many_words in let few = p_few in omega (arith, wide, few)) ∙ word;
        even = get_or-set_other table.words i (exits_word x.proc 0) new 0 (λ e. omega arith) ∙ shown.even;
        odd = get_or-set_other table.words i (exits_word x.proc 1) new 0 (λ e. omega arith) ∙ shown.odd;
      })
      (λ q l not e is. processor_stays table.words i new q l (λ h. not (omega arith)) (λ h. omega arith) (λ h. omega arith) is)

  generations_after : AreGenerations (set table.words i new) g r.beside.counts
  generations_after = record {
    procs = words_after;
    role = get_or-set_other table.words i role_word new 0 (λ e. let few = p_few in omega (arith, few)) ∙ r.shows.generations.role;
    graces = record {
      many = r.shows.generations.graces.many ∙ sym (length-set s.callers c (caller_entered x k));
      few = r.shows.generations.graces.few;
    };
    begun = begun_goes s g r.beside.counts r.beside.counts 0 (omega arith) (flips_same s g refl graces generations_same) r.shows.generations.begun;
  }

  active : k.generation ≡ generation_in found
  active = omega (arith, shown.generation, fits)

  pub entered_found : EnteredFound v found
  entered_found = record {
    times = λ place entry e generation is.
        let old = knows.trace.times place entry e generation is in
        let here : (proc_at s v.turn.proc).generation ≡ generation_in found = ap (λ (z : Caller). (proc_at s z.proc).generation) (sym turn) ∙ active in
        omega (arith, old, here);
    out =
        let inactive : x.active ≡ None = from_is_none x.active (and_parts (is_idle x.grace) _ (ap is_free turn ∙ may.free)).1 in
        let rest = (visitor_known r.state.phases r.sound.phases c knows.there).at_rest inactive in
        ap (λ (z : Visitor). swaps.is_out z.place) (sym knows.phases.visitor) ∙ ap swaps.is_out rest.0;
  }

  pass_after :
      KnowsPass F.tag_of (state_after F laws declared table r id v at (Turn (Enter c)) g (visitor_at r.state.phases c) r.beside.counts)
      (with_counts r.beside r.beside.counts) id (entered_view found v)
  pass_after =
      own_goes r.state g (visitors_after F laws declared table r id v at (Turn (Enter c)) g (visitor_at r.state.phases c) r.beside.counts) v
      (record v.turn { active = Some (generation_in found) }) v.visitor v.graces v.base v.rows v.granted
      F.tag_of r.beside r.beside.counts id knows
      (record {
        many = length-set r.state.phases.callers c _;
        rises = turn_is.rises;
        generations = record {
          turn =
              ap in_words (get_or-set_same s.callers c (caller_entered x k) _ there)
              ∙ (λ j. record (turn j) { active = Some (active j) });
          graces = knows.generations.graces;
          base = λ b e busy. absurd (let idle = (and_parts (is_idle v.turn.grace) _ may.free).0 in cc);
        };
        visitor_is = get_or-set_same r.state.phases.callers c _ _ knows.there ∙ knows.phases.visitor;
        place = refl;
        swap = same_swap v.visitor.swap;
        proc = refl;
        names = knows.names;
        rows_known =
            rows_kept r.state g [] v (record v.turn { active = Some (generation_in found) }) v.visitor v.graces v.base v.rows v.granted
            refl refl refl refl knows.phases.rows;
      })

  -- the rule after the step, and its state
  pub enters : (after : Rule F declared (with_pass table (set table.words i new) table.homes id (entered_view found v)))
      × (after.state ≡ effect r.state (AtPhases (Turn (Enter c)))) × IsPossible F declared r.state (AtPhases (Turn (Enter c)))
  enters =
      turned F laws declared table r id v at (Turn (Enter c)) g (visitor_at r.state.phases c) r.beside.counts turn_is i new (entered_view found v)
      (subst (λ z. IsOfGenerations z) (omega arith) (of_processor x.proc 0 p_few (omega arith))) generations_after pass_after

enter_goes : {S L P O R : Type 0} (F : Layouts S L P O R) → AreLaws F → (declared : List L) (id i : ℕ) (v : PassView P O R) → MayEnter v → i ≡ generation_word v.turn.proc
    → Moves F declared (AtPhases (Turn (Enter v.number))) i (λ n. (n + 2 ^ 32) % 2 ^ 64) entered_view id v
enter_goes {S} {L} {P} F laws declared id i v may same = record {
  from = λ table r at.
      subst (λ j. (after : Rule F declared (with_pass table (set table.words j ((get_or table.words j 0 + 2 ^ 32) % 2 ^ 64)) table.homes id (entered_view (get_or table.words j 0) v)))
      × (after.state ≡ effect r.state (AtPhases (Turn (Enter v.number)))) × IsPossible F declared r.state (AtPhases (Turn (Enter v.number))))
      (ap (λ (z : Caller). generation_word z.proc) (known F declared table r id v at).generations.turn ∙ sym same)
      (enters F laws declared table r id v at may);
}

pub enter_moves : {S L P O R : Type 0} (F : Layouts S L P O R) → AreLaws F → (declared : List L) (id i : ℕ) (v : PassView P O R) → MayEnter v → i ≡ generation_word v.turn.proc
    → Moves F declared (AtPhases (Turn (Enter v.number))) i (λ n. (n + 2 ^ 32) % 2 ^ 64) (λ found v. took steps.Enter i found (entered_view found v)) id v
enter_moves F laws declared id i v may same =
    logged_moves steps.Enter (λ n. n) (λ found o before is. is) (enter_goes F laws declared id i v may same)

pub enter_finds : {S L P O R : Type 0} (F : Layouts S L P O R) → AreLaws F → (declared : List L) (id i : ℕ) (v : PassView P O R) → MayEnter v → i ≡ generation_word v.turn.proc
    → Finds F declared i EnteredFound id v
enter_finds F laws declared id i v may same table r at =
    subst (λ j. EnteredFound v (get_or table.words j 0))
    (ap (λ (z : Caller). generation_word z.proc) (known F declared table r id v at).generations.turn ∙ sym same)
    (entered_found F laws declared table r id v at may)
