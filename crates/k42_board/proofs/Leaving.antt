-- Leaving is allowed to a pass in an activity and inside no call.
use Rattle.std.proofs.Common.{◌≡◌, ◌≢◌, ℕ, ◌+◌, ◌%◌, ◌^◌, ◌<◌, Bool, true, false, cond, eqb, List, [], ◌∷◌, Some, None, length, get_or, set, sym, refl, ap, ◌∙◌, subst, ⊎_elim, arith, length-set, get_or-set_same, get_or-set_other}
use Rattle.std.specs.List.{slice_get}
use Rattle.std.specs.Option.{is_some}
use Rattle.std.proofs.lemmas.Bool.{eqb-true, eqb-false}
use Rattle.std.proofs.lemmas.Option.{slice_get-get_or}
use mathlib.Core.Option.{some}
use lib.ListN.{get_elem?}
use Rattle.atomic_table.specs.Table.{State}
use Rattle.k42_places.specs.Places.{EachPlace}
use Rattle.k42_places.proofs.Written.{at_set, get_or-set_related}
use Rattle.k42_places.proofs.EachPlaces.{EachPlace-set_else}
use Rattle.gen_core.specs.Events.{is_even, exits_of, home_of, caller_left, proc_left, exit_counted}
use Rattle.gen_core.specs.Plain.{Generations, Caller}
use Rattle.gen_core.specs.State.{caller_at, fresh_proc}
use Rattle.gen_core.specs.declared.event.GenEvent.TheVariants.{Leave}
use Rattle.gen_core.specs.declared.state.GenProc.{GenProc}
use Rattle.gen_core.specs.Events as gens
use Rattle.gen_core.specs.Sound as gen
use Rattle.phase_core.proofs.Reached.{turn_there}
use Rattle.gen_core.proofs.Ranges.{home_there, few_procs}
use Rattle.phase_core.specs.Event.{Turn}
use Rattle.phase_core.specs.Plain.{Visitor}
use Rattle.phase_core.specs.State.{visitor_at}
use Rattle.phase_core.specs.Stages as swaps
use Rattle.phase_core.proofs.Ranges.{turns_sound}
use Rattle.k42_stamp.specs.Laws.{AreLaws}
use Rattle.k42_stamp.specs.Layouts.{Layouts}
use Rattle.k42_joined.specs.Effects.{effect}
use Rattle.k42_joined.specs.Event.{AtPhases}
use Rattle.k42_joined.specs.Possible.{IsPossible}
use Rattle.k42_board.specs.Cells.{Slot}
use Rattle.k42_board.specs.Generating.{MayLeave, left_view}
use Rattle.k42_board.specs.Generations.{IsProcessorShown, AreGenerations, in_words}
use Rattle.k42_board.specs.Log.{took}
use Rattle.k42_board.specs.Rule.{KnowsPass, Rule}
use Rattle.k42_board.specs.Words.{generation_word, exits_word, role_word, many_words}
use Rattle.k42_board.specs.declared.view.PassView.{PassView}
use Rattle.k42_board.specs.declared.view.StepName.TheVariants as steps
use Rattle.k42_board.specs.declared.view.View.{View}
use Rattle.k42_board.specs.declared.view.View.TheVariants.{Crew}
use Rattle.k42_board.proofs.Apart.{IsOfGenerations, of_processor}
use Rattle.k42_board.proofs.Begun.{processor_stays, begun_goes, flips_same, rises_by}
use Rattle.k42_board.proofs.Logged.{logged_moves}
use Rattle.k42_board.proofs.Moves.{Moves}
use Rattle.k42_board.proofs.OnePass.{with_pass, known}
use Rattle.k42_board.proofs.Turning.{IsTurn, turned, visitors_after, state_after, with_counts, own_goes, rows_kept, same_swap}

-- the word of an exit, by parity
abbrev exits_at : ℕ → Bool → ℕ
exits_at p even = exits_word p (cond even 0 1)

exits_shown : (words : List ℕ) (p : ℕ) (k : GenProc) (even : Bool) → IsProcessorShown words p k → get_or words (exits_at p even) 0 ≡ exits_of k even % 2 ^ 64
exits_shown words p k true shown = shown.even
exits_shown words p k false shown = shown.odd

exit_shown : (words : List ℕ) (p new : ℕ) (k : GenProc) (even : Bool) → length words ≡ many_words → p < 8 → new ≡ (exits_of k even + 1) % 2 ^ 64 → IsProcessorShown words p k
    → IsProcessorShown (set words (exits_at p even) new) p (exit_counted k even)
exit_shown words p new k true wide few more shown = record {
  generation = get_or-set_other words (exits_word p 0) (generation_word p) new 0 (λ e. omega arith) ∙ shown.generation;
  even = get_or-set_same words (exits_word p 0) new 0 (omega (arith, wide, few)) ∙ more;
  odd = get_or-set_other words (exits_word p 0) (exits_word p 1) new 0 (λ e. omega arith) ∙ shown.odd;
}
exit_shown words p new k false wide few more shown = record {
  generation = get_or-set_other words (exits_word p 1) (generation_word p) new 0 (λ e. omega arith) ∙ shown.generation;
  even = get_or-set_other words (exits_word p 1) (exits_word p 0) new 0 (λ e. omega arith) ∙ shown.even;
  odd = get_or-set_same words (exits_word p 1) new 0 (omega (arith, wide, few)) ∙ more;
}

exits_apart : (words : List ℕ) (p q new : ℕ) (l : GenProc) (even : Bool) → q ≢ p → IsProcessorShown words q l → IsProcessorShown (set words (exits_at p even) new) q l
exits_apart words p q new l true not is = processor_stays words (exits_word p 0) new q l (λ h. omega arith) (λ h. not (omega arith)) (λ h. omega arith) is
exits_apart words p q new l false not is = processor_stays words (exits_word p 1) new q l (λ h. omega arith) (λ h. omega arith) (λ h. not (omega arith)) is

exits_of_generations : (p : ℕ) (even : Bool) → p < 8 → IsOfGenerations (exits_at p even)
exits_of_generations p true few = subst (λ z. IsOfGenerations z) (omega arith) (of_processor p 1 few (omega arith))
exits_of_generations p false few = subst (λ z. IsOfGenerations z) (omega arith) (of_processor p 2 few (omega arith))

role_apart : (p : ℕ) (even : Bool) → p < 8 → role_word ≢ exits_at p even
role_apart p true few = λ e. omega (arith, few)
role_apart p false few = λ e. omega (arith, few)

same_generation : (k : GenProc) (even : Bool) → (exit_counted k even).generation ≡ k.generation
same_generation k true = refl
same_generation k false = refl

same_entered : (k : GenProc) (even : Bool) → (exit_counted k even).entered ≡ k.entered
same_entered k true = refl
same_entered k false = refl

module _ {S L P O R : Type 0} (F : Layouts S L P O R) (laws : AreLaws F) (declared : List L)
    (table : State (Slot P O R) (View P O R)) (r : Rule F declared table) (id : ℕ) (v : PassView P O R)
    (at : get_elem? table.views id ≡ some (Crew (v ∷ []))) (a : ℕ) (may : MayLeave a v) where
  abbrev s : Generations
  s = r.state.phases.turns

  abbrev c : ℕ
  c = v.number

  abbrev knows : KnowsPass F.tag_of r.state r.beside id v
  knows = known F declared table r id v at

  abbrev x : Caller
  x = caller_at s c

  abbrev k : GenProc
  k = home_of s c

  sound : gen.IsSound s
  sound = turns_sound r.state.phases r.sound.phases

  there : c < length s.callers
  there = turn_there r.state.phases r.sound.phases c knows.there

  p_there : x.proc < length s.procs
  p_there = home_there s c sound there

  p_few : x.proc < 8
  p_few = let few = few_procs s c sound there in let lt = p_there in omega (arith, few, lt)

  at_p : slice_get s.procs x.proc ≡ Some k
  at_p = slice_get-get_or s.procs x.proc fresh_proc p_there

  shown : IsProcessorShown table.words x.proc k
  shown = r.shows.generations.procs x.proc k at_p

  abbrev even : Bool
  even = is_even a

  abbrev i : ℕ
  i = exits_at x.proc even

  abbrev found : ℕ
  found = get_or table.words i 0

  abbrev new : ℕ
  new = (found + 1) % 2 ^ 64

  abbrev k' : GenProc
  k' = exit_counted k even

  turn : in_words x ≡ v.turn
  turn = knows.generations.turn

  active : x.active ≡ Some a
  active = ap (λ (z : Caller). z.active) turn ∙ may.active

  left_is : proc_left k x.active ≡ k'
  left_is = ap (proc_left k) active

  -- the generations and the visitor after it
  abbrev g : Generations
  g = gens.effect s (Leave c)

  abbrev y : Visitor
  y = record (visitor_at r.state.phases c) { read = [] }

  procs_are : g.procs ≡ set s.procs x.proc k'
  procs_are = ap (set s.procs x.proc) left_is

  found_is : found ≡ exits_of k even % 2 ^ 64
  found_is = exits_shown table.words x.proc k even shown

  more : new ≡ (exits_of k even + 1) % 2 ^ 64
  more = omega (arith, found_is)

  can : gens.is_possible s (Leave c) ≡ true
  can = ap is_some active

  may_leave : IsPossible F declared r.state (AtPhases (Turn (Leave c)))
  may_leave = record {
    caller = knows.there;
    may = record {
      objects = tt;
      core =
          let out : swaps.is_out (visitor_at r.state.phases c).place ≡ true = ap (λ z. swaps.is_out z.place) knows.phases.visitor ∙ may.out in
          rw (can, out) refl;
      beside = refl;
    };
  }

  graces : (d : ℕ) → (caller_at g d).grace ≡ (caller_at s d).grace
  graces d = get_or-set_related (λ (y z : Caller). z.grace ≡ y.grace) (λ y. refl) s.callers c d (caller_left x) _ refl

  generations_same : (p : ℕ) (l : GenProc) → slice_get g.procs p ≡ Some l
      → (old : GenProc) × (slice_get s.procs p ≡ Some old) × (l.generation ≡ old.generation)
  generations_same p l e =
      ⊎_elim
      (λ here. (k, ap (slice_get s.procs) here.0 ∙ at_p, ap (λ z. z.generation) (sym here.1) ∙ same_generation k even))
      (λ old. (l, old.1, refl))
      (at_set s.procs x.proc p k' l (ap (λ z. slice_get z p) (sym procs_are) ∙ e))

  turn_is : IsTurn F laws declared table r id v at (Turn (Leave c)) g y r.beside.counts
  turn_is = record {
    possible = may_leave;
    effect_is = refl;
    many_procs_same = length-set s.procs x.proc _;
    turns = λ d not. get_or-set_other s.callers c d (caller_left x) _ not;
    graces = λ d not. refl;
    base = λ d p l not busy e. generations_same p l e;
    rises = rises_by s (Leave c) can;
  }

  words_after : EachPlace (IsProcessorShown (set table.words i new)) g.procs
  words_after =
      subst (λ (z : List GenProc). EachPlace (IsProcessorShown (set table.words i new)) z) (sym procs_are)
      (EachPlace-set_else (IsProcessorShown table.words) (IsProcessorShown (set table.words i new)) s.procs x.proc k'
      r.shows.generations.procs
      (exit_shown table.words x.proc new k even r.shows.many_words p_few more shown)
      (λ q l not e is. exits_apart table.words x.proc q new l even not is))

  generations_after : AreGenerations (set table.words i new) g r.beside.counts
  generations_after = record {
    procs = words_after;
    role = get_or-set_other table.words i role_word new 0 (role_apart x.proc even p_few) ∙ r.shows.generations.role;
    graces = record {
      many = r.shows.generations.graces.many ∙ sym (length-set s.callers c (caller_left x));
      few = r.shows.generations.graces.few;
    };
    begun = begun_goes s g r.beside.counts r.beside.counts 0 (omega arith) (flips_same s g refl graces generations_same) r.shows.generations.begun;
  }

  pass_after : KnowsPass F.tag_of (state_after F laws declared table r id v at (Turn (Leave c)) g y r.beside.counts) (with_counts r.beside r.beside.counts) id (left_view v)
  pass_after =
      own_goes r.state g (visitors_after F laws declared table r id v at (Turn (Leave c)) g y r.beside.counts) v
      (record v.turn { active = None }) (record v.visitor { read = [] }) v.graces v.base v.rows v.granted
      F.tag_of r.beside r.beside.counts id knows
      (record {
        many = length-set r.state.phases.callers c _;
        rises = turn_is.rises;
        generations = record {
          turn = ap in_words (get_or-set_same s.callers c (caller_left x) _ there) ∙ ap caller_left turn;
          graces = knows.generations.graces;
          base = λ b e busy p l here.
              let old = generations_same p l here in
              old.2 ∙ knows.generations.base b e busy p old.0 old.1;
        };
        visitor_is = get_or-set_same r.state.phases.callers c _ _ knows.there ∙ ap (λ (z : Visitor). record z { read = [] }) knows.phases.visitor;
        place = refl;
        swap = same_swap v.visitor.swap;
        proc = refl;
        names = knows.names;
        rows_known =
            rows_kept r.state g [] v (record v.turn { active = None }) (record v.visitor { read = [] }) v.graces v.base v.rows v.granted
            refl refl refl refl knows.phases.rows;
      })

  -- the rule after the step, and its state
  pub leaves : (after : Rule F declared (with_pass table (set table.words i new) table.homes id (left_view v)))
      × (after.state ≡ effect r.state (AtPhases (Turn (Leave c)))) × IsPossible F declared r.state (AtPhases (Turn (Leave c)))
  leaves =
      turned F laws declared table r id v at (Turn (Leave c)) g y r.beside.counts turn_is i new (left_view v)
      (exits_of_generations x.proc even p_few) generations_after pass_after

parity_is : (a : ℕ) → a % 2 ≡ cond (is_even a) 0 1
parity_is a = by_parity (eqb (a % 2) 0) refl where
  by_parity : (b : Bool) → eqb (a % 2) 0 ≡ b → a % 2 ≡ cond b 0 1
  by_parity true e = eqb-true (a % 2) 0 e
  by_parity false e = let not = eqb-false (a % 2) 0 e in omega (arith, not)

leave_goes : {S L P O R : Type 0} (F : Layouts S L P O R) → AreLaws F → (declared : List L) (id i generation : ℕ) (v : PassView P O R) → MayLeave generation v
    → i ≡ exits_word v.turn.proc (generation % 2) → Moves F declared (AtPhases (Turn (Leave v.number))) i (λ n. (n + 1) % 2 ^ 64) (λ found x. left_view x) id v
leave_goes {S} {L} {P} F laws declared id i generation v may same = record {
  from = λ table r at.
      subst (λ j. (after : Rule F declared (with_pass table (set table.words j ((get_or table.words j 0 + 1) % 2 ^ 64)) table.homes id (left_view v)))
      × (after.state ≡ effect r.state (AtPhases (Turn (Leave v.number)))) × IsPossible F declared r.state (AtPhases (Turn (Leave v.number))))
      (ap (λ (z : Caller). exits_at z.proc (is_even generation)) (known F declared table r id v at).generations.turn
      ∙ ap (λ (b : ℕ). exits_word v.turn.proc b) (sym (parity_is generation)) ∙ sym same)
      (leaves F laws declared table r id v at generation may);
}

pub leave_moves : {S L P O R : Type 0} (F : Layouts S L P O R) → AreLaws F → (declared : List L) (id i generation : ℕ) (v : PassView P O R) → MayLeave generation v
    → i ≡ exits_word v.turn.proc (generation % 2)
    → Moves F declared (AtPhases (Turn (Leave v.number))) i (λ n. (n + 1) % 2 ^ 64) (λ found v. took steps.Leave i found (left_view v)) id v
leave_moves F laws declared id i generation v may same =
    logged_moves steps.Leave (λ n. n) (λ found o before is. is) (leave_goes F laws declared id i generation v may same)
