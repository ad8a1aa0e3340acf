-- Reading the exits of a processor is allowed to a pass whose grace is there.
use Rattle.std.proofs.Common.{◌≡◌, ◌≢◌, ℕ, zero, suc, ◌+◌, ◌%◌, ◌^◌, ◌<◌, ◌≤◌, Bool, true, false, not, cond, eqb, List, [], ◌∷◌, Option, Some, None, length, get_or, set, sym, refl, ap, ◌∙◌, subst, ⊎_elim, arith, le_refl, length-set, get_or-set_same, get_or-set_other}
use Rattle.std.specs.List.{slice_get, slice_index}
use Rattle.std.specs.Option.{option_map}
use Rattle.std.proofs.Math.ListN.{get_or-map}
use Rattle.std.proofs.lemmas.Bool.{eqb-true, eqb-false}
use Rattle.std.proofs.lemmas.Bool.Decides.{Decides-eqb, Decides-like, same_from_decides}
use Rattle.std.proofs.lemmas.List.{set-get_or}
use Rattle.std.proofs.lemmas.Option.{slice_get_within, slice_get-get_or}
use mathlib.Core.Option.{some}
use lib.ListN.{get_elem?}
use Rattle.atomic_table.specs.Table.{State}
use Rattle.k42_limits.specs.declared.TheConstants.{CALLERS}
use Rattle.k42_places.specs.Places.{EachPlace}
use Rattle.gen_core.specs.Events as gens
use Rattle.gen_core.specs.Events.{is_even, exits_of, other_exits, turn_of, looked_ahead, caller_passed, is_drained, place_of}
use Rattle.gen_core.specs.Plain.{Generations, Caller}
use Rattle.gen_core.specs.Sound.{generation_of, is_flipped}
use Rattle.gen_core.specs.State.{caller_at, proc_at, put_caller, fresh_proc}
use Rattle.gen_core.specs.declared.event.GenEvent.{GenEvent}
use Rattle.gen_core.specs.declared.event.GenEvent.TheVariants.{LookAhead, Look}
use Rattle.gen_core.specs.declared.state.GenProc.{GenProc}
use Rattle.gen_core.specs.declared.state.GraceAt.{GraceAt}
use Rattle.gen_core.specs.declared.state.GraceAt.TheVariants.{Flipping, Looking}
use Rattle.gen_core.specs.declared.state.GraceAt.TheVariants as graces
use Rattle.gen_core.specs.Consequences.{WaitsFor, AreToldModulo}
use Rattle.gen_core.proofs.Modulo.{left_modulo, waits_near, waits_are_told_modulo}
use Rattle.gen_core.proofs.Ranges.{flipping_there, looking_there}
use Rattle.gen_core.proofs.Stages.{is_even-next, flipped-after_look}
use Rattle.phase_core.specs.Effects.{drained_at}
use Rattle.phase_core.specs.Event.{Turn}
use Rattle.phase_core.specs.Plain.{Visitor}
use Rattle.phase_core.specs.declared.caller.SwapAt.{SwapAt}
use Rattle.phase_core.specs.State.{visitor_at}
use Rattle.k42_stamp.specs.Laws.{AreLaws}
use Rattle.k42_stamp.specs.Layouts.{Layouts}
use Rattle.k42_joined.specs.Effects.{effect}
use Rattle.k42_joined.specs.Event.{AtPhases}
use Rattle.k42_joined.specs.Possible.{IsPossible}
use Rattle.k42_board.specs.Cells.{Slot}
use Rattle.k42_board.specs.Generations.{IsProcessorShown, AreGenerations, will_flip, grace_of, in_words}
use Rattle.k42_board.specs.Gracing.{LooksAhead, LooksBack, MayLook, look_event, looked_at, looked_view, passed_view, exits_in, short_of, ExitsFound}
use Rattle.k42_board.specs.Log.{took}
use Rattle.k42_board.specs.Rule.{Rule}
use Rattle.k42_board.specs.Words.{exits_word}
use Rattle.k42_board.specs.declared.view.PassView.{PassView}
use Rattle.k42_board.specs.declared.view.StepName.TheVariants as steps
use Rattle.k42_board.specs.declared.view.View.{View}
use Rattle.k42_board.specs.declared.view.View.TheVariants.{Crew}
use Rattle.k42_board.proofs.Apart.{IsOfGenerations, of_processor}
use Rattle.k42_board.proofs.Begun.{begun_goes, flips_of}
use Rattle.k42_board.proofs.Holding.{knows, sound, there, turn, procs_few, waits_many, in_step, base_is, role, busy_test, ltb_same}
use Rattle.k42_board.proofs.Logged.{logged_moves_at}
use Rattle.k42_board.proofs.Moves.{Moves, Finds}
use Rattle.k42_board.proofs.OnePass.{with_pass}
use Rattle.k42_board.proofs.Turning.{IsTurn, turned, visitors_after, state_after, own_goes, rows_kept, IsSameSwap, same_swap, drained_swap}

odd_is : (generation parity : ℕ) → parity ≡ generation % 2 → generation % 2 ≢ 0 → parity ≡ 1
odd_is generation parity is odd = by_bound parity is (λ none. odd (sym is ∙ none)) where
  by_bound : (n : ℕ) → n ≡ generation % 2 → n ≢ 0 → n ≡ 1
  by_bound zero same not_none = absurd (not_none refl)
  by_bound (suc zero) same not_none = refl
  by_bound (suc (suc m)) same not_none = absurd (omega (arith, same))

-- the exits of the generations of this parity
exits_shown : (words : List ℕ) (p parity generation : ℕ) (k : GenProc) → parity ≡ generation % 2 → IsProcessorShown words p k
    → get_or words (exits_word p parity) 0 ≡ exits_of k (is_even generation) % 2 ^ 64
exits_shown words p parity generation k is shown = by_test (eqb (generation % 2) 0) refl where
  by_test : (b : Bool) → eqb (generation % 2) 0 ≡ b → get_or words (exits_word p parity) 0 ≡ exits_of k b % 2 ^ 64
  by_test true e =
      let none : parity ≡ 0 = is ∙ eqb-true (generation % 2) 0 e in ap (λ (b : ℕ). get_or words (exits_word p b) 0) none ∙ shown.even
  by_test false e =
      let one : parity ≡ 1 = odd_is generation parity is (eqb-false (generation % 2) 0 e) in
      ap (λ (b : ℕ). get_or words (exits_word p b) 0) one ∙ shown.odd

-- a word tells the lower half of exits
half_told : (found exits : ℕ) → found ≡ exits % 2 ^ 64 → exits_in found ≡ exits % 2 ^ 32
half_told found exits is = omega (arith, is)

-- the lower halves of two counts tell whether they are the same
same_told : (m n : ℕ) → AreToldModulo m n → eqb m n ≡ eqb (m % 2 ^ 32) (n % 2 ^ 32)
same_told m n told =
    same_from_decides (eqb m n) (eqb (m % 2 ^ 32) (n % 2 ^ 32)) (Decides-eqb m n)
    (Decides-like (eqb (m % 2 ^ 32) (n % 2 ^ 32)) told.0 told.1 (Decides-eqb (m % 2 ^ 32) (n % 2 ^ 32)))

-- and how far they are apart
short_told : (m n told found : ℕ) → (m ≤ n) × (n ≤ m + CALLERS) → told ≡ n % 2 ^ 32 → exits_in found ≡ m % 2 ^ 32
    → short_of told found ≤ CALLERS
short_told m n told found near waits exits =
    let apart = left_modulo m n near.0 (omega (arith, near.1)) in rw (waits, exits) (omega (arith, apart, near.1))

-- no exits to come are none, whatever their lower half is
none_told : (coming : Option ℕ) → option_map (λ exits. exits % 2 ^ 32) coming ≡ None → coming ≡ None
none_told None e = refl
none_told (Some exits) e = absurd (cc)

exits_apart_of : (p parity : ℕ) → p < 8 → parity < 2 → IsOfGenerations (exits_word p parity)
exits_apart_of p parity few two = subst (λ i. IsOfGenerations i) (omega arith) (of_processor p (1 + parity) few (omega (arith, two)))

not_not : (b : Bool) → not (not b) ≡ b
not_not true = refl
not_not false = refl

module _ {S L P O R : Type 0} (F : Layouts S L P O R) (laws : AreLaws F) (declared : List L)
    (table : State (Slot P O R) (View P O R)) (r : Rule F declared table) (id : ℕ) (v : PassView P O R)
    (at : get_elem? table.views id ≡ some (Crew (v ∷ []))) where
  abbrev c : ℕ
  c = v.number

  abbrev g0 : Generations
  g0 = r.state.phases.turns

  abbrev x : Caller
  x = caller_at g0 c

  -- the grace of the pass goes on by a load, and nothing else of the generations
  pub record GoesOn (e : GenEvent) (x' : Caller) (y : Visitor) (turn' : Caller) (swap' : SwapAt) : Type 0 where
    pub possible : IsPossible F declared r.state (AtPhases (Turn e))
    pub effect_is : state_after F laws declared table r id v at (Turn e) (put_caller g0 c x') y r.beside.counts ≡ effect r.state (AtPhases (Turn e))
    pub busy : v.turn.grace ≢ graces.Idle
    pub flips : (p : ℕ) → p < length g0.procs → is_flipped x'.grace p ≡ is_flipped x.grace p
    pub turn_is : in_words x' ≡ turn'
    pub proc : turn'.proc ≡ v.turn.proc
    pub visitor_is : y ≡ record v.visitor { swap = swap' }
    pub swap : IsSameSwap v.visitor.swap swap'

  module _ (e : GenEvent) (x' : Caller) (y : Visitor) (turn' : Caller) (swap' : SwapAt) (on : GoesOn e x' y turn' swap') where
    abbrev g : Generations
    g = put_caller g0 c x'

    here : caller_at g c ≡ x'
    here = get_or-set_same g0.callers c x' _ (there F declared table r id v at)

    turn_goes : IsTurn F laws declared table r id v at (Turn e) g y r.beside.counts
    turn_goes = record {
      possible = on.possible;
      effect_is = on.effect_is;
      many_procs_same = refl;
      turns = λ d not. get_or-set_other g0.callers c d x' _ not;
      graces = λ d not. refl;
      base = λ d p k not busy at_p. (k, at_p, refl);
      rises = λ p. le_refl (proc_at g0 p).generation;
    }

    flips_stay : EachPlace (λ p l. (k : GenProc) × (slice_get g0.procs p ≡ Some k) × (flips_of g p l ≤ flips_of g0 p k + 0)) g.procs
    flips_stay p l at_p =
        let same : will_flip g.role (grace_of g g.role) p ≡ will_flip g0.role (grace_of g0 g0.role) p =
        let held = role F declared table r id v at on.busy in
        ap (λ (holder : Option ℕ). will_flip holder (grace_of g holder) p) held
        ∙ ap (λ (z : Caller). cond (is_flipped z.grace p) 0 1) here
        ∙ ap (λ (b : Bool). cond b 0 1) (on.flips p (slice_get_within g0.procs p l at_p))
        ∙ sym (ap (λ (holder : Option ℕ). will_flip holder (grace_of g0 holder) p) held) in
        (l, at_p, omega (arith, same))

    generations_go : (i : ℕ) → AreGenerations (set table.words i (get_or table.words i 0)) g r.beside.counts
    generations_go i =
        rw (set-get_or table.words i 0) (record {
          procs = r.shows.generations.procs;
          role = r.shows.generations.role;
          graces = record {
            many = r.shows.generations.graces.many ∙ sym (length-set g0.callers c x');
            few = r.shows.generations.graces.few;
          };
          begun = begun_goes g0 g r.beside.counts r.beside.counts 0 (omega arith) flips_stay r.shows.generations.begun;
        })

    pub goes_on : (i : ℕ) → IsOfGenerations i
        → (after : Rule F declared (with_pass table (set table.words i (get_or table.words i 0)) table.homes id
        (record v { turn = turn'; visitor = record v.visitor { swap = swap' } })))
        × (after.state ≡ effect r.state (AtPhases (Turn e))) × IsPossible F declared r.state (AtPhases (Turn e))
    goes_on i apart =
        let k = knows F declared table r id v at in
        let found : ℕ = get_or table.words i 0 in
        turned F laws declared table r id v at (Turn e) g y r.beside.counts turn_goes i found
        (record v { turn = turn'; visitor = record v.visitor { swap = swap' } }) apart (generations_go i)
        (own_goes r.state g (visitors_after F laws declared table r id v at (Turn e) g y r.beside.counts) v
        turn' (record v.visitor { swap = swap' }) v.graces v.base v.rows v.granted
        F.tag_of r.beside r.beside.counts id k
        (record {
          many = length-set r.state.phases.callers c y;
          rises = turn_goes.rises;
          generations = record {
            turn = ap in_words here ∙ on.turn_is;
            graces = k.generations.graces;
            base = λ b asked not_idle p l at_p.
                let same : is_flipped turn'.grace p ≡ is_flipped v.turn.grace p =
                ap (λ (z : Caller). is_flipped z.grace p) (sym on.turn_is) ∙ on.flips p (slice_get_within g0.procs p l at_p)
                ∙ ap (λ (z : Caller). is_flipped z.grace p) (turn F declared table r id v at) in
                rw same (k.generations.base b asked (busy_test v.turn.grace on.busy) p l at_p);
          };
          visitor_is = get_or-set_same r.state.phases.callers c y _ k.there ∙ on.visitor_is;
          place = refl;
          swap = on.swap;
          proc = on.proc;
          names = k.names;
          rows_known =
              rows_kept r.state g [] v turn' (record v.visitor { swap = swap' }) v.graces v.base v.rows v.granted
              refl refl refl refl k.phases.rows;
        }))

  -- before the flip

  module _ (p parity : ℕ) (looks : LooksAhead p parity v) where
    abbrev i : ℕ
    i = exits_word p parity

    abbrev found : ℕ
    found = get_or table.words i 0

    at_grace : x.grace ≡ Flipping p
    at_grace = ap (λ (z : Caller). z.grace) (turn F declared table r id v at) ∙ looks.grace

    busy : v.turn.grace ≢ graces.Idle
    busy idle = absurd (let grace = looks.grace in cc)

    p_there : p < length g0.procs
    p_there = flipping_there g0 c (sound F declared table r id v at) (there F declared table r id v at) p at_grace

    p_few : p < 8
    p_few = let few = procs_few F declared table r id v at in let lt = p_there in omega (arith, few, lt)

    at_p : slice_get g0.procs p ≡ Some (proc_at g0 p)
    at_p = slice_get-get_or g0.procs p fresh_proc p_there

    base_here : (proc_at g0 p).generation ≡ looks.base
    base_here =
        let step = in_step F declared table r id v at busy p (proc_at g0 p) at_p in
        let from = base_is F declared table r id v at busy looks.base looks.asked (busy_test v.turn.grace busy) in
        let base : ℕ = (sound F declared table r id v at).course.base in
        step ∙ ap (λ (grace : GraceAt). generation_of base (is_flipped grace p)) looks.grace ∙ ap (generation_of base) (ltb_same p) ∙ sym from

    found_ahead : exits_in found ≡ other_exits (turn_of g0 c) % 2 ^ 32
    found_ahead =
        let next : parity ≡ (looks.base + 1) % 2 = looks.next in
        rw at_grace
        (half_told found (exits_of (proc_at g0 p) (is_even (looks.base + 1)))
        (exits_shown table.words p parity (looks.base + 1) (proc_at g0 p) next (r.shows.generations.procs p (proc_at g0 p) at_p))
        ∙ ap (λ (b : Bool). exits_of (proc_at g0 p) b % 2 ^ 32) (is_even-next looks.base ∙ ap (λ (n : ℕ). not (is_even n)) (sym base_here)))

    unknown : x.coming ≡ None
    unknown = none_told x.coming (ap (λ (z : Caller). z.coming) (turn F declared table r id v at) ∙ looks.unknown)

    can_ahead : gens.is_possible g0 (LookAhead c) ≡ true
    can_ahead = rw (at_grace, unknown) refl

    looks_ahead : (after : Rule F declared (with_pass table (set table.words i found) table.homes id (looked_view found v)))
        × (after.state ≡ effect r.state (AtPhases (Turn (look_event c v.turn.grace)))) × IsPossible F declared r.state (AtPhases (Turn (look_event c v.turn.grace)))
    looks_ahead =
        subst (λ (grace : GraceAt). (after : Rule F declared (with_pass table (set table.words i found) table.homes id (looked_at grace found v)))
        × (after.state ≡ effect r.state (AtPhases (Turn (look_event c grace)))) × IsPossible F declared r.state (AtPhases (Turn (look_event c grace)))) (sym looks.grace)
        (goes_on (LookAhead c) (looked_ahead x (turn_of g0 c)) (visitor_at r.state.phases c) (record v.turn { coming = Some (exits_in found) }) v.visitor.swap
        (record {
          possible = record {
            caller = (knows F declared table r id v at).there;
            may = record { objects = tt; core = rw can_ahead refl; beside = refl };
          };
          effect_is = refl;
          busy = busy;
          flips = λ q lt. refl;
          turn_is =
              ap (λ (n : ℕ). record (in_words x) { coming = Some n }) (sym found_ahead)
              ∙ ap (λ (z : Caller). record z { coming = Some (exits_in found) }) (turn F declared table r id v at);
          proc = refl;
          visitor_is = (knows F declared table r id v at).phases.visitor;
          swap = same_swap v.visitor.swap;
        })
        i (exits_apart_of p parity p_few (let next = looks.next in omega (arith, next))))

    found_ahead_is : ExitsFound v found
    found_ahead_is = record { few = λ looking. absurd (let grace = looks.grace in cc) }

  -- and after it

  module _ (p parity : ℕ) (looks : LooksBack p parity v) where
    abbrev i' : ℕ
    i' = exits_word p parity

    abbrev found' : ℕ
    found' = get_or table.words i' 0

    at_grace' : x.grace ≡ Looking p
    at_grace' = ap (λ (z : Caller). z.grace) (turn F declared table r id v at) ∙ looks.grace

    busy' : v.turn.grace ≢ graces.Idle
    busy' idle = absurd (let grace = looks.grace in cc)

    p_there' : p < length g0.procs
    p_there' = looking_there g0 c (sound F declared table r id v at) (there F declared table r id v at) p at_grace'

    p_few' : p < 8
    p_few' = let few = procs_few F declared table r id v at in let lt = p_there' in omega (arith, few, lt)

    at_p' : slice_get g0.procs p ≡ Some (proc_at g0 p)
    at_p' = slice_get-get_or g0.procs p fresh_proc p_there'

    -- the processor is one generation further
    base_next : (proc_at g0 p).generation ≡ looks.base + 1
    base_next =
        let step = in_step F declared table r id v at busy' p (proc_at g0 p) at_p' in
        let from = base_is F declared table r id v at busy' looks.base looks.asked (busy_test v.turn.grace busy') in
        let base : ℕ = (sound F declared table r id v at).course.base in
        step ∙ ap (λ (grace : GraceAt). generation_of base (is_flipped grace p)) looks.grace ∙ ap (λ (b : ℕ). b + 1) (sym from)

    found_back : exits_in found' ≡ other_exits (proc_at g0 p) % 2 ^ 32
    found_back =
        half_told found' (exits_of (proc_at g0 p) (is_even looks.base))
        (exits_shown table.words p parity looks.base (proc_at g0 p) looks.former (r.shows.generations.procs p (proc_at g0 p) at_p'))
        ∙ ap (λ (b : Bool). exits_of (proc_at g0 p) b % 2 ^ 32)
        (sym (not_not (is_even looks.base)) ∙ ap not (sym (is_even-next looks.base)) ∙ ap (λ (n : ℕ). not (is_even n)) (sym base_next))

    -- the pass is the holder, which waits for the processor
    waits_for : WaitsFor g0 c p
    waits_for = (role F declared table r id v at busy', rw at_grace' refl, rw at_grace' (ltb_same p))

    abbrev waits : ℕ
    waits = slice_index x.waits p

    -- of what it waits for it has the lower half
    waits_told : slice_index v.turn.waits p ≡ waits % 2 ^ 32
    waits_told =
        ap (λ (z : Caller). slice_index z.waits p) (sym (turn F declared table r id v at))
        ∙ get_or-map (λ (entries : ℕ). entries % 2 ^ 32) x.waits p 0

    drained_is : is_drained x (turn_of g0 c) ≡ eqb (exits_in found') (slice_index v.turn.waits p)
    drained_is =
        ap (λ (grace : GraceAt). eqb (other_exits (proc_at g0 (place_of grace))) (slice_index x.waits (place_of grace))) at_grace'
        ∙ same_told (other_exits (proc_at g0 p)) waits (waits_are_told_modulo g0 c p (sound F declared table r id v at) p_there' waits_for)
        ∙ ap (λ (n : ℕ). eqb n (waits % 2 ^ 32)) (sym found_back)
        ∙ ap (eqb (exits_in found')) (sym waits_told)

    can_look : gens.is_possible g0 (Look c) ≡ true
    can_look = rw at_grace' refl

    possible_look : IsPossible F declared r.state (AtPhases (Turn (Look c)))
    possible_look = record {
      caller = (knows F declared table r id v at).there;
      may = record { objects = tt; core = rw can_look refl; beside = refl };
    }

    -- the visitor, by the caller that is put
    abbrev y_of : Generations → Visitor
    y_of t = record (visitor_at r.state.phases c) { swap = drained_at (caller_at t c).grace (visitor_at r.state.phases c).swap }

    looked_is : (t : Generations) → t ≡ gens.effect g0 (Look c)
        → state_after F laws declared table r id v at (Turn (Look c)) t (y_of t) r.beside.counts ≡ effect r.state (AtPhases (Turn (Look c)))
    looked_is t e =
        ap (λ (z : Generations). record r.state { phases = record r.state.phases { turns = z; callers = set r.state.phases.callers c (y_of z) } }) e

    abbrev Goal : PassView P O R → Type 0
    Goal w =
        (after : Rule F declared (with_pass table (set table.words i' found') table.homes id w))
        × (after.state ≡ effect r.state (AtPhases (Turn (Look c)))) × IsPossible F declared r.state (AtPhases (Turn (Look c)))

    abbrev n : ℕ
    n = length v.turn.waits

    many : length g0.procs ≡ n
    many = sym (waits_many F declared table r id v at)

    passes : is_drained x (turn_of g0 c) ≡ true
        → Goal (record v { turn = caller_passed v.turn n; visitor = record v.visitor { swap = drained_at (caller_passed v.turn n).grace v.visitor.swap } })
    passes drained =
        let x' : Caller = caller_passed x (length g0.procs) in
        let g' : Generations = put_caller g0 c x' in
        let is : g' ≡ gens.effect g0 (Look c) = rw drained refl in
        let same : in_words x' ≡ caller_passed v.turn n =
        ap (λ (z : Caller). caller_passed z (length g0.procs)) (turn F declared table r id v at) ∙ ap (caller_passed v.turn) many in
        goes_on (Look c) x' (y_of g') (caller_passed v.turn n) (drained_at (caller_passed v.turn n).grace v.visitor.swap)
        (record {
          possible = possible_look;
          effect_is = looked_is g' is;
          busy = busy';
          flips = λ q lt. rw at_grace' (flipped-after_look p (length g0.procs) p_there' q lt);
          turn_is = same;
          proc = refl;
          visitor_is =
              ap (λ (grace : GraceAt). record (visitor_at r.state.phases c) { swap = drained_at grace (visitor_at r.state.phases c).swap })
              (ap (λ (z : Caller). z.grace) (get_or-set_same g0.callers c x' _ (there F declared table r id v at)) ∙ ap (λ (z : Caller). z.grace) same)
              ∙ ap (λ (z : Visitor). record z { swap = drained_at (caller_passed v.turn n).grace z.swap }) (knows F declared table r id v at).phases.visitor;
          swap = drained_swap (caller_passed v.turn n).grace v.visitor.swap;
        })
        i' (exits_apart_of p parity p_few' (let back = looks.former in omega (arith, back)))

    stays : is_drained x (turn_of g0 c) ≡ false → Goal v
    stays waiting =
        let same : put_caller g0 c x ≡ g0 = ap (λ (callers : List Caller). record g0 { callers = callers }) (set-get_or g0.callers c _) in
        let is : put_caller g0 c x ≡ gens.effect g0 (Look c) = rw waiting same in
        goes_on (Look c) x (y_of (put_caller g0 c x)) v.turn v.visitor.swap
        (record {
          possible = possible_look;
          effect_is = looked_is (put_caller g0 c x) is;
          busy = busy';
          flips = λ q lt. refl;
          turn_is = turn F declared table r id v at;
          proc = refl;
          visitor_is =
              ap (λ (t : Generations). record (visitor_at r.state.phases c) { swap = drained_at (caller_at t c).grace (visitor_at r.state.phases c).swap }) same
              ∙ ap (λ (grace : GraceAt). record (visitor_at r.state.phases c) { swap = drained_at grace (visitor_at r.state.phases c).swap }) at_grace'
              ∙ (knows F declared table r id v at).phases.visitor;
          swap = same_swap v.visitor.swap;
        })
        i' (exits_apart_of p parity p_few' (let back = looks.former in omega (arith, back)))

    looks_back : (after : Rule F declared (with_pass table (set table.words i' found') table.homes id (looked_view found' v)))
        × (after.state ≡ effect r.state (AtPhases (Turn (look_event c v.turn.grace)))) × IsPossible F declared r.state (AtPhases (Turn (look_event c v.turn.grace)))
    looks_back =
        subst (λ (grace : GraceAt). (after : Rule F declared (with_pass table (set table.words i' found') table.homes id (looked_at grace found' v)))
        × (after.state ≡ effect r.state (AtPhases (Turn (look_event c grace)))) × IsPossible F declared r.state (AtPhases (Turn (look_event c grace)))) (sym looks.grace)
        (by_test (eqb (exits_in found') (slice_index v.turn.waits p)) drained_is)
      where
        by_test : (b : Bool) → is_drained x (turn_of g0 c) ≡ b → Goal (cond b (passed_view v) v)
        by_test true e = passes e
        by_test false e = stays e

    -- no more have not left than there are callers
    found_back_is : ExitsFound v found'
    found_back_is = record {
      few = λ looking.
          let near = waits_near g0 c p (sound F declared table r id v at) p_there' waits_for in
          rw looks.grace (short_told (other_exits (proc_at g0 p)) waits (slice_index v.turn.waits p) found' near waits_told found_back);
    }

  pub looks_on : (p parity : ℕ) → MayLook p parity v
      → (after : Rule F declared (with_pass table (set table.words (exits_word p parity) (get_or table.words (exits_word p parity) 0)) table.homes id (looked_view (get_or table.words (exits_word p parity) 0) v)))
      × (after.state ≡ effect r.state (AtPhases (Turn (look_event c v.turn.grace)))) × IsPossible F declared r.state (AtPhases (Turn (look_event c v.turn.grace)))
  looks_on p parity may = ⊎_elim (λ ahead. looks_ahead p parity ahead) (λ back. looks_back p parity back) may

  pub exits_found : (p parity : ℕ) → MayLook p parity v → ExitsFound v (get_or table.words (exits_word p parity) 0)
  exits_found p parity may = ⊎_elim (λ ahead. found_ahead_is p parity ahead) (λ back. found_back_is p parity back) may

pub look_moves : {S L P O R : Type 0} (F : Layouts S L P O R) → AreLaws F → (declared : List L) (id i p parity : ℕ) (v : PassView P O R) → MayLook p parity v
    → i ≡ exits_word p parity
    → Moves F declared (AtPhases (Turn (look_event v.number v.turn.grace))) i (λ word. word) (λ found v. took steps.Look i found (looked_view found v)) id v
look_moves {S} {L} {P} F laws declared id i p parity v may same = logged_moves_at steps.Look (λ n. n) (λ found o before is. is) same goes where
  goes : Moves F declared (AtPhases (Turn (look_event v.number v.turn.grace))) (exits_word p parity) (λ word. word) looked_view id v
  goes = record { from = λ table r at. looks_on F laws declared table r id v at p parity may }

pub look_finds : {S L P O R : Type 0} (F : Layouts S L P O R) → AreLaws F → (declared : List L) (id i p parity : ℕ) (v : PassView P O R) → MayLook p parity v
    → i ≡ exits_word p parity → Finds F declared i ExitsFound id v
look_finds F laws declared id i p parity v may same table r at =
    subst (λ (j : ℕ). ExitsFound v (get_or table.words j 0)) (sym same) (exits_found F laws declared table r id v at p parity may)
