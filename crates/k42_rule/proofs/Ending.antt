-- What the last state of a system tells of its passes.
use Rattle.std.proofs.Common.{◌≡◌, ℕ, ◌<◌, true, List, [], ◌∷◌, Option, Some, None, length, get_or, sym, refl, ap, ◌∙◌, subst, arith}
use Rattle.std.specs.List.{slice_get}
use Rattle.std.specs.Prelude.{◌++◌, ◌&&◌, option_map, is_none}
use Rattle.gen_core.specs.Events as graces
use Rattle.std.specs.List.{remove}
use Rattle.std.proofs.lemmas.Bool.{and_parts}
use Rattle.std.proofs.lemmas.List.{length-map, ext_get_or}
use Rattle.std.proofs.Math.ListN.{get_or-map}
use Rattle.std.proofs.lemmas.Option.{slice_get-map, get_or_from_slice_get}
use mathlib.Core.Option.{some}
use lib.ListN.{get_elem?}
use Rattle.atomic_table.specs.Table.{State, Seen}
use Rattle.gen_core.specs.State.{caller_at}
use Rattle.phase_core.specs.Stages.{is_out, is_idle}
use Rattle.phase_core.proofs.InSound.{visitor_known}
use Rattle.turn_core.specs.Plain.{Caller}
use Rattle.turn_core.specs.State as turns
use Rattle.k42_kinds.specs.declared.entry.Entry.{Entry}
use Rattle.k42_places.specs.Places.{EachPlace}
use Rattle.k42_stamp.specs.Layouts.{Layouts}
use Rattle.k42_joined.specs.Fitting.{lists_of}
use Rattle.k42_joined.specs.Plain.{Joined}
use Rattle.k42_joined.specs.State.{mine}
use Rattle.k42_board.specs.Cells.{Slot}
use Rattle.k42_board.specs.Dealing.{crew_in}
use Rattle.k42_rule.specs.Finishing.{views_of, lists_in, AreAtRest, IsResting, AreLastLists}
use Rattle.k42_board.specs.Rule.{KnowsPass, Ruled}
use Rattle.k42_board.specs.Seen.{SysSeen, PassSeen, IsSeatOf, is_at_rest}
use Rattle.k42_board.specs.Steps.{Seated}
use Rattle.k42_board.specs.Views.{pass_in}
use Rattle.k42_board.specs.declared.view.PassView.{PassView}
use Rattle.k42_board.specs.declared.view.View.{View}
use Rattle.k42_board.specs.declared.view.View.TheVariants.{Crew}
use Rattle.k42_rule.proofs.Opening.{there_is}

none_is : {A : Type 0} (x : Option A) → is_none x ≡ true → x ≡ None
none_is None e = refl
none_is (Some a) e = absurd (cc)

rests_at : {P O R : Type 0} (v : PassView P O R) → is_at_rest v ≡ true → (v.turn.active ≡ None) × (is_idle v.visitor.swap ≡ true)
rests_at v e =
    let parts = and_parts (is_none v.turn.active && graces.is_idle v.turn.grace) (is_idle v.visitor.swap) e in
    (none_is v.turn.active (and_parts (is_none v.turn.active) (graces.is_idle v.turn.grace) parts.0).0, parts.1)

-- passes that each have a seat in the state
module _ {S L P O R : Type 0} (F : Layouts S L P O R) (declared : List L) (sys : SysSeen L) (passes : List (PassSeen P O R)) (rest : AreAtRest sys passes)
    (table : State (Slot P O R) (View P O R)) (ruled : Ruled F declared (length sys.callers) table)
    (known : (c : ℕ) (pass : PassSeen P O R) → slice_get passes c ≡ Some pass → (id : ℕ) × KnowsPass F.tag_of ruled.rule.state ruled.rule.beside id pass.view) where
  abbrev s : Joined L O R
  s = ruled.rule.state

  pass_at : (c : ℕ) → c < length passes → (pass : PassSeen P O R) × (slice_get passes c ≡ Some pass)
  pass_at c lt = there_is passes c lt

  mine_is : (c : ℕ) (pass : PassSeen P O R) → slice_get passes c ≡ Some pass → mine s c ≡ pass.view.taker.mine
  mine_is c pass e =
      ap (λ d. mine s d) (sym (rest.each c pass e).number) ∙ ap (λ (x : Caller O R). x.mine) (known c pass e).1.cells.taker

  resting_at : (c : ℕ) (pass : PassSeen P O R) → slice_get passes c ≡ Some pass → IsResting s c
  resting_at c pass e = subst (IsResting s) (rest.each c pass e).number resting where
    k : KnowsPass F.tag_of s ruled.rule.beside (known c pass e).0 pass.view
    k = (known c pass e).1

    inactive : (caller_at s.phases.turns pass.view.number).active ≡ None
    inactive = ap (λ x. x.active) k.generations.turn ∙ (rests_at pass.view (rest.each c pass e).rests).0

    resting : IsResting s pass.view.number
    resting = record {
      inactive = inactive;
      out = ap is_out ((visitor_known s.phases ruled.rule.sound.phases pass.view.number k.there).at_rest inactive).0;
      swap = ap (λ x. is_idle x.swap) k.phases.visitor ∙ (rests_at pass.view (rest.each c pass e).rests).1;
    }

  many_lists : length s.turns.callers ≡ length passes
  many_lists = ruled.rule.sound.cells.locks.many.callers ∙ ruled.many ∙ sym rest.many

  drawn : lists_in passes ≡ lists_of s
  drawn =
      ext_get_or [] (lists_in passes) (lists_of s)
      (length-map passes _ ∙ sym many_lists ∙ sym (length-map s.turns.callers _))
      (λ c lt.
      let pass = pass_at c (let long = length-map passes (λ (p : PassSeen P O R). p.view.taker.mine) in omega (arith, lt, long)) in
      get_or_from_slice_get (lists_in passes) c pass.0.view.taker.mine []
      (slice_get-map (λ (p : PassSeen P O R). p.view.taker.mine) passes c ∙ ap (option_map (λ (p : PassSeen P O R). p.view.taker.mine)) pass.1)
      ∙ sym (mine_is c pass.0 pass.1)
      ∙ sym (get_or-map (λ (x : Caller O R). x.mine) s.turns.callers c turns.fresh_caller))

  known_last : (lists : List (List (Entry O R))) → lists ≡ lists_in passes → AreLastLists F declared (length sys.callers) lists
  known_last lists is = record {
    state = s;
    sound = ruled.rule.sound;
    many = ruled.many;
    drawn = is ∙ drawn;
    resting = λ c lt. let pass = pass_at c (let many = rest.many in omega (arith, lt, many)) in resting_at c pass.0 pass.1;
  }

module _ {S L P O R : Type 0} (F : Layouts S L P O R) (declared : List L) (sys : SysSeen L) (passes : List (PassSeen P O R)) (rest : AreAtRest sys passes) where
  -- all at one seat, as they end
  pub are_last : (id : ℕ) (table : State (Slot P O R) (View P O R)) → Seen (Ruled F declared (length sys.callers)) id (Crew (views_of passes)) table
      → (lists : List (List (Entry O R))) → lists ≡ lists_in passes → AreLastLists F declared (length sys.callers) lists
  are_last id table seen =
      known_last F declared sys passes rest table seen.0
      (λ c pass e. (
        id,
        (seen.0.rule.seats id (Crew (views_of passes)) seen.1).1 c pass.view
            (slice_get-map (λ (p : PassSeen P O R). p.view) passes c ∙ ap (option_map (λ (p : PassSeen P O R). p.view)) e),
      ))

  -- each at its own, as they go on
  pub last_seated : (table : State (Slot P O R) (View P O R)) → Ruled F declared (length sys.callers) table
      → EachPlace (λ c pass. get_elem? table.views pass.seat ≡ some (Crew (pass.view ∷ []))) passes → AreLastLists F declared (length sys.callers) (lists_in passes)
  last_seated table ruled shown =
      known_last F declared sys passes rest table ruled
      (λ c pass e. (pass.seat, (ruled.rule.seats pass.seat (Crew (pass.view ∷ [])) (shown c pass e)).1 0 pass.view refl)) (lists_in passes) refl

-- a list that is not empty, and what is left of it without its first member
pub first_removed : {A : Type 0} (xs : List A) (a : A) (rest : List A) → 0 < length xs → a ≡ get_or xs 0 a → rest ≡ remove xs 0 → xs ≡ a ∷ rest
first_removed [] a rest more first is = absurd (omega arith)
first_removed (x ∷ xs) a rest more first is = λ i. sym first i ∷ sym is i

pub all_views : {P O R : Type 0} (passes rest : List (PassSeen P O R)) (pass : PassSeen P O R) (own after : Seated P O R) → passes ≡ pass ∷ rest → IsSeatOf own (pass_in own.0)
    → pass_in own.0 ≡ pass.view → after ≡ (Crew (crew_in own.0 ++ views_of rest), []) → after.0 ≡ Crew (views_of passes)
all_views {P} {O} {R} passes rest pass own after is seat same now =
    ap (λ (m : Seated P O R). m.0) now
    ∙ ap (λ (m : Seated P O R). Crew (crew_in m.0 ++ views_of rest)) seat
    ∙ ap (λ (v : PassView P O R). Crew (v ∷ views_of rest)) same
    ∙ ap (λ (l : List (PassSeen P O R)). Crew (views_of l)) (sym is)
