-- A call in its row, and one try of it: what the pass knows once it holds no cell again.
use Rattle.std.proofs.Common.{◌≡◌, ◌≢◌, ℕ, ◌<◌, Bool, true, false, cond, eqb, List, [], ◌∷◌, ◌++◌, Option, Some, None, Result, Ok, Err, length, refl, sym, ap, ◌∙◌, subst}
use Rattle.std.specs.Prelude.{is_some, IfOk, OnErr}
use Rattle.k42_kinds.specs.declared.entry.Act.TheVariants.{Call}
use Rattle.k42_kinds.specs.declared.entry.Answer.TheVariants.{Replied}
use Rattle.k42_kinds.specs.declared.entry.Entry.{Entry}
use Rattle.phase_core.specs.Stages.{is_out, object_of}
use Rattle.phase_core.specs.declared.caller.Place.TheVariants.{Out}
use Rattle.turn_core.specs.Events.{caller_drawn}
use Rattle.turn_core.specs.Plain.{Caller}
use Rattle.turn_core.specs.Stamps.{last_stamp}
use Rattle.k42_stamp.specs.Layouts.{Layouts}
use Rattle.k42_board.specs.Drawing.{numbers_of}
use Rattle.k42_board.specs.Log.{ComesTo, Extends, EndsWith, step_at, took, with_log}
use Rattle.k42_board.specs.Phases.{is_served}
use Rattle.k42_board.specs.Seen.{Own, own_in}
use Rattle.k42_board.specs.Tabling.{entry_in, looked_up_view, ended_view}
use Rattle.k42_board.specs.Words.{local_word}
use Rattle.k42_board.specs.declared.cell.Content.{Content}
use Rattle.k42_board.specs.declared.view.PassView.{PassView}
use Rattle.k42_board.specs.declared.view.StepName.TheVariants as names
use Rattle.k42_board.proofs.Gained.{extends_one, extends_as, extends_on, ends_on, meets_on, meets_then}
use Rattle.k42_mediator.specs.Taken.{released}
use Rattle.k42_mediator.proofs.GivenBack.{released_none}
use Rattle.k42_tables.specs.Entries.{entered_by}
use Rattle.k42_tables.specs.declared.answers.Entered.TheVariants.{Direct, Missed, Mediated}
use Rattle.k42_runtime.specs.Calls.{WasHeld}
use Rattle.k42_runtime.specs.Reaching.{HasTaken, WasStopped}
use Rattle.k42_runtime.specs.Serving.{object_inside, GoesBy, IsCallNext, HasMade, Makes, HasDrawn, GoesIn, GoesOut, IsServedBy, HasTried}
use Rattle.k42_runtime.specs.Systems.{KeepsElse}
use Rattle.k42_runtime.specs.declared.calls.CallCause.{CallCause}
use Rattle.k42_runtime.specs.declared.calls.CallCause.TheVariants as causes
use Rattle.k42_runtime.specs.declared.calls.CallStep.{CallStep}
use Rattle.k42_runtime.specs.declared.calls.CallStep.TheVariants as steps

-- the cells that were taken are given back
module _ {S L P O R : Type 0} (F : Layouts S L P O R) (declared : List L) (old mid : PassView P O R) (contents : List (Content P O R)) (back : old.out ≡ None) where
  pub served_held : (holder : ℕ) (new : PassView P O R) → WasStopped F declared holder (object_inside old) old mid contents
      → ComesTo mid (released (numbers_of contents) mid) new → (new ≡ with_log new.log old) × WasHeld (object_inside old) holder old new
  served_held holder new stopped gave =
      let was = stopped.was in (
        gave.knows ∙ ap (with_log new.log) (stopped.released_is ∙ ap (with_log mid.log) (released_none old back)),
        record {
          incarnation = was.incarnation;
          place = was.place;
          there = was.there;
          another = was.another;
          caller = was.caller;
          met = meets_then was.met gave.log;
        },
      )

  module _ (cells : List ℕ) (taken : HasTaken F declared cells old mid contents) where
    was_taken : released (numbers_of contents) mid ≡ with_log mid.log old
    was_taken = ap (λ ns. released ns mid) taken.numbers ∙ taken.released_is ∙ ap (with_log mid.log) (released_none old back)

    module _ (op : O) (made new : PassView P O R) (news : List (Content P O R)) (same : numbers_of news ≡ numbers_of contents)
        (gave : ComesTo made (released (numbers_of news) made) new) where
      served_nothing : made ≡ mid → ComesTo old old new
      served_nothing still = record {
        knows = gave.knows ∙ ap (with_log new.log) ((λ j. released (same j) (still j)) ∙ was_taken);
        log = extends_on taken.log (subst (λ (v : PassView P O R). Extends v.log new.log) still gave.log);
      }

      served_drawn : (reply : R) → old.untold ≡ [] → HasMade (numbers_of contents) op reply mid made → HasDrawn op reply old new
      served_drawn reply told is =
          let before : IsCallNext op reply (released (numbers_of contents) mid) is.entry = record { later = is.next.later; whole = is.next.whole } in
          let next : IsCallNext op reply (with_log mid.log old) is.entry = subst (λ (v : PassView P O R). IsCallNext op reply v is.entry) was_taken before in
          record {
            entry = is.entry;
            next = record { later = next.later; whole = next.whole };
            comes = record {
              knows =
                  gave.knows
                  ∙ ap (with_log new.log)
                  (ap (λ ns. released ns made) same ∙ is.knows
                  ∙ ap (λ (v : PassView P O R). with_log made.log (record v { taker = caller_drawn is.entry v.taker; found = None; untold = [] })) was_taken)
                  ∙ ap (λ cells. with_log new.log (record old { taker = caller_drawn is.entry old.taker; found = None; untold = cells })) (sym told);
              log = extends_on taken.log (extends_on is.log gave.log);
            };
          }

      pub served_by : (step : CallStep R) → old.untold ≡ [] → Makes step (numbers_of contents) op mid made → IsServedBy step op old new
      served_by (steps.Ended reply) told makes = served_drawn reply told makes
      served_by (steps.Again cause) told makes = absurd makes
      served_by steps.Memory told makes = served_nothing makes
      served_by steps.Worn told makes = makes

module _ {P O R : Type 0} where
  pub extends_finished : (tracked : Bool) (v w : PassView P O R)
      → (tracked ≡ false → (word : ℕ) × (found : ℕ) × (w ≡ took names.EndCall word found (ended_view v)))
      → (tracked ≡ true → (word : ℕ) × (found : ℕ) × (w ≡ took names.StepOut word found (ended_view v))) → Extends v.log w.log
  extends_finished false v w direct counted = extends_as (ap (λ (u : PassView P O R). u.log) (direct refl).2) (extends_one _ v.log refl)
  extends_finished true v w direct counted = extends_as (ap (λ (u : PassView P O R). u.log) (counted refl).2) (extends_one _ v.log refl)

  -- what was found on the way in is so of the whole way
  pub held_before : (object other holder : ℕ) (u v w : PassView P O R) → v.number ≡ u.number → other ≡ object → Extends u.log v.log → WasHeld other holder v w
      → WasHeld object holder u w
  held_before object other holder u v w number same first is = record {
    incarnation = is.incarnation;
    place = is.place;
    there = is.there;
    another = subst (λ n. holder ≢ n) number is.another;
    caller = is.caller;
    met = meets_on first (subst (λ (o : ℕ). WasHeld o holder v w) same is).met;
  }

  goes_on : (object : ℕ) (u v w : PassView P O R) → v.number ≡ u.number → v.turn.proc ≡ u.turn.proc → Extends u.log v.log → (held : Option CallCause)
      → GoesIn held object v w → GoesIn held object u w
  goes_on object u v w number proc first None is = (is.0, extends_on first is.1)
  goes_on object u v w number proc first (Some causes.Blocked) is =
      (is.0, record { found = is.1.found; blocked = is.1.blocked; met = meets_on first is.1.met })
  goes_on object u v w number proc first (Some (causes.Elsewhere word)) is =
      (is.0, ends_on first (subst (λ p. EndsWith (step_at names.Install (local_word p object) word) v.log w.log) proc is.1))
  goes_on object u v w number proc first (Some (causes.CellHeld holder)) is = (is.0, held_before object object holder u v w number refl first is.1)

  -- a look-up, and what comes after it
  pub found_direct : (o cell found : ℕ) (u v : PassView P O R) → Direct cell ≡ entered_by (entry_in found)
      → v ≡ took names.LookUp (local_word u.turn.proc o) found (looked_up_view o found u) → (is_served v.visitor.place ≡ true) × (object_of v.visitor.place ≡ o)
      → GoesIn None o u v
  found_direct o cell found u v is knows there = (
    record {
      served = there.0;
      of = there.1;
      known = ap (λ (w : PassView P O R). is_some w.layout) knows ∙ told (eqb (entry_in found).tag 0) (eqb (entry_in found).tag 1) is;
    },
    extends_as (ap (λ (w : PassView P O R). w.log) knows) (extends_one (step_at names.LookUp (local_word u.turn.proc o) found) u.log refl),
  )
    where
      told : (a b : Bool) → Direct cell ≡ cond a Missed (cond b (Direct (entry_in found).cell) Mediated) → is_some (cond b (Some (entry_in found).layout) None) ≡ true
      told true b e = absurd (cc)
      told false true e = refl
      told false false e = absurd (cc)

  pub goes_after : (o found : ℕ) (u v w : PassView P O R) → v ≡ took names.LookUp (local_word u.turn.proc o) found (looked_up_view o found u) → (held : Option CallCause)
      → GoesIn held o v w → GoesIn held o u w
  goes_after o found u v w knows =
      goes_on o u v w (ap (λ (x : PassView P O R). x.number) knows) (ap (λ (x : PassView P O R). x.turn.proc) knows)
      (extends_as (ap (λ (x : PassView P O R). x.log) knows) (extends_one (step_at names.LookUp (local_word u.turn.proc o) found) u.log refl))

  pub gives_way : (o found : ℕ) (u v w : PassView P O R) → v ≡ took names.LookUp (local_word u.turn.proc o) found (looked_up_view o found u)
      → {E : Type 0} (result : Result (Option CallCause) E) → OnErr result (GoesOut v w) → OnErr result (GoesOut u w)
  gives_way o found u v w knows (Ok held) is = tt
  gives_way o found u v w knows (Err error) is =
      (is.0, extends_on (extends_as (ap (λ (x : PassView P O R). x.log) knows) (extends_one (step_at names.LookUp (local_word u.turn.proc o) found) u.log refl)) is.1)

  pub each_after : (o found : ℕ) (u v w : PassView P O R) → v ≡ took names.LookUp (local_word u.turn.proc o) found (looked_up_view o found u)
      → {E : Type 0} (result : Result (Option CallCause) E) → IfOk result (λ held. GoesIn held o v w) → IfOk result (λ held. GoesIn held o u w)
  each_after o found u v w knows (Ok held) is = goes_after o found u v w knows held is
  each_after o found u v w knows (Err error) is = tt

-- one try of the call: the pass before it sought its row, and after
module _ {P O R : Type 0} (object : ℕ) (op : O) (p0 p1 : PassView P O R) (goes : GoesBy p0 p1) where
  pub tried_outside : (cause : CallCause) → GoesIn (Some cause) object p0 p1 → HasTried (steps.Again cause) object op p0 p1
  tried_outside cause is = record {
    out = is.0;
    keeps = goes.keeps;
    shapes = goes.shapes;
    held = ap (λ (x : Caller O R). x.held) goes.taker;
    notes = goes.notes;
    told = (ap (λ (x : Caller O R). x.mine) goes.taker, ap (λ (x : Caller O R). x.clock) goes.taker, is.1);
  }

  pub tried_nothing : is_out p1.visitor.place ≡ true → Extends p0.log p1.log → HasTried steps.Memory object op p0 p1
  tried_nothing out log = record {
    out = out;
    keeps = goes.keeps;
    shapes = goes.shapes;
    held = ap (λ (x : Caller O R). x.held) goes.taker;
    notes = goes.notes;
    told = (ap (λ (x : Caller O R). x.mine) goes.taker, ap (λ (x : Caller O R). x.clock) goes.taker, log);
  }

  -- and once it was served and has ended the call
  module _ (inside : GoesIn None object p0 p1) (p2 p3 : PassView P O R) (ended : p3 ≡ with_log p3.log (ended_view p2)) (last : Extends p2.log p3.log) where
    kept : (mine : List (Entry O R)) (clock : ℕ) → own_in p3 ≡ record (own_in p1) { place = Out; layout = None; drawn = length mine; clock = clock } → KeepsElse p0 p3
    kept mine clock is =
        is ∙ ap (λ (own : Own). record own { place = Out; layout = None; drawn = length mine; clock = clock }) goes.keeps
        ∙ (λ j. record (own_in p0) { place = (sym is j).place; layout = (sym is j).layout; drawn = (sym is j).drawn; clock = (sym is j).clock })

    still : p2 ≡ with_log p2.log p1 → p3 ≡ with_log p3.log (ended_view p1)
    still same = ended ∙ ap (λ (v : PassView P O R). with_log p3.log (ended_view v)) same

    called : (reply : R) → HasDrawn op reply p1 p2 → HasTried (steps.Ended reply) object op p0 p3
    called reply is =
        let entry = is.entry in
        let knows : p3 ≡ with_log p3.log (ended_view (record p1 { taker = caller_drawn entry p1.taker; found = None })) =
        ended ∙ ap (λ (v : PassView P O R). with_log p3.log (ended_view v)) is.comes.knows in
        let keeps = kept (p1.taker.mine ++ entry ∷ []) entry.stamp (ap (λ (v : PassView P O R). own_in v) knows) in
        record {
          out = ap (λ (v : PassView P O R). is_out v.visitor.place) knows;
          shapes = ap (λ (v : PassView P O R). v.shapes) knows ∙ goes.shapes;
          keeps = keeps;
          held = ap (λ (v : PassView P O R). v.taker.held) knows ∙ ap (λ (x : Caller O R). x.held) goes.taker;
          notes = ap (λ (v : PassView P O R). v.notes) knows ∙ goes.notes;
          told = (
            record {
              entry = entry;
              drawn = ap (λ (v : PassView P O R). v.taker.mine) knows ∙ ap (λ (x : Caller O R). x.mine ++ entry ∷ []) goes.taker;
              later = subst (λ (x : Caller O R). last_stamp x.mine < entry.stamp) goes.taker is.next.later;
              clock = ap (λ (v : PassView P O R). v.taker.clock) knows;
              whole =
                  is.next.whole
                  ∙ (λ j. record {
                    stamp = entry.stamp;
                    caller = (goes.keeps j).number;
                    index = length (goes.taker j).mine;
                    object = inside.0.of j;
                    incarnation = entry.incarnation;
                    cell = entry.cell;
                    act = Call op;
                    answer = Replied reply;
                    proc = (goes.keeps j).turn.proc;
                    generation = (goes.keeps j).turn.active;
                  });
              keeps = keeps;
            },
            extends_on inside.1 (extends_on is.comes.log last),
          );
        }

    pub tried_inside : (step : CallStep R) → IsServedBy step op p1 p2 → HasTried step object op p0 p3
    tried_inside (steps.Ended reply) is = called reply is
    tried_inside (steps.Again (causes.CellHeld holder)) is =
        let knows = still is.0 in
        let held : WasHeld object holder p0 p2 = held_before object (object_inside p1) holder p0 p1 p2 (ap (λ (own : Own). own.number) goes.keeps) inside.0.of inside.1 is.1 in
        record {
          out = ap (λ (v : PassView P O R). is_out v.visitor.place) knows;
          shapes = ap (λ (v : PassView P O R). v.shapes) knows ∙ goes.shapes;
          keeps = kept p1.taker.mine p1.taker.clock (ap (λ (v : PassView P O R). own_in v) knows);
          held = ap (λ (v : PassView P O R). v.taker.held) knows ∙ ap (λ (x : Caller O R). x.held) goes.taker;
          notes = ap (λ (v : PassView P O R). v.notes) knows ∙ goes.notes;
          told = (
            ap (λ (v : PassView P O R). v.taker.mine) knows ∙ ap (λ (x : Caller O R). x.mine) goes.taker,
            ap (λ (v : PassView P O R). v.taker.clock) knows ∙ ap (λ (x : Caller O R). x.clock) goes.taker,
            record {
              incarnation = held.incarnation;
              place = held.place;
              there = held.there;
              another = held.another;
              caller = held.caller;
              met = meets_then held.met last;
            },
          );
        }
    tried_inside (steps.Again causes.Blocked) is = absurd is
    tried_inside (steps.Again (causes.Elsewhere word)) is = absurd is
    tried_inside steps.Worn is = absurd is
    tried_inside steps.Memory is =
        let knows = still is.knows in
        record {
          out = ap (λ (v : PassView P O R). is_out v.visitor.place) knows;
          shapes = ap (λ (v : PassView P O R). v.shapes) knows ∙ goes.shapes;
          keeps = kept p1.taker.mine p1.taker.clock (ap (λ (v : PassView P O R). own_in v) knows);
          held = ap (λ (v : PassView P O R). v.taker.held) knows ∙ ap (λ (x : Caller O R). x.held) goes.taker;
          notes = ap (λ (v : PassView P O R). v.notes) knows ∙ goes.notes;
          told = (
            ap (λ (v : PassView P O R). v.taker.mine) knows ∙ ap (λ (x : Caller O R). x.mine) goes.taker,
            ap (λ (v : PassView P O R). v.taker.clock) knows ∙ ap (λ (x : Caller O R). x.clock) goes.taker,
            extends_on inside.1 (extends_on is.log last),
          );
        }
