-- A pass once it has transferred the state, or has found no memory.
use Rattle.std.proofs.Common.{◌≡◌, ℕ, List, [], Some, None, Result, Ok, Err, sym, ap, ◌∙◌, subst}
use Rattle.std.specs.Result.{OnOk, OnErr}
use Rattle.k42_kinds.specs.declared.entry.Act.{Act}
use Rattle.phase_core.specs.Stages.{named_by}
use Rattle.phase_core.specs.State.{visitor_at}
use Rattle.phase_core.specs.declared.caller.SwapAt.TheVariants.{Moved}
use Rattle.phase_core.proofs.InSound.{object_known, visitor_known}
use Rattle.phase_core.proofs.Reached.{turn_there, moving_alone}
use Rattle.turn_core.specs.Events.{caller_drawn}
use Rattle.k42_stamp.specs.Layouts.{Layouts}
use Rattle.k42_board.specs.Log.{ComesTo, Extends, with_log}
use Rattle.k42_board.specs.Rule.{KnowsPass}
use Rattle.k42_board.specs.Seen.{PassSeen, IsSamePass}
use Rattle.k42_board.specs.Steps.{Always}
use Rattle.k42_board.specs.declared.view.PassView.{PassView}
use Rattle.k42_board.proofs.Gained.{extends_on}
use Rattle.k42_board.proofs.OnePass.{known}
use Rattle.k42_mediator.specs.Taken.{released}
use Rattle.k42_mediator.specs.Transfers.{IsVacant, IsDoneNext, HasHanded, HasDone, HasKept}
use Rattle.k42_mediator.proofs.GivenBack.{released_none}
use Rattle.k42_mediator.proofs.Logs.{comes_by}
use Rattle.k42_mediator.proofs.SamePass.{same_twice, draws_between}

-- while an object is moved nobody is inside its rows
pub left_always : {S L P O R : Type 0} (F : Layouts S L P O R) (declared : List L) (id o : ℕ) (v : PassView P O R) → v.visitor.swap ≡ Moved o
    → Always F declared id v (IsVacant o)
left_always F declared id o v moved table r at d i there inside =
    let s = r.state.phases in
    let knows : KnowsPass F.tag_of r.state r.beside id v = known F declared table r id v at in
    let own : (visitor_at s v.number).swap ≡ Moved o = ap (λ x. x.swap) knows.phases.visitor ∙ moved in
    let is = (r.sound.answers v.number knows.there).kept in
    let named = is.there o (is.begun o (ap named_by own)) in
    let stage = ((visitor_known s r.sound.phases v.number knows.there).swap_alone.owned o (ap named_by own)).1 ∙ own in
    let moving = (rw stage at (object_known s r.sound.phases o named).bits_follow.bits).0.1 in
    moving_alone s d o r.sound.phases (turn_there s r.sound.phases d there) named moving i inside

module _ {P O R : Type 0} (p0 p2 p3 p4 : PassSeen P O R) (ns : List ℕ) (took : IsSamePass p0 p2)
    (chain : released ns p2.view ≡ with_log p2.view.log (released [] p0.view)) (since : Extends p0.view.log p2.view.log)
    (settled : p0.view.out ≡ None) (told : p0.view.untold ≡ [])
    (gave : IsSamePass p3 p4) (back : ComesTo p3.view (released ns p3.view) p4.view) where
  was : released ns p2.view ≡ with_log p2.view.log p0.view
  was = chain ∙ ap (with_log p2.view.log) (released_none p0.view settled)

  pub has_kept : p3 ≡ p2 → HasKept p0 p4
  has_kept same = record {
    same = same_twice p0 p2 p4 took (subst (λ (p : PassSeen _ O R). IsSamePass p p4) same gave);
    comes =
        comes_by p0.view p0.view p4.view p4.view.log
        (back.knows ∙ ap (λ (p : PassSeen _ O R). with_log p4.view.log (released ns p.view)) same ∙ ap (with_log p4.view.log) was)
        (extends_on since (subst (λ (p : PassSeen _ O R). Extends p.view.log p4.view.log) same back.log));
  }

  pub has_done : (act : Act O) (tag : ℕ) → HasHanded act tag ns p2 p3 → HasDone act tag p0 p4
  has_done act tag has = record {
    drawer = draws_between p0 p2 p3 p4 took has.drawer gave;
    entry = has.entry;
    next =
        let is : IsDoneNext act (released ns p2.view) has.entry = record { later = has.next.later; whole = has.next.whole } in
        let now = subst (λ v. IsDoneNext act v has.entry) was is in
        record { later = now.later; whole = now.whole };
    comes =
        comes_by p0.view (record p0.view { taker = caller_drawn has.entry p0.view.taker; found = None; handed = Some tag }) p4.view p4.view.log
        (back.knows ∙ ap (with_log p4.view.log) has.knows
        ∙ (λ j. with_log p4.view.log (record (was j) { taker = caller_drawn has.entry (was j).taker; found = None; handed = Some tag; untold = [] }))
        ∙ (λ j. with_log p4.view.log (record p0.view { taker = caller_drawn has.entry p0.view.taker; found = None; handed = Some tag; untold = sym told j })))
        (extends_on since (extends_on has.log back.log));
  }

pub on_ok : {A E X Y : Type 0} (result : Result A E) → (X → Y) → OnOk result X → OnOk result Y
on_ok (Ok value) f is = f is
on_ok (Err error) f is = is

pub on_err : {A E X Y : Type 0} (result : Result A E) → (X → Y) → OnErr result X → OnErr result Y
on_err (Ok value) f is = is
on_err (Err error) f is = f is
