use Rattle.std.proofs.Common.{rules, ◌≡◌, ℕ, [], refl, sym, ap, ◌∙◌, subst}
use Rattle.k42_board.specs.Drawing.{entry_alone, alone_view}
use Rattle.k42_board.specs.Log.{took}
use Rattle.k42_board.specs.Words.{role_word}
use Rattle.k42_board.specs.declared.view.StepName.TheVariants as names
use Rattle.k42_kinds.specs.declared.entry.Act.TheVariants.{Swap}
use Rattle.k42_kinds.specs.declared.entry.Answer.TheVariants as answers
use Rattle.k42_mediator.proofs.AfterMark.{later_stamp}
use Rattle.k42_runtime.specs.Swaps.{SwapSeen, HasStepped, IsWornOut, graces_due}
use Rattle.k42_runtime.specs.Systems.{IsPassHere, IsAtRest}
use Rattle.k42_runtime.specs.declared.swaps.Stage.TheVariants.{New, Waiting, Marking, Over}
use Rattle.k42_runtime.proofs.SwapBegins.{is_not, marks_on, waits_on, refused_by}
use Rattle.k42_runtime.proofs.SwapEnds.{few}
use Rattle.k42_runtime.proofs.SwapSteps.{stepped_before}
use Rattle.k42_runtime.specs.Systems.{live_in}
use Rattle.k42_runtime.proofs.swaps.Swap.begin.Goals as goal

pub returns-in-Begun : goal.returns-in-Begun
returns-in-Begun g c =
    let old = c.args.pass.now in
    let fresh : IsWornOut old.view → ⊥ = is_not c.is_worn_out.result c.if-is_worn_out.false c.is_worn_out.ensures in
    let s : SwapSeen = record { object = c.self.inside.object; to = c.self.inside.to; stage = c.self.inside.stage; holder = c.self.inside.grace } in
    let m : SwapSeen = record { object = c.self.inside.object; to = c.self.inside.to; stage = Waiting; holder = c.self.inside.grace } in
    let is : s ≡ c.args.self.now = c.self.view_is in
    let first : s.stage ≡ New = ap (λ (x : SwapSeen). x.stage) is ∙ c.requires.stage in
    subst (λ s. HasStepped c.args.system.now c.wait.result s c.wait.new.self old c.wait.new.pass) is
    (stepped_before c.args.system.now s m c.wait.new.self old c.interpose.new.pass c.wait.new.pass
    (waits_on _ _ s.object old c.reserve.new.self c.begin.new.pass c.reserve.ensures.same c.begin.ensures.same c.begin.ensures.knows c.begin.ensures.begun s m c.interpose.new.pass
    fresh first refl (ap (λ (x : SwapSeen). x.holder) is ∙ c.requires.new.0) refl refl c.interpose.ensures.same c.interpose.ensures.comes)
    c.wait.result
    c.wait.ensures)

pub returns-in-Busy : goal.returns-in-Busy
returns-in-Busy g c =
    let old = c.args.pass.now in let new = c.draw_alone.new.pass in let number : ℕ = c.in-Busy.number in
    let fresh : IsWornOut old.view → ⊥ = is_not c.is_worn_out.result c.if-is_worn_out.false c.is_worn_out.ensures in
    let s : SwapSeen = record { object = c.self.inside.object; to = c.self.inside.to; stage = c.self.inside.stage; holder = c.self.inside.grace } in
    let is : s ≡ c.args.self.now = c.self.view_is in
    let drawn : new.view ≡ took names.Draw role_word 0 (alone_view (entry_alone c.begin.new.pass.view (Swap s.to) (answers.Busy number)) c.begin.new.pass.view) = (c.draw_alone.ensures.takes 0).knows in
    let here : IsPassHere c.args.system.now new = search rules in
    let rests : IsAtRest new.view = search rules in
    let told =
    refused_by _ _ s.object old c.reserve.new.self c.begin.new.pass c.reserve.ensures.same c.begin.ensures.same c.begin.ensures.knows c.begin.ensures.begun new s.to number
    c.draw_alone.ensures.drawer (later_stamp c.begin.new.pass.view [] c.draw_alone.result c.draw_alone.ensures.stamp c.draw_alone.ensures.later) drawn c.begin.result c.in-Busy.phase (live_in c.args.system.now.sys.shapes s.object) c.layouts_are_told.ensures.live c.begin.ensures.answer c.in-Busy.is in
    subst (λ s. HasStepped c.args.system.now c.over.result s c.over.new.self old new) is
    (subst (λ t. HasStepped c.args.system.now c.over.result s t old new) (sym (c.over.ensures.over ∙ ap (λ (x : SwapSeen). record x { stage = Over }) (sym is)))
    (subst (λ answer. HasStepped c.args.system.now answer s (record s { stage = Over }) old new) (sym c.over.ensures.ended)
    (record {
      here = here;
      stage = rests;
      begun = λ e. cc;
      object = refl;
      to = refl;
      over = refl;
      seat = told.seat;
      keep = told.keep;
      caller = told.caller;
      graces = few new.view.graces old.view.graces (graces_due s.stage s.holder) told.graces;
      told = told.told;
      worn = (λ e. absurd (cc), λ w. absurd (fresh w.1));
      brought = (told.swapped, told.log);
    })))

pub returns-in-Spent : goal.returns-in-Spent
returns-in-Spent g c =
    let old = c.args.pass.now in
    let fresh : IsWornOut old.view → ⊥ = is_not c.is_worn_out.result c.if-is_worn_out.false c.is_worn_out.ensures in
    let s : SwapSeen = record { object = c.self.inside.object; to = c.self.inside.to; stage = c.self.inside.stage; holder = c.self.inside.grace } in
    let m : SwapSeen = record { object = c.self.inside.object; to = c.self.inside.to; stage = Marking; holder = c.self.inside.grace } in
    let is : s ≡ c.args.self.now = c.self.view_is in
    let first : s.stage ≡ New = ap (λ (x : SwapSeen). x.stage) is ∙ c.requires.stage in
    subst (λ s. HasStepped c.args.system.now c.mark.result s c.mark.new.self old c.mark.new.pass) is
    (stepped_before c.args.system.now s m c.mark.new.self old c.begin.new.pass c.mark.new.pass
    (marks_on _ _ s.object old c.reserve.new.self c.begin.new.pass c.reserve.ensures.same c.begin.ensures.same c.begin.ensures.knows c.begin.ensures.begun s m fresh first refl refl refl)
    c.mark.result
    c.mark.ensures)
