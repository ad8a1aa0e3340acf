use Rattle.std.proofs.Common.{rules, ◌≡◌, ℕ, ◌+◌, length, refl, sym, ap, ◌∙◌, subst}
use Rattle.k42_kinds.specs.declared.entry.Act.TheVariants.{Swap}
use Rattle.k42_board.specs.Views.{live_at, object_begun, word_begun}
use Rattle.k42_board.specs.Log.{took}
use Rattle.k42_board.specs.Words.{lock_word}
use Rattle.k42_board.specs.declared.view.StepName.TheVariants as names
use Rattle.k42_mediator.specs.Marks.{HasMarked, cell_marked}
use Rattle.k42_runtime.specs.Swaps.{SwapSeen, HasStepped, graces_due, IsEndBy}
use Rattle.k42_runtime.specs.Systems.{IsPassHere, IsAtRest}
use Rattle.k42_runtime.specs.Phases.{end_in}
use Rattle.k42_runtime.specs.declared.swaps.Stage.TheVariants.{New, Marking, Over}
use Rattle.k42_runtime.specs.declared.swaps.Step.TheVariants.{Ended}
use Rattle.k42_runtime.proofs.SwapEnds.{found_held, held_answer, marked, over_ends, over_here, told_here, marked_last, marked_caller, marked_graces, few}
use Rattle.k42_runtime.specs.Systems.{SystemSeen, live_in}
use Rattle.k42_runtime.proofs.swaps.Swap.mark.Goals as goal

never : Marking ≡ New → ⊥
never e = cc

pub returns-in-Marked : goal.returns-in-Marked
returns-in-Marked g c =
    let old = c.args.pass.now in let new = c.mark.new.pass in let s = c.args.self.now in
    let stage = c.requires.marking in
    let has : HasMarked (Swap s.to) old new = search rules in
    let last : new.view.last ≡ old.view.last = marked_last (Swap s.to) old new has in
    let word : ℕ = word_begun old.view.last in
    let many : ℕ = live_in c.args.system.now.sys.shapes s.object in
    let live : live_at old.view (object_begun old.view.last) ≡ many = ap (live_at old.view) (stage.1.begun ∙ sym (ap (λ (x : SwapSeen). x.object) c.self.view_is)) ∙ c.layouts_are_told.ensures.live
    ∙ ap (λ (x : SwapSeen). live_in c.args.system.now.sys.shapes x.object) c.self.view_is in
    let alive : c.live-live.result ≡ many = c.live-live.ensures ∙ ap length (sym c.declared.ensures.shapes)
    ∙ ap (λ (z : SystemSeen _). live_in z.sys.shapes c.self.inside.object) c.system.view_is ∙ ap (λ (x : SwapSeen). live_in c.args.system.now.sys.shapes x.object) c.self.view_is in
    let over = over_here word (live_at old.view (object_begun old.view.last)) many live stage.1.may.over in
    let is = over_ends many word has.answer over (told_here word has.answer (live_at old.view (object_begun old.view.last)) many live has.told) in
    let end : c.end_over.result ≡ end_in many word = c.end_over.ensures ∙ (λ j. end_in (alive j) (word_begun (last j))) in
    let here : IsPassHere c.args.system.now new = search rules in
    let rests : IsAtRest new.view = search rules in
    subst (λ t. HasStepped c.args.system.now c.over.result s t old new) (sym c.over.ensures.over)
    (subst (λ answer. HasStepped c.args.system.now answer s (record s { stage = Over }) old new) (sym (c.over.ensures.ended ∙ ap Ended end))
    (record {
      here = here;
      stage = rests;
      begun = λ e. cc;
      object = refl;
      to = refl;
      over = refl;
      seat = has.drawer.seat;
      keep = has.drawer.keep;
      caller = marked_caller (Swap s.to) old new has;
      graces = few new.view.graces old.view.graces (graces_due s.stage s.holder) (marked_graces (Swap s.to) old new has);
      told = subst (λ (l : ℕ). IsEndBy many l (end_in many word)) (sym (ap word_begun last)) is.ends;
      worn = (λ e. absurd (cc), λ w. absurd (never (sym c.requires.stage ∙ w.0)));
      brought = (marked many s.object s.to old new stage.1.begun live over has, has.comes.log);
    }))

pub returns-in-Held : goal.returns-in-Held
returns-in-Held g c =
    let old = c.args.pass.now in let new = c.mark.new.pass in let n : ℕ = cell_marked old.view in let holder : ℕ = c.in-Held.holder in
    let held = held_answer _ _ c.mark.result holder (Swap c.self.inside.to) old new c.in-Held.is c.mark.ensures in
    let found = found_held (live_in c.args.system.now.sys.shapes c.args.self.now.object) holder old.view new.view held.takes.knows held.takes.finds
    (over_here (word_begun old.view.last) (live_at old.view (object_begun old.view.last)) (live_in c.args.system.now.sys.shapes c.args.self.now.object) (ap (live_at old.view) (c.requires.marking.1.begun ∙ sym (ap (λ (x : SwapSeen). x.object) c.self.view_is)) ∙ c.layouts_are_told.ensures.live
    ∙ ap (λ (x : SwapSeen). live_in c.args.system.now.sys.shapes x.object) c.self.view_is) c.requires.marking.1.may.over) in
    let knows : new.view ≡ took names.Lock (lock_word n) (holder + 1) old.view = found.0 in
    record {
      here = search rules;
      stage = search rules;
      begun = λ e. never (sym c.requires.stage ∙ e);
      over = search rules;
      object = refl;
      to = refl;
      seat = held.same.seat;
      keep = held.same.keep;
      caller = search rules;
      graces = search rules;
      told = search rules;
      worn = (λ e. absurd (cc), λ w. absurd (never (sym c.requires.stage ∙ w.0)));
      brought = (search rules, found.1);
    }
