use Rattle.std.proofs.Common.{rules, refl, ◌≡◌, ℕ, ◌+◌, ◌<◌, ◌≤◌, true, List, [], ◌++◌, Some, length, get_or, take, drop, sym, ap, ◌∙◌, subst, arith}
use Rattle.std.specs.Prelude.{max}
use Rattle.k42_shapes.specs.declared.shape.Shape.{Shape}
use Rattle.k42_shapes.specs.Shapes.{IsKnownTag}
use Rattle.k42_kinds.specs.declared.entry.Entry.{Entry}
use Rattle.k42_joined.specs.Drawing.{first_cell}
use Rattle.phase_core.specs.Stages.{is_moved, object_named}
use Rattle.k42_kinds.specs.Histories.{is_call}
use Rattle.k42_limits.specs.declared.TheConstants.{PASS_ENTRIES}
use Rattle.k42_log.specs.Names.{is_reply}
use Rattle.k42_board.specs.Drawing.{AreTold, last_noted, numbers_of, HasSmallStamp}
use Rattle.k42_board.specs.Handing.{handed_at, hands_at}
use Rattle.k42_board.specs.Log.{took}
use Rattle.k42_board.specs.Plan.{layouts_on}
use Rattle.k42_board.specs.Queueing.{IsTied}
use Rattle.k42_board.specs.Receipts.{AreDue}
use Rattle.k42_board.specs.Seen.{IsSeatOf, SysSeen, PassSeen, Own, own_in}
use Rattle.k42_board.specs.Steps.{Seated}
use Rattle.k42_board.specs.Views.{pass_in}
use Rattle.k42_board.specs.Words.{lock_word}
use Rattle.k42_board.specs.declared.cell.Content.{Content}
use Rattle.k42_board.specs.declared.view.Note.{Note}
use Rattle.k42_board.specs.declared.view.PassView.{PassView}
use Rattle.k42_board.specs.declared.view.StepName.TheVariants as steps
use Rattle.k42_rule.specs.Keeping.{HasKept}
use Rattle.k42_rule.proofs.Drawn.{knows_drawn, takes_drawn}
use Rattle.k42_rule.proofs.Fitting.{fits_handed}
use Rattle.k42_rule.proofs.HandedCells.{all_numbers}
use Rattle.k42_rule.proofs.HandedSeat.{untold_is, due_is, mine_is, mirrors_is, stamp_told}
use Rattle.turn_core.specs.Stamps.{last_stamp}
use Rattle.k42_rule.proofs.KeptNext.{may_keep}
use Rattle.k42_rule.proofs.Pushed.{drawer_is, drawn_later, kept_drawn, longer_drawn}
use Rattle.k42_rule.proofs.DeclaredShapes.{shapes_asked}
use Rattle.k42_rule.proofs.ShapesKept.{known_on, fits_on}
use Rattle.k42_rule.proofs.handing.hand_at.Goals as goal

-- what the step has told, of the view that the caller sees
told_of : {P O R : Type 0} (cells : List (Content P O R)) (entry : Entry O R) (tag procs procs' word : ℕ) (v v' : PassView P O R) (me : Seated P O R) → procs ≡ procs' → v ≡ v'
    → IsSeatOf me (took steps.Draw word 0 (hands_at (take procs cells) (drop procs cells) entry tag v)) × HasSmallStamp (hands_at (take procs cells) (drop procs cells) entry tag v)
    → IsSeatOf me (took steps.Draw word 0 (hands_at (take procs' cells) (drop procs' cells) entry tag v')) × HasSmallStamp (hands_at (take procs' cells) (drop procs' cells) entry tag v')
told_of {P} {O} {R} cells entry tag procs procs' word v v' me same same' told =
    subst (λ (z : ℕ × PassView P O R). IsSeatOf me (took steps.Draw word 0 (hands_at (take z.0 cells) (drop z.0 cells) entry tag z.1)) × HasSmallStamp (hands_at (take z.0 cells) (drop z.0 cells) entry tag z.1))
    (λ j. (same j, same' j)) told

pub tell_all-requires-clause-ours : goal.tell_all-requires-clause-ours
tell_all-requires-clause-ours g c κs within = let taken = c.hand_word.ensures 0 in search (rules, taken)

pub tell_all-requires-clause-seated : goal.tell_all-requires-clause-seated
tell_all-requires-clause-seated g c κs within = let taken = c.hand_word.ensures 0 in search (rules, taken)

pub tell_all-requires-clause-untold : goal.tell_all-requires-clause-untold
tell_all-requires-clause-untold g c κs within =
    let sys = c.args.sys.now in let v = c.args.pass.now.view in let cells = c.args.cells.now in let entry = c.done_entry-entry.result in let tag = g.L.Layout.tag_of c.args.to.now in
    let F = layouts_on g.L.Kind.object g.L.Layout.shapes g.L.Layout.tag_of g.L.Layout.ways g.L.Layout.whole g.L.Layout.serves g.L.Layout.admitted g.L.Layout.act_of sys.procs sys.callers in
    let taken = c.hand_word.ensures 0 in
    let told = told_of cells entry tag c.sys.inside.board.shared.key.procs sys.procs (lock_word (first_cell (numbers_of cells))) (pass_in c.pass.inside.seat.me.0) v c.hand_word.new.seat.me
    (ap (λ (s : SysSeen _). s.procs) c.sys.view_is) (ap (λ (p : PassSeen _ _ _). p.view) c.pass.view_is) (taken.alone, taken.takes.finds) in
    untold_is F sys.layouts cells c.args.to.now c.args.answer v c.requires.may entry tag c.hand_word.new.seat.me (lock_word (first_cell (numbers_of cells))) told.0

pub tell_all-requires-clause-due : goal.tell_all-requires-clause-due
tell_all-requires-clause-due g c κs within =
    let sys = c.args.sys.now in let v = c.args.pass.now.view in let cells = c.args.cells.now in let entry = c.done_entry-entry.result in let tag = g.L.Layout.tag_of c.args.to.now in
    let F = layouts_on g.L.Kind.object g.L.Layout.shapes g.L.Layout.tag_of g.L.Layout.ways g.L.Layout.whole g.L.Layout.serves g.L.Layout.admitted g.L.Layout.act_of sys.procs sys.callers in
    let procs : c.sys.inside.board.shared.key.procs ≡ sys.procs = ap (λ (s : SysSeen _). s.procs) c.sys.view_is in
    let taken = c.hand_word.ensures 0 in
    let told = told_of cells entry tag c.sys.inside.board.shared.key.procs sys.procs (lock_word (first_cell (numbers_of cells))) (pass_in c.pass.inside.seat.me.0) v c.hand_word.new.seat.me
    procs (ap (λ (p : PassSeen _ _ _). p.view) c.pass.view_is) (taken.alone, taken.takes.finds) in
    subst (λ n. AreDue (pass_in c.hand_word.new.seat.me.0).notes n true entry.stamp cells) (sym (c.sys.invariant.3 ∙ procs))
    (due_is F sys.layouts cells c.args.to.now c.args.answer v c.requires.may entry tag c.hand_word.new.seat.me (lock_word (first_cell (numbers_of cells))) told.0 (subst (λ n. n ≤ 8) procs c.sys.invariant.7) told.1)

pub store-requires-clause-may : goal.store-requires-clause-may
store-requires-clause-may g c =
    let v = c.args.pass.now.view in let old = c.pass.invariant in let entry = c.done_entry-entry.result in
    let met = g.met.L.Layout g.world.𝓛 g.world.𝓜 g.world.𝓡 ((λ s x. x), (λ x. x), (λ x. x), λ x. x) in
    let own = old.0.own_is ∙ ap own_in (ap (λ (p : PassSeen _ _ _). p.view) c.pass.view_is) in let is = c.done_entry-entry.ensures.is in
    let few = subst (λ (p : PassSeen _ _ _). length p.view.taker.mine < PASS_ENTRIES) (sym c.pass.view_is) c.requires.may.few in
    let object = subst (λ n. n < 16) (ap (λ (o : Own). object_named o.swap) own ∙ sym (ap (λ (e : Entry _ _). e.object) is)) old.4 in
    let cell = c.done_entry-entry.ensures.few in
    may_keep _ c.pass.inside.number c.pass.inside.home _ c.pass.inside.clock c.pass.inside.kept old.13 entry
    (ap (λ (e : Entry _ _). e.caller) is ∙ sym (ap (λ (o : Own). o.number) own)) (ap (λ (e : Entry _ _). e.proc) is ∙ sym (ap (λ (o : Own). o.turn.proc) own))
    (ap (λ (e : Entry _ _). e.index) is ∙ ap (λ (p : PassSeen _ _ _). length p.view.taker.mine) (sym c.pass.view_is)) few object (omega (arith, cell))
    (ap (λ (e : Entry _ _). is_call e.act) is ∙ met.asks c.args.to.now ∙ sym (ap is_reply (ap (λ (e : Entry _ _). e.answer) is ∙ c.requires.may.answer_is)))

pub invariant_of-pass : goal.invariant_of-pass
invariant_of-pass g c =
    let sys = c.args.sys.now in let v = c.args.pass.now.view in let cells = c.args.cells.now in let entry = c.done_entry-entry.result in let tag = g.L.Layout.tag_of c.args.to.now in
    let F = layouts_on g.L.Kind.object g.L.Layout.shapes g.L.Layout.tag_of g.L.Layout.ways g.L.Layout.whole g.L.Layout.serves g.L.Layout.admitted g.L.Layout.act_of sys.procs sys.callers in
    let same : pass_in c.pass.inside.seat.me.0 ≡ v = ap (λ (p : PassSeen _ _ _). p.view) c.pass.view_is in
    let taken = c.hand_word.ensures 0 in
    let told = told_of cells entry tag c.sys.inside.board.shared.key.procs sys.procs (lock_word (first_cell (numbers_of cells))) (pass_in c.pass.inside.seat.me.0) v c.hand_word.new.seat.me
    (ap (λ (s : SysSeen _). s.procs) c.sys.view_is) same (taken.alone, taken.takes.finds) in
    let old = c.pass.invariant in
    let own = old.0.own_is ∙ ap own_in same in
    let mine_now = mine_is F sys.layouts cells c.args.to.now c.args.answer v c.requires.may entry tag c.hand_word.new.seat.me (lock_word (first_cell (numbers_of cells))) told.0 in
    let met = g.met.L.Layout g.world.𝓛 g.world.𝓜 g.world.𝓡 ((λ s x. x), (λ x. x), (λ x. x), λ x. x) in
    let stays : (pass_in c.tell_all.new.seat.me.0).shapes ≡ (pass_in c.pass.inside.seat.me.0).shapes =
    ap (λ (m : Seated _ _ _). (pass_in m.0).shapes) c.tell_all.ensures.seated ∙ ap (λ (m : Seated _ _ _). (pass_in m.0).shapes) taken.alone in
    let named : object_named c.pass.inside.swap ≡ c.requires.may.object = ap (λ (o : Own). object_named o.swap) own ∙ ap object_named c.requires.may.moved in
    let own_shapes : get_or (pass_in c.pass.inside.seat.me.0).shapes (object_named c.pass.inside.swap) [] ≡ g.L.Layout.shapes c.args.to.now =
    shapes_asked g.L.Layout.shapes c.sys.inside.board.shared.key.layouts.items sys.layouts sys.shapes (ap (λ (s : SysSeen _). s.layouts) c.sys.view_is) (ap (λ (s : SysSeen _). s.shapes) c.sys.view_is)
    (object_named c.pass.inside.swap) c.requires.may.object c.requires.may.declaration (pass_in c.pass.inside.seat.me.0).shapes
    (ap (λ (x : PassView _ _ _). x.shapes) same ∙ c.requires.shapes) named c.requires.may.declares ∙ sym (met.alike c.args.to.now c.requires.may.declaration c.requires.may.kind) in
    let known_tag : IsKnownTag (get_or (pass_in c.pass.inside.seat.me.0).shapes (object_named c.pass.inside.swap) []) c.tag.result =
    subst (λ (z : List Shape × ℕ). IsKnownTag z.0 z.1) (λ j. (sym own_shapes j, sym c.tag.ensures j)) c.requires.may.known in (
      mirrors_is F sys.layouts cells c.args.to.now c.args.answer v c.requires.may entry tag c.hand_word.new.seat.me (lock_word (first_cell (numbers_of cells))) told.0 c.tell_all.new.seat.me c.tell_all.ensures.seated
          c.pass.inside.seat.me _ _ old.0 same (λ j. record (own_in (pass_in c.pass.inside.seat.me.0)) {
            number = c.pass.inside.number;
            turn = record { proc = c.pass.inside.home; active = c.pass.inside.active; grace = c.pass.inside.grace; coming = c.pass.inside.coming; waits = c.pass.inside.waits.items };
            place = c.pass.inside.place;
            noted = c.pass.inside.noted.items;
            freeing = c.pass.inside.freeing.items;
            swap = c.pass.inside.swap;
            drawn = longer_drawn v.taker.mine entry c.pass.inside.drawn (ap (λ (o : Own). o.drawn) own) j;
            clock = entry.stamp;
            graces = c.pass.inside.graces;
            base = c.pass.inside.base;
            last = c.pass.inside.last;
            turned = c.pass.inside.turned;
            layout = c.pass.inside.layout;
            handed = Some (c.tag.ensures j);
            rows = c.pass.inside.rows.items;
            granted = c.pass.inside.granted;
          }),
      old.1,
      old.2,
      old.3,
      old.4,
      old.5,
      old.6,
      old.7,
      known_on (pass_in c.pass.inside.seat.me.0).shapes _ _ _ stays old.8,
      old.9,
      old.10,
      old.11,
      old.12,
      kept_drawn _ c.pass.inside.number c.pass.inside.home c.pass.inside.kept c.store.new.kept c.pass.inside.clock (last_noted v.notes (numbers_of cells)) v entry entry.stamp c.tell_all.new.seat.me _ (subst (λ (x : PassView _ _ _). HasKept (record { what = c.pass.inside.keep; given = c.pass.inside.given; since = c.pass.inside.since }) c.pass.inside.number c.pass.inside.home x.taker.mine c.pass.inside.clock c.pass.inside.kept) same old.13) refl
          (stamp_told F sys.layouts cells c.args.to.now c.args.answer v c.requires.may entry tag (g.L.Layout.act_of c.args.to.now) c.done_entry-entry.ensures.is ∙ ap (λ (o : Own). max o.clock (last_noted v.notes (numbers_of cells)) + 1) (sym own)) (ap (λ (e : Entry _ _). e.caller) c.done_entry-entry.ensures.is ∙ ap (λ (o : Own). o.number) (sym own)) c.requires.may.few c.store.ensures.entries c.store.ensures.owner c.store.ensures.first c.tell_all.ensures.seated mine_now,
      told.1,
      fits_on (pass_in c.pass.inside.seat.me.0).shapes _ _ _ _ _ stays
          (fits_handed (pass_in c.pass.inside.seat.me.0).shapes c.pass.inside.swap c.pass.inside.turned c.pass.inside.handed c.pass.inside.last old.15 c.tag.result
          (ap (λ (o : Own). is_moved o.swap) own ∙ ap is_moved c.requires.may.moved) known_tag),
      old.16,
      old.17,
      subst (λ table. IsTied table c.pass.inside.post.me.view.client) (sym (c.tell_all.ensures.ours.0 ∙ taken.table)) old.18,
      (let is = c.tag.ensures in let known = c.requires.may.known in let most = met.few c.args.to.now in omega (arith, is, known, most)),
      old.20,
    )

pub returns-clause-stamp : goal.returns-clause-stamp
returns-clause-stamp g c =
    let sys = c.args.sys.now in
    let F = layouts_on g.L.Kind.object g.L.Layout.shapes g.L.Layout.tag_of g.L.Layout.ways g.L.Layout.whole g.L.Layout.serves g.L.Layout.admitted g.L.Layout.act_of sys.procs sys.callers in
    stamp_told F sys.layouts c.args.cells.now c.args.to.now c.args.answer c.args.pass.now.view c.requires.may c.done_entry-entry.result (g.L.Layout.tag_of c.args.to.now)
    (g.L.Layout.act_of c.args.to.now) c.done_entry-entry.ensures.is

pub returns-clause-later : goal.returns-clause-later
returns-clause-later g c =
    let sys = c.args.sys.now in let v = c.args.pass.now.view in let cells = c.args.cells.now in let entry = c.done_entry-entry.result in let tag = g.L.Layout.tag_of c.args.to.now in
    let F = layouts_on g.L.Kind.object g.L.Layout.shapes g.L.Layout.tag_of g.L.Layout.ways g.L.Layout.whole g.L.Layout.serves g.L.Layout.admitted g.L.Layout.act_of sys.procs sys.callers in
    let own = c.pass.invariant.0.own_is ∙ ap own_in (ap (λ (p : PassSeen _ _ _). p.view) c.pass.view_is) in
    subst (λ (p : PassSeen _ _ _). last_stamp p.view.taker.mine < entry.stamp) c.pass.view_is
    (drawn_later _ c.pass.inside.number c.pass.inside.home (pass_in c.pass.inside.seat.me.0).taker.mine c.pass.inside.kept c.pass.inside.clock (last_noted v.notes (numbers_of cells)) entry.stamp c.pass.invariant.13
    (stamp_told F sys.layouts cells c.args.to.now c.args.answer v c.requires.may entry tag (g.L.Layout.act_of c.args.to.now) c.done_entry-entry.ensures.is
    ∙ ap (λ (o : Own). max o.clock (last_noted v.notes (numbers_of cells)) + 1) (sym own)))

pub returns-clause-told : goal.returns-clause-told
returns-clause-told g c =
    subst (λ (notes : List (Note _ _ _)). AreTold notes c.args.cells.now c.tell_all.new.cells) (sym (ap (λ (m : Seated _ _ _). (pass_in m.0).notes) c.tell_all.ensures.seated)) c.tell_all.ensures.told

pub returns-clause-drawn : goal.returns-clause-drawn
returns-clause-drawn g c =
    let sys = c.args.sys.now in let v = c.args.pass.now.view in let cells = c.args.cells.now in let taken = c.hand_word.ensures in
    let F = layouts_on g.L.Kind.object g.L.Layout.shapes g.L.Layout.tag_of g.L.Layout.ways g.L.Layout.whole g.L.Layout.serves g.L.Layout.admitted g.L.Layout.act_of sys.procs sys.callers in
    let procs : c.sys.inside.board.shared.key.procs ≡ sys.procs = ap (λ (s : SysSeen _). s.procs) c.sys.view_is in
    let same : pass_in c.pass.inside.seat.me.0 ≡ v = ap (λ (p : PassSeen _ _ _). p.view) c.pass.view_is in
    let after = λ (n : ℕ) (e : Entry _ _) (w : PassView _ _ _). took steps.Draw (lock_word (first_cell (numbers_of cells))) 0 (handed_at (take n cells) (drop n cells) e (g.L.Layout.tag_of c.args.to.now) w) in
    let all =
    subst (λ n. numbers_of (take n cells) ++ numbers_of (drop n cells) ≡ numbers_of cells) (sym procs)
    (all_numbers F sys.layouts cells c.args.to.now c.args.answer v c.requires.may) in record {
      drawer = drawer_is _ _ _ c.pass.inside.kept c.store.new.kept c.pass.view_is (c.tell_all.ensures.ours.0 ∙ (taken 0).table) (c.tell_all.ensures.ours.1 ∙ (taken 0).seat) refl refl refl c.store.ensures.room refl refl refl refl;
      knows =
          knows_drawn _ c.hand_word.new.seat.me c.tell_all.new.seat.me (taken 0).alone c.tell_all.ensures.seated
          ∙ (λ j. after (procs j) (c.done_entry-entry.ensures.is j) (same j));
      takes = λ found. rw (← c.done_entry-entry.ensures.is, ← c.pass.view_is, ← c.sys.view_is) (takes_drawn _ c.hand_word.new.seat.me c.tell_all.new.seat.me (taken 0).alone c.tell_all.ensures.seated _ all found (taken found).takes);
    }
