use Rattle.std.proofs.Common.{◌≡◌, ◌<◌, ◌≤◌, ℕ, List, length, arith, sym, refl, ap, ◌∙◌, subst, map}
use Rattle.std.proofs.lemmas.List.{length-map}
use Rattle.k42_limits.specs.declared.TheConstants.{PROCESSORS}
use Rattle.k42_places.specs.Places.{EachPlace}
use Rattle.k42_stamp.specs.Laws.{AreLaws}
use Rattle.k42_board.specs.Plan.{layouts_on}
use Rattle.k42_board.specs.Starting.{AreFirstWords, AreDealt}
use Rattle.k42_board.proofs.Carrying.{begins}
use Rattle.k42_rule.proofs.Opening.{opens, is_opened}
use Rattle.k42_rule.proofs.Plans.{plan_of, on_processors}
use Rattle.k42_board.proofs.Starting.{is_started}
use Rattle.k42_rule.proofs.sys.Sys.start.Goals as goal
use Rattle.k42_rule.proofs.sys.Sys.start.Given as given

laws_at : (g : given.Over) (procs : ℕ) (callers : List ℕ) → 0 < procs → EachPlace (λ c p. p < procs) callers
    → AreLaws (layouts_on g.L.Kind.object g.L.Layout.shapes g.L.Layout.tag_of g.L.Layout.ways g.L.Layout.whole g.L.Layout.serves g.L.Layout.admitted g.L.Layout.act_of procs callers)
laws_at g procs callers some placed =
    let met = g.met.L.Layout g.world.𝓛 g.world.𝓜 g.world.𝓡 ((λ s x. x), (λ x. x), (λ x. x), λ x. x) in
    record {
      some = some;
      on_one = on_processors procs callers some placed;
      steps = λ layout proc parts op known lt takes whole. met.steps layout procs proc parts op known lt takes whole;
      reaches = λ layout proc op known lt takes. met.reaches layout procs proc op known lt takes;
      stands = λ layout parts known whole. met.stands layout procs parts known some whole;
      begins = λ layout known. met.begins layout procs known some;
      imports = λ layout state known served. met.imports layout procs state known some served;
      ends = λ layout state known served. met.ends layout state known served;
      admits = λ layout before state known live same served. met.admits layout before state known live same served;
      swaps = λ layout state known. met.swaps layout state known;
      asks = λ layout. met.asks layout;
      alike = λ layout other same. met.alike layout other same;
      few = λ layout. met.few layout;
    }

pub new-requires : goal.new-requires
new-requires g c =
    let procs : ℕ = c.args.procs in let callers : List ℕ = c.args.callers.items in let layouts = c.args.layouts.items in
    let F = layouts_on g.L.Kind.object g.L.Layout.shapes g.L.Layout.tag_of g.L.Layout.ways g.L.Layout.whole g.L.Layout.serves g.L.Layout.admitted g.L.Layout.act_of procs callers in
    let laws = laws_at g procs callers c.requires.start.turns.limits.some_procs c.requires.start.turns.placed in
    let told : AreFirstWords g.L.Layout.tag_of layouts (length layouts) c.in_ok-words.words.items =
    rw c.as_slice.ensures.value at c.in_ok-words.ensures in
    (opens F laws layouts callers (plan_of F laws layouts callers c.requires.start (λ d. refl))
    c.as_slice-2.result.now c.in_ok-slots.slots.items
    (subst (λ (w : List ℕ). AreFirstWords g.L.Layout.tag_of layouts (length layouts) w) (sym c.as_slice-2.ensures.value) told)
    c.in_ok-slots.ensures.0 c.in_ok-slots.ensures.1).0

pub returns-clause-opened : goal.returns-clause-opened
returns-clause-opened g c =
    let procs : ℕ = c.args.procs in let callers : List ℕ = c.args.callers.items in let layouts = c.args.layouts.items in
    let F = layouts_on g.L.Kind.object g.L.Layout.shapes g.L.Layout.tag_of g.L.Layout.ways g.L.Layout.whole g.L.Layout.serves g.L.Layout.admitted g.L.Layout.act_of procs callers in
    let laws = laws_at g procs callers c.requires.start.turns.limits.some_procs c.requires.start.turns.placed in
    let told : AreFirstWords g.L.Layout.tag_of layouts (length layouts) c.in_ok-words.words.items =
    rw c.as_slice.ensures.value at c.in_ok-words.ensures in
    is_opened F laws layouts callers (plan_of F laws layouts callers c.requires.start (λ d. refl))
    c.as_slice-2.result.now c.in_ok-slots.slots.items
    (subst (λ (w : List ℕ). AreFirstWords g.L.Layout.tag_of layouts (length layouts) w) (sym c.as_slice-2.ensures.value) told)
    c.in_ok-slots.ensures.0 c.in_ok-slots.ensures.1

pub deal_all-requires-clause-homes : goal.deal_all-requires-clause-homes
deal_all-requires-clause-homes g c κs within =
    subst (λ (homes : List ℕ). (length homes ≤ 16) × EachPlace (λ d home. home < 8) homes) (sym c.as_slice-3.ensures.value)
    (c.requires.start.turns.limits.few_callers, λ d home e. let less = c.requires.start.turns.placed d home e in let few = c.requires.start.turns.limits.few_procs in omega (arith, less, few))

pub invariant_of-sys : goal.invariant_of-sys
invariant_of-sys g c =
    let made = c.in-Ok-new.ensures.ok in let words = c.as_slice-2.ensures.value in let procs : ℕ = c.args.procs in let callers : List ℕ = c.args.callers.items in (
      made.0 ∙ ap length words ∙ c.in_ok-words.ensures.many,
      made.1 ∙ c.in_ok-slots.ensures.0,
      ap (λ k. k.layouts.items) (sym made.5),
      ap (λ k. k.procs) (sym made.5),
      c.requires.start.few_objects,
      subst
          (λ k. AreLaws (layouts_on g.L.Kind.object g.L.Layout.shapes g.L.Layout.tag_of g.L.Layout.ways g.L.Layout.whole g.L.Layout.serves g.L.Layout.admitted g.L.Layout.act_of k.procs k.callers.items))
          (sym made.5) (laws_at g procs callers c.requires.start.turns.limits.some_procs c.requires.start.turns.placed),
      subst (λ k. 0 < length k.callers.items) (sym made.5) c.requires.start.turns.limits.some_callers,
      subst (λ k. k.procs ≤ PROCESSORS) (sym made.5) c.requires.start.turns.limits.few_procs,
      c.requires.tags,
    )

pub returns-clause-started : goal.returns-clause-started
returns-clause-started g c =
    let key = c.in-Ok-new.ensures.ok.5 in let table = c.in-Ok-new.board.shared.table_id in let passes = c.in_ok-passes.passes.items in
    let procs : ℕ = c.args.procs in let objects : ℕ = c.len-objects.result in
    let many : objects ≡ length c.args.layouts.items = c.len-objects.ensures ∙ c.args.layouts.ok.0 in
    let queue = c.in-Ok.line in
    let dealt : AreDealt table queue c.args.keep procs (map g.L.Layout.shapes c.in-Ok-new.board.shared.key.layouts.items) c.args.callers.items passes =
    subst (λ (homes : List ℕ). AreDealt table queue c.args.keep procs (map g.L.Layout.shapes c.in-Ok-new.board.shared.key.layouts.items) homes passes) c.as_slice-3.ensures.value c.in_ok-passes.ensures in
    is_started c.args.layouts.items procs c.args.callers.items _ passes (ap (λ k. k.procs) key) (ap (λ k. k.layouts.items) key)
    (length-map c.in-Ok-new.board.shared.key.layouts.items g.L.Layout.shapes ∙ ap (λ k. length k.layouts.items) key) (ap (λ k. k.callers.items) key)
    c.requires.start.turns.placed dealt

pub with_rule-requires : goal.with_rule-requires
with_rule-requires g c = begins
