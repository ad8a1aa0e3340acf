use Rattle.std.proofs.Common.{ℕ, List, sym, subst, arith}
use Rattle.k42_board.specs.Starting.{AreFirstWords}
use Rattle.k42_board.proofs.Starting.{words_blank, words_more, slice_get_here}
use Rattle.k42_board.proofs.first.first_words.Goals as goal

pub loop-object-init : goal.loop-object-init
loop-object-init g c =
    subst (λ (words : List ℕ). AreFirstWords g.L.Layout.tag_of c.args.layouts.now 0 words) (sym (c.in_ok-words.ensures.items_if_clones_equal (λ y h. h)))
    (words_blank g.L.Layout.tag_of c.args.layouts.now)

pub loop-object-preserved : goal.loop-object-preserved
loop-object-preserved g c =
    let o : ℕ = c.loop-object.object in let lt = c.loop-object-test.true in let few = c.requires.few in
    let here = slice_get_here c.args.layouts.now o c.index-layouts-object.result (omega (arith, lt)) c.index-layouts-object.is in
    let met = g.met.L.Layout g.world.𝓛 g.world.𝓜 g.world.𝓡 ((λ s x. x), (λ x. x), (λ x. x), λ x. x) in
    let live = c.requires.live o c.index-layouts-object.result here in let most = met.few c.index-layouts-object.result in
    words_more g.L.Layout.tag_of c.args.layouts.now o c.index-layouts-object.result c.loop-object.words.items c.object_word.result _ (omega (arith, lt, few)) here c.object_word.ensures
    (let is = c.from.ensures in let tag = c.tag.ensures in omega (arith, is, tag, live, most)) c.loop-object.invariant

pub returns : goal.returns
returns g c =
    let past = c.loop-object-test.false in let low = c.loop-object.auto.object-end in
    subst (λ (n : ℕ). AreFirstWords g.L.Layout.tag_of c.args.layouts.now n c.loop-object.words.items) (omega (arith, past, low)) c.loop-object.invariant
