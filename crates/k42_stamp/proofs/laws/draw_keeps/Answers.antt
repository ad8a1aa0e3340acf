use Rattle.k42_stamp.specs.Layouts.{layouts_with}
use Rattle.k42_stamp.specs.Laws.{AreLaws}
use Rattle.k42_stamp.proofs.Drawing.{draw_keeps}
use Rattle.k42_stamp.proofs.laws.draw_keeps.Goals as goal

pub returns : goal.returns
returns g c = λ proc_of on_one declared o histories chain entry fits next.
    let met = g.met.L.Layout g.world.𝓛 g.world.𝓜 g.world.𝓡 ((λ s x. x), (λ x. x), (λ x. x), λ x. x) in
    let F = layouts_with g.L.Kind.object g.L.Layout.shapes g.L.Layout.tag_of g.L.Layout.ways g.L.Layout.whole g.L.Layout.serves g.L.Layout.admitted g.L.Layout.act_of c.args.procs proc_of in
    let laws : AreLaws F = record {
      some = c.requires;
      on_one = on_one;
      steps = λ layout proc parts op known lt takes whole. met.steps layout c.args.procs proc parts op known lt takes whole;
      reaches = λ layout proc op known lt takes. met.reaches layout c.args.procs proc op known lt takes;
      stands = λ layout parts known whole. met.stands layout c.args.procs parts known c.requires whole;
      begins = λ layout known. met.begins layout c.args.procs known c.requires;
      imports = λ layout state known served. met.imports layout c.args.procs state known c.requires served;
      ends = λ layout state known served. met.ends layout state known served;
      admits = λ layout before state known live same served. met.admits layout before state known live same served;
      swaps = λ layout state known. met.swaps layout state known;
      asks = λ layout. met.asks layout;
      alike = λ layout other same. met.alike layout other same;
      few = λ layout. met.few layout;
    } in
    draw_keeps F declared o histories chain entry laws fits next
