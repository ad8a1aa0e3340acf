use Rattle.k42_runtime.proofs.SeenUpTo.{seen_always}
use Rattle.k42_board.specs.Plan.{layouts_on}
use Rattle.k42_runtime.proofs.laws.nothing_seen_is_later_than_the_last_entry.Goals as goal

pub returns : goal.returns
returns g c id v =
    rw (← c.system.view_is)
    (seen_always (layouts_on g.L.Kind.object g.L.Layout.shapes g.L.Layout.tag_of g.L.Layout.ways g.L.Layout.whole g.L.Layout.serves g.L.Layout.admitted g.L.Layout.act_of c.system.inside.sys.procs c.system.inside.sys.callers) c.layouts_are_lawful.ensures c.system.inside.sys.layouts id v)
