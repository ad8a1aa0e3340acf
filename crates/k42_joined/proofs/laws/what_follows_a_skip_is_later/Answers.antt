use Rattle.k42_stamp.specs.Layouts.{layouts_with}
use Rattle.k42_joined.proofs.Later.{later_skipped}
use Rattle.k42_joined.proofs.laws.what_follows_a_skip_is_later.Goals as goal

pub returns : goal.returns
returns g c = λ proc_of on_one declared s t d stamp events event drawn sound skipped leads possible own is.
    let F = layouts_with g.L.Kind.object g.L.Layout.shapes g.L.Layout.tag_of g.L.Layout.ways g.L.Layout.whole g.L.Layout.serves g.L.Layout.admitted g.L.Layout.act_of c.args.procs proc_of in
    later_skipped F declared s t d stamp events event drawn sound skipped leads possible own is
