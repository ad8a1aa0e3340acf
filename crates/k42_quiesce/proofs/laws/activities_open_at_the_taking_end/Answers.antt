use Rattle.k42_quiesce.proofs.OpenedBefore.{open_leaves}
use Rattle.k42_quiesce.proofs.laws.activities_open_at_the_taking_end.Goals as goal

pub returns : goal.returns
returns g c = λ before after taking quiet holder notes events grace caller generation active.
    open_leaves _ c.layouts_are_lawful.ensures _ taking.state quiet.state taking.sound holder notes events grace caller generation active
