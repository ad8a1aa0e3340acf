use Rattle.std.proofs.Common.{◌∙◌, ◌-◌, length, ap}
use Rattle.std.specs.List.{slice_get}
use Rattle.k42_log.proofs.Lasts.{head_incarnation}
use Rattle.k42_log.proofs.Pushed.{incarnation_seen}
use Rattle.k42_log.proofs.log.Log.last_incarnation.Goals as goal

pub returns-in-Some : goal.returns-in-Some
returns-in-Some g c =
    rw (← c.self.view_is)
    (ap head_incarnation (c.in-Some.ensures.value ∙ ap (λ heads. slice_get heads (length heads - 1)) c.deref.ensures.value)
    ∙ incarnation_seen g.O.Packed.packing g.R.Packed.packing c.self.inside)
