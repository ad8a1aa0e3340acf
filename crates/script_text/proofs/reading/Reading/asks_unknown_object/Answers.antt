use Rattle.std.proofs.Common.{sym, ap, ◌∙◌}
use Rattle.std.specs.Prelude.{is_some}
use Rattle.script_text.specs.Offences.{object_names}
use Rattle.script_text.specs.Reading.{script_so_far, place_asked}
use Rattle.script_text.proofs.PlacesAsked.{undeclared}
use Rattle.script_text.proofs.reading.Reading.asks_unknown_object.Goals as goal

pub returns-in-Asks : goal.returns-in-Asks
returns-in-Asks c =
    let script = script_so_far c.args.self.now in
    let place = c.requires.place ∙ ap (place_asked script) c.in-Asks.is in
    rw c.in-Asks.is (undeclared (object_names script) c.in-Asks.field-0 c.is_none.result (ap is_some (sym place) ∙ c.is_none.ensures))
