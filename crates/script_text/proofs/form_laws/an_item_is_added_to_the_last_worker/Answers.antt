use Rattle.std.proofs.Common.{List, ap, ◌∙◌}
use Rattle.script_text.specs.Language.{with_item}
use Rattle.script_text.specs.declared.script.WorkerLines.{WorkerLines}
use Rattle.script_text.proofs.ReaderSteps.{with_item-last}
use Rattle.script_text.proofs.form_laws.an_item_is_added_to_the_last_worker.Goals as goal

pub returns : goal.returns
returns c = λ script item earlier worker are.
    ap (λ (workers : List WorkerLines). record script { workers = with_item item workers }) are
    ∙ ap (λ (workers : List WorkerLines). record script { workers = workers }) (with_item-last item earlier worker)
