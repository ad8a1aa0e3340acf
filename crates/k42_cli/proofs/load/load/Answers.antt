use Rattle.std.proofs.Common.{◌≡◌, List, refl, sym, ap, ◌∙◌, subst}
use Rattle.k42_kinds.specs.declared.operation.Op.{Op}
use Rattle.k42_kinds.specs.declared.operation.Reply.{Reply}
use Rattle.k42_kinds.specs.declared.entry.Entry.{Entry}
use Rattle.script_text.specs.declared.script.Script.{Script}
use Rattle.load_totals.specs.Loads.{summary_due, summary_of, tallied}
use Rattle.k42_cli.specs.Program.{IsRun, load_line}
use Rattle.k42_cli.proofs.Records.{run_of}
use Rattle.k42_cli.proofs.load.load.Goals as goal

pub returns : goal.returns
returns g c =
    let script = c.in_ok-script.script in
    let history = c.in_ok-history.history in
    let ran : IsRun script history = run_of script c.in_ok-script.ensures.sound history c.in_ok-history.ensures.lawful c.in_ok-history.ensures.plan c.in_ok-history.ensures.recorded c.in_ok-history.ensures.generations in
    let due : c.in_ok-sums.sums ≡ summary_due c.args.steps = c.in_ok-sums.ensures.due c.args.steps c.requires.1 c.in_ok-script.ensures.script in
    record {
      status = refl;
      due = record {
        history = history;
        ran = subst (λ (s : Script). IsRun s history) c.in_ok-script.ensures.script ran;
        sums = ap (λ (entries : List (Entry Op Reply)). summary_of (tallied entries)) (sym c.in_ok-reader.ensures) ∙ sym c.in_ok-sums.ensures.exact ∙ due;
        text = c.in_ok-load_line.ensures ∙ ap (load_line c.args.steps) due;
        held = refl;
      };
    }
