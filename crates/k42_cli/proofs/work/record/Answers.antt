use Rattle.std.proofs.Common.{List, All, refl, sym, ap, ◌∙◌, subst}
use Rattle.k42_kinds.specs.declared.operation.Op.{Op}
use Rattle.k42_kinds.specs.declared.operation.Reply.{Reply}
use Rattle.k42_kinds.specs.declared.entry.Entry.{Entry}
use Rattle.record_text.specs.Histories.{HasLine, record_of, history_text}
use Rattle.record_text.specs.Spelling.{HasText}
use Rattle.k42_cli.proofs.Records.{lines_there}
use Rattle.k42_cli.proofs.work.record.Goals as goal

pub print_history-requires-clause-placed : goal.print_history-requires-clause-placed
print_history-requires-clause-placed g c =
    let script = c.args.script.now in
    subst (All (HasLine script)) (sym c.in_ok-reader.ensures) (lines_there script c.requires c.in_ok-history.history.entries c.in_ok-history.ensures.lawful)

pub print_history-requires-clause-spelled : goal.print_history-requires-clause-spelled
print_history-requires-clause-spelled g c =
    let script = c.args.script.now in
    let version = c.version-version.result in
    subst (λ (entries : List (Entry Op Reply)). HasText script (record_of script entries version)) (sym c.in_ok-reader.ensures) (c.in_ok-history.ensures.spelled version c.version-version.ensures.known)

pub returns : goal.returns
returns g c =
    let script = c.args.script.now in
    let history = c.in_ok-history.history in
    record {
      status = refl;
      history = history;
      ran = c.in_ok-history.ensures;
      text =
          c.in_ok-text.ensures
          ∙ ap (λ (entries : List (Entry Op Reply)). history_text script entries c.version-version.result) c.in_ok-reader.ensures
          ∙ ap (history_text script history.entries) c.version-version.ensures.number;
      held = refl;
    }
