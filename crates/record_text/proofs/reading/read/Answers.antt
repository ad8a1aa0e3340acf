use Rattle.std.proofs.Common.{sym, ap, ◌∙◌}
use Rattle.record_text.specs.Reading.{reading}
use Rattle.record_text.proofs.Openings.{misspelt_leaves}
use Rattle.record_text.proofs.Reader.Records.{reading_again, answer_has_text, answer_is_text, answer_is_short, answer_fits}
use Rattle.record_text.proofs.reading.read.Goals as goal

pub returns-clause-spelled : goal.returns-clause-spelled
returns-clause-spelled c = answer_has_text c.args.script.now c.args.bytes.now c.read_all.result c.read_all.ensures

pub returns-clause-text : goal.returns-clause-text
returns-clause-text c = answer_is_text c.args.script.now c.args.bytes.now c.read_all.result c.read_all.ensures

pub returns-clause-few : goal.returns-clause-few
returns-clause-few c = answer_is_short c.args.script.now c.args.bytes.now c.read_all.result c.requires.short c.read_all.ensures

pub returns-clause-values : goal.returns-clause-values
returns-clause-values c = answer_fits c.args.script.now c.args.bytes.now c.read_all.result c.read_all.ensures

pub returns-clause-misspelt : goal.returns-clause-misspelt
returns-clause-misspelt c line names is = misspelt_leaves c.args.script.now c.args.bytes.now c.read_all.result line names c.requires.short c.read_all.ensures is

pub returns-clause-again : goal.returns-clause-again
returns-clause-again c written names has fits same =
    ap (reading c.args.script.now) (sym same) ∙ reading_again c.args.script.now written names has fits
