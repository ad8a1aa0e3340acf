use Rattle.script_text.proofs.SoundScripts.{answered-sound}
use Rattle.script_text.proofs.Truncated.{parsed-take}
use Rattle.script_text.proofs.parsing.parse.Goals as goal

pub returns-clause-sound : goal.returns-clause-sound
returns-clause-sound c = answered-sound c.args.bytes.now c.read_lines.result c.read_lines.ensures.answer

pub returns-clause-enough : goal.returns-clause-enough
returns-clause-enough c = parsed-take c.args.bytes.now
