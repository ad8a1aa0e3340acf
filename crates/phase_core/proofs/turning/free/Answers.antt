use Rattle.phase_core.proofs.Ranges.{note_there, freeing_there}
use Rattle.phase_core.proofs.turning.free.Goals as goal

pub note-requires-clause-room : goal.note-requires-clause-room
note-requires-clause-room c = note_there c.args.state.now c.requires.sound c.args.c c.args.o c.requires.caller c.requires.object

pub set_freeing-requires-clause-room : goal.set_freeing-requires-clause-room
set_freeing-requires-clause-room c = freeing_there c.args.state.now c.requires.sound c.args.c c.args.o c.requires.caller c.requires.object
