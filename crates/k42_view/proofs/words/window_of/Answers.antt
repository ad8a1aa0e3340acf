use Rattle.std.proofs.Common.{string_bytes}
use Rattle.k42_view.proofs.OneWord.{one_word}
use Rattle.k42_view.proofs.words.window_of.Goals as goal

pub returns-in_default-clause-window : goal.returns-in_default-clause-window
returns-in_default-clause-window c = one_word string_bytes c.args.words.now c.in_default.len_at_least c.in_default.len_below
