use Rattle.std.proofs.Common.{sym}
use Rattle.script_text.proofs.TokenCuts.{tokens_of-blank}
use Rattle.script_text.proofs.tokens.past_blanks.Goals as goal

pub returns-clause-tokens : goal.returns-clause-tokens
returns-clause-tokens c =
    let blank = c.blank_len.ensures in
    rw c.split_at.ensures.back (sym (tokens_of-blank c.args.text.now c.blank_len.result blank.within blank.before))
