use Rattle.std.proofs.Common.{sym, ◌∙◌}
use Rattle.script_text.proofs.TokenCuts.{tokens_of-token}
use Rattle.script_text.proofs.tokens.first_token.Goals as goal

pub returns-clause-first : goal.returns-clause-first
returns-clause-first c =
    let token = c.token_len.ensures in
    sym c.past_blanks-from_token.ensures.tokens ∙ rw (c.split_at.ensures.front, c.split_at.ensures.back)
    (tokens_of-token c.past_blanks-from_token.result.now c.token_len.result (record { within = token.within; before = token.before; found = token.found }))
