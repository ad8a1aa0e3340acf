-- How the answer of an act is spelled.
use Rattle.std.specs.Prelude.{ℕ, List, [], ◌∷◌, codes}
use Rattle.std.specs.Fmt.{decimal}
use Rattle.k42_kinds.specs.declared.operation.Reply.{Reply}
use Rattle.k42_kinds.specs.declared.operation.Reply.TheVariants as replies
use Rattle.k42_kinds.specs.declared.entry.Answer.{Answer}
use Rattle.k42_kinds.specs.declared.entry.Answer.TheVariants.{Replied, Swapped, Busy, Spent, Gone, Abandoned}

-- what an object replied to a call
abbrev pub reply_tokens : Reply → List (List ℕ)
reply_tokens replies.Done = codes "ok" ∷ []
reply_tokens replies.Taken = codes "taken" ∷ []
reply_tokens replies.None = codes "none" ∷ []
reply_tokens (replies.Number number) = decimal number ∷ []
reply_tokens (replies.Text text) = codes "text" ∷ text ∷ []
reply_tokens replies.Zero = codes "zero" ∷ []
reply_tokens replies.Gone = codes "gone" ∷ []

-- an answer, of which a swap that was given up has none
abbrev pub answer_tokens : Answer Reply → List (List ℕ)
answer_tokens (Replied reply) = reply_tokens reply
answer_tokens (Swapped number) = codes "done" ∷ decimal number ∷ []
answer_tokens (Busy number) = codes "busy" ∷ decimal number ∷ []
answer_tokens Spent = codes "spent" ∷ []
answer_tokens Gone = codes "gone" ∷ []
answer_tokens (Abandoned number) = []
