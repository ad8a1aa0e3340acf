-- The answer of an act, read from the front of the tokens that are left.
use Rattle.std.specs.Prelude.{ℕ, if◌then◌else◌, List, Some, None, codes}
use Rattle.std.specs.Str.{bytes_eq}
use Rattle.k42_kinds.specs.declared.operation.Reply.{Reply}
use Rattle.k42_kinds.specs.declared.operation.Reply.TheVariants as replies
use Rattle.k42_kinds.specs.declared.operation.Op.{Op}
use Rattle.k42_kinds.specs.declared.entry.Act.{Act}
use Rattle.k42_kinds.specs.declared.entry.Act.TheVariants.{Call, Swap}
use Rattle.k42_kinds.specs.declared.entry.Answer.{Answer}
use Rattle.k42_kinds.specs.declared.entry.Answer.TheVariants.{Replied, Swapped, Busy, Spent, Gone}
use Rattle.script_text.specs.Numbers.{number_within}
use Rattle.record_text.specs.Reader.Parts.{Found, ◌>>=◌, token_at, number_at, text_at, most_32, most_64}

-- the text of a reply behind the word `text`
unfoldable pub text_reply : List (List ℕ) → Found Reply
text_reply tokens = do
  text ← text_at tokens
  Some (replies.Text text.0, text.1)

-- the number that a reply is
unfoldable pub number_reply : List ℕ → List (List ℕ) → Found Reply
number_reply word tokens = do
  number ← number_within 0 most_64 word
  Some (replies.Number number, tokens)

-- the reply that begins with this word
abbrev pub reply_of : List ℕ → List (List ℕ) → Found Reply
reply_of word tokens =
    if bytes_eq word (codes "ok") then Some (replies.Done, tokens)
    else if bytes_eq word (codes "taken") then Some (replies.Taken, tokens)
    else if bytes_eq word (codes "none") then Some (replies.None, tokens)
    else if bytes_eq word (codes "zero") then Some (replies.Zero, tokens)
    else if bytes_eq word (codes "gone") then Some (replies.Gone, tokens)
    else if bytes_eq word (codes "text") then text_reply tokens
    else number_reply word tokens

-- an answer with its number, which is at least so much
unfoldable pub counted : ℕ → (ℕ → Answer Reply) → List (List ℕ) → Found (Answer Reply)
counted low answer tokens = do
  number ← number_at low most_32 tokens
  Some (answer number.0, number.1)

-- the answer of a swap that begins with this word
abbrev pub ending_of : List ℕ → List (List ℕ) → Found (Answer Reply)
ending_of word tokens =
    if bytes_eq word (codes "done") then counted 0 Swapped tokens
    else if bytes_eq word (codes "busy") then counted 1 Busy tokens
    else if bytes_eq word (codes "spent") then Some (Spent, tokens)
    else if bytes_eq word (codes "gone") then Some (Gone, tokens)
    else None

-- the reply to a call, as its answer
unfoldable pub replied : List ℕ → List (List ℕ) → Found (Answer Reply)
replied word tokens = do
  reply ← reply_of word tokens
  Some (Replied reply.0, reply.1)

-- the answer of an act that begins with this word
abbrev pub answer_of : Act Op → List ℕ → List (List ℕ) → Found (Answer Reply)
answer_of (Call op) word tokens = replied word tokens
answer_of (Swap to) word tokens = ending_of word tokens

-- the answer of an act
unfoldable pub answer_at : Act Op → List (List ℕ) → Found (Answer Reply)
answer_at act tokens = do
  word ← token_at tokens
  answer_of act word.0 word.1
