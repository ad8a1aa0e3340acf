-- An answer that is read is spelled so, and what is spelled so is read.
use Rattle.std.proofs.Common.{◌≡◌, ℕ, ◌^◌, ◌<◌, ◌≤◌, false, cond, List, [], ◌∷◌, ◌++◌, refl, sym, ap, subst, ◌∙◌, arith, inl, inr}
use Rattle.std.proofs.lemmas.Option.{none-some}
use Rattle.std.specs.Prelude.{Some, None, codes}
use Rattle.std.specs.Fmt.{decimal}
use Rattle.std.specs.Str.{bytes_eq}
use Rattle.k42_kinds.specs.declared.operation.Op.{Op}
use Rattle.k42_kinds.specs.declared.operation.Reply.{Reply}
use Rattle.k42_kinds.specs.declared.operation.Reply.TheVariants as replies
use Rattle.k42_kinds.specs.declared.entry.Act.{Act}
use Rattle.k42_kinds.specs.declared.entry.Act.TheVariants.{Call, Swap}
use Rattle.k42_kinds.specs.declared.entry.Answer.{Answer}
use Rattle.k42_kinds.specs.declared.entry.Answer.TheVariants.{Replied, Swapped, Busy, Spent, Gone, Abandoned}
use Rattle.script_text.specs.Numbers.{number_of, number_within}
use Rattle.script_text.proofs.DecimalNumbers.{number_of-decimal}
use Rattle.record_text.specs.Answers.{reply_tokens, answer_tokens}
use Rattle.record_text.specs.Spelling.{Ends, EndsSwap}
use Rattle.record_text.specs.Values.{FitsReply, FitsAnswer}
use Rattle.record_text.specs.Reader.Parts.{Found, ◌>>=◌, token_at, number_at, text_at, most_32, most_64}
use Rattle.record_text.specs.Reader.AnswerParts.{text_reply, number_reply, reply_of, counted, ending_of, replied, answer_of, answer_at}
use Rattle.record_text.proofs.Reader.Parts.{step, same_word, word_or, pair_is, number_means, number_spelled, number_takes, number_again, text_takes, text_again}
use Rattle.record_text.proofs.Reader.Names.{false_unless}

-- these tokens are a reply, and what is left
record TakesReply (word : List ℕ) (tokens : List (List ℕ)) (reply : Reply) (rest : List (List ℕ)) : Type 0 where
  spelled : word ∷ tokens ≡ reply_tokens reply ++ rest
  fits : FitsReply reply

-- a reply of one word
word_reply : (own reply : Reply) (word : List ℕ) (tokens rest : List (List ℕ)) → reply_tokens own ≡ word ∷ [] → FitsReply own → ◌≡◌ {A = Found Reply} (Some (own, tokens)) (Some (reply, rest)) → TakesReply word tokens reply rest
word_reply own reply word tokens rest one fits e =
    let same = pair_is own reply tokens rest e in
    subst (λ (r : Reply). TakesReply word tokens r rest) same.0 (record { spelled = rw (one, same.1) refl; fits = fits })

text_takes_reply : (tokens : List (List ℕ)) (reply : Reply) (rest : List (List ℕ)) → text_reply tokens ≡ Some (reply, rest) → TakesReply (codes "text") tokens reply rest
unfolding text_reply
text_takes_reply tokens reply rest e =
    let first = step (text_at tokens) (λ (text : List ℕ × List (List ℕ)). Some (replies.Text text.0, text.1)) (reply, rest) e in
    let text = text_takes tokens first.0.0 first.0.1 first.1 in
    let same = pair_is (replies.Text first.0.0) reply first.0.1 rest first.2 in
    let behind : tokens ≡ first.0.0 ∷ rest = text.0 ∙ ap (λ (left : List (List ℕ)). first.0.0 ∷ left) same.1 in
    subst (λ (r : Reply). TakesReply (codes "text") tokens r rest) same.0 (record { spelled = ap (λ (left : List (List ℕ)). codes "text" ∷ left) behind; fits = text.1 })

number_takes_reply : (word : List ℕ) (tokens : List (List ℕ)) (reply : Reply) (rest : List (List ℕ)) → number_reply word tokens ≡ Some (reply, rest) → TakesReply word tokens reply rest
unfolding number_reply
number_takes_reply word tokens reply rest e =
    let first = step (number_within 0 most_64 word) (λ (number : ℕ). Some (replies.Number number, tokens)) (reply, rest) e in
    let number = number_means 0 most_64 word first.0 (omega arith) first.1 in
    let same = pair_is (replies.Number first.0) reply tokens rest first.2 in
    let spelled : word ∷ tokens ≡ decimal first.0 ∷ rest = ap (λ (token : List ℕ). token ∷ tokens) number.spelled ∙ ap (λ (left : List (List ℕ)). decimal first.0 ∷ left) same.1 in
    subst (λ (r : Reply). TakesReply word tokens r rest) same.0 (record { spelled = spelled; fits = omega (arith, number.below) })

reply_takes : (word : List ℕ) (tokens : List (List ℕ)) (reply : Reply) (rest : List (List ℕ)) → reply_of word tokens ≡ Some (reply, rest) → TakesReply word tokens reply rest
reply_takes word tokens reply rest e =
    let from_number : Found Reply = number_reply word tokens in
    let from_text : Found Reply = cond (bytes_eq word (codes "text")) (text_reply tokens) from_number in
    let from_gone : Found Reply = cond (bytes_eq word (codes "gone")) (Some (replies.Gone, tokens)) from_text in
    let from_zero : Found Reply = cond (bytes_eq word (codes "zero")) (Some (replies.Zero, tokens)) from_gone in
    let from_none : Found Reply = cond (bytes_eq word (codes "none")) (Some (replies.None, tokens)) from_zero in
    let from_taken : Found Reply = cond (bytes_eq word (codes "taken")) (Some (replies.Taken, tokens)) from_none in
    elim (word_or word (codes "ok") (Some (replies.Done, tokens)) from_taken (reply, rest) e) [
      | inl this ↦ rw this.0 (word_reply replies.Done reply (codes "ok") tokens rest refl tt this.1)
      | inr more ↦ elim (word_or word (codes "taken") (Some (replies.Taken, tokens)) from_none (reply, rest) more) [
        | inl this ↦ rw this.0 (word_reply replies.Taken reply (codes "taken") tokens rest refl tt this.1)
        | inr more ↦ elim (word_or word (codes "none") (Some (replies.None, tokens)) from_zero (reply, rest) more) [
          | inl this ↦ rw this.0 (word_reply replies.None reply (codes "none") tokens rest refl tt this.1)
          | inr more ↦ elim (word_or word (codes "zero") (Some (replies.Zero, tokens)) from_gone (reply, rest) more) [
            | inl this ↦ rw this.0 (word_reply replies.Zero reply (codes "zero") tokens rest refl tt this.1)
            | inr more ↦ elim (word_or word (codes "gone") (Some (replies.Gone, tokens)) from_text (reply, rest) more) [
              | inl this ↦ rw this.0 (word_reply replies.Gone reply (codes "gone") tokens rest refl tt this.1)
              | inr more ↦ elim (word_or word (codes "text") (text_reply tokens) from_number (reply, rest) more) [
                | inl this ↦ rw this.0 (text_takes_reply tokens reply rest this.1)
                | inr number ↦ number_takes_reply word tokens reply rest number
              ]
            ]
          ]
        ]
      ]
    ]

-- these tokens are an answer of the act, and what is left
record TakesAnswer (act : Act Op) (word : List ℕ) (tokens : List (List ℕ)) (answer : Answer Reply) (rest : List (List ℕ)) : Type 0 where
  spelled : word ∷ tokens ≡ answer_tokens answer ++ rest
  ends : Ends act answer
  fits : FitsAnswer answer

-- the answer of a swap
record TakesEnding (word : List ℕ) (tokens : List (List ℕ)) (answer : Answer Reply) (rest : List (List ℕ)) : Type 0 where
  spelled : word ∷ tokens ≡ answer_tokens answer ++ rest
  ends : EndsSwap answer
  fits : FitsAnswer answer

word_ending : (own answer : Answer Reply) (word : List ℕ) (tokens rest : List (List ℕ)) → answer_tokens own ≡ word ∷ [] → EndsSwap own → FitsAnswer own → ◌≡◌ {A = Found (Answer Reply)} (Some (own, tokens)) (Some (answer, rest)) → TakesEnding word tokens answer rest
word_ending own answer word tokens rest one ends fits e =
    let same = pair_is own answer tokens rest e in
    subst (λ (a : Answer Reply). TakesEnding word tokens a rest) same.0 (record { spelled = rw (one, same.1) refl; ends = ends; fits = fits })

-- the number behind the word of an answer
record HasCount (low : ℕ) (of_number : ℕ → Answer Reply) (tokens : List (List ℕ)) (answer : Answer Reply) (rest : List (List ℕ)) : Type 0 where
  number : ℕ
  is : of_number number ≡ answer
  spelled : tokens ≡ decimal number ∷ rest
  above : low ≤ number
  small : number < 2 ^ 32

counted_takes : (low : ℕ) (of_number : ℕ → Answer Reply) (tokens : List (List ℕ)) (answer : Answer Reply) (rest : List (List ℕ)) → counted low of_number tokens ≡ Some (answer, rest) → HasCount low of_number tokens answer rest
unfolding counted
counted_takes low of_number tokens answer rest e =
    let first = step (number_at low most_32 tokens) (λ (number : ℕ × List (List ℕ)). Some (of_number number.0, number.1)) (answer, rest) e in
    let number = number_takes low most_32 tokens first.0.0 first.0.1 (omega arith) first.1 in
    let same = pair_is (of_number first.0.0) answer first.0.1 rest first.2 in
    record {
      number = first.0.0;
      is = same.0;
      spelled = number.spelled ∙ ap (λ (left : List (List ℕ)). decimal first.0.0 ∷ left) same.1;
      above = number.above;
      small = omega (arith, number.below);
    }

done_takes : (tokens : List (List ℕ)) (answer : Answer Reply) (rest : List (List ℕ)) → counted 0 Swapped tokens ≡ Some (answer, rest) → TakesEnding (codes "done") tokens answer rest
done_takes tokens answer rest e =
    let count = counted_takes 0 Swapped tokens answer rest e in
    subst (λ (a : Answer Reply). TakesEnding (codes "done") tokens a rest) count.is (record { spelled = ap (λ (left : List (List ℕ)). codes "done" ∷ left) count.spelled; ends = tt; fits = count.small })

busy_takes : (tokens : List (List ℕ)) (answer : Answer Reply) (rest : List (List ℕ)) → counted 1 Busy tokens ≡ Some (answer, rest) → TakesEnding (codes "busy") tokens answer rest
busy_takes tokens answer rest e =
    let count = counted_takes 1 Busy tokens answer rest e in
    subst (λ (a : Answer Reply). TakesEnding (codes "busy") tokens a rest) count.is (record { spelled = ap (λ (left : List (List ℕ)). codes "busy" ∷ left) count.spelled; ends = count.above; fits = count.small })

ending_takes : (word : List ℕ) (tokens : List (List ℕ)) (answer : Answer Reply) (rest : List (List ℕ)) → ending_of word tokens ≡ Some (answer, rest) → TakesEnding word tokens answer rest
ending_takes word tokens answer rest e =
    let from_gone : Found (Answer Reply) = cond (bytes_eq word (codes "gone")) (Some (Gone, tokens)) None in
    let from_spent : Found (Answer Reply) = cond (bytes_eq word (codes "spent")) (Some (Spent, tokens)) from_gone in
    let from_busy : Found (Answer Reply) = cond (bytes_eq word (codes "busy")) (counted 1 Busy tokens) from_spent in
    elim (word_or word (codes "done") (counted 0 Swapped tokens) from_busy (answer, rest) e) [
      | inl this ↦ rw this.0 (done_takes tokens answer rest this.1)
      | inr more ↦ elim (word_or word (codes "busy") (counted 1 Busy tokens) from_spent (answer, rest) more) [
        | inl this ↦ rw this.0 (busy_takes tokens answer rest this.1)
        | inr more ↦ elim (word_or word (codes "spent") (Some (Spent, tokens)) from_gone (answer, rest) more) [
          | inl this ↦ rw this.0 (word_ending Spent answer (codes "spent") tokens rest refl tt tt this.1)
          | inr more ↦ elim (word_or word (codes "gone") (Some (Gone, tokens)) None (answer, rest) more) [
            | inl this ↦ rw this.0 (word_ending Gone answer (codes "gone") tokens rest refl tt tt this.1)
            | inr none ↦ absurd cc
          ]
        ]
      ]
    ]

-- these tokens are an answer of the act, and what is left
pub record FindsAnswer (act : Act Op) (tokens : List (List ℕ)) (answer : Answer Reply) (rest : List (List ℕ)) : Type 0 where
  pub spelled : tokens ≡ answer_tokens answer ++ rest
  pub ends : Ends act answer
  pub fits : FitsAnswer answer

replied_takes : (word : List ℕ) (tokens : List (List ℕ)) (answer : Answer Reply) (rest : List (List ℕ)) (act : Act Op) → ((reply : Reply) → Ends act (Replied reply)) → replied word tokens ≡ Some (answer, rest) → FindsAnswer act (word ∷ tokens) answer rest
unfolding replied
replied_takes word tokens answer rest act ends e =
    let first = step (reply_of word tokens) (λ (reply : Reply × List (List ℕ)). Some (Replied reply.0, reply.1)) (answer, rest) e in
    let reply = reply_takes word tokens first.0.0 first.0.1 first.1 in
    let same = pair_is (Replied first.0.0) answer first.0.1 rest first.2 in
    let spelled : word ∷ tokens ≡ reply_tokens first.0.0 ++ rest = reply.spelled ∙ ap (λ (left : List (List ℕ)). reply_tokens first.0.0 ++ left) same.1 in
    subst (λ (a : Answer Reply). FindsAnswer act (word ∷ tokens) a rest) same.0 (record { spelled = spelled; ends = ends first.0.0; fits = reply.fits })

answered_takes : (act : Act Op) (word : List ℕ) (tokens : List (List ℕ)) (answer : Answer Reply) (rest : List (List ℕ)) → answer_of act word tokens ≡ Some (answer, rest) → FindsAnswer act (word ∷ tokens) answer rest
answered_takes (Call op) word tokens answer rest e = replied_takes word tokens answer rest (Call op) (λ reply. tt) e
answered_takes (Swap to) word tokens answer rest e =
    let ending = ending_takes word tokens answer rest e in
    record { spelled = ending.spelled; ends = ending.ends; fits = ending.fits }

pub answer_takes : (act : Act Op) (tokens : List (List ℕ)) (answer : Answer Reply) (rest : List (List ℕ)) → answer_at act tokens ≡ Some (answer, rest) → FindsAnswer act tokens answer rest
unfolding answer_at
answer_takes act [] answer rest e = absurd cc
answer_takes act (word ∷ tokens) answer rest e = answered_takes act word tokens answer rest e

-- ---- what is spelled is read

-- the word begins no reply but a number
record IsNoWord (word : List ℕ) : Type 0 where
  ok : bytes_eq word (codes "ok") ≡ false
  taken : bytes_eq word (codes "taken") ≡ false
  none : bytes_eq word (codes "none") ≡ false
  zero : bytes_eq word (codes "zero") ≡ false
  gone : bytes_eq word (codes "gone") ≡ false
  text : bytes_eq word (codes "text") ≡ false

number_is_not : (number : ℕ) (word : List ℕ) → number < 2 ^ 64 → number_of word ≡ None → bytes_eq (decimal number) word ≡ false
number_is_not number word small none =
    false_unless (bytes_eq (decimal number) word)
    (λ same. none-some number (sym none ∙ ap number_of (sym (same_word (decimal number) word same)) ∙ (number_of-decimal (decimal number) number small).1 refl))

number_is_no_word : (number : ℕ) → number < 2 ^ 64 → IsNoWord (decimal number)
number_is_no_word number small = record {
  ok = number_is_not number (codes "ok") small refl;
  taken = number_is_not number (codes "taken") small refl;
  none = number_is_not number (codes "none") small refl;
  zero = number_is_not number (codes "zero") small refl;
  gone = number_is_not number (codes "gone") small refl;
  text = number_is_not number (codes "text") small refl;
}

number_replied : (op : Op) (word : List ℕ) (number : ℕ) (rest : List (List ℕ)) → IsNoWord word → number_within 0 most_64 word ≡ Some number → answer_at (Call op) (word ∷ rest) ≡ Some (Replied (replies.Number number), rest)
unfolding answer_at replied number_reply
number_replied op word number rest other means = rw (other.ok, other.taken, other.none, other.zero, other.gone, other.text, means) refl

reply_again : (op : Op) (reply : Reply) (rest : List (List ℕ)) → FitsReply reply → answer_at (Call op) (reply_tokens reply ++ rest) ≡ Some (Replied reply, rest)
unfolding answer_at replied text_reply
reply_again op replies.Done rest fits = refl
reply_again op replies.Taken rest fits = refl
reply_again op replies.None rest fits = refl
reply_again op (replies.Number number) rest fits = number_replied op (decimal number) number rest (number_is_no_word number fits) (number_spelled 0 most_64 number (omega arith) (omega arith) (omega (arith, fits)))
reply_again op (replies.Text text) rest fits = rw (text_again text rest fits) refl
reply_again op replies.Zero rest fits = refl
reply_again op replies.Gone rest fits = refl

ending_again : (answer : Answer Reply) (rest : List (List ℕ)) → EndsSwap answer → FitsAnswer answer → (token_at (answer_tokens answer ++ rest) >>= λ word. ending_of word.0 word.1) ≡ Some (answer, rest)
unfolding counted
ending_again (Replied reply) rest ends fits = absurd ends
ending_again (Swapped number) rest ends fits = rw (number_again 0 most_32 number rest (omega arith) (omega arith) (omega (arith, fits))) refl
ending_again (Busy number) rest ends fits = rw (number_again 1 most_32 number rest (omega arith) ends (omega (arith, fits))) refl
ending_again Spent rest ends fits = refl
ending_again Gone rest ends fits = refl
ending_again (Abandoned number) rest ends fits = absurd ends

call_again : (op : Op) (answer : Answer Reply) (rest : List (List ℕ)) → Ends (Call op) answer → FitsAnswer answer → answer_at (Call op) (answer_tokens answer ++ rest) ≡ Some (answer, rest)
call_again op (Replied reply) rest ends fits = reply_again op reply rest fits
call_again op (Swapped number) rest ends fits = absurd ends
call_again op (Busy number) rest ends fits = absurd ends
call_again op Spent rest ends fits = absurd ends
call_again op Gone rest ends fits = absurd ends
call_again op (Abandoned number) rest ends fits = absurd ends

-- an answer that is spelled is read
pub answer_again : (act : Act Op) (answer : Answer Reply) (rest : List (List ℕ)) → Ends act answer → FitsAnswer answer → answer_at act (answer_tokens answer ++ rest) ≡ Some (answer, rest)
unfolding answer_at
answer_again (Call op) answer rest ends fits = call_again op answer rest ends fits
answer_again (Swap to) answer rest ends fits = ending_again answer rest ends fits
