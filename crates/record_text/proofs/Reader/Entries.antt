-- The line of an entry that is read is spelled so, and what is spelled so is read.
use Rattle.std.proofs.Common.{◌≡◌, ℕ, List, [], ◌∷◌, ◌++◌, refl, sym, ap, subst, ◌∙◌, arith}
use Rattle.std.specs.Prelude.{Option, Some, codes}
use Rattle.std.specs.Fmt.{decimal}
use Rattle.std.proofs.lemmas.List.{append_assoc, append-nil}
use Rattle.std.proofs.lemmas.Option.{same_Some}
use Rattle.k42_kinds.specs.declared.operation.Reply.{Reply}
use Rattle.k42_kinds.specs.declared.entry.Answer.{Answer}
use Rattle.script_text.specs.Sound.{HasDistinctNames}
use Rattle.script_text.specs.declared.script.Script.{Script}
use Rattle.record_text.specs.Acts.{act_tokens}
use Rattle.record_text.specs.Answers.{answer_tokens}
use Rattle.record_text.specs.Texts.{worker_name, object_name, extra_tokens, line_tokens}
use Rattle.record_text.specs.Spelling.{HasSpelling, IsOfVersion, IsVersion}
use Rattle.record_text.specs.Values.{FitsLine}
use Rattle.record_text.specs.Reader.Parts.{◌>>=◌, spelled_at, behind_word, number_at, marked_at, at_end, most_32, most_64}
use Rattle.record_text.specs.Reader.ActParts.{worker_of, act_at}
use Rattle.record_text.specs.Reader.AnswerParts.{answer_at}
use Rattle.record_text.specs.Reader.LineParts.{extra_at, line_on}
use Rattle.record_text.specs.declared.reading.acts.Asked.{Asked}
use Rattle.record_text.specs.declared.record.Extra.{Extra}
use Rattle.record_text.specs.declared.record.RecordLine.{RecordLine}
use Rattle.record_text.proofs.Reader.Parts.{step, spelled_takes, spelled_again, word_passes, word_again, number_takes, number_again, marked_takes, marked_again, end_is}
use Rattle.record_text.proofs.Reader.Acts.{worker_takes, worker_again, act_takes, act_again}
use Rattle.record_text.proofs.Reader.Answers.{answer_takes, answer_again}
use Rattle.record_text.proofs.Reader.Extras.{extra_takes, extra_again}

-- the tokens of a line, one behind the other
in_a_row : (stamp worker number equals mark : List ℕ) (act answer extra : List (List ℕ)) → List (List ℕ)
in_a_row stamp worker number equals mark act answer extra =
    stamp ∷ (worker ∷ (number ∷ (act ++ (equals ∷ (answer ++ (mark ∷ (extra ++ [])))))))

regrouped : (stamp worker number equals mark : List ℕ) (act answer extra : List (List ℕ)) →
    stamp ∷ worker ∷ number ∷ [] ++ act ++ equals ∷ [] ++ answer ++ mark ∷ [] ++ extra ≡ in_a_row stamp worker number equals mark act answer extra
unfolding in_a_row
regrouped stamp worker number equals mark act answer extra = simp (append_assoc, append-nil)

-- the parts, each with what is left behind it
parts_in_a_row : (stamp worker number equals mark : List ℕ) (act answer extra : List (List ℕ)) (t0 t1 t2 t3 t4 t5 t6 t7 t8 : List (List ℕ)) →
    t0 ≡ stamp ∷ t1 → t1 ≡ worker ∷ t2 → t2 ≡ number ∷ t3 → t3 ≡ act ++ t4 → t4 ≡ equals ∷ t5 → t5 ≡ answer ++ t6 → t6 ≡ mark ∷ t7 → t7 ≡ extra ++ t8 → t8 ≡ [] →
    t0 ≡ stamp ∷ worker ∷ number ∷ [] ++ act ++ equals ∷ [] ++ answer ++ mark ∷ [] ++ extra
unfolding in_a_row
parts_in_a_row stamp worker number equals mark act answer extra t0 t1 t2 t3 t4 t5 t6 t7 t8 e0 e1 e2 e3 e4 e5 e6 e7 e8 =
    rw (e0, e1, e2, e3, e4, e5, e6, e7, e8) (sym (regrouped stamp worker number equals mark act answer extra))

-- the line of what was read
entry_of : ℕ → ℕ → ℕ → Asked → Answer Reply → ℕ → Option Extra → RecordLine
entry_of stamp worker number asks answer incarnation extra = record {
  stamp = stamp;
  worker = worker;
  line = number;
  object = asks.object;
  act = asks.act;
  answer = answer;
  incarnation = incarnation;
  extra = extra;
}

-- what is read behind each part
behind_extra : ℕ → ℕ → ℕ → Asked → Answer Reply → ℕ → Option Extra × List (List ℕ) → Option RecordLine
behind_extra stamp worker number asks answer incarnation extra =
    at_end extra.1 >>= (λ (done : Unit {0}). Some (entry_of stamp worker number asks answer incarnation extra.0))

behind_incarnation : ℕ → ℕ → ℕ → ℕ → Asked → Answer Reply → ℕ × List (List ℕ) → Option RecordLine
behind_incarnation version stamp worker number asks answer incarnation =
    extra_at version asks.act incarnation.1 >>= behind_extra stamp worker number asks answer incarnation.0

behind_answer : ℕ → ℕ → ℕ → ℕ → Asked → Answer Reply × List (List ℕ) → Option RecordLine
behind_answer version stamp worker number asks answer =
    marked_at 64 answer.1 >>= behind_incarnation version stamp worker number asks answer.0

behind_equals : ℕ → ℕ → ℕ → ℕ → Asked → List (List ℕ) → Option RecordLine
behind_equals version stamp worker number asks tokens =
    answer_at asks.act tokens >>= behind_answer version stamp worker number asks

behind_act : ℕ → ℕ → ℕ → ℕ → Asked × List (List ℕ) → Option RecordLine
behind_act version stamp worker number asks =
    behind_word (codes "=") asks.1 >>= behind_equals version stamp worker number asks.0

behind_number : Script → ℕ → ℕ → ℕ → ℕ × List (List ℕ) → Option RecordLine
behind_number script version stamp worker number =
    act_at script number.1 >>= behind_act version stamp worker number.0

behind_worker : Script → ℕ → ℕ → ℕ × List (List ℕ) → Option RecordLine
behind_worker script version stamp worker =
    number_at 0 most_32 worker.1 >>= behind_number script version stamp worker.0

behind_stamp : Script → ℕ → ℕ × List (List ℕ) → Option RecordLine
behind_stamp script version stamp =
    spelled_at (worker_of script) stamp.1 >>= behind_worker script version stamp.0

-- these tokens are the line of an entry
pub record TakesLine (script : Script) (version : ℕ) (tokens : List (List ℕ)) (line : RecordLine) : Type 0 where
  pub spelled : tokens ≡ line_tokens script line
  pub has : HasSpelling script line
  pub of_version : IsOfVersion version line
  pub fits : FitsLine line

pub line_takes : (script : Script) (version : ℕ) (tokens : List (List ℕ)) (line : RecordLine) → IsVersion version → line_on script version tokens ≡ Some line → TakesLine script version tokens line
unfolding line_on behind_stamp behind_worker behind_number behind_act behind_equals behind_answer behind_incarnation behind_extra entry_of in_a_row
line_takes script version tokens line is e =
    let one = step (number_at 0 most_64 tokens) (behind_stamp script version) line e in
    let stamp = number_takes 0 most_64 tokens one.0.0 one.0.1 (omega arith) one.1 in
    let two = step (spelled_at (worker_of script) one.0.1) (behind_worker script version one.0.0) line one.2 in
    let name = spelled_takes (worker_of script) one.0.1 two.0.0 two.0.1 two.1 in
    let worker = worker_takes script name.token two.0.0 name.means in
    let three = step (number_at 0 most_32 two.0.1) (behind_number script version one.0.0 two.0.0) line two.2 in
    let number = number_takes 0 most_32 two.0.1 three.0.0 three.0.1 (omega arith) three.1 in
    let four = step (act_at script three.0.1) (behind_act version one.0.0 two.0.0 three.0.0) line three.2 in
    let act = act_takes script three.0.1 four.0.0 four.0.1 four.1 in
    let five = step (behind_word (codes "=") four.0.1) (behind_equals version one.0.0 two.0.0 three.0.0 four.0.0) line four.2 in
    let equals = word_passes (codes "=") four.0.1 five.0 five.1 in
    let six = step (answer_at four.0.0.act five.0) (behind_answer version one.0.0 two.0.0 three.0.0 four.0.0) line five.2 in
    let answer = answer_takes four.0.0.act five.0 six.0.0 six.0.1 six.1 in
    let seven = step (marked_at 64 six.0.1) (behind_incarnation version one.0.0 two.0.0 three.0.0 four.0.0 six.0.0) line six.2 in
    let incarnation = marked_takes 64 six.0.1 seven.0.0 seven.0.1 seven.1 in
    let eight = step (extra_at version four.0.0.act seven.0.1) (behind_extra one.0.0 two.0.0 three.0.0 four.0.0 six.0.0 seven.0.0) line seven.2 in
    let extra = extra_takes version four.0.0.act seven.0.1 eight.0.0 eight.0.1 is eight.1 in
    let nine = step (at_end eight.0.1) (λ (done : Unit {0}). Some (entry_of one.0.0 two.0.0 three.0.0 four.0.0 six.0.0 seven.0.0 eight.0.0)) line eight.2 in
    let end = end_is eight.0.1 nine.0 nine.1 in
    let own = entry_of one.0.0 two.0.0 three.0.0 four.0.0 six.0.0 seven.0.0 eight.0.0 in
    let same : own ≡ line = same_Some own line nine.2 in
    subst (λ (l : RecordLine). TakesLine script version tokens l) same (record {
      spelled = parts_in_a_row (decimal one.0.0) (worker_name script two.0.0) (decimal three.0.0) (codes "=") (64 ∷ decimal seven.0.0) (act_tokens (object_name script four.0.0.object) four.0.0.act) (answer_tokens six.0.0) (extra_tokens eight.0.0)
          tokens one.0.1 two.0.1 three.0.1 four.0.1 five.0 six.0.1 seven.0.1 eight.0.1
          stamp.spelled (name.first ∙ ap (λ (token : List ℕ). token ∷ two.0.1) worker.named) number.spelled act.spelled equals answer.spelled incarnation.0 extra.spelled end;
      has = record { by_worker = worker.within; kind = act.kind; of_object = act.of_object; asked = act.is_on; answered = answer.ends };
      of_version = record { told = extra.told };
      fits = record {
        stamp = omega (arith, stamp.below);
        number = omega (arith, number.below);
        act = act.fits;
        answer = answer.fits;
        incarnation = incarnation.1;
        extra = extra.fits;
      };
    })

-- a line that is spelled is read
pub line_again : (script : Script) (version : ℕ) (line : RecordLine) → HasDistinctNames script → HasSpelling script line → IsOfVersion version line → FitsLine line → line_on script version (line_tokens script line) ≡ Some line
unfolding line_on in_a_row
line_again script version line names has told fits =
    let act_row = act_tokens (object_name script line.object) line.act in
    let to_extra = extra_tokens line.extra ++ [] in
    let to_mark = (64 ∷ decimal line.incarnation) ∷ to_extra in
    let to_answer = answer_tokens line.answer ++ to_mark in
    let to_act = act_row ++ (codes "=" ∷ to_answer) in
    rw (
      regrouped (decimal line.stamp) (worker_name script line.worker) (decimal line.line) (codes "=") (64 ∷ decimal line.incarnation) act_row (answer_tokens line.answer) (extra_tokens line.extra),
      number_again 0 most_64 line.stamp (worker_name script line.worker ∷ decimal line.line ∷ to_act) (omega arith) (omega arith) (omega (arith, fits.stamp)),
      spelled_again (worker_of script) (worker_name script line.worker) line.worker (decimal line.line ∷ to_act) (worker_again script line.worker names has.by_worker),
      number_again 0 most_32 line.line to_act (omega arith) (omega arith) (omega (arith, fits.number)),
      act_again script line.object has.kind line.act (codes "=" ∷ to_answer) names has.of_object has.asked fits.act,
      word_again (codes "=") to_answer,
      answer_again line.act line.answer to_mark has.answered fits.answer,
      marked_again 64 line.incarnation to_extra fits.incarnation,
      extra_again version line.act line.extra [] told.told fits.extra,
    ) refl
