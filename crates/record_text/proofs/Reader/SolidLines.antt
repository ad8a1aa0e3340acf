-- The tokens of a record's lines have neither spaces nor line feeds in them.
use Rattle.std.proofs.Common.{◌≡◌, ℕ, zero, suc, ◌^◌, ◌<◌, true, List, [], ◌∷◌, ◌++◌, refl, ◌∙◌, arith}
use Rattle.std.specs.Prelude.{Option, Some, None, IfSome, codes}
use Rattle.std.specs.Fmt.{decimal}
use Rattle.std.proofs.lemmas.List.Folds.{list_all-append}
use Rattle.k42_kinds.specs.Words.{is_visible}
use Rattle.k42_kinds.specs.declared.operation.KindName.{KindName}
use Rattle.k42_kinds.specs.declared.operation.Op.{Op}
use Rattle.k42_kinds.specs.declared.operation.Op.TheVariants.{Add, Get, Drain, Bind, Find, Unbind, Size, Write, Read, Dirty, Clean, Seen}
use Rattle.k42_kinds.specs.declared.operation.Reply.{Reply}
use Rattle.k42_kinds.specs.declared.operation.Reply.TheVariants as replies
use Rattle.k42_kinds.specs.declared.entry.Act.{Act}
use Rattle.k42_kinds.specs.declared.entry.Act.TheVariants.{Call, Swap}
use Rattle.k42_kinds.specs.declared.entry.To.TheVariants.{Layout, Dead, Watch, Unwatch}
use Rattle.k42_kinds.specs.declared.entry.Answer.{Answer}
use Rattle.k42_kinds.specs.declared.entry.Answer.TheVariants.{Replied, Swapped, Busy, Spent, Gone, Abandoned}
use Rattle.script_text.specs.Sound.{NamesPage, IsActOn, HasDistinctNames}
use Rattle.script_text.specs.declared.script.Script.{Script}
use Rattle.record_text.specs.Acts.{operation_word, argument_tokens, numbered_layout_word, act_tokens}
use Rattle.record_text.specs.Answers.{reply_tokens, answer_tokens}
use Rattle.record_text.specs.Texts.{worker_name, object_name, generation_token, extra_tokens, line_tokens}
use Rattle.record_text.specs.Spelling.{HasSpelling}
use Rattle.record_text.specs.Values.{FitsOperation, FitsAct, FitsReply, FitsAnswer, FitsExtra, FitsLine}
use Rattle.record_text.specs.declared.record.Extra.{Extra}
use Rattle.record_text.specs.declared.record.RecordLine.{RecordLine}
use Rattle.record_text.proofs.Reader.SolidTokens.{is_solid, are_solid, decimal_solid, name_solid, text_solid}
use Rattle.record_text.proofs.Reader.Acts.{object_has_name, worker_has_name}

both_solid : (xs ys : List (List ℕ)) → are_solid xs ≡ true → are_solid ys ≡ true → are_solid (xs ++ ys) ≡ true
both_solid xs ys first second = list_all-append is_solid xs ys ∙ rw (first, second) refl

one_solid : (token : List ℕ) → is_solid token ≡ true → are_solid (token ∷ []) ≡ true
one_solid token solid = rw solid refl

pub two_solid : (first second : List ℕ) → is_solid first ≡ true → is_solid second ≡ true → are_solid (first ∷ second ∷ []) ≡ true
two_solid first second one two = rw (one, two) refl

pub three_solid : (first second third : List ℕ) → is_solid first ≡ true → is_solid second ≡ true → is_solid third ≡ true → are_solid (first ∷ second ∷ third ∷ []) ≡ true
three_solid first second third one two three = rw (one, two, three) refl

marked_solid : (mark n : ℕ) → is_visible mark ≡ true → n < 2 ^ 64 → is_solid (mark ∷ decimal n) ≡ true
marked_solid mark n shows small = rw (shows, decimal_solid n small) refl

layout_solid : (number : ℕ) → number < 2 → is_solid (numbered_layout_word number) ≡ true
layout_solid zero named = refl
layout_solid (suc zero) named = refl
layout_solid (suc (suc number)) named = absurd (omega (arith, named))

operation_solid : (op : Op) → is_solid (operation_word op) ≡ true
operation_solid (Add amount) = refl
operation_solid Get = refl
operation_solid Drain = refl
operation_solid (Bind key number) = refl
operation_solid (Find key) = refl
operation_solid (Unbind key) = refl
operation_solid Size = refl
operation_solid (Write page text) = refl
operation_solid (Read page) = refl
operation_solid Dirty = refl
operation_solid Clean = refl
operation_solid Seen = refl

arguments_solid : (op : Op) → NamesPage op → FitsOperation op → are_solid (argument_tokens op) ≡ true
arguments_solid (Add amount) page fits = one_solid (decimal amount) (decimal_solid amount (omega (arith, fits)))
arguments_solid Get page fits = refl
arguments_solid Drain page fits = refl
arguments_solid (Bind key number) page fits = two_solid key (decimal number) (name_solid key fits.0) (decimal_solid number fits.1)
arguments_solid (Find key) page fits = one_solid key (name_solid key fits)
arguments_solid (Unbind key) page fits = one_solid key (name_solid key fits)
arguments_solid Size page fits = refl
arguments_solid (Write number text) page fits = two_solid (decimal number) text (decimal_solid number (omega (arith, page))) (text_solid text fits)
arguments_solid (Read number) page fits = one_solid (decimal number) (decimal_solid number (omega (arith, page)))
arguments_solid Dirty page fits = refl
arguments_solid Clean page fits = refl
arguments_solid Seen page fits = refl

act_solid : (object : List ℕ) (kind : KindName) (act : Act Op) → is_solid object ≡ true → IsActOn kind act → FitsAct act → are_solid (act_tokens object act) ≡ true
act_solid object kind (Call op) solid is_on fits = rw (solid, operation_solid op, arguments_solid op is_on.1 fits) refl
act_solid object kind (Swap (Layout number)) solid is_on fits = rw (solid, layout_solid number is_on) refl
act_solid object kind (Swap Dead) solid is_on fits = rw solid refl
act_solid object kind (Swap Watch) solid is_on fits = rw solid refl
act_solid object kind (Swap Unwatch) solid is_on fits = rw solid refl

reply_solid : (reply : Reply) → FitsReply reply → are_solid (reply_tokens reply) ≡ true
reply_solid replies.Done fits = refl
reply_solid replies.Taken fits = refl
reply_solid replies.None fits = refl
reply_solid (replies.Number number) fits = one_solid (decimal number) (decimal_solid number fits)
reply_solid (replies.Text text) fits = two_solid (codes "text") text refl (text_solid text fits)
reply_solid replies.Zero fits = refl
reply_solid replies.Gone fits = refl

answer_solid : (answer : Answer Reply) → FitsAnswer answer → are_solid (answer_tokens answer) ≡ true
answer_solid (Replied reply) fits = reply_solid reply fits
answer_solid (Swapped number) fits = two_solid (codes "done") (decimal number) refl (decimal_solid number (omega (arith, fits)))
answer_solid (Busy number) fits = two_solid (codes "busy") (decimal number) refl (decimal_solid number (omega (arith, fits)))
answer_solid Spent fits = refl
answer_solid Gone fits = refl
answer_solid (Abandoned number) fits = refl

generation_solid : (generation : Option ℕ) → IfSome generation (λ (g : ℕ). g < 2 ^ 32) → is_solid (generation_token generation) ≡ true
generation_solid None small = refl
generation_solid (Some g) small = marked_solid 103 g refl (omega (arith, small))

extra_solid : (extra : Option Extra) → IfSome extra FitsExtra → are_solid (extra_tokens extra) ≡ true
extra_solid None fits = refl
extra_solid (Some extra) fits =
    two_solid (112 ∷ decimal extra.proc) (generation_token extra.generation) (marked_solid 112 extra.proc refl (omega (arith, fits.proc))) (generation_solid extra.generation fits.generation)

pub line_solid : (script : Script) (line : RecordLine) → HasDistinctNames script → HasSpelling script line → FitsLine line → are_solid (line_tokens script line) ≡ true
line_solid script line names has fits =
    let worker = worker_name script line.worker in
    let act = act_tokens (object_name script line.object) line.act in
    let answer = answer_tokens line.answer in
    let mark = 64 ∷ decimal line.incarnation in
    let extra = extra_tokens line.extra in
    let front = decimal line.stamp ∷ worker ∷ decimal line.line ∷ [] in
    let to_act = front ++ act in
    let to_equals = to_act ++ codes "=" ∷ [] in
    let to_answer = to_equals ++ answer in
    let to_mark = to_answer ++ mark ∷ [] in
    let worker_solid = name_solid worker (worker_has_name script line.worker names has.by_worker) in
    let object_solid = name_solid (object_name script line.object) (object_has_name script line.object has.kind names has.of_object) in
    let front_solid = three_solid (decimal line.stamp) worker (decimal line.line) (decimal_solid line.stamp fits.stamp) worker_solid (decimal_solid line.line (omega (arith, fits.number))) in
    both_solid to_mark extra
    (both_solid to_answer (mark ∷ [])
    (both_solid to_equals answer
    (both_solid to_act (codes "=" ∷ [])
    (both_solid front act front_solid (act_solid (object_name script line.object) has.kind line.act object_solid has.asked fits.act))
    refl) (answer_solid line.answer fits.answer))
    (one_solid mark (marked_solid 64 line.incarnation refl (omega (arith, fits.incarnation)))))
    (extra_solid line.extra fits.extra)
