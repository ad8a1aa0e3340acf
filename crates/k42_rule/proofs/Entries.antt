-- The entries that a pass draws, field by field.
use Rattle.std.proofs.Common.{◌≡◌, ℕ, ◌+◌, ◌-◌, true, false, cond, [], ◌∷◌, None, refl, sym, ap, ◌∙◌}
use Rattle.std.specs.Prelude.{max}
use Rattle.k42_kinds.specs.Histories.{is_call}
use Rattle.k42_kinds.specs.declared.entry.Act.{Act}
use Rattle.k42_kinds.specs.declared.entry.Answer.{Answer}
use Rattle.k42_kinds.specs.declared.entry.Answer.TheVariants.{Replied, Swapped, Busy, Spent, Gone, Abandoned}
use Rattle.k42_joined.specs.Found.{tells_over}
use Rattle.k42_log.specs.Names.{is_reply}
use Rattle.k42_board.specs.Drawing.{IsAnswerAlone, entry_alone, entry_mark, number_told, stamp_next}
use Rattle.k42_board.specs.Seen.{Own, own_in}
use Rattle.k42_board.specs.Values.{incarnation_in}
use Rattle.k42_board.specs.Views.{object_begun, word_begun}
use Rattle.k42_board.specs.declared.view.PassView.{PassView}

module _ {P O R : Type 0} (v : PassView P O R) (own : Own) (own_is : own ≡ own_in v) (act : Act O) (answer : Answer R) (is : is_call act ≡ false)
    (stamp index object incarnation : ℕ) (indexed : index ≡ own.drawn) (begun : object ≡ object_begun own.last) where
  pub alone_entry : stamp ≡ max own.clock 0 + 1 → incarnation ≡ number_told answer - 1
      → record {
        stamp = stamp;
        caller = own.number;
        index = index;
        object = object;
        incarnation = incarnation;
        cell = 0;
        act = act;
        answer = answer;
        proc = own.turn.proc;
        generation = None;
      }
      ≡ entry_alone v act answer
  alone_entry stamped told = λ i. record {
    stamp = (stamped ∙ ap (λ (o : Own). max o.clock 0 + 1) own_is) i;
    caller = ap (λ (o : Own). o.number) own_is i;
    index = (indexed ∙ ap (λ (o : Own). o.drawn) own_is) i;
    object = (begun ∙ ap (λ (o : Own). object_begun o.last) own_is) i;
    incarnation = told i;
    cell = 0;
    act = act;
    answer = answer;
    proc = ap (λ (o : Own). o.turn.proc) own_is i;
    generation = ap (λ b. cond b v.turn.active None) (sym is) i;
  }

  pub mark_entry : (cell n : ℕ) → cell ≡ n → stamp ≡ stamp_next v (n ∷ []) → incarnation ≡ incarnation_in (word_begun own.last)
      → record {
        stamp = stamp;
        caller = own.number;
        index = index;
        object = object;
        incarnation = incarnation;
        cell = cell;
        act = act;
        answer = answer;
        proc = own.turn.proc;
        generation = None;
      }
      ≡ entry_mark v n act answer
  mark_entry cell n named stamped found = λ i. record {
    stamp = stamped i;
    caller = ap (λ (o : Own). o.number) own_is i;
    index = (indexed ∙ ap (λ (o : Own). o.drawn) own_is) i;
    object = (begun ∙ ap (λ (o : Own). object_begun o.last) own_is) i;
    incarnation = (found ∙ ap (λ (o : Own). incarnation_in (word_begun o.last)) own_is) i;
    cell = named i;
    act = act;
    answer = answer;
    proc = ap (λ (o : Own). o.turn.proc) own_is i;
    generation = ap (λ b. cond b v.turn.active None) (sym is) i;
  }

-- what tells of a swap is no reply to a call

pub alone_told : {P O R : Type 0} (v : PassView P O R) (answer : Answer R) → IsAnswerAlone v answer → is_reply answer ≡ false
alone_told v (Busy number) may = refl
alone_told v (Abandoned number) may = refl
alone_told v (Replied reply) may = absurd may
alone_told v (Swapped number) may = absurd may
alone_told v Spent may = absurd may
alone_told v Gone may = absurd may

pub over_told : {R : Type 0} (answer : Answer R) → tells_over answer ≡ true → is_reply answer ≡ false
over_told Spent over = refl
over_told Gone over = refl
over_told (Replied reply) over = absurd (cc)
over_told (Swapped number) over = absurd (cc)
over_told (Busy number) over = absurd (cc)
over_told (Abandoned number) over = absurd (cc)
