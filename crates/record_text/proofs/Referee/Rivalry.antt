-- Whether another's swap may have refused a line, told from what is kept for all lines.
use Rattle.std.proofs.Common.{◌≡◌, ℕ, ◌+◌, ◌<◌, Bool, true, false, ◌&&◌, ◌||◌, not, List, ◌∷◌, ◌++◌, length, map, take, drop, get_or, refl, sym, ap, ◌∙◌, subst, All, Any, arith}
use Rattle.std.specs.Prelude.{◌==◌, ◌^◌, Some, slice_get}
use Rattle.std.specs.Bool.{Decides}
use Rattle.std.specs.List.{list_any}
use Rattle.std.proofs.lemmas.Bool.{eqb-true, eq-eqb, ne_eqb, and_parts, and_from}
use Rattle.std.proofs.lemmas.List.{length-map, map-append, take-append-drop, get_or-map, get_or_default}
use Rattle.std.proofs.lemmas.List.Elements.{All-append, All-take, All-drop}
use Rattle.std.proofs.lemmas.List.Folds.{Any-from_list_any, list_any-from_Any, list_any-append}
use Rattle.k42_kinds.specs.declared.operation.Op.{Op}
use Rattle.k42_kinds.specs.declared.operation.Reply.{Reply}
use Rattle.k42_kinds.specs.declared.entry.Act.{Act}
use Rattle.k42_kinds.specs.declared.entry.Act.TheVariants.{Call, Swap}
use Rattle.k42_kinds.specs.declared.entry.Answer.{Answer}
use Rattle.k42_kinds.specs.declared.entry.Answer.TheVariants.{Replied, Swapped, Busy, Spent, Gone, Abandoned}
use Rattle.k42_kinds.specs.declared.entry.Entry.{Entry}
use Rattle.k42_kinds.specs.Legal.{IsLegalRefusal, IsRival, Settles}
use Rattle.script_text.specs.declared.script.Script.{Script}
use Rattle.record_text.specs.Spelling.{HasSpelling, Ends}
use Rattle.record_text.specs.Told.{told}
use Rattle.record_text.specs.Referee.Doers.{is_swap, has_number, has_rival}
use Rattle.record_text.specs.Referee.Pasts.{IsRefusable}
use Rattle.record_text.specs.declared.record.RecordLine.{RecordLine}
use Rattle.k42_places.proofs.Rests.{drop_at}
use Rattle.record_text.proofs.Referee.Sight.{all_early, early_all, all_late, late_all}

settles_to : (answer : Answer Reply) (number : ℕ) → has_number answer number ≡ true → Settles number answer
settles_to (Swapped other) number is = eqb-true other number is
settles_to (Abandoned other) number is = cc is
settles_to (Replied reply) number is = cc is
settles_to (Busy other) number is = cc is
settles_to Spent number is = cc is
settles_to Gone number is = cc is

settles_from : (act : Act Op) (answer : Answer Reply) (number : ℕ) → Ends act answer → Settles number answer → has_number answer number ≡ true
settles_from act (Swapped other) number form is = eq-eqb other number is
settles_from (Call op) (Abandoned other) number form is = absurd form
settles_from (Swap to) (Abandoned other) number form is = absurd form
settles_from act (Replied reply) number form is = absurd is
settles_from act (Busy other) number form is = absurd is
settles_from act Spent number form is = absurd is
settles_from act Gone number form is = absurd is

not_true : (b : Bool) → not b ≡ true → b ≡ false
not_true true is = cc
not_true false is = refl

and_false : (b : Bool) → (b && false) ≡ false
and_false true = refl
and_false false = refl

module _ (line : RecordLine) (number : ℕ) where
  abbrev rivals : RecordLine → Bool
  rivals other = is_swap line.object number other && not (other.worker == line.worker)

  rival_to : (other : RecordLine) → rivals other ≡ true → IsRival (told line) number (told other)
  rival_to other is =
      let parts = and_parts (is_swap line.object number other) (not (other.worker == line.worker)) is in
      let swap = and_parts (other.object == line.object) (has_number other.answer number) parts.0 in
      record {
        caller = λ same. cc (not_true (other.worker == line.worker) parts.1, eq-eqb other.worker line.worker same);
        object = eqb-true other.object line.object swap.0;
        settles = settles_to other.answer number swap.1;
      }

  rival_from : (other : RecordLine) → Ends other.act other.answer → IsRival (told line) number (told other) → rivals other ≡ true
  rival_from other form rival = and_from (is_swap line.object number other) (not (other.worker == line.worker))
      (and_from (other.object == line.object) (has_number other.answer number) (eq-eqb other.object line.object rival.object) (settles_from other.act other.answer number form rival.settles))
      (ap not (ne_eqb other.worker line.worker rival.caller))

  any_to : (lines : List RecordLine) → Any (λ other. rivals other ≡ true) lines → Any (IsRival (told line) number) (map told lines)
  any_to lines any = (any.0, told any.1, omega (arith, any.2, length-map lines told), get_or-map told lines any.0 any.1 (told any.1) any.2 ∙ ap told any.3, rival_to any.1 any.4)

  any_from : (lines : List RecordLine) → All (λ other. Ends other.act other.answer) lines → Any (IsRival (told line) number) (map told lines) → Any (λ other. rivals other ≡ true) lines
  any_from lines forms any =
      let within : any.0 < length lines = omega (arith, any.2, length-map lines told) in
      let other = get_or lines any.0 line in
      let same : told other ≡ any.1 = sym (get_or-map told lines any.0 line any.1 within) ∙ any.3 in
      (any.0, other, within, get_or_default lines any.0 other line within, rival_from other (forms any.0 line within) (subst (λ (e : Entry Op Reply). IsRival (told line) number e) (sym same) any.4))

  -- the line itself is no rival, so the others alone count
  others_any : (before after : List RecordLine) → line.answer ≡ Busy number → has_rival (before ++ line ∷ after) line.worker line.object number ≡ list_any rivals (before ++ after)
  others_any before after busy =
      let itself : rivals line ≡ false = ap (λ (a : Answer Reply). ((line.object == line.object) && has_number a number) && not (line.worker == line.worker)) busy ∙ ap (λ (b : Bool). b && not (line.worker == line.worker)) (and_false (line.object == line.object)) in
      list_any-append rivals before (line ∷ after)
      ∙ ap (λ (b : Bool). list_any rivals before || (b || list_any rivals after)) itself
      ∙ sym (list_any-append rivals before after)

-- whether it may, the whole record decides
pub refusal_decided : (script : Script) (lines : List RecordLine) (place : ℕ) (line : RecordLine) (number : ℕ) (result : Bool) → All (HasSpelling script) lines → number < 2 ^ 32 → slice_get lines place ≡ Some line → line.answer ≡ Busy number
    → Decides result (IsRefusable lines line place number) → Decides result (IsLegalRefusal (map told (take place lines)) (told line) (map told (drop (place + 1) lines)) number)
refusal_decided script lines place line number result spelled fits there busy decides =
    let before = take place lines in
    let after = drop (place + 1) lines in
    let whole : lines ≡ before ++ line ∷ after = sym (take-append-drop place lines) ∙ ap (λ (rest : List RecordLine). before ++ rest) (drop_at lines place line there) in
    let known : has_rival lines line.worker line.object number ≡ list_any (rivals line number) (before ++ after) = ap (λ (all : List RecordLine). has_rival all line.worker line.object number) whole ∙ others_any line number before after busy in
    let forms : All (λ (other : RecordLine). Ends other.act other.answer) (before ++ after) = λ k d within. (All-append (HasSpelling script) before after (All-take (HasSpelling script) place lines spelled) (All-drop (HasSpelling script) (place + 1) lines spelled) k d within).answered in (
      λ yes.
          let may = decides.0 yes in
          record {
            timely = record {
              incarnation = may.incarnation;
              earlier = all_early (told line) number before may.earlier;
              later = all_late (told line) number after may.later;
            };
            rival = rw (← map-append told before after) (any_to line number (before ++ after) (Any-from_list_any (rivals line number) (before ++ after) (sym known ∙ may.rival)));
          },
      λ legal. decides.1 (record {
        incarnation = legal.timely.incarnation;
        earlier = early_all (told line) number before legal.timely.earlier;
        later = late_all (told line) number after (omega (arith, fits)) legal.timely.later;
        rival = known ∙ list_any-from_Any (rivals line number) (before ++ after) (any_from line number (before ++ after) forms (rw (map-append told before after) legal.rival));
      }),
    )
