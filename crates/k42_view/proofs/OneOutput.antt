-- For one window and one input just one output is due, with one status.
use Rattle.std.proofs.Common.{◌≡◌, ℕ, ◌<◌, ◌≤◌, Bool, true, false, List, length, inl, inr, refl, sym, ap, ◌∙◌, subst, arith}
use Rattle.std.specs.Prelude.{Option, Some, None, Result, Ok, Err, nat_lt}
use Rattle.std.proofs.lemmas.Bool.Decides.{nat_tests}
use Rattle.script_text.specs.Language.{parsed}
use Rattle.script_text.specs.declared.fault.ScriptFault.{ScriptFault}
use Rattle.script_text.specs.declared.script.Script.{Script}
use Rattle.record_text.specs.Reading.{reading}
use Rattle.record_text.specs.Rules.{IsFirstFault}
use Rattle.record_text.specs.declared.record.Record.{Record}
use Rattle.record_text.proofs.Reread.{one_fault, lawful_faultless}
use Rattle.record_picture.specs.Picture.{picture}
use Rattle.record_picture.specs.declared.window.Window.{Window}
use Rattle.k42_input.specs.Dues.{refusal_line}
use Rattle.k42_input.specs.Separation.{script_part, record_part}
use Rattle.k42_input.specs.Verdicts.{input_limit, spelling_rule, IsFoundOf, IsFound, IsSpelledIn, IsVerdict, status_of, verdict_line}
use Rattle.k42_input.specs.declared.status.Status.{Status}
use Rattle.k42_input.specs.declared.verdict.Verdict.{Verdict}
use Rattle.k42_input.specs.declared.verdict.Verdict.TheVariants.{Lawful, Unlawful}
use Rattle.k42_view.specs.Program.{mark_of, IsDrawn, IsPictureDue, IsMisspeltDue, IsDue}

differ : (rule : ℕ) → rule < spelling_rule → spelling_rule ≡ rule → ⊥
differ rule below is = omega (arith, below, is)

above : (rule : ℕ) → spelling_rule < rule → spelling_rule ≡ rule → ⊥
above rule over is = omega (arith, over, is)

-- no line of a record breaks the rule of spelling
record_spelled : (script : Script) (written : Record) (line : ℕ) → IsFirstFault script written line spelling_rule → ⊥
record_spelled script written line (inl fault) = elim fault.broken [
  | inl stamps ↦ differ 2 (omega arith) stamps.0
  | inr a ↦ elim a.1 [
    | inl order ↦ differ 8 (omega arith) order.0
    | inr b ↦ elim b.1 [
      | inl calls ↦ differ 5 (omega arith) calls.0
      | inr c ↦ elim c.1 [
        | inl swaps ↦ differ 6 (omega arith) swaps.0
        | inr d ↦ elim d.1 [
          | inl refusals ↦ differ 7 (omega arith) refusals.0
          | inr e ↦ elim e.1 [
            | inl generations ↦ above 21 (omega arith) generations.0
            | inr f ↦ absurd f.1
          ]
        ]
      ]
    ]
  ]
]
record_spelled script written line (inr fault) = differ 8 (omega arith) fault.order

-- one thing is found of a record
one_verdict : (script : Script) (written : Record) (one other : Verdict) → IsFoundOf script written one → IsFoundOf script written other → one ≡ other
one_verdict script written (Lawful entries) (Lawful others) found again = ap Lawful (found.1 ∙ sym again.1)
one_verdict script written (Lawful entries) (Unlawful line rule) found again = absurd (lawful_faultless script written line rule found.0 again)
one_verdict script written (Unlawful line rule) (Lawful entries) found again = absurd (lawful_faultless script written line rule again.0 found)
one_verdict script written (Unlawful line rule) (Unlawful other_line other_rule) found again =
    let same = one_fault script written line rule other_line other_rule found again in
    ap (λ (l : ℕ). Unlawful l rule) same.0 ∙ ap (λ (r : ℕ). Unlawful other_line r) same.1

one_script : (outcome : Result Script ScriptFault) (one other : Script) → outcome ≡ Ok one → outcome ≡ Ok other → one ≡ other
one_script outcome one other is again = cc

one_record : (outcome : Result Record ℕ) (one other : Record) → outcome ≡ Ok one → outcome ≡ Ok other → one ≡ other
one_record outcome one other is again = cc

one_refusal : (outcome : Result Script ScriptFault) (one other : ScriptFault) → outcome ≡ Err one → outcome ≡ Err other → one ≡ other
one_refusal outcome one other is again = cc

accepted_refused : {Y : Type 0} (outcome : Result Script ScriptFault) (script : Script) (fault : ScriptFault) → outcome ≡ Ok script → outcome ≡ Err fault → Y
accepted_refused outcome script fault is not = cc

-- where no record stands, one line is told
one_line : (script : Script) (read : Result Record ℕ) (line other : ℕ) → IsFound script read (Unlawful line spelling_rule) → IsFound script read (Unlawful other spelling_rule) → Unlawful line spelling_rule ≡ Unlawful other spelling_rule
one_line script (Ok written) line other found again = absurd (record_spelled script written line found)
one_line script (Err at) line other found again = found ∙ sym again

one_misspelt : (script : Script) (input : List ℕ) (line other : ℕ) → IsVerdict script input (Unlawful line spelling_rule) → IsVerdict script input (Unlawful other spelling_rule) → Unlawful line spelling_rule ≡ Unlawful other spelling_rule
one_misspelt script input line other found again = by (nat_lt (length input) input_limit) refl
  where
    by : (b : Bool) → nat_lt (length input) input_limit ≡ b → Unlawful line spelling_rule ≡ Unlawful other spelling_rule
    by true less =
        let short : length input < input_limit = grind (arith, nat_tests, less) in
        one_line script (reading script (record_part input)) line other (found.whole short) (again.whole short)
    by false more =
        let long : input_limit ≤ length input = grind (arith, nat_tests, more) in
        found.too_long long ∙ sym (again.too_long long)

-- where a record stands, none is told as misspelt
spelled_misspelt : (script : Script) (input : List ℕ) (written : Record) (line : ℕ) → IsSpelledIn script input written → IsVerdict script input (Unlawful line spelling_rule) → ⊥
spelled_misspelt script input written line spelled found = record_spelled script written line (subst (λ (read : Result Record ℕ). IsFound script read (Unlawful line spelling_rule)) spelled.read (found.whole spelled.short))

module _ (window : Window) (input : List ℕ) (status other_status : Status) (output other_output : List ℕ) where
  one_drawn : (script : Script) (written : Record) → IsDrawn window script written status output → IsDrawn window script written other_status other_output → (status ≡ other_status) × (output ≡ other_output)
  one_drawn script written drawn again =
      let same = one_verdict script written drawn.verdict again.verdict drawn.found again.found in
      (drawn.answered ∙ ap status_of same ∙ sym again.answered, drawn.text ∙ ap (λ (v : Verdict). picture script written (mark_of v) window) same ∙ sym again.text)

  one_picture : IsPictureDue window input status output → IsPictureDue window input other_status other_output → (status ≡ other_status) × (output ≡ other_output)
  one_picture due again =
      let script = one_script (parsed (script_part input)) due.script again.script due.accepted again.accepted in
      let written = one_record (reading due.script (record_part input)) due.written again.written due.spelled.read (ap (λ (s : Script). reading s (record_part input)) script ∙ again.spelled.read) in
      one_drawn due.script due.written due.drawn (subst (λ (s : Script). IsDrawn window s due.written other_status other_output) (sym script) (subst (λ (w : Record). IsDrawn window again.script w other_status other_output) (sym written) again.drawn))

  one_told : IsMisspeltDue input status output → IsMisspeltDue input other_status other_output → (status ≡ other_status) × (output ≡ other_output)
  one_told due again =
      let script = one_script (parsed (script_part input)) due.script again.script due.accepted again.accepted in
      let same = one_misspelt due.script input due.line again.line due.found (subst (λ (s : Script). IsVerdict s input (Unlawful again.line spelling_rule)) (sym script) again.found) in
      (due.told.answered ∙ ap status_of same ∙ sym again.told.answered, due.told.text ∙ ap verdict_line same ∙ sym again.told.text)

  -- a picture and a line are never due for one input
  picture_or_line : {Y : Type 0} (some : Status) (text : List ℕ) (other : Status) (line : List ℕ) → IsPictureDue window input some text → IsMisspeltDue input other line → Y
  picture_or_line some text other line due misspelt =
      let script = one_script (parsed (script_part input)) due.script misspelt.script due.accepted misspelt.accepted in
      absurd (spelled_misspelt due.script input due.written misspelt.line due.spelled (subst (λ (s : Script). IsVerdict s input (Unlawful misspelt.line spelling_rule)) (sym script) misspelt.found))

  one_of_window : IsDue (Some window) input status output → IsDue (Some window) input other_status other_output → (status ≡ other_status) × (output ≡ other_output)
  one_of_window (inl due) (inl again) = one_picture due again
  one_of_window (inl due) (inr (inl again)) = picture_or_line status output other_status other_output due again
  one_of_window (inl due) (inr (inr again)) = accepted_refused (parsed (script_part input)) due.script again.1.fault due.accepted again.1.refused
  one_of_window (inr (inl due)) (inl again) = picture_or_line other_status other_output status output again due
  one_of_window (inr (inl due)) (inr (inl again)) = one_told due again
  one_of_window (inr (inl due)) (inr (inr again)) = accepted_refused (parsed (script_part input)) due.script again.1.fault due.accepted again.1.refused
  one_of_window (inr (inr due)) (inl again) = accepted_refused (parsed (script_part input)) again.script due.1.fault again.accepted due.1.refused
  one_of_window (inr (inr due)) (inr (inl again)) = accepted_refused (parsed (script_part input)) again.script due.1.fault again.accepted due.1.refused
  one_of_window (inr (inr due)) (inr (inr again)) =
      let same = one_refusal (parsed (script_part input)) due.1.fault again.1.fault due.1.refused again.1.refused in
      (due.0 ∙ sym again.0, due.1.text ∙ ap refusal_line same ∙ sym again.1.text)

-- for what the words ask and one input one output is due
pub one_due : (asked : Option Window) (input output other_output : List ℕ) (status other_status : Status) → IsDue asked input status output → IsDue asked input other_status other_output → (status ≡ other_status) × (output ≡ other_output)
one_due None input output other_output status other_status due again = (due.0 ∙ sym again.0, due.1 ∙ sym again.1)
one_due (Some window) input output other_output status other_status due again = one_of_window window input status other_status output other_output due again
