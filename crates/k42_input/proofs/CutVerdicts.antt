-- What is due does not depend on what stands past the limit, and which statuses go with it.
use Rattle.std.proofs.Common.{◌≡◌, ◌≢◌, ℕ, ◌<◌, Bool, true, false, List, length, take, inl, inr, refl, sym, ap, ◌∙◌, subst, arith}
use Rattle.std.specs.Prelude.{Result, Ok, Err, nat_lt}
use Rattle.std.proofs.lemmas.Bool.Decides.{nat_tests}
use Rattle.std.proofs.lemmas.List.{length-take, take_all}
use Rattle.script_text.specs.Language.{parsed}
use Rattle.script_text.specs.Lines.{lines_of}
use Rattle.script_text.specs.declared.fault.ScriptFault.{ScriptFault}
use Rattle.script_text.specs.declared.script.Script.{Script}
use Rattle.record_text.specs.Reading.{reading}
use Rattle.k42_input.specs.Separation.{script_part, record_part}
use Rattle.k42_input.specs.Verdicts.{input_limit, spelling_rule, line_refused, IsFound, IsVerdict, status_of}
use Rattle.k42_input.specs.Dues.{IsVerdictDue, IsCheckDue, CompletesCheck}
use Rattle.k42_input.proofs.CutInput.{script_part-take}
use Rattle.k42_input.specs.declared.verdict.Verdict.{Verdict}
use Rattle.k42_input.specs.declared.verdict.Verdict.TheVariants.{Lawful, Unlawful}
use Rattle.k42_input.specs.declared.status.Status.{Status}
use Rattle.k42_input.specs.declared.status.Status.TheVariants as statuses

-- the verdict on what was read is that on all
pub found_alike : (script : Script) (bytes : List ℕ) (verdict : Verdict) → IsVerdict script (take input_limit bytes) verdict → IsVerdict script bytes verdict
found_alike script bytes verdict found = record {
  whole = λ short.
      let all : take input_limit bytes ≡ bytes = take_all input_limit bytes (omega (arith, short)) in
      (subst (λ (input : List ℕ). IsVerdict script input verdict) all found).whole short;
  too_long = λ long.
      let same : take input_limit (take input_limit bytes) ≡ take input_limit bytes = take_all input_limit (take input_limit bytes) (omega (arith, length-take input_limit bytes)) in
      found.too_long (omega (arith, long, length-take input_limit bytes)) ∙ ap (λ (input : List ℕ). Unlawful (line_refused (reading script (record_part input)) (length (lines_of (record_part input)))) spelling_rule) same;
}

-- and so the other way
pub found_cut : (script : Script) (bytes : List ℕ) (verdict : Verdict) → IsVerdict script bytes verdict → IsVerdict script (take input_limit bytes) verdict
found_cut script bytes verdict found = record {
  whole = λ short.
      let few : length bytes < input_limit = omega (arith, short, length-take input_limit bytes) in
      subst (λ (input : List ℕ). IsFound script (reading script (record_part input)) verdict) (sym (take_all input_limit bytes (omega (arith, few)))) (found.whole few);
  too_long = λ long.
      let same : take input_limit (take input_limit bytes) ≡ take input_limit bytes = take_all input_limit (take input_limit bytes) (omega (arith, length-take input_limit bytes)) in
      found.too_long (omega (arith, long, length-take input_limit bytes)) ∙ ap (λ (input : List ℕ). Unlawful (line_refused (reading script (record_part input)) (length (lines_of (record_part input)))) spelling_rule) (sym same);
}

-- a record is lawful only where there is no byte too many
pub short_where_lawful : (script : Script) (input : List ℕ) (verdict : Verdict) → IsVerdict script input verdict → status_of verdict ≡ statuses.Ok → length input < input_limit
short_where_lawful script input verdict found lawful = by (nat_lt (length input) input_limit) refl
  where
    refused : ◌≡◌ {A = Status} statuses.Ok statuses.Unlawful → ⊥
    refused e = cc

    by : (b : Bool) → nat_lt (length input) input_limit ≡ b → length input < input_limit
    by true less = grind (arith, nat_tests, less)
    by false more = absurd (refused (sym lawful ∙ ap status_of (found.too_long (grind (arith, nat_tests, more)))))

verdict_alike : (bytes : List ℕ) (status : Status) (output : List ℕ) → IsVerdictDue (take input_limit bytes) status output → IsVerdictDue bytes status output
verdict_alike bytes status output due = record {
  script = due.script;
  verdict = due.verdict;
  accepted = sym (script_part-take bytes) ∙ due.accepted;
  found = found_alike due.script bytes due.verdict due.found;
  answered = due.answered;
  text = due.text;
}

pub check_alike : (bytes : List ℕ) (status : Status) (output : List ℕ) → IsCheckDue (take input_limit bytes) status output → IsCheckDue bytes status output
check_alike bytes statuses.Refused output due = record { fault = due.fault; refused = sym (script_part-take bytes) ∙ due.refused; text = due.text }
check_alike bytes statuses.Ok output due = verdict_alike bytes statuses.Ok output due
check_alike bytes statuses.Unlawful output due = verdict_alike bytes statuses.Unlawful output due
check_alike bytes statuses.Usage output due = verdict_alike bytes statuses.Usage output due
check_alike bytes statuses.ReadFault output due = verdict_alike bytes statuses.ReadFault output due
check_alike bytes statuses.WriteFault output due = verdict_alike bytes statuses.WriteFault output due
check_alike bytes statuses.Memory output due = verdict_alike bytes statuses.Memory output due

verdict_cut : (bytes : List ℕ) (status : Status) (output : List ℕ) → IsVerdictDue bytes status output → IsVerdictDue (take input_limit bytes) status output
verdict_cut bytes status output due = record {
  script = due.script;
  verdict = due.verdict;
  accepted = script_part-take bytes ∙ due.accepted;
  found = found_cut due.script bytes due.verdict due.found;
  answered = due.answered;
  text = due.text;
}

pub check_cut : (bytes : List ℕ) (status : Status) (output : List ℕ) → IsCheckDue bytes status output → IsCheckDue (take input_limit bytes) status output
check_cut bytes statuses.Refused output due = record { fault = due.fault; refused = script_part-take bytes ∙ due.refused; text = due.text }
check_cut bytes statuses.Ok output due = verdict_cut bytes statuses.Ok output due
check_cut bytes statuses.Unlawful output due = verdict_cut bytes statuses.Unlawful output due
check_cut bytes statuses.Usage output due = verdict_cut bytes statuses.Usage output due
check_cut bytes statuses.ReadFault output due = verdict_cut bytes statuses.ReadFault output due
check_cut bytes statuses.WriteFault output due = verdict_cut bytes statuses.WriteFault output due
check_cut bytes statuses.Memory output due = verdict_cut bytes statuses.Memory output due

-- which statuses go with a verdict
status_found : (script : Script) (verdict : Verdict) (status : Status) → status ≡ status_of verdict → CompletesCheck (Ok script) status
status_found script (Lawful entries) status is = inl is
status_found script (Unlawful line rule) status is = inr (inl is)

verdict_completes : (input : List ℕ) (status : Status) (output : List ℕ) → IsVerdictDue input status output → CompletesCheck (parsed (script_part input)) status
verdict_completes input status output due = rw due.accepted (status_found due.script due.verdict status due.answered)

pub completes_check : (input : List ℕ) (status : Status) (output : List ℕ) → IsCheckDue input status output → CompletesCheck (parsed (script_part input)) status
completes_check input statuses.Refused output due = rw due.refused (inl refl)
completes_check input statuses.Ok output due = verdict_completes input statuses.Ok output due
completes_check input statuses.Unlawful output due = verdict_completes input statuses.Unlawful output due
completes_check input statuses.Usage output due = verdict_completes input statuses.Usage output due
completes_check input statuses.ReadFault output due = verdict_completes input statuses.ReadFault output due
completes_check input statuses.WriteFault output due = verdict_completes input statuses.WriteFault output due
completes_check input statuses.Memory output due = verdict_completes input statuses.Memory output due

-- want of memory may come whatever the script is
pub check_memory : (outcome : Result Script ScriptFault) → CompletesCheck outcome statuses.Memory
check_memory (Ok script) = inr (inr refl)
check_memory (Err fault) = inr refl

-- no other status goes with a verdict
pub other_verdict : {Y : Type 0} (verdict : Verdict) (status : Status) → status ≡ status_of verdict → status ≢ statuses.Ok → status ≢ statuses.Unlawful → Y
other_verdict (Lawful entries) status is not_ok not_unlawful = absurd (not_ok is)
other_verdict (Unlawful line rule) status is not_ok not_unlawful = absurd (not_unlawful is)
