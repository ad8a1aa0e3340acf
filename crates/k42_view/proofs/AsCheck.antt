-- The status is that with which `check` answers the same input.
use Rattle.std.proofs.Common.{◌≡◌, ℕ, List, inl, inr, refl, sym, subst, arith}
use Rattle.std.specs.Prelude.{Result, Ok, Some}
use Rattle.script_text.specs.Language.{parsed}
use Rattle.script_text.specs.declared.script.Script.{Script}
use Rattle.record_text.specs.declared.record.Record.{Record}
use Rattle.record_picture.specs.declared.window.Window.{Window}
use Rattle.k42_input.specs.Dues.{IsCheckDue}
use Rattle.k42_input.specs.Separation.{script_part}
use Rattle.k42_input.specs.Verdicts.{spelling_rule, IsFoundOf, IsFound, IsSpelledIn, IsVerdict, status_of, verdict_line}
use Rattle.k42_input.specs.declared.status.Status.{Status}
use Rattle.k42_input.specs.declared.verdict.Verdict.{Verdict}
use Rattle.k42_input.specs.declared.verdict.Verdict.TheVariants.{Lawful, Unlawful}
use Rattle.k42_view.specs.Program.{IsDue}

-- what is found of the record that stands in the input is found of the input
found_in : (script : Script) (input : List ℕ) (written : Record) (verdict : Verdict) → IsSpelledIn script input written → IsFoundOf script written verdict → IsVerdict script input verdict
found_in script input written verdict spelled found = record {
  whole = λ short. subst (λ (read : Result Record ℕ). IsFound script read verdict) (sym spelled.read) found;
  too_long = λ long. absurd (omega (arith, long, spelled.short));
}

-- `check` tells this verdict
verdict_due : (script : Script) (input : List ℕ) (verdict : Verdict) → parsed (script_part input) ≡ Ok script → IsVerdict script input verdict → IsCheckDue input (status_of verdict) (verdict_line verdict)
verdict_due script input (Lawful entries) accepted found = record { script = script; verdict = Lawful entries; accepted = accepted; found = found; answered = refl; text = refl }
verdict_due script input (Unlawful line rule) accepted found = record { script = script; verdict = Unlawful line rule; accepted = accepted; found = found; answered = refl; text = refl }

told : (script : Script) (input : List ℕ) (verdict : Verdict) (status : Status) → parsed (script_part input) ≡ Ok script → IsVerdict script input verdict → status ≡ status_of verdict → (line : List ℕ) × IsCheckDue input status line
told script input verdict status accepted found is = (verdict_line verdict, subst (λ (s : Status). IsCheckDue input s (verdict_line verdict)) (sym is) (verdict_due script input verdict accepted found))

pub as_check : (window : Window) (input output : List ℕ) (status : Status) → IsDue (Some window) input status output → (line : List ℕ) × IsCheckDue input status line
as_check window input output status (inl due) = told due.script input due.drawn.verdict status due.accepted (found_in due.script input due.written due.drawn.verdict due.spelled due.drawn.found) due.drawn.answered
as_check window input output status (inr (inl due)) = told due.script input (Unlawful due.line spelling_rule) status due.accepted due.found due.told.answered
as_check window input output status (inr (inr due)) = (output, subst (λ (s : Status). IsCheckDue input s output) (sym due.0) due.1)
