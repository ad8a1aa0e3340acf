-- What is due does not depend on what stands past the limit, and which statuses go with it.
use Rattle.std.proofs.Common.{◌≡◌, ◌≢◌, ℕ, ◌<◌, List, length, take, inl, inr, refl, sym, ◌∙◌, subst, arith}
use Rattle.std.specs.Prelude.{Option, Some, None, Ok, ◌↔◌}
use Rattle.std.proofs.lemmas.List.{length-take, take_all}
use Rattle.k42_io.specs.Source.{TakesFirst}
use Rattle.script_text.specs.Language.{parsed}
use Rattle.script_text.specs.declared.script.Script.{Script}
use Rattle.record_text.specs.declared.record.Record.{Record}
use Rattle.record_picture.specs.declared.window.Window.{Window}
use Rattle.k42_input.specs.Dues.{CompletesCheck}
use Rattle.k42_input.specs.Separation.{script_part}
use Rattle.k42_input.specs.Verdicts.{input_limit, spelling_rule, IsSpelledIn, status_of}
use Rattle.k42_input.specs.declared.status.Status.{Status}
use Rattle.k42_input.specs.declared.status.Status.TheVariants as statuses
use Rattle.k42_input.specs.declared.verdict.Verdict.{Verdict}
use Rattle.k42_input.specs.declared.verdict.Verdict.TheVariants.{Lawful, Unlawful}
use Rattle.k42_input.proofs.CutInput.{script_part-take}
use Rattle.k42_input.proofs.CutVerdicts.{found_alike, found_cut, other_verdict}
use Rattle.k42_input.proofs.ReadBytes.{ended}
use Rattle.k42_view.specs.Program.{IsDue, IsWorkedOut}

-- the record that stands in what was read is that which stands in all
spelled_alike : (script : Script) (bytes : List ℕ) (written : Record) → IsSpelledIn script (take input_limit bytes) written → IsSpelledIn script bytes written
spelled_alike script bytes written spelled =
    let few : length bytes < input_limit = omega (arith, spelled.short, length-take input_limit bytes) in
    subst (λ (input : List ℕ). IsSpelledIn script input written) (take_all input_limit bytes (omega (arith, few))) spelled

-- and so the other way
spelled_cut : (script : Script) (bytes : List ℕ) (written : Record) → IsSpelledIn script bytes written → IsSpelledIn script (take input_limit bytes) written
spelled_cut script bytes written spelled =
    subst (λ (input : List ℕ). IsSpelledIn script input written) (sym (take_all input_limit bytes (omega (arith, spelled.short)))) spelled

due_alike : (window : Window) (bytes : List ℕ) (status : Status) (output : List ℕ) → IsDue (Some window) (take input_limit bytes) status output → IsDue (Some window) bytes status output
due_alike window bytes status output (inl due) = inl (record {
  script = due.script;
  written = due.written;
  accepted = sym (script_part-take bytes) ∙ due.accepted;
  spelled = spelled_alike due.script bytes due.written due.spelled;
  drawn = due.drawn;
})
due_alike window bytes status output (inr (inl due)) = inr (inl (record {
  script = due.script;
  line = due.line;
  accepted = sym (script_part-take bytes) ∙ due.accepted;
  found = found_alike due.script bytes (Unlawful due.line spelling_rule) due.found;
  told = due.told;
}))
due_alike window bytes status output (inr (inr due)) = inr (inr (
  due.0,
  record {
    fault = due.1.fault;
    refused = sym (script_part-take bytes) ∙ due.1.refused;
    text = due.1.text;
  },
))

due_cut : (window : Window) (bytes : List ℕ) (status : Status) (output : List ℕ) → IsDue (Some window) bytes status output → IsDue (Some window) (take input_limit bytes) status output
due_cut window bytes status output (inl due) = inl (record {
  script = due.script;
  written = due.written;
  accepted = script_part-take bytes ∙ due.accepted;
  spelled = spelled_cut due.script bytes due.written due.spelled;
  drawn = due.drawn;
})
due_cut window bytes status output (inr (inl due)) = inr (inl (record {
  script = due.script;
  line = due.line;
  accepted = script_part-take bytes ∙ due.accepted;
  found = found_cut due.script bytes (Unlawful due.line spelling_rule) due.found;
  told = due.told;
}))
due_cut window bytes status output (inr (inr due)) = inr (inr (
  due.0,
  record {
    fault = due.1.fault;
    refused = script_part-take bytes ∙ due.1.refused;
    text = due.1.text;
  },
))

-- what stands past the limit makes no difference
pub nothing_past_limit : (window : Window) (bytes output : List ℕ) (status : Status) → IsDue (Some window) (take input_limit bytes) status output ↔ IsDue (Some window) bytes status output
nothing_past_limit window bytes output status = (due_alike window bytes status output, due_cut window bytes status output)

refused_ok : {Y : Type 0} (status : Status) → status ≡ statuses.Refused → status ≡ statuses.Ok → Y
refused_ok status is ok = cc

unlawful_ok : {Y : Type 0} (status : Status) → status ≡ statuses.Unlawful → status ≡ statuses.Ok → Y
unlawful_ok status is ok = cc

-- the work is done only where there is no byte too many
short_where_ok : (window : Window) (input : List ℕ) (status : Status) (output : List ℕ) → IsDue (Some window) input status output → status ≡ statuses.Ok → length input < input_limit
short_where_ok window input status output (inl due) ok = due.spelled.short
short_where_ok window input status output (inr (inl due)) ok = unlawful_ok status due.told.answered ok
short_where_ok window input status output (inr (inr due)) ok = refused_ok status due.0 ok

-- what was read decides as all that was left would, and a lawful record was read whole
pub worked_out : (window : Window) (left left_after : Option (List ℕ)) (all : List ℕ) (status : Status) (output : List ℕ) → TakesFirst input_limit left left_after all → IsDue (Some window) all status output → IsWorkedOut window left left_after status output
worked_out window None left_after all status output takes due = record { bytes = all; told = tt; due = due; consumed = λ ok. tt }
worked_out window (Some bytes) left_after all status output takes due = record {
  bytes = bytes;
  told = refl;
  due = due_alike window bytes status output (subst (λ (input : List ℕ). IsDue (Some window) input status output) takes.0 due);
  consumed = λ ok. ended input_limit bytes all left_after takes.0 takes.1 (short_where_ok window all status output due ok);
}

drawn_status : (script : Script) (verdict : Verdict) (status : Status) → status ≡ status_of verdict → CompletesCheck (Ok script) status
drawn_status script (Lawful entries) status is = inl is
drawn_status script (Unlawful line rule) status is = inr (inl is)

-- which statuses go with a script that is accepted, and with one that is refused
pub due_completes : (window : Window) (input : List ℕ) (status : Status) (output : List ℕ) → IsDue (Some window) input status output → CompletesCheck (parsed (script_part input)) status
due_completes window input status output (inl due) = rw due.accepted (drawn_status due.script due.drawn.verdict status due.drawn.answered)
due_completes window input status output (inr (inl due)) = rw due.accepted (inr (inl due.told.answered))
due_completes window input status output (inr (inr due)) = rw due.1.refused (inl due.0)

-- nothing is due with another status
pub none_due : {Y : Type 0} (window : Window) (input : List ℕ) (status : Status) (output : List ℕ) → status ≢ statuses.Ok → status ≢ statuses.Unlawful → status ≢ statuses.Refused → IsDue (Some window) input status output → Y
none_due window input status output not_ok not_unlawful not_refused (inl due) = other_verdict due.drawn.verdict status due.drawn.answered not_ok not_unlawful
none_due window input status output not_ok not_unlawful not_refused (inr (inl due)) = absurd (not_unlawful due.told.answered)
none_due window input status output not_ok not_unlawful not_refused (inr (inr due)) = absurd (not_refused due.0)
