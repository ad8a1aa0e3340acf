-- What the program's status says, from what was worked out and what was delivered.
use Rattle.std.proofs.Common.{◌≡◌, ◌≢◌, ℕ, true, false, List, take, inl, inr, refl, sym, ap, ◌∙◌, subst, arith}
use Rattle.std.specs.Prelude.{Option, Some, None, IfSome, Result, Ok, Err, is_some, ◌↔◌}
use Rattle.k42_io.specs.Sink.{Grows}
use Rattle.k42_io.specs.Source.{TakesFirst}
use Rattle.script_text.specs.Language.{parsed, byte_limit}
use Rattle.script_text.specs.declared.fault.ScriptFault.{ScriptFault}
use Rattle.script_text.specs.declared.script.Script.{Script}
use Rattle.script_text.proofs.Truncated.{parsed-take}
use Rattle.k42_input.specs.Separation.{script_part}
use Rattle.k42_input.specs.Verdicts.{input_limit}
use Rattle.k42_input.specs.Dues.{IsCheckDue}
use Rattle.k42_input.specs.Ends.{Ends, IsQuiet, Delivers}
use Rattle.k42_input.proofs.CutVerdicts.{check_alike, check_cut, completes_check, check_memory, other_verdict}
use Rattle.k42_input.proofs.ReadBytes.{ended, told_bytes, told_told}
use Rattle.co_system.specs.Systems.{HistorySeen}
use Rattle.k42_cli.specs.Program.{usage_line, IsRunDue, IsDue, HasRead, Says, keeps, CompletesRun, Completes}
use Rattle.k42_cli.specs.Words.{version_of, reads}
use Rattle.k42_cli.specs.Outputs.{limit_of, IsShort, IsRecorded, IsWorkedOut, kept_after}
use Rattle.k42_cli.specs.declared.words.Way.{Way}
use Rattle.k42_cli.specs.declared.words.Form.{Form}
use Rattle.k42_cli.specs.declared.words.Form.TheVariants.{Run, Check, Load}
use Rattle.k42_cli.specs.declared.output.Output.{Output}
use Rattle.k42_input.specs.declared.status.Status.{Status}
use Rattle.k42_input.specs.declared.status.Status.TheVariants as statuses

-- The same is due for bytes of which the first were read, and what was read decides.
due_alike : (version : ℕ) (bytes others : List ℕ) (status : Status) (output : List ℕ) (kept : Option HistorySeen) → parsed bytes ≡ parsed others → IsRunDue version bytes status output kept → IsRunDue version others status output kept
due_alike version bytes others statuses.Ok output kept same due = record { script = due.script; history = due.history; accepted = sym same ∙ due.accepted; ran = due.ran; text = due.text; held = due.held }
due_alike version bytes others statuses.Refused output kept same due = (record { fault = due.0.fault; refused = sym same ∙ due.0.refused; text = due.0.text }, due.1)
due_alike version bytes others statuses.Unlawful output kept same due = absurd due
due_alike version bytes others statuses.Usage output kept same due = absurd due
due_alike version bytes others statuses.ReadFault output kept same due = absurd due
due_alike version bytes others statuses.WriteFault output kept same due = absurd due
due_alike version bytes others statuses.Memory output kept same due = absurd due

due_cut : (form : Form) (bytes : List ℕ) (status : Status) (output : List ℕ) (kept : Option HistorySeen) → IsDue (Some form) bytes status output kept → IsDue (Some form) (take (limit_of form) bytes) status output kept
due_cut (Run way) bytes status output kept due = due_alike (version_of way) bytes (take byte_limit bytes) status output kept (sym (parsed-take bytes)) due
due_cut Check bytes status output kept due = (check_cut bytes status output due.0, due.1)
due_cut (Load steps) bytes status output kept due = due

due_whole : (form : Form) (all bytes : List ℕ) (status : Status) (output : List ℕ) (kept : Option HistorySeen) → all ≡ take (limit_of form) bytes → IsDue (Some form) all status output kept → IsDue (Some form) bytes status output kept
due_whole (Run way) all bytes status output kept is due = due_alike (version_of way) all bytes status output kept (ap parsed is ∙ parsed-take bytes) due
due_whole Check all bytes status output kept is due = (check_alike bytes status output (subst (λ (input : List ℕ). IsCheckDue input status output) is due.0), due.1)
due_whole (Load steps) all bytes status output kept is due = due

-- what stands past the limit makes no difference
pub nothing_past_limit : (form : Form) (bytes output : List ℕ) (status : Status) (kept : Option HistorySeen) → IsDue (Some form) (take (limit_of form) bytes) status output kept ↔ IsDue (Some form) bytes status output kept
nothing_past_limit form bytes output status kept = (due_whole form (take (limit_of form) bytes) bytes status output kept refl, due_cut form bytes status output kept)

has_read : (form : Form) (left left_after : Option (List ℕ)) (all : List ℕ) → TakesFirst (limit_of form) left left_after all → IsShort form all → (reads (Some form) ≡ false → left_after ≡ left) → HasRead form left left_after
has_read (Load steps) left left_after all takes short unread = unread refl
has_read (Run way) None left_after all takes short unread = tt
has_read (Run way) (Some bytes) left_after all takes short unread = ended byte_limit bytes all left_after takes.0 takes.1 short
has_read Check None left_after all takes short unread = tt
has_read Check (Some bytes) left_after all takes short unread = ended input_limit bytes all left_after takes.0 takes.1 short

-- what was read decides as all that was left would, and where the work was done it was read whole
pub worked_out : (form : Form) (left left_after : Option (List ℕ)) (all : List ℕ) (status : Status) (output : List ℕ) (kept : Option HistorySeen) → TakesFirst (limit_of form) left left_after all → (reads (Some form) ≡ false → left_after ≡ left)
    → IsDue (Some form) all status output kept → (status ≡ statuses.Ok → IsShort form all) → IsWorkedOut form left left_after status output kept
worked_out form None left_after all status output kept takes unread due short = record { bytes = all; told = tt; due = due; consumed = λ accepted. has_read form None left_after all takes (short accepted) unread }
worked_out form (Some bytes) left_after all status output kept takes unread due short = record {
  bytes = bytes;
  told = refl;
  due = due_whole form all bytes status output kept takes.0 due;
  consumed = λ accepted. has_read form (Some bytes) left_after all takes (short accepted) unread;
}

completes_run : (version : ℕ) (bytes : List ℕ) (status : Status) (output : List ℕ) (kept : Option HistorySeen) → IsRunDue version bytes status output kept → CompletesRun (parsed bytes) status
completes_run version bytes statuses.Ok output kept due = rw due.accepted (inl refl)
completes_run version bytes statuses.Refused output kept due = rw due.0.refused (inl refl)
completes_run version bytes statuses.Unlawful output kept due = absurd due
completes_run version bytes statuses.Usage output kept due = absurd due
completes_run version bytes statuses.ReadFault output kept due = absurd due
completes_run version bytes statuses.WriteFault output kept due = absurd due
completes_run version bytes statuses.Memory output kept due = absurd due

completes_by : (form : Form) (bytes : List ℕ) (status : Status) (output : List ℕ) (kept : Option HistorySeen) → IsDue (Some form) bytes status output kept → Completes (Some form) bytes status
completes_by (Run way) bytes status output kept due = completes_run (version_of way) bytes status output kept due
completes_by Check bytes status output kept due = completes_check bytes status output due.0
completes_by (Load steps) bytes status output kept due = inl due.0

-- the bytes that are told are those for which the output is due
due_told : (form : Form) (left : Option (List ℕ)) (bytes others : List ℕ) (status : Status) (output : List ℕ) (history : Option HistorySeen) → (reads (Some form) ≡ true → left ≡ Some bytes) → IfSome left (λ before. before ≡ others)
    → IsDue (Some form) others status output history → IsDue (Some form) bytes status output history
due_told form left bytes others status output history told other due = by form told due
  where
    same : left ≡ Some bytes → bytes ≡ others
    same e = subst (λ (l : Option (List ℕ)). IfSome l (λ before. before ≡ others)) e other

    by : (f : Form) → (reads (Some f) ≡ true → left ≡ Some bytes) → IsDue (Some f) others status output history → IsDue (Some f) bytes status output history
    by (Run way) told due = subst (λ (b : List ℕ). IsDue (Some (Run way)) b status output history) (sym (same (told refl))) due
    by Check told due = subst (λ (b : List ℕ). IsDue (Some Check) b status output history) (sym (same (told refl))) due
    by (Load steps) told due = due

-- a history is due exactly with a run that was done, and else none
kept_run : (version : ℕ) (bytes : List ℕ) (status : Status) (output : List ℕ) (history : Option HistorySeen) → IsRunDue version bytes status output history → history ≡ kept_after status history None
kept_run version bytes statuses.Ok output history due = refl
kept_run version bytes statuses.Refused output history due = due.1
kept_run version bytes statuses.Unlawful output history due = absurd due
kept_run version bytes statuses.Usage output history due = absurd due
kept_run version bytes statuses.ReadFault output history due = absurd due
kept_run version bytes statuses.WriteFault output history due = absurd due
kept_run version bytes statuses.Memory output history due = absurd due

kept_none : (status : Status) (history : Option HistorySeen) → history ≡ None → history ≡ kept_after status history None
kept_none statuses.Ok history none = refl
kept_none statuses.Refused history none = none
kept_none statuses.Unlawful history none = none
kept_none statuses.Usage history none = none
kept_none statuses.ReadFault history none = none
kept_none statuses.WriteFault history none = none
kept_none statuses.Memory history none = none

kept_is : (form : Form) (bytes : List ℕ) (status : Status) (output : List ℕ) (history : Option HistorySeen) → IsDue (Some form) bytes status output history → history ≡ kept_after status history None
kept_is (Run way) bytes status output history due = kept_run (version_of way) bytes status output history due
kept_is Check bytes status output history due = kept_none status history due.1
kept_is (Load steps) bytes status output history due = sym (ap (λ (s : Status). kept_after s history None) due.0)

-- whether a history is kept
keeps_run : (way : Way) (bytes : List ℕ) (status : Status) (output : List ℕ) (history : Option HistorySeen) → IsRunDue (version_of way) bytes status output history → is_some (kept_after status history None) ≡ keeps (Some (Run way)) status
keeps_run way bytes statuses.Ok output history due = ap is_some due.held
keeps_run way bytes statuses.Refused output history due = refl
keeps_run way bytes statuses.Unlawful output history due = absurd due
keeps_run way bytes statuses.Usage output history due = absurd due
keeps_run way bytes statuses.ReadFault output history due = absurd due
keeps_run way bytes statuses.WriteFault output history due = absurd due
keeps_run way bytes statuses.Memory output history due = absurd due

keeps_check : (status : Status) (history : Option HistorySeen) → history ≡ None → is_some (kept_after status history None) ≡ keeps (Some Check) status
keeps_check statuses.Ok history none = ap is_some none
keeps_check statuses.Refused history none = refl
keeps_check statuses.Unlawful history none = refl
keeps_check statuses.Usage history none = refl
keeps_check statuses.ReadFault history none = refl
keeps_check statuses.WriteFault history none = refl
keeps_check statuses.Memory history none = refl

keeps_done : (form : Form) (bytes : List ℕ) (status : Status) (output : List ℕ) (history : Option HistorySeen) → IsDue (Some form) bytes status output history → is_some (kept_after status history None) ≡ keeps (Some form) status
keeps_done (Run way) bytes status output history due = keeps_run way bytes status output history due
keeps_done Check bytes status output history due = keeps_check status history due.1
keeps_done (Load steps) bytes status output history due = subst (λ (s : Status). is_some (kept_after s history None) ≡ keeps (Some (Load steps)) s) (sym due.0) (ap is_some due.1.held)

-- after a write fault it is not
keeps_fault : (form : Form) → false ≡ keeps (Some form) statuses.WriteFault
keeps_fault (Run way) = refl
keeps_fault Check = refl
keeps_fault (Load steps) = refl

-- nothing is due for a form with one of the other statuses
none_due : {Y : Type 0} (form : Form) (bytes : List ℕ) (status : Status) (output : List ℕ) (kept : Option HistorySeen) → status ≢ statuses.Ok → status ≢ statuses.Unlawful → status ≢ statuses.Refused → IsDue (Some form) bytes status output kept → Y
none_due (Run way) bytes statuses.Ok output kept a b c due = absurd (a refl)
none_due (Run way) bytes statuses.Refused output kept a b c due = absurd (c refl)
none_due (Run way) bytes statuses.Unlawful output kept a b c due = absurd due
none_due (Run way) bytes statuses.Usage output kept a b c due = absurd due
none_due (Run way) bytes statuses.ReadFault output kept a b c due = absurd due
none_due (Run way) bytes statuses.WriteFault output kept a b c due = absurd due
none_due (Run way) bytes statuses.Memory output kept a b c due = absurd due
none_due Check bytes statuses.Ok output kept a b c due = absurd (a refl)
none_due Check bytes statuses.Refused output kept a b c due = absurd (c refl)
none_due Check bytes statuses.Unlawful output kept a b c due = absurd (b refl)
none_due Check bytes statuses.Usage output kept a b c due = other_verdict due.0.verdict statuses.Usage due.0.answered a b
none_due Check bytes statuses.ReadFault output kept a b c due = other_verdict due.0.verdict statuses.ReadFault due.0.answered a b
none_due Check bytes statuses.WriteFault output kept a b c due = other_verdict due.0.verdict statuses.WriteFault due.0.answered a b
none_due Check bytes statuses.Memory output kept a b c due = other_verdict due.0.verdict statuses.Memory due.0.answered a b
none_due (Load steps) bytes status output kept a b c due = absurd (a due.0)

module _ (ends : Ends) (kept : Option HistorySeen) where
  work_done : (form : Form) (status : Status) (output : List ℕ) (history : Option HistorySeen) (worked : IsWorkedOut form ends.left ends.left_after status output history) → IsQuiet ends → Grows ends.taken ends.taken_after output → history ≡ kept → IsDue (Some form) worked.bytes status output kept → Says (Some form) ends kept status
  work_done form statuses.Ok output history worked quiet written same due =
      (record { bytes = worked.bytes; output = output; told = worked.told; due = due; written = written; quiet = quiet }, worked.consumed refl)
  work_done form statuses.Refused output history worked quiet written same due = record { bytes = worked.bytes; output = output; told = worked.told; due = due; written = written; quiet = quiet }
  work_done form statuses.Unlawful output history worked quiet written same due = record { bytes = worked.bytes; output = output; told = worked.told; due = due; written = written; quiet = quiet }
  work_done form statuses.Usage output history worked quiet written same due = none_due form worked.bytes statuses.Usage output kept (λ e. cc) (λ e. cc) (λ e. cc) due
  work_done form statuses.ReadFault output history worked quiet written same due = none_due form worked.bytes statuses.ReadFault output kept (λ e. cc) (λ e. cc) (λ e. cc) due
  work_done form statuses.WriteFault output history worked quiet written same due = none_due form worked.bytes statuses.WriteFault output kept (λ e. cc) (λ e. cc) (λ e. cc) due
  work_done form statuses.Memory output history worked quiet written same due = none_due form worked.bytes statuses.Memory output kept (λ e. cc) (λ e. cc) (λ e. cc) due

  -- words that are no form
  pub usage_said : (answered : Status) → kept ≡ None → ends.left_after ≡ ends.left → ends.read_faults_after ≡ ends.read_faults → Delivers ends.taken ends.taken_after ends.write_faults ends.write_faults_after usage_line statuses.Usage answered → Says None ends kept answered
  usage_said answered unkept unread quiet (inl done) = subst (Says None ends kept) (sym done.0) (
    record {
      bytes = told_bytes ends.left;
      output = usage_line;
      told = told_told ends.left;
      due = (refl, refl, unkept);
      written = done.1;
      quiet = record { reads = quiet; writes = done.2 };
    },
    unread,
  )
  usage_said answered unkept unread quiet (inr failed) = subst (Says None ends kept) (sym failed.0) (
    record {
      fault = failed.2;
      reads = quiet;
      bytes = told_bytes ends.left;
      status = statuses.Usage;
      output = usage_line;
      history = None;
      told = told_told ends.left;
      due = (refl, refl, refl);
      written = failed.1;
    },
    unread,
  )

  -- a form for which an output was worked out
  pub work_said : (form : Form) (status : Status) (output : List ℕ) (history : Option HistorySeen) (answered : Status) → IsWorkedOut form ends.left ends.left_after status output history → kept ≡ kept_after answered history None → ends.read_faults_after ≡ ends.read_faults
      → Delivers ends.taken ends.taken_after ends.write_faults ends.write_faults_after output status answered → Says (Some form) ends kept answered
  work_said form status output history answered worked is quiet (inl done) =
      let same : history ≡ kept = kept_is form worked.bytes status output history worked.due ∙ ap (λ (s : Status). kept_after s history None) (sym done.0) ∙ sym is in
      subst (Says (Some form) ends kept) (sym done.0) (work_done form status output history worked (record { reads = quiet; writes = done.2 }) done.1 same (subst (IsDue (Some form) worked.bytes status output) same worked.due))
  work_said form status output history answered worked is quiet (inr failed) = subst (Says (Some form) ends kept) (sym failed.0) (record {
    fault = failed.2;
    reads = quiet;
    bytes = worked.bytes;
    status = status;
    output = output;
    history = history;
    told = worked.told;
    due = worked.due;
    written = failed.1;
  })

module _ (ends : Ends) where
  -- whether a history is kept
  pub work_keeps : (form : Form) (status : Status) (output : List ℕ) (history : Option HistorySeen) (answered : Status) → IsWorkedOut form ends.left ends.left_after status output history
      → Delivers ends.taken ends.taken_after ends.write_faults ends.write_faults_after output status answered → is_some (kept_after answered history None) ≡ keeps (Some form) answered
  work_keeps form status output history answered worked (inl done) = subst (λ (s : Status). is_some (kept_after s history None) ≡ keeps (Some form) s) (sym done.0) (keeps_done form worked.bytes status output history worked.due)
  work_keeps form status output history answered worked (inr failed) = subst (λ (s : Status). is_some (kept_after s history None) ≡ keeps (Some form) s) (sym failed.0) (keeps_fault form)

  -- which status comes where no write failed
  pub work_completes : (form : Form) (status : Status) (output : List ℕ) (history : Option HistorySeen) (answered : Status) (bytes : List ℕ) → IsWorkedOut form ends.left ends.left_after status output history → (reads (Some form) ≡ true → ends.left ≡ Some bytes) → ends.write_faults_after ≡ ends.write_faults
      → Delivers ends.taken ends.taken_after ends.write_faults ends.write_faults_after output status answered → Completes (Some form) bytes answered
  work_completes form status output history answered bytes worked told quiet (inl done) =
      subst (Completes (Some form) bytes) (sym done.0) (completes_by form bytes status output history (due_told form ends.left bytes worked.bytes status output history told worked.told worked.due))
  work_completes form status output history answered bytes worked told quiet (inr failed) = absurd (omega (arith, failed.2, quiet))

-- a record that was made is due for its script
pub recorded_due : (version : ℕ) (bytes : List ℕ) (script : Script) (output : Output) → parsed bytes ≡ Ok script → IsRecorded script version output → IsRunDue version bytes output.status output.text.items output.history
recorded_due version bytes script output accepted made = rw made.status (record { script = script; history = made.history; accepted = accepted; ran = made.ran; text = made.text; held = made.held })

-- want of memory may come whatever the bytes are
run_memory : (outcome : Result Script ScriptFault) → CompletesRun outcome statuses.Memory
run_memory (Ok script) = inr refl
run_memory (Err fault) = inr refl

pub memory_completes : (form : Form) (bytes : List ℕ) → Completes (Some form) bytes statuses.Memory
memory_completes (Run way) bytes = run_memory (parsed bytes)
memory_completes Check bytes = check_memory (parsed (script_part bytes))
memory_completes (Load steps) bytes = inr refl

-- what is no form is none
pub is_none : (asked : Option Form) → ((form : Form) → asked ≡ Some form → ⊥) → asked ≡ None
is_none None other = refl
is_none (Some form) other = absurd (other form refl)
