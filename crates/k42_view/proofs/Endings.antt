-- What the program's status says, from what was worked out and what was delivered.
use Rattle.std.proofs.Common.{◌≡◌, ℕ, List, inl, inr, refl, sym, subst, arith}
use Rattle.std.specs.Prelude.{Option, Some, None, IfSome}
use Rattle.k42_io.specs.Sink.{Grows}
use Rattle.k42_io.specs.Source.{LosesAtMost}
use Rattle.record_picture.specs.declared.window.Window.{Window}
use Rattle.k42_input.specs.Ends.{Ends, IsQuiet, Delivers}
use Rattle.k42_input.specs.declared.status.Status.{Status}
use Rattle.k42_input.specs.declared.status.Status.TheVariants as statuses
use Rattle.k42_input.proofs.ReadBytes.{told_bytes, told_told}
use Rattle.k42_view.specs.Program.{usage_line, IsDue, IsWorkedOut, Says, Completes}
use Rattle.k42_view.proofs.Dues.{due_completes, none_due}

module _ (ends : Ends) where
  work_done : (window : Window) (status : Status) (output : List ℕ) (worked : IsWorkedOut window ends.left ends.left_after status output) → IsQuiet ends → Grows ends.taken ends.taken_after output → Says (Some window) ends status
  work_done window statuses.Ok output worked quiet written =
      (record { bytes = worked.bytes; output = output; told = worked.told; due = worked.due; written = written; quiet = quiet }, worked.consumed refl)
  work_done window statuses.Unlawful output worked quiet written = record { bytes = worked.bytes; output = output; told = worked.told; due = worked.due; written = written; quiet = quiet }
  work_done window statuses.Refused output worked quiet written = record { bytes = worked.bytes; output = output; told = worked.told; due = worked.due; written = written; quiet = quiet }
  work_done window statuses.Usage output worked quiet written = none_due window worked.bytes statuses.Usage output (λ e. cc) (λ e. cc) (λ e. cc) worked.due
  work_done window statuses.ReadFault output worked quiet written = none_due window worked.bytes statuses.ReadFault output (λ e. cc) (λ e. cc) (λ e. cc) worked.due
  work_done window statuses.WriteFault output worked quiet written = none_due window worked.bytes statuses.WriteFault output (λ e. cc) (λ e. cc) (λ e. cc) worked.due
  work_done window statuses.Memory output worked quiet written = none_due window worked.bytes statuses.Memory output (λ e. cc) (λ e. cc) (λ e. cc) worked.due

  -- words that ask for nothing
  pub usage_said : (answered : Status) → ends.left_after ≡ ends.left → ends.read_faults_after ≡ ends.read_faults → Delivers ends.taken ends.taken_after ends.write_faults ends.write_faults_after usage_line statuses.Usage answered → Says None ends answered
  usage_said answered unread quiet (inl done) = subst (Says None ends) (sym done.0) (
    record {
      bytes = told_bytes ends.left;
      output = usage_line;
      told = told_told ends.left;
      due = (refl, refl);
      written = done.1;
      quiet = record { reads = quiet; writes = done.2 };
    },
    unread,
  )
  usage_said answered unread quiet (inr failed) = subst (Says None ends) (sym failed.0) (
    record {
      fault = failed.2;
      reads = quiet;
      bytes = told_bytes ends.left;
      status = statuses.Usage;
      output = usage_line;
      told = told_told ends.left;
      due = (refl, refl);
      written = failed.1;
    },
    unread,
  )

  -- a window for which an output was worked out
  pub work_said : (window : Window) (status : Status) (output : List ℕ) (answered : Status) → IsWorkedOut window ends.left ends.left_after status output → ends.read_faults_after ≡ ends.read_faults
      → Delivers ends.taken ends.taken_after ends.write_faults ends.write_faults_after output status answered → Says (Some window) ends answered
  work_said window status output answered worked quiet (inl done) =
      subst (Says (Some window) ends) (sym done.0) (work_done window status output worked (record { reads = quiet; writes = done.2 }) done.1)
  work_said window status output answered worked quiet (inr failed) = subst (Says (Some window) ends) (sym failed.0) (record {
    fault = failed.2;
    reads = quiet;
    bytes = worked.bytes;
    status = status;
    output = output;
    told = worked.told;
    due = worked.due;
    written = failed.1;
  })

  -- which status comes where no write failed
  pub work_completes : (window : Window) (status : Status) (output : List ℕ) (answered : Status) (bytes : List ℕ) → IsWorkedOut window ends.left ends.left_after status output → ends.left ≡ Some bytes → ends.write_faults_after ≡ ends.write_faults
      → Delivers ends.taken ends.taken_after ends.write_faults ends.write_faults_after output status answered → Completes (Some window) bytes answered
  work_completes window status output answered bytes worked left quiet (inl done) =
      let told : bytes ≡ worked.bytes = subst (λ (l : Option (List ℕ)). IfSome l (λ before. before ≡ worked.bytes)) left worked.told in
      subst (Completes (Some window) bytes) (sym done.0) (due_completes window bytes status output (subst (λ (b : List ℕ). IsDue (Some window) b status output) (sym told) worked.due))
  work_completes window status output answered bytes worked left quiet (inr failed) = absurd (omega (arith, failed.2, quiet))

-- what is not read is not lost
pub unread_loses : (limit : ℕ) (left : Option (List ℕ)) → LosesAtMost limit left left
unread_loses limit None = tt
unread_loses limit (Some bytes) = (0, omega arith, refl)

-- what is no window is none
pub is_none : (asked : Option Window) → ((window : Window) → asked ≡ Some window → ⊥) → asked ≡ None
is_none None other = refl
is_none (Some window) other = absurd (other window refl)
