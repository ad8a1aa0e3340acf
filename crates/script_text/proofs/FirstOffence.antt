-- A script is read up to its first line that offends.
use Rattle.std.proofs.Common.{◌≡◌, ℕ, ◌+◌, List, [], ◌∷◌, ◌++◌, length, refl, sym, ap, ◌∙◌, subst}
use Rattle.std.specs.Prelude.{Some, None, Err}
use Rattle.std.proofs.lemmas.List.{append_assoc, append-nil}
use Rattle.script_text.specs.Lines.{lines_of}
use Rattle.script_text.specs.Language.{cause_of, NoneOffends, fault_at, last_number, script_after, script_at_end, read_on, parsed}
use Rattle.script_text.specs.declared.fault.ScriptCause.{ScriptCause}

-- none of the lines offends, read after these
NoneOffendsAfter : List (List ℕ) → List (List ℕ) → Type 0
NoneOffendsAfter start lines =
    (before : List (List ℕ)) (line : List ℕ) (after : List (List ℕ)) → lines ≡ before ++ line ∷ after
    → cause_of (start ++ before) line ≡ None

first_accepted : (start : List (List ℕ)) (line : List ℕ) (lines : List (List ℕ)) → NoneOffendsAfter start (line ∷ lines) → cause_of start line ≡ None
unfolding NoneOffendsAfter
first_accepted start line lines none = subst (λ (before : List (List ℕ)). cause_of before line ≡ None) (append-nil start) (none [] line lines refl)

rest_accepted : (start : List (List ℕ)) (line : List ℕ) (lines : List (List ℕ)) → NoneOffendsAfter start (line ∷ lines) → NoneOffendsAfter (start ++ line ∷ []) lines
unfolding NoneOffendsAfter
rest_accepted start line lines none before next later is =
    subst (λ (front : List (List ℕ)). cause_of front next ≡ None) (sym (append_assoc start (line ∷ []) before)) (none (line ∷ before) next later (ap (λ (more : List (List ℕ)). line ∷ more) is))

-- lines that do not offend are read
read_on-through : (start lines after : List (List ℕ)) → NoneOffendsAfter start lines → read_on start (lines ++ after) ≡ read_on (start ++ lines) after
read_on-through start [] after none = ap (λ (before : List (List ℕ)). read_on before after) (sym (append-nil start))
read_on-through start (line ∷ lines) after none =
    rw (first_accepted start line lines none) (read_on-through (start ++ line ∷ []) lines after (rest_accepted start line lines none)) ∙ ap (λ (front : List (List ℕ)). read_on front after) (append_assoc start (line ∷ []) lines)

-- What holds before the first line, and stays with each line that does not offend, holds behind
-- lines of which none offends.
module _ (P : List (List ℕ) → Type 0) (keeps : (before : List (List ℕ)) (line : List ℕ) → P before → cause_of before line ≡ None → P (before ++ line ∷ [])) where
  holds_after : (start lines : List (List ℕ)) → P start → NoneOffendsAfter start lines → P (start ++ lines)
  holds_after start [] holds none = subst P (sym (append-nil start)) holds
  holds_after start (line ∷ lines) holds none =
      subst P (append_assoc start (line ∷ []) lines) (holds_after (start ++ line ∷ []) lines (keeps start line holds (first_accepted start line lines none)) (rest_accepted start line lines none))

  pub holds_behind : (lines : List (List ℕ)) → P [] → NoneOffends lines → P lines
  unfolding NoneOffendsAfter
  holds_behind lines holds none = holds_after [] lines holds none

-- the first line that offends decides
pub refused_at_first : (bytes line : List ℕ) (before after : List (List ℕ)) (cause : ScriptCause) → lines_of bytes ≡ before ++ line ∷ after → NoneOffends before → cause_of before line ≡ Some cause
    → parsed bytes ≡ Err (fault_at (length before + 1) cause)
unfolding NoneOffendsAfter
refused_at_first bytes line before after cause are none offending =
    ap (read_on []) are ∙ read_on-through [] before (line ∷ after) none ∙ rw offending refl

-- where no line offends, the end of the text decides
pub decided_at_end : (bytes : List ℕ) → NoneOffends (lines_of bytes) → parsed bytes ≡ script_at_end (last_number (lines_of bytes)) (script_after (lines_of bytes))
unfolding NoneOffendsAfter
decided_at_end bytes none =
    ap (read_on []) (sym (append-nil (lines_of bytes))) ∙ read_on-through [] (lines_of bytes) [] none
