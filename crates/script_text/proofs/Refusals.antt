-- A line is refused for its form where one of ten tests holds.
use Rattle.std.proofs.Common.{◌≡◌, ℕ, Bool, true, false, cond, List, [], ◌∷◌, refl, sym, ap, ◌∙◌}
use Rattle.std.specs.Prelude.{Option, Some, None}
use Rattle.std.specs.List.{AllByRecursion}
use Rattle.std.proofs.lemmas.Option.{none-some}
use Rattle.script_text.specs.Forms.{form_of}
use Rattle.script_text.specs.Language.{is_refused_for, first_of, causes_of_form}
use Rattle.script_text.specs.Offences.{wants_procs, is_unknown, has_bad_number, has_bad_name, declares_again, asks_unknown_object, asks_other_kind, wants_worker, is_too_many, breaks_block}
use Rattle.script_text.specs.Reading.{refusal_said}
use Rattle.script_text.specs.declared.fault.ScriptCause.{ScriptCause}
use Rattle.script_text.specs.declared.fault.ScriptCause.TheVariants.{ProcsExpected}
use Rattle.script_text.specs.declared.form.Form.{Form}
use Rattle.script_text.specs.declared.script.Script.{Script}

none_cond : {A : Type 0} (b : Bool) (x : A) (other : Option A) → cond b (Some x) other ≡ None → (b ≡ false) × (other ≡ None)
none_cond true x other e = absurd (none-some x (sym e))
none_cond false x other e = (refl, e)

-- where the first is none, each of the tests fails
pub first_of-none : (test : ScriptCause → Bool) (causes : List ScriptCause) → first_of test causes ≡ None → AllByRecursion (λ cause. test cause ≡ false) causes
first_of-none test [] e = tt
first_of-none test (cause ∷ rest) e =
    let parts = none_cond (test cause) cause (first_of test rest) e in
    (parts.0, first_of-none test rest parts.1)

-- no test refuses a line of these tokens and this form
pub record Passes (script : Script) (tokens : List (List ℕ)) (form : Form) : Type 0 where
  pub procs : wants_procs script tokens ≡ false
  pub known : is_unknown script (Some form) ≡ false
  pub numbers : has_bad_number form ≡ false
  pub words : has_bad_name form ≡ false
  pub new : declares_again script form ≡ false
  pub declared : asks_unknown_object script form ≡ false
  pub own_kind : asks_other_kind script form ≡ false
  pub worker : wants_worker script form ≡ false
  pub few : is_too_many script form ≡ false
  pub in_place : breaks_block script form ≡ false

module _ (script : Script) (tokens : List (List ℕ)) (form : Form) (is : form_of script.procs tokens ≡ Some form) where
  refused_by : Option Form → Option ScriptCause
  refused_by said = first_of (is_refused_for script tokens said) (ProcsExpected ∷ causes_of_form)

  pub said_when : Passes script tokens form → refusal_said script tokens ≡ None
  unfolding refused_by
  said_when passes = ap refused_by is ∙ rw (passes.procs, passes.known, passes.numbers, passes.words, passes.new, passes.declared, passes.own_kind, passes.worker, passes.few, passes.in_place) refl

  pub passes_when : refusal_said script tokens ≡ None → Passes script tokens form
  unfolding refused_by
  passes_when none =
      let tests = first_of-none (is_refused_for script tokens (Some form)) (ProcsExpected ∷ causes_of_form) (sym (ap refused_by is) ∙ none) in
      record {
        procs = tests.0;
        known = tests.1.0;
        numbers = tests.1.1.0;
        words = tests.1.1.1.0;
        new = tests.1.1.1.1.0;
        declared = tests.1.1.1.1.1.0;
        own_kind = tests.1.1.1.1.1.1.0;
        worker = tests.1.1.1.1.1.1.1.0;
        few = tests.1.1.1.1.1.1.1.1.0;
        in_place = tests.1.1.1.1.1.1.1.1.1.0;
      }
