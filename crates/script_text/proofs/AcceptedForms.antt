-- When lines that declare something, and lines that begin or end an activity, are accepted.
use Rattle.std.proofs.Common.{◌≡◌, ◌≢◌, ℕ, ◌+◌, ◌<◌, ◌≤◌, ◌^◌, Bool, true, false, cond, not, ◌&&◌, List, [], ◌∷◌, length, map, refl, sym, arith}
use Rattle.std.specs.Prelude.{Some, None, nat_le, nat_lt, is_none}
use Rattle.std.specs.List.{AllByRecursion, list_any}
use Rattle.std.specs.Fmt.{decimal}
use Rattle.std.specs.Str.{bytes_eq}
use Rattle.std.proofs.lemmas.Bool.{and_parts, or_parts, or_from, not-true, not-false, both_ways, false_from_ne_true}
use Rattle.std.proofs.lemmas.Bool.Decides.{nat_tests}
use Rattle.std.proofs.lemmas.List.Elements.{All-from_recursion, recursion_from_All}
use Rattle.std.proofs.lemmas.Slice.Eq.{bytes_eq-Decides}
use Rattle.k42_kinds.specs.Words.{is_name}
use Rattle.k42_limits.specs.declared.TheConstants.{PROCESSORS}
use Rattle.script_text.specs.Accepted.{IsAcceptedWhere, MayDeclareProcessors, MayDeclareObject, MayDeclareWorker, MayBegin, MayEnd}
use Rattle.script_text.specs.Forms.{is_reserved, free_name}
use Rattle.script_text.specs.Language.{script_after}
use Rattle.script_text.specs.Numbers.{number_within, number_below}
use Rattle.script_text.specs.Offences.{object_names, worker_names}
use Rattle.script_text.specs.Sound.{IsFreeName}
use Rattle.script_text.specs.Spelled.{procs_tokens, object_tokens, worker_tokens, begin_tokens, end_tokens}
use Rattle.script_text.specs.declared.form.Form.TheVariants as forms
use Rattle.script_text.specs.declared.script.ObjectLine.{ObjectLine}
use Rattle.script_text.specs.declared.script.Script.{Script}
use Rattle.script_text.specs.declared.script.WorkerHead.{WorkerHead}
use Rattle.script_text.specs.declared.script.WorkerLines.{WorkerLines}
use Rattle.script_text.proofs.DecimalNumbers.{number_of-decimal}
use Rattle.script_text.proofs.OpenBlocks.{outside_from, outside_when, inside_from, inside_when}
use Rattle.script_text.proofs.SoundForms.{free_name-of_free}
use Rattle.script_text.proofs.SpelledLines.{accepted_where}
use Rattle.script_text.proofs.Spellings.{kind_named-word, layout_named-word, number_within-decimal, number_below-decimal}

-- what is there where a test holds
pub test_held : {X : Type 0} (test : Bool) (x : X) → is_none (cond test (Some x) None) ≡ false → test ≡ true
test_held true x e = refl
test_held false x e = cc

pub range_of_within : (low high n : ℕ) → n < 2 ^ 64 → is_none (number_within low high (decimal n)) ≡ false → (low ≤ n) × (n ≤ high)
range_of_within low high n small some =
    let spelled = (number_of-decimal (decimal n) n small).1 refl in
    let test = test_held (nat_le low n && nat_le n high) n (rw spelled at some) in
    (grind (arith, nat_tests, test), grind (arith, nat_tests, test))

pub range_of_below : (bound n : ℕ) → n < 2 ^ 64 → is_none (number_below bound (decimal n)) ≡ false → n < bound
range_of_below bound n small some =
    let spelled = (number_of-decimal (decimal n) n small).1 refl in
    let test = test_held (nat_lt n bound) n (rw spelled at some) in
    grind (arith, nat_tests, test)

declared_name : (word : List ℕ) → is_none (free_name word) ≡ false → IsFreeName word
declared_name word some =
    let parts = and_parts (not (is_reserved word)) (is_name word) (test_held (not (is_reserved word) && is_name word) word some) in
    record { formed = parts.1; free = not-true (is_reserved word) parts.0 }

-- a name is new where the test finds it at none of the others
module _ {X : Type 0} (name_of : X → List ℕ) (name : List ℕ) where
  new_when : (others : List X) → list_any (bytes_eq name) (map name_of others) ≡ false → AllByRecursion (λ other. name_of other ≢ name) others
  new_when [] none = tt
  new_when (other ∷ others) none =
      let parts = or_parts (bytes_eq name (name_of other)) (list_any (bytes_eq name) (map name_of others)) none in
      (λ same. both_ways (bytes_eq name (name_of other)) parts.0 ((bytes_eq-Decides name (name_of other)).1 (sym same)), new_when others parts.1)

  new_from : (others : List X) → AllByRecursion (λ other. name_of other ≢ name) others → list_any (bytes_eq name) (map name_of others) ≡ false
  new_from [] new = refl
  new_from (other ∷ others) new =
      or_from (bytes_eq name (name_of other)) (list_any (bytes_eq name) (map name_of others))
      (false_from_ne_true (bytes_eq name (name_of other)) (λ same. new.0 (sym ((bytes_eq-Decides name (name_of other)).0 same)))) (new_from others new.1)

pub accepted_procs : (before : List (List ℕ)) (procs : ℕ) → procs < 2 ^ 64 → IsAcceptedWhere before (procs_tokens procs) (MayDeclareProcessors (script_after before) procs)
accepted_procs before procs small = accepted_where before (procs_tokens procs) (forms.Procs (number_within 1 PROCESSORS (decimal procs))) (MayDeclareProcessors (script_after before) procs) refl refl (λ sound are. (
  λ passes. let range = range_of_within 1 PROCESSORS procs small passes.numbers in record { first = grind (arith, nat_tests, passes.known); some = range.0; few = range.1 },
  λ may. record {
    procs = grind (arith, nat_tests, may.first);
    known = grind (arith, nat_tests, may.first);
    numbers = rw (number_within-decimal 1 PROCESSORS procs may.some may.few small) refl;
    words = refl;
    new = refl;
    declared = refl;
    own_kind = refl;
    worker = refl;
    few = refl;
    in_place = refl;
  },
))

pub accepted_object : (before : List (List ℕ)) (object : ObjectLine) → IsAcceptedWhere before (object_tokens object) (MayDeclareObject (script_after before) object)
accepted_object before object = accepted_where before (object_tokens object) (forms.Object (free_name object.name) object.kind object.layout) (MayDeclareObject (script_after before) object) refl
    (rw (kind_named-word object.kind, layout_named-word object.layout) refl) (λ sound are. (
      λ passes.
          let name = declared_name object.name passes.words in
          let new : list_any (bytes_eq object.name) (object_names script) ≡ false = rw (free_name-of_free object.name name) at passes.new in
          record {
            processors = grind (arith, nat_tests, passes.procs);
            name = name;
            new = All-from_recursion (λ (other : ObjectLine). other.name ≢ object.name) script.objects (new_when (λ (other : ObjectLine). other.name) object.name script.objects new);
            room = grind (arith, nat_tests, passes.few);
          },
      λ may. record {
        procs = grind (arith, nat_tests, may.processors);
        known = refl;
        numbers = refl;
        words = rw (free_name-of_free object.name may.name) refl;
        new = rw (free_name-of_free object.name may.name)
            (new_from (λ (other : ObjectLine). other.name) object.name script.objects (recursion_from_All (λ (other : ObjectLine). other.name ≢ object.name) script.objects may.new));
        declared = refl;
        own_kind = refl;
        worker = refl;
        few = grind (arith, nat_tests, may.room);
        in_place = refl;
      },
    ))
  where
    script : Script
    script = script_after before

pub accepted_worker : (before : List (List ℕ)) (worker : WorkerHead) → worker.proc < 2 ^ 64 → IsAcceptedWhere before (worker_tokens worker) (MayDeclareWorker (script_after before) worker)
accepted_worker before worker small = accepted_where before (worker_tokens worker) (forms.Worker (free_name worker.name) (number_below (script_after before).procs (decimal worker.proc))) (MayDeclareWorker (script_after before) worker) refl refl
    (λ sound are. (
      λ passes.
          let name = declared_name worker.name passes.words in
          let new : list_any (bytes_eq worker.name) (worker_names script) ≡ false = rw (free_name-of_free worker.name name) at passes.new in
          record {
            processor = range_of_below script.procs worker.proc small passes.numbers;
            name = name;
            new = All-from_recursion (λ (other : WorkerLines). other.name ≢ worker.name) script.workers (new_when (λ (other : WorkerLines). other.name) worker.name script.workers new);
            room = grind (arith, nat_tests, passes.few);
            outside = outside_when (1 + length before) script sound passes.in_place;
          },
      λ may. record {
        procs = grind (arith, nat_tests, may.processor);
        known = refl;
        numbers = rw (number_below-decimal script.procs worker.proc may.processor small) refl;
        words = rw (free_name-of_free worker.name may.name) refl;
        new = rw (free_name-of_free worker.name may.name)
            (new_from (λ (other : WorkerLines). other.name) worker.name script.workers (recursion_from_All (λ (other : WorkerLines). other.name ≢ worker.name) script.workers may.new));
        declared = refl;
        own_kind = refl;
        worker = refl;
        few = grind (arith, nat_tests, may.room);
        in_place = outside_from script may.outside;
      },
    ))
  where
    script : Script
    script = script_after before

pub accepted_begin : (before : List (List ℕ)) → IsAcceptedWhere before begin_tokens (MayBegin (script_after before))
accepted_begin before = accepted_where before begin_tokens forms.Begin (MayBegin (script_after before)) refl refl (λ sound are. (
  λ passes. record {
    processors = grind (arith, nat_tests, passes.procs);
    worker = grind (arith, nat_tests, passes.worker);
    outside = outside_when (1 + length before) (script_after before) sound passes.in_place;
  },
  λ may. record {
    procs = grind (arith, nat_tests, may.processors);
    known = refl;
    numbers = refl;
    words = refl;
    new = refl;
    declared = refl;
    own_kind = refl;
    worker = grind (arith, nat_tests, may.worker);
    few = refl;
    in_place = outside_from (script_after before) may.outside;
  },
))

pub accepted_end : (before : List (List ℕ)) → IsAcceptedWhere before end_tokens (MayEnd (script_after before))
accepted_end before = accepted_where before end_tokens forms.End (MayEnd (script_after before)) refl refl (λ sound are. (
  λ passes. record {
    processors = grind (arith, nat_tests, passes.procs);
    worker = grind (arith, nat_tests, passes.worker);
    inside = inside_when (1 + length before) (script_after before) sound (not-false _ passes.in_place);
  },
  λ may. record {
    procs = grind (arith, nat_tests, may.processors);
    known = refl;
    numbers = refl;
    words = refl;
    new = refl;
    declared = refl;
    own_kind = refl;
    worker = grind (arith, nat_tests, may.worker);
    few = refl;
    in_place = rw (inside_from (1 + length before) (script_after before) sound may.inside) refl;
  },
))
