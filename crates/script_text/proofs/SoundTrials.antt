-- A generated script is sound.
use Rattle.std.proofs.Common.{◌≡◌, ℕ, zero, suc, ◌+◌, ◌/◌, ◌%◌, ◌<◌, ◌≤◌, Bool, true, false, cond, not, ◌&&◌, List, [], ◌∷◌, ◌++◌, length, eqb, refl, sym, ap, ◌∙◌, arith}
use Rattle.std.specs.Prelude.{Some, codes, slice_get}
use Rattle.std.specs.List.{AllByRecursion, list_any}
use Rattle.std.specs.Fmt.{decimal}
use Rattle.std.specs.Str.{bytes_eq}
use Rattle.std.proofs.lemmas.Bool.{and_parts, not-true}
use Rattle.std.proofs.lemmas.Fmt.{decimal_digit}
use Rattle.std.proofs.lemmas.Option.{same_Some}
use Rattle.std.proofs.lemmas.List.Elements.{All-from_recursion}
use Rattle.k42_kinds.specs.declared.operation.KindName.TheVariants.{Counter, Directory, Pages}
use Rattle.script_text.specs.Generated.{hits, names, cache, value_at, layout_at, swap_line, call_line, step_line, steps_of, step_items, worker_line, worker_lines, generated}
use Rattle.script_text.specs.Lawful.{call_lines}
use Rattle.script_text.specs.Sound.{IsSoundLine, IsSoundWorker, IsFreeName, AreDistinct, BlocksMatch, IsSound}
use Rattle.script_text.specs.declared.script.CallLine.{CallLine}
use Rattle.script_text.proofs.GeneratedSteps.{few_steps}
use Rattle.script_text.proofs.SoundForms.{number_has_word}
use Rattle.script_text.proofs.SoundLists.{absent}

-- what holds of both holds of the one that is chosen
either : {X : Type 0} (P : X → Type 0) (test : Bool) (x y : X) → P x → P y → P (cond test x y)
either P true x y of_x of_y = of_x
either P false x y of_x of_y = of_y

sound_swap : (n number k object : ℕ) → object < 3 → IsSoundLine (generated n) (swap_line number k object)
sound_swap n number k zero declared = record { kind = Counter; declared = refl; asked = number_has_word (layout_at k) }
sound_swap n number k (suc zero) declared = record { kind = Directory; declared = refl; asked = number_has_word (layout_at k) }
sound_swap n number k (suc (suc zero)) declared = record { kind = Pages; declared = refl; asked = number_has_word (layout_at k) }
sound_swap n number k (suc (suc (suc object))) declared = absurd (omega (arith, declared))

sound_call : (n number k value : ℕ) → IsSoundLine (generated n) (call_line number k value)
sound_call n number k value =
    either (IsSoundLine (generated n)) (eqb (k / 4 % 3) 0) _ _ (record { kind = Counter; declared = refl; asked = (refl, tt) })
    (either (IsSoundLine (generated n)) (eqb (k / 4 % 3) 1) _ _ (record { kind = Directory; declared = refl; asked = (refl, tt) })
    (record { kind = Pages; declared = refl; asked = (refl, omega arith) }))

sound_step : (n number k value : ℕ) → IsSoundLine (generated n) (step_line number k value)
sound_step n number k value =
    either (IsSoundLine (generated n)) (eqb (k % 1000) 0) _ _ (sound_swap n number k hits (omega arith))
    (either (IsSoundLine (generated n)) (eqb (k % 1000) 252) _ _ (sound_swap n number k cache (omega arith))
    (either (IsSoundLine (generated n)) (eqb (k % 1000) 500) _ _ (sound_swap n number k names (omega arith)) (sound_call n number k value)))

sound_steps : (n number : ℕ) (steps : List ℕ) → AllByRecursion (IsSoundLine (generated n)) (call_lines (step_items n number steps))
sound_steps n number [] = tt
sound_steps n number (k ∷ steps) = (sound_step n number k (value_at n k), sound_steps n (number + 1) steps)

-- each step has the number of its line
numbered_call : (number k value : ℕ) → (call_line number k value).line ≡ number
numbered_call number k value =
    either (λ (asked : CallLine). asked.line ≡ number) (eqb (k / 4 % 3) 0) _ _ refl (either (λ (asked : CallLine). asked.line ≡ number) (eqb (k / 4 % 3) 1) _ _ refl refl)

numbered_step : (number k value : ℕ) → (step_line number k value).line ≡ number
numbered_step number k value =
    either (λ (asked : CallLine). asked.line ≡ number) (eqb (k % 1000) 0) _ _ refl
    (either (λ (asked : CallLine). asked.line ≡ number) (eqb (k % 1000) 252) _ _ refl
    (either (λ (asked : CallLine). asked.line ≡ number) (eqb (k % 1000) 500) _ _ refl (numbered_call number k value)))

numbered_at : (n number : ℕ) (steps : List ℕ) (i : ℕ) (asked : CallLine) → slice_get (call_lines (step_items n number steps)) i ≡ Some asked → asked.line ≡ number + i
numbered_at n number [] i asked at = cc
numbered_at n number (k ∷ steps) zero asked at =
    omega (arith, ap (λ line. line.line) (same_Some (step_line number k (value_at n k)) asked at), numbered_step number k (value_at n k))
numbered_at n number (k ∷ steps) (suc i) asked at = omega (arith, numbered_at n (number + 1) steps i asked at)

length-calls : (n number : ℕ) (steps : List ℕ) → length (call_lines (step_items n number steps)) ≡ length steps
length-calls n number [] = refl
length-calls n number (k ∷ steps) = ap suc (length-calls n (number + 1) steps)

outside_blocks : (n number : ℕ) (steps : List ℕ) → BlocksMatch false (step_items n number steps) false
outside_blocks n number [] = refl
outside_blocks n number (k ∷ steps) = (λ inside. cc, outside_blocks n (number + 1) steps)

sound_worker : (n number worker : ℕ) → worker < 4 → IsSoundWorker (generated n) (worker_lines n number worker)
sound_worker n number worker known = record {
  processor = known;
  lines = All-from_recursion (IsSoundLine (generated n)) (call_lines (step_items n (number + 1) (steps_of worker n))) (sound_steps n (number + 1) (steps_of worker n));
  rising = λ i j earlier later before at_i at_j.
      omega (arith, before, numbered_at n (number + 1) (steps_of worker n) i earlier at_i, numbered_at n (number + 1) (steps_of worker n) j later at_j);
  blocks = outside_blocks n (number + 1) (steps_of worker n);
}

distinct_none : AreDistinct []
distinct_none = λ i j name at_i at_j. cc

distinct_more : (first : List ℕ) (others : List (List ℕ)) → list_any (bytes_eq first) others ≡ false → AreDistinct others → AreDistinct (first ∷ others)
distinct_more first others none distinct zero zero name at_i at_j = refl
distinct_more first others none distinct zero (suc j) name at_i at_j = absurd (absent others first j none (at_j ∙ sym at_i))
distinct_more first others none distinct (suc i) zero name at_i at_j = absurd (absent others first i none (at_i ∙ sym at_j))
distinct_more first others none distinct (suc i) (suc j) name at_i at_j = ap suc (distinct i j name at_i at_j)

all_differ : List (List ℕ) → Bool
all_differ [] = true
all_differ (name ∷ others) = not (list_any (bytes_eq name) others) && all_differ others

distinct-differ : (words : List (List ℕ)) → all_differ words ≡ true → AreDistinct words
unfolding all_differ
distinct-differ [] differ = distinct_none
distinct-differ (name ∷ others) differ =
    let parts = and_parts (not (list_any (bytes_eq name) others)) (all_differ others) differ in
    distinct_more name others (not-true (list_any (bytes_eq name) others) parts.0) (distinct-differ others parts.1)

object_names_differ : AreDistinct (codes "hits" ∷ codes "names" ∷ codes "cache" ∷ [])
unfolding all_differ
object_names_differ = distinct-differ (codes "hits" ∷ codes "names" ∷ codes "cache" ∷ []) refl

worker_names_differ : AreDistinct (codes "w0" ∷ codes "w1" ∷ codes "w2" ∷ codes "w3" ∷ [])
unfolding all_differ
worker_names_differ = distinct-differ (codes "w0" ∷ codes "w1" ∷ codes "w2" ∷ codes "w3" ∷ []) refl

worker_name : (worker : ℕ) → worker < 10 → codes "w" ++ decimal worker ≡ 119 ∷ (48 + worker) ∷ []
worker_name worker small = ap (λ digits. codes "w" ++ digits) (decimal_digit worker small)

four_words : (a b c d : List ℕ) → a ≡ codes "w0" → b ≡ codes "w1" → c ≡ codes "w2" → d ≡ codes "w3" → AreDistinct (a ∷ b ∷ c ∷ d ∷ [])
four_words a b c d is_a is_b is_c is_d = rw (is_a, is_b, is_c, is_d) worker_names_differ

free_as : (word name : List ℕ) → word ≡ name → IsFreeName name → IsFreeName word
free_as word name same free = rw same free

-- it can be run
pub sound_generated : (n : ℕ) → n ≤ 10000 → IsSound (generated n)
sound_generated n small = record {
  some_processor = omega arith;
  processors = omega arith;
  objects = omega arith;
  callers = omega arith;
  workers = All-from_recursion (IsSoundWorker (generated n)) (generated n).workers
      (sound_worker n (worker_line n 0) 0 (omega arith), (sound_worker n (worker_line n 1) 1 (omega arith), (sound_worker n (worker_line n 2) 2 (omega arith), (sound_worker n (worker_line n 3) 3 (omega arith), tt))));
  names = record {
    object_names = object_names_differ;
    worker_names = four_words (codes "w" ++ decimal 0) (codes "w" ++ decimal 1) (codes "w" ++ decimal 2) (codes "w" ++ decimal 3) (worker_name 0 (omega arith)) (worker_name 1 (omega arith)) (worker_name 2 (omega arith)) (worker_name 3 (omega arith));
    free_objects = All-from_recursion (λ object. IsFreeName object.name) (generated n).objects
        (record { formed = refl; free = refl }, (record { formed = refl; free = refl }, (record { formed = refl; free = refl }, tt)));
    free_workers = All-from_recursion (λ worker. IsFreeName worker.name) (generated n).workers
        (free_as (codes "w" ++ decimal 0) (codes "w0") (worker_name 0 (omega arith)) (record { formed = refl; free = refl }), (free_as (codes "w" ++ decimal 1) (codes "w1") (worker_name 1 (omega arith)) (record { formed = refl; free = refl }), (free_as (codes "w" ++ decimal 2) (codes "w2") (worker_name 2 (omega arith)) (record { formed = refl; free = refl }), (free_as (codes "w" ++ decimal 3) (codes "w3") (worker_name 3 (omega arith)) (record { formed = refl; free = refl }), tt))));
  };
  few = omega (arith, small, length-calls n (worker_line n 0 + 1) (steps_of 0 n), length-calls n (worker_line n 1 + 1) (steps_of 1 n), length-calls n (worker_line n 2 + 1) (steps_of 2 n), length-calls n (worker_line n 3 + 1) (steps_of 3 n), few_steps 0 n, few_steps 1 n, few_steps 2 n, few_steps 3 n);
}
