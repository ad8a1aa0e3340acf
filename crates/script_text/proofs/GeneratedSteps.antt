-- The generated script grows by a step, and by a worker.
use Rattle.std.proofs.Common.{◌≡◌, ◌≢◌, ℕ, zero, suc, ◌+◌, ◌*◌, ◌/◌, ◌%◌, ◌^◌, eq-eqb, ne_eqb, ◌≤◌, Bool, true, false, cond, List, [], ◌∷◌, ◌++◌, length, map, filter, eqb, refl, sym, ap, ◌∙◌, arith}
use Rattle.std.specs.List.{range_with_len}
use Rattle.std.proofs.lemmas.List.Elements.{filter-append}
use Rattle.std.proofs.lemmas.List.{append-nil, length-append, map-append}
use Rattle.std.proofs.lemmas.List.Sums.{length-filter, count_by-le-length}
use Rattle.std.proofs.lemmas.List.FromFn.{length-range_with_len}
use Rattle.script_text.specs.declared.script.Item.{Item}
use Rattle.script_text.specs.declared.script.Item.TheVariants.{Line}
use Rattle.script_text.specs.declared.script.WorkerLines.{WorkerLines}
use Rattle.script_text.specs.Generated.{next_drawn, drawn, value_at, step_line, steps_of, step_items, worker_line, worker_lines}

next_is_suc : (n : ℕ) → n + 1 ≡ suc n
next_is_suc n = omega arith

pub drawn-next : (n k : ℕ) → drawn n (k + 1) ≡ next_drawn (drawn n k)
drawn-next n k = rw (next_is_suc k) refl

range-suc : (a n : ℕ) → range_with_len a (suc n) ≡ range_with_len a n ++ (a + n) ∷ []
range-suc a zero = ap (λ last. last ∷ []) (omega arith)
range-suc a (suc n) = ap (λ rest. a ∷ rest) (range-suc (a + 1) n ∙ ap (λ last. range_with_len (a + 1) n ++ last ∷ []) (omega arith))

-- one number more
pub range-next : (a n : ℕ) → range_with_len a (n + 1) ≡ range_with_len a n ++ (a + n) ∷ []
range-next a n = rw (next_is_suc n) (range-suc a n)

kept_one : (p : ℕ → Bool) (k : ℕ) → filter p (k ∷ []) ≡ cond (p k) (k ∷ []) []
kept_one p k = refl

-- one step more, which is the worker's or not
steps_of-cond : (worker k : ℕ) → steps_of worker (k + 1) ≡ steps_of worker k ++ cond (eqb ((k + 1) % 4) worker) ((k + 1) ∷ []) []
steps_of-cond worker k =
    ap (filter (λ step. eqb (step % 4) worker)) (range-next 1 k ∙ ap (λ last. range_with_len 1 k ++ last ∷ []) (omega arith))
    ∙ filter-append (λ step. eqb (step % 4) worker) (range_with_len 1 k) ((k + 1) ∷ [])

pub steps_of-own : (worker k : ℕ) → eqb ((k + 1) % 4) worker ≡ true → steps_of worker (k + 1) ≡ steps_of worker k ++ (k + 1) ∷ []
steps_of-own worker k own = steps_of-cond worker k ∙ rw own refl

pub steps_of-other : (worker k : ℕ) → eqb ((k + 1) % 4) worker ≡ false → steps_of worker (k + 1) ≡ steps_of worker k
steps_of-other worker k other = steps_of-cond worker k ∙ rw other (append-nil (steps_of worker k))

pub length-step_items : (n number : ℕ) (steps : List ℕ) → length (step_items n number steps) ≡ length steps
length-step_items n number [] = refl
length-step_items n number (k ∷ steps) = ap suc (length-step_items n (number + 1) steps)

-- one line more
pub step_items-more : (n number : ℕ) (steps : List ℕ) (k : ℕ) → step_items n number (steps ++ k ∷ []) ≡ step_items n number steps ++ Line (step_line (number + length steps) k (value_at n k)) ∷ []
step_items-more n number [] k = ap (λ at. Line (step_line at k (value_at n k)) ∷ []) (omega arith)
step_items-more n number (first ∷ steps) k =
    ap (λ rest. Line (step_line number first (value_at n first)) ∷ rest)
    (step_items-more n (number + 1) steps k ∙ ap (λ at. step_items n (number + 1) steps ++ Line (step_line at k (value_at n k)) ∷ []) (omega arith))

-- what is kept of a worker's steps up to step k, from this line on
pub record HasSteps (n line worker k number : ℕ) (items : List Item) : Type 0 where
  pub drawn_so_far : number ≡ drawn n k
  pub in_order : items ≡ step_items n line (steps_of worker k)
  pub few : length items ≤ k

-- a step of the worker
pub HasSteps-own : (n line worker k number next : ℕ) (items : List Item) → HasSteps n line worker k number items → next ≡ next_drawn number → (k + 1) % 4 ≡ worker → HasSteps n line worker (k + 1) next (items ++ Line (step_line (line + length items) (k + 1) (next / 2 ^ 32)) ∷ [])
HasSteps-own n line worker k number next items kept drawn_next own =
    let drawn_so_far : next ≡ drawn n (k + 1) = drawn_next ∙ ap next_drawn kept.drawn_so_far ∙ sym (drawn-next n k) in
    let many : length items ≡ length (steps_of worker k) = ap length kept.in_order ∙ length-step_items n line (steps_of worker k) in
    record {
      drawn_so_far = drawn_so_far;
      in_order = rw (steps_of-own worker k (eq-eqb ((k + 1) % 4) worker own), step_items-more n line (steps_of worker k) (k + 1), many, drawn_so_far, kept.in_order) refl;
      few = omega (arith, kept.few, length-append items (Line (step_line (line + length items) (k + 1) (next / 2 ^ 32)) ∷ []));
    }

-- a step of another
pub HasSteps-other : (n line worker k number next : ℕ) (items : List Item) → HasSteps n line worker k number items → next ≡ next_drawn number → (k + 1) % 4 ≢ worker → HasSteps n line worker (k + 1) next items
HasSteps-other n line worker k number next items kept drawn_next other = record {
  drawn_so_far = drawn_next ∙ ap next_drawn kept.drawn_so_far ∙ sym (drawn-next n k);
  in_order = kept.in_order ∙ ap (step_items n line) (sym (steps_of-other worker k (ne_eqb ((k + 1) % 4) worker other)));
  few = omega (arith, kept.few);
}

pub few_steps : (worker n : ℕ) → length (steps_of worker n) ≤ n
few_steps worker n = omega (arith, length-filter (λ step. eqb (step % 4) worker) (range_with_len 1 n), count_by-le-length (λ step. eqb (step % 4) worker) (range_with_len 1 n), length-range_with_len 1 n)

pub worker_line-next : (n worker : ℕ) → worker_line n (worker + 1) ≡ worker_line n worker + 1 + length (steps_of worker n)
worker_line-next n worker = rw (next_is_suc worker) refl

-- the worker of this number in the generated script
abbrev pub placed_worker : ℕ → ℕ → WorkerLines
placed_worker n worker = worker_lines n (worker_line n worker) worker

-- what is kept of the workers so far, before the line of the next
pub record HasWorkers (n worker line : ℕ) (workers : List WorkerLines) : Type 0 where
  pub placed : workers ≡ map (placed_worker n) (range_with_len 0 worker)
  pub at : line ≡ worker_line n worker
  pub early : line ≤ 5 + worker * 10001

-- a worker more
pub HasWorkers-next : (n worker line next : ℕ) (workers : List WorkerLines) → n ≤ 10000 → HasWorkers n worker line workers → next ≡ line + (1 + length (worker_lines n line worker).items) → HasWorkers n (worker + 1) next (workers ++ worker_lines n line worker ∷ [])
HasWorkers-next n worker line next workers small kept behind =
    let count : length (worker_lines n line worker).items ≡ length (steps_of worker n) = length-step_items n (line + 1) (steps_of worker n) in
    record {
      placed =
          rw (range-next 0 worker, map-append (placed_worker n) (range_with_len 0 worker) ((0 + worker) ∷ []), kept.placed, kept.at) (ap (λ place. map (placed_worker n) (range_with_len 0 worker) ++ placed_worker n place ∷ []) (omega arith));
      at = behind ∙ (omega (arith, kept.at, count) ∙ sym (worker_line-next n worker));
      early = omega (arith, kept.early, few_steps worker n, count, behind, small);
    }
