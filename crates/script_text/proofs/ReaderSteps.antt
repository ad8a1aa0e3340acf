-- What the reader keeps after one more line.
use Rattle.std.proofs.Common.{◌≡◌, ℕ, ◌+◌, ◌≤◌, Bool, true, false, List, [], ◌∷◌, ◌++◌, length, map, refl, sym, ap, subst, ◌∙◌, arith}
use Rattle.std.specs.Prelude.{Option, Some, None, is_some, sum_by, Result, OnOk}
use Rattle.std.proofs.lemmas.List.{length-append}
use Rattle.indexmap.proofs.MapLemmas.{OnOk-map}
use Rattle.std.proofs.lemmas.List.Sums.{sum_by-append}
use Rattle.k42_limits.specs.declared.TheConstants.{CALL_LINES}
use Rattle.script_text.specs.Lawful.{call_lines}
use Rattle.script_text.specs.Offences.{is_open_behind, is_last_open}
use Rattle.script_text.specs.Language.{with_item, with_last_item, with_worker}
use Rattle.script_text.specs.Reading.{last_worker, script_so_far, StartsEmpty, IsKept, Shows}
use Rattle.script_text.specs.declared.script.Item.{Item}
use Rattle.script_text.specs.declared.script.Item.TheVariants.{Begin, End, Line}
use Rattle.script_text.specs.declared.script.WorkerHead.{WorkerHead}
use Rattle.script_text.specs.declared.script.WorkerLines.{WorkerLines}
use Rattle.script_text.specs.declared.reading.Reading.{Reading}
use Rattle.script_text.proofs.SoundLists.{call_lines-push}

-- one more item of the last worker
pub with_item-last : (item : Item) (workers : List WorkerLines) (worker : WorkerLines) → with_item item (workers ++ worker ∷ []) ≡ workers ++ record worker { items = worker.items ++ item ∷ [] } ∷ []
with_item-last item [] worker = refl
with_item-last item (first ∷ []) worker = refl
with_item-last item (first ∷ second ∷ workers) worker = ap (λ (rest : List WorkerLines). first ∷ rest) (with_item-last item (second ∷ workers) worker)

pub is_last_open-last : (workers : List WorkerLines) (worker : WorkerLines) → is_last_open (workers ++ worker ∷ []) ≡ is_open_behind false worker.items
is_last_open-last [] worker = refl
is_last_open-last (first ∷ []) worker = refl
is_last_open-last (first ∷ second ∷ workers) worker = is_last_open-last (second ∷ workers) worker

-- whether an activity is open behind one more item
pub is_open_behind-push : (in_block : Bool) (items : List Item) (item : Item) → is_open_behind in_block (items ++ item ∷ []) ≡ is_open_behind (is_open_behind in_block items) (item ∷ [])
is_open_behind-push in_block [] item = refl
is_open_behind-push in_block (Begin ∷ items) item = is_open_behind-push true items item
is_open_behind-push in_block (End ∷ items) item = is_open_behind-push false items item
is_open_behind-push in_block (Line line ∷ items) item = is_open_behind-push in_block items item

asked_of : List WorkerLines → ℕ
asked_of workers = sum_by (λ worker. length (call_lines worker.items)) workers

names_of : List WorkerLines → List (List ℕ)
names_of workers = map (λ worker. worker.name) workers

item_last : (item : Item) (o : Option WorkerHead) (workers : List WorkerLines) (items : List Item) → is_some o ≡ true → with_item item (workers ++ last_worker o items) ≡ workers ++ last_worker o (items ++ item ∷ [])
item_last item None workers items some = cc
item_last item (Some head) workers items some = with_item-last item workers (record { name = head.name; proc = head.proc; items = items })

open_last : (o : Option WorkerHead) (workers : List WorkerLines) (items : List Item) → is_some o ≡ true → is_last_open (workers ++ last_worker o items) ≡ is_open_behind false items
open_last None workers items some = cc
open_last (Some head) workers items some = is_last_open-last workers (record { name = head.name; proc = head.proc; items = items })

asked_last : (o : Option WorkerHead) (workers : List WorkerLines) (items : List Item) → is_some o ≡ true → asked_of (workers ++ last_worker o items) ≡ asked_of workers + length (call_lines items)
unfolding asked_of
asked_last None workers items some = cc
asked_last (Some head) workers items some = omega (arith, sum_by-append (λ (worker : WorkerLines). length (call_lines worker.items)) workers (record { name = head.name; proc = head.proc; items = items } ∷ []))

names_last : (o : Option WorkerHead) (workers : List WorkerLines) (items more : List Item) → names_of (workers ++ last_worker o items) ≡ names_of (workers ++ last_worker o more)
unfolding names_of
names_last None [] items more = refl
names_last (Some head) [] items more = refl
names_last o (first ∷ workers) items more = ap (λ (rest : List (List ℕ)). first.name ∷ rest) (names_last o workers items more)

starts_some : (o : Option WorkerHead) (workers : List WorkerLines) (items : List Item) → is_some o ≡ true → StartsEmpty o workers items
starts_some None workers items some = cc
starts_some (Some head) workers items some = tt

-- the reader with one more item
abbrev pub reading_with_item : Reading → Item → Bool → ℕ → Reading
reading_with_item r item in_block asked = record r { items = r.items ++ item ∷ []; in_block = in_block; asked = asked }

pub shows_item : (r : Reading) (item : Item) (in_block : Bool) (asked : ℕ) → IsKept r → is_some r.worker ≡ true → in_block ≡ is_open_behind r.in_block (item ∷ []) → asked ≡ r.asked + length (call_lines (item ∷ [])) → asked ≤ CALL_LINES
    → Shows (with_last_item (script_so_far r) item) (reading_with_item r item in_block asked)
unfolding asked_of names_of
shows_item r item in_block asked kept some opens counts within = record {
  same = ap (λ (workers : List WorkerLines). record { procs = r.procs; objects = r.objects; workers = workers }) (sym (item_last item r.worker r.workers r.items some));
  kept = record {
    objects = kept.objects;
    workers = kept.workers ∙ names_last r.worker r.workers r.items (r.items ++ item ∷ []);
    block = opens ∙ ap (λ (b : Bool). is_open_behind b (item ∷ [])) (kept.block ∙ open_last r.worker r.workers r.items some) ∙ sym (is_open_behind-push false r.items item) ∙ sym (open_last r.worker r.workers (r.items ++ item ∷ []) some);
    asked = omega (arith, counts, kept.asked, asked_last r.worker r.workers r.items some, asked_last r.worker r.workers (r.items ++ item ∷ []) some, ap length (call_lines-push r.items item), length-append (call_lines r.items) (call_lines (item ∷ [])));
    few = within;
    named = kept.named;
    start = starts_some r.worker r.workers (r.items ++ item ∷ []) some;
  };
}

-- the workers before the next one
-- the reader with one more worker
abbrev pub reading_with_worker : Reading → WorkerHead → Reading
reading_with_worker r head = record r {
  workers = r.workers ++ last_worker r.worker r.items;
  worker_names = r.worker_names ++ head.name ∷ [];
  worker = Some head;
  items = [];
}

names-push : (workers : List WorkerLines) (worker : WorkerLines) → names_of (workers ++ worker ∷ []) ≡ names_of workers ++ worker.name ∷ []
unfolding names_of
names-push [] worker = refl
names-push (first ∷ workers) worker = ap (λ (rest : List (List ℕ)). first.name ∷ rest) (names-push workers worker)

pub shows_worker : (r : Reading) (head : WorkerHead) → IsKept r → r.in_block ≡ false → Shows (with_worker (script_so_far r) head) (reading_with_worker r head)
unfolding asked_of names_of
shows_worker r head kept closed = record {
  same = refl;
  kept = record {
    objects = kept.objects;
    workers = ap (λ (names : List (List ℕ)). names ++ head.name ∷ []) kept.workers ∙ sym (names-push (r.workers ++ last_worker r.worker r.items) (record { name = head.name; proc = head.proc; items = [] }));
    block = closed ∙ sym (is_last_open-last (r.workers ++ last_worker r.worker r.items) (record { name = head.name; proc = head.proc; items = [] }));
    asked = omega (arith, kept.asked, sum_by-append (λ (worker : WorkerLines). length (call_lines worker.items)) (r.workers ++ last_worker r.worker r.items) (record { name = head.name; proc = head.proc; items = [] } ∷ []));
    few = kept.few;
    named = kept.named;
    start = tt;
  };
}

-- the same, where the item was pushed unless memory ran out
pub shows_pushed : {X E : Type 0} (pushed : Result X E) (r : Reading) (item given : Item) (items : List Item) (in_block : Bool) (asked : ℕ) → given ≡ item → IsKept r → is_some r.worker ≡ true → in_block ≡ is_open_behind r.in_block (item ∷ []) → asked ≡ r.asked + length (call_lines (item ∷ [])) → asked ≤ CALL_LINES
    → OnOk pushed (items ≡ r.items ++ item ∷ []) → OnOk pushed (Shows (with_last_item (script_so_far r) given) (record r { items = items; in_block = in_block; asked = asked }))
shows_pushed pushed r item given items in_block asked is kept some opens counts within all =
    rw is (OnOk-map pushed (items ≡ r.items ++ item ∷ []) _ (λ are. subst (λ (list : List Item). Shows (with_last_item (script_so_far r) item) (record r { items = list; in_block = in_block; asked = asked })) (sym are) (shows_item r item in_block asked kept some opens counts within)) all)
