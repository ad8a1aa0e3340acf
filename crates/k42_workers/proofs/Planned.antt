-- A sound script in which a worker asks something has a plan without a fault, and its workers are ready for it.
use Rattle.std.proofs.Common.{◌≡◌, ℕ, zero, suc, ◌+◌, ◌<◌, ◌≤◌, Bool, true, false, ltb, List, [], ◌∷◌, Option, Some, None, length, map, get_or, refl, sym, ap, ◌∙◌, arith}
use Rattle.std.specs.Prelude.{All, slice_get}
use Rattle.std.specs.List.{list_any}
use Rattle.std.specs.Option.{option_map}
use Rattle.std.proofs.lemmas.Bool.Decides.{nat_tests}
use Rattle.std.proofs.lemmas.List.{length-map}
use Rattle.std.proofs.lemmas.Option.{same_Some, slice_get-map, slice_get_within, slice_get-get_or, get_or_from_slice_get}
use Rattle.std.proofs.lemmas.List.Sums.{get_or-le-sum_by}
use Rattle.std.proofs.lemmas.Simd.{map-map}
use Rattle.k42_limits.specs.declared.TheConstants.{PROCESSORS, OBJECTS, CALLERS}
use Rattle.k42_kinds.specs.declared.operation.Op.{Op}
use Rattle.k42_kinds.specs.declared.entry.Act.{Act}
use Rattle.k42_kinds.specs.declared.entry.Act.TheVariants.{Call, Swap}
use Rattle.k42_kinds.specs.declared.entry.To.{To}
use Rattle.k42_kinds.specs.declared.entry.To.TheVariants.{Layout, Dead, Watch, Unwatch}
use Rattle.k42_kinds.specs.declared.operation.KindName.{KindName}
use Rattle.k42_kinds.specs.declared.operation.LayoutName.{LayoutName}
use Rattle.k42_kinds.specs.declared.operation.LayoutName.TheVariants.{Shared, Spread}
use Rattle.script_text.specs.Acts.{HasWord}
use Rattle.script_text.specs.Lawful as lawful
use Rattle.script_text.specs.Lawful.{call_lines}
use Rattle.script_text.specs.Sound.{IsSound, IsSoundLine, IsSoundWorker, IsActOn}
use Rattle.script_text.specs.declared.script.CallLine.{CallLine}
use Rattle.script_text.specs.declared.script.Item.{Item}
use Rattle.script_text.specs.declared.script.Item.TheVariants.{Begin, End, Line}
use Rattle.script_text.specs.declared.script.ObjectLine.{ObjectLine}
use Rattle.script_text.specs.declared.script.Script.{Script}
use Rattle.script_text.specs.declared.script.WorkerLines.{WorkerLines}
use Rattle.co_system.specs.Systems.{MayLead, PlanSeen, SystemLayout, is_live, kept_as, kinds_of, plan_fault}
use Rattle.k42_runtime.specs.Plans.{dead_from, stray_from, is_within}
use Rattle.k42_workers.specs.Passes.{MayAsk, IsReady}
use Rattle.k42_workers.specs.Plans.{layout_of, plan_of, is_line, asks}
use Rattle.k42_workers.proofs.Filtered.{All-found}

within : (limit count : ℕ) → 0 < count → count ≤ limit → is_within limit count ≡ true
within limit count some few = grind (arith, nat_tests, some, few)

-- who asks something has a line
has_line : (items : List Item) → list_any is_line items ≡ true → 0 < length (call_lines items)
has_line [] asked = cc
has_line (Begin ∷ items) asked = has_line items asked
has_line (End ∷ items) asked = has_line items asked
has_line (Line line ∷ items) asked = omega arith

-- who asks nothing has none
pub has_none : (items : List Item) → list_any is_line items ≡ false → call_lines items ≡ []
has_none [] asked = refl
has_none (Begin ∷ items) asked = has_none items asked
has_none (End ∷ items) asked = has_none items asked
has_none (Line line ∷ items) asked = cc

-- the first worker that asks something
record IsAsking (workers : List WorkerLines) : Type 0 where
  number : ℕ
  worker : WorkerLines
  found : slice_get workers number ≡ Some worker
  asked : asks worker ≡ true

asking : (workers : List WorkerLines) → list_any asks workers ≡ true → IsAsking workers
asking [] asked = cc
asking (worker ∷ workers) asked = by (asks worker) refl (λ later. asking workers later)
  where
    by : (b : Bool) → asks worker ≡ b → (list_any asks workers ≡ true → IsAsking workers) → IsAsking (worker ∷ workers)
    by true is others = record { number = 0; worker = worker; found = refl; asked = is }
    by false is others = let later = others (rw is at asked) in record { number = suc later.number; worker = later.worker; found = later.found; asked = later.asked }

pub none_asking : (workers : List WorkerLines) → list_any asks workers ≡ false → (number : ℕ) (worker : WorkerLines) → slice_get workers number ≡ Some worker → asks worker ≡ false
none_asking [] asked number worker found = cc
none_asking (first ∷ workers) asked number worker found = by (asks first) refl (λ later n there. none_asking workers later n worker there) number found
  where
    by : (b : Bool) → asks first ≡ b → (list_any asks workers ≡ false → (n : ℕ) → slice_get workers n ≡ Some worker → asks worker ≡ false) → (n : ℕ) → slice_get (first ∷ workers) n ≡ Some worker → asks worker ≡ false
    by true is others n there = let no : true ≡ false = (rw is at asked) in cc
    by false is others zero there = ap asks (sym (same_Some first worker there)) ∙ is
    by false is others (suc n) there = others (rw is at asked) n there

nowhere_astray : (procs first : ℕ) (workers : List WorkerLines) → ((number : ℕ) (worker : WorkerLines) → slice_get workers number ≡ Some worker → worker.proc < procs) → stray_from procs first (map (λ worker. worker.proc) workers) ≡ None
nowhere_astray procs first [] placed = refl
nowhere_astray procs first (worker ∷ workers) placed =
    let here : ltb worker.proc procs ≡ true = grind (arith, nat_tests, placed 0 worker refl) in
    rw here (nowhere_astray procs (first + 1) workers (λ number other found. placed (suc number) other found))

-- an object of a script starts in a live layout
starts_live : (kind : KindName) (layout : LayoutName) → is_live (kept_as kind layout) ≡ true
starts_live kind Shared = refl
starts_live kind Spread = refl

none_dead : (first : ℕ) (objects : List ObjectLine) → dead_from is_live first (map layout_of objects) ≡ None
none_dead first [] = refl
none_dead first (object ∷ objects) = rw (starts_live object.kind object.layout) (none_dead (first + 1) objects)

-- a swap that has a word leads to a layout of any object
leads : (plan : PlanSeen) (object : ℕ) (to : To) → HasWord to → MayLead plan object to
leads plan object (Layout number) named = λ declaration there. named
leads plan object Dead named = λ declaration there. tt
leads plan object Watch named = λ declaration there. tt
leads plan object Unwatch named = λ declaration there. tt

module _ (script : Script) (sound : IsSound script) where
  sound_worker : (number : ℕ) (worker : WorkerLines) → slice_get script.workers number ≡ Some worker → IsSoundWorker script worker
  sound_worker number worker found = All-found (IsSoundWorker script) script.workers number worker sound.workers found

  some_object : (items : List Item) → All (IsSoundLine script) (call_lines items) → 0 < length (call_lines items) → 0 < length script.objects
  some_object items lines some = by (call_lines items) lines some
    where
      by : (all : List CallLine) → All (IsSoundLine script) all → 0 < length all → 0 < length script.objects
      by [] each some_line = absurd (omega (arith, some_line))
      by (line ∷ all) each some_line =
          let first = All-found (IsSoundLine script) (line ∷ all) 0 line each refl in
          omega (arith, slice_get_within (lawful.kinds_of script) line.object first.kind first.declared, length-map script.objects (λ (object : ObjectLine). object.kind))

  pub no_fault : list_any asks script.workers ≡ true → plan_fault script.procs (plan_of script).objects (plan_of script).callers ≡ None
  no_fault asked =
      let first = asking script.workers asked in
      let objects : 0 < length script.objects = some_object first.worker.items (sound_worker first.number first.worker first.found).lines (has_line first.worker.items first.asked) in
      let workers : 0 < length script.workers = omega (arith, slice_get_within script.workers first.number first.worker first.found) in
      let a : is_within PROCESSORS script.procs ≡ true = within PROCESSORS script.procs (omega (arith, sound.some_processor)) sound.processors in
      let b : is_within OBJECTS (length (map layout_of script.objects)) ≡ true = within OBJECTS (length (map layout_of script.objects)) (omega (arith, objects, length-map script.objects layout_of)) (omega (arith, sound.objects, length-map script.objects layout_of)) in
      let homes = map (λ (worker : WorkerLines). worker.proc) script.workers in
      let c : is_within CALLERS (length homes) ≡ true = within CALLERS (length homes) (omega (arith, workers, length-map script.workers (λ (worker : WorkerLines). worker.proc))) (omega (arith, sound.callers, length-map script.workers (λ (worker : WorkerLines). worker.proc))) in
      let d : stray_from script.procs 0 homes ≡ None = nowhere_astray script.procs 0 script.workers (λ number worker found. (sound_worker number worker found).processor) in
      rw (a, b, c, d) (none_dead 0 script.objects)

  -- the plan declares the kinds of the script
  pub kinds_planned : kinds_of (plan_of script) ≡ lawful.kinds_of script
  kinds_planned = map-map (λ (layout : SystemLayout). layout.inner.kind) layout_of script.objects

  record IsDeclared (object : ℕ) (kind : KindName) : Type 0 where
    declaration : SystemLayout
    there : slice_get (plan_of script).objects object ≡ Some declaration
    of_kind : declaration.inner.kind ≡ kind

  declared : (object : ℕ) (kind : KindName) → slice_get (lawful.kinds_of script) object ≡ Some kind → IsDeclared object kind
  declared object kind there = by (slice_get script.objects object) refl
    where
      by : (found : Option ObjectLine) → slice_get script.objects object ≡ found → IsDeclared object kind
      by None none = let no : None ≡ Some kind = sym (ap (option_map (λ (o : ObjectLine). o.kind)) none) ∙ sym (slice_get-map (λ (o : ObjectLine). o.kind) script.objects object) ∙ there in cc
      by (Some line) is = record {
        declaration = layout_of line;
        there = slice_get-map layout_of script.objects object ∙ ap (option_map layout_of) is;
        of_kind = same_Some line.kind kind (sym (ap (option_map (λ (o : ObjectLine). o.kind)) is) ∙ sym (slice_get-map (λ (o : ObjectLine). o.kind) script.objects object) ∙ there);
      }

  may_ask : (object : ℕ) (kind : KindName) (act : Act Op) → IsDeclared object kind → IsActOn kind act → MayAsk (plan_of script) object act
  may_ask object kind (Call op) is on = record {
    declaration = is.declaration;
    declares = is.there;
    takes = rw is.of_kind on.0;
  }
  may_ask object kind (Swap to) is on = (slice_get_within (plan_of script).objects object is.declaration is.there, leads (plan_of script) object to on)

  ready : (number : ℕ) (worker : WorkerLines) → slice_get script.workers number ≡ Some worker → IsReady (plan_of script) worker
  ready number worker found =
      let of = sound_worker number worker found in
      let lines = λ (w : WorkerLines). length (call_lines w.items) in
      record {
        asked = λ k d less. let line = of.lines k d less in may_ask (get_or (call_lines worker.items) k d).object line.kind (get_or (call_lines worker.items) k d).act (declared (get_or (call_lines worker.items) k d).object line.kind line.declared) line.asked;
        few = omega (arith, get_or-le-sum_by lines script.workers number worker (slice_get_within script.workers number worker found), ap lines (get_or_from_slice_get script.workers number worker worker found), sound.few);
        matches = of.blocks;
      }

  pub all_ready : All (IsReady (plan_of script)) script.workers
  all_ready k d less = ready k (get_or script.workers k d) (slice_get-get_or script.workers k d less)
