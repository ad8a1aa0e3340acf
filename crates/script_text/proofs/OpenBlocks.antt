-- Whether an activity is open, by the test and by the matching of its lines.
use Rattle.std.proofs.Common.{◌≡◌, ℕ, suc, Bool, true, false, List, [], ◌∷◌, refl, sym, subst, ◌∙◌, arith}
use Rattle.std.specs.Prelude.{Any}
use Rattle.std.specs.List.{AllByRecursion}
use Rattle.std.proofs.lemmas.Bool.{false≢true}
use Rattle.std.proofs.lemmas.List.Elements.{All-weaker, All-get_or, All-from_recursion, recursion_from_All}
use Rattle.script_text.specs.Accepted.{IsOutside, IsInside}
use Rattle.script_text.specs.Offences.{is_open_behind, is_last_open, is_in_block}
use Rattle.script_text.specs.Sound.{BlocksMatch, IsSoundWorker}
use Rattle.script_text.specs.declared.script.Item.{Item}
use Rattle.script_text.specs.declared.script.Item.TheVariants.{Begin, End, Line}
use Rattle.script_text.specs.declared.script.Script.{Script}
use Rattle.script_text.specs.declared.script.WorkerLines.{WorkerLines}
use Rattle.script_text.proofs.SoundSteps.{HoldsWorker, IsSoundSoFar}
use Rattle.script_text.proofs.SoundScripts.{sound_workers}

-- behind activities that match one is open as they say
matched-open : (before after : Bool) (items : List Item) → BlocksMatch before items after → is_open_behind before items ≡ after
matched-open before after [] matched = matched
matched-open before after (Begin ∷ items) matched = matched-open true after items matched.1
matched-open before after (End ∷ items) matched = matched-open false after items matched.1
matched-open before after (Line line ∷ items) matched = matched-open before after items matched.1

Ends : Bool → WorkerLines → Type 0
Ends after worker = BlocksMatch false worker.items after

none_open : (workers : List WorkerLines) → AllByRecursion (Ends false) workers → is_last_open workers ≡ false
unfolding Ends
none_open [] all = refl
none_open (worker ∷ []) all = matched-open false false worker.items all.0
none_open (worker ∷ other ∷ workers) all = none_open (other ∷ workers) all.1

pub outside_from : (script : Script) → IsOutside script → is_in_block script ≡ false
unfolding Ends
outside_from script outside = none_open script.workers (recursion_from_All (Ends false) script.workers outside)

module _ (next : ℕ) (script : Script) (sound : IsSoundSoFar next script) where
  pub outside_when : is_in_block script ≡ false → IsOutside script
  outside_when closed =
      All-weaker (IsSoundWorker script) (λ (worker : WorkerLines). BlocksMatch false worker.items false) (λ worker holds. holds.blocks) script.workers
      (All-from_recursion (IsSoundWorker script) script.workers (sound_workers next script script.workers sound.workers sound.closed closed))

  last_open : (workers : List WorkerLines) → AllByRecursion (HoldsWorker next script) workers → is_last_open workers ≡ true → Any (λ worker. BlocksMatch false worker.items true) workers
  last_open [] holds opened = absurd (false≢true opened)
  last_open (worker ∷ []) holds opened = (0, worker, omega arith, refl, subst (BlocksMatch false worker.items) opened holds.0.blocks)
  last_open (worker ∷ other ∷ workers) holds opened =
      let rest = last_open (other ∷ workers) holds.1 opened in
      (suc rest.0, rest.1, omega (arith, rest.2), rest.3, rest.4)

  pub inside_when : is_in_block script ≡ true → IsInside script
  inside_when opened = last_open script.workers sound.workers opened

  pub inside_from : IsInside script → is_in_block script ≡ true
  inside_from inside = by (is_in_block script) refl
    where
      by : (b : Bool) → is_in_block script ≡ b → is_in_block script ≡ true
      by true opened = opened
      by false closed =
          let ended = subst (λ (worker : WorkerLines). BlocksMatch false worker.items false) inside.3
          (All-get_or (λ (worker : WorkerLines). BlocksMatch false worker.items false) script.workers inside.0 inside.1 inside.2 (outside_when closed)) in
          absurd (false≢true (sym (matched-open false false inside.1.items ended) ∙ matched-open false true inside.1.items inside.4))
