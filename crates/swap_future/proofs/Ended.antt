-- A swap that a future has ended from its beginning has ended as one that was waited for.
use Rattle.std.proofs.Common.{◌≡◌, ⊎_elim, inl, inr, ◌↔◌, ℕ, Result, Ok, Err, refl, sym, ap, ◌∙◌}
use Rattle.k42_board.specs.declared.view.PassView.{PassView}
use Rattle.k42_runtime.specs.Swaps.{HasAbandoned, HasEnded, IsWornOut}
use Rattle.co_system.specs.Systems.{SystemSeen, SystemPass, SystemPart}
use Rattle.k42_runtime.specs.Systems.{live_in}
use Rattle.k42_runtime.specs.declared.swaps.NoSwap.{NoSwap}
use Rattle.k42_runtime.specs.declared.swaps.Stage.TheVariants.{New}
use Rattle.k42_runtime.specs.declared.swaps.NoSwap.TheVariants.{Worn}
use Rattle.k42_runtime.specs.declared.swaps.Swapped.{Swapped}
use Rattle.k42_kinds.specs.declared.operation.Op.{Op}
use Rattle.k42_kinds.specs.declared.operation.Reply.{Reply}
use Rattle.k42_kinds.specs.declared.entry.To.{To}
use Rattle.swap_future.specs.Polling.{Ends, new_swap}

unchanged : (old new : PassView SystemPart Op Reply) → new ≡ old → new ≡ record old { rows = new.rows; granted = new.granted }
unchanged old new same = same ∙ (λ j. record old { rows = (sym same j).rows; granted = (sym same j).granted })

module _ (system : SystemSeen) (object : ℕ) (to : To) (old new : SystemPass) where
  worn_now : (result : Result Swapped NoSwap) → Ends system (new_swap object to) old result new → (result ≡ Err Worn) ↔ IsWornOut old.view
  worn_now result is = (λ e. (is.worn.0 e).1, λ w. is.worn.1 (refl, w))

  pub ended_as_waited : (result : Result Swapped NoSwap) → Ends system (new_swap object to) old result new → HasEnded system object to result old new
  ended_as_waited (Ok end) is = record {
    here = is.here;
    rests = is.rests;
    seat = is.seat;
    keep = is.keep;
    caller = is.caller;
    graces = is.graces;
    told = is.told;
    ended = is.ended;
    memory = λ e. absurd (cc);
    worn = worn_now (Ok end) is;
    kept = λ e. absurd (cc);
  }
  ended_as_waited (Err error) is = record {
    here = is.here;
    rests = is.rests;
    seat = is.seat;
    keep = is.keep;
    caller = is.caller;
    graces = is.graces;
    told = tt;
    ended = tt;
    memory = λ e.
        ⊎_elim (λ (u : (New ≡ New) × (new.view ≡ old.view)). inl (unchanged old.view new.view u.1))
        (λ (u : HasAbandoned (live_in system.sys.shapes object) object to old.view new.view). inr u) (is.memory e);
    worn = worn_now (Err error) is;
    kept = λ e. unchanged old.view new.view (ap (λ (p : SystemPass). p.view) (is.kept e));
  }
