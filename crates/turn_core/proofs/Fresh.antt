-- A state that was just made meets every fact.
use Rattle.std.proofs.Common.{◌≡◌, ℕ, List, [], refl, sym, subst, arith}
use Rattle.std.proofs.lemmas.Option.{none-some}
use Rattle.k42_places.proofs.EachPlaces.{EachPlace-map, EachPlace-replicate}
use Rattle.turn_core.specs.Plain.{Turns}
use Rattle.turn_core.specs.State.{fresh, fresh_cell, fresh_caller, fresh_cells, fresh_callers}
use Rattle.turn_core.specs.Sound.{IsHistory, IsCell, IsCaller, IsSound, entries_drawn}
use Rattle.turn_core.proofs.Growing.{each_push}

pub sound-fresh : {O R : Type 0} (lives : List ℕ) (callers : ℕ) → IsSound (fresh {O = O} {R = R} lives callers)
sound-fresh lives callers = record {
  cells = EachPlace-map (IsCell (fresh_callers callers)) fresh_cell lives (λ n life e. record {
    histories = each_push (IsHistory (fresh_callers callers)) [] [] (λ i history f. cc) (record { rising = λ i j earlier later before at_i at_j. cc; drawn = λ i entry f. cc });
    holder = λ c f. absurd (none-some c f);
    held = λ c f. absurd (none-some c f);
    away = λ f. cc;
  });
  callers = EachPlace-replicate (IsCaller (fresh_cells lives) (entries_drawn (fresh_callers callers))) callers fresh_caller (λ c. record {
    rising = λ i j earlier later before at_i at_j. cc;
    own = λ i entry f. cc;
    bounded = λ i entry f. cc;
    clocked = omega arith;
    clock = omega arith;
    holds = λ n held. cc;
    there = λ n held. cc;
    once = refl;
  });
}

pub IsSound-is_fresh : {O R : Type 0} (s : Turns O R) (lives : List ℕ) (callers : ℕ) → s ≡ fresh lives callers → IsSound s
IsSound-is_fresh s lives callers is = subst IsSound (sym is) (sound-fresh lives callers)
