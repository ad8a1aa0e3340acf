-- What the stamp of a step is above.
use Rattle.std.proofs.Common.{◌≡◌, ℕ, zero, suc, ◌<◌, true, List, [], ◌∷◌, length, map, refl, sym, ap, subst, inl, inr, ⊎_elim, arith}
use Rattle.std.specs.List.{slice_get, AllByRecursion}
use Rattle.std.specs.Prelude.{Some}
use Rattle.std.proofs.lemmas.Option.{same_Some, slice_get-get_or}
use Rattle.k42_kinds.specs.declared.entry.Entry.{Entry}
use Rattle.turn_core.specs.Plain.{Caller, Turns}
use Rattle.turn_core.specs.Sound.{drawn_by, IsSound}
use Rattle.turn_core.specs.State.{cell_at, caller_at, fresh_caller}
use Rattle.turn_core.specs.Names.{names}
use Rattle.turn_core.proofs.Drawing.{IsNext, above_mine, above_history, history_of-cell}
use Rattle.turn_core.proofs.Reached.{lists-rise}
use Rattle.turn_core.proofs.Rising.{last-above}
use Rattle.k42_stamp.specs.Lists.{InSome}
use Rattle.k42_stamp.specs.Orders.{In}

-- the place of an element
pub record IsPlaced {E : Type 0} (e : E) (xs : List E) : Type 0 where
  pub place : ℕ
  pub at : slice_get xs place ≡ Some e

pub in_place : {E : Type 0} (e : E) (xs : List E) → In e xs → IsPlaced e xs
in_place e [] is = absurd is
in_place e (x ∷ xs) is =
    ⊎_elim {C = IsPlaced e (x ∷ xs)} (λ (same : e ≡ x). record { place = 0; at = ap Some (sym same) })
    (λ (more : In e xs). let rest = in_place e xs more in record { place = suc rest.place; at = rest.at }) is

pub place_in : {E : Type 0} (e : E) (xs : List E) (i : ℕ) → slice_get xs i ≡ Some e → In e xs
place_in e [] i at = absurd (cc)
place_in e (x ∷ xs) zero at = inl (sym (same_Some x e at))
place_in e (x ∷ xs) (suc i) at = inr (place_in e xs i at)

pub all_placed : {E : Type 0} (P : E → Type 0) (xs : List E) → ((e : E) → In e xs → P e) → AllByRecursion P xs
all_placed P [] each = tt
all_placed P (x ∷ xs) each = (each x (inl refl), all_placed P xs (λ e is. each e (inr is)))

-- the caller whose list is at a place
pub at_list : {O R : Type 0} (callers : List (Caller O R)) (d : ℕ) (list : List (Entry O R)) → slice_get (map (λ (x : Caller O R). x.mine) callers) d ≡ Some list
    → (d < length callers) × (drawn_by callers d ≡ list)
at_list [] d list at = absurd (cc)
at_list (x ∷ xs) zero list at = (omega arith, same_Some x.mine list at)
at_list (x ∷ xs) (suc d) list at = let rest = at_list xs d list at in let lt = rest.0 in (omega (arith, lt), rest.1)

module _ {O R : Type 0} (t : Turns O R) (sound : IsSound t) where
  -- an entry of a caller's list is the caller's
  pub own_caller : (d : ℕ) (f : Entry O R) → d < length t.callers → In f (drawn_by t.callers d) → f.caller ≡ d
  own_caller d f there is =
      let placed = in_place f (drawn_by t.callers d) is in
      ((sound.callers d (caller_at t d) (slice_get-get_or t.callers d fresh_caller there)).own placed.place f placed.at).caller

  -- an entry of some list is of its caller's list
  pub in_own : (f : Entry O R) → InSome (map (λ (x : Caller O R). x.mine) t.callers) f → (f.caller < length t.callers) × In f (drawn_by t.callers f.caller)
  in_own f is =
      let at = at_list t.callers is.place is.list is.there in
      let here : In f (drawn_by t.callers is.place) = subst (λ (xs : List (Entry O R)). In f xs) (sym at.1) is.has in
      let own = own_caller is.place f at.0 here in
      (rw own at.0, subst (λ d. In f (drawn_by t.callers d)) (sym own) here)

  module _ (c : ℕ) (cells : List ℕ) (e : Entry O R) (next : IsNext t c cells e) where
    pub above_own : (f : Entry O R) → In f (drawn_by t.callers c) → f.stamp < e.stamp
    above_own f is =
        let placed = in_place f (drawn_by t.callers c) is in
        let most = last-above (drawn_by t.callers c) placed.place f (lists-rise t c sound) placed.at in
        let less = above_mine t c cells e sound next in
        omega (arith, most, less)

    pub above_cell : (n : ℕ) → names cells n ≡ true → (f : Entry O R) → In f (cell_at t n).history → f.stamp < e.stamp
    above_cell n named f is =
        let placed = in_place f (cell_at t n).history is in
        let most = last-above (cell_at t n).history placed.place f (history_of-cell t n sound).rising placed.at in
        let less = above_history t c cells e n next named in
        omega (arith, most, less)
