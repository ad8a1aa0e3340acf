-- A skip keeps every fact.
use Rattle.std.proofs.Common.{◌≡◌, ℕ, suc, ◌<◌, ◌≤◌, Bool, true, false, nat_le, ◌||◌, List, [], ◌∷◌, length, refl, sym, ap, ◌∙◌, subst, arith}
use Rattle.std.specs.List.{list_any}
use Rattle.std.proofs.lemmas.Bool.Decides.{nat_tests}
use Rattle.std.proofs.lemmas.Option.{slice_get-get_or}
use Rattle.k42_places.specs.Places.{EachPlace}
use Rattle.k42_places.proofs.EachPlaces.{EachPlace-set_else}
use Rattle.k42_places.proofs.Written.{get_or-set_related}
use Rattle.turn_core.specs.Plain.{Caller, Turns}
use Rattle.turn_core.specs.State.{caller_at, fresh_caller, change_caller}
use Rattle.turn_core.specs.Names.{names}
use Rattle.turn_core.specs.Events.{caller_skipped, is_known}
use Rattle.turn_core.specs.Sound.{held_by, entries_drawn, IsCaller, IsSound}
use Rattle.turn_core.proofs.Locking.{same_drawn, history-same}

-- where no clock is above a number, no known stamp is
known-most : {O R : Type 0} (most stamp : ℕ) (callers : List (Caller O R)) → EachPlace (λ c (x : Caller O R). x.clock ≤ most) callers → list_any (λ (x : Caller O R). nat_le stamp x.clock) callers ≡ true → stamp ≤ most
known-most most stamp [] each known = cc
known-most {O} {R} most stamp (x ∷ callers) each known = go (nat_le stamp x.clock) refl (λ further. known-most most stamp callers (λ c y at. each (suc c) y at) further) where
  go : (first : Bool) → nat_le stamp x.clock ≡ first → (list_any (λ (y : Caller O R). nat_le stamp y.clock) callers ≡ true → stamp ≤ most) → stamp ≤ most
  go true e behind = let below : stamp ≤ x.clock = grind (arith, nat_tests, e) in omega (arith, below, each 0 x refl)
  go false e behind = behind (ap (λ first. first || list_any (λ (y : Caller O R). nat_le stamp y.clock) callers) (sym e) ∙ known)

pub known_bounded : {O R : Type 0} (s : Turns O R) (stamp : ℕ) → IsSound s → is_known s stamp ≡ true → stamp ≤ entries_drawn s.callers
known_bounded s stamp sound known = known-most (entries_drawn s.callers) stamp s.callers (λ c x e. (sound.callers c x e).clock) known

pub held_by-skipped : {O R : Type 0} (s : Turns O R) (c stamp d : ℕ) → held_by (change_caller (caller_skipped stamp) s c).callers d ≡ held_by s.callers d
held_by-skipped {O} {R} s c stamp d = sym (get_or-set_related (λ (x y : Caller O R). x.held ≡ y.held) (λ x. refl) s.callers c d (caller_skipped stamp (caller_at s c)) fresh_caller refl)

pub keeps_skip : {O R : Type 0} (s : Turns O R) (c stamp : ℕ) → IsSound s → c < length s.callers → is_known s stamp ≡ true → IsSound (change_caller (caller_skipped stamp) s c)
keeps_skip s c stamp sound there known =
    let callers = (change_caller (caller_skipped stamp) s c).callers in
    let same = same_drawn s c (caller_skipped stamp) there (λ x. refl) in
    let old = sound.callers c (caller_at s c) (slice_get-get_or s.callers c fresh_caller there) in
    record {
      cells = λ n x e. let kept = sound.cells n x e in record {
        histories = λ i history f. history-same s.callers callers history same (kept.histories i history f);
        holder = λ d f. omega (arith, kept.holder d f, same.many);
        held = λ d f. ap (λ held. names held n) (held_by-skipped s c stamp d) ∙ kept.held d f;
        away = kept.away;
      };
      callers = subst (λ entries. EachPlace (IsCaller s.cells entries) callers) (sym same.entries) (EachPlace-set_else (IsCaller s.cells (entries_drawn s.callers)) (IsCaller s.cells (entries_drawn s.callers)) s.callers c (caller_skipped stamp (caller_at s c)) sound.callers
          (record {
            rising = old.rising;
            own = old.own;
            bounded = old.bounded;
            clocked = omega (arith, old.clocked);
            clock = omega (arith, old.clock, known_bounded s stamp sound known);
            holds = old.holds;
            there = old.there;
            once = old.once;
          })
          (λ d x apart e kept. kept));
    }
