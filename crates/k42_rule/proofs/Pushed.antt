-- A pass after a draw: it has drawn one more, as its view tells, and keeps the entry where it keeps any.
use Rattle.std.proofs.Common.{◌≡◌, ℕ, suc, ◌+◌, ◌-◌, ◌<◌, ◌≤◌, List, [], ◌∷◌, ◌++◌, Option, Some, None, drop, length, sym, refl, ap, ◌∙◌, subst, ⊎_elim, arith}
use Rattle.std.specs.List.{slice_get, AllByRecursion}
use Rattle.std.specs.Prelude.{max}
use Rattle.std.proofs.Math.Nat.{le-max_left}
use Rattle.std.proofs.lemmas.List.{drop-append-le, length_push, take-append-le}
use Rattle.k42_kinds.specs.declared.entry.Entry.{Entry}
use Rattle.k42_limits.specs.declared.TheConstants.{PASS_ENTRIES}
use Rattle.k42_places.specs.Places.{EachPlace}
use Rattle.k42_places.proofs.Appended.{at_push}
use Rattle.turn_core.specs.Stamps.{last_stamp, stamp_of}
use Rattle.k42_stamp.proofs.Listed.{list_push}
use Rattle.k42_log.specs.Logs.{LogSeen}
use Rattle.k42_board.specs.Drawing.{IsDrawer}
use Rattle.k42_board.specs.Seen.{PassSeen, IsParted, IsRoomLeft, IsSeatOf, Keeping, Mirrors, Own, own_in, kept_of, kept_with}
use Rattle.k42_board.specs.Steps.{Seated}
use Rattle.k42_board.specs.Views.{pass_in}
use Rattle.k42_board.specs.declared.keep.Keep.{Keep}
use Rattle.k42_board.specs.declared.keep.Keep.TheVariants as keeps
use Rattle.k42_board.specs.declared.view.PassView.{PassView}
use Rattle.k42_board.specs.declared.view.View.TheVariants.{Crew}
use Rattle.k42_rule.specs.Keeping.{HasKept}

-- of each, as a list is gone through
pub each_all : {O R : Type 0} (P : Entry O R → Type 0) (entries : List (Entry O R)) → EachPlace (λ place entry. P entry) entries → AllByRecursion P entries
each_all P [] each = tt
each_all P (entry ∷ entries) each = (each 0 entry refl, each_all P entries (λ place. each (suc place)))

each_push : {O R : Type 0} (P : Entry O R → Type 0) (entries : List (Entry O R)) (e : Entry O R) → EachPlace (λ place f. P f) entries → P e → EachPlace (λ place f. P f) (entries ++ e ∷ [])
each_push P entries e each is place f at =
    ⊎_elim (λ before. each place f before.1) (λ last. subst P last.1 is) (at_push entries e place f at)

-- what was kept, and the entry where that is kept, are what is kept of the list with the entry
kept_push : {O R : Type 0} (what : Keep) (given : ℕ) (mine : List (Entry O R)) (e : Entry O R) → given ≤ length mine
    → kept_with what (kept_of what given mine) e ≡ kept_of what given (mine ++ e ∷ [])
kept_push keeps.All given mine e few = refl
kept_push keeps.Sections given mine e few = sym (drop-append-le given mine (e ∷ []) few)
kept_push keeps.Nothing given mine e few = refl

-- an entry that is later than the last section parts the list in the same place
parted_push : {O R : Type 0} (keep : Keeping) (mine : List (Entry O R)) (e : Entry O R) → IsParted keep mine → keep.since < e.stamp → IsParted keep (mine ++ e ∷ [])
parted_push {O} {R} keep mine e is later = record {
  few = let longer = length_push mine e in let few = is.few in omega (arith, longer, few);
  given = subst (EachPlace (λ place (f : Entry O R). f.stamp ≤ keep.since)) (sym (take-append-le keep.given mine (e ∷ []) is.few)) is.given;
  left =
      subst (EachPlace (λ place (f : Entry O R). keep.since < f.stamp)) (sym (drop-append-le keep.given mine (e ∷ []) is.few))
      (each_push (λ (f : Entry O R). keep.since < f.stamp) (drop keep.given mine) e is.left later);
}

-- no entry is later than the clock
low_stamp : {O R : Type 0} (mine : List (Entry O R)) (clock : ℕ) → EachPlace (λ place entry. entry.stamp ≤ clock) mine → last_stamp mine ≤ clock
low_stamp {O} {R} mine clock below = go (slice_get mine (length mine - 1)) refl where
  go : (last : Option (Entry O R)) → slice_get mine (length mine - 1) ≡ last → stamp_of last ≤ clock
  go None there = omega arith
  go (Some entry) there = below (length mine - 1) entry there

-- so a draw is later than them all
pub drawn_later : {O R : Type 0} (keep : Keeping) (number home : ℕ) (mine : List (Entry O R)) (kept : LogSeen O R) (clock last stamp : ℕ) → HasKept keep number home mine clock kept
    → stamp ≡ max clock last + 1 → last_stamp mine < stamp
drawn_later keep number home mine kept clock last stamp has is =
    let low = low_stamp mine clock has.below in let most = le-max_left clock last in omega (arith, low, most, is)

pub kept_drawn : {P O R : Type 0} (keep : Keeping) (number home : ℕ) (kept after : LogSeen O R) (clock last : ℕ) (v : PassView P O R) (e : Entry O R) (stamp : ℕ) (seated : Seated P O R) (w : PassView P O R)
    → HasKept keep number home v.taker.mine clock kept → e.stamp ≡ stamp → stamp ≡ max clock last + 1 → e.caller ≡ number → length v.taker.mine < PASS_ENTRIES
    → after.entries ≡ kept_with keep.what kept.entries e → after.owner ≡ kept.owner → after.first ≡ kept.first → IsSeatOf seated w → w.taker.mine ≡ v.taker.mine ++ e ∷ []
    → HasKept keep number home (pass_in seated.0).taker.mine stamp after
kept_drawn {O} {R} keep number home kept after clock last v e stamp seated w old bears next own few is owner first seat drew =
    subst (λ mine. HasKept keep number home mine stamp after) (sym drew ∙ ap (λ (m : Seated _ O R). (pass_in m.0).taker.mine) (sym seat))
    (record {
      kept_is = is ∙ ap (λ xs. kept_with keep.what xs e) old.kept_is ∙ kept_push keep.what keep.given mine e old.parted.few;
      owner = owner ∙ old.owner;
      first = first ∙ old.first;
      list = (list_push number clock mine e (record { is = old.list; few = each_all (λ (f : Entry O R). f.stamp ≤ clock) mine old.below }) own (subst (λ n. clock < n) (sym bears) above)).is;
      parted = parted_push keep mine e old.parted (let since = old.since in omega (arith, since, above, bears));
      below = each_push (λ (f : Entry O R). f.stamp ≤ stamp) mine e (λ place f at. let low = old.below place f at in omega (arith, low, above)) (omega (arith, bears));
      since = let since = old.since in omega (arith, since, above);
      few = let longer = length_push mine e in omega (arith, longer, few);
    }) where
      mine : List (Entry O R)
      mine = v.taker.mine

      above : clock < stamp
      above = let most = le-max_left clock last in omega (arith, most, next)

pub drawer_is : {P O R : Type 0} (inside old new : PassSeen P O R) (kept after : LogSeen O R) → inside ≡ old → new.table ≡ inside.table → new.seat ≡ inside.seat → new.keep ≡ inside.keep
    → inside.room ≡ kept.room → new.room ≡ after.room → IsRoomLeft inside.keep.what kept.room after.room → new.row_room ≡ inside.row_room → new.queue ≡ inside.queue
    → new.pushed ≡ inside.pushed → new.popped ≡ inside.popped → IsDrawer old new
drawer_is {P} {O} {R} inside old new kept after seen table seat keep was is left row_room queue pushed popped =
    subst (λ (p : PassSeen P O R). IsDrawer p new) seen
    (record {
      table = table;
      seat = seat;
      keep = keep;
      room = subst (λ (rooms : ℕ × ℕ). IsRoomLeft inside.keep.what rooms.0 rooms.1) (λ i. (sym was i, sym is i)) left;
      row_room = row_room;
      queue = queue;
      pushed = pushed;
      popped = popped;
    })

pub longer_drawn : {O R : Type 0} (mine : List (Entry O R)) (e : Entry O R) (drawn : ℕ) → drawn ≡ length mine → drawn + 1 ≡ length (mine ++ e ∷ [])
longer_drawn mine e drawn same = let longer = length_push mine e in omega (arith, longer, same)

-- the pass mirrors its view, which has the entry too
pub mirrors_drawn : {P O R : Type 0} (own : Own) (me seated : Seated P O R) (w : PassView P O R) (e : Entry O R) (stamp : ℕ) → Mirrors me own → IsSeatOf seated w
    → own_in w ≡ record (own_in (pass_in me.0)) { drawn = length ((pass_in me.0).taker.mine ++ e ∷ []); clock = e.stamp }
    → w.out ≡ (pass_in me.0).out → w.untold ≡ [] → e.stamp ≡ stamp → Mirrors seated (record own { drawn = own.drawn + 1; clock = stamp })
mirrors_drawn {O} {R} own me seated w e stamp old is same out untold bears =
    let here : pass_in seated.0 ≡ w = ap (λ (m : Seated _ O R). pass_in m.0) is in
    let mine = (pass_in me.0).taker.mine in
    let longer = longer_drawn mine e own.drawn (ap (λ (o : Own). o.drawn) old.own_is) in
    record {
      seat = is ∙ (λ j. (Crew (sym here j ∷ []), []));
      own_is =
          (λ j. record own { drawn = longer j; clock = sym bears j })
          ∙ ap (λ (o : Own). record o { drawn = length (mine ++ e ∷ []); clock = e.stamp }) old.own_is
          ∙ sym same ∙ ap own_in (sym here);
      out = ap (λ (z : PassView _ O R). z.out) here ∙ out ∙ old.out;
      told = ap (λ (z : PassView _ O R). z.untold) here ∙ untold;
    }
