-- What changes no history keeps the rows: locking, taking, putting, unlocking and skipping, and an entry drawn at
-- no cell.
use Rattle.std.proofs.Common.{◌≡◌, ℕ, zero, suc, ◌/◌, ◌<◌, ◌∙◌, Bool, true, false, List, [], ◌∷◌, ◌++◌, Option, Some, None, length, map, get_or, set, refl, sym, ap, subst, inr, arith}
use Rattle.std.specs.List.{slice_get}
use Rattle.std.proofs.Math.Nat.{le_refl}
use Rattle.k42_kinds.specs.Histories.{is_call}
use Rattle.k42_kinds.specs.declared.entry.Act.{Act}
use Rattle.k42_kinds.specs.declared.entry.Act.TheVariants.{Call, Swap}
use Rattle.k42_kinds.specs.declared.entry.Answer.{Answer}
use Rattle.k42_kinds.specs.declared.entry.Answer.TheVariants.{Busy, Abandoned}
use Rattle.k42_kinds.specs.declared.entry.Entry.{Entry}
use Rattle.turn_core.specs.declared.event.TurnEvent.TheVariants.{Lock, Take, Alone, Put, Unlock, Skip}
use Rattle.turn_core.specs.Events as turns
use Rattle.turn_core.specs.Events.{cell_locked, cell_unlocked, cell_taken, cell_put, caller_locked, caller_unlocked, caller_drawn, caller_skipped}
use Rattle.turn_core.specs.Plain.{Cell, Caller, Turns}
use Rattle.turn_core.specs.Sound.{histories_of, drawn_by}
use Rattle.turn_core.specs.State.{cell_at, caller_at, fresh_caller, change_cell}
use Rattle.k42_stamp.specs.Chains.{Chain}
use Rattle.k42_stamp.specs.Layouts.{Layouts}
use Rattle.k42_stamp.specs.Lists.{InSome, AreThose, is_drawn}
use Rattle.k42_joined.specs.Plain.{Kept, Joined}
use Rattle.k42_joined.specs.Effects.{kept_drawn}
use Rattle.k42_joined.specs.Fitting.{lists_of, HasRows, Fitting}
use Rattle.k42_joined.specs.Numbers.{cell_of}
use Rattle.k42_joined.specs.Refusals.{MayDrawAlone, IsAnsweredAlone}
use Rattle.k42_joined.specs.Rows.{history_in}
use Rattle.k42_joined.specs.State.{cell, mine}
use Rattle.k42_joined.proofs.LocksCells.{IsSameTold, told_at}
use Rattle.k42_joined.proofs.RowsHistories.{fits_same}
use Rattle.k42_joined.proofs.RowsLists.{map-set_same, map-set, Grows, grown_those}

pub told_histories : {O R : Type 0} (x y : Cell O R) → IsSameTold x y → histories_of y ≡ histories_of x
told_histories x y same = ap (λ past. past ++ y.history ∷ []) same.past ∙ ap (λ history. x.past ++ history ∷ []) same.history

-- the histories are those from before
abbrev pub AreSameHistories : {L O R : Type 0} → Joined L O R → Turns O R → Type 0
AreSameHistories s t = (n : ℕ) → histories_of (cell_at t n) ≡ histories_of (cell s n)

pub list_here : {L O R : Type 0} (s : Joined L O R) (c : ℕ) → c < length s.turns.callers → slice_get (lists_of s) c ≡ Some (mine s c)
list_here {O} {R} s c there = slice_get-map_at s.turns.callers c there where
  slice_get-map_at : (callers : List (Caller O R)) (c : ℕ) → c < length callers → slice_get (map (λ (x : Caller O R). x.mine) callers) c ≡ Some (drawn_by callers c)
  slice_get-map_at [] c lt = absurd (omega arith)
  slice_get-map_at (x ∷ xs) zero lt = refl
  slice_get-map_at (x ∷ xs) (suc c) lt = slice_get-map_at xs c (omega arith)

-- the lists after the caller drew an entry
pub lists_drawn : {O R : Type 0} (callers : List (Caller O R)) (c : ℕ) (e : Entry O R)
    → map (λ (x : Caller O R). x.mine) (set callers c (caller_drawn e (get_or callers c fresh_caller)))
    ≡ set (map (λ (x : Caller O R). x.mine) callers) c (drawn_by callers c ++ e ∷ [])
lists_drawn {O} {R} callers c e = map-set (λ (x : Caller O R). x.mine) callers c (caller_drawn e (get_or callers c fresh_caller))

module _ {S L P O R : Type 0} (F : Layouts S L P O R) (declared : List L) (s : Joined L O R) (rows : Fitting F declared s) where
  same_history : (t : Turns O R) (kept : List (Kept R)) → AreSameHistories s t → (o row p : ℕ)
      → history_in (record s { turns = t; kept = kept }) o row p ≡ history_in s o row p
  same_history t kept same o row p = ap (λ histories. get_or histories (row / 2) []) (same (cell_of o row p))

  same_each : (t : Turns O R) (kept : List (Kept R)) → AreSameHistories s t → (o : ℕ) (declaration : L) (chain : Chain L P O R)
      → HasRows F s o declaration chain → HasRows F (record s { turns = t; kept = kept }) o declaration chain
  same_each t kept same o declaration chain has = record {
    rows = record {
      fits = fits_same F (history_in s o) (history_in (record s { turns = t; kept = kept }) o) declaration o chain
          (λ row p less lt. same_history t kept same o row p) has.rows.fits;
      layouts = has.rows.layouts;
    };
    tagged = has.tagged;
    shaped = has.shaped;
  }

  -- only locks, places and what is held change
  pub told_keeps : (t : Turns O R) → AreSameHistories s t → map (λ (x : Caller O R). x.mine) t.callers ≡ lists_of s
      → Fitting F declared (record s { turns = t })
  told_keeps t same lists = record {
    told = record { procs = rows.told.procs; proc_of = rows.told.proc_of };
    objects = rows.objects;
    chains = rows.chains;
    many = rows.many;
    each = λ o declaration chain declares at. same_each t s.kept same o declaration chain (rows.each o declaration chain declares at);
    those = record {
      placed = λ e is pass.
          let old = rows.those.placed e (subst (λ ls. InSome ls e) lists is) pass in
          let has = old.has in
          record {
            chain = old.chain;
            there = old.there;
            has = (has.0, has.1, has.2, has.3, rw (same_history t s.kept same e.object has.0 has.1) has.4);
          };
      given = λ o chain e at is pass.
          subst (λ ls. InSome ls e) (sym lists)
          (rows.those.given o chain e at (is.0, is.1, is.2, is.3, rw (same_history t s.kept same o is.0 is.1) at is.4) pass);
    };
  }

  one_cell : (changed : Cell O R → Cell O R) → ((x : Cell O R) → IsSameTold x (changed x)) → (n : ℕ) (callers : List (Caller O R))
      → map (λ (x : Caller O R). x.mine) callers ≡ lists_of s
      → Fitting F declared (record s { turns = record { cells = (change_cell changed s.turns n).cells; callers = callers } })
  one_cell changed same n callers lists =
      told_keeps (record { cells = (change_cell changed s.turns n).cells; callers = callers })
      (λ m. told_histories (cell s m) (cell_at (change_cell changed s.turns n) m) (told_at changed same s.turns n m)) lists

  pub take_keeps_rows : (c n : ℕ) → Fitting F declared (record s { turns = turns.effect s.turns (Take c n) })
  take_keeps_rows c n = one_cell cell_taken (λ x. record { closed = refl; life = refl; history = refl; past = refl }) n s.turns.callers refl

  pub put_keeps_rows : (c n : ℕ) → Fitting F declared (record s { turns = turns.effect s.turns (Put c n) })
  put_keeps_rows c n = one_cell cell_put (λ x. record { closed = refl; life = refl; history = refl; past = refl }) n s.turns.callers refl

  pub unlock_keeps_rows : (c n : ℕ) → Fitting F declared (record s { turns = turns.effect s.turns (Unlock c n) })
  unlock_keeps_rows c n =
      one_cell cell_unlocked (λ x. record { closed = refl; life = refl; history = refl; past = refl }) n _
      (map-set_same (λ (x : Caller O R). x.mine) s.turns.callers c (caller_unlocked n (caller_at s.turns c)) fresh_caller refl)

  lock_found : (c n : ℕ) (found : Option ℕ) → Fitting F declared (record s { turns = turns.locked s.turns c n found })
  lock_found c n None =
      one_cell (cell_locked c) (λ x. record { closed = refl; life = refl; history = refl; past = refl }) n _
      (map-set_same (λ (x : Caller O R). x.mine) s.turns.callers c (caller_locked n (caller_at s.turns c)) fresh_caller refl)
  lock_found c n (Some holder) = rows

  pub lock_keeps_rows : (c n : ℕ) → Fitting F declared (record s { turns = turns.effect s.turns (Lock c n) })
  lock_keeps_rows c n = lock_found c n (cell s n).lock

  pub skip_keeps_rows : (c stamp : ℕ) → Fitting F declared (record s { turns = turns.effect s.turns (Skip c stamp) })
  skip_keeps_rows c stamp =
      told_keeps (turns.effect s.turns (Skip c stamp)) (λ n. refl)
      (map-set_same (λ (x : Caller O R). x.mine) s.turns.callers c (caller_skipped stamp (caller_at s.turns c)) fresh_caller refl)

  -- an entry drawn at no cell

  not_drawn : (act : Act O) (answer : Answer R) (c : ℕ) (e : Entry O R) → is_call act ≡ false → IsAnsweredAlone s c e answer → is_drawn act answer ≡ true → ⊥
  not_drawn (Call op) answer c e not is drawn = cc
  not_drawn (Swap to) (Busy number) c e not is drawn = cc
  not_drawn (Swap to) (Abandoned number) c e not is drawn = cc
  not_drawn act answer c e not is drawn = absurd is

  same_grows : (e : Entry O R) → Grows F.procs (history_in s) (history_in s) rows.chains rows.chains e
  same_grows e = record {
    chain = λ o x at. (x, at, le_refl (length x.past));
    kept = λ o row p x f at less lt is. is;
    split = λ o row p x f at less lt is. inr (x, at, (row, p, less, lt, is));
  }

  pub alone_keeps_rows : (c : ℕ) (e : Entry O R) (abandons : Bool) → c < length s.turns.callers → MayDrawAlone s c e
      → Fitting F declared (record s { turns = turns.effect s.turns (Alone c e); kept = kept_drawn s c abandons })
  alone_keeps_rows c e abandons there may = record {
    told = record { procs = rows.told.procs; proc_of = rows.told.proc_of };
    objects = rows.objects;
    chains = rows.chains;
    many = rows.many;
    each = λ o declaration chain declares at.
        same_each (turns.effect s.turns (Alone c e)) (kept_drawn s c abandons) (λ n. refl) o declaration chain (rows.each o declaration chain declares at);
    those = subst (λ ls. AreThose F.procs is_drawn ls (history_in s) rows.chains) (sym (lists_drawn s.turns.callers c e))
        (grown_those F.procs is_drawn (lists_of s) c (mine s c) e (list_here s c there) (history_in s) (history_in s) rows.chains rows.chains
        (same_grows e) (λ drawn. absurd (not_drawn e.act e.answer c e may.act may.answer drawn)) rows.those);
  }
