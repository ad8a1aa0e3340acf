-- The rows of a state after an event, and their parts.
use Rattle.std.proofs.Common.{◌≡◌, ℕ, ◌/◌, ◌∙◌, List, [], Option, None, get_or, refl, sym, ap, subst}
use Rattle.std.specs.List.{slice_get}
use Rattle.std.specs.Prelude.{Some}
use Rattle.std.proofs.lemmas.Option.{same_Some}
use Rattle.k42_kinds.specs.declared.entry.Entry.{Entry}
use Rattle.phase_core.specs.Event as phases
use Rattle.turn_core.specs.declared.event.TurnEvent.TheVariants.{Lock, Take, Draw, Alone, Hand, Put, Unlock, Skip}
use Rattle.k42_stamp.specs.Chains.{Chain}
use Rattle.k42_stamp.specs.Hands.{handed}
use Rattle.k42_stamp.specs.Laws.{AreLaws}
use Rattle.k42_stamp.specs.Layouts.{Layouts}
use Rattle.turn_core.specs.Events as turns
use Rattle.turn_core.specs.Events.{cell_locked, cell_unlocked, cell_taken, cell_put}
use Rattle.turn_core.specs.Plain.{Cell, Caller, Turns}
use Rattle.turn_core.specs.State.{cell_at, change_cell}
use Rattle.k42_joined.specs.Plain.{Kept, Joined}
use Rattle.k42_joined.specs.Event.{Event, AtPhases, AtCells, HandWith}
use Rattle.k42_joined.specs.Effects.{effect}
use Rattle.k42_joined.specs.Following.{FollowsDraw, FollowsHand, drawn_at}
use Rattle.k42_joined.specs.Possible.{IsPossible}
use Rattle.k42_joined.specs.Numbers.{cell_of}
use Rattle.k42_joined.specs.Rows.{history_in, AreRowsOf}
use Rattle.k42_joined.specs.State.{cell}
use Rattle.k42_joined.specs.Sound.{IsSound}
use Rattle.k42_joined.proofs.OneChain.{rows_are_one}
use Rattle.k42_joined.proofs.RowsCalls.{draw_drawn}
use Rattle.k42_joined.proofs.LocksCells.{IsSameTold, told_at}
use Rattle.k42_joined.proofs.RowsCells.{AreSameHistories, told_histories}
use Rattle.k42_joined.proofs.RowsHistories.{fits_same}
use Rattle.k42_joined.proofs.RowsDraw.{core_draw}
use Rattle.k42_joined.proofs.RowsHand.{handed_rows}

module _ {S L P O R : Type 0} (F : Layouts S L P O R) (laws : AreLaws F) (declared : List L) (s : Joined L O R) (sound : IsSound F declared s)
    (o : ℕ) (declaration : L) (declares : slice_get declared o ≡ Some declaration) (x y : Chain L P O R) (was : AreRowsOf F declaration s o x) where
  pub follows_draw : (c : ℕ) (cells : List ℕ) (e : Entry O R) → IsPossible F declared s (AtCells (Draw c cells e)) → e.object ≡ o
      → AreRowsOf F declaration (effect s (AtCells (Draw c cells e))) o y → FollowsDraw F e x y
  follows_draw c cells e possible same is =
      let core = core_draw s.turns c cells e possible.may.core in
      let drawn = draw_drawn F laws declared s sound.phases sound.cells.turns sound.cells.locks sound.cells.rows sound.answers c cells e possible.caller core possible.may.beside in
      let own : drawn.declaration ≡ declaration = same_Some drawn.declaration declaration (sym drawn.declares ∙ ap (slice_get declared) same ∙ declares) in
      let here : drawn.chain ≡ x = rows_are_one F laws declaration s o drawn.chain x
      (subst (λ r. AreRowsOf F declaration s r drawn.chain) same (subst (λ d. AreRowsOf F d s e.object drawn.chain) own drawn.was)) was in
      let after : drawn.after ≡ y = rows_are_one F laws declaration (effect s (AtCells (Draw c cells e))) o drawn.after y
      (subst (λ r. AreRowsOf F declaration (effect s (AtCells (Draw c cells e))) r drawn.after) same
      (subst (λ d. AreRowsOf F d (effect s (AtCells (Draw c cells e))) e.object drawn.after) own drawn.is)) is in
      subst (λ z. FollowsDraw F e x z) after (subst (λ z. FollowsDraw F e z drawn.after) here drawn.follows)

  pub follows_hand : (c : ℕ) (from onto : List ℕ) (layout : L) (e : Entry O R) → IsPossible F declared s (HandWith c from onto layout e) → e.object ≡ o
      → AreRowsOf F declaration (effect s (HandWith c from onto layout e)) o y → FollowsHand F layout e x y
  follows_hand c from onto layout e possible same is =
      let t = effect s (HandWith c from onto layout e) in
      let found = handed_rows F laws declared s sound.phases sound.cells.turns sound.cells.locks sound.cells.rows c from onto layout e possible.caller possible.may in
      let own : possible.may.beside.declaration ≡ declaration =
      same_Some possible.may.beside.declaration declaration (sym possible.may.beside.declares ∙ ap (slice_get declared) same ∙ declares) in
      let here : found.chain ≡ x = rows_are_one F laws declaration s o found.chain x
      (subst (λ r. AreRowsOf F declaration s r found.chain) same (subst (λ d. AreRowsOf F d s e.object found.chain) own found.was)) was in
      let after : handed F found.chain layout e ≡ y = rows_are_one F laws declaration t o (handed F found.chain layout e) y
      (subst (λ r. AreRowsOf F declaration t r (handed F found.chain layout e)) same
      (subst (λ d. AreRowsOf F d t e.object (handed F found.chain layout e)) own found.is)) is in
      subst (λ z. FollowsHand F layout e x z) after
      (subst (λ z. FollowsHand F layout e z (handed F found.chain layout e)) here (record { past = refl; layout_is = refl; parts = refl }))

  -- an event of tables and swaps, a Free among them, leaves all rows
  pub follows_phases : (event : phases.Event) → AreRowsOf F declaration (effect s (AtPhases event)) o y → x ≡ y
  follows_phases event is =
      rows_are_one F laws declaration s o x y was (record { fits = is.fits; layouts = is.layouts })

-- an event that draws at no cell of the object leaves its rows
module _ {S L P O R : Type 0} (F : Layouts S L P O R) (laws : AreLaws F) (declared : List L) (s : Joined L O R) (sound : IsSound F declared s)
    (o : ℕ) (declaration : L) (x : Chain L P O R) (was : AreRowsOf F declaration s o x) where
  same_rows : (t : Turns O R) (kept : List (Kept R)) → AreSameHistories s t → AreRowsOf F declaration (record s { turns = t; kept = kept }) o x
  same_rows t kept same = record {
    fits = fits_same F (history_in s o) (history_in (record s { turns = t; kept = kept }) o) declaration o x
        (λ row p less lt. ap (λ histories. get_or histories (row / 2) []) (same (cell_of o row p))) was.fits;
    layouts = was.layouts;
  }

  touched : (changed : Cell O R → Cell O R) → ((y : Cell O R) → IsSameTold y (changed y)) → (n : ℕ) (callers : List (Caller O R))
      → AreRowsOf F declaration (record s { turns = record { cells = (change_cell changed s.turns n).cells; callers = callers } }) o x
  touched changed same n callers =
      same_rows (record { cells = (change_cell changed s.turns n).cells; callers = callers }) s.kept
      (λ m. told_histories (cell s m) (cell_at (change_cell changed s.turns n) m) (told_at changed same s.turns n m))

  locked_rows : (c n : ℕ) (found : Option ℕ) → AreRowsOf F declaration (record s { turns = turns.locked s.turns c n found }) o x
  locked_rows c n None = touched (cell_locked c) (λ y. record { closed = refl; life = refl; history = refl; past = refl }) n _
  locked_rows c n (Some holder) = was

  pub rows_stay : (event : Event L O R) → IsPossible F declared s event → (drawn_at event ≡ Some o → ⊥) → AreRowsOf F declaration (effect s event) o x
  rows_stay (AtPhases event) possible else = record { fits = was.fits; layouts = was.layouts }
  rows_stay (AtCells (Lock c n)) possible else = locked_rows c n (cell s n).lock
  rows_stay (AtCells (Take c n)) possible else = touched cell_taken (λ y. record { closed = refl; life = refl; history = refl; past = refl }) n _
  rows_stay (AtCells (Put c n)) possible else = touched cell_put (λ y. record { closed = refl; life = refl; history = refl; past = refl }) n _
  rows_stay (AtCells (Unlock c n)) possible else = touched cell_unlocked (λ y. record { closed = refl; life = refl; history = refl; past = refl }) n _
  rows_stay (AtCells (Skip c stamp)) possible else = same_rows (turns.effect s.turns (Skip c stamp)) _ (λ n. refl)
  rows_stay (AtCells (Alone c e)) possible else = same_rows (turns.effect s.turns (Alone c e)) _ (λ n. refl)
  rows_stay (AtCells (Draw c cells e)) possible else =
      let core = core_draw s.turns c cells e possible.may.core in
      (draw_drawn F laws declared s sound.phases sound.cells.turns sound.cells.locks sound.cells.rows sound.answers c cells e possible.caller core possible.may.beside).others
      o declaration x (λ same. else (ap Some (sym same))) was
  rows_stay (AtCells (Hand c from onto e)) possible else = absurd possible.may.beside
  rows_stay (HandWith c from onto layout e) possible else =
      (handed_rows F laws declared s sound.phases sound.cells.turns sound.cells.locks sound.cells.rows c from onto layout e possible.caller possible.may).others
      o declaration x (λ same. else (ap Some (sym same))) was
