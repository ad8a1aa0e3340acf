-- A swap that found its object over is drawn above all that swapped it.
use Rattle.std.proofs.Common.{◌≡◌, ℕ, ◌/◌, ◌||◌, eqb, ◌<◌, ◌∙◌, true, false, List, [], ◌∷◌, length, refl, sym, ap, subst, inl, ⊎_elim, arith}
use Rattle.std.proofs.lemmas.Bool.{lt-ltb, eq-eqb}
use Rattle.k42_kinds.specs.declared.entry.Act.{Act}
use Rattle.k42_kinds.specs.declared.entry.Act.TheVariants.{Call, Swap}
use Rattle.k42_kinds.specs.declared.entry.Answer.TheVariants.{Swapped}
use Rattle.k42_kinds.specs.declared.entry.Entry.{Entry}
use Rattle.k42_kinds.specs.Histories.{is_call}
use Rattle.phase_core.specs.Sound as phases
use Rattle.turn_core.specs.Sound as turns
use Rattle.turn_core.specs.declared.event.TurnEvent.TheVariants.{Draw}
use Rattle.turn_core.specs.Events as turn_events
use Rattle.turn_core.specs.Names.{names}
use Rattle.k42_stamp.specs.Chains.{Turn, first_of}
use Rattle.k42_stamp.specs.Laws.{AreLaws}
use Rattle.k42_stamp.specs.Layouts.{Layouts}
use Rattle.k42_stamp.specs.Orders.{In}
use Rattle.k42_stamp.specs.Parts.{those_at}
use Rattle.k42_stamp.proofs.Elements.{in_left}
use Rattle.k42_joined.specs.Plain.{Joined}
use Rattle.k42_joined.specs.Answers.{AreAnswered}
use Rattle.k42_joined.specs.Drawing.{FoundOver, IsDrawnAs, MayDraw}
use Rattle.k42_joined.specs.Effects.{kept_drawn}
use Rattle.k42_joined.specs.Fitting.{Fitting}
use Rattle.k42_joined.specs.Locks.{AreLocked}
use Rattle.k42_joined.specs.Numbers.{cell_of}
use Rattle.k42_joined.specs.Rows.{history_in}
use Rattle.k42_joined.specs.State.{many_procs, many_callers, incarnation, cell_in, mine, many_hands}
use Rattle.k42_joined.proofs.AnswersDraws.{call_answers, mark_answers}
use Rattle.k42_joined.proofs.AnswersRows.{IsUpTo, RowsAt, rows_at, many_past, done_at}
use Rattle.k42_joined.proofs.RowsCalls.{IsDrawn}
use Rattle.k42_joined.proofs.RowsDraw.{IsCoreDraw}
use Rattle.k42_joined.proofs.RowsHistories.{at_present_life}
use Rattle.k42_joined.proofs.RowsStamps.{above_cell}

module _ {S L P O R : Type 0} (F : Layouts S L P O R) (laws : AreLaws F) (declared : List L) (s : Joined L O R)
    (sound : phases.IsSound s.phases) (turns_sound : turns.IsSound s.turns) (locked : AreLocked s) (rows : Fitting F declared s)
    (answered : AreAnswered s) (c : ℕ) (cells : List ℕ) (e : Entry O R) (there : c < many_callers s) (core : IsCoreDraw s.turns c cells e)
    (drawn : IsDrawn F declared s c cells e) where
  abbrev o : ℕ
  o = e.object

  abbrev i : ℕ
  i = incarnation s e.object

  at : RowsAt F laws declared s turns_sound locked rows answered o
  at = rows_at F laws declared s turns_sound locked rows answered o drawn.named

  past_now : length at.chain.past ≡ i
  past_now =
      let long = many_past F laws declared s turns_sound locked rows answered o at.declaration at.chain at.has in
      long ∙ now
    where
      now : many_hands s o ≡ i
      now = ⊎_elim (λ same. same)
          (λ more. let is = lt-ltb i (many_hands s o) (omega (arith, more)) in let not = drawn.not_handed in absurd (cc))
          (locked.counted o drawn.named).ahead

  some_procs : 0 < many_procs s
  some_procs = let some = laws.some in let procs = rows.told.procs in omega (arith, some, procs)

  history_first : history_in s o (length at.chain.past) 0 ≡ (cell_in s o i 0).history
  history_first =
      ap (λ row. history_in s o row 0) past_now
      ∙ at_present_life (cell_in s o i 0) (i / 2) (locked.lives o 0 drawn.named some_procs).present.past

  -- the entry with which the row began is in the history of its first cell
  first_below : (past : List (Turn L P O R)) → at.chain.past ≡ past → names cells (cell_of o i 0) ≡ true → (f : Entry O R) → IsUpTo past f → f.stamp < e.stamp
  first_below [] is named f low = absurd low
  first_below (turn ∷ past) is named f low =
      let left = at.has.rows.fits.left 0 laws.some in
      let begun : In turn.done (first_of at.chain.past) = subst (λ p. In turn.done (first_of p)) (sym is) (inl refl) in
      let inside : In turn.done (history_in s o (length at.chain.past) 0) =
      subst (λ (h : List (Entry O R)). In turn.done h) (sym left) (in_left turn.done (first_of at.chain.past) (those_at F at.chain.row.layout 0 at.chain.row.entries) begun) in
      let less = above_cell s.turns turns_sound c cells e core.next (cell_of o i 0) named turn.done (subst (λ (h : List (Entry O R)). In turn.done h) history_first inside) in
      omega (arith, less, low)

  mark_last : names cells (cell_of o i 0) ≡ true → (d n : ℕ) (other : Entry O R) → d < many_callers s → In other (mine s d) → other.object ≡ o
      → other.answer ≡ Swapped n → other.stamp < e.stamp
  mark_last named d n other within listed same answer =
      let is = done_at F laws declared s turns_sound locked rows answered d n other within listed answer o same at in
      first_below at.chain.past refl named other is.stamp

  mark_named : FoundOver F declared s c cells e → names cells (cell_of o i 0) ≡ true
  mark_named mark =
      rw mark.first (ap (λ j. eqb (cell_of o j 0) (cell_of o i 0) || false) mark.present ∙ ap (λ b. b || false) (eq-eqb (cell_of o i 0) (cell_of o i 0) refl))

  -- an entry drawn at cells
  drawn_by : (act : Act O) → e.act ≡ act → IsDrawnAs F declared s c cells e act
      → AreAnswered (record s { turns = turn_events.effect s.turns (Draw c cells e); kept = kept_drawn s c false })
  drawn_by (Call op) is call =
      call_answers s locked answered c there e cells op call.reply is call.answer drawn.named drawn.present
  drawn_by (Swap to) is mark =
      mark_answers s locked answered c there e cells (ap is_call is) mark.over mark.begun mark.found drawn.present (mark_last (mark_named mark))

  pub draw_keeps_answers : MayDraw F declared s c cells e
      → AreAnswered (record s { turns = turn_events.effect s.turns (Draw c cells e); kept = kept_drawn s c false })
  draw_keeps_answers may = drawn_by e.act refl may.act
