-- What the rows tell of carried-out swaps.
use Rattle.std.proofs.Common.{◌≡◌, ℕ, suc, ◌+◌, ◌<◌, ◌≤◌, ◌∙◌, Bool, true, false, List, [], ◌∷◌, ◌++◌, Some, length, refl, sym, ap, subst, inl, ⊎_elim, length-append, arith}
use Rattle.std.specs.List.{slice_get}
use Rattle.std.proofs.lemmas.Bool.{ltb-true}
use Rattle.std.proofs.lemmas.List.{length-map}
use Rattle.std.proofs.lemmas.Option.{same_Some}
use Rattle.k42_shapes.specs.declared.shape.Shape.{Shape}
use Rattle.k42_kinds.specs.Histories.{is_call}
use Rattle.k42_kinds.specs.OneThread.{OneThread}
use Rattle.k42_kinds.specs.declared.entry.Act.{Act}
use Rattle.k42_kinds.specs.declared.entry.Act.TheVariants.{Call, Swap}
use Rattle.k42_kinds.specs.declared.entry.Answer.{Answer}
use Rattle.k42_kinds.specs.declared.entry.Answer.TheVariants.{Replied, Swapped}
use Rattle.k42_kinds.specs.declared.entry.Entry.{Entry}
use Rattle.phase_core.specs.declared.caller.SwapAt.TheVariants.{Moved}
use Rattle.turn_core.specs.Sound as turns
use Rattle.k42_stamp.specs.Chains.{Row, Turn, Chain, past_entries, entries_of}
use Rattle.k42_stamp.specs.Fits.{IsCallOrMark, IsEntryOf, IsHandOf, IsBegun, IsAbove, IsRow, ArePast, Fits}
use Rattle.k42_stamp.specs.Laws.{AreLaws}
use Rattle.k42_stamp.specs.Layouts.{Layouts}
use Rattle.k42_stamp.specs.Lists.{InSome, InRows, is_drawn}
use Rattle.k42_stamp.specs.Orders.{In}
use Rattle.k42_stamp.proofs.Elements.{all_at, in_left, in_right, in-append}
use Rattle.k42_stamp.proofs.Rowed.{rows_in_chain, chain_in_rows}
use Rattle.k42_joined.specs.Plain.{Joined}
use Rattle.k42_joined.specs.Answers.{AreAnswered}
use Rattle.k42_joined.specs.Fitting.{lists_of, HasRows, Fitting}
use Rattle.k42_joined.specs.Locks.{AreLocked}
use Rattle.k42_joined.specs.Rows.{history_in}
use Rattle.k42_joined.specs.State.{many_callers, many_objects, incarnation, swap_of, mine, layouts_of, many_hands, is_handed}
use Rattle.k42_joined.proofs.RowsCalls.{some_at}
use Rattle.k42_joined.proofs.RowsCells.{list_here}
use Rattle.k42_joined.proofs.RowsStamps.{in_own}

-- a swap that was carried out is no call, and none of a row's entries
not_served : {S O R : Type 0} (one : OneThread S O R) (shapes : List Shape) (tag number n : ℕ) (act : Act O) (answer : Answer R) → answer ≡ Swapped n → is_call act ≡ false
    → IsCallOrMark one shapes tag number act answer → ⊥
not_served one shapes tag number n (Call op) answer is call served = cc
not_served one shapes tag number n (Swap to) (Swapped k) is call served = served
not_served one shapes tag number n act answer is call served = cc

drawn_swap : {O : Type 0} (R : Type 0) (act : Act O) (n : ℕ) → is_drawn {R = R} act (Swapped n) ≡ true
drawn_swap R (Call op) n = refl
drawn_swap R (Swap to) n = refl

-- the stamp is at most that of the entry with which the row after these began
abbrev pub IsUpTo : {L P O R : Type 0} → List (Turn L P O R) → Entry O R → Type 0
IsUpTo [] e = ⊥
IsUpTo (turn ∷ past) e = e.stamp ≤ turn.done.stamp

pub record IsDoneIn {L P O R : Type 0} (past : List (Turn L P O R)) (e : Entry O R) (n : ℕ) : Type 0 where
  pub number : n ≤ length past
  pub stamp : IsUpTo past e

module _ {S L P O R : Type 0} (F : Layouts S L P O R) (declared : L) (o : ℕ) (e : Entry O R) (n : ℕ) (answer : e.answer ≡ Swapped n) (call : is_call e.act ≡ false) where
  pub not_in_row : (past : List (Turn L P O R)) (row : Row L P O R) → IsRow F declared o past row → In e row.entries → ⊥
  not_in_row past row is inside =
      let own : IsEntryOf F row.layout o (length past) e = all_at (IsEntryOf F row.layout o (length past)) row.entries e is.own inside in
      not_served (F.object_of row.layout) (F.shapes_of row.layout) (F.tag_of row.layout) (length past) n e.act e.answer answer call own.served

  later : (past : List (Turn L P O R)) (turn : Turn L P O R) (f : Entry O R) → IsAbove past turn.done → IsUpTo past f → f.stamp ≤ turn.done.stamp
  later [] turn f above low = absurd low
  later (last ∷ past) turn f above low = omega (arith, above, low)

  pub same_swap : (k : ℕ) (f : Entry O R) → e ≡ f → f.answer ≡ Swapped k → n ≡ k
  same_swap k f same is =
      let told : Swapped n ≡ Swapped k = sym answer ∙ ap (λ (g : Entry O R). g.answer) same ∙ is in number told
    where
      number : {m k : ℕ} → ◌≡◌ {A = Answer R} (Swapped m) (Swapped k) → m ≡ k
      number same = cc

  in_past : (past : List (Turn L P O R)) (row : Row L P O R) → IsRow F declared o past row → ArePast F declared o past → In e (past_entries past) → IsDoneIn past e n
  in_past [] row is turns inside = absurd inside
  in_past (turn ∷ past) row is turns inside =
      ⊎_elim {C = IsDoneIn (turn ∷ past) e n}
      (λ (before : In e (past_entries past)).
      let old = in_past past turn.row turns.0.row turns.1 before in
      let number = old.number in
      record { number = omega (arith, number); stamp = later past turn e turns.0.higher old.stamp })
      (λ (here : In e (turn.row.entries ++ turn.done ∷ [])). ⊎_elim {C = IsDoneIn (turn ∷ past) e n}
      (λ (inside' : In e turn.row.entries). absurd (not_in_row past turn.row turns.0.row inside'))
      (λ (last : In e (turn.done ∷ [])). ⊎_elim {C = IsDoneIn (turn ∷ past) e n}
      (λ (same : e ≡ turn.done). record {
        number = let number = same_swap (suc (length past)) turn.done same is.begun.answer in omega (arith, number);
        stamp = let stamp = ap (λ (g : Entry O R). g.stamp) same in omega (arith, stamp);
      })
      (λ none. absurd none) last)
      (in-append e turn.row.entries (turn.done ∷ []) here))
      (in-append e (past_entries past) (turn.row.entries ++ turn.done ∷ []) inside)

module _ {S L P O R : Type 0} (F : Layouts S L P O R) (laws : AreLaws F) (declared : List L) (s : Joined L O R)
    (turns_sound : turns.IsSound s.turns) (locked : AreLocked s) (rows : Fitting F declared s) (answered : AreAnswered s) where
  pub many_past : (o : ℕ) (declaration : L) (x : Chain L P O R) → HasRows F s o declaration x → length x.past ≡ many_hands s o
  many_past o declaration x has =
      let long = ap length has.rows.layouts in
      let mapped = length-map x.past (λ (turn : Turn L P O R). turn.row.layout) in
      let more = length-append (layouts_of s o) (declaration ∷ []) in
      omega (arith, long, mapped, more)

  -- the rows of an object that is there
  pub record RowsAt (o : ℕ) : Type 0 where
    pub declaration : L
    pub declares : slice_get declared o ≡ Some declaration
    pub chain : Chain L P O R
    pub at : slice_get rows.chains o ≡ Some chain
    pub has : HasRows F s o declaration chain

  pub rows_at : (o : ℕ) → o < many_objects s → RowsAt o
  rows_at o named =
      let d = some_at declared o (rw rows.objects named) in
      let x = some_at rows.chains o (rw (rows.many, rows.objects) named) in
      record { declaration = d.0; declares = d.1; chain = x.0; at = x.1; has = rows.each o d.0 x.0 d.1 x.1 }

  listed : (d : ℕ) (e : Entry O R) → d < many_callers s → In e (mine s d) → InSome (lists_of s) e
  listed d e there is = record { place = d; list = mine s d; there = list_here s d (rw locked.many.callers there); has = is }

  pub no_call : (d n : ℕ) (e : Entry O R) → d < many_callers s → In e (mine s d) → e.answer ≡ Swapped n → (b : Bool) → is_call e.act ≡ b → b ≡ false
  no_call d n e there is answer true call =
      let reply = ((answered d there).each e is).replied call in
      let told : Swapped n ≡ Replied reply.0 = sym answer ∙ reply.1 in absurd (cc)
  no_call d n e there is answer false call = refl

  -- a carried-out swap stands among the entries of its object's rows
  pub entry_in_chain : (d n : ℕ) (e : Entry O R) → d < many_callers s → In e (mine s d) → e.answer ≡ Swapped n → (at : RowsAt e.object) → In e (entries_of at.chain)
  entry_in_chain d n e there is answer at =
      let placed = rows.those.placed e (listed d e there is) (subst (λ a. is_drawn e.act a ≡ true) (sym answer) (drawn_swap R e.act n)) in
      let same : placed.chain ≡ at.chain = same_Some placed.chain at.chain (sym placed.there ∙ at.at) in
      rows_in_chain F at.declaration e.object (history_in s e.object) at.chain e at.has.rows.fits
      (subst (λ (x : Chain L P O R). InRows F.procs (length x.past) (history_in s e.object) e) same placed.has)

  -- it is the hand of one of the rows that were handed on
  pub done_in : (d n : ℕ) (e : Entry O R) → d < many_callers s → In e (mine s d) → e.answer ≡ Swapped n → (at : RowsAt e.object) → IsDoneIn at.chain.past e n
  done_in d n e there is answer at =
      let call = no_call d n e there is answer (is_call e.act) refl in
      ⊎_elim {C = IsDoneIn at.chain.past e n}
      (λ (before : In e (past_entries at.chain.past)).
      in_past F at.declaration e.object e n answer call at.chain.past at.chain.row at.has.rows.fits.row at.has.rows.fits.past before)
      (λ (now : In e at.chain.row.entries). absurd (not_in_row F at.declaration e.object e n answer call at.chain.past at.chain.row at.has.rows.fits.row now))
      (in-append e (past_entries at.chain.past) at.chain.row.entries (entry_in_chain d n e there is answer at))

  pub done_at : (d n : ℕ) (e : Entry O R) → d < many_callers s → In e (mine s d) → e.answer ≡ Swapped n → (o : ℕ) → e.object ≡ o → (at : RowsAt o)
      → IsDoneIn at.chain.past e n
  done_at d n e there is answer o same at =
      subst (λ r. (at : RowsAt r) → IsDoneIn at.chain.past e n) same (λ at. done_in d n e there is answer at) at

  pub done_handed : (d n : ℕ) (e : Entry O R) → d < many_callers s → In e (mine s d) → e.answer ≡ Swapped n → n ≤ many_hands s e.object
  done_handed d n e there is answer =
      let at = rows_at e.object ((answered d there).each e is).there in
      let low = (done_in d n e there is answer at).number in
      let many = many_past e.object at.declaration at.chain at.has in
      omega (arith, low, many)

  -- where a row was handed on, its swapper still moves the object
  pub record IsMover (o : ℕ) : Type 0 where
    pub caller : ℕ
    pub there : caller < many_callers s
    pub moves : swap_of s caller ≡ Moved o

  pub handed_moved : (o : ℕ) → o < many_objects s → is_handed s o ≡ true → IsMover o
  handed_moved o named handed =
      let at = rows_at o named in
      by_past at.chain.past refl at.has.rows.fits
    where
      at : RowsAt o
      at = rows_at o named

      more : incarnation s o < many_hands s o
      more = ltb-true (incarnation s o) (many_hands s o) handed

      by_past : (past : List (Turn L P O R)) → at.chain.past ≡ past → Fits F at.declaration o (history_in s o) at.chain → IsMover o
      by_past [] none fits = let long = many_past o at.declaration at.chain at.has in let is = ap length none in absurd (omega (arith, more, long, is))
      by_past (turn ∷ past) is fits =
          let begun : IsHandOf (F.act_of at.chain.row.layout) o (suc (length past)) turn.done = hand_of (turn ∷ past) is fits.row in
          let inside : In turn.done (entries_of at.chain) =
          in_left turn.done (past_entries at.chain.past) at.chain.row.entries
          (subst (λ p. In turn.done (past_entries p)) (sym is) (in_right turn.done (past_entries past) (turn.row.entries ++ turn.done ∷ []) (in_right turn.done turn.row.entries (turn.done ∷ []) (inl refl)))) in
          let some = rows.those.given o at.chain turn.done at.at (chain_in_rows F at.declaration o (history_in s o) laws at.chain turn.done fits inside)
          (subst (λ a. is_drawn turn.done.act a ≡ true) (sym begun.answer) (drawn_swap R turn.done.act (suc (length past)))) in
          let own = in_own s.turns turns_sound turn.done some in
          let there : turn.done.caller < many_callers s = rw (← locked.many.callers) own.0 in
          let long = many_past o at.declaration at.chain at.has in
          let is_long = ap length is in
          ⊎_elim {C = IsMover o}
          (λ (low : suc (length past) ≤ incarnation s turn.done.object).
          let same = ap (incarnation s) begun.object in absurd (omega (arith, low, same, more, long, is_long)))
          (λ (ahead : (suc (length past) ≡ incarnation s turn.done.object + 1) × (swap_of s turn.done.caller ≡ Moved turn.done.object)).
          record { caller = turn.done.caller; there = there; moves = ahead.1 ∙ ap Moved begun.object })
          (((answered turn.done.caller there).each turn.done own.1).done (suc (length past)) begun.answer)
        where
          hand_of : (p : List (Turn L P O R)) → at.chain.past ≡ p → IsRow F at.declaration o at.chain.past at.chain.row → IsBegun F at.declaration o p at.chain.row.layout
          hand_of p is row = subst (λ q. IsBegun F at.declaration o q at.chain.row.layout) is row.begun
