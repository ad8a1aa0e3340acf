-- A watched layout keeps the laws of layouts.
use Rattle.std.specs.Prelude.{◌≡◌, ℕ, zero, suc, ◌<◌, Bool, true, false, IsTrue, if◌then◌else◌, List, [], ◌∷◌, length, Option, Some, None, refl, option_map}
use Rattle.std.proofs.Common.{ap, sym, subst, ◌∙◌, inl, inr, arith}
use Rattle.std.specs.List.{AllByRecursion}
use Rattle.k42_shapes.specs.declared.shape.Shape.{Shape}
use Rattle.k42_shapes.specs.declared.shape.Shape.TheVariants as shapes
use Rattle.k42_shapes.specs.Shapes.{cells_of, shape_at}
use Rattle.k42_shapes.proofs.ShapeLaws.{some_cells}
use Rattle.k42_kinds.specs.OneThread.{OneThread}
use Rattle.k42_kinds.specs.Histories.{state_moved, is_call}
use Rattle.k42_kinds.specs.Rows.{Ways, changed_at, part_at, made_from, IsWithin}
use Rattle.k42_kinds.specs.LayoutLaws.{StepsRow, StandsFor, Agree, Begins, Imports, AdmitsAsSwapped}
use Rattle.k42_kinds.specs.Watched.{Asking, counted, watch_state, watched}
use Rattle.k42_kinds.specs.declared.entry.Reach.{Reach}
use Rattle.k42_kinds.specs.declared.entry.Reach.TheVariants.{One, All}
use Rattle.k42_kinds.specs.declared.entry.Act.{Act}
use Rattle.k42_kinds.specs.declared.entry.Act.TheVariants.{Swap}
use Rattle.k42_kinds.specs.declared.entry.To.TheVariants as tos
use Rattle.k42_kinds.specs.declared.entry.Answer.TheVariants.{Swapped}
use Rattle.k42_kinds.specs.declared.watch.WatchState.{WatchState}
use Rattle.k42_watch.specs.Bare.{TakesNoSeen, KeepsState, AsksByTag}
use Rattle.k42_watch.specs.WatchedRows.{inners, seens, count_of, CountsNot, IsSmall, AreAlike, Within, within, asking_reach, watched_ways, IsWatchedRow, ServesWatched}
use Rattle.k42_watch.specs.WatchedRows.{seen_under, admitted_watched, act_under, watched_act}
use Rattle.k42_watch.specs.CountLaws.{length-changed, length-inners, length-seens, none-same, count-none, count-counted, alike-changed, small-changed}
use Rattle.k42_watch.specs.CountLaws.{count-small, none-small, count-alone, inners-rejoined, seens-rejoined, inners-shared, alike-shared, small-shared, dead-shared, count-shared}
use Rattle.k42_watch.specs.declared.watch.Layer.{Layer}
use Rattle.k42_watch.specs.declared.watch.Layer.TheVariants.{Keep, Place, Take}
use Rattle.k42_watch.specs.declared.watch.WatchPart.{WatchPart}

-- what the watched object tells of the object within
abbrev stripped : {S O R : Type 0} → Asking O R → OneThread (WatchState S) O R → OneThread S O R
stripped asking w = record {
  start = w.start.inner;
  takes = λ op. if asking.asks op then false else w.takes op;
  after = λ state op. (w.after (watch_state state None) op).inner;
  reply = λ state op. if asking.asks op then asking.tells true None else w.reply (watch_state state None) op;
  swapped = λ state to. (w.swapped (watch_state state None) to).inner;
  is_ended = λ state. w.is_ended (watch_state state None);
}

module _ {S O R : Type 0} (asking : Asking O R) (o : OneThread S O R) (no_seen : TakesNoSeen asking o) where
  same_takes : (op : O) (b : Bool) → asking.asks op ≡ b → (stripped asking (watched asking o)).takes op ≡ o.takes op
  same_takes op true is = rw is (sym (no_seen.takes op is))
  same_takes op false is = rw is refl

  same_after : (state : S) (op : O) (b : Bool) → asking.asks op ≡ b → (stripped asking (watched asking o)).after state op ≡ o.after state op
  same_after state op true is = rw is (sym (no_seen.after op is state))
  same_after state op false is = rw is refl

  same_reply : (state : S) (op : O) (b : Bool) → asking.asks op ≡ b → (stripped asking (watched asking o)).reply state op ≡ o.reply state op
  same_reply state op true is = rw is (sym (no_seen.reply op is state))
  same_reply state op false is = rw is refl

  pub stripped_back : stripped asking (watched asking o) ≡ o
  stripped_back = λ i. record {
    start = o.start;
    takes = λ op. same_takes op (asking.asks op) refl i;
    after = λ state op. same_after state op (asking.asks op) refl i;
    reply = λ state op. same_reply state op (asking.asks op) refl i;
    swapped = o.swapped;
    is_ended = o.is_ended;
  }

-- objects are one where the watched ones are
pub inner_same : {S O R : Type 0} (asking : Asking O R) (one other : OneThread S O R) → TakesNoSeen asking one → TakesNoSeen asking other → watched asking one ≡ watched asking other → one ≡ other
inner_same asking one other first second same = sym (stripped_back asking one first) ∙ (ap (stripped asking) same ∙ stripped_back asking other second)

pub some_of : {p procs : ℕ} → p < procs → 0 < procs
some_of less = omega (arith, less)

module _ {S P O R : Type 0} (asking : Asking O R) (ways : Ways S P O R) (known : Within) (op : O) (not : asking.asks op ≡ false) where
  pub inners-changed : (row : List (WatchPart P)) (cell : ℕ)
      → inners (changed_at (λ part. (watched_ways asking known ways).part_after part op) row cell) ≡ changed_at (λ part. ways.part_after part op) (inners row) cell
  inners-changed [] cell = refl
  inners-changed (part ∷ row) zero = rw not refl
  inners-changed (part ∷ row) (suc cell) = ap (λ (rest : List _). part.inner ∷ rest) (inners-changed row cell)

  pub seens-changed : (row : List (WatchPart P)) (cell : ℕ) → seens (changed_at (λ part. (watched_ways asking known ways).part_after part op) row cell) ≡ changed_at counted (seens row) cell
  seens-changed [] cell = refl
  seens-changed (part ∷ row) zero = rw not refl
  seens-changed (part ∷ row) (suc cell) = ap (λ (rest : List (Option ℕ)). part.seen ∷ rest) (seens-changed row cell)

  pub replied-changed : (row : List (WatchPart P)) (cell : ℕ)
      → option_map (λ part. (watched_ways asking known ways).part_reply part op) (part_at row cell) ≡ option_map (λ part. ways.part_reply part op) (part_at (inners row) cell)
  replied-changed [] cell = refl
  replied-changed (part ∷ row) zero = rw not refl
  replied-changed (part ∷ row) (suc cell) = replied-changed row cell

after_counts : {S O R : Type 0} (asking : Asking O R) (o : OneThread S O R) (state : WatchState S) (op : O)
    → asking.asks op ≡ false → (watched asking o).after state op ≡ watch_state (o.after state.inner op) (counted state.seen)
after_counts asking o state op not = rw not refl

-- an operation at one cell is the step of the watched object
steps_at : {S P O R : Type 0} (asking : Asking O R) (o : OneThread S O R) (ways : Ways S P O R) (Whole : List P → Type 0) (known : Within) (row : List (WatchPart P)) (op : O) (cell : ℕ)
    → asking.asks op ≡ false → cell < length (seens row) → StepsRow o ways Whole (inners row) op (One cell) → IsWatchedRow known Whole row
    → StepsRow (watched asking o) (watched_ways asking known ways) (IsWatchedRow known Whole) row op (One cell)
steps_at asking o ways Whole known row op cell not there steps kept =
    let inner = inners-changed asking ways known op not row cell in
    let seen = seens-changed asking ways known op not row cell in
    record {
      whole = record {
        inner = subst Whole (sym inner) steps.whole;
        alike = subst AreAlike (sym seen) (alike-changed (seens row) cell kept.alike);
        small = subst (AllByRecursion IsSmall) (sym seen) (small-changed (seens row) cell kept.small);
        dead = λ is. subst (AllByRecursion CountsNot) (sym (seen ∙ none-same (seens row) cell (kept.dead is))) (kept.dead is);
      };
      moved = (λ i. watch_state ((ap ways.combine inner ∙ steps.moved) i) ((ap count_of seen ∙ count-counted (seens row) cell there kept.alike) i))
          ∙ sym (after_counts asking o (watch_state (ways.combine (inners row)) (count_of (seens row))) op not);
      replied = replied-changed asking ways known op not row cell ∙ (steps.replied ∙ ap Some (rw not refl));
    }

-- an operation at all cells counts at the first
steps_all_at : {S P O R : Type 0} (asking : Asking O R) (o : OneThread S O R) (ways : Ways S P O R) (Whole : List P → Type 0) (known : Within) (row : List (WatchPart P)) (op : O)
    → asking.asks op ≡ false → 0 < length row → length (ways.row_after (inners row) op) ≡ length row → StepsRow o ways Whole (inners row) op All → IsWatchedRow known Whole row
    → StepsRow (watched asking o) (watched_ways asking known ways) (IsWatchedRow known Whole) row op All
steps_all_at asking o ways Whole known row op not some same steps kept =
    let after = ways.row_after (inners row) op in
    let news = changed_at counted (seens row) 0 in
    let size : length after ≡ length news = same ∙ (sym (length-seens row) ∙ sym (length-changed counted (seens row) 0)) in
    let inner = inners-rejoined after news in
    let seen = seens-rejoined after news size in
    let there : 0 < length (seens row) = subst (λ n. 0 < n) (sym (length-seens row)) some in
    record {
      whole = rw not (record {
        inner = subst Whole (sym inner) steps.whole;
        alike = subst AreAlike (sym seen) (alike-changed (seens row) 0 kept.alike);
        small = subst (AllByRecursion IsSmall) (sym seen) (small-changed (seens row) 0 kept.small);
        dead = λ is. subst (AllByRecursion CountsNot) (sym (seen ∙ none-same (seens row) 0 (kept.dead is))) (kept.dead is);
      });
      moved = rw not (λ i. watch_state ((ap ways.combine inner ∙ steps.moved) i) ((ap count_of seen ∙ count-counted (seens row) 0 there kept.alike) i));
      replied = rw not steps.replied;
    }

seen_within : (shape : Shape) (procs : ℕ) → 0 < procs → IsWithin (cells_of shape procs) (asking_reach shape)
seen_within shapes.One procs some = omega arith
seen_within shapes.Each procs some = some
seen_within (shapes.Groups width) procs some = some_cells (shapes.Groups width) procs some

pub reaches_watched : {S P O R : Type 0} (asking : Asking O R) (o : OneThread S O R) (ways : Ways S P O R) (known : Within) (procs proc : ℕ) (op : O) (b : Bool) → asking.asks op ≡ b → 0 < procs
    → (IsTrue (o.takes op) → IsWithin (cells_of known.shape procs) (ways.reach procs op proc))
    → IsTrue ((watched asking o).takes op) → IsWithin (cells_of known.shape procs) ((watched_ways asking known ways).reach procs op proc)
reaches_watched asking o ways known procs proc op false is some within takes = rw is (within (rw is at takes))
reaches_watched asking o ways known procs proc op true is some within takes = rw is (seen_within known.shape procs some)

-- who asks for the count leaves the row, and is told what all count together
module _ {S P O R : Type 0} (asking : Asking O R) (o : OneThread S O R) (ways : Ways S P O R) (Whole : List P → Type 0) (known : Within) (row : List (WatchPart P)) (op : O) (is : asking.asks op ≡ true)
    (kept : IsWatchedRow known Whole row) (ends : o.is_ended (ways.combine (inners row)) ≡ known.dead) where
  told_all : Some (asking.tells known.dead (count_of (seens row))) ≡ Some (asking.tells (o.is_ended (ways.combine (inners row))) (count_of (seens row)))
  told_all = ap (λ dead. Some (asking.tells dead (count_of (seens row)))) (sym ends)

  seen_all : StepsRow (watched asking o) (watched_ways asking known ways) (IsWatchedRow known Whole) row op All
  seen_all = record { whole = rw is kept; moved = rw is refl; replied = rw is told_all }

-- and at one cell, where there is no other
seen_one : {S P O R : Type 0} (asking : Asking O R) (o : OneThread S O R) (ways : Ways S P O R) (Whole : List P → Type 0) (known : Within) (row : List (WatchPart P)) (op : O) → asking.asks op ≡ true
    → IsWatchedRow known Whole row → o.is_ended (ways.combine (inners row)) ≡ known.dead → length row ≡ 1
    → StepsRow (watched asking o) (watched_ways asking known ways) (IsWatchedRow known Whole) row op (One 0)
seen_one asking o ways Whole known [] op is kept ends alone = absurd cc
seen_one asking o ways Whole known (part ∷ []) op is kept ends alone = record {
  whole = rw is kept;
  moved = rw is refl;
  replied = rw is (ap (λ seen. Some (asking.tells known.dead seen)) (count-alone part.seen kept.small.0) ∙ told_all asking o ways Whole known (part ∷ []) op is kept ends);
}
seen_one asking o ways Whole known (part ∷ other ∷ row) op is kept ends alone = absurd cc

module _ {S P O R : Type 0} (asking : Asking O R) (o : OneThread S O R) (ways : Ways S P O R) (Whole : List P → Type 0) (Serves : S → Type 0) (known : Within) (procs : ℕ) (some : 0 < procs)
    (stands : (parts : List P) → Whole parts → StandsFor ways Serves known.shape procs parts) (ends : (state : S) → Serves state → o.is_ended state ≡ known.dead)
    (row : List (WatchPart P)) (op : O) (kept : IsWatchedRow known Whole row) where
  sized : length row ≡ cells_of known.shape procs
  sized = sym (length-inners row) ∙ (stands (inners row) kept.inner).sized

  ended : o.is_ended (ways.combine (inners row)) ≡ known.dead
  ended = ends (ways.combine (inners row)) (stands (inners row) kept.inner).served

  filled : 0 < length row
  filled = subst (λ n. 0 < n) (sym sized) (some_cells known.shape procs some)

  seen_steps : (shape : Shape) → known.shape ≡ shape → asking.asks op ≡ true → StepsRow (watched asking o) (watched_ways asking known ways) (IsWatchedRow known Whole) row op (asking_reach shape)
  seen_steps shapes.One its is = seen_one asking o ways Whole known row op is kept ended (sized ∙ ap (λ (shape : Shape). cells_of shape procs) its)
  seen_steps shapes.Each its is = seen_all asking o ways Whole known row op is kept ended
  seen_steps (shapes.Groups width) its is = seen_all asking o ways Whole known row op is kept ended

  pub all_steps : (b : Bool) → asking.asks op ≡ b → IsTrue ((watched asking o).takes op) → (IsTrue (o.takes op) → StepsRow o ways Whole (inners row) op All)
      → StepsRow (watched asking o) (watched_ways asking known ways) (IsWatchedRow known Whole) row op All
  all_steps true is takes own = seen_all asking o ways Whole known row op is kept ended
  all_steps false is takes own =
      let steps = own (rw is at takes) in
      steps_all_at asking o ways Whole known row op is filled ((stands (ways.row_after (inners row) op) steps.whole).sized ∙ sym sized) steps kept

  own_steps : (reach : Reach) → asking.asks op ≡ false → StepsRow o ways Whole (inners row) op reach → IsWithin (cells_of known.shape procs) reach
      → StepsRow (watched asking o) (watched_ways asking known ways) (IsWatchedRow known Whole) row op reach
  own_steps (One cell) is steps within = steps_at asking o ways Whole known row op cell is (subst (λ n. cell < n) (sym (length-seens row ∙ sized)) within) steps kept
  own_steps All is steps within = steps_all_at asking o ways Whole known row op is filled ((stands (ways.row_after (inners row) op) steps.whole).sized ∙ sym sized) steps kept

  pub reached_steps : (proc : ℕ) (b : Bool) → asking.asks op ≡ b → IsTrue ((watched asking o).takes op) → (IsTrue (o.takes op) → StepsRow o ways Whole (inners row) op (ways.reach procs op proc))
      → (IsTrue (o.takes op) → IsWithin (cells_of known.shape procs) (ways.reach procs op proc))
      → StepsRow (watched asking o) (watched_ways asking known ways) (IsWatchedRow known Whole) row op ((watched_ways asking known ways).reach procs op proc)
  reached_steps proc true is takes own within = subst (StepsRow (watched asking o) (watched_ways asking known ways) (IsWatchedRow known Whole) row op) (sym (rw is refl)) (seen_steps known.shape refl is)
  reached_steps proc false is takes own within =
      subst (StepsRow (watched asking o) (watched_ways asking known ways) (IsWatchedRow known Whole) row op) (sym (rw is refl))
      (own_steps (ways.reach procs op proc) is (own (rw is at takes)) (within (rw is at takes)))

pub stands_watched : {S P O R : Type 0} (asking : Asking O R) (ways : Ways S P O R) (Whole : List P → Type 0) (Serves : S → Type 0) (known : Within) (procs : ℕ) (row : List (WatchPart P))
    → IsWatchedRow known Whole row → StandsFor ways Serves known.shape procs (inners row) → StandsFor (watched_ways asking known ways) (ServesWatched known Serves) known.shape procs row
stands_watched asking ways Whole Serves known procs row kept stands = record {
  sized = sym (length-inners row) ∙ stands.sized;
  served = record { inner = stands.served; small = count-small (seens row); dead = λ is. count-none (seens row) (kept.dead is) };
}

inners-made : {S P O R : Type 0} (asking : Asking O R) (ways : Ways S P O R) (known : Within) (procs first many : ℕ)
    → inners (made_from ((watched_ways asking known ways).empty procs) first many) ≡ made_from (ways.empty procs) first many
inners-made asking ways known procs first zero = refl
inners-made asking ways known procs first (suc many) = ap (λ (rest : List _). ways.empty procs first ∷ rest) (inners-made asking ways known procs (suc first) many)

none-made : {S P O R : Type 0} (asking : Asking O R) (ways : Ways S P O R) (known : Within) (procs first many : ℕ)
    → AllByRecursion CountsNot (seens (made_from ((watched_ways asking known ways).empty procs) first many))
none-made asking ways known procs first zero = tt
none-made asking ways known procs first (suc many) = (tt, none-made asking ways known procs (suc first) many)

pub begins_watched : {S P O R : Type 0} (asking : Asking O R) (o : OneThread S O R) (ways : Ways S P O R) (Whole : List P → Type 0) (tags : List Shape) (tag procs : ℕ) → Begins o ways Whole tags tag procs
    → Begins (watched asking o) (watched_ways asking (within tags tag) ways) (IsWatchedRow (within tags tag) Whole) tags tag procs
begins_watched asking o ways Whole tags tag procs begins =
    let inner = inners-made asking ways (within tags tag) procs 0 (cells_of (shape_at tags tag) procs) in
    let none = none-made asking ways (within tags tag) procs 0 (cells_of (shape_at tags tag) procs) in
    record {
      whole = record {
        inner = subst Whole (sym inner) begins.whole;
        alike = inl none;
        small = none-small _ none;
        dead = λ is. none;
      };
      empty = λ live. λ i. watch_state ((ap ways.combine inner ∙ begins.empty live) i) (count-none _ none i);
    }

pub imports_watched : {S P O R : Type 0} (asking : Asking O R) (ways : Ways S P O R) (Whole : List P → Type 0) (Serves : S → Type 0) (known : Within) (procs : ℕ) (state : WatchState S) → 0 < procs
    → ServesWatched known Serves state → Imports ways Whole procs state.inner → ((parts : List P) → Whole parts → StandsFor ways Serves known.shape procs parts)
    → Imports (watched_ways asking known ways) (IsWatchedRow known Whole) procs state
imports_watched asking ways Whole Serves known procs state some kept imports stands =
    let parts = ways.imported procs state.inner in
    let inner = inners-shared state.seen parts in
    let filled : 0 < length parts = subst (λ n. 0 < n) (sym (stands parts imports.whole).sized) (some_cells known.shape procs some) in
    record {
      whole = record {
        inner = subst Whole (sym inner) imports.whole;
        alike = alike-shared state.seen parts;
        small = small-shared state.seen parts kept.small;
        dead = λ is. dead-shared state.seen parts (kept.dead is);
      };
      back = λ i. watch_state ((ap ways.combine inner ∙ imports.back) i) (count-shared state.seen parts kept.small filled i);
    }

small_under : (layer : Layer) (seen : Option ℕ) → IsSmall seen → IsSmall (seen_under layer seen)
small_under Keep seen small = small
small_under Place seen small = omega arith
small_under Take seen small = tt

small_admitted : (b : Bool) (layer : Layer) (seen : Option ℕ) → IsSmall seen → IsSmall (if b then None else seen_under layer seen)
small_admitted true layer seen small = tt
small_admitted false layer seen small = small_under layer seen small

pub admits_watched : {S : Type 0} (Serves : S → Type 0) (admitted : S → S) (known : Within) (layer : Layer) (state : WatchState S) → IsSmall state.seen → Serves (admitted state.inner)
    → ServesWatched known Serves (admitted_watched known.dead layer admitted state)
admits_watched Serves admitted known layer state small served = record {
  inner = served;
  small = small_admitted known.dead layer state.seen small;
  dead = λ is. rw is refl;
}

-- a swap to a live layout leaves the state, and so do a watch and an unwatch
module _ {S O R : Type 0} (asking : Asking O R) (o : OneThread S O R) (keeps : KeepsState o) (inner admitted : S) (seen : Option ℕ) (number : ℕ) (act : Act O) (name : ℕ)
    (is : act ≡ Swap (tos.Layout name)) (same : o.swapped inner (tos.Layout name) ≡ admitted) where
  left : inner ≡ admitted
  left = sym (keeps inner (tos.Layout name) (λ dead. cc dead)) ∙ same

  swaps_live : (layer : Layer) → state_moved (watched asking o) (watch_state inner seen) (act_under layer act) (Swapped number) ≡ watch_state admitted (seen_under layer seen)
  swaps_live Keep = ap (λ (asked : Act O). state_moved (watched asking o) (watch_state inner seen) asked (Swapped number)) is ∙ ap (λ (state : S). watch_state state seen) same
  swaps_live Place = ap (λ (state : S). watch_state state (Some 0)) (keeps inner tos.Watch (λ dead. cc dead) ∙ left)
  swaps_live Take = ap (λ (state : S). watch_state state None) (keeps inner tos.Unwatch (λ dead. cc dead) ∙ left)

pub swaps_watched : {S O R : Type 0} (asking : Asking O R) (o : OneThread S O R) (admitted : S → S) (known : Within) (layer : Layer) (act : Act O) (state : WatchState S) → KeepsState o → AsksByTag known.dead act
    → AdmitsAsSwapped o act state.inner (admitted state.inner) → AdmitsAsSwapped (watched asking o) (watched_act known.dead layer act) state (admitted_watched known.dead layer admitted state)
swaps_watched {O} asking o admitted known layer act state keeps (inl live) swaps number =
    ap (λ (b : Bool). state_moved (watched asking o) state (if b then Swap tos.Dead else act_under layer act) (Swapped number)) live.live
    ∙ swaps_live asking o keeps state.inner (admitted state.inner) state.seen number act live.number live.act
    (subst (λ (asked : Act O). state_moved o state.inner asked (Swapped number) ≡ admitted state.inner) live.act (swaps number)) layer
    ∙ ap (λ (b : Bool). watch_state (admitted state.inner) (if b then None else seen_under layer state.seen)) (sym live.live)
swaps_watched {O} asking o admitted known layer act state keeps (inr dead) swaps number =
    ap (λ (b : Bool). state_moved (watched asking o) state (if b then Swap tos.Dead else act_under layer act) (Swapped number)) dead.ended
    ∙ ap (λ (left : _). watch_state left None) (subst (λ (asked : Act O). state_moved o state.inner asked (Swapped number) ≡ admitted state.inner) dead.act (swaps number))
    ∙ ap (λ (b : Bool). watch_state (admitted state.inner) (if b then None else seen_under layer state.seen)) (sym dead.ended)

asks_under : {O : Type 0} (layer : Layer) (act : Act O) → is_call act ≡ false → is_call (act_under layer act) ≡ false
asks_under Keep act asks = asks
asks_under Place act asks = refl
asks_under Take act asks = refl

asks_if : {O : Type 0} (b : Bool) (layer : Layer) (act : Act O) → is_call act ≡ false → is_call (if b then Swap tos.Dead else act_under layer act) ≡ false
asks_if true layer act asks = refl
asks_if false layer act asks = asks_under layer act asks

pub asks_watched : {O : Type 0} (dead : Bool) (layer : Layer) (act : Act O) → is_call act ≡ false → is_call (watched_act dead layer act) ≡ false
asks_watched dead layer act asks = asks_if dead layer act asks

pub agree_watched : {S P O R : Type 0} (asking : Asking O R) (these those : Ways S P O R) (Whole Other : ℕ → List P → Type 0) (Serves OtherServes : S → Type 0) (known others : Within)
    → known ≡ others → Agree these those Whole Other Serves OtherServes
    → Agree (watched_ways asking known these) (watched_ways asking others those) (λ procs. IsWatchedRow known (Whole procs)) (λ procs. IsWatchedRow others (Other procs))
    (ServesWatched known Serves) (ServesWatched others OtherServes)
agree_watched asking these those Whole Other Serves OtherServes known others same is = record {
  ways = λ i. watched_ways asking (same i) (is.ways i);
  whole = λ procs row kept. record { inner = is.whole procs (inners row) kept.inner; alike = kept.alike; small = kept.small; dead = λ dead. kept.dead (ap (λ (w : Within). w.dead) same ∙ dead) };
  served = λ state kept. record { inner = is.served state.inner kept.inner; small = kept.small; dead = λ dead. kept.dead (ap (λ (w : Within). w.dead) same ∙ dead) };
}
