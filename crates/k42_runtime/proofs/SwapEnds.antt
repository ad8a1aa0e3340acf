-- What a pass has drawn that ends its swap.
use Rattle.std.proofs.Common.{◌≡◌, ℕ, ◌+◌, ◌-◌, ◌<◌, ◌≤◌, Bool, true, false, ◌||◌, cond, eqb, List, [], ◌∷◌, Some, None, Result, Ok, Err, length, refl, sym, ap, ◌∙◌, subst, arith}
use Rattle.std.specs.Result.{OnErr, OnOk, is_err}
use Rattle.std.proofs.lemmas.Bool.{ne_eqb}
use Rattle.std.proofs.lemmas.Option.{same_Some}
use Rattle.k42_limits.specs.declared.TheConstants.{LAST_INCARNATION}
use Rattle.k42_kinds.specs.declared.entry.Act.TheVariants.{Swap}
use Rattle.k42_kinds.specs.Histories.{is_call}
use Rattle.k42_kinds.specs.declared.entry.Act.{Act}
use Rattle.k42_kinds.specs.declared.entry.Answer.{Answer}
use Rattle.k42_kinds.specs.declared.entry.Answer.TheVariants.{Abandoned, Busy, Spent, Gone}
use Rattle.turn_core.specs.Events.{caller_locked}
use Rattle.k42_stamp.specs.Layouts.{Layouts}
use Rattle.phase_core.specs.declared.caller.SwapAt.TheVariants.{Idle, Opened, Reopening}
use Rattle.k42_joined.specs.Numbers.{cell_of}
use Rattle.k42_board.proofs.Gained.{extends_as, extends_one, extends_on, extends_follows}
use Rattle.k42_board.specs.Drawing.{entry_alone, alone_view, number_told, stamp_next}
use Rattle.k42_board.specs.Log.{ComesTo, Extends, last_found, step_at, took, with_log}
use Rattle.phase_core.specs.Stages.{is_moved}
use Rattle.k42_board.specs.Plan.{LayoutWords}
use Rattle.k42_board.specs.Seen.{PassSeen, SysSeen}
use Rattle.k42_board.specs.Swapping.{at_swap, cleared_view, object_swapped, clears, rows_ended, IsRestored}
use Rattle.k42_board.specs.Tabling.{is_over_in}
use Rattle.k42_board.specs.Taking.{LockFound, locked_view}
use Rattle.k42_board.specs.Values.{answer_in, layout_in, incarnation_in}
use Rattle.k42_board.specs.Views.{object_begun, word_begun, live_at}
use Rattle.k42_board.specs.Words.{lock_word, object_word, role_word}
use Rattle.k42_board.specs.declared.view.PassView.{PassView}
use Rattle.k42_board.specs.declared.view.StepName.TheVariants as names
use Rattle.k42_mediator.specs.Answers.{begun_in}
use Rattle.k42_mediator.specs.Entries.{IsNext}
use Rattle.k42_mediator.specs.Marks.{HasMarked, IsHeldBy, IsMarkAnswer, cell_marked}
use Rattle.k42_mediator.specs.declared.answers.Marked.{Marked}
use Rattle.k42_mediator.specs.declared.answers.Marked.TheVariants as marks
use Rattle.k42_mediator.specs.Swaps.{abandoned_view, HasGivenUp}
use Rattle.turn_core.specs.Stamps.{last_stamp}
use Rattle.k42_runtime.specs.Phases.{end_in}
use Rattle.k42_runtime.specs.Swaps.{HasFoundFree, IsSameCaller, HasSwapped, HasAbandoned, IsCellHeld, IsEndBy, answer_told, incarnation_told, cell_told}
use Rattle.k42_runtime.specs.declared.swaps.Swapped.TheVariants as ends
use Rattle.k42_kinds.specs.declared.entry.To.{To}

pub on_error : {A E X : Type 0} (result : Result A E) → is_err result ≡ true → OnErr result X → X
on_error (Err error) failed is = is
on_error (Ok value) failed is = absurd (cc)

-- an entry that is drawn at no cell
alone_next : {P O R : Type 0} (v : PassView P O R) (act : Act O) (answer : Answer R) (object incarnation : ℕ) → last_stamp v.taker.mine < stamp_next v [] → is_call act ≡ false
    → object_begun v.last ≡ object → number_told answer - 1 ≡ incarnation
    → IsNext v object incarnation 0 act answer (entry_alone v act answer)
alone_next v act answer object incarnation later act_is o i = record {
  later = later;
  whole = λ j. record {
    stamp = (entry_alone v act answer).stamp;
    caller = v.number;
    index = length v.taker.mine;
    object = o j;
    incarnation = i j;
    cell = 0;
    act = act;
    answer = answer;
    proc = v.turn.proc;
    generation = cond (act_is j) v.turn.active None;
  };
}

-- the swap was given up
pub gave_up : {S L P O R : Type 0} (F : Layouts S L P O R) (declared : List L) (live id object : ℕ) (to : To) (v w x : PassView P O R) → ComesTo v v w
    → x ≡ with_log x.log (abandoned_view (Swap to) w) → object_begun v.last ≡ object → HasFoundFree live v → v.turned ≡ false
    → object_swapped w ≡ object → (act : Act O) → act ≡ Swap to → last_stamp w.taker.mine < stamp_next w [] → HasGivenUp F declared id act w x → HasAbandoned live object to v x
gave_up {O = O} {R = R} F declared live id object to v w x kept knows begun free unturned swapped act same later given =
    let up = subst (λ (a : Act O). HasGivenUp F declared id a w x) same given in
    let is : x ≡ with_log x.log (abandoned_view (Swap to) v) =
    knows ∙ ap (λ (u : PassView _ O R). with_log x.log (abandoned_view (Swap to) u)) kept.knows in
    let last : x.last ≡ v.last = ap (λ (u : PassView _ O R). u.last) is in
    let k : ℕ = incarnation_in (word_begun v.last) in
    let found : ℕ = last_found x.log in
    let entry = entry_alone v (Swap to) (Abandoned (k + 1)) in
    let restored : IsRestored (word_begun w.last) (clears (Opened (object_swapped w)) found) =
    up.cleared.finds refl (ap (λ (u : PassView _ O R). u.turned) kept.knows ∙ unturned) in
    record {
      begun = ap object_begun last ∙ begun;
      free = ap (λ l. begun_in live (word_begun l)) last ∙ free;
      entry = entry;
      next =
          subst (λ l. IsNext v object (incarnation_in (word_begun l)) 0 (Swap to) (Abandoned (incarnation_in (word_begun l) + 1)) entry) (sym last)
          (alone_next v (Swap to) (Abandoned (k + 1)) object k (subst (λ (u : PassView _ O R). last_stamp u.taker.mine < stamp_next u []) kept.knows later) refl begun (less k));
      drawn = ap (λ (u : PassView _ O R). u.taker.mine) is;
      log = up.log;
      since = extends_follows (extends_on kept.log up.since);
      found = found;
      cleared =
          ap (λ (u : PassView _ O R). u.log) up.cleared.knows
          ∙ ap (λ (o : ℕ). step_at names.Clear (object_word o) found ∷ up.log) swapped;
      restored =
          subst (λ (z : ℕ × ℕ). IsRestored z.0 (clears (Opened z.1) found))
          (λ j. (word_begun ((ap (λ (u : PassView _ O R). u.last) kept.knows ∙ sym last) j), swapped j)) restored;
    }
  where
    less : (n : ℕ) → n + 1 - 1 ≡ n
    less n = omega arith

-- another swap was under way
pub refused : {P O R : Type 0} (object number : ℕ) (to : To) (w x : PassView P O R) → object_begun w.last ≡ object → last_stamp w.taker.mine < stamp_next w []
    → x ≡ took names.Draw role_word 0 (alone_view (entry_alone w (Swap to) (Busy number)) w) → HasSwapped object to (ends.Busy number) w x
refused {O = O} {R = R} object number to w x begun later knows = record {
  begun = ap (λ (u : PassView _ O R). object_begun u.last) knows ∙ begun;
  entry = entry_alone w (Swap to) (Busy number);
  next = alone_next w (Swap to) (Busy number) object (number - 1) later refl begun refl;
  drawn = ap (λ (u : PassView _ O R). u.taker.mine) knows;
}

-- what an object that is over answers
pub record IsOverTo {R : Type 0} (live word : ℕ) (answer : Answer R) : Type 0 where
  pub told : answer ≡ answer_told (end_in live word)
  pub incarnation : (other : ℕ) → incarnation_told (end_in live word) other ≡ incarnation_in other
  pub cell : (object other : ℕ) → cell_told object (end_in live word) other ≡ cell_of object (incarnation_in other) 0
  pub ends : IsEndBy live word (end_in live word)

pub over_ends : {R : Type 0} (live word : ℕ) (answer : Answer R) → is_over_in live word ≡ true → answer_in live word ≡ Some answer → IsOverTo live word answer
over_ends live word answer over told = go (eqb (layout_in word) live) (eqb (incarnation_in word) LAST_INCARNATION) refl refl where
  go : (dead last : Bool) → eqb (layout_in word) live ≡ dead → eqb (incarnation_in word) LAST_INCARNATION ≡ last → IsOverTo live word answer
  go true last e f = record {
    told = let same : Some Gone ≡ Some answer = rw e at told in rw e (sym (same_Some Gone answer same));
    incarnation = λ other. rw e refl;
    cell = λ object other. rw e refl;
    ends = rw e tt;
  }
  go false true e f = record {
    told = let same : Some Spent ≡ Some answer = rw (e, f) at told in rw e (sym (same_Some Spent answer same));
    incarnation = λ other. rw e refl;
    cell = λ object other. rw e refl;
    ends = rw (e, f) tt;
  }
  go false false e f = absurd (let no : true ≡ false = sym over ∙ (λ j. e j || f j) in cc)

-- by how many live layouts the object has
pub told_here : {R : Type 0} (word : ℕ) (answer : Answer R) (many live : ℕ) → many ≡ live → answer_in many word ≡ Some answer → answer_in live word ≡ Some answer
told_here {R} word answer many live same told = ap (λ (n : ℕ). answer_in {R = R} n word) (sym same) ∙ told

pub over_here : (word many live : ℕ) → many ≡ live → is_over_in many word ≡ true → is_over_in live word ≡ true
over_here word many live same over = ap (λ (n : ℕ). is_over_in n word) (sym same) ∙ over

-- it was told so
pub marked : {P O R : Type 0} (live object : ℕ) (to : To) (old new : PassSeen P O R) → object_begun old.view.last ≡ object
    → live_at old.view (object_begun old.view.last) ≡ live → is_over_in live (word_begun old.view.last) ≡ true → HasMarked (Swap to) old new
    → HasSwapped object to (end_in live (word_begun old.view.last)) old.view new.view
marked {O = O} {R = R} live object to old new begun same over has =
    let word : ℕ = word_begun old.view.last in
    let is = over_ends live word has.answer over (told_here word has.answer (live_at old.view (object_begun old.view.last)) live same has.told) in
    let last : new.view.last ≡ old.view.last = ap (λ (u : PassView _ O R). u.last) has.comes.knows in
    record {
      begun = ap object_begun last ∙ begun;
      entry = has.entry;
      next =
          subst (λ l. IsNext old.view object (incarnation_told (end_in live word) (word_begun l)) (cell_told object (end_in live word) (word_begun l)) (Swap to) (answer_told (end_in live word)) has.entry)
          (sym last)
          (subst (λ (x : ℕ × ℕ × ℕ × Answer R). IsNext old.view x.0 x.1 x.2 (Swap to) x.3 has.entry)
          (λ j. (begun j, sym (is.incarnation word) j, ((λ k. cell_of (begun k) (incarnation_in word) 0) ∙ sym (is.cell object word)) j, is.told j))
          has.next);
      drawn = ap (λ (u : PassView _ O R). u.taker.mine) has.comes.knows;
    }

-- the cell was held
pub found_held : {P O R : Type 0} (live holder : ℕ) (v w : PassView P O R) → w ≡ took names.Lock (lock_word (cell_marked v)) (holder + 1) (locked_view (cell_marked v) (holder + 1) v)
    → LockFound (cell_marked v) v (holder + 1) → is_over_in live (word_begun v.last) ≡ true
    → (w ≡ took names.Lock (lock_word (cell_marked v)) (holder + 1) v) × IsCellHeld live holder v w
found_held {O = O} {R = R} live holder v w is finds over =
    let n : ℕ = cell_marked v in
    let knows : w ≡ took names.Lock (lock_word n) (holder + 1) v =
    is ∙ ap (λ (b : Bool). took names.Lock (lock_word n) (holder + 1) (record v { taker = cond b (caller_locked n v.taker) v.taker })) (ne_eqb (holder + 1) 0 (some holder)) in
    let few = finds.small in (
      knows,
      record {
        over = ap (λ (u : PassView _ O R). is_over_in live (word_begun u.last)) knows ∙ over;
        locked = record {
          gained = [];
          log =
              ap (λ (u : PassView _ O R). u.log) knows
              ∙ ap (λ (m : ℕ). step_at names.Lock (lock_word m) (holder + 1) ∷ v.log) (sym (ap (λ (u : PassView _ O R). cell_marked u) knows));
          meets_none = refl;
        };
        another = λ same. finds.another (ap (λ (k : ℕ). k + 1) (same ∙ ap (λ (u : PassView _ O R). u.number) knows));
        caller = omega (arith, few);
      },
    )
  where
    some : (n : ℕ) → n + 1 ≡ 0 → ⊥
    some n none = omega (arith, none)

-- the mark tells so
pub held_answer : {S L P O R : Type 0} (words : LayoutWords S L P O R) (sys : SysSeen L) (answer : Marked) (holder : ℕ) (act : Act O) (old new : PassSeen P O R) → answer ≡ marks.Held holder
    → IsMarkAnswer words sys answer act old new → IsHeldBy words sys holder old new
held_answer words sys answer holder act old new is has = subst (λ (a : Marked). IsMarkAnswer words sys a act old new) is has

pub on_done : {A E X : Type 0} (result : Result A E) → is_err result ≡ false → OnOk result X → X
on_done (Ok value) failed is = is
on_done (Err error) failed is = absurd (cc)

-- the swap has ended, and its steps have met nothing
pub cleared_log : {P O R : Type 0} (found : ℕ) (v w : PassView P O R) → w ≡ took names.Clear (object_word (object_swapped v)) found (cleared_view v) → Extends v.log w.log
cleared_log {P} {O} {R} found v w is =
    extends_as (ap (λ (u : PassView P O R). u.log) is ∙ ap (λ log. step_at names.Clear (object_word (object_swapped v)) found ∷ log) (go (is_moved v.visitor.swap)))
    (extends_one (step_at names.Clear (object_word (object_swapped v)) found) v.log refl)
  where
    go : (b : Bool)
        → (cond b (record (at_swap v (Reopening (object_swapped v) 0)) { abandoned = false }) (record (at_swap v Idle) { turned = false; rows = rows_ended v })).log ≡ v.log
    go true = refl
    go false = refl

-- what stays of the pass

module _ {P O R : Type 0} (act : Act O) (old new : PassSeen P O R) (has : HasMarked act old new) where
  pub marked_last : new.view.last ≡ old.view.last
  marked_last = ap (λ (u : PassView _ O R). u.last) has.comes.knows

  pub marked_caller : IsSameCaller old.view new.view
  marked_caller = record {
    number = ap (λ (u : PassView _ O R). u.number) has.comes.knows;
    proc = ap (λ (u : PassView _ O R). u.turn.proc) has.comes.knows;
  }

  pub marked_graces : new.view.graces ≡ old.view.graces
  marked_graces = ap (λ (u : PassView _ O R). u.graces) has.comes.knows

module _ {P O R : Type 0} (act : Act O) (v w x : PassView P O R) (kept : w ≡ with_log w.log v) (knows : x ≡ with_log x.log (abandoned_view act w)) where
  pub abandoned_caller : IsSameCaller v x
  abandoned_caller = record {
    number = ap (λ (u : PassView _ O R). u.number) knows ∙ ap (λ (u : PassView _ O R). u.number) kept;
    proc = ap (λ (u : PassView _ O R). u.turn.proc) knows ∙ ap (λ (u : PassView _ O R). u.turn.proc) kept;
  }

  pub abandoned_graces : x.graces ≡ v.graces
  abandoned_graces = ap (λ (u : PassView _ O R). u.graces) knows ∙ ap (λ (u : PassView _ O R). u.graces) kept

-- a swap that is over begins no grace any more
pub few : (new old due : ℕ) → new ≡ old → new + 0 ≤ old + due
few new old due same = omega (arith, same)
