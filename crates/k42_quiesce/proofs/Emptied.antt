-- A cell whose row was freed may be put back without a part.
use Rattle.std.proofs.Common.{◌≡◌, ℕ, suc, ◌+◌, ◌<◌, Bool, true, false, not, eqb, ◌||◌, List, [], ◌∷◌, ◌++◌, None, length, refl, sym, ap, ◌∙◌, subst, arith}
use Rattle.std.specs.List.{filter, slice_get}
use Rattle.std.specs.Prelude.{is_some}
use Rattle.std.proofs.lemmas.Bool.{eq-eqb, or_left}
use Rattle.turn_core.specs.Events.{caller_locked, caller_unlocked}
use Rattle.turn_core.specs.Names.{names}
use Rattle.turn_core.specs.Plain.{Caller}
use Rattle.k42_stamp.specs.Laws.{AreLaws}
use Rattle.k42_stamp.specs.Layouts.{Layouts}
use Rattle.k42_joined.specs.Numbers.{cell_of}
use Rattle.k42_joined.specs.Swapping.{holds_none}
use Rattle.k42_joined.specs.Touching.{is_freeing}
use Rattle.k42_board.specs.Cells.{IsCell, cells_noted}
use Rattle.k42_board.specs.Log.{took, logs, put_at}
use Rattle.k42_board.specs.Parts.{IsPart}
use Rattle.k42_board.specs.Seen.{SysSeen, PassSeen, IsPassOf, IsSamePass}
use Rattle.k42_board.specs.Steps.{Always}
use Rattle.k42_board.specs.Taking.{CELLS, HoldsHome, MayPut, noted, without, locked_view, lifted_view, gave_back, reaching_view, put_view, unlocked_view}
use Rattle.k42_board.specs.Words.{lock_word}
use Rattle.k42_board.specs.declared.cell.Content.{Content}
use Rattle.k42_board.specs.declared.view.Note.{Note}
use Rattle.k42_board.specs.declared.view.PassView.{PassView}
use Rattle.k42_board.specs.declared.view.StepName.TheVariants as steps
use Rattle.k42_board.proofs.PartLaws.{freed_always}
use Rattle.k42_quiesce.specs.Reclaiming.{steps_emptying, emptied_view, steps_emptying_row, row_emptied_view}

held_back : (n : ℕ) (held : List ℕ) → holds_none held ≡ true → filter (λ m. not (eqb m n)) (held ++ n ∷ []) ≡ held
held_back n [] none = let same = eq-eqb n n refl in rw same refl
held_back n (m ∷ held) none = absurd (cc)

taker_back : {O R : Type 0} (n : ℕ) (x : Caller O R) → holds_none x.held ≡ true → caller_unlocked n (caller_locked n x) ≡ x
taker_back n x none = ap (λ held. record x { held = held }) (held_back n x.held none)

neither : (a b : Bool) → a || b ≡ false → (a ≡ false) × (b ≡ false)
neither true b e = absurd (cc)
neither false b e = (refl, e)

notes_back : {P O R : Type 0} (n : ℕ) (notes : List (Note P O R)) → names (cells_noted notes) n ≡ false → without n notes ≡ notes
notes_back n [] none = refl
notes_back n (note ∷ notes) none =
    let parts = neither (eqb note.cell n) (names (cells_noted notes) n) none in
    let apart = parts.0 in rw apart (ap (λ rest. note ∷ rest) (notes_back n notes parts.1))

held_now : (n : ℕ) (held : List ℕ) → holds_none held ≡ true → names (held ++ n ∷ []) n ≡ true
held_now n [] none = or_left (eqb n n) false (eq-eqb n n refl)
held_now n (m ∷ held) none = absurd (cc)

module _ {P : Type 0} where
  -- what the pass knows after each of the steps
  abbrev pub locking : {O R : Type 0} (n found : ℕ) → PassView P O R → PassView P O R
  locking n found v = took steps.Lock (lock_word n) found (locked_view n found v)

  abbrev pub taking : {O R : Type 0} → ℕ → Content P O R → PassView P O R → PassView P O R
  taking n content v = gave_back (lock_word n) (took steps.Lift (lock_word n) 0 (lifted_view content v))

  abbrev pub putting : {O R : Type 0} → ℕ → Content P O R → PassView P O R → PassView P O R
  putting n content v = logs (put_at (lock_word n) (is_some content.part)) (put_view n (took steps.Reach (lock_word n) 0 (reaching_view n v)))

  abbrev pub unlocking : {O R : Type 0} → ℕ → PassView P O R → PassView P O R
  unlocking n v = took steps.Unlock (lock_word n) 0 (unlocked_view n v)

  module _ {O R : Type 0} (n found : ℕ) (v w x y : PassView P O R) (content emptied : Content P O R) (none : holds_none v.taker.held ≡ true) (free : found ≡ 0)
      (unnoted : names (cells_noted v.notes) n ≡ false) (number : content.number ≡ n) (locked : w ≡ locking n found v) (taken : x ≡ taking n content w)
      (put : y ≡ putting n emptied x) where
    notes : without n (noted content ∷ v.notes) ≡ v.notes
    notes = let dropped = eq-eqb content.number n number in rw dropped (notes_back n v.notes unnoted)

    is_put : y ≡ putting n emptied (taking n content (locking n 0 v))
    is_put = put ∙ ap (putting n emptied) (taken ∙ ap (taking n content) (locked ∙ ap (λ k. locking n k v) free))

    -- once the cell is put back, it holds the cell at home
    pub holds_back : n < CELLS → HoldsHome n y
    holds_back few =
        subst (HoldsHome n) (sym is_put) (record {
          cell = few;
          held = held_now n v.taker.held none;
          home = ap (λ notes. names (cells_noted notes) n) notes ∙ unnoted;
        })

    -- the pass that has locked, taken, put back and unlocked a cell knows what it knew, and has taken these steps
    pub cell_back : (z : PassView P O R) → emptied ≡ record content { part = None } → z ≡ unlocking n y → z ≡ emptied_view n v
    cell_back z same unlocked =
        unlocked
        ∙ ap (unlocking n) (is_put ∙ ap (λ (c : Content P O R). putting n c (taking n content (locking n 0 v))) same)
        ∙ ap
        (λ (t : Caller O R). record v { taker = t; notes = without n (noted content ∷ v.notes); out = None; log = steps_emptying n ++ v.log })
        (taker_back n v.taker none)
        ∙ ap (λ notes. record v { notes = notes; out = None; log = steps_emptying n ++ v.log }) notes

  -- the first so many cells of a row are emptied
  pub record IsEmptiedTo {O R : Type 0} (p o row : ℕ) (v w : PassView P O R) : Type 0 where
    pub knows : w ≡ record v { out = w.out; log = steps_emptying_row o row p ++ v.log }
    pub out : 0 < p → w.out ≡ None

  pub emptied_none : {O R : Type 0} (o row : ℕ) (v : PassView P O R) → IsEmptiedTo 0 o row v v
  emptied_none o row v = record { knows = refl; out = λ lt. absurd (omega (arith, lt)) }

  pub emptied_next : {O R : Type 0} (p o row : ℕ) (v w x : PassView P O R) → IsEmptiedTo p o row v w → x ≡ emptied_view (cell_of o row p) w → IsEmptiedTo (p + 1) o row v x
  emptied_next {O} {R} p o row v w x is emptied =
      let next : suc p ≡ p + 1 = omega arith in
      let given : x.out ≡ None = ap (λ (u : PassView P O R). u.out) emptied in
      subst (λ m. IsEmptiedTo m o row v x) next
      (record {
        knows =
            emptied ∙ ap (emptied_view (cell_of o row p)) is.knows
            ∙ (λ k. record v { out = sym given k; log = steps_emptying_row o row (suc p) ++ v.log });
        out = λ lt. given;
      })

  pub emptied_all : {O R : Type 0} (procs o row : ℕ) (v w : PassView P O R) → 0 < procs → IsEmptiedTo procs o row v w → w ≡ row_emptied_view procs o row v
  emptied_all procs o row v w some is =
      is.knows ∙ ap (λ out. record v { out = out; log = steps_emptying_row o row procs ++ v.log }) (is.out some)

  pub emptied_still : {L O R : Type 0} (sys : SysSeen L) (n : ℕ) (old new : PassSeen P O R) → IsPassOf sys old → IsSamePass old new → new.view ≡ emptied_view n old.view
      → IsPassOf sys new
  emptied_still {O} {R} sys n old new is same knows = record {
    table = same.table ∙ is.table;
    proc = subst (λ n. n < sys.procs) (sym (ap (λ (v : PassView P O R). v.turn.proc) knows)) is.proc;
    waits = ap (λ (v : PassView P O R). length v.turn.waits) knows ∙ is.waits;
    objects = ap (λ (v : PassView P O R). length v.visitor.noted) knows ∙ is.objects;
    shapes = ap (λ (v : PassView P O R). v.shapes) knows ∙ is.shapes;
    spans = ap (λ (v : PassView P O R). length v.visitor.freeing) knows ∙ is.spans;
    queue = same.queue ∙ is.queue;
    keep = (λ i. (same.keep i).what) ∙ is.keep;
  }

module _ {S L P O R : Type 0} (F : Layouts S L P O R) (laws : AreLaws F) (declared : List L) (id : ℕ) where
  pub may_put_empty : (n o i p found : ℕ) (v w x : PassView P O R) (content emptied : Content P O R) → n ≡ cell_of o i p → content.number ≡ n → n < CELLS
      → p < F.procs → is_freeing v.visitor.freeing o i ≡ true → w ≡ locking n found v → x ≡ taking n content w
      → emptied ≡ record content { part = None } → MayPut F declared id n emptied x
  may_put_empty n o i p found v w x content emptied at number few there freed locked taken same =
      let spans : x.visitor.freeing ≡ v.visitor.freeing = ap (λ (u : PassView P O R). u.visitor.freeing) (taken ∙ ap (taking n content) locked) in
      let none : Always F declared id x (λ s. IsPart F declared s n None) =
      freed_always F laws declared id x n
      (record { object = o; row = i; place = p; cell = at; there = there; freed = ap (λ spans. is_freeing spans o i) spans ∙ freed }) in
      record {
        cell = few;
        place = 0;
        note = noted content;
        noted = ap (λ (u : PassView P O R). slice_get u.notes 0) taken;
        named = number;
        whole =
            subst (λ (c : Content P O R). IsCell n (noted content).history (noted content).closed c.part c) (sym same)
            (record { number = number; told = refl; part = refl });
        part = subst (λ (c : Content P O R). Always F declared id x (λ s. IsPart F declared s n c.part)) (sym same) none;
      }
