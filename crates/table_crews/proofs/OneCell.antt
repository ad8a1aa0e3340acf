-- A call at one cell: what it needs to step the part, to draw, and to put the cell back.
use Rattle.std.proofs.Common.{◌≡◌, ℕ, zero, suc, ◌<◌, ◌≤◌, Bool, true, false, cond, eqb, List, [], ◌∷◌, ◌++◌, Option, Some, None, length, refl, sym, ap, ◌∙◌, subst, arith}
use Rattle.std.specs.Prelude.{IsTrue, is_some}
use Rattle.std.specs.List.{slice_get}
use Rattle.std.specs.Option.{unwrap_or}
use Rattle.std.proofs.lemmas.Bool.{eq-eqb}
use Rattle.std.proofs.lemmas.List.{length-append}
use Rattle.std.proofs.lemmas.Option.{same_Some}
use Rattle.k42_places.specs.Places.{EachPlace}
use Rattle.k42_kinds.specs.LayoutLaws.{Agree, IsReached}
use Rattle.k42_shapes.specs.Shapes.{cells_of}
use Rattle.k42_shapes.proofs.ShapeLaws.{few_cells}
use Rattle.k42_kinds.specs.Rows.{IsWithin}
use Rattle.k42_kinds.specs.declared.entry.Entry.{Entry}
use Rattle.k42_kinds.specs.declared.entry.Reach.TheVariants.{One}
use Rattle.phase_core.specs.Stages.{IsInside, object_of, row_of}
use Rattle.phase_core.specs.declared.caller.Place.{Place}
use Rattle.phase_core.specs.declared.caller.Place.TheVariants.{Out, Missed, Direct, AtMediator, Tracked, Blocked}
use Rattle.turn_core.specs.Events.{caller_locked}
use Rattle.turn_core.specs.Names.{names}
use Rattle.k42_stamp.specs.Laws.{AreLaws}
use Rattle.k42_stamp.specs.Layouts.{Layouts, IsKnown, shape_of}
use Rattle.k42_joined.specs.Numbers.{cell_of}
use Rattle.k42_joined.specs.Rows.{cells_reached}
use Rattle.k42_board.specs.Cells.{cells_noted}
use Rattle.k42_board.specs.Drawing.{AreTold, history_noted, closed_noted, part_noted, part_due, IsHeld, IsTold, MayDrawCall, IsStepped, drawn_at}
use Rattle.k42_limits.specs.declared.TheConstants.{PASS_ENTRIES}
use Rattle.k42_board.specs.Parts.{IsPart}
use Rattle.k42_board.specs.Phases.{is_served}
use Rattle.k42_board.specs.Steps.{Always}
use Rattle.k42_board.specs.Log.{step_at, took, with_log}
use Rattle.k42_board.specs.Taking.{CELLS, MayPut, AreRowsNoted, taken_view, locked_view, lifted_view, gave_back}
use Rattle.k42_board.specs.Seen.{inside_in}
use Rattle.k42_board.specs.Words.{lock_word}
use Rattle.k42_board.specs.declared.view.Inside.{Inside}
use Rattle.k42_board.specs.declared.cell.Content.{Content}
use Rattle.k42_board.specs.declared.view.Note.{Note}
use Rattle.k42_board.specs.declared.view.PassView.{PassView}
use Rattle.k42_board.specs.declared.view.StepName.TheVariants as steps
use Rattle.k42_board.proofs.PartLaws.{noted_always}
use Rattle.k42_rule.proofs.PartsDue.{first_note, part_reached}
use Rattle.table_crews.specs.Ready.{IsServing, IsLayoutOf}
use Rattle.k42_rule.proofs.PutBack.{taken_agrees, taken_part, may_put}

pub served_inside : (place : Place) → is_served place ≡ true → IsInside place (object_of place) (row_of place)
served_inside (Direct o i) e = (refl, refl)
served_inside (Tracked o i) e = (refl, refl)
served_inside Out e = absurd (cc)
served_inside (Missed o i) e = absurd (cc)
served_inside (AtMediator o) e = absurd (cc)
served_inside (Blocked o) e = absurd (cc)

pub known_layout : (layout : Option ℕ) → is_some layout ≡ true → layout ≡ Some (unwrap_or layout 0)
known_layout (Some l) e = refl
known_layout None e = absurd (cc)

pub mine_stays : {P O R : Type 0} (n found : ℕ) (v : PassView P O R) → (locked_view n found v).taker.mine ≡ v.taker.mine
mine_stays n found v = go (eqb found 0) where
  go : (b : Bool) → (cond b (caller_locked n v.taker) v.taker).mine ≡ v.taker.mine
  go true = refl
  go false = refl

-- a cell that was taken: the pass has lifted it out of its slot, and has given that back
abbrev pub took_cell : {P O R : Type 0} → ℕ → Content P O R → PassView P O R → PassView P O R
took_cell n content v = gave_back (lock_word n) (took steps.Lift (lock_word n) 0 (lifted_view content v))

-- and its lock was asked for before
abbrev pub lock_asked : {P O R : Type 0} → (n found : ℕ) → PassView P O R → PassView P O R
lock_asked n found v = took steps.Lock (lock_word n) found (locked_view n found v)

-- what a pass knows that has lifted the cell
abbrev pub lifted_at : {P O R : Type 0} → ℕ → PassView P O R → PassView P O R
lifted_at n v = with_log (step_at steps.GiveBack (lock_word n) 0 ∷ step_at steps.Lift (lock_word n) 0 ∷ v.log) v

-- a cell that was taken, once its lock was asked for
pub taken_from : {P O R : Type 0} (n found : ℕ) (content : Content P O R) (v roomy locked w : PassView P O R) → roomy ≡ v → locked ≡ lock_asked n found roomy
    → w ≡ took_cell n content locked → w ≡ took_cell n content (lock_asked n found v)
taken_from n found content v roomy locked w same is taken = taken ∙ ap (took_cell n content) (is ∙ ap (lock_asked n found) same)

-- the last cell of those that were told of one entry, where there is one
pub told_last : {P O R : Type 0} (notes : List (Note P O R)) (c : Content P O R) (old new rest : List (Content P O R)) (x : Content P O R) → old ≡ c ∷ [] → AreTold notes old new
    → new ≡ rest ++ x ∷ [] → IsTold notes c x
told_last notes c old new [] x one told last = told.1 0 c x (ap (λ cs. slice_get cs 0) one) (ap (λ cs. slice_get cs 0) last)
told_last notes c old new (r ∷ rest) x one told last =
    let many = told.0 in let single = ap length one in let long = ap length last in
    absurd (omega (arith, many, single, long, length-append rest (x ∷ [])))

module _ {S L P O R : Type 0} (F : Layouts S L P O R) (laws : AreLaws F) (declared : List L)
    (agrees : (l m : L) → F.object_of l ≡ F.object_of m → F.tag_of l ≡ F.tag_of m
    → Agree (F.ways_of l) (F.ways_of m) (F.Whole l) (F.Whole m) (F.Serves l) (F.Serves m)) where
  -- a call on a processor, at a place whose layout it was told, needs one cell of the row
  pub record IsAtOne (place : Place) (told : Option ℕ) (proc : ℕ) (layout : L) (op : O) (o i p : ℕ) : Type 0 where
    pub inside : IsInside place o i
    pub declaration : L
    pub declares : slice_get declared o ≡ Some declaration
    pub kind : F.object_of layout ≡ F.object_of declaration
    pub tagged : told ≡ Some (F.tag_of layout)
    pub known : IsKnown F layout
    pub on : proc < F.procs
    pub takes : IsTrue ((F.object_of layout).takes op)
    pub reach : (F.ways_of layout).reach F.procs op proc ≡ One p

  pub at_one : (v w : PassView P O R) (n found : ℕ) (content : Content P O R) (inside : Inside) (layout : L) (op : O) (p : ℕ) → IsServing v → inside ≡ inside_in v
      → IsLayoutOf F.object_of declared inside.object layout → F.tag_of layout ≡ inside.layout → IsKnown F layout → v.turn.proc < F.procs
      → IsTrue ((F.object_of layout).takes op) → (F.ways_of layout).reach F.procs op v.turn.proc ≡ One p → w ≡ took_cell n content (lock_asked n found v)
      → IsAtOne w.visitor.place w.layout w.turn.proc layout op inside.object inside.incarnation p
  at_one v w n found content inside layout op p serving is of tag known on takes reach e =
      subst (λ (x : PassView P O R). IsAtOne x.visitor.place x.layout x.turn.proc layout op inside.object inside.incarnation p) (sym e)
      (record {
        inside = subst (λ (z : Inside). IsInside v.visitor.place z.object z.incarnation) (sym is) (served_inside v.visitor.place serving.served);
        declaration = of.declaration;
        declares = of.declares;
        kind = of.same;
        tagged = known_layout v.layout serving.layout ∙ ap Some (sym (tag ∙ ap (λ (z : Inside). z.layout) is));
        known = known;
        on = on;
        takes = takes;
        reach = reach;
      })

  -- the cell is taken, and nothing was stepped yet
  module _ (content : Content P O R) (v w : PassView P O R) (e : w ≡ taken_view content v) (layout : L) (op : O) (o i p : ℕ)
      (is : IsAtOne w.visitor.place w.layout w.turn.proc layout op o i p) (number : content.number ≡ cell_of o i p) where
    noted : names (cells_noted w.notes) content.number ≡ true
    noted = ap (λ (x : PassView P O R). names (cells_noted x.notes) content.number) e ∙ (taken_agrees content v).noted

    noted_here : names (cells_noted w.notes) (cell_of o i p) ≡ true
    noted_here = subst (λ n. names (cells_noted w.notes) n ≡ true) number noted

    part_here : part_noted w.notes (cell_of o i p) ≡ content.part
    part_here =
        subst (λ n. part_noted w.notes n ≡ content.part) number
        (ap (λ (x : PassView P O R). part_noted x.notes content.number) e ∙ taken_part content v)

    pub reached : AreRowsNoted F declared w
        → IsReached (F.ways_of layout) (F.Whole layout) (unwrap_or content.part ((F.ways_of layout).empty F.procs p)) op
    reached rows =
        subst (λ part. IsReached (F.ways_of layout) (F.Whole layout) (unwrap_or part ((F.ways_of layout).empty F.procs p)) op) part_here
        (part_reached F laws declared w.notes o i is.declaration layout is.declares is.kind (rows.inside o i (F.tag_of layout) is.inside is.tagged) agrees
        op w.turn.proc p is.on is.takes is.reach noted_here)

    pub within : p < F.procs
    within =
        let few = few_cells (shape_of F layout) F.procs laws.some in
        let lt : p < cells_of (shape_of F layout) F.procs =
        subst (IsWithin (cells_of (shape_of F layout) F.procs)) is.reach (laws.reaches layout w.turn.proc op is.known is.on is.takes) in
        omega (arith, few, lt)

    -- once its part was stepped
    module _ (after : P) (reply : R)
        (replied : reply ≡ (F.ways_of layout).part_reply (unwrap_or content.part ((F.ways_of layout).empty F.procs p)) op)
        (moved : after ≡ (F.ways_of layout).part_after (unwrap_or content.part ((F.ways_of layout).empty F.procs p)) op) where
      abbrev stepped : Content P O R
      stepped = record content { part = Some after }

      held : IsHeld w.notes stepped
      held = record {
        noted = noted;
        history = (taken_agrees content v).history ∙ ap (λ (x : PassView P O R). history_noted x.notes content.number) (sym e);
        closed = (taken_agrees content v).closed ∙ ap (λ (x : PassView P O R). closed_noted x.notes content.number) (sym e);
      }

      pub may_draw : length w.taker.mine < PASS_ENTRIES → MayDrawCall F declared (stepped ∷ []) op reply w
      may_draw few = record {
        object = o;
        row = i;
        inside = is.inside;
        declaration = is.declaration;
        declares = is.declares;
        layout = layout;
        same = is.kind;
        tagged = is.tagged;
        takes = is.takes;
        named = ap (λ n. n ∷ []) number ∙ ap (cells_reached F.procs o i) (sym is.reach);
        held = only (IsHeld w.notes) stepped held;
        stepped =
            subst (λ r. IsStepped F declared layout w.notes o i (stepped ∷ []) op r reply) (sym is.reach) (
              replied ∙ ap (λ part. (F.ways_of layout).part_reply (unwrap_or part ((F.ways_of layout).empty F.procs p)) op) (sym part_here),
              only (λ (c : Content P O R). c.part ≡ Some ((F.ways_of layout).part_after (part_due (F.ways_of layout) F.procs w.notes o i p) op)) stepped
                  (ap Some (moved ∙ ap (λ part. (F.ways_of layout).part_after (unwrap_or part ((F.ways_of layout).empty F.procs p)) op) (sym part_here))),
            );
        few = few;
      } where
        only : (Q : Content P O R → Type 0) (c : Content P O R) → Q c → EachPlace (λ place x. Q x) (c ∷ [])
        only Q c q zero x e = subst Q (same_Some c x e) q
        only Q c q (suc place) x e = absurd (cc)

-- the part that is due of a cell after the draw is the one that it has
drawn_part : {P O R : Type 0} (content : Content P O R) (after : P) (entry : Entry O R) (v : PassView P O R)
    → part_noted (drawn_at (record content { part = Some after } ∷ []) entry (taken_view content v)).notes content.number ≡ Some after
drawn_part content after entry v = let same = eq-eqb content.number content.number refl in rw same (rw same refl)

-- a cell at which was drawn may be put back
module _ {S L P O R : Type 0} (F : Layouts S L P O R) (laws : AreLaws F) (declared : List L) (id word : ℕ) (content : Content P O R) (after : P) (entry : Entry O R)
    (v w : PassView P O R) (e : w ≡ took steps.Draw word 0 (drawn_at (record content { part = Some after } ∷ []) entry (taken_view content v))) where
  pub may_put_drawn : (new : Content P O R) → content.number < CELLS → IsTold w.notes (record content { part = Some after }) new
      → MayPut F declared id content.number new w
  may_put_drawn new few told =
      let named : names (cells_noted w.notes) content.number ≡ true = subst (λ n. names (cells_noted w.notes) n ≡ true) told.number told.held.noted in
      let first = first_note w.notes content.number named in
      let due : first.note.part ≡ new.part =
      sym first.part ∙ ap (λ (x : PassView P O R). part_noted x.notes content.number) e ∙ drawn_part content after entry v ∙ sym told.part in
      may_put F declared id content.number w new told.number few
      (record { noted = told.held.noted; history = told.held.history; closed = told.held.closed })
      (subst (λ n. Always F declared id w (λ s. IsPart F declared s n new.part)) first.named
      (subst (λ part. Always F declared id w (λ s. IsPart F declared s first.note.cell part)) due
      (noted_always F laws declared id w first.place first.note first.there)))
