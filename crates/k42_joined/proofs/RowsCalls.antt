-- A call, and a swap that found its object over, is an entry of the present row.
use Rattle.std.proofs.Common.{◌≡◌, ◌≢◌, ℕ, zero, suc, ◌<◌, ◌≤◌, ◌∙◌, true, false, not, eqb, List, [], ◌∷◌, ◌++◌, length, refl, sym, ap, subst, arith}
use Rattle.std.specs.List.{slice_get}
use Rattle.std.specs.Prelude.{Some, None, IsTrue}
use Rattle.std.proofs.lemmas.Bool.{and_parts, eqb-true}
use Rattle.std.proofs.lemmas.Option.{same_Some, slice_get_within}
use Rattle.k42_shapes.specs.declared.shape.Shape.{Shape}
use Rattle.k42_shapes.specs.Shapes.{IsKnownTag}
use Rattle.k42_kinds.specs.Rows.{IsWithin}
use Rattle.k42_kinds.specs.declared.entry.Act.{Act}
use Rattle.k42_kinds.specs.declared.entry.Act.TheVariants.{Call, Swap}
use Rattle.k42_kinds.specs.declared.entry.Answer.{Answer}
use Rattle.k42_kinds.specs.declared.entry.Answer.TheVariants.{Spent, Gone}
use Rattle.k42_kinds.specs.declared.entry.Entry.{Entry}
use Rattle.k42_kinds.specs.declared.entry.Reach.TheVariants.{One}
use Rattle.k42_kinds.specs.declared.entry.To.{To}
use Rattle.k42_kinds.specs.OneThread.{OneThread}
use Rattle.phase_core.specs.Plain.{Object}
use Rattle.phase_core.specs.Sound as phases
use Rattle.phase_core.specs.Stages.{IsInside}
use Rattle.phase_core.specs.State.{visitor_at}
use Rattle.phase_core.specs.declared.caller.Place.{Place}
use Rattle.phase_core.specs.declared.caller.Place.TheVariants.{Missed, Direct, Tracked}
use Rattle.phase_core.proofs.InSound.{inside_is_present}
use Rattle.turn_core.specs.Sound as turns
use Rattle.turn_core.specs.declared.event.TurnEvent.TheVariants.{Draw}
use Rattle.turn_core.specs.Events as turn_events
use Rattle.k42_stamp.specs.Chains.{Chain, parts_of}
use Rattle.k42_stamp.specs.Fits.{IsMark as IsMarkOf, IsCallOrMark}
use Rattle.k42_stamp.specs.Laws.{AreLaws}
use Rattle.k42_stamp.specs.Layouts.{Layouts}
use Rattle.k42_stamp.specs.Parts.{reached as needs, reach_of, part_steps, act_replies, reply_in}
use Rattle.k42_stamp.proofs.Needed.{entry_within}
use Rattle.k42_joined.specs.Plain.{Joined}
use Rattle.k42_joined.specs.Answers.{IsTrueOf, IsAnswered, AreAnswered}
use Rattle.k42_joined.specs.Drawing.{newest_layout, IsCall, FoundOver, IsDrawnAs, MayDraw}
use Rattle.k42_joined.specs.Effects.{kept_drawn}
use Rattle.k42_joined.specs.Fitting.{HasRows, Fitting}
use Rattle.k42_joined.specs.Following.{FollowsDraw}
use Rattle.k42_joined.specs.Found.{tells_over}
use Rattle.k42_joined.specs.Locks.{AreLocked}
use Rattle.k42_joined.specs.Rows.{cells_reached, AreRowsOf}
use Rattle.k42_joined.specs.State.{many_procs, many_callers, many_objects, object, incarnation, layouts_of, many_hands, is_handed}
use Rattle.k42_joined.specs.Touching.{is_inside}
use Rattle.k42_joined.proofs.LocksCells.{AreOfRow}
use Rattle.k42_joined.proofs.RowsDraw.{IsCoreDraw, of_row, not_handed, hands_now, past_now, drew, y, here_rows, rows_else, draw_keeps_rows}

pub inside_is : (place : Place) (o i : ℕ) → is_inside place o i ≡ true → IsInside place o i
inside_is (Missed q j) o i is = let parts = and_parts (eqb q o) (eqb j i) is in (eqb-true q o parts.0, eqb-true j i parts.1)
inside_is (Direct q j) o i is = let parts = and_parts (eqb q o) (eqb j i) is in (eqb-true q o parts.0, eqb-true j i parts.1)
inside_is (Tracked q j) o i is = let parts = and_parts (eqb q o) (eqb j i) is in (eqb-true q o parts.0, eqb-true j i parts.1)
inside_is place o i is = absurd (cc)

pub some_at : {A : Type 0} (xs : List A) (i : ℕ) → i < length xs → (x : A) × (slice_get xs i ≡ Some x)
some_at [] i lt = absurd (omega arith)
some_at (x ∷ xs) zero lt = (x, refl)
some_at (x ∷ xs) (suc i) lt = some_at xs i (omega arith)

-- the newest layout is the first of all
first_is : {L : Type 0} (layout : L) (rest layouts : List L) (declaration : L) → layout ∷ rest ≡ layouts ++ declaration ∷ []
    → layout ≡ newest_layout layouts declaration
first_is layout rest [] declaration same = same_Some layout declaration (ap (λ xs. slice_get xs 0) same)
first_is layout rest (newest ∷ layouts) declaration same = same_Some layout newest (ap (λ xs. slice_get xs 0) same)

-- what was drawn at the present row
pub record IsDrawn {S L P O R : Type 0} (F : Layouts S L P O R) (declared : List L) (s : Joined L O R) (c : ℕ) (cells : List ℕ) (e : Entry O R) : Type 0 where
  pub named : e.object < many_objects s
  pub present : e.incarnation ≡ incarnation s e.object
  pub of_row : AreOfRow s e.object cells
  pub not_handed : is_handed s e.object ≡ false
  pub rows : Fitting F declared (record s { turns = turn_events.effect s.turns (Draw c cells e); kept = kept_drawn s c false })
  -- the object's rows before and after
  pub declaration : L
  pub declares : slice_get declared e.object ≡ Some declaration
  pub chain : Chain L P O R
  pub was : AreRowsOf F declaration s e.object chain
  pub after : Chain L P O R
  pub is : AreRowsOf F declaration (record s { turns = turn_events.effect s.turns (Draw c cells e); kept = kept_drawn s c false }) e.object after
  pub follows : FollowsDraw F e chain after
  pub others :
      (q : ℕ) (other : L) (z : Chain L P O R) → q ≢ e.object → AreRowsOf F other s q z
      → AreRowsOf F other (record s { turns = turn_events.effect s.turns (Draw c cells e); kept = kept_drawn s c false }) q z

-- a mark is true of the row, by its layout's tag
mark_of : {R : Type 0} (k : Object) (shapes : List Shape) (tag number : ℕ) (answer : Answer R) → tells_over answer ≡ true → IsKnownTag shapes tag → shapes ≡ k.shapes
    → tag ≡ k.layout → number ≡ k.incarnation → IsTrueOf k k.incarnation answer → IsMarkOf shapes tag number answer
mark_of k shapes tag number Spent over known alike same now is = (low (length shapes) tag known (λ dead. is.2 (sym same ∙ dead ∙ ap length alike)), now ∙ is.1) where
  low : (dead tag : ℕ) → tag ≤ dead → tag ≢ dead → tag < dead
  low dead tag known apart = omega (arith, known, apart)
mark_of k shapes tag number Gone over known alike same now is = same ∙ is.1 ∙ sym (ap length alike)
mark_of k shapes tag number answer over known alike same now is = absurd (cc)

mark_served : {S O R : Type 0} (one : OneThread S O R) (k : Object) (shapes : List Shape) (tag number : ℕ) (act : Act O) (answer : Answer R) → ((op : O) → act ≡ Call op → ⊥)
    → IsMarkOf shapes tag number answer → IsCallOrMark one shapes tag number act answer
mark_served one k shapes tag number (Call op) answer not mark = absurd (not op refl)
mark_served one k shapes tag number (Swap to) answer not mark = mark

no_call_swap : {O : Type 0} (to : To) (op : O) → Swap to ≡ Call op → ⊥
no_call_swap to op same = cc

no_reply : {R : Type 0} (answer : Answer R) → tells_over answer ≡ true → reply_in answer ≡ None
no_reply Spent over = refl
no_reply Gone over = refl
no_reply answer over = absurd (cc)

module _ {S L P O R : Type 0} (F : Layouts S L P O R) (laws : AreLaws F) (declared : List L) (s : Joined L O R)
    (sound : phases.IsSound s.phases) (turns_sound : turns.IsSound s.turns) (locked : AreLocked s) (rows : Fitting F declared s)
    (answered : AreAnswered s) (c : ℕ) (cells : List ℕ) (e : Entry O R) (there : c < many_callers s) (core : IsCoreDraw s.turns c cells e) where
  newest : (declaration : L) (x : Chain L P O R) → AreRowsOf F declaration s e.object x
      → x.row.layout ≡ newest_layout (layouts_of s e.object) declaration
  newest declaration x is = first_is x.row.layout _ (layouts_of s e.object) declaration is.layouts

  chain_of : (declaration : L) → slice_get declared e.object ≡ Some declaration → (x : Chain L P O R) × (slice_get rows.chains e.object ≡ Some x)
  chain_of declaration declares =
      some_at rows.chains e.object (rw rows.many (slice_get_within declared e.object declaration declares))

  -- a call

  call_drawn : (op : O) → e.act ≡ Call op → IsCall F declared s c cells e op → IsDrawn F declared s c cells e
  call_drawn op act call = record {
    named = named_at call.declares;
    present = present;
    of_row = of_row F laws declared s turns_sound locked rows c cells e there core call.declaration x call.declares at present within reached;
    not_handed = not_handed F laws declared s turns_sound locked rows c cells e there core call.declaration x call.declares at present within reached;
    rows = draw_keeps_rows F laws declared s turns_sound locked rows c cells e there core call.declaration x call.declares at present within reached (served (length x.past)) replied;
    declaration = call.declaration;
    declares = call.declares;
    chain = x;
    was = has.rows;
    after = y F laws declared s turns_sound locked rows c cells e there core call.declaration x call.declares at present within reached (served (length x.past)) replied;
    is = (here_rows F laws declared s turns_sound locked rows c cells e there core call.declaration x call.declares at present within reached (served (length x.past)) replied).rows;
    others = rows_else F laws declared s turns_sound locked rows c cells e there core call.declaration x call.declares at present within reached (served (length x.past)) replied;
    follows = record {
      past = refl;
      layout = refl;
      parts = (drew F laws declared s turns_sound locked rows c cells e there core call.declaration x call.declares at present within reached (served (length x.past)) replied).moved;
    };
  } where
    named_at : slice_get declared e.object ≡ Some call.declaration → e.object < many_objects s
    named_at declares = rw (← rows.objects) (slice_get_within declared e.object call.declaration declares)

    present : e.incarnation ≡ incarnation s e.object
    present = (inside_is_present s.phases sound c e.object e.incarnation there (inside_is (visitor_at s.phases c).place e.object e.incarnation call.inside)).1

    x : Chain L P O R
    x = (chain_of call.declaration call.declares).0

    at : slice_get rows.chains e.object ≡ Some x
    at = (chain_of call.declaration call.declares).1

    has : HasRows F s e.object call.declaration x
    has = rows.each e.object call.declaration x call.declares at

    takes : IsTrue ((F.object_of x.row.layout).takes op)
    takes = subst (λ (one : OneThread S O R). IsTrue (one.takes op)) (sym has.rows.fits.row.kind) call.takes

    served : (number : ℕ) → IsCallOrMark (F.object_of x.row.layout) (F.shapes_of x.row.layout) (F.tag_of x.row.layout) number e.act e.answer
    served number = subst (λ act. IsCallOrMark (F.object_of x.row.layout) (F.shapes_of x.row.layout) (F.tag_of x.row.layout) number act e.answer) (sym act) takes

    within : IsWithin F.procs (reach_of F x.row.layout e)
    within =
        entry_within F laws x.row.layout has.rows.fits.row.known e.object e.incarnation e
        (record { object = refl; incarnation = refl; served = served e.incarnation })

    reached : cells ≡ cells_reached (many_procs s) e.object e.incarnation (reach_of F x.row.layout e)
    reached =
        call.reached
        ∙ ap (λ layout. cells_reached (many_procs s) e.object e.incarnation (reach_of F layout e)) (sym (newest call.declaration x has.rows))

    replied : (part_steps F x.row.layout).answers (parts_of F x.row) e ≡ (part_steps F x.row.layout).tells e
    replied =
        ap (λ act. act_replies (F.ways_of x.row.layout) (parts_of F x.row) act (reach_of F x.row.layout e)) act
        ∙ call.replied x has.rows ∙ ap reply_in (sym call.answer)

  -- a swap that found its object over

  mark_drawn : ((op : O) → e.act ≡ Call op → ⊥) → FoundOver F declared s c cells e → IsDrawn F declared s c cells e
  mark_drawn not mark = record {
    named = named;
    present = mark.present;
    of_row = of_row F laws declared s turns_sound locked rows c cells e there core declaration x declares at mark.present within reached;
    not_handed = not_handed F laws declared s turns_sound locked rows c cells e there core declaration x declares at mark.present within reached;
    rows = draw_keeps_rows F laws declared s turns_sound locked rows c cells e there core declaration x declares at mark.present within reached served replied;
    declaration = declaration;
    declares = declares;
    chain = x;
    was = has.rows;
    after = y F laws declared s turns_sound locked rows c cells e there core declaration x declares at mark.present within reached served replied;
    is = (here_rows F laws declared s turns_sound locked rows c cells e there core declaration x declares at mark.present within reached served replied).rows;
    others = rows_else F laws declared s turns_sound locked rows c cells e there core declaration x declares at mark.present within reached served replied;
    follows = record {
      past = refl;
      layout = refl;
      parts = (drew F laws declared s turns_sound locked rows c cells e there core declaration x declares at mark.present within reached served replied).moved;
    };
  } where
    own : IsAnswered s c
    own = answered c there

    named : e.object < many_objects s
    named = own.kept.there e.object mark.begun

    declaration : L
    declaration = (some_at declared e.object (rw rows.objects named)).0

    declares : slice_get declared e.object ≡ Some declaration
    declares = (some_at declared e.object (rw rows.objects named)).1

    x : Chain L P O R
    x = (chain_of declaration declares).0

    at : slice_get rows.chains e.object ≡ Some x
    at = (chain_of declaration declares).1

    has : HasRows F s e.object declaration x
    has = rows.each e.object declaration x declares at

    by_act : (act : Act O) → e.act ≡ act → ((op : O) → act ≡ Call op → ⊥) → reach_of F x.row.layout e ≡ One 0
    by_act (Call op) is not = absurd (not op refl)
    by_act (Swap to) is not = ap (λ act. needs (F.ways_of x.row.layout) F.procs act (F.proc_of e.caller)) is

    first : reach_of F x.row.layout e ≡ One 0
    first = by_act e.act refl not

    within : IsWithin F.procs (reach_of F x.row.layout e)
    within = subst (λ r. IsWithin F.procs r) (sym first) laws.some

    reached : cells ≡ cells_reached (many_procs s) e.object e.incarnation (reach_of F x.row.layout e)
    reached = mark.first ∙ ap (cells_reached (many_procs s) e.object e.incarnation) (sym first)

    now : many_hands s e.object ≡ incarnation s e.object
    now = hands_now F laws declared s turns_sound locked rows c cells e there core declaration x declares at mark.present within reached

    -- the tag of the row is that of the object
    tagged : F.tag_of x.row.layout ≡ (object s e.object).layout
    tagged =
        has.tagged x.row.layout
        (ap (slice_get (layouts_of s e.object ++ declaration ∷ [])) (omega (arith, now))
        ∙ ap (λ layouts. slice_get layouts 0) (sym has.rows.layouts))

    served : IsCallOrMark (F.object_of x.row.layout) (F.shapes_of x.row.layout) (F.tag_of x.row.layout) (length x.past) e.act e.answer
    served =
        mark_served (F.object_of x.row.layout) (object s e.object) (F.shapes_of x.row.layout) (F.tag_of x.row.layout) (length x.past) e.act e.answer not
        (mark_of (object s e.object) (F.shapes_of x.row.layout) (F.tag_of x.row.layout) (length x.past) e.answer mark.over has.rows.fits.row.known
        (laws.alike x.row.layout declaration has.rows.fits.row.kind ∙ sym has.shaped) tagged
        (past_now F laws declared s turns_sound locked rows c cells e there core declaration x declares at mark.present within reached)
        (own.found e.object e.answer mark.begun mark.found).over)

    silent : (act : Act O) → ((op : O) → act ≡ Call op → ⊥)
        → act_replies (F.ways_of x.row.layout) (parts_of F x.row) act (reach_of F x.row.layout e) ≡ None
    silent (Call op) not = absurd (not op refl)
    silent (Swap to) not = refl

    replied : (part_steps F x.row.layout).answers (parts_of F x.row) e ≡ (part_steps F x.row.layout).tells e
    replied = silent e.act not ∙ sym (no_reply e.answer mark.over)

  drawn_by : (act : Act O) → e.act ≡ act → IsDrawnAs F declared s c cells e act → IsDrawn F declared s c cells e
  drawn_by (Call op) is call = call_drawn op is call
  drawn_by (Swap to) is mark = mark_drawn (λ op call. no_call_swap to op (sym is ∙ call)) mark

  pub draw_drawn : MayDraw F declared s c cells e → IsDrawn F declared s c cells e
  draw_drawn may = drawn_by e.act refl may.act
