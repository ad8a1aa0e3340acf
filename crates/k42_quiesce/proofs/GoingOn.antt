-- The steps of a grace, one after the other.
use Rattle.std.proofs.Common.{◌≡◌, ℕ, ◌+◌, ◌-◌, ◌<◌, ◌≤◌, Bool, true, false, cond, ltb, List, Option, Some, None, length, length-set, refl, sym, ap, ◌∙◌, subst, arith}
use Rattle.std.specs.Prelude.{is_some, unwrap_or, slice_index, if◌then◌else◌, ◌%◌, ◌^◌, ◌==◌}
use Rattle.std.proofs.lemmas.Bool.{eq-eqb, ne_eqb}
use Rattle.k42_limits.specs.declared.TheConstants.{CALLERS}
use Rattle.gen_core.specs.Events.{is_quiet, is_looking, place_of, after_flip, after_look}
use Rattle.gen_core.specs.Plain.{Caller}
use Rattle.gen_core.specs.declared.state.GraceAt.{GraceAt}
use Rattle.gen_core.specs.declared.state.GraceAt.TheVariants.{Idle, Flipping, Looking, Quiet}
use Rattle.gen_core.proofs.Stages.{from_is_some}
use Rattle.phase_core.specs.Effects.{drained_at}
use Rattle.phase_core.specs.Plain.{Visitor}
use Rattle.phase_core.specs.declared.caller.SwapAt.{SwapAt}
use Rattle.k42_stamp.specs.Layouts.{Layouts}
use Rattle.k42_board.specs.Gracing.{MayFlip, ExitsFound, looked_view, looked_at, passed_view, asked_view, flipped_view, entries_in, exits_in, short_of, role_view}
use Rattle.k42_board.specs.Log.{Extends, step_at, took}
use Rattle.k42_board.specs.Noting.{due_note}
use Rattle.k42_board.specs.Protocol.{take_role}
use Rattle.k42_board.specs.Seen.{SysSeen, PassSeen, IsPassOf, IsSamePass}
use Rattle.k42_board.specs.Stepping.{Takes}
use Rattle.k42_board.specs.Words.{exits_word, generation_word, role_word}
use Rattle.k42_board.specs.declared.view.PassView.{PassView}
use Rattle.k42_board.specs.declared.view.StepName.TheVariants as steps
use Rattle.k42_board.proofs.Gained.{extends_same, extends_one, extends_on, ends_on, ends_one, grows_same, grows_one, grows_on}
use Rattle.k42_board.proofs.Notings.{made_length}
use Rattle.k42_quiesce.specs.Gracing.{GoesOn, IsLeft, IsLeftOf, TakesRole, with_role}
use Rattle.k42_quiesce.specs.declared.steps.Held.{Held}
use Rattle.k42_quiesce.specs.declared.steps.Held.TheVariants.{Left, RoleHeld}

-- what a grace that is not quiet leaves of its pass's swap
undrained : (grace : GraceAt) (swap : SwapAt) → is_quiet grace ≡ false → drained_at grace swap ≡ swap
undrained Idle swap e = refl
undrained (Flipping p) swap e = refl
undrained (Looking p) swap e = refl
undrained Quiet swap e = absurd (cc)

-- nor is one that has flipped a processor
flips_on : (p procs : ℕ) → is_quiet (after_flip p procs) ≡ false
flips_on p procs = by_test (ltb (p + 1) procs) where
  by_test : (b : Bool) → is_quiet (cond b (Flipping (p + 1)) (Looking 0)) ≡ false
  by_test true = refl
  by_test false = refl

module _ {P : Type 0} where
  pub goes_through : {O R : Type 0} (v w x : PassView P O R) → GoesOn v w → is_quiet w.turn.grace ≡ false → GoesOn w x → GoesOn v x
  goes_through {O} {R} v w x a busy b = record {
    turn = b.turn ∙ ap (λ (t : Caller). record t { grace = x.turn.grace; coming = x.turn.coming; waits = x.turn.waits }) a.turn;
    procs = b.procs ∙ a.procs;
    visitor =
        b.visitor
        ∙ ap (λ (y : Visitor). record y { swap = drained_at x.turn.grace y.swap }) a.visitor
        ∙ ap (λ (swap : SwapAt). record v.visitor { swap = drained_at x.turn.grace swap }) (undrained w.turn.grace v.visitor.swap busy);
    base = λ asked. let same = a.base asked in b.base (ap is_some same ∙ asked) ∙ same;
    rest = b.rest ∙ ap (λ (y : PassView P O R). record y { turn = x.turn; visitor = x.visitor; base = x.base; log = x.log }) a.rest;
    log = extends_on a.log b.log;
    frees_none = grows_on a.frees_none b.frees_none;
  }

  pub goes_nowhere : {O R : Type 0} (v : PassView P O R) → is_quiet v.turn.grace ≡ false → GoesOn v v
  goes_nowhere v busy = record {
    turn = refl;
    procs = refl;
    visitor = ap (λ (swap : SwapAt). record v.visitor { swap = swap }) (sym (undrained v.turn.grace v.visitor.swap busy));
    base = λ asked. refl;
    rest = refl;
    log = extends_same v.log;
    frees_none = grows_same v.log;
  }

  pub goes_asked : {O R : Type 0} (v w : PassView P O R) (found : ℕ) → v.base ≡ None → is_quiet v.turn.grace ≡ false
      → w ≡ took steps.AskGeneration (generation_word 0) found (asked_view found v) → GoesOn v w
  goes_asked v w found none busy e =
      subst (GoesOn v) (sym e)
      (record {
        turn = refl;
        procs = refl;
        visitor = ap (λ (swap : SwapAt). record v.visitor { swap = swap }) (sym (undrained v.turn.grace v.visitor.swap busy));
        base = λ asked. absurd (let no : is_some v.base ≡ false = ap is_some none in cc);
        rest = refl;
        log = extends_one (step_at steps.AskGeneration (generation_word 0) found) v.log refl;
        frees_none = grows_one (step_at steps.AskGeneration (generation_word 0) found) v.log refl;
      })

  -- a look ahead, a flip, and a look back
  ahead : {O R : Type 0} (p word found : ℕ) (v w : PassView P O R) → v.turn.grace ≡ Flipping p → w ≡ took steps.Look word found (looked_view found v)
      → w ≡ took steps.Look word found (record v { turn = record v.turn { coming = Some (exits_in found) } })
  ahead p word found v w grace e = e ∙ ap (λ (g : GraceAt). took steps.Look word found (looked_at g found v)) grace

  pub goes_ahead : {O R : Type 0} (p word found : ℕ) (v w : PassView P O R) → v.turn.grace ≡ Flipping p → w ≡ took steps.Look word found (looked_view found v) → GoesOn v w
  goes_ahead p word found v w grace e =
      subst (GoesOn v) (sym (ahead p word found v w grace e))
      (record {
        turn = refl;
        procs = refl;
        visitor = ap (λ (g : GraceAt). record v.visitor { swap = drained_at g v.visitor.swap }) (sym grace);
        base = λ asked. refl;
        rest = refl;
        log = extends_one (step_at steps.Look word found) v.log refl;
        frees_none = grows_one (step_at steps.Look word found) v.log refl;
      })

  goes_flipped : {O R : Type 0} (word found : ℕ) (v w : PassView P O R) → w ≡ took steps.Flip word found (flipped_view found v) → GoesOn v w
  goes_flipped word found v w e =
      subst (GoesOn v) (sym e)
      (record {
        turn = refl;
        procs = length-set v.turn.waits (place_of v.turn.grace) (entries_in found);
        visitor =
            ap (λ (swap : SwapAt). record v.visitor { swap = swap })
            (sym (undrained (after_flip (place_of v.turn.grace) (length v.turn.waits)) v.visitor.swap (flips_on (place_of v.turn.grace) (length v.turn.waits))));
        base = λ asked. refl;
        rest = refl;
        log = extends_one (step_at steps.Flip word found) v.log refl;
        frees_none = grows_one (step_at steps.Flip word found) v.log refl;
      })

  pub goes_flip : {O R : Type 0} (p found : ℕ) (v w x : PassView P O R) → GoesOn v w → w.turn.grace ≡ Flipping p → x ≡ took steps.Flip (generation_word p) found (flipped_view found w)
      → GoesOn v x × (x.turn.grace ≡ after_flip p (length v.turn.waits))
  goes_flip {O} {R} p found v w x before grace e = (
    goes_through v w x before (ap is_quiet grace) (goes_flipped (generation_word p) found w x e),
    ap (λ (y : PassView P O R). y.turn.grace) e ∙ ap (λ (g : GraceAt). after_flip (place_of g) (length w.turn.waits)) grace ∙ ap (after_flip p) before.procs,
  )

  back : {O R : Type 0} (p word found : ℕ) (v w : PassView P O R) → v.turn.grace ≡ Looking p → w ≡ took steps.Look word found (looked_view found v)
      → w ≡ took steps.Look word found (if exits_in found == slice_index v.turn.waits p then passed_view v else v)
  back p word found v w grace e = e ∙ ap (λ (g : GraceAt). took steps.Look word found (looked_at g found v)) grace

  pub goes_back : {O R : Type 0} (p word found : ℕ) (v w : PassView P O R) → v.turn.grace ≡ Looking p → w ≡ took steps.Look word found (looked_view found v) → GoesOn v w
  goes_back p word found v w grace e = subst (GoesOn v) (sym (back p word found v w grace e)) (by_test (exits_in found == slice_index v.turn.waits p)) where
    by_test : (b : Bool) → GoesOn v (took steps.Look word found (cond b (passed_view v) v))
    by_test true = record {
      turn = refl;
      procs = refl;
      visitor = refl;
      base = λ asked. refl;
      rest = refl;
      log = extends_one (step_at steps.Look word found) v.log refl;
      frees_none = grows_one (step_at steps.Look word found) v.log refl;
    }
    by_test false = record {
      turn = refl;
      procs = refl;
      visitor = ap (λ (g : GraceAt). record v.visitor { swap = drained_at g v.visitor.swap }) (sym grace);
      base = λ asked. refl;
      rest = refl;
      log = extends_one (step_at steps.Look word found) v.log refl;
      frees_none = grows_one (step_at steps.Look word found) v.log refl;
    }

  few_found : {O R : Type 0} (p found : ℕ) (v : PassView P O R) → v.turn.grace ≡ Looking p → ExitsFound v found → short_of (slice_index v.turn.waits p) found ≤ CALLERS
  few_found p found v grace is =
      subst (λ (g : GraceAt). short_of (slice_index v.turn.waits (place_of g)) found ≤ CALLERS) grace (is.few (ap is_looking grace))

  -- after which all have left the processor, or so many have not
  module _ {O R : Type 0} (p waits exits word found : ℕ) (v w : PassView P O R) (grace : v.turn.grace ≡ Looking p) (entered : waits ≡ slice_index v.turn.waits p)
      (small : waits < 2 ^ 32) (read : exits ≡ exits_in found) (e : w ≡ took steps.Look word found (looked_view found v)) where
    abbrev left_there : ℕ
    left_there = (waits + (2 ^ 32 - exits)) % 2 ^ 32

    pub passes_back : left_there ≡ 0 → w.turn.grace ≡ after_look p (length v.turn.waits)
    passes_back none =
        let all : exits_in found ≡ slice_index v.turn.waits p = omega (arith, small, read, none, entered) in
        ap (λ (x : PassView P O R). x.turn.grace) (back p word found v w grace e)
        ∙ ap (λ b. (cond b (passed_view v) v).turn.grace) (eq-eqb (exits_in found) (slice_index v.turn.waits p) all)
        ∙ ap (λ (g : GraceAt). after_look (place_of g) (length v.turn.waits)) grace

    pub left_back : ExitsFound v found → p < length v.turn.waits → word ≡ exits_word p (unwrap_or v.base 0 % 2) → 0 < left_there → IsLeft p left_there v w
    left_back finds there at some =
        let few = few_found p found v grace finds in
        let test : (exits_in found == slice_index v.turn.waits p) ≡ false =
        ne_eqb (exits_in found) (slice_index v.turn.waits p) (λ all. omega (arith, all, read, entered, some)) in
        let is : w ≡ took steps.Look (exits_word p (unwrap_or v.base 0 % 2)) found v =
        back p word found v w grace e ∙ ap (λ b. took steps.Look word found (cond b (passed_view v) v)) test ∙ ap (λ i. took steps.Look i found v) at in
        subst (IsLeft p left_there v) (sym is)
        (record {
          at = grace;
          there = there;
          some = some;
          exits = found;
          looked = ends_one (step_at steps.Look (exits_word p (unwrap_or v.base 0 % 2)) found) v.log;
          short = omega (arith, small, read, entered);
          few = omega (arith, few, read, entered);
        })

  -- the last look of more steps
  pub left_later : {O R : Type 0} (held : Held) (v w x : PassView P O R) → Extends v.log w.log → IsLeftOf held w x → IsLeftOf held v x
  left_later (Left p left) v w x goes is =
      record { at = is.at; there = is.there; some = is.some; exits = is.exits; looked = ends_on goes is.looked; short = is.short; few = is.few }
  left_later (RoleHeld holder) v w x goes is = is

  -- the pass is still one of the system
  pub still_of : {L O R : Type 0} (sys : SysSeen L) (old new : PassSeen P O R) → IsPassOf sys old → IsSamePass old new → GoesOn old.view new.view → IsPassOf sys new
  still_of {O} {R} sys old new is same goes =
      let turn = goes.turn in let procs = goes.procs in let visitor = goes.visitor in
      record {
        table = same.table ∙ is.table;
        proc = subst (λ n. n < sys.procs) (sym (ap (λ (t : Caller). t.proc) turn)) is.proc;
        waits = procs ∙ is.waits;
        objects = ap (λ (y : Visitor). length y.noted) visitor ∙ is.objects;
        shapes = ap (λ (v : PassView P O R). v.shapes) goes.rest ∙ is.shapes;
        spans = ap (λ (y : Visitor). length y.freeing) visitor ∙ is.spans;
        queue = same.queue ∙ is.queue;
        keep = (λ i. (same.keep i).what) ∙ is.keep;
      }

  pub may_flip : {O R : Type 0} (p : ℕ) (v : PassView P O R) → is_some v.base ≡ true → v.turn.grace ≡ Flipping p → is_some v.turn.coming ≡ true → MayFlip p v
  may_flip p v asked grace coming =
      let base = from_is_some v.base asked in let exits = from_is_some v.turn.coming coming in
      record { base = base.0; asked = base.1; exits = exits.0; coming = exits.1; grace = grace }

  pub may_flip_looked : {O R : Type 0} (p word found : ℕ) (v w : PassView P O R) → is_some v.base ≡ true → v.turn.grace ≡ Flipping p
      → w ≡ took steps.Look word found (looked_view found v) → MayFlip p w
  may_flip_looked {O} {R} p word found v w asked grace e =
      let told = ahead p word found v w grace e in
      may_flip p w (ap (λ (y : PassView P O R). is_some y.base) told ∙ asked) (ap (λ (y : PassView P O R). y.turn.grace) told ∙ grace)
      (ap (λ (y : PassView P O R). is_some y.turn.coming) told)

  -- the role of another caller is not taken
  pub not_taken : {O R : Type 0} (v w : PassView P O R) (found : ℕ) → w ≡ took steps.TakeRole role_word found (role_view found v) → 0 < found
      → w ≡ took steps.TakeRole role_word found v
  not_taken v w found e some =
      e ∙ ap (λ b. took steps.TakeRole role_word found (cond b (role_view 0 v) v)) (ne_eqb found 0 (λ none. omega (arith, some, none)))

  pub untaken_of : {L O R : Type 0} (sys : SysSeen L) (old new : PassSeen P O R) (found : ℕ) → IsPassOf sys old → IsSamePass old new
      → new.view ≡ took steps.TakeRole role_word found (role_view found old.view) → 0 < found → IsPassOf sys new
  untaken_of {O} {R} sys old new found is same e some =
      let knows = not_taken old.view new.view found e some in
      record {
        table = same.table ∙ is.table;
        proc = subst (λ n. n < sys.procs) (sym (ap (λ (v : PassView P O R). v.turn.proc) knows)) is.proc;
        waits = ap (λ (v : PassView P O R). length v.turn.waits) knows ∙ is.waits;
        objects = ap (λ (v : PassView P O R). length v.visitor.noted) knows ∙ is.objects;
        shapes = ap (λ (v : PassView P O R). v.shapes) knows ∙ is.shapes;
        spans = ap (λ (v : PassView P O R). length v.visitor.freeing) knows ∙ is.spans;
        queue = same.queue ∙ is.queue;
        keep = (λ i. (same.keep i).what) ∙ is.keep;
      }

  pub role_extends : {O R : Type 0} (holder : Option ℕ) (v : PassView P O R) → Extends v.log (with_role holder v).log
  role_extends None v = extends_one (step_at steps.TakeRole role_word 0) v.log refl
  role_extends (Some holder) v = extends_same v.log

  -- so is one that has taken the role
  pub taken_of : {L O R : Type 0} (sys : SysSeen L) (old new : PassSeen P O R) → IsPassOf sys old → IsSamePass old new → new.view ≡ with_role None old.view → IsPassOf sys new
  taken_of {O} {R} sys old new is same e = record {
    table = same.table ∙ is.table;
    proc = subst (λ n. n < sys.procs) (sym (ap (λ (v : PassView P O R). v.turn.proc) e)) is.proc;
    waits = ap (λ (v : PassView P O R). length v.turn.waits) e ∙ is.waits;
    objects = ap (λ (v : PassView P O R). length v.visitor.noted) e ∙ made_length (due_note old.view) 0 (length old.view.visitor.noted) ∙ is.objects;
    shapes = ap (λ (v : PassView P O R). v.shapes) e ∙ is.shapes;
    spans = ap (λ (v : PassView P O R). length v.visitor.freeing) e ∙ is.spans;
    queue = same.queue ∙ is.queue;
    keep = (λ i. (same.keep i).what) ∙ is.keep;
  }

module _ {S L P O R : Type 0} (F : Layouts S L P O R) (declared : List L) (id : ℕ) (v w : PassView P O R) (found : ℕ) (takes : Takes F declared take_role id v found w) where
  -- what it tells of the role's word
  pub takes_found : (n : ℕ) → found ≡ n → Takes F declared take_role id v n w
  takes_found n same = subst (λ n. Takes F declared take_role id v n w) same takes

  pub takes_role : found ≡ 0 → (w ≡ with_role None v) × TakesRole F declared id v
  takes_role free = let is = takes_found 0 free in (is.knows, subst (λ (x : PassView P O R). Takes F declared take_role id v 0 x) is.knows is)
