-- The first objects are swept, one after the other.
use Rattle.std.proofs.Common.{◌≡◌, ℕ, suc, ◌+◌, ◌<◌, Bool, true, false, ltb, ◌∷◌, Some, length, replicate, refl, sym, ap, ◌∙◌, subst, arith}
use Rattle.std.specs.Prelude.{is_some}
use Rattle.std.proofs.lemmas.Bool.{ltb-true, ltb-false}
use Rattle.phase_core.specs.State.{note_at}
use Rattle.k42_joined.specs.Swapping.{holds_none}
use Rattle.k42_board.specs.Gracing.{MayGiveRole, given_view}
use Rattle.k42_board.specs.Log.{has_swept, step_at, took}
use Rattle.k42_board.specs.Words.{role_word}
use Rattle.k42_board.specs.declared.view.PassView.{PassView}
use Rattle.k42_board.specs.declared.view.StepName.TheVariants as steps
use Rattle.k42_quiesce.specs.Reclaiming.{MayReclaim, FreesAll, Frees, Sweeps, Reclaims, reclaimed_view}
use Rattle.k42_quiesce.proofs.Reclaimed.{noted_there}

-- so many objects are swept, and else little is changed
pub record HasSwept {P O R : Type 0} (procs many count : ℕ) (v w : PassView P O R) : Type 0 where
  pub frees : FreesAll procs v.visitor.noted many count v.log w.log
  pub spans : length w.visitor.freeing ≡ length v.visitor.freeing
  pub swept : (o : ℕ) → o < many → is_some (note_at v.visitor.noted o) ≡ true → has_swept w.log o ≡ true
  pub rest :
      w ≡ record v { visitor = record v.visitor { freeing = w.visitor.freeing }; log = w.log; out = w.out }

pub none_swept : {P O R : Type 0} (procs : ℕ) (v : PassView P O R) → HasSwept procs 0 0 v v
none_swept procs v = record { frees = (refl, refl); spans = refl; swept = λ o lt. absurd (omega (arith, lt)); rest = refl }

-- one more is
pub sweeps_next : {P O R : Type 0} (procs many count more : ℕ) (v w x : PassView P O R) → HasSwept procs many count v w → Sweeps procs many more w x
    → HasSwept procs (many + 1) (count + more) v x
sweeps_next {P} {O} {R} procs many count more v w x is next =
    record { frees = frees; spans = next.spans ∙ is.spans; swept = swept; rest = rest } where
      noted : (o : ℕ) → note_at w.visitor.noted o ≡ note_at v.visitor.noted o
      noted o = ap (λ (u : PassView P O R). note_at u.visitor.noted o) is.rest

      frees : FreesAll procs v.visitor.noted (many + 1) (count + more) v.log x.log
      frees =
          let step : suc many ≡ many + 1 = omega arith in
          subst (λ m. FreesAll procs v.visitor.noted m (count + more) v.log x.log) step
          (w.log, count, more, is.frees, subst (λ note. Frees procs many note more w.log x.log) (noted many) next.frees, refl)

      rest : x ≡ record v { visitor = record v.visitor { freeing = x.visitor.freeing }; log = x.log; out = x.out }
      rest = next.rest
          ∙ ap (λ (u : PassView P O R). record u { visitor = record u.visitor { freeing = x.visitor.freeing }; log = x.log; out = x.out }) is.rest

      swept : (o : ℕ) → o < many + 1 → is_some (note_at v.visitor.noted o) ≡ true → has_swept x.log o ≡ true
      swept o lt known = by_test (ltb o many) refl where
        by_test : (b : Bool) → ltb o many ≡ b → has_swept x.log o ≡ true
        by_test true e = next.kept o (is.swept o (ltb-true o many e) known)
        by_test false e =
            let past = ltb-false o many e in
            let here : many ≡ o = omega (arith, lt, past) in
            subst (λ q. has_swept x.log q ≡ true) here (next.marked (subst (λ q. is_some (note_at w.visitor.noted q) ≡ true) (sym here) (ap is_some (noted o) ∙ known)))

-- all are, and the role may be given back
module _ {P O R : Type 0} (procs many count : ℕ) (v w : PassView P O R) (is : HasSwept procs many count v w) (all : length v.visitor.noted ≡ many) where
  pub may_give : MayReclaim v → MayGiveRole w
  may_give may = record {
    quiet = ap (λ (u : PassView P O R). u.turn.grace) is.rest ∙ may.quiet;
    free = ap (λ (u : PassView P O R). holds_none u.taker.held) is.rest ∙ may.free;
    swept = λ o n drained note.
        let known : note_at v.visitor.noted o ≡ Some n = sym (ap (λ (u : PassView P O R). note_at u.visitor.noted o) is.rest) ∙ note in
        let there = noted_there v.visitor.noted o n known in
        is.swept o (omega (arith, there, all)) (ap is_some known);
  }

  module _ (x : PassView P O R) (given : x ≡ took steps.GiveRole role_word 0 (given_view w)) where
    pub all_swept : (o : ℕ) → o < length v.visitor.noted → is_some (note_at v.visitor.noted o) ≡ true → has_swept x.log o ≡ true
    all_swept o lt known = ap (λ (u : PassView P O R). has_swept u.log o) given ∙ is.swept o (omega (arith, lt, all)) known

    pub still_noted : x.visitor.noted ≡ v.visitor.noted
    still_noted = ap (λ (u : PassView P O R). u.visitor.noted) given ∙ ap (λ (u : PassView P O R). u.visitor.noted) is.rest

    pub knows_all : x ≡ reclaimed_view v x
    knows_all =
        subst (λ (u : PassView P O R). u ≡ reclaimed_view v u) (sym given)
        (
        ap (λ (u : PassView P O R). took steps.GiveRole role_word 0 (given_view u)) is.rest
        ∙ ap
        (λ n. record (given_view v) {
          visitor = record v.visitor { freeing = replicate n (0, 0) };
          log = step_at steps.GiveRole role_word 0 ∷ w.log;
          out = w.out;
        })
        is.spans
        )

    pub reclaims : (layouts : ℕ) → many ≡ layouts → Reclaims procs layouts v.visitor.noted v.log x.log count
    reclaims layouts same = record {
      log = w.log;
      frees = subst (λ m. FreesAll procs v.visitor.noted m count v.log w.log) same is.frees;
      given = ap (λ (u : PassView P O R). u.log) given;
    }
