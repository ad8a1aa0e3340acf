-- Free passes of the three callers of a system, in order, may be closed.
use Rattle.std.proofs.Common.{◌≡◌, ◌∙◌, ℕ, zero, suc, List, [], ◌∷◌, Some, length, sym, subst}
use Rattle.std.specs.List.{slice_get}
use Rattle.std.proofs.lemmas.Option.{same_Some}
use Rattle.k42_board.specs.declared.keep.Keep.TheVariants.{All}
use Rattle.k42_rule.specs.Finishing.{IsPassAtRest}
use Rattle.k42_runtime.specs.Histories.{MayClose}
use Rattle.co_system.specs.Systems.{SystemSeen, SystemPass, IsPlanned}
use Rattle.k42_crews.specs.Ready.{IsFree}

at_rest : (system : SystemSeen) (c : ℕ) (pass other : SystemPass) → IsFree system pass → pass.view.number ≡ c → pass ≡ other → IsPassAtRest system.sys c other
at_rest system c pass other free number same =
    subst (λ (p : SystemPass). IsPassAtRest system.sys c p) same (record { ours = free.here.ours.table; number = number; rests = free.rests })

keeps_all : (system : SystemSeen) (pass other : SystemPass) → IsPlanned system → system.plan.keep ≡ All → IsFree system pass → pass ≡ other
    → other.keep.what ≡ All
keeps_all system pass other planned keeps free same =
    subst (λ (p : SystemPass). p.keep.what ≡ All) same (free.here.ours.keep ∙ planned.keep ∙ keeps)

each_rests : (system : SystemSeen) (first second third : SystemPass) → IsFree system first → IsFree system second → IsFree system third
    → first.view.number ≡ 0 → second.view.number ≡ 1 → third.view.number ≡ 2
    → (i : ℕ) (pass : SystemPass) → slice_get (first ∷ second ∷ third ∷ []) i ≡ Some pass → IsPassAtRest system.sys i pass
each_rests system first second third one two three is_0 is_1 is_2 zero pass at = at_rest system 0 first pass one is_0 (same_Some first pass at)
each_rests system first second third one two three is_0 is_1 is_2 (suc zero) pass at =
    at_rest system 1 second pass two is_1 (same_Some second pass at)
each_rests system first second third one two three is_0 is_1 is_2 (suc (suc zero)) pass at =
    at_rest system 2 third pass three is_2 (same_Some third pass at)
each_rests system first second third one two three is_0 is_1 is_2 (suc (suc (suc i))) pass at = absurd (cc)

each_keeps : (system : SystemSeen) (first second third : SystemPass) → IsPlanned system → system.plan.keep ≡ All → IsFree system first
    → IsFree system second → IsFree system third → (i : ℕ) (pass : SystemPass) → slice_get (first ∷ second ∷ third ∷ []) i ≡ Some pass → pass.keep.what ≡ All
each_keeps system first second third planned keeps one two three zero pass at = keeps_all system first pass planned keeps one (same_Some first pass at)
each_keeps system first second third planned keeps one two three (suc zero) pass at = keeps_all system second pass planned keeps two (same_Some second pass at)
each_keeps system first second third planned keeps one two three (suc (suc zero)) pass at =
    keeps_all system third pass planned keeps three (same_Some third pass at)
each_keeps system first second third planned keeps one two three (suc (suc (suc i))) pass at = absurd (cc)

pub may_close : (system : SystemSeen) (first second third : SystemPass) (passes : List SystemPass) → passes ≡ first ∷ second ∷ third ∷ []
    → IsPlanned system → system.plan.keep ≡ All → length system.plan.callers ≡ 3 → IsFree system first → IsFree system second → IsFree system third
    → first.view.number ≡ 0 → second.view.number ≡ 1 → third.view.number ≡ 2 → MayClose system passes
may_close system first second third passes same planned keeps callers one two three is_0 is_1 is_2 =
    subst (λ (ps : List SystemPass). MayClose system ps) (sym same) (record {
      may_end = record {
        many = sym callers;
        each = λ i pass at. each_rests system first second third one two three is_0 is_1 is_2 i pass at;
      };
      all = λ i pass at. each_keeps system first second third planned keeps one two three i pass at;
    })
