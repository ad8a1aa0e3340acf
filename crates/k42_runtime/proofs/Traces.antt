-- What holds of each trace holds of a system's.
use Rattle.std.proofs.Common.{◌≡◌, ℕ, zero, suc, ◌<◌, Bool, true, List, [], ◌∷◌, slice_index_or, refl, sym, subst}
use Rattle.k42_kinds.specs.Histories.{AtEachPlace}
use Rattle.k42_kinds.specs.Legal.{IsSoFarAmongObjects}
use Rattle.k42_kinds.specs.declared.entry.Entry.{Entry}
use Rattle.atomic_table.specs.Table.{State}
use Rattle.gen_core.specs.State as gens
use Rattle.k42_places.specs.Places.{EachPlace}
use Rattle.k42_stamp.specs.Layouts.{Layouts}
use Rattle.k42_stamp.specs.Lists.{IsMerged, AreLegal, is_drawn}
use Rattle.k42_joined.specs.Fitting.{lists_of}
use Rattle.k42_joined.specs.Plain.{Joined}
use Rattle.k42_joined.specs.Sound.{IsSound}
use Rattle.k42_board.specs.Cells.{Slot}
use Rattle.k42_board.specs.Rule.{Rule}
use Rattle.k42_board.specs.declared.view.View.{View}
use Rattle.k42_runtime.specs.Systems.{SystemSeen, IsPlanned}

-- what is needed of the law of each trace, where F has the layouts on any processors and for any callers there
abbrev pub LegalLaw : {S L P O R : Type 0} → ((ℕ → ℕ) → Layouts S L P O R) → ℕ → Type 0
LegalLaw {S} {L} {P} {O} {R} F procs =
    (proc_of : ℕ → ℕ) → ((caller : ℕ) → proc_of caller < procs)
    → (declared : List L) (s : Joined L O R) (merged : List (Entry O R))
    → IsSound (F proc_of) declared s → IsMerged (lists_of s) merged → AreLegal (F proc_of) declared is_drawn merged

homes : (procs : ℕ) (callers : List ℕ) → 0 < procs → EachPlace (λ c p. p < procs) callers → (c : ℕ) → slice_index_or callers c 0 < procs
homes procs [] some placed c = some
homes procs (p ∷ callers) some placed zero = placed 0 p refl
homes procs (p ∷ callers) some placed (suc c) = homes procs callers some (λ i q at. placed (suc i) q at) c

-- each caller is on a processor that is there
pub all_placed : {L : Type 0} (is_live : L → Bool) (system : SystemSeen L) → IsPlanned is_live system → (c : ℕ) → slice_index_or system.sys.callers c 0 < system.sys.procs
all_placed is_live system planned =
    homes system.sys.procs system.sys.callers turns_are.limits.some_procs turns_are.placed where
      turns_are : gens.IsPlan system.sys.procs system.sys.callers
      turns_are = subst (λ (z : ℕ × List ℕ). gens.IsPlan z.0 z.1) (λ k. (sym planned.procs k, sym planned.callers k)) planned.sound.turns

-- the processor of each caller of a system
abbrev pub homes_in : {L : Type 0} → SystemSeen L → ℕ → ℕ
homes_in system c = slice_index_or system.sys.callers c 0

module _ {S L P O R : Type 0} (F : (ℕ → ℕ) → Layouts S L P O R) (is_live : L → Bool) where
  pub shown : (system : SystemSeen L) → IsPlanned is_live system → LegalLaw F system.sys.procs
      → (table : State (Slot P O R) (View P O R)) (rule : Rule (F (homes_in system)) system.sys.layouts table)
      → (merged : List (Entry O R)) → IsMerged (lists_of rule.state) merged
      → AtEachPlace (λ before entry after. is_drawn entry.act entry.answer ≡ true
      → IsSoFarAmongObjects (F (homes_in system)).object_of system.plan.objects before entry after) merged
  shown system planned law table rule merged is =
      subst (λ declared. AreLegal (F (homes_in system)) declared is_drawn merged) planned.layouts
      (law (homes_in system) (all_placed is_live system planned) system.sys.layouts rule.state merged rule.sound is)
