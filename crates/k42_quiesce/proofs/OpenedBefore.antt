-- An activity that is open as a role is taken ends before that grace is quiet.
use Rattle.std.proofs.Common.{◌≡◌, ℕ, ◌<◌, true, List, ◌∷◌, length, refl, sym, ap, ◌∙◌, subst, inl}
use Rattle.std.specs.Prelude.{is_some}
use Rattle.std.proofs.lemmas.Bool.{and_parts}
use Rattle.gen_core.specs.Events as gens
use Rattle.gen_core.specs.Plain.{Generations}
use Rattle.gen_core.specs.Runs.{run, AreInRange, Occurs, IsQuietGrace}
use Rattle.gen_core.specs.State.{caller_at}
use Rattle.gen_core.specs.declared.event.GenEvent.{GenEvent}
use Rattle.gen_core.specs.declared.event.GenEvent.TheVariants.{Leave, TakeRole, GiveRole}
use Rattle.gen_core.proofs.Alone.{happens_only}
use Rattle.gen_core.proofs.Ended.{quiet_means_ended}
use Rattle.phase_core.specs.Event.{TakeRoleWith}
use Rattle.phase_core.proofs.Ranges.{turns_sound}
use Rattle.phase_core.proofs.Reached.{turn_there}
use Rattle.k42_stamp.specs.Laws.{AreLaws}
use Rattle.k42_stamp.specs.Layouts.{Layouts}
use Rattle.k42_stamp.specs.Orders.{In}
use Rattle.k42_stamp.proofs.Elements.{in_right}
use Rattle.k42_joined.specs.Effects.{effect}
use Rattle.k42_joined.specs.Event.{Event, AtPhases}
use Rattle.k42_joined.specs.Plain.{Joined}
use Rattle.k42_joined.specs.Runs.{Leaves}
use Rattle.k42_joined.specs.Sound.{IsSound}
use Rattle.k42_joined.proofs.Kept.{joined_keeps}
use Rattle.k42_quiesce.specs.Quiet.{IsActiveIn, IsGrace}
use Rattle.k42_quiesce.proofs.Ended.{active_there}
use Rattle.k42_quiesce.proofs.TurnsOfEvents.{turns_of, turns_after, turns_run, in_range, back}

occurs_in : (e : GenEvent) (events : List GenEvent) (s : Generations) → Occurs e events s → In e events
occurs_in e events s is = subst (λ (es : List GenEvent). In e es) (sym is.split) (in_right e is.before (e ∷ is.after) (inl refl))

module _ {S L P O R : Type 0} (F : Layouts S L P O R) (laws : AreLaws F) (declared : List L) (s t : Joined L O R) (sound : IsSound F declared s)
    (c : ℕ) (notes : List (ℕ × ℕ)) (events : List (Event L O R)) (grace : IsGrace F declared s t c notes events) where
  abbrev g : Generations
  g = s.phases.turns

  abbrev u : Joined L O R
  u = effect s (AtPhases (TakeRoleWith c notes))

  may : gens.is_possible g (TakeRole c) ≡ true
  may = (and_parts (gens.is_possible g (TakeRole c)) _ grace.leads.0.may.core).0

  holder : c < length g.callers
  holder = turn_there s.phases sound.phases c grace.leads.0.caller

  taken : u.phases.turns ≡ gens.happens g (TakeRole c)
  taken = turns_after s.phases (TakeRoleWith c notes) grace.leads.0.may.core

  range : AreInRange (length g.callers) (turns_of events)
  range =
      let many = ap (λ (h : Generations). length h.callers) taken ∙ (happens_only g (TakeRole c) holder).many_callers in
      subst (λ n. AreInRange n (turns_of events)) many
      (in_range F laws declared events u t (joined_keeps F laws declared s sound (AtPhases (TakeRoleWith c notes)) grace.leads.0) grace.leads.1)

  quiet : IsQuietGrace g (turns_of events) c
  quiet = record {
    takes = record { possible = may; free = grace.free };
    keeps = λ gives. grace.keeps (back (GiveRole c) events (λ d e. cc) (occurs_in _ _ _ gives));
    quiet = ap (λ (h : Generations). (caller_at h c).grace) (sym (turns_run F laws declared events u t grace.leads.1 ∙ ap (run (turns_of events)) taken)) ∙ grace.is_quiet;
  }

  pub open_leaves : (caller generation : ℕ) → IsActiveIn s caller generation → Leaves caller events
  open_leaves caller generation active =
      back (Leave caller) events (λ d e. cc)
      (occurs_in _ _ _
      (quiet_means_ended g (turns_of events) c caller (turns_sound s.phases sound.phases) range holder (active_there g caller generation active)
      (ap is_some active) quiet))
