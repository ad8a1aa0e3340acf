-- Every fact holds after each list of events.
use Rattle.std.proofs.Common.{List, [], ◌∷◌, sym, subst}
use Rattle.k42_stamp.specs.Laws.{AreLaws}
use Rattle.k42_stamp.specs.Layouts.{Layouts}
use Rattle.k42_joined.specs.Plain.{Joined}
use Rattle.k42_joined.specs.Event.{Event}
use Rattle.k42_joined.specs.Effects.{effect}
use Rattle.k42_joined.specs.Fresh.{fresh}
use Rattle.k42_joined.specs.Runs.{Leads, IsReached}
use Rattle.k42_joined.specs.Sound.{IsSound}
use Rattle.k42_joined.proofs.Fresh.{fresh_sound}
use Rattle.k42_joined.proofs.Kept.{joined_keeps}

module _ {S L P O R : Type 0} (F : Layouts S L P O R) (laws : AreLaws F) (declared : List L) where
  pub leads_sound : (events : List (Event L O R)) (s t : Joined L O R) → IsSound F declared s → Leads F declared events s t → IsSound F declared t
  leads_sound [] s t sound leads = subst (IsSound F declared) (sym leads) sound
  leads_sound (event ∷ events) s t sound leads =
      leads_sound events (effect s event) t (joined_keeps F laws declared s sound event leads.0) leads.1

  pub reached_sound : (s : Joined L O R) → IsReached F declared s → IsSound F declared s
  reached_sound s reached =
      leads_sound reached.events (fresh F declared reached.callers) s (fresh_sound F declared reached.callers reached.plan) reached.leads
