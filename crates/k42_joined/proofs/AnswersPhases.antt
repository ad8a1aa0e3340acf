-- Each event of tables and swaps keeps the answers.
use Rattle.std.proofs.Common.{◌<◌, List, refl}
use Rattle.phase_core.specs.Event.{Event, Begin, Move, TurnOver, Unblock, Open, Clear, caller_of}
use Rattle.phase_core.specs.Sound as phases
use Rattle.turn_core.specs.Sound as turns
use Rattle.k42_stamp.specs.Laws.{AreLaws}
use Rattle.k42_stamp.specs.Layouts.{Layouts}
use Rattle.k42_joined.specs.Plain.{Joined}
use Rattle.k42_joined.specs.Answers.{AreAnswered}
use Rattle.k42_joined.specs.Event.{AtPhases}
use Rattle.k42_joined.specs.Effects.{effect}
use Rattle.k42_joined.specs.Fitting.{Fitting}
use Rattle.k42_joined.specs.Locks.{AreLocked}
use Rattle.k42_joined.specs.Possible.{MayAtPhases}
use Rattle.k42_joined.specs.State.{many_callers}
use Rattle.k42_joined.proofs.AnswersBegin.{begin_answers}
use Rattle.k42_joined.proofs.AnswersMoves.{move_answers, turn_over_answers, unblock_answers}
use Rattle.k42_joined.proofs.AnswersOpens.{open_answers, clear_answers}
use Rattle.k42_joined.proofs.AnswersQuiet.{quiet_keeps}

module _ {S L P O R : Type 0} (F : Layouts S L P O R) (laws : AreLaws F) (declared : List L) (s : Joined L O R)
    (sound : phases.IsSound s.phases) (turns_sound : turns.IsSound s.turns) (locked : AreLocked s) (rows : Fitting F declared s)
    (answered : AreAnswered s) where
  pub phases_keep_answers : (event : Event) → caller_of event < many_callers s → MayAtPhases F declared s event
      → AreAnswered (effect s (AtPhases event))
  phases_keep_answers (Begin c q) there may = begin_answers F declared s sound locked answered c q there may
  phases_keep_answers (Move c) there may = move_answers F laws declared s sound turns_sound locked rows answered c there may.core
  phases_keep_answers (TurnOver c tag) there may = turn_over_answers F laws declared s sound turns_sound locked rows answered c there tag may
  phases_keep_answers (Unblock c) there may = unblock_answers F laws declared s sound turns_sound locked rows answered c there may
  phases_keep_answers (Open c) there may = open_answers s sound answered c there
  phases_keep_answers (Clear c) there may = clear_answers s sound answered c there F declared may
  phases_keep_answers event there may = quiet_keeps F declared s sound answered event there may refl
