-- A call that a free pass has made in an activity of its own.
use Rattle.std.specs.Prelude.{◌≡◌, ℕ, ◌<◌, [], ◌∷◌, ◌++◌, length, Some}
use Rattle.k42_kinds.specs.declared.entry.Act.TheVariants.{Call}
use Rattle.k42_kinds.specs.declared.entry.Answer.TheVariants.{Replied}
use Rattle.k42_kinds.specs.declared.entry.Entry.{Entry}
use Rattle.turn_core.specs.Stamps.{last_stamp}
use Rattle.k42_board.specs.declared.view.PassView.{PassView}

-- It has one entry more, that of the call, which is later than those before it, in the generation of its activity.
pub record HasCalledOnce {P O R : Type 0} (object : ℕ) (op : O) (reply : R) (old new : PassView P O R) : Type 0 where
  pub entry : Entry O R
  pub generation : ℕ
  pub drawn : new.taker.mine ≡ old.taker.mine ++ entry ∷ []
  pub later : last_stamp old.taker.mine < entry.stamp
  pub whole :
      entry
      ≡ record {
        stamp = entry.stamp;
        caller = old.number;
        index = length old.taker.mine;
        object = object;
        incarnation = entry.incarnation;
        cell = entry.cell;
        act = Call op;
        answer = Replied reply;
        proc = old.turn.proc;
        generation = Some generation;
      }
  pub graces : new.graces ≡ old.graces

-- It has made the call of a question, and this is what the reply tells.
pub record HasAskedOnce {P O R T : Type 0} (object : ℕ) (op : O) (tells : R → T) (told : T) (old new : PassView P O R) : Type 0 where
  pub reply : R
  pub called : HasCalledOnce object op reply old new
  pub tells_it : told ≡ tells reply
