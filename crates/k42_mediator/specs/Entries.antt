-- The entries that a swap draws.
use Rattle.std.specs.Prelude.{◌≡◌, ℕ, ◌<◌, None, length}
use Rattle.k42_kinds.specs.declared.entry.Act.{Act}
use Rattle.k42_kinds.specs.declared.entry.Answer.{Answer}
use Rattle.k42_kinds.specs.declared.entry.Entry.{Entry}
use Rattle.turn_core.specs.Stamps.{last_stamp}
use Rattle.k42_board.specs.declared.view.PassView.{PassView}

-- the next entry of a pass, of a swap, later than all that it has drawn
pub record IsNext
    {P O R : Type 0} (v : PassView P O R) (object incarnation cell : ℕ) (act : Act O) (answer : Answer R) (entry : Entry O R)
    : Type 0 where
  pub later : last_stamp v.taker.mine < entry.stamp
  pub whole :
      entry
      ≡ record {
        stamp = entry.stamp;
        caller = v.number;
        index = length v.taker.mine;
        object = object;
        incarnation = incarnation;
        cell = cell;
        act = act;
        answer = answer;
        proc = v.turn.proc;
        generation = None;
      }
