-- Which calls are framed together, and what is cut, as the check computes it: accepted and refused.
use Rattle.std.proofs.Common.{◌≡◌, ℕ, true, false, [], ◌∷◌, ◌++◌, refl}
use Rattle.std.specs.Prelude.{codes, Some, None}
use Rattle.k42_kinds.specs.declared.operation.Op.{Op}
use Rattle.k42_kinds.specs.declared.operation.Op.TheVariants.{Get}
use Rattle.k42_kinds.specs.declared.operation.Reply.{Reply}
use Rattle.k42_kinds.specs.declared.operation.Reply.TheVariants.{Number}
use Rattle.k42_kinds.specs.declared.entry.Act.{Act}
use Rattle.k42_kinds.specs.declared.entry.Act.TheVariants.{Call, Swap}
use Rattle.k42_kinds.specs.declared.entry.To.TheVariants.{Layout}
use Rattle.k42_kinds.specs.declared.entry.Answer.{Answer}
use Rattle.k42_kinds.specs.declared.entry.Answer.TheVariants.{Replied, Swapped, Busy}
use Rattle.script_text.specs.declared.script.Item.{Item}
use Rattle.script_text.specs.declared.script.Item.TheVariants.{Begin, End, Line}
use Rattle.script_text.specs.declared.script.Script.{Script}
use Rattle.record_text.specs.declared.record.RecordLine.{RecordLine}
use Rattle.record_picture.specs.Activities.{joins}
use Rattle.record_picture.specs.Frames.{frame, frames_from}
use Rattle.record_picture.specs.Pieces.{cut_to}
use Rattle.record_picture.specs.Swaps.{swap_text, swap_line}

abbrev asks : Act Op → Item
asks act = Line (record { line = 4; object = 0; act = act })

-- of a block's calls the later ones go on with its activity, and a line behind the block does not
of_a_block : joins (asks (Call Get) ∷ Begin ∷ asks (Call Get) ∷ asks (Call Get) ∷ End ∷ asks (Call Get) ∷ []) ≡ false ∷ false ∷ true ∷ false ∷ []
of_a_block = refl

abbrev called : ℕ → RecordLine
called worker = record {
  stamp = 1;
  worker = worker;
  line = 4;
  object = 0;
  act = Call Get;
  answer = Replied (Number 0);
  incarnation = 0;
  extra = Some (record { proc = 0; generation = Some 3 });
}

-- two calls of one activity with another worker's between them: the second frame reaches back
together : frames_from 0 (false ∷ true ∷ []) 0 0 (called 0 ∷ called 1 ∷ called 0 ∷ []) ≡ frame 0 0 0 ++ (frame 0 0 2 ++ [])
together = refl

-- two activities: each frame stands alone
apart : frames_from 0 (false ∷ false ∷ []) 0 0 (called 0 ∷ called 1 ∷ called 0 ∷ []) ≡ frame 0 0 0 ++ (frame 0 2 2 ++ [])
apart = refl

-- an activity that began before what is shown: from the first column on
from_before : frames_from 0 (true ∷ []) 0 0 (called 1 ∷ called 0 ∷ []) ≡ frame 0 0 1 ++ []
from_before = refl

abbrev swapping : Answer Reply → RecordLine
swapping answer = record {
  stamp = 1;
  worker = 0;
  line = 4;
  object = 0;
  act = Swap (Layout 1);
  answer = answer;
  incarnation = 0;
  extra = None;
}

carried_out : (script : Script) → swap_text script 5 (swapping (Swapped 3)) ≡ swap_line script 5 (swapping (Swapped 3)) 3
carried_out script = refl

refused : (script : Script) → swap_text script 5 (swapping (Busy 3)) ≡ []
refused script = refl

short_enough : cut_to 4 (codes "sixsix") ≡ codes "sixsix"
short_enough = refl

too_long : cut_to 4 (codes "sevenxx") ≡ codes "seve.."
too_long = refl
