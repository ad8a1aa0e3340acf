-- Rows whose own parts are taken out, stepped, and put back.
use Rattle.std.proofs.Common.{◌≡◌, ℕ, Bool, true, false, List, length, OnOk, OnErr, sym, ap, ◌∙◌}
use Rattle.std.proofs.lemmas.List.{length-map}
use Rattle.std.specs.declared.result.Result.{Result}
use Rattle.std.specs.declared.result.Result.TheVariants.{Ok, Err}
use Rattle.k42_memory.specs.declared.Memory.{Memory}
use Rattle.k42_kinds.specs.declared.entry.Reach.TheVariants.{All}
use Rattle.k42_kinds.specs.OneThread.{OneThread}
use Rattle.k42_kinds.specs.Rows.{Ways}
use Rattle.k42_kinds.specs.LayoutLaws.{StepsRow, IsWholeRow}
use Rattle.k42_choice.specs.Lifting.{Side, own_parts, IsOwnRow}
use Rattle.k42_choice.specs.Mortals.{alive_parts, MortalRow}
use Rattle.k42_choice.specs.declared.mortal.MortalPart.{MortalPart}

-- an operation at all cells leaves as many parts as there were
pub still_long : {S P O R : Type 0} (object : OneThread S O R) (ways : Ways S P O R) (Whole : List P → Type 0) (cells : ℕ) (old new : List P) (op : O) (result : Result R Memory)
    → ((row : List P) → Whole row → length row ≡ cells) → Whole old → StepsRow object ways Whole old op All
    → OnOk result (new ≡ ways.row_after old op) → OnErr result (new ≡ old) → length new ≡ length old
still_long object ways Whole cells old new op (Ok reply) sized whole steps moved same = ap length moved ∙ (sized (ways.row_after old op) steps.whole ∙ sym (sized old whole))
still_long object ways Whole cells old new op (Err memory) sized whole steps moved same = ap length same

-- there are as many parts as stand in the row
pub own_length : {P Q : Type 0} (side : Side P Q) (Whole : ℕ → List P → Type 0) (procs : ℕ) (row : List Q) → IsOwnRow side Whole procs row → length (own_parts side row) ≡ length row
own_length side Whole procs row own = sym (length-map (own_parts side row) side.part_of) ∙ sym (ap length own.own)

-- a row that is not dead is one of live parts
pub alive_row : {P : Type 0} (dead : Bool) (Whole : ℕ → List P → Type 0) (row : List (MortalPart P)) → dead ≡ false → IsWholeRow (MortalRow dead Whole) row → IsWholeRow (IsOwnRow alive_parts Whole) row
alive_row true Whole row not whole = absurd cc
alive_row false Whole row not whole = whole
