-- What an operation is replied at the cells of a row is what the object of one thread replies in the state for which the row stands.
use Rattle.std.proofs.Common.{◌≡◌, ℕ, ◌<◌, List, Some, sym, ap, ◌∙◌, arith}
use Rattle.std.specs.Prelude.{IsTrue, Option, option_map, unwrap_or}
use Rattle.k42_kinds.specs.LayoutLaws.{IsReached, StepsRow}
use Rattle.k42_kinds.specs.OneThread.{OneThread}
use Rattle.k42_kinds.specs.Rows.{Ways, row_replied}
use Rattle.k42_kinds.specs.declared.entry.Reach.{Reach}
use Rattle.k42_kinds.specs.declared.entry.Reach.TheVariants.{All}
use Rattle.k42_runtime.specs.Replies.{CanReply}

some_same : {A : Type 0} (x y : A) → Some x ≡ Some y → x ≡ y
some_same x y e = ap (λ (o : Option _). unwrap_or o x) e

module _ {S L P O R : Type 0} (object_of : L → OneThread S O R) (Serves : L → S → Type 0) (layout : L) (ways : Ways S P O R) (Whole : ℕ → List P → Type 0)
    (op : O) (takes : IsTrue ((object_of layout).takes op)) (reply : R)
    (serves : (procs : ℕ) (parts : List P) → 0 < procs → Whole procs parts → Serves layout (ways.combine parts)) where
  -- at the one cell that it needs
  pub replied_at_one :
      ((procs proc : ℕ) (parts : List P) → proc < procs → Whole procs parts → StepsRow (object_of layout) ways (Whole procs) parts op (ways.reach procs op proc))
      → (part : P) → IsReached ways Whole part op → reply ≡ ways.part_reply part op → CanReply object_of Serves layout op reply
  replied_at_one steps part is replied =
      let row = steps is.procs is.proc is.parts is.known is.whole in let there = is.known in
      let here : row_replied ways is.parts op (ways.reach is.procs op is.proc) ≡ Some (ways.part_reply part op) =
      ap (λ (reach : Reach). row_replied ways is.parts op reach) is.needed ∙ ap (option_map (λ (p : P). ways.part_reply p op)) is.there in
      record {
        takes = takes;
        state = ways.combine is.parts;
        served = serves is.procs is.parts (omega (arith, there)) is.whole;
        replied = replied ∙ some_same (ways.part_reply part op) ((object_of layout).reply (ways.combine is.parts) op) (sym here ∙ row.replied);
      }

  -- at all cells
  pub replied_at_all : (procs : ℕ) (parts : List P) → 0 < procs → Whole procs parts → StepsRow (object_of layout) ways (Whole procs) parts op All
      → reply ≡ ways.row_reply parts op → CanReply object_of Serves layout op reply
  replied_at_all procs parts some whole row replied = record {
    takes = takes;
    state = ways.combine parts;
    served = serves procs parts some whole;
    replied = replied ∙ some_same (ways.row_reply parts op) ((object_of layout).reply (ways.combine parts) op) row.replied;
  }
