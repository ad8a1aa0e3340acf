-- An operation at one cell of a row, and at all cells, as the object of one thread sees it.
use Rattle.std.proofs.Common.{◌≡◌, ℕ, zero, suc, ◌+◌, ◌<◌, List, [], ◌∷◌, ◌++◌, length, Some, option_map, refl, sym, ap, ◌∙◌, subst, arith}
use Rattle.std.specs.Prelude.{slice_set, slice_index_or, IfOk, OnOk, OnErr}
use Rattle.std.specs.declared.result.Result.{Result}
use Rattle.std.specs.declared.result.Result.TheVariants.{Ok, Err}
use Rattle.std.proofs.lemmas.Option.{same_Some}
use Rattle.k42_memory.specs.declared.Memory.{Memory}
use Rattle.k42_kinds.specs.declared.entry.Reach.{Reach}
use Rattle.k42_kinds.specs.declared.entry.Reach.TheVariants.{One, All}
use Rattle.k42_kinds.specs.OneThread.{OneThread}
use Rattle.k42_kinds.specs.Steps.{Steps}
use Rattle.k42_kinds.specs.Rows.{Ways, made_from, part_at, changed_at, IsWithin}
use Rattle.k42_kinds.specs.LayoutLaws.{StepsRow}

pub cell_there : {P : Type 0} (cells cell : ℕ) (reach : Reach) (parts : List P) → IsWithin cells reach → reach ≡ One cell → length parts ≡ cells → cell < length parts
cell_there cells cell reach parts within is sized = subst (λ (n : ℕ). cell < n) (sym sized) (subst (λ (r : Reach). IsWithin cells r) is within)

pub part_there : {P : Type 0} (parts : List P) (cell : ℕ) (part : P) → cell < length parts → part ≡ slice_index_or parts cell part → part_at parts cell ≡ Some part
part_there [] cell part there is = absurd (omega arith)
part_there (first ∷ parts) zero part there is = ap Some (sym is)
part_there (first ∷ parts) (suc cell) part there is = part_there parts cell part (omega arith) is

set-changed : {P : Type 0} (change : P → P) (parts : List P) (cell : ℕ) (part : P) → part_at parts cell ≡ Some part → slice_set parts cell (change part) ≡ changed_at change parts cell
set-changed change [] cell part is = refl
set-changed change (first ∷ parts) zero part is = ap (λ p. change p ∷ parts) (sym (same_Some first part is))
set-changed change (first ∷ parts) (suc cell) part is = ap (λ rest. first ∷ rest) (set-changed change parts cell part is)

set-same : {P : Type 0} (parts : List P) (cell : ℕ) (part : P) → part_at parts cell ≡ Some part → slice_set parts cell part ≡ parts
set-same [] cell part is = refl
set-same (first ∷ parts) zero part is = ap (λ p. p ∷ parts) (sym (same_Some first part is))
set-same (first ∷ parts) (suc cell) part is = ap (λ rest. first ∷ rest) (set-same parts cell part is)

module _ {S P O R : Type 0} (object : OneThread S O R) (ways : Ways S P O R) (Whole : List P → Type 0) (parts : List P) (op : O) where
  module _ (cell : ℕ) (old new : P) (is : part_at parts cell ≡ Some old) (steps : StepsRow object ways Whole parts op (One cell)) where
    moved_row : new ≡ ways.part_after old op → slice_set parts cell new ≡ changed_at (λ part. ways.part_after part op) parts cell
    moved_row moved = ap (λ p. slice_set parts cell p) moved ∙ set-changed (λ part. ways.part_after part op) parts cell old is

    pub whole_after_one : (result : Result R Memory) → Whole parts → OnOk result (new ≡ ways.part_after old op) → OnErr result (new ≡ old) → Whole (slice_set parts cell new)
    whole_after_one (Ok reply) whole moved same = subst Whole (sym (moved_row moved)) steps.whole
    whole_after_one (Err memory) whole moved same = subst Whole (sym (ap (λ p. slice_set parts cell p) same ∙ set-same parts cell old is)) whole

    pub steps_after_one : (result : Result R Memory) → IfOk result (λ reply. reply ≡ ways.part_reply old op) → OnOk result (new ≡ ways.part_after old op) → IfOk result (λ reply. Steps object.after object.reply (ways.combine parts) op reply (ways.combine (slice_set parts cell new)))
    steps_after_one (Ok reply) replied moved = record {
      answer = replied ∙ same_Some _ _ (ap (option_map (λ part. ways.part_reply part op)) (sym is) ∙ steps.replied);
      moved = ap ways.combine (moved_row moved) ∙ steps.moved;
    }
    steps_after_one (Err memory) replied moved = tt

  pub steps_after_all : (new : List P) (result : Result R Memory) → StepsRow object ways Whole parts op All → IfOk result (λ reply. reply ≡ ways.row_reply parts op) → OnOk result (new ≡ ways.row_after parts op) → IfOk result (λ reply. Steps object.after object.reply (ways.combine parts) op reply (ways.combine new))
  steps_after_all new (Ok reply) steps replied moved = record {
    answer = replied ∙ same_Some _ _ steps.replied;
    moved = ap ways.combine moved ∙ steps.moved;
  }
  steps_after_all new (Err memory) steps replied moved = tt

-- one more cell stands behind the others
made_from_suc : {P : Type 0} (make : ℕ → P) (first many : ℕ) → made_from make first (suc many) ≡ made_from make first many ++ make (first + many) ∷ []
made_from_suc make first zero = ap (λ cell. make cell ∷ []) (omega arith)
made_from_suc make first (suc many) = ap (λ rest. make first ∷ rest) (made_from_suc make (suc first) many ∙ ap (λ cell. made_from make (suc first) many ++ make cell ∷ []) (omega arith))

pub made_from_push : {P : Type 0} (make : ℕ → P) (first many : ℕ) → made_from make first (many + 1) ≡ made_from make first many ++ make (first + many) ∷ []
made_from_push make first many = let one_more : many + 1 ≡ suc many = omega arith in ap (λ cells. made_from make first cells) one_more ∙ made_from_suc make first many
