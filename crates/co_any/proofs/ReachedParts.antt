-- Which part stands at a cell of a whole row, by kind and tag, and what an operation makes of it.
use Rattle.std.proofs.Common.{◌≡◌, ℕ, zero, suc, Bool, true, false, true≢false, IsTrue, List, [], ◌∷◌, map, Some, Option, option_map, OnOk, refl, sym, ap, subst, ◌∙◌}
use Rattle.std.specs.declared.result.Result.{Result}
use Rattle.std.specs.declared.result.Result.TheVariants.{Ok, Err}
use Rattle.k42_memory.specs.declared.Memory.{Memory}
use Rattle.std.proofs.lemmas.Option.{same_Some}
use Rattle.k42_kinds.specs.declared.operation.KindName.{KindName}
use Rattle.k42_kinds.specs.declared.operation.KindName.TheVariants as kinds
use Rattle.k42_kinds.specs.declared.operation.Op.{Op}
use Rattle.k42_kinds.specs.declared.operation.Reply.{Reply}
use Rattle.k42_kinds.specs.declared.operation.Reply.TheVariants.{Gone}
use Rattle.k42_kinds.specs.Objects.{Directory, Pages, counter_after, counter_reply, directory_after, directory_reply, pages_after, pages_reply}
use Rattle.k42_kinds.specs.Operations.{takes_operation}
use Rattle.k42_kinds.specs.Rows.{part_at}
use Rattle.k42_kinds.specs.LayoutLaws.{IsReached}
use Rattle.co_pages.specs.Places.{CellPlaces}
use Rattle.co_pages.specs.SpreadRows as spread_rows
use Rattle.co_any.specs.declared.part.AnyPart.{AnyPart}
use Rattle.co_any.specs.declared.part.AnyPart.TheVariants as parts
use Rattle.co_any.specs.Lifting.{Standing, LiftedWhole}
use Rattle.co_any.specs.Layouts.{amounts, indexed, copies, pages, places, places_of, IsDeadRow, ways_of, whole_of}

pub part_at-map : {A B : Type 0} (f : A → B) (row : List A) (cell : ℕ) → part_at (map f row) cell ≡ option_map f (part_at row cell)
part_at-map f [] cell = refl
part_at-map f (part ∷ row) zero = refl
part_at-map f (part ∷ row) (suc cell) = part_at-map f row cell

-- the part at a cell is one of the layout's own
pub own_there : {S P : Type 0} (standing : Standing S P) (Whole : ℕ → List P → Type 0) (procs : ℕ) (row : List AnyPart) (cell : ℕ) (part : AnyPart) → LiftedWhole standing Whole procs row → part_at row cell ≡ Some part → part ≡ standing.part_of (standing.own_part part)
own_there standing Whole procs row cell part whole there =
    let stands : part_at row cell ≡ option_map standing.part_of (option_map standing.own_part (part_at row cell)) =
    ap (λ own. part_at own cell) whole.own ∙ part_at-map standing.part_of (map standing.own_part row) cell ∙ ap (option_map standing.part_of) (part_at-map standing.own_part row cell) in
    same_Some _ _ (sym there ∙ stands ∙ ap (λ (found : Option AnyPart). option_map standing.part_of (option_map standing.own_part found)) there)

pub dead_there : (procs : ℕ) (row : List AnyPart) (cell : ℕ) (part : AnyPart) → IsDeadRow procs row → part_at row cell ≡ Some part → part ≡ parts.Dead
dead_there procs row zero part whole there = same_Some _ _ (sym there ∙ ap (λ own. part_at own 0) whole)
dead_there procs row (suc cell) part whole there = absurd (cc (sym there ∙ ap (λ own. part_at own (suc cell)) whole))

abbrev pub holds_nothing : AnyPart → Bool
holds_nothing parts.Dead = true
holds_nothing _ = false

pub not_dead : (part : AnyPart) → holds_nothing part ≡ false → part ≡ parts.Dead → ⊥
not_dead part holds is = true≢false (sym (ap holds_nothing is) ∙ holds)

-- at a cell of this kind and tag the operation does so to the part, and is replied so
pub record StepsPart (kind : KindName) (tag : ℕ) (old : AnyPart) (op : Op) (new : AnyPart) (reply : Reply) : Type 0 where
  pub moved : (ways_of kind tag).part_after old op ≡ new
  pub replied : (ways_of kind tag).part_reply old op ≡ reply

module _ (op : Op) where
  pub amount_steps : (kind : KindName) (tag : ℕ) (amount : ℕ) → IsReached (ways_of kind tag) (whole_of kind tag) (parts.Amount amount) op → StepsPart kind tag (parts.Amount amount) op (parts.Amount (counter_after amount op)) (counter_reply amount op)
  amount_steps kinds.Counter zero amount reached = record { moved = refl; replied = refl }
  amount_steps kinds.Counter (suc zero) amount reached = record { moved = refl; replied = refl }
  amount_steps kinds.Directory zero amount reached = absurd (cc (own_there indexed _ _ _ _ _ reached.whole reached.there))
  amount_steps kinds.Directory (suc zero) amount reached = absurd (cc (own_there copies _ _ _ _ _ reached.whole reached.there))
  amount_steps kinds.Pages zero amount reached = absurd (cc (own_there pages _ _ _ _ _ reached.whole reached.there))
  amount_steps kinds.Pages (suc zero) amount reached = absurd (cc (own_there places _ _ _ _ _ reached.whole reached.there))
  amount_steps kind (suc (suc more)) amount reached = absurd (not_dead (parts.Amount amount) refl (dead_there reached.procs _ _ _ reached.whole reached.there))

  pub indexed_steps : (kind : KindName) (tag : ℕ) (names : Directory) → IsReached (ways_of kind tag) (whole_of kind tag) (parts.Indexed names) op → StepsPart kind tag (parts.Indexed names) op (parts.Indexed (directory_after names op)) (directory_reply names op)
  indexed_steps kinds.Directory zero names reached = record { moved = refl; replied = refl }
  indexed_steps kinds.Directory (suc zero) names reached = absurd (cc (own_there copies _ _ _ _ _ reached.whole reached.there))
  indexed_steps kinds.Counter zero names reached = absurd (cc (own_there amounts _ _ _ _ _ reached.whole reached.there))
  indexed_steps kinds.Counter (suc zero) names reached = absurd (cc (own_there amounts _ _ _ _ _ reached.whole reached.there))
  indexed_steps kinds.Pages zero names reached = absurd (cc (own_there pages _ _ _ _ _ reached.whole reached.there))
  indexed_steps kinds.Pages (suc zero) names reached = absurd (cc (own_there places _ _ _ _ _ reached.whole reached.there))
  indexed_steps kind (suc (suc more)) names reached = absurd (not_dead (parts.Indexed names) refl (dead_there reached.procs _ _ _ reached.whole reached.there))

  pub copy_steps : (kind : KindName) (tag : ℕ) (names : Directory) → IsReached (ways_of kind tag) (whole_of kind tag) (parts.Copy names) op → StepsPart kind tag (parts.Copy names) op (parts.Copy (directory_after names op)) (directory_reply names op)
  copy_steps kinds.Directory (suc zero) names reached = record { moved = refl; replied = refl }
  copy_steps kinds.Directory zero names reached = absurd (cc (own_there indexed _ _ _ _ _ reached.whole reached.there))
  copy_steps kinds.Counter zero names reached = absurd (cc (own_there amounts _ _ _ _ _ reached.whole reached.there))
  copy_steps kinds.Counter (suc zero) names reached = absurd (cc (own_there amounts _ _ _ _ _ reached.whole reached.there))
  copy_steps kinds.Pages zero names reached = absurd (cc (own_there pages _ _ _ _ _ reached.whole reached.there))
  copy_steps kinds.Pages (suc zero) names reached = absurd (cc (own_there places _ _ _ _ _ reached.whole reached.there))
  copy_steps kind (suc (suc more)) names reached = absurd (not_dead (parts.Copy names) refl (dead_there reached.procs _ _ _ reached.whole reached.there))

  pub pages_steps : (kind : KindName) (tag : ℕ) (kept : Pages) → IsReached (ways_of kind tag) (whole_of kind tag) (parts.Pages kept) op → StepsPart kind tag (parts.Pages kept) op (parts.Pages (pages_after kept op)) (pages_reply kept op)
  pages_steps kinds.Pages zero kept reached = record { moved = refl; replied = refl }
  pages_steps kinds.Pages (suc zero) kept reached = absurd (cc (own_there places _ _ _ _ _ reached.whole reached.there))
  pages_steps kinds.Directory zero kept reached = absurd (cc (own_there indexed _ _ _ _ _ reached.whole reached.there))
  pages_steps kinds.Directory (suc zero) kept reached = absurd (cc (own_there copies _ _ _ _ _ reached.whole reached.there))
  pages_steps kinds.Counter zero kept reached = absurd (cc (own_there amounts _ _ _ _ _ reached.whole reached.there))
  pages_steps kinds.Counter (suc zero) kept reached = absurd (cc (own_there amounts _ _ _ _ _ reached.whole reached.there))
  pages_steps kind (suc (suc more)) kept reached = absurd (not_dead (parts.Pages kept) refl (dead_there reached.procs _ _ _ reached.whole reached.there))

  pub places_steps : (kind : KindName) (tag : ℕ) (kept : CellPlaces) → IsReached (ways_of kind tag) (whole_of kind tag) (parts.Places kept) op → StepsPart kind tag (parts.Places kept) op (parts.Places (spread_rows.cell_after kept op)) (spread_rows.cell_reply kept op)
  places_steps kinds.Pages (suc zero) kept reached = record { moved = refl; replied = refl }
  places_steps kinds.Pages zero kept reached = absurd (cc (own_there pages _ _ _ _ _ reached.whole reached.there))
  places_steps kinds.Directory zero kept reached = absurd (cc (own_there indexed _ _ _ _ _ reached.whole reached.there))
  places_steps kinds.Directory (suc zero) kept reached = absurd (cc (own_there copies _ _ _ _ _ reached.whole reached.there))
  places_steps kinds.Counter zero kept reached = absurd (cc (own_there amounts _ _ _ _ _ reached.whole reached.there))
  places_steps kinds.Counter (suc zero) kept reached = absurd (cc (own_there amounts _ _ _ _ _ reached.whole reached.there))
  places_steps kind (suc (suc more)) kept reached = absurd (not_dead (parts.Places kept) refl (dead_there reached.procs _ _ _ reached.whole reached.there))

  pub dead_steps : (kind : KindName) (tag : ℕ) → IsReached (ways_of kind tag) (whole_of kind tag) parts.Dead op → StepsPart kind tag parts.Dead op parts.Dead Gone
  dead_steps kind (suc (suc more)) reached = record { moved = refl; replied = refl }
  dead_steps kinds.Counter zero reached = absurd (cc (own_there amounts _ _ _ _ _ reached.whole reached.there))
  dead_steps kinds.Counter (suc zero) reached = absurd (cc (own_there amounts _ _ _ _ _ reached.whole reached.there))
  dead_steps kinds.Directory zero reached = absurd (cc (own_there indexed _ _ _ _ _ reached.whole reached.there))
  dead_steps kinds.Directory (suc zero) reached = absurd (cc (own_there copies _ _ _ _ _ reached.whole reached.there))
  dead_steps kinds.Pages zero reached = absurd (cc (own_there pages _ _ _ _ _ reached.whole reached.there))
  dead_steps kinds.Pages (suc zero) reached = absurd (cc (own_there places _ _ _ _ _ reached.whole reached.there))

  -- a shared directory's part is one of a directory
  indexed_kind : (kind : KindName) (tag : ℕ) (names : Directory) → IsReached (ways_of kind tag) (whole_of kind tag) (parts.Indexed names) op → kind ≡ kinds.Directory
  indexed_kind kinds.Directory zero names reached = refl
  indexed_kind kinds.Directory (suc zero) names reached = refl
  indexed_kind kinds.Counter zero names reached = absurd (cc (own_there amounts _ _ _ _ _ reached.whole reached.there))
  indexed_kind kinds.Counter (suc zero) names reached = absurd (cc (own_there amounts _ _ _ _ _ reached.whole reached.there))
  indexed_kind kinds.Pages zero names reached = absurd (cc (own_there pages _ _ _ _ _ reached.whole reached.there))
  indexed_kind kinds.Pages (suc zero) names reached = absurd (cc (own_there places _ _ _ _ _ reached.whole reached.there))
  indexed_kind kind (suc (suc more)) names reached = absurd (not_dead (parts.Indexed names) refl (dead_there reached.procs _ _ _ reached.whole reached.there))

  places_kind : (kind : KindName) (tag : ℕ) (kept : CellPlaces) → IsReached (ways_of kind tag) (whole_of kind tag) (parts.Places kept) op → kind ≡ kinds.Pages
  places_kind kinds.Pages zero kept reached = refl
  places_kind kinds.Pages (suc zero) kept reached = refl
  places_kind kinds.Counter zero kept reached = absurd (cc (own_there amounts _ _ _ _ _ reached.whole reached.there))
  places_kind kinds.Counter (suc zero) kept reached = absurd (cc (own_there amounts _ _ _ _ _ reached.whole reached.there))
  places_kind kinds.Directory zero kept reached = absurd (cc (own_there indexed _ _ _ _ _ reached.whole reached.there))
  places_kind kinds.Directory (suc zero) kept reached = absurd (cc (own_there copies _ _ _ _ _ reached.whole reached.there))
  places_kind kind (suc (suc more)) kept reached = absurd (not_dead (parts.Places kept) refl (dead_there reached.procs _ _ _ reached.whole reached.there))

  -- the places of a cell are those of a whole row of their own
  own_places : (kind : KindName) (tag : ℕ) (kept : CellPlaces) → IsReached (ways_of kind tag) (whole_of kind tag) (parts.Places kept) op → IsReached spread_rows.spread spread_rows.IsSpread kept op
  own_places kinds.Pages (suc zero) kept reached = record {
    procs = reached.procs;
    proc = reached.proc;
    parts = map places_of reached.parts;
    cell = reached.cell;
    known = reached.known;
    whole = reached.whole.whole;
    needed = reached.needed;
    there = part_at-map places_of reached.parts reached.cell ∙ ap (option_map places_of) reached.there;
  }
  own_places kinds.Pages zero kept reached = absurd (cc (own_there pages _ _ _ _ _ reached.whole reached.there))
  own_places kinds.Counter zero kept reached = absurd (cc (own_there amounts _ _ _ _ _ reached.whole reached.there))
  own_places kinds.Counter (suc zero) kept reached = absurd (cc (own_there amounts _ _ _ _ _ reached.whole reached.there))
  own_places kinds.Directory zero kept reached = absurd (cc (own_there indexed _ _ _ _ _ reached.whole reached.there))
  own_places kinds.Directory (suc zero) kept reached = absurd (cc (own_there copies _ _ _ _ _ reached.whole reached.there))
  own_places kind (suc (suc more)) kept reached = absurd (not_dead (parts.Places kept) refl (dead_there reached.procs _ _ _ reached.whole reached.there))

-- the same, of a part that is known to be such a one
module _ (kind : KindName) (tag : ℕ) (op : Op) (part : AnyPart) (reached : IsReached (ways_of kind tag) (whole_of kind tag) part op) where
  reached_as : (known : AnyPart) → part ≡ known → IsReached (ways_of kind tag) (whole_of kind tag) known op
  reached_as known is = subst (λ (p : AnyPart). IsReached (ways_of kind tag) (whole_of kind tag) p op) is reached

  steps_as : (known new : AnyPart) (reply : Reply) → part ≡ known → StepsPart kind tag known op new reply → StepsPart kind tag part op new reply
  steps_as known new reply is steps = subst (λ (p : AnyPart). StepsPart kind tag p op new reply) (sym is) steps

  pub at_amount : (amount : ℕ) → part ≡ parts.Amount amount → StepsPart kind tag part op (parts.Amount (counter_after amount op)) (counter_reply amount op)
  at_amount amount is = steps_as _ _ _ is (amount_steps op kind tag amount (reached_as _ is))

  pub at_indexed : (names : Directory) → part ≡ parts.Indexed names → StepsPart kind tag part op (parts.Indexed (directory_after names op)) (directory_reply names op)
  at_indexed names is = steps_as _ _ _ is (indexed_steps op kind tag names (reached_as _ is))

  pub at_copy : (names : Directory) → part ≡ parts.Copy names → StepsPart kind tag part op (parts.Copy (directory_after names op)) (directory_reply names op)
  at_copy names is = steps_as _ _ _ is (copy_steps op kind tag names (reached_as _ is))

  pub at_pages : (kept : Pages) → part ≡ parts.Pages kept → StepsPart kind tag part op (parts.Pages (pages_after kept op)) (pages_reply kept op)
  at_pages kept is = steps_as _ _ _ is (pages_steps op kind tag kept (reached_as _ is))

  pub at_places : (kept : CellPlaces) → part ≡ parts.Places kept → StepsPart kind tag part op (parts.Places (spread_rows.cell_after kept op)) (spread_rows.cell_reply kept op)
  at_places kept is = steps_as _ _ _ is (places_steps op kind tag kept (reached_as _ is))

  pub at_dead : part ≡ parts.Dead → StepsPart kind tag part op parts.Dead Gone
  at_dead is = steps_as _ _ _ is (dead_steps op kind tag (reached_as _ is))

  pub directory_takes : (names : Directory) → part ≡ parts.Indexed names → IsTrue (takes_operation kind op) → IsTrue (takes_operation kinds.Directory op)
  directory_takes names is takes = subst (λ (k : KindName). IsTrue (takes_operation k op)) (indexed_kind op kind tag names (reached_as _ is)) takes

  pub pages_take : (kept : CellPlaces) → part ≡ parts.Places kept → IsTrue (takes_operation kind op) → IsTrue (takes_operation kinds.Pages op)
  pages_take kept is takes = subst (λ (k : KindName). IsTrue (takes_operation k op)) (places_kind op kind tag kept (reached_as _ is)) takes

  pub reached_places : (kept : CellPlaces) → part ≡ parts.Places kept → IsReached spread_rows.spread spread_rows.IsSpread kept op
  reached_places kept is = own_places op kind tag kept (reached_as _ is)

pub on_ok : (A B : Type 0) (result : Result Reply Memory) → (A → B) → OnOk result A → OnOk result B
on_ok A B (Ok reply) goes holds = goes holds
on_ok A B (Err memory) goes holds = tt
