-- The histories determine the entries of a row.
use Rattle.std.proofs.Common.{◌≡◌, ℕ, ◌<◌, List, ◌++◌, sym, ◌∙◌, subst}
use Rattle.std.specs.List.{AllByRecursion}
use Rattle.std.proofs.lemmas.List.{append_cancel_left}
use Rattle.k42_kinds.specs.declared.entry.Entry.{Entry}
use Rattle.k42_stamp.specs.Orders.{IsBefore, Ordered, In}
use Rattle.k42_stamp.specs.Layouts.{Layouts, IsKnown}
use Rattle.k42_stamp.specs.Parts.{reach_of, touches, those_at}
use Rattle.k42_stamp.specs.Fits.{IsEntryOf}
use Rattle.k42_stamp.specs.Laws.{AreLaws}
use Rattle.k42_stamp.proofs.Elements.{all_at, in-filter, in-from_filter}
use Rattle.k42_stamp.proofs.Ordering.{same_entries}
use Rattle.k42_stamp.proofs.Needed.{needed, entry_within}

module _ {S L P O R : Type 0} (F : Layouts S L P O R) (laws : AreLaws F) (layout : L) (known : IsKnown F layout) (o number : ℕ) (first : List (Entry O R)) (history : ℕ → List (Entry O R)) where
  moved_over : (es fs : List (Entry O R)) → AllByRecursion (IsEntryOf F layout o number) es → ((c : ℕ) → c < F.procs → history c ≡ first ++ those_at F layout c es) → ((c : ℕ) → c < F.procs → history c ≡ first ++ those_at F layout c fs) → (e : Entry O R) → In e es → In e fs
  moved_over es fs own left other e i =
      let c = needed F.procs (reach_of F layout e) (entry_within F laws layout known o number e (all_at (IsEntryOf F layout o number) es e own i)) in
      let same : those_at F layout c.0 es ≡ those_at F layout c.0 fs = append_cancel_left first (those_at F layout c.0 es) (those_at F layout c.0 fs) (sym (left c.0 c.1) ∙ other c.0 c.1) in
      (in-from_filter (λ d. touches (reach_of F layout d) c.0) e fs (subst (In e) same (in-filter (λ d. touches (reach_of F layout d) c.0) e es i c.2))).0

  -- two lists of entries that leave the same histories are one
  pub one_list : (es fs : List (Entry O R)) → AllByRecursion (IsEntryOf F layout o number) es → AllByRecursion (IsEntryOf F layout o number) fs → Ordered IsBefore es → Ordered IsBefore fs
      → ((c : ℕ) → c < F.procs → history c ≡ first ++ those_at F layout c es) → ((c : ℕ) → c < F.procs → history c ≡ first ++ those_at F layout c fs) → es ≡ fs
  one_list es fs own other up rising left right = same_entries es fs up rising (moved_over es fs own left right) (moved_over fs es other right left)
