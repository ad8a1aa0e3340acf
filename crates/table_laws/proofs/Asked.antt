-- Which tables a split and a join ask of a rule to hold.
use Rattle.std.proofs.Common.{◌≡◌, ◌≢◌, ℕ, ◌∙◌}
use mathlib.Core.Option.{some}
use lib.ListN.{get_elem?}
use Rattle.atomic_table.specs.Table.{State, Splits, Joins}
use Rattle.atomic_table.proofs.Lists.{set_else}
use Rattle.table_laws.specs.Seating.{after_split, after_join}

module _ {S V : Type 0} (holds : State S V → Type 0) (id : ℕ) (v : V) where
  -- after a split the rule holds of `after_split`
  split_asked : (left right : V) → Splits holds id v left right
      → (s : State S V) → holds s → get_elem? s.views id ≡ some v → holds (after_split s id left right)
  split_asked left right splits = splits

  -- and after a join of `after_join`
  join_asked : (other : ℕ) (w both spent : V) → Joins holds id v other w both spent
      → (s : State S V) → holds s → get_elem? s.views id ≡ some v → other ≢ id → get_elem? s.views other ≡ some w
      → holds (after_join s id both other spent)
  join_asked other w both spent joins s h at apart at_other = joins s h at apart (set_else s.views id other both apart ∙ at_other)
