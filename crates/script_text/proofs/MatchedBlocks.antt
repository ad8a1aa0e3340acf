-- Activities that match, and that do not.
use Rattle.std.proofs.Common.{◌≡◌, Bool, true, false, List, [], ◌∷◌, refl, subst}
use Rattle.k42_kinds.specs.declared.entry.Act.TheVariants.{Swap}
use Rattle.k42_kinds.specs.declared.entry.To.{To}
use Rattle.script_text.specs.Sound.{IsCall, BlocksMatch}
use Rattle.script_text.specs.declared.script.CallLine.{CallLine}
use Rattle.script_text.specs.declared.script.Item.{Item}
use Rattle.script_text.specs.declared.script.Item.TheVariants.{Begin, End, Line}

-- a swap between two activities, of which the second is empty
between_activities : (call swap : CallLine) → IsCall call.act → BlocksMatch false (Begin ∷ Line call ∷ End ∷ Line swap ∷ Begin ∷ End ∷ []) false
between_activities call swap is_call = (refl, ((λ inside. is_call), (refl, ((λ inside. cc), (refl, (refl, refl))))))

no_begin_inside : (items : List Item) (after : Bool) → BlocksMatch true (Begin ∷ items) after → ⊥
no_begin_inside items after matched = absurd cc

no_end_outside : (items : List Item) (after : Bool) → BlocksMatch false (End ∷ items) after → ⊥
no_end_outside items after matched = absurd cc

none_left_open : BlocksMatch false (Begin ∷ []) false → ⊥
none_left_open matched = absurd cc

no_swap_inside : (line : CallLine) (items : List Item) (after : Bool) (to : To) → line.act ≡ Swap to → BlocksMatch true (Line line ∷ items) after → ⊥
no_swap_inside line items after to swaps matched = subst IsCall swaps (matched.0 refl)
