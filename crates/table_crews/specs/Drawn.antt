-- What a step has added to the entries of a pass.
use Rattle.std.specs.Prelude.{◌≡◌, ℕ, [], ◌∷◌, ◌++◌}
use Rattle.k42_kinds.specs.declared.entry.Entry.{Entry}
use Rattle.k42_board.specs.declared.view.PassView.{PassView}

-- no entry
abbrev pub HasDrawnNone : {P O R : Type 0} → PassView P O R → PassView P O R → Type 0
HasDrawnNone old new = new.taker.mine ≡ old.taker.mine

-- one entry, with this stamp
pub record HasDrawn {P O R : Type 0} (stamp : ℕ) (old new : PassView P O R) : Type 0 where
  pub entry : Entry O R
  pub stamped : entry.stamp ≡ stamp
  pub mine : new.taker.mine ≡ old.taker.mine ++ entry ∷ []
