-- The cells that a call needs, as its pass takes them one after the other.
use Rattle.std.specs.Prelude.{◌≡◌, ◌≢◌, ℕ, ◌+◌, ◌<◌, true, List, [], ◌∷◌, ◌++◌, Option, Some, None}
use Rattle.k42_limits.specs.declared.TheConstants.{CALLERS}
use Rattle.turn_core.specs.Names.{names_once}
use Rattle.k42_stamp.specs.Layouts.{Layouts}
use Rattle.k42_board.specs.Drawing.{numbers_of}
use Rattle.k42_board.specs.Log.{Extends, took, with_log}
use Rattle.k42_board.specs.Taking.{AreRowsNoted}
use Rattle.k42_board.specs.Words.{lock_word}
use Rattle.k42_board.specs.declared.cell.Content.{Content}
use Rattle.k42_board.specs.declared.view.PassView.{PassView}
use Rattle.k42_board.specs.declared.view.StepName.TheVariants as steps
use Rattle.k42_mediator.specs.Taken.{released, AreTaken, MayPutAllBack}
use Rattle.k42_runtime.specs.Calls.{WasHeld}

module _ {S L P O R : Type 0} (F : Layouts S L P O R) (declared : List L) where
  -- it has taken a cell, behind those that it had
  pub record HasTakenNext (n : ℕ) (old new : PassView P O R) (olds news : List (Content P O R)) : Type 0 where
    pub numbers : numbers_of news ≡ numbers_of olds ++ n ∷ []
    pub held : new.taker.held ≡ numbers_of news
    pub taken : AreTaken new.notes news
    pub back : new.out ≡ None
    pub released_is : released (numbers_of news) new ≡ with_log new.log (released (numbers_of olds) old)
    pub log : Extends old.log new.log
    pub rows : AreRowsNoted F declared new

  -- it has found its lock with another caller, and has what it had
  pub record WasRefused (holder n : ℕ) (old new : PassView P O R) (olds news : List (Content P O R)) : Type 0 where
    pub same : news ≡ olds
    pub another : holder ≢ old.number
    pub caller : holder < CALLERS
    pub knows : new ≡ took steps.Lock (lock_word n) (holder + 1) old

  abbrev pub TakesNext : Option ℕ → ℕ → PassView P O R → PassView P O R → List (Content P O R) → List (Content P O R) → Type 0
  TakesNext None n old new olds news = HasTakenNext n old new olds news
  TakesNext (Some holder) n old new olds news = WasRefused holder n old new olds news

  -- it has taken these cells and no other
  pub record HasTaken (cells : List ℕ) (old new : PassView P O R) (contents : List (Content P O R)) : Type 0 where
    pub numbers : numbers_of contents ≡ cells
    pub held : new.taker.held ≡ cells
    pub taken : AreTaken new.notes contents
    pub released_is : released cells new ≡ with_log new.log (released [] old)
    pub log : Extends old.log new.log
    pub rows : AreRowsNoted F declared new

  -- it has found one of them, which are of this object, with another caller, and has taken those before it
  pub record WasStopped (holder object : ℕ) (old new : PassView P O R) (contents : List (Content P O R)) : Type 0 where
    pub released_is : released (numbers_of contents) new ≡ with_log new.log (released [] old)
    pub was : WasHeld object holder old new

  abbrev pub Takes : Option ℕ → ℕ → List ℕ → PassView P O R → PassView P O R → List (Content P O R) → Type 0
  Takes None object cells old new contents = HasTaken cells old new contents
  Takes (Some holder) object cells old new contents = WasStopped holder object old new contents

  -- each of the cells may be put back
  pub record MayGiveBack (id : ℕ) (v : PassView P O R) (contents : List (Content P O R)) : Type 0 where
    pub once : names_once (numbers_of contents) ≡ true
    pub back : v.out ≡ None
    pub ready : MayPutAllBack F declared id v contents
