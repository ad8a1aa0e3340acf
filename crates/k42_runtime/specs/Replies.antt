-- What a call can be replied, and what a question is told.
use Rattle.std.specs.Prelude.{◌≡◌, ℕ, IsTrue, List, Some, slice_get}
use Rattle.k42_kinds.specs.OneThread.{OneThread}
use Rattle.k42_board.specs.declared.view.PassView.{PassView}
use Rattle.k42_runtime.specs.Calls.{HasCalled}

module _ {S L O R : Type 0} (object_of : L → OneThread S O R) (Serves : L → S → Type 0) where
  -- the object of this layout takes the operation, and in a state that the layout serves it replies this
  pub record CanReply (layout : L) (op : O) (reply : R) : Type 0 where
    pub takes : IsTrue ((object_of layout).takes op)
    pub state : S
    pub served : Serves layout state
    pub replied : reply ≡ (object_of layout).reply state op

  -- the object of this number can reply this, in one of its layouts
  pub record CanBeReplied (objects : List L) (number : ℕ) (op : O) (reply : R) : Type 0 where
    pub declaration : L
    pub declares : slice_get objects number ≡ Some declaration
    pub layout : L
    pub same : object_of layout ≡ object_of declaration
    pub can : CanReply layout op reply

  -- some object can reply this, in some layout
  pub record IsReplyTo (op : O) (reply : R) : Type 0 where
    pub layout : L
    pub can : CanReply layout op reply

-- the pass has made the call of a question, and this is what the reply tells
pub record HasAsked {P O R T : Type 0} (object : ℕ) (op : O) (tells : R → T) (told : T) (old new : PassView P O R) : Type 0 where
  pub reply : R
  pub called : HasCalled object op reply old new
  pub tells_it : told ≡ tells reply
