-- An object that keeps the last amount that was added, in one part: the smallest layout.
use Rattle.std.proofs.Common.{◌≡◌, ℕ, true, false, List, [], ◌∷◌, length, refl, arith}
use Rattle.k42_kinds.specs.declared.operation.Op.{Op}
use Rattle.k42_kinds.specs.declared.operation.Op.TheVariants.{Add, Get}
use Rattle.k42_kinds.specs.declared.operation.Reply.{Reply}
use Rattle.k42_kinds.specs.declared.operation.Reply.TheVariants.{Done, Number, Gone}
use Rattle.k42_kinds.specs.declared.entry.Reach.TheVariants.{One, All}
use Rattle.k42_kinds.specs.OneThread.{OneThread, ends_as}
use Rattle.k42_kinds.specs.Rows.{Ways}
use Rattle.k42_kinds.specs.LayoutLaws.{StepsRow}

abbrev pub amount_after : ℕ → Op → ℕ
amount_after amount (Add more) = more
amount_after amount _ = amount

abbrev pub amount_reply : ℕ → Op → Reply
amount_reply amount (Add more) = Done
amount_reply amount Get = Number amount
amount_reply amount _ = Gone

abbrev pub last_amount : OneThread ℕ Op Reply
last_amount = record {
  start = 0;
  takes = λ op. true;
  after = amount_after;
  reply = amount_reply;
  swapped = ends_as 0;
  is_ended = λ amount. false;
}

abbrev pub first_of : List ℕ → ℕ
first_of [] = 0
first_of (part ∷ parts) = part

abbrev pub stepped : List ℕ → Op → List ℕ
stepped [] op = []
stepped (part ∷ parts) op = amount_after part op ∷ parts

abbrev pub one_part : Ways ℕ ℕ Op Reply
one_part = record {
  reach = λ procs op proc. One 0;
  empty = λ procs cell. 0;
  part_after = amount_after;
  part_reply = amount_reply;
  row_after = stepped;
  row_reply = λ parts op. amount_reply (first_of parts) op;
  combine = first_of;
  imported = λ procs amount. amount ∷ [];
}

abbrev pub IsOnePart : ℕ → List ℕ → Type 0
IsOnePart procs parts = length parts ≡ 1

pub steps_one : (procs : ℕ) (parts : List ℕ) (op : Op) → IsOnePart procs parts → StepsRow last_amount one_part (IsOnePart procs) parts op (One 0)
steps_one procs [] op one = absurd (omega arith)
steps_one procs (part ∷ parts) op one = record { whole = one; moved = refl; replied = refl }

pub steps_all : (procs : ℕ) (parts : List ℕ) (op : Op) → IsOnePart procs parts → StepsRow last_amount one_part (IsOnePart procs) parts op All
steps_all procs [] op one = absurd (omega arith)
steps_all procs (part ∷ parts) op one = record { whole = one; moved = refl; replied = refl }
