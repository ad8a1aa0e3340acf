-- The same pass, some steps later.
use Rattle.std.proofs.Common.{◌≡◌, ℕ, ◌+◌, length, sym, ap, ◌∙◌, subst, arith}
use Rattle.k42_board.specs.Drawing.{IsDrawer}
use Rattle.k42_board.specs.Seen.{PassSeen, IsRoomLeft, IsSamePass, HasSameRoom}
use Rattle.k42_board.specs.declared.keep.Keep.{Keep}

pub same_twice : {P O R : Type 0} (p0 p1 p2 : PassSeen P O R) → IsSamePass p0 p1 → IsSamePass p1 p2 → IsSamePass p0 p2
same_twice p0 p1 p2 first second = record {
  table = second.table ∙ first.table;
  seat = second.seat ∙ first.seat;
  keep = second.keep ∙ first.keep;
  room = second.room ∙ first.room;
  row_room = second.row_room ∙ first.row_room;
  queue = second.queue ∙ first.queue;
  pushed = second.pushed ∙ first.pushed;
  popped = second.popped ∙ first.popped;
}

cancel : (a b l m : ℕ) → a + l ≡ b + m → l ≡ m → a ≡ b
cancel a b l m e f = omega (arith, e, f)

-- where its rows stay, the room for them does
pub same_of_room : {P O R : Type 0} (p0 p1 : PassSeen P O R) → HasSameRoom p0 p1 → p1.view.rows ≡ p0.view.rows → IsSamePass p0 p1
same_of_room p0 p1 same rows = record {
  table = same.table;
  seat = same.seat;
  keep = same.keep;
  room = same.room;
  row_room = cancel p1.row_room p0.row_room (length p1.view.rows) (length p0.view.rows) same.row_room (ap length rows);
  queue = same.queue;
  pushed = same.pushed;
  popped = same.popped;
}

pub draws_between : {P O R : Type 0} (p0 p1 p2 p3 : PassSeen P O R) → IsSamePass p0 p1 → IsDrawer p1 p2 → IsSamePass p2 p3 → IsDrawer p0 p3
draws_between p0 p1 p2 p3 first drew last = record {
  table = last.table ∙ drew.table ∙ first.table;
  seat = last.seat ∙ drew.seat ∙ first.seat;
  keep = last.keep ∙ drew.keep ∙ first.keep;
  room = subst (λ (z : Keep × ℕ × ℕ). IsRoomLeft z.0 z.1 z.2) (λ i. ((first.keep i).what, first.room i, sym last.room i)) drew.room;
  row_room = last.row_room ∙ drew.row_room ∙ first.row_room;
  queue = last.queue ∙ drew.queue ∙ first.queue;
  pushed = last.pushed ∙ drew.pushed ∙ first.pushed;
  popped = last.popped ∙ drew.popped ∙ first.popped;
}
