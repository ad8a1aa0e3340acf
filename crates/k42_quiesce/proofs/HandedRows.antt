-- One more row is handed over.
use Rattle.std.proofs.Common.{◌≡◌, ℕ, zero, suc, ◌<◌, List, [], ◌∷◌, ◌++◌, drop, length, reverse, take, refl, sym, ap, ◌∙◌, subst, arith, append_assoc}
use Rattle.std.proofs.lemmas.List.{append-nil, length-append, reverse-append, take_min}
use Rattle.k42_board.specs.Queueing.{HasPushed, newest, older, without_newest}
use Rattle.k42_board.specs.Seen.{SysSeen, PassSeen, IsPassOf}
use Rattle.k42_board.specs.declared.view.PassView.{PassView}
use Rattle.k42_board.specs.declared.view.Row.{Row}
use Rattle.k42_board.proofs.Naming.{parts_of}
use Rattle.k42_quiesce.specs.Collecting.{HasHandedOver}

none_of : (n : ℕ) → ◌≡◌ {A = List Row} (take n []) []
none_of zero = refl
none_of (suc n) = refl

-- numbers that take the same of a list take the same of its front
front : (g h : ℕ) (xs ys : List Row) → take g (xs ++ ys) ≡ take h (xs ++ ys) → take g xs ≡ take h xs
front g h [] ys e = none_of g ∙ sym (none_of h)
front zero zero (x ∷ xs) ys e = refl
front zero (suc h) (x ∷ xs) ys e = absurd (cc)
front (suc g) zero (x ∷ xs) ys e = absurd (cc)
front (suc g) (suc h) (x ∷ xs) ys e = ap (λ l. x ∷ l) (front g h xs ys (ap (drop 1) e))

pub handed_none : {P O R : Type 0} (old : PassSeen P O R) → HasHandedOver old old
handed_none old = record {
  handed = [];
  rows = sym (append-nil old.view.rows);
  pushed = sym (append-nil old.pushed);
  knows = refl;
  granted = refl;
  row_room = omega arith;
  table = refl;
  seat = refl;
  keep = refl;
  room = refl;
  queue = refl;
  popped = refl;
}

module _ {P O R : Type 0} (old mid new : PassSeen P O R) (pushed : HasPushed mid new) where
  handed_next : HasHandedOver old mid → 0 < length mid.view.rows → HasHandedOver old new
  handed_next is some =
      let row : Row = newest mid.view.rows in
      let parts : mid.view.rows ≡ older mid.view.rows ++ row ∷ [] = parts_of mid.view.rows some in
      let left : new.view.rows ≡ older mid.view.rows = ap (λ (v : PassView P O R). v.rows) pushed.knows in
      record {
        handed = is.handed ++ row ∷ [];
        rows =
            is.rows ∙ ap (λ xs. xs ++ reverse is.handed) parts
            ∙ append_assoc (older mid.view.rows) (row ∷ []) (reverse is.handed)
            ∙ (λ j. sym left j ++ sym (reverse-append is.handed (row ∷ [])) j);
        pushed = pushed.pushed ∙ ap (λ xs. xs ++ row ∷ []) is.pushed ∙ append_assoc old.pushed is.handed (row ∷ []);
        knows =
            pushed.knows ∙ ap (λ (v : PassView P O R). without_newest v) is.knows
            ∙ (λ j. record old.view {
              rows = sym left j;
              granted = sym (ap (λ (v : PassView P O R). v.granted) pushed.knows) j;
            });
        granted =
            (λ j. take (ap (λ (v : PassView P O R). v.granted) pushed.knows j) (left j)) ∙ take_min mid.view.granted (older mid.view.rows)
            ∙ front mid.view.granted old.view.granted (older mid.view.rows) (row ∷ [])
            (subst (λ xs. take mid.view.granted xs ≡ take old.view.granted xs) parts is.granted)
            ∙ ap (take old.view.granted) (sym left);
        row_room =
            let before = is.row_room in let after = pushed.row_room in let more = length-append is.handed (row ∷ []) in
            omega (arith, before, after, more);
        table = pushed.table ∙ is.table;
        seat = pushed.seat ∙ is.seat;
        keep = pushed.keep ∙ is.keep;
        room = pushed.room ∙ is.room;
        queue = pushed.queue ∙ is.queue;
        popped = pushed.popped ∙ is.popped;
      }

  pub handed_one : {L : Type 0} (sys : SysSeen L) → IsPassOf sys mid → HasHandedOver old mid → 0 < length mid.view.rows
      → IsPassOf sys new × HasHandedOver old new
  handed_one sys ours is some = (
    record {
      table = pushed.table ∙ ours.table;
      proc = subst (λ n. n < sys.procs) (sym (ap (λ (v : PassView P O R). v.turn.proc) pushed.knows)) ours.proc;
      waits = ap (λ (v : PassView P O R). length v.turn.waits) pushed.knows ∙ ours.waits;
      objects = ap (λ (v : PassView P O R). length v.visitor.noted) pushed.knows ∙ ours.objects;
      shapes = ap (λ (v : PassView P O R). v.shapes) pushed.knows ∙ ours.shapes;
      spans = ap (λ (v : PassView P O R). length v.visitor.freeing) pushed.knows ∙ ours.spans;
      queue = pushed.queue ∙ ours.queue;
      keep = (λ i. (pushed.keep i).what) ∙ ours.keep;
    },
    handed_next is some,
  )
