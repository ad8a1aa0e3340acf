-- What a pass has drawn is what its caller has, and what is kept of it.
use Rattle.std.proofs.Common.{◌≡◌, ℕ, zero, suc, ◌-◌, ◌<◌, ◌≤◌, List, [], ◌∷◌, ◌++◌, drop, length, refl, sym, ap, ◌∙◌, subst, arith}
use Rattle.std.proofs.Math.Nat.{le-max_left}
use Rattle.std.proofs.Math.Seq.{drop-length}
use Rattle.std.proofs.lemmas.List.{drop-append-le, length-drop}
use Rattle.std.proofs.lemmas.Option.{slice_get-get_or}
use mathlib.Core.Option.{some}
use lib.ListN.{get_elem?}
use Rattle.atomic_table.specs.Table.{State}
use Rattle.k42_kinds.specs.declared.entry.Entry.{Entry}
use Rattle.turn_core.specs.Plain.{Caller}
use Rattle.turn_core.specs.State.{caller_at, fresh_caller}
use Rattle.k42_stamp.specs.Layouts.{Layouts}
use Rattle.k42_board.specs.Cells.{Slot}
use Rattle.k42_board.specs.Drawing.{last_noted, stamp_next}
use Rattle.k42_board.specs.Rule.{Rule}
use Rattle.k42_board.specs.Seen.{PassSeen, HasRoom, Keeping, keeping, kept_by, kept_of, kept_with, room_due}
use Rattle.k42_board.specs.declared.keep.Keep.{Keep}
use Rattle.k42_board.specs.declared.keep.Keep.TheVariants.{All, Sections, Nothing}
use Rattle.k42_board.specs.declared.view.PassView.{PassView}
use Rattle.k42_board.specs.declared.view.View.{View}
use Rattle.k42_board.specs.declared.view.View.TheVariants.{Crew}
use Rattle.table_laws.specs.Kept.{IsOwnList}

pub own_list : {S L P O R : Type 0} (F : Layouts S L P O R) (declared : List L) (table : State (Slot P O R) (View P O R)) (r : Rule F declared table) (id : ℕ) (v : PassView P O R)
    → get_elem? table.views id ≡ some (Crew (v ∷ [])) → IsOwnList v.number v.taker.mine
own_list {O} {R} F declared table r id v at =
    let s = r.state.turns in let k = (r.seats id (Crew (v ∷ [])) at).1 0 v refl in
    let there : v.number < length s.callers = let many = r.sound.cells.locks.many.callers in let lt = k.there in omega (arith, many, lt) in
    let is = r.sound.cells.turns.callers v.number (caller_at s v.number) (slice_get-get_or s.callers v.number fresh_caller there) in
    subst (λ (x : Caller O R). IsOwnList v.number x.mine) k.cells.taker (record { rising = is.rising; own = is.own })

kept_of_more : {O R : Type 0} (what : Keep) (given : ℕ) (mine : List (Entry O R)) (entry : Entry O R) → given ≤ length mine
    → kept_with what (kept_of what given mine) entry ≡ kept_of what given (mine ++ entry ∷ [])
kept_of_more All given mine entry few = refl
kept_of_more Sections given mine entry few = sym (drop-append-le given mine (entry ∷ []) few)
kept_of_more Nothing given mine entry few = refl

pub kept_on : {O R : Type 0} (keep : Keeping) (mine : List (Entry O R)) (entry : Entry O R) → keep.given ≤ length mine
    → kept_with keep.what (kept_by keep mine) entry ≡ kept_by keep (mine ++ entry ∷ [])
kept_on keep mine entry few = kept_of_more keep.what keep.given mine entry few

-- who has dropped so many has left what comes behind them
drop_left : {A : Type 0} (given : ℕ) (mine : List A) → drop given mine ≡ drop (length mine - length (drop given mine)) mine
drop_left zero mine = let none : length mine - length mine ≡ 0 = omega arith in ap (λ n. drop n mine) (sym none)
drop_left (suc given) [] = refl
drop_left (suc given) (x ∷ mine) =
    let less = length-drop given mine in
    let more : length (x ∷ mine) - length (drop given mine) ≡ suc (length mine - length (drop given mine)) = omega (arith, less) in
    drop_left given mine ∙ ap (λ n. drop n (x ∷ mine)) (sym more)

kept_of_last : {O R : Type 0} (what : Keep) (given : ℕ) (mine : List (Entry O R)) → kept_of what given mine ≡ drop (length mine - length (kept_of what given mine)) mine
kept_of_last All given mine = let none : length mine - length mine ≡ 0 = omega arith in ap (λ n. drop n mine) (sym none)
kept_of_last Sections given mine = drop_left given mine
kept_of_last Nothing given mine = let all : length mine - 0 ≡ length mine = omega arith in sym (ap (λ n. drop n mine) all ∙ drop-length mine)

pub kept_last : {O R : Type 0} (keep : Keeping) (mine : List (Entry O R)) → kept_by keep mine ≡ drop (length mine - length (kept_by keep mine)) mine
kept_last keep mine = kept_of_last keep.what keep.given mine

-- the next stamp is above the clock, and so above the last section
pub later_stamp : {P O R : Type 0} (v : PassView P O R) (cells : List ℕ) (since : ℕ) → since ≤ v.taker.clock → since < stamp_next v cells
later_stamp v cells since passed =
    let above = le-max_left v.taker.clock (last_noted v.notes cells) in omega (arith, above, passed)

-- computed: of three that were drawn all are kept, or the one that no section has taken, or none
three_kept : kept_by {A = ℕ} (keeping All) (7 ∷ 8 ∷ 9 ∷ []) ≡ 7 ∷ 8 ∷ 9 ∷ []
three_kept = refl

abbrev after_two : Keep → Keeping
after_two what = record { what = what; given = 2; since = 8 }

one_kept : kept_by {A = ℕ} (after_two Sections) (7 ∷ 8 ∷ 9 ∷ []) ≡ 9 ∷ []
one_kept = refl

none_kept : kept_by {A = ℕ} (after_two Nothing) (7 ∷ 8 ∷ 9 ∷ []) ≡ []
none_kept = refl

-- a section never takes what was given to one before it
none_again : kept_by {A = ℕ} (after_two Sections) (7 ∷ 8 ∷ 9 ∷ []) ≡ 8 ∷ 9 ∷ [] → ⊥
none_again same = let two = ap length same in omega (arith, two)

fourth_kept : kept_with {A = ℕ} All (7 ∷ 8 ∷ 9 ∷ []) 5 ≡ 7 ∷ 8 ∷ 9 ∷ 5 ∷ []
fourth_kept = refl

second_kept : kept_with {A = ℕ} Sections (9 ∷ []) 5 ≡ 9 ∷ 5 ∷ []
second_kept = refl

first_not_kept : kept_with {A = ℕ} Nothing [] 5 ≡ []
first_not_kept = refl

-- who keeps any has no room for an entry where there is none, and room where there is some; who keeps none needs none
no_room : {P O R : Type 0} (pass : PassSeen P O R) → pass.keep.what ≡ All → pass.room ≡ 0 → HasRoom pass → ⊥
no_room pass is none has = let one : room_due All ≤ pass.room = subst (λ k. room_due k ≤ pass.room) is has in omega (arith, one, none)

no_room_left : {P O R : Type 0} (pass : PassSeen P O R) → pass.keep.what ≡ Sections → pass.room ≡ 0 → HasRoom pass → ⊥
no_room_left pass is none has = let one : room_due Sections ≤ pass.room = subst (λ k. room_due k ≤ pass.room) is has in omega (arith, one, none)

no_room_needed : {P O R : Type 0} (pass : PassSeen P O R) → HasRoom (record pass { keep = keeping Nothing; room = 0 })
no_room_needed pass = omega arith

room_for_one : {P O R : Type 0} (pass : PassSeen P O R) → HasRoom (record pass { keep = keeping All; room = 1 })
room_for_one pass = omega arith

room_for_next : {P O R : Type 0} (pass : PassSeen P O R) → HasRoom (record pass { keep = after_two Sections; room = 1 })
room_for_next pass = omega arith
