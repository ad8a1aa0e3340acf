-- Computed: what a pass keeps whose entries sections take, and how a skip raises its clock.
use Rattle.std.proofs.Common.{◌≡◌, ℕ, zero, suc, ◌<◌, ◌≤◌, [], ◌∷◌, refl, subst, arith}
use Rattle.std.proofs.lemmas.Option.{same_Some}
use Rattle.k42_kinds.specs.declared.operation.Op.{Op}
use Rattle.k42_kinds.specs.declared.operation.Reply.{Reply}
use Rattle.k42_kinds.specs.declared.entry.Act.TheVariants.{Swap}
use Rattle.k42_kinds.specs.declared.entry.Answer.TheVariants.{Gone}
use Rattle.k42_kinds.specs.declared.entry.Entry.{Entry}
use Rattle.k42_kinds.specs.declared.entry.To.TheVariants.{Dead}
use Rattle.k42_kinds.proofs.ExampleLines.{line}
use Rattle.k42_places.specs.Places.{EachPlace}
use Rattle.k42_board.specs.Drawing.{stamp_next, alone_view}
use Rattle.k42_board.specs.Seen.{Keeping, IsParted, keeping, kept_by, kept_with, room_due}
use Rattle.k42_board.specs.Skipping.{clock_told, greatest_clock, skipped_view, skipping}
use Rattle.k42_board.specs.Views.{new_pass}
use Rattle.k42_board.specs.declared.keep.Keep.TheVariants.{All, Sections, Nothing}
use Rattle.k42_board.specs.declared.view.PassView.{PassView}
use Rattle.k42_board.specs.declared.view.View.TheVariants.{Crew, Drew, Spent}

-- two entries were given to sections, the last of which went up to the stamp 4
abbrev after_two : Keeping
after_two = record { what = Sections; given = 2; since = 4 }

third_kept : kept_by {A = ℕ} after_two (7 ∷ 8 ∷ 9 ∷ []) ≡ 9 ∷ []
third_kept = refl

fourth_kept : kept_with {A = ℕ} Sections (9 ∷ []) 5 ≡ 9 ∷ 5 ∷ []
fourth_kept = refl

needs_room : room_due Sections ≡ 1
needs_room = refl

-- before the first section all are kept, but by a pass that keeps none
none_given : kept_by {A = ℕ} (keeping Sections) (7 ∷ 8 ∷ []) ≡ 7 ∷ 8 ∷ []
none_given = refl

none_kept : kept_by {A = ℕ} (keeping Nothing) (7 ∷ 8 ∷ []) ≡ []
none_kept = refl

-- who keeps all has given none, whatever the number says
all_kept : kept_by {A = ℕ} (record after_two { what = All }) (7 ∷ 8 ∷ []) ≡ 7 ∷ 8 ∷ []
all_kept = refl

-- an entry that is left is later than the section, and the last that was given may have its stamp

abbrev stamped : ℕ → Entry Op Reply
stamped stamp = line stamp 0 0 0 (Swap Dead) Gone

abbrev after_one : Keeping
after_one = record { what = Sections; given = 1; since = 4 }

only : (P : Entry Op Reply → Type 0) (entry : Entry Op Reply) → P entry → EachPlace (λ place x. P x) (entry ∷ [])
only P entry is zero x e = subst P (same_Some entry x e) is
only P entry is (suc place) x e = absurd (cc)

parted : IsParted after_one (stamped 4 ∷ stamped 5 ∷ [])
parted = record {
  few = omega arith;
  given = only (λ entry. entry.stamp ≤ 4) (stamped 4) (omega arith);
  left = only (λ entry. 4 < entry.stamp) (stamped 5) (omega arith);
}

not_later : IsParted after_one (stamped 3 ∷ stamped 4 ∷ []) → ⊥
not_later is = let left = is.left 0 (stamped 4) refl in omega (arith, left)

none_there : IsParted {O = Op} {R = Reply} after_one [] → ⊥
none_there is = let few = is.few in omega (arith, few)

-- a new pass, and one that has drawn alone

abbrev new : PassView ℕ Op Reply
new = new_pass 1 ([] ∷ []) 0 0

abbrev late : PassView ℕ Op Reply
late = alone_view (stamped 3) new

first_stamp : stamp_next new [] ≡ 1
first_stamp = refl

next_stamp : stamp_next late [] ≡ 4
next_stamp = refl

-- a skip to a later stamp raises the clock, and what is drawn then is later; one to an earlier stamp leaves it
raised : (skipped_view 7 late).taker.clock ≡ 7
raised = refl

later : stamp_next (skipped_view 7 late) [] ≡ 8
later = refl

left_as_it_was : skipped_view 2 late ≡ late
left_as_it_was = refl

greatest : greatest_clock (new ∷ skipped_view 7 late ∷ late ∷ []) ≡ 7
greatest = refl

-- a seat tells of the clock of one pass, and that pass alone skips to it

told : clock_told (Crew (late ∷ [])) ≡ Drew 3
told = refl

two_passes : clock_told (Crew (late ∷ new ∷ [])) ≡ Spent
two_passes = refl

skips : skipping (Crew (new ∷ [])) (Drew 3) ≡ Crew (skipped_view 3 new ∷ [])
skips = refl

nothing_told : skipping (Crew (new ∷ [])) Spent ≡ Crew (new ∷ [])
nothing_told = refl
