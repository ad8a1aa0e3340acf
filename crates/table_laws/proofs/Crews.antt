-- Seats with several passes, and those of cells: dealt, gathered, and told.
use Rattle.std.proofs.Common.{◌≡◌, ◌≢◌, ℕ, zero, suc, ◌-◌, ◌≤◌, ◌⊎◌, List, [], ◌∷◌, ◌++◌, Some, length, set, inl, inr, sym, refl, ap, ◌∙◌, subst, ⊎_elim, arith}
use Rattle.std.specs.List.{slice_get}
use Rattle.std.proofs.lemmas.Option.{same_Some}
use Rattle.k42_stamp.specs.Layouts.{Layouts}
use Rattle.k42_joined.specs.Plain.{Joined}
use Rattle.k42_board.specs.Drawing.{untold_view}
use Rattle.k42_board.specs.Receipts.{after_first, first_told}
use Rattle.k42_board.specs.Rule.{Beside, AreApart, KnowsPass, Knows}
use Rattle.k42_board.specs.declared.view.PassView.{PassView}
use Rattle.k42_board.specs.declared.view.View.{View}
use Rattle.k42_board.specs.declared.view.View.TheVariants.{Crew, Drew, Kept, Named, Spent}
use Rattle.k42_board.proofs.Dealing.{seated_at, names_none}
use Rattle.k42_board.proofs.Drawers.{untold_known}
use Rattle.k42_board.proofs.OnePass.{apart_alone, known}
use Rattle.k42_board.proofs.Replaced.{put, put_here, put_else}
use Rattle.table_laws.specs.Seating.{SplitStays, JoinStays}
use Rattle.table_laws.proofs.Views.{each_after_split, each_after_join}
use Rattle.table_laws.proofs.Seated.{beside_seated, still}

module _ {S L P O R : Type 0} (F : Layouts S L P O R) (declared : List L) (id : ℕ) (v : PassView P O R) where
  -- the first pass of a seat, which holds no row, gets a seat of its own
  pub dealt_off : (rest : List (PassView P O R)) → v.rows ≡ [] → SplitStays F declared id (Crew (v ∷ rest)) (Crew rest) (Crew (v ∷ []))
  dealt_off rest none table r at =
      still F declared table r (put r.beside.seat v.number (length table.views)) r.beside.row_seat (set table.views id (Crew rest) ++ Crew (v ∷ []) ∷ [])
      (each_after_split (Knows F.tag_of r.state beside') table.views id (Crew rest) (Crew (v ∷ [])) left (apart_alone v, own)
      (λ j view not e. other j view not (r.seats j view e))) where
        beside' : Beside P
        beside' = beside_seated r.beside (put r.beside.seat v.number (length table.views)) r.beside.row_seat

        knows : Knows F.tag_of r.state r.beside id (Crew (v ∷ rest))
        knows = r.seats id (Crew (v ∷ rest)) at

        mine : KnowsPass F.tag_of r.state r.beside id v
        mine = knows.1 0 v refl

        own : (place : ℕ) (x : PassView P O R) → slice_get (v ∷ []) place ≡ Some x → KnowsPass F.tag_of r.state beside' (length table.views) x
        own zero x e =
            subst (KnowsPass F.tag_of r.state beside' (length table.views)) (same_Some v x e)
            (seated_at F.tag_of r.state r.beside (put r.beside.seat v.number (length table.views)) id (length table.views) v
            (put_here r.beside.seat v.number (length table.views) v.number refl) (names_none r.beside (length table.views) v.rows none) mine)
        own (suc place) x e = absurd (cc)

        left : Knows F.tag_of r.state beside' id (Crew rest)
        left = (
          (λ i j x y e f same. let more = knows.0 (suc i) (suc j) x y e f same in omega (arith, more)),
          λ place x e.
              let k = knows.1 (suc place) x e in
              seated_at F.tag_of r.state r.beside (put r.beside.seat v.number (length table.views)) id id x
              (put_else r.beside.seat v.number (length table.views) x.number (λ same. let one = knows.0 (suc place) 0 x v e refl same in absurd (omega (arith, one))) ∙ k.seat) k.names k,
        )

        other : (j : ℕ) (view : View P O R) → j ≢ id → Knows F.tag_of r.state r.beside j view → Knows F.tag_of r.state beside' j view
        other j (Crew passes) not theirs = (
          theirs.0,
          λ place x e.
              let k = theirs.1 place x e in
              seated_at F.tag_of r.state r.beside (put r.beside.seat v.number (length table.views)) j j x
              (put_else r.beside.seat v.number (length table.views) x.number (λ same. not (sym k.seat ∙ ap r.beside.seat same ∙ mine.seat)) ∙ k.seat) k.names k,
        )
        other j (Kept told) not theirs = tt
        other j (Drew stamp) not theirs = theirs
        other j (Named row) not theirs = theirs
        other j Spent not theirs = tt

  -- a new seat tells of a cell what the pass has noted of it
  pub told_off : SplitStays F declared id (Crew (v ∷ [])) (Crew (untold_view (after_first v.untold) v ∷ [])) (first_told v.notes v.untold)
  told_off table r at =
      still F declared table r r.beside.seat r.beside.row_seat (set table.views id (Crew (w ∷ [])) ++ first_told v.notes v.untold ∷ [])
      (each_after_split (Knows F.tag_of r.state r.beside) table.views id (Crew (w ∷ [])) (first_told v.notes v.untold) (apart_alone w, own)
      (told (length table.views) v.untold) (λ j view not e. r.seats j view e)) where
        w : PassView P O R
        w = untold_view (after_first v.untold) v

        told : (j : ℕ) (cells : List ℕ) → Knows F.tag_of r.state r.beside j (first_told v.notes cells)
        told j [] = tt
        told j (n ∷ cells) = tt

        own : (place : ℕ) (x : PassView P O R) → slice_get (w ∷ []) place ≡ Some x → KnowsPass F.tag_of r.state r.beside id x
        own zero x e =
            subst (KnowsPass F.tag_of r.state r.beside id) (same_Some w x e)
            (untold_known F.tag_of r.state r.beside id v (known F declared table r id v at) (after_first v.untold))
        own (suc place) x e = absurd (cc)

-- a member of two lists, one behind the other
at_either : {A : Type 0} (xs ys : List A) (i : ℕ) (a : A) → slice_get (xs ++ ys) i ≡ Some a
    → (slice_get xs i ≡ Some a) ⊎ ((length xs ≤ i) × (slice_get ys (i - length xs) ≡ Some a))
at_either [] ys i a e = inr (omega arith, ap (slice_get ys) (omega arith) ∙ e)
at_either (x ∷ xs) ys zero a e = inl e
at_either (x ∷ xs) ys (suc i) a e =
    ⊎_elim inl
    (λ later. let low = later.0 in inr (omega (arith, low), ap (slice_get ys) (omega arith) ∙ later.1))
    (at_either xs ys i a e)

-- the seats and the names of the one seat are the other's
abbrev moved : (from onto : ℕ) → ℕ → ℕ
moved from onto = put (λ n. n) from onto

abbrev beside_joined : {P : Type 0} → (id other : ℕ) → Beside P → Beside P
beside_joined id other beside = beside_seated beside (λ c. moved other id (beside.seat c)) (λ row. moved other id (beside.row_seat row))

module _ {L P O R : Type 0} (tag_of : L → ℕ) (s : Joined L O R) (beside : Beside P) (id other : ℕ) (apart : other ≢ id) where
  moved_pass : (j k : ℕ) (x : PassView P O R) → moved other id j ≡ k → KnowsPass tag_of s beside j x
      → KnowsPass tag_of s (beside_joined id other beside) k x
  moved_pass j k x is knows = record {
    there = knows.there;
    seat = ap (moved other id) knows.seat ∙ is;
    names = record {
      named = λ place row e. ap (moved other id) (knows.names.named place row e) ∙ is;
      once = knows.names.once;
    };
    generations = knows.generations;
    phases = knows.phases;
    cells = knows.cells;
    trace = knows.trace;
  }

  moved_others : (j : ℕ) (view : View P O R) → j ≢ other → Knows tag_of s beside j view → Knows tag_of s (beside_joined id other beside) j view
  moved_others j (Crew passes) not knows = (knows.0, λ place x e. moved_pass j j x (put_else (λ n. n) other id j not) (knows.1 place x e))
  moved_others j (Kept told) not knows = tt
  moved_others j (Drew stamp) not knows = knows
  moved_others j (Named row) not knows = (knows.0, ap (moved other id) knows.1 ∙ put_else (λ n. n) other id j not)
  moved_others j Spent not knows = tt

  module _ (ours theirs : List (PassView P O R)) (mine : Knows tag_of s beside id (Crew ours)) (them : Knows tag_of s beside other (Crew theirs)) where
    apart_both : AreApart (ours ++ theirs)
    apart_both i j v w e f same =
        ⊎_elim
        (λ one. ⊎_elim
        (λ two. mine.0 i j v w one two same)
        (λ two. absurd (apart (sym (them.1 (j - length ours) w two.1).seat ∙ ap beside.seat (sym same) ∙ (mine.1 i v one).seat)))
        (at_either ours theirs j w f))
        (λ one. ⊎_elim
        (λ two. absurd (apart (sym (them.1 (i - length ours) v one.1).seat ∙ ap beside.seat same ∙ (mine.1 j w two).seat)))
        (λ two.
        let is = them.0 (i - length ours) (j - length ours) v w one.1 two.1 same in
        let low = one.0 in let low' = two.0 in omega (arith, is, low, low'))
        (at_either ours theirs j w f))
        (at_either ours theirs i v e)

    moved_both : Knows tag_of s (beside_joined id other beside) id (Crew (ours ++ theirs))
    moved_both = (
      apart_both,
      λ place x e.
          ⊎_elim
          (λ one. moved_pass id id x (put_else (λ n. n) other id id (λ same. apart (sym same))) (mine.1 place x one))
          (λ two. moved_pass other id x (put_here (λ n. n) other id other refl) (them.1 (place - length ours) x two.1))
          (at_either ours theirs place x e),
    )

-- the passes of two seats go to the one
pub gathered : {S L P O R : Type 0} (F : Layouts S L P O R) (declared : List L) (id other : ℕ) (ours theirs : List (PassView P O R))
    → JoinStays F declared id (Crew ours) other (Crew theirs) (Crew (ours ++ theirs))
gathered {S} {L} {P} F declared id other ours theirs table r at apart at_other =
    still F declared table r (λ c. moved other id (r.beside.seat c)) (λ row. moved other id (r.beside.row_seat row)) (set (set table.views id (Crew (ours ++ theirs))) other Spent)
    (each_after_join (Knows F.tag_of r.state (beside_joined id other r.beside)) table.views id other (Crew (ours ++ theirs)) Spent both (λ j. tt)
    (λ j view not not_other e. moved_others F.tag_of r.state r.beside id other apart j view not_other (r.seats j view e))) where
      both : Knows F.tag_of r.state (beside_joined id other r.beside) id (Crew (ours ++ theirs))
      both = moved_both F.tag_of r.state r.beside id other apart ours theirs (r.seats id (Crew ours) at) (r.seats other (Crew theirs) at_other)
