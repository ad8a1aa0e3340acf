-- The passes of two seats go to the first, and the other is spent.
use Rattle.std.proofs.Common.{◌≡◌, ◌≢◌, ℕ, zero, suc, ◌-◌, ◌≤◌, ◌⊎◌, List, [], ◌∷◌, ◌++◌, Some, length, set, inl, inr, sym, refl, ap, ◌∙◌, subst, ⊎_elim, arith}
use Rattle.std.specs.List.{slice_get}
use Rattle.atomic_table.specs.Table.{Joins}
use Rattle.atomic_table.proofs.Lists.{at_set, set_else}
use Rattle.k42_stamp.specs.Layouts.{Layouts}
use Rattle.k42_joined.specs.Plain.{Joined}
use Rattle.k42_board.specs.Rule.{Beside, AreApart, KnowsPass, Knows, Rule, Ruled}
use Rattle.k42_board.specs.declared.view.PassView.{PassView}
use Rattle.k42_board.specs.declared.view.View.{View}
use Rattle.k42_board.specs.declared.view.View.TheVariants.{Crew, Drew, Kept, Named, Spent}
use Rattle.k42_board.proofs.Replaced.{put, put_here, put_else}

-- a member of two lists, one behind the other
pub at_either : {A : Type 0} (xs ys : List A) (i : ℕ) (a : A) → slice_get (xs ++ ys) i ≡ Some a
    → (slice_get xs i ≡ Some a) ⊎ ((length xs ≤ i) × (slice_get ys (i - length xs) ≡ Some a))
at_either [] ys i a e = inr (omega arith, ap (slice_get ys) (omega arith) ∙ e)
at_either (x ∷ xs) ys zero a e = inl e
at_either (x ∷ xs) ys (suc i) a e =
    ⊎_elim inl
    (λ later. let low = later.0 in inr (omega (arith, low), ap (slice_get ys) (omega arith) ∙ later.1))
    (at_either xs ys i a e)

-- a function of numbers, where one number is read for another
abbrev pub moved : (from onto : ℕ) → ℕ → ℕ
moved from onto = put (λ n. n) from onto

pub moved_same : (from onto n : ℕ) → n ≢ from → moved from onto n ≡ n
moved_same from onto n not = put_else (λ m. m) from onto n not

pub moved_here : (from onto n : ℕ) → n ≡ from → moved from onto n ≡ onto
moved_here from onto n is = put_here (λ m. m) from onto n is

-- seats and names of the other seat are of the first
abbrev pub beside_joined : {P : Type 0} → (id other : ℕ) → Beside P → Beside P
beside_joined id other beside = record beside {
  seat = λ c. moved other id (beside.seat c);
  row_seat = λ row. moved other id (beside.row_seat row);
}

module _ {L P O R : Type 0} (tag_of : L → ℕ) (s : Joined L O R) (beside : Beside P) (id other : ℕ) where
  moved_pass : (j k : ℕ) (x : PassView P O R) → moved other id j ≡ k → KnowsPass tag_of s beside j x
      → KnowsPass tag_of s (beside_joined id other beside) k x
  moved_pass j k x is knows = record {
    there = knows.there;
    seat = ap (moved other id) knows.seat ∙ is;
    names = record {
      named = λ place row e. ap (moved other id) (knows.names.named place row e) ∙ is;
      once = knows.names.once;
    };
    generations = knows.generations;
    phases = knows.phases;
    cells = knows.cells;
    trace = knows.trace;
  }

  module _ (apart : other ≢ id) where
    pub moved_others : (j : ℕ) (view : View P O R) → j ≢ id → j ≢ other → Knows tag_of s beside j view
        → Knows tag_of s (beside_joined id other beside) j view
    moved_others j (Crew passes) not not_other known =
        (known.0, λ place x e. moved_pass j j x (moved_same other id j not_other) (known.1 place x e))
    moved_others j (Kept told) not not_other known = tt
    moved_others j (Named row) not not_other known =
        (known.0, ap (moved other id) known.1 ∙ moved_same other id j not_other)
    moved_others j (Drew stamp) not not_other known = known
    moved_others j Spent not not_other known = tt

    module _ (ours theirs : List (PassView P O R)) (mine : Knows tag_of s beside id (Crew ours)) (them : Knows tag_of s beside other (Crew theirs)) where
      apart_both : AreApart (ours ++ theirs)
      apart_both i j v w e f same =
          ⊎_elim
          (λ one. ⊎_elim
          (λ two. mine.0 i j v w one two same)
          (λ two. absurd (apart (sym (them.1 (j - length ours) w two.1).seat ∙ ap beside.seat (sym same) ∙ (mine.1 i v one).seat)))
          (at_either ours theirs j w f))
          (λ one. ⊎_elim
          (λ two. absurd (apart (sym (them.1 (i - length ours) v one.1).seat ∙ ap beside.seat same ∙ (mine.1 j w two).seat)))
          (λ two.
          let is = them.0 (i - length ours) (j - length ours) v w one.1 two.1 same in
          let low = one.0 in let low' = two.0 in omega (arith, is, low, low'))
          (at_either ours theirs j w f))
          (at_either ours theirs i v e)

      pub moved_both : Knows tag_of s (beside_joined id other beside) id (Crew (ours ++ theirs))
      moved_both = (
        apart_both,
        λ place x e.
            ⊎_elim
            (λ one. moved_pass id id x (moved_same other id id (λ same. apart (sym same))) (mine.1 place x one))
            (λ two. moved_pass other id x (moved_here other id other refl) (them.1 (place - length ours) x two.1))
            (at_either ours theirs place x e),
      )

module _ {S L P O R : Type 0} (F : Layouts S L P O R) (declared : List L) (callers id other : ℕ) (ours theirs : List (PassView P O R)) where
  joined : Joins (Rule F declared) id (Crew ours) other (Crew theirs) (Crew (ours ++ theirs)) Spent
  joined table r at apart at_other = record {
    state = r.state;
    sound = r.sound;
    beside = beside_joined id other r.beside;
    shows = record {
      many_words = r.shows.many_words;
      many_slots = r.shows.many_slots;
      few_objects = r.shows.few_objects;
      few_entries = r.shows.few_entries;
      generations = r.shows.generations;
      objects = r.shows.objects;
      cells = r.shows.cells;
    };
    parts = r.parts;
    seats = λ j view e.
        ⊎_elim
        (λ here. subst (λ (w : View P O R). Knows F.tag_of r.state (beside_joined id other r.beside) j w) here.1 tt)
        (λ else.
        ⊎_elim
        (λ here. subst (λ (z : ℕ × View P O R). Knows F.tag_of r.state (beside_joined id other r.beside) z.0 z.1) (λ i. (sym here.0 i, here.1 i)) both)
        (λ old. moved_others F.tag_of r.state r.beside id other apart j view old.0 else.0 (r.seats j view old.1))
        (at_set table.views id j (Crew (ours ++ theirs)) view else.1))
        (at_set (set table.views id (Crew (ours ++ theirs))) other j Spent view e);
  } where
    both : Knows F.tag_of r.state (beside_joined id other r.beside) id (Crew (ours ++ theirs))
    both =
        moved_both F.tag_of r.state r.beside id other apart ours theirs (r.seats id (Crew ours) at)
        (r.seats other (Crew theirs) (sym (set_else table.views id other (Crew (ours ++ theirs)) apart) ∙ at_other))

  pub joins : Joins (Ruled F declared callers) id (Crew ours) other (Crew theirs) (Crew (ours ++ theirs)) Spent
  unfolding joined
  joins table ruled at apart at_other = record { rule = joined table ruled.rule at apart at_other; many = ruled.many }
