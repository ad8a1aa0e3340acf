-- A seat with several passes may be parted from its first, which holds no row.
use Rattle.std.proofs.Common.{◌≡◌, ◌≢◌, ℕ, zero, suc, ◌⊎◌, List, [], ◌∷◌, ◌++◌, Some, length, set, inl, inr, sym, refl, ap, ◌∙◌, subst, ⊎_elim, arith, length-set}
use Rattle.std.specs.List.{slice_get}
use Rattle.std.proofs.lemmas.Option.{same_Some}
use mathlib.Core.Option.{some, some-injective, some-ne-none}
use lib.ListN.{get_elem?}
use Rattle.atomic_table.specs.Table.{Splits}
use Rattle.atomic_table.proofs.Lists.{at_set}
use Rattle.k42_stamp.specs.Layouts.{Layouts}
use Rattle.k42_joined.specs.Plain.{Joined}
use Rattle.k42_board.specs.Rule.{Beside, NamesRows, KnowsPass, Knows, Rule, Ruled}
use Rattle.k42_board.specs.declared.view.PassView.{PassView}
use Rattle.k42_board.specs.declared.view.Row.{Row}
use Rattle.k42_board.specs.declared.view.View.{View}
use Rattle.k42_board.specs.declared.view.View.TheVariants.{Crew, Kept, Named, Drew, Spent}
use Rattle.k42_board.proofs.OnePass.{apart_alone}
use Rattle.k42_board.proofs.Replaced.{put, put_here, put_else}

-- a member of a longer list is the last one, or was there before
pub at_end : {A : Type 0} (l : List A) (a b : A) (j : ℕ) → get_elem? (l ++ a ∷ []) j ≡ some b → ((j ≡ length l) × (a ≡ b)) ⊎ (get_elem? l j ≡ some b)
at_end [] a b zero e = inl (refl, some-injective a b e)
at_end [] a b (suc j) e = absurd (some-ne-none b (sym e))
at_end (x ∷ xs) a b zero e = inr e
at_end (x ∷ xs) a b (suc j) e = ⊎_elim (λ t. inl (ap suc t.0, t.1)) (λ t. inr t) (at_end xs a b j e)

pub seated_at : {L P O R : Type 0} (tag_of : L → ℕ) (s : Joined L O R) (beside : Beside P) (seat : ℕ → ℕ) (id j : ℕ) (x : PassView P O R) → seat x.number ≡ j
    → NamesRows beside j x.rows → KnowsPass tag_of s beside id x → KnowsPass tag_of s (record beside { seat = seat }) j x
seated_at tag_of s beside seat id j x is names knows = record {
  there = knows.there;
  seat = is;
  names = record { named = names.named; once = names.once };
  generations = knows.generations;
  phases = knows.phases;
  cells = knows.cells;
  trace = knows.trace;
}

pub names_none : {P : Type 0} (beside : Beside P) (id : ℕ) (rows : List Row) → rows ≡ [] → NamesRows beside id rows
names_none beside id [] is = record { named = λ place row e. absurd (cc); once = λ i j row e. absurd (cc) }
names_none beside id (row ∷ rows) is = absurd (cc)

module _ {S L P O R : Type 0} (F : Layouts S L P O R) (declared : List L) (callers : ℕ) (id : ℕ) (v : PassView P O R) (rest : List (PassView P O R)) (none : v.rows ≡ []) where
  parted : Splits (Rule F declared) id (Crew (v ∷ rest)) (Crew rest) (Crew (v ∷ []))
  parted table r at = record {
    state = r.state;
    sound = r.sound;
    beside = beside';
    shows = record {
      many_words = r.shows.many_words;
      many_slots = r.shows.many_slots;
      few_objects = r.shows.few_objects;
      few_entries = r.shows.few_entries;
      generations = r.shows.generations;
      objects = r.shows.objects;
      cells = r.shows.cells;
    };
    parts = r.parts;
    seats = λ j view e.
        ⊎_elim
        (λ new. subst (λ (z : ℕ × View P O R). Knows F.tag_of r.state beside' z.0 z.1) (λ i. (sym (new.0 ∙ length-set table.views id (Crew rest)) i, new.1 i)) own)
        (λ old.
        ⊎_elim
        (λ here. subst (λ (z : ℕ × View P O R). Knows F.tag_of r.state beside' z.0 z.1) (λ i. (sym here.0 i, here.1 i)) left)
        (λ else. other j view else.0 (r.seats j view else.1))
        (at_set table.views id j (Crew rest) view old))
        (at_end (set table.views id (Crew rest)) (Crew (v ∷ [])) view j e);
  } where
    knows : Knows F.tag_of r.state r.beside id (Crew (v ∷ rest))
    knows = r.seats id (Crew (v ∷ rest)) at

    mine : KnowsPass F.tag_of r.state r.beside id v
    mine = knows.1 0 v refl

    last : ℕ
    last = length table.views

    beside' : Beside P
    beside' = record r.beside { seat = put r.beside.seat v.number (length table.views) }

    own_each : (place : ℕ) (x : PassView P O R) → slice_get (v ∷ []) place ≡ Some x → KnowsPass F.tag_of r.state beside' (length table.views) x
    own_each zero x e =
        subst (KnowsPass F.tag_of r.state beside' (length table.views)) (same_Some v x e)
        (seated_at F.tag_of r.state r.beside (put r.beside.seat v.number (length table.views)) id (length table.views) v (put_here r.beside.seat v.number (length table.views) v.number refl) (names_none r.beside (length table.views) v.rows none) mine)
    own_each (suc place) x e = absurd (cc)

    own : Knows F.tag_of r.state beside' (length table.views) (Crew (v ∷ []))
    own = (apart_alone v, own_each)

    left : Knows F.tag_of r.state beside' id (Crew rest)
    left = (
      (λ i j x y e f same. let more = knows.0 (suc i) (suc j) x y e f same in omega (arith, more)),
      λ place x e.
          let k = knows.1 (suc place) x e in
          seated_at F.tag_of r.state r.beside (put r.beside.seat v.number (length table.views)) id id x
          (put_else r.beside.seat v.number (length table.views) x.number (λ same. let one = knows.0 (suc place) 0 x v e refl same in absurd (omega (arith, one))) ∙ k.seat) k.names k,
    )

    other : (j : ℕ) (view : View P O R) → j ≢ id → Knows F.tag_of r.state r.beside j view → Knows F.tag_of r.state beside' j view
    other j (Crew passes) not known = (
      known.0,
      λ place x e.
          let k = known.1 place x e in
          seated_at F.tag_of r.state r.beside (put r.beside.seat v.number (length table.views)) j j x
          (put_else r.beside.seat v.number (length table.views) x.number (λ same. not (sym k.seat ∙ ap r.beside.seat same ∙ mine.seat)) ∙ k.seat) k.names k,
    )
    other j (Kept told) not known = tt
    other j (Named row) not known = known
    other j (Drew stamp) not known = known
    other j Spent not known = tt

  pub deals : Splits (Ruled F declared callers) id (Crew (v ∷ rest)) (Crew rest) (Crew (v ∷ []))
  unfolding parted
  deals table ruled at = record { rule = parted table ruled.rule at; many = ruled.many }
