-- The rows that fit are one: the histories and the layouts of the hands tell them.
use Rattle.std.proofs.Common.{◌≡◌, ℕ, ◌<◌, ◌∙◌, List, [], ◌∷◌, ◌++◌, length, map, refl, sym, ap, subst, arith}
use Rattle.std.proofs.lemmas.List.{length-map}
use Rattle.k42_kinds.specs.declared.entry.Entry.{Entry}
use Rattle.k42_stamp.specs.Chains.{Row, Turn, Chain, start_of, first_of}
use Rattle.k42_stamp.specs.Fits.{IsEntryOf, IsRow, ArePast, Leaves, PastLeaves, Fits}
use Rattle.k42_stamp.specs.Laws.{AreLaws}
use Rattle.k42_stamp.specs.Layouts.{Layouts, IsKnown}
use Rattle.k42_stamp.specs.Orders.{In}
use Rattle.k42_stamp.specs.Parts.{reach_of, touches, those_at}
use Rattle.k42_stamp.proofs.Elements.{all_at, in-filter, in-from_filter}
use Rattle.k42_stamp.proofs.Needed.{needed, entry_within}
use Rattle.k42_stamp.proofs.Ordering.{same_entries}
use Rattle.k42_joined.specs.Plain.{Joined}
use Rattle.k42_joined.specs.Rows.{history_in, layouts_in, AreRowsOf}

same_row : {L P O R : Type 0} (x y : Row L P O R) → x.layout ≡ y.layout → x.start ≡ y.start → x.entries ≡ y.entries → x ≡ y
same_row x y layout start entries = λ i. record { layout = layout i; start = start i; entries = entries i }

cancel : {E : Type 0} (first : List E) (xs ys : List E) → first ++ xs ≡ first ++ ys → xs ≡ ys
cancel [] xs ys same = same
cancel (e ∷ first) xs ys same = let tail : first ++ xs ≡ first ++ ys = cc in cancel first xs ys tail

module _ {S L P O R : Type 0} (F : Layouts S L P O R) (laws : AreLaws F) (declared : L) (o : ℕ) (h : ℕ → ℕ → List (Entry O R)) where
  -- the entries of a row after the same rows
  row_one : (past : List (Turn L P O R)) (x y : Row L P O R) → IsRow F declared o past x → IsRow F declared o past y
      → Leaves F (h (length past)) past x → Leaves F (h (length past)) past y → x.layout ≡ y.layout → x ≡ y
  row_one past x y is_x is_y left_x left_y layout =
      same_row x y layout (is_x.started ∙ ap (start_of F past) layout ∙ sym is_y.started)
      (same_entries x.entries y.entries is_x.ordered is_y.ordered
      (λ e inside. moved x.layout y.layout layout x.entries y.entries e inside is_x.known (all_at (IsEntryOf F x.layout o (length past)) x.entries e is_x.own inside) left_x left_y)
      (λ e inside. moved y.layout x.layout (sym layout) y.entries x.entries e inside is_y.known (all_at (IsEntryOf F y.layout o (length past)) y.entries e is_y.own inside) left_y left_x))
    where
      moved : (l m : L) → l ≡ m → (es fs : List (Entry O R)) (e : Entry O R) → In e es → IsKnown F l → IsEntryOf F l o (length past) e
          → ((c : ℕ) → c < F.procs → h (length past) c ≡ first_of past ++ those_at F l c es)
          → ((c : ℕ) → c < F.procs → h (length past) c ≡ first_of past ++ those_at F m c fs) → In e fs
      moved l m same es fs e inside known own left left' =
          let c = needed F.procs (reach_of F l e) (entry_within F laws l known o (length past) e own) in
          let there : In e (those_at F l c.0 es) = in-filter (λ f. touches (reach_of F l f) c.0) e es inside c.2 in
          let equal : those_at F l c.0 es ≡ those_at F m c.0 fs = cancel (first_of past) (those_at F l c.0 es) (those_at F m c.0 fs) (sym (left c.0 c.1) ∙ left' c.0 c.1) in
          (in-from_filter (λ f. touches (reach_of F m f) c.0) e fs (subst (λ (g : List (Entry O R)). In e g) equal there)).0

  abbrev layouts_of_past : List (Turn L P O R) → List L
  layouts_of_past past = map (λ turn. turn.row.layout) past

  same_length : (past past' : List (Turn L P O R)) → layouts_of_past past ≡ layouts_of_past past' → length past ≡ length past'
  same_length past past' same =
      sym (length-map past (λ (turn : Turn L P O R). turn.row.layout)) ∙ ap length same ∙ length-map past' (λ (turn : Turn L P O R). turn.row.layout)

  -- the entries with which the next row begins, by its histories
  first_one : (past past' : List (Turn L P O R)) (xs ys : List (Entry O R)) → length past ≡ length past' → first_of past ++ xs ≡ first_of past' ++ ys → first_of past ≡ first_of past'
  first_one [] [] xs ys long same = refl
  first_one [] (turn ∷ past') xs ys long same = absurd (omega (arith, long))
  first_one (turn ∷ past) [] xs ys long same = absurd (omega (arith, long))
  first_one (turn ∷ past) (turn' ∷ past') xs ys long same = let head : turn.done ≡ turn'.done = cc in ap (λ e. e ∷ []) head

  past_one : (past past' : List (Turn L P O R)) → layouts_of_past past ≡ layouts_of_past past' → first_of past ≡ first_of past'
      → ArePast F declared o past → ArePast F declared o past' → PastLeaves F h past → PastLeaves F h past' → past ≡ past'
  past_one [] [] layouts first is is' left left' = refl
  past_one [] (turn ∷ past') layouts first is is' left left' = absurd (cc)
  past_one (turn ∷ past) [] layouts first is is' left left' = absurd (cc)
  past_one (turn ∷ past) (turn' ∷ past') layouts first is is' left left' =
      let tail : layouts_of_past past ≡ layouts_of_past past' = cc in
      let head : turn.row.layout ≡ turn'.row.layout = cc in
      let done : turn.done ≡ turn'.done = cc in
      let long = same_length past past' tail in
      let here = left.0 0 laws.some in
      let there = left'.0 0 laws.some in
      let firsts = first_one past past' _ _ long (sym here ∙ ap (λ n. h n 0) long ∙ there) in
      let before : past ≡ past' = past_one past past' tail firsts is.1 is'.1 left.1 left'.1 in
      let row : turn.row ≡ turn'.row =
      row_one past turn.row turn'.row is.0.row (subst (λ p. IsRow F declared o p turn'.row) (sym before) is'.0.row)
      left.0 (subst (λ p. Leaves F (h (length p)) p turn'.row) (sym before) left'.0) head in
      λ i. record { row = row i; done = done i } ∷ before i

  pub chain_one : (x y : Chain L P O R) → layouts_in x ≡ layouts_in y → Fits F declared o h x → Fits F declared o h y → x ≡ y
  chain_one x y layouts fits fits' =
      let tail : layouts_of_past x.past ≡ layouts_of_past y.past = cc in
      let head : x.row.layout ≡ y.row.layout = cc in
      let long = same_length x.past y.past tail in
      let here = fits.left 0 laws.some in
      let there = fits'.left 0 laws.some in
      let firsts = first_one x.past y.past _ _ long (sym here ∙ ap (λ n. h n 0) long ∙ there) in
      let before = past_one x.past y.past tail firsts fits.past fits'.past fits.past_left fits'.past_left in
      let row : x.row ≡ y.row =
      row_one x.past x.row y.row fits.row (subst (λ p. IsRow F declared o p y.row) (sym before) fits'.row)
      fits.left (subst (λ p. Leaves F (h (length p)) p y.row) (sym before) fits'.left) head in
      λ i. record { past = before i; row = row i }

pub rows_are_one : {S L P O R : Type 0} (F : Layouts S L P O R) → AreLaws F → (declaration : L) (s : Joined L O R) (o : ℕ) (x y : Chain L P O R)
    → AreRowsOf F declaration s o x → AreRowsOf F declaration s o y → x ≡ y
rows_are_one F laws declaration s o x y is is' =
    chain_one F laws declaration o (history_in s o) x y (is.layouts ∙ sym is'.layouts) is.fits is'.fits
