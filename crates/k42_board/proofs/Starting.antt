-- The words and slots of a start, one more at a time.
use Rattle.std.proofs.Common.{◌≡◌, ◌≢◌, ℕ, ◌+◌, ◌*◌, ◌^◌, ◌<◌, false, List, [], ◌∷◌, ◌++◌, Some, None, length, get_or, set, replicate, sym, refl, ap, ◌∙◌, subst, ⊎_elim, arith, drop, length-append, length-set, get_or-set_same, get_or-set_other}
use Rattle.std.specs.List.{slice_get, slice_index}
use Rattle.std.proofs.lemmas.Bool.{cases_eq}
use Rattle.std.proofs.lemmas.List.{length-replicate}
use Rattle.std.proofs.lemmas.Option.{same_Some, slice_get_within, slice_get-get_or}
use Rattle.k42_shapes.specs.declared.shape.Shape.{Shape}
use Rattle.k42_places.specs.Places.{EachPlace}
use Rattle.atomic_table.specs.Seated.{TableId}
use Rattle.k42_places.proofs.Appended.{at_push}
use Rattle.k42_places.proofs.Rests.{drop_at}
use Rattle.k42_board.specs.Cells.{Slot, IsCell}
use Rattle.k42_board.specs.Dealing.{dealer}
use Rattle.k42_board.specs.Seen.{QueueId, SysSeen, PassSeen, Keeping, IsPassOf}
use Rattle.k42_board.specs.Steps.{Seated}
use Rattle.k42_board.specs.Starting.{AreFirstWords, AreFirstSlots, IsNewPass, AreDealt, IsStarted, IsDealing, number_in}
use Rattle.k42_board.specs.Views.{new_passes}
use Rattle.k42_board.specs.Words.{object_word}
use Rattle.k42_board.specs.declared.view.PassView.{PassView}
use Rattle.k42_board.specs.declared.keep.Keep.{Keep}
use Rattle.k42_board.specs.declared.view.View.{View}
use Rattle.k42_board.specs.declared.view.View.TheVariants.{Crew}
use Rattle.k42_board.specs.declared.cell.Content.{Content}
use Rattle.k42_board.proofs.FirstParts.{same_everywhere}

pub slice_get_here : {A : Type 0} (xs : List A) (i : ℕ) (a : A) → i < length xs → a ≡ get_or xs i a → slice_get xs i ≡ Some a
slice_get_here xs i a lt is = slice_get-get_or xs i a lt ∙ ap Some (sym is)

pub words_blank : {L : Type 0} (tag_of : L → ℕ) (layouts : List L) → AreFirstWords tag_of layouts 0 (replicate 1056 0)
words_blank tag_of layouts = record {
  many = refl;
  told = λ o layout lt. absurd (omega arith);
  blank = λ i apart. same_everywhere 1056 i 0;
}

pub words_more : {L : Type 0} (tag_of : L → ℕ) (layouts : List L) (o : ℕ) (layout : L) (words : List ℕ) (i new : ℕ) → o < 16 → slice_get layouts o ≡ Some layout
    → i ≡ object_word o → new ≡ 2 ^ 28 * tag_of layout → AreFirstWords tag_of layouts o words → AreFirstWords tag_of layouts (o + 1) (set words i new)
words_more {L} tag_of layouts o layout words i new small here place is first = record {
  many = length-set words i new ∙ first.many;
  told = λ q other lt e.
      ⊎_elim
      (λ (same : q ≡ o).
      let wide = first.many in
      let lay : layout ≡ other = same_Some layout other (sym here ∙ ap (slice_get layouts) (sym same) ∙ e) in
      ap (slice_index (set words i new)) (omega (arith, place, same)) ∙ get_or-set_same words i new 0 (omega (arith, wide, place, small)) ∙ is ∙ ap (λ l. 2 ^ 28 * tag_of l) lay)
      (λ (not : q ≢ o).
      get_or-set_other words i (object_word q) new 0 (λ h. not (omega (arith, h, place)))
      ∙ first.told q other (omega (arith, lt, not)) e)
      (cases_eq q o);
  blank = λ j apart.
      get_or-set_other words i j new 0 (λ h. apart o (omega arith) (omega (arith, h, place)))
      ∙ first.blank j (λ q lt. apart q (omega (arith, lt)));
}

pub slots_more : {P O R : Type 0} (slots : List (Slot P O R)) (n : ℕ) (c : Content P O R) → length slots ≡ n → IsCell (number_in n) [] false None c
    → AreFirstSlots slots → AreFirstSlots (slots ++ Some c ∷ [])
slots_more {P} slots n c many is first place slot e =
    ⊎_elim
    (λ old. first place slot old.1)
    (λ new. (c, sym new.1, subst (λ m. IsCell m [] false None c) (ap number_in (sym (new.0 ∙ many))) is))
    (at_push slots (Some c) place slot e)

pub dealer_next : {P O R : Type 0} (procs : ℕ) (shapes : List (List Shape)) (n : ℕ) (homes : List ℕ) → n < length homes
    → dealer (Crew (new_passes {P = P} {O = O} {R = R} procs shapes n (drop n homes))) ≡ Crew (new_passes procs shapes (n + 1) (drop (n + 1) homes))
dealer_next {P} {O} {R} procs shapes n homes lt =
    ap (λ (l : List ℕ). dealer (Crew (new_passes {P = P} {O = O} {R = R} procs shapes n l))) (drop_at homes n (get_or homes n 0) (slice_get-get_or homes n 0 lt))

pub deals_more : {P O R : Type 0} (table : TableId) (queue : QueueId) (keep : Keep) (procs : ℕ) (shapes : List (List Shape)) (homes : List ℕ) (n : ℕ) (seat seat' : TableId) (me me' : Seated P O R) (passes : List (PassSeen P O R)) (pass : PassSeen P O R)
    → n < length homes → seat' ≡ seat → me' ≡ (dealer me.0, []) → IsNewPass table queue keep procs shapes n (slice_index homes n) pass
    → IsDealing table queue keep procs shapes homes n seat me passes → IsDealing table queue keep procs shapes homes (n + 1) seat' me' (passes ++ pass ∷ [])
deals_more {P} {O} {R} table queue keep procs shapes homes n seat seat' me me' passes pass lt same moved new h = record {
  ours = same ∙ h.ours;
  crew = moved ∙ ap (λ (m : Seated P O R). (dealer m.0, [])) h.crew ∙ ap (λ (w : View P O R). (w, [])) (dealer_next procs shapes n homes lt);
  many = length-append passes (pass ∷ []) ∙ (let many = h.many in omega (arith, many));
  each = λ c p e.
      ⊎_elim
      (λ old. h.each c p old.1)
      (λ last. subst (λ (z : ℕ × PassSeen P O R). IsNewPass table queue keep procs shapes z.0 (slice_index homes z.0) z.1) (λ i. (sym (last.0 ∙ h.many) i, last.1 i)) new)
      (at_push passes pass c p e);
}

-- a new pass is one of its system
pub is_of_system : {L P O R : Type 0} (sys : SysSeen L) (number home : ℕ) (pass : PassSeen P O R) → home < sys.procs → length sys.shapes ≡ length sys.layouts
    → IsNewPass sys.table sys.queue sys.keep sys.procs sys.shapes number home pass → IsPassOf sys pass
is_of_system {L} {P} {O} {R} sys number home pass there shaped is = record {
  table = is.ours;
  queue = is.posted;
  keep = ap (λ (k : Keeping). k.what) is.keeps;
  proc = rw is.new there;
  waits = ap (λ (v : PassView P O R). length v.turn.waits) is.new ∙ length-replicate sys.procs 0;
  objects = ap (λ (v : PassView P O R). length v.visitor.noted) is.new ∙ length-replicate (length sys.shapes) None ∙ shaped;
  shapes = ap (λ (v : PassView P O R). v.shapes) is.new;
  spans = ap (λ (v : PassView P O R). length v.visitor.freeing) is.new ∙ length-replicate (length sys.shapes) (0, 0) ∙ shaped;
}

pub is_started : {L P O R : Type 0} (layouts : List L) (procs : ℕ) (callers : List ℕ) (sys : SysSeen L) (passes : List (PassSeen P O R))
    → sys.procs ≡ procs → sys.layouts ≡ layouts → length sys.shapes ≡ length layouts → sys.callers ≡ callers → EachPlace (λ c p. p < procs) callers
    → AreDealt sys.table sys.queue sys.keep procs sys.shapes callers passes → IsStarted layouts procs callers sys passes
is_started layouts procs callers sys passes procs_are layouts_are shaped callers_are placed dealt = record {
  procs_are = procs_are;
  layouts_are = layouts_are;
  shaped = shaped;
  callers_are = callers_are;
  dealt = dealt;
  passes_are = λ c pass e.
      let there : c < length callers = let lt = slice_get_within passes c pass e in let many = dealt.many in omega (arith, lt, many) in
      is_of_system sys c (slice_index callers c) pass (rw procs_are (placed c (slice_index callers c) (slice_get-get_or callers c 0 there)))
      (shaped ∙ sym (ap length layouts_are))
      (rw procs_are (dealt.each c pass e));
}
