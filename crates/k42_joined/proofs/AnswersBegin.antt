-- A Begin keeps the answers, and keeps what it found.
use Rattle.std.proofs.Common.{◌≡◌, ◌≢◌, ℕ, ◌+◌, ◌<◌, ◌≤◌, ◌⊎◌, ◌∙◌, Bool, true, false, ◌||◌, cond, eqb, List, [], ◌∷◌, ◌++◌, Some, None, refl, sym, ap, subst, ⊎_elim, arith, length}
use Rattle.std.proofs.lemmas.Bool.{and_parts, eqb-true, eq-eqb}
use Rattle.std.proofs.lemmas.List.{get_or-set_same, get_or-set_other}
use Rattle.std.proofs.lemmas.Option.{same_Some}
use Rattle.k42_shapes.specs.declared.shape.Shape.{Shape}
use Rattle.k42_limits.specs.declared.TheConstants.{LAST_INCARNATION}
use Rattle.k42_kinds.specs.declared.entry.Answer.{Answer}
use Rattle.k42_kinds.specs.declared.entry.Answer.TheVariants.{Swapped, Busy, Spent, Gone, Abandoned}
use Rattle.k42_kinds.specs.declared.entry.Entry.{Entry}
use Rattle.k42_kinds.specs.Legal.{IsOwn, IsNotPast, number_carried_out}
use Rattle.gen_core.specs.Events as gen
use Rattle.gen_core.specs.State.{caller_at}
use Rattle.phase_core.specs.Effects.{is_over, begun_as}
use Rattle.phase_core.specs.Event.{Begin}
use Rattle.phase_core.specs.Events.{staged}
use Rattle.phase_core.specs.Objects.{Bits, bits_of, BitsFollow}
use Rattle.phase_core.specs.Plain.{Object, Phases}
use Rattle.phase_core.specs.Sound as phases
use Rattle.phase_core.specs.Stages.{named_by, is_idle}
use Rattle.phase_core.specs.declared.caller.SwapAt.{SwapAt}
use Rattle.phase_core.specs.declared.caller.SwapAt.TheVariants.{Idle, Refused, Begun, Interposing, Interposed, Draining, Drained, Blocking, Moved, Opening, Reopening, Opened}
use Rattle.phase_core.proofs.InSound.{object_known, visitor_known, one_swap}
use Rattle.k42_stamp.specs.Layouts.{Layouts}
use Rattle.k42_stamp.specs.Orders.{In}
use Rattle.k42_joined.specs.Plain.{Kept, Joined}
use Rattle.k42_joined.specs.Answers.{is_refused, is_turned, AreTimely, IsBusyOf, IsTrueOf, IsUnderWay, IsAnswer, IsFound, AreAnswered}
use Rattle.k42_joined.specs.Event.{AtPhases}
use Rattle.k42_joined.specs.Effects.{effect}
use Rattle.k42_joined.specs.Found.{swap_number, answer_found}
use Rattle.k42_joined.specs.Locks.{AreLocked}
use Rattle.k42_joined.specs.Possible.{MayAtPhases}
use Rattle.k42_joined.specs.Refusals.{is_given_up}
use Rattle.k42_joined.specs.State.{nothing_kept, many_callers, many_objects, object, incarnation, swap_of, mine, kept_of, keep}
use Rattle.k42_joined.proofs.AnswersOwn.{MovesOn, steps, own_keeps}
use Rattle.k42_joined.proofs.AnswersStaged.{same_on, swap_here, words_same, moves_same}
use Rattle.k42_joined.proofs.AnswersSteps.{true_now}
use Rattle.k42_joined.proofs.AnswersWords.{IsSameWord, same_word, same_number, word_on}
use Rattle.k42_joined.proofs.Timely.{IsTimelyLast, timely_push}

-- what an answer tells of the word that was found
pub record IsOfWord {R : Type 0} (k : Object) (answer : Answer R) : Type 0 where
  pub over : IsTrueOf k k.incarnation answer
  pub number : (n : ℕ) → answer ≡ Busy n → n ≡ swap_number k
  pub swap : (n : ℕ) → answer ≡ Busy n → k.swap ≡ true
  pub live : (n : ℕ) → answer ≡ Busy n → (k.layout ≢ length k.shapes) × (k.incarnation ≢ LAST_INCARNATION)
  pub free : k.swap ≡ false → is_over k ≡ true

found_word : {R : Type 0} (k : Object) (answer : Answer R) → answer_found k ≡ Some answer → IsOfWord k answer
found_word k answer found = by_layout (eqb k.layout (length k.shapes)) refl (eqb k.incarnation LAST_INCARNATION) refl k.swap refl found where
  by_layout : (a : Bool) → eqb k.layout (length k.shapes) ≡ a → (b : Bool) → eqb k.incarnation LAST_INCARNATION ≡ b → (w : Bool) → k.swap ≡ w
      → cond a (Some Gone) (cond b (Some Spent) (cond w (Some (Busy (swap_number k))) None)) ≡ Some answer → IsOfWord k answer
  by_layout true e b f w g is =
      let same : Gone ≡ answer = same_Some Gone answer is in
      subst (IsOfWord k) same (record {
        over = (refl, eqb-true k.layout (length k.shapes) e);
        number = λ n busy. absurd (cc);
        swap = λ n busy. absurd (cc);
        live = λ n busy. absurd (cc);
        free = λ none. rw e refl;
      })
  by_layout false e true f w g is =
      let same : Spent ≡ answer = same_Some Spent answer is in
      let apart : k.layout ≢ length k.shapes = λ two. let bad : false ≡ true = sym e ∙ eq-eqb k.layout (length k.shapes) two in cc in
      subst (IsOfWord k) same (record {
        over = (refl, eqb-true k.incarnation LAST_INCARNATION f, apart);
        number = λ n busy. absurd (cc);
        swap = λ n busy. absurd (cc);
        live = λ n busy. absurd (cc);
        free = λ none. rw (e, f) refl;
      })
  by_layout false e false f true g is =
      let same : Busy (swap_number k) ≡ answer = same_Some (Busy (swap_number k)) answer is in
      subst (IsOfWord k) same (record {
        over = tt;
        number = λ n busy. let number : swap_number k ≡ n = cc in sym number;
        swap = λ n busy. g;
        live = λ n busy. (
          (λ two. let bad : false ≡ true = sym e ∙ eq-eqb k.layout (length k.shapes) two in cc),
          (λ last. let bad : false ≡ true = sym f ∙ eq-eqb k.incarnation LAST_INCARNATION last in cc),
        );
        free = λ none. let bad : true ≡ false = sym g ∙ none in absurd (cc);
      })
  by_layout false e false f false g is = absurd (cc)

number_up : (k : Object) → k.incarnation ≤ swap_number k
number_up k = by_complete k.complete where
  by_complete : (b : Bool) → k.incarnation ≤ cond b k.incarnation (k.incarnation + 1)
  by_complete true = omega arith
  by_complete false = omega arith

-- COMPLETE is set only behind the first incarnation
complete_after : (b : Bits) (shapes : List Shape) (layout i : ℕ) (swap : SwapAt) → BitsFollow b shapes layout i swap → b.complete ≡ true → 0 < i
complete_after b shapes layout i Idle bits is = let clear = bits.2 in absurd (cc)
complete_after b shapes layout i (Refused o) bits is = let clear = bits.0.2 in absurd (cc)
complete_after b shapes layout i (Begun o) bits is = let clear = bits.0.2 in absurd (cc)
complete_after b shapes layout i (Interposing o p) bits is = let clear = bits.0.2 in absurd (cc)
complete_after b shapes layout i (Interposed o) bits is = let clear = bits.0.2 in absurd (cc)
complete_after b shapes layout i (Draining o) bits is = let clear = bits.0.2 in absurd (cc)
complete_after b shapes layout i (Drained o) bits is = let clear = bits.0.2 in absurd (cc)
complete_after b shapes layout i (Blocking o) bits is = let clear = bits.0.2 in absurd (cc)
complete_after b shapes layout i (Moved o) bits is = let clear = bits.0.2 in absurd (cc)
complete_after b shapes layout i (Opening o p) bits is = bits.1
complete_after b shapes layout i (Reopening o p) bits is = let clear = bits.2 in absurd (cc)
complete_after b shapes layout i (Opened o) bits is = ⊎_elim (λ clear. let none = clear.2 in absurd (cc)) (λ set_is. set_is.1) bits

-- the number of a carried-out swap, by its answer
carried_low : {R : Type 0} (answer : Answer R) (n : ℕ) → ((j : ℕ) → answer ≡ Swapped j → j ≤ n) → number_carried_out answer ≤ n
carried_low (Swapped j) n low = low j refl
carried_low answer n low = omega arith

from_is_idle : (swap : SwapAt) → is_idle swap ≡ true → swap ≡ Idle
from_is_idle Idle is = refl
from_is_idle swap is = absurd (cc)

module _ {L O R : Type 0} (s : Joined L O R) (sound : phases.IsSound s.phases) (locked : AreLocked s) (answered : AreAnswered s)
    (c : ℕ) (there : c < many_callers s) (at : swap_of s c ≡ Idle) (q : ℕ) (named : q < many_objects s) where
  abbrev k : Object
  k = object s q

  abbrev own : Kept R
  own = record (kept_of s c) { begun = Some q; found = answer_found k }

  abbrev kept : List (Kept R)
  kept = keep s c own

  -- the state with these phases
  abbrev with_phases : Phases → Joined L O R
  with_phases p = record s { phases = p; kept = kept }

  kept_here : (p : Phases) → kept_of (with_phases p) c ≡ own
  kept_here p = get_or-set_same s.kept c own nothing_kept (rw locked.many.kept there)

  kept_else : (p : Phases) (d : ℕ) → d ≢ c → kept_of (with_phases p) d ≡ kept_of s d
  kept_else p d other = get_or-set_other s.kept c d own nothing_kept other

  not_moved : (o : ℕ) → swap_of s c ≡ Moved o → ⊥
  not_moved o moved = let bad : Idle ≡ Moved o = sym at ∙ moved in cc

  names_none : (o : ℕ) → named_by (swap_of s c) ≡ Some o → ⊥
  names_none o name = let bad : None ≡ Some o = sym (ap named_by at) ∙ name in cc

  some_number : 1 ≤ swap_number k
  some_number = by_complete k.complete refl where
    by_complete : (b : Bool) → k.complete ≡ b → 1 ≤ cond b k.incarnation (k.incarnation + 1)
    by_complete true is =
        let after : 0 < k.incarnation = complete_after (bits_of k) k.shapes k.layout k.incarnation _ (object_known s.phases sound q named).bits_follow.bits is in
        omega (arith, after)
    by_complete false is = omega arith

  -- the swap that was found

  refused_over : (swap : SwapAt) → BitsFollow (bits_of k) k.shapes k.layout k.incarnation swap → is_refused swap ≡ true
      → (k.layout ≡ length k.shapes) ⊎ (k.incarnation ≡ LAST_INCARNATION)
  refused_over (Refused o) bits is = bits.1
  refused_over swap bits is = absurd (cc)

  rival_found : (answer : Answer R) (n : ℕ) → IsOfWord k answer → answer ≡ Busy n → IsUnderWay s c q n
  rival_found answer n word busy =
      let found = (one_swap s.phases sound q named).swapper (word.swap n busy) in
      let d = found.0 in
      let owned = (visitor_known s.phases sound d found.1).swap_alone.owned q found.2 in
      let bits = subst (λ w. BitsFollow (bits_of k) k.shapes k.layout k.incarnation w) owned.1 (object_known s.phases sound q named).bits_follow.bits in
      record {
        rival = d;
        other = λ same. names_none q (subst (λ e. named_by (swap_of s e) ≡ Some q) same found.2);
        there = found.1;
        named = found.2;
        granted = by_test d bits (is_refused (swap_of s d)) refl;
        number = word.number n busy;
      }
    where
      by_test : (d : ℕ) → BitsFollow (bits_of k) k.shapes k.layout k.incarnation (swap_of s d) → (b : Bool) → is_refused (swap_of s d) ≡ b → b ≡ false
      by_test d bits true is =
          let live = word.live n busy in absurd (⊎_elim (λ two. live.0 two) (λ last. live.1 last) (refused_over (swap_of s d) bits is))
      by_test d bits false is = refl

  found_timely : (answer : Answer R) → IsOfWord k answer → (number : ℕ) (e : Entry O R) → answer ≡ Busy number → IsBusyOf c q number e
      → AreTimely (mine s c ++ e ∷ [])
  found_timely answer word number e busy of =
      timely_push (mine s c) e (answered c there).timely
      (record { busy = λ f m is said own. low f m own ((each f is).busy m said); abandoned = λ f m is said own. low f m own ((each f is).abandoned m said) })
      (λ n said. let same : number ≡ n = cc_number (sym of.answer ∙ said) in
      subst (IsTimelyLast (mine s c) e) same (record { incarnation = of.incarnation; earlier = λ f is own. not_past f is (own.object ∙ of.object) }))
      (λ n said. let bad : Busy number ≡ Abandoned n = sym of.answer ∙ said in absurd (cc))
    where
      each : (f : Entry O R) → In f (mine s c) → IsAnswer s c f
      each f is = (answered c there).each f is

      cc_number : {m n : ℕ} → ◌≡◌ {A = Answer R} (Busy m) (Busy n) → m ≡ n
      cc_number same = cc

      here : number ≡ swap_number k
      here = word.number number busy

      low : (f : Entry O R) (m : ℕ) → IsOwn f e → m ≤ swap_number (object s f.object) → m ≤ e.incarnation + 1
      low f m own le =
          let same : f.object ≡ q = sym own.object ∙ of.object in
          let le' : m ≤ swap_number k = subst (λ o. m ≤ swap_number (object s o)) same le in
          let before = of.incarnation in
          let number_is = here in
          omega (arith, le', before, number_is)

      not_past : (f : Entry O R) → In f (mine s c) → f.object ≡ q → IsNotPast number f
      not_past f is same =
          let known : f.incarnation ≤ incarnation s q = subst (λ o. f.incarnation ≤ incarnation s o) same (each f is).known in
          let up = number_up k in
          let number_is = here in
          record {
            incarnation = omega (arith, known, up, number_is);
            carried_out = carried_low f.answer number
                (λ j said. ⊎_elim
                (λ (reached : j ≤ incarnation s f.object).
                let reached' : j ≤ incarnation s q = subst (λ o. j ≤ incarnation s o) same reached in omega (arith, reached', up, number_is))
                (λ (ahead : (j ≡ incarnation s f.object + 1) × (swap_of s c ≡ Moved f.object)). absurd (not_moved f.object ahead.1))
                ((each f is).done j said));
          }

  -- with phases in which the words are the same
  module _ (p : Phases) (moves : MovesOn s (with_phases p) c) (words : (o : ℕ) → IsSameWord (object s o) (object (with_phases p) o))
      (begun : (o : ℕ) → named_by (swap_of (with_phases p) c) ≡ Some o → q ≡ o)
      (found : (answer : Answer R) → answer_found k ≡ Some answer → is_idle (swap_of (with_phases p) c) || is_refused (swap_of (with_phases p) c) ≡ true)
      (not_moved' : (o : ℕ) → swap_of (with_phases p) c ≡ Moved o → ⊥)
      (not_turned : (l : Object) → is_turned (swap_of (with_phases p) c) l ≡ true → ⊥)
      (not_given : (l : Object) (o : ℕ) → is_given_up (swap_of (with_phases p) c) l o ≡ true → ⊥) where
    abbrev t : Joined L O R
    t = with_phases p

    found_here : (answer : Answer R) → answer_found k ≡ Some answer → IsFound t c q answer
    found_here answer is =
        let word = found_word k answer is in
        let same = same_number k (object t q) (words q) in
        record {
          over = true_now k (object t q) answer (word_on k (object t q) (words q)) word.over;
          some = λ n busy. let number = word.number n busy in let low = some_number in omega (arith, number, low);
          busy = λ n busy. let number = word.number n busy in omega (arith, number, same);
          rival = λ n busy. (steps s t sound answered c there moves).rivals c q n (rival_found answer n word busy);
          timely = λ n e busy of. found_timely answer word n e busy of;
        }

    begin_keeps : AreAnswered t
    begin_keeps =
        own_keeps s t sound answered c there moves
        (record {
          begun = λ o name. ap (λ (x : Kept R). x.begun) (kept_here p) ∙ ap Some (begun o name);
          there = λ o is.
              let same : q ≡ o = same_Some q o (sym (ap (λ (x : Kept R). x.begun) (kept_here p)) ∙ is) in
              rw moves.objects (subst (λ r. r < many_objects s) same named);
          found = λ answer is. found answer (sym (ap (λ (x : Kept R). x.found) (kept_here p)) ∙ is);
        })
        (λ o answer is said.
        let same : q ≡ o = same_Some q o (sym (ap (λ (x : Kept R). x.begun) (kept_here p)) ∙ is) in
        subst (λ r. IsFound t c r answer) same (found_here answer (sym (ap (λ (x : Kept R). x.found) (kept_here p)) ∙ said)))
        (λ o name. record {
          handed = λ moved handed. absurd (not_moved' o moved);
          turned = λ is. absurd (not_turned (object t o) is);
          given_up = λ is abandons. absurd (not_given (object t o) o is);
        })

  -- another swap is under way

  same_moves : MovesOn s (with_phases s.phases) c
  same_moves = record {
    callers = refl;
    objects = refl;
    mines = λ d. refl;
    hands = λ o. refl;
    swaps = λ d other. refl;
    kepts = λ d other. kept_else s.phases d other;
    words = λ o. same_on (object s o);
    word_else = λ o other. same_word (object s o);
    reached = λ number e is answer ahead moved. absurd (not_moved e.object moved);
    rival = λ d o number other name granted number_is. absurd (names_none o name);
  }

  found_busy : AreAnswered (with_phases s.phases)
  found_busy =
      begin_keeps s.phases same_moves (λ o. same_word (object s o)) (λ o name. absurd (names_none o name))
      (λ answer is. ap (λ w. is_idle w || is_refused w) at) not_moved
      (λ l is. let bad : is_turned Idle l ≡ true = subst (λ w. is_turned w l ≡ true) at is in cc)
      (λ l o is. let bad : is_given_up Idle l o ≡ true = subst (λ w. is_given_up w l o ≡ true) at is in cc)

  -- none is

  module _ (free : k.swap ≡ false) where
    abbrev next : SwapAt
    next = begun_as q (is_over k)

    abbrev p : Phases
    p = staged s.phases c q next (record k { swap = true })

    p_swap : swap_of (with_phases p) c ≡ next
    p_swap = swap_here s c there q next (record k { swap = true }) kept

    p_word : IsSameWord k (record k { swap = true })
    p_word = record { shapes = refl; incarnation = refl; layout = refl; complete = refl }

    p_moves : MovesOn s (with_phases p) c
    p_moves =
        moves_same s c there q next (record k { swap = true }) kept p_word (λ d other. kept_else p d other)
        (λ number e is answer ahead moved. absurd (not_moved e.object moved))
        (λ d o number other name granted number_is. absurd (names_none o name))

    named_next : (b : Bool) (o : ℕ) → named_by (begun_as q b) ≡ Some o → q ≡ o
    named_next true o is = same_Some q o is
    named_next false o is = same_Some q o is

    moved_next : (b : Bool) (o : ℕ) → begun_as q b ≡ Moved o → ⊥
    moved_next true o is = cc
    moved_next false o is = cc

    turned_next : (b : Bool) (l : Object) → is_turned (begun_as q b) l ≡ true → ⊥
    turned_next true l is = cc
    turned_next false l is = cc

    given_next : (b : Bool) (l : Object) (o : ℕ) → is_given_up (begun_as q b) l o ≡ true → ⊥
    given_next true l o is = cc
    given_next false l o is = cc

    begun_free : AreAnswered (with_phases p)
    begun_free =
        begin_keeps p p_moves (words_same s c there q next (record k { swap = true }) kept p_word)
        (λ o name. named_next (is_over k) o (sym (ap named_by p_swap) ∙ name))
        (λ answer is.
        let over = (found_word k answer is).free free in
        ap (λ w. is_idle w || is_refused w) p_swap ∙ ap (λ b. is_idle (begun_as q b) || is_refused (begun_as q b)) over)
        (λ o moved. moved_next (is_over k) o (sym p_swap ∙ moved))
        (λ l is. turned_next (is_over k) l (subst (λ w. is_turned w l ≡ true) p_swap is))
        (λ l o is. given_next (is_over k) l o (subst (λ w. is_given_up w l o ≡ true) p_swap is))

  pub begun_answers : (b : Bool) → k.swap ≡ b
      → AreAnswered (with_phases (cond b s.phases (staged s.phases c q (begun_as q (is_over k)) (record k { swap = true }))))
  begun_answers true is = found_busy
  begun_answers false is = begun_free is

pub begin_answers : {S L P O R : Type 0} (F : Layouts S L P O R) (declared : List L) (s : Joined L O R) → phases.IsSound s.phases → AreLocked s → AreAnswered s
    → (c q : ℕ) → c < many_callers s → MayAtPhases F declared s (Begin c q) → AreAnswered (effect s (AtPhases (Begin c q)))
begin_answers F declared s sound locked answered c q there may =
    begun_answers s sound locked answered c there
    (from_is_idle (swap_of s c) (and_parts (gen.is_free (caller_at s.phases.turns c)) _ may.core).1) q may.objects (object s q).swap refl
