-- An event that moves its own caller's swap on: what every other caller has stays.
use Rattle.std.proofs.Common.{◌≡◌, ◌≢◌, ℕ, ◌+◌, ◌<◌, ◌≤◌, ◌∙◌, Bool, false, ◌||◌, Some, sym, ap, subst, inl, inr, ⊎_elim, arith}
use Rattle.std.proofs.lemmas.Bool.{cases_eq}
use Rattle.k42_kinds.specs.declared.entry.Answer.{Answer}
use Rattle.k42_kinds.specs.declared.entry.Answer.TheVariants.{Swapped}
use Rattle.k42_kinds.specs.declared.entry.Entry.{Entry}
use Rattle.phase_core.specs.Sound as phases
use Rattle.phase_core.specs.Stages.{named_by, is_idle}
use Rattle.phase_core.specs.declared.caller.SwapAt.{SwapAt}
use Rattle.phase_core.specs.declared.caller.SwapAt.TheVariants.{Moved}
use Rattle.phase_core.proofs.InSound.{one_swap}
use Rattle.k42_stamp.specs.Orders.{In}
use Rattle.k42_joined.specs.Plain.{Kept, Joined}
use Rattle.k42_joined.specs.Answers.{is_refused, IsKept, IsUnderWay, HasRival, IsKnownNumber, IsFound, HasDrawn, AreAnswered}
use Rattle.k42_joined.specs.Found.{swap_number}
use Rattle.k42_joined.specs.State.{many_callers, many_objects, object, incarnation, swap_of, mine, kept_of, many_hands}
use Rattle.k42_joined.proofs.AnswersSteps.{WordGoesOn, StepsOn, answered_on, found_on, answered_after}
use Rattle.k42_joined.proofs.AnswersWords.{IsSameWord, same_number, IsAlike, alike}
use Rattle.k42_joined.proofs.AnswersQuiet.{under_way_on, reached_on, drawn_alike}

-- what the step leaves, and what becomes of its own caller's swap
pub record MovesOn {L O R : Type 0} (s t : Joined L O R) (c : ℕ) : Type 0 where
  pub callers : many_callers t ≡ many_callers s
  pub objects : many_objects t ≡ many_objects s
  pub mines : (d : ℕ) → mine t d ≡ mine s d
  pub hands : (o : ℕ) → many_hands t o ≡ many_hands s o
  pub swaps : (d : ℕ) → d ≢ c → swap_of t d ≡ swap_of s d
  pub kepts : (d : ℕ) → d ≢ c → kept_of t d ≡ kept_of s d
  pub words : (o : ℕ) → WordGoesOn (object s o) (object t o)
  pub word_else : (o : ℕ) → (named_by (swap_of s c) ≡ Some o → ⊥) → IsSameWord (object s o) (object t o)
  pub reached :
      (number : ℕ) (e : Entry O R) → In e (mine s c) → e.answer ≡ Swapped number → number ≡ incarnation s e.object + 1
      → swap_of s c ≡ Moved e.object → IsKnownNumber t c e.object number
  pub rival :
      (d o number : ℕ) → c ≢ d → named_by (swap_of s c) ≡ Some o → is_refused (swap_of s c) ≡ false
      → number ≡ swap_number (object s o) → HasRival t d o number

module _ {L O R : Type 0} (s t : Joined L O R) (sound : phases.IsSound s.phases) (answered : AreAnswered s) (c : ℕ) (there : c < many_callers s)
    (moves : MovesOn s t c) where
  -- the object of another caller's swap is not that of this one
  other_named : (d o : ℕ) → d < many_callers s → d ≢ c → named_by (swap_of s d) ≡ Some o → named_by (swap_of s c) ≡ Some o → ⊥
  other_named d o within other named own =
      let inside = (answered d within).kept.there o ((answered d within).kept.begun o named) in
      other ((one_swap s.phases sound o inside).one d c within there named own)

  named_moved : (swap : SwapAt) (o : ℕ) → swap ≡ Moved o → named_by swap ≡ Some o
  named_moved swap o is = ap named_by is

  reached_all : (d number : ℕ) (e : Entry O R) → d < many_callers s → In e (mine s d) → e.answer ≡ Swapped number
      → IsKnownNumber s d e.object number → IsKnownNumber t d e.object number
  reached_all d number e within is answer reached =
      ⊎_elim {C = IsKnownNumber t d e.object number}
      (λ (low : number ≤ incarnation s e.object). let rises = (moves.words e.object).incarnation in inl (omega (arith, low, rises)))
      (λ (ahead : (number ≡ incarnation s e.object + 1) × (swap_of s d ≡ Moved e.object)).
      ⊎_elim {C = IsKnownNumber t d e.object number}
      (λ (same : d ≡ c).
      subst (λ f. IsKnownNumber t f e.object number) (sym same)
      (moves.reached number e (subst (λ f. In e (mine s f)) same is) answer ahead.0 (subst (λ f. swap_of s f ≡ Moved e.object) same ahead.1)))
      (λ (other : d ≢ c).
      let word = moves.word_else e.object (other_named d e.object within other (named_moved (swap_of s d) e.object ahead.1)) in
      reached_on s t d e.object number word.incarnation (λ moved. moves.swaps d other ∙ moved) reached)
      (cases_eq d c))
      reached

  rivals_all : (d o number : ℕ) → IsUnderWay s d o number → HasRival t d o number
  rivals_all d o number is =
      ⊎_elim {C = HasRival t d o number}
      (λ (same : is.rival ≡ c).
      moves.rival d o number (λ own. is.other (same ∙ own)) (subst (λ f. named_by (swap_of s f) ≡ Some o) same is.named)
      (subst (λ f. is_refused (swap_of s f) ≡ false) same is.granted) is.number)
      (λ (other : is.rival ≢ c).
      let word = moves.word_else o (other_named is.rival o is.there other is.named) in
      inr (under_way_on s t d o number moves.callers is (ap named_by (moves.swaps is.rival other)) (ap is_refused (moves.swaps is.rival other))
      (same_number (object s o) (object t o) word)))
      (cases_eq is.rival c)

  pub steps : StepsOn s t
  steps = record {
    callers = moves.callers;
    objects = moves.objects;
    mines = moves.mines;
    words = moves.words;
    reached = reached_all;
    rivals = rivals_all;
  }

  alike_else : (d : ℕ) → d ≢ c → IsAlike (swap_of s d) (swap_of t d)
  alike_else d other = subst (λ swap. IsAlike (swap_of s d) swap) (sym (moves.swaps d other)) (alike (swap_of s d))

  kept_else : (d : ℕ) → d < many_callers s → d ≢ c → IsKept t d
  kept_else d within other =
      let old = (answered d within).kept in
      let same = moves.kepts d other in
      record {
        begun = λ o named. ap (λ (k : Kept R). k.begun) same ∙ old.begun o (sym (ap named_by (moves.swaps d other)) ∙ named);
        there = λ o begun. rw moves.objects (old.there o (sym (ap (λ (k : Kept R). k.begun) same) ∙ begun));
        found = λ answer is. ap idle_or (moves.swaps d other) ∙ old.found answer (sym (ap (λ (k : Kept R). k.found) same) ∙ is);
      }
    where
      idle_or : SwapAt → Bool
      idle_or swap = is_idle swap || is_refused swap

  drawn_else : (d o : ℕ) → d < many_callers s → d ≢ c → named_by (swap_of t d) ≡ Some o → HasDrawn t d o
  drawn_else d o within other named =
      let before : named_by (swap_of s d) ≡ Some o = sym (ap named_by (moves.swaps d other)) ∙ named in
      let word = moves.word_else o (other_named d o within other before) in
      drawn_alike s t d o (alike_else d other) (moves.kepts d other) word (moves.hands o) (λ told. answered_on s t steps d o told)
      ((answered d within).drawn o before)

  -- with what is shown of the own caller
  pub own_keeps : IsKept t c
      → ((o : ℕ) (answer : Answer R) → (kept_of t c).begun ≡ Some o → (kept_of t c).found ≡ Some answer → IsFound t c o answer)
      → ((o : ℕ) → named_by (swap_of t c) ≡ Some o → HasDrawn t c o) → AreAnswered t
  own_keeps kept found drawn =
      answered_after s t steps answered
      (λ d within. ⊎_elim (λ (same : d ≡ c). subst (IsKept t) (sym same) kept) (λ other. kept_else d within other) (cases_eq d c))
      (λ d o answer within begun is. ⊎_elim {C = IsFound t d o answer}
      (λ (same : d ≡ c). subst (λ f. IsFound t f o answer) (sym same)
      (found o answer (subst (λ f. (kept_of t f).begun ≡ Some o) same begun) (subst (λ f. (kept_of t f).found ≡ Some answer) same is)))
      (λ other. found_on s t steps d o answer
      ((answered d within).found o answer (sym (ap (λ (k : Kept R). k.begun) (moves.kepts d other)) ∙ begun) (sym (ap (λ (k : Kept R). k.found) (moves.kepts d other)) ∙ is)))
      (cases_eq d c))
      (λ d o within named. ⊎_elim {C = HasDrawn t d o}
      (λ (same : d ≡ c). subst (λ f. HasDrawn t f o) (sym same) (drawn o (subst (λ f. named_by (swap_of t f) ≡ Some o) same named)))
      (λ other. drawn_else d o within other named)
      (cases_eq d c))
