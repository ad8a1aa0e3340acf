-- A swap that goes to a stage, and whose object changes with it.
use Rattle.std.proofs.Common.{◌≡◌, ◌≢◌, ℕ, ◌+◌, ◌<◌, ◌∙◌, false, List, Some, length-set, refl, sym, ap, subst, inr}
use Rattle.std.proofs.lemmas.List.{get_or-set_same, get_or-set_other}
use Rattle.k42_kinds.specs.declared.entry.Answer.TheVariants.{Swapped}
use Rattle.k42_kinds.specs.declared.entry.Entry.{Entry}
use Rattle.k42_places.proofs.Written.{get_or-set_related}
use Rattle.phase_core.specs.Effects.{at_stage}
use Rattle.phase_core.specs.Events.{staged}
use Rattle.phase_core.specs.Plain.{Object}
use Rattle.phase_core.specs.Stages.{named_by}
use Rattle.phase_core.specs.State.{fresh_object, fresh_visitor, visitor_at}
use Rattle.phase_core.specs.declared.caller.SwapAt.{SwapAt}
use Rattle.phase_core.specs.declared.caller.SwapAt.TheVariants.{Moved}
use Rattle.k42_stamp.specs.Orders.{In}
use Rattle.k42_joined.specs.Plain.{Kept, Joined}
use Rattle.k42_joined.specs.Answers.{is_refused, HasRival, IsKnownNumber}
use Rattle.k42_joined.specs.Found.{swap_number}
use Rattle.k42_joined.specs.State.{many_callers, many_objects, object, incarnation, swap_of, mine, kept_of}
use Rattle.k42_joined.proofs.AnswersSteps.{WordGoesOn}
use Rattle.k42_joined.proofs.AnswersWords.{IsSameWord, same_word, word_on}
use Rattle.k42_joined.proofs.AnswersOwn.{MovesOn}

pub same_on : (k : Object) → WordGoesOn k k
same_on k = word_on k k (same_word k)

module _ {L O R : Type 0} (s : Joined L O R) (c : ℕ) (there : c < many_callers s) (q : ℕ) (next : SwapAt) (k : Object) (kept : List (Kept R)) where
  abbrev pub t : Joined L O R
  t = record s { phases = staged s.phases c q next k; kept = kept }

  pub swap_here : swap_of t c ≡ next
  swap_here = ap (λ x. x.swap) (get_or-set_same s.phases.callers c (at_stage (visitor_at s.phases c) next) fresh_visitor there)

  swap_else : (d : ℕ) → d ≢ c → swap_of t d ≡ swap_of s d
  swap_else d other = ap (λ x. x.swap) (get_or-set_other s.phases.callers c d (at_stage (visitor_at s.phases c) next) fresh_visitor other)

  pub object_here : q < many_objects s → object t q ≡ k
  object_here named = get_or-set_same s.phases.objects q k fresh_object named

  pub object_else : (o : ℕ) → o ≢ q → object t o ≡ object s o
  object_else o other = get_or-set_other s.phases.objects q o k fresh_object other

  pub many_callers_same : many_callers t ≡ many_callers s
  many_callers_same = length-set s.phases.callers c (at_stage (visitor_at s.phases c) next)

  pub many_objects_same : many_objects t ≡ many_objects s
  many_objects_same = length-set s.phases.objects q k

  -- what is asked of the step
  abbrev Reached : Type 0
  Reached =
      (number : ℕ) (e : Entry O R) → In e (mine s c) → e.answer ≡ Swapped number → number ≡ incarnation s e.object + 1
      → swap_of s c ≡ Moved e.object → IsKnownNumber t c e.object number

  abbrev Rival : Type 0
  Rival =
      (d o number : ℕ) → c ≢ d → named_by (swap_of s c) ≡ Some o → is_refused (swap_of s c) ≡ false
      → number ≡ swap_number (object s o) → HasRival t d o number

  abbrev Kepts : Type 0
  Kepts = (d : ℕ) → d ≢ c → kept_of t d ≡ kept_of s d

  pub words_same : IsSameWord (object s q) k → (o : ℕ) → IsSameWord (object s o) (object t o)
  words_same same o = get_or-set_related IsSameWord same_word s.phases.objects q o k fresh_object same

  pub moves_same : IsSameWord (object s q) k → Kepts → Reached → Rival → MovesOn s t c
  moves_same same kepts reached rival = record {
    callers = many_callers_same;
    objects = many_objects_same;
    mines = λ d. refl;
    hands = λ o. refl;
    swaps = swap_else;
    kepts = kepts;
    words = λ o. word_on (object s o) (object t o) (words_same same o);
    word_else = λ o other. words_same same o;
    reached = reached;
    rival = rival;
  }

  pub moves_changed : named_by (swap_of s c) ≡ Some q → WordGoesOn (object s q) k → Kepts → Reached → Rival → MovesOn s t c
  moves_changed named word kepts reached rival = record {
    callers = many_callers_same;
    objects = many_objects_same;
    mines = λ d. refl;
    hands = λ o. refl;
    swaps = swap_else;
    kepts = kepts;
    words = λ o. get_or-set_related WordGoesOn same_on s.phases.objects q o k fresh_object word;
    word_else = λ o other.
        subst (λ l. IsSameWord (object s o) l) (sym (object_else o (λ same. other (named ∙ ap Some (sym same))))) (same_word (object s o));
    reached = reached;
    rival = rival;
  }

  -- a swap that stays under way
  pub still_under_way : (d o number : ℕ) → c ≢ d → named_by next ≡ Some o → is_refused next ≡ false → number ≡ swap_number (object t o)
      → HasRival t d o number
  still_under_way d o number other named granted number_is = inr (record {
    rival = c;
    other = other;
    there = rw many_callers_same there;
    named = ap named_by swap_here ∙ named;
    granted = ap is_refused swap_here ∙ granted;
    number = number_is;
  })
