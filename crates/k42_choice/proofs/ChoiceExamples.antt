-- A mortal tally and the numbers of two lists of layouts, computed; and what they are not.
use Rattle.std.specs.Prelude.{ℕ, true, false}
use Rattle.std.proofs.Common.{◌≡◌, ◌+◌, [], ◌∷◌, refl, arith}
use Rattle.k42_shapes.specs.declared.shape.Shape.TheVariants.{One, Each, Groups}
use Rattle.k42_kinds.specs.declared.entry.To.TheVariants as tos
use Rattle.k42_kinds.specs.OneThread.{OneThread}
use Rattle.k42_choice.specs.Choices.{choice_tag}
use Rattle.k42_choice.specs.Mortals.{mortal_object, mortal_tag, LeadsMortal}
use Rattle.k42_choice.specs.declared.mortal.MortalState.{MortalState}
use Rattle.k42_choice.specs.declared.mortal.MortalState.TheVariants.{Alive, Dead}

-- an operation is what it adds, and the reply is the sum before it
abbrev pub tally : OneThread ℕ ℕ ℕ
tally = record {
  start = 0;
  takes = λ op. true;
  after = λ sum op. sum + op;
  reply = λ sum op. sum;
  swapped = λ sum to. sum;
  is_ended = λ sum. false;
}

-- dead it replies 99
abbrev pub mortal : OneThread (MortalState ℕ) ℕ ℕ
mortal = mortal_object 99 tally

pub alive_it_adds : mortal.after (Alive 3) 4 ≡ Alive 7
alive_it_adds = refl

pub alive_it_replies_the_sum : mortal.reply (Alive 3) 4 ≡ 3
alive_it_replies_the_sum = refl

pub a_destroy_ends_it : mortal.swapped (Alive 3) tos.Dead ≡ Dead
a_destroy_ends_it = refl

pub another_layout_keeps_the_sum : mortal.swapped (Alive 3) (tos.Layout 1) ≡ Alive 3
another_layout_keeps_the_sum = refl

pub dead_it_replies_so : mortal.reply Dead 4 ≡ 99
dead_it_replies_so = refl

pub dead_it_stays : mortal.after Dead 4 ≡ Dead
dead_it_stays = refl

pub only_then_is_it_ended : mortal.is_ended (Alive 3) ≡ true → ⊥
only_then_is_it_ended ended = absurd (cc ended)

pub a_destroy_keeps_no_sum : mortal.swapped (Alive 3) tos.Dead ≡ Alive 3 → ⊥
a_destroy_keeps_no_sum kept = absurd (cc kept)

-- two layouts stand before the second's
pub the_second_begins_behind : choice_tag true (One ∷ Each ∷ []) 0 1 ≡ 3
the_second_begins_behind = refl

pub the_first_keeps_its_numbers : choice_tag false (One ∷ Each ∷ []) 1 0 ≡ 1
the_first_keeps_its_numbers = refl

pub the_second_begins_at_0 : choice_tag true (One ∷ Each ∷ []) 0 0 ≡ 0 → ⊥
the_second_begins_at_0 same = absurd (cc same)

pub the_dead_one_is_the_last : mortal_tag true (One ∷ Each ∷ Groups 2 ∷ []) 1 ≡ 3
the_dead_one_is_the_last = refl

pub a_swap_leads_to_the_last_layout : LeadsMortal (One ∷ Each ∷ []) (tos.Layout 1)
a_swap_leads_to_the_last_layout = omega arith

pub a_swap_leads_past_the_last : LeadsMortal (One ∷ Each ∷ []) (tos.Layout 2) → ⊥
a_swap_leads_past_the_last leads = absurd (omega (arith, leads))

pub a_swap_leads_to_a_watch : LeadsMortal (One ∷ Each ∷ []) tos.Watch → ⊥
a_swap_leads_to_a_watch leads = leads
