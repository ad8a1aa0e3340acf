-- What version 2 tells besides, the first line and the last line: what is read is spelled so, and what is spelled so is read.
use Rattle.std.proofs.Common.{◌≡◌, ℕ, zero, suc, ◌^◌, ◌<◌, ◌≤◌, false, List, [], ◌∷◌, ◌++◌, refl, ap, subst, ◌∙◌, eqb, arith, inl, inr}
use Rattle.std.specs.Prelude.{Option, Some, None, IfSome, MatchOption, codes}
use Rattle.std.specs.Fmt.{decimal}
use Rattle.std.proofs.lemmas.Bool.Decides.{nat_tests}
use Rattle.std.proofs.lemmas.Option.{same_Some}
use Rattle.k42_kinds.specs.declared.operation.Op.{Op}
use Rattle.k42_kinds.specs.declared.entry.Act.{Act}
use Rattle.k42_kinds.specs.declared.entry.Act.TheVariants.{Call, Swap}
use Rattle.record_text.specs.Texts.{generation_token, extra_tokens, first_tokens, last_tokens}
use Rattle.record_text.specs.Spelling.{HasGeneration, IsVersion}
use Rattle.record_text.specs.Values.{FitsExtra}
use Rattle.record_text.specs.Reader.Parts.{Found, ◌>>=◌, behind_word, number_at, marked_at, at_end, most_64}
use Rattle.record_text.specs.Reader.LineParts.{version_on, count_on, some_generation, no_generation, generation_at, told_at, extra_at}
use Rattle.record_text.specs.declared.record.Extra.{Extra}
use Rattle.record_text.proofs.Reader.Parts.{step, chosen, pair_is, word_passes, word_again, number_takes, number_again, marked_takes, marked_again, end_is}

-- the generation of an act
record TakesGeneration (act : Act Op) (tokens : List (List ℕ)) (generation : Option ℕ) (rest : List (List ℕ)) : Type 0 where
  spelled : tokens ≡ generation_token generation ∷ rest
  has : HasGeneration act generation
  small : IfSome generation (λ (g : ℕ). g < 2 ^ 32)

some_takes : (act : Act Op) (tokens : List (List ℕ)) (generation : Option ℕ) (rest : List (List ℕ)) → ((g : ℕ) → HasGeneration act (Some g)) → some_generation tokens ≡ Some (generation, rest) → TakesGeneration act tokens generation rest
unfolding some_generation
some_takes act tokens generation rest has e =
    let first = step (marked_at 103 tokens) (λ (g : ℕ × List (List ℕ)). Some (Some g.0, g.1)) (generation, rest) e in
    let mark = marked_takes 103 tokens first.0.0 first.0.1 first.1 in
    let same = pair_is (Some first.0.0) generation first.0.1 rest first.2 in
    let spelled : tokens ≡ (103 ∷ decimal first.0.0) ∷ rest = mark.0 ∙ ap (λ (left : List (List ℕ)). (103 ∷ decimal first.0.0) ∷ left) same.1 in
    subst (λ (g : Option ℕ). TakesGeneration act tokens g rest) same.0 (record { spelled = spelled; has = has first.0.0; small = mark.1 })

nothing_told : List (List ℕ) → Found (Option ℕ)
nothing_told left = Some (None, left)

none_takes : (act : Act Op) (tokens : List (List ℕ)) (generation : Option ℕ) (rest : List (List ℕ)) → HasGeneration act None → no_generation tokens ≡ Some (generation, rest) → TakesGeneration act tokens generation rest
unfolding no_generation nothing_told
none_takes act tokens generation rest has e =
    let first = step (behind_word (codes "g-") tokens) (λ (left : List (List ℕ)). nothing_told left) (generation, rest) e in
    let word = word_passes (codes "g-") tokens first.0 first.1 in
    let same = pair_is None generation first.0 rest first.2 in
    let spelled : tokens ≡ codes "g-" ∷ rest = word ∙ ap (λ (left : List (List ℕ)). codes "g-" ∷ left) same.1 in
    subst (λ (g : Option ℕ). TakesGeneration act tokens g rest) same.0 (record { spelled = spelled; has = has; small = tt })

generation_takes : (act : Act Op) (tokens : List (List ℕ)) (generation : Option ℕ) (rest : List (List ℕ)) → generation_at act tokens ≡ Some (generation, rest) → TakesGeneration act tokens generation rest
generation_takes (Call op) tokens generation rest e = some_takes (Call op) tokens generation rest (λ g. refl) e
generation_takes (Swap to) tokens generation rest e = none_takes (Swap to) tokens generation rest refl e

-- what version 2 tells
record TakesTold (act : Act Op) (tokens : List (List ℕ)) (extra : Option Extra) (rest : List (List ℕ)) : Type 0 where
  told : Extra
  is : Some told ≡ extra
  spelled : tokens ≡ (112 ∷ decimal told.proc) ∷ generation_token told.generation ∷ rest
  has : HasGeneration act told.generation
  fits : FitsExtra told

told_of : ℕ → Option ℕ → Extra
told_of proc generation = record { proc = proc; generation = generation }

told_takes : (act : Act Op) (tokens : List (List ℕ)) (extra : Option Extra) (rest : List (List ℕ)) → told_at act tokens ≡ Some (extra, rest) → TakesTold act tokens extra rest
unfolding told_at told_of
told_takes act tokens extra rest e =
    let first = step (marked_at 112 tokens) (λ (proc : ℕ × List (List ℕ)). generation_at act proc.1 >>= (λ (generation : Option ℕ × List (List ℕ)). Some (Some (told_of proc.0 generation.0), generation.1))) (extra, rest) e in
    let proc = marked_takes 112 tokens first.0.0 first.0.1 first.1 in
    let second = step (generation_at act first.0.1) (λ (generation : Option ℕ × List (List ℕ)). Some (Some (told_of first.0.0 generation.0), generation.1)) (extra, rest) first.2 in
    let generation = generation_takes act first.0.1 second.0.0 second.0.1 second.1 in
    let same = pair_is (Some (told_of first.0.0 second.0.0)) extra second.0.1 rest second.2 in
    record {
      told = told_of first.0.0 second.0.0;
      is = same.0;
      spelled = proc.0 ∙ ap (λ (left : List (List ℕ)). (112 ∷ decimal first.0.0) ∷ left) (generation.spelled ∙ ap (λ (left : List (List ℕ)). generation_token second.0.0 ∷ left) same.1);
      has = generation.has;
      fits = record { proc = proc.1; generation = generation.small };
    }

-- what a version tells besides
pub record TakesExtra (version : ℕ) (act : Act Op) (tokens : List (List ℕ)) (extra : Option Extra) (rest : List (List ℕ)) : Type 0 where
  pub spelled : tokens ≡ extra_tokens extra ++ rest
  pub told : MatchOption extra (version ≡ 1) (λ x. (version ≡ 2) × HasGeneration act x.generation)
  pub fits : IfSome extra FitsExtra

in_version_2 : (version : ℕ) (act : Act Op) (tokens : List (List ℕ)) (extra : Option Extra) (rest : List (List ℕ)) → version ≡ 2 → told_at act tokens ≡ Some (extra, rest) → TakesExtra version act tokens extra rest
in_version_2 version act tokens extra rest two e =
    let told = told_takes act tokens extra rest e in
    subst (λ (x : Option Extra). TakesExtra version act tokens x rest) told.is (record { spelled = told.spelled; told = (two, told.has); fits = told.fits })

in_version_1 : (version : ℕ) (act : Act Op) (tokens : List (List ℕ)) (extra : Option Extra) (rest : List (List ℕ)) → version ≡ 1 → ◌≡◌ {A = Found (Option Extra)} (Some (None, tokens)) (Some (extra, rest)) → TakesExtra version act tokens extra rest
in_version_1 version act tokens extra rest one e =
    let same = pair_is None extra tokens rest e in
    subst (λ (x : Option Extra). TakesExtra version act tokens x rest) same.0 (record { spelled = same.1; told = one; fits = tt })

other_version : (version : ℕ) → IsVersion version → eqb version 2 ≡ false → version ≡ 1
other_version version (inl one) not_two = one
other_version version (inr two) not_two = grind (arith, nat_tests, two, not_two)

pub extra_takes : (version : ℕ) (act : Act Op) (tokens : List (List ℕ)) (extra : Option Extra) (rest : List (List ℕ)) → IsVersion version → extra_at version act tokens ≡ Some (extra, rest) → TakesExtra version act tokens extra rest
extra_takes version act tokens extra rest is e =
    elim (chosen (eqb version 2) (told_at act tokens) (Some (None, tokens)) (Some (extra, rest)) e) [
      | inl two ↦ in_version_2 version act tokens extra rest (grind (arith, nat_tests, two.0)) two.1
      | inr one ↦ in_version_1 version act tokens extra rest (other_version version is one.0) one.1
    ]

-- ---- what is spelled is read

some_again : (g : ℕ) (rest : List (List ℕ)) → g < 2 ^ 32 → some_generation (generation_token (Some g) ∷ rest) ≡ Some (Some g, rest)
unfolding some_generation
some_again g rest small = rw (marked_again 103 g rest small) refl

none_again : (rest : List (List ℕ)) → no_generation (generation_token None ∷ rest) ≡ Some (None, rest)
unfolding no_generation
none_again rest = rw (word_again (codes "g-") rest) refl

generation_again : (act : Act Op) (generation : Option ℕ) (rest : List (List ℕ)) → HasGeneration act generation → IfSome generation (λ (g : ℕ). g < 2 ^ 32) → generation_at act (generation_token generation ∷ rest) ≡ Some (generation, rest)
generation_again (Call op) None rest has small = absurd cc
generation_again (Call op) (Some g) rest has small = some_again g rest small
generation_again (Swap to) None rest has small = none_again rest
generation_again (Swap to) (Some g) rest has small = absurd cc

told_again : (act : Act Op) (told : Extra) (rest : List (List ℕ)) → HasGeneration act told.generation → FitsExtra told → told_at act (extra_tokens (Some told) ++ rest) ≡ Some (Some told, rest)
unfolding told_at
told_again act told rest has fits =
    rw (marked_again 112 told.proc (generation_token told.generation ∷ rest) fits.proc, generation_again act told.generation rest has fits.generation) refl

pub extra_again : (version : ℕ) (act : Act Op) (extra : Option Extra) (rest : List (List ℕ)) → MatchOption extra (version ≡ 1) (λ x. (version ≡ 2) × HasGeneration act x.generation) → IfSome extra FitsExtra → extra_at version act (extra_tokens extra ++ rest) ≡ Some (extra, rest)
extra_again version act None rest one fits = rw one refl
extra_again version act (Some told) rest is fits = rw is.0 (told_again act told rest is.1 fits)

-- ---- the first line and the last

-- a number behind which no token is left
ended : ℕ × List (List ℕ) → Option ℕ
ended number = at_end number.1 >>= (λ (done : Unit {0}). Some number.0)

ended_takes : (number : ℕ × List (List ℕ)) (value : ℕ) → ended number ≡ Some value → (number.0 ≡ value) × (number.1 ≡ [])
unfolding ended
ended_takes number value e =
    let first = step (at_end number.1) (λ (done : Unit {0}). Some number.0) value e in
    (same_Some number.0 value first.2, end_is number.1 first.0 first.1)

one_or_two : (n : ℕ) → 1 ≤ n → n ≤ 2 → IsVersion n
one_or_two zero above below = absurd (omega (arith, above))
one_or_two (suc zero) above below = inl refl
one_or_two (suc (suc zero)) above below = inr refl
one_or_two (suc (suc (suc n))) above below = absurd (omega (arith, below))

pub version_takes : (tokens : List (List ℕ)) (version : ℕ) → version_on tokens ≡ Some version → (tokens ≡ first_tokens version) × IsVersion version
unfolding version_on ended
version_takes tokens version e =
    let first = step (behind_word (codes "k42") tokens) (λ (left : List (List ℕ)). behind_word (codes "record") left >>= (λ (left : List (List ℕ)). number_at 1 2 left >>= ended)) version e in
    let second = step (behind_word (codes "record") first.0) (λ (left : List (List ℕ)). number_at 1 2 left >>= ended) version first.2 in
    let third = step (number_at 1 2 second.0) ended version second.2 in
    let number = number_takes 1 2 second.0 third.0.0 third.0.1 (omega arith) third.1 in
    let end = ended_takes third.0 version third.2 in (
      word_passes (codes "k42") tokens first.0 first.1
          ∙ ap (λ (left : List (List ℕ)). codes "k42" ∷ left) (word_passes (codes "record") first.0 second.0 second.1
          ∙ ap (λ (left : List (List ℕ)). codes "record" ∷ left) (number.spelled ∙ ap (λ (n : ℕ). decimal n ∷ third.0.1) end.0 ∙ ap (λ (left : List (List ℕ)). decimal version ∷ left) end.1)),
      one_or_two version (omega (arith, end.0, number.above)) (omega (arith, end.0, number.below)),
    )

pub version_again : (version : ℕ) → 1 ≤ version → version ≤ 2 → version_on (first_tokens version) ≡ Some version
unfolding version_on
version_again version above below =
    rw (word_again (codes "k42") (codes "record" ∷ decimal version ∷ []), word_again (codes "record") (decimal version ∷ []), number_again 1 2 version [] (omega arith) above below) refl

pub count_takes : (tokens : List (List ℕ)) (count : ℕ) → count_on tokens ≡ Some count → (tokens ≡ last_tokens count) × (count < 2 ^ 64)
unfolding count_on ended
count_takes tokens count e =
    let first = step (behind_word (codes "end") tokens) (λ (left : List (List ℕ)). number_at 0 most_64 left >>= ended) count e in
    let second = step (number_at 0 most_64 first.0) ended count first.2 in
    let number = number_takes 0 most_64 first.0 second.0.0 second.0.1 (omega arith) second.1 in
    let end = ended_takes second.0 count second.2 in (
      word_passes (codes "end") tokens first.0 first.1
          ∙ ap (λ (left : List (List ℕ)). codes "end" ∷ left) (number.spelled ∙ ap (λ (n : ℕ). decimal n ∷ second.0.1) end.0 ∙ ap (λ (left : List (List ℕ)). decimal count ∷ left) end.1),
      omega (arith, number.below, end.0),
    )

pub count_again : (count : ℕ) → count < 2 ^ 64 → count_on (last_tokens count) ≡ Some count
unfolding count_on
count_again count small = rw (word_again (codes "end") (decimal count ∷ []), number_again 0 most_64 count [] (omega arith) (omega arith) (omega (arith, small))) refl
