-- The script part, the line that separates, and the record part are the input.
use Rattle.std.proofs.Common.{◌≡◌, ℕ, zero, suc, Bool, true, false, cond, List, [], ◌∷◌, ◌++◌, take, drop, eqb, inl, inr, refl, sym, ap, ◌∙◌}
use Rattle.std.specs.Prelude.{◌⊎◌}
use Rattle.std.specs.List.{concat, AllByRecursion}
use Rattle.std.proofs.lemmas.List.{append_assoc}
use Rattle.std.proofs.lemmas.List.Elements.{All-from_recursion}
use Rattle.std.proofs.lemmas.List.Folds.{concat-append}
use Rattle.k42_limits.specs.declared.TheConstants.{LINE_FEED}
use Rattle.script_text.specs.Lines.{lines_of, onto_first_line}
use Rattle.script_text.proofs.LineCuts.{concat-lines_of}
use Rattle.k42_input.specs.Separation.{is_separator, lines_before, lines_after, script_part, record_part, IsCutAt, IsUncut, IsSeparated}

take_none : (n : ℕ) → ◌≡◌ {A = List (List ℕ)} (take n []) []
take_none zero = refl
take_none (suc n) = refl

drop_none : (n : ℕ) → ◌≡◌ {A = List (List ℕ)} (drop n []) []
drop_none zero = refl
drop_none (suc n) = refl

-- the lines of a byte that is no line feed and what stands behind it
onto-take : (byte n : ℕ) (lines : List (List ℕ)) → onto_first_line byte (take (suc n) lines) ≡ take (suc n) (onto_first_line byte lines)
onto-take byte n [] = ap (λ (rest : List (List ℕ)). (byte ∷ []) ∷ rest) (sym (take_none n))
onto-take byte n (line ∷ lines) = refl

onto-concat : (byte n : ℕ) (lines : List (List ℕ)) → concat (take (suc n) (onto_first_line byte lines)) ≡ byte ∷ concat (take (suc n) lines)
onto-concat byte n [] = ap (λ (rest : List (List ℕ)). byte ∷ concat rest) (take_none n)
onto-concat byte n (line ∷ lines) = refl

onto-drop : (byte n : ℕ) (lines : List (List ℕ)) → drop (suc n) (onto_first_line byte lines) ≡ drop (suc n) lines
onto-drop byte n [] = drop_none n
onto-drop byte n (line ∷ lines) = refl

-- the first lines of a text are the lines of what they make together
front_on : (byte n : ℕ) (bytes : List ℕ) (ends : Bool) → eqb byte LINE_FEED ≡ ends → lines_of (concat (take n (lines_of bytes))) ≡ take n (lines_of bytes) → lines_of (concat (take (suc n) (lines_of bytes))) ≡ take (suc n) (lines_of bytes)
    → lines_of (concat (take (suc n) (lines_of (byte ∷ bytes)))) ≡ take (suc n) (lines_of (byte ∷ bytes))
front_on byte n bytes true ends fewer same = rw ends (rw ends (ap (λ (rest : List (List ℕ)). (byte ∷ []) ∷ rest) fewer))
front_on byte n bytes false ends fewer same = rw (ends, onto-concat byte n (lines_of bytes)) (rw ends (ap (onto_first_line byte) same ∙ onto-take byte n (lines_of bytes)))

lines_of-front : (n : ℕ) (bytes : List ℕ) → lines_of (concat (take n (lines_of bytes))) ≡ take n (lines_of bytes)
lines_of-front zero bytes = refl
lines_of-front (suc n) [] = refl
lines_of-front (suc n) (byte ∷ bytes) = front_on byte n bytes (eqb byte LINE_FEED) refl (lines_of-front n bytes) (lines_of-front (suc n) bytes)

-- and so are the lines behind them
rest_on : (byte n : ℕ) (bytes : List ℕ) (ends : Bool) → eqb byte LINE_FEED ≡ ends → lines_of (concat (drop n (lines_of bytes))) ≡ drop n (lines_of bytes) → lines_of (concat (drop (suc n) (lines_of bytes))) ≡ drop (suc n) (lines_of bytes)
    → lines_of (concat (drop (suc n) (lines_of (byte ∷ bytes)))) ≡ drop (suc n) (lines_of (byte ∷ bytes))
rest_on byte n bytes true ends fewer same = rw ends fewer
rest_on byte n bytes false ends fewer same = rw (ends, onto-drop byte n (lines_of bytes)) same

lines_of-rest : (n : ℕ) (bytes : List ℕ) → lines_of (concat (drop n (lines_of bytes))) ≡ drop n (lines_of bytes)
lines_of-rest zero bytes = ap lines_of (concat-lines_of bytes)
lines_of-rest (suc n) [] = refl
lines_of-rest (suc n) (byte ∷ bytes) = rest_on byte n bytes (eqb byte LINE_FEED) refl (lines_of-rest n bytes) (lines_of-rest (suc n) bytes)

-- how many lines stand before the first that separates
place_of : List (List ℕ) → ℕ
place_of [] = 0
place_of (line ∷ lines) = cond (is_separator line) 0 (suc (place_of lines))

before-take : (lines : List (List ℕ)) → lines_before lines ≡ take (place_of lines) lines
unfolding place_of
before-take [] = refl
before-take (line ∷ lines) = elim (is_separator line) as (λ b. cond b [] (line ∷ lines_before lines) ≡ take (cond b 0 (suc (place_of lines))) (line ∷ lines)) [
  | true ↦ refl
  | false ↦ ap (λ (rest : List (List ℕ)). line ∷ rest) (before-take lines)
]

after-drop : (lines : List (List ℕ)) → lines_after lines ≡ drop (suc (place_of lines)) lines
unfolding place_of
after-drop [] = refl
after-drop (line ∷ lines) = elim (is_separator line) as (λ b. cond b lines (lines_after lines) ≡ drop (suc (cond b 0 (suc (place_of lines)))) (line ∷ lines)) [
  | true ↦ refl
  | false ↦ after-drop lines
]

-- none of the lines before it separates
none_on : (line : List ℕ) (lines : List (List ℕ)) (b : Bool) → is_separator line ≡ b → AllByRecursion (λ (l : List ℕ). is_separator l ≡ false) (lines_before lines) → AllByRecursion (λ (l : List ℕ). is_separator l ≡ false) (lines_before (line ∷ lines))
none_on line lines true here none = rw here tt
none_on line lines false other none = rw other (other, none)

none_before : (lines : List (List ℕ)) → AllByRecursion (λ line. is_separator line ≡ false) (lines_before lines)
none_before [] = tt
none_before (line ∷ lines) = none_on line lines (is_separator line) refl (none_before lines)

-- the lines have one that separates, or none
pub record IsAmong (lines : List (List ℕ)) : Type 0 where
  pub separator : List ℕ
  pub separates : is_separator separator ≡ true
  pub split : lines ≡ lines_before lines ++ separator ∷ lines_after lines

pub record HasNone (lines : List (List ℕ)) : Type 0 where
  pub all : lines_before lines ≡ lines
  pub rest : lines_after lines ≡ []

among_or_none : (lines : List (List ℕ)) → IsAmong lines ⊎ HasNone lines
among_or_none [] = inr (record { all = refl; rest = refl })
among_or_none (line ∷ lines) = by (is_separator line) refl (among_or_none lines)
  where
    by : (b : Bool) → is_separator line ≡ b → IsAmong lines ⊎ HasNone lines → IsAmong (line ∷ lines) ⊎ HasNone (line ∷ lines)
    by true here later = inl (record { separator = line; separates = here; split = rw here refl })
    by false other (inl later) = inl (record { separator = later.separator; separates = later.separates; split = rw other (ap (λ (rest : List (List ℕ)). line ∷ rest) later.split) })
    by false other (inr none) = inr (record { all = rw other (ap (λ (rest : List (List ℕ)). line ∷ rest) none.all); rest = rw other none.rest })

lines_of-script : (input : List ℕ) → lines_of (script_part input) ≡ lines_before (lines_of input)
lines_of-script input =
    let lines = lines_of input in
    ap (λ (front : List (List ℕ)). lines_of (concat front)) (before-take lines) ∙ lines_of-front (place_of lines) input ∙ sym (before-take lines)

lines_of-record : (input : List ℕ) → lines_of (record_part input) ≡ lines_after (lines_of input)
lines_of-record input =
    let lines = lines_of input in
    ap (λ (rest : List (List ℕ)). lines_of (concat rest)) (after-drop lines) ∙ lines_of-rest (suc (place_of lines)) input ∙ sym (after-drop lines)

cut_of : (input : List ℕ) → IsAmong (lines_of input) ⊎ HasNone (lines_of input) → ((separator : List ℕ) × IsCutAt input (script_part input) separator (record_part input)) ⊎ IsUncut input (script_part input) (record_part input)
cut_of input (inl among) = inl (
  among.separator,
  record {
    separates = among.separates;
    line = rw (lines_of-script input, lines_of-record input) among.split;
    whole = sym (concat-lines_of input) ∙ ap concat among.split ∙ concat-append (lines_before (lines_of input)) (among.separator ∷ lines_after (lines_of input)) ∙ sym (append_assoc (script_part input) among.separator (record_part input));
  },
)
cut_of input (inr none) = inr (record { all = ap concat none.all ∙ concat-lines_of input; none = ap concat none.rest })

-- the two parts and the line between them are the input
pub separated : (input script text : List ℕ) → script ≡ script_part input → text ≡ record_part input → IsSeparated input script text
separated input script text is_script is_text = rw (is_script, is_text) (record {
  first = rw (lines_of-script input) (All-from_recursion (λ (line : List ℕ). is_separator line ≡ false) (lines_before (lines_of input)) (none_before (lines_of input)));
  cut = cut_of input (among_or_none (lines_of input));
})
