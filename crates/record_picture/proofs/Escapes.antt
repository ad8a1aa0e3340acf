-- What escaped text is free of.
use Rattle.std.proofs.Common.{◌≡◌, ℕ, List, [], ◌∷◌, ◌++◌, true, false, refl, ◌∙◌, inl, inr}
use Rattle.std.specs.Prelude.{◌==◌, codes}
use Rattle.std.specs.List.{list_all}
use Rattle.std.proofs.lemmas.Bool.{cases_Bool}
use Rattle.std.proofs.lemmas.List.Folds.{list_all-append}
use Rattle.record_picture.specs.Harmless.{is_inert, names_entities}
use Rattle.record_picture.specs.Pieces.{escape, escaped}

escape-inert : (byte : ℕ) → list_all is_inert (escape byte) ≡ true
escape-inert byte = elim (cases_Bool (byte == 38)) [
  | inl is ↦ rw is refl
  | inr not_and ↦ elim (cases_Bool (byte == 60)) [
    | inl is ↦ rw (not_and, is) refl
    | inr not_less ↦ elim (cases_Bool (byte == 62)) [
      | inl is ↦ rw (not_and, not_less, is) refl
      | inr not_more ↦ elim (cases_Bool (byte == 34)) [
        | inl is ↦ rw (not_and, not_less, not_more, is) refl
        | inr not_double ↦ elim (cases_Bool (byte == 39)) [
          | inl is ↦ rw (not_and, not_less, not_more, not_double, is) refl
          | inr not_single ↦ rw (not_and, not_less, not_more, not_double, not_single) (rw (not_less, not_more, not_double, not_single) refl)
        ]
      ]
    ]
  ]
]

pub escaped-inert : (bytes : List ℕ) → list_all is_inert (escaped bytes) ≡ true
escaped-inert [] = refl
escaped-inert (byte ∷ bytes) = rw (list_all-append is_inert (escape byte) (escaped bytes), escape-inert byte, escaped-inert bytes) refl

pub names-escape : (byte : ℕ) (text : List ℕ) → names_entities (escape byte ++ text) ≡ names_entities text
names-escape byte text = elim (cases_Bool (byte == 38)) [
  | inl is ↦ rw is refl
  | inr not_and ↦ elim (cases_Bool (byte == 60)) [
    | inl is ↦ rw (not_and, is) refl
    | inr not_less ↦ elim (cases_Bool (byte == 62)) [
      | inl is ↦ rw (not_and, not_less, is) refl
      | inr not_more ↦ elim (cases_Bool (byte == 34)) [
        | inl is ↦ rw (not_and, not_less, not_more, is) refl
        | inr not_double ↦ elim (cases_Bool (byte == 39)) [
          | inl is ↦ rw (not_and, not_less, not_more, not_double, is) refl
          | inr not_single ↦ rw (not_and, not_less, not_more, not_double, not_single) (rw not_and refl)
        ]
      ]
    ]
  ]
]

pub names-escaped : (bytes : List ℕ) → names_entities (escaped bytes) ≡ true
names-escaped [] = refl
names-escaped (byte ∷ bytes) = names-escape byte (escaped bytes) ∙ names-escaped bytes

-- ---- computed examples, accepted and refused

written : escaped (codes "a<b&\"c'>") ≡ codes "a&lt;b&amp;&quot;c&apos;&gt;"
written = refl

bare_and : names_entities (codes "a & b") ≡ false
bare_and = refl

bare_tag : list_all is_inert (codes "<g>") ≡ false
bare_tag = refl
