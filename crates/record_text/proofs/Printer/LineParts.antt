-- The line of an entry, put part by part.
use Rattle.std.proofs.Common.{◌≡◌, ℕ, List, [], ◌∷◌, ◌++◌, refl, sym, ap, ◌∙◌}
use Rattle.std.proofs.lemmas.List.{append_assoc}
use Rattle.k42_limits.specs.declared.TheConstants.{LINE_FEED, SPACE}
use Rattle.record_text.specs.Tokens.{behind_spaces, line_with}

behind_spaces-append : (xs ys : List (List ℕ)) → behind_spaces (xs ++ ys) ≡ behind_spaces xs ++ behind_spaces ys
behind_spaces-append [] ys = refl
behind_spaces-append (x ∷ xs) ys = rw (behind_spaces-append xs ys) (sym (append_assoc (SPACE ∷ x) (behind_spaces xs) (behind_spaces ys)))

-- more tokens behind what was put
more : (before first : List ℕ) (xs ys : List (List ℕ)) → (before ++ (first ++ behind_spaces xs)) ++ behind_spaces ys ≡ before ++ (first ++ behind_spaces (xs ++ ys))
more before first xs ys = rw (behind_spaces-append xs ys) (append_assoc before (first ++ behind_spaces xs) (behind_spaces ys) ∙ ap (λ rest. before ++ rest) (append_assoc first (behind_spaces xs) (behind_spaces ys)))

-- the stamp, then the other tokens with a space before each, and a line feed make the line of all of them
pub line_of_parts : (before stamp worker number equals mark : List ℕ) (act answer extra : List (List ℕ)) →
    before ++ stamp ++ behind_spaces (worker ∷ []) ++ behind_spaces (number ∷ []) ++ behind_spaces act ++ behind_spaces (equals ∷ []) ++ behind_spaces answer ++ behind_spaces (mark ∷ []) ++ behind_spaces extra ++ LINE_FEED ∷ []
    ≡ before ++ line_with (stamp ∷ worker ∷ number ∷ [] ++ act ++ equals ∷ [] ++ answer ++ mark ∷ [] ++ extra)
line_of_parts before stamp worker number equals mark act answer extra =
    rw (
      append_assoc before stamp (behind_spaces (worker ∷ [])),
      more before stamp (worker ∷ []) (number ∷ []),
      more before stamp (worker ∷ number ∷ []) act,
      more before stamp (worker ∷ number ∷ [] ++ act) (equals ∷ []),
      more before stamp (worker ∷ number ∷ [] ++ act ++ equals ∷ []) answer,
      more before stamp (worker ∷ number ∷ [] ++ act ++ equals ∷ [] ++ answer) (mark ∷ []),
      more before stamp (worker ∷ number ∷ [] ++ act ++ equals ∷ [] ++ answer ++ mark ∷ []) extra,
    )
    (append_assoc before (stamp ++ behind_spaces (worker ∷ number ∷ [] ++ act ++ equals ∷ [] ++ answer ++ mark ∷ [] ++ extra)) (LINE_FEED ∷ []))
