-- Entries that are numbered one after the other.
use Rattle.std.proofs.Common.{◌≡◌, ℕ, zero, suc, ◌+◌, ◌<◌, ◌≤◌, List, [], ◌∷◌, ◌++◌, length, set, get_or, refl, sym, ap, ◌∙◌, arith}
use Rattle.k42_kinds.specs.declared.entry.Entry.{Entry}
use Rattle.k42_stamp.specs.Lists.{numbered_from}

pub length-numbered_from : {O R : Type 0} (first : ℕ) (entries : List (Entry O R)) → length (numbered_from first entries) ≡ length entries
length-numbered_from first [] = refl
length-numbered_from first (entry ∷ entries) = ap suc (length-numbered_from (suc first) entries)

pub numbered_from-append : {O R : Type 0} (first : ℕ) (front back : List (Entry O R)) → numbered_from first (front ++ back) ≡ numbered_from first front ++ numbered_from (first + length front) back
numbered_from-append first [] back = ap (λ n. numbered_from n back) (omega arith)
numbered_from-append first (entry ∷ front) back =
    ap (λ l. record entry { stamp = first } ∷ l) (numbered_from-append (suc first) front back ∙ ap (λ n. numbered_from (suc first) front ++ numbered_from n back) (omega arith))

-- so many entries are numbered, and the others are not yet
abbrev pub numbered_up_to : {O R : Type 0} → ℕ → ℕ → List (Entry O R) → List (Entry O R)
numbered_up_to first many [] = []
numbered_up_to first zero (entry ∷ entries) = entry ∷ entries
numbered_up_to first (suc many) (entry ∷ entries) = record entry { stamp = first } ∷ numbered_up_to (suc first) many entries

pub numbered_none : {O R : Type 0} (first : ℕ) (entries : List (Entry O R)) → numbered_up_to first 0 entries ≡ entries
numbered_none first [] = refl
numbered_none first (entry ∷ entries) = refl

pub numbered_all : {O R : Type 0} (first many : ℕ) (entries : List (Entry O R)) → length entries ≤ many → numbered_up_to first many entries ≡ numbered_from first entries
numbered_all first many [] h = refl
numbered_all first zero (entry ∷ entries) h = absurd (omega arith)
numbered_all first (suc many) (entry ∷ entries) h = ap (λ l. record entry { stamp = first } ∷ l) (numbered_all (suc first) many entries (omega arith))

pub length-numbered : {O R : Type 0} (first many : ℕ) (entries : List (Entry O R)) → length (numbered_up_to first many entries) ≡ length entries
length-numbered first many [] = refl
length-numbered first zero (entry ∷ entries) = refl
length-numbered first (suc many) (entry ∷ entries) = grind (arith, length-numbered (suc first) many entries)

abbrev with_stamp : {O R : Type 0} → Entry O R → ℕ → Entry O R
with_stamp entry stamp = record entry { stamp = stamp }

numbered_suc : {O R : Type 0} (first many : ℕ) (entries : List (Entry O R)) (x d : Entry O R) → many < length entries → x ≡ with_stamp (get_or (numbered_up_to first many entries) many d) (first + many) → set (numbered_up_to first many entries) many x ≡ numbered_up_to first (suc many) entries
numbered_suc first many [] x d h is = absurd (omega arith)
numbered_suc {O} {R} first zero (entry ∷ entries) x d h is =
    let same : first + 0 ≡ first = omega arith in
    ap (λ (y : Entry O R). y ∷ entries) (is ∙ ap (with_stamp entry) same) ∙ ap (λ l. with_stamp entry first ∷ l) (sym (numbered_none (suc first) entries))
numbered_suc first (suc many) (entry ∷ entries) x d h is =
    let same : first + suc many ≡ suc first + many = omega arith in
    ap (λ l. with_stamp entry first ∷ l) (numbered_suc (suc first) many entries x d (omega arith) (is ∙ ap (with_stamp (get_or (numbered_up_to (suc first) many entries) many d)) same))

-- the entry at the next place is numbered too
pub numbered_step : {O R : Type 0} (first many : ℕ) (entries now : List (Entry O R)) (old : Entry O R) → many < length entries → now ≡ numbered_up_to first many entries → old ≡ get_or now many old
    → set now many (record old { stamp = first + many }) ≡ numbered_up_to first (many + 1) entries
numbered_step first many entries now old h done is =
    let next : suc many ≡ many + 1 = omega arith in
    let stamped = ap (λ y. with_stamp y (first + many)) (is ∙ ap (λ items. get_or items many old) done) in
    ap (λ items. set items many (with_stamp old (first + many))) done
    ∙ (numbered_suc first many entries (with_stamp old (first + many)) old h stamped ∙ ap (λ n. numbered_up_to first n entries) next)
