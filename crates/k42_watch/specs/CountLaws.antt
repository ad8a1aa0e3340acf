-- Counts of parts, and parts that are put together again.
use Rattle.std.specs.Prelude.{◌≡◌, ℕ, zero, suc, ◌+◌, ◌<◌, ◌%◌, ◌^◌, List, [], ◌∷◌, length, Option, Some, None, refl}
use Rattle.std.proofs.Common.{ap, sym, subst, ◌∙◌, inl, inr, arith}
use Rattle.std.proofs.lemmas.Grind.{common_steps}
use Rattle.std.specs.List.{AllByRecursion}
use Rattle.k42_kinds.specs.Rows.{changed_at}
use Rattle.k42_kinds.specs.Watched.{counted}
use Rattle.k42_watch.specs.WatchedRows.{inners, seens, total, count_of, Counts, CountsNot, IsSmall, AreAlike, rejoined, from_zero, shared_out}
use Rattle.k42_watch.specs.declared.watch.WatchPart.{WatchPart}

pub length-changed : {X : Type 0} (change : X → X) (xs : List X) (cell : ℕ) → length (changed_at change xs cell) ≡ length xs
length-changed change [] cell = refl
length-changed change (x ∷ xs) zero = refl
length-changed change (x ∷ xs) (suc cell) = ap suc (length-changed change xs cell)

pub length-inners : {P : Type 0} (row : List (WatchPart P)) → length (inners row) ≡ length row
length-inners [] = refl
length-inners (part ∷ row) = ap suc (length-inners row)

pub length-seens : {P : Type 0} (row : List (WatchPart P)) → length (seens row) ≡ length row
length-seens [] = refl
length-seens (part ∷ row) = ap suc (length-seens row)

-- one more call at one of the parts is one more call of the row
total-counted : (seen : List (Option ℕ)) (cell : ℕ) → cell < length seen → AllByRecursion Counts seen → total (changed_at counted seen cell) % 2 ^ 64 ≡ (total seen + 1) % 2 ^ 64
total-counted [] cell there all = absurd (omega arith)
total-counted (None ∷ seen) cell there all = absurd all.0
total-counted (Some count ∷ seen) zero there all = grind (arith, common_steps)
total-counted (Some count ∷ seen) (suc cell) there all = grind (arith, common_steps, total-counted seen cell (omega (arith, there)) all.1)

pub none-same : (seen : List (Option ℕ)) (cell : ℕ) → AllByRecursion CountsNot seen → changed_at counted seen cell ≡ seen
none-same [] cell all = refl
none-same (None ∷ seen) zero all = refl
none-same (None ∷ seen) (suc cell) all = ap (λ (rest : List (Option ℕ)). None ∷ rest) (none-same seen cell all.1)
none-same (Some count ∷ seen) cell all = absurd all.0

pub count-none : (seen : List (Option ℕ)) → AllByRecursion CountsNot seen → count_of seen ≡ None
count-none [] all = refl
count-none (None ∷ seen) all = refl
count-none (Some count ∷ seen) all = absurd all.0

count-some : (seen : List (Option ℕ)) → 0 < length seen → AllByRecursion Counts seen → count_of seen ≡ Some (total seen % 2 ^ 64)
count-some [] some all = absurd (omega arith)
count-some (None ∷ seen) some all = absurd all.0
count-some (Some count ∷ seen) some all = refl

some-changed : (seen : List (Option ℕ)) (cell : ℕ) → AllByRecursion Counts seen → AllByRecursion Counts (changed_at counted seen cell)
some-changed [] cell all = tt
some-changed (None ∷ seen) cell all = absurd all.0
some-changed (Some count ∷ seen) zero all = (tt, all.1)
some-changed (Some count ∷ seen) (suc cell) all = (all.0, some-changed seen cell all.1)

pub count-counted : (seen : List (Option ℕ)) (cell : ℕ) → cell < length seen → AreAlike seen → count_of (changed_at counted seen cell) ≡ counted (count_of seen)
count-counted seen cell there (inl none) = ap count_of (none-same seen cell none) ∙ (count-none seen none ∙ sym (ap counted (count-none seen none)))
count-counted seen cell there (inr some) =
    let same = length-changed counted seen cell in
    let after = count-some (changed_at counted seen cell) (omega (arith, same, there)) (some-changed seen cell some) in
    let before = ap counted (count-some seen (omega (arith, there)) some) in
    let added : total (changed_at counted seen cell) % 2 ^ 64 ≡ (total seen % 2 ^ 64 + 1) % 2 ^ 64 = total-counted seen cell there some ∙ grind (arith, common_steps) in
    after ∙ (ap Some added ∙ sym before)

pub alike-changed : (seen : List (Option ℕ)) (cell : ℕ) → AreAlike seen → AreAlike (changed_at counted seen cell)
alike-changed seen cell (inl none) = inl (subst (AllByRecursion CountsNot) (sym (none-same seen cell none)) none)
alike-changed seen cell (inr some) = inr (some-changed seen cell some)

pub small-changed : (seen : List (Option ℕ)) (cell : ℕ) → AllByRecursion IsSmall seen → AllByRecursion IsSmall (changed_at counted seen cell)
small-changed [] cell all = tt
small-changed (None ∷ seen) zero all = all
small-changed (None ∷ seen) (suc cell) all = (all.0, small-changed seen cell all.1)
small-changed (Some count ∷ seen) zero all = (grind (arith, common_steps), all.1)
small-changed (Some count ∷ seen) (suc cell) all = (all.0, small-changed seen cell all.1)

pub count-small : (seen : List (Option ℕ)) → IsSmall (count_of seen)
count-small [] = tt
count-small (None ∷ seen) = tt
count-small (Some count ∷ seen) = grind (arith, common_steps)

pub none-small : (seen : List (Option ℕ)) → AllByRecursion CountsNot seen → AllByRecursion IsSmall seen
none-small [] all = tt
none-small (None ∷ seen) all = (tt, none-small seen all.1)
none-small (Some count ∷ seen) all = absurd all.0

-- one part alone has counted what its row has
pub count-alone : (one : Option ℕ) → IsSmall one → one ≡ count_of (one ∷ [])
count-alone None small = refl
count-alone (Some count) small = ap Some (grind (arith, common_steps, small))

-- rejoined parts are those that were joined
pub inners-rejoined : {P : Type 0} (parts : List P) (seen : List (Option ℕ)) → inners (rejoined parts seen) ≡ parts
inners-rejoined [] seen = refl
inners-rejoined (part ∷ parts) [] = ap (λ (rest : List _). part ∷ rest) (inners-rejoined parts [])
inners-rejoined (part ∷ parts) (one ∷ seen) = ap (λ (rest : List _). part ∷ rest) (inners-rejoined parts seen)

pub seens-rejoined : {P : Type 0} (parts : List P) (seen : List (Option ℕ)) → length parts ≡ length seen → seens (rejoined parts seen) ≡ seen
seens-rejoined [] [] same = refl
seens-rejoined [] (one ∷ seen) same = absurd cc
seens-rejoined (part ∷ parts) [] same = absurd cc
seens-rejoined (part ∷ parts) (one ∷ seen) same = ap (λ (rest : List (Option ℕ)). one ∷ rest) (seens-rejoined parts seen (omega (arith, same)))

pub rejoined-apart : {P : Type 0} (row : List (WatchPart P)) → rejoined (inners row) (seens row) ≡ row
rejoined-apart [] = refl
rejoined-apart (part ∷ row) = ap (λ (rest : List _). part ∷ rest) (rejoined-apart row)

-- what was shared out is the count again
pub inners-shared : {P : Type 0} (seen : Option ℕ) (parts : List P) → inners (shared_out seen parts) ≡ parts
inners-shared seen [] = refl
inners-shared seen (part ∷ parts) = ap (λ (rest : List _). part ∷ rest) (inners-shared (from_zero seen) parts)

none-shared : {P : Type 0} (parts : List P) → AllByRecursion CountsNot (seens (shared_out None parts))
none-shared [] = tt
none-shared (part ∷ parts) = (tt, none-shared parts)

some-shared : {P : Type 0} (count : ℕ) (parts : List P) → AllByRecursion Counts (seens (shared_out (Some count) parts))
some-shared count [] = tt
some-shared count (part ∷ parts) = (tt, some-shared 0 parts)

pub alike-shared : {P : Type 0} (seen : Option ℕ) (parts : List P) → AreAlike (seens (shared_out seen parts))
alike-shared None parts = inl (none-shared parts)
alike-shared (Some count) parts = inr (some-shared count parts)

pub small-shared : {P : Type 0} (seen : Option ℕ) (parts : List P) → IsSmall seen → AllByRecursion IsSmall (seens (shared_out seen parts))
small-shared seen [] small = tt
small-shared None (part ∷ parts) small = (tt, small-shared None parts tt)
small-shared (Some count) (part ∷ parts) small = (small, small-shared (Some 0) parts (omega arith))

pub dead-shared : {P : Type 0} (seen : Option ℕ) (parts : List P) → seen ≡ None → AllByRecursion CountsNot (seens (shared_out seen parts))
dead-shared None parts is = none-shared parts
dead-shared (Some count) parts is = absurd cc

total-shared : {P : Type 0} (parts : List P) → total (seens (shared_out (Some 0) parts)) ≡ 0
total-shared [] = refl
total-shared (part ∷ parts) = omega (arith, total-shared parts)

pub count-shared : {P : Type 0} (seen : Option ℕ) (parts : List P) → IsSmall seen → 0 < length parts → count_of (seens (shared_out seen parts)) ≡ seen
count-shared None parts small some = count-none _ (none-shared parts)
count-shared (Some count) [] small some = absurd (omega arith)
count-shared (Some count) (part ∷ parts) small some = ap Some (rw (total-shared parts) (grind (arith, common_steps, small)))
