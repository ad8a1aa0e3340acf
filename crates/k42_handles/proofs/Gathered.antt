-- No pass is lost where one comes, gives to a section, is taken up or is put back, and where all are taken.
use Rattle.std.proofs.Common.{◌≡◌, inl, inr, ℕ, zero, suc, List, [], ◌∷◌, ◌++◌, Some, take, drop, refl, sym, ap, subst}
use Rattle.std.specs.List.{slice_get}
use Rattle.std.proofs.lemmas.Option.{same_Some}
use Rattle.std.specs.List.Sorted.{IsPermutation}
use Rattle.std.proofs.lemmas.List.Sorted.{IsPermutation-refl, IsPermutation-sym, IsPermutation-trans, IsPermutation-middle, IsPermutation-map}
use Rattle.k42_crews.specs.Ready.{AreAll, callers_of}
use Rattle.co_system.specs.Systems.{SystemSeen, SystemPass}
use Rattle.k42_handles.specs.Closing.{IsAdded}
use Rattle.k42_handles.specs.Gathering.{HasOneMore, NoneIsLost}

abbrev number : SystemPass → ℕ
number pass = pass.view.number

pub same_callers : (system : SystemSeen) (old new : List SystemPass) → callers_of new ≡ callers_of old → NoneIsLost system old new
same_callers system old new same = inl (subst (λ (ns : List ℕ). IsPermutation (callers_of old) ns) (sym same) (IsPermutation-refl (callers_of old)))

pub none_touched : (system : SystemSeen) (old new : List SystemPass) → new ≡ old → NoneIsLost system old new
none_touched system old new same = same_callers system old new (ap callers_of same)

-- those with the one that came behind them, as a list with it in front
in_front : (old : List SystemPass) (pass : SystemPass) (new : List SystemPass) → IsAdded old pass new → IsPermutation (pass ∷ old) new
in_front old pass new added =
    subst (λ (xs : List SystemPass). IsPermutation (pass ∷ xs) new) (sym added.old_is)
    (subst (λ (xs : List SystemPass). IsPermutation (pass ∷ (added.before ++ added.behind)) xs) (sym added.new_is)
    (IsPermutation-sym (added.before ++ pass ∷ added.behind) (pass ∷ (added.before ++ added.behind)) (IsPermutation-middle added.before pass added.behind)))

one_more : (old : List SystemPass) (pass : SystemPass) (new : List SystemPass) → IsAdded old pass new → HasOneMore (callers_of old) (callers_of new)
one_more old pass new added = (pass.view.number, IsPermutation-map number (pass ∷ old) new (in_front old pass new added))

-- one has come, and they may have given to a section
pub one_came : (system : SystemSeen) (old : List SystemPass) (pass : SystemPass) (there new : List SystemPass) → IsAdded old pass there → callers_of new ≡ callers_of there
    → NoneIsLost system old new
one_came system old pass there new added same = inr (inl (subst (λ (ns : List ℕ). HasOneMore (callers_of old) ns) (sym same) (one_more old pass there added)))

pub all_taken : (system : SystemSeen) (old : List SystemPass) (pass : SystemPass) (there : List SystemPass) → IsAdded old pass there → AreAll system there
    → NoneIsLost system old []
all_taken system old pass there added all = inr (inr (inr (refl, subst (λ (ns : List ℕ). HasOneMore (callers_of old) ns) all (one_more old pass there added))))

parted : (passes : List SystemPass) (place : ℕ) (one : SystemPass) → slice_get passes place ≡ Some one → passes ≡ take place passes ++ one ∷ drop (suc place) passes
parted [] place one at = absurd (cc)
parted (pass ∷ passes) zero one at = ap (λ p. p ∷ passes) (same_Some pass one at)
parted (pass ∷ passes) (suc place) one at = ap (λ ps. pass ∷ ps) (parted passes place one at)

-- the one at a place was taken
taken_apart : (passes : List SystemPass) (place : ℕ) (one : SystemPass) → slice_get passes place ≡ Some one → IsAdded (take place passes ++ drop (suc place) passes) one passes
taken_apart passes place one at = record { before = take place passes; behind = drop (suc place) passes; old_is = refl; new_is = parted passes place one at }

pub one_taken : (system : SystemSeen) (old : List SystemPass) (place : ℕ) (one : SystemPass) (new : List SystemPass) → slice_get old place ≡ Some one
    → new ≡ take place old ++ drop (suc place) old → NoneIsLost system old new
one_taken system old place one new at is =
    inr (inr (inl (subst (λ (xs : List SystemPass). HasOneMore (callers_of xs) (callers_of old)) (sym is) (one_more (take place old ++ drop (suc place) old) one old (taken_apart old place one at)))))

-- it was taken, and put back
pub one_back : (system : SystemSeen) (old : List SystemPass) (place : ℕ) (one : SystemPass) (left new : List SystemPass) → slice_get old place ≡ Some one
    → left ≡ take place old ++ drop (suc place) old → IsAdded left one new → NoneIsLost system old new
one_back system old place one left new at is added =
    let was : IsPermutation (one ∷ left) old = subst (λ (xs : List SystemPass). IsPermutation (one ∷ xs) old) (sym is) (in_front (take place old ++ drop (suc place) old) one old (taken_apart old place one at)) in
    inl (IsPermutation-map number old new (IsPermutation-trans old (one ∷ left) new (IsPermutation-sym (one ∷ left) old was) (in_front left one new added)))
