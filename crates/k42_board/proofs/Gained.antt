-- Logs that go on from others.
use Rattle.std.proofs.Common.{◌≡◌, List, [], ◌∷◌, ◌++◌, refl, sym, ap, ◌∙◌}
use Rattle.std.proofs.lemmas.List.Elements.{filter-append}
use Rattle.k42_board.specs.Log.{is_free, is_obstacle, frees, obstacles, Follows, Grows, Extends, Meets, EndsWith}
use Rattle.k42_board.specs.declared.view.Taken.{Taken}

behind : (xs ys zs : List Taken) → (xs ++ ys) ++ zs ≡ xs ++ (ys ++ zs)
behind [] ys zs = refl
behind (x ∷ xs) ys zs = ap (λ (rest : List Taken). x ∷ rest) (behind xs ys zs)

-- what is so of the one step and of those after it
pub obstacles-append : (xs ys : List Taken) → obstacles (xs ++ ys) ≡ obstacles xs ++ obstacles ys
obstacles-append xs ys = filter-append (λ taken. is_obstacle taken.step taken.found) xs ys

pub frees-append : (xs ys : List Taken) → frees (xs ++ ys) ≡ frees xs ++ frees ys
frees-append xs ys = filter-append (λ taken. is_free taken.step) xs ys

both : {xs ys zs ws : List Taken} → xs ≡ zs → ys ≡ ws → xs ++ ys ≡ zs ++ ws
both first second = λ j. first j ++ second j

pub obstacles_none : (xs ys : List Taken) → obstacles xs ≡ [] → obstacles ys ≡ [] → obstacles (xs ++ ys) ≡ []
obstacles_none xs ys first second = obstacles-append xs ys ∙ both first second

pub extends_same : (log : List Taken) → Extends log log
extends_same log = record { gained = []; log = refl; meets_none = refl }

pub extends_one : (taken : Taken) (log : List Taken) → obstacles (taken ∷ []) ≡ [] → Extends log (taken ∷ log)
extends_one taken log none = record { gained = taken ∷ []; log = refl; meets_none = none }

pub extends_by : (gained : List Taken) {old new : List Taken} → new ≡ gained ++ old → obstacles gained ≡ [] → Extends old new
extends_by gained is none = record { gained = gained; log = is; meets_none = none }

-- a log that is equal to one that goes on
pub extends_as : {old new other : List Taken} → other ≡ new → Extends old new → Extends old other
extends_as same extends = record { gained = extends.gained; log = same ∙ extends.log; meets_none = extends.meets_none }

onto : (second first old : List Taken) {middle new : List Taken} → middle ≡ first ++ old → new ≡ second ++ middle → new ≡ (second ++ first) ++ old
onto second first old at is = is ∙ ap (λ (rest : List Taken). second ++ rest) at ∙ sym (behind second first old)

pub extends_on : {old middle new : List Taken} → Extends old middle → Extends middle new → Extends old new
extends_on {old = old} first second = record {
  gained = second.gained ++ first.gained;
  log = onto second.gained first.gained old first.log second.log;
  meets_none = obstacles_none second.gained first.gained second.meets_none first.meets_none;
}

pub ends_on : {taken : Taken} {old middle new : List Taken} → Extends old middle → EndsWith taken middle new → EndsWith taken old new
ends_on {taken = taken} {old = old} first second = record {
  gained = second.gained ++ first.gained;
  log = second.log ∙ ap (λ (rest : List Taken). taken ∷ rest) (onto second.gained first.gained old first.log refl);
  meets_none = obstacles_none second.gained first.gained second.meets_none first.meets_none;
}

pub ends_one : (taken : Taken) (log : List Taken) → EndsWith taken log (taken ∷ log)
ends_one taken log = record { gained = []; log = refl; meets_none = refl }

-- the last of them, where it is none that is met
pub ends_extends : {taken : Taken} {old new : List Taken} → obstacles (taken ∷ []) ≡ [] → EndsWith taken old new → Extends old new
ends_extends {taken = taken} none ends = record {
  gained = taken ∷ ends.gained;
  log = ends.log;
  meets_none = obstacles_none (taken ∷ []) ends.gained none ends.meets_none;
}

-- or where it is
pub ends_meets : {taken : Taken} {old new : List Taken} → obstacles (taken ∷ []) ≡ taken ∷ [] → EndsWith taken old new → Meets taken old new
ends_meets {taken = taken} one ends = record {
  gained = taken ∷ ends.gained;
  log = ends.log;
  meets_it = obstacles-append (taken ∷ []) ends.gained ∙ both one ends.meets_none;
}

pub meets_one : (taken : Taken) (log : List Taken) → obstacles (taken ∷ []) ≡ taken ∷ [] → Meets taken log (taken ∷ log)
meets_one taken log one = record { gained = taken ∷ []; log = refl; meets_it = one }

pub meets_as : {taken : Taken} {old new other : List Taken} → other ≡ new → Meets taken old new → Meets taken old other
meets_as same meets = record { gained = meets.gained; log = same ∙ meets.log; meets_it = meets.meets_it }

-- before what is met, and after it
pub meets_on : {taken : Taken} {old middle new : List Taken} → Extends old middle → Meets taken middle new → Meets taken old new
meets_on {taken = taken} {old = old} first second = record {
  gained = second.gained ++ first.gained;
  log = onto second.gained first.gained old first.log second.log;
  meets_it = obstacles-append second.gained first.gained ∙ both second.meets_it first.meets_none;
}

pub meets_then : {taken : Taken} {old middle new : List Taken} → Meets taken old middle → Extends middle new → Meets taken old new
meets_then {taken = taken} {old = old} first second = record {
  gained = second.gained ++ first.gained;
  log = onto second.gained first.gained old first.log second.log;
  meets_it = obstacles-append second.gained first.gained ∙ both second.meets_none first.meets_it;
}

pub grows_same : (log : List Taken) → Grows log log
grows_same log = record { gained = []; log = refl; frees_none = refl }

pub grows_one : (taken : Taken) (log : List Taken) → frees (taken ∷ []) ≡ [] → Grows log (taken ∷ log)
grows_one taken log none = record { gained = taken ∷ []; log = refl; frees_none = none }

pub grows_as : {old new other : List Taken} → other ≡ new → Grows old new → Grows old other
grows_as same grows = record { gained = grows.gained; log = same ∙ grows.log; frees_none = grows.frees_none }

pub grows_on : {old middle new : List Taken} → Grows old middle → Grows middle new → Grows old new
grows_on {old = old} first second = record {
  gained = second.gained ++ first.gained;
  log = onto second.gained first.gained old first.log second.log;
  frees_none = frees-append second.gained first.gained ∙ both second.frees_none first.frees_none;
}

pub follows_same : (log : List Taken) → Follows log log
follows_same log = record { gained = []; log = refl }

pub follows_as : {old new other : List Taken} → other ≡ new → Follows old new → Follows old other
follows_as same follows = record { gained = follows.gained; log = same ∙ follows.log }

pub follows_on : {old middle new : List Taken} → Follows old middle → Follows middle new → Follows old new
follows_on {old = old} first second = record {
  gained = second.gained ++ first.gained;
  log = onto second.gained first.gained old first.log second.log;
}

pub extends_follows : {old new : List Taken} → Extends old new → Follows old new
extends_follows extends = record { gained = extends.gained; log = extends.log }

pub ends_follows : {taken : Taken} {old new : List Taken} → EndsWith taken old new → Follows old new
ends_follows {taken = taken} ends = record { gained = taken ∷ ends.gained; log = ends.log }
