-- The lists of a section: what the passes have given before, and what they give.
use Rattle.std.proofs.Common.{◌≡◌, ℕ, zero, suc, ◌<◌, ◌≤◌, List, [], ◌∷◌, ◌++◌, Some, map, take, drop, refl, sym, ap, ◌∙◌, subst}
use Rattle.std.specs.List.{slice_get, AllByRecursion}
use Rattle.std.specs.Prelude.{option_map}
use Rattle.std.proofs.lemmas.List.{length-map, take-append-drop}
use Rattle.std.proofs.lemmas.Option.{same_Some, slice_get-map}
use Rattle.k42_kinds.specs.declared.entry.Entry.{Entry}
use Rattle.k42_places.specs.Places.{EachPlace}
use Rattle.k42_places.proofs.EachPlaces.{EachPlace-map}
use Rattle.k42_stamp.specs.Lists.{IsListOf, AreLists, InSome}
use Rattle.k42_stamp.specs.Orders.{Ordered}
use Rattle.k42_stamp.proofs.Elements.{all_at, all_front, all_back}
use Rattle.k42_board.specs.Seen.{SysSeen, PassSeen}
use Rattle.k42_rule.specs.Finishing.{AreAtRest, lists_in}
use Rattle.k42_rule.specs.Sections.{AreCut, AreEven, HasParts, fronts_in, given_all, last_section, rests_in, skipped}
use Rattle.k42_rule.proofs.Pushed.{each_all}

abbrev Rises : {O R : Type 0} → List (Entry O R) → Type 0
Rises list = Ordered (λ one other. one.stamp < other.stamp) list

rises_front : {O R : Type 0} (front back : List (Entry O R)) → Rises (front ++ back) → Rises front
rises_front [] back rising = tt
rises_front {O} {R} (entry ∷ front) back rising = (all_front (λ (other : Entry O R). entry.stamp < other.stamp) front back rising.0, rises_front front back rising.1)

rises_back : {O R : Type 0} (front back : List (Entry O R)) → Rises (front ++ back) → Rises back
rises_back [] back rising = rising
rises_back (entry ∷ front) back rising = rises_back front back rising.1

-- a part of a caller's list is a list of the caller
list_parts : {O R : Type 0} (c : ℕ) (front back : List (Entry O R)) → IsListOf c (front ++ back) → IsListOf c front × IsListOf c back
list_parts {O} {R} c front back is = (
  record { rising = rises_front front back is.rising; own = all_front (λ (entry : Entry O R). entry.caller ≡ c) front back is.own },
  record { rising = rises_back front back is.rising; own = all_back (λ (entry : Entry O R). entry.caller ≡ c) front back is.own },
)

-- of each entry of the lists
abbrev Each : {O R : Type 0} (P : Entry O R → Type 0) → List (List (Entry O R)) → Type 0
Each P lists = EachPlace (λ place list. AllByRecursion P list) lists

in_each : {O R : Type 0} (P : Entry O R → Type 0) (lists : List (List (Entry O R))) → Each P lists → (e : Entry O R) → InSome lists e → P e
in_each P lists each e some = all_at P some.list e (each some.place some.list some.there) some.has

module _ {P : Type 0} where
  abbrev mine_of : {O R : Type 0} → PassSeen P O R → List (Entry O R)
  mine_of pass = pass.view.taker.mine

  abbrev front_of : {O R : Type 0} → PassSeen P O R → List (Entry O R)
  front_of pass = take pass.keep.given pass.view.taker.mine

  abbrev rest_of : {O R : Type 0} → PassSeen P O R → List (Entry O R)
  rest_of pass = drop pass.keep.given pass.view.taker.mine

  member : {B O R : Type 0} (f : PassSeen P O R → B) (passes : List (PassSeen P O R)) (c : ℕ) (b : B) → slice_get (map f passes) c ≡ Some b
      → (pass : PassSeen P O R) × (slice_get passes c ≡ Some pass) × (f pass ≡ b)
  member f [] c b at = absurd (cc)
  member f (pass ∷ passes) zero b at = (pass, refl, same_Some (f pass) b at)
  member f (pass ∷ passes) (suc c) b at = member f passes c b at

  module _ {L O R : Type 0} (sys : SysSeen L) (passes : List (PassSeen P O R)) (rest : AreAtRest sys passes) (have : EachPlace (λ c pass. HasParts pass) passes) where
    parts_at : (c : ℕ) (pass : PassSeen P O R) → slice_get passes c ≡ Some pass → IsListOf c (front_of pass) × IsListOf c (rest_of pass)
    parts_at c pass at =
        let n = pass.keep.given in
        let mine = pass.view.taker.mine in
        list_parts c (take n mine) (drop n mine)
        (subst (IsListOf c) (sym (take-append-drop n mine)) (subst (λ d. IsListOf d mine) (rest.each c pass at).number (have c pass at).list))

    front_lists : AreLists (fronts_in passes)
    front_lists = EachPlace-map IsListOf front_of passes (λ c pass at. (parts_at c pass at).0)

    rest_lists : AreLists (rests_in passes)
    rest_lists = EachPlace-map IsListOf rest_of passes (λ c pass at. (parts_at c pass at).1)

    joined : (c : ℕ) (list front rest' : List (Entry O R)) → slice_get (lists_in passes) c ≡ Some list → slice_get (fronts_in passes) c ≡ Some front
        → slice_get (rests_in passes) c ≡ Some rest' → list ≡ front ++ rest'
    joined c list front rest' at front_at rest_at =
        let is = member mine_of passes c list at in
        let fronts : front_of is.0 ≡ front = same_Some (front_of is.0) front (sym (slice_get-map front_of passes c ∙ ap (option_map front_of) is.1) ∙ front_at) in
        let rests : rest_of is.0 ≡ rest' = same_Some (rest_of is.0) rest' (sym (slice_get-map rest_of passes c ∙ ap (option_map rest_of) is.1) ∙ rest_at) in
        sym is.2 ∙ sym (take-append-drop is.0.keep.given is.0.view.taker.mine) ∙ (λ i. fronts i ++ rests i)

    pub cut_lists : AreEven passes → AreCut passes
    cut_lists even = record {
      fronts = front_lists;
      rests = rest_lists;
      cut = record {
        many_fronts = length-map passes front_of ∙ sym (length-map passes mine_of);
        many_rests = length-map passes rest_of ∙ sym (length-map passes mine_of);
        joined = joined;
        early = in_each (λ entry. entry.stamp ≤ last_section passes) (fronts_in passes) given;
        late = in_each (λ entry. last_section passes < entry.stamp) (rests_in passes) left;
      };
    } where
      given : Each (λ entry. entry.stamp ≤ last_section passes) (fronts_in passes)
      given =
          EachPlace-map (λ c list. AllByRecursion (λ (entry : Entry O R). entry.stamp ≤ last_section passes) list) front_of passes
          (λ c pass at.
          subst (λ n. AllByRecursion (λ (entry : Entry O R). entry.stamp ≤ n) (front_of pass)) (even c pass at)
          (each_all (λ (entry : Entry O R). entry.stamp ≤ pass.keep.since) (front_of pass) (have c pass at).parted.given))

      left : Each (λ entry. last_section passes < entry.stamp) (rests_in passes)
      left =
          EachPlace-map (λ c list. AllByRecursion (λ (entry : Entry O R). last_section passes < entry.stamp) list) rest_of passes
          (λ c pass at.
          subst (λ n. AllByRecursion (λ (entry : Entry O R). n < entry.stamp) (rest_of pass)) (even c pass at)
          (each_all (λ (entry : Entry O R). pass.keep.since < entry.stamp) (rest_of pass) (have c pass at).parted.left))

  -- no list changes as the clocks are raised, nor as the passes give theirs
  pub raised_rests : {O R : Type 0} (stamp : ℕ) (passes : List (PassSeen P O R)) → rests_in (map (skipped stamp) passes) ≡ rests_in passes
  raised_rests stamp [] = refl
  raised_rests stamp (pass ∷ passes) = ap (λ lists. rest_of pass ∷ lists) (raised_rests stamp passes)

  pub sectioned_lists : {O R : Type 0} (stamp : ℕ) (passes : List (PassSeen P O R)) → lists_in (map given_all (map (skipped stamp) passes)) ≡ lists_in passes
  sectioned_lists stamp [] = refl
  sectioned_lists stamp (pass ∷ passes) = ap (λ lists. mine_of pass ∷ lists) (sectioned_lists stamp passes)

  -- what the raised passes tell of their lists is so of the passes
  pub raised_parts : {O R : Type 0} (stamp : ℕ) (passes raised : List (PassSeen P O R)) → raised ≡ map (skipped stamp) passes → EachPlace (λ c pass. HasParts pass) raised
      → EachPlace (λ c pass. HasParts pass) passes
  raised_parts stamp passes raised is have c pass at =
      let there = ap (λ all. slice_get all c) is ∙ slice_get-map (skipped stamp) passes c ∙ ap (option_map (skipped stamp)) at in
      let told = have c (skipped stamp pass) there in
      record { list = told.list; parted = told.parted }

  -- all were given at one stamp
  pub since_even : {O R : Type 0} (since : ℕ) (passes : List (PassSeen P O R)) → EachPlace (λ c pass. pass.keep.since ≡ since) passes → AreEven passes
  since_even since [] even c pass at = absurd (cc)
  since_even since (first ∷ passes) even c pass at = even c pass at ∙ sym (even 0 first refl)
