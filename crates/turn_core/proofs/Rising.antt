-- Lists of entries whose stamps rise.
use Rattle.std.proofs.Common.{◌≡◌, ℕ, zero, suc, ◌-◌, ◌<◌, ◌≤◌, List, [], ◌∷◌, ◌++◌, length, ap, subst, get_or, inl, inr, arith}
use Rattle.std.specs.Prelude.{Some, slice_get}
use Rattle.std.proofs.lemmas.Option.{slice_get_within, slice_get-get_or}
use Rattle.std.proofs.lemmas.Bool.{cases_lt}
use Rattle.std.proofs.lemmas.List.{length-append}
use Rattle.k42_places.proofs.Appended.{at_push, slice_get-append_seam}
use Rattle.k42_kinds.specs.declared.entry.Entry.{Entry}
use Rattle.turn_core.specs.Stamps.{stamp_of, last_stamp}
use Rattle.turn_core.specs.Sound.{IsRising}

stamp_of-last : {O R : Type 0} (entries : List (Entry O R)) (last : Entry O R) → slice_get entries (length entries - 1) ≡ Some last → last_stamp entries ≡ last.stamp
stamp_of-last entries last e = ap stamp_of e

pub last_stamp-push : {O R : Type 0} (entries : List (Entry O R)) (entry : Entry O R) → last_stamp (entries ++ entry ∷ []) ≡ entry.stamp
last_stamp-push entries entry =
    let last : length (entries ++ entry ∷ []) - 1 ≡ length entries = omega (arith, length-append entries (entry ∷ [])) in
    rw last (ap stamp_of (slice_get-append_seam entries entry []))

-- no stamp of a list that rises is above its last
pub last-above : {O R : Type 0} (entries : List (Entry O R)) (i : ℕ) (entry : Entry O R) → IsRising entries → slice_get entries i ≡ Some entry → entry.stamp ≤ last_stamp entries
last-above entries i entry rising e =
    let within : i < length entries = slice_get_within entries i entry e in
    let last = get_or entries (length entries - 1) entry in
    let at_last : slice_get entries (length entries - 1) ≡ Some last = slice_get-get_or entries (length entries - 1) entry (omega (arith, within)) in
    elim (cases_lt i (length entries - 1)) [
      | inl before ↦ omega (arith, rising i (length entries - 1) entry last before e at_last, stamp_of-last entries last at_last)
      | inr behind ↦
          let same : i ≡ length entries - 1 = omega (arith, behind, within) in
          omega (arith, stamp_of-last entries entry (subst (λ n. slice_get entries n ≡ Some entry) same e))
    ]

pub rising-push : {O R : Type 0} (entries : List (Entry O R)) (entry : Entry O R) → IsRising entries → last_stamp entries < entry.stamp → IsRising (entries ++ entry ∷ [])
rising-push entries entry rising above i j earlier later before at_i at_j = elim (at_push entries entry j later at_j) [
  | inl old ↦ elim (at_push entries entry i earlier at_i) [
    | inl there ↦ rising i j earlier later before there.1 old.1
    | inr last ↦ absurd (omega (arith, before, old.0, last.0))
  ]
  | inr new ↦ elim (at_push entries entry i earlier at_i) [
    | inl there ↦ rw (← new.1) (omega (arith, above, last-above entries i earlier rising there.1))
    | inr last ↦ absurd (omega (arith, before, new.0, last.0))
  ]
]

pub rising-one : {O R : Type 0} (entry : Entry O R) → IsRising (entry ∷ [])
rising-one entry zero zero earlier later before at_i at_j = absurd (omega (arith, before))
rising-one entry zero (suc j) earlier later before at_i at_j = cc
rising-one entry (suc i) j earlier later before at_i at_j = cc
