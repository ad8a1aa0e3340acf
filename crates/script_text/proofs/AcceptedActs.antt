-- When a line that asks something of an object is accepted.
use Rattle.std.proofs.Common.{◌≡◌, ℕ, zero, suc, ◌+◌, ◌<◌, ◌^◌, Bool, true, false, cond, not, ◌&&◌, ◌||◌, ◌⊎◌, inl, inr, List, [], ◌∷◌, length, get_or, refl, sym, ap, subst, ◌∙◌, arith}
use Rattle.std.specs.Prelude.{Some, None, All, Any, option_map, slice_get, position}
use Rattle.std.specs.List.{list_any, position_or_len}
use Rattle.std.specs.Str.{bytes_eq}
use Rattle.std.specs.Option.{option_and_then}
use Rattle.std.proofs.lemmas.Bool.{and_left, and_right, not-false, lt-ltb, false≢true}
use Rattle.std.proofs.lemmas.Bool.Decides.{nat_tests}
use Rattle.std.proofs.lemmas.List.{length-map, get_or-map}
use Rattle.std.proofs.lemmas.List.Elements.{All-get_or}
use Rattle.std.proofs.lemmas.List.Folds.{list_any-from_Any}
use Rattle.std.proofs.lemmas.List.Quantifiers.{position-Some}
use Rattle.std.proofs.lemmas.Option.{same_Some, slice_get-map, slice_get-get_or, slice_get_within, get_or_from_slice_get}
use Rattle.std.proofs.lemmas.Slice.Eq.{bytes_eq-Decides}
use Rattle.k42_kinds.specs.Watched.{watched_object}
use Rattle.k42_kinds.specs.Words.{is_name, is_text}
use Rattle.k42_kinds.specs.declared.entry.Act.{Act}
use Rattle.k42_kinds.specs.declared.entry.Act.TheVariants.{Call, Swap}
use Rattle.k42_kinds.specs.declared.operation.KindName.{KindName}
use Rattle.k42_kinds.specs.declared.operation.KindName.TheVariants.{Counter}
use Rattle.k42_kinds.specs.declared.operation.LayoutName.TheVariants.{Shared}
use Rattle.k42_kinds.specs.declared.operation.Op.{Op}
use Rattle.k42_kinds.specs.declared.operation.Op.TheVariants.{Add, Get, Drain, Bind, Find, Unbind, Size, Write, Read, Dirty, Clean, Seen}
use Rattle.k42_limits.specs.declared.TheConstants.{PAGES, AMOUNTS}
use Rattle.script_text.specs.Accepted.{IsAcceptedWhere, MayAsk, BeginsCall, TakesAct, HasShortNumbers, IsOutside}
use Rattle.script_text.specs.Acts.{act_tokens}
use Rattle.script_text.specs.Forms.{name_of}
use Rattle.script_text.specs.Language.{script_after}
use Rattle.script_text.specs.Lawful.{kinds_of}
use Rattle.script_text.specs.Offences.{object_names, place_among, is_among, is_in_block, kind_asked, is_swap, is_another_kind, kind_of_named, lacks_number, lacks_word}
use Rattle.script_text.specs.Sound.{NamesPage, IsActOn, IsCall, IsFreeName, AreDistinct}
use Rattle.script_text.specs.Spelled.{IsOpInRange, IsInRange}
use Rattle.script_text.specs.declared.form.Form.TheVariants as forms
use Rattle.script_text.specs.declared.script.ObjectLine.{ObjectLine}
use Rattle.script_text.specs.declared.script.Script.{Script}
use Rattle.script_text.proofs.AcceptedForms.{test_held, range_of_below}
use Rattle.script_text.proofs.OpenBlocks.{outside_from, outside_when}
use Rattle.script_text.proofs.SoundSteps.{IsSoundSoFar}
use Rattle.script_text.proofs.SpelledLines.{accepted_where}
use Rattle.script_text.proofs.Spellings.{number_below-decimal, act_says, HasItsWord, op_said, act_said, name_of-name, form_of-act}

-- each number, key and text is in its range where the tests find each
module _ where
  op_range_when : (op : Op) → HasShortNumbers (Call op) → lacks_number (op_said op) ≡ false → lacks_word (op_said op) ≡ false → IsOpInRange op
  op_range_when (Add amount) short numbers words = range_of_below AMOUNTS amount short numbers
  op_range_when Get short numbers words = tt
  op_range_when Drain short numbers words = tt
  op_range_when (Bind key number) short numbers words = (test_held (is_name key) key words, short)
  op_range_when (Find key) short numbers words = test_held (is_name key) key words
  op_range_when (Unbind key) short numbers words = test_held (is_name key) key words
  op_range_when Size short numbers words = tt
  op_range_when (Write page text) short numbers words = (range_of_below PAGES page short numbers, test_held (is_text text) text words)
  op_range_when (Read page) short numbers words = range_of_below PAGES page short numbers
  op_range_when Dirty short numbers words = tt
  op_range_when Clean short numbers words = tt
  op_range_when Seen short numbers words = tt

  op_range_from : (op : Op) → IsOpInRange op → (lacks_number (op_said op) ≡ false) × (lacks_word (op_said op) ≡ false)
  op_range_from (Add amount) range = (rw (number_below-decimal AMOUNTS amount range (omega (arith, range))) refl, refl)
  op_range_from Get range = (refl, refl)
  op_range_from Drain range = (refl, refl)
  op_range_from (Bind key number) range = (rw (number_below-decimal (2 ^ 64) number range.1 range.1) refl, rw range.0 refl)
  op_range_from (Find key) range = (refl, rw range refl)
  op_range_from (Unbind key) range = (refl, rw range refl)
  op_range_from Size range = (refl, refl)
  op_range_from (Write page text) range = (rw (number_below-decimal PAGES page range.0 (omega (arith, range.0))) refl, rw range.1 refl)
  op_range_from (Read page) range = (rw (number_below-decimal PAGES page range (omega (arith, range))) refl, refl)
  op_range_from Dirty range = (refl, refl)
  op_range_from Clean range = (refl, refl)
  op_range_from Seen range = (refl, refl)

range_when : (act : Act Op) → HasShortNumbers act → lacks_number (act_said act) ≡ false → lacks_word (act_said act) ≡ false → IsInRange act
range_when (Call op) short numbers words = op_range_when op short numbers words
range_when (Swap to) short numbers words = short

range_from : (act : Act Op) → IsInRange act → (lacks_number (act_said act) ≡ false) × (lacks_word (act_said act) ≡ false)
range_from (Call op) range = op_range_from op range
range_from (Swap to) range = (refl, refl)

-- the test finds that another kind is asked just where an object of this kind does not take the operation
another_kind-op : (kind : KindName) (op : Op) → is_another_kind (kind_asked (op_said op)) (Some kind) ≡ not ((watched_object kind).takes op)
another_kind-op kind (Add amount) = refl
another_kind-op kind Get = refl
another_kind-op kind Drain = refl
another_kind-op kind (Bind key number) = refl
another_kind-op kind (Find key) = refl
another_kind-op kind (Unbind key) = refl
another_kind-op kind Size = refl
another_kind-op kind (Write page text) = refl
another_kind-op kind (Read page) = refl
another_kind-op kind Dirty = refl
another_kind-op kind Clean = refl
another_kind-op kind Seen = refl

page_named : (op : Op) → IsOpInRange op → NamesPage op
page_named (Add amount) range = tt
page_named Get range = tt
page_named Drain range = tt
page_named (Bind key number) range = tt
page_named (Find key) range = tt
page_named (Unbind key) range = tt
page_named Size range = tt
page_named (Write page text) range = range.0
page_named (Read page) range = range
page_named Dirty range = tt
page_named Clean range = tt
page_named Seen range = tt

-- an object of this kind takes the act where no test finds that another kind is asked
takes_when : (kind : KindName) (act : Act Op) → IsInRange act → is_another_kind (kind_asked (act_said act)) (Some kind) ≡ false → IsActOn kind act
takes_when kind (Call op) range own = (not-false _ (rw (another_kind-op kind op) at own), page_named op range)
takes_when kind (Swap to) range own = range

takes_from : (kind : KindName) (act : Act Op) → IsActOn kind act → is_another_kind (kind_asked (act_said act)) (Some kind) ≡ false
takes_from kind (Call op) takes = rw (another_kind-op kind op, takes.0) refl
takes_from kind (Swap to) takes = refl

-- the object of this name stands at this place
record FindsObject (script : Script) (name : List ℕ) : Type 0 where
  place : ℕ
  object : ObjectLine
  there : slice_get script.objects place ≡ Some object
  named : object.name ≡ name
  kind : kind_of_named script (Some name) ≡ Some object.kind

found_within : {X : Type 0} (p : X → Bool) (xs : List X) → list_any p xs ≡ true → position_or_len p xs < length xs
found_within p [] any = absurd (false≢true any)
found_within p (x ∷ xs) any = (elim (p x) as (λ b. (b || list_any p xs) ≡ true → cond (not b) (1 + position_or_len p xs) 0 < length (x ∷ xs)) [
  | true ↦ λ here. omega arith
  | false ↦ λ later. omega (arith, found_within p xs later)
]) any

found_place : {X : Type 0} (p : X → Bool) (xs : List X) → list_any p xs ≡ true → position p xs ≡ Some (position_or_len p xs)
found_place p xs any = rw (lt-ltb (position_or_len p xs) (length xs) (found_within p xs any)) refl

module _ (script : Script) (name : List ℕ) where
  finds : list_any (bytes_eq name) (object_names script) ≡ true → FindsObject script name
  finds any =
      let place : ℕ = position_or_len (bytes_eq name) (object_names script) in
      let found : place_among (object_names script) (Some name) ≡ Some place = found_place (bytes_eq name) (object_names script) any in
      let spare : ObjectLine = record { name = name; kind = Counter; layout = Shared } in
      let at = position-Some (bytes_eq name) (object_names script) place name found in
      let within : place < length script.objects = omega (arith, at.0, length-map script.objects (λ (line : ObjectLine). line.name)) in
      let there : slice_get script.objects place ≡ Some (get_or script.objects place spare) = slice_get-get_or script.objects place spare within in
      record {
        place = place;
        object = get_or script.objects place spare;
        there = there;
        named = sym (get_or-map (λ (line : ObjectLine). line.name) script.objects place spare name within) ∙ sym ((bytes_eq-Decides name (get_or (object_names script) place name)).0 at.1);
        kind = ap (option_and_then (slice_get (kinds_of script))) found ∙ slice_get-map (λ (line : ObjectLine). line.kind) script.objects place ∙ ap (option_map (λ (line : ObjectLine). line.kind)) there;
      }

  -- the object at a place, by its name
  named_at : (place : ℕ) (object : ObjectLine) → slice_get script.objects place ≡ Some object → object.name ≡ name → slice_get (object_names script) place ≡ Some name
  named_at place object there named = slice_get-map (λ (line : ObjectLine). line.name) script.objects place ∙ ap (option_map (λ (line : ObjectLine). line.name)) there ∙ ap Some named

  -- where the test finds the object, it takes the act
  takes_here : (act : Act Op) → IsInRange act → is_among (object_names script) (Some name) ≡ true → is_another_kind (kind_asked (act_said act)) (kind_of_named script (Some name)) ≡ false → Any (TakesAct name act) script.objects
  takes_here act range any own =
      let found = finds any in
      let own_kind : is_another_kind (kind_asked (act_said act)) (Some found.object.kind) ≡ false = rw found.kind at own in (
        found.place,
        found.object,
        slice_get_within script.objects found.place found.object found.there,
        get_or_from_slice_get script.objects found.place found.object found.object found.there,
        record { named = found.named; takes = takes_when found.object.kind act range own_kind },
      )

  -- and where one takes it, the test finds that one, since names differ
  taken_here : (act : Act Op) → AreDistinct (object_names script) → Any (TakesAct name act) script.objects
      → (is_among (object_names script) (Some name) ≡ true) × (is_another_kind (kind_asked (act_said act)) (kind_of_named script (Some name)) ≡ false)
  taken_here act distinct some =
      let place : ℕ = some.0 in
      let object : ObjectLine = some.1 in
      let there : slice_get script.objects place ≡ Some object = slice_get-get_or script.objects place object some.2 ∙ ap Some some.3 in
      let takes = some.4 in
      let at = named_at place object there takes.named in
      let within : place < length (object_names script) = slice_get_within (object_names script) place name at in
      let here : get_or (object_names script) place name ≡ name = get_or_from_slice_get (object_names script) place name name at in
      let any : list_any (bytes_eq name) (object_names script) ≡ true =
      list_any-from_Any (bytes_eq name) (object_names script) (place, name, within, here, (bytes_eq-Decides name name).1 refl) in
      let found = finds any in
      let same_place : found.place ≡ place = distinct found.place place name (named_at found.place found.object found.there found.named) at in
      let same : found.object ≡ object = same_Some found.object object (sym found.there ∙ ap (slice_get script.objects) same_place ∙ there) in (
        any,
        rw (found.kind, same) (takes_from object.kind act takes.takes),
      )

-- an operation is no swap
call_said : (op : Op) → is_swap (op_said op) ≡ false
call_said (Add amount) = refl
call_said Get = refl
call_said Drain = refl
call_said (Bind key number) = refl
call_said (Find key) = refl
call_said (Unbind key) = refl
call_said Size = refl
call_said (Write page text) = refl
call_said (Read page) = refl
call_said Dirty = refl
call_said Clean = refl
call_said Seen = refl

-- outside of activities anything may be asked, and inside any call
in_place_when : (script : Script) (act : Act Op) → (is_in_block script ≡ false → IsOutside script) → (is_in_block script && is_swap (act_said act)) ≡ false → IsCall act ⊎ IsOutside script
in_place_when script (Call op) outside kept = inl tt
in_place_when script (Swap to) outside kept = inr (outside (not_inside (is_in_block script) kept))
  where
    not_inside : (b : Bool) → (b && true) ≡ false → b ≡ false
    not_inside true e = e
    not_inside false e = refl

in_place_from : (script : Script) (act : Act Op) → IsCall act ⊎ IsOutside script → (is_in_block script && is_swap (act_said act)) ≡ false
in_place_from script (Call op) (inl call) = and_right (is_in_block script) (is_swap (op_said op)) (call_said op)
in_place_from script (Swap to) (inl call) = absurd call
in_place_from script act (inr outside) = and_left (is_in_block script) (is_swap (act_said act)) (outside_from script outside)

-- an object that is declared stands behind the processors
some_processor : (next : ℕ) (script : Script) → IsSoundSoFar next script → 0 < length script.workers → 0 < script.procs
some_processor next script sound some = by script.procs refl
  where
    by : (procs : ℕ) → script.procs ≡ procs → 0 < script.procs
    by zero none = absurd (omega (arith, some, ap length (sound.start none).1))
    by (suc procs) is = omega (arith, is)

-- a word that is the name of an object is a name
named_word : (names : List (List ℕ)) (word : List ℕ) → is_among names (name_of word) ≡ true → is_name word ≡ true
named_word names word = elim (is_name word) as (λ b. is_among names (cond b (Some word) None) ≡ true → b ≡ true) [ true ↦ λ there. refl | false ↦ λ there. there ]

declared_word : (script : Script) (name : List ℕ) (act : Act Op) → All (λ object. IsFreeName object.name) script.objects → Any (TakesAct name act) script.objects → is_name name ≡ true
declared_word script name act free some =
    let own : IsFreeName some.1.name = subst (λ (object : ObjectLine). IsFreeName object.name) some.3 (All-get_or (λ (object : ObjectLine). IsFreeName object.name) script.objects some.0 some.1 some.2 free) in
    subst (λ (word : List ℕ). is_name word ≡ true) some.4.named own.formed

word_when : (act : Act Op) → HasShortNumbers act → HasItsWord act
word_when (Call op) short = tt
word_when (Swap to) short = short

pub accepted_act : (before : List (List ℕ)) (name : List ℕ) (act : Act Op) → BeginsCall name → HasShortNumbers act → IsAcceptedWhere before (act_tokens name act) (MayAsk (script_after before) name act)
accepted_act before name act begins short = accepted_where before (act_tokens name act) (forms.Asks (name_of name) (act_said act)) (MayAsk script name act) (act_says name act begins.said) (form_of-act script.procs name act begins.free (word_when act short)) (λ sound are. (
  λ passes.
      let range = range_when act short passes.numbers passes.words in
      let worker : 0 < length script.workers = grind (arith, nat_tests, passes.worker) in
      let among : is_among (object_names script) (name_of name) ≡ true = not-false _ passes.declared in
      let named = name_of-name name (named_word (object_names script) name among) in
      record {
        processors = some_processor (1 + length before) script sound worker;
        declared = takes_here script name act range (rw named at among) (rw named at passes.own_kind);
        in_range = range;
        worker = worker;
        room = grind (arith, nat_tests, passes.few);
        in_place = in_place_when script act (outside_when (1 + length before) script sound) passes.in_place;
      },
  λ may.
      let range = range_from act may.in_range in
      let taken = taken_here script name act sound.names.object_names may.declared in
      let named = name_of-name name (declared_word script name act sound.names.free_objects may.declared) in
      record {
        procs = grind (arith, nat_tests, may.processors);
        known = refl;
        numbers = range.0;
        words = range.1;
        new = refl;
        declared = rw (named, taken.0) refl;
        own_kind = rw named taken.1;
        worker = grind (arith, nat_tests, may.worker);
        few = grind (arith, nat_tests, may.room);
        in_place = in_place_from script act may.in_place;
      },
))
  where
    script : Script
    script = script_after before
