-- What a worker saw of an object before a line and after it, told from the furthest and the least.
use Rattle.std.proofs.Common.{◌≡◌, ℕ, ◌+◌, ◌≤◌, Bool, true, false, ◌&&◌, List, [], ◌∷◌, ◌++◌, length, drop, fold, map, set, refl, sym, ap, ◌∙◌, inl, inr, arith}
use Rattle.std.specs.Prelude.{◌==◌, Some, slice_get, if◌then◌else◌, All}
use Rattle.std.specs.List.{AllByRecursion}
use Rattle.std.proofs.lemmas.Bool.{eqb-true, eq-eqb, and_parts, and_from}
use Rattle.std.proofs.lemmas.Bool.Decides.{nat_tests, eqb_tells}
use Rattle.std.proofs.lemmas.List.{length-set}
use Rattle.std.proofs.lemmas.Option.{same_Some, slice_get_within}
use Rattle.std.proofs.Math.ListN.{drop_of_length-le}
use Rattle.std.proofs.lemmas.List.Sums.{fold-append}
use Rattle.std.proofs.lemmas.List.Elements.{All-from_recursion, recursion_from_All}
use Rattle.k42_kinds.specs.declared.operation.Op.{Op}
use Rattle.k42_kinds.specs.declared.operation.Reply.{Reply}
use Rattle.k42_kinds.specs.declared.entry.Entry.{Entry}
use Rattle.k42_kinds.specs.Legal.{IsOwn, IsNotPast, number_carried_out}
use Rattle.record_text.specs.Told.{told}
use Rattle.record_text.specs.Referee.Marks.{Shows}
use Rattle.record_text.specs.Referee.Seen.{is_of, least, greatest, least_of, reach_of, reach_after, furthest_of}
use Rattle.record_text.specs.declared.record.RecordLine.{RecordLine}
use Rattle.record_text.specs.declared.judging.marks.Marks.{Marks}
use Rattle.k42_places.proofs.Rests.{drop_at}
use Rattle.k42_places.proofs.Written.{slice_get-set_here, slice_get-set_else}

-- a line is of the worker and the object, or it is not
own_line : (worker object : ℕ) (line : RecordLine) → is_of worker object line ≡ true → (line.worker ≡ worker) × (line.object ≡ object)
own_line worker object line is =
    let parts = and_parts (line.worker == worker) (line.object == object) is in
    (eqb-true line.worker worker parts.0, eqb-true line.object object parts.1)

of_own : (worker object : ℕ) (line : RecordLine) → line.worker ≡ worker → line.object ≡ object → is_of worker object line ≡ true
of_own worker object line w o = and_from (line.worker == worker) (line.object == object) (eq-eqb line.worker worker w) (eq-eqb line.object object o)

-- a number that is changed where the line belongs is changed by what stood there
changed : (f : ℕ → ℕ → ℕ) (g : ℕ → ℕ) (line : RecordLine) (worker object : ℕ) (b : Bool) → is_of worker object line ≡ b → (if b then g (f line.worker line.object) else f worker object) ≡ (if b then g (f worker object) else f worker object)
changed f g line worker object true is =
    let same = own_line worker object line is in
    rw (same.0, same.1) refl
changed f g line worker object false is = refl

-- one line before the others
pub shows_least : (lines : List RecordLine) (place : ℕ) (line : RecordLine) (marks : Marks) → slice_get lines place ≡ Some line
    → Shows marks (λ w o. if (line.worker == w) && (line.object == o) then least line.incarnation (least_of line.worker line.object (drop (place + 1) lines)) else least_of w o (drop (place + 1) lines))
    → Shows marks (λ w o. least_of w o (drop place lines))
shows_least lines place line marks there shows = record {
  each = λ worker object w o.
      shows.each worker object w o
      ∙ changed (λ w o. least_of w o (drop (place + 1) lines)) (least line.incarnation) line worker object (is_of worker object line) refl
      ∙ sym (ap (least_of worker object) (drop_at lines place line there));
}

-- one line after the others
pub shows_furthest : (lines : List RecordLine) (line : RecordLine) (marks : Marks)
    → Shows marks (λ w o. if (line.worker == w) && (line.object == o) then greatest (furthest_of line.worker line.object lines) (reach_of line) else furthest_of w o lines)
    → Shows marks (λ w o. furthest_of w o (lines ++ line ∷ []))
shows_furthest lines line marks shows = record {
  each = λ worker object w o.
      shows.each worker object w o
      ∙ changed (λ w o. furthest_of w o lines) (λ n. greatest n (reach_of line)) line worker object (is_of worker object line) refl
      ∙ sym (fold-append (reach_after worker object) 0 lines (line ∷ []));
}

module _ (entry : Entry Op Reply) (number : ℕ) where
  abbrev IsLateEnough : Entry Op Reply → Type 0
  IsLateEnough other = IsOwn entry other → number ≤ other.incarnation + 1

  abbrev IsEarlyEnough : Entry Op Reply → Type 0
  IsEarlyEnough other = IsOwn entry other → IsNotPast number other

  least_split : (incarnation rest : ℕ) → number ≤ least incarnation rest + 1 → (number ≤ incarnation + 1) × (number ≤ rest + 1)
  least_split incarnation rest h = (grind (arith, nat_tests, h), grind (arith, nat_tests, h))

  least_join : (incarnation rest : ℕ) → number ≤ incarnation + 1 → number ≤ rest + 1 → number ≤ least incarnation rest + 1
  least_join incarnation rest h k = grind (arith, nat_tests, h, k)

  not_own : (line : RecordLine) → is_of entry.caller entry.object line ≡ false → IsOwn entry (told line) → ⊥
  not_own line is own = cc (is, of_own entry.caller entry.object line own.caller own.object)

  late_cons : (line : RecordLine) (rest : ℕ) (b : Bool) → is_of entry.caller entry.object line ≡ b → number ≤ (if b then least line.incarnation rest else rest) + 1 → IsLateEnough (told line) × (number ≤ rest + 1)
  late_cons line rest true is h = let parts = least_split line.incarnation rest h in ((λ _. parts.0), parts.1)
  late_cons line rest false is h = ((λ own. absurd (not_own line is own)), h)

  late_from : (lines : List RecordLine) → number ≤ least_of entry.caller entry.object lines + 1 → AllByRecursion IsLateEnough (map told lines)
  late_from [] h = tt
  late_from (line ∷ lines) h =
      let parts = late_cons line (least_of entry.caller entry.object lines) (is_of entry.caller entry.object line) refl h in
      (parts.0, late_from lines parts.1)

  late_join : (line : RecordLine) (rest : ℕ) (b : Bool) → is_of entry.caller entry.object line ≡ b → IsLateEnough (told line) → number ≤ rest + 1 → number ≤ (if b then least line.incarnation rest else rest) + 1
  late_join line rest true is h k =
      let own = own_line entry.caller entry.object line is in
      least_join line.incarnation rest (h (record { caller = own.0; object = own.1 })) k
  late_join line rest false is h k = k

  late_to : number ≤ 4294967296 → (lines : List RecordLine) → AllByRecursion IsLateEnough (map told lines) → number ≤ least_of entry.caller entry.object lines + 1
  late_to fits [] all = omega (arith, fits)
  late_to fits (line ∷ lines) all = late_join line (least_of entry.caller entry.object lines) (is_of entry.caller entry.object line) refl all.0 (late_to fits lines all.1)

  -- the least tells whether all later lines are late enough
  pub all_late : (lines : List RecordLine) → number ≤ least_of entry.caller entry.object lines + 1 → All IsLateEnough (map told lines)
  all_late lines h = All-from_recursion IsLateEnough (map told lines) (late_from lines h)

  pub late_all : (lines : List RecordLine) → number ≤ 4294967296 → All IsLateEnough (map told lines) → number ≤ least_of entry.caller entry.object lines + 1
  late_all lines fits all = late_to fits lines (recursion_from_All IsLateEnough (map told lines) all)

  early_split : (reach incarnation carried : ℕ) → greatest reach (greatest incarnation carried) ≤ number → (reach ≤ number) × (incarnation ≤ number) × (carried ≤ number)
  early_split reach incarnation carried h = (grind (arith, nat_tests, h), grind (arith, nat_tests, h), grind (arith, nat_tests, h))

  early_join : (reach incarnation carried : ℕ) → reach ≤ number → incarnation ≤ number → carried ≤ number → greatest reach (greatest incarnation carried) ≤ number
  early_join reach incarnation carried a b c = grind (arith, nat_tests, a, b, c)

  early_cons : (line : RecordLine) (reach : ℕ) (b : Bool) → is_of entry.caller entry.object line ≡ b → (if b then greatest reach (reach_of line) else reach) ≤ number → (reach ≤ number) × IsEarlyEnough (told line)
  early_cons line reach true is h =
      let parts = early_split reach line.incarnation (number_carried_out line.answer) h in
      (parts.0, λ _. record { incarnation = parts.1; carried_out = parts.2 })
  early_cons line reach false is h = (h, λ own. absurd (not_own line is own))

  early_from : (lines : List RecordLine) (reach : ℕ) → fold (reach_after entry.caller entry.object) reach lines ≤ number → (reach ≤ number) × AllByRecursion IsEarlyEnough (map told lines)
  early_from [] reach h = (h, tt)
  early_from (line ∷ lines) reach h =
      let rest = early_from lines (reach_after entry.caller entry.object reach line) h in
      let here = early_cons line reach (is_of entry.caller entry.object line) refl rest.0 in
      (here.0, (here.1, rest.1))

  early_more : (line : RecordLine) (reach : ℕ) (b : Bool) → is_of entry.caller entry.object line ≡ b → reach ≤ number → IsEarlyEnough (told line) → (if b then greatest reach (reach_of line) else reach) ≤ number
  early_more line reach true is h early =
      let own = own_line entry.caller entry.object line is in
      let seen = early (record { caller = own.0; object = own.1 }) in
      early_join reach line.incarnation (number_carried_out line.answer) h seen.incarnation seen.carried_out
  early_more line reach false is h early = h

  early_to : (lines : List RecordLine) (reach : ℕ) → reach ≤ number → AllByRecursion IsEarlyEnough (map told lines) → fold (reach_after entry.caller entry.object) reach lines ≤ number
  early_to [] reach h all = h
  early_to (line ∷ lines) reach h all = early_to lines (reach_after entry.caller entry.object reach line) (early_more line reach (is_of entry.caller entry.object line) refl h all.0) all.1

  -- the furthest tells whether all earlier lines are early enough
  pub all_early : (lines : List RecordLine) → furthest_of entry.caller entry.object lines ≤ number → All IsEarlyEnough (map told lines)
  all_early lines h = All-from_recursion IsEarlyEnough (map told lines) (early_from lines 0 h).1

  pub early_all : (lines : List RecordLine) → All IsEarlyEnough (map told lines) → furthest_of entry.caller entry.object lines ≤ number
  early_all lines all = early_to lines 0 (omega arith) (recursion_from_All IsEarlyEnough (map told lines) all)

-- what was found for the lines from this place on
pub record IsBehind (lines : List RecordLine) (place : ℕ) (marks : Marks) (numbers : List ℕ) : Type 0 where
  pub size : length numbers ≡ length lines
  pub shows : Shows marks (λ worker object. least_of worker object (drop place lines))
  pub each : (other : ℕ) (line : RecordLine) → place ≤ other → slice_get lines other ≡ Some line → slice_get numbers other ≡ Some (least_of line.worker line.object (drop (other + 1) lines))

pub behind_at_end : (lines : List RecordLine) (place : ℕ) (marks : Marks) (numbers : List ℕ) → place ≡ length lines → length numbers ≡ length lines → Shows marks (λ worker object. 4294967295) → IsBehind lines place marks numbers
behind_at_end lines place marks numbers end size shows = record {
  size = size;
  shows = rw (drop_of_length-le lines {i = place} (omega (arith, end))) shows;
  each = λ other line past there. absurd (omega (arith, slice_get_within lines other line there, end, past));
}

pub behind_more : (lines : List RecordLine) (from place mark : ℕ) (line : RecordLine) (old new : Marks) (numbers : List ℕ) → from ≡ place + 1 → IsBehind lines from old numbers → slice_get lines place ≡ Some line
    → mark ≡ least_of line.worker line.object (drop from lines)
    → Shows new (λ w o. if (line.worker == w) && (line.object == o) then least line.incarnation mark else least_of w o (drop from lines))
    → IsBehind lines place new (set numbers place mark)
behind_more lines from place mark line old new numbers next behind there mark_is shows =
    let within = slice_get_within lines place line there in
    record {
      size = length-set numbers place mark ∙ behind.size;
      shows = shows_least lines place line new there (rw (← next, ← mark_is) shows);
      each = λ other one past here. elim (eqb_tells place other) [
        | inl same ↦
            let one_is : one ≡ line = same_Some one line (sym here ∙ ap (slice_get lines) (sym same.1) ∙ there) in
            ap (slice_get (set numbers place mark)) (sym same.1) ∙ slice_get-set_here numbers place mark (omega (arith, within, behind.size)) ∙ rw (one_is, ← same.1, ← next) (ap (λ (n : ℕ). Some n) mark_is)
        | inr apart ↦ slice_get-set_else numbers place other mark (λ turned. apart.1 (sym turned)) ∙ behind.each other one (omega (arith, past, next, apart.1)) here
      ];
    }
