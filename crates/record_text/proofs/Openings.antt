-- The line at which a text is refused is the first with which it opens no record.
use Rattle.std.proofs.Common.{◌≡◌, ◌≢◌, ◌↔◌, ℕ, zero, suc, ◌+◌, ◌^◌, ◌<◌, ◌≤◌, ◌⊎◌, Bool, true, false, cond, List, [], ◌∷◌, ◌++◌, length, map, take, refl, sym, ap, ◌∙◌, subst, inl, inr, eqb, arith}
use Rattle.std.specs.Prelude.{Option, Some, None, Result, Ok, Err}
use Rattle.std.specs.Option.{option_map_or}
use Rattle.std.specs.List.{AllByRecursion}
use Rattle.std.proofs.lemmas.Bool.{cases_order, cases_lt}
use Rattle.std.proofs.lemmas.Bool.Decides.{nat_tests}
use Rattle.std.proofs.lemmas.List.{append_assoc, append-nil, length-append, length-map}
use Rattle.std.proofs.lemmas.List.Elements.{All-from_recursion, recursion_from_All, All-weaker}
use Rattle.k42_kinds.proofs.Splits.{heads}
use Rattle.script_text.specs.Lines.{lines_of, IsWholeLine}
use Rattle.script_text.specs.Sound.{HasDistinctNames}
use Rattle.script_text.specs.declared.script.Script.{Script}
use Rattle.record_text.specs.Openings.{OpensRecord, LeavesRecordsAt, IsMadeOfLines}
use Rattle.record_text.specs.Reader.Lines.{tokens_on}
use Rattle.record_text.specs.Reader.LineParts.{version_on, line_on, count_on}
use Rattle.record_text.specs.Reading.{is_last, entries, ended, entries_on, record_on, reading, Reads}
use Rattle.record_text.specs.Spelling.{HasSpelling, IsOfVersion, IsVersion, HasText}
use Rattle.record_text.specs.Texts.{line_tokens, line_text, first_tokens, last_tokens, record_text}
use Rattle.record_text.specs.Tokens.{spaced, line_with}
use Rattle.record_text.specs.Values.{FitsLine, FitsRecord}
use Rattle.record_text.specs.declared.ending.RecordEnd.{RecordEnd}
use Rattle.record_text.specs.declared.ending.RecordEnd.TheVariants.{Misspelt}
use Rattle.record_text.specs.declared.record.Record.{Record}
use Rattle.record_text.specs.declared.record.RecordLine.{RecordLine}
use Rattle.record_text.proofs.Reader.Entries.{line_takes}
use Rattle.record_text.proofs.Reader.Extras.{version_takes, count_takes}
use Rattle.record_text.proofs.Reader.Records.{counts, reading_takes, reading_again, length-lines_of, lines_of_record, from_1_to_2, first_solid, last_solid}
use Rattle.record_text.proofs.Reader.SolidTokens.{are_solid, line_of_tokens, spaced-without}
use Rattle.record_text.proofs.Reader.SolidLines.{line_solid}

err_is : (m n : ℕ) → ◌≡◌ {A = Result Record ℕ} (Err m) (Err n) → m ≡ n
err_is m n e = cc

ok_is_no_err : (written : Record) (n : ℕ) → ◌≡◌ {A = Result Record ℕ} (Ok written) (Err n) → ⊥
ok_is_no_err written n e = cc

-- ---- how a line that is no entry's is refused

-- the line is no last line, or a line stands behind the last
abbrev IsRefusedThere : Bool → ℕ → ℕ → ℕ → Type 0
IsRefusedThere last count behind n = ((last ≡ false) × (n ≡ count + 2)) ⊎ ((last ≡ true) × (n ≡ count + 3) × (0 < behind))

refused_alone : (last : Bool) (value : Record) (count n : ℕ) → ◌≡◌ {A = Result Record ℕ} (cond last (Ok value) (Err (count + 2))) (Err n) → IsRefusedThere last count 0 n
refused_alone true value count n e = absurd (ok_is_no_err value n e)
refused_alone false value count n e = inl (refl, sym (err_is (count + 2) n e))

refused_before : (last : Bool) (count behind n : ℕ) → 0 < behind → ◌≡◌ {A = Result Record ℕ} (cond last (Err (count + 3)) (Err (count + 2))) (Err n) → IsRefusedThere last count behind n
refused_before true count behind n some e = inr (refl, sym (err_is (count + 3) n e), some)
refused_before false count behind n some e = inl (refl, sym (err_is (count + 2) n e))

ended_refused : (version : ℕ) (before : List RecordLine) (tokens : List (List ℕ)) (lines : List (List ℕ)) (n : ℕ) → ended version before tokens lines ≡ Err n → IsRefusedThere (is_last (length before) tokens) (length before) (length lines) n
ended_refused version before tokens [] n e = refused_alone (is_last (length before) tokens) (entries version before) (length before) n e
ended_refused version before tokens (line ∷ lines) n e = refused_before (is_last (length before) tokens) (length before) (length (line ∷ lines)) n (omega arith) e

no_last_refused : (version : ℕ) (before : List RecordLine) (tokens : List (List ℕ)) (lines : List (List ℕ)) → is_last (length before) tokens ≡ false → ended version before tokens lines ≡ Err (length before + 2)
no_last_refused version before tokens [] other = rw other refl
no_last_refused version before tokens (line ∷ lines) other = rw other refl

more_refused : (version : ℕ) (before : List RecordLine) (tokens : List (List ℕ)) (lines : List (List ℕ)) → is_last (length before) tokens ≡ true → 0 < length lines → ended version before tokens lines ≡ Err (length before + 3)
more_refused version before tokens [] last some = absurd (omega (arith, some))
more_refused version before tokens (line ∷ lines) last some = rw last refl

-- where a front is not empty, what has the same front is not
some_taken : {X : Type 0} (m : ℕ) (xs ys : List X) → take m xs ≡ take m ys → 0 < m → 0 < length xs → 0 < length ys
some_taken zero xs ys same more some = absurd (omega (arith, more))
some_taken (suc m) [] ys same more some = absurd (omega (arith, some))
some_taken (suc m) (x ∷ xs) [] same more some = cc
some_taken (suc m) (x ∷ xs) (y ∷ ys) same more some = omega arith

module _ (script : Script) (version : ℕ) where
  -- the number of a line that is refused among these, or of the one behind them
  record IsAmong (before : List RecordLine) (lines : List (List ℕ)) (n : ℕ) : Type 0 where
    above : length before + 2 ≤ n
    below : n ≤ length before + 2 + length lines

  among : (before : List RecordLine) (line : List ℕ) (lines : List (List ℕ)) (n : ℕ) (found : Option RecordLine)
      → ((after : List RecordLine) → entries_on script version after lines ≡ Err n → IsAmong after lines n)
      → option_map_or (λ entry. entries_on script version (before ++ entry ∷ []) lines) found (ended version before (tokens_on line) lines) ≡ Err n → IsAmong before (line ∷ lines) n
  among before line lines n None others e = elim (ended_refused version before (tokens_on line) lines n e) [
    | inl this ↦ record { above = omega (arith, this.1); below = omega (arith, this.1) }
    | inr next ↦ record { above = omega (arith, next.1); below = omega (arith, next.1, next.2) }
  ]
  among before line lines n (Some entry) others e =
      let rest = others (before ++ entry ∷ []) e in
      record { above = omega (arith, rest.above, length-append before (entry ∷ [])); below = omega (arith, rest.below, length-append before (entry ∷ [])) }

  refused_among : (before : List RecordLine) (lines : List (List ℕ)) (n : ℕ) → entries_on script version before lines ≡ Err n → IsAmong before lines n
  refused_among before [] n e = record { above = omega (arith, err_is (length before + 2) n e); below = omega (arith, err_is (length before + 2) n e) }
  refused_among before (line ∷ lines) n e = among before line lines n (line_on script version (tokens_on line)) (λ after next. refused_among after lines n next) e

  -- ---- lines that begin alike are refused alike

  alike : (before : List RecordLine) (tokens lines others : List (List ℕ)) (n m : ℕ) (found : Option RecordLine) → n ≡ length before + 1 + suc m → take m lines ≡ take m others
      → ((after : List RecordLine) → entries_on script version after lines ≡ Err n → n ≡ length after + 1 + m → entries_on script version after others ≡ Err n)
      → option_map_or (λ entry. entries_on script version (before ++ entry ∷ []) lines) found (ended version before tokens lines) ≡ Err n
      → option_map_or (λ entry. entries_on script version (before ++ entry ∷ []) others) found (ended version before tokens others) ≡ Err n
  alike before tokens lines others n m None there same more e = elim (ended_refused version before tokens lines n e) [
    | inl this ↦ rw this.1 (no_last_refused version before tokens others this.0)
    | inr next ↦ rw next.1 (more_refused version before tokens others next.0 (some_taken m lines others same (omega (arith, there, next.1)) next.2))
  ]
  alike before tokens lines others n m (Some entry) there same more e = more (before ++ entry ∷ []) e (omega (arith, there, length-append before (entry ∷ [])))

  refused_alike : (before : List RecordLine) (lines others : List (List ℕ)) (n m : ℕ) → entries_on script version before lines ≡ Err n → n ≡ length before + 1 + m → m ≤ length lines → take m lines ≡ take m others → entries_on script version before others ≡ Err n
  refused_alike before [] others n m e there within same = absurd (omega (arith, (refused_among before [] n e).above, there, within))
  refused_alike before (line ∷ lines) others n zero e there within same = absurd (omega (arith, (refused_among before (line ∷ lines) n e).above, there))
  refused_alike before (line ∷ lines) [] n (suc m) e there within same = cc
  refused_alike before (line ∷ lines) (other ∷ others) n (suc m) e there within same =
      let parts = heads line other (take m lines) (take m others) same in
      subst (λ (l : List ℕ). entries_on script version before (l ∷ others) ≡ Err n) parts.head
      (alike before (tokens_on line) lines others n m (line_on script version (tokens_on line)) there parts.tail (λ after next at. refused_alike after lines others n m next at (omega (arith, within)) parts.tail) e)

  -- ---- the lines before the one that is refused open a record

  record OpensBehind (before : List RecordLine) (lines : List (List ℕ)) (m : ℕ) : Type 0 where
    more : List RecordLine
    has : AllByRecursion (HasSpelling script) more
    told : AllByRecursion (IsOfVersion version) more
    fits : AllByRecursion FitsLine more
    short : length more ≤ m
    opens : take m (map (line_text script) more ++ line_with (last_tokens (length (before ++ more))) ∷ []) ≡ take m lines

  none_behind : (before : List RecordLine) (lines : List (List ℕ)) → OpensBehind before lines 0
  none_behind before lines = record { more = []; has = tt; told = tt; fits = tt; short = omega arith; opens = refl }

  last_behind : (before : List RecordLine) (line : List ℕ) (lines : List (List ℕ)) → is_last (length before) (tokens_on line) ≡ true → OpensBehind before (line ∷ lines) 1
  last_behind before line lines last =
      let count = count_takes (tokens_on line) (length before) (counts (count_on (tokens_on line)) (length before) last) in
      let spelled : line ≡ line_with (last_tokens (length before)) = line_of_tokens line (last_tokens (length before)) (omega arith) count.0 in
      record {
        more = [];
        has = tt;
        told = tt;
        fits = tt;
        short = omega arith;
        opens = ap (λ (l : List RecordLine). line_with (last_tokens (length l)) ∷ []) (append-nil before) ∙ ap (λ (l : List ℕ). l ∷ []) (sym spelled);
      }

  behind : (before : List RecordLine) (line : List ℕ) (lines : List (List ℕ)) (n m : ℕ) (found : Option RecordLine) → IsVersion version → line_on script version (tokens_on line) ≡ found → length before + 1 + suc m < n
      → ((after : List RecordLine) → entries_on script version after lines ≡ Err n → length after + 1 + m < n → OpensBehind after lines m)
      → option_map_or (λ entry. entries_on script version (before ++ entry ∷ []) lines) found (ended version before (tokens_on line) lines) ≡ Err n → OpensBehind before (line ∷ lines) (suc m)
  behind before line lines n m None is there under others e = elim (ended_refused version before (tokens_on line) lines n e) [
    | inl this ↦ absurd (omega (arith, this.1, under))
    | inr next ↦ let first : suc m ≡ 1 = omega (arith, next.1, under) in rw first (last_behind before line lines next.0)
  ]
  behind before line lines n m (Some entry) is there under others e =
      let own = line_takes script version (tokens_on line) entry is there in
      let spelled : line ≡ line_text script entry = line_of_tokens line (line_tokens script entry) (omega arith) own.spelled in
      let rest = others (before ++ entry ∷ []) e (omega (arith, under, length-append before (entry ∷ []))) in
      let front : take m (map (line_text script) rest.more ++ line_with (last_tokens (length (before ++ entry ∷ rest.more))) ∷ []) ≡ take m lines =
      ap (λ (l : List RecordLine). take m (map (line_text script) rest.more ++ line_with (last_tokens (length l)) ∷ [])) (sym (append_assoc before (entry ∷ []) rest.more)) ∙ rest.opens in
      record {
        more = entry ∷ rest.more;
        has = (own.has, rest.has);
        told = (own.of_version, rest.told);
        fits = (own.fits, rest.fits);
        short = omega (arith, rest.short);
        opens = ap (λ (l : List (List ℕ)). line_text script entry ∷ l) front ∙ ap (λ (l : List ℕ). l ∷ take m lines) (sym spelled);
      }

  opens_behind : IsVersion version → (before : List RecordLine) (lines : List (List ℕ)) (n m : ℕ) → entries_on script version before lines ≡ Err n → length before + 1 + m < n → OpensBehind before lines m
  opens_behind is before lines n zero e under = none_behind before lines
  opens_behind is before [] n (suc m) e under = absurd (omega (arith, err_is (length before + 2) n e, under))
  opens_behind is before (line ∷ lines) n (suc m) e under =
      behind before line lines n m (line_on script version (tokens_on line)) is refl under (λ after next at. opens_behind is after lines n m next at) e

-- ---- the same with the first line

module _ (script : Script) where
  first_among : (lines : List (List ℕ)) (n : ℕ) (found : Option ℕ) → option_map_or (λ version. entries_on script version [] lines) found (Err 1) ≡ Err n → (1 ≤ n) × (n ≤ 2 + length lines)
  first_among lines n None e = (omega (arith, err_is 1 n e), omega (arith, err_is 1 n e))
  first_among lines n (Some version) e = let rest = refused_among script version [] lines n e in (omega (arith, rest.above), omega (arith, rest.below))

  record_among : (lines : List (List ℕ)) (n : ℕ) → record_on script lines ≡ Err n → (1 ≤ n) × (n ≤ length lines + 1)
  record_among [] n e = (omega (arith, err_is 1 n e), omega (arith, err_is 1 n e))
  record_among (line ∷ lines) n e = let first = first_among lines n (version_on (tokens_on line)) e in (first.0, omega (arith, first.1))

  first_alike : (lines others : List (List ℕ)) (n : ℕ) (found : Option ℕ) → n ≤ length lines → take n lines ≡ take n others → option_map_or (λ version. entries_on script version [] lines) found (Err 1) ≡ Err (suc n) → option_map_or (λ version. entries_on script version [] others) found (Err 1) ≡ Err (suc n)
  first_alike lines others n None within same e = e
  first_alike lines others n (Some version) within same e = refused_alike script version [] lines others (suc n) n e (omega arith) within same

  record_alike : (lines others : List (List ℕ)) (n : ℕ) → record_on script lines ≡ Err n → n ≤ length lines → take n lines ≡ take n others → record_on script others ≡ Err n
  record_alike [] others n e within same = absurd (omega (arith, (record_among [] n e).0, within))
  record_alike (line ∷ lines) others zero e within same = absurd (omega (arith, (record_among (line ∷ lines) 0 e).0))
  record_alike (line ∷ lines) [] (suc n) e within same = cc
  record_alike (line ∷ lines) (other ∷ others) (suc n) e within same =
      let parts = heads line other (take n lines) (take n others) same in
      subst (λ (l : List ℕ). record_on script (l ∷ others) ≡ Err (suc n)) parts.head (first_alike lines others n (version_on (tokens_on line)) (omega (arith, within)) parts.tail e)

  module _ (bytes : List ℕ) (names : HasDistinctNames script) where
    -- the record without entries opens with no line
    opens_with_none : OpensRecord script bytes 0
    opens_with_none = record {
      written = record { lines = []; version = 1 };
      has = record { version = inl refl; spelled = All-from_recursion (HasSpelling script) [] tt; told = All-from_recursion (IsOfVersion 1) [] tt };
      fits = record { lines = All-from_recursion FitsLine [] tt; few = omega arith };
      opens = refl;
    }

    opens_with : (version : ℕ) (line : List ℕ) (lines : List (List ℕ)) (m : ℕ) → IsVersion version → line ≡ line_with (first_tokens version) → line ∷ lines ≡ lines_of bytes → m < 2 ^ 64 → OpensBehind script version [] lines m → OpensRecord script bytes (suc m)
    opens_with version line lines m is spelled lines_are small opened =
        let written : Record = entries version opened.more in
        let range = from_1_to_2 version is in
        let few : length opened.more < 2 ^ 64 = omega (arith, opened.short, small) in
        let text = lines_of_record script written names opened.has opened.fits (omega (arith, range.1)) few in
        record {
          written = written;
          has = record { version = is; spelled = All-from_recursion (HasSpelling script) opened.more opened.has; told = All-from_recursion (IsOfVersion version) opened.more opened.told };
          fits = record { lines = All-from_recursion FitsLine opened.more opened.fits; few = few };
          opens = ap (take (suc m)) text ∙ ap (λ (l : List (List ℕ)). line_with (first_tokens version) ∷ l) opened.opens ∙ ap (λ (l : List ℕ). l ∷ take m lines) (sym spelled) ∙ ap (take (suc m)) lines_are;
        }

    first_opens : (line : List ℕ) (lines : List (List ℕ)) (n m : ℕ) (found : Option ℕ) → version_on (tokens_on line) ≡ found → line ∷ lines ≡ lines_of bytes → length (line ∷ lines) < 2 ^ 64 → suc m < n
        → option_map_or (λ version. entries_on script version [] lines) found (Err 1) ≡ Err n → OpensRecord script bytes (suc m)
    first_opens line lines n m None there lines_are small under e = absurd (omega (arith, err_is 1 n e, under))
    first_opens line lines n m (Some version) there lines_are small under e =
        let first = version_takes (tokens_on line) version there in
        let spelled : line ≡ line_with (first_tokens version) = line_of_tokens line (first_tokens version) (omega arith) first.0 in
        opens_with version line lines m first.1 spelled lines_are (omega (arith, small, under, (refused_among script version [] lines n e).below)) (opens_behind script version first.1 [] lines n m e (omega (arith, under)))

    opens_before : (lines : List (List ℕ)) (n count : ℕ) → lines ≡ lines_of bytes → length lines < 2 ^ 64 → record_on script lines ≡ Err n → count < n → OpensRecord script bytes count
    opens_before lines n zero lines_are small e under = opens_with_none
    opens_before [] n (suc m) lines_are small e under = absurd (omega (arith, err_is 1 n e, under))
    opens_before (line ∷ lines) n (suc m) lines_are small e under = first_opens line lines n m (version_on (tokens_on line)) refl lines_are small under e

    foreign_there : (n : ℕ) → reading script bytes ≡ Err n → n ≤ length (lines_of bytes) → OpensRecord script bytes n → ⊥
    foreign_there n e within opened =
        let refused : reading script (record_text script opened.written) ≡ Err n = record_alike (lines_of bytes) (lines_of (record_text script opened.written)) n e within (sym opened.opens) in
        ok_is_no_err opened.written n (sym (reading_again script opened.written names opened.has opened.fits) ∙ refused)

    leaves : (n : ℕ) → length bytes < 2 ^ 64 → reading script bytes ≡ Err n → LeavesRecordsAt script bytes n
    leaves n small e = record {
      before = λ count under. opens_before (lines_of bytes) n count refl (omega (arith, small, length-lines_of bytes)) e under;
      foreign = λ within opened. foreign_there n e within opened;
      reached = (record_among (lines_of bytes) n e).1;
      no_text = λ written has fits same. ok_is_no_err written n (sym (reading_again script written names has fits) ∙ ap (reading script) same ∙ e);
    }

    not_earlier : (m n : ℕ) → m < n → LeavesRecordsAt script bytes m → LeavesRecordsAt script bytes n → ⊥
    not_earlier m n under first second = elim (cases_lt (length (lines_of bytes)) m) [
      | inl past ↦ absurd (omega (arith, past, under, second.reached))
      | inr within ↦ first.foreign within (second.before m under)
    ]

    one_leave : (m n : ℕ) → LeavesRecordsAt script bytes m → LeavesRecordsAt script bytes n → m ≡ n
    one_leave m n first second = elim (cases_order m n) [
      | inl same ↦ same
      | inr (inl under) ↦ absurd (not_earlier m n under first second)
      | inr (inr over) ↦ absurd (not_earlier n m over second first)
    ]

    left_there : (n : ℕ) (due : Result Record ℕ) → length bytes < 2 ^ 64 → reading script bytes ≡ due → LeavesRecordsAt script bytes n → due ≡ Err n
    left_there n (Ok written) small e left = let takes = reading_takes script bytes written e in absurd (left.no_text written takes.has takes.fits takes.text)
    left_there n (Err m) small e left = ap (λ (line : ℕ). Err line) (one_leave m n (leaves m small e) left)

    -- the text is refused at just the first line with which it opens no record
    pub refused_where_left : (n : ℕ) → length bytes < 2 ^ 64 → reading script bytes ≡ Err n ↔ LeavesRecordsAt script bytes n
    refused_where_left n small = (leaves n small, left_there n (reading script bytes) small refl)

-- what is answered as misspelt is the first line with which the bytes open no record
pub misspelt_leaves : (script : Script) (bytes : List ℕ) (result : Result Record RecordEnd) (line : ℕ) → HasDistinctNames script → length bytes < 2 ^ 31 → Reads (reading script bytes) result → result ≡ Err (Misspelt line) → LeavesRecordsAt script bytes line
misspelt_leaves script bytes result line names short answer is =
    (refused_where_left script bytes names line (omega (arith, short))).0 (subst (λ (r : Result Record RecordEnd). Reads (reading script bytes) r) is answer)

-- ---- each line is whole

is_other : (byte : ℕ) → eqb byte 10 ≡ false → byte ≢ 10
is_other byte e same = grind (arith, nat_tests, e, same)

whole_line : (tokens : List (List ℕ)) → 0 < length tokens → are_solid tokens ≡ true → IsWholeLine (line_with tokens)
whole_line [] some solid = absurd (omega (arith, some))
whole_line (token ∷ tokens) some solid = record {
  body = spaced (token ∷ tokens);
  ended = refl;
  only = All-weaker (λ (b : ℕ). eqb b 10 ≡ false) (λ (b : ℕ). b ≢ 10) is_other (spaced (token ∷ tokens)) (All-from_recursion (λ (b : ℕ). eqb b 10 ≡ false) (spaced (token ∷ tokens)) (spaced-without token tokens solid));
}

whole_lines : (script : Script) (more : List RecordLine) (count : ℕ) → HasDistinctNames script → AllByRecursion (HasSpelling script) more → AllByRecursion FitsLine more → count < 2 ^ 64 → AllByRecursion IsWholeLine (map (line_text script) more ++ line_with (last_tokens count) ∷ [])
whole_lines script [] count names has fits few = (whole_line (last_tokens count) (omega arith) (last_solid count few), tt)
whole_lines script (line ∷ more) count names has fits few = (whole_line (line_tokens script line) (omega arith) (line_solid script line names has.0 fits.0), whole_lines script more count names has.1 fits.1 few)

-- the text of a record is its lines
pub made_of_lines : (script : Script) (written : Record) → HasDistinctNames script → HasText script written → FitsRecord written → IsMadeOfLines (record_text script written) (length written.lines)
made_of_lines script written names has fits =
    let spelled = recursion_from_All (HasSpelling script) written.lines has.spelled in
    let each = recursion_from_All FitsLine written.lines fits.lines in
    let range = from_1_to_2 written.version has.version in
    let small : written.version < 2 ^ 64 = omega (arith, range.1) in
    let last = line_with (last_tokens (length written.lines)) in
    let text = lines_of_record script written names spelled each small fits.few in
    record {
      count = ap length text ∙ omega (arith, length-append (map (line_text script) written.lines) (last ∷ []), length-map written.lines (line_text script));
      whole = rw text (All-from_recursion IsWholeLine (line_with (first_tokens written.version) ∷ (map (line_text script) written.lines ++ last ∷ []))
          (whole_line (first_tokens written.version) (omega arith) (first_solid written.version small), whole_lines script written.lines (length written.lines) names spelled each fits.few));
    }
