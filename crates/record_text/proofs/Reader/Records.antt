-- A record that is read has just this text, and the text of a record is read.
use Rattle.std.proofs.Common.{◌≡◌, ℕ, suc, ◌+◌, ◌^◌, ◌<◌, ◌≤◌, Bool, true, false, cond, List, [], ◌∷◌, ◌++◌, length, map, refl, sym, ap, subst, ◌∙◌, eqb, eq-eqb, arith, inl, inr}
use Rattle.std.specs.Prelude.{All, Option, Some, None, Result, Ok, Err, IfOk, codes}
use Rattle.std.specs.Option.{option_map_or}
use Rattle.std.specs.Fmt.{decimal}
use Rattle.std.specs.List.{AllByRecursion, concat, flat_map}
use Rattle.std.proofs.lemmas.Bool.Decides.{nat_tests}
use Rattle.std.proofs.lemmas.List.{append_assoc, append-nil}
use Rattle.std.proofs.lemmas.List.Elements.{All-from_recursion, recursion_from_All}
use Rattle.script_text.specs.Lines.{lines_of, onto_first_line}
use Rattle.script_text.specs.Sound.{HasDistinctNames}
use Rattle.script_text.specs.declared.script.Script.{Script}
use Rattle.script_text.proofs.LineCuts.{concat-lines_of}
use Rattle.record_text.specs.Tokens.{line_with}
use Rattle.record_text.specs.Reader.Lines.{tokens_on}
use Rattle.record_text.specs.Texts.{line_tokens, line_text, first_tokens, last_tokens, record_text}
use Rattle.record_text.specs.Spelling.{HasSpelling, IsOfVersion, IsVersion, HasText}
use Rattle.record_text.specs.Values.{FitsLine, FitsRecord}
use Rattle.record_text.specs.Reader.LineParts.{version_on, line_on, count_on}
use Rattle.record_text.specs.Reader.Parts.{spelled_at}
use Rattle.record_text.specs.Reading.{is_last, entries, ended, entries_on, record_on, reading, Reads}
use Rattle.record_text.specs.declared.ending.RecordEnd.{RecordEnd}
use Rattle.record_text.specs.declared.record.RecordLine.{RecordLine}
use Rattle.record_text.specs.declared.record.Record.{Record}
use Rattle.record_text.proofs.Reader.Extras.{version_takes, version_again, count_takes, count_again}
use Rattle.record_text.proofs.Reader.Entries.{line_takes, line_again}
use Rattle.record_text.proofs.Reader.SolidTokens.{are_solid, decimal_solid, line_of_tokens, tokens_of_line, lines_of_line}
use Rattle.record_text.proofs.Reader.SolidLines.{line_solid, two_solid, three_solid}

-- the entries of these lines, behind those before
record TakesEntries (script : Script) (version : ℕ) (before : List RecordLine) (lines : List (List ℕ)) (written : Record) : Type 0 where
  more : List RecordLine
  same : written.version ≡ version
  all : written.lines ≡ before ++ more
  text : concat lines ≡ flat_map (line_text script) more ++ line_with (last_tokens (length written.lines))
  has : AllByRecursion (HasSpelling script) more
  told : AllByRecursion (IsOfVersion version) more
  fits : AllByRecursion FitsLine more
  short : length more < length lines
  few : length written.lines < 2 ^ 64

ok_passed : (test : Bool) (value written : Record) (n : ℕ) → ◌≡◌ {A = Result Record ℕ} (cond test (Ok value) (Err n)) (Ok written) → (test ≡ true) × (value ≡ written)
ok_passed true value written n e = (refl, cc)
ok_passed false value written n e = absurd cc

both_err : (test : Bool) (m n : ℕ) (written : Record) → ◌≡◌ {A = Result Record ℕ} (cond test (Err m) (Err n)) (Ok written) → ⊥
both_err true m n written e = absurd cc
both_err false m n written e = absurd cc

-- the count that the last line tells
pub counts : (found : Option ℕ) (count : ℕ) → option_map_or (λ told. eqb told count) found false ≡ true → found ≡ Some count
counts None count e = absurd cc
counts (Some told) count e = ap (λ (n : ℕ). Some n) (grind (arith, nat_tests, e))

ended_takes : (script : Script) (version : ℕ) (before : List RecordLine) (line : List ℕ) (lines : List (List ℕ)) (written : Record) → ended version before (tokens_on line) lines ≡ Ok written → TakesEntries script version before (line ∷ lines) written
ended_takes script version before line (next ∷ lines) written e = absurd (both_err (is_last (length before) (tokens_on line)) (length before + 3) (length before + 2) written e)
ended_takes script version before line [] written e =
    let last = ok_passed (is_last (length before) (tokens_on line)) (entries version before) written (length before + 2) e in
    let count = count_takes (tokens_on line) (length before) (counts (count_on (tokens_on line)) (length before) last.0) in
    let spelled : line ≡ line_with (last_tokens (length before)) = line_of_tokens line (last_tokens (length before)) (omega arith) count.0 in
    subst (λ (r : Record). TakesEntries script version before (line ∷ []) r) last.1 (record {
      more = [];
      same = refl;
      all = sym (append-nil before);
      text = append-nil line ∙ spelled;
      has = tt;
      told = tt;
      fits = tt;
      short = omega arith;
      few = count.1;
    })

entry_takes : (script : Script) (version : ℕ) (before : List RecordLine) (line : List ℕ) (lines : List (List ℕ)) (written : Record) (entry : RecordLine) → IsVersion version → line_on script version (tokens_on line) ≡ Some entry
    → TakesEntries script version (before ++ entry ∷ []) lines written → TakesEntries script version before (line ∷ lines) written
entry_takes script version before line lines written entry is e others =
    let own = line_takes script version (tokens_on line) entry is e in
    let spelled : line ≡ line_text script entry = line_of_tokens line (line_tokens script entry) (omega arith) own.spelled in
    let last = line_with (last_tokens (length written.lines)) in
    record {
      more = entry ∷ others.more;
      same = others.same;
      all = others.all ∙ append_assoc before (entry ∷ []) others.more;
      text = ap (λ (text : List ℕ). text ++ concat lines) spelled ∙ ap (λ (text : List ℕ). line_text script entry ++ text) others.text ∙ sym (append_assoc (line_text script entry) (flat_map (line_text script) others.more) last);
      has = (own.has, others.has);
      told = (own.of_version, others.told);
      fits = (own.fits, others.fits);
      short = omega (arith, others.short);
      few = others.few;
    }

either_takes : (script : Script) (version : ℕ) (before : List RecordLine) (line : List ℕ) (lines : List (List ℕ)) (written : Record) (found : Option RecordLine) → IsVersion version → line_on script version (tokens_on line) ≡ found
    → ((after : List RecordLine) → entries_on script version after lines ≡ Ok written → TakesEntries script version after lines written)
    → option_map_or (λ entry. entries_on script version (before ++ entry ∷ []) lines) found (ended version before (tokens_on line) lines) ≡ Ok written → TakesEntries script version before (line ∷ lines) written
either_takes script version before line lines written None is found others e = ended_takes script version before line lines written e
either_takes script version before line lines written (Some entry) is found others e = entry_takes script version before line lines written entry is found (others (before ++ entry ∷ []) e)

entries_takes : (script : Script) (version : ℕ) (before : List RecordLine) (lines : List (List ℕ)) (written : Record) → IsVersion version → entries_on script version before lines ≡ Ok written → TakesEntries script version before lines written
entries_takes script version before [] written is e = absurd cc
entries_takes script version before (line ∷ lines) written is e =
    either_takes script version before line lines written (line_on script version (tokens_on line)) is refl (λ after next. entries_takes script version after lines written is next) e

-- the record of these lines
record TakesRecord (script : Script) (lines : List (List ℕ)) (written : Record) : Type 0 where
  text : record_text script written ≡ concat lines
  has : HasText script written
  fits : FitsRecord written
  short : length written.lines ≤ length lines

told_as : (version own : ℕ) (lines more : List RecordLine) → own ≡ version → lines ≡ more → All (IsOfVersion version) more → All (IsOfVersion own) lines
told_as version own lines more same all told = rw (same, all) told

version_then : (script : Script) (line : List ℕ) (lines : List (List ℕ)) (written : Record) (found : Option ℕ) → version_on (tokens_on line) ≡ found
    → option_map_or (λ version. entries_on script version [] lines) found (Err 1) ≡ Ok written → TakesRecord script (line ∷ lines) written
version_then script line lines written None found e = absurd cc
version_then script line lines written (Some version) found e =
    let first = version_takes (tokens_on line) version found in
    let others = entries_takes script version [] lines written first.1 e in
    let spelled : line ≡ line_with (first_tokens version) = line_of_tokens line (first_tokens version) (omega arith) first.0 in
    let last = line_with (last_tokens (length written.lines)) in
    let middle = flat_map (line_text script) written.lines in
    let behind : concat lines ≡ middle ++ last = others.text ∙ ap (λ (more : List RecordLine). flat_map (line_text script) more ++ last) (sym others.all) in
    record {
      text = ap (λ (v : ℕ). line_with (first_tokens v) ++ middle ++ last) others.same ∙ append_assoc (line_with (first_tokens version)) middle last ∙ ap (λ (text : List ℕ). line_with (first_tokens version) ++ text) (sym behind) ∙ ap (λ (text : List ℕ). text ++ concat lines) (sym spelled);
      has = record {
        version = rw others.same first.1;
        spelled = rw others.all (All-from_recursion (HasSpelling script) others.more others.has);
        told = told_as version written.version written.lines others.more others.same others.all (All-from_recursion (IsOfVersion version) others.more others.told);
      };
      fits = record {
        lines = rw others.all (All-from_recursion FitsLine others.more others.fits);
        few = others.few;
      };
      short = rw others.all (omega (arith, others.short));
    }

length-onto : (byte : ℕ) (lines : List (List ℕ)) → length (onto_first_line byte lines) ≤ suc (length lines)
length-onto byte [] = omega arith
length-onto byte (line ∷ lines) = omega arith

fewer_lines : (byte : ℕ) (test : Bool) (lines : List (List ℕ)) (n : ℕ) → length lines ≤ n → length (cond test ((byte ∷ []) ∷ lines) (onto_first_line byte lines)) ≤ suc n
fewer_lines byte true lines n few = omega (arith, few)
fewer_lines byte false lines n few = omega (arith, few, length-onto byte lines)

-- a text has no more lines than bytes
pub length-lines_of : (bytes : List ℕ) → length (lines_of bytes) ≤ length bytes
length-lines_of [] = omega arith
length-lines_of (byte ∷ bytes) = fewer_lines byte (eqb byte 10) (lines_of bytes) (length bytes) (length-lines_of bytes)

-- what is read is the record of just this text
pub record ReadsText (script : Script) (bytes : List ℕ) (written : Record) : Type 0 where
  pub text : record_text script written ≡ bytes
  pub has : HasText script written
  pub fits : FitsRecord written
  pub short : length written.lines ≤ length bytes

record_takes : (script : Script) (lines : List (List ℕ)) (written : Record) → record_on script lines ≡ Ok written → TakesRecord script lines written
record_takes script [] written e = absurd cc
record_takes script (line ∷ lines) written e = version_then script line lines written (version_on (tokens_on line)) refl e

pub reading_takes : (script : Script) (bytes : List ℕ) (written : Record) → reading script bytes ≡ Ok written → ReadsText script bytes written
reading_takes script bytes written e =
    let takes = record_takes script (lines_of bytes) written e in
    record {
      text = takes.text ∙ concat-lines_of bytes;
      has = takes.has;
      fits = takes.fits;
      short = omega (arith, takes.short, length-lines_of bytes);
    }

-- ---- what is spelled is read

pub last_solid : (count : ℕ) → count < 2 ^ 64 → are_solid (last_tokens count) ≡ true
last_solid count small = two_solid (codes "end") (decimal count) refl (decimal_solid count small)

pub first_solid : (version : ℕ) → version < 2 ^ 64 → are_solid (first_tokens version) ≡ true
first_solid version small = three_solid (codes "k42") (codes "record") (decimal version) refl refl (decimal_solid version small)

-- the word `end` is no stamp
last_is_no_entry : (script : Script) (version count : ℕ) → line_on script version (last_tokens count) ≡ None
unfolding line_on spelled_at
last_is_no_entry script version count = refl

last_ends : (version : ℕ) (whole : List RecordLine) → length whole < 2 ^ 64 → ended version whole (last_tokens (length whole)) [] ≡ Ok (entries version whole)
last_ends version whole few = rw (count_again (length whole) few, eq-eqb (length whole) (length whole) refl) refl

last_again : (script : Script) (version : ℕ) (whole : List RecordLine) → length whole < 2 ^ 64 → entries_on script version whole (line_with (last_tokens (length whole)) ∷ []) ≡ Ok (entries version whole)
last_again script version whole few =
    rw (tokens_of_line (last_tokens (length whole)) (omega arith) (last_solid (length whole) few), last_is_no_entry script version (length whole)) (last_ends version whole few)

entries_again : (script : Script) (version : ℕ) (before more whole : List RecordLine) → HasDistinctNames script → AllByRecursion (HasSpelling script) more → AllByRecursion (IsOfVersion version) more → AllByRecursion FitsLine more
    → before ++ more ≡ whole → length whole < 2 ^ 64 → entries_on script version before (map (line_text script) more ++ line_with (last_tokens (length whole)) ∷ []) ≡ Ok (entries version whole)
entries_again script version before [] whole names has told fits is few = rw (sym (append-nil before) ∙ is) (last_again script version whole few)
entries_again script version before (entry ∷ more) whole names has told fits is few =
    let solid = line_solid script entry names has.0 fits.0 in
    rw (tokens_of_line (line_tokens script entry) (omega arith) solid, line_again script version entry names has.0 told.0 fits.0)
    (entries_again script version (before ++ entry ∷ []) more whole names has.1 told.1 fits.1 (append_assoc before (entry ∷ []) more ∙ is) few)

lines_of_entries : (script : Script) (more : List RecordLine) (rest : List ℕ) → HasDistinctNames script → AllByRecursion (HasSpelling script) more → AllByRecursion FitsLine more → lines_of (flat_map (line_text script) more ++ rest) ≡ map (line_text script) more ++ lines_of rest
lines_of_entries script [] rest names has fits = refl
lines_of_entries script (entry ∷ more) rest names has fits =
    ap lines_of (append_assoc (line_text script entry) (flat_map (line_text script) more) rest)
    ∙ lines_of_line (line_tokens script entry) (flat_map (line_text script) more ++ rest) (omega arith) (line_solid script entry names has.0 fits.0)
    ∙ ap (λ (lines : List (List ℕ)). line_text script entry ∷ lines) (lines_of_entries script more rest names has.1 fits.1)

one_last_line : (count : ℕ) → count < 2 ^ 64 → lines_of (line_with (last_tokens count)) ≡ line_with (last_tokens count) ∷ []
one_last_line count small =
    ap lines_of (sym (append-nil (line_with (last_tokens count)))) ∙ lines_of_line (last_tokens count) [] (omega arith) (last_solid count small)

-- the lines of a record's text
pub lines_of_record : (script : Script) (written : Record) → HasDistinctNames script → AllByRecursion (HasSpelling script) written.lines → AllByRecursion FitsLine written.lines → written.version < 2 ^ 64 → length written.lines < 2 ^ 64
    → lines_of (record_text script written) ≡ line_with (first_tokens written.version) ∷ (map (line_text script) written.lines ++ line_with (last_tokens (length written.lines)) ∷ [])
lines_of_record script written names has fits small few =
    let first = line_with (first_tokens written.version) in
    let middle = flat_map (line_text script) written.lines in
    let last = line_with (last_tokens (length written.lines)) in
    ap lines_of (append_assoc first middle last)
    ∙ lines_of_line (first_tokens written.version) (middle ++ last) (omega arith) (first_solid written.version small)
    ∙ ap (λ (lines : List (List ℕ)). first ∷ lines) (lines_of_entries script written.lines last names has fits ∙ ap (λ (lines : List (List ℕ)). map (line_text script) written.lines ++ lines) (one_last_line (length written.lines) few))

pub from_1_to_2 : (version : ℕ) → IsVersion version → (1 ≤ version) × (version ≤ 2)
from_1_to_2 version (inl one) = (omega (arith, one), omega (arith, one))
from_1_to_2 version (inr two) = (omega (arith, two), omega (arith, two))

-- the text of a record is read as this very record
pub reading_again : (script : Script) (written : Record) → HasDistinctNames script → HasText script written → FitsRecord written → reading script (record_text script written) ≡ Ok written
reading_again script written names has fits =
    let version = from_1_to_2 written.version has.version in
    let spelled = recursion_from_All (HasSpelling script) written.lines has.spelled in
    let told = recursion_from_All (IsOfVersion written.version) written.lines has.told in
    let each = recursion_from_All FitsLine written.lines fits.lines in
    let small : written.version < 2 ^ 64 = omega (arith, version.1) in
    let tokens = tokens_of_line (first_tokens written.version) (omega arith) (first_solid written.version small) in
    rw (lines_of_record script written names spelled each small fits.few, tokens, version_again written.version version.0 version.1)
    (entries_again script written.version [] written.lines written.lines names spelled told each refl fits.few)

ok_is : (one other : Record) → ◌≡◌ {A = Result Record ℕ} (Ok one) (Ok other) → one ≡ other
ok_is one other e = cc

-- no two records have one text
pub one_record : (script : Script) (one other : Record) → HasDistinctNames script → HasText script one → FitsRecord one → HasText script other → FitsRecord other → record_text script one ≡ record_text script other → one ≡ other
one_record script one other names has_one fits_one has_other fits_other same =
    ok_is one other (sym (reading_again script one names has_one fits_one) ∙ ap (reading script) same ∙ reading_again script other names has_other fits_other)

-- the facts of what was answered
pub answer_has_text : (script : Script) (bytes : List ℕ) (result : Result Record RecordEnd) → Reads (reading script bytes) result → IfOk result (λ written. HasText script written)
answer_has_text script bytes (Ok written) answer = (reading_takes script bytes written answer).has
answer_has_text script bytes (Err end) answer = tt

pub answer_is_text : (script : Script) (bytes : List ℕ) (result : Result Record RecordEnd) → Reads (reading script bytes) result → IfOk result (λ written. record_text script written ≡ bytes)
answer_is_text script bytes (Ok written) answer = (reading_takes script bytes written answer).text
answer_is_text script bytes (Err end) answer = tt

pub answer_is_short : (script : Script) (bytes : List ℕ) (result : Result Record RecordEnd) → length bytes < 2 ^ 31 → Reads (reading script bytes) result → IfOk result (λ written. length written.lines < 2 ^ 31)
answer_is_short script bytes (Ok written) short answer = omega (arith, short, (reading_takes script bytes written answer).short)
answer_is_short script bytes (Err end) short answer = tt

pub answer_fits : (script : Script) (bytes : List ℕ) (result : Result Record RecordEnd) → Reads (reading script bytes) result → IfOk result FitsRecord
answer_fits script bytes (Ok written) answer = (reading_takes script bytes written answer).fits
answer_fits script bytes (Err end) answer = tt
