-- Two lawful histories of one text look alike, and histories that look alike have one text.
use Rattle.std.proofs.Common.{◌≡◌, ℕ, suc, ◌+◌, ◌<◌, List, [], ◌∷◌, ◌++◌, length, map, take, drop, refl, sym, ap, ◌∙◌, subst, inl, inr, arith}
use Rattle.std.specs.Prelude.{Some, slice_get}
use Rattle.std.specs.Option.{option_map}
use Rattle.std.proofs.lemmas.Bool.Decides.{eqb_tells}
use Rattle.std.proofs.lemmas.List.{length-map, take-append-drop, take-map}
use Rattle.std.proofs.lemmas.Option.{same_Some, slice_get-map}
use Rattle.k42_kinds.specs.declared.operation.Op.{Op}
use Rattle.k42_kinds.specs.declared.operation.Reply.{Reply}
use Rattle.k42_kinds.specs.declared.entry.Entry.{Entry}
use Rattle.k42_kinds.specs.Histories.{entries_of}
use Rattle.k42_kinds.proofs.Splits.{All-at_split}
use Rattle.script_text.specs.Lawful.{IsLawful}
use Rattle.script_text.specs.Sound.{HasDistinctNames}
use Rattle.script_text.specs.declared.script.Script.{Script}
use Rattle.record_text.specs.Alike.{LookAlike, AreAlike}
use Rattle.record_text.specs.Histories.{extra_of, line_number, line_of, record_of, history_text}
use Rattle.record_text.specs.Spelling.{HasText}
use Rattle.record_text.specs.Texts.{record_text}
use Rattle.record_text.specs.Told.{lines_by}
use Rattle.record_text.specs.Values.{FitsRecord}
use Rattle.record_text.specs.declared.record.Extra.{Extra}
use Rattle.record_text.specs.declared.record.Record.{Record}
use Rattle.record_text.specs.declared.record.RecordLine.{RecordLine}
use Rattle.k42_places.proofs.Rests.{drop_at}
use Rattle.record_text.proofs.Reader.Records.{one_record}
use Rattle.record_text.proofs.Reread.{length_by, own_index, caller_found}

module _ (script : Script) (version : ℕ) where
  -- an entry of a lawful history has as its index the number of its caller's entries before it
  index_at : (history : List (Entry Op Reply)) → IsLawful script history → (place : ℕ) (entry : Entry Op Reply) → slice_get history place ≡ Some entry → entry.index ≡ length (entries_of entry.caller (take place history))
  index_at history lawful place entry there =
      let split : history ≡ take place history ++ entry ∷ drop (place + 1) history = sym (take-append-drop place history) ∙ ap (λ (rest : List (Entry Op Reply)). take place history ++ rest) (drop_at history place entry there) in
      let own = caller_found script.workers entry.caller (All-at_split (λ (e : Entry Op Reply). e.caller < length script.workers) history lawful.no_stranger (take place history) entry (drop (place + 1) history) split) in
      own_index script version history lawful (take place history) entry (drop (place + 1) history) split own.0 own.1

  extra_is : (entry : Entry Op Reply) → version ≡ 2 → extra_of version entry ≡ Some (record { proc = entry.proc; generation = entry.generation })
  extra_is entry two = rw two refl

  same_extra : (first second : Entry Op Reply) → version ≡ 2 → extra_of version first ≡ extra_of version second → ◌≡◌ {A = Extra} (record { proc = first.proc; generation = first.generation }) (record { proc = second.proc; generation = second.generation })
  same_extra first second two same = same_Some _ _ (sym (extra_is first two) ∙ same ∙ extra_is second two)

  module _ (one other : List (Entry Op Reply)) (same : map (line_of script version) one ≡ map (line_of script version) other) where
    same_line : (place : ℕ) (first second : Entry Op Reply) → slice_get one place ≡ Some first → slice_get other place ≡ Some second → line_of script version first ≡ line_of script version second
    same_line place first second here there = same_Some (line_of script version first) (line_of script version second)
        (sym (ap (option_map (line_of script version)) here) ∙ sym (slice_get-map (line_of script version) one place) ∙ ap (λ (lines : List RecordLine). slice_get lines place) same ∙ slice_get-map (line_of script version) other place ∙ ap (option_map (line_of script version)) there)

    -- as many entries of a caller stand before the place
    as_many_before : (caller place : ℕ) → length (entries_of caller (take place one)) ≡ length (entries_of caller (take place other))
    as_many_before caller place =
        let front : map (line_of script version) (take place one) ≡ map (line_of script version) (take place other) =
        sym (take-map (line_of script version) place one) ∙ ap (take place) same ∙ take-map (line_of script version) place other in
        sym (length_by script version caller (take place one)) ∙ ap (λ (lines : List RecordLine). length (lines_by caller lines)) front ∙ length_by script version caller (take place other)

    look_alike : IsLawful script one → IsLawful script other → (place : ℕ) (first second : Entry Op Reply) → slice_get one place ≡ Some first → slice_get other place ≡ Some second → LookAlike version first second
    look_alike lawful_one lawful_other place first second here there =
        let line = same_line place first second here there in
        let caller : first.caller ≡ second.caller = ap (λ (l : RecordLine). l.worker) line in
        record {
          stamp = ap (λ (l : RecordLine). l.stamp) line;
          caller = caller;
          index = index_at one lawful_one place first here ∙ ap (λ (c : ℕ). length (entries_of c (take place one))) caller ∙ as_many_before second.caller place ∙ sym (index_at other lawful_other place second there);
          object = ap (λ (l : RecordLine). l.object) line;
          incarnation = ap (λ (l : RecordLine). l.incarnation) line;
          act = ap (λ (l : RecordLine). l.act) line;
          answer = ap (λ (l : RecordLine). l.answer) line;
          proc = λ two. ap (λ (e : Extra). e.proc) (same_extra first second two (ap (λ (l : RecordLine). l.extra) line));
          generation = λ two. ap (λ (e : Extra). e.generation) (same_extra first second two (ap (λ (l : RecordLine). l.extra) line));
        }

    pub are_alike : IsLawful script one → IsLawful script other → AreAlike version one other
    are_alike lawful_one lawful_other = record {
      as_many = sym (length-map one (line_of script version)) ∙ ap length same ∙ length-map other (line_of script version);
      each = look_alike lawful_one lawful_other;
    }

  extra_alike : (first second : Entry Op Reply) → LookAlike version first second → extra_of version first ≡ extra_of version second
  extra_alike first second alike = elim (eqb_tells version 2) [
    | inl two ↦ extra_is first two.1 ∙ (λ i. Some (record { proc = alike.proc two.1 i; generation = alike.generation two.1 i })) ∙ sym (extra_is second two.1)
    | inr other ↦ rw other.0 refl
  ]

  line_alike : (first second : Entry Op Reply) → LookAlike version first second → line_of script version first ≡ line_of script version second
  line_alike first second alike i = record {
    stamp = alike.stamp i;
    worker = alike.caller i;
    line = line_number script (alike.caller i) (alike.index i);
    object = alike.object i;
    act = alike.act i;
    answer = alike.answer i;
    incarnation = alike.incarnation i;
    extra = extra_alike first second alike i;
  }

  lines_alike : (one other : List (Entry Op Reply)) → AreAlike version one other → map (line_of script version) one ≡ map (line_of script version) other
  lines_alike [] [] alike = refl
  lines_alike [] (second ∷ other) alike = absurd (omega (arith, alike.as_many))
  lines_alike (first ∷ one) [] alike = absurd (omega (arith, alike.as_many))
  lines_alike (first ∷ one) (second ∷ other) alike =
      let rest = lines_alike one other (record { as_many = omega (arith, alike.as_many); each = λ place a b here there. alike.each (suc place) a b here there }) in
      λ i. line_alike first second (alike.each 0 first second refl refl) i ∷ rest i

  -- histories that look alike have one text
  pub one_text : (one other : List (Entry Op Reply)) → AreAlike version one other → history_text script one version ≡ history_text script other version
  one_text one other alike = ap (λ (lines : List RecordLine). record_text script (record { lines = lines; version = version })) (lines_alike one other alike)

-- lawful histories of one text are of one version, and look alike
pub one_history : (script : Script) (one other : List (Entry Op Reply)) (version other_version : ℕ) → HasDistinctNames script → IsLawful script one → IsLawful script other
    → HasText script (record_of script one version) → FitsRecord (record_of script one version) → HasText script (record_of script other other_version) → FitsRecord (record_of script other other_version)
    → history_text script one version ≡ history_text script other other_version → (version ≡ other_version) × AreAlike version one other
one_history script one other version other_version names lawful_one lawful_other has fits has_other fits_other same =
    let records = one_record script (record_of script one version) (record_of script other other_version) names has fits has_other fits_other same in
    let versions : version ≡ other_version = ap (λ (r : Record). r.version) records in
    let lines : map (line_of script version) one ≡ map (line_of script other_version) other = ap (λ (r : Record). r.lines) records in
    (versions, are_alike script version one other (subst (λ (v : ℕ). map (line_of script version) one ≡ map (line_of script v) other) (sym versions) lines) lawful_one lawful_other)
