-- A worker does its lines exactly where its entries are in order for a list with one entry for each.
use Rattle.std.proofs.Common.{◌≡◌, ℕ, ◌+◌, List, [], ◌∷◌, ◌++◌, length, map, refl, sym, ap, ◌∙◌, arith}
use Rattle.std.specs.Prelude.{◌↔◌}
use Rattle.std.specs.List.{AllZip}
use Rattle.k42_kinds.specs.Histories.{entries_of, unstamped}
use Rattle.k42_kinds.specs.declared.operation.Op.{Op}
use Rattle.k42_kinds.specs.declared.operation.Reply.{Reply}
use Rattle.k42_kinds.specs.declared.entry.Entry.{Entry}
use Rattle.k42_kinds.proofs.Splits.{heads, no_split}
use Rattle.script_text.specs.Lawful.{Deed, deed_of, deeds_from, call_lines, IsOfLine, DoesInOrder, DoesItsLines}
use Rattle.script_text.specs.declared.script.CallLine.{CallLine}
use Rattle.script_text.specs.declared.script.WorkerLines.{WorkerLines}

deed_at : ℕ → CallLine → Deed
deed_at index line = record { index = index; object = line.object; act = line.act }

-- the entries have the objects and the acts of the lines, and count on from an index
zip_from : (index : ℕ) (lines : List CallLine) (entries : List (Entry Op Reply)) → map deed_of entries ≡ deeds_from index lines → AllZip IsOfLine lines entries
unfolding deed_at
zip_from index [] [] same = tt
zip_from index [] (entry ∷ entries) same = cc
zip_from index (line ∷ lines) [] same = cc
zip_from index (line ∷ lines) (entry ∷ entries) same =
    let parts = heads (deed_of entry) (deed_at index line) (map deed_of entries) (deeds_from (index + 1) lines) same in
    (record { object = ap (λ (deed : Deed). deed.object) parts.head; act = ap (λ (deed : Deed). deed.act) parts.head }, zip_from (index + 1) lines entries parts.tail)

counted_from : (index : ℕ) (lines : List CallLine) (entries : List (Entry Op Reply)) → map deed_of entries ≡ deeds_from index lines
    → (before : List (Entry Op Reply)) (entry : Entry Op Reply) (after : List (Entry Op Reply)) → entries ≡ before ++ entry ∷ after → entry.index ≡ index + length before
unfolding deed_at
counted_from index lines [] same before entry after split = absurd (no_split before entry after split)
counted_from index [] (first ∷ entries) same before entry after split = cc
counted_from index (line ∷ lines) (first ∷ entries) same [] entry after split =
    let parts = heads (deed_of first) (deed_at index line) (map deed_of entries) (deeds_from (index + 1) lines) same in
    let cut = heads first entry entries after split in
    omega (arith, ap (λ (deed : Deed). deed.index) parts.head, ap (λ (one : Entry Op Reply). one.index) cut.head)
counted_from index (line ∷ lines) (first ∷ entries) same (other ∷ before) entry after split =
    let parts = heads (deed_of first) (deed_at index line) (map deed_of entries) (deeds_from (index + 1) lines) same in
    let cut = heads first other entries (before ++ entry ∷ after) split in
    let later = counted_from (index + 1) lines entries parts.tail before entry after cut.tail in
    omega (arith, later)

deeds_back : (index : ℕ) (lines : List CallLine) (entries : List (Entry Op Reply)) → AllZip IsOfLine lines entries
    → ((before : List (Entry Op Reply)) (entry : Entry Op Reply) (after : List (Entry Op Reply)) → entries ≡ before ++ entry ∷ after → entry.index ≡ index + length before) → map deed_of entries ≡ deeds_from index lines
unfolding deed_at
deeds_back index [] [] of_lines counted = refl
deeds_back index [] (entry ∷ entries) of_lines counted = absurd of_lines
deeds_back index (line ∷ lines) [] of_lines counted = absurd of_lines
deeds_back index (line ∷ lines) (entry ∷ entries) of_lines counted =
    let here : entry.index ≡ index = omega (arith, counted [] entry entries refl) in
    let rest = deeds_back (index + 1) lines entries of_lines.1 (λ before later after split.
    omega (arith, counted (entry ∷ before) later after (ap (λ (more : List (Entry Op Reply)). entry ∷ more) split))) in
    rw (here, of_lines.0.object, of_lines.0.act, rest) refl

unstamped_deeds : (entries : List (Entry Op Reply)) → map deed_of (map unstamped entries) ≡ map deed_of entries
unstamped_deeds [] = refl
unstamped_deeds (entry ∷ entries) = ap (λ (rest : List Deed). deed_of entry ∷ rest) (unstamped_deeds entries)

pub lines_in_order : (history : List (Entry Op Reply)) (number : ℕ) (worker : WorkerLines) → DoesItsLines history number worker ↔ DoesInOrder history number (call_lines worker.items)
lines_in_order history number worker = (
  λ does. record {
    list = entries_of number history;
    of_lines = zip_from 0 (call_lines worker.items) (entries_of number history) does;
    in_order = record { same = refl; counted = λ before entry after split. omega (arith, counted_from 0 (call_lines worker.items) (entries_of number history) does before entry after split) };
  },
  λ does.
      sym (unstamped_deeds (entries_of number history)) ∙ ap (map deed_of) does.in_order.same ∙ unstamped_deeds does.list
      ∙ deeds_back 0 (call_lines worker.items) does.list does.of_lines (λ before entry after split. omega (arith, does.in_order.counted before entry after split)),
)
