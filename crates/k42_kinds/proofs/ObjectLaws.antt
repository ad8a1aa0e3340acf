-- What the operations of directories and pages do, said of each name and of each page.
use Rattle.std.proofs.Common.{◌≡◌, ℕ, ◌+◌, ◌-◌, Bool, true, false, List, [], ◌∷◌, count_by, Option, Some, None as Absent, option_map, is_some, if◌then◌else◌, refl, ap, ◌∙◌, arith}
use Rattle.std.specs.Cmp.{nat_cmp_total}
use Rattle.std.specs.Cmp.Lexicographic.{nat_list_cmp_total}
use Rattle.std.specs.Ordering.{nat_cmp}
use Rattle.std.specs.Map.{values_of}
use Rattle.std.specs.FinMap.{same_map, empty, get, insert, len, entries, len-empty, len-insert, len-remove}
use Rattle.std.proofs.lemmas.Map.Lookups.{exact_bytes, exact_unsigned}
use Rattle.k42_kinds.specs.declared.page.Page.{Page}
use Rattle.k42_kinds.specs.declared.operation.Op.TheVariants.{Bind, Unbind, Size, Write, Dirty, Clean}
use Rattle.k42_kinds.specs.declared.operation.Reply.TheVariants.{Done, Taken, Number}
use Rattle.k42_kinds.specs.Objects.{Directory, Pages, directory_after, directory_reply, pages_after, pages_reply}
use Rattle.k42_kinds.specs.Pages.{written, cleaned, dirty_count}
use Rattle.k42_kinds.proofs.SeenMaps.{entries-empty}
use Rattle.k42_kinds.proofs.FiniteMaps.{ChangesOnly, insert_changes, remove_changes, mark_of, count-insert, entries-changed, get-changed, changed_values}

-- a directory is nothing but what each name leads to, and the pages are nothing but what stands on each page
pub directory_by_names : (names others : Directory) → ((key : List ℕ) → get names key ≡ get others key) → names ≡ others
directory_by_names names others alike = same_map nat_list_cmp_total exact_bytes names others alike

pub pages_by_numbers : (pages others : Pages) → ((page : ℕ) → get pages page ≡ get others page) → pages ≡ others
pages_by_numbers pages others alike = same_map nat_cmp_total exact_unsigned pages others alike

-- an unbound name leads to the number once it is bound, and every other name stays as it was
pub bind_unbound : (names : Directory) (key : List ℕ) (number : ℕ) → get names key ≡ Absent → ChangesOnly names (directory_after names (Bind key number)) key (Some number)
bind_unbound names key number unbound =
    let bound : directory_after names (Bind key number) ≡ insert names key number = ap (λ found. if is_some found then names else insert names key number) unbound in
    rw bound (insert_changes nat_list_cmp_total exact_bytes names key number)

-- a bound name keeps its number, and the caller is told
pub bind_bound : (names : Directory) (key : List ℕ) (number held : ℕ) → get names key ≡ Some held → (directory_after names (Bind key number) ≡ names) × (directory_reply names (Bind key number) ≡ Taken)
bind_bound names key number held bound =
    (ap (λ found. if is_some found then names else insert names key number) bound, ap (λ found. if is_some found then Taken else Done) bound)

-- a name is unbound once it is unbound, and every other name stays as it was
pub unbind : (names : Directory) (key : List ℕ) → ChangesOnly names (directory_after names (Unbind key)) key Absent
unbind names key = remove_changes nat_list_cmp_total exact_bytes names key

-- the size counts: none at first, one more with each name that is bound, one fewer with each that is unbound
pub size_of_empty : directory_reply empty Size ≡ Number 0
size_of_empty = ap Number (len-empty _ _)

pub size_bind : (names : Directory) (key : List ℕ) (number : ℕ) → get names key ≡ Absent → len (directory_after names (Bind key number)) ≡ len names + 1
size_bind names key number unbound =
    ap (λ found. len (if is_some found then names else insert names key number)) unbound
    ∙ len-insert nat_list_cmp_total names key number
    ∙ ap (λ found. if is_some found then len names else len names + 1) unbound

pub size_unbind : (names : Directory) (key : List ℕ) (held : ℕ) → get names key ≡ Some held → len (directory_after names (Unbind key)) ≡ len names - 1
size_unbind names key held bound =
    len-remove nat_list_cmp_total names key ∙ ap (λ found. if is_some found then len names - 1 else len names) bound

-- a page has the text and is dirty once it is written, and every other page stays as it was
pub write : (pages : Pages) (page : ℕ) (text : List ℕ) → ChangesOnly pages (pages_after pages (Write page text)) page (Some (written text))
write pages page text = insert_changes nat_cmp_total exact_unsigned pages page (written text)

-- after cleaning each page has the text that it had, without the mark
pub clean : (pages : Pages) (page : ℕ) → get (pages_after pages Clean) page ≡ option_map cleaned (get pages page)
clean pages page = get-changed nat_cmp cleaned pages page

-- whether the page was written since the pages were last cleaned
abbrev pub is_dirty : Option Page → Bool
is_dirty Absent = false
is_dirty (Some page) = page.dirty

-- the number of dirty pages counts: none at first, one more with each write of a page that is not dirty, none after cleaning
pub dirty_of_empty : pages_reply empty Dirty ≡ Number 0
dirty_of_empty = ap (λ es. Number (count_by (λ page. page.dirty) (values_of es))) (entries-empty nat_cmp)

grown : (found : Option Page) (after before : ℕ) → after + mark_of (λ page. page.dirty) found ≡ before + 1 → after ≡ (if is_dirty found then before else before + 1)
grown Absent after before counted = omega arith
grown (Some page) after before counted = elim page.dirty as (λ b. after + (if b then 1 else 0) ≡ before + 1 → after ≡ (if b then before else before + 1)) [ true ↦ λ counted. omega arith | false ↦ λ counted. omega arith ] counted

pub dirty_write : (pages : Pages) (page : ℕ) (text : List ℕ) → dirty_count (pages_after pages (Write page text)) ≡ (if is_dirty (get pages page) then dirty_count pages else dirty_count pages + 1)
dirty_write pages page text = grown (get pages page) _ _ (count-insert nat_cmp_total (λ page. page.dirty) pages page (written text))

none_dirty : (es : List (ℕ × Page)) → count_by (λ page. page.dirty) (values_of (changed_values cleaned es)) ≡ 0
none_dirty [] = refl
none_dirty (e ∷ es) = none_dirty es

pub dirty_clean : (pages : Pages) → dirty_count (pages_after pages Clean) ≡ 0
dirty_clean pages = ap (λ es. count_by (λ page. page.dirty) (values_of es)) (entries-changed nat_cmp cleaned pages) ∙ none_dirty (entries pages)
