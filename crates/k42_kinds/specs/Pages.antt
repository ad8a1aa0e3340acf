-- Pages: which were written, with what text, and which of them are dirty.
use Rattle.std.specs.Prelude.{ℕ, Bool, true, false, List, map, count_by, refl}
use Rattle.std.specs.Coded.{Coded, code_by, coded×, coded_ℕ, coded_list, coded_bool}
use Rattle.std.specs.FinMap as finite
use Rattle.std.specs.FinMap.{FinMap}
use Rattle.std.specs.Ordering.{nat_cmp}
use Rattle.k42_kinds.specs.declared.page.Page.{Page}

-- a page is stored as its text and its mark
abbrev pub coded_page : Coded Page
coded_page = code_by (List ℕ × Bool) (coded× (coded_list coded_ℕ) coded_bool) (λ page. (page.text, page.dirty)) (λ pair. record { text = pair.0; dirty = pair.1 }) (λ _. refl)

-- a page as it is after a write
abbrev pub written : List ℕ → Page
written text = record { text = text; dirty = true }

-- the page with its mark taken off
abbrev pub cleaned : Page → Page
cleaned page = record { text = page.text; dirty = false }

-- no page is dirty, and each text is as before
abbrev pub all_cleaned : FinMap nat_cmp Page → FinMap nat_cmp Page
all_cleaned pages = finite.from_sorted (map (λ entry. (entry.0, cleaned entry.1)) (finite.entries pages))

-- how many pages are dirty
abbrev pub dirty_count : FinMap nat_cmp Page → ℕ
dirty_count pages = count_by (λ page. page.dirty) (finite.values pages)
