-- What each entry of a generated script's history does to the tally.
use Rattle.std.proofs.Common.{◌≡◌, ℕ, ◌+◌, ◌%◌, ◌^◌, ◌<◌, Bool, true, false, cond, ◌||◌, if◌then◌else◌, List, [], ◌∷◌, ◌++◌, fold, sum_by, count_by, Option, Some, None, is_some, bytes_eq, decimal, eqb, refl, sym, ap, ◌∙◌, subst, append_assoc, append-nil, arith}
use Rattle.std.specs.List.{AllByRecursion, list_any, range_with_len}
use Rattle.std.specs.FinMap as finite
use Rattle.std.specs.Map.{values_of}
use Rattle.std.specs.Ordering.{nat_cmp}
use Rattle.std.specs.Cmp.Lexicographic.{bytes_decides}
use Rattle.std.proofs.lemmas.Bool.{eqb-true, eqb-false, false_from_ne_true}
use Rattle.std.proofs.lemmas.Fmt.{decimal_injective}
use Rattle.std.proofs.lemmas.List.Folds.{list_any-append}
use Rattle.std.proofs.lemmas.List.Sums.{sum_by_push}
use Rattle.k42_limits.specs.declared.TheConstants.{PAGES}
use Rattle.k42_kinds.specs.Histories.{is_call, is_carried_out}
use Rattle.k42_kinds.specs.Objects.{Directory, Pages, counter_after, directory_after, pages_after}
use Rattle.k42_kinds.specs.Operations.{kind_of_op}
use Rattle.k42_kinds.specs.Pages.{dirty_count}
use Rattle.k42_kinds.specs.declared.operation.Reply.{Reply}
use Rattle.k42_kinds.specs.declared.entry.Act.{Act}
use Rattle.k42_kinds.specs.declared.entry.Act.TheVariants.{Call, Swap}
use Rattle.k42_kinds.specs.declared.entry.To.{To}
use Rattle.k42_kinds.specs.declared.entry.Answer.{Answer}
use Rattle.k42_kinds.specs.declared.entry.Entry.{Entry}
use Rattle.k42_kinds.specs.declared.operation.KindName.{KindName}
use Rattle.k42_kinds.specs.declared.operation.KindName.TheVariants as kinds
use Rattle.k42_kinds.specs.declared.page.Page.{Page}
use Rattle.k42_kinds.specs.declared.operation.Op.{Op}
use Rattle.k42_kinds.specs.declared.operation.Op.TheVariants.{Add, Bind, Write}
use Rattle.k42_kinds.proofs.ObjectLaws.{bind_unbound, bind_bound, size_bind, write, is_dirty, dirty_write}
use Rattle.k42_kinds.proofs.SeenMaps.{entries-empty}
use Rattle.k42_kinds.proofs.Splits.{heads}
use Rattle.load_totals.specs.Loads.{called_by, tally_after, tally_with, no_tally}
use Rattle.load_totals.specs.declared.summing.Tally.{Tally}
use Rattle.load_totals.proofs.Counts.{mark, count_over_range, grown}
use Rattle.load_totals.proofs.StepActs.{name_of}
use Rattle.load_totals.proofs.SwapsDone.{Asks, Adds, Binds, Writes, Swaps, is_done}

-- what an act adds to the counter, and whether it binds this name or writes this page
abbrev pub amount_of : Act Op → ℕ
amount_of (Call (Add amount)) = amount
amount_of _ = 0

abbrev pub binds_name : ℕ → Act Op → Bool
binds_name name (Call (Bind key number)) = bytes_eq key (name_of name)
binds_name name _ = false

abbrev pub writes_page : ℕ → Act Op → Bool
writes_page page (Call (Write other text)) = eqb other page
writes_page page _ = false

-- the three objects apart
abbrev hits_called : Option KindName → ℕ → Op → ℕ
hits_called (Some kinds.Counter) hits op = counter_after hits op
hits_called _ hits op = hits

abbrev hits_after : ℕ → Act Op → ℕ
hits_after hits (Call op) = hits_called (kind_of_op op) hits op
hits_after hits _ = hits

abbrev names_called : Option KindName → Directory → Op → Directory
names_called (Some kinds.Directory) names op = directory_after names op
names_called _ names op = names

abbrev names_after : Directory → Act Op → Directory
names_after names (Call op) = names_called (kind_of_op op) names op
names_after names _ = names

abbrev cache_called : Option KindName → Pages → Op → Pages
cache_called (Some kinds.Pages) pages op = pages_after pages op
cache_called _ pages op = pages

abbrev cache_after : Pages → Act Op → Pages
cache_after pages (Call op) = cache_called (kind_of_op op) pages op
cache_after pages _ = pages

-- each number of the tally goes its own way
record Parts (old new : Tally) (act : Act Op) (done : Bool) : Type 0 where
  calls : new.calls ≡ old.calls + mark (is_call act)
  swaps : new.swaps ≡ old.swaps + mark done
  hits : new.hits ≡ hits_after old.hits act
  names : new.names ≡ names_after old.names act
  cache : new.cache ≡ cache_after old.cache act

called_parts : (kind : Option KindName) (tally : Tally) (op : Op) → kind_of_op op ≡ kind → Parts tally (called_by kind tally op) (Call op) false
called_parts (Some kinds.Counter) tally op is = record { calls = refl; swaps = omega arith; hits = rw is refl; names = rw is refl; cache = rw is refl }
called_parts (Some kinds.Directory) tally op is = record { calls = refl; swaps = omega arith; hits = rw is refl; names = rw is refl; cache = rw is refl }
called_parts (Some kinds.Pages) tally op is = record { calls = refl; swaps = omega arith; hits = rw is refl; names = rw is refl; cache = rw is refl }
called_parts None tally op is = record { calls = refl; swaps = omega arith; hits = rw is refl; names = rw is refl; cache = rw is refl }

swapped_parts : (done : Bool) (tally : Tally) (to : To) → Parts tally (if done then record tally { swaps = tally.swaps + 1 } else tally) (Swap to) done
swapped_parts true tally to = record { calls = omega arith; swaps = refl; hits = refl; names = refl; cache = refl }
swapped_parts false tally to = record { calls = omega arith; swaps = omega arith; hits = refl; names = refl; cache = refl }

parts : (tally : Tally) (act : Act Op) (answer : Answer Reply) → Parts tally (tally_after tally act answer) act (cond (is_call act) false (is_carried_out answer))
parts tally (Call op) answer = called_parts (kind_of_op op) tally op refl
parts tally (Swap to) answer = swapped_parts (is_carried_out answer) tally to

-- the counter
hits_are : (worker hits sum : ℕ) (act : Act Op) → Asks worker act → hits ≡ sum % 2 ^ 64 → hits_after hits act ≡ (sum + amount_of act) % 2 ^ 64
hits_are worker hits sum act (Adds amount is) so_far = rw is (omega (arith, so_far))
hits_are worker hits sum act (Binds name number less is) so_far = rw is (omega (arith, so_far))
hits_are worker hits sum act (Writes page text less is) so_far = rw is (omega (arith, so_far))
hits_are worker hits sum act (Swaps number first is) so_far = rw is (omega (arith, so_far))

-- names of different numbers differ
name_back : (i j : ℕ) → i < 100 → j < 100 → name_of i ≡ name_of j → i ≡ j
name_back i j small less same = decimal_injective i j (omega (arith, small)) (omega (arith, less)) (heads 110 110 (decimal i) (decimal j) same).tail

pub name_test : (i j : ℕ) (same : Bool) → eqb i j ≡ same → i < 100 → j < 100 → bytes_eq (name_of i) (name_of j) ≡ same
name_test i j true is small less = (bytes_decides (name_of i) (name_of j)).1 (ap name_of (eqb-true i j is))
name_test i j false is small less = false_from_ne_true (bytes_eq (name_of i) (name_of j)) (λ yes. eqb-false i j is (name_back i j small less ((bytes_decides (name_of i) (name_of j)).0 yes)))

or_false : (b : Bool) → b ≡ (b || false)
or_false true = refl
or_false false = refl

or_true : (b : Bool) → (b || true) ≡ true
or_true true = refl
or_true false = refl

-- whether the name of this number is bound
abbrev pub is_bound : Directory → ℕ → Bool
is_bound names name = is_some (finite.get names (name_of name))

bound_at : (names : Directory) (other number name : ℕ) (found : Option ℕ) (same : Bool) → finite.get names (name_of other) ≡ found → eqb other name ≡ same → other < 100 → name < 100
    → is_bound (directory_after names (Bind (name_of other) number)) name ≡ (is_bound names name || same)
bound_at names other number name (Some held) true there is small less =
    ap (λ after. is_bound after name) (bind_bound names (name_of other) number held there).0 ∙ ap (λ one. is_bound names one) (sym (eqb-true other name is)) ∙ ap is_some there
    ∙ sym (or_true (is_bound names name))
bound_at names other number name (Some held) false there is small less =
    ap (λ after. is_bound after name) (bind_bound names (name_of other) number held there).0 ∙ or_false (is_bound names name)
bound_at names other number name None true there is small less =
    ap (λ one. is_bound (directory_after names (Bind (name_of other) number)) one) (sym (eqb-true other name is))
    ∙ ap is_some (bind_unbound names (name_of other) number there).here ∙ sym (or_true (is_bound names name))
bound_at names other number name None false there is small less =
    ap is_some ((bind_unbound names (name_of other) number there).elsewhere (name_of name) (λ alike. eqb-false other name is (name_back other name small less (sym alike))))
    ∙ or_false (is_bound names name)

-- the directory
bound_are : (worker : ℕ) (names : Directory) (act : Act Op) → Asks worker act → (name : ℕ) → name < 100 → is_bound (names_after names act) name ≡ (is_bound names name || binds_name name act)
bound_are worker names act (Adds amount is) name less = rw is (or_false (is_bound names name))
bound_are worker names act (Binds other number small is) name less =
    rw is (bound_at names other number name (finite.get names (name_of other)) (eqb other name) refl refl small less ∙ ap (λ b. is_bound names name || b) (sym (name_test other name (eqb other name) refl small less)))
bound_are worker names act (Writes page text small is) name less = rw is (or_false (is_bound names name))
bound_are worker names act (Swaps number first is) name less = rw is (or_false (is_bound names name))

abbrev pub count_bound : Directory → ℕ
count_bound names = count_by (is_bound names) (range_with_len 0 100)

size_by : (names : Directory) (key : List ℕ) (number : ℕ) (found : Option ℕ) → finite.get names key ≡ found → finite.len (directory_after names (Bind key number)) ≡ (if is_some found then finite.len names else finite.len names + 1)
size_by names key number (Some held) there = ap finite.len (bind_bound names key number held there).0
size_by names key number None there = size_bind names key number there

names_are : (worker : ℕ) (names : Directory) (act : Act Op) → Asks worker act → finite.len names ≡ count_bound names → finite.len (names_after names act) ≡ count_bound (names_after names act)
names_are worker names act (Adds amount is) so_far = rw is so_far
names_are worker names act (Binds other number small is) so_far =
    rw is (size_by names (name_of other) number (finite.get names (name_of other)) refl
    ∙ ap (λ many. if is_bound names other then many else many + 1) so_far
    ∙ sym (grown (is_bound names) (is_bound (directory_after names (Bind (name_of other) number))) other 100 small
    (λ name less. bound_at names other number name (finite.get names (name_of other)) (eqb other name) refl refl small less)))
names_are worker names act (Writes page text small is) so_far = rw is so_far
names_are worker names act (Swaps number first is) so_far = rw is so_far

-- whether the page of this number is dirty
abbrev pub is_marked : Pages → ℕ → Bool
is_marked pages page = is_dirty (finite.get pages page)

marked_at : (pages : Pages) (other page : ℕ) (text : List ℕ) (same : Bool) → eqb other page ≡ same → is_marked (pages_after pages (Write other text)) page ≡ (is_marked pages page || same)
marked_at pages other page text true is =
    ap (λ one. is_marked (pages_after pages (Write other text)) one) (sym (eqb-true other page is)) ∙ ap is_dirty (write pages other text).here ∙ sym (or_true (is_marked pages page))
marked_at pages other page text false is =
    ap is_dirty ((write pages other text).elsewhere page (λ alike. eqb-false other page is (sym alike))) ∙ or_false (is_marked pages page)

-- the pages
marked_are : (worker : ℕ) (pages : Pages) (act : Act Op) → Asks worker act → (page : ℕ) → is_marked (cache_after pages act) page ≡ (is_marked pages page || writes_page page act)
marked_are worker pages act (Adds amount is) page = rw is (or_false (is_marked pages page))
marked_are worker pages act (Binds name number small is) page = rw is (or_false (is_marked pages page))
marked_are worker pages act (Writes other text small is) page = rw is (marked_at pages other page text (eqb other page) refl)
marked_are worker pages act (Swaps number first is) page = rw is (or_false (is_marked pages page))

-- how many of the pages are dirty; their number is a variable, so that no list of them is computed
abbrev pub count_marked : ℕ → Pages → ℕ
count_marked all pages = count_by (is_marked pages) (range_with_len 0 all)

cache_is : (worker all : ℕ) → all ≡ PAGES → (pages : Pages) (act : Act Op) → Asks worker act → dirty_count pages ≡ count_marked all pages → dirty_count (cache_after pages act) ≡ count_marked all (cache_after pages act)
cache_is worker all are pages act (Adds amount is) so_far = rw is so_far
cache_is worker all are pages act (Binds name number small is) so_far = rw is so_far
cache_is worker all are pages act (Writes other text small is) so_far =
    rw is (dirty_write pages other text
    ∙ ap (λ many. if is_marked pages other then many else many + 1) so_far
    ∙ sym (grown (is_marked pages) (is_marked (pages_after pages (Write other text))) other all (omega (arith, small, are)) (λ page less. marked_at pages other page text (eqb other page) refl)))
cache_is worker all are pages act (Swaps number first is) so_far = rw is so_far

-- what is known of the tally of these entries
pub record IsTallyOf (all : ℕ) (tally : Tally) (entries : List (Entry Op Reply)) : Type 0 where
  pub calls : tally.calls ≡ count_by (λ (entry : Entry Op Reply). is_call entry.act) entries
  pub swaps : tally.swaps ≡ count_by is_done entries
  pub hits : tally.hits ≡ sum_by (λ (entry : Entry Op Reply). amount_of entry.act) entries % 2 ^ 64
  pub bound : (name : ℕ) → name < 100 → is_bound tally.names name ≡ list_any (λ (entry : Entry Op Reply). binds_name name entry.act) entries
  pub names : finite.len tally.names ≡ count_bound tally.names
  pub marked : (page : ℕ) → is_marked tally.cache page ≡ list_any (λ (entry : Entry Op Reply). writes_page page entry.act) entries
  pub dirty : dirty_count tally.cache ≡ count_marked all tally.cache

any_push : {X : Type 0} (p : X → Bool) (xs : List X) (x : X) → (list_any p xs || p x) ≡ list_any p (xs ++ x ∷ [])
any_push p xs x = ap (λ b. list_any p xs || b) (or_false (p x)) ∙ sym (list_any-append p xs (x ∷ []))

none_of : {X : Type 0} (xs : List X) → count_by (λ x. false) xs ≡ 0
none_of [] = refl
none_of (x ∷ xs) = none_of xs

unbound : (name : ℕ) → is_bound finite.empty name ≡ false
unbound name = ap is_some (finite.get-empty _ (name_of name))

unmarked : (page : ℕ) → is_marked finite.empty page ≡ false
unmarked page = ap is_dirty (finite.get-empty _ page)

module _ (all : ℕ) (are : all ≡ PAGES) where
  pub none : IsTallyOf all no_tally []
  none = record {
    calls = refl;
    swaps = refl;
    hits = refl;
    bound = λ name less. unbound name;
    names = finite.len-empty _ _ ∙ sym (count_over_range (is_bound finite.empty) (λ name. false) 0 100 (λ name low high. unbound name) ∙ none_of (range_with_len 0 100));
    marked = unmarked;
    dirty =
        ap (λ entries. count_by (λ (page : Page). page.dirty) (values_of entries)) (entries-empty nat_cmp)
        ∙ sym (count_over_range (is_marked finite.empty) (λ page. false) 0 all (λ page low high. unmarked page) ∙ none_of (range_with_len 0 all));
  }

  one_more : (tally new : Tally) (entries : List (Entry Op Reply)) (entry : Entry Op Reply) → IsTallyOf all tally entries → Asks entry.caller entry.act → Parts tally new entry.act (is_done entry) → IsTallyOf all new (entries ++ entry ∷ [])
  one_more tally new entries entry so_far asks own = record {
    calls = omega (arith, own.calls, so_far.calls, sum_by_push (λ (other : Entry Op Reply). mark (is_call other.act)) entries entry);
    swaps = omega (arith, own.swaps, so_far.swaps, sum_by_push (λ (other : Entry Op Reply). mark (is_done other)) entries entry);
    hits =
        own.hits ∙ hits_are entry.caller tally.hits (sum_by (λ (other : Entry Op Reply). amount_of other.act) entries) entry.act asks so_far.hits
        ∙ ap (λ sum. sum % 2 ^ 64) (sym (sum_by_push (λ (other : Entry Op Reply). amount_of other.act) entries entry));
    bound = λ name less.
        ap (λ names. is_bound names name) own.names ∙ bound_are entry.caller tally.names entry.act asks name less
        ∙ ap (λ b. b || binds_name name entry.act) (so_far.bound name less) ∙ any_push (λ (other : Entry Op Reply). binds_name name other.act) entries entry;
    names = subst (λ names. finite.len names ≡ count_bound names) (sym own.names) (names_are entry.caller tally.names entry.act asks so_far.names);
    marked = λ page.
        ap (λ pages. is_marked pages page) own.cache ∙ marked_are entry.caller tally.cache entry.act asks page
        ∙ ap (λ b. b || writes_page page entry.act) (so_far.marked page) ∙ any_push (λ (other : Entry Op Reply). writes_page page other.act) entries entry;
    dirty = subst (λ pages. dirty_count pages ≡ count_marked all pages) (sym own.cache) (cache_is entry.caller all are tally.cache entry.act asks so_far.dirty);
  }

  -- the tally of all entries, one after the other
  pub all_more : (tally : Tally) (done rest : List (Entry Op Reply)) → IsTallyOf all tally done → AllByRecursion (λ (entry : Entry Op Reply). Asks entry.caller entry.act) rest → IsTallyOf all (fold tally_with tally rest) (done ++ rest)
  all_more tally done [] so_far asks = subst (IsTallyOf all tally) (sym (append-nil done)) so_far
  all_more tally done (entry ∷ rest) so_far asks =
      subst (IsTallyOf all (fold tally_with (tally_with tally entry) rest)) (append_assoc done (entry ∷ []) rest)
      (all_more (tally_with tally entry) (done ++ entry ∷ []) rest (one_more tally (tally_with tally entry) done entry so_far asks.0 (parts tally entry.act entry.answer)) asks.1)
