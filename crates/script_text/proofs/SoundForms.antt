-- What the parts of a form are, where a line has it.
use Rattle.std.proofs.Common.{◌≡◌, ℕ, ◌<◌, ◌≤◌, Bool, true, false, cond, not, ◌&&◌, List, [], ◌∷◌, refl, arith}
use Rattle.std.specs.Prelude.{Option, Some, None, IfSome, option_map, nat_le, nat_lt, codes}
use Rattle.std.specs.Str.{bytes_eq}
use Rattle.std.proofs.lemmas.Bool.{and_parts, not-true}
use Rattle.std.proofs.lemmas.Bool.Decides.{nat_tests}
use Rattle.std.proofs.lemmas.Option.{cond_some, option_and_then_some}
use Rattle.k42_kinds.specs.Words.{is_name}
use Rattle.k42_kinds.specs.declared.entry.To.{To}
use Rattle.k42_kinds.specs.declared.entry.To.TheVariants.{Layout, Dead, Watch, Unwatch}
use Rattle.k42_kinds.specs.declared.operation.KindName.{KindName}
use Rattle.k42_kinds.specs.declared.operation.LayoutName.{LayoutName}
use Rattle.k42_kinds.specs.declared.operation.LayoutName.TheVariants.{Shared, Spread}
use Rattle.k42_kinds.specs.Operations.{layout_number}
use Rattle.k42_limits.specs.declared.TheConstants.{PROCESSORS, PAGES}
use Rattle.script_text.specs.Acts.{HasWord}
use Rattle.script_text.specs.Numbers.{number_of, number_within, number_below}
use Rattle.script_text.specs.Forms.{is_reserved, free_name, name_of, page_of, page_text_of, kind_named, layout_named, head_of, procs_form, object_declared, swap_to_form, request_of, form_behind, form_of, begins_procs}
use Rattle.script_text.specs.Sound.{IsFreeName}
use Rattle.script_text.specs.declared.form.Form.{Form}
use Rattle.script_text.specs.declared.form.Form.TheVariants as forms
use Rattle.script_text.specs.declared.form.Head.{Head}
use Rattle.script_text.specs.declared.form.Head.TheVariants as heads
use Rattle.script_text.specs.declared.form.Request.{Request}
use Rattle.script_text.specs.declared.form.Request.TheVariants.{Swap, Write, Read}

-- a page that the request names is there, and what it swaps to has a word
abbrev pub HasNamed : Request → Type 0
HasNamed (Write (Some page) text) = page < PAGES
HasNamed (Read (Some page)) = page < PAGES
HasNamed (Swap to) = HasWord to
HasNamed _ = Unit {0}

-- each part that there is is one that a line may say, where there are so many processors
abbrev pub IsFormed : ℕ → Form → Type 0
IsFormed procs (forms.Procs (Some number)) = (1 ≤ number) × (number ≤ PROCESSORS)
IsFormed procs (forms.Object (Some name) kind layout) = IsFreeName name
IsFormed procs (forms.Worker (Some name) (Some proc)) = IsFreeName name × (proc < procs)
IsFormed procs (forms.Asks object request) = HasNamed request
IsFormed procs _ = Unit {0}

-- it is a line of processors
abbrev pub IsProcs : Form → Type 0
IsProcs (forms.Procs number) = Unit {0}
IsProcs _ = ⊥

within-range : (low high : ℕ) (bytes : List ℕ) (n : ℕ) → number_within low high bytes ≡ Some n → (low ≤ n) × (n ≤ high)
within-range low high bytes n e = option_and_then_some (λ number. cond (nat_le low number && nat_le number high) (Some number) None) (number_of bytes) n e (λ number of in_range.
    let test = cond_some (nat_le low number && nat_le number high) number n in_range in (grind (arith, nat_tests, test.0, test.1), grind (arith, nat_tests, test.0, test.1)))

below-range : (bound : ℕ) (bytes : List ℕ) (n : ℕ) → number_below bound bytes ≡ Some n → n < bound
below-range bound bytes n e = option_and_then_some (λ number. cond (nat_lt number bound) (Some number) None) (number_of bytes) n e (λ number of in_range.
    let test = cond_some (nat_lt number bound) number n in_range in grind (arith, nat_tests, test.0, test.1))

-- a word that may be declared is a free name, and a free name may be declared
pub free_name-is_free : (word name : List ℕ) → free_name word ≡ Some name → IsFreeName name
free_name-is_free word name e =
    let test = cond_some (not (is_reserved word) && is_name word) word name e in
    let parts = and_parts (not (is_reserved word)) (is_name word) test.0 in
    record { formed = rw (← test.1) parts.1; free = rw (← test.1) (not-true (is_reserved word) parts.0) }

pub free_name-of_free : (name : List ℕ) → IsFreeName name → free_name name ≡ Some name
free_name-of_free name free = rw (free.free, free.formed) refl

module _ (procs : ℕ) where
  procs_formed : (number : Option ℕ) (word : List ℕ) → number_within 1 PROCESSORS word ≡ number → IsFormed procs (forms.Procs number)
  procs_formed None word e = tt
  procs_formed (Some number) word e = within-range 1 PROCESSORS word number e

  object_formed : (name : Option (List ℕ)) (kind : KindName) (layout : LayoutName) (word : List ℕ) → free_name word ≡ name → IsFormed procs (forms.Object name kind layout)
  object_formed None kind layout word e = tt
  object_formed (Some name) kind layout word e = free_name-is_free word name e

  worker_formed : (name : Option (List ℕ)) (proc : Option ℕ) (word number : List ℕ) → free_name word ≡ name → number_below procs number ≡ proc → IsFormed procs (forms.Worker name proc)
  worker_formed None None word number named placed = tt
  worker_formed None (Some proc) word number named placed = tt
  worker_formed (Some name) None word number named placed = tt
  worker_formed (Some name) (Some proc) word number named placed = (free_name-is_free word name named, below-range procs number proc placed)

  swap_to_formed : (to : To) → HasWord to → (tokens : List (List ℕ)) → IfSome (swap_to_form to tokens) (IsFormed procs)
  swap_to_formed to named [] = tt
  swap_to_formed to named (object ∷ []) = named
  swap_to_formed to named (a ∷ b ∷ tokens) = tt

  declared_formed : (word : List ℕ) (kind : Option KindName) (layout : Option LayoutName) → IfSome (object_declared word kind layout) (IsFormed procs)
  declared_formed word None None = tt
  declared_formed word None (Some layout) = tt
  declared_formed word (Some kind) None = tt
  declared_formed word (Some kind) (Some layout) = object_formed (free_name word) kind layout word refl

if_some_cond : {A : Type 0} (P : A → Type 0) (b : Bool) (x y : Option A) → IfSome x P → IfSome y P → IfSome (cond b x y) P
if_some_cond P true x y holds other = holds
if_some_cond P false x y other holds = holds

if_some_map : {A B : Type 0} (P : A → Type 0) (Q : B → Type 0) (f : A → B) (o : Option A) → ((x : A) → P x → Q (f x)) → IfSome o P → IfSome (option_map f o) Q
if_some_map P Q f None each holds = tt
if_some_map P Q f (Some x) each holds = each x holds

-- the number of a layout that has a name has a word
pub number_has_word : (layout : LayoutName) → HasWord (Layout (layout_number layout))
number_has_word Shared = omega arith
number_has_word Spread = omega arith

read_page : (page : Option ℕ) (word : List ℕ) → page_of word ≡ page → HasNamed (Read page)
read_page None word e = tt
read_page (Some page) word e = below-range PAGES word page e

write_page : (page : Option ℕ) (text : Option (List ℕ)) (word : List ℕ) → page_of word ≡ page → HasNamed (Write page text)
write_page None text word e = tt
write_page (Some page) text word e = below-range PAGES word page e

request_of-page : (tokens : List (List ℕ)) → IfSome (request_of tokens) HasNamed
request_of-page [] = tt
request_of-page (word ∷ []) =
    if_some_cond HasNamed (bytes_eq word (codes "get")) _ _ tt (
    if_some_cond HasNamed (bytes_eq word (codes "drain")) _ _ tt (
    if_some_cond HasNamed (bytes_eq word (codes "size")) _ _ tt (
    if_some_cond HasNamed (bytes_eq word (codes "dirty")) _ _ tt (
    if_some_cond HasNamed (bytes_eq word (codes "clean")) _ _ tt (
    if_some_cond HasNamed (bytes_eq word (codes "seen")) _ _ tt tt)))))
request_of-page (word ∷ argument ∷ []) =
    if_some_cond HasNamed (bytes_eq word (codes "add")) _ _ tt (
    if_some_cond HasNamed (bytes_eq word (codes "find")) _ _ tt (
    if_some_cond HasNamed (bytes_eq word (codes "unbind")) _ _ tt (
    if_some_cond HasNamed (bytes_eq word (codes "read")) _ _ (read_page (page_of argument) argument refl) tt)))
request_of-page (word ∷ first ∷ second ∷ []) =
    if_some_cond HasNamed (bytes_eq word (codes "bind")) _ _ tt (
    if_some_cond HasNamed (bytes_eq word (codes "write")) _ _ (write_page (page_of first) (page_text_of second) first refl) tt)
request_of-page (word ∷ first ∷ second ∷ third ∷ tokens) = tt

module _ (procs : ℕ) where
  form_behind-formed : (head : Head) (word : List ℕ) (tokens : List (List ℕ)) → IfSome (form_behind procs head word tokens) (IsFormed procs)
  form_behind-formed heads.Procs word [] = tt
  form_behind-formed heads.Procs word (number ∷ []) = procs_formed procs (number_within 1 PROCESSORS number) number refl
  form_behind-formed heads.Procs word (a ∷ b ∷ tokens) = tt
  form_behind-formed heads.Object word [] = tt
  form_behind-formed heads.Object word (name ∷ []) = tt
  form_behind-formed heads.Object word (name ∷ kind ∷ []) = tt
  form_behind-formed heads.Object word (name ∷ kind ∷ layout ∷ []) = declared_formed procs name (kind_named kind) (layout_named layout)
  form_behind-formed heads.Object word (a ∷ b ∷ c ∷ d ∷ tokens) = tt
  form_behind-formed heads.Worker word [] = tt
  form_behind-formed heads.Worker word (name ∷ []) = tt
  form_behind-formed heads.Worker word (name ∷ proc ∷ []) = worker_formed procs (free_name name) (number_below procs proc) name proc refl refl
  form_behind-formed heads.Worker word (a ∷ b ∷ c ∷ tokens) = tt
  form_behind-formed heads.Begin word [] = tt
  form_behind-formed heads.Begin word (a ∷ tokens) = tt
  form_behind-formed heads.End word [] = tt
  form_behind-formed heads.End word (a ∷ tokens) = tt
  form_behind-formed heads.Swap word [] = tt
  form_behind-formed heads.Swap word (object ∷ []) = tt
  form_behind-formed heads.Swap word (object ∷ layout ∷ []) =
      if_some_map (λ (named : LayoutName). Unit {0}) (IsFormed procs) (λ named. forms.Asks (name_of object) (Swap (Layout (layout_number named)))) (layout_named layout) (λ named any. number_has_word named) (any_some (layout_named layout))
    where
      any_some : (layout : Option LayoutName) → IfSome layout (λ (named : LayoutName). Unit {0})
      any_some None = tt
      any_some (Some named) = tt
  form_behind-formed heads.Swap word (a ∷ b ∷ c ∷ tokens) = tt
  form_behind-formed heads.Destroy word tokens = swap_to_formed procs Dead tt tokens
  form_behind-formed heads.Watch word tokens = swap_to_formed procs Watch tt tokens
  form_behind-formed heads.Unwatch word tokens = swap_to_formed procs Unwatch tt tokens
  form_behind-formed heads.Call word tokens =
      if_some_map HasNamed (IsFormed procs) (λ request. forms.Asks (name_of word) request) (request_of tokens) (λ request page. page) (request_of-page tokens)

  pub form_of-formed : (tokens : List (List ℕ)) → IfSome (form_of procs tokens) (IsFormed procs)
  form_of-formed [] = tt
  form_of-formed (word ∷ tokens) = form_behind-formed (head_of word) word tokens

  procs_form-procs : (tokens : List (List ℕ)) → IfSome (procs_form tokens) IsProcs
  procs_form-procs [] = tt
  procs_form-procs (number ∷ []) = tt
  procs_form-procs (a ∷ b ∷ tokens) = tt

  -- a line that begins as one of processors is one
  pub form_of-procs : (tokens : List (List ℕ)) → begins_procs tokens ≡ true → IfSome (form_of procs tokens) IsProcs
  form_of-procs [] begins = tt
  form_of-procs (word ∷ tokens) begins = rw begins (procs_form-procs tokens)
