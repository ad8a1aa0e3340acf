-- An operation that is read is spelled so, and what is spelled so is read.
use Rattle.std.proofs.Common.{◌≡◌, ℕ, ◌-◌, true, IsTrue, List, [], ◌∷◌, ◌++◌, refl, ap, subst, ◌∙◌, cond, arith, inl, inr}
use Rattle.std.specs.Prelude.{Some, None, codes}
use Rattle.std.specs.Fmt.{decimal}
use Rattle.std.specs.Str.{bytes_eq}
use Rattle.k42_kinds.specs.Operations.{same_kind}
use Rattle.k42_kinds.specs.Watched.{watched_object}
use Rattle.k42_kinds.specs.declared.operation.KindName.{KindName}
use Rattle.k42_kinds.specs.declared.operation.KindName.TheVariants as kinds
use Rattle.k42_kinds.specs.declared.operation.Op.{Op}
use Rattle.k42_kinds.specs.declared.operation.Op.TheVariants.{Add, Get, Drain, Bind, Find, Unbind, Size, Write, Read, Dirty, Clean, Seen}
use Rattle.k42_limits.specs.declared.TheConstants.{PAGES}
use Rattle.script_text.specs.Sound.{NamesPage}
use Rattle.record_text.specs.Acts.{operation_word, argument_tokens}
use Rattle.record_text.specs.Values.{FitsOperation}
use Rattle.record_text.specs.Reader.Parts.{Found, ◌>>=◌, number_at, name_at, text_at, most_32, most_64}
use Rattle.record_text.specs.Reader.ActParts.{given_nothing, given, binding_at, page_at, writing_at, counter_operation, directory_operation, pages_operation, own_operation, operation_of, operation_at}
use Rattle.record_text.proofs.Reader.Parts.{step, word_or, pair_is, number_takes, number_again, name_takes, name_again, text_takes, text_again}

-- these tokens are an operation of the kind, and what is left
pub record TakesOperation (kind : KindName) (word : List ℕ) (tokens : List (List ℕ)) (op : Op) (rest : List (List ℕ)) : Type 0 where
  pub spelled : word ∷ tokens ≡ (operation_word op ∷ argument_tokens op) ++ rest
  pub own : IsTrue ((watched_object kind).takes op)
  pub page : NamesPage op
  pub fits : FitsOperation op

given_takes : {X : Type 0} (op : X → Op) (found : Found X) (result : Op) (rest : List (List ℕ)) → given op found ≡ Some (result, rest) → (x : X) × (found ≡ Some (x, rest)) × (op x ≡ result)
unfolding given
given_takes {X} op found result rest e =
    let parts = step found (λ (x : X × List (List ℕ)). Some (op x.0, x.1)) (result, rest) e in
    let same = pair_is (op parts.0.0) result parts.0.1 rest parts.2 in
    (parts.0.0, parts.1 ∙ ap (λ (left : List (List ℕ)). Some (parts.0.0, left)) same.1, same.0)

-- by the operation that was read
takes_as : (kind : KindName) (own op : Op) (word : List ℕ) (tokens rest : List (List ℕ)) → own ≡ op → word ∷ tokens ≡ (operation_word own ∷ argument_tokens own) ++ rest → IsTrue ((watched_object kind).takes own) → NamesPage own → FitsOperation own → TakesOperation kind word tokens op rest
takes_as kind own op word tokens rest same spelled is page fits =
    subst (λ (o : Op). TakesOperation kind word tokens o rest) same (record { spelled = spelled; own = is; page = page; fits = fits })

add_takes : (tokens : List (List ℕ)) (op : Op) (rest : List (List ℕ)) → given Add (number_at 0 most_32 tokens) ≡ Some (op, rest) → TakesOperation kinds.Counter (codes "add") tokens op rest
add_takes tokens op rest e =
    let parts = given_takes Add (number_at 0 most_32 tokens) op rest e in
    let amount = number_takes 0 most_32 tokens parts.0 rest (omega arith) parts.1 in
    takes_as kinds.Counter (Add parts.0) op (codes "add") tokens rest parts.2 (ap (λ (left : List (List ℕ)). codes "add" ∷ left) amount.spelled) refl tt (omega (arith, amount.below))

-- an operation without arguments
nothing_takes : (kind : KindName) (own op : Op) (tokens rest : List (List ℕ)) → IsTrue ((watched_object kind).takes own) → argument_tokens own ≡ [] → NamesPage own → FitsOperation own → given_nothing own tokens ≡ Some (op, rest) → TakesOperation kind (operation_word own) tokens op rest
nothing_takes kind own op tokens rest is none page fits e =
    let same = pair_is own op tokens rest e in
    takes_as kind own op (operation_word own) tokens rest same.0 (rw (same.1, none) refl) is page fits

counter_takes : (word : List ℕ) (tokens : List (List ℕ)) (op : Op) (rest : List (List ℕ)) → counter_operation word tokens ≡ Some (op, rest) → TakesOperation kinds.Counter word tokens op rest
counter_takes word tokens op rest e =
    let from_drain : Found Op = cond (bytes_eq word (codes "drain")) (given_nothing Drain tokens) None in
    let from_get : Found Op = cond (bytes_eq word (codes "get")) (given_nothing Get tokens) from_drain in
    elim (word_or word (codes "add") (given Add (number_at 0 most_32 tokens)) from_get (op, rest) e) [
      | inl this ↦ rw this.0 (add_takes tokens op rest this.1)
      | inr more ↦ elim (word_or word (codes "get") (given_nothing Get tokens) from_drain (op, rest) more) [
        | inl this ↦ rw this.0 (nothing_takes kinds.Counter Get op tokens rest refl refl tt tt this.1)
        | inr more ↦ elim (word_or word (codes "drain") (given_nothing Drain tokens) None (op, rest) more) [
          | inl this ↦ rw this.0 (nothing_takes kinds.Counter Drain op tokens rest refl refl tt tt this.1)
          | inr none ↦ absurd cc
        ]
      ]
    ]

bind_takes : (tokens : List (List ℕ)) (op : Op) (rest : List (List ℕ)) → binding_at tokens ≡ Some (op, rest) → TakesOperation kinds.Directory (codes "bind") tokens op rest
unfolding binding_at
bind_takes tokens op rest e =
    let first = step (name_at tokens) (λ (key : List ℕ × List (List ℕ)). number_at 0 most_64 key.1 >>= (λ (number : ℕ × List (List ℕ)). Some (Bind key.0 number.0, number.1))) (op, rest) e in
    let key = name_takes tokens first.0.0 first.0.1 first.1 in
    let second = step (number_at 0 most_64 first.0.1) (λ (number : ℕ × List (List ℕ)). Some (Bind first.0.0 number.0, number.1)) (op, rest) first.2 in
    let number = number_takes 0 most_64 first.0.1 second.0.0 second.0.1 (omega arith) second.1 in
    let same = pair_is (Bind first.0.0 second.0.0) op second.0.1 rest second.2 in
    let behind : tokens ≡ first.0.0 ∷ decimal second.0.0 ∷ rest = key.0 ∙ ap (λ (left : List (List ℕ)). first.0.0 ∷ left) (number.spelled ∙ ap (λ (left : List (List ℕ)). decimal second.0.0 ∷ left) same.1) in
    takes_as kinds.Directory (Bind first.0.0 second.0.0) op (codes "bind") tokens rest same.0 (ap (λ (left : List (List ℕ)). codes "bind" ∷ left) behind) refl tt (key.1, omega (arith, number.below))

find_takes : (tokens : List (List ℕ)) (op : Op) (rest : List (List ℕ)) → given Find (name_at tokens) ≡ Some (op, rest) → TakesOperation kinds.Directory (codes "find") tokens op rest
find_takes tokens op rest e =
    let parts = given_takes Find (name_at tokens) op rest e in
    let key = name_takes tokens parts.0 rest parts.1 in
    takes_as kinds.Directory (Find parts.0) op (codes "find") tokens rest parts.2 (ap (λ (left : List (List ℕ)). codes "find" ∷ left) key.0) refl tt key.1

unbind_takes : (tokens : List (List ℕ)) (op : Op) (rest : List (List ℕ)) → given Unbind (name_at tokens) ≡ Some (op, rest) → TakesOperation kinds.Directory (codes "unbind") tokens op rest
unbind_takes tokens op rest e =
    let parts = given_takes Unbind (name_at tokens) op rest e in
    let key = name_takes tokens parts.0 rest parts.1 in
    takes_as kinds.Directory (Unbind parts.0) op (codes "unbind") tokens rest parts.2 (ap (λ (left : List (List ℕ)). codes "unbind" ∷ left) key.0) refl tt key.1

directory_takes : (word : List ℕ) (tokens : List (List ℕ)) (op : Op) (rest : List (List ℕ)) → directory_operation word tokens ≡ Some (op, rest) → TakesOperation kinds.Directory word tokens op rest
directory_takes word tokens op rest e =
    let from_size : Found Op = cond (bytes_eq word (codes "size")) (given_nothing Size tokens) None in
    let from_unbind : Found Op = cond (bytes_eq word (codes "unbind")) (given Unbind (name_at tokens)) from_size in
    let from_find : Found Op = cond (bytes_eq word (codes "find")) (given Find (name_at tokens)) from_unbind in
    elim (word_or word (codes "bind") (binding_at tokens) from_find (op, rest) e) [
      | inl this ↦ rw this.0 (bind_takes tokens op rest this.1)
      | inr more ↦ elim (word_or word (codes "find") (given Find (name_at tokens)) from_unbind (op, rest) more) [
        | inl this ↦ rw this.0 (find_takes tokens op rest this.1)
        | inr more ↦ elim (word_or word (codes "unbind") (given Unbind (name_at tokens)) from_size (op, rest) more) [
          | inl this ↦ rw this.0 (unbind_takes tokens op rest this.1)
          | inr more ↦ elim (word_or word (codes "size") (given_nothing Size tokens) None (op, rest) more) [
            | inl this ↦ rw this.0 (nothing_takes kinds.Directory Size op tokens rest refl refl tt tt this.1)
            | inr none ↦ absurd cc
          ]
        ]
      ]
    ]

write_takes : (tokens : List (List ℕ)) (op : Op) (rest : List (List ℕ)) → writing_at tokens ≡ Some (op, rest) → TakesOperation kinds.Pages (codes "write") tokens op rest
unfolding writing_at
write_takes tokens op rest e =
    let first = step (page_at tokens) (λ (page : ℕ × List (List ℕ)). text_at page.1 >>= (λ (text : List ℕ × List (List ℕ)). Some (Write page.0 text.0, text.1))) (op, rest) e in
    let page = number_takes 0 (PAGES - 1) tokens first.0.0 first.0.1 (omega arith) first.1 in
    let second = step (text_at first.0.1) (λ (text : List ℕ × List (List ℕ)). Some (Write first.0.0 text.0, text.1)) (op, rest) first.2 in
    let text = text_takes first.0.1 second.0.0 second.0.1 second.1 in
    let same = pair_is (Write first.0.0 second.0.0) op second.0.1 rest second.2 in
    let behind : tokens ≡ decimal first.0.0 ∷ second.0.0 ∷ rest = page.spelled ∙ ap (λ (left : List (List ℕ)). decimal first.0.0 ∷ left) (text.0 ∙ ap (λ (left : List (List ℕ)). second.0.0 ∷ left) same.1) in
    takes_as kinds.Pages (Write first.0.0 second.0.0) op (codes "write") tokens rest same.0 (ap (λ (left : List (List ℕ)). codes "write" ∷ left) behind) refl (omega (arith, page.below)) text.1

read_takes : (tokens : List (List ℕ)) (op : Op) (rest : List (List ℕ)) → given Read (page_at tokens) ≡ Some (op, rest) → TakesOperation kinds.Pages (codes "read") tokens op rest
read_takes tokens op rest e =
    let parts = given_takes Read (page_at tokens) op rest e in
    let page = number_takes 0 (PAGES - 1) tokens parts.0 rest (omega arith) parts.1 in
    takes_as kinds.Pages (Read parts.0) op (codes "read") tokens rest parts.2 (ap (λ (left : List (List ℕ)). codes "read" ∷ left) page.spelled) refl (omega (arith, page.below)) tt

pages_takes : (word : List ℕ) (tokens : List (List ℕ)) (op : Op) (rest : List (List ℕ)) → pages_operation word tokens ≡ Some (op, rest) → TakesOperation kinds.Pages word tokens op rest
pages_takes word tokens op rest e =
    let from_clean : Found Op = cond (bytes_eq word (codes "clean")) (given_nothing Clean tokens) None in
    let from_dirty : Found Op = cond (bytes_eq word (codes "dirty")) (given_nothing Dirty tokens) from_clean in
    let from_read : Found Op = cond (bytes_eq word (codes "read")) (given Read (page_at tokens)) from_dirty in
    elim (word_or word (codes "write") (writing_at tokens) from_read (op, rest) e) [
      | inl this ↦ rw this.0 (write_takes tokens op rest this.1)
      | inr more ↦ elim (word_or word (codes "read") (given Read (page_at tokens)) from_dirty (op, rest) more) [
        | inl this ↦ rw this.0 (read_takes tokens op rest this.1)
        | inr more ↦ elim (word_or word (codes "dirty") (given_nothing Dirty tokens) from_clean (op, rest) more) [
          | inl this ↦ rw this.0 (nothing_takes kinds.Pages Dirty op tokens rest refl refl tt tt this.1)
          | inr more ↦ elim (word_or word (codes "clean") (given_nothing Clean tokens) None (op, rest) more) [
            | inl this ↦ rw this.0 (nothing_takes kinds.Pages Clean op tokens rest refl refl tt tt this.1)
            | inr none ↦ absurd cc
          ]
        ]
      ]
    ]

own_takes : (kind : KindName) (word : List ℕ) (tokens : List (List ℕ)) (op : Op) (rest : List (List ℕ)) → own_operation kind word tokens ≡ Some (op, rest) → TakesOperation kind word tokens op rest
own_takes kinds.Counter word tokens op rest e = counter_takes word tokens op rest e
own_takes kinds.Directory word tokens op rest e = directory_takes word tokens op rest e
own_takes kinds.Pages word tokens op rest e = pages_takes word tokens op rest e

kind_takes : (kind : KindName) (word : List ℕ) (tokens : List (List ℕ)) (op : Op) (rest : List (List ℕ)) → operation_of kind word tokens ≡ Some (op, rest) → TakesOperation kind word tokens op rest
kind_takes kind word tokens op rest e =
    elim (word_or word (codes "seen") (given_nothing Seen tokens) (own_operation kind word tokens) (op, rest) e) [
      | inl this ↦ rw this.0 (nothing_takes kind Seen op tokens rest refl refl tt tt this.1)
      | inr more ↦ own_takes kind word tokens op rest more
    ]

-- the first token begins an operation of the kind
pub record FindsOperation (kind : KindName) (tokens : List (List ℕ)) (op : Op) (rest : List (List ℕ)) : Type 0 where
  pub spelled : tokens ≡ (operation_word op ∷ argument_tokens op) ++ rest
  pub own : IsTrue ((watched_object kind).takes op)
  pub page : NamesPage op
  pub fits : FitsOperation op

pub operation_takes : (kind : KindName) (tokens : List (List ℕ)) (op : Op) (rest : List (List ℕ)) → operation_at kind tokens ≡ Some (op, rest) → FindsOperation kind tokens op rest
unfolding operation_at
operation_takes kind [] op rest e = absurd cc
operation_takes kind (word ∷ tokens) op rest e =
    let takes = kind_takes kind word tokens op rest e in
    record { spelled = takes.spelled; own = takes.own; page = takes.page; fits = takes.fits }

same_kind_is : (own kind : KindName) → same_kind own kind ≡ true → own ≡ kind
same_kind_is kinds.Counter kinds.Counter same = refl
same_kind_is kinds.Directory kinds.Directory same = refl
same_kind_is kinds.Pages kinds.Pages same = refl
same_kind_is kinds.Counter kinds.Directory same = absurd (cc same)
same_kind_is kinds.Counter kinds.Pages same = absurd (cc same)
same_kind_is kinds.Directory kinds.Counter same = absurd (cc same)
same_kind_is kinds.Directory kinds.Pages same = absurd (cc same)
same_kind_is kinds.Pages kinds.Counter same = absurd (cc same)
same_kind_is kinds.Pages kinds.Directory same = absurd (cc same)

reads_as : (op : Op) (rest : List (List ℕ)) (own kind : KindName) → same_kind own kind ≡ true → operation_at own ((operation_word op ∷ argument_tokens op) ++ rest) ≡ Some (op, rest) → operation_at kind ((operation_word op ∷ argument_tokens op) ++ rest) ≡ Some (op, rest)
reads_as op rest own kind same reads = subst (λ (k : KindName). operation_at k ((operation_word op ∷ argument_tokens op) ++ rest) ≡ Some (op, rest)) (same_kind_is own kind same) reads

-- an operation that is spelled is read
pub operation_again : (kind : KindName) (op : Op) (rest : List (List ℕ)) → IsTrue ((watched_object kind).takes op) → NamesPage op → FitsOperation op → operation_at kind ((operation_word op ∷ argument_tokens op) ++ rest) ≡ Some (op, rest)
unfolding operation_at given binding_at writing_at
operation_again kind (Add amount) rest own page fits = reads_as (Add amount) rest kinds.Counter kind own (rw (number_again 0 most_32 amount rest (omega arith) (omega arith) (omega (arith, fits))) refl)
operation_again kind Get rest own page fits = reads_as Get rest kinds.Counter kind own refl
operation_again kind Drain rest own page fits = reads_as Drain rest kinds.Counter kind own refl
operation_again kind (Bind key number) rest own page fits =
    reads_as (Bind key number) rest kinds.Directory kind own (rw (name_again key (decimal number ∷ rest) fits.0, number_again 0 most_64 number rest (omega arith) (omega arith) (omega (arith, fits.1))) refl)
operation_again kind (Find key) rest own page fits = reads_as (Find key) rest kinds.Directory kind own (rw (name_again key rest fits) refl)
operation_again kind (Unbind key) rest own page fits = reads_as (Unbind key) rest kinds.Directory kind own (rw (name_again key rest fits) refl)
operation_again kind Size rest own page fits = reads_as Size rest kinds.Directory kind own refl
operation_again kind (Write number text) rest own page fits =
    reads_as (Write number text) rest kinds.Pages kind own (rw (number_again 0 (PAGES - 1) number (text ∷ rest) (omega arith) (omega arith) (omega (arith, page)), text_again text rest fits) refl)
operation_again kind (Read number) rest own page fits = reads_as (Read number) rest kinds.Pages kind own (rw (number_again 0 (PAGES - 1) number rest (omega arith) (omega arith) (omega (arith, page))) refl)
operation_again kind Dirty rest own page fits = reads_as Dirty rest kinds.Pages kind own refl
operation_again kind Clean rest own page fits = reads_as Clean rest kinds.Pages kind own refl
operation_again kind Seen rest own page fits = refl
