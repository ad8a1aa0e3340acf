-- How many details an entry has, and how much room it takes.
use Rattle.std.proofs.Common.{◌≡◌, ◌∙◌, ℕ, zero, suc, ◌+◌, ◌-◌, ◌*◌, ◌/◌, ◌%◌, ◌<◌, ◌≤◌, List, [], ◌∷◌, ◌++◌, length, min, refl, sym, ap, subst, arith, length-append}
use Rattle.std.proofs.Math.Nat.{suc-mul}
use Rattle.std.proofs.lemmas.Nat.{div-add-mod', le-div, div_below}
use Rattle.std.proofs.lemmas.List.Sums.{sum_by_push}
use Rattle.k42_kinds.specs.declared.packed.Size.{Size}
use Rattle.k42_kinds.specs.declared.entry.Entry.{Entry}
use Rattle.k42_kinds.specs.Packing.{Packing, IsNoMoreThan, IsPacked}
use Rattle.k42_log.specs.declared.head.Head.{Head}
use Rattle.k42_log.specs.Details.{Details, details_of, entries_fitting, joined, less_by, size_in}
use Rattle.k42_log.specs.Heads.{head_of}
use Rattle.k42_log.specs.Entries.{AreWhole, head_size}
use Rattle.k42_log.specs.LogFields.{over_most}
use Rattle.k42_log.proofs.BackAgain.{IsPackedEntry, act_sized, answer_sized}
use Rattle.k42_log.proofs.Appended.{each_fits-push, entry_details}

-- three lists, joined, have the sum of their lengths
joined_length : {A : Type 0} (x a b : List A) (n p q : ℕ) → length x ≡ n → length a ≡ p → length b ≡ q
    → length (x ++ (a ++ b)) ≡ n + (p + q)
joined_length {A} x a b n p q one two three = omega (arith, length-append {A = A} x (a ++ b), length-append {A = A} a b)

pub whole_then : {O R : Type 0} (ops : Packing O) (replies : Packing R) (heads : List Head) (details : Details) (entry : Entry O R)
    → IsPackedEntry ops replies entry → AreWhole ops replies heads details
    → AreWhole ops replies (heads ++ head_of ops replies entry ∷ []) (joined details (entry_details ops replies entry))
whole_then ops replies heads details entry packed whole =
    let act = act_sized ops replies entry entry.act entry.answer packed.act packed.answer packed.pair in
    let answer = answer_sized ops replies entry entry.act entry.answer packed.answer in
    record {
      words = joined_length details.words _ _ _ _ _ whole.words act.words answer.words ∙ sym (sum_by_push (λ head. (head_size ops replies head).words) heads (head_of ops replies entry));
      bytes = joined_length details.bytes _ _ _ _ _ whole.bytes act.bytes answer.bytes ∙ sym (sum_by_push (λ head. (head_size ops replies head).bytes) heads (head_of ops replies entry));
      fits = each_fits-push ops replies heads details entry packed whole;
    }

-- how many times a number goes into what there is

quotient_rows : (n k j : ℕ) → n / k ≡ suc j → j * k + k ≤ n
quotient_rows n k j is =
    let whole : n / k * k + n % k ≡ n = div-add-mod' n k in
    let rows : n / k * k ≡ j * k + k = ap (λ q. q * k) is ∙ suc-mul j k in
    omega (arith, whole, rows)

by_quotient : (n k used q : ℕ) → 0 < k → used ≤ k → n / k ≡ q → q ≤ (n - used) / k + 1
by_quotient n k used zero some few is = omega arith
by_quotient n k used (suc j) some few is =
    let rows = quotient_rows n k j is in
    let below : j * k ≤ n - used = omega (arith, rows, few) in
    omega (arith, le-div j (n - used) k some below)

pub quotient_left : (n k used : ℕ) → 0 < k → used ≤ k → n / k ≤ (n - used) / k + 1
quotient_left n k used some few = by_quotient n k used (n / k) some few refl

more_rows : (m n k q : ℕ) → 0 < k → m ≤ n → m / k ≡ q → q ≤ n / k
more_rows m n k zero some more is = omega arith
more_rows m n k (suc j) some more is =
    let rows = quotient_rows m k j is in
    let below : suc j * k ≤ n = omega (arith, rows, more, suc-mul j k) in
    le-div (suc j) n k some below

pub quotient_more : (m n k : ℕ) → 0 < k → m ≤ n → m / k ≤ n / k
quotient_more m n k some more = more_rows m n k (m / k) some more refl

pub quotient_some : (n k : ℕ) → 0 < k → k ≤ n → 0 < n / k
quotient_some n k some fits =
    let one : 1 * k ≤ n = omega (arith, fits) in
    omega (arith, le-div 1 n k some one)

pub quotient_none : (n k : ℕ) → 0 < k → n < k → n / k ≡ 0
quotient_none n k some short =
    let below : n < 1 * k = omega (arith, short) in
    omega (arith, div_below n k 1 some below)

-- a room that is there is as large as what is divided by
pub quotient_whole : (n k : ℕ) → 0 < k → 0 < n / k → k ≤ n
quotient_whole n k some there = by (n / k) refl there where
  by : (q : ℕ) → n / k ≡ q → 0 < q → k ≤ n
  by zero is there = absurd (omega arith)
  by (suc j) is there = omega (arith, quotient_rows n k j is)

-- more room is room for no fewer entries, and too little for one is room for none

min_both : (a b c d : ℕ) → a ≤ c → b ≤ d → min a b ≤ min c d
min_both a b c d one two = omega arith

pub more_fitting : (over one other : Size) → 0 < over.words → 0 < over.bytes → IsNoMoreThan one other
    → entries_fitting over one ≤ entries_fitting over other
more_fitting over one other words bytes more =
    min_both (one.words / over.words) (one.bytes / over.bytes) (other.words / over.words) (other.bytes / over.bytes)
    (quotient_more one.words other.words over.words words more.words) (quotient_more one.bytes other.bytes over.bytes bytes more.bytes)

min_none : (a b : ℕ) → a ≡ 0 → min a b ≡ 0
min_none a b none = omega arith

pub none_fitting : (over spare : Size) → 0 < over.words → spare.words < over.words → entries_fitting over spare ≡ 0
none_fitting over spare some short =
    min_none (spare.words / over.words) (spare.bytes / over.bytes) (quotient_none spare.words over.words some short)

-- the details of an act and of an answer take the room of one entry at most

least_left : (n x m u : ℕ) → n ≤ m + 1 → x ≤ u + 1 → min n x ≤ min m u + 1
least_left n x m u one two = omega arith

taken_twice : (n a b : ℕ) → n - a - b ≡ n - (a + b)
taken_twice n a b = omega arith

twice_left : (n k a b : ℕ) → a + b < k → n / k ≤ (n - a - b) / k + 1
twice_left n k a b few =
    let left : n / k ≤ (n - (a + b)) / k + 1 = quotient_left n k (a + b) (omega (arith, few)) (omega (arith, few)) in
    subst (λ m. n / k ≤ m / k + 1) (sym (taken_twice n a b)) left

pub room_left : {O R : Type 0} (ops : Packing O) (replies : Packing R) (spare act answer : Size)
    → IsNoMoreThan act ops.most → IsNoMoreThan answer replies.most
    → entries_fitting (over_most ops replies) spare ≤ entries_fitting (over_most ops replies) (less_by (less_by spare act) answer) + 1
room_left ops replies spare act answer one two =
    least_left (spare.words / (over_most ops replies).words) (spare.bytes / (over_most ops replies).bytes)
    ((spare.words - act.words - answer.words) / (over_most ops replies).words) ((spare.bytes - act.bytes - answer.bytes) / (over_most ops replies).bytes)
    (twice_left spare.words (over_most ops replies).words act.words answer.words (omega (arith, one.words, two.words)))
    (twice_left spare.bytes (over_most ops replies).bytes act.bytes answer.bytes (omega (arith, one.bytes, two.bytes)))

-- with the room of the heads besides
pub least_room : (heads spare left : ℕ) → spare ≤ left + 1 → min heads spare ≤ min (heads - 1) left + 1
least_room heads spare left most = omega arith

-- where there is room for an entry, its details fit

first_fits : (heads words bytes : ℕ) → 0 < min heads (min words bytes) → (0 < words) × (0 < bytes)
first_fits heads words bytes room = (omega (arith, room), omega (arith, room))

pub both_fit : {O R : Type 0} (ops : Packing O) (replies : Packing R) (heads : ℕ) (spare : Size)
    → 0 < min heads (entries_fitting (over_most ops replies) spare) → IsNoMoreThan (over_most ops replies) spare
both_fit ops replies heads spare room =
    let some = first_fits heads (spare.words / (over_most ops replies).words) (spare.bytes / (over_most ops replies).bytes) room in
    record {
      words = quotient_whole spare.words (over_most ops replies).words (omega arith) some.0;
      bytes = quotient_whole spare.bytes (over_most ops replies).bytes (omega arith) some.1;
    }

-- what is packed is no more than the most

pub details_few : {V : Type 0} (packing : Packing V) (value : V) → IsPacked packing value → IsNoMoreThan (size_in (details_of packing value)) packing.most
details_few packing value packed =
    let whole = packed.sized (packing.words value) (packing.bytes value) packed.fits in
    record { words = omega (arith, whole.words, packed.few.words); bytes = omega (arith, whole.bytes, packed.few.bytes) }

pub op_fits : {O R : Type 0} (ops : Packing O) (replies : Packing R) (heads : ℕ) (spare : Size) (op : O)
    → 0 < min heads (entries_fitting (over_most ops replies) spare) → IsPacked ops op → IsNoMoreThan (size_in (details_of ops op)) spare
op_fits ops replies heads spare op room packed =
    let fits = both_fit ops replies heads spare room in
    let few = details_few ops op packed in
    record { words = omega (arith, fits.words, few.words); bytes = omega (arith, fits.bytes, few.bytes) }

pub reply_fits : {O R : Type 0} (ops : Packing O) (replies : Packing R) (heads : ℕ) (spare left : Size) (op : O) (reply : R)
    → 0 < min heads (entries_fitting (over_most ops replies) spare) → IsPacked ops op → IsPacked replies reply
    → left ≡ less_by spare (size_in (details_of ops op)) → IsNoMoreThan (size_in (details_of replies reply)) left
reply_fits ops replies heads spare left op reply room asked told is =
    let fits = both_fit ops replies heads spare room in
    let one = details_few ops op asked in
    let two = details_few replies reply told in
    subst (IsNoMoreThan (size_in (details_of replies reply))) (sym is)
    (record { words = omega (arith, fits.words, one.words, two.words); bytes = omega (arith, fits.bytes, one.bytes, two.bytes) })
