-- A counter kept in one part, or in a part for each of two processors: layouts for the computed examples.
use Rattle.std.proofs.Common.{◌≡◌, ℕ, zero, suc, ◌+◌, ◌<◌, Bool, true, false, List, [], ◌∷◌, length, refl, ap, ◌∙◌, arith}
use Rattle.std.specs.Prelude.{Some, IsTrue, option_map, ⊤}
use Rattle.k42_kinds.specs.Histories.{is_call}
use Rattle.k42_kinds.specs.LayoutLaws.{StepsRow, Begins, Imports, AdmitsAsSwapped}
use Rattle.k42_kinds.specs.OneThread.{OneThread, ends_as}
use Rattle.k42_kinds.specs.Rows.{Ways, made_from, part_at, changed_at, IsWithin}
use Rattle.k42_shapes.specs.Shapes.{cells_of, is_dead_tag, shape_at, shared_and_spread}
use Rattle.k42_kinds.specs.declared.entry.Act.{Act}
use Rattle.k42_kinds.specs.declared.entry.Act.TheVariants.{Swap}
use Rattle.k42_kinds.specs.declared.entry.To.TheVariants.{Layout}
use Rattle.k42_kinds.specs.declared.entry.Reach.{Reach}
use Rattle.k42_kinds.specs.declared.entry.Reach.TheVariants.{One, All}
use Rattle.k42_kinds.specs.declared.operation.Op.{Op}
use Rattle.k42_kinds.specs.declared.operation.Op.TheVariants.{Add, Get}
use Rattle.k42_kinds.specs.declared.operation.Reply.{Reply}
use Rattle.k42_kinds.specs.declared.operation.Reply.TheVariants.{Done, Number, Gone}
use Rattle.k42_stamp.specs.Laws.{AreLaws}
use Rattle.k42_stamp.specs.Layouts.{Layouts}

pub data Toy : Type 0 where
  one_part : Toy
  spread : Toy

abbrev pub takes : Op → Bool
takes (Add n) = true
takes Get = true
takes _ = false

abbrev pub after : ℕ → Op → ℕ
after value (Add n) = value + n
after value _ = value

abbrev pub reply : ℕ → Op → Reply
reply value (Add n) = Done
reply value Get = Number value
reply value _ = Gone

abbrev pub counter : OneThread ℕ Op Reply
counter = record { start = 0; takes = takes; after = after; reply = reply; swapped = ends_as 0; is_ended = λ value. false }

-- the parts together
abbrev pub total : List ℕ → ℕ
total [] = 0
total (part ∷ parts) = part + total parts

abbrev pub zeros : ℕ → List ℕ
zeros n = made_from (λ cell. 0) 0 n

-- an addition needs the caller's own part, and the value needs all
abbrev pub reach : Toy → ℕ → Op → ℕ → Reach
reach one_part procs op proc = One 0
reach spread procs (Add n) proc = One proc
reach spread procs _ proc = All

abbrev pub imported : Toy → ℕ → ℕ → List ℕ
imported one_part procs value = value ∷ []
imported spread zero value = []
imported spread (suc more) value = value ∷ zeros more

abbrev pub ways : Toy → Ways ℕ ℕ Op Reply
ways layout = record {
  reach = reach layout;
  empty = λ procs cell. 0;
  part_after = after;
  part_reply = reply;
  row_after = λ parts op. parts;
  row_reply = λ parts op. reply (total parts) op;
  combine = total;
  imported = imported layout;
}

abbrev pub tag : Toy → ℕ
tag one_part = 0
tag spread = 1

abbrev pub act : Toy → Act Op
act one_part = Swap (Layout 0)
act spread = Swap (Layout 1)

-- two processors; each caller is on that of its number, and the others on the first
abbrev pub proc_of : ℕ → ℕ
proc_of zero = 0
proc_of (suc zero) = 1
proc_of _ = 0

abbrev pub F : Layouts ℕ Toy ℕ Op Reply
F = record {
  object_of = λ layout. counter;
  shapes_of = λ layout. shared_and_spread;
  tag_of = tag;
  ways_of = ways;
  Whole = λ layout procs parts. length parts ≡ cells_of (shape_at shared_and_spread (tag layout)) procs;
  Serves = λ layout value. ⊤;
  admitted = λ layout value. value;
  act_of = act;
  procs = 2;
  proc_of = proc_of;
}

-- it has the laws of layouts

length-changed : (f : ℕ → ℕ) (parts : List ℕ) (c : ℕ) → length (changed_at f parts c) ≡ length parts
length-changed f [] c = refl
length-changed f (p ∷ parts) zero = refl
length-changed f (p ∷ parts) (suc c) = ap suc (length-changed f parts c)

total-changed : (n : ℕ) (parts : List ℕ) (c : ℕ) → c < length parts → total (changed_at (λ p. p + n) parts c) ≡ total parts + n
total-changed n [] c lt = absurd (omega arith)
total-changed n (p ∷ parts) zero lt = omega arith
total-changed n (p ∷ parts) (suc c) lt = let rest = total-changed n parts c (omega (arith, lt)) in omega (arith, rest)

there : (parts : List ℕ) (c : ℕ) → c < length parts → (p : ℕ) × (part_at parts c ≡ Some p)
there [] c lt = absurd (omega arith)
there (p ∷ parts) zero lt = (p, refl)
there (p ∷ parts) (suc c) lt = there parts c (omega (arith, lt))

added : (parts : List ℕ) (n c : ℕ) → c < length parts → option_map (λ p. reply p (Add n)) (part_at parts c) ≡ Some Done
added parts n c lt = let at = there parts c lt in ap (option_map (λ p. reply p (Add n))) at.1

-- a row of one part
alone : (parts : List ℕ) → length parts ≡ 1 → (p : ℕ) × (parts ≡ p ∷ [])
alone [] long = absurd (cc)
alone (p ∷ []) long = (p, refl)
alone (p ∷ q ∷ parts) long = absurd (omega (arith, long))

step : (layout : Toy) (proc : ℕ) (parts : List ℕ) (op : Op) → proc < 2 → IsTrue (takes op) → length parts ≡ cells_of (shape_at shared_and_spread (tag layout)) 2
    → StepsRow counter (ways layout) (λ row. length row ≡ cells_of (shape_at shared_and_spread (tag layout)) 2) parts op (reach layout 2 op proc)
step one_part proc [] op lt may long = absurd (cc)
step one_part proc (p ∷ []) (Add n) lt may long = record { whole = refl; moved = omega arith; replied = refl }
step one_part proc (p ∷ []) Get lt may long = record { whole = refl; moved = refl; replied = ap (λ v. Some (Number v)) (omega arith) }
step one_part proc (p ∷ []) op lt may long = absurd (cc)
step one_part proc (p ∷ q ∷ parts) op lt may long = absurd (omega (arith, long))
step spread proc parts (Add n) lt may long = record {
  whole = length-changed (λ p. p + n) parts proc ∙ long;
  moved = total-changed n parts proc (omega (arith, lt, long));
  replied = added parts n proc (omega (arith, lt, long));
}
step spread proc parts Get lt may long = record { whole = long; moved = refl; replied = refl }
step spread proc parts op lt may long = absurd (cc)

within : (layout : Toy) (proc : ℕ) (op : Op) → proc < 2 → IsWithin (cells_of (shape_at shared_and_spread (tag layout)) 2) (reach layout 2 op proc)
within one_part proc op lt = omega arith
within spread proc (Add n) lt = lt
within spread proc op lt = omega arith

begun : (layout : Toy) → Begins counter (ways layout) (λ row. length row ≡ cells_of (shape_at shared_and_spread (tag layout)) 2) shared_and_spread (tag layout) 2
begun one_part = record { whole = refl; empty = λ live. refl }
begun spread = record { whole = refl; empty = λ live. refl }

import : (layout : Toy) (value : ℕ) → Imports (ways layout) (λ row. length row ≡ cells_of (shape_at shared_and_spread (tag layout)) 2) 2 value
import one_part value = record { whole = refl; back = omega arith }
import spread value = record { whole = refl; back = omega arith }

ended : (layout : Toy) → false ≡ is_dead_tag shared_and_spread (tag layout)
ended one_part = refl
ended spread = refl

not_call : (layout : Toy) → is_call (act layout) ≡ false
not_call one_part = refl
not_call spread = refl

swapped : (layout : Toy) (value : ℕ) → AdmitsAsSwapped counter (act layout) value value
swapped one_part value number = refl
swapped spread value number = refl

on_two : (caller : ℕ) → proc_of caller < 2
on_two zero = omega arith
on_two (suc zero) = omega arith
on_two (suc (suc caller)) = omega arith

pub laws : AreLaws F
laws = record {
  some = omega arith;
  on_one = on_two;
  steps = λ layout proc parts op known lt may long. step layout proc parts op lt may long;
  reaches = λ layout proc op known lt may. within layout proc op lt;
  stands = λ layout parts known long. record { sized = long; served = tt };
  begins = λ layout known. begun layout;
  imports = λ layout value known served. import layout value;
  ends = λ layout value known served. ended layout;
  admits = λ layout before value known live same served. tt;
  swaps = λ layout value known. swapped layout value;
  asks = λ layout. not_call layout;
  alike = λ layout other same. refl;
  few = λ layout. omega arith;
}
