-- An entry comes back from its own head and details.
use Rattle.std.proofs.Common.{◌≡◌, ◌∙◌, ℕ, ◌+◌, ◌*◌, ◌%◌, ◌<◌, Bool, true, false, if◌then◌else◌, IsTrue, Option, Some, None, refl, ap, sym, subst, arith}
use Rattle.std.proofs.lemmas.Bool.Decides.{nat_tests}
use Rattle.k42_limits.specs.declared.TheConstants.{OBJECTS}
use Rattle.k42_kinds.specs.declared.packed.Size.{Size}
use Rattle.k42_kinds.specs.declared.packed.TheConstants.{REPLY_TAGS}
use Rattle.k42_kinds.specs.declared.entry.Act.{Act}
use Rattle.k42_kinds.specs.declared.entry.Act.TheVariants.{Call, Swap}
use Rattle.k42_kinds.specs.declared.entry.To.{To}
use Rattle.k42_kinds.specs.declared.entry.To.TheVariants as tos
use Rattle.k42_kinds.specs.declared.entry.Answer.{Answer}
use Rattle.k42_kinds.specs.declared.entry.Answer.TheVariants.{Replied, Swapped, Busy, Spent, Gone, Abandoned}
use Rattle.k42_kinds.specs.declared.entry.Entry.{Entry}
use Rattle.k42_kinds.specs.Histories.{is_call}
use Rattle.k42_kinds.specs.Packing.{Packing, IsPacked, IsReplyLabel, labelled}
use Rattle.k42_log.specs.declared.head.Head.{Head}
use Rattle.k42_log.specs.Names.{asks_layout, end_name, end_named, is_layout, is_reply, names_layout, names_reply, to_name, to_named}
use Rattle.k42_log.specs.Details.{Details, details_of, front, joined, no_details, no_size}
use Rattle.k42_log.specs.Heads.{FitsAct, FitsAnswer, act_back, act_details, act_size, answer_back, answer_details, answer_name, answer_size, answer_small}
use Rattle.k42_log.specs.Heads.{cell_at, generation_at, generation_or_0, head_of, head_with, object_at, place_of}
use Rattle.k42_log.specs.Entries.{Owner, entry_back}
use Rattle.k42_log.proofs.Joining.{HasJust, behind_at, front_at, front_just}

-- what is packed of an act and of an answer

abbrev pub IsPackedAct : {O : Type 0} → Packing O → Act O → Type 0
IsPackedAct ops (Call op) = IsPacked ops op
IsPackedAct ops (Swap to) = Unit {0}

pub record IsReplyPacked {R : Type 0} (replies : Packing R) (reply : R) : Type 0 where
  pub packed : IsPacked replies reply
  pub low : IsReplyLabel (replies.label reply)

abbrev pub IsPackedAnswer : {R : Type 0} → Packing R → Answer R → Type 0
IsPackedAnswer replies (Replied reply) = IsReplyPacked replies reply
IsPackedAnswer replies _ = Unit {0}

lower : (tag : ℕ) → tag < REPLY_TAGS → names_reply tag ≡ true
lower tag less = grind (arith, nat_tests, less)

-- a call and a swap, told apart by their answers

pub reply_named : {R : Type 0} (replies : Packing R) (reply : R) → IsReplyPacked replies reply
    → names_reply (replies.label reply).tag ≡ true
reply_named replies reply packed = lower (replies.label reply).tag packed.low.tag

-- the name tells how a swap was answered, and whether it was one to a layout
record TellsEnd {R : Type 0} (layout : Bool) (answer : Answer R) (name : ℕ) : Type 0 where
  pub swap : names_reply name ≡ false
  pub kept : names_layout name ≡ layout
  pub again : end_named name (answer_small answer) ≡ answer

end_tells : {R : Type 0} (layout : Bool) (answer : Answer R) → is_reply answer ≡ false
    → TellsEnd layout answer (end_name layout answer)
end_tells layout (Replied reply) is = absurd (cc is)
end_tells true (Swapped number) is = record { swap = refl; kept = refl; again = refl }
end_tells true (Busy number) is = record { swap = refl; kept = refl; again = refl }
end_tells true Spent is = record { swap = refl; kept = refl; again = refl }
end_tells true Gone is = record { swap = refl; kept = refl; again = refl }
end_tells true (Abandoned number) is = record { swap = refl; kept = refl; again = refl }
end_tells false (Swapped number) is = record { swap = refl; kept = refl; again = refl }
end_tells false (Busy number) is = record { swap = refl; kept = refl; again = refl }
end_tells false Spent is = record { swap = refl; kept = refl; again = refl }
end_tells false Gone is = record { swap = refl; kept = refl; again = refl }
end_tells false (Abandoned number) is = record { swap = refl; kept = refl; again = refl }

end_told : {O R : Type 0} (replies : Packing R) (act : Act O) (answer : Answer R) → is_reply answer ≡ false
    → TellsEnd (asks_layout act) answer (answer_name replies act answer)
end_told replies act (Replied reply) is = absurd (cc is)
end_told replies act (Swapped number) is = end_tells (asks_layout act) (Swapped number) is
end_told replies act (Busy number) is = end_tells (asks_layout act) (Busy number) is
end_told replies act Spent is = end_tells (asks_layout act) Spent is
end_told replies act Gone is = end_tells (asks_layout act) Gone is
end_told replies act (Abandoned number) is = end_tells (asks_layout act) (Abandoned number) is

to_again : (to : To) → to_named (is_layout to) (to_name to) ≡ to
to_again (tos.Layout number) = refl
to_again tos.Dead = refl
to_again tos.Watch = refl
to_again tos.Unwatch = refl

-- what is packed has the size that is told
just : {V : Type 0} (packing : Packing V) (value : V) → IsPacked packing value → HasJust (packing.size (packing.label value)) (details_of packing value)
just packing value packed =
    let whole = packed.sized (packing.words value) (packing.bytes value) packed.fits in
    record { words = whole.words; bytes = whole.bytes }

module _ {O R : Type 0} (ops : Packing O) (replies : Packing R) (entry : Entry O R) where
  abbrev call_head : O → R → Head
  call_head op reply = head_with ops replies entry (Call op) (Replied reply)

  -- the size that the head tells is that of the details

  pub act_sized : (act : Act O) (answer : Answer R) → IsPackedAct ops act → IsPackedAnswer replies answer → is_call act ≡ is_reply answer
      → HasJust (act_size ops (head_with ops replies entry act answer)) (act_details ops act)
  act_sized (Call op) (Replied reply) packed told pair =
      let is : act_size ops (call_head op reply) ≡ ops.size (ops.label op) = ap (λ (b : Bool). if b then ops.size (ops.label op) else no_size) (reply_named replies reply told) in
      subst (λ (size : Size). HasJust size (details_of ops op)) (sym is) (just ops op packed)
  act_sized (Call op) (Swapped number) packed told pair = absurd (cc pair)
  act_sized (Call op) (Busy number) packed told pair = absurd (cc pair)
  act_sized (Call op) Spent packed told pair = absurd (cc pair)
  act_sized (Call op) Gone packed told pair = absurd (cc pair)
  act_sized (Call op) (Abandoned number) packed told pair = absurd (cc pair)
  act_sized (Swap to) answer packed told pair =
      let is : act_size ops (head_with ops replies entry (Swap to) answer) ≡ no_size =
      ap (λ (b : Bool). if b then ops.size (labelled (to_name to) (answer_small answer)) else no_size) (end_told {O = O} replies (Swap to) answer (sym pair)).swap in
      subst (λ (size : Size). HasJust size no_details) (sym is) (record { words = refl; bytes = refl })

  end_sized : (act : Act O) (answer : Answer R) → is_reply answer ≡ false
      → HasJust (answer_size replies (head_with ops replies entry act answer)) no_details
  end_sized act answer is =
      let none : answer_size replies (head_with ops replies entry act answer) ≡ no_size =
      ap (λ (b : Bool). if b then replies.size (labelled (answer_name replies act answer) 0) else no_size) (end_told replies act answer is).swap in
      subst (λ (size : Size). HasJust size no_details) (sym none) (record { words = refl; bytes = refl })

  pub answer_sized : (act : Act O) (answer : Answer R) → IsPackedAnswer replies answer
      → HasJust (answer_size replies (head_with ops replies entry act answer)) (answer_details replies answer)
  answer_sized act (Replied reply) told =
      let size : answer_size replies (head_with ops replies entry act (Replied reply)) ≡ replies.size (labelled (replies.label reply).tag 0) =
      ap (λ (b : Bool). if b then replies.size (labelled (replies.label reply).tag 0) else no_size) (reply_named replies reply told) in
      let is = size ∙ ap (λ n. replies.size (labelled (replies.label reply).tag n)) (sym told.low.small) in
      subst (λ (size : Size). HasJust size (details_of replies reply)) (sym is) (just replies reply told.packed)
  answer_sized act (Swapped number) told = end_sized act (Swapped number) refl
  answer_sized act (Busy number) told = end_sized act (Busy number) refl
  answer_sized act Spent told = end_sized act Spent refl
  answer_sized act Gone told = end_sized act Gone refl
  answer_sized act (Abandoned number) told = end_sized act (Abandoned number) refl

  -- no other answer is named as a reply
  unreplied : (act : Act O) (answer : Answer R) → is_reply answer ≡ false → ¬ IsTrue (names_reply (answer_name replies act answer))
  unreplied act answer is call = let swap = sym call ∙ (end_told replies act answer is).swap in cc swap

  -- and they may stand behind the labels of the head

  pub act_fits : (act : Act O) (answer : Answer R) (more : Details) → IsPackedAct ops act → IsPackedAnswer replies answer → is_call act ≡ is_reply answer
      → FitsAct ops (head_with ops replies entry act answer) (front (act_size ops (head_with ops replies entry act answer)) (joined (act_details ops act) more))
  act_fits (Call op) (Replied reply) more packed told pair call =
      let own = front_at _ (details_of ops op) more (act_sized (Call op) (Replied reply) packed told pair) in
      subst (λ (d : Details). ops.Fits (ops.label op) d.words d.bytes) (sym own) packed.fits
  act_fits (Call op) (Swapped number) more packed told pair call = absurd (cc pair)
  act_fits (Call op) (Busy number) more packed told pair call = absurd (cc pair)
  act_fits (Call op) Spent more packed told pair call = absurd (cc pair)
  act_fits (Call op) Gone more packed told pair call = absurd (cc pair)
  act_fits (Call op) (Abandoned number) more packed told pair call = absurd (cc pair)
  act_fits (Swap to) answer more packed told pair call = absurd (unreplied (Swap to) answer (sym pair) call)

  pub answer_fits : (act : Act O) (answer : Answer R) → IsPackedAnswer replies answer
      → FitsAnswer replies (head_with ops replies entry act answer) (front (answer_size replies (head_with ops replies entry act answer)) (answer_details replies answer))
  answer_fits act (Replied reply) told call =
      let own : front (answer_size replies (head_with ops replies entry act (Replied reply))) (details_of replies reply) ≡ details_of replies reply =
      front_just _ (details_of replies reply) (answer_sized act (Replied reply) told) in
      subst (λ (d : Details). replies.Fits (labelled (replies.label reply).tag 0) d.words d.bytes) (sym own)
      (subst (λ n. replies.Fits (labelled (replies.label reply).tag n) (replies.words reply) (replies.bytes reply)) told.low.small told.packed.fits)
  answer_fits act (Swapped number) told call = absurd (unreplied act (Swapped number) refl call)
  answer_fits act (Busy number) told call = absurd (unreplied act (Busy number) refl call)
  answer_fits act Spent told call = absurd (unreplied act Spent refl call)
  answer_fits act Gone told call = absurd (unreplied act Gone refl call)
  answer_fits act (Abandoned number) told call = absurd (unreplied act (Abandoned number) refl call)

  act_again : (act : Act O) (answer : Answer R) (more : Details) → IsPackedAct ops act → IsPackedAnswer replies answer → is_call act ≡ is_reply answer
      → act_back ops (head_with ops replies entry act answer) (front (act_size ops (head_with ops replies entry act answer)) (joined (act_details ops act) more)) ≡ act
  act_again (Call op) (Replied reply) more packed told pair =
      ap (act_back ops (call_head op reply)) (front_at _ (details_of ops op) more (act_sized (Call op) (Replied reply) packed told pair))
      ∙ ap (λ (b : Bool). if b then Call (ops.unpack (ops.label op) (ops.words op) (ops.bytes op)) else Swap (to_named (names_layout (replies.label reply).tag) (ops.label op).tag)) (reply_named replies reply told)
      ∙ ap Call packed.again
  act_again (Call op) (Swapped number) more packed told pair = absurd (cc pair)
  act_again (Call op) (Busy number) more packed told pair = absurd (cc pair)
  act_again (Call op) Spent more packed told pair = absurd (cc pair)
  act_again (Call op) Gone more packed told pair = absurd (cc pair)
  act_again (Call op) (Abandoned number) more packed told pair = absurd (cc pair)
  act_again (Swap to) answer more packed told pair =
      let own = front (act_size ops (head_with ops replies entry (Swap to) answer)) (joined no_details more) in
      let name = answer_name {O = O} replies (Swap to) answer in
      let tells = end_told {O = O} replies (Swap to) answer (sym pair) in
      ap (λ (b : Bool). if b then Call (ops.unpack (labelled (to_name to) (answer_small answer)) own.words own.bytes) else Swap (to_named (names_layout name) (to_name to)))
      tells.swap
      ∙ ap (λ (layout : Bool). Swap (to_named layout (to_name to))) tells.kept
      ∙ ap Swap (to_again to)

  end_again : (to : To) (answer : Answer R) (own : Details) → is_reply answer ≡ false
      → answer_back replies (head_with ops replies entry (Swap to) answer) own ≡ answer
  end_again to answer own is =
      let name = answer_name {O = O} replies (Swap to) answer in
      let tells = end_told {O = O} replies (Swap to) answer is in
      ap (λ (b : Bool). if b then Replied (replies.unpack (labelled name 0) own.words own.bytes) else end_named name (answer_small answer))
      tells.swap
      ∙ tells.again

  answer_again : (act : Act O) (answer : Answer R) → IsPackedAnswer replies answer → is_call act ≡ is_reply answer
      → answer_back replies (head_with ops replies entry act answer) (front (answer_size replies (head_with ops replies entry act answer)) (answer_details replies answer)) ≡ answer
  answer_again act (Replied reply) told pair =
      let h = head_with ops replies entry act (Replied reply) in
      ap (answer_back replies h) (front_just (answer_size replies h) (details_of replies reply) (answer_sized act (Replied reply) told))
      ∙ ap (λ (b : Bool). if b then Replied (replies.unpack (labelled (replies.label reply).tag 0) (replies.words reply) (replies.bytes reply)) else end_named (replies.label reply).tag h.small)
      (reply_named replies reply told)
      ∙ ap (λ n. Replied (replies.unpack (labelled (replies.label reply).tag n) (replies.words reply) (replies.bytes reply))) (sym told.low.small)
      ∙ ap Replied told.packed.again
  answer_again (Call op) (Swapped number) told pair = absurd (cc pair)
  answer_again (Call op) (Busy number) told pair = absurd (cc pair)
  answer_again (Call op) Spent told pair = absurd (cc pair)
  answer_again (Call op) Gone told pair = absurd (cc pair)
  answer_again (Call op) (Abandoned number) told pair = absurd (cc pair)
  answer_again (Swap to) (Swapped number) told pair = end_again to (Swapped number) _ refl
  answer_again (Swap to) (Busy number) told pair = end_again to (Busy number) _ refl
  answer_again (Swap to) Spent told pair = end_again to Spent _ refl
  answer_again (Swap to) Gone told pair = end_again to Gone _ refl
  answer_again (Swap to) (Abandoned number) told pair = end_again to (Abandoned number) _ refl

cell_again : (cell object : ℕ) (generation : Option ℕ) → object < OBJECTS
    → cell_at (place_of cell object generation) ≡ cell
cell_again cell object None few = omega arith
cell_again cell object (Some generation) few = omega arith

object_again : (cell object : ℕ) (generation : Option ℕ) → object < OBJECTS
    → object_at (place_of cell object generation) ≡ object
object_again cell object None few = omega arith
object_again cell object (Some generation) few = omega arith

is_odd : (n : ℕ) → (n * 2 + 1) % 2 ≡ 1
is_odd n = omega arith

is_even : (n : ℕ) → (n * 2) % 2 ≡ 0
is_even n = omega arith

generation_again : (cell object : ℕ) (generation : Option ℕ)
    → generation_at (place_of cell object generation) (generation_or_0 generation) ≡ generation
generation_again cell object None = rw is_even refl
generation_again cell object (Some generation) = rw is_odd refl

-- an entry whose operation and reply are packed
pub record IsPackedEntry {O R : Type 0} (ops : Packing O) (replies : Packing R) (entry : Entry O R) : Type 0 where
  pub act : IsPackedAct ops entry.act
  pub answer : IsPackedAnswer replies entry.answer
  pub pair : is_call entry.act ≡ is_reply entry.answer

pub entry_again : {O R : Type 0} (ops : Packing O) (replies : Packing R) (owner : Owner) (entry : Entry O R) → entry.caller ≡ owner.caller → entry.proc ≡ owner.proc
    → entry.object < OBJECTS → IsPackedEntry ops replies entry
    → entry_back ops replies owner entry.index (head_of ops replies entry) (joined (act_details ops entry.act) (answer_details replies entry.answer)) ≡ entry
entry_again ops replies owner entry caller proc few packed i =
    let h = head_of ops replies entry in
    let told = answer_details replies entry.answer in
    let behind_is = behind_at (act_size ops h) (act_details ops entry.act) told (act_sized ops replies entry entry.act entry.answer packed.act packed.answer packed.pair) in
    record {
      stamp = entry.stamp;
      index = entry.index;
      caller = sym caller i;
      object = object_again entry.cell entry.object entry.generation few i;
      incarnation = entry.incarnation;
      cell = cell_again entry.cell entry.object entry.generation few i;
      act = act_again ops replies entry entry.act entry.answer told packed.act packed.answer packed.pair i;
      answer = (ap (λ (d : Details). answer_back replies h (front (answer_size replies h) d)) behind_is ∙ answer_again ops replies entry entry.act entry.answer packed.answer packed.pair) i;
      proc = sym proc i;
      generation = generation_again entry.cell entry.object entry.generation i;
    }
