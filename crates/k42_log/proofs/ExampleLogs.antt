-- Heads and details, and the entries for which they stand: accepted and refused.
use Rattle.std.proofs.Common.{◌≡◌, ℕ, [], ◌∷◌, Option, Some, None, refl, arith}
use Rattle.k42_kinds.specs.declared.operation.Op.{Op}
use Rattle.k42_kinds.specs.declared.operation.Op.TheVariants.{Add, Bind}
use Rattle.k42_kinds.specs.declared.operation.Reply.{Reply}
use Rattle.k42_kinds.specs.declared.operation.Reply.TheVariants.{Done, Number}
use Rattle.k42_kinds.specs.declared.entry.Act.TheVariants.{Call, Swap}
use Rattle.k42_kinds.specs.declared.entry.To.{To}
use Rattle.k42_kinds.specs.declared.entry.To.TheVariants.{Layout, Dead, Watch}
use Rattle.k42_kinds.specs.declared.entry.Answer.{Answer}
use Rattle.k42_kinds.specs.declared.entry.Answer.TheVariants.{Replied, Swapped, Busy, Gone, Abandoned}
use Rattle.k42_kinds.specs.declared.entry.Entry.{Entry}
use Rattle.k42_kinds.specs.PackedCalls.{op_packing, reply_packing}
use Rattle.k42_log.specs.declared.head.Head.{Head}
use Rattle.k42_log.specs.Details.{Details, no_details}
use Rattle.k42_log.specs.Heads.{head_of}
use Rattle.k42_log.specs.Entries.{AreWhole, Owner, entries_back, entry_back}
use Rattle.k42_log.specs.Logs.{IsNextOf, LogSeen}

abbrev owner : Owner
owner = record { caller = 2; proc = 1 }

-- `bind a 9` at cell 17, which is replied 8
abbrev bind : Entry Op Reply
bind = record {
  stamp = 5;
  index = 40;
  caller = 2;
  object = 3;
  incarnation = 4;
  cell = 17;
  act = Call (Bind (97 ∷ []) 9);
  answer = Replied (Number 8);
  proc = 1;
  generation = Some 6;
}

-- a watch that another's swap refuses, which is number 7
abbrev watch : Entry Op Reply
watch = record {
  stamp = 11;
  index = 41;
  caller = 2;
  object = 3;
  incarnation = 6;
  cell = 0;
  act = Swap Watch;
  answer = Busy 7;
  proc = 1;
  generation = None;
}

abbrev bind_head : Head
bind_head = record {
  stamp = 5;
  incarnation = 4;
  generation = 6;
  small = 1;
  place = 551;
  act = 3;
  answer = 3;
}

abbrev watch_head : Head
watch_head = record {
  stamp = 11;
  incarnation = 6;
  generation = 0;
  small = 7;
  place = 6;
  act = 1;
  answer = 246;
}

abbrev details : Details
details = record { words = 9 ∷ 8 ∷ []; bytes = 97 ∷ [] }

heads_are : head_of op_packing reply_packing bind ∷ head_of op_packing reply_packing watch ∷ [] ≡ bind_head ∷ watch_head ∷ []
heads_are = refl

whole : AreWhole op_packing reply_packing (bind_head ∷ watch_head ∷ []) details
whole = record {
  words = refl;
  bytes = refl;
  fits = (
    record {
      act = λ call. record { sized = record { words = refl; bytes = refl }; spelled = refl };
      answer = λ call. record { sized = record { words = refl; bytes = refl }; spelled = refl };
    },
    (record { act = λ call. absurd (cc call); answer = λ call. absurd (cc call) }, tt),
  );
}

read_back : entries_back op_packing reply_packing owner 40 (bind_head ∷ watch_head ∷ []) details ≡ bind ∷ watch ∷ []
read_back = refl

-- without the last word, the details are not whole
not_whole : ¬ AreWhole op_packing reply_packing (bind_head ∷ watch_head ∷ []) (record details { words = 9 ∷ [] })
not_whole short = omega (arith, short.words)

-- nor are they with a byte that spells no name
no_name : ¬ AreWhole op_packing reply_packing (bind_head ∷ watch_head ∷ []) (record details { bytes = 65 ∷ [] })
no_name wrong = let spelled = (wrong.fits.0.act refl).spelled in cc spelled

-- a place that tells of no generation gives another entry
no_generation : ¬ (entry_back op_packing reply_packing owner 40 (record bind_head { place = 550 }) details ≡ bind)
no_generation same = let other : ◌≡◌ {A = Option ℕ} None (Some 6) = λ i. (same i).generation in cc

-- so do words in another order
other_order : ¬ (entry_back op_packing reply_packing owner 40 bind_head (record details { words = 8 ∷ 9 ∷ [] }) ≡ bind)
other_order same = let other : Call (Bind (97 ∷ []) 8) ≡ Call (Bind (97 ∷ []) 9) = λ i. (same i).act in cc

-- such a swap, and its head

abbrev swap : To → Answer Reply → Entry Op Reply
swap to answer = record watch { act = Swap to; answer = answer }

abbrev swap_head : (small act answer : ℕ) → Head
swap_head small act answer = record watch_head { small = small; act = act; answer = answer }

-- swaps to layouts, of which the last has the highest number, and a destroy
swap_heads :
    head_of op_packing reply_packing (swap (Layout 0) Gone)
    ∷ head_of op_packing reply_packing (swap (Layout 14) (Swapped 8))
    ∷ head_of op_packing reply_packing (swap (Layout 255) (Abandoned 8))
    ∷ head_of op_packing reply_packing (swap Dead Gone) ∷ []
    ≡ swap_head 0 0 243 ∷ swap_head 8 14 240 ∷ swap_head 8 255 244 ∷ swap_head 0 0 248 ∷ []
swap_heads = refl

swap_back : entry_back op_packing reply_packing owner 41 (swap_head 8 255 244) no_details ≡ swap (Layout 255) (Abandoned 8)
swap_back = refl

-- a destroy is not kept as a swap to a layout
destroy_apart : ¬ (head_of op_packing reply_packing (swap (Layout 0) Gone) ≡ head_of op_packing reply_packing (swap Dead Gone))
destroy_apart same = let answers : ◌≡◌ {A = ℕ} 243 248 = λ i. (same i).answer in omega arith

-- nor is one to another layout
layout_apart : ¬ (entry_back op_packing reply_packing owner 41 (swap_head 8 14 240) no_details ≡ swap (Layout 255) (Swapped 8))
layout_apart same = let acts : Swap (Layout 14) ≡ Swap (Layout 255) = λ i. (same i).act in cc acts

-- five less in the answer of a destroy, and it is read as a swap to a layout
destroy_misread : ¬ (entry_back op_packing reply_packing owner 41 (swap_head 0 0 243) no_details ≡ swap Dead Gone)
destroy_misread same = let acts : Swap (Layout 0) ≡ Swap Dead = λ i. (same i).act in cc acts

abbrev log : LogSeen Op Reply
log = record { owner = owner; first = 40; entries = bind ∷ []; room = 1 }

next : IsNextOf log watch
next = record {
  caller = refl;
  proc = refl;
  index = refl;
  few = omega arith;
  object = omega arith;
  cell = omega arith;
  answered = refl;
}

-- an index too high
late : ¬ IsNextOf log (record watch { index = 42 })
late next = omega (arith, next.index)

-- a call is not answered as a swap is
mixed : ¬ IsNextOf log (record watch { act = Call (Add 1) })
mixed next = let both = next.answered in cc

-- nor a swap as a call is
mixed_too : ¬ IsNextOf log (record watch { answer = Replied Done })
mixed_too next = let both = next.answered in cc
