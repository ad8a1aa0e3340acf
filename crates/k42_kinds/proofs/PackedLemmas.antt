-- What is unpacked of an operation or a reply of the three kinds is what was packed.
use Rattle.std.proofs.Common.{◌≡◌, ℕ, ◌+◌, ◌-◌, ◌*◌, ◌/◌, ◌%◌, ◌<◌, ◌≤◌, ◌==◌, false, min, IsTrue, List, [], length, refl, sym, subst, arith}
use Rattle.std.proofs.lemmas.Bool.{ne_eqb}
use Rattle.k42_limits.specs.declared.TheConstants.{NAME_BYTES, TEXT_BYTES}
use Rattle.k42_kinds.specs.declared.operation.Op.{Op}
use Rattle.k42_kinds.specs.declared.operation.Op.TheVariants.{Add, Get, Drain, Bind, Find, Unbind, Size, Write, Read, Dirty, Clean, Seen}
use Rattle.k42_kinds.specs.declared.operation.Reply.{Reply}
use Rattle.k42_kinds.specs.declared.operation.Reply.TheVariants.{Done, Taken, None, Number, Text, Zero, Gone}
use Rattle.k42_kinds.specs.declared.packed.Size as sizes
use Rattle.k42_kinds.specs.Words.{is_name, is_text}
use Rattle.k42_kinds.specs.Packing.{HasSize, IsNoMoreThan, IsPacked, IsReplyLabel, labelled}
use Rattle.k42_kinds.specs.PackedCalls.{op_bytes, op_label, op_packing, op_size, op_unpacked, op_words, is_spelled}
use Rattle.k42_kinds.specs.PackedCalls.{reply_bytes, reply_label, reply_packing, reply_size, reply_unpacked, reply_words, is_spelled_reply, sized}
use Rattle.k42_kinds.proofs.WordLengths.{name_few, text_few}

-- a page has 16 bits, names are names, and a text is one
abbrev pub IsCarried : Op → Type 0
IsCarried (Bind key number) = IsTrue (is_name key)
IsCarried (Find key) = IsTrue (is_name key)
IsCarried (Unbind key) = IsTrue (is_name key)
IsCarried (Write page text) = (page < 65_536) × IsTrue (is_text text)
IsCarried (Read page) = page < 65_536
IsCarried _ = Unit {0}

page_again : (page : ℕ) → page < 65_536 → page % 65_536 ≡ page
page_again page small = omega arith

page_of_write : (long page : ℕ) → page < 65_536 → (long * 65_536 + page) % 65_536 ≡ page
page_of_write long page small = omega arith

least : (few most : ℕ) → few ≤ most → few ≡ min few most
least few most within = omega (arith, within)

length_of_write : (long page : ℕ) → page < 65_536 → long ≤ TEXT_BYTES → long ≡ min ((long * 65_536 + page) / 65_536) TEXT_BYTES
length_of_write long page small within = omega (arith, small, within)

-- what comes again, and is spelled, is packed
comes_again : (op : Op)
    → op_unpacked (op_label op) (op_words op) (op_bytes op) ≡ op → IsTrue (is_spelled op)
    → HasSize (op_size (op_label op)) (op_words op) (op_bytes op) → IsNoMoreThan (op_size (op_label op)) (sized 1 TEXT_BYTES)
    → IsPacked op_packing op
comes_again op again spelled whole few = record {
  again = again;
  fits = record { sized = whole; spelled = subst (λ (o : Op). IsTrue (is_spelled o)) (sym again) spelled };
  sized = λ words bytes fits. fits.sized;
  few = few;
}

no_details : HasSize (sized 0 0) [] []
no_details = record { words = refl; bytes = refl }

none_few : IsNoMoreThan (sized 0 0) (sized 1 TEXT_BYTES)
none_few = record { words = omega arith; bytes = omega arith }

pub packed_op : (op : Op) → IsCarried op → IsPacked op_packing op
packed_op (Add amount) carried = comes_again (Add amount) refl refl no_details none_few
packed_op Get carried = comes_again Get refl refl no_details none_few
packed_op Drain carried = comes_again Drain refl refl no_details none_few
packed_op (Bind key number) carried =
    comes_again (Bind key number) refl carried
    (record { words = refl; bytes = least (length key) NAME_BYTES (name_few key carried) }) (record { words = omega arith; bytes = omega arith })
packed_op (Find key) carried =
    comes_again (Find key) refl carried
    (record { words = refl; bytes = least (length key) NAME_BYTES (name_few key carried) }) (record { words = omega arith; bytes = omega arith })
packed_op (Unbind key) carried =
    comes_again (Unbind key) refl carried
    (record { words = refl; bytes = least (length key) NAME_BYTES (name_few key carried) }) (record { words = omega arith; bytes = omega arith })
packed_op Size carried = comes_again Size refl refl no_details none_few
packed_op (Write page text) carried =
    comes_again (Write page text) (λ i. Write (page_of_write (length text) page carried.0 i) text) carried.1
    (record { words = refl; bytes = length_of_write (length text) page carried.0 (text_few text carried.1) }) (record { words = omega arith; bytes = omega arith })
packed_op (Read page) carried = comes_again (Read page) (λ i. Read (page_again page carried i)) refl no_details none_few
packed_op Dirty carried = comes_again Dirty refl refl no_details none_few
packed_op Clean carried = comes_again Clean refl refl no_details none_few
packed_op Seen carried = comes_again Seen refl refl no_details none_few

abbrev pub IsCarriedReply : Reply → Type 0
IsCarriedReply (Text text) = IsTrue (is_text text)
IsCarriedReply _ = Unit {0}

other_tag : (tag n : ℕ) → n < tag → (tag == n) ≡ false
other_tag tag n less = ne_eqb tag n (λ is. omega (arith, is, less))

text_unpacked : (tag : ℕ) (text : List ℕ) → 5 < tag → reply_unpacked (labelled tag 0) [] text ≡ Text text
text_unpacked tag text more =
    rw (
      other_tag tag 0 (omega (arith, more)),
      other_tag tag 1 (omega (arith, more)),
      other_tag tag 2 (omega (arith, more)),
      other_tag tag 3 (omega (arith, more)),
      other_tag tag 4 (omega (arith, more)),
      other_tag tag 5 (omega (arith, more)),
    ) refl

text_sized : (tag : ℕ) → 5 < tag → reply_size (labelled tag 0) ≡ sized 0 (min (tag - 6) TEXT_BYTES)
text_sized tag more = rw (other_tag tag 3 (omega (arith, more))) refl

reply_again : (reply : Reply)
    → reply_unpacked (reply_label reply) (reply_words reply) (reply_bytes reply) ≡ reply → IsTrue (is_spelled_reply reply)
    → HasSize (reply_size (reply_label reply)) (reply_words reply) (reply_bytes reply)
    → IsNoMoreThan (reply_size (reply_label reply)) (sized 1 TEXT_BYTES)
    → IsPacked reply_packing reply
reply_again reply again spelled whole few = record {
  again = again;
  fits = record { sized = whole; spelled = subst (λ (r : Reply). IsTrue (is_spelled_reply r)) (sym again) spelled };
  sized = λ words bytes fits. fits.sized;
  few = few;
}

pub packed_reply : (reply : Reply) → IsCarriedReply reply → IsPacked reply_packing reply
packed_reply Done carried = reply_again Done refl refl no_details none_few
packed_reply Taken carried = reply_again Taken refl refl no_details none_few
packed_reply None carried = reply_again None refl refl no_details none_few
packed_reply (Number number) carried =
    reply_again (Number number) refl refl (record { words = refl; bytes = refl }) (record { words = omega arith; bytes = omega arith })
packed_reply Zero carried = reply_again Zero refl refl no_details none_few
packed_reply Gone carried = reply_again Gone refl refl no_details none_few
packed_reply (Text text) carried =
    let tag = 6 + length text in
    let size = text_sized tag (omega arith) in
    reply_again (Text text) (text_unpacked tag text (omega arith)) carried
    (subst (λ (s : sizes.Size). HasSize s [] text) (sym size) (record { words = refl; bytes = omega (arith, text_few text carried) }))
    (subst (λ (s : sizes.Size). IsNoMoreThan s (sized 1 TEXT_BYTES)) (sym size) (record { words = omega arith; bytes = omega arith }))

pub low_reply : (reply : Reply) → IsCarriedReply reply → IsReplyLabel (reply_label reply)
low_reply Done carried = record { tag = omega arith; small = refl }
low_reply Taken carried = record { tag = omega arith; small = refl }
low_reply None carried = record { tag = omega arith; small = refl }
low_reply (Number number) carried = record { tag = omega arith; small = refl }
low_reply Zero carried = record { tag = omega arith; small = refl }
low_reply Gone carried = record { tag = omega arith; small = refl }
low_reply (Text text) carried = record { tag = omega (arith, text_few text carried); small = refl }
