-- What is unpacked of an operation or a reply of a badge is what was packed.
use Rattle.std.proofs.Common.{◌≡◌, ℕ, ◌+◌, ◌-◌, ◌≤◌, ◌==◌, false, min, IsTrue, List, [], length, refl, sym, subst, arith}
use Rattle.std.proofs.lemmas.Bool.{ne_eqb}
use Rattle.k42_limits.specs.declared.TheConstants.{NAME_BYTES, TEXT_BYTES}
use Rattle.k42_kinds.specs.declared.packed.Size.{Size}
use Rattle.k42_kinds.specs.Words.{is_name, is_text}
use Rattle.k42_kinds.specs.Packing.{HasSize, IsNoMoreThan, IsPacked, IsReplyLabel, labelled}
use Rattle.k42_kinds.specs.PackedCalls.{sized}
use Rattle.log_tests.specs.declared.badge.BadgeOp.{BadgeOp}
use Rattle.log_tests.specs.declared.badge.BadgeOp.TheVariants.{Number, Give}
use Rattle.log_tests.specs.declared.badge.BadgeReply.{BadgeReply}
use Rattle.log_tests.specs.declared.badge.BadgeReply.TheVariants.{Bore, Reads}
use Rattle.log_tests.specs.Badges.{is_worded, op_packing, reply_label, reply_packing, reply_size, reply_unpacked}

least : (few most : ℕ) → few ≤ most → few ≡ min few most
least few most within = omega (arith, within)

abbrev pub IsCarried : BadgeOp → Type 0
IsCarried (Number number) = Unit {0}
IsCarried (Give name) = IsTrue (is_name name) × (length name ≤ NAME_BYTES)

pub packed_op : (op : BadgeOp) → IsCarried op → IsPacked op_packing op
packed_op (Number number) carried = record {
  again = refl;
  fits = record { sized = record { words = refl; bytes = refl }; named = refl };
  sized = λ words bytes fits. fits.sized;
  few = record { words = omega arith; bytes = omega arith };
}
packed_op (Give name) carried = record {
  again = refl;
  fits = record { sized = record { words = refl; bytes = least (length name) NAME_BYTES carried.1 }; named = carried.0 };
  sized = λ words bytes fits. fits.sized;
  few = record { words = omega arith; bytes = omega arith };
}

abbrev pub IsCarriedReply : BadgeReply → Type 0
IsCarriedReply (Bore number) = Unit {0}
IsCarriedReply (Reads text) = IsTrue (is_text text) × (length text ≤ TEXT_BYTES)

not_zero : (n : ℕ) → (1 + n == 0) ≡ false
not_zero n = ne_eqb (1 + n) 0 (λ is. omega (arith, is))

text_again : (text : List ℕ) → reply_unpacked (labelled (1 + length text) 0) [] text ≡ Reads text
text_again text = rw (not_zero (length text)) refl

text_sized : (text : List ℕ) → reply_size (labelled (1 + length text) 0) ≡ sized 0 (min (1 + length text - 1) TEXT_BYTES)
text_sized text = rw (not_zero (length text)) refl

text_has : (text : List ℕ) → length text ≤ TEXT_BYTES → HasSize (reply_size (labelled (1 + length text) 0)) [] text
text_has text few = subst (λ (s : Size). HasSize s [] text) (sym (text_sized text)) (record { words = refl; bytes = omega (arith, few) })

text_few : (text : List ℕ) → IsNoMoreThan (reply_size (labelled (1 + length text) 0)) (sized 1 TEXT_BYTES)
text_few text = subst (λ (s : Size). IsNoMoreThan s (sized 1 TEXT_BYTES)) (sym (text_sized text)) (record { words = omega arith; bytes = omega arith })

pub packed_reply : (reply : BadgeReply) → IsCarriedReply reply → IsPacked reply_packing reply
packed_reply (Bore number) carried = record {
  again = refl;
  fits = record { sized = record { words = refl; bytes = refl }; worded = refl };
  sized = λ words bytes fits. fits.sized;
  few = record { words = omega arith; bytes = omega arith };
}
packed_reply (Reads text) carried = record {
  again = text_again text;
  fits = record { sized = text_has text carried.1; worded = subst (λ (r : BadgeReply). IsTrue (is_worded r)) (sym (text_again text)) carried.0 };
  sized = λ words bytes fits. fits.sized;
  few = text_few text;
}

pub low_reply : (reply : BadgeReply) → IsCarriedReply reply → IsReplyLabel (reply_label reply)
low_reply (Bore number) carried = record { tag = omega arith; small = refl }
low_reply (Reads text) carried = record { tag = omega (arith, carried.1); small = refl }
