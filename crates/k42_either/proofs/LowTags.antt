-- The tags of the operations and replies of the three kinds are low.
use Rattle.std.proofs.Common.{◌<◌, arith}
use Rattle.k42_kinds.specs.declared.operation.Op.{Op}
use Rattle.k42_kinds.specs.declared.operation.Op.TheVariants.{Add, Get, Drain, Bind, Find, Unbind, Size, Write, Read, Dirty, Clean, Seen}
use Rattle.k42_kinds.specs.declared.operation.Reply.{Reply}
use Rattle.k42_kinds.specs.declared.operation.Reply.TheVariants.{Done, Taken, None, Number, Text, Zero, Gone}
use Rattle.k42_kinds.specs.PackedCalls.{op_label, reply_label}
use Rattle.k42_kinds.proofs.PackedLemmas.{IsCarriedReply}
use Rattle.k42_kinds.proofs.WordLengths.{text_few}
use Rattle.k42_either.specs.declared.few_tags.TheConstants.{FEWER_TAGS}

pub lower_op : (op : Op) → (op_label op).tag < FEWER_TAGS
lower_op (Add amount) = omega arith
lower_op Get = omega arith
lower_op Drain = omega arith
lower_op (Bind key number) = omega arith
lower_op (Find key) = omega arith
lower_op (Unbind key) = omega arith
lower_op Size = omega arith
lower_op (Write page text) = omega arith
lower_op (Read page) = omega arith
lower_op Dirty = omega arith
lower_op Clean = omega arith
lower_op Seen = omega arith

pub lower_reply : (reply : Reply) → IsCarriedReply reply → (reply_label reply).tag < FEWER_TAGS
lower_reply Done carried = omega arith
lower_reply Taken carried = omega arith
lower_reply None carried = omega arith
lower_reply (Number number) carried = omega arith
lower_reply (Text text) carried = omega (arith, text_few text carried)
lower_reply Zero carried = omega arith
lower_reply Gone carried = omega arith
