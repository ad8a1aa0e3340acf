-- What is unpacked of a bucket's calls is what was packed.
use Rattle.std.proofs.Common.{refl, arith}
use Rattle.k42_kinds.specs.Packing.{IsPacked, IsReplyLabel}
use Rattle.co_limiter.specs.declared.bucket.BucketOp.{BucketOp}
use Rattle.co_limiter.specs.declared.bucket.BucketOp.TheVariants.{Take, Refill, Left}
use Rattle.co_limiter.specs.declared.bucket.BucketReply.{BucketReply}
use Rattle.co_limiter.specs.declared.bucket.BucketReply.TheVariants.{Granted, Refused, Done, Tokens, Gone}
use Rattle.co_limiter.specs.PackedBuckets.{bucket_packing, bucket_reply_packing, bucket_reply_label}

pub packed_op : (op : BucketOp) → IsPacked bucket_packing op
packed_op (Take amount) = record { again = refl; fits = record { words = refl; bytes = refl }; sized = λ words bytes fits. fits; few = record { words = omega arith; bytes = omega arith } }
packed_op (Refill time) = record { again = refl; fits = record { words = refl; bytes = refl }; sized = λ words bytes fits. fits; few = record { words = omega arith; bytes = omega arith } }
packed_op Left = record { again = refl; fits = record { words = refl; bytes = refl }; sized = λ words bytes fits. fits; few = record { words = omega arith; bytes = omega arith } }

pub packed_reply : (reply : BucketReply) → IsPacked bucket_reply_packing reply
packed_reply Granted = record { again = refl; fits = record { words = refl; bytes = refl }; sized = λ words bytes fits. fits; few = record { words = omega arith; bytes = omega arith } }
packed_reply Refused = record { again = refl; fits = record { words = refl; bytes = refl }; sized = λ words bytes fits. fits; few = record { words = omega arith; bytes = omega arith } }
packed_reply Done = record { again = refl; fits = record { words = refl; bytes = refl }; sized = λ words bytes fits. fits; few = record { words = omega arith; bytes = omega arith } }
packed_reply (Tokens left) = record { again = refl; fits = record { words = refl; bytes = refl }; sized = λ words bytes fits. fits; few = record { words = omega arith; bytes = omega arith } }
packed_reply Gone = record { again = refl; fits = record { words = refl; bytes = refl }; sized = λ words bytes fits. fits; few = record { words = omega arith; bytes = omega arith } }

pub low_reply : (reply : BucketReply) → IsReplyLabel (bucket_reply_label reply)
low_reply Granted = record { tag = omega arith; small = refl }
low_reply Refused = record { tag = omega arith; small = refl }
low_reply Done = record { tag = omega arith; small = refl }
low_reply (Tokens left) = record { tag = omega arith; small = refl }
low_reply Gone = record { tag = omega arith; small = refl }
