-- What a bucket is asked and what it replies, as a log keeps it.
use Rattle.std.specs.Prelude.{ℕ, ◌==◌, if◌then◌else◌, List, [], ◌∷◌}
use Rattle.k42_kinds.specs.declared.packed.Label.{Label}
use Rattle.k42_kinds.specs.declared.packed.Size.{Size}
use Rattle.k42_kinds.specs.Packing.{Packing, HasSize, labelled}
use Rattle.k42_kinds.specs.PackedCalls.{first_word, sized}
use Rattle.co_limiter.specs.declared.bucket.BucketOp.{BucketOp}
use Rattle.co_limiter.specs.declared.bucket.BucketOp.TheVariants.{Take, Refill, Left}
use Rattle.co_limiter.specs.declared.bucket.BucketReply.{BucketReply}
use Rattle.co_limiter.specs.declared.bucket.BucketReply.TheVariants.{Granted, Refused, Done, Tokens, Gone}

abbrev pub bucket_label : BucketOp → Label
bucket_label (Take amount) = labelled 0 amount
bucket_label (Refill time) = labelled 1 0
bucket_label Left = labelled 2 0

abbrev pub bucket_words : BucketOp → List ℕ
bucket_words (Refill time) = time ∷ []
bucket_words _ = []

abbrev pub bucket_size : Label → Size
bucket_size label = if label.tag == 1 then sized 1 0 else sized 0 0

abbrev pub bucket_unpacked : Label → List ℕ → List ℕ → BucketOp
bucket_unpacked label words bytes =
    if label.tag == 0 then Take label.small
    else if label.tag == 1 then Refill (first_word words)
    else Left

abbrev pub bucket_packing : Packing BucketOp
bucket_packing = record {
  label = bucket_label;
  words = bucket_words;
  bytes = λ op. [];
  size = bucket_size;
  most = sized 1 0;
  Fits = λ label. HasSize (bucket_size label);
  unpack = bucket_unpacked;
}

abbrev pub bucket_reply_label : BucketReply → Label
bucket_reply_label Granted = labelled 0 0
bucket_reply_label Refused = labelled 1 0
bucket_reply_label Done = labelled 2 0
bucket_reply_label (Tokens left) = labelled 3 0
bucket_reply_label Gone = labelled 4 0

abbrev pub bucket_reply_words : BucketReply → List ℕ
bucket_reply_words (Tokens left) = left ∷ []
bucket_reply_words _ = []

abbrev pub bucket_reply_size : Label → Size
bucket_reply_size label = if label.tag == 3 then sized 1 0 else sized 0 0

abbrev pub bucket_reply_unpacked : Label → List ℕ → List ℕ → BucketReply
bucket_reply_unpacked label words bytes =
    if label.tag == 0 then Granted
    else if label.tag == 1 then Refused
    else if label.tag == 2 then Done
    else if label.tag == 3 then Tokens (first_word words)
    else Gone

abbrev pub bucket_reply_packing : Packing BucketReply
bucket_reply_packing = record {
  label = bucket_reply_label;
  words = bucket_reply_words;
  bytes = λ reply. [];
  size = bucket_reply_size;
  most = sized 1 0;
  Fits = λ label. HasSize (bucket_reply_size label);
  unpack = bucket_reply_unpacked;
}
