-- What a table of routes is asked and what it replies, as a log keeps it.
use Rattle.std.specs.Prelude.{ℕ, ◌%◌, ◌==◌, if◌then◌else◌, List, [], ◌∷◌, Some, None}
use Rattle.k42_kinds.specs.declared.packed.Label.{Label}
use Rattle.k42_kinds.specs.declared.packed.Size.{Size}
use Rattle.k42_kinds.specs.Packing.{Packing, HasSize, labelled}
use Rattle.k42_kinds.specs.PackedCalls.{first_word, sized}
use Rattle.co_limiter.specs.declared.routing.RouteOp.{RouteOp}
use Rattle.co_limiter.specs.declared.routing.RouteOp.TheVariants.{Find, Add, Remove}
use Rattle.co_limiter.specs.declared.routing.RouteReply.{RouteReply}
use Rattle.co_limiter.specs.declared.routing.RouteReply.TheVariants.{Hop, Done, Gone}

abbrev pub route_label : RouteOp → Label
route_label (Find address) = labelled 0 address
route_label (Add prefix bits hop) = labelled 1 prefix
route_label (Remove prefix bits) = labelled 2 prefix

abbrev pub route_words : RouteOp → List ℕ
route_words (Add prefix bits hop) = hop ∷ []
route_words _ = []

abbrev pub route_bytes : RouteOp → List ℕ
route_bytes (Find address) = []
route_bytes (Add prefix bits hop) = bits ∷ []
route_bytes (Remove prefix bits) = bits ∷ []

abbrev pub route_size : Label → Size
route_size label =
    if label.tag == 0 then sized 0 0
    else if label.tag == 1 then sized 1 1
    else sized 0 1

abbrev pub route_unpacked : Label → List ℕ → List ℕ → RouteOp
route_unpacked label words bytes =
    if label.tag == 0 then Find label.small
    else if label.tag == 1 then Add label.small (first_word bytes) (first_word words % 4_294_967_296)
    else Remove label.small (first_word bytes)

abbrev pub route_packing : Packing RouteOp
route_packing = record {
  label = route_label;
  words = route_words;
  bytes = route_bytes;
  size = route_size;
  most = sized 1 1;
  Fits = λ label. HasSize (route_size label);
  unpack = route_unpacked;
}

abbrev pub route_reply_label : RouteReply → Label
route_reply_label (Hop (Some hop)) = labelled 0 0
route_reply_label (Hop None) = labelled 1 0
route_reply_label Done = labelled 2 0
route_reply_label Gone = labelled 3 0

abbrev pub route_reply_words : RouteReply → List ℕ
route_reply_words (Hop (Some hop)) = hop ∷ []
route_reply_words _ = []

abbrev pub route_reply_size : Label → Size
route_reply_size label = if label.tag == 0 then sized 1 0 else sized 0 0

abbrev pub route_reply_unpacked : Label → List ℕ → List ℕ → RouteReply
route_reply_unpacked label words bytes =
    if label.tag == 0 then Hop (Some (first_word words % 4_294_967_296))
    else if label.tag == 1 then Hop None
    else if label.tag == 2 then Done
    else Gone

abbrev pub route_reply_packing : Packing RouteReply
route_reply_packing = record {
  label = route_reply_label;
  words = route_reply_words;
  bytes = λ reply. [];
  size = route_reply_size;
  most = sized 1 0;
  Fits = λ label. HasSize (route_reply_size label);
  unpack = route_reply_unpacked;
}
