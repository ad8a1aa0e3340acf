-- What is unpacked of the calls of a table of routes is what was packed.
use Rattle.std.proofs.Common.{◌≡◌, ℕ, ◌%◌, ◌<◌, Some, None, refl, arith}
use Rattle.k42_kinds.specs.Packing.{IsPacked, IsReplyLabel}
use Rattle.co_limiter.specs.declared.routing.RouteOp.{RouteOp}
use Rattle.co_limiter.specs.declared.routing.RouteOp.TheVariants.{Find, Add, Remove}
use Rattle.co_limiter.specs.declared.routing.RouteReply.{RouteReply}
use Rattle.co_limiter.specs.declared.routing.RouteReply.TheVariants.{Hop, Done, Gone}
use Rattle.co_limiter.specs.PackedRoutes.{route_packing, route_reply_packing, route_reply_label}

-- a hop has 32 bits
abbrev pub IsCarried : RouteOp → Type 0
IsCarried (Add prefix bits hop) = hop < 4_294_967_296
IsCarried _ = Unit {0}

abbrev pub IsCarriedReply : RouteReply → Type 0
IsCarriedReply (Hop (Some hop)) = hop < 4_294_967_296
IsCarriedReply _ = Unit {0}

hop_again : (hop : ℕ) → hop < 4_294_967_296 → hop % 4_294_967_296 ≡ hop
hop_again hop small = omega arith

pub packed_op : (op : RouteOp) → IsCarried op → IsPacked route_packing op
packed_op (Find address) carried = record { again = refl; fits = record { words = refl; bytes = refl }; sized = λ words bytes fits. fits; few = record { words = omega arith; bytes = omega arith } }
packed_op (Add prefix bits hop) carried = record {
  again = λ i. Add prefix bits (hop_again hop carried i);
  fits = record { words = refl; bytes = refl };
  sized = λ words bytes fits. fits;
  few = record { words = omega arith; bytes = omega arith };
}
packed_op (Remove prefix bits) carried = record { again = refl; fits = record { words = refl; bytes = refl }; sized = λ words bytes fits. fits; few = record { words = omega arith; bytes = omega arith } }

pub packed_reply : (reply : RouteReply) → IsCarriedReply reply → IsPacked route_reply_packing reply
packed_reply (Hop (Some hop)) carried = record {
  again = λ i. Hop (Some (hop_again hop carried i));
  fits = record { words = refl; bytes = refl };
  sized = λ words bytes fits. fits;
  few = record { words = omega arith; bytes = omega arith };
}
packed_reply (Hop None) carried = record { again = refl; fits = record { words = refl; bytes = refl }; sized = λ words bytes fits. fits; few = record { words = omega arith; bytes = omega arith } }
packed_reply Done carried = record { again = refl; fits = record { words = refl; bytes = refl }; sized = λ words bytes fits. fits; few = record { words = omega arith; bytes = omega arith } }
packed_reply Gone carried = record { again = refl; fits = record { words = refl; bytes = refl }; sized = λ words bytes fits. fits; few = record { words = omega arith; bytes = omega arith } }

pub low_reply : (reply : RouteReply) → IsReplyLabel (route_reply_label reply)
low_reply (Hop (Some hop)) = record { tag = omega arith; small = refl }
low_reply (Hop None) = record { tag = omega arith; small = refl }
low_reply Done = record { tag = omega arith; small = refl }
low_reply Gone = record { tag = omega arith; small = refl }
