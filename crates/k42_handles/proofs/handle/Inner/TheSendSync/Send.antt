-- A seat may cross threads, and so may the right to free its block.
use Rattle.std.specs.Prelude.{ℕ, zero, suc}
use mir.Raw.{raw}
use base.Shift.{Keyless}
use denote.Memory.{lone}
use denote.RawPtr.{Ptr}
use denote.Struct.Struct.{exits_of}
use denote.Struct.Owning.{shape, fields, to}
use denote.Param.Send.{IsSend, AllSend, owning_send, struct_send, sendable}
use Rattle.std.proofs.Crossing as heap
use Rattle.std_alloc.proofs.SendSync.{quiet, lies}
use Rattle.std_heap.proofs.Global.TheSendSync as handle
use Rattle.std_heap.specs.contracts.Global as Heap
use Rattle.std_heap.specs.contracts.GlobalAllocator.TheImpl.{ghosts}
use Rattle.k42_handles.specs.Holding.{seat_owned}
use Rattle.k42_handles.specs.contracts.seat.Seat as Seat
use Rattle.k42_handles.proofs.seat.Seat.TheSendSync.{the_send as seat}
use Rattle.k42_handles.specs.contracts.handle.Inner.{the_row, the_type}

keyless : (full : ℕ) (a : Heap.the_row.Denot) (p : Ptr) (x : Seat.the_row.Denot) → Keyless (seat_owned (ghosts.dealloc_token a) Seat.the_row full p x)
keyless zero a p x = tt
keyless (suc n) a p x = (lies Seat.the_row seat p x, heap.frees.frees a (raw (lone Seat.the_row.mir)) p)

pub send : IsSend the_row
send =
    let all : AllSend (fields the_type) = (search sendable, (handle.the_field_send, tt)) in
    owning_send the_type all (λ d. keyless d.full d.alloc d.at d.seat)
    (λ k. quiet (to the_type) (exits_of k (fields the_type)) ((struct_send (shape the_type) all).leaving k))
