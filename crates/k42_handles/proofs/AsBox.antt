-- The handle and the parts own what a box at the same types owns.
use mir.Syntax.{impl, tnil, dnil}
use mathlib.Core.List.{[]}
use denote.Signature.{Slot, plain}
use Rattle.std_alloc.proofs.BoxSteps.Form.{Bx}
use Rattle.std_heap.specs.contracts.Global as Heap
use Rattle.std_heap.specs.contracts.GlobalAllocator.TheImpl.{ghosts, dict}
use Rattle.std_heap.proofs.Global.TheLaws as heap
use Rattle.k42_handles.specs.contracts.seat.Seat as Seat
use Rattle.k42_handles.proofs.seat.Seat.TheLaws as seat
use Rattle.k42_handles.specs.contracts.handle.parts.Parts as Parts
use Rattle.k42_handles.specs.contracts.handle.Inner as Inner

abbrev pub E : Bx
E = record { row = Seat.the_row; laws = seat.the_row_laws; al = record { row = Heap.the_row; laws = heap.the_row_laws; g = ghosts; d = dict; drops = impl [] tnil dnil } }

abbrev pub FromParts : Slot 0
FromParts = plain (λ _. Parts.the_row Seat.the_row Heap.the_row ghosts)

abbrev pub FromInner : Slot 0
FromInner = plain (λ _. Inner.the_row)
