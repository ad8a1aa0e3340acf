-- A word is read back where each of its numbers is within its field.
use Rattle.std.proofs.Common.{◌≡◌, ℕ, ◌/◌, ◌%◌, ◌^◌, ◌≤◌, Bool, true, false, eqb, List, refl, ap, ◌∙◌, arith}
use Rattle.std.specs.List.{slice_index}
use Rattle.atomic_table.specs.Table.{State}
use Rattle.gen_core.specs.declared.state.GenProc.{GenProc}
use Rattle.phase_core.specs.Plain.{Object}
use Rattle.k42_stamp.specs.Layouts.{Layouts}
use Rattle.k42_board.specs.Cells.{Slot}
use Rattle.k42_board.specs.Generations.{IsProcessorShown}
use Rattle.k42_board.specs.Phases.{IsObjectShown}
use Rattle.k42_board.specs.Rule.{Rule}
use Rattle.k42_board.specs.Values.{bit, has_bit, object_value}
use Rattle.k42_board.specs.Words.{object_word}
use Rattle.k42_board.specs.declared.view.View.{View}
use Rattle.k42_board.proofs.Fields.{Fits, IsRead, object_read, bit_small, entry_read}
use Rattle.table_laws.specs.Fields.{ProcessorIsRead, ObjectIsRead, NumbersAreRead}
use Rattle.table_laws.specs.Numbers.{ProcessorFits, ObjectFits}
use Rattle.table_laws.proofs.Fitting.{numbers_are}

processor_is_read : (words : List ℕ) (p : ℕ) (k : GenProc) → IsProcessorShown words p k → ProcessorFits p k → ProcessorIsRead words p k
processor_is_read words p k shown fits =
    let is = shown.generation in let few = fits.generation in
    record {
      generation = omega (arith, is, few);
      entered = omega (arith, is, few);
      even = shown.even;
      odd = shown.odd;
    }

moving_is_read : (k : Object) (word : ℕ) → Fits k → word ≡ object_value k → has_bit word 26 ≡ k.moving
moving_is_read k word fits is = ap (λ n. eqb n 1) moving ∙ by_bit k.moving where
  moving : word / 2 ^ 26 % 2 ≡ bit k.moving
  moving =
      let a : bit k.swap ≤ 1 = bit_small k.swap in
      let b : bit k.block ≤ 1 = bit_small k.block in
      let c : bit k.moving ≤ 1 = bit_small k.moving in
      let d : bit k.complete ≤ 1 = bit_small k.complete in
      let n = fits.count in let l = fits.layout in omega (arith, is, a, b, c, d, n, l)

  by_bit : (b : Bool) → eqb (bit b) 1 ≡ b
  by_bit true = refl
  by_bit false = refl

object_is_read : (words : List ℕ) (o : ℕ) (k : Object) → IsObjectShown words o k → ObjectFits o k → ObjectIsRead words o k
object_is_read words o k shown fits = record {
  count = read.count;
  swap = read.swap;
  block = read.block;
  moving = moving_is_read k (slice_index words (object_word o)) small shown.word;
  complete = read.complete;
  layout = read.layout;
  incarnation = read.incarnation;
  freed = shown.freed;
  entries = λ p e at.
      let local = fits.entries p e at in
      let few = local.layout in
      entry_read e _ (record { tag = local.tag; layout = omega (arith, few); cell = local.cell }) (shown.entries p e at);
} where
  small : Fits k
  small = record { count = fits.count; layout = let few = fits.layout in omega (arith, few); incarnation = fits.incarnation }

  read : IsRead k (slice_index words (object_word o))
  read = object_read k (slice_index words (object_word o)) small shown.word

pub numbers_read : {S L P O R : Type 0} (F : Layouts S L P O R) (declared : List L) (table : State (Slot P O R) (View P O R)) (r : Rule F declared table) → NumbersAreRead table.words r.state
numbers_read F declared table r =
    let fit = numbers_are F declared table r in
    record {
      processors = λ p k e. processor_is_read table.words p k (r.shows.generations.procs p k e) (fit.processors p k e);
      objects = λ o k e. object_is_read table.words o k (r.shows.objects o k e) (fit.objects o k e);
    }
