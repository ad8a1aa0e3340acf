-- The processors share the cells of a row out.
use Rattle.std.proofs.Common.{◌≡◌, ℕ, zero, suc, ◌+◌, ◌-◌, ◌*◌, ◌/◌, ◌<◌, ◌≤◌, refl, sym, ap, ◌∙◌, subst, arith}
use Rattle.std.proofs.lemmas.Nat.{div-add-mod', mod_below, div-mul-add, le-div, mul-le}
use Rattle.k42_shapes.specs.declared.shape.Shape.{Shape}
use Rattle.k42_shapes.specs.declared.shape.Shape.TheVariants.{One, Each, Groups}
use Rattle.k42_shapes.specs.Shapes.{width_of, cell_called, cells_of, IsInGroup, AreTogether, IsCalled}

pub width_some : (width : ℕ) → 0 < width_of width
width_some zero = omega arith
width_some (suc more) = omega arith

-- a processor is in the group that its cell names, and in no other
in_its_group : (width proc : ℕ) → 0 < width → IsInGroup width (proc / width) proc
in_its_group width proc some =
    let whole = div-add-mod' proc width in
    let rest = mod_below proc width some in
    record { from = omega (arith, whole); below = omega (arith, whole, rest) }

group_is : (width group proc : ℕ) → IsInGroup width group proc → proc / width ≡ group
group_is width group proc is =
    let from = is.from in
    let below = is.below in
    let parts : group * width + (proc - group * width) ≡ proc = omega (arith, from) in
    ap (λ n. n / width) (sym parts) ∙ div-mul-add group width (proc - group * width) (omega (arith, from, below))

-- the cell of a processor is in the row
pub cell_within : (shape : Shape) (proc procs : ℕ) → proc < procs → cell_called shape proc < cells_of shape procs
cell_within One proc procs there = omega arith
cell_within Each proc procs there = there
cell_within (Groups width) proc procs there =
    let from = (in_its_group (width_of width) proc (width_some width)).from in
    let most = le-div (proc / width_of width) (procs - 1) (width_of width) (width_some width) (omega (arith, from, there)) in
    omega (arith, most)

-- those who are together call one cell, and no others do
pub together_called : (shape : Shape) (one other : ℕ) → AreTogether shape one other → cell_called shape one ≡ cell_called shape other
together_called One one other together = refl
together_called Each one other together = together
together_called (Groups width) one other together =
    group_is (width_of width) together.group one together.has_one
    ∙ sym (group_is (width_of width) together.group other together.has_other)

pub called_together : (shape : Shape) (one other : ℕ) → cell_called shape one ≡ cell_called shape other → AreTogether shape one other
called_together One one other same = tt
called_together Each one other same = same
called_together (Groups width) one other same = record {
  group = one / width_of width;
  has_one = in_its_group (width_of width) one (width_some width);
  has_other = subst (λ group. IsInGroup (width_of width) group other) (sym same) (in_its_group (width_of width) other (width_some width));
}

-- each cell of a row is called
pub cell_is_called : (shape : Shape) (procs cell : ℕ) → 0 < procs → cell < cells_of shape procs → IsCalled shape procs cell
cell_is_called One procs cell some within = record { proc = 0; there = some; called = omega (arith, within) }
cell_is_called Each procs cell some within = record { proc = cell; there = within; called = refl }
cell_is_called (Groups width) procs cell some within =
    let last = (in_its_group (width_of width) (procs - 1) (width_some width)).from in
    let most = mul-le cell (width_of width) ((procs - 1) / width_of width) (width_of width) (omega (arith, within)) (omega arith) in
    let plain : cell * width_of width + 0 ≡ cell * width_of width = omega arith in
    record {
      proc = cell * width_of width;
      there = omega (arith, last, most, some);
      called = ap (λ n. n / width_of width) (sym plain) ∙ div-mul-add cell (width_of width) 0 (width_some width);
    }

-- a row has a cell, and no more of them than there are processors
pub some_cells : (shape : Shape) (procs : ℕ) → 0 < procs → 0 < cells_of shape procs
some_cells One procs some = omega arith
some_cells Each procs some = some
some_cells (Groups width) procs some = omega arith

pub few_cells : (shape : Shape) (procs : ℕ) → 0 < procs → cells_of shape procs ≤ procs
few_cells One procs some = some
few_cells Each procs some = omega arith
few_cells (Groups width) procs some =
    let from = (in_its_group (width_of width) (procs - 1) (width_some width)).from in
    let once = mul-le ((procs - 1) / width_of width) 1 ((procs - 1) / width_of width) (width_of width) (omega arith) (width_some width) in
    omega (arith, from, once, some)

pub cell_few : (shape : Shape) (proc procs : ℕ) → proc < procs → cell_called shape proc < procs
cell_few shape proc procs there =
    let within = cell_within shape proc procs there in
    let few = few_cells shape procs (omega (arith, there)) in
    omega (arith, within, few)
