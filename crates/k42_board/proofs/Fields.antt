-- What is read of a word is what it was made of.
use Rattle.std.proofs.Common.{◌≡◌, ℕ, zero, suc, ◌+◌, ◌-◌, ◌*◌, ◌/◌, ◌%◌, ◌^◌, ◌<◌, ◌≤◌, Bool, true, false, eqb, length, sym, refl, ap, ◌∙◌, subst, ⊎_elim, arith, List}
use Rattle.std.specs.Bool.{MatchBool}
use Rattle.std.proofs.lemmas.Nat.Bits.{bit_at_lowest, bit_at-suc}
use Rattle.std.proofs.Math.Nat.{pow-suc}
use Rattle.std.specs.Int.{bit_at}
use Rattle.std.specs.Prelude.{max}
use Rattle.std.specs.Int.RustNames.{bit_or, bit_and}
use lib.Bits.{or_step, or_zero_r, and_mask, and_block}
use Rattle.std.proofs.lemmas.List.Sums.{count_by-le-length}
use Rattle.std.proofs.lemmas.Option.{slice_get-get_or}
use Rattle.k42_shapes.specs.declared.shape.Shape.{Shape}
use Rattle.k42_shapes.specs.Shapes.{shape_at, IsKnownTag}
use Rattle.k42_shapes.proofs.ShapeLaws.{cell_few}
use Rattle.k42_limits.specs.declared.TheConstants.{LAST_INCARNATION}
use Rattle.phase_core.specs.Effects.{root_of, counted_in, counted_out, unblocked, cleared}
use Rattle.phase_core.specs.Objects.{IsMediator, IsOpen, IsEntry, counts_at}
use Rattle.phase_core.specs.Outlooks.{is_mediated, behind}
use Rattle.phase_core.specs.Plain.{Object, Phases}
use Rattle.phase_core.specs.Sound.{IsSound}
use Rattle.phase_core.specs.State.{object_at, entry_at, fresh_object, empty_entry}
use Rattle.phase_core.specs.declared.caller.SwapAt.{SwapAt}
use Rattle.phase_core.specs.declared.object.LocalEntry.{LocalEntry}
use Rattle.phase_core.proofs.InSound.{object_known}
use Rattle.k42_board.specs.Tabling.{entry_in}
use Rattle.k42_board.specs.Values.{bit, bits_value, object_value, local_value, layout_in, incarnation_in, count_in, has_bit}

pub bit_small : (b : Bool) → bit b ≤ 1
bit_small true = omega arith
bit_small false = omega arith

bit_is : (b : Bool) → eqb (bit b) 1 ≡ b
bit_is true = refl
bit_is false = refl

-- the fields of an object have room in its word
pub record Fits (k : Object) : Type 0 where
  pub count : k.count ≤ 16
  pub layout : k.layout < 16
  pub incarnation : k.incarnation ≤ LAST_INCARNATION

pub record IsRead (k : Object) (word : ℕ) : Type 0 where
  pub count : count_in word ≡ k.count
  pub swap : has_bit word 24 ≡ k.swap
  pub block : has_bit word 25 ≡ k.block
  pub complete : has_bit word 27 ≡ k.complete
  pub layout : layout_in word ≡ k.layout
  pub incarnation : incarnation_in word ≡ k.incarnation

pub object_read : (k : Object) (word : ℕ) → Fits k → word ≡ object_value k → IsRead k word
object_read k word fits is =
    let a : bit k.swap ≤ 1 = bit_small k.swap in
    let b : bit k.block ≤ 1 = bit_small k.block in
    let c : bit k.moving ≤ 1 = bit_small k.moving in
    let d : bit k.complete ≤ 1 = bit_small k.complete in
    let n = fits.count in let l = fits.layout in
    record {
      count = omega (arith, is, a, b, c, d, n, l);
      swap = ap (λ z. eqb z 1) (swap_is a b c d n l) ∙ bit_is k.swap;
      block = ap (λ z. eqb z 1) (block_is a b c d n l) ∙ bit_is k.block;
      complete = ap (λ z. eqb z 1) (complete_is a b c d n l) ∙ bit_is k.complete;
      layout = omega (arith, is, a, b, c, d, n, l);
      incarnation = omega (arith, is, a, b, c, d, n, l);
    } where
      swap_is : bit k.swap ≤ 1 → bit k.block ≤ 1 → bit k.moving ≤ 1 → bit k.complete ≤ 1 → k.count ≤ 16 → k.layout < 16 → word / 2 ^ 24 % 2 ≡ bit k.swap
      swap_is a b c d n l = omega (arith, is, a, b, c, d, n, l)

      block_is : bit k.swap ≤ 1 → bit k.block ≤ 1 → bit k.moving ≤ 1 → bit k.complete ≤ 1 → k.count ≤ 16 → k.layout < 16 → word / 2 ^ 25 % 2 ≡ bit k.block
      block_is a b c d n l = omega (arith, is, a, b, c, d, n, l)

      complete_is : bit k.swap ≤ 1 → bit k.block ≤ 1 → bit k.moving ≤ 1 → bit k.complete ≤ 1 → k.count ≤ 16 → k.layout < 16 → word / 2 ^ 27 % 2 ≡ bit k.complete
      complete_is a b c d n l = omega (arith, is, a, b, c, d, n, l)

-- the word of one that counts one caller more or less
pub counted_more : (k : Object) (word : ℕ) → Fits k → word ≡ object_value k → (word + 1) % 2 ^ 64 ≡ object_value (counted_in k)
counted_more k word fits is =
    let a : bit k.swap ≤ 1 = bit_small k.swap in
    let b : bit k.block ≤ 1 = bit_small k.block in
    let c : bit k.moving ≤ 1 = bit_small k.moving in
    let d : bit k.complete ≤ 1 = bit_small k.complete in
    let n = fits.count in let l = fits.layout in let i = fits.incarnation in omega (arith, is, a, b, c, d, n, l, i)

pub counted_less : (k : Object) (word : ℕ) → Fits k → 1 ≤ k.count → word ≡ object_value k
    → (word + (2 ^ 64 - 1)) % 2 ^ 64 ≡ object_value (counted_out k)
counted_less k word fits some is =
    let a : bit k.swap ≤ 1 = bit_small k.swap in
    let b : bit k.block ≤ 1 = bit_small k.block in
    let c : bit k.moving ≤ 1 = bit_small k.moving in
    let d : bit k.complete ≤ 1 = bit_small k.complete in
    let n = fits.count in let l = fits.layout in let i = fits.incarnation in omega (arith, is, some, a, b, c, d, n, l, i)

-- the OR of a power of 2 whose bit is set, or is not
half : (k : ℕ) → 2 ^ suc k / 2 ≡ 2 ^ k
half k = let pow = pow-suc 2 k in omega (arith, pow)

even : (k : ℕ) → 2 ^ suc k % 2 ≡ 0
even k = let pow = pow-suc 2 k in omega (arith, pow)

pub or_set : (k n : ℕ) → bit_at n k ≡ 1 → bit_or n (2 ^ k) ≡ n
or_set zero n e =
    let step = or_step n 1 in let low = bit_at_lowest n in let none = or_zero_r (n / 2) in omega (arith, step, low, none, e)
or_set (suc k) n e =
    let step : bit_or n (2 ^ suc k) ≡ bit_or (n / 2) (2 ^ k) * 2 + max (n % 2) 0 =
    or_step n (2 ^ suc k) ∙ ap (λ (z : ℕ × ℕ). bit_or (n / 2) z.0 * 2 + max (n % 2) z.1) (λ j. (half k j, even k j)) in
    let ih = or_set k (n / 2) (sym (bit_at-suc n k) ∙ e) in omega (arith, step, ih)

pub or_clear : (k n : ℕ) → bit_at n k ≡ 0 → bit_or n (2 ^ k) ≡ n + 2 ^ k
or_clear zero n e =
    let step = or_step n 1 in let low = bit_at_lowest n in let none = or_zero_r (n / 2) in omega (arith, step, low, none, e)
or_clear (suc k) n e =
    let step : bit_or n (2 ^ suc k) ≡ bit_or (n / 2) (2 ^ k) * 2 + max (n % 2) 0 =
    or_step n (2 ^ suc k) ∙ ap (λ (z : ℕ × ℕ). bit_or (n / 2) z.0 * 2 + max (n % 2) z.1) (λ j. (half k j, even k j)) in
    let ih = or_clear k (n / 2) (sym (bit_at-suc n k) ∙ e) in let pow = pow-suc 2 k in omega (arith, step, ih, pow)

pub swap_set : (k : Object) (word : ℕ) → Fits k → word ≡ object_value k → bit_or word 16777216 ≡ object_value (record k { swap = true })
swap_set k word fits is =
    let b : bit k.block ≤ 1 = bit_small k.block in
    let c : bit k.moving ≤ 1 = bit_small k.moving in
    let d : bit k.complete ≤ 1 = bit_small k.complete in
    by_swap k.swap refl b c d fits.count fits.layout where
      by_swap : (a : Bool) → k.swap ≡ a → bit k.block ≤ 1 → bit k.moving ≤ 1 → bit k.complete ≤ 1 → k.count ≤ 16 → k.layout < 16
          → bit_or word 16777216 ≡ object_value (record k { swap = true })
      by_swap true e b c d n l =
          let one : bit k.swap ≡ 1 = ap bit e in
          or_set 24 word (omega (arith, is, one, b, c, d, n, l)) ∙ omega (arith, is, one)
      by_swap false e b c d n l =
          let none : bit k.swap ≡ 0 = ap bit e in
          or_clear 24 word (omega (arith, is, none, b, c, d, n, l)) ∙ omega (arith, is, none)

pub block_set : (k : Object) (word : ℕ) → Fits k → k.block ≡ false → word ≡ object_value k → bit_or word 33554432 ≡ object_value (record k { block = true })
block_set k word fits e is =
    let a : bit k.swap ≤ 1 = bit_small k.swap in
    let c : bit k.moving ≤ 1 = bit_small k.moving in
    let d : bit k.complete ≤ 1 = bit_small k.complete in
    let none : bit k.block ≡ 0 = ap bit e in let n = fits.count in let l = fits.layout in
    or_clear 25 word (omega (arith, is, none, a, c, d, n, l)) ∙ omega (arith, is, none)

-- the fields of an entry have room in its word
pub record EntryFits (e : LocalEntry) : Type 0 where
  pub tag : e.tag ≤ 2
  pub layout : e.layout < 16
  pub cell : e.cell < 8

pub entry_read : (e : LocalEntry) (word : ℕ) → EntryFits e → word ≡ local_value e → entry_in word ≡ e
entry_read e word fits is = let t = fits.tag in let l = fits.layout in let c = fits.cell in
    same (omega (arith, is, t, l, c)) (omega (arith, is, t, l, c)) (omega (arith, is, t, l, c)) (omega (arith, is, t, l, c)) where
      same : (entry_in word).tag ≡ e.tag → (entry_in word).layout ≡ e.layout → (entry_in word).cell ≡ e.cell → (entry_in word).incarnation ≡ e.incarnation
          → entry_in word ≡ e
      same t l c i = λ j. record { tag = t j; layout = l j; cell = c j; incarnation = i j }

root_small : (shapes : List Shape) (layout p : ℕ) → p < 8 → root_of shapes layout p < 8
root_small shapes layout p few = cell_few (shape_at shapes layout) p 8 few

-- what an entry tells
pub record IsEntryOf (shapes : List Shape) (layout p : ℕ) (e : LocalEntry) : Type 0 where
  pub fits : EntryFits e
  pub known : IsKnownTag shapes e.layout
  pub direct : e.tag ≡ 1 → e.layout ≡ layout
  pub root : e.tag ≡ 1 → e.cell ≡ root_of shapes e.layout p
  pub empty : e.tag ≡ 0 → (e.layout ≡ 0) × (e.cell ≡ 0)
  pub last : e.incarnation ≤ LAST_INCARNATION

pub entry_of : (stage : SwapAt) (incarnation : ℕ) (shapes : List Shape) (layout p : ℕ) (e : LocalEntry) → layout < 16 → IsKnownTag shapes layout → p < 8 → incarnation ≤ LAST_INCARNATION
    → IsEntry stage incarnation shapes layout p e → IsEntryOf shapes layout p e
entry_of stage incarnation shapes layout p e few known small most is = by_test (is_mediated stage p) is where
  by_test : (b : Bool) → MatchBool b (IsMediator incarnation (behind stage) e) (IsOpen incarnation shapes layout p e) → IsEntryOf shapes layout p e
  by_test true m = record {
    fits = record {
      tag = let t = m.tag in omega (arith, t);
      layout = let t = m.blank.0 in omega (arith, t);
      cell = let t = m.blank.1 in omega (arith, t);
    };
    known = let t = m.blank.0 in omega (arith, t);
    direct = λ one. absurd (let t = m.tag in omega (arith, t, one));
    root = λ one. absurd (let t = m.tag in omega (arith, t, one));
    empty = λ none. m.blank;
    last = let t = m.number in omega (arith, t, most);
  }
  by_test false o =
      ⊎_elim
      (λ (none : (e.tag ≡ 0) × (e.layout ≡ 0) × (e.cell ≡ 0)).
      record {
        fits = record { tag = let t = none.0 in omega (arith, t); layout = let t = none.1 in omega (arith, t); cell = let t = none.2 in omega (arith, t) };
        known = let t = none.1 in omega (arith, t);
        direct = λ one. absurd (let t = none.0 in omega (arith, t, one));
        root = λ one. absurd (let t = none.0 in omega (arith, t, one));
        empty = λ zero. (none.1, none.2);
        last = let t = o.number in omega (arith, t, most);
      })
      (λ (some : (e.tag ≡ 1) × (e.layout ≡ layout) × (e.cell ≡ root_of shapes layout p)).
      record {
        fits = record {
          tag = let t = some.0 in omega (arith, t);
          layout = let t = some.1 in omega (arith, t, few);
          cell = let t = some.2 in let lt = root_small shapes layout p small in omega (arith, t, lt);
        };
        known = let t = some.1 in omega (arith, t, known);
        direct = λ one. some.1;
        root = λ one. some.2 ∙ ap (λ z. root_of shapes z p) (sym some.1);
        empty = λ zero. absurd (let t = some.0 in omega (arith, t, zero));
        last = let t = o.number in omega (arith, t, most);
      })
      o.tagged

module _ (s : Phases) (sound : IsSound s) (o : ℕ) (there : o < length s.objects) where
  pub object_fits : Fits (object_at s o)
  object_fits = record {
    count =
        let counted = sound.in_scene.counted o (object_at s o) (slice_get-get_or s.objects o fresh_object there) in
        let few = count_by-le-length (λ x. counts_at x.place o) s.callers in
        let many = sound.in_scene.many_callers in let callers = sound.in_scene.in_course.limits.few_callers in
        omega (arith, counted, few, many, callers);
    layout = let known = (object_known s sound o there).bits_follow.layout in let few = (object_known s sound o there).bits_follow.few in omega (arith, known, few);
    incarnation = (object_known s sound o there).bits_follow.last;
  }

  pub entry_known : (p : ℕ) → p < length s.turns.procs → IsEntryOf (object_at s o).shapes (object_at s o).layout p (entry_at (object_at s o) p)
  entry_known p at =
      let look = sound.scene.looks o in let k = object_at s o in
      let many = sound.in_scene.in_course.many_procs in let few = sound.in_scene.in_course.limits.few_procs in
      let long = (object_known s sound o there).many_entries in
      entry_of look.stage look.incarnation k.shapes k.layout p (entry_at k p) object_fits.layout (object_known s sound o there).bits_follow.layout (omega (arith, many, few, at))
      (subst (λ i. i ≤ LAST_INCARNATION) (object_known s sound o there).bits_follow.incarnation object_fits.incarnation)
      ((object_known s sound o there).entries_follow p (entry_at k p)
      (slice_get-get_or k.entries p (empty_entry 0) (omega (arith, many, long, at))))

-- what is left of an object's word under a mask

outer_bits : (a b c d : Bool) → bit_and (bit a + 2 * bit b + 4 * bit c + 8 * bit d) 9 ≡ bit a + 8 * bit d
outer_bits true true true true = refl
outer_bits true true true false = refl
outer_bits true true false true = refl
outer_bits true true false false = refl
outer_bits true false true true = refl
outer_bits true false true false = refl
outer_bits true false false true = refl
outer_bits true false false false = refl
outer_bits false true true true = refl
outer_bits false true true false = refl
outer_bits false true false true = refl
outer_bits false true false false = refl
outer_bits false false true true = refl
outer_bits false false true false = refl
outer_bits false false false true = refl
outer_bits false false false false = refl

inner_bits : (a b c d : Bool) → bit_and (bit a + 2 * bit b + 4 * bit c + 8 * bit d) 6 ≡ 2 * bit b + 4 * bit c
inner_bits true true true true = refl
inner_bits true true true false = refl
inner_bits true true false true = refl
inner_bits true true false false = refl
inner_bits true false true true = refl
inner_bits true false true false = refl
inner_bits true false false true = refl
inner_bits true false false false = refl
inner_bits false true true true = refl
inner_bits false true true false = refl
inner_bits false true false true = refl
inner_bits false true false false = refl
inner_bits false false true true = refl
inner_bits false false true false = refl
inner_bits false false false true = refl
inner_bits false false false false = refl

-- under all ones but for four bits
masked : (high bits count m : ℕ) → high < 2 ^ 36 → count < 2 ^ 24 → bits < 16 → m < 16
    → bit_and (high * 2 ^ 28 + (bits * 2 ^ 24 + count)) ((2 ^ 36 - 1) * 2 ^ 28 + (m * 2 ^ 24 + (2 ^ 24 - 1))) ≡ high * 2 ^ 28 + (bit_and bits m * 2 ^ 24 + count)
masked high bits count m far few small less =
    and_block 28 high (2 ^ 36 - 1) (bits * 2 ^ 24 + count) (m * 2 ^ 24 + (2 ^ 24 - 1)) (omega (arith, few, small)) (omega (arith, less))
    ∙ ap (λ (z : ℕ × ℕ). z.0 * 2 ^ 28 + z.1) (λ j. (top j, low j)) where
      top : bit_and high (2 ^ 36 - 1) ≡ high
      top = and_mask high 36 ∙ omega (arith, far)

      low : bit_and (bits * 2 ^ 24 + count) (m * 2 ^ 24 + (2 ^ 24 - 1)) ≡ bit_and bits m * 2 ^ 24 + count
      low =
          and_block 24 bits m count (2 ^ 24 - 1) few (omega arith)
          ∙ ap (λ z. bit_and bits m * 2 ^ 24 + z) (and_mask count 24 ∙ omega (arith, few))

pub unblocked_value : (k : Object) (word : ℕ) → Fits k → word ≡ object_value k → bit_and word (2 ^ 64 - 1 - 2 ^ 25 - 2 ^ 26) ≡ object_value (unblocked k)
unblocked_value k word fits is =
    let a : bit k.swap ≤ 1 = bit_small k.swap in
    let b : bit k.block ≤ 1 = bit_small k.block in
    let c : bit k.moving ≤ 1 = bit_small k.moving in
    let d : bit k.complete ≤ 1 = bit_small k.complete in
    let n = fits.count in let l = fits.layout in let i = fits.incarnation in
    let apart : word ≡ (k.layout + 16 * k.incarnation) * 2 ^ 28 + (bits_value k * 2 ^ 24 + k.count) = omega (arith, is) in
    let left = masked (k.layout + 16 * k.incarnation) (bits_value k) k.count 9 (omega (arith, l, i)) (omega (arith, n)) (omega (arith, a, b, c, d)) (omega arith) in
    let bits = outer_bits k.swap k.block k.moving k.complete in
    ap (λ z. bit_and z (2 ^ 64 - 1 - 2 ^ 25 - 2 ^ 26)) apart ∙ left
    ∙ ap (λ z. (k.layout + 16 * k.incarnation) * 2 ^ 28 + (z * 2 ^ 24 + k.count)) bits ∙ omega arith

pub cleared_value : (k : Object) (word : ℕ) → Fits k → word ≡ object_value k → bit_and word (2 ^ 64 - 1 - 2 ^ 24 - 2 ^ 27) ≡ object_value (cleared k)
cleared_value k word fits is =
    let a : bit k.swap ≤ 1 = bit_small k.swap in
    let b : bit k.block ≤ 1 = bit_small k.block in
    let c : bit k.moving ≤ 1 = bit_small k.moving in
    let d : bit k.complete ≤ 1 = bit_small k.complete in
    let n = fits.count in let l = fits.layout in let i = fits.incarnation in
    let apart : word ≡ (k.layout + 16 * k.incarnation) * 2 ^ 28 + (bits_value k * 2 ^ 24 + k.count) = omega (arith, is) in
    let left = masked (k.layout + 16 * k.incarnation) (bits_value k) k.count 6 (omega (arith, l, i)) (omega (arith, n)) (omega (arith, a, b, c, d)) (omega arith) in
    let bits = inner_bits k.swap k.block k.moving k.complete in
    ap (λ z. bit_and z (2 ^ 64 - 1 - 2 ^ 24 - 2 ^ 27)) apart ∙ left
    ∙ ap (λ z. (k.layout + 16 * k.incarnation) * 2 ^ 28 + (z * 2 ^ 24 + k.count)) bits ∙ omega arith
