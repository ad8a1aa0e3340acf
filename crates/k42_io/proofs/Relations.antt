-- one call after another: what was taken from a source, and what a sink took
use Rattle.std.proofs.Common.{◌≡◌, ℕ, ◌+◌, ◌-◌, ◌≤◌, List, ◌++◌, length, take, drop, Option, None, Some, refl, sym, ◌∙◌, ap, append_assoc, arith}
use Rattle.std.proofs.lemmas.List.{take_rest, take-append-drop, length-take}
use Rattle.std.proofs.Math.Seq.{drop-append_seam, drop-append-add, take-append-add}
use Rattle.std.specs.Io.KnownBytes.{Consumes}
use Rattle.k42_io.specs.Source.{LosesAtMost}
use Rattle.k42_io.specs.Sink.{Grows}

-- two growths, one after the other
pub Grows-then : (old mid new : Option (List ℕ)) (xs ys zs : List ℕ) → Grows old mid xs → Grows mid new ys → xs ++ ys ≡ zs → Grows old new zs
Grows-then old mid None xs ys zs first second all = tt
Grows-then old None (Some now) xs ys zs first second all = absurd second
Grows-then None (Some between) (Some now) xs ys zs first second all = absurd first
Grows-then (Some before) (Some between) (Some now) xs ys zs first second all =
    rw (second, first, ← all) (append_assoc before xs ys)

-- the first bytes, and the first of those that are left
pub take-then : (done n : ℕ) (bytes : List ℕ) → done ≤ length bytes → take done bytes ++ take n (take (length bytes - done) (drop done bytes)) ≡ take (done + n) bytes
take-then done n bytes within =
    let len : length (take done bytes) ≡ done = omega (arith, length-take {A = ℕ}) in
    rw take_rest (sym (take-append-add (take done bytes) (drop done bytes) n) ∙ rw (take-append-drop, len) refl)

-- two reads, one after the other, lose what both gave
pub loses-both : (n : ℕ) (old mid new : Option (List ℕ)) (xs ys : List ℕ) → Consumes old mid xs → Consumes mid new ys → length xs + length ys ≤ n → LosesAtMost n old new
loses-both n None mid new xs ys first second within = tt
loses-both n (Some before) None new xs ys first second within = absurd first
loses-both n (Some before) (Some between) None xs ys first second within = absurd second
loses-both n (Some before) (Some between) (Some now) xs ys first second within = (
  length xs + length ys,
  within,
  ap Some (sym (rw (first, second, drop-append-add, drop-append_seam) refl)),
)
