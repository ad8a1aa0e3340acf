-- A bucket to which no time brings any tokens gives no more than it holds.
use Rattle.std.proofs.Common.{◌≡◌, ℕ, ◌+◌, ◌*◌, ◌%◌, ◌^◌, ◌≤◌, ap, ◌∙◌, arith}

nothing_brought : (rate latest : ℕ) → rate ≡ 0 → rate * latest ≡ 0
nothing_brought rate latest still = ap (λ r. r * latest) still ∙ (omega arith)

pub no_more : (given told capacity rate latest : ℕ) → told ≡ given % 2 ^ 64 → rate ≡ 0 → given ≤ capacity + rate * latest → told ≤ capacity
no_more given told capacity rate latest is still limited =
    let none = nothing_brought rate latest still in omega (arith, is, none, limited)
