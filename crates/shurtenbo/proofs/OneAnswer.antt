-- Only one answer and one table meet the promise of the screen's call.
use mathlib.Core.Path.{◌≡◌, ap, sym, ◌∙◌}
use mathlib.Core.List.{List}
use Prim.Native.Nat.{ℕ}
use Rattle.screen.proofs.OneAnswer.{one_verdict}
use Rattle.shurtenbo.specs.Code.{verdict_numbers, Screen}

pub one_screen : (b l t u v m n : List ℕ) → Screen b l t u m → Screen b l t v n → (u ≡ v) × (m ≡ n)
one_screen b l t u v m n p q =
    let same = one_verdict b l t p.verdict q.verdict u v p.screened q.screened in
    (same.1, p.told ∙ ap verdict_numbers same.0 ∙ sym q.told)
