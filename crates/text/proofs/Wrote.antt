-- Pieces put one after the other are one text.
use mathlib.Core.Path.{◌≡◌, sym, ap, ◌∙◌}
use mathlib.Core.Bool.{Bool, true, false}
use mathlib.Core.List.{List, ◌++◌}
use Prim.Native.Nat.{ℕ, ◌+◌, ◌<◌, ◌≤◌}
use native.Mathlib.Omega.{arith}
use borrow.Author.Tests.{le-leb, lt-leb, leb-true, leb-false}
use lib.Dec.{leb}
use lib.ListN.{length, length-append}
use Rattle.wire.specs.Le.{store}
use Rattle.wire.proofs.Store.{store_out, store_length, store_run}
use Rattle.text.specs.Lines.{after}

-- what the test says of the room for n bytes
pub room : (at n len : ℕ) {t : Bool} → t ≡ leb (at + n) len → t ≡ true → at + n ≤ len
room at n len e f = leb-true (at + n) len (sym e ∙ f)

pub no_room : (at n len : ℕ) {t : Bool} → t ≡ leb (at + n) len → t ≡ false → len < at + n
no_room at n len e f = leb-false (at + n) len (sym e ∙ f)

-- c is b with u from `at` on and p the place after it, where u has room
pub record Wrote (b : List ℕ) (at : ℕ) (u c : List ℕ) (p : ℕ) : Type 0 where
  pub left : at + length u ≤ length b → c ≡ store b at u
  pub next : at + length u ≤ length b → p ≡ at + length u

pub after_in : (b : List ℕ) (at : ℕ) (u : List ℕ) → at + length u ≤ length b → after b at u ≡ at + length u
unfolding after
after_in b at u h = rw (le-leb (at + length u) (length b) h)

pub piece : (u : List ℕ) {b c : List ℕ} {at p : ℕ} → (p ≡ after b at u) × (c ≡ store b at u) → Wrote b at u c p
piece u {b} {c} {at} e = record { left = λ h. e.1; next = λ h. e.0 ∙ after_in b at u h }

infixl 60 ◌▸◌
pub ◌▸◌ : {b c d : List ℕ} {at p q : ℕ} {u v : List ℕ} → Wrote b at u c p → Wrote c p v d q → Wrote b at (u ++ v) d q
◌▸◌ {b} {c} {d} {at} {p} {q} {u} {v} f g = record { left = λ h. (both h).1; next = λ h. (both h).0 }
  where
    both : at + length (u ++ v) ≤ length b → (q ≡ at + length (u ++ v)) × (d ≡ store b at (u ++ v))
    both h =
        let n = length-append u v in
        let e : c ≡ store b at u = f.left (omega arith) in
        let l : length c ≡ length b = ap length e ∙ store_length b at u in
        let s : p ≡ at + length u = f.next (omega arith) in (
          omega (arith, g.next (omega arith)),
          g.left (omega arith)
              ∙ ap (λ (x : List ℕ). store x p v) e
              ∙ ap (λ (j : ℕ). store (store b at u) j v) s
              ∙ store_run b at u v (omega arith),
        )

-- a text that has room, and one that has none
pub whole : {b c : List ℕ} {at p : ℕ} {u : List ℕ} → Wrote b at u c p → at + length u ≤ length b → (p ≡ after b at u) × (c ≡ store b at u)
whole {b} {c} {at} {p} {u} w h = (w.next h ∙ sym (after_in b at u h), w.left h)

pub none : (b : List ℕ) (at : ℕ) (u : List ℕ) → length b < at + length u → (at ≡ after b at u) × (b ≡ store b at u)
unfolding after
none b at u h = (rw (lt-leb (at + length u) (length b) h), sym (store_out b at u h))
