-- Two's complement, once for every width.
use mathlib.Core.Path.{◌≡◌, refl}
use mathlib.Core.Bool.{true, false, true≢false}
use Prim.Native.Nat.{ℕ, suc, ◌-◌, ◌<◌, ◌≤◌, ◌^◌}
use lib.Dec.{T}
use lib.IntN.{ℤ, pos, negsuc, ◌-ℤ◌, nat_abs}
use lib.Signed.{non_neg, lt_z, mag}
use native.Mathlib.Omega.{arith}
use native.Mathlib.Numerals.{sub-one}
use borrow.Author.Tests.{le-ltb, ltb-true}
use mir.Syntax.{Width}
use mir.Val.{SFits, Fits, to_z, of_z, bits, hbits}
use mir.ValLaws.{to_z-of_z, half_full}

-- -1 - z, for a negative z, is the number below it
plus : (a : ℕ) → negsuc 0 -ℤ negsuc a ≡ pos a
plus a = simp (le-ltb (suc a) 1 (omega arith), sub-one)

-- what a program owes for m - (-1 - z), and that it is the word of z. A signed number that passed through an argument or a local is `to_z w (of_z w z)`
pub record Flipped (w : Width) (m : ℕ) (z : ℤ) : Type 0 where
  pub sub_fits : SFits w (negsuc 0 -ℤ to_z w (of_z w z))
  pub sign : T (non_neg (to_z w (of_z w (negsuc 0 -ℤ to_z w (of_z w z)))))
  pub small : Fits w (nat_abs (to_z w (of_z w (negsuc 0 -ℤ to_z w (of_z w z)))))
  pub below : nat_abs (to_z w (of_z w (negsuc 0 -ℤ to_z w (of_z w z)))) ≤ m
  pub word : m - nat_abs (to_z w (of_z w (negsuc 0 -ℤ to_z w (of_z w z)))) ≡ of_z w z

pub negative : (w : Width) (m : ℕ) → suc m ≡ 2 ^ bits w → (z : ℤ) → SFits w z → lt_z (to_z w (of_z w z)) (pos 0) ≡ true → Flipped w m z
negative w m e (pos n) f t = absurd (omega (arith, ltb-true n 0 (rw (to_z-of_z w (pos n) f) at t)))
negative w m e (negsuc a) f t =
    let h : a < 2 ^ bits w = half_full w f.sfits in
    let g : SFits w (pos a) = record { sfits = f.sfits } in
    let u : negsuc 0 -ℤ to_z w (of_z w (negsuc a)) ≡ pos a = rw (to_z-of_z w (negsuc a) f) (plus a) in
    let v : to_z w (of_z w (negsuc 0 -ℤ to_z w (of_z w (negsuc a)))) ≡ pos a = rw u (to_z-of_z w (pos a) g) in
    record { sub_fits = rw u g; sign = rw v tt; small = rw v (record { fits = h }); below = rw v (omega (arith, e, h)); word = rw v (omega (arith, e, h)) }

-- the same for a number that is not negative, which is its own word
pub record Kept (w : Width) (z : ℤ) : Type 0 where
  pub sign : T (non_neg (to_z w (of_z w z)))
  pub small : Fits w (nat_abs (to_z w (of_z w z)))
  pub word : nat_abs (to_z w (of_z w z)) ≡ of_z w z

pub not_negative : (w : Width) (z : ℤ) → SFits w z → lt_z (to_z w (of_z w z)) (pos 0) ≡ false → Kept w z
not_negative w (pos n) f t =
    let v : to_z w n ≡ pos n = to_z-of_z w (pos n) f in
    record { sign = rw v tt; small = rw v (record { fits = half_full w f.sfits }); word = rw v refl }
not_negative w (negsuc a) f t = absurd (true≢false (rw (to_z-of_z w (negsuc a) f) at t))

-- a call's signed result is itself: its `.ok` gives the bound
pub back : (w : Width) (z : ℤ) → mag z < 2 ^ hbits w → to_z w (of_z w z) ≡ z
back w z h = to_z-of_z w z (record { sfits = h })
