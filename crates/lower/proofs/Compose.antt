-- What a chain of pieces becomes, composed as the code is.
use mathlib.Core.Path.{◌≡◌, refl, ap, ap₂}
use mathlib.Core.List.{List, [], append_assoc}
use Prim.Native.Nat.{ℕ}
use Rattle.lower.specs.Op.{Lowered, becomes, refused, ◌▸◌}
use Rattle.lower.specs.Put.{put_lowered}
use Rattle.lower.specs.Held.{held}
use Rattle.lower.specs.Step.{Puts}
use Rattle.lower.specs.declared.Reason.{Reason}
use Rattle.lower.specs.declared.Emitted.{Emitted}
use Rattle.lower.proofs.Exits.{handed_on}
use Rattle.std.specs.Prelude.{Err, Result, IsErrAnd}

infixl 5 ◌▹◌
pub ◌▹◌ : {a b x y : Lowered} → a ≡ x → b ≡ y → (a ▸ b) ≡ (x ▸ y)
p ▹ q = ap₂ ◌▸◌ p q

pub nothing_first : (x : Lowered) → (becomes [] ▸ x) ≡ x
unfolding ◌▸◌
nothing_first (becomes l) = refl
nothing_first (refused r) = refl

pub assoc : (x y z : Lowered) → (x ▸ y ▸ z) ≡ (x ▸ (y ▸ z))
unfolding ◌▸◌
assoc (becomes a) (becomes b) (becomes c) = ap becomes (append_assoc a b c)
assoc (becomes a) (becomes b) (refused r) = refl
assoc (becomes a) (refused q) (becomes c) = refl
assoc (becomes a) (refused q) (refused r) = refl
assoc (refused p) (becomes b) (becomes c) = refl
assoc (refused p) (becomes b) (refused r) = refl
assoc (refused p) (refused q) (becomes c) = refl
assoc (refused p) (refused q) (refused r) = refl

pub refused_first : {r : Reason} (x : Lowered) → refused r ≡ (refused r ▸ x)
unfolding ◌▸◌
refused_first (becomes l) = refl
refused_first (refused q) = refl

module _ {b₀ b : List ℕ} {at : ℕ} {r : Result Emitted Reason} where
  pub along : {x y : Lowered} → x ≡ y → Puts b₀ at x b r → Puts b₀ at y b r
  along e h = rw e at h

-- a refusal, told, and nothing put
pub none_put : {b : List ℕ} {at : ℕ} {q : Reason} {x : Lowered} → refused q ≡ x → Puts b at x b (Err q)
unfolding put_lowered held
none_put f = along f (record { code = refl; answer = refl })

-- a refusal handed on
pub passed_on : {b : List ℕ} {at : ℕ} {q : Reason} {x : Lowered} {e : Result Emitted Reason} → IsErrAnd e (λ r. r ≡ q) → refused q ≡ x → Puts b at x b e
passed_on h f = rw (handed_on h) (none_put f)
