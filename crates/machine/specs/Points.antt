-- Small codes, and the outcome of a run of so many steps.
use Rattle.std.specs.Prelude.{◌≡◌, List, ◌∷◌, ◌++◌, ℕ, zero, suc, ◌-◌, ◌^◌}
use Rattle.wire.specs.Le.{bytes_of}
use Rattle.shape.specs.Code.{at}
use Rattle.machine.specs.Memory.{Memory}
use Rattle.machine.specs.Turn.{Answer, after, Out, on, returns, stuck, step}

-- ---- codes

-- opcode, registers (the source in the high four bits), offset, imm
unfoldable pub slot : ℕ → ℕ → ℕ → ℕ → List ℕ
slot code registers off imm = code ∷ registers ∷ bytes_of 2 off ++ bytes_of 4 imm

abbrev pub minus_one : ℕ
minus_one = 2 ^ 32 - 1

abbrev pub exit : List ℕ
exit = slot 0x95 0 0 0

-- r0 = x; r0 = r0 op y; exit
unfoldable pub compute : ℕ → ℕ → ℕ → List ℕ
compute x op y = slot 0xb7 0 0 x ++ slot op 0 0 y ++ exit

-- r0 = 7; where r0 is so to y, over the next; r0 = 1; exit
unfoldable pub branch : ℕ → ℕ → List ℕ
branch op y = slot 0xb7 0 0 7 ++ slot op 0 1 y ++ slot 0xb7 0 0 1 ++ exit

-- r0 = 7; where r10 is 512, over the next; r0 = 1; exit
unfoldable pub compared : List ℕ
compared = slot 0xb7 0 0 7 ++ slot 0x15 0x0a 1 512 ++ slot 0xb7 0 0 1 ++ exit

-- r0 = r10; r0 = r0 − 8; exit
unfoldable pub pointer : List ℕ
pointer = slot 0xbf 0xa0 0 0 ++ slot 0x17 0 0 8 ++ exit

-- r0 = 0x0102; 8 bytes of r0 to r10 − 8; r0 = the byte at r10 − 7; exit
unfoldable pub second : List ℕ
second = slot 0xb7 0 0 0x0102 ++ slot 0x7b 0x0a 0xfff8 0 ++ slot 0x71 0xa0 0xfff9 0 ++ exit

-- r0 = −1; 8 bytes of r0 to r10 − 8; r1 = 0; a byte of r1 to r10 − 7; r0 = 4 bytes at r10 − 8; exit
unfoldable pub patched : List ℕ
patched = slot 0xb7 0 0 minus_one ++ slot 0x7b 0x0a 0xfff8 0 ++ slot 0xb7 1 0 0 ++ slot 0x73 0x1a 0xfff9 0 ++ slot 0x61 0xa0 0xfff8 0 ++ exit

-- ---- runs

unfoldable pub carry : Out → (ℕ → Memory → Out) → Memory → Out
carry (on t e) k m = k t (after e m)
carry (returns v) k m = returns v
carry stuck k m = stuck

-- the outcome of n + 1 steps from slot s on, with p in R10; a run does not go past its end
unfoldable pub outcome : ℕ → List ℕ → (ℕ → Answer) → ℕ → ℕ → Memory → Out
outcome p b a zero s m = step p (at b) (a 0) s m
outcome p b a (suc n) s m = carry (step p (at b) (a (suc n)) s m) (outcome p b a n) m

-- whatever the registers, the frame and the answers are
abbrev pub ReturnsAt : ℕ → List ℕ → ℕ → ℕ → Type 0
ReturnsAt p b n v = (a : ℕ → Answer) (m : Memory) → outcome p b a n 0 m ≡ returns v

-- and whatever R10 holds
abbrev pub Returns : List ℕ → ℕ → ℕ → Type 0
Returns b n v = (p : ℕ) → ReturnsAt p b n v
