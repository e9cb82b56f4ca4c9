-- Registers, and the frame below R10.
use Rattle.std.specs.Prelude.{ℕ, ◌+◌, ◌-◌, ◌/◌, ◌%◌, eqb, ℤ, pos, negsuc}
use Rattle.wire.specs.Pick.{pick}
use Rattle.wire.specs.Le.{le, bytes_of, store}
use Rattle.machine.specs.Word.{wrap, word}

-- the registers R0 to R9, and the frame in cells of 8 bytes: number i stands at offset −8(i+1) from R10
pub record Memory : Type 0 where
  pub regs : ℕ → ℕ
  pub cells : ℕ → ℕ

-- R10 is no state: it holds one number p through a run
abbrev pub reg : ℕ → Memory → ℕ → ℕ
reg p m r = pick (eqb r 10) p (m.regs r)

-- f with v at k
abbrev pub upd : (ℕ → ℕ) → ℕ → ℕ → ℕ → ℕ
upd f k v i = pick (eqb i k) v (f i)

-- register + offset
unfoldable pub address : ℕ → Memory → ℕ → ℤ → ℕ
address p m r off = wrap (reg p m r + word off)

-- ---- an access through R10, inside the frame and aligned (rule 35), is a part of one cell

-- the cell at an offset, and the byte of it, lowest first
unfoldable pub cell_of : ℤ → ℕ
cell_of (pos n) = 64
cell_of (negsuc n) = n / 8

unfoldable pub byte_of : ℤ → ℕ
byte_of (pos n) = 0
byte_of (negsuc n) = 7 - n % 8

-- the number in w bytes of the cell x from byte p on, and x with the low w bytes of v there; 8 bytes are all of it
unfoldable pub part : ℕ → ℕ → ℕ → ℕ
part w p x = pick (eqb w 8) x (le w (bytes_of 8 x) p)

unfoldable pub with_part : ℕ → ℕ → ℕ → ℕ → ℕ
with_part w p x v = pick (eqb w 8) v (le 8 (store (bytes_of 8 x) p (bytes_of w v)) 0)

unfoldable pub loaded : ℕ → ℤ → (ℕ → ℕ) → ℕ
loaded w off cells = part w (byte_of off) (cells (cell_of off))

unfoldable pub stored : ℕ → ℤ → (ℕ → ℕ) → ℕ → ℕ → ℕ
stored w off cells v = upd cells (cell_of off) (with_part w (byte_of off) (cells (cell_of off)) v)
