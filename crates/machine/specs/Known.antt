-- What small codes do, in one table.
use Rattle.std.specs.Prelude.{◌≡◌, [], ◌∷◌, ◌++◌, ℕ, ◌+◌, ◌-◌, ◌/◌, ◌%◌, ◌^◌, pos}
use Rattle.shape.specs.Code.{at}
use Rattle.machine.specs.Memory.{Memory}
use Rattle.machine.specs.Turn.{load, store, call, Answer, keeps, writes, frame, calls, after, on, maps, shows, turn, step}
use Rattle.machine.specs.Points.{slot, minus_one, exit, compute, branch, compared, pointer, second, patched, ReturnsAt, Returns}

pub record KnownSteps : Type 0 where
  -- 01's P1, and the second slot of its P4
  pub P1 : Returns (0xbf ∷ 0x16 ∷ 0 ∷ 0 ∷ 0 ∷ 0 ∷ 0 ∷ 0 ∷ 0xb7 ∷ 0 ∷ 0 ∷ 0 ∷ 0 ∷ 0 ∷ 0 ∷ 0 ∷ 0x95 ∷ 0 ∷ 0 ∷ 0 ∷ 0 ∷ 0 ∷ 0 ∷ 0 ∷ []) 2 0
  pub P4 : (p : ℕ) (a : Answer) (m : Memory) → step p (at (slot 0xbf 0x16 0 0 ++ slot 0x05 0 0xffff 0)) a 1 m ≡ on 1 keeps
  -- arithmetic
  pub add_wraps : Returns (compute minus_one 0x07 1) 2 0
  pub sub_wraps : Returns (compute 0 0x17 1) 2 (2 ^ 64 - 1)
  pub mul_wraps : Returns (compute minus_one 0x27 minus_one) 2 1
  pub div_unsigned : Returns (compute minus_one 0x37 2) 2 (2 ^ 63 - 1)
  pub div_by_zero : Returns (compute 7 0x37 0) 2 0
  pub mod_unsigned : Returns (compute minus_one 0x97 10) 2 5
  pub mod_by_zero : Returns (compute 7 0x97 0) 2 7
  pub shl_six_bits : Returns (compute 1 0x67 65) 2 2
  pub shr_six_bits : Returns (compute minus_one 0x77 127) 2 1
  -- jumps
  pub jeq_taken : Returns (branch 0x15 7) 2 7
  pub jeq_left : Returns (branch 0x15 8) 3 1
  pub jne_taken : Returns (branch 0x55 8) 2 7
  pub jne_left : Returns (branch 0x55 7) 3 1
  -- r10 holds any number
  pub r10_below : (p : ℕ) → ReturnsAt p pointer 2 ((p + (2 ^ 64 - 8)) % 2 ^ 64)
  pub r10_equal : ReturnsAt 512 compared 2 7
  pub r10_other : ReturnsAt 504 compared 3 1
  -- the frame, low byte first
  pub byte_of_cell : Returns second 3 1
  pub byte_into_cell : Returns patched 5 0xffff00ff
  -- a constant of 64 bits, and a map
  pub constant : Returns (slot 0x18 0 0 1 ++ slot 0 0 0 2 ++ exit) 1 (2 ^ 33 + 1)
  pub a_map : (p : ℕ) (m : Memory) → turn p (at (slot 0x18 0x10 0 0 ++ slot 0 0 0 0)) 0 m ≡ maps 0 (λ x. on 2 (writes 0 x))
  -- 4 bytes from r1 + 4; 2 bytes of r2 to r1 − 1; helper 2, which takes four arguments, and 5, which takes none; 6 is no helper
  pub a_load : (p : ℕ) (m : Memory) → turn p (at (slot 0x61 0x10 4 0)) 0 m ≡ shows (load ((m.regs 1 + 4) % 2 ^ 64) 4) (λ a. on 1 (writes 0 (a.value % 2 ^ 32)))
  pub a_store : (p : ℕ) (m : Memory) → turn p (at (slot 0x6b 0x21 0xffff 0)) 0 m
      ≡ shows (store ((m.regs 1 + (2 ^ 64 - 1)) % 2 ^ 64) 2 (m.regs 2 % 256 ∷ m.regs 2 / 256 % 256 ∷ [])) (λ a. on 1 (frame (a.frame m.cells)))
  pub a_call : (p : ℕ) (m : Memory) → turn p (at (slot 0x85 0 0 2)) 0 m
      ≡ shows (call (pos 2) (m.regs 1 ∷ m.regs 2 ∷ m.regs 3 ∷ m.regs 4 ∷ []) m.cells) (λ a. on 1 (calls a))
  pub a_bare_call : (p : ℕ) (m : Memory) → turn p (at (slot 0x85 0 0 5)) 0 m ≡ shows (call (pos 5) [] m.cells) (λ a. on 1 (calls a))
  pub no_helper : (p : ℕ) (m : Memory) → turn p (at (slot 0x85 0 0 6)) 0 m ≡ shows (call (pos 6) [] m.cells) (λ a. on 1 (calls a))
  pub call_answers : (a : Answer) (m : Memory) → (after (calls a) m).regs 0 ≡ a.value
  pub call_takes : (a : Answer) (m : Memory) → (after (calls a) m).regs 5 ≡ a.rest 5
  pub call_leaves : (a : Answer) (m : Memory) → (after (calls a) m).regs 6 ≡ m.regs 6
