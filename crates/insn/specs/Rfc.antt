-- RFC 9669: the fields of the opcode byte, and their values.
use Rattle.std.specs.Prelude.{ℕ, ◌+◌, ◌*◌, ◌/◌, ◌%◌}
use Rattle.ir.specs.declared.BinaryOp.{BinaryOp}
use Rattle.ir.specs.declared.BinaryOp.TheVariants.{Add, Sub, Mul, Div, Mod, Shl, Shr}
use Rattle.insn.specs.declared.form.Size.{Size}
use Rattle.insn.specs.declared.form.Size.TheVariants.{W, H, B, Dw}

-- the class is the low three bits
abbrev pub class : ℕ → ℕ
class c = c % 8

abbrev pub LD : ℕ
LD = 0

abbrev pub LDX : ℕ
LDX = 1

abbrev pub STX : ℕ
STX = 3

abbrev pub JMP : ℕ
JMP = 5

abbrev pub ALU64 : ℕ
ALU64 = 7

-- of arithmetic and jumps, bit 3 is the source and the high four bits are the operation
abbrev pub source : ℕ → ℕ
source c = c / 8 % 2

abbrev pub K : ℕ
K = 0

abbrev pub X : ℕ
X = 1

abbrev pub operation : ℕ → ℕ
operation c = c / 16

abbrev pub MOV : ℕ
MOV = 11

abbrev pub JA : ℕ
JA = 0

abbrev pub JEQ : ℕ
JEQ = 1

abbrev pub JNE : ℕ
JNE = 5

abbrev pub CALL : ℕ
CALL = 8

abbrev pub EXIT : ℕ
EXIT = 9

unfoldable pub operation_of : BinaryOp → ℕ
operation_of Add = 0
operation_of Sub = 1
operation_of Mul = 2
operation_of Div = 3
operation_of Shl = 6
operation_of Shr = 7
operation_of Mod = 9

-- of loads and stores, bits 3 and 4 are the size and the high three bits are the mode
abbrev pub size : ℕ → ℕ
size c = c / 8 % 4

abbrev pub mode : ℕ → ℕ
mode c = c / 32

abbrev pub IMM : ℕ
IMM = 0

abbrev pub MEM : ℕ
MEM = 3

unfoldable pub size_field : Size → ℕ
size_field W = 0
size_field H = 1
size_field B = 2
size_field Dw = 3

unfoldable pub width : Size → ℕ
width W = 4
width H = 2
width B = 1
width Dw = 8

-- the opcode byte of its fields
abbrev pub alu_byte : ℕ → ℕ → ℕ → ℕ
alu_byte class source operation = class + 8 * source + 16 * operation

abbrev pub mem_byte : ℕ → ℕ → ℕ → ℕ
mem_byte class size mode = class + 8 * size + 32 * mode
