-- 01's known points, a row or more for each: of a unit the slots as 01 prints them, or the number, place and value of its refusal.
use Rattle.std.specs.Prelude.{ℕ, ◌/◌, ◌%◌, ◌^◌, ◌≤◌, ◌≡◌, List, [], ◌∷◌, ℤ, pos, neg_ℤ, length, Err, Ok, Result, ⊤}
use Rattle.wire.specs.declared.refusal.Refusal.{Refusal}
use Rattle.frame.specs.Cell.{frame_of}
use Rattle.unitfile.specs.Unit.{parse}
use Rattle.unitfile.specs.MapName.{name_of}
use Rattle.survey.specs.Collected.{collected}
use Rattle.survey.specs.Surveyed.{blocks_of, variables_of}
use Rattle.tracepoint.specs.Compile.{told, lowering_of, code_of, relocs_of, compile_answer}
use Rattle.tracepoint.specs.Compile as compile
use Rattle.shape.specs.Code.{slots}
use Rattle.screen.specs.Verdict.{Screened}
use Rattle.screen.specs.Verdict as screen
use Rattle.proved.specs.Points.{p1, p2, seen, p3, p4, p5, p6, p7, p8, p9, p10}
use Rattle.screen.specs.declared.Fault.{Fault as ScreenFault}
use Rattle.tracepoint.specs.declared.Fault.{Fault}

-- the bytes of slots as 01 prints them, two digits a byte: 0xbf16000000000000 is 0xbf, 0x16 and six zeros
abbrev byte : ℕ → ℕ → ℕ
byte slot behind = slot / 256 ^ behind % 256

unfoldable pub printed : List ℕ → List ℕ
printed [] = []
printed (s ∷ l) = byte s 7 ∷ byte s 6 ∷ byte s 5 ∷ byte s 4 ∷ byte s 3 ∷ byte s 2 ∷ byte s 1 ∷ byte s 0 ∷ printed l

-- what a unit becomes where there is room for all: the answer, the code, and the pairs of byte offset and map number
pub record Outcome : Type 0 where
  pub says : Result (ℕ × ℕ) Fault
  pub code : List ℕ
  pub relocs : List ℕ

abbrev pub answer : List ℕ → Result (ℕ × ℕ) Fault
answer b = compile_answer b 1048576 262144

abbrev pub compiled : List ℕ → Outcome
compiled b = record { says = answer b; code = code_of (lowering_of (parse b)); relocs = relocs_of (lowering_of (parse b)) }

abbrev pub done : List ℕ → List ℕ → Outcome
done l relocs = record { says = Ok (length l, length relocs / 2); code = printed l; relocs = relocs }

-- 01's number, place and value of a refusal; 0 is the number of none
abbrev pub refusal : Result (ℕ × ℕ) Fault → Refusal
refusal (Ok (slots, relocs)) = told 0 0 (pos 0)
refusal (Err f) = compile.refusal_of f

abbrev pub refused : List ℕ → Refusal
refused b = refusal (answer b)

abbrev pub refusal_of : Result ⊤ ScreenFault → Refusal
refusal_of (Ok _) = told 0 0 (pos 0)
refusal_of (Err f) = screen.refusal_of f

-- whatever verdict and table meet the screen's promise of code and relocations, with a table of at least so many entries as there are slots
abbrev pub ScreenTells : List ℕ → List ℕ → Refusal → Type 0
ScreenTells b l r = (t t' : List ℕ) (v : Result ⊤ ScreenFault) → slots b ≤ length t → Screened b l t v t' → refusal_of v ≡ r

-- the last cell of a unit's scratch ring
abbrev pub last_scratch : List ℕ → ℤ
last_scratch b = (frame_of (variables_of (collected (blocks_of (parse b))))).scratch 7

pub record KnownPoints : Type 0 where
  pub P1 : compiled p1 ≡ done (0xbf16000000000000 ∷ 0xb700000000000000 ∷ 0x9500000000000000 ∷ []) []
  pub P2 : compiled p2
      ≡ done
      (0xbf16000000000000
      ∷ 0x1811000000000000
      ∷ 0x0000000000000000
      ∷ 0xb702000005000000
      ∷ 0x7b2af0ff00000000
      ∷ 0xbfa2000000000000
      ∷ 0x07020000f0ffffff
      ∷ 0x8500000001000000
      ∷ 0x7b0af8ff00000000
      ∷ 0x79a0f8ff00000000
      ∷ 0x9500000000000000
      ∷ [])
      (8 ∷ 0 ∷ [])
  pub P2_name : name_of (parse p2) 0 ≡ seen
  pub P3 : compiled p3 ≡ done (0xbf16000000000000 ∷ []) []
  pub P3_screen : ScreenTells (compiled p3).code (compiled p3).relocs (told 39 1 (pos 0))
  pub P4 : compiled p4 ≡ done (0xbf16000000000000 ∷ 0x0500ffff00000000 ∷ []) []
  pub P5 : compiled p5 ≡ done (0xbf16000000000000 ∷ 0x0500020000000000 ∷ 0xb700000001000000 ∷ 0x9500000000000000 ∷ 0xb700000002000000 ∷ 0x9500000000000000 ∷ []) []
  pub P6 : refused p6 ≡ told 18 20 (pos 2)
  pub P7_scratch : last_scratch (p7 56) ≡ neg_ℤ (pos 512)
  pub P7_fits : answer (p7 56) ≡ Ok (115, 0)
  pub P7_refused : refused (p7 57) ≡ told 10 1140 (pos 57)
  pub P8_largest : compiled (p8 (pos 2147483647)) ≡ done (0xbf16000000000000 ∷ 0xb7000000ffffff7f ∷ 0x9500000000000000 ∷ []) []
  pub P8_smallest : compiled (p8 (neg_ℤ (pos 2147483648))) ≡ done (0xbf16000000000000 ∷ 0xb700000000000080 ∷ 0x9500000000000000 ∷ []) []
  pub P8_refused : refused (p8 (pos 2147483648)) ≡ told 12 20 (pos 2147483648)
  pub P9_passes : compiled (p9 (pos 32767) 8) ≡ done (0xbf16000000000000 ∷ 0x7960ff7f00000000 ∷ 0x7b0af8ff00000000 ∷ 0xb700000000000000 ∷ 0x9500000000000000 ∷ []) []
  pub P9_offset : refused (p9 (pos 32768) 8) ≡ told 13 20 (pos 32768)
  pub P9_size : refused (p9 (pos 40000) 3) ≡ told 14 20 (pos 3)
  pub P10 : refused p10 ≡ told 18 20 (pos 8)
  pub P11 : ScreenTells (printed (0x9500000000000000 ∷ [])) [] (told 38 0 (pos 0))
