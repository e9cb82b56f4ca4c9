-- The table: per slot the registers readable on every path to it, bit r for register r; 2,047 where no path comes.
use Rattle.std.specs.Prelude.{ℕ, ◌<◌, ◌≡◌, Bool, true, false, List, leb, ltb, length, get_or, drop}
use Rattle.wire.specs.Pick.{both}
use Rattle.wire.specs.Bit.{bit}
use Rattle.shape.specs.Code.{slots}
use Rattle.paths.specs.Way.{Always, Lacks, Passes}
use Rattle.paths.specs.declared.Ends.{Ends}
use Rattle.paths.specs.declared.Ends.TheVariants as E

-- x holds exactly the registers readable on every path to slot s: a clear bit has a path that lacks the register
pub record Readable (b : List ℕ) (s x : ℕ) : Type 0 where
  pub small : x < 2048
  pub set : (r : ℕ) → r < 11 → bit x r ≡ 1 → Always b s r
  pub clear : (r : ℕ) → r < 11 → bit x r ≡ 0 → Lacks b s r

-- the table t becomes u: its front is readable's, the rest unchanged
pub record Filled (b t u : List ℕ) : Type 0 where
  pub same_length : length u ≡ length t
  pub front : (s : ℕ) → s < slots b → Readable b s (get_or u s 0)
  pub rest : drop (slots b) u ≡ drop (slots b) t

-- a code of 1 to 131,072 slots, and a table that has an entry for each
unfoldable pub fits : List ℕ → List ℕ → Bool
fits b t = both (ltb 0 (slots b)) (both (leb (slots b) 131072) (leb (slots b) (length t)))

-- what is known of the answer
abbrev pub Told : List ℕ → Ends → Type 0
Told b E.Inside = Passes b → ⊥
Told b E.Past = Passes b
Told b E.NotRun = ⊥

-- the table t becomes u, with the answer e
abbrev pub AnalysedBy : Bool → List ℕ → List ℕ → List ℕ → Ends → Type 0
AnalysedBy true b t u e = Filled b t u × Told b e
AnalysedBy false b t u e = (u ≡ t) × (e ≡ E.NotRun)

abbrev pub Analysed : List ℕ → List ℕ → List ℕ → Ends → Type 0
Analysed b t u e = AnalysedBy (fits b t) b t u e
