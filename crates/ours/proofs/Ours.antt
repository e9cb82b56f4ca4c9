-- Ours pass: the screen finds no fault in what a unit with blocks becomes; with no block it finds that the path passes the last slot.
use mathlib.Core.Path.{◌≡◌, sym, ap, ◌∙◌, subst}
use mathlib.Core.List.{List, [], ◌∷◌}
use Prim.Native.Nat.{ℕ, ◌<◌, ◌≤◌}
use native.Mathlib.Omega.{arith}
use lib.ListN.{length}
use Rattle.frame.specs.Cell.{frame_of}
use Rattle.unitfile.specs.Unit.{BasicBlock, UnitIr, parsed, parse}
use Rattle.flow.specs.Reached as R
use Rattle.flow.proofs.Agree.{computed_reached}
use Rattle.lower.specs.Op.{Op, plain, slots_of}
use Rattle.layout.specs.Emitted.{nodes, keep, emitted}
use Rattle.layout.specs.Layout.{laid, Context, blocks, unit_ops}
use Rattle.layout.specs.Jumps.{starts, lands, landing, jumps}
use Rattle.layout.specs.Code.{insns, code_bytes, relocations}
use Rattle.shape.specs.Code.{slots}
use Rattle.screen.specs.Verdict.{Screened}
use Rattle.screen.specs.Faultless.{NoFault}
use Rattle.screen.specs.declared.Fault.TheVariants.{PastEnd}
use Rattle.screen.proofs.Before as before
use Rattle.screen.proofs.Exact.{says_yes}
use Rattle.screen.proofs.OneAnswer.{one_verdict}
use Rattle.ours.specs.PastEnd.{OnlyPastEnd}
use Rattle.ours.proofs.Instructions.{Cells}
use Rattle.ours.proofs.Frames.{cells}
use Rattle.ours.proofs.Whole.{first, unit_parts}
use Rattle.ours.proofs.Faultless.{no_fault}
use Rattle.ours.proofs.Alone.{one_slot, alone_judged, alone_past}
use Rattle.ours.proofs.UnitRoom.{emitted_slots}
use Rattle.screen.specs.declared.Fault.{Fault}
use Rattle.std.specs.Prelude.{Err, Ok, Result, ⊤}

-- ---- what lowering hands on

-- the emitted blocks bs, of which there is one at least, become the operations l, and every jump lands: the screen finds no fault in the code
pub ours_pass : (c : Context) (vs : List ℕ) (bs : List BasicBlock) (l : List Op)
    → c.frame ≡ frame_of vs → 0 < length bs → unit_ops c bs ≡ laid l → landing (starts c bs) (jumps c bs) ≡ lands → slots_of l ≤ 131072
    → NoFault (code_bytes (insns (starts c bs) 0 l)) (relocations 0 l)
ours_pass c vs [] l f some e land short = absurd (omega arith)
ours_pass c vs (k ∷ ks) l f some e land short =
    let P = unit_parts c (k ∷ ks) l e in
    let x = subst Cells (sym f) (cells vs) in
    subst (λ (y : List Op). slots_of y ≤ 131072 → NoFault (code_bytes (insns (starts c (k ∷ ks)) 0 y)) (relocations 0 y)) (sym P.is) (no_fault c x k ks P.rest P.others land) short

-- no block
pub no_block : (c : Context) (l : List Op) → unit_ops c [] ≡ laid l → OnlyPastEnd (code_bytes (insns (starts c []) 0 l)) (relocations 0 l)
unfolding blocks relocations
no_block c l e =
    let P = unit_parts c [] l e in
    let q : [] ≡ P.rest = let o = P.others in cc in
    let w : l ≡ plain first ∷ [] = P.is ∙ ap (λ (y : List Op). plain first ∷ y) (sym q) in
    rw w (record { one = one_slot (starts c []); before = alone_judged (starts c []); paths = alone_past (starts c []) })

-- ---- a unit that was read

-- where a unit has a block, its first block is emitted
emitted_some : (bs : List BasicBlock) → 0 < length bs → 0 < length (emitted bs)
unfolding emitted keep nodes
emitted_some [] h = h
emitted_some (k ∷ ks) h = rw ((computed_reached (nodes (k ∷ ks)) k.id).1 R.first) (omega arith)

-- a unit with a block whose emitted blocks become l, where every jump lands
pub unit_passes : (b : List ℕ) (u : UnitIr) (c : Context) (vs : List ℕ) (l : List Op)
    → parse b ≡ parsed u → 0 < length u.blocks → c.frame ≡ frame_of vs → unit_ops c (emitted u.blocks) ≡ laid l
    → landing (starts c (emitted u.blocks)) (jumps c (emitted u.blocks)) ≡ lands
    → NoFault (code_bytes (insns (starts c (emitted u.blocks)) 0 l)) (relocations 0 l)
unit_passes b u c vs l p some f e land = ours_pass c vs (emitted u.blocks) l f (emitted_some u.blocks some) e land (emitted_slots b u c l p e)

-- and one with no block
pub unit_past_end : (u : UnitIr) (c : Context) (l : List Op)
    → length u.blocks ≡ 0 → unit_ops c (emitted u.blocks) ≡ laid l
    → OnlyPastEnd (code_bytes (insns (starts c (emitted u.blocks)) 0 l)) (relocations 0 l)
unfolding emitted keep
unit_past_end u c l = go u.blocks
  where
    go : (bs : List BasicBlock) → length bs ≡ 0 → unit_ops c (emitted bs) ≡ laid l → OnlyPastEnd (code_bytes (insns (starts c (emitted bs)) 0 l)) (relocations 0 l)
    go [] n e = no_block c l e
    go (k ∷ ks) n e = absurd (omega arith)

-- ---- the screen's verdict, whatever its table

pub yes_without_fault : (b l t : List ℕ) (v : Result ⊤ Fault) (u : List ℕ) → NoFault b l → slots b ≤ length t → Screened b l t v u → v ≡ Ok tt
yes_without_fault b l t v u n room p = (says_yes b l t v u room p).1 n

pub past_end_alone : (b l t : List ℕ) (v : Result ⊤ Fault) (u : List ℕ) → OnlyPastEnd b l → slots b ≤ length t → Screened b l t v u → v ≡ Err (PastEnd 1)
past_end_alone b l t v u o room p =
    let e = before.whole b l (length t) room o.before in
    let q = rw e at p in
    (one_verdict b l t v (Err (PastEnd 1)) u u p (rw e (o.paths, q.1))).0
