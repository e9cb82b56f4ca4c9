-- What parts of an instruction take, one after the other.
use mathlib.Core.Path.{◌≡◌, refl, sym, ap, ap₂, ◌∙◌}
use mathlib.Core.Bool.{Bool, true, false}
use mathlib.Core.List.{List, [], ◌∷◌, ◌++◌}
use Prim.Native.Nat.{ℕ, ◌+◌}
use native.Mathlib.Omega.{arith}
use lib.IntN.{ℤ, pos}
use Rattle.wire.specs.Pick.{pick}
use Rattle.wire.specs.Range.{fits16, fits32}
use Rattle.ir.specs.declared.BinaryOp.{BinaryOp}
use Rattle.ir.specs.declared.Operand.{Operand}
use Rattle.ir.specs.declared.Operand.TheVariants.{Var, Immediate}
use Rattle.insn.specs.declared.form.Form.{Form}
use Rattle.insn.specs.declared.form.Form.TheVariants.{MovImm, AluImm}
use Rattle.lower.specs.Op.{Op, plain, map, ja, jne, Lowered, becomes, refused, insn, slots_of, ◌▸◌}
use Rattle.lower.specs.Operand.{constant, move, add, call, on_cell, load, addr, keep, map_address}
use Rattle.lower.specs.Instruction.{sized, mem, operate, null_check}
use Rattle.lower.specs.Held.{map_in, held}
use Rattle.lower.specs.declared.Reason.{Reason}
use Rattle.lower.specs.declared.Reason.TheVariants as Re
use Rattle.lower.specs.declared.Emitted.{Emitted}
use Rattle.size.specs.Size.{every_cell}
use Rattle.size.specs.Part.{first_of, takes, of_constant, of_operand, address_slots, operate_slots}
use Rattle.std.specs.Prelude.{Err, None, Ok, Option, Result, Some, ⊤}

-- ---- one after the other

-- the first map of two
unfoldable pub first_map : Option ℕ → Option ℕ → Option ℕ
first_map None n = n
first_map (Some m) n = Some m

unfoldable pub joined : Result Emitted Reason → Result Emitted Reason → Result Emitted Reason
joined (Ok e) (Ok g) = Ok (record { map = first_map e.map g.map; slots = e.slots + g.slots })
joined (Ok e) (Err q) = Err q
joined (Err r) g = Err r

map_append : (l m : List Op) → map_in (l ++ m) ≡ first_map (map_in l) (map_in m)
unfolding map_in first_map
map_append [] m = refl
map_append (plain i ∷ l) m = map_append l m
map_append (map n ∷ l) m = refl
map_append (ja to ∷ l) m = map_append l m
map_append (jne to ∷ l) m = map_append l m

slots_append : (l m : List Op) → slots_of (l ++ m) ≡ slots_of l + slots_of m
unfolding slots_of
slots_append [] m = omega arith
slots_append (plain i ∷ l) m = let e = slots_append l m in omega arith
slots_append (map n ∷ l) m = let e = slots_append l m in omega arith
slots_append (ja to ∷ l) m = let e = slots_append l m in omega arith
slots_append (jne to ∷ l) m = let e = slots_append l m in omega arith

-- what two take hangs on what each takes
pub join : (x y : Lowered) → held (x ▸ y) ≡ joined (held x) (held y)
unfolding held ◌▸◌ joined
join (becomes l) (becomes m) = rw (map_append l m, slots_append l m)
join (becomes l) (refused r) = refl
join (refused r) (becomes m) = refl
join (refused r) (refused q) = refl

-- x takes a map and so many slots, or is refused
pub record Takes (x : Lowered) (o : Result ⊤ Reason) (m : Option ℕ) (n : ℕ) : Type 0 where
  pub told : held x ≡ takes o m n

first_map_lem : (m : Option ℕ) → first_map m None ≡ m
unfolding first_map
first_map_lem None = refl
first_map_lem (Some m) = refl

join_takes : (o p : Result ⊤ Reason) (m : Option ℕ) (n k : ℕ) → joined (takes o m n) (takes p None k) ≡ takes (first_of o p) m (n + k)
unfolding joined takes first_of
join_takes (Ok _) (Ok _) m n k = rw (first_map_lem m)
join_takes (Ok _) (Err r) m n k = refl
join_takes (Err r) (Ok _) m n k = refl
join_takes (Err r) (Err q) m n k = refl

-- ---- what is judged, one after the other

-- an operand known as b is judged
pub judged : {a b : Operand} {q o : Result ⊤ Reason} → q ≡ of_operand a → a ≡ b → q ≡ o → of_operand b ≡ o
judged e d f = sym (e ∙ ap of_operand d) ∙ f

pub first_stops : {o : Result ⊤ Reason} {r : Reason} (p : Result ⊤ Reason) → o ≡ Err r → first_of o p ≡ Err r
unfolding first_of
first_stops p e = rw e

pub then_stops : {o p : Result ⊤ Reason} {t : ⊤} {r : Reason} → o ≡ Ok t → p ≡ Err r → first_of o p ≡ Err r
unfolding first_of
then_stops e f = rw e f

pub both : {o p : Result ⊤ Reason} {t u : ⊤} → o ≡ Ok t → p ≡ Ok u → first_of o p ≡ Ok u
unfolding first_of
both e f = rw e f

pub refused_is : {o : Result ⊤ Reason} {r : Reason} (m : Option ℕ) (n : ℕ) → o ≡ Err r → Err r ≡ takes o m n
unfolding takes
refused_is m n e = rw e

pub taken : {o : Result ⊤ Reason} {t : ⊤} {m k : Option ℕ} {n l : ℕ} → o ≡ Ok t → m ≡ k → n ≡ l → Ok (record { map = m; slots = n }) ≡ takes o k l
unfolding takes
taken e f g = rw (e, f, g)

-- ---- what is taken, one after the other

infixl 4 ◌▹◌ ◌▹fine◌
pub ◌▹◌ : {x y : Lowered} {o p : Result ⊤ Reason} {m : Option ℕ} {n k : ℕ} → Takes x o m n → Takes y p None k → Takes (x ▸ y) (first_of o p) m (n + k)
◌▹◌ {x} {y} {o} {p} {m} {n} {k} a b =
    record { told = join x y ∙ ap₂ joined a.told b.told ∙ join_takes o p m n k }

first_fine : (o : Result ⊤ Reason) → first_of o (Ok tt) ≡ o
unfolding first_of
first_fine (Ok _) = refl
first_fine (Err r) = refl

pub ◌▹fine◌ : {x y : Lowered} {o : Result ⊤ Reason} {m : Option ℕ} {n k : ℕ} → Takes x o m n → Takes y (Ok tt) None k → Takes (x ▸ y) o m (n + k)
◌▹fine◌ {x} {y} {o} {m} {n} {k} a b =
    record { told = (a ▹ b).told ∙ ap (λ (p : Result ⊤ Reason). takes p m (n + k)) (first_fine o) }

-- ---- parts

pub one : (form : Form) (dst src : ℕ) (off imm : ℤ) → Takes (insn form dst src off imm) (Ok tt) None 1
unfolding insn held takes map_in slots_of
one form dst src off imm = record { told = refl }

-- an instruction with a constant, which is checked
checked : (form : Form) (r : ℕ) (z : ℤ) → held (pick (fits32 z) (insn form r 0 (pos 0) z) (refused (Re.Immediate z))) ≡ takes (of_constant z) None 1
unfolding of_constant held takes insn map_in slots_of
checked form r z = go (fits32 z)
  where
    go : (t : Bool) → held (pick t (insn form r 0 (pos 0) z) (refused (Re.Immediate z))) ≡ takes (pick t (Ok tt) (Err (Re.Immediate z))) None 1
    go true = refl
    go false = refl

pub constant_takes : (r : ℕ) (z : ℤ) → Takes (constant r z) (of_constant z) None 1
unfolding constant
constant_takes r z = record { told = checked MovImm r z }

pub zero_takes : (r : ℕ) → Takes (constant r (pos 0)) (Ok tt) None 1
unfolding constant fits32
zero_takes r = one _ _ _ _ _

pub load_takes : (r : ℕ) (a : Operand) → Takes (load every_cell r a) (of_operand a) None 1
unfolding load every_cell on_cell of_operand
load_takes r (Var v) = one _ _ _ _ _
load_takes r (Immediate z) = constant_takes r z

pub keep_takes : (v : ℕ) → Takes (keep every_cell v) (Ok tt) None 1
unfolding keep every_cell on_cell
keep_takes v = one _ _ _ _ _

pub call_takes : (helper : ℕ) → Takes (call helper) (Ok tt) None 1
unfolding call
call_takes helper = one _ _ _ _ _

pub move_takes : (r s : ℕ) → Takes (move r s) (Ok tt) None 1
unfolding move
move_takes r s = one _ _ _ _ _

pub add_takes : (r : ℕ) (z : ℤ) → Takes (add r z) (Ok tt) None 1
unfolding add
add_takes r z = one _ _ _ _ _

pub map_takes : (m : ℕ) → Takes (map_address m) (Ok tt) (Some m) 2
unfolding map_address held takes map_in slots_of
map_takes m = record { told = refl }

pub addr_takes : (j r : ℕ) (a : Operand) → Takes (addr every_cell j r a) (of_operand a) None (address_slots a)
unfolding addr every_cell on_cell of_operand address_slots
addr_takes j r (Var v) = move_takes r 10 ▹fine add_takes r _
addr_takes j r (Immediate z) = constant_takes r z ▹fine one _ _ _ _ _ ▹fine move_takes r 10 ▹fine add_takes r _

pub operate_takes : (op : BinaryOp) (b : Operand) → Takes (operate every_cell op b) (of_operand b) None (operate_slots b)
unfolding operate of_operand operate_slots
operate_takes op (Var v) = load_takes 1 (Var v) ▹fine one _ _ _ _ _
operate_takes op (Immediate z) = record { told = checked (AluImm op) 0 z }

pub null_takes : (t : Bool) → Takes (null_check t) (Ok tt) None (pick t 4 5)
unfolding null_check constant fits32
null_takes true = one _ _ _ _ _ ▹fine one _ _ _ _ _ ▹fine one _ _ _ _ _ ▹fine one _ _ _ _ _
null_takes false = one _ _ _ _ _ ▹fine one _ _ _ _ _ ▹fine one _ _ _ _ _ ▹fine one _ _ _ _ _ ▹fine one _ _ _ _ _

-- a load or store, where its size is one
unfoldable pub of_size : Option ℕ → Reason → Result ⊤ Reason
of_size (Some code) bad = Ok tt
of_size None bad = Err bad

pub sized_is : {k : Option ℕ} {code : ℕ} (bad : Reason) → k ≡ Some code → of_size k bad ≡ Ok tt
unfolding of_size
sized_is bad e = rw e

pub no_size : {k : Option ℕ} {bad : Reason} → k ≡ None → of_size k bad ≡ Err bad
unfolding of_size
no_size e = rw e

pub store_takes : (k : Option ℕ) (bad : Reason) → Takes (sized k bad (λ code. mem code 1 2 (pos 0))) (of_size k bad) None 1
unfolding sized mem of_size held takes map_in slots_of
store_takes (Some code) bad = record { told = refl }
store_takes None bad = record { told = refl }

-- the offset of a load from the context, after its size
unfoldable pub of_offset : ℤ → Option ℕ → Reason → Result ⊤ Reason
of_offset offset (Some code) bad = pick (fits16 offset) (Ok tt) (Err (Re.Offset offset))
of_offset offset None bad = Err bad

pub context_takes : (offset : ℤ) (k : Option ℕ) (bad : Reason)
    → Takes (sized k bad (λ code. pick (fits16 offset) (mem code 0 6 offset) (refused (Re.Offset offset)))) (of_offset offset k bad) None 1
unfolding sized mem of_offset held takes map_in slots_of
context_takes offset (Some code) bad = record { told = go (fits16 offset) }
  where
    go : (t : Bool) → held (pick t (mem code 0 6 offset) (refused (Re.Offset offset))) ≡ takes (pick t (Ok tt) (Err (Re.Offset offset))) None 1
    go true = refl
    go false = refl
context_takes offset None bad = record { told = refl }
