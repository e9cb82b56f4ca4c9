-- Operations that stand in the code: where their instructions start, and which relocations they make.
use mathlib.Core.Path.{◌≡◌, refl, sym, ap, ◌∙◌, subst}
use mathlib.Core.Bool.{Bool, true, false}
use mathlib.Core.List.{List, [], ◌∷◌, ◌++◌, append_assoc}
use Prim.Native.Nat.{ℕ, suc, ◌+◌, ◌*◌, ◌≤◌}
use native.Mathlib.Nat.{add-zero}
use native.Mathlib.Omega.{arith}
use borrow.Author.Tests.{eq-eqb}
use lib.Dec.{eqb}
use Rattle.insn.specs.Rfc.{size_field}
use Rattle.insn.specs.Form.{opcode_of, form_of}
use Rattle.insn.specs.declared.Insn.{Insn}
use Rattle.insn.specs.declared.form.Form.{Form}
use Rattle.insn.specs.declared.form.Form.TheVariants.{WideLoad}
use Rattle.lower.specs.Op.{Op, plain, map, ja, jne, slots_of}
use Rattle.layout.specs.Jumps.{Start}
use Rattle.layout.specs.Code.{insns, relocations}
use Rattle.layout.proofs.Written.{insns_append, insns_count}
use Rattle.shape.specs.Code.{at, form_at, wide, start}
use Rattle.shape.specs.Fields.{uses}
use Rattle.shape.specs.Relocations.{wide_from, differs}
use Rattle.shape.proofs.Starts.{start_narrow, start_second, start_wide}
use Rattle.shape.proofs.Rules.{wide_form}
use Rattle.ours.specs.Landing.{StandAt}
use Rattle.ours.proofs.Seen.{seen, seen_code, Stands, stands_front, stands_back, wide_by}
use Rattle.std.specs.Prelude.{Ok}

-- the plain instructions are none of two slots
abbrev pub Narrow : List Op → Type 0
Narrow [] = Unit {0}
Narrow (plain i ∷ l) = ((uses (form_of i.code)).goes_on ≤ 1) × Narrow l
Narrow (map m ∷ l) = Narrow l
Narrow (ja id ∷ l) = Narrow l
Narrow (jne id ∷ l) = Narrow l

pub narrow_append : (a c : List Op) → Narrow a → Narrow c → Narrow (a ++ c)
narrow_append [] c h k = k
narrow_append (plain i ∷ a) c h k = (h.0, narrow_append a c h.1 k)
narrow_append (map m ∷ a) c h k = narrow_append a c h k
narrow_append (ja id ∷ a) c h k = narrow_append a c h k
narrow_append (jne id ∷ a) c h k = narrow_append a c h k

narrow_front : (a c : List Op) → Narrow (a ++ c) → Narrow a
narrow_front [] c h = tt
narrow_front (plain i ∷ a) c h = (h.0, narrow_front a c h.1)
narrow_front (map m ∷ a) c h = narrow_front a c h
narrow_front (ja id ∷ a) c h = narrow_front a c h
narrow_front (jne id ∷ a) c h = narrow_front a c h

-- the operations l stand in the code b from the start s on
pub record Here (b : List ℕ) (xs : List Start) (s : ℕ) (l : List Op) : Type 0 where
  pub stands : Stands b s (insns xs s l)
  pub begins : start b s ≡ true

pub form_by : (b : List ℕ) (s : ℕ) (i : Insn) → at b s ≡ seen i → form_at b s ≡ form_of i.code
unfolding form_at
form_by b s i e = ap (λ (x : Insn). form_of x.code) e ∙ ap form_of (seen_code i)

not_wide : (b : List ℕ) (s : ℕ) (i : Insn) → at b s ≡ seen i → (uses (form_of i.code)).goes_on ≤ 1 → wide b s ≡ false
unfolding uses
not_wide b s i e n = go (wide b s) refl
  where
    go : (t : Bool) → wide b s ≡ t → t ≡ false
    go true w =
        let f : form_of i.code ≡ WideLoad = sym (form_by b s i e) ∙ (wide_form b s).0 w in
        let two = ap (λ (x : Form). (uses x).goes_on) f in
        absurd (omega (arith, two))
    go false w = refl

module _ (b : List ℕ) (xs : List Start) (s : ℕ) where
  pub after_plain : (i : Insn) (l : List Op) → (uses (form_of i.code)).goes_on ≤ 1 → Here b xs s (plain i ∷ l) → (wide b s ≡ false) × Here b xs (suc s) l
  unfolding insns
  after_plain i l n h =
      let w = not_wide b s i h.stands.0 n in
      (w, record { stands = h.stands.1; begins = start_narrow b s h.begins w })

  pub wide_map : (m : ℕ) (l : List Op) → Here b xs s (map m ∷ l) → wide b s ≡ true
  unfolding insns opcode_of size_field
  wide_map m l h = wide_by b s _ h.stands.0

  pub after_map : (m : ℕ) (l : List Op) → Here b xs s (map m ∷ l) → Here b xs (s + 2) l
  unfolding insns opcode_of
  after_map m l h =
      let e : s + 2 ≡ suc (suc s) = omega arith in
      record { stands = subst (λ (n : ℕ). Stands b n (insns xs (s + 2) l)) (sym e) h.stands.1.1; begins = rw e (start_wide b s h.begins (wide_map m l h)) }

  narrow_jump : (i : Insn) → at b s ≡ seen i → eqb i.code 0x18 ≡ false → start b s ≡ true → (wide b s ≡ false) × (start b (suc s) ≡ true)
  narrow_jump i e n h = let w = wide_by b s i e ∙ n in (w, start_narrow b s h w)

  pub after_ja : (id : ℕ) (l : List Op) → Here b xs s (ja id ∷ l) → (wide b s ≡ false) × Here b xs (suc s) l
  unfolding insns opcode_of
  after_ja id l h =
      let p = narrow_jump _ h.stands.0 refl h.begins in
      (p.0, record { stands = h.stands.1; begins = p.1 })

  pub after_jne : (id : ℕ) (l : List Op) → Here b xs s (jne id ∷ l) → (wide b s ≡ false) × Here b xs (suc s) l
  unfolding insns opcode_of
  after_jne id l h =
      let p = narrow_jump _ h.stands.0 refl h.begins in
      (p.0, record { stands = h.stands.1; begins = p.1 })

-- ---- one after the other

module _ (b : List ℕ) (xs : List Start) where
  -- after operations comes a start
  pub at_end : (s : ℕ) (l : List Op) → Narrow l → Here b xs s l → start b (s + slots_of l) ≡ true
  unfolding slots_of
  at_end s [] n h = rw add-zero h.begins
  at_end s (plain i ∷ l) n h =
      let e : s + suc (slots_of l) ≡ suc s + slots_of l = omega arith in
      rw e (at_end (suc s) l n.1 (after_plain b xs s i l n.0 h).1)
  at_end s (map m ∷ l) n h =
      let e : s + suc (suc (slots_of l)) ≡ s + 2 + slots_of l = omega arith in
      rw e (at_end (s + 2) l n (after_map b xs s m l h))
  at_end s (ja id ∷ l) n h =
      let e : s + suc (slots_of l) ≡ suc s + slots_of l = omega arith in
      rw e (at_end (suc s) l n (after_ja b xs s id l h).1)
  at_end s (jne id ∷ l) n h =
      let e : s + suc (slots_of l) ≡ suc s + slots_of l = omega arith in
      rw e (at_end (suc s) l n (after_jne b xs s id l h).1)

  pub front : (s : ℕ) (a c : List Op) → Here b xs s (a ++ c) → Here b xs s a
  front s a c h =
      record { stands = stands_front b s (insns xs s a) (insns xs (s + slots_of a) c) (rw insns_append at h.stands); begins = h.begins }

  pub back : (s : ℕ) (a c : List Op) → Narrow a → Here b xs s (a ++ c) → Here b xs (s + slots_of a) c
  back s a c n h =
      record {
        stands = rw insns_count at (stands_back b s (insns xs s a) (insns xs (s + slots_of a) c) (rw insns_append at h.stands));
        begins = at_end s a n (front s a c h);
      }

  pub here_at : {s p : ℕ} {l m : List Op} → Narrow l → Here b xs s l → StandAt s l p m → Here b xs p m
  here_at {s} {p} {l} {m} n h t =
      let e : l ≡ t.before ++ (m ++ t.after) = t.is ∙ append_assoc t.before m t.after in
      let w = back s t.before (m ++ t.after) (narrow_front t.before (m ++ t.after) (subst Narrow e n)) (subst (Here b xs s) e h) in
      front p m t.after (subst (λ (x : ℕ). Here b xs x (m ++ t.after)) t.slot w)

  -- ---- 37

  pub relocs_exact : (k s : ℕ) (l : List Op) → Narrow l → Here b xs s l → differs k (wide_from b s (slots_of l)) (relocations s l) ≡ Ok tt
  unfolding slots_of relocations wide_from differs
  relocs_exact k s [] n h = refl
  relocs_exact k s (plain i ∷ l) n h = let p = after_plain b xs s i l n.0 h in rw (h.begins, p.0) (relocs_exact k (suc s) l n.1 p.1)
  relocs_exact k s (map m ∷ l) n h =
      let w = wide_map b xs s m l h in
      let e : s + 2 ≡ suc (suc s) = omega arith in
      rw (h.begins, w, start_second b s h.begins w, eq-eqb (8 * s) (8 * s) refl, ← e) (relocs_exact (k + 2) (s + 2) l n (after_map b xs s m l h))
  relocs_exact k s (ja id ∷ l) n h = let p = after_ja b xs s id l h in rw (h.begins, p.0) (relocs_exact k (suc s) l n p.1)
  relocs_exact k s (jne id ∷ l) n h = let p = after_jne b xs s id l h in rw (h.begins, p.0) (relocs_exact k (suc s) l n p.1)
