-- One turn of the work: a slot taken from the set, and the slots after it lowered.
use mathlib.Core.Path.{◌≡◌, refl, sym, ap, ◌∙◌, subst}
use mathlib.Core.Logic.{⊎_elim}
use mathlib.Core.List.{List}
use Prim.Native.Nat.{ℕ, ◌+◌, ◌-◌, ◌≤◌, ◌<◌}
use native.Mathlib.Nat.{le_refl}
use native.Mathlib.Decide.{dec_lt}
use native.Mathlib.Omega.{arith}
use lib.Bits.{and_le_l}
use lib.ListN.{length, get_or, set, length-set}
use lib.Seq.{get_or-set_same}
use Rattle.std.specs.Prelude.{Option, Some}
use Rattle.std.proofs.lemmas.Grind.{common_steps}
use Rattle.wire.specs.Bit.{bit}
use Rattle.worklist.specs.Words.{total, listed, Sound, Marked, Took}
use Rattle.worklist.specs.Set.{lead, taken_low, taken_mid, taken_top, taken}
use Rattle.worklist.specs.declared.Worklist.{Worklist}
use Rattle.worklist.proofs.Total.{total_set, after_set}
use Rattle.worklist.proofs.Words as words
use Rattle.shape.specs.Code.{slots}
use Rattle.paths.specs.Way.{Next, Way.step, Reached, Lacks}
use Rattle.paths.specs.Mask.{node_at}
use Rattle.paths.specs.Work.{tab, through, Sub, Table, Kept, Work, rank, left, lowered, Marks, Relaxed, Relaxed.nowhere, Relaxed.past, Relaxed.same, Relaxed.pushed, Relaxed.again, Settled}
use Rattle.paths.proofs.Leads.{leads, leads_on, leads_to}
use Rattle.paths.proofs.Table.{sub_trans, sub_at, sub_and_r, Falls, falls_refl, falls_trans, falls, stored, stored_sub, rested, unflagged, unflagged_less, brought, closed}

-- ---- one mask lowered

-- the set still has each slot that waits
marked : (x : ℕ) (t : List ℕ) (w w' : Worklist) (v y : ℕ) → Kept x t w → Sound w'.low w'.mid w'.top → v < length t → listed w'.low v ≡ 1 → ((u : ℕ) → listed w.low u ≡ 1 → listed w'.low u ≡ 1)
    → Kept x (set t v y) w'
marked x t w w' v y K sound lv here keeps =
    record {
      sound = sound;
      has =
          λ u f ne.
          after_set (λ k z. k ≡ u → 4096 ≤ z → listed w'.low u ≡ 1) t v y u lv (λ q _. subst (λ (k : ℕ). listed w'.low k ≡ 1) q here) (λ _ _ g. keeps u (K.has u g ne)) refl f;
    }

remarked : (x : ℕ) (t : List ℕ) (w : Worklist) (v y : ℕ) → Kept x t w → v < length t → 4096 ≤ get_or t v 0 → Kept x (set t v y) w
remarked x t w v y K lv fv =
    record {
      sound = K.sound;
      has =
          λ u f ne.
          after_set (λ k z. k ≡ u → 4096 ≤ z → listed w.low u ≡ 1) t v y u lv (λ q _. K.has u (subst (λ (k : ℕ). 4096 ≤ get_or t k 0) q fv) ne) (λ _ _ g. K.has u g ne) refl f;
    }

pub marks : (w : Worklist) → Sound w.low w.mid w.top → (v : ℕ) (w' : Worklist) → Marks w v w' → Marked w.low w.mid w.top v w'.low w'.mid w'.top
marks w S v w' m = rw (m.low, m.mid, m.top) (words.marked w.low w.mid w.top S v)

-- slots that are the same where they are any
pub same_slot : {v u : ℕ} → Some v ≡ Some u → v ≡ u
same_slot e = cc

pub record Relaxes (b : List ℕ) (x : ℕ) (t : List ℕ) (w : Worklist) (out : ℕ) (slot : Option ℕ) (t' : List ℕ) (w' : Worklist) : Type 0 where
  pub table : Table b x t'
  pub kept : Kept (slots b) t' w'
  pub fell : Falls t t'
  pub under : (v : ℕ) → Some v ≡ slot → v < length t → Sub (tab t' v) out
  pub less : left t' w' ≤ left t w

relaxes : (b : List ℕ) (x : ℕ) (t : List ℕ) (w : Worklist) (out : ℕ) {slot : Option ℕ} {t' : List ℕ} {w' : Worklist} → Table b x t → Kept (slots b) t w
    → ((v : ℕ) → slot ≡ Some v → Reached b v) → ((v r : ℕ) → slot ≡ Some v → r < 11 → bit out r ≡ 0 → Lacks b v r)
    → Relaxed t w out slot t' w' → Relaxes b x t w out slot t' w'
unfolding left
relaxes b x t w out T K comes lacks nowhere =
    record { table = T; kept = K; fell = falls_refl t; under = λ v q. absurd cc; less = le_refl _ }
relaxes b x t w out T K comes lacks (past h) =
    record { table = T; kept = K; fell = falls_refl t; under = λ v q l. absurd (omega (arith, same_slot q)); less = le_refl _ }
relaxes b x t w out T K comes lacks (same {v = u} l e) =
    record {
      table = T;
      kept = K;
      fell = falls_refl t;
      under = λ v q _. rw (same_slot q) (sub_at (lowered t u out) (sym e) (sub_and_r (tab t u) out));
      less = le_refl _;
    }
relaxes b x t w out T K comes lacks (pushed {v = u} {w' = w'} l f ne m) =
    let y : ℕ = lowered t u out + 4096 in
    let M = marks w K.sound u w' m in
    let fall : total rank (set t u y) + 1 ≤ total rank t = omega (arith, total_set rank t u y l, and_le_l (tab t u) out, ne) in
    record {
      table = stored b x t u out T l (comes u refl) (λ r lr z. lacks u r refl lr z);
      kept = marked (slots b) t w w' u y K M.sound l (M.here (omega (arith, T.size, T.few))) M.keeps;
      fell = falls b x t u out T l;
      under = λ v q _. rw (same_slot q) (stored_sub b x t u out T l);
      less = omega (arith, fall, M.most);
    }
relaxes b x t w out T K comes lacks (again {v = u} l f ne) =
    let y : ℕ = lowered t u out + 4096 in
    let fall : total rank (set t u y) ≤ total rank t = omega (arith, total_set rank t u y l, and_le_l (tab t u) out, ne) in
    record {
      table = stored b x t u out T l (comes u refl) (λ r lr z. lacks u r refl lr z);
      kept = remarked (slots b) t w u y K l f;
      fell = falls b x t u out T l;
      under = λ v q _. rw (same_slot q) (stored_sub b x t u out T l);
      less = omega (arith, fall);
    }

pub relaxed_length : {t : List ℕ} {w : Worklist} {out : ℕ} {slot : Option ℕ} {t' : List ℕ} {w' : Worklist} → Relaxed t w out slot t' w' → length t' ≡ length t
relaxed_length nowhere = refl
relaxed_length (past h) = refl
relaxed_length (same l e) = refl
relaxed_length (pushed l f ne m) = simp length-set
relaxed_length (again l f ne) = simp length-set

-- ---- a visit to slot v

abbrev pub brings : List ℕ → List ℕ → ℕ → ℕ
brings b t v = through (node_at b v) (get_or t v 0 - 4096)

module _ (b t : List ℕ) (w : Worklist) (v : ℕ) (T : Table b (slots b) t) (K : Kept v t w) (lv : v < length t) (fv : 4096 ≤ get_or t v 0) where
  off : Table b v (rested t v)
  off = unflagged b t v T lv fv

  calm : get_or (rested t v) v 0 < 4096
  calm = omega (arith, T.small v, get_or-set_same t v (get_or t v 0 - 4096) 0 lv)

  off_kept : Kept (slots b) (rested t v) w
  off_kept =
      record {
        sound = K.sound;
        has =
            λ u f _.
            (remarked v t w v (get_or t v 0 - 4096) K lv fv).has u f
            (λ q. let h : 4096 ≤ get_or (rested t v) v 0 = subst (λ (k : ℕ). 4096 ≤ get_or (rested t v) k 0) q f in omega (arith, calm));
      }

  mask_is : get_or t v 0 - 4096 ≡ tab (rested t v) v
  mask_is = omega (arith, T.small v, get_or-set_same t v (get_or t v 0 - 4096) 0 lv)

  in_v : v < slots b
  in_v = omega (arith, T.size)

  brings_is : brings b t v ≡ through (node_at b v) (tab (rested t v) v)
  brings_is = ap (λ (z : ℕ). through (node_at b v) z) mask_is

  comes : {u : ℕ} → Next b v u → Reached b u
  comes e = (_, step (T.waiting v fv).1 in_v e)

  lacks : {u : ℕ} → Next b v u → (r : ℕ) → r < 11 → bit (brings b t v) r ≡ 0 → Lacks b u r
  lacks e r lr z = brought b v (rested t v) off in_v (T.waiting v fv) e r lr (rw brings_is at z)

  module _ {t1 t2 : List ℕ} {w1 w2 : Worklist} (R : Relaxed (rested t v) w (brings b t v) (node_at b v).on t1 w1) (Q : Relaxed t1 w1 (brings b t v) (node_at b v).to t2 w2) where
    first : Relaxes b v (rested t v) w (brings b t v) (node_at b v).on t1 w1
    first =
        relaxes b v (rested t v) w (brings b t v) off off_kept (λ u e. comes (leads_on b v e)) (λ u r e lr z. lacks (leads_on b v e) r lr z) R

    second : Relaxes b v t1 w1 (brings b t v) (node_at b v).to t2 w2
    second =
        relaxes b v t1 w1 (brings b t v) first.table first.kept (λ u e. comes (leads_to b v e)) (λ u r e lr z. lacks (leads_to b v e) r lr z) Q

    under : (u : ℕ) → u < slots b → Next b v u → Sub (tab t2 u) (brings b t v)
    under u l e =
        ⊎_elim (λ q. sub_trans (second.fell.down u) (first.under u q (omega (arith, off.size)))) (λ q. second.under u q (omega (arith, first.table.size)))
        (leads b v e)

    pub visited : Work b t2 w2 × (left t2 w2 < left t w)
    unfolding left
    visited = (
      record {
        table =
            closed b v (rested t v) t2 second.table (falls_trans first.fell second.fell) calm
            (λ u l e. subst (λ (z : ℕ). Sub (tab t2 u) z) brings_is (under u l e));
        kept = second.kept;
      },
      omega (arith, first.less, second.less, unflagged_less b t v T lv fv),
    )

-- ---- a turn

flagged_lt : (t : List ℕ) (v : ℕ) → 4096 ≤ get_or t v 0 → v < length t
flagged_lt t v f = grind (arith, common_steps)

-- w' is w with at most one slot taken out, r
pub record Taken (w : Worklist) (w' : Worklist) (r : Option ℕ) : Type 0 where
  pub value : r ≡ taken (lead w.low w.mid w.top)
  pub low : w'.low ≡ taken_low w.low (lead w.low w.mid w.top)
  pub mid : w'.mid ≡ taken_mid w.mid (lead w.low w.mid w.top)
  pub top : w'.top ≡ taken_top w.top (lead w.low w.mid w.top)

pub past_none : (t : List ℕ) (v : ℕ) → length t ≤ v → get_or t v 0 < 4096
past_none t v l = grind (arith, common_steps)

module _ (b t : List ℕ) (w : Worklist) {w' : Worklist} {r : Option ℕ} (W : Work b t w) (E : Taken w w' r) where
  takes : Took w.low w.mid w.top w'.low w'.mid w'.top r
  takes = rw (E.value, E.low, E.mid, E.top) (words.took w.low w.mid w.top W.kept.sound)

  has : (v : ℕ) → 4096 ≤ get_or t v 0 → (Some v ≡ r → ⊥) → listed w'.low v ≡ 1
  has v f ne = takes.keeps v (W.kept.has v f (λ q. omega (arith, flagged_lt t v f, W.table.size))) ne

  pub took_less : 0 < w.top → left t w' < left t w
  unfolding left
  took_less h = omega (arith, takes.less h)

  -- a slot that waits is visited; where the slot does not wait, or there is none, nothing that waits was taken
  pub took : (v : ℕ) → r ≡ Some v → Kept v t w'
  took v e = record { sound = takes.sound; has = λ u f ne. has u f (λ q. ne (same_slot (q ∙ e))) }

  pub took_none : 0 < w.top → ((v : ℕ) → r ≡ Some v → get_or t v 0 < 4096) → Work b t w' × (left t w' < left t w)
  took_none h lo = (record { table = W.table; kept = record { sound = takes.sound; has = λ v f _. has v f (λ q. omega (arith, lo v (sym q))) } }, took_less h)

-- the set is empty: nothing waits
pub settled : (b t : List ℕ) (w : Worklist) → Work b t w → w.top ≡ 0 → Settled b t
settled b t w W z = record { table = W.table; calm = λ v. go v (dec_lt (get_or t v 0) 4096) }
  where
    go : (v : ℕ) → Dec (get_or t v 0 < 4096) → get_or t v 0 < 4096
    go v (yes h) = h
    go v (no h) =
        let f : 4096 ≤ get_or t v 0 = omega arith in
        absurd (words.empty w.low w.mid w.top W.kept.sound z v (W.kept.has v f (λ q. omega (arith, flagged_lt t v f, W.table.size))))
