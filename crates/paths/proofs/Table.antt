-- What a store does to the table: a mask lowered, or a slot that waits no more.
use mathlib.Core.Path.{◌≡◌, refl, sym, ap, ◌∙◌, subst}
use mathlib.Core.Logic.{◌⊎◌, inl, inr, ⊎_elim}
use mathlib.Core.List.{List}
use Prim.Native.Nat.{ℕ, ◌+◌, ◌-◌, ◌%◌, ◌≤◌, ◌<◌}
use native.Mathlib.Nat.{le_trans, le_refl}
use native.Mathlib.Decide.{ℕ_discrete}
use native.Mathlib.Omega.{arith}
use lib.Bits.{bit_and, and_le_l}
use lib.ListN.{length, get_or, set, length-set}
use lib.Seq.{get_or-set_same}
use Rattle.wire.specs.Bit.{bit}
use Rattle.worklist.specs.Words.{total}
use Rattle.wire.proofs.Bits.{bit_le, bit_and_lem}
use Rattle.worklist.proofs.Total.{total_set, after_set}
use Rattle.shape.specs.Code.{slots, at, form_at}
use Rattle.paths.specs.Registers.{after}
use Rattle.paths.specs.Way.{Next, Way.step, Reached, Lacks}
use Rattle.paths.specs.Mask.{node_at}
use Rattle.paths.specs.Work.{tab, through, Sub, Passed, Table, rank, lowered}
use Rattle.paths.proofs.Masks.{num, num_le, num_false, through_bit, after_bit}

-- ---- masks below masks

pub sub_refl : {a : ℕ} → Sub a a
sub_refl = record { below = λ r. le_refl _ }

pub sub_trans : {a b c : ℕ} → Sub a b → Sub b c → Sub a c
sub_trans p q = record { below = λ r. le_trans (p.below r) (q.below r) }

pub sub_at : {a b : ℕ} (c : ℕ) → a ≡ c → Sub c b → Sub a b
sub_at c e h = rw e h

sub_and_l : (a b : ℕ) → Sub (bit_and a b) a
sub_and_l a b = record { below = λ r. omega (arith, bit_and_lem a b r) }

pub sub_and_r : (a b : ℕ) → Sub (bit_and a b) b
sub_and_r a b = record { below = λ r. omega (arith, bit_and_lem a b r) }

-- from t to u masks fall, and a slot whose entry changed waits
pub record Falls (t u : List ℕ) : Type 0 where
  pub down : (v : ℕ) → Sub (tab u v) (tab t v)
  pub same : (v : ℕ) → (4096 ≤ get_or u v 0) ⊎ (get_or u v 0 ≡ get_or t v 0)

pub falls_refl : (t : List ℕ) → Falls t t
falls_refl t = record { down = λ v. sub_refl; same = λ v. inr refl }

pub falls_trans : {t u s : List ℕ} → Falls t u → Falls u s → Falls t s
falls_trans {t} {u} {s} p q =
    record {
      down = λ v. sub_trans (q.down v) (p.down v);
      same = λ v. ⊎_elim (λ f. inl f) (λ e. ⊎_elim (λ f. inl (omega arith)) (λ e2. inr (e ∙ e2)) (p.same v)) (q.same v);
    }

-- what held of slots v and w holds where w's mask fell and v's entry is the same
passed : (b t u : List ℕ) (v w : ℕ) → Sub (tab u w) (tab t w) → Passed b t v w
    → (4096 ≤ get_or t v 0) ⊎ ((bit (tab t v) 11 ≡ 1) ⊎ Sub (tab u w) (through (node_at b v) (tab t v)))
passed b t u v w f p = ⊎_elim (λ x. inl x) (λ o. inr (⊎_elim (λ z. inl z) (λ s. inr (sub_trans f s)) o)) p

-- ---- a mask lowered

lowered_lt : (t : List ℕ) (w out : ℕ) → lowered t w out < 4096
lowered_lt t w out = omega (arith, and_le_l (tab t w) out)

module _ (b : List ℕ) (x : ℕ) (t : List ℕ) (w out : ℕ) (T : Table b x t) (lw : w < length t) where
  new_low : (lowered t w out + 4096) % 4096 ≡ lowered t w out
  new_low = omega (arith, lowered_lt t w out)

  pub falls : Falls t (set t w (lowered t w out + 4096))
  falls =
      record {
        down =
            λ v.
            after_set (λ u y. Sub (y % 4096) (tab t u)) t w (lowered t w out + 4096) v lw (sub_at (lowered t w out) new_low (sub_and_l (tab t w) out)) (λ _. sub_refl);
        same = λ v. after_set (λ u y. (4096 ≤ y) ⊎ (y ≡ get_or t u 0)) t w (lowered t w out + 4096) v lw (inl (omega arith)) (λ _. inr refl);
      }

  pub stored_sub : Sub (tab (set t w (lowered t w out + 4096)) w) out
  stored_sub =
      sub_at (lowered t w out) (ap (λ (y : ℕ). y % 4096) (get_or-set_same t w (lowered t w out + 4096) 0 lw) ∙ new_low) (sub_and_r (tab t w) out)

  pub stored : Reached b w → ((r : ℕ) → r < 11 → bit out r ≡ 0 → Lacks b w r) → Table b x (set t w (lowered t w out + 4096))
  stored comes lacks =
      let y : ℕ = lowered t w out + 4096 in
      record {
        size = length-set t w y ∙ T.size;
        some = T.some;
        few = T.few;
        small = λ v. after_set (λ u z. z < 8192) t w y v lw (omega (arith, lowered_lt t w out)) (λ _. T.small v);
        begins = sub_trans (falls.down 0) T.begins;
        goes =
            λ v u lv lu e ne.
            after_set (λ k z. k ≡ v → (4096 ≤ z) ⊎ ((bit (z % 4096) 11 ≡ 1) ⊎ Sub (tab (set t w y) u) (through (node_at b v) (z % 4096)))) t w y v lw
            (λ _. inl (omega arith)) (λ _ _. passed b t (set t w y) v u (falls.down u) (T.goes v u lv lu e ne)) refl;
        shown =
            λ v r lv lr.
            after_set (λ u z. u ≡ v → bit (z % 4096) r ≡ 0 → Lacks b v r) t w y v lw
            (λ e z. subst (λ (k : ℕ). Lacks b k r) e (lack r lr (subst (λ (k : ℕ). k < slots b) (sym e) lv) (rw new_low at z)))
            (λ _ _ z. T.shown v r lv lr z) refl;
        came =
            λ v lv.
            after_set (λ u z. u ≡ v → bit (z % 4096) 11 ≡ 0 → Reached b v) t w y v lw (λ e _. subst (λ (k : ℕ). Reached b k) e comes) (λ _ _ z. T.came v lv z) refl;
        waiting = λ v. after_set (λ u z. 4096 ≤ z → Reached b u) t w y v lw (λ _. comes) (λ _ f. T.waiting v f);
      }
    where
      lack : (r : ℕ) → r < 11 → w < slots b → bit (lowered t w out) r ≡ 0 → Lacks b w r
      lack r lr l z = go (ℕ_discrete (bit out r) 0)
        where
          go : Dec (bit out r ≡ 0) → Lacks b w r
          go (yes e) = lacks r lr e
          go (no ne) = T.shown w r l lr (omega (arith, bit_and_lem (tab t w) out r, ne))

-- ---- slot v waits no more

abbrev pub rested : List ℕ → ℕ → List ℕ
rested t v = set t v (get_or t v 0 - 4096)

module _ (b t : List ℕ) (v : ℕ) (T : Table b (slots b) t) (lv : v < length t) (fv : 4096 ≤ get_or t v 0) where
  pub unflagged : Table b v (rested t v)
  unflagged =
      let y : ℕ = get_or t v 0 - 4096 in
      let same : (u : ℕ) → tab (set t v y) u ≡ tab t u = λ u. after_set (λ k z. z % 4096 ≡ tab t k) t v y u lv (omega arith) (λ _. refl) in
      record {
        size = length-set t v y ∙ T.size;
        some = T.some;
        few = T.few;
        small = λ u. after_set (λ k z. z < 8192) t v y u lv (omega (arith, T.small v)) (λ _. T.small u);
        begins = sub_at (tab t 0) (same 0) T.begins;
        goes =
            λ u w lu lw e ne.
            after_set (λ k z. k ≡ u → (4096 ≤ z) ⊎ ((bit (z % 4096) 11 ≡ 1) ⊎ Sub (tab (set t v y) w) (through (node_at b u) (z % 4096)))) t v y u lv
            (λ e2. absurd (ne (sym e2)))
            (λ _ _. passed b t (set t v y) u w (sub_at (tab t w) (same w) sub_refl) (T.goes u w lu lw e (omega arith))) refl;
        shown = λ u r lu lr z. T.shown u r lu lr (ap (λ (a : ℕ). bit a r) (sym (same u)) ∙ z);
        came = λ u lu z. T.came u lu (ap (λ (a : ℕ). bit a 11) (sym (same u)) ∙ z);
        waiting = λ u. after_set (λ k z. 4096 ≤ z → Reached b k) t v y u lv (λ _. T.waiting v fv) (λ _ f. T.waiting u f);
      }

  pub unflagged_less : total rank (rested t v) < total rank t
  unflagged_less = omega (arith, T.small v, total_set rank t v (get_or t v 0 - 4096) lv)

-- a register that is not in what slot v brings to slot w is lacking there
pub brought : (b : List ℕ) (x : ℕ) (t : List ℕ) {v w : ℕ} → Table b x t → v < slots b → Reached b v → Next b v w
    → (r : ℕ) → r < 11 → bit (through (node_at b v) (tab t v)) r ≡ 0 → Lacks b w r
brought b x t {v} {w} T lv p e r lr z = go (ℕ_discrete (bit (tab t v) r) 0)
  where
    go : Dec (bit (tab t v) r ≡ 0) → Lacks b w r
    go (yes q) =
        let l = T.shown v r lv lr q in (
          after (form_at b v) (at b v) l.0,
          (step l.1.0 lv e, num_false _ (omega (arith, after_bit b v l.0 r lr, through_bit (node_at b v) (tab t v) r, ap num l.1.1))),
        )
    go (no nz) = (
      after (form_at b v) (at b v) p.0,
      (step p.1 lv e, num_false _ (omega (arith, after_bit b v p.0 r lr, through_bit (node_at b v) (tab t v) r, num_le (p.0 r), bit_le (tab t v) r, nz))),
    )

-- both slots after v are lowered: nothing is left out
pub closed : (b : List ℕ) (v : ℕ) (t u : List ℕ) → Table b v u → Falls t u → get_or t v 0 < 4096
    → ((w : ℕ) → w < slots b → Next b v w → Sub (tab u w) (through (node_at b v) (tab t v))) → Table b (slots b) u
closed b v t u T F lo h =
    record {
      size = T.size;
      some = T.some;
      few = T.few;
      small = T.small;
      begins = T.begins;
      goes = λ a w la lw e _. go a w la lw e (ℕ_discrete a v);
      shown = T.shown;
      came = T.came;
      waiting = T.waiting;
    }
  where
    go : (a w : ℕ) → a < slots b → w < slots b → Next b a w → Dec (a ≡ v) → Passed b u a w
    go a w la lw e (no ne) = T.goes a w la lw e ne
    go a w la lw e (yes q) = subst (λ (k : ℕ). Passed b u k w) (sym q) (⊎_elim (λ f. inl f) (λ s. inr (inr (here s))) (F.same v))
      where
        here : get_or u v 0 ≡ get_or t v 0 → Sub (tab u w) (through (node_at b v) (tab u v))
        here s = subst (λ (z : ℕ). Sub (tab u w) (through (node_at b v) (z % 4096))) (sym s) (h w lw (subst (λ (k : ℕ). Next b k w) q e))
