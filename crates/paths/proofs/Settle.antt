-- How the work begins, and what the table says when nothing waits.
use mathlib.Core.Path.{◌≡◌, refl, sym, ap, ◌∙◌, subst}
use mathlib.Core.Bool.{Bool, true, false, true≢false}
use mathlib.Core.Logic.{◌⊎◌, inl, inr, ⊎_elim}
use mathlib.Core.List.{List}
use Prim.Native.Nat.{ℕ, ◌%◌, ◌≤◌, ◌<◌}
use native.Mathlib.Decide.{dec_lt}
use native.Mathlib.Omega.{arith}
use lib.Dec.{leb, ltb}
use lib.ListN.{length, get_or, set, length-set, get_or-eq_default}
use lib.Seq.{get_or-set_same}
use borrow.Author.Tests.{le-leb, lt-ltb, leb-true, ltb-true}
use Rattle.std.specs.Prelude.{Option, Some, None}
use Rattle.wire.specs.Pick.{either}
use Rattle.wire.specs.Bit.{bit}
use Rattle.worklist.specs.Words.{listed, Sound}
use Rattle.worklist.specs.declared.Worklist.{Worklist}
use Rattle.wire.proofs.Bits.{low_bit}
use Rattle.worklist.proofs.Total.{after_set}
use Rattle.shape.specs.Code.{slots}
use Rattle.shape.proofs.Tests.{both_true, either_true}
use Rattle.paths.specs.Registers.{Regs, at_start}
use Rattle.paths.specs.Way.{Next, Way, Way.begin, Way.step, Reached, Passes}
use Rattle.paths.specs.Readable.{Readable, Told}
use Rattle.paths.specs.Mask.{node_at}
use Rattle.paths.specs.Work.{tab, through, Sub, Table, Work, Marks, beyond, leaving, Settled, Solved}
use Rattle.paths.specs.declared.Ends.{Ends}
use Rattle.paths.proofs.Masks.{num, num_le, num_true, num_false, full, through_bit, after_bit, bit_11, unmade, start_bit}
use Rattle.paths.proofs.Leads.{leads, leads_on, leads_to}
use Rattle.paths.proofs.Table.{sub_refl}
use Rattle.paths.proofs.Steps.{marks}

-- ---- the beginning: no path has come but to slot 0

module _ (b t : List ℕ) (size : length t ≡ slots b) (some : 0 < length t) (few : length t ≤ 131072) (all : (k : ℕ) → k < length t → get_or t k 0 ≡ 4095) where
  low : (v : ℕ) → get_or t v 0 < 4096
  low v = go (dec_lt v (length t))
    where
      go : Dec (v < length t) → get_or t v 0 < 4096
      go (yes l) = omega (arith, all v l)
      go (no n) = omega (arith, get_or-eq_default t 0 {n = v} (omega arith))

  began_table : Table b (slots b) (set t 0 5122)
  began_table =
      record {
        size = length-set t 0 5122 ∙ size;
        some = omega arith;
        few = omega arith;
        small = λ v. after_set (λ u z. z < 8192) t 0 5122 v some (omega arith) (λ _. omega (arith, low v));
        begins = subst (λ (z : ℕ). Sub (z % 4096) 1026) (sym (get_or-set_same t 0 5122 0 some)) sub_refl;
        goes =
            λ v w lv lw e _.
            after_set (λ k z. k ≡ v → (4096 ≤ z) ⊎ ((bit (z % 4096) 11 ≡ 1) ⊎ Sub (tab (set t 0 5122) w) (through (node_at b v) (z % 4096)))) t 0 5122 v some
            (λ _. inl (omega arith))
            (λ _ _. inr (inl (subst (λ (z : ℕ). bit (z % 4096) 11 ≡ 1) (sym (all v (omega arith))) (full 11 (omega arith))))) refl;
        shown =
            λ v r lv lr.
            after_set (λ k z. k ≡ v → bit (z % 4096) r ≡ 0 → (m : Regs) × (Way b k m × (m r ≡ false))) t 0 5122 v some
            (λ _ z. (at_start, (begin, num_false (at_start r) (sym (start_bit r lr) ∙ z))))
            (λ _ _ z. absurd (omega (arith, full r (omega arith), subst (λ (z : ℕ). bit (z % 4096) r ≡ 0) (all v (omega arith)) z))) refl;
        came =
            λ v lv.
            after_set (λ k z. k ≡ v → bit (z % 4096) 11 ≡ 0 → Reached b k) t 0 5122 v some
            (λ _ _. (at_start, begin))
            (λ _ _ z. absurd (omega (arith, full 11 (omega arith), subst (λ (z : ℕ). bit (z % 4096) 11 ≡ 0) (all v (omega arith)) z))) refl;
        waiting = λ v. after_set (λ k z. 4096 ≤ z → Reached b k) t 0 5122 v some (λ _. (at_start, begin)) (λ _ f. absurd (omega (arith, low v)));
      }

  pub began : (w w' : Worklist) → Sound w.low w.mid w.top → Marks w 0 w' → Work b (set t 0 5122) w'
  began w w' S m =
      let M = marks w S 0 w' m in
      record {
        table = began_table;
        kept =
            record {
              sound = M.sound;
              has =
                  λ v f _.
                  after_set (λ k z. k ≡ v → 4096 ≤ z → listed w'.low k ≡ 1) t 0 5122 v some (λ _ _. M.here (omega arith)) (λ _ _ f. absurd (omega (arith, low v))) refl f;
            };
      }

-- ---- the end

bits_low : (x : ℕ) → x < 4096 → bit x 11 ≡ 0 → x < 2048
unfolding bit
bits_low x l z = omega arith

module _ (b t : List ℕ) (S : Settled b t) where
  mask_at : (v : ℕ) → tab t v ≡ get_or t v 0
  mask_at v = omega (arith, S.calm v)

  -- a path that comes to a slot has each register of its mask, and the slot is not marked
  below : {v : ℕ} {m : Regs} → Way b v m → v < slots b → (bit (tab t v) 11 ≡ 0) × ((r : ℕ) → r < 11 → bit (tab t v) r ≤ num (m r))
  below begin l = (omega (arith, S.table.begins.below 11, bit_11 1026 (omega arith)), λ r lr. omega (arith, S.table.begins.below r, start_bit r lr))
  below (step {s = v} {t = w} {m = m} p lv e) l =
      let h = below p lv in
      ⊎_elim (λ f. absurd (omega (arith, S.calm v)))
      (λ o.
      ⊎_elim (λ z. absurd (omega (arith, z, h.0)))
      (λ s. (
        omega (arith, s.below 11, through_bit (node_at b v) (tab t v) 11, h.0, unmade b v),
        λ r lr. omega (arith, s.below r, through_bit (node_at b v) (tab t v) r, h.1 r lr, after_bit b v m r lr),
      )) o)
      (S.table.goes v w lv l e (omega arith))

  pub readable : (v : ℕ) → v < slots b → Readable b v (get_or t v 0 % 2048)
  readable v l =
      record {
        small = omega arith;
        set = λ r lr e m p. num_true (m r) (omega (arith, (below p l).1 r lr, same r lr, e, num_le (m r)));
        clear = λ r lr e. S.table.shown v r l lr (same r lr ∙ e);
      }
    where
      same : (r : ℕ) → r < 11 → bit (tab t v) r ≡ bit (get_or t v 0 % 2048) r
      same r lr = ap (λ (x : ℕ). bit x r) (mask_at v) ∙ sym (low_bit (get_or t v 0) r 11 lr)

  pub solved : (u : List ℕ) (e : Ends) → length u ≡ length t → ((k : ℕ) → get_or u k 0 ≡ get_or t k 0 % 2048) → Told b e → Solved b u e
  solved u e q h d =
      record { size = q ∙ S.table.size; front = λ v l. subst (λ (x : ℕ). Readable b v x) (sym (h v)) (readable v l); told = d }

  -- ---- past the last slot

  size : length t ≡ slots b
  size = S.table.size

  leaving_is : {v w : ℕ} {m : Regs} → Way b v m → v < slots b → Next b v w → slots b ≤ w → leaving b t v ≡ true
  unfolding leaving beyond
  leaving_is {v} {w} p lv e h =
      let c : get_or t v 0 < 2048 = bits_low (get_or t v 0) (S.calm v) (subst (λ (x : ℕ). bit x 11 ≡ 0) (mask_at v) (below p lv).0) in
      let far : leb (length t) w ≡ true = le-leb (length t) w (omega (arith, size)) in
      ⊎_elim (λ q. rw (lt-ltb (get_or t v 0) 2048 c, ← q, far)) (λ q. rw (lt-ltb (get_or t v 0) 2048 c, ← q, far) (or_true (beyond (length t) (node_at b v).on))) (leads b v e)
    where
      or_true : (p : Bool) → either p true ≡ true
      or_true true = refl
      or_true false = refl

  far : {v : ℕ} {m : Regs} → Way b v m → v < slots b → (slot : Option ℕ) → ((w : ℕ) → slot ≡ Some w → Next b v w) → beyond (length t) slot ≡ true → Passes b
  unfolding beyond
  far p lv None n q = absurd (true≢false (sym q))
  far p lv (Some w) n q = (w, (_, (step p lv (n w refl), omega (arith, leb-true (length t) w q, size))))

  -- where no slot leads past the end, no path does
  pub inside : ((v : ℕ) → v < length t → leaving b t v ≡ false) → Passes b → ⊥
  inside none (w, (m, (begin, l))) = omega (arith, S.table.some)
  inside none (w, (m, (step {s = v} p lv e, l))) = true≢false (sym (leaving_is p lv e l) ∙ none v (omega (arith, size)))

  -- where one does, a path does
  pub outside : (v : ℕ) → v < length t → leaving b t v ≡ true → Passes b
  unfolding leaving
  outside v l e =
      let c : get_or t v 0 < 2048 = ltb-true (get_or t v 0) 2048 (both_true (ltb (get_or t v 0) 2048) _ e).0 in
      let lv : v < slots b = omega (arith, size) in
      let p : Reached b v = S.table.came v lv (subst (λ (x : ℕ). bit x 11 ≡ 0) (sym (mask_at v)) (bit_11 (get_or t v 0) c)) in
      ⊎_elim (λ q. far p.1 lv (node_at b v).on (λ w f. leads_on b v f) q) (λ q. far p.1 lv (node_at b v).to (λ w f. leads_to b v f) q)
      (either_true (beyond (length t) (node_at b v).on) (beyond (length t) (node_at b v).to) (both_true (ltb (get_or t v 0) 2048) _ e).1)
