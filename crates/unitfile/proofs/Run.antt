-- The records from a cursor on, step by step: the laws by which a loop over records goes. They need no bound on the bytes.
use mathlib.Core.Path.{◌≡◌, refl, ap, ◌∙◌, sym, subst}
use mathlib.Core.Bool.{Bool, true, false}
use mathlib.Core.List.{List, [], ◌∷◌}
use Prim.Native.Nat.{ℕ, zero, suc, ◌+◌, ◌-◌, ◌<◌, ◌≤◌}
use native.Mathlib.Omega.{arith}
use borrow.Author.Tests.{eqb-true, eqb-false}
use lib.Dec.{eqb}
use lib.ListN.{length}
use Rattle.wire.specs.Pick.{pick}
use Rattle.record.specs.Frame.{next_at}
use Rattle.record.specs.Payload.{kind_of}
use Rattle.record.specs.Record.{read_record}
use Rattle.record.specs.declared.Record.{Record}
use Rattle.record.specs.declared.Record.TheVariants as R
use Rattle.record.specs.declared.Due.{Due}
use Rattle.record.specs.declared.Due.TheVariants as Du
use Rattle.record.specs.declared.Fault.{Fault}
use Rattle.unitfile.specs.Records.{Cursor, Step, go, end, stop, after, on_record, next_record, Placed, Records, records, refused, cons, on_step, up_to, records_from}
use Rattle.record.proofs.RecordLaws.{Came, Taken, record_taken}
use Rattle.opening.proofs.Choice.{pick_ind}
use Rattle.std.specs.Prelude.{Err, Ok, Result}

-- ---- one step

-- what is due at a cursor
abbrev pub due_at : Cursor → Due
due_at c = pick c.inside Du.Inside Du.Block

-- a step that goes on passes the record at its cursor, which lies whole in b
pub record Later (b : List ℕ) (c d : Cursor) : Type 0 where
  pub later : c.at + 4 ≤ d.at
  pub within : d.at ≤ length b
  pub next : d.at ≡ next_at b c.at

-- a block record opens a block, of those that are still due
pub record Opens (c d : Cursor) : Type 0 where
  pub outside : c.inside ≡ false
  pub due : 0 < c.blocks
  pub blocks : d.blocks ≡ c.blocks - 1
  pub inside : d.inside ≡ true

pub record Stays (c d : Cursor) : Type 0 where
  pub was : c.inside ≡ true
  pub blocks : d.blocks ≡ c.blocks
  pub inside : d.inside ≡ true

pub record Closes (c d : Cursor) : Type 0 where
  pub was : c.inside ≡ true
  pub blocks : d.blocks ≡ c.blocks
  pub outside : d.inside ≡ false

-- by the record: outside a block a block record comes, inside it an instruction or its terminator, and nothing else
abbrev pub Goes : Cursor → Cursor → Record → Type 0
Goes c d (R.Head h) = ⊥
Goes c d (R.Map start len) = ⊥
Goes c d (R.Block id) = Opens c d
Goes c d (R.Instruction i) = Stays c d
Goes c d (R.Terminator t) = Closes c d

-- the end of the unit
pub record Ended (b : List ℕ) (c : Cursor) : Type 0 where
  pub outside : c.inside ≡ false
  pub blocks : c.blocks ≡ 0
  pub at : c.at ≡ length b

module _ (b : List ℕ) (maps : ℕ) (c : Cursor) where
  -- a step goes on by the record that was read
  record ReadOn (due : Due) (r : Record) (d : Cursor) : Type 0 where
    next : ℕ
    read : read_record b c.at due maps ≡ Ok (r, next)
    to : d ≡ after c (kind_of r) next

  read_on : (due : Due) (x : Result (Record × ℕ) Fault) → read_record b c.at due maps ≡ x → (r : Record) (d : Cursor) → on_record c x ≡ go r d → ReadOn due r d
  unfolding on_record
  read_on due (Ok (q, next)) h r d e =
      let z : q ≡ r = cc in
      record { next = next; read = h ∙ ap (λ (x : Record). Ok (x, next)) z; to = cc }
  read_on due (Err f) h r d e = let z : ◌≡◌ {A = ℕ} 0 1 = cc in absurd (omega arith)

  after_at : (r : Record) (next : ℕ) → (after c (kind_of r) next).at ≡ next
  unfolding after kind_of
  after_at (R.Head h) next = refl
  after_at (R.Map start len) next = refl
  after_at (R.Block id) next = refl
  after_at (R.Instruction i) next = refl
  after_at (R.Terminator t) next = refl

  inside_goes : c.inside ≡ true → (r : Record) (start next : ℕ) → Came maps start next Du.Inside r → Goes c (after c (kind_of r) next) r
  unfolding after kind_of
  inside_goes h (R.Head x) start next k = k
  inside_goes h (R.Map from len) start next k = k
  inside_goes h (R.Block id) start next k = absurd k
  inside_goes h (R.Instruction i) start next k = record { was = h; blocks = refl; inside = refl }
  inside_goes h (R.Terminator t) start next k = record { was = h; blocks = refl; outside = refl }

  outside_goes : c.inside ≡ false → 0 < c.blocks → (r : Record) (start next : ℕ) → Came maps start next Du.Block r → Goes c (after c (kind_of r) next) r
  unfolding after kind_of
  outside_goes h l (R.Head x) start next k = k
  outside_goes h l (R.Map from len) start next k = k
  outside_goes h l (R.Block id) start next k = record { outside = h; due = l; blocks = refl; inside = refl }
  outside_goes h l (R.Instruction i) start next k = absurd k
  outside_goes h l (R.Terminator t) start next k = absurd k

  record Went (due : Due) (r : Record) (d : Cursor) : Type 0 where
    taken : Taken b c.at due maps r d.at
    goes : Goes c d r

  went_by : (due : Due) (r : Record) (d : Cursor) → ((start next : ℕ) → Came maps start next due r → Goes c (after c (kind_of r) next) r) → ReadOn due r d → Went due r d
  went_by due r d h o =
      let t = record_taken b c.at due maps r o.next o.read in
      let a = ap (λ (x : Cursor). x.at) o.to ∙ after_at r o.next in
      record { taken = subst (Taken b c.at due maps r) (sym a) t; goes = subst (λ (x : Cursor). Goes c x r) (sym o.to) (h _ o.next t.came) }

  abbrev Onward : Step → Type 0
  Onward x = (r : Record) (d : Cursor) → x ≡ go r d → Went (due_at c) r d

  by_due : {t : Bool} {r : Record} {d : Cursor} → c.inside ≡ t → Went (pick t Du.Inside Du.Block) r d → Went (due_at c) r d
  by_due {t} {r} {d} i w = subst (λ (x : Bool). Went (pick x Du.Inside Du.Block) r d) (sym i) w

  onward : Onward (next_record b maps c)
  unfolding next_record
  onward =
      pick_ind Onward c.inside _ _
      (λ i r d e. by_due i (went_by Du.Inside r d (inside_goes i r) (read_on Du.Inside _ refl r d e)))
      (λ i. pick_ind Onward (eqb c.blocks 0) _ _
      (λ z. pick_ind Onward (eqb c.at (length b)) _ _
      (λ t r d e. let z : ◌≡◌ {A = ℕ} 0 1 = cc in absurd (omega arith))
      (λ t r d e. let z : ◌≡◌ {A = ℕ} 0 1 = cc in absurd (omega arith)))
      (λ z r d e.
      by_due i (went_by Du.Block r d (outside_goes i (let n = eqb-false c.blocks 0 z in omega arith) r) (read_on Du.Block _ refl r d e))))

  -- all that is known of a record that was read at a cursor
  pub taken : (r : Record) (d : Cursor) → next_record b maps c ≡ go r d → Taken b c.at (due_at c) maps r d.at
  taken r d e = (onward r d e).taken

  pub later : (r : Record) (d : Cursor) → next_record b maps c ≡ go r d → Later b c d
  later r d e = let t = taken r d e in record { later = t.later; within = t.within; next = t.ends }

  pub goes : (r : Record) (d : Cursor) → next_record b maps c ≡ go r d → Goes c d r
  goes r d e = (onward r d e).goes

  abbrev Ends : Step → Type 0
  Ends x = x ≡ end → Ended b c

  no_end : (x : Result (Record × ℕ) Fault) → Ends (on_record c x)
  unfolding on_record
  no_end (Ok (r, next)) e = let z : ◌≡◌ {A = ℕ} 0 1 = cc in absurd (omega arith)
  no_end (Err f) e = let z : ◌≡◌ {A = ℕ} 0 1 = cc in absurd (omega arith)

  pub ended : next_record b maps c ≡ end → Ended b c
  unfolding next_record
  ended =
      pick_ind Ends c.inside _ _
      (λ i. no_end _)
      (λ i. pick_ind Ends (eqb c.blocks 0) _ _
      (λ z. pick_ind Ends (eqb c.at (length b)) _ _
      (λ t e. record { outside = i; blocks = eqb-true _ _ z; at = eqb-true _ _ t })
      (λ t e. let z : ◌≡◌ {A = ℕ} 0 1 = cc in absurd (omega arith)))
      (λ z. no_end _))

-- ---- the records from a cursor on

-- with bound enough, more is the same
abbrev Same : List ℕ → ℕ → ℕ → ℕ → Type 0
Same b maps f g = (c : Cursor) → length b - c.at < f → length b - c.at < g → up_to f b maps c ≡ up_to g b maps c

same_step : (b : List ℕ) (maps f g : ℕ) → Same b maps f g → (c : Cursor) (x : Step) → next_record b maps c ≡ x → length b - c.at < suc f → length b - c.at < suc g → on_step c.at x (λ d. up_to f b maps d) ≡ on_step c.at x (λ d. up_to g b maps d)
unfolding on_step
same_step b maps f g ih c (go r d) e p q =
    let o = later b maps c r d e in
    ap (cons _) (ih d (omega arith) (omega arith))
same_step b maps f g ih c end e p q = refl
same_step b maps f g ih c (stop x) e p q = refl

enough : (b : List ℕ) (maps f g : ℕ) → Same b maps f g
unfolding up_to
enough b maps zero g c p q = absurd (omega arith)
enough b maps (suc f) zero c p q = absurd (omega arith)
enough b maps (suc f) (suc g) c p q = same_step b maps f g (enough b maps f g) c (next_record b maps c) refl p q

module _ (b : List ℕ) (maps : ℕ) (c : Cursor) where
  pub on_go : (r : Record) (d : Cursor) → next_record b maps c ≡ go r d → records_from b maps c ≡ cons (record { place = c.at; value = r }) (records_from b maps d)
  unfolding records_from up_to on_step
  on_go r d e =
      let o = later b maps c r d e in
      rw e (ap (cons _) (enough b maps (length b) (suc (length b)) d (omega arith) (omega arith)))

  pub on_end_lem : next_record b maps c ≡ end → records_from b maps c ≡ records []
  unfolding records_from up_to on_step
  on_end_lem e = rw e refl

  pub on_refused : (f : Fault) → next_record b maps c ≡ stop f → records_from b maps c ≡ refused f
  unfolding records_from up_to on_step
  on_refused f e = rw e refl

-- the other way round: what the records from a cursor on say of the step there
pub record CameTo (b : List ℕ) (maps : ℕ) (c : Cursor) (p : Placed) (l : List Placed) : Type 0 where
  pub next : Cursor
  pub step : next_record b maps c ≡ go p.value next
  pub place : p.place ≡ c.at
  pub rest : records_from b maps next ≡ records l

module _ (b : List ℕ) (maps : ℕ) (c : Cursor) where
  cons_is : (q : Placed) (x : Records) (p : Placed) (l : List Placed) → cons q x ≡ records (p ∷ l) → (q ≡ p) × (x ≡ records l)
  unfolding cons
  cons_is q (records m) p l e =
      let h : q ≡ p = cc in
      let t : m ≡ l = cc in
      (h, ap records t)
  cons_is q (refused f) p l e = let z : ◌≡◌ {A = ℕ} 0 1 = cc in absurd (omega arith)

  cons_some : (q : Placed) (x : Records) → cons q x ≡ records [] → ⊥
  unfolding cons
  cons_some q (records m) e = let z : ◌≡◌ {A = ℕ} 0 1 = cc in omega arith
  cons_some q (refused f) e = let z : ◌≡◌ {A = ℕ} 0 1 = cc in omega arith

  came_by : (x : Step) → next_record b maps c ≡ x → (p : Placed) (l : List Placed) → records_from b maps c ≡ records (p ∷ l) → CameTo b maps c p l
  came_by (go r d) h p l e =
      let z = cons_is _ _ p l (sym (on_go b maps c r d h) ∙ e) in
      let v = ap (λ (x : Placed). x.value) z.0 in
      record { next = d; step = h ∙ ap (λ (x : Record). go x d) v; place = sym (ap (λ (x : Placed). x.place) z.0); rest = z.1 }
  came_by end h p l e =
      let n = sym (on_end_lem b maps c h) ∙ e in
      let z : ◌≡◌ {A = ℕ} 0 1 = cc in absurd (omega arith)
  came_by (stop f) h p l e =
      let n = sym (on_refused b maps c f h) ∙ e in
      let z : ◌≡◌ {A = ℕ} 0 1 = cc in absurd (omega arith)

  pub came : (p : Placed) (l : List Placed) → records_from b maps c ≡ records (p ∷ l) → CameTo b maps c p l
  came = came_by (next_record b maps c) refl

  came_end_by : (x : Step) → next_record b maps c ≡ x → records_from b maps c ≡ records [] → next_record b maps c ≡ end
  came_end_by (go r d) h e = absurd (cons_some _ _ (sym (on_go b maps c r d h) ∙ e))
  came_end_by end h e = h
  came_end_by (stop f) h e =
      let n = sym (on_refused b maps c f h) ∙ e in
      let z : ◌≡◌ {A = ℕ} 0 1 = cc in absurd (omega arith)

  pub came_end : records_from b maps c ≡ records [] → next_record b maps c ≡ end
  came_end = came_end_by (next_record b maps c) refl
