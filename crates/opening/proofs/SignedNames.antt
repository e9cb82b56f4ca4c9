-- Signatures of names: a name whose signature is none of the others' is none of them.
use mathlib.Core.Path.{◌≡◌, refl, sym, ap, ◌∙◌}
use mathlib.Core.Bool.{Bool, true, false, ◌||◌}
use mathlib.Core.List.{List, [], ◌∷◌, ◌++◌}
use Prim.Native.Nat.{ℕ, suc, ◌+◌, ◌<◌}
use native.Mathlib.Numerals.{add-one}
use native.Mathlib.Omega.{arith}
use borrow.Author.Tests.{eq-eqb}
use lib.Dec.{eqb}
use lib.ListN.{length, take, length-set}
use lib.Seq.{take-suc-set}
use Rattle.std.proofs.lemmas.List.{map-append}
use Rattle.std.proofs.lemmas.Slice.Eq.{bytes_eq-Decides}
use Rattle.wire.specs.Pick.{pick}
use Rattle.opening.specs.Names.{same_name, among, part, names_at}
use Rattle.opening.specs.Places.{map_at}
use Rattle.opening.specs.Inner.{taken_from, one_more, signature_of, signatures_of, contains, Signed, signed_with}
use Rattle.opening.specs.declared.MapAt.{MapAt}
use Rattle.opening.proofs.Choice.{pick_ind}
use Rattle.opening.proofs.MapLaws.{Reached, taken_is, read_next}
use Rattle.record.specs.declared.Fault.{Fault}
use Rattle.std.specs.Prelude.{Err, Ok, Result}

-- ---- the signature of a name that is taken is there

not_among : (name : List ℕ) (ns : List (List ℕ)) → contains (signatures_of ns) (signature_of name) ≡ false → among name ns ≡ false
unfolding among
not_among name [] e = refl
not_among name (n ∷ ns) e =
    pick_ind (λ (t : Bool). t ≡ false) (same_name name n) _ _
    (λ s. let q = eq-eqb (signature_of n) (signature_of name) (ap signature_of (sym ((bytes_eq-Decides name n).0 s))) in rw q at e)
    (λ s. not_among name ns (none (eqb (signature_of n) (signature_of name)) _ e))
  where
    none : (t x : Bool) → (t || x) ≡ false → x ≡ false
    none t x e = grind arith

pub reached : {b : List ℕ} {first k at : ℕ} {table : List ℕ} → Signed b first k at table → Reached b first k at
reached s = record { names = s.names; read = s.read }

-- names need comparing only where a signature is equal
pub by_signature : {b : List ℕ} {first k at : ℕ} {table : List ℕ} (s : Signed b first k at table) (name : List ℕ) (signature : ℕ) (again answer : Bool) → signature ≡ signature_of name → again ≡ pick (contains (take k table) signature) (taken_from b name first k) false → again ≡ answer → taken_from b name first k ≡ answer
unfolding reached
by_signature {b} {first} {k} {at} {table} s name signature again answer is e a = sym (e ∙ go (contains (take k table) signature) refl) ∙ a
  where
    go : (t : Bool) → contains (take k table) signature ≡ t → pick t (taken_from b name first k) false ≡ taken_from b name first k
    go true e = refl
    go false e = sym (taken_is b first k at (reached s) name ∙ not_among name s.names (rw (s.signed, is) at e))

-- ---- one map more

pub signed_none : (b : List ℕ) (first : ℕ) (table : List ℕ) → Signed b first 0 first table
unfolding names_at
signed_none b first table = record { names = []; read = refl; signed = refl }

module _ (b : List ℕ) (k at : ℕ) (table after : List ℕ) (is : after ≡ signed_with b table k (map_at b at)) where
  signed_by : (m : Result MapAt Fault) → length (signed_with b table k m) ≡ length table
  unfolding signed_with
  signed_by (Ok map) = length-set table k _
  signed_by (Err f) = refl

  -- the table keeps its length
  pub signed_length : {n : ℕ} → length table ≡ n → length after ≡ n
  signed_length e = ap length is ∙ signed_by (map_at b at) ∙ e

  pub signed_more : (first : ℕ) → Signed b first k at table → k < length table → (answer : Result ℕ Fault) (next : ℕ) → answer ≡ one_more b first k at (map_at b at) → answer ≡ Ok next → Signed b first (k + 1) next after
  unfolding signed_with reached
  signed_more first s h answer next a e =
      let r = read_next b first k at (reached s) next (sym a ∙ e) in
      let name = part r.start r.len b in
      record {
        names = s.names ++ (name ∷ []);
        read = r.read;
        signed = rw (is, add-one k) (ap (λ (m : Result MapAt Fault). take (suc k) (signed_with b table k m)) r.map ∙ take-suc-set table k (signature_of name) h ∙ ap (λ (l : List ℕ). l ++ (signature_of name ∷ [])) s.signed ∙ sym (map-append signature_of s.names (name ∷ [])));
      }
