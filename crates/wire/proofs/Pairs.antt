-- Two answers that are the same pair have the same parts.
use Rattle.std.specs.Prelude.{◌≡◌, Result, Ok, Err}
use Rattle.std.proofs.Common.{refl}
use Rattle.std.proofs.lemmas.Result.{MatchResult-at_ok, MatchResult-at_err}

pub ok_parts : {A B E : Type 0} {a c : A} {b d : B} → ◌≡◌ {A = Result (A × B) E} (Ok (a, b)) (Ok (c, d)) → (a ≡ c) × (b ≡ d)
ok_parts {A} {B} {E} {a} {c} {b} {d} e = MatchResult-at_ok (λ (p : A × B). (a ≡ p.0) × (b ≡ p.1)) (λ (f : E). a ≡ a) (c, d) e (refl, refl)

pub err_parts : {A B T : Type 0} {a c : A} {b d : B} → ◌≡◌ {A = Result T (A × B)} (Err (a, b)) (Err (c, d)) → (a ≡ c) × (b ≡ d)
err_parts {A} {B} {T} {a} {c} {b} {d} e = MatchResult-at_err (λ (x : T). a ≡ a) (λ (p : A × B). (a ≡ p.0) × (b ≡ p.1)) (c, d) e (refl, refl)
