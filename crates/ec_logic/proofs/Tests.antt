-- What tests on truth values, numbers and tuples say.
use Rattle.std.proofs.Common.{◌≡◌, ℕ, ◌==◌, Bool, true, false, not, ◌&&◌, ◌||◌, List, [], ◌∷◌, ℤ, refl, arith}
use Rattle.std.proofs.lemmas.Bool.Decides.{nat_tests, Decides-int_eq}
use Rattle.std.specs.Ordering.{int_eq}
use Rattle.ec_logic.specs.Value.{same_values}

pub and_parts : (a b : Bool) → (a && b) ≡ true → (a ≡ true) × (b ≡ true)
and_parts true b h = (refl, h)
and_parts false b h = cc

pub not_true : (b : Bool) → not b ≡ true → b ≡ false
not_true true e = cc
not_true false e = refl

pub or_left : (a b : Bool) → a ≡ true → (a || b) ≡ true
or_left a b h = rw h refl

pub or_right : (a b : Bool) → b ≡ true → (a || b) ≡ true
or_right true b h = refl
or_right false b h = h

-- one of two tests passes
pub or_cases : (P : Type 0) (a b : Bool) → (a ≡ true → P) → (b ≡ true → P) → (a || b) ≡ true → P
or_cases P true b f g h = f refl
or_cases P false b f g h = g h

pub test_cases : (P : Type 0) (b : Bool) → (b ≡ true → P) → (b ≡ false → P) → P
test_cases P true f g = f refl
test_cases P false f g = g refl

pub same_number : (p q : ℕ) → (p == q) ≡ true → p ≡ q
same_number p q h = grind (arith, nat_tests)

pub same_itself : (p : ℕ) → (p == p) ≡ true
same_itself p = grind (arith, nat_tests)

pub same_values_same : (vs ws : List ℤ) → same_values vs ws ≡ true → vs ≡ ws
same_values_same [] [] h = refl
same_values_same [] (w ∷ ws) h = cc
same_values_same (v ∷ vs) [] h = cc
same_values_same (v ∷ vs) (w ∷ ws) h =
    let both = and_parts (int_eq v w) (same_values vs ws) h in
    let first : v ≡ w = (Decides-int_eq v w).0 both.0 in
    let rest = same_values_same vs ws both.1 in
    cc

pub same_values_itself : (vs : List ℤ) → same_values vs vs ≡ true
same_values_itself [] = refl
same_values_itself (v ∷ vs) = rw ((Decides-int_eq v v).1 refl, same_values_itself vs) refl
