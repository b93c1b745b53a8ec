-- The measure of a term from those of its parts.
use Rattle.std.proofs.Common.{◌≡◌, ℕ, zero, suc, ◌+◌, ◌*◌, ◌≤◌, ◌^◌, ℤ, pos, negsuc, ◌+ℤ◌, ◌*ℤ◌, neg_ℤ, nat_abs, Bool, true, false, ◌||◌, ◌&&◌, Option, Some, None, option_map, refl, sym, ap, ◌∙◌, subst, arith, w64}
use Rattle.std.specs.Prelude.{IfSome}
use Rattle.std.proofs.Math.Nat.{mul-le-mul}
use Rattle.std.proofs.lemmas.Int.{ints}
use Rattle.std.specs.Int.RustNames.{FitsSigned}
use Rattle.ec_names.specs.Names.{Names}
use Rattle.ec_syntax.specs.Written.{Term, sum, difference, product, negative}
use Rattle.ec_walk.specs.declared.measure.Measure.{Measure}
use Rattle.ec_walk.specs.Kinds.{bound, exceeds, is_over, is_fixed, value}
use Rattle.ec_walk.specs.Measures.{measure_of, unless, value_if, measured, both, less_by, limited, sum_of, difference_of, product_of, joined, IsSmall}

nat_abs-neg : (z : ℤ) → nat_abs (neg_ℤ z) ≡ nat_abs z
nat_abs-neg (pos zero) = refl
nat_abs-neg (pos (suc n)) = refl
nat_abs-neg (negsuc n) = refl

pub nat_abs-mul : (a b : ℤ) → nat_abs (a *ℤ b) ≡ nat_abs a * nat_abs b
nat_abs-mul (pos a) (pos b) = refl
nat_abs-mul (pos a) (negsuc b) = nat_abs-neg (pos (a * suc b))
nat_abs-mul (negsuc a) (pos b) = nat_abs-neg (pos (suc a * b))
nat_abs-mul (negsuc a) (negsuc b) = refl

small_fits : (z : ℤ) → nat_abs z ≤ 2 ^ 62 → FitsSigned w64 z
small_fits z h = grind (arith, ints)

pub product_fits : (a b : ℤ) → nat_abs a * nat_abs b ≤ 2 ^ 62 → FitsSigned w64 (a *ℤ b)
product_fits a b h = small_fits (a *ℤ b) (rw (nat_abs-mul a b) h)

-- the measures of two parts, and of both together
parts : (f : ℕ → ℕ → ℕ) (g : ℤ → ℤ → ℤ) (p q r s : Bool) (m n : ℕ) (v w : ℤ)
    → unless (p || q || is_over (f m n)) (measure_of (f m n) (value_if (r && s) (g v w)))
    ≡ joined (λ a b. limited (measure_of (f a.bound b.bound) (both g a.value b.value))) (unless p (measure_of m (value_if r v))) (unless q (measure_of n (value_if s w)))
parts f g true q r s m n v w = refl
parts f g false true r s m n v w = refl
parts f g false false true true m n v w = refl
parts f g false false true false m n v w = refl
parts f g false false false s m n v w = refl

one_after : (f : Measure → Measure → Option Measure) (a b : Measure) (p q : Option Measure) → Some a ≡ p → Some b ≡ q → f a b ≡ joined f p q
one_after f a b p q e h = rw (← e, ← h) refl

pub sum_measured : (names : Names) (s t : Term) (a b : Measure) → Some a ≡ measured names s → Some b ≡ measured names t → sum_of a b ≡ measured names (sum s t)
sum_measured names s t a b e h =
    one_after sum_of a b _ _ e h ∙ sym (parts ◌+◌ ◌+ℤ◌ (exceeds names s) (exceeds names t) (is_fixed s) (is_fixed t) (bound names s) (bound names t) (value s) (value t))

pub difference_measured : (names : Names) (s t : Term) (a b : Measure) → Some a ≡ measured names s → Some b ≡ measured names t → difference_of a b ≡ measured names (difference s t)
difference_measured names s t a b e h =
    one_after difference_of a b _ _ e h ∙ sym (parts ◌+◌ less_by (exceeds names s) (exceeds names t) (is_fixed s) (is_fixed t) (bound names s) (bound names t) (value s) (value t))

pub product_measured : (names : Names) (s t : Term) (a b : Measure) → Some a ≡ measured names s → Some b ≡ measured names t → product_of a b ≡ measured names (product s t)
product_measured names s t a b e h =
    one_after product_of a b _ _ e h ∙ sym (parts ◌*◌ ◌*ℤ◌ (exceeds names s) (exceeds names t) (is_fixed s) (is_fixed t) (bound names s) (bound names t) (value s) (value t))

one_part : (p r : Bool) (m : ℕ) (v : ℤ) (a : Measure) → Some a ≡ unless p (measure_of m (value_if r v))
    → Some (measure_of a.bound (option_map (less_by (pos 0)) a.value)) ≡ unless p (measure_of m (value_if r (pos 0 +ℤ neg_ℤ v)))
one_part true r m v a e = cc
one_part false true m v a e = let h : a ≡ measure_of m (Some v) = cc in ap (λ (x : Measure). Some (measure_of x.bound (option_map (less_by (pos 0)) x.value))) h
one_part false false m v a e = let h : a ≡ measure_of m None = cc in ap (λ (x : Measure). Some (measure_of x.bound (option_map (less_by (pos 0)) x.value))) h

pub negative_measured : (names : Names) (s : Term) (a : Measure) → Some a ≡ measured names s → Some (measure_of a.bound (option_map (less_by (pos 0)) a.value)) ≡ measured names (negative s)
negative_measured names s a e = one_part (exceeds names s) (is_fixed s) (bound names s) (value s) a e

-- a product within the limit
pub times_small : (a b : Measure) (l r : ℤ) (n : ℕ) (v : ℤ) → a.value ≡ Some l → b.value ≡ Some r → IsSmall a → IsSmall b → n ≡ a.bound * b.bound → n ≤ 2 ^ 62 → v ≡ l *ℤ r → IsSmall (measure_of n (Some v))
times_small a b l r n v left right small_a small_b e few multiplied =
    let x : nat_abs l ≤ a.bound = subst (λ o. IfSome o (λ z. nat_abs z ≤ a.bound)) left small_a.value in
    let y : nat_abs r ≤ b.bound = subst (λ o. IfSome o (λ z. nat_abs z ≤ b.bound)) right small_b.value in
    let m : nat_abs l * nat_abs r ≤ a.bound * b.bound = mul-le-mul x y in
    let k : nat_abs v ≡ nat_abs l * nat_abs r = ap nat_abs multiplied ∙ nat_abs-mul l r in
    record { within = few; value = omega arith }
