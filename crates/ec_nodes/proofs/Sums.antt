-- Sums over lists.
use Rattle.std.proofs.Common.{◌≡◌, ℕ, ◌+◌, ◌*◌, ◌≤◌, Bool, true, false, List, [], ◌∷◌, ◌++◌, length, filter, refl, arith, if◌then◌else◌}

abbrev pub sum_over : {A : Type 0} → (A → ℕ) → List A → ℕ
sum_over f [] = 0
sum_over f (x ∷ xs) = f x + sum_over f xs

abbrev pub one : Bool → ℕ
one true = 1
one false = 0

pub sum_over-append : {A : Type 0} (f : A → ℕ) (xs ys : List A) → sum_over f (xs ++ ys) ≡ sum_over f xs + sum_over f ys
sum_over-append f [] ys = omega arith
sum_over-append f (x ∷ xs) ys = let h = sum_over-append f xs ys in omega (arith, h)

pub sum_over_none : {A : Type 0} (xs : List A) → sum_over (λ x. 0) xs ≡ 0
sum_over_none [] = refl
sum_over_none (x ∷ xs) = let h = sum_over_none xs in omega (arith, h)

pub sum_over-plus : {A : Type 0} (f g : A → ℕ) (xs : List A) → sum_over (λ x. f x + g x) xs ≡ sum_over f xs + sum_over g xs
sum_over-plus f g [] = refl
sum_over-plus f g (x ∷ xs) = let h = sum_over-plus f g xs in omega (arith, h)

pub sum_over_times : {A : Type 0} (f : A → ℕ) (c : ℕ) (xs : List A) → sum_over (λ x. f x * c) xs ≡ sum_over f xs * c
sum_over_times f c [] = omega arith
sum_over_times f c (x ∷ xs) = let h = sum_over_times f c xs in let more : (f x + sum_over f xs) * c ≡ f x * c + sum_over f xs * c = omega arith in omega (arith, h, more)

pub sum_over_swap : {A B : Type 0} (f : A → B → ℕ) (xs : List A) (ys : List B) → sum_over (λ x. sum_over (f x) ys) xs ≡ sum_over (λ y. sum_over (λ x. f x y) xs) ys
sum_over_swap f [] ys = let h = sum_over_none ys in omega (arith, h)
sum_over_swap f (x ∷ xs) ys = let h = sum_over_swap f xs ys in let split = sum_over-plus (f x) (λ y. sum_over (λ z. f z y) xs) ys in omega (arith, h, split)

pub sum_over_less : {A : Type 0} (f g : A → ℕ) → ((x : A) → f x ≤ g x) → (xs : List A) → sum_over f xs ≤ sum_over g xs
sum_over_less f g h [] = omega arith
sum_over_less f g h (x ∷ xs) = let first = h x in let rest = sum_over_less f g h xs in omega (arith, first, rest)

filtered_length : {A : Type 0} (test : A → Bool) (x : A) (xs : List A) → length (filter test (x ∷ xs)) ≡ one (test x) + length (filter test xs)
filtered_length test x xs = by_test (test x)
  where
    by_test : (b : Bool) → length (if b then x ∷ filter test xs else filter test xs) ≡ one b + length (filter test xs)
    by_test true = omega arith
    by_test false = omega arith

-- where each item passes at most one of some tests, so many pass in all
pub passed_once : {A B : Type 0} (test : A → B → Bool) (tests : List A) → ((x : B) → sum_over (λ t. one (test t x)) tests ≤ 1) → (xs : List B) → sum_over (λ t. length (filter (test t) xs)) tests ≤ length xs
passed_once test tests h [] = let none = sum_over_none tests in omega (arith, none)
passed_once test tests h (x ∷ xs) =
    let split = sum_over-plus (λ t. one (test t x)) (λ t. length (filter (test t) xs)) tests in
    let each = sum_over_less (λ t. length (filter (test t) (x ∷ xs))) (λ t. one (test t x) + length (filter (test t) xs)) (λ t. let e = filtered_length (test t) x xs in omega (arith, e)) tests in
    let first = h x in
    let rest = passed_once test tests h xs in
    omega (arith, split, each, first, rest)
