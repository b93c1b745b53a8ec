-- What is said of each item of a list, by its place.
use Rattle.std.proofs.Common.{◌≡◌, ℕ, zero, suc, ◌+◌, ◌≤◌, List, [], ◌∷◌, get_or, map, All, Contains, Some, slice_get, subst, arith}
use Rattle.std.specs.List.{flat_map}
use Rattle.std.specs.List.Sorted.{IsStrictlyIncreasing}
use Rattle.std.proofs.lemmas.List.Elements.{All-nil, All-cons, All-head, All-tail, All-append, Contains-get_or}
use Rattle.std.proofs.lemmas.Option.{slice_get-get_or, slice_get_within, get_or_from_slice_get}

module _ {A : Type 0} where
  pub all_by_place : (P : A → Type 0) (xs : List A) → ((k : ℕ) (x : A) → slice_get xs k ≡ Some x → P x) → All P xs
  all_by_place P xs h k d l = h k (get_or xs k d) (slice_get-get_or xs k d l)

  pub all_at : (P : A → Type 0) (xs : List A) → All P xs → (k : ℕ) (x : A) → slice_get xs k ≡ Some x → P x
  all_at P xs h k x e = subst P (get_or_from_slice_get xs k x x e) (h k x (slice_get_within xs k x e))

  -- each item is an item
  pub all_contained : (xs : List A) → All (Contains xs) xs
  all_contained xs k d l = Contains-get_or xs k d l

  pub all_joined_each : {B : Type 0} (P : A → Type 0) (f : B → List A) (xs : List B) → All (λ x. All P (f x)) xs → All P (flat_map f xs)
  all_joined_each P f [] h = All-nil P
  all_joined_each P f (x ∷ xs) h = All-append P (f x) (flat_map f xs) (All-head (λ y. All P (f y)) x xs h) (all_joined_each P f xs (All-tail (λ y. All P (f y)) x xs h))

  pub all_of_map : {B : Type 0} (P : A → Type 0) (f : B → A) (xs : List B) → All P (map f xs) → All (λ x. P (f x)) xs
  all_of_map P f [] h = All-nil (λ x. P (f x))
  all_of_map P f (x ∷ xs) h = All-cons (λ y. P (f y)) x xs (All-head P (f x) (map f xs) h) (all_of_map P f xs (All-tail P (f x) (map f xs) h))

-- ---- rising numbers

-- from a number on, each above the one before
abbrev pub Rises : ℕ → List ℕ → Type 0
Rises low [] = Unit {0}
Rises low (x ∷ xs) = (low ≤ x) × Rises (suc x) xs

pub rises_weaker : (low high : ℕ) (xs : List ℕ) → low ≤ high → Rises high xs → Rises low xs
rises_weaker low high [] l h = tt
rises_weaker low high (x ∷ xs) l h = let first = h.0 in (omega (arith, l, first), h.1)

pub increasing : (low : ℕ) (xs : List ℕ) → Rises low xs → IsStrictlyIncreasing xs
increasing low [] h k l = absurd (omega (arith, l))
increasing low (x ∷ []) h k l = absurd (omega (arith, l))
increasing low (x ∷ y ∷ ys) h zero l = let above = h.1.0 in omega (arith, above)
increasing low (x ∷ y ∷ ys) h (suc k) l = let next : suc k + 1 ≡ suc (k + 1) = omega arith in rw next (increasing (suc x) (y ∷ ys) h.1 k (omega (arith, l)))
