-- Facts of each item of a list, and of each two.
use Rattle.std.proofs.Common.{◌≢◌, zero, suc, List, [], ◌∷◌, ◌++◌, map, arith}
use Rattle.std.specs.Prelude.{AllPairs}
use Rattle.std.specs.List.{AllByRecursion, flat_map}
use Rattle.std.proofs.lemmas.List.Elements.{All-from_recursion}

-- ---- each item

module _ {A : Type 0} where
  pub each_weaker : (P Q : A → Type 0) → ((x : A) → P x → Q x) → (xs : List A) → AllByRecursion P xs → AllByRecursion Q xs
  each_weaker P Q w [] h = tt
  each_weaker P Q w (x ∷ xs) h = (w x h.0, each_weaker P Q w xs h.1)

  pub each_both : (P Q : A → Type 0) (xs : List A) → AllByRecursion P xs → AllByRecursion Q xs → AllByRecursion (λ x. P x × Q x) xs
  each_both P Q [] h k = tt
  each_both P Q (x ∷ xs) h k = ((h.0, k.0), each_both P Q xs h.1 k.1)

  pub each_append : (P : A → Type 0) (xs ys : List A) → AllByRecursion P xs → AllByRecursion P ys → AllByRecursion P (xs ++ ys)
  each_append P [] ys h k = k
  each_append P (x ∷ xs) ys h k = (h.0, each_append P xs ys h.1 k)

  pub each_left : (P : A → Type 0) (xs ys : List A) → AllByRecursion P (xs ++ ys) → AllByRecursion P xs
  each_left P [] ys h = tt
  each_left P (x ∷ xs) ys h = (h.0, each_left P xs ys h.1)

  pub each_right : (P : A → Type 0) (xs ys : List A) → AllByRecursion P (xs ++ ys) → AllByRecursion P ys
  each_right P [] ys h = h
  each_right P (x ∷ xs) ys h = each_right P xs ys h.1

  module _ {B : Type 0} where
    pub each_map : (P : A → Type 0) (f : B → A) (xs : List B) → AllByRecursion (λ x. P (f x)) xs → AllByRecursion P (map f xs)
    each_map P f [] h = tt
    each_map P f (x ∷ xs) h = (h.0, each_map P f xs h.1)

    pub each_joined : (P : A → Type 0) (f : B → List A) (xs : List B) → AllByRecursion (λ x. AllByRecursion P (f x)) xs → AllByRecursion P (flat_map f xs)
    each_joined P f [] h = tt
    each_joined P f (x ∷ xs) h = each_append P (f x) (flat_map f xs) h.0 (each_joined P f xs h.1)

-- ---- each two, the earlier one first

-- no item stands there again
abbrev pub AreDifferent : {A : Type 0} → List A → Type 0
AreDifferent [] = Unit {0}
AreDifferent (x ∷ xs) = AllByRecursion (λ y. x ≢ y) xs × AreDifferent xs

module _ {A : Type 0} (R : A → A → Type 0) where
  abbrev pub Pairs : List A → Type 0
  Pairs [] = Unit {0}
  Pairs (x ∷ xs) = AllByRecursion (R x) xs × Pairs xs

  -- each of one list with each of another
  abbrev pub Crosses : List A → List A → Type 0
  Crosses xs ys = AllByRecursion (λ x. AllByRecursion (R x) ys) xs

  pub pairs_append : (xs ys : List A) → Pairs xs → Pairs ys → Crosses xs ys → Pairs (xs ++ ys)
  pairs_append [] ys h k c = k
  pairs_append (x ∷ xs) ys h k c = (each_append (R x) xs ys h.0 c.0, pairs_append xs ys h.1 k c.1)

  pub crosses_right : (xs ys zs : List A) → Crosses xs ys → Crosses xs zs → Crosses xs (ys ++ zs)
  crosses_right [] ys zs c d = tt
  crosses_right (x ∷ xs) ys zs c d = (each_append (R x) ys zs c.0 d.0, crosses_right xs ys zs c.1 d.1)

  pub crosses_left : (xs ys zs : List A) → Crosses xs zs → Crosses ys zs → Crosses (xs ++ ys) zs
  crosses_left xs ys zs c d = each_append (λ x. AllByRecursion (R x) zs) xs ys c d

  crosses_none : (xs : List A) → Crosses xs []
  crosses_none [] = tt
  crosses_none (x ∷ xs) = (tt, crosses_none xs)

  module _ {B : Type 0} (Q : B → Type 0) where
    pub pairs_map : (f : B → A) → ((x y : B) → Q x → Q y → x ≢ y → R (f x) (f y)) → (xs : List B) → AllByRecursion Q xs → AreDifferent xs → Pairs (map f xs)
    pairs_map f r [] h k = tt
    pairs_map f r (x ∷ xs) h k = (one xs h.1 k.0, pairs_map f r xs h.1 k.1)
      where
        one : (ys : List B) → AllByRecursion Q ys → AllByRecursion (λ y. x ≢ y) ys → AllByRecursion (R (f x)) (map f ys)
        one [] a b = tt
        one (y ∷ ys) a b = (r x y h.0 a.0 b.0, one ys a.1 b.1)

    pub pairs_joined : (f : B → List A) → ((x : B) → Q x → Pairs (f x)) → ((x y : B) → Q x → Q y → x ≢ y → Crosses (f x) (f y)) → (xs : List B) → AllByRecursion Q xs → AreDifferent xs → Pairs (flat_map f xs)
    pairs_joined f p r [] h k = tt
    pairs_joined f p r (x ∷ xs) h k = pairs_append (f x) (flat_map f xs) (p x h.0) (pairs_joined f p r xs h.1 k.1) (one xs h.1 k.0)
      where
        one : (ys : List B) → AllByRecursion Q ys → AllByRecursion (λ y. x ≢ y) ys → Crosses (f x) (flat_map f ys)
        one [] a b = crosses_none (f x)
        one (y ∷ ys) a b = crosses_right (f x) (f y) (flat_map f ys) (r x y h.0 a.0 b.0) (one ys a.1 b.1)

    pub crosses_map : (C : Type 0) (S : C → Type 0) (f : B → A) (g : C → A) → ((x : B) (y : C) → Q x → S y → R (f x) (g y)) → (xs : List B) (ys : List C) → AllByRecursion Q xs → AllByRecursion S ys → Crosses (map f xs) (map g ys)
    crosses_map C S f g r [] ys h k = tt
    crosses_map C S f g r (x ∷ xs) ys h k = (one ys k, crosses_map C S f g r xs ys h.1 k)
      where
        one : (zs : List C) → AllByRecursion S zs → AllByRecursion (R (f x)) (map g zs)
        one [] a = tt
        one (z ∷ zs) a = (r x z h.0 a.0, one zs a.1)

    pub crosses_joined : (xs : List A) (f : B → List A) (ys : List B) → ((y : B) → Q y → Crosses xs (f y)) → AllByRecursion Q ys → Crosses xs (flat_map f ys)
    crosses_joined xs f [] c h = crosses_none xs
    crosses_joined xs f (y ∷ ys) c h = crosses_right xs (f y) (flat_map f ys) (c y h.0) (crosses_joined xs f ys c h.1)

    pub joined_crosses : (f : B → List A) (xs : List B) (ys : List A) → ((x : B) → Q x → Crosses (f x) ys) → AllByRecursion Q xs → Crosses (flat_map f xs) ys
    joined_crosses f [] ys c h = tt
    joined_crosses f (x ∷ xs) ys c h = crosses_left (f x) (flat_map f xs) ys (c x h.0) (joined_crosses f xs ys c h.1)

pub all_pairs : {A : Type 0} (R : A → A → Type 0) (xs : List A) → Pairs R xs → AllPairs R xs
all_pairs R [] h i j d low high = absurd (omega (arith, high))
all_pairs R (x ∷ xs) h i zero d low high = absurd (omega (arith, low))
all_pairs R (x ∷ xs) h zero (suc j) d low high = All-from_recursion (R x) xs h.0 j d (omega (arith, high))
all_pairs R (x ∷ xs) h (suc i) (suc j) d low high = all_pairs R xs h.1 i j d (omega (arith, low)) (omega (arith, high))
