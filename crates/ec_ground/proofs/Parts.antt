-- Lists in parts: the first item and the rest, and three lists that follow one another.
use Rattle.std.proofs.Common.{◌≡◌, ◌∙◌, ◌-◌, suc, List, [], ◌∷◌, ◌++◌, length, map, take, drop, refl, ap, arith}
use Rattle.std.specs.List.{AllPairs}
use Rattle.std.proofs.Math.Seq.{take-length}
use Rattle.std.proofs.lemmas.List.{map-append}

module _ {X Y : Type 0} (view : X → Y) where
  pub first_viewed : (xs : List X) → map view (take 1 xs) ≡ take 1 (map view xs)
  first_viewed [] = refl
  first_viewed (x ∷ xs) = refl

  pub rest_viewed : (xs : List X) → map view (take (length xs - 1) (drop 1 xs)) ≡ drop 1 (map view xs)
  rest_viewed [] = refl
  rest_viewed (x ∷ xs) =
      let count : length (x ∷ xs) - 1 ≡ length xs = omega arith in
      ap (λ n. map view (take n xs)) count ∙ ap (map view) (take-length xs)

  -- the views of three lists, each behind the one before
  pub three_viewed : (none one two three : List Y) (xs ys zs : List X) → none ≡ [] → one ≡ none ++ map view xs → two ≡ one ++ map view ys → three ≡ two ++ map view zs → three ≡ map view (xs ++ ys ++ zs)
  three_viewed none one two three xs ys zs start first second third =
      let front : two ≡ map view (xs ++ ys) =
      second ∙ (ap (λ (ts : List Y). ts ++ map view ys) (first ∙ ap (λ (ts : List Y). ts ++ map view xs) start) ∙ sym_append xs ys) in
      third ∙ (ap (λ (ts : List Y). ts ++ map view zs) front ∙ sym_append (xs ++ ys) zs)
    where
      sym_append : (us ws : List X) → map view us ++ map view ws ≡ map view (us ++ ws)
      sym_append us ws = rw (map-append view us ws) refl

pub pairs_of_rest : {X : Type 0} (R : X → X → Type 0) (xs : List X) → AllPairs R xs → AllPairs R (drop 1 xs)
pairs_of_rest R [] h i j d l below = h i j d l below
pairs_of_rest R (x ∷ xs) h i j d l below = h (suc i) (suc j) d (omega (arith, l)) (omega (arith, below))

pub pairs_of_first : {X : Type 0} (R : X → X → Type 0) (xs : List X) → AllPairs R (take 1 xs)
pairs_of_first R [] i j d l below = absurd (omega (arith, l, below))
pairs_of_first R (x ∷ xs) i j d l below = absurd (omega (arith, l, below))
