-- The table of the sorts' sizes that a signature keeps.
use Rattle.std.specs.Prelude.{ℕ, ◌≡◌, ◌+◌, ◌*◌, ◌^◌, min, List, [], ◌∷◌, map, length, slice_get, unwrap_or}
use Rattle.std.specs.List.{range_with_len}
use Rattle.ec_logic.specs.Signature.{Signature, SymbolRow}
use Rattle.ec_logic.specs.Extent.{size_of}
use Rattle.ec_logic.specs.Universe.{extent_of, ground_terms, argument_sorts}
use Rattle.ec_logic.specs.Valid.{IsSignature}

-- a number, or 2^62 where it is greater
abbrev pub stopped : ℕ → ℕ
stopped n = min n (2 ^ 62)

-- the sizes of all sorts, where there are so many ground events and fluents
abbrev pub sizes_with : Signature → ℕ → ℕ → List ℕ
sizes_with signature events fluents = map (λ s. stopped (size_of (extent_of signature events fluents s))) (range_with_len 0 (length signature.sorts))

-- the product of the sizes of these sorts
abbrev pub product_of_sizes : List ℕ → List ℕ → ℕ
product_of_sizes sizes [] = 1
product_of_sizes sizes (s ∷ ss) = unwrap_or (slice_get sizes s) 0 * product_of_sizes sizes ss

-- the sum of the products of the sizes of these symbols' sorts
abbrev pub sum_of_products : List ℕ → List SymbolRow → ℕ
sum_of_products sizes [] = 0
sum_of_products sizes (row ∷ rows) = product_of_sizes sizes row.sorts + sum_of_products sizes rows

-- A signature that a file can declare, beside the sizes of its sorts.
pub record IsSized (signature : Signature) (sizes : List ℕ) : Type 0 where
  pub valid : IsSignature signature
  pub sizes_are : sizes ≡ sizes_with signature (ground_terms signature (argument_sorts signature.events)) (ground_terms signature (argument_sorts signature.fluents))
