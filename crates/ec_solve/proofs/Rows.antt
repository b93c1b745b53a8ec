-- A row that is filled place by place.
use Rattle.std.proofs.Common.{◌≡◌, ℕ, ◌+◌, ◌<◌, Bool, false, List, length, get_or, map, refl, sym, ◌∙◌, arith}
use Rattle.std.proofs.lemmas.List.{ext_get_or}
use Rattle.std.proofs.lemmas.List.FromFn.{get_or-map-range_with_len, length-map-range_with_len}
use Rattle.std.specs.List.{range_with_len}

-- a row of this length whose first places have the values from 1 on
abbrev pub IsFilled : (ℕ → Bool) → ℕ → ℕ → List Bool → Type 0
IsFilled f n filled row = (length row ≡ n) × ((k : ℕ) → k < filled → get_or row k false ≡ f (1 + k))

pub filled_all : (f : ℕ → Bool) (n : ℕ) (row : List Bool) → IsFilled f n n row → row ≡ map f (range_with_len 1 n)
filled_all f n row h =
    ext_get_or false row (map f (range_with_len 1 n)) (h.0 ∙ sym (length-map-range_with_len f 1 n)) (λ i lt. (
    let within : i < n = omega (arith, lt, h.0) in
    h.1 i within ∙ sym (get_or-map-range_with_len f 1 n i (1 + i) false within refl)))
