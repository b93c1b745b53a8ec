-- The values of an extent one after another: a turn for each number of a range, or for each number below a count, of which some have none.
use Rattle.std.specs.Prelude.{ℕ, ◌≡◌, ◌-◌, ℤ, pos, ◌+ℤ◌, if◌then◌else◌, List, ◌∷◌, map, filter, Option, Some, None}
use Rattle.std.specs.List.{range_with_len}
use Rattle.ec_logic.specs.Extent.{Extent, numbers, members, rank}

-- a value of an extent is one that has a place in its domain
abbrev pub IsValueOf : Extent → ℤ → Type 0
IsValueOf extent v = (k : ℕ) × (rank extent v ≡ Some k)

-- how many turns there are
abbrev pub turns : Extent → ℕ
turns (numbers least size) = size
turns (members count test) = count

-- the value at a turn, if there is one
abbrev pub at_turn : Extent → ℕ → Option ℤ
at_turn (numbers least size) k = Some (least +ℤ pos k)
at_turn (members count test) k = if test k then Some (pos k) else None

-- the values from a turn on
abbrev pub values_from : Extent → ℕ → List ℤ
values_from (numbers least size) k = map (λ i. least +ℤ pos i) (range_with_len k (size - k))
values_from (members count test) k = map pos (filter test (range_with_len k (count - k)))

-- a turn's value before others
abbrev pub before_others : Option ℤ → List ℤ → List ℤ
before_others None vs = vs
before_others (Some v) vs = v ∷ vs
