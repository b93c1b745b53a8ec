-- The values of a sort, as whole numbers.
use Rattle.std.specs.Prelude.{ℕ, zero, suc, nat_lt, ℤ, pos, negsuc, ◌+ℤ◌, neg_ℤ, Bool, true, ◌&&◌, if◌then◌else◌, List, map, filter, Option, Some, None, int_le, int_lt}
use Rattle.std.specs.List.{range_with_len}

-- A sort of whole numbers has so many from its least on. Any other sort has those of the numbers below a count that pass a test.
pub data Extent : Type 0 where
  numbers : ℤ → ℕ → Extent
  members : ℕ → (ℕ → Bool) → Extent

-- an extent's values, in order
abbrev pub domain_of : Extent → List ℤ
domain_of (numbers least size) = map (λ k. least +ℤ pos k) (range_with_len 0 size)
domain_of (members count test) = map pos (filter test (range_with_len 0 count))

-- whether a number is in range, where the sort has a range
abbrev pub in_range : Extent → ℤ → Bool
in_range (numbers least size) v = int_le least v && int_lt v (least +ℤ pos size)
in_range (members count test) v = true

-- how many of the numbers from one on pass a test
abbrev pub passing : (ℕ → Bool) → ℕ → ℕ → ℕ
passing test from zero = 0
passing test from (suc count) = if test from then suc (passing test (suc from) count) else passing test (suc from) count

-- the number at a place among those that pass
abbrev pub passing_at : (ℕ → Bool) → ℕ → ℕ → ℕ → ℕ
passing_at test from zero k = 0
passing_at test from (suc count) zero = if test from then from else passing_at test (suc from) count zero
passing_at test from (suc count) (suc k) = if test from then passing_at test (suc from) count k else passing_at test (suc from) count (suc k)

-- how many values an extent has
abbrev pub size_of : Extent → ℕ
size_of (numbers least size) = size
size_of (members count test) = passing test 0 count

-- the value at a place of the domain
abbrev pub value_at : Extent → ℕ → ℤ
value_at (numbers least size) k = least +ℤ pos k
value_at (members count test) k = pos (passing_at test 0 count k)

abbrev pub natural : ℤ → Option ℕ
natural (pos n) = Some n
natural (negsuc n) = None

-- the place of a value in the domain, if it has one
abbrev pub rank : Extent → ℤ → Option ℕ
rank (numbers least size) v = if int_le least v && int_lt v (least +ℤ pos size) then natural (v +ℤ neg_ℤ least) else None
rank (members count test) (pos n) = if nat_lt n count && test n then Some (passing test 0 n) else None
rank (members count test) (negsuc n) = None
