-- The digits of a truth's line, place by place.
use Rattle.std.specs.Prelude.{ℕ, ◌+◌, Bool, false, List, slice_index_or}
use Rattle.ec_log.specs.Digits.{digit_of}

-- the digit of the four truth values from a place on, those behind the last being false
abbrev pub digit_from : List Bool → ℕ → ℕ
digit_from bits place = digit_of (slice_index_or bits place false) (slice_index_or bits (place + 1) false) (slice_index_or bits (place + 2) false) (slice_index_or bits (place + 3) false)
