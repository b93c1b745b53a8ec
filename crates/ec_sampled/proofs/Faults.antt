-- No declaration and no sentence of a sample's book has a fault: each of the forty books is gone through.
use Rattle.std.proofs.Common.{◌≡◌, ◌≤◌, ℕ, Bool, true, not, is_some, Option, Some, None, true≢false, refl, sym, arith}
use Rattle.std.specs.List.{list_all, range_with_len}
use Rattle.ec_sort.specs.Answers.{book_refusal}
use Rattle.ec_sampled.specs.Book.{sample_book}
use Rattle.ec_sampled.proofs.Passing.{passes}

abbrev is_faultless : ℕ → Bool
is_faultless n = not (is_some (book_refusal (sample_book n)))

all_faultless : list_all is_faultless (range_with_len 1 40) ≡ true
all_faultless = refl

none_there : {X : Type 0} (o : Option X) → not (is_some o) ≡ true → o ≡ None
none_there None h = refl
none_there (Some x) h = absurd (true≢false (sym h))

pub sample_faultless : (n : ℕ) → 1 ≤ n → n ≤ 40 → book_refusal (sample_book n) ≡ None
sample_faultless n low high = none_there (book_refusal (sample_book n)) (passes is_faultless 1 40 n all_faultless low (omega (arith, high)))
