-- The text of the sample has its tokens.
use Rattle.std.proofs.Common.{◌≡◌, ℕ, ◌≤◌, Some, Ok, refl}
use Rattle.std.specs.Fmt.{digits}
use Rattle.ec_lex.specs.Lex.{Lexes}
use Rattle.ec_sample.specs.Text.{sample_text}
use Rattle.ec_sampled.specs.Tokens.{sample_tokens}
use Rattle.ec_sampled.proofs.Cutting.{cut, tokens_in, cut_is}
use Rattle.ec_sampled.proofs.Each.{UpTo, each}

abbrev IsCut : ℕ → Type 0
IsCut n = tokens_in (cut 400 1 (sample_text n)) ≡ Some (sample_tokens n)

-- by computing
all_cut : UpTo IsCut 40
unfolding digits
all_cut =
    ((((((((((((((((((((((((((((((((((((((((tt, refl), refl), refl), refl), refl), refl), refl), refl), refl), refl), refl), refl), refl), refl), refl), refl), refl), refl), refl), refl), refl), refl), refl), refl), refl), refl), refl), refl), refl), refl), refl), refl), refl), refl), refl), refl), refl), refl), refl), refl)

pub sample_lexes : (n : ℕ) → 1 ≤ n → n ≤ 40 → Lexes 1 (sample_text n) (Ok (sample_tokens n))
sample_lexes n some few = cut_is 1 (sample_text n) (cut 400 1 (sample_text n)) (sample_tokens n) (each IsCut 40 n all_cut some few)
