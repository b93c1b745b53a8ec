-- The book of a root file that holds the sample's text.
use Rattle.std.proofs.Common.{◌≡◌, ℕ, ◌≤◌, List, [], ◌∷◌, map, Option, Some, None, Ok, refl, subst, sym, arith}
use Rattle.ec_syntax.specs.Written.{Statement}
use Rattle.ec_load.specs.Refusals.{in_file}
use Rattle.ec_load.specs.Opening.{Opens, read, statements}
use Rattle.ec_load.specs.Book.{load_of, placed_at, ComeTo, none, own, IsBook, opened}
use Rattle.ec_sample.specs.Text.{sample_text}
use Rattle.ec_sampled.specs.Tokens.{sample_tokens}
use Rattle.ec_sampled.specs.Book.{sample_statements, sample_file, sample_book}
use Rattle.ec_sampled.proofs.Lexed.{sample_lexes}
use Rattle.ec_sampled.proofs.Parsed.{sample_spells}
use Rattle.ec_sampled.proofs.Short.{sample_short}

-- none of the statements is a load
abbrev AreOwn : List Statement → Type 0
AreOwn [] = Unit {0}
AreOwn (s ∷ ss) = (load_of s.content ≡ None) × AreOwn ss

-- such statements come to themselves
come : (held : List ℕ → Option (List ℕ)) (files : List (List ℕ)) (at : ℕ) (file : List ℕ) (ss : List Statement) → AreOwn ss
    → ComeTo held files at file ss (Ok (record { files = files; statements = map (placed_at at) ss }))
come held files at file [] h = none
come held files at file (s ∷ ss) h = own h.0 (come held files at file ss h.1)

own_statements : (n : ℕ) → AreOwn (sample_statements n)
own_statements n = (refl, (refl, (refl, (refl, (refl, (refl, (refl, (refl, (refl, (refl, (refl, tt)))))))))))

opens : (held : List ℕ → Option (List ℕ)) (n : ℕ) → 1 ≤ n → n ≤ 40 → held sample_file ≡ Some (sample_text n) → Opens (in_file sample_file 0) sample_file (held sample_file) (Ok (sample_statements n))
opens held n some few is =
    subst (λ o. Opens (in_file sample_file 0) sample_file o (Ok (sample_statements n))) (sym is)
    (read (sample_short n some few) (statements (sample_tokens n) (sample_lexes n some few) (sample_spells n (omega (arith, few)))))

-- Where the root file holds the text, its book is the sample's.
pub sample_is_book : (held : List ℕ → Option (List ℕ)) (n : ℕ) → 1 ≤ n → n ≤ 40 → held sample_file ≡ Some (sample_text n) → IsBook held sample_file (Ok (sample_book n))
sample_is_book held n some few is =
    opened (sample_statements n) (omega arith) (opens held n some few is) (come held (sample_file ∷ []) 0 sample_file (sample_statements n) (own_statements n))
