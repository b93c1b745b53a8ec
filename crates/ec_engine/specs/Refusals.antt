-- The line of a refusal.
use Rattle.std.specs.Prelude.{ℕ, ◌+◌, ◌/◌, ◌%◌, codes, decimal, List, [], ◌∷◌, ◌++◌}
use Rattle.ec_logic.specs.Narrative.{line}
use Rattle.ec_syntax.specs.declared.book.Refusal.{Refusal}

abbrev pub two_digits : ℕ → List ℕ
two_digits n = (48 + n / 10) ∷ (48 + n % 10) ∷ []

abbrev pub refusal_line : Refusal → List ℕ
refusal_line r = line (codes "refused E" ++ two_digits r.code ++ codes " " ++ r.file ++ codes ":" ++ decimal r.line ++ codes ": " ++ r.name)
