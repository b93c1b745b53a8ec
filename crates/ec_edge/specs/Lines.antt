-- Where a text is cut: at a byte, as at the byte 10 that ends a line.
use Rattle.std.specs.Prelude.{ℕ, List, [], ◌∷◌, Option, Some, None, option_map, ◌==◌, if◌then◌else◌}

-- what stands before the first such byte and what stands after it, where there is one
abbrev pub cut_at : ℕ → List ℕ → Option (List ℕ × List ℕ)
cut_at t [] = None
cut_at t (b ∷ bytes) = if b == t then Some ([], bytes) else option_map (λ p. (b ∷ p.0, p.1)) (cut_at t bytes)

-- the first line without its end, and what follows it
abbrev pub cut_line : List ℕ → Option (List ℕ × List ℕ)
cut_line bytes = cut_at 10 bytes
