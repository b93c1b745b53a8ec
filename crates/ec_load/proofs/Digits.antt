-- Two digits are text.
use Rattle.std.proofs.Common.{ℕ, zero, suc, ◌<◌, [], ◌∷◌, arith}
use Rattle.std.specs.Str.{IsAscii, IsUtf8}
use Rattle.std.proofs.lemmas.Str.{IsUtf8-from_ascii}

two_ascii : (a b : ℕ) → a < 128 → b < 128 → IsAscii (a ∷ b ∷ [])
two_ascii a b l m zero = l
two_ascii a b l m (suc zero) = m
two_ascii a b l m (suc (suc i)) = omega arith

pub two_utf8 : (a b : ℕ) → a < 128 → b < 128 → IsUtf8 (a ∷ b ∷ [])
two_utf8 a b l m = IsUtf8-from_ascii (a ∷ b ∷ []) (two_ascii a b l m)
