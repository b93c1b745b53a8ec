-- What a sink gained in a call, where it tells its bytes: what it had before the call, and what it has after it.
use Rattle.std.specs.Prelude.{ℕ, ◌≡◌, Bool, List, ◌++◌, IsTrue}
use Rattle.ec_edge.specs.Pieces.{AppendsPrefix}

-- the text was put
abbrev pub Sent : Bool → List ℕ → List ℕ → List ℕ → Type 0
Sent told text before after = IsTrue told → after ≡ before ++ text

-- a prefix of the text was put
abbrev pub SentPart : Bool → List ℕ → List ℕ → List ℕ → Type 0
SentPart told text before after = IsTrue told → AppendsPrefix text before after

-- nothing was put
abbrev pub SentNothing : Bool → List ℕ → List ℕ → Type 0
SentNothing told before after = IsTrue told → after ≡ before
