-- The text of one truth.
use Rattle.std.specs.Prelude.{ℕ, Bool, List}
use Rattle.ec_logic.specs.Atom.{structure_of}
use Rattle.ec_logic.specs.Narrative.{narrative}
use Rattle.ec_logic.specs.Signature.{Signature}
use Rattle.ec_logic.specs.Universe.{universe_of}

-- the narrative of a truth of the visible atoms under a number
abbrev pub narrative_of : Signature → ℕ → List Bool → List ℕ
narrative_of signature number truths = narrative signature (structure_of (universe_of signature) truths) number
