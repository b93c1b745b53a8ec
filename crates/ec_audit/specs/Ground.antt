-- What a theory is grounded to, and room for its atoms.
use Rattle.std.specs.Prelude.{◌≡◌, ℕ, ◌<◌, ◌↔◌, Bool, List, length, All, IsTrue}
use Rattle.ec_logic.specs.Listing.{IsTruth}
use Rattle.ec_logic.specs.Theory.{Theory}
use Rattle.ec_logic.specs.ValidTheory.{IsValidTheory}
use Rattle.ec_grounding.specs.Grounded.{sentence_trees, definitions, variables}
use Rattle.ec_grounding.specs.WellFormed.{visible_count}
use Rattle.ec_prop.specs.Grounded.{sentences_of, definitions_of}
use Rattle.ec_prop.specs.declared.ground.Grounded.{Grounded}

-- A theory is grounded to these trees, definitions and variables.
pub record IsGroundOf (theory : Theory) (grounded : Grounded) : Type 0 where
  pub sentences : sentences_of grounded ≡ sentence_trees theory
  pub definitions : definitions_of grounded.definitions.items ≡ definitions theory
  pub variables : grounded.variables.items ≡ variables theory

-- Each atom that has a variable is below a number.
abbrev pub HasRoom : ℕ → Grounded → Type 0
HasRoom size grounded = All (λ a. a < size) grounded.variables.items

-- An answer tells exactly whether a truth of the visible atoms is that of a minimal model, for each valid theory that was grounded so.
abbrev pub TellsTruth : Grounded → List Bool → Bool → Type 0
TellsTruth grounded truth answer = (theory : Theory) → IsValidTheory theory → IsGroundOf theory grounded → length truth ≡ visible_count theory → IsTrue answer ↔ IsTruth theory truth
