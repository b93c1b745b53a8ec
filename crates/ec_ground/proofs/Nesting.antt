-- How deep the binders of the axioms nest.
use Rattle.std.proofs.Common.{◌≡◌, ◌≤◌, ◌+◌, ℕ, suc, Bool, true, false, List, [], ◌∷◌, ◌++◌, length, Some, slice_get, refl, arith}
use Rattle.ec_logic.specs.Tree.{Formula}
use Rattle.ec_logic.specs.TreeList.{formulas_of}
use Rattle.ec_logic.specs.Signature.{Signature, SymbolRow}
use Rattle.ec_logic.specs.Axiom.{for_each, dec_axioms, release_axiom, release_axioms_from, release_axioms}
use Rattle.ec_logic.specs.Reach.{nesting, nesting_of}
use Rattle.ec_logic.specs.ValidTheory.{binder_limit}

-- DEC5 to DEC12 nest no deeper than a sentence of a file
pub dec_nested : nesting_of (formulas_of dec_axioms) ≤ binder_limit
dec_nested = omega arith

nested-for_each : (ss : List ℕ) (f : Formula) → nesting (for_each ss f) ≡ length ss + nesting f
nested-for_each [] f = omega arith
nested-for_each (s ∷ ss) f = omega (arith, nested-for_each ss f)

-- room for a binder for each argument of a fluent and one for time
abbrev HasRoom : ℕ → SymbolRow → Type 0
HasRoom room row = length row.sorts + 1 ≤ room

one_nested : (signature : Signature) (number room : ℕ) (row : SymbolRow) (rest : List Formula) (noninertial manual : Bool) → HasRoom room row → nesting_of (formulas_of rest) ≤ room
    → nesting_of (formulas_of (release_axiom signature number row noninertial manual ++ rest)) ≤ room
one_nested signature number room row rest true manual l h = omega (arith, l, h, nested-for_each row.sorts)
one_nested signature number room row rest false true l h = h
one_nested signature number room row rest false false l h = omega (arith, l, h, nested-for_each row.sorts)

all_nested : (signature : Signature) (number room : ℕ) (rows : List SymbolRow) → ((k : ℕ) (row : SymbolRow) → slice_get rows k ≡ Some row → HasRoom room row) → nesting_of (formulas_of (release_axioms_from signature number rows)) ≤ room
all_nested signature number room [] each = omega arith
all_nested signature number room (row ∷ rows) each =
    one_nested signature number room row (release_axioms_from signature (suc number) rows) row.noninertial signature.manual_release (each 0 row refl)
    (all_nested signature (suc number) room rows (λ k r found. each (suc k) r found))

-- room for the axiom of each fluent is room for all
pub release_nested : (signature : Signature) (room : ℕ) → ((k : ℕ) (row : SymbolRow) → slice_get signature.fluents k ≡ Some row → length row.sorts + 1 ≤ room) → nesting_of (formulas_of (release_axioms signature)) ≤ room
release_nested signature room each = all_nested signature 0 room signature.fluents each
