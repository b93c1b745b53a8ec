-- The places of ground events and fluents, worked out by hand.
use Rattle.std.proofs.Common.{◌≡◌, ℕ, false, codes, List, [], ◌∷◌, map, option_map, slice_get, unwrap_or, refl}
use Rattle.std.specs.List.{range_with_len}
use Rattle.ec_logic.specs.Signature.{SymbolRow, event_sort, fluent_sort}
use Rattle.ec_logic.specs.Extent.{size_of}
use Rattle.ec_logic.specs.Universe.{Universe, universe_of, extent_at, place_of}
use Rattle.ec_atom.specs.Blocks.{Application, application_at}
use Rattle.theory_tables.specs.Samples.{small}
use Rattle.atom_tables.specs.Line.{line, found_place}

abbrev over : Universe
over = universe_of (small false)

abbrev name_in : List SymbolRow → ℕ → List ℕ
name_in rows symbol = unwrap_or (option_map (λ (row : SymbolRow). row.name) (slice_get rows symbol)) []

-- a term with the place that it has
abbrev term_line : List SymbolRow → List (List ℕ) → Application → List ℕ
term_line rows sorts term = line (found_place (place_of over sorts term.symbol term.args)) (name_in rows term.symbol) term.args

-- the terms at all places
abbrev all_lines : List SymbolRow → List (List ℕ) → ℕ → List (List ℕ)
all_lines rows sorts sort = map (λ k. term_line rows sorts (application_at over sorts k)) (range_with_len 0 (size_of (extent_at over sort)))

-- three agents; then one child, the constant with the number 1, with each level
events : all_lines (small false).events over.events event_sort
    ≡ codes "0 Wake(0)"
    ∷ codes "1 Wake(1)"
    ∷ codes "2 Wake(2)"
    ∷ codes "3 Set(1, -1)"
    ∷ codes "4 Set(1, 0)"
    ∷ codes "5 Set(1, 1)"
    ∷ codes "6 Set(1, 2)"
    ∷ []
events = refl

-- the same, then a fluent without an argument
fluents : all_lines (small false).fluents over.fluents fluent_sort
    ≡ codes "0 Awake(0)"
    ∷ codes "1 Awake(1)"
    ∷ codes "2 Awake(2)"
    ∷ codes "3 Heard(1, -1)"
    ∷ codes "4 Heard(1, 0)"
    ∷ codes "5 Heard(1, 1)"
    ∷ codes "6 Heard(1, 2)"
    ∷ codes "7 Dark()"
    ∷ []
fluents = refl
