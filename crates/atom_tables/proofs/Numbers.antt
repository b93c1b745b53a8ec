-- The numbers of atoms, worked out by hand.
use Rattle.std.proofs.Common.{◌≡◌, ℕ, codes, List, [], ◌∷◌, length, map, option_map, slice_get, unwrap_or, refl}
use Rattle.ec_logic.specs.Signature.{SymbolRow, holds_at, released_at, happens, initiates, terminates, releases}
use Rattle.ec_logic.specs.Universe.{Universe, universe_of}
use Rattle.ec_logic.specs.Atom.{GroundAtom, all_atoms, visible_atoms, atoms_before, predicates_in_order, number_of}
use Rattle.theory_tables.specs.Samples.{listed}
use Rattle.atom_tables.specs.Line.{line, found}

abbrev over : Universe
over = universe_of listed

abbrev name : ℕ → List ℕ
name p = unwrap_or (option_map (λ (row : SymbolRow). row.name) (slice_get listed.predicates p)) []

-- an atom with the number that it has
abbrev atom_line : GroundAtom → List ℕ
atom_line atom = line (found (number_of over atom.predicate atom.args)) (name atom.predicate) atom.args

-- The fluents are Awake(James) and Awake(Nell), the events Rest(), Wake(James) and Wake(Nell). Nell, the constant with the number 1, is
-- the only child.
atoms : map atom_line (all_atoms over)
    ≡ codes "0 HoldsAt(0, 0)"
    ∷ codes "1 HoldsAt(0, 1)"
    ∷ codes "2 HoldsAt(1, 0)"
    ∷ codes "3 HoldsAt(1, 1)"
    ∷ codes "4 ReleasedAt(0, 0)"
    ∷ codes "5 ReleasedAt(0, 1)"
    ∷ codes "6 ReleasedAt(1, 0)"
    ∷ codes "7 ReleasedAt(1, 1)"
    ∷ codes "8 Happens(0, 0)"
    ∷ codes "9 Happens(0, 1)"
    ∷ codes "10 Happens(1, 0)"
    ∷ codes "11 Happens(1, 1)"
    ∷ codes "12 Happens(2, 0)"
    ∷ codes "13 Happens(2, 1)"
    ∷ codes "14 Open()"
    ∷ codes "15 Young(1)"
    ∷ codes "16 Near(0, -1)"
    ∷ codes "17 Near(0, 0)"
    ∷ codes "18 Near(0, 1)"
    ∷ codes "19 Near(1, -1)"
    ∷ codes "20 Near(1, 0)"
    ∷ codes "21 Near(1, 1)"
    ∷ codes "22 Rare(0)"
    ∷ codes "23 Rare(1)"
    ∷ codes "24 Rare(2)"
    ∷ codes "25 Initiates(0, 0, 0)"
    ∷ codes "26 Initiates(0, 0, 1)"
    ∷ codes "27 Initiates(0, 1, 0)"
    ∷ codes "28 Initiates(0, 1, 1)"
    ∷ codes "29 Initiates(1, 0, 0)"
    ∷ codes "30 Initiates(1, 0, 1)"
    ∷ codes "31 Initiates(1, 1, 0)"
    ∷ codes "32 Initiates(1, 1, 1)"
    ∷ codes "33 Initiates(2, 0, 0)"
    ∷ codes "34 Initiates(2, 0, 1)"
    ∷ codes "35 Initiates(2, 1, 0)"
    ∷ codes "36 Initiates(2, 1, 1)"
    ∷ codes "37 Terminates(0, 0, 0)"
    ∷ codes "38 Terminates(0, 0, 1)"
    ∷ codes "39 Terminates(0, 1, 0)"
    ∷ codes "40 Terminates(0, 1, 1)"
    ∷ codes "41 Terminates(1, 0, 0)"
    ∷ codes "42 Terminates(1, 0, 1)"
    ∷ codes "43 Terminates(1, 1, 0)"
    ∷ codes "44 Terminates(1, 1, 1)"
    ∷ codes "45 Terminates(2, 0, 0)"
    ∷ codes "46 Terminates(2, 0, 1)"
    ∷ codes "47 Terminates(2, 1, 0)"
    ∷ codes "48 Terminates(2, 1, 1)"
    ∷ codes "49 Releases(0, 0, 0)"
    ∷ codes "50 Releases(0, 0, 1)"
    ∷ codes "51 Releases(0, 1, 0)"
    ∷ codes "52 Releases(0, 1, 1)"
    ∷ codes "53 Releases(1, 0, 0)"
    ∷ codes "54 Releases(1, 0, 1)"
    ∷ codes "55 Releases(1, 1, 0)"
    ∷ codes "56 Releases(1, 1, 1)"
    ∷ codes "57 Releases(2, 0, 0)"
    ∷ codes "58 Releases(2, 0, 1)"
    ∷ codes "59 Releases(2, 1, 0)"
    ∷ codes "60 Releases(2, 1, 1)"
    ∷ []
atoms = refl

visible : length (visible_atoms over) ≡ 25
visible = refl

all : length (all_atoms over) ≡ 61
all = refl

-- the declared predicates
abbrev Open : ℕ
Open = 6

abbrev Young : ℕ
Young = 7

abbrev Near : ℕ
Near = 8

abbrev Rare : ℕ
Rare = 9

-- the numbers of predicates' first atoms: the effect predicates come after the declared ones
first-numbers : map (atoms_before over (predicates_in_order over)) (holds_at ∷ released_at ∷ happens ∷ initiates ∷ terminates ∷ releases ∷ Open ∷ Young ∷ Near ∷ Rare ∷ [])
    ≡ 0 ∷ 4 ∷ 8 ∷ 25 ∷ 37 ∷ 49 ∷ 14 ∷ 15 ∷ 16 ∷ 22 ∷ []
first-numbers = refl
