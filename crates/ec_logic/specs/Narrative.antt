-- The text of a structure: what holds and happens at each time, and the declared predicates.
use Rattle.std.specs.Prelude.{ℕ, suc, ℤ, pos, negsuc, ◌+ℤ◌, decimal, codes, Bool, true, false, not, ◌&&◌, ◌||◌, if◌then◌else◌, List, [], ◌∷◌, ◌++◌, Option, Some, None, slice_get}
use Rattle.std.specs.List.{flat_map}
use Rattle.std.specs.Ordering.{int_eq}
use Rattle.ec_logic.specs.Signature.{Signature, Kind, plain, integer, event_kind, fluent_kind, SortRow, ConstantRow, SymbolRow, time_sort, event_sort, fluent_sort, holds_at, released_at, happens}
use Rattle.ec_logic.specs.Universe.{universe_of, domain, row_of, argument_sorts, tuple_at, symbol_at}
use Rattle.ec_logic.specs.Axiom.{first_time}
use Rattle.ec_logic.specs.Truth.{Structure}
use Rattle.ec_logic.specs.Atom.{GroundAtom, declared, atoms_of}

-- ---- values

abbrev pub integer_text : ℤ → List ℕ
integer_text (pos n) = decimal n
integer_text (negsuc n) = codes "-" ++ decimal (suc n)

-- texts parted by a comma and a space
abbrev pub comma_separated : List (List ℕ) → List ℕ
comma_separated [] = []
comma_separated (text ∷ []) = text
comma_separated (text ∷ more ∷ texts) = text ++ codes ", " ++ comma_separated (more ∷ texts)

-- a name with its arguments in parentheses
abbrev pub applied : List ℕ → List (List ℕ) → List ℕ
applied name texts = name ++ codes "(" ++ comma_separated texts ++ codes ")"

abbrev pub kind_of : Signature → ℕ → Kind
kind_of signature s = kind_in (slice_get signature.sorts s)
  where
    kind_in : Option SortRow → Kind
    kind_in None = plain
    kind_in (Some row) = row.kind

abbrev pub constant_text : Signature → ℤ → List ℕ
constant_text signature (negsuc n) = []
constant_text signature (pos n) = name_of (slice_get signature.constants n)
  where
    name_of : Option ConstantRow → List ℕ
    name_of None = []
    name_of (Some row) = row.name

abbrev pub symbol_name : List SymbolRow → ℕ → List ℕ
symbol_name rows symbol = name_of (slice_get rows symbol)
  where
    name_of : Option SymbolRow → List ℕ
    name_of None = []
    name_of (Some row) = row.name

-- a whole number or a constant
abbrev pub simple_text : Signature → ℕ → ℤ → List ℕ
simple_text signature s v = by_kind (kind_of signature s)
  where
    by_kind : Kind → List ℕ
    by_kind integer = integer_text v
    by_kind plain = constant_text signature v
    by_kind event_kind = []
    by_kind fluent_kind = []

-- the texts of values of these sorts, each by a rule
abbrev pub texts_of : (ℕ → ℤ → List ℕ) → List ℕ → List ℤ → List (List ℕ)
texts_of text [] vs = []
texts_of text (s ∷ ss) [] = []
texts_of text (s ∷ ss) (v ∷ vs) = text s v ∷ texts_of text ss vs

-- the ground event or fluent at a place
abbrev pub ground_text : Signature → List SymbolRow → ℤ → List ℕ
ground_text signature rows (negsuc n) = []
ground_text signature rows (pos n) = of_symbol (symbol_at (universe_of signature) (argument_sorts rows) n)
  where
    of_symbol : ℕ × ℕ → List ℕ
    of_symbol found = applied (symbol_name rows found.0)
        (texts_of (simple_text signature) (row_of (argument_sorts rows) found.0) (tuple_at (universe_of signature) (row_of (argument_sorts rows) found.0) found.1))

abbrev pub event_text : Signature → ℤ → List ℕ
event_text signature e = ground_text signature signature.events e

abbrev pub fluent_text : Signature → ℤ → List ℕ
fluent_text signature f = ground_text signature signature.fluents f

-- a value of any sort
abbrev pub value_text : Signature → ℕ → ℤ → List ℕ
value_text signature s v = by_kind (kind_of signature s)
  where
    by_kind : Kind → List ℕ
    by_kind integer = integer_text v
    by_kind plain = constant_text signature v
    by_kind event_kind = event_text signature v
    by_kind fluent_kind = fluent_text signature v

abbrev pub atom_text : Signature → GroundAtom → List ℕ
atom_text signature atom = applied (symbol_name signature.predicates atom.predicate)
    (texts_of (value_text signature) (row_of (argument_sorts signature.predicates) atom.predicate) atom.args)

-- ---- lines

abbrev pub line : List ℕ → List ℕ
line text = text ++ 10 ∷ []

abbrev pub line_if : Bool → List ℕ → List ℕ
line_if true text = line text
line_if false text = []

-- whether the symbol of a ground fluent is noninertial
abbrev pub is_noninertial : Signature → ℤ → Bool
is_noninertial signature (negsuc n) = false
is_noninertial signature (pos n) = flag_of (slice_get signature.fluents (symbol_at (universe_of signature) (argument_sorts signature.fluents) n).0)
  where
    flag_of : Option SymbolRow → Bool
    flag_of None = false
    flag_of (Some row) = row.noninertial

abbrev pub before_time : ℤ → ℤ
before_time t = t +ℤ negsuc 0

-- what a fluent's line says of a change since the time before, if there is one
abbrev pub change_text : Bool → Bool → List ℕ → List ℕ
change_text earlier now text = if now && not earlier then line (codes "+" ++ text ++ codes ".") else line_if (earlier && not now) (codes "-" ++ text ++ codes ".")

-- a fluent's line at a time
abbrev pub fluent_line : Signature → Structure → ℤ → ℤ → List ℕ
fluent_line signature m t f =
    if int_eq t (first_time signature) || not signature.time_diff
    then line_if (m holds_at (f ∷ t ∷ [])) (fluent_text signature f ++ codes ".")
    else change_text (m holds_at (f ∷ before_time t ∷ [])) (m holds_at (f ∷ t ∷ [])) (fluent_text signature f)

-- A noninertial fluent is released at all times, so its release isn't told.
abbrev pub released_line : Signature → Structure → ℤ → ℤ → List ℕ
released_line signature m t f = line_if (m released_at (f ∷ t ∷ []) && not (is_noninertial signature f)) (codes "ReleasedAt(" ++ fluent_text signature f ++ codes ", " ++ integer_text t ++ codes ").")

abbrev pub happens_line : Signature → Structure → ℤ → ℤ → List ℕ
happens_line signature m t e = line_if (m happens (e ∷ t ∷ [])) (codes "Happens(" ++ event_text signature e ++ codes ", " ++ integer_text t ++ codes ").")

-- the time's number, its fluents, what is released, and what happens
abbrev pub time_lines : Signature → Structure → ℤ → List ℕ
time_lines signature m t = line (integer_text t)
    ++ flat_map (fluent_line signature m t) (domain (universe_of signature) fluent_sort)
    ++ flat_map (released_line signature m t) (domain (universe_of signature) fluent_sort)
    ++ flat_map (happens_line signature m t) (domain (universe_of signature) event_sort)

-- a true atom of a declared predicate
abbrev pub atom_line : Signature → Structure → GroundAtom → List ℕ
atom_line signature m atom = line_if (m atom.predicate atom.args) (atom_text signature atom ++ codes ".")

abbrev pub predicate_lines : Signature → Structure → List ℕ
predicate_lines signature m = line (codes "P") ++ flat_map (atom_line signature m) (flat_map (atoms_of (universe_of signature)) (declared (universe_of signature)))

-- the narrative of a structure under a number
abbrev pub narrative : Signature → Structure → ℕ → List ℕ
narrative signature m number = line (codes "model " ++ decimal number ++ codes ":")
    ++ flat_map (time_lines signature m) (domain (universe_of signature) time_sort)
    ++ predicate_lines signature m
