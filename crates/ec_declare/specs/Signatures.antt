-- The signature that the declarations of a book stand for.
use Rattle.std.specs.Prelude.{ℕ, ℤ, ◌&&◌, List, [], ◌∷◌, length, map, option_map}
use Rattle.ec_logic.specs.Signature.{Signature, SortRow, ConstantRow, SymbolRow}
use Rattle.ec_names.specs.Names.{Names, Role, constant_role, event_role, fluent_role, predicate_role, SortEntry, SymbolEntry, RangeEntry, is_noninertial, is_role, kind_of, range_named, sort_number, symbols_of}

abbrev pub ends_of : RangeEntry → ℤ × ℤ
ends_of range = (range.low, range.high)

abbrev pub sort_row : Names → SortEntry → SortRow
sort_row names entry = record { name = entry.name; kind = kind_of names entry.name; parent = option_map (sort_number names) entry.parent; range = option_map ends_of (range_named names entry.name) }

-- the number of a constant's one sort
abbrev pub only_number : Names → List (List ℕ) → ℕ
only_number names [] = length names.sorts
only_number names (sort ∷ sorts) = sort_number names sort

abbrev pub constant_row : Names → SymbolEntry → ConstantRow
constant_row names entry = record { name = entry.name; sort = only_number names entry.sorts }

abbrev pub constants_of : Names → List ConstantRow
constants_of names = map (constant_row names) (symbols_of constant_role names.symbols)

abbrev pub symbol_row : Names → SymbolEntry → SymbolRow
symbol_row names entry = record { name = entry.name; sorts = map (sort_number names) entry.sorts; noninertial = is_role entry.role fluent_role && is_noninertial names entry.name }

abbrev pub rows_of : Names → Role → List SymbolRow
rows_of names role = map (symbol_row names) (symbols_of role names.symbols)

-- the sorts and the symbols of each role in the order of their first declaration
abbrev pub signature_of : Names → Signature
signature_of names = record {
  sorts = map (sort_row names) names.sorts;
  constants = constants_of names;
  events = rows_of names event_role;
  fluents = rows_of names fluent_role;
  predicates = rows_of names predicate_role;
  manual_release = names.manual_release;
  time_diff = names.time_diff;
}
