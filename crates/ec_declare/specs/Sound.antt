-- The declarations of a book that have no fault.
use Rattle.std.specs.Prelude.{◌≡◌, ◌<◌, ◌^◌, Bool, true, List, None}
use Rattle.std.specs.List.{list_all}
use Rattle.ec_logic.specs.Valid.{is_upper_word}
use Rattle.ec_syntax.specs.Written as w
use Rattle.ec_names.specs.Names.{SymbolEntry, joined, names_of, placed_content, symbols_in}
use Rattle.ec_names.specs.Counted.{things}
use Rattle.ec_declare.specs.Faults.{declaration_fault, first_fault}

abbrev pub has_upper_name : SymbolEntry → Bool
has_upper_name entry = is_upper_word entry.name

-- The constants, events, fluents and predicates have upper-case names, there isn't too much, and no declaration has a fault.
pub record IsFaultless (statements : List w.Placed) : Type 0 where
  pub upper : list_all has_upper_name (joined symbols_in statements) ≡ true
  pub few : things statements < 2 ^ 30
  pub faultless : first_fault (λ placed. declaration_fault (names_of statements) (placed_content placed)) statements ≡ None
