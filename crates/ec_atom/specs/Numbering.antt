-- What a numbering of atoms keeps.
use Rattle.std.specs.Prelude.{ℕ, ◌≡◌, ◌≤◌, List, length, Some, slice_get}
use Rattle.ec_logic.specs.Atom.{visible_predicates}
use Rattle.ec_logic.specs.Extent.{Extent}
use Rattle.ec_logic.specs.Signature.{Signature}
use Rattle.ec_logic.specs.Total.{total}
use Rattle.ec_logic.specs.Universe.{universe_of, extent_at}
use Rattle.ec_logic.specs.Valid.{IsSignature}
use Rattle.ec_atom.specs.Blocks.{AreBlocksOf}
use Rattle.ec_atom.specs.declared.blocks.Blocks.{Blocks}
use Rattle.ec_atom.specs.declared.kinds.Symbols.TheVariants.{Events, Fluents, Predicates}
use Rattle.ec_atom.specs.Symbols.{rows_of}
use Rattle.ec_atom.specs.declared.table.Values.{Values}
use Rattle.ec_atom.specs.Table.{extent_of_values, IsTable}

-- a table of an extent's values
pub record IsTableOf (extent : Extent) (values : Values) : Type 0 where
  pub extent_is : extent_of_values values ≡ extent
  pub table : IsTable values

-- a table for each sort
pub record AreTables (signature : Signature) (tables : List Values) : Type 0 where
  pub count : length tables ≡ length signature.sorts
  pub each : (s : ℕ) (values : Values) → slice_get tables s ≡ Some values → IsTableOf (extent_at (universe_of signature) s) values

pub record IsNumbering (signature : Signature) (tables : List Values) (events fluents predicates : Blocks) : Type 0 where
  pub valid : IsSignature signature
  pub tables_are : AreTables signature tables
  pub few : total (universe_of signature) (visible_predicates (universe_of signature)) ≤ 262144
  pub events_are : AreBlocksOf (universe_of signature) (rows_of (universe_of signature) Events) events
  pub fluents_are : AreBlocksOf (universe_of signature) (rows_of (universe_of signature) Fluents) fluents
  pub predicates_are : AreBlocksOf (universe_of signature) (rows_of (universe_of signature) Predicates) predicates
