-- The signature that rows stand for.
use Rattle.std.specs.Prelude.{map}
use Rattle.ec_logic.specs.Signature as logic
use Rattle.ec_logic.specs.Signature.{Kind, plain, integer, event_kind, fluent_kind}
use Rattle.ec_theory.specs.declared.rows.SortKind.{SortKind}
use Rattle.ec_theory.specs.declared.rows.SortKind.TheVariants.{Plain, Integer, Event, Fluent}
use Rattle.ec_theory.specs.declared.rows.SortRow.{SortRow}
use Rattle.ec_theory.specs.declared.rows.ConstantRow.{ConstantRow}
use Rattle.ec_theory.specs.declared.rows.SymbolRow.{SymbolRow}
use Rattle.ec_theory.specs.declared.rows.SignatureRows.{SignatureRows}

abbrev pub kind_of : SortKind → Kind
kind_of Plain = plain
kind_of Integer = integer
kind_of Event = event_kind
kind_of Fluent = fluent_kind

abbrev pub sort_of : SortRow → logic.SortRow
sort_of row = record { name = row.name; kind = kind_of row.kind; parent = row.parent; range = row.range }

abbrev pub constant_of : ConstantRow → logic.ConstantRow
constant_of row = record { name = row.name; sort = row.sort }

abbrev pub symbol_of : SymbolRow → logic.SymbolRow
symbol_of row = record { name = row.name; sorts = row.sorts.items; noninertial = row.noninertial }

abbrev pub signature_of : SignatureRows → logic.Signature
signature_of rows = record {
  sorts = map sort_of rows.sorts.items;
  constants = map constant_of rows.constants.items;
  events = map symbol_of rows.events.items;
  fluents = map symbol_of rows.fluents.items;
  predicates = map symbol_of rows.predicates.items;
  manual_release = rows.manual_release;
  time_diff = rows.time_diff;
}
