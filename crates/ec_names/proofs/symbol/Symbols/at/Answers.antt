use Rattle.std.proofs.Common.{List, option_map, slice_get, sym, ap, ◌∙◌}
use Rattle.std.specs.Map.Iter.{deref_pair}
use Rattle.ec_names.specs.Names.{SymbolEntry}
use Rattle.ec_names.specs.View.{symbol_of}
use Rattle.ec_names.proofs.Lookups.{slice_get-map}
use Rattle.ec_names.proofs.symbol.Symbols.at.Goals as goal

pub returns : goal.returns
returns c =
    ap (λ (xs : List SymbolEntry). slice_get xs c.args.place) (sym c.self.view_is) ∙ slice_get-map symbol_of c.self.inside.entries.entries c.args.place
    ∙ ap (option_map symbol_of) (sym c.get_index.ensures.entry ∙ ap (option_map deref_pair) c.unwrap.ensures)
