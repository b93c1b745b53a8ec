use Rattle.std.proofs.Common.{List, refl, ap, ◌∙◌, option_map}
use Rattle.ec_names.specs.Names.{SymbolEntry, named, symbol_name}
use Rattle.ec_names.specs.View.{named_symbol, symbol_of}
use Rattle.ec_names.proofs.Numbered.{number-if-found}
use Rattle.ec_names.proofs.Tables.{found-named}
use Rattle.ec_names.proofs.symbol.Symbols.get.Goals as goal

pub returns-clause-symbol : goal.returns-clause-symbol
returns-clause-symbol c =
    ap (option_map (named_symbol c.args.name.now)) c.get.ensures.value ∙ found-named symbol_name symbol_of (λ e. refl) c.self.inside.entries.entries c.args.name.now
    ∙ ap (λ (xs : List SymbolEntry). named symbol_name xs c.args.name.now) c.self.view_is

pub returns-clause-number : goal.returns-clause-number
returns-clause-number c = number-if-found c.args.name.now c.self.inside.entries.entries c.args.self.now c.get.result c.self.invariant.numbered c.self.view_is c.get.ensures.value
