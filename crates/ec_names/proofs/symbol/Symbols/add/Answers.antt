use Rattle.std.proofs.Common.{◌≡◌, ◌<◌, List, length, refl, sym, ap, subst, ◌∙◌}
use Rattle.std.specs.Str.{bytes_eq}
use Rattle.indexmap.specs.IndexMap.{insert_entry}
use Rattle.ec_names.specs.Names.{SymbolEntry, symbol_entry, symbol_name}
use Rattle.ec_names.specs.View.{role_of, symbol_of, symbols_in_table, with_first, with_one_more, IsSymbolTable}
use Rattle.ec_names.specs.declared.symbol.Symbol.{Symbol}
use Rattle.ec_names.proofs.Numbered.{count-small, table-snoc}
use Rattle.ec_names.proofs.Tables.{entries-last, first-new, there-already}
use Rattle.ec_names.proofs.symbol.Symbols.add.Goals as goal

pub returns-then-contains_key : goal.returns-then-contains_key
returns-then-contains_key c =
    let x = symbol_entry (role_of c.args.role) c.args.name.now c.args.sorts.items in
    let there = there-already symbol_name symbol_of (λ e. refl) c.self.inside.entries.entries c.args.name.now x refl (sym c.contains_key.ensures ∙ c.if-contains_key.true) in
    subst (λ (xs : List SymbolEntry). xs ≡ with_first symbol_name xs x) c.self.view_is there

pub add-requires : goal.add-requires
add-requires c =
    let few = subst (λ (xs : List SymbolEntry). length xs < 2147483648) (sym c.self.view_is) c.requires in
    count-small c.self.inside.counts (symbols_in_table c.self.inside.entries.entries) (role_of c.args.role) c.self.invariant.counted few

pub invariant_of-self-2 : goal.invariant_of-self-2
invariant_of-self-2 c =
    let es = c.self.inside.entries.entries in
    let symbol : Symbol = record { role = c.args.role; number = c.of-number.result; sorts = c.args.sorts } in
    let k = c.in_ok-copied.field-0 in
    let absent = sym (c.contains_key.ensures) ∙ c.if-contains_key.false in
    let after = c.in_ok-insert.ensures.entries ∙ ap (λ w. insert_entry bytes_eq es w symbol) c.in_ok-copied.ensures ∙ entries-last es c.args.name.now symbol absent in
    let table = table-snoc es c.self.inside.counts (c.args.name.now, symbol) c.self.invariant c.of-number.ensures in
    subst (λ counts. IsSymbolTable c.insert.new.self.entries counts) (sym c.add.ensures) (subst (λ entries. IsSymbolTable entries (with_one_more (role_of c.args.role) c.self.inside.counts)) (sym after) table)

pub returns : goal.returns
returns c =
    let es = c.self.inside.entries.entries in
    let symbol : Symbol = record { role = c.args.role; number = c.of-number.result; sorts = c.args.sorts } in
    let absent = sym (c.contains_key.ensures) ∙ c.if-contains_key.false in
    ap symbols_in_table (c.in_ok-insert.ensures.entries ∙ ap (λ w. insert_entry bytes_eq es w symbol) c.in_ok-copied.ensures) ∙ first-new symbol_name symbol_of (λ e. refl) es c.args.name.now symbol absent
    ∙ ap (λ xs. with_first symbol_name xs (symbol_entry (role_of c.args.role) c.args.name.now c.args.sorts.items)) c.self.view_is
