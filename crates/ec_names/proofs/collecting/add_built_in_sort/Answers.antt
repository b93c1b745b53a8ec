use Rattle.std.proofs.Common.{refl, sym, ap, ◌∙◌}
use Rattle.ec_names.specs.Names.{sort_entry, sort_name}
use Rattle.ec_names.specs.View.{sort_of, sorts_of, with_first}
use Rattle.ec_names.proofs.Tables.{first-new, first-there}
use Rattle.ec_names.proofs.collecting.add_built_in_sort.Goals as goal

pub returns-in_ok-insert : goal.returns-in_ok-insert
returns-in_ok-insert c =
    let es = c.args.sorts.now.entries in
    ap sorts_of c.in_ok-insert.ensures.entries ∙ first-new sort_name sort_of (λ e. refl) es c.in_ok-name.name c.args.parent (sym c.contains_key.ensures ∙ c.if-not-contains_key.true)
    ∙ ap (λ k. with_first sort_name (sorts_of es) (sort_entry k c.args.parent)) c.in_ok-name.ensures

pub returns-else-not-contains_key : goal.returns-else-not-contains_key
returns-else-not-contains_key c =
    let es = c.args.sorts.now.entries in
    first-there sort_name sort_of (λ e. refl) es c.in_ok-name.name c.args.parent (sym c.contains_key.ensures ∙ c.if-not-contains_key.false)
    ∙ ap (λ k. with_first sort_name (sorts_of es) (sort_entry k c.args.parent)) c.in_ok-name.ensures
