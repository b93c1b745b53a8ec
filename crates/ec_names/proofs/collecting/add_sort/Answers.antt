use Rattle.std.proofs.Common.{refl, sym, ap, ap₂, ◌∙◌}
use Rattle.std.specs.Str.{bytes_eq}
use Rattle.indexmap.specs.IndexMap.{insert_entry}
use Rattle.ec_names.specs.Names.{sort_name}
use Rattle.ec_names.specs.View.{sort_of, sorts_of}
use Rattle.ec_names.proofs.Tables.{first-new, first-there}
use Rattle.ec_names.proofs.collecting.add_sort.Goals as goal

pub returns-in_ok-insert : goal.returns-in_ok-insert
returns-in_ok-insert c =
    let es = c.args.sorts.now.entries in
    let item = c.args.item.now in
    ap sorts_of c.in_ok-insert.ensures.entries ∙ ap₂ (λ k v. sorts_of (insert_entry bytes_eq es k v)) c.in_ok-copied.ensures c.in_ok-copied_parent.ensures
    ∙ first-new sort_name sort_of (λ e. refl) es item.name item.parent (sym c.contains_key.ensures ∙ c.if-not-contains_key.true)

pub returns-else-not-contains_key : goal.returns-else-not-contains_key
returns-else-not-contains_key c =
    first-there sort_name sort_of (λ e. refl) c.args.sorts.now.entries c.args.item.now.name c.args.item.now.parent (sym c.contains_key.ensures ∙ c.if-not-contains_key.false)
