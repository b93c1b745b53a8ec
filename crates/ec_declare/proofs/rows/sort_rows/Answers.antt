use Rattle.std.proofs.Common.{◌++◌, ◌∷◌, [], map, ap, ◌∙◌}
use Rattle.std.proofs.lemmas.List.{map-append}
use Rattle.std.specs.Option.{option_copied}
use Rattle.ec_theory.specs.Rows as rows
use Rattle.ec_names.specs.Names.{sort_entry}
use Rattle.ec_declare.specs.Signatures.{sort_row}
use Rattle.ec_declare.proofs.Gathering.{item-next}
use Rattle.ec_declare.proofs.rows.sort_rows.Goals as goal

pub loop-sort-preserved : goal.loop-sort-preserved
loop-sort-preserved c =
    let names = c.args.names.now in
    let entry = sort_entry c.sort_at.result.0.now (option_copied c.sort_at.result.1) in
    let kept = map rows.sort_of c.loop-sort.found.items in
    item-next (sort_row names) names.sorts c.loop-sort.sort entry kept (map rows.sort_of c.push.new.self.items) _ c.sort_at.ensures
    (ap (map rows.sort_of) c.in_ok-push.ensures.items ∙ map-append rows.sort_of c.loop-sort.found.items (c.in_ok-sort_row.field-0 ∷ []) ∙ ap (λ r. kept ++ r ∷ []) c.in_ok-sort_row.ensures)
    c.loop-sort.invariant
