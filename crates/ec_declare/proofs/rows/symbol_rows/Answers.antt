use Rattle.std.proofs.Common.{◌++◌, ◌∷◌, [], map, sym, ap, ◌∙◌}
use Rattle.std.proofs.lemmas.List.{map-append}
use Rattle.ec_theory.specs.Rows as rows
use Rattle.ec_names.specs.View.{named_symbol, role_of}
use Rattle.ec_declare.specs.Signatures.{symbol_row}
use Rattle.ec_declare.proofs.Gathering.{row-next, row-none}
use Rattle.ec_declare.proofs.rows.symbol_rows.Goals as goal
use Rattle.ec_declare.proofs.rows.symbol_rows.Goals.{then-has_role+in_ok-symbol_row+in_ok-push, else-has_role}

pub loop-place-preserved : goal.loop-place-preserved
loop-place-preserved c =
    let names = c.args.names.now in
    let entry = named_symbol c.symbol_at.result.0.now c.symbol_at.result.1.now in
    let kept = map rows.symbol_of c.loop-place.found.items in
    elim c.if-has_role.branch [
      | then-has_role+in_ok-symbol_row+in_ok-push w ↦
          row-next (symbol_row names) (role_of c.args.role) names.symbols c.loop-place.place entry kept (map rows.symbol_of c.if-has_role.found.items) _ c.symbol_at.ensures (sym c.has_role.ensures ∙ w.if-has_role.true)
          (ap (λ v. map rows.symbol_of v.items) w.found-is ∙ ap (map rows.symbol_of) w.in_ok-push.ensures.items ∙ map-append rows.symbol_of c.loop-place.found.items (w.in_ok-symbol_row.field-0 ∷ []) ∙ ap (λ r. kept ++ r ∷ []) w.in_ok-symbol_row.ensures)
          c.loop-place.invariant
      | else-has_role w ↦ row-none (symbol_row names) (role_of c.args.role) names.symbols c.loop-place.place entry kept (map rows.symbol_of c.if-has_role.found.items) _ c.symbol_at.ensures (sym c.has_role.ensures ∙ w.if-has_role.false) (ap (λ v. map rows.symbol_of v.items) w.found-is) c.loop-place.invariant
    ]
