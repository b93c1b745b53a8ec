use Rattle.std.proofs.Common.{◌++◌, ◌∷◌, [], map, sym, ap, ◌∙◌}
use Rattle.std.proofs.lemmas.List.{map-append}
use Rattle.ec_theory.specs.Rows as rows
use Rattle.ec_names.specs.Names.{constant_role}
use Rattle.ec_names.specs.View.{named_symbol}
use Rattle.ec_declare.specs.Signatures.{constant_row}
use Rattle.ec_declare.proofs.Gathering.{row-next, row-none}
use Rattle.ec_declare.proofs.rows.constant_rows.Goals as goal
use Rattle.ec_declare.proofs.rows.constant_rows.Goals.{then-has_role+in_ok-constant_row+in_ok-push, else-has_role}

pub loop-place-preserved : goal.loop-place-preserved
loop-place-preserved c =
    let names = c.args.names.now in
    let entry = named_symbol c.symbol_at.result.0.now c.symbol_at.result.1.now in
    let kept = map rows.constant_of c.loop-place.found.items in
    elim c.if-has_role.branch [
      | then-has_role+in_ok-constant_row+in_ok-push w ↦
          row-next (constant_row names) constant_role names.symbols c.loop-place.place entry kept (map rows.constant_of c.if-has_role.found.items) _ c.symbol_at.ensures (sym c.has_role.ensures ∙ w.if-has_role.true)
          (ap (λ v. map rows.constant_of v.items) w.found-is ∙ ap (map rows.constant_of) w.in_ok-push.ensures.items ∙ map-append rows.constant_of c.loop-place.found.items (w.in_ok-constant_row.field-0 ∷ []) ∙ ap (λ r. kept ++ r ∷ []) w.in_ok-constant_row.ensures)
          c.loop-place.invariant
      | else-has_role w ↦ row-none (constant_row names) constant_role names.symbols c.loop-place.place entry kept (map rows.constant_of c.if-has_role.found.items) _ c.symbol_at.ensures (sym c.has_role.ensures ∙ w.if-has_role.false) (ap (λ v. map rows.constant_of v.items) w.found-is) c.loop-place.invariant
    ]
