use Rattle.std.proofs.Common.{◌≡◌, ◌∙◌, ap, sym, arith, length, Some, true, false, not}
use Rattle.std.specs.Prelude.{is_some}
use Rattle.std.proofs.lemmas.List.{length-set}
use Rattle.ec_clause.specs.Truth.{literal_value, with_true}
use Rattle.ec_rup.proofs.Falsifying.{falses_more, no_clause}
use Rattle.ec_rup.proofs.propagation.make_false.Goals as goal

pub returns-then-is_some-clause-none : goal.returns-then-is_some-clause-none
returns-then-is_some-clause-none c =
    let x = c.lit-item.result in
    let p = c.loop-lit.assumed in
    let some : is_some (literal_value p x) ≡ true = ap is_some (ap (λ q. literal_value q x) (sym c.values.ensures) ∙ sym c.value.ensures) ∙ cc in
    no_clause c.args.variables c.args.lits.now c.loop-lit.lit-index p x c.loop-lit.invariant.0 (omega arith) c.lit-item.is some

pub loop-lit-preserved : goal.loop-lit-preserved
loop-lit-preserved c =
    let x = c.lit-item.result in
    let p = c.loop-lit.assumed in
    let none : is_some (literal_value p x) ≡ false = ap is_some (ap (λ q. literal_value q x) (sym c.values.ensures) ∙ sym c.value.ensures) ∙ cc in
    let grown = c.in_ok-make_true.ensures.ok ∙ ap (with_true p) c.opposite.ensures in (
      falses_more c.args.variables c.args.lits.now c.loop-lit.lit-index p c.make_true.new.self x c.loop-lit.invariant.0 (omega arith) c.lit-item.is (omega arith) (omega arith) none grown,
      ap length grown ∙ length-set p x.variable (Some (not x.positive)) ∙ c.loop-lit.invariant.1,
    )
