use Rattle.std.proofs.Common.{◌≡◌, ◌≤◌, ◌*◌, ◌^◌, drop}
use Rattle.ec_theory.specs.Sizes.{stopped, product_of_sizes}
use Rattle.ec_theory.proofs.sizes.product_of_sizes.Given as goal

abbrev pub invariant-loop-sort : goal.invariant-loop-sort
invariant-loop-sort l = record {
  small : l.product ≤ 2 ^ 62;
  rest : stopped (l.product * product_of_sizes l.sizes (drop l.sort-index l.sorts)) ≡ stopped (product_of_sizes l.sizes l.sorts);
}
