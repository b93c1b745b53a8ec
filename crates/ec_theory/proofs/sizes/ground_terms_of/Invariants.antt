use Rattle.std.proofs.Common.{◌≡◌, ◌≤◌, ◌+◌, ◌^◌, drop, map}
use Rattle.ec_theory.specs.Rows.{symbol_of}
use Rattle.ec_theory.specs.Sizes.{stopped, sum_of_products}
use Rattle.ec_theory.proofs.sizes.ground_terms_of.Given as goal

abbrev pub invariant-loop-symbol : goal.invariant-loop-symbol
invariant-loop-symbol l = record {
  small : l.sum ≤ 2 ^ 62;
  rest : stopped (l.sum + sum_of_products l.sizes (map symbol_of (drop l.symbol-index l.symbols))) ≡ stopped (sum_of_products l.sizes (map symbol_of l.symbols));
}
