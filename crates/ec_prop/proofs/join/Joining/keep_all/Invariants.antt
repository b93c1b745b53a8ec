use Rattle.std.proofs.Common.{◌≡◌, ◌++◌, List}
use Rattle.ec_folding.specs.Tree as tree
use Rattle.ec_prop.specs.Prop.{trees_of}
use Rattle.ec_prop.specs.Joining.{joined_with_unopened}
use Rattle.ec_prop.proofs.join.Joining.keep_all.Given as goal

abbrev pub invariant-loop-part : goal.invariant-loop-part
invariant-loop-part l = record {
  kind : l.self.conjunction ≡ l.initial.self.conjunction;
  goes_on : (rest : List tree.Tree) → joined_with_unopened l.self rest ≡ joined_with_unopened l.initial.self (trees_of l.yielded ++ rest);
}
