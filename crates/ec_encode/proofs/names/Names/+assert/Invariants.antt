use Rattle.std.proofs.Common.{◌≡◌, ◌≤◌, ◌<◌, ◌+◌, ◌-◌, ◌^◌, ◌++◌, drop, length}
use Rattle.ec_folding.specs.Tree.{as_trees}
use Rattle.ec_naming.specs.Listing.{names_taken_asserting_each, asserting_each}
use Rattle.ec_naming.specs.Tidy.{tidied}
use Rattle.ec_naming.specs.Variables.{variable_of}
use Rattle.ec_folding.specs.Tree.{EachAtomOf}
use Rattle.std.specs.Prelude.{Contains}
use Rattle.ec_prop.specs.Prop.{trees_of}
use Rattle.ec_encode.proofs.names.Names.+assert.Given as goal

abbrev pub invariant-assert_each-loop-part : goal.invariant-assert_each-loop-part
invariant-assert_each-loop-part l =
    let rest = as_trees (trees_of (drop l.part-index l.parts)) in
    let all = as_trees (trees_of l.parts) in
    record {
      low : 1 ≤ l.self.next;
      high : l.self.next + names_taken_asserting_each rest ≤ l.self.variables + 1;
      atoms : EachAtomOf (Contains l.atoms) rest;
      few : length l.self.clauses + length (asserting_each (variable_of l.atoms) l.self.next rest) < 2 ^ 32 - 1;
      variables : l.self.variables ≡ l.initial.self.variables;
      next : l.self.next + names_taken_asserting_each rest ≡ l.initial.self.next + names_taken_asserting_each all;
      clauses : l.self.clauses ++ tidied (asserting_each (variable_of l.atoms) l.self.next rest) ≡ l.initial.self.clauses ++ tidied (asserting_each (variable_of l.atoms) l.initial.self.next all);
    }
