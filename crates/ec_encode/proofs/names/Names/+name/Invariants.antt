use Rattle.std.proofs.Common.{◌≡◌, ◌≤◌, ◌<◌, ◌+◌, ◌-◌, ◌^◌, ◌++◌, drop, length}
use Rattle.ec_folding.specs.Tree.{as_trees}
use Rattle.ec_naming.specs.Naming.{names_taken_each, names_of, naming_each}
use Rattle.ec_naming.specs.Tidy.{tidied}
use Rattle.ec_naming.specs.Variables.{variable_of}
use Rattle.ec_folding.specs.Tree.{EachAtomOf}
use Rattle.std.specs.Prelude.{Contains}
use Rattle.ec_prop.specs.Prop.{trees_of}
use Rattle.ec_encode.proofs.names.Names.+name.Given as goal

abbrev pub invariant-name_each-loop-part : goal.invariant-name_each-loop-part
invariant-name_each-loop-part l =
    let rest = as_trees (trees_of (drop l.part-index l.parts)) in
    let all = as_trees (trees_of l.parts) in
    record {
      low : 1 ≤ l.self.next;
      high : l.self.next + names_taken_each rest ≤ l.self.variables + 1;
      atoms : EachAtomOf (Contains l.atoms) rest;
      few : length l.self.clauses + length (naming_each (variable_of l.atoms) l.self.next rest) < 2 ^ 32 - 1;
      variables : l.self.variables ≡ l.initial.self.variables;
      next : l.self.next + names_taken_each rest ≡ l.initial.self.next + names_taken_each all;
      lits : l.lits.items ++ names_of (variable_of l.atoms) l.self.next rest ≡ names_of (variable_of l.atoms) l.initial.self.next all;
      clauses : l.self.clauses ++ tidied (naming_each (variable_of l.atoms) l.self.next rest) ≡ l.initial.self.clauses ++ tidied (naming_each (variable_of l.atoms) l.initial.self.next all);
    }
