use Rattle.std.proofs.Common.{◌≡◌, ◌≤◌, ◌<◌, ◌+◌, ◌-◌, ◌^◌, ◌++◌, drop, length}
use Rattle.ec_naming.specs.Listing.{names_taken_defining_each, defining_each}
use Rattle.ec_naming.specs.Tidy.{tidied}
use Rattle.ec_naming.specs.Variables.{variable_of}
use Rattle.ec_prop.specs.Grounded.{definitions_of}
use Rattle.ec_encode.proofs.names.Names.define_each.Given as goal

abbrev pub invariant-loop-definition : goal.invariant-loop-definition
invariant-loop-definition l =
    let rest = definitions_of (drop l.definition-index l.definitions) in
    let all = definitions_of l.definitions in
    record {
      low : 1 ≤ l.self.next;
      high : l.self.next + names_taken_defining_each rest ≤ l.self.variables + 1;
      few : length l.self.clauses + length (defining_each (variable_of l.atoms) l.self.next rest) < 2 ^ 32 - 1;
      variables : l.self.variables ≡ l.initial.self.variables;
      next : l.self.next + names_taken_defining_each rest ≡ l.initial.self.next + names_taken_defining_each all;
      clauses : l.self.clauses ++ tidied (defining_each (variable_of l.atoms) l.self.next rest) ≡ l.initial.self.clauses ++ tidied (defining_each (variable_of l.atoms) l.initial.self.next all);
    }
