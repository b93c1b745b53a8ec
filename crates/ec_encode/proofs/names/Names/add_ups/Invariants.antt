use Rattle.std.proofs.Common.{◌≡◌, ◌≤◌, ◌+◌, ◌++◌, ◌∷◌, [], map, drop, length}
use Rattle.ec_clause.specs.Literal.{opposite}
use Rattle.ec_naming.specs.Tidy.{tidied}
use Rattle.ec_naming.specs.Marks.{AreInRange}
use Rattle.ec_encode.proofs.names.Names.add_ups.Given as goal

abbrev pub invariant-loop-part : goal.invariant-loop-part
invariant-loop-part l = record {
  range : AreInRange l.self.variables (drop l.part-index l.parts);
  variables : l.self.variables ≡ l.initial.self.variables;
  next : l.self.next ≡ l.initial.self.next;
  few : length l.self.clauses ≤ length l.initial.self.clauses + l.part-index;
  rest : l.self.clauses ++ tidied (map (λ c. l.lit ∷ opposite c ∷ []) (drop l.part-index l.parts)) ≡ l.initial.self.clauses ++ tidied (map (λ c. l.lit ∷ opposite c ∷ []) l.parts);
}
