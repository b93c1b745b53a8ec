use Rattle.std.proofs.Common.{◌≡◌, ℕ, ◌<◌, ◌++◌, take, get_or}
use Rattle.std.specs.List.{flat_map}
use Rattle.ec_clause.specs.Literal.{Literal}
use Rattle.ec_log.specs.Line.{literal_word, IsLit}
use Rattle.ec_log.proofs.spell.push_literals.Given as goal

abbrev pub invariant-loop-lit : goal.invariant-loop-lit
invariant-loop-lit l = record {
  bytes : l.line.items ≡ l.fn.line.items ++ flat_map literal_word (take l.lit-index l.lits);
  range : (k : ℕ) (d : Literal) → k < l.lit-index → IsLit (get_or l.lits k d);
}
