use Rattle.std.proofs.Common.{◌≡◌, ◌++◌, length}
use Rattle.std.specs.List.{flat_map, AllByRecursion}
use Rattle.ec_log.specs.Line.{literal_text, literal_word, IsLit}
use Rattle.ec_log.proofs.Words.{CanRead}
use Rattle.ec_log.proofs.Tails.{EndsLiterals}
use Rattle.ec_log.proofs.read.read_literals.Given as goal

abbrev pub invariant-loop-word : goal.invariant-loop-word
invariant-loop-word l = record {
  so_far : flat_map literal_word l.fn.lits.items ++ l.text ≡ flat_map literal_word l.lits.items ++ l.rest;
  each : AllByRecursion IsLit l.fn.lits.items → AllByRecursion IsLit l.lits.items;
  more : CanRead literal_text IsLit EndsLiterals l.text → CanRead literal_text IsLit EndsLiterals l.rest;
}

abbrev pub decreases-loop-word : goal.decreases-loop-word
decreases-loop-word l = length l.rest
