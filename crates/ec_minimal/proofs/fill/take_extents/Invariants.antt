use Rattle.std.proofs.Common.{◌≡◌, length, take}
use Rattle.ec_logic.specs.Universe.{universe_of}
use Rattle.ec_minimal.specs.Agrees.{TakesExtents}
use Rattle.ec_minimal.proofs.fill.take_extents.Given as goal

abbrev pub invariant-loop-predicate : goal.invariant-loop-predicate
invariant-loop-predicate l = record {
  size : length l.target ≡ length l.fn.target;
  takes : TakesExtents (universe_of l.signature) l.source l.fn.target l.target (take l.predicate-index l.predicates);
}
