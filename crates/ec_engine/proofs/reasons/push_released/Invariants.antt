use Rattle.std.proofs.Common.{◌≡◌}
use Rattle.std.specs.Prelude.{slice_get}
use Rattle.ec_engine.specs.PartTexts.{released_fluents}
use Rattle.ec_engine.proofs.Released.{released_from}
use Rattle.ec_engine.proofs.reasons.push_released.Given as goal

abbrev pub invariant-loop-fluent : goal.invariant-loop-fluent
invariant-loop-fluent l = record {
  same : l.out.items ≡ l.fn.out.items;
  left : released_from l.signature l.fluent l.left ≡ slice_get (released_fluents l.signature) l.place;
}
