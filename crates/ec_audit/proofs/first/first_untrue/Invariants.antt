use Rattle.std.proofs.Common.{take}
use Rattle.std.specs.List.{AllByRecursion}
use Rattle.ec_logic.specs.Listing.{IsTruth}
use Rattle.ec_theory.specs.Theories.{theory_of}
use Rattle.ec_audit.specs.Ground.{HasRoom}
use Rattle.ec_audit.proofs.first.first_untrue.Given as goal

abbrev pub invariant-loop-place : goal.invariant-loop-place
invariant-loop-place l = record {
  room : HasRoom l.audit l.fn.grounded;
  passed : AllByRecursion (IsTruth (theory_of l.fn.theory)) (take l.place l.fn.truths);
}
