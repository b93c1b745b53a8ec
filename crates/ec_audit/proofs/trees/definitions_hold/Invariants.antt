use Rattle.std.proofs.Common.{◌≡◌, drop}
use Rattle.std.specs.List.{list_all}
use Rattle.ec_prop.specs.Grounded.{definitions_of}
use Rattle.ec_prop.specs.Prop.{truth_of}
use Rattle.ec_audit.specs.Fillable.{is_kept}
use Rattle.ec_audit.proofs.trees.definitions_hold.Given as goal

abbrev pub invariant-loop-definition : goal.invariant-loop-definition
invariant-loop-definition l = list_all (is_kept l.visible (truth_of l.truths)) (definitions_of (drop l.definition-index l.definitions)) ≡ list_all (is_kept l.visible (truth_of l.truths)) (definitions_of l.definitions)
