use Rattle.std.proofs.Common.{◌≡◌, drop, map}
use Rattle.ec_syntax.specs.View.{shape_of}
use Rattle.ec_names.specs.View.{role_of}
use Rattle.ec_declare.specs.Faults.{first_fault, shape_fault}
use Rattle.ec_declare.proofs.symbols.shapes_fault.Given as goal

abbrev pub invariant-loop-shape : goal.invariant-loop-shape
invariant-loop-shape l = first_fault (shape_fault l.names (role_of l.role)) (map shape_of (drop l.shape-index l.shapes)) ≡ first_fault (shape_fault l.names (role_of l.role)) (map shape_of l.shapes)
