use Rattle.std.proofs.Common.{◌≡◌, drop, map}
use Rattle.ec_syntax.specs.View.{shape_of}
use Rattle.ec_names.specs.Names.{shape_entry, symbol_name}
use Rattle.ec_names.specs.View.{continued, role_of}
use Rattle.ec_names.proofs.collecting.add_shapes.Given as goal

abbrev pub invariant-loop-shape : goal.invariant-loop-shape
invariant-loop-shape l = continued symbol_name l.symbols (map (shape_entry (role_of l.role)) (map shape_of (drop l.shape-index l.shapes))) ≡ continued symbol_name l.fn.symbols (map (shape_entry (role_of l.role)) (map shape_of l.shapes))
