use Rattle.std.proofs.Common.{◌≡◌, ◌++◌, map, pos}
use Rattle.std.specs.List.{flat_map, range_with_len}
use Rattle.ec_logic.specs.Atom.{structure_of}
use Rattle.ec_logic.specs.Narrative.{fluent_line}
use Rattle.ec_logic.specs.Universe.{universe_of}
use Rattle.ec_narr.proofs.times.push_fluent_lines.Given as goal

abbrev pub invariant-loop-fluent : goal.invariant-loop-fluent
invariant-loop-fluent l = l.out.items ≡ l.fn.out.items ++ flat_map (fluent_line l.signature (structure_of (universe_of l.signature) l.truth) l.time.0) (map pos (range_with_len 0 l.fluent))
