use Rattle.std.proofs.Common.{◌≡◌, ◌++◌, ◌+ℤ◌, map, pos}
use Rattle.std.specs.List.{flat_map, range_with_len}
use Rattle.ec_logic.specs.Atom.{structure_of}
use Rattle.ec_logic.specs.Narrative.{time_lines}
use Rattle.ec_logic.specs.Universe.{universe_of}
use Rattle.ec_narr.proofs.times.push_times_from.Given as goal

abbrev pub invariant-loop-step : goal.invariant-loop-step
invariant-loop-step l = l.out.items ≡ l.fn.out.items ++ flat_map (time_lines l.signature (structure_of (universe_of l.signature) l.truth)) (map (λ k. l.first.0 +ℤ pos k) (range_with_len 0 l.step))
