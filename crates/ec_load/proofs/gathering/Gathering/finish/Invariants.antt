use Rattle.std.proofs.Common.{◌≡◌, ◌++◌}
use Rattle.ec_load.proofs.gathering.Gathering.finish.Given as goal

abbrev pub invariant-loop-file : goal.invariant-loop-file
invariant-loop-file l = l.files.items ++ l.file-iterator ≡ l.fn.self.files.keys
