use Rattle.std.proofs.Common.{◌≡◌, ℕ, ◌<◌, ◌+◌, ◌-◌, length, get_or}
use Rattle.ec_logic.specs.Signature.{descends, is_within}
use Rattle.ec_theory.specs.Rows.{signature_of}
use Rattle.ec_theory.specs.Counts.{one_if}
use Rattle.ec_theory.proofs.counts.count_upwards.Given as goal

-- what is counted so far and what the rest of the walk counts
abbrev pub invariant-loop-passed : goal.invariant-loop-passed
invariant-loop-passed l = record {
  each_sort : length l.counts.items ≡ length (signature_of l.rows).sorts;
  known : l.at < length (signature_of l.rows).sorts;
  walk : (s : ℕ) → s < length (signature_of l.rows).sorts → get_or l.counts.items s 0 + one_if (descends (signature_of l.rows) (length (signature_of l.rows).sorts - l._passed) l.at s) ≡ get_or l.fn.counts.items s 0 + one_if (is_within (signature_of l.rows) l.sort s);
}
