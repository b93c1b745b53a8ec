use Rattle.std.proofs.Common.{◌≡◌, ℕ, ◌<◌, length}
use Rattle.ec_prop.specs.Prop.{truth_of}
use Rattle.ec_audit.proofs.trees.copy_visible.Given as goal

abbrev pub invariant-loop-atom : goal.invariant-loop-atom
invariant-loop-atom l = (length l.truths ≡ length l.initial.truths) × ((a : ℕ) → a < l.atom → truth_of l.truths a ≡ truth_of l.truth a)
