-- What is so of fluent 1 at the time after time 0.
use Rattle.ec_logic.specs.Tree.{Formula, negation}
use Rattle.ec_logic.specs.Axiom.{next, HoldsAt, ReleasedAt}
use Rattle.ec_axiom.specs.declared.later.Later.{Later}
use Rattle.ec_axiom.specs.declared.later.Later.TheVariants as now

abbrev pub is_later : Later → Formula
is_later now.Holds = HoldsAt 1 (next 0)
is_later now.Fails = negation (HoldsAt 1 (next 0))
is_later now.Released = ReleasedAt 1 (next 0)
is_later now.Unreleased = negation (ReleasedAt 1 (next 0))
