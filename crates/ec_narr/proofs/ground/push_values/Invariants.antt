use Rattle.std.proofs.Common.{◌≡◌, ◌++◌, drop}
use Rattle.ec_logic.specs.Narrative.{value_text, comma_separated, texts_of}
use Rattle.ec_theory.specs.Values.{numbers_of}
use Rattle.ec_narr.proofs.ValueLemmas.{later}
use Rattle.ec_narr.proofs.ground.push_values.Given as goal

abbrev pub invariant-loop-i : goal.invariant-loop-i
invariant-loop-i l = l.out.items ++ later l.i (texts_of (value_text l.signature) (drop l.i l.sorts) (numbers_of (drop l.i l.args))) ≡ l.fn.out.items ++ comma_separated (texts_of (value_text l.signature) l.sorts (numbers_of l.args))
