use Rattle.std.proofs.Common.{◌≡◌, ℕ, ◌<◌, ◌^◌, ◌++◌, take, get_or}
use Rattle.std.specs.List.{flat_map}
use Rattle.ec_log.specs.Line.{number_word}
use Rattle.ec_log.proofs.spell.push_hints.Given as goal

abbrev pub invariant-loop-hint : goal.invariant-loop-hint
invariant-loop-hint l = record {
  bytes : l.line.items ≡ l.fn.line.items ++ flat_map number_word (take l.hint-index l.hints);
  range : (k d : ℕ) → k < l.hint-index → get_or l.hints k d < 2 ^ 32;
}
