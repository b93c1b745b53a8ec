use Rattle.std.proofs.Common.{◌≡◌, ◌++◌, length}
use Rattle.std.specs.Prelude.{decimal}
use Rattle.std.specs.List.{flat_map, AllByRecursion}
use Rattle.ec_log.specs.Line.{number_word, IsHint}
use Rattle.ec_log.proofs.Words.{CanRead}
use Rattle.ec_log.proofs.Tails.{EndsHints}
use Rattle.ec_log.proofs.read.read_hints.Given as goal

abbrev pub invariant-loop-word : goal.invariant-loop-word
invariant-loop-word l = record {
  so_far : l.text ≡ flat_map number_word l.hints.items ++ l.rest;
  each : AllByRecursion IsHint l.hints.items;
  more : CanRead decimal IsHint EndsHints l.text → CanRead decimal IsHint EndsHints l.rest;
}

abbrev pub decreases-loop-word : goal.decreases-loop-word
decreases-loop-word l = length l.rest
