use Rattle.std.proofs.Common.{drop}
use Rattle.std.specs.List.{AllByRecursion}
use Rattle.ec_log.specs.Digits.{IsHexDigit}
use Rattle.ec_log.proofs.read.are_hex_digits.Given as goal

abbrev pub invariant-loop-byte : goal.invariant-loop-byte
invariant-loop-byte l = record {
  front : AllByRecursion IsHexDigit (drop l.byte-index l.text) → AllByRecursion IsHexDigit l.text;
  rest : AllByRecursion IsHexDigit l.text → AllByRecursion IsHexDigit (drop l.byte-index l.text);
}
