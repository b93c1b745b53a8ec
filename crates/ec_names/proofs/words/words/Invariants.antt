use Rattle.std.proofs.Common.{◌≡◌, take, map}
use Rattle.ec_names.proofs.words.words.Given as goal

abbrev pub invariant-loop-text : goal.invariant-loop-text
invariant-loop-text l = l.words.items ≡ map (λ t. t.now) (take l.text-index l.texts)
