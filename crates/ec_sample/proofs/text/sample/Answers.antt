use Rattle.std.proofs.Common.{◌≡◌, ◌+◌, decimal, sym, rules, ◌∙◌}
use Rattle.ec_sample.proofs.Parts.{parts, sample_parts}
use Rattle.ec_sample.proofs.text.sample.Goals as goal

pub returns : goal.returns
returns c = let e : c.into_bytes.result.items ≡ parts (decimal c.args.n) (decimal (c.args.n + 1)) = search rules in e ∙ sym (sample_parts c.args.n)
