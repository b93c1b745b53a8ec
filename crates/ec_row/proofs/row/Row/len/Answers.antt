use Rattle.std.proofs.Common.{length, sym, ap, ◌∙◌}
use Rattle.ec_row.proofs.BitLemmas.{length_bits}
use Rattle.ec_row.proofs.row.Row.len.Goals as goal

pub returns : goal.returns
returns c = sym (length_bits c.self.inside.words.items c.self.inside.len) ∙ ap length c.self.view_is
