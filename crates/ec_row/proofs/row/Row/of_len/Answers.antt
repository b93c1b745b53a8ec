use Rattle.std.proofs.Common.{◌≡◌, ◌+◌, ◌/◌, arith}
use Rattle.ec_row.proofs.BitLemmas.{bits_none, packed_none}
use Rattle.ec_row.proofs.row.Row.of_len.Goals as goal

pub invariant_of-result : goal.invariant_of-result
invariant_of-result c =
    let ceiling = c.div_ceil.ensures in
    let count : c.div_ceil.result ≡ (c.args.len + 63) / 64 = omega (arith, ceiling) in
    packed_none c.in_ok-words.words.items c.div_ceil.result c.args.len c.in_ok-words.ensures count

pub returns : goal.returns
returns c = bits_none c.in_ok-words.words.items _ c.args.len c.in_ok-words.ensures
