use Rattle.std.proofs.Common.{◌<◌, length, set, ap, ◌∙◌, arith}
use Rattle.ec_row.proofs.BitLemmas.{length_bits, word_within, bits_set, packed_set}
use Rattle.ec_row.proofs.row.Row.set.Goals as goal

pub set_bit-requires : goal.set_bit-requires
set_bit-requires c =
    let words = c.self.inside.words.items in
    let len = c.self.inside.len in
    let count = length_bits words len in
    let same = ap length c.self.view_is in
    let low = c.requires in
    word_within words len c.args.i c.self.invariant (omega (arith, count, same, low))

pub invariant_of-self : goal.invariant_of-self
invariant_of-self c =
    let words = c.self.inside.words.items in
    let len = c.self.inside.len in
    let count = length_bits words len in
    let same = ap length c.self.view_is in
    let low = c.requires in
    let below : c.args.i < len = omega (arith, count, same, low) in
    rw c.set_bit.ensures (packed_set words c.args.i c.args.bit (word_within words len c.args.i c.self.invariant below) len below c.self.invariant)

pub returns : goal.returns
returns c =
    let words = c.self.inside.words.items in
    let len = c.self.inside.len in
    let count = length_bits words len in
    let same = ap length c.self.view_is in
    let low = c.requires in
    let below : c.args.i < len = omega (arith, count, same, low) in
    rw c.set_bit.ensures (bits_set words c.args.i c.args.bit (word_within words len c.args.i c.self.invariant below) len below ∙ ap (λ bits. set bits c.args.i c.args.bit) c.self.view_is)
