use Rattle.std.proofs.Common.{length, slice_get, Some, sym, ap, ◌∙◌, arith}
use Rattle.ec_row.specs.Bits.{bit_in}
use Rattle.ec_row.proofs.BitLemmas.{length_bits, word_within, bit_read}
use Rattle.ec_row.proofs.row.Row.get.Goals as goal

pub bit_at-requires : goal.bit_at-requires
bit_at-requires c =
    let words = c.self.inside.words.items in
    let len = c.self.inside.len in
    let count = length_bits words len in
    let same = ap length c.self.view_is in
    let low = c.requires in
    rw c.deref.ensures.value (word_within words len c.args.i c.self.invariant (omega (arith, count, same, low)))

pub returns : goal.returns
returns c =
    let words = c.self.inside.words.items in
    let len = c.self.inside.len in
    let count = length_bits words len in
    let same = ap length c.self.view_is in
    let low = c.requires in
    let read = bit_read words len c.args.i (omega (arith, count, same, low)) in
    ap (λ bits. slice_get bits c.args.i) (sym c.self.view_is) ∙ (read ∙ ap Some (sym (c.bit_at.ensures ∙ ap (λ ws. bit_in ws c.args.i) c.deref.ensures.value)))
