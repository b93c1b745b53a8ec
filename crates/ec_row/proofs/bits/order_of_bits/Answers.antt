use Rattle.ec_row.proofs.WordOrder.{words_order}
use Rattle.ec_row.proofs.bits.order_of_bits.Goals as goal

pub returns : goal.returns
returns c =
    let whole = words_order c.args.left.now c.args.right.now c.args.left_len c.args.right_len c.requires.left_packed c.requires.right_packed c.type_inv.left c.type_inv.right in
    rw (c.then.ensures, c.order_of_words.ensures, c.cmp.ensures) whole
