use Rattle.std.proofs.Common.{◌≡◌, ◌&&◌, true, false, nat_eq, sym, ap, ◌∙◌, arith}
use Rattle.std.proofs.lemmas.Bool.Decides.{nat_tests}
use Rattle.std.specs.Ordering.{is_eq, nat_cmp}
use Rattle.std.specs.Cmp.Lexicographic.{slice_cmp}
use Rattle.ec_row.proofs.WordOrder.{words_same}
use Rattle.ec_row.proofs.bits.has_same_bits.Goals as goal

pub returns-then-left_len-right_len : goal.returns-then-left_len-right_len
returns-then-left_len-right_len c =
    let whole = words_same c.args.left.now c.args.right.now c.args.left_len c.args.right_len c.requires.left_packed c.requires.right_packed c.type_inv.left c.type_inv.right in
    let tested : nat_eq c.args.left_len c.args.right_len ≡ true = (let s = c.if-left_len-right_len.true in grind (arith, nat_tests)) in
    c.is_eq.ensures ∙ (ap is_eq c.order_of_words.ensures ∙ sym (whole ∙ ap (λ t. t && is_eq (slice_cmp nat_cmp c.args.left.now c.args.right.now)) tested))

pub returns-else-left_len-right_len : goal.returns-else-left_len-right_len
returns-else-left_len-right_len c =
    let whole = words_same c.args.left.now c.args.right.now c.args.left_len c.args.right_len c.requires.left_packed c.requires.right_packed c.type_inv.left c.type_inv.right in
    let tested : nat_eq c.args.left_len c.args.right_len ≡ false = (let s = c.if-left_len-right_len.false in grind (arith, nat_tests)) in
    tested ∙ sym (whole ∙ ap (λ t. t && is_eq (slice_cmp nat_cmp c.args.left.now c.args.right.now)) tested)
