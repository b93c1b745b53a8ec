use Rattle.std.proofs.Common.{◌≡◌, ◌<◌, length, false, Some, sym, ap, ◌∙◌, arith}
use Rattle.std.proofs.lemmas.List.{length-map}
use Rattle.std.specs.Option.{option_copied}
use Rattle.std.specs.Str.{bytes_eq}
use Rattle.ec_names.specs.Names.{parent_of}
use Rattle.ec_names.specs.View.{sort_of}
use Rattle.ec_names.proofs.Descent.{descends_next}
use Rattle.ec_names.proofs.names.Names.descends.Goals as goal

pub loop-passed-preserved : goal.loop-passed-preserved
loop-passed-preserved c =
    let n = c.args.self.now in
    let len : c.len-passed-end.result ≡ length n.sorts = c.len-passed-end.ensures.len ∙ sym (length-map c.self.inside.sorts.entries sort_of) ∙ ap (λ m. length m.sorts) c.self.view_is in
    let lt : c.loop-passed._passed < length n.sorts = omega (arith, len, c.loop-passed-test.true) in
    let other : bytes_eq c.loop-passed.at.now c.args.ancestor.now ≡ false = ap (λ w. bytes_eq w c.args.ancestor.now) (sym c.bytes.ensures) ∙ sym c.eq.ensures ∙ c.if-eq.false in
    let parent : parent_of n c.loop-passed.at.now ≡ Some c.in-Some.parent.now = sym c.parent.ensures ∙ ap option_copied c.in-Some.is in
    sym (descends_next n (length n.sorts) c.loop-passed._passed c.loop-passed.at.now c.args.ancestor.now c.in-Some.parent.now lt other parent) ∙ c.loop-passed.invariant
