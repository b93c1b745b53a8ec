use Rattle.std.proofs.Common.{◌++◌, arith, pos}
use Rattle.ec_logic.specs.Narrative.{simple_text, comma_separated, texts_of}
use Rattle.ec_theory.specs.Values.{numbers_of}
use Rattle.ec_theory.specs.declared.value.Value.{Value}
use Rattle.ec_narr.proofs.ValueLemmas.{value_next}
use Rattle.ec_narr.proofs.values.push_simple_values.Goals as goal

pub loop-i-preserved : goal.loop-i-preserved
loop-i-preserved c =
    let text = simple_text c.args.signature.now in
    let sorts = c.args.sorts.now in
    let args = c.args.args.now in
    let l = c.loop-i in
    let low = c.loop-i-test.true in
    let same = c.requires.count in
    let value : Value = record { 0 = pos 0 } in
    value_next text sorts args l.i 0 value low (omega (arith, low, same)) l.out.items c.push_separator.new.out.items c.push_simple.new.out.items (c.args.out.now.items ++ comma_separated (texts_of text sorts (numbers_of args)))
    c.in_ok-push_separator.ensures c.in_ok-push_simple.ensures l.invariant
