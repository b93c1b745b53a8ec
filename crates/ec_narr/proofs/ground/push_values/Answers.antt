use Rattle.std.proofs.Common.{◌++◌, arith, pos}
use Rattle.ec_logic.specs.Narrative.{value_text, comma_separated, texts_of}
use Rattle.ec_logic.specs.Universe.{universe_of}
use Rattle.ec_theory.specs.Values.{numbers_of}
use Rattle.ec_theory.specs.declared.value.Value.{Value}
use Rattle.ec_narr.proofs.GroundLemmas.{as_many, argument_within}
use Rattle.ec_narr.proofs.ValueLemmas.{value_next}
use Rattle.ec_narr.proofs.ground.push_values.Goals as goal

pub bounds-args-i : goal.bounds-args-i
bounds-args-i c =
    let many = as_many (universe_of c.args.signature.now) c.args.sorts.now c.args.args.now c.requires.within in
    let low = c.loop-i-test.true in
    omega (arith, many, low)

pub push_value-requires-clause-within : goal.push_value-requires-clause-within
push_value-requires-clause-within c =
    let value : Value = record { 0 = pos 0 } in
    argument_within (universe_of c.args.signature.now) c.args.sorts.now c.args.args.now c.loop-i.i 0 value c.loop-i-test.true c.requires.within

pub loop-i-preserved : goal.loop-i-preserved
loop-i-preserved c =
    let text = value_text c.args.signature.now in
    let sorts = c.args.sorts.now in
    let args = c.args.args.now in
    let l = c.loop-i in
    let low = c.loop-i-test.true in
    let many = as_many (universe_of c.args.signature.now) sorts args c.requires.within in
    let value : Value = record { 0 = pos 0 } in
    value_next text sorts args l.i 0 value low (omega (arith, low, many)) l.out.items c.push_separator.new.out.items c.push_value.new.out.items (c.args.out.now.items ++ comma_separated (texts_of text sorts (numbers_of args)))
    c.in_ok-push_separator.ensures c.in_ok-push_value.ensures l.invariant
