use Rattle.std.proofs.Common.{◌≡◌, ℕ, ◌+◌, arith, sym, ap, ◌∙◌, true, false, length}
use Rattle.std.proofs.lemmas.Grind.{common_steps}
use Rattle.ec_logic.specs.Universe.{is_constant_in}
use Rattle.ec_atom.proofs.PlaceLemmas.{passing_few}
use Rattle.ec_atom.proofs.MakingLemmas.{count_no, count_yes, places_no, places_yes, constants_no, constants_yes, made_extent, made_lists, no_constant}
use Rattle.ec_atom.proofs.making.values_of_constants.Goals as goal

pub loop-constant-preserved-then-not-constant_in : goal.loop-constant-preserved-then-not-constant_in
loop-constant-preserved-then-not-constant_in c =
    let test = is_constant_in c.args.signature.now c.args.sort in
    let k = c.loop-constant.constant in
    let none : test k ≡ false = cc (c.constant_in.ensures, c.if-not-constant_in.true) in
    record {
      count = c.loop-constant.invariant.count ∙ sym (count_no test k none);
      places = rw (c.in_ok-push.ensures.items, c.loop-constant.invariant.places) (sym (places_no test k none));
      constants = c.loop-constant.invariant.constants ∙ sym (constants_no test k none);
    }

pub overflow_add-count : goal.overflow_add-count
overflow_add-count c =
    let test = is_constant_in c.args.signature.now c.args.sort in
    let few = passing_few test 0 c.loop-constant.constant in
    let small = c.constants.ensures.valid.listable.constants in
    let same = c.loop-constant.invariant.count in
    let below = c.loop-constant-test.true in
    let end = c.constants-constant-end.ensures.count in
    grind (arith, few, small, same, below, end)

pub loop-constant-preserved : goal.loop-constant-preserved
loop-constant-preserved c =
    let test = is_constant_in c.args.signature.now c.args.sort in
    let k = c.loop-constant.constant in
    let one : test k ≡ true = cc (c.constant_in.ensures, c.if-not-constant_in.false) in
    record {
      count = ap (λ (n : ℕ). n + 1) c.loop-constant.invariant.count ∙ sym (count_yes test k one);
      places = rw (c.in_ok-push-2.ensures.items, c.loop-constant.invariant.places, c.loop-constant.invariant.count) (sym (places_yes test k one));
      constants = rw (c.in_ok-push-3.ensures.items, c.loop-constant.invariant.constants) (sym (constants_yes test k one));
    }

pub returns : goal.returns
returns c =
    let sig = c.args.signature.now in
    let test = is_constant_in sig c.args.sort in
    let end : c.loop-constant.constant ≡ length sig.constants = grind (arith, common_steps) in
    let places = rw end at c.loop-constant.invariant.places in
    let constants = rw end at c.loop-constant.invariant.constants in
    let small = c.constants.ensures.valid.listable.constants in
    record {
      extent_is = made_extent test c.loop-constant.places.items c.loop-constant.constants.items (length sig.constants) small places constants (no_constant sig c.args.sort);
      table = made_lists test c.loop-constant.places.items c.loop-constant.constants.items (length sig.constants) small places constants (no_constant sig c.args.sort);
    }
