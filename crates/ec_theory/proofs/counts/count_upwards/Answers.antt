use Rattle.std.proofs.Common.{◌≡◌, None, ◌<◌, ◌+◌, ◌-◌, ◌^◌, Some, length, get_or, ◌∙◌, refl, sym, arith, rules}
use Rattle.std.proofs.lemmas.List.{length-map, length-set}
use Rattle.ec_logic.specs.Signature.{is_within, parent_of}
use Rattle.ec_theory.specs.Rows.{signature_of, sort_of}
use Rattle.ec_theory.specs.Counts.{one_if}
use Rattle.ec_theory.proofs.CountLemmas.{one_step_up, root_step_up, last_step_up, count_is_small, parent_known}
use Rattle.ec_theory.proofs.counts.count_upwards.Goals as goal

pub loop-passed-init : goal.loop-passed-init
loop-passed-init c =
    let sorts = length (signature_of c.args.rows.now).sorts in
    let none_passed : sorts - 0 ≡ sorts = omega arith in
    record { each_sort = c.requires.each_sort; known = c.requires.sort; walk = λ s l. rw none_passed refl }

pub loop-passed-preserved : goal.loop-passed-preserved
loop-passed-preserved c =
    let signature = signature_of c.args.rows.now in
    let parent : parent_of signature c.loop-passed.at ≡ Some c.in-Some.parent = rw (← c.parent_of_sort.ensures) c.in-Some.is in
    let all = length-map c.args.rows.now.sorts.items sort_of in
    let within : c.loop-passed._passed < length signature.sorts = omega (arith, all, c.len-passed-end.ensures, c.loop-passed-test.true) in
    let place : c.loop-passed.at < length c.loop-passed.counts.items = omega (arith, c.loop-passed.invariant.each_sort, c.loop-passed.invariant.known) in
    record {
      each_sort = length-set c.loop-passed.counts.items c.loop-passed.at (c.index_mut.result.now + 1) ∙ c.loop-passed.invariant.each_sort;
      known = parent_known signature c.requires.valid c.loop-passed.at c.in-Some.parent parent;
      walk = one_step_up signature c.requires.valid c.loop-passed._passed c.loop-passed.at c.in-Some.parent c.index_mut.result.now c.loop-passed.counts.items (λ s. get_or c.args.counts.now.items s 0 + one_if (is_within signature c.args.sort s)) within parent place c.index_mut.ensures.value c.loop-passed.invariant.walk;
    }

pub overflow_add-index_mut : goal.overflow_add-index_mut
overflow_add-index_mut c =
    let signature = signature_of c.args.rows.now in
    let place : c.loop-passed.at < length c.loop-passed.counts.items = omega (arith, c.loop-passed.invariant.each_sort, c.loop-passed.invariant.known) in
    let small : c.index_mut.result.now + 1 < 2 ^ 64 = count_is_small signature (length signature.sorts - c.loop-passed._passed) c.loop-passed.at c.index_mut.result.now c.args.counts.now.items c.loop-passed.counts.items (is_within signature c.args.sort) place c.index_mut.ensures.value (c.requires.few c.loop-passed.at c.loop-passed.invariant.known) (c.loop-passed.invariant.walk c.loop-passed.at c.loop-passed.invariant.known) in
    search (rules, small)

pub returns-in-None-clause-each_sort : goal.returns-in-None-clause-each_sort
returns-in-None-clause-each_sort c = length-set c.loop-passed.counts.items c.loop-passed.at (c.index_mut.result.now + 1) ∙ (c.loop-passed.invariant.each_sort ∙ sym c.requires.each_sort)

pub returns-in-None-clause-counted : goal.returns-in-None-clause-counted
returns-in-None-clause-counted c =
    let signature = signature_of c.args.rows.now in
    let parent : parent_of signature c.loop-passed.at ≡ None = rw (← c.parent_of_sort.ensures) c.in-None.is in
    let all = length-map c.args.rows.now.sorts.items sort_of in
    let within : c.loop-passed._passed < length signature.sorts = omega (arith, all, c.len-passed-end.ensures, c.loop-passed-test.true) in
    let place : c.loop-passed.at < length c.loop-passed.counts.items = omega (arith, c.loop-passed.invariant.each_sort, c.loop-passed.invariant.known) in
    root_step_up signature c.loop-passed._passed c.loop-passed.at c.index_mut.result.now c.loop-passed.counts.items (λ s. get_or c.args.counts.now.items s 0 + one_if (is_within signature c.args.sort s)) within parent place c.index_mut.ensures.value c.loop-passed.invariant.walk

pub overflow_add-index_mut-2 : goal.overflow_add-index_mut-2
overflow_add-index_mut-2 c =
    let signature = signature_of c.args.rows.now in
    let place : c.loop-passed.at < length c.loop-passed.counts.items = omega (arith, c.loop-passed.invariant.each_sort, c.loop-passed.invariant.known) in
    let small : c.index_mut-2.result.now + 1 < 2 ^ 64 = count_is_small signature (length signature.sorts - c.loop-passed._passed) c.loop-passed.at c.index_mut-2.result.now c.args.counts.now.items c.loop-passed.counts.items (is_within signature c.args.sort) place c.index_mut-2.ensures.value (c.requires.few c.loop-passed.at c.loop-passed.invariant.known) (c.loop-passed.invariant.walk c.loop-passed.at c.loop-passed.invariant.known) in
    search (rules, small)

pub returns-clause-each_sort : goal.returns-clause-each_sort
returns-clause-each_sort c = length-set c.loop-passed.counts.items c.loop-passed.at (c.index_mut-2.result.now + 1) ∙ (c.loop-passed.invariant.each_sort ∙ sym c.requires.each_sort)

pub returns-clause-counted : goal.returns-clause-counted
returns-clause-counted c =
    let signature = signature_of c.args.rows.now in
    let all = length-map c.args.rows.now.sorts.items sort_of in
    let ends : length signature.sorts ≡ c.loop-passed._passed = omega (arith, all, c.len-passed-end.ensures, c.loop-passed-test.false, c.loop-passed.auto._passed-end) in
    let place : c.loop-passed.at < length c.loop-passed.counts.items = omega (arith, c.loop-passed.invariant.each_sort, c.loop-passed.invariant.known) in
    last_step_up signature c.loop-passed._passed c.loop-passed.at c.index_mut-2.result.now c.loop-passed.counts.items (λ s. get_or c.args.counts.now.items s 0 + one_if (is_within signature c.args.sort s)) ends place c.index_mut-2.ensures.value c.loop-passed.invariant.walk
