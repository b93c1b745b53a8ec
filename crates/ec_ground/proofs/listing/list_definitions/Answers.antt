use Rattle.std.proofs.Common.{◌≡◌, ◌∙◌, ◌+◌, ℕ, List, Vec, Global, None, length, ap, sym, arith}
use Rattle.std.specs.List.{flat_map, range_with_len, slice_index_or}
use Rattle.std.specs.Option.{option_or}
use Rattle.std.proofs.lemmas.Grind.{drop_more_same}
use Rattle.std.proofs.lemmas.List.{drop-set-lt, length-set, map-append}
use Rattle.ec_folding.specs.Definition.{Definition}
use Rattle.ec_prop.specs.declared.ground.Defined.{Defined}
use Rattle.ec_prop.specs.Grounded.{definition_of, definitions_of}
use Rattle.ec_ground.specs.Listed.{scope_at, definition_if}
use Rattle.ec_ground.proofs.Places.{one_more, none_more, constant_undefined, treeless_undefined, variable_defined, still_there}
use Rattle.ec_ground.proofs.listing.list_definitions.Goals as goal
use Rattle.ec_ground.proofs.listing.list_definitions.Goals.{in-Some+in_ok-push, in_default}

pub loop-atom-preserved-then-is_some : goal.loop-atom-preserved-then-is_some
loop-atom-preserved-then-is_some c =
    let known = c.args.known.now in
    let effects = c.args.effects.now in
    let others = c.args.others.now in
    let atom = c.loop-atom.atom in
    let before = c.loop-atom.invariant in
    record {
      listed = none_more (λ k. definition_if (slice_index_or known k None) (scope_at effects others k) k) atom (definitions_of c.loop-atom.definitions.items) before.listed
          (constant_undefined (slice_index_or known atom None) (scope_at effects others atom) atom (sym c.is_some.ensures ∙ c.if-is_some.true));
      effects_left = drop_more_same c.loop-atom.effects effects atom before.effects_left;
      others_left = drop_more_same c.loop-atom.others others atom before.others_left;
      effects_count = before.effects_count;
      others_count = before.others_count;
    }

pub loop-atom-preserved : goal.loop-atom-preserved
loop-atom-preserved c =
    let known = c.args.known.now in
    let effects = c.args.effects.now in
    let others = c.args.others.now in
    let atom = c.loop-atom.atom in
    let before = c.loop-atom.invariant in
    let variable = sym c.is_some.ensures ∙ c.if-is_some.false in
    let effect = still_there c.loop-atom.effects effects atom before.effects_left c.take.result None _ c.take.ensures.value (omega (arith, c.loop-atom-test.true, before.effects_count)) in
    let other = still_there c.loop-atom.others others atom before.others_left c.take-in-loop-atom.result None _ c.take-in-loop-atom.ensures.value (omega (arith, c.loop-atom-test.true, before.others_count)) in
    let tree : option_or (slice_index_or effects atom None) (slice_index_or others atom None) ≡ c.or.result = sym (c.or.ensures ∙ (ap (λ o. option_or o c.take-in-loop-atom.result) effect ∙ ap (option_or (slice_index_or effects atom None)) other)) in
    let made : ℕ → List Definition = λ k. definition_if (slice_index_or known k None) (scope_at effects others k) k in
    record {
      listed = elim c.match-or.branch [
        | in-Some+in_ok-push w ↦
            one_more made atom (definitions_of c.loop-atom.definitions.items) (definitions_of c.match-or.definitions.items) _ before.listed
            (ap (λ (v : Vec Defined Global). definitions_of v.items) w.definitions-is ∙ (ap definitions_of w.in_ok-push.ensures.items ∙ map-append definition_of c.loop-atom.definitions.items _))
            (variable_defined (slice_index_or known atom None) (option_or (slice_index_or effects atom None) (slice_index_or others atom None)) atom w.in-Some.scope variable (tree ∙ w.in-Some.is))
        | in_default w ↦
            none_more made atom (definitions_of c.match-or.definitions.items)
            (ap (λ (v : Vec Defined Global). definitions_of v.items) w.definitions-is ∙ before.listed)
            (treeless_undefined (slice_index_or known atom None) (option_or (slice_index_or effects atom None) (slice_index_or others atom None)) atom (tree ∙ w.in_default.is))
      ];
      effects_left = drop-set-lt (atom + 1) c.loop-atom.effects atom c.take.new.self (omega arith) ∙ drop_more_same c.loop-atom.effects effects atom before.effects_left;
      others_left = drop-set-lt (atom + 1) c.loop-atom.others atom c.take-in-loop-atom.new.self (omega arith) ∙ drop_more_same c.loop-atom.others others atom before.others_left;
      effects_count = length-set c.loop-atom.effects atom c.take.new.self ∙ before.effects_count;
      others_count = length-set c.loop-atom.others atom c.take-in-loop-atom.new.self ∙ before.others_count;
    }

pub returns : goal.returns
returns c =
    let known = c.args.known.now in
    let last : c.loop-atom.atom ≡ length known = omega (arith, c.loop-atom-test.false, c.loop-atom.auto.atom-end) in
    c.loop-atom.invariant.listed ∙ ap (λ n. flat_map (λ k. definition_if (slice_index_or known k None) (scope_at c.args.effects.now c.args.others.now k) k) (range_with_len 0 n)) last
