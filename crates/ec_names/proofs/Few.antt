-- A book doesn't declare more than is counted of it.
use Rattle.std.proofs.Common.{◌≤◌, ◌<◌, ◌^◌, List, [], ◌∷◌, map, length, length-append, arith}
use Rattle.std.proofs.lemmas.List.{length-map}
use Rattle.ec_syntax.specs.Written as w
use Rattle.ec_names.specs.Names.{Role, built_in_sorts, built_in_symbols, constant_entry, event_role, fluent_role, item_entry, joined, placed_content, predicate_role, shape_entry, sort_name, sorts_in, symbol_name, symbols_in}
use Rattle.ec_names.specs.Counted.{declared_count, shapes_count, things}
use Rattle.ec_names.specs.View.{continued}
use Rattle.ec_names.proofs.Firsts.{continued-few}

shapes-few : (r : Role) (shapes : List w.Shape) → length (map (shape_entry r) shapes) ≤ shapes_count shapes
shapes-few r [] = omega arith
shapes-few r (s ∷ shapes) = let few = shapes-few r shapes in omega (arith, few)

symbols-few : (c : w.Content) → length (symbols_in c) ≤ declared_count c
symbols-few (w.sorts items) = omega arith
symbols-few (w.reified sort) = omega arith
symbols-few (w.constants sort names) = let len = length-map names (constant_entry sort) in omega (arith, len)
symbols-few (w.events shapes) = shapes-few event_role shapes
symbols-few (w.fluents shapes) = shapes-few fluent_role shapes
symbols-few (w.predicates shapes) = shapes-few predicate_role shapes
symbols-few (w.noninertial names) = omega arith
symbols-few (w.range sort low high) = omega arith
symbols-few (w.load file) = omega arith
symbols-few (w.choice name on) = omega arith
symbols-few w.ignored = omega arith
symbols-few (w.completion label predicate) = omega arith
symbols-few (w.left_out word) = omega arith
symbols-few (w.sentence label f) = omega arith

sorts-few : (c : w.Content) → length (sorts_in c) ≤ declared_count c
sorts-few (w.sorts items) = let len = length-map items item_entry in omega (arith, len)
sorts-few (w.reified sort) = omega arith
sorts-few (w.constants sort names) = omega arith
sorts-few (w.events shapes) = omega arith
sorts-few (w.fluents shapes) = omega arith
sorts-few (w.predicates shapes) = omega arith
sorts-few (w.noninertial names) = omega arith
sorts-few (w.range sort low high) = omega arith
sorts-few (w.load file) = omega arith
sorts-few (w.choice name on) = omega arith
sorts-few w.ignored = omega arith
sorts-few (w.completion label predicate) = omega arith
sorts-few (w.left_out word) = omega arith
sorts-few (w.sentence label f) = omega arith

joined-few : {X : Type 0} (says : w.Content → List X) → ((c : w.Content) → length (says c) ≤ declared_count c) → (ps : List w.Placed) → length (joined says ps) ≤ things ps
joined-few says few [] = omega arith
joined-few says few (p ∷ ps) =
    let here = few (placed_content p) in
    let rest = joined-few says few ps in
    let sum = length-append (says (placed_content p)) (joined says ps) in
    omega (arith, here, rest, sum)

pub sorts-listable : (ps : List w.Placed) → things ps < 2 ^ 30 → length (continued sort_name built_in_sorts (joined sorts_in ps)) < 2 ^ 31
sorts-listable ps few =
    let most = continued-few sort_name built_in_sorts (joined sorts_in ps) in
    let said = joined-few sorts_in sorts-few ps in
    omega (arith, few, most, said)

pub symbols-listable : (ps : List w.Placed) → things ps < 2 ^ 30 → length (continued symbol_name built_in_symbols (joined symbols_in ps)) < 2 ^ 31
symbols-listable ps few =
    let most = continued-few symbol_name built_in_symbols (joined symbols_in ps) in
    let said = joined-few symbols_in symbols-few ps in
    omega (arith, few, most, said)
