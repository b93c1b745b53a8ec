use Rattle.std.proofs.Common.{◌≡◌, map}
use Rattle.std.specs.List.{flat_map}
use Rattle.ec_logic.specs.Paths.{paths}
use Rattle.ec_theory.specs.Theories.{sentence_trees}
use Rattle.ec_path.specs.View.{path_of}
use Rattle.ec_complete.specs.View.{scope_of}
use Rattle.ec_complete.proofs.RoomLemmas.{room_of_all}
use Rattle.ec_complete.proofs.CompleteLemmas.{all_define, if_ok_both}
use Rattle.ec_complete.proofs.completion.complete.Goals as goal

pub define_each-requires : goal.define_each-requires
define_each-requires c =
    let sentences = sentence_trees c.args.group.now.sentences.items in
    let found : map path_of c.in_ok-found.found.items ≡ flat_map paths sentences = rw c.deref.ensures.value at c.in_ok-found.ensures in
    rw c.deref-2.ensures.value (room_of_all path_of c.in_ok-found.found.items c.args.signature.now sentences c.requires.signature c.requires.valid.sentences found)

pub returns-clause-truth : goal.returns-clause-truth
returns-clause-truth c =
    let sentences = sentence_trees c.args.group.now.sentences.items in
    let found : map path_of c.in_ok-found.found.items ≡ flat_map paths sentences = rw c.deref.ensures.value at c.in_ok-found.ensures in
    let tree = rw (c.deref-2.ensures.value, found) at c.define_each.ensures.tree in
    if_ok_both c.define_each.result c.define_each.ensures.predicates tree
    (λ definitions p t. all_define c.args.signature.now sentences c.requires.valid.sentences (λ d. d.predicate) scope_of definitions.items c.deref-3.result.now p t)
