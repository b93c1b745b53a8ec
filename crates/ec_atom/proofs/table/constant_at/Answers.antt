use Rattle.std.proofs.Common.{◌≡◌, arith, ap, pos, get_or, ◌∙◌, rules, w64}
use Rattle.std.specs.Prelude.{FitsSigned}
use Rattle.std.proofs.lemmas.Int.{to_z-of_z}
use Rattle.std.proofs.lemmas.Grind.{common_steps}
use Rattle.ec_atom.proofs.PlaceLemmas.{constants_count, constant_at}
use Rattle.ec_atom.proofs.table.constant_at.Goals as goal

pub index-requires : goal.index-requires
index-requires c = let e = constants_count c.args.places.now.items c.args.constants.now.items c.requires.lists in omega (arith, e, c.requires.within)

pub returns : goal.returns
returns c =
    let e = constants_count c.args.places.now.items c.args.constants.now.items c.requires.lists in
    let is : c.index.result.now ≡ get_or c.args.constants.now.items c.args.place 0 = grind (arith, common_steps, c.index.ensures, e, c.requires.within) in
    let fits : FitsSigned w64 c.signed.result = search rules in
    simp to_z-of_z (c.signed.ensures ∙ ap pos is ∙ constant_at c.args.places.now.items c.args.constants.now.items c.requires.lists c.args.place c.requires.within)
