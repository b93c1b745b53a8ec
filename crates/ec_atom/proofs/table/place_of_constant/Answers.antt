use Rattle.std.proofs.Common.{rules, w64}
use Rattle.std.specs.Prelude.{FitsSigned}
use Rattle.std.proofs.lemmas.Int.{to_z-of_z}
use Rattle.ec_atom.proofs.PlaceLemmas.{place_read}
use Rattle.ec_atom.proofs.table.place_of_constant.Goals as goal

pub returns : goal.returns
returns c =
    let fits : FitsSigned w64 c.args.value = search rules in
    let away = simp to_z-of_z at c.distance.ensures in
    place_read c.args.places.now.items c.args.constants.now.items c.requires.lists c.args.value c.distance.result c.in-Some.place c.requires.within away (rw c.in-Some.is at c.index.ensures)
