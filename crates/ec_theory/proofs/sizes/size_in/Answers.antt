use Rattle.std.proofs.Common.{◌<◌, ◌^◌, get_or, length, refl, ap, arith}
use Rattle.std.proofs.lemmas.List.{length-map}
use Rattle.ec_theory.specs.Rows.{signature_of, sort_of, constant_of, kind_of}
use Rattle.ec_theory.proofs.TableLemmas.{size_plain}
use Rattle.ec_theory.proofs.sizes.size_in.Goals as goal

pub range_size-requires : goal.range_size-requires
range_size-requires c = c.requires.ranges c.args.sort (sort_of c.in-Some.row.now) c.in-Some.ensures.found

pub returns-in-Plain : goal.returns-in-Plain
returns-in-Plain c =
    let signature = signature_of c.args.rows.now in
    let few : length signature.constants < 2 ^ 31 = omega (arith, c.requires.few, length-map c.args.rows.now.constants.items constant_of) in
    size_plain signature c.args.sort (sort_of c.in-Some.row.now) c.args.counts.now (get_or c.args.counts.now c.args.sort 0) c.in-Some.ensures.found (ap kind_of c.in-Plain.is) c.requires.counts few refl
