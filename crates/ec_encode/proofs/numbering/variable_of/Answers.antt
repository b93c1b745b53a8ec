use Rattle.std.proofs.Common.{◌<◌, length, arith, sym, ◌∙◌, Ok, Err}
use Rattle.std.proofs.lemmas.Bool.Decides.{nat_tests}
use Rattle.std.proofs.lemmas.List.Sorted.{searched}
use Rattle.ec_naming.proofs.Numbering.{variable_of-found, variable_of-missed, rising_le}
use Rattle.ec_encode.proofs.numbering.variable_of.Goals as goal

pub returns-in-Some : goal.returns-in-Some
returns-in-Some c =
    let seen = c.in-Some.ensures.lookup in
    let within : c.args.atom < length c.args.atoms.now = grind (arith, nat_tests, seen.0) in
    sym (variable_of-found c.args.atoms.now c.args.atom c.args.atom _ c.requires.rises within (sym seen.1 ∙ c.if-there-atom.true))

pub returns-in-Ok : goal.returns-in-Ok
returns-in-Ok c =
    let place = searched c.args.atoms.now c.args.atom (Ok c.in-Ok.place) c.in-Ok.ensures.position (rising_le c.args.atoms.now c.requires.rises) in
    sym (variable_of-found c.args.atoms.now c.args.atom c.in-Ok.place 0 c.requires.rises place.0 place.1)

pub returns-in-Err : goal.returns-in-Err
returns-in-Err c =
    let place = searched c.args.atoms.now c.args.atom (Err c.in-Err.field-0) c.in-Err.ensures.position (rising_le c.args.atoms.now c.requires.rises) in
    sym (variable_of-missed c.args.atoms.now c.args.atom c.in-Err.field-0 place.1 place.2)
