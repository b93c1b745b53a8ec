use Rattle.std.proofs.Common.{ap, sym, ◌∙◌}
use Rattle.std.proofs.lemmas.List.{length-map}
use Rattle.ec_parse.specs.Cut.{is_stop, up_to}
use Rattle.ec_parse.specs.Mark.{seen, seen_all}
use Rattle.ec_parse.proofs.Marks.{position-map}
use Rattle.ec_parse.proofs.cut.sentence.Goals as goal

pub returns-in-Some-clause-value : goal.returns-in-Some-clause-value
returns-in-Some-clause-value c =
    let e = sym c.in-Some.is ∙ c.stop_at.ensures.value ∙ sym (position-map is_stop seen c.args.marks.now) in
    ap (up_to (seen_all c.args.marks.now)) e

pub returns-in-None-clause-value : goal.returns-in-None-clause-value
returns-in-None-clause-value c =
    let e = sym c.in-None.is ∙ c.stop_at.ensures.value ∙ sym (position-map is_stop seen c.args.marks.now) in
    sym (length-map c.args.marks.now seen) ∙ ap (up_to (seen_all c.args.marks.now)) e
