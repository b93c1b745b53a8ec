use Rattle.std.proofs.Common.{◌≡◌, ap, ◌∙◌}
use Rattle.ec_listing.specs.Slots.{slots_of}
use Rattle.ec_narr.specs.Slots.{slots_view}
use Rattle.ec_narr.proofs.NextLemmas.{reader_of, readable_of}
use Rattle.ec_narr.proofs.reading.answer_of.Goals as goal

pub read-requires : goal.read-requires
read-requires c =
    let signature = c.args.theory.now.signature in
    let are : slots_view c.deref.result.now ≡ slots_of signature = ap slots_view c.deref.ensures.value ∙ c.in_ok-slots.ensures in
    let reader = reader_of signature c.args.atoms.now (slots_view c.deref.result.now) c.visible.result c.predicates-predicates.ensures.valid c.requires are c.visible.ensures.count in
    record { readable = readable_of signature (slots_view c.deref.result.now) c.visible.result reader }

pub returns : goal.returns
returns c =
    let signature = c.args.theory.now.signature in
    let are : slots_view c.deref.result.now ≡ slots_of signature = ap slots_view c.deref.ensures.value ∙ c.in_ok-slots.ensures in
    c.read.ensures signature (reader_of signature c.args.atoms.now (slots_view c.deref.result.now) c.visible.result c.predicates-predicates.ensures.valid c.requires are c.visible.ensures.count)
