use Rattle.std.proofs.Common.{◌≡◌, pos, ap, ◌∙◌, arith}
use Rattle.std.proofs.lemmas.Grind.{common_steps}
use Rattle.ec_listing.specs.Slots.{released_slot}
use Rattle.ec_logic.specs.Extent.{size_of}
use Rattle.ec_logic.specs.Signature.{Signature, fluent_sort}
use Rattle.ec_logic.specs.Universe.{universe_of, extent_at, domain}
use Rattle.ec_narr.specs.Slots.{slots_view}
use Rattle.ec_narr.proofs.LineLemmas.{fluent_domain}
use Rattle.ec_narr.proofs.SlotLemmas.{pushed, next_slot, last_slot}
use Rattle.ec_narr.proofs.slots.push_released_slots.Goals as goal

pub released_slot-requires-clause-fluent : goal.released_slot-requires-clause-fluent
released_slot-requires-clause-fluent c =
    let count = c.fluents-fluent-end.ensures.count ∙ ap (λ (s : Signature). size_of (extent_at (universe_of s) fluent_sort)) c.requires.same in
    let low = c.loop-fluent-test.true in
    omega (arith, count, low)

pub loop-fluent-preserved : goal.loop-fluent-preserved
loop-fluent-preserved c =
    let slot = released_slot c.args.signature.now c.args.time.0 in
    next_slot pos slot (slots_view c.args.out.now.items) c.loop-fluent.fluent (slots_view c.loop-fluent.out.items) (slots_view c.push.new.self.items) c.loop-fluent.invariant
    (pushed c.loop-fluent.out.items c.push.new.self.items c.in_ok-slot.slot (slot (pos c.loop-fluent.fluent)) c.in_ok-push.ensures.items c.in_ok-slot.ensures)

pub returns : goal.returns
returns c =
    let count = c.fluents-fluent-end.ensures.count ∙ ap (λ (s : Signature). size_of (extent_at (universe_of s) fluent_sort)) c.requires.same in
    let end : c.loop-fluent.fluent ≡ c.fluents-fluent-end.result = grind (arith, common_steps) in
    last_slot pos (released_slot c.args.signature.now c.args.time.0) (slots_view c.args.out.now.items) c.loop-fluent.fluent c.fluents-fluent-end.result (slots_view c.loop-fluent.out.items)
    (domain (universe_of c.args.signature.now) fluent_sort) end (fluent_domain c.args.signature.now c.requires.valid c.fluents-fluent-end.result count) c.loop-fluent.invariant
