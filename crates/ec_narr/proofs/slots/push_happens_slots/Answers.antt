use Rattle.std.proofs.Common.{◌≡◌, pos, ap, ◌∙◌, arith}
use Rattle.std.proofs.lemmas.Grind.{common_steps}
use Rattle.ec_listing.specs.Slots.{happens_slot}
use Rattle.ec_logic.specs.Extent.{size_of}
use Rattle.ec_logic.specs.Signature.{Signature, event_sort}
use Rattle.ec_logic.specs.Universe.{universe_of, extent_at, domain}
use Rattle.ec_narr.specs.Slots.{slots_view}
use Rattle.ec_narr.proofs.LineLemmas.{event_domain}
use Rattle.ec_narr.proofs.SlotLemmas.{pushed, next_slot, last_slot}
use Rattle.ec_narr.proofs.slots.push_happens_slots.Goals as goal

pub happens_slot-requires-clause-event : goal.happens_slot-requires-clause-event
happens_slot-requires-clause-event c =
    let count = c.events-event-end.ensures.count ∙ ap (λ (s : Signature). size_of (extent_at (universe_of s) event_sort)) c.requires.same in
    let low = c.loop-event-test.true in
    omega (arith, count, low)

pub loop-event-preserved : goal.loop-event-preserved
loop-event-preserved c =
    let slot = happens_slot c.args.signature.now c.args.time.0 in
    next_slot pos slot (slots_view c.args.out.now.items) c.loop-event.event (slots_view c.loop-event.out.items) (slots_view c.push.new.self.items) c.loop-event.invariant
    (pushed c.loop-event.out.items c.push.new.self.items c.in_ok-slot.slot (slot (pos c.loop-event.event)) c.in_ok-push.ensures.items c.in_ok-slot.ensures)

pub returns : goal.returns
returns c =
    let count = c.events-event-end.ensures.count ∙ ap (λ (s : Signature). size_of (extent_at (universe_of s) event_sort)) c.requires.same in
    let end : c.loop-event.event ≡ c.events-event-end.result = grind (arith, common_steps) in
    last_slot pos (happens_slot c.args.signature.now c.args.time.0) (slots_view c.args.out.now.items) c.loop-event.event c.events-event-end.result (slots_view c.loop-event.out.items)
    (domain (universe_of c.args.signature.now) event_sort) end (event_domain c.args.signature.now c.requires.valid c.events-event-end.result count) c.loop-event.invariant
