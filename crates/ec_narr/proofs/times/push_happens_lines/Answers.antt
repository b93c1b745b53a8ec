use Rattle.std.proofs.Common.{◌≡◌, pos, ap, ◌∙◌, arith}
use Rattle.std.proofs.lemmas.Grind.{common_steps}
use Rattle.ec_logic.specs.Atom.{structure_of}
use Rattle.ec_logic.specs.Extent.{size_of}
use Rattle.ec_logic.specs.Narrative.{happens_line}
use Rattle.ec_logic.specs.Signature.{Signature, event_sort}
use Rattle.ec_logic.specs.Universe.{universe_of, extent_at, domain}
use Rattle.ec_narr.proofs.LineLemmas.{next_line, last_line, event_domain}
use Rattle.ec_narr.proofs.times.push_happens_lines.Goals as goal

pub push_happens_line-requires-clause-event : goal.push_happens_line-requires-clause-event
push_happens_line-requires-clause-event c =
    let count = c.events-event-end.ensures.count ∙ ap (λ (s : Signature). size_of (extent_at (universe_of s) event_sort)) c.requires.same in
    let low = c.loop-event-test.true in
    omega (arith, count, low)

pub loop-event-preserved : goal.loop-event-preserved
loop-event-preserved c = next_line pos (happens_line c.args.signature.now (structure_of (universe_of c.args.signature.now) c.args.truth.now) c.args.time.0) c.args.out.now.items c.loop-event.event c.loop-event.out.items c.push_happens_line.new.out.items c.loop-event.invariant c.in_ok-push_happens_line.ensures

pub returns : goal.returns
returns c =
    let count = c.events-event-end.ensures.count ∙ ap (λ (s : Signature). size_of (extent_at (universe_of s) event_sort)) c.requires.same in
    let end : c.loop-event.event ≡ c.events-event-end.result = grind (arith, common_steps) in
    last_line pos (happens_line c.args.signature.now (structure_of (universe_of c.args.signature.now) c.args.truth.now) c.args.time.0) c.args.out.now.items c.loop-event.event c.events-event-end.result c.loop-event.out.items
    (domain (universe_of c.args.signature.now) event_sort) end (event_domain c.args.signature.now c.requires.valid c.events-event-end.result count) c.loop-event.invariant
