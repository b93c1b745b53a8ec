use Rattle.std.proofs.Common.{◌≡◌, ◌++◌, ◌+ℤ◌, ◌∙◌, ℤ, List, pos, ap, arith}
use Rattle.std.proofs.lemmas.Grind.{common_steps}
use Rattle.ec_listing.specs.Slots.{Slot, time_slots}
use Rattle.ec_logic.specs.Extent.{domain_of}
use Rattle.ec_logic.specs.Signature.{time_sort}
use Rattle.ec_logic.specs.Universe.{universe_of, domain}
use Rattle.ec_narr.specs.Slots.{slots_view}
use Rattle.ec_narr.proofs.LineLemmas.{next_line, last_line}
use Rattle.ec_narr.proofs.TimeLemmas.{time_at_step, time_before_step}
use Rattle.ec_narr.proofs.slots.push_slots_from.Goals as goal

pub push_time_slots-requires-clause-time : goal.push_time_slots-requires-clause-time
push_time_slots-requires-clause-time c = time_at_step (universe_of c.args.signature.now) c.args.first.0 c.args.count c.requires.extent c.loop-step.step c.time_after.result.0 c.loop-step-test.true c.time_after.ensures

pub push_time_slots-requires-clause-earlier : goal.push_time_slots-requires-clause-earlier
push_time_slots-requires-clause-earlier c = time_before_step (universe_of c.args.signature.now) c.args.first.0 c.args.count c.requires.extent c.loop-step.step c.time_after.result.0 c.loop-step-test.true c.time_after.ensures

pub loop-step-preserved : goal.loop-step-preserved
loop-step-preserved c =
    let slots = time_slots c.args.signature.now in
    let add : ℤ → List Slot = λ t. slots_view c.loop-step.out.items ++ slots t in
    next_line (λ k. c.args.first.0 +ℤ pos k) slots (slots_view c.args.out.now.items) c.loop-step.step (slots_view c.loop-step.out.items) (slots_view c.push_time_slots.new.out.items) c.loop-step.invariant (c.in_ok-push_time_slots.ensures ∙ ap add c.time_after.ensures)

pub returns : goal.returns
returns c =
    let slots = time_slots c.args.signature.now in
    let end : c.loop-step.step ≡ c.args.count = grind (arith, common_steps) in
    last_line (λ k. c.args.first.0 +ℤ pos k) slots (slots_view c.args.out.now.items) c.loop-step.step c.args.count (slots_view c.loop-step.out.items) (domain (universe_of c.args.signature.now) time_sort) end (ap domain_of c.requires.extent) c.loop-step.invariant
