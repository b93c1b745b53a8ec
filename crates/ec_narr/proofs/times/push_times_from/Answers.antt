use Rattle.std.proofs.Common.{◌≡◌, ◌++◌, ◌+ℤ◌, ◌∙◌, ℕ, ℤ, List, pos, ap, arith}
use Rattle.std.proofs.lemmas.Grind.{common_steps}
use Rattle.ec_logic.specs.Atom.{structure_of}
use Rattle.ec_logic.specs.Extent.{domain_of}
use Rattle.ec_logic.specs.Narrative.{time_lines}
use Rattle.ec_logic.specs.Signature.{time_sort}
use Rattle.ec_logic.specs.Universe.{universe_of, domain}
use Rattle.ec_narr.proofs.LineLemmas.{next_line, last_line}
use Rattle.ec_narr.proofs.TimeLemmas.{time_at_step, time_before_step}
use Rattle.ec_narr.proofs.times.push_times_from.Goals as goal

pub push_time-requires-clause-time : goal.push_time-requires-clause-time
push_time-requires-clause-time c = time_at_step (universe_of c.args.signature.now) c.args.first.0 c.args.count c.requires.extent c.loop-step.step c.time_after.result.0 c.loop-step-test.true c.time_after.ensures

pub push_time-requires-clause-earlier : goal.push_time-requires-clause-earlier
push_time-requires-clause-earlier c = time_before_step (universe_of c.args.signature.now) c.args.first.0 c.args.count c.requires.extent c.loop-step.step c.time_after.result.0 c.loop-step-test.true c.time_after.ensures

pub loop-step-preserved : goal.loop-step-preserved
loop-step-preserved c =
    let lines = time_lines c.args.signature.now (structure_of (universe_of c.args.signature.now) c.args.truth.now) in
    let add : ℤ → List ℕ = λ t. c.loop-step.out.items ++ lines t in
    next_line (λ k. c.args.first.0 +ℤ pos k) lines c.args.out.now.items c.loop-step.step c.loop-step.out.items c.push_time.new.out.items c.loop-step.invariant (c.in_ok-push_time.ensures ∙ ap add c.time_after.ensures)

pub returns : goal.returns
returns c =
    let lines = time_lines c.args.signature.now (structure_of (universe_of c.args.signature.now) c.args.truth.now) in
    let end : c.loop-step.step ≡ c.args.count = grind (arith, common_steps) in
    last_line (λ k. c.args.first.0 +ℤ pos k) lines c.args.out.now.items c.loop-step.step c.args.count c.loop-step.out.items (domain (universe_of c.args.signature.now) time_sort) end (ap domain_of c.requires.extent) c.loop-step.invariant
