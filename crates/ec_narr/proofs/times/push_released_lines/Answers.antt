use Rattle.std.proofs.Common.{◌≡◌, pos, ap, ◌∙◌, arith}
use Rattle.std.proofs.lemmas.Grind.{common_steps}
use Rattle.ec_logic.specs.Atom.{structure_of}
use Rattle.ec_logic.specs.Extent.{size_of}
use Rattle.ec_logic.specs.Narrative.{released_line}
use Rattle.ec_logic.specs.Signature.{Signature, fluent_sort}
use Rattle.ec_logic.specs.Universe.{universe_of, extent_at, domain}
use Rattle.ec_narr.proofs.LineLemmas.{next_line, last_line, fluent_domain}
use Rattle.ec_narr.proofs.times.push_released_lines.Goals as goal

pub push_released_line-requires-clause-fluent : goal.push_released_line-requires-clause-fluent
push_released_line-requires-clause-fluent c =
    let count = c.fluents-fluent-end.ensures.count ∙ ap (λ (s : Signature). size_of (extent_at (universe_of s) fluent_sort)) c.requires.same in
    let low = c.loop-fluent-test.true in
    omega (arith, count, low)

pub loop-fluent-preserved : goal.loop-fluent-preserved
loop-fluent-preserved c = next_line pos (released_line c.args.signature.now (structure_of (universe_of c.args.signature.now) c.args.truth.now) c.args.time.0) c.args.out.now.items c.loop-fluent.fluent c.loop-fluent.out.items c.push_released_line.new.out.items c.loop-fluent.invariant c.in_ok-push_released_line.ensures

pub returns : goal.returns
returns c =
    let count = c.fluents-fluent-end.ensures.count ∙ ap (λ (s : Signature). size_of (extent_at (universe_of s) fluent_sort)) c.requires.same in
    let end : c.loop-fluent.fluent ≡ c.fluents-fluent-end.result = grind (arith, common_steps) in
    last_line pos (released_line c.args.signature.now (structure_of (universe_of c.args.signature.now) c.args.truth.now) c.args.time.0) c.args.out.now.items c.loop-fluent.fluent c.fluents-fluent-end.result c.loop-fluent.out.items
    (domain (universe_of c.args.signature.now) fluent_sort) end (fluent_domain c.args.signature.now c.requires.valid c.fluents-fluent-end.result count) c.loop-fluent.invariant
