use Rattle.std.proofs.Common.{◌≡◌, ◌+◌, Some, ap, sym, ◌∙◌, arith}
use Rattle.std.specs.Prelude.{slice_get}
use Rattle.ec_engine.specs.PartTexts.{released_fluents, symbol_of}
use Rattle.ec_engine.proofs.Released.{counted, name_there, released_from, without}
use Rattle.ec_engine.proofs.reasons.push_released.Goals as goal
use Rattle.ec_engine.proofs.reasons.push_released.Goals.{then-has_release_axiom+else-left-eq0, else-has_release_axiom}

pub returns-then-left-eq0 : goal.returns-then-left-eq0
returns-then-left-eq0 c =
    let here : released_from c.args.signature.now c.loop-fluent.fluent 0 ≡ slice_get (released_fluents c.args.signature.now) c.args.place
    = ap (released_from c.args.signature.now c.loop-fluent.fluent) (sym c.if-left-eq0.true) ∙ c.loop-fluent.invariant.left in
    let name : symbol_of (slice_get (released_fluents c.args.signature.now) c.args.place) ≡ c.fluent_name.result.now
    = name_there c.args.signature.now c.loop-fluent.fluent c.fluent_name.result.now (slice_get (released_fluents c.args.signature.now) c.args.place) (c.has_release_axiom.ensures ∙ ap Some c.if-has_release_axiom.true) c.fluent_name.ensures here in
    rw (name, sym c.bytes.ensures, sym c.loop-fluent.invariant.same) c.in_ok-extend_from_slice.ensures.items

pub loop-fluent-preserved : goal.loop-fluent-preserved
loop-fluent-preserved c = elim c.if-has_release_axiom.branch [
  | then-has_release_axiom+else-left-eq0 w ↦ record {
    same = c.loop-fluent.invariant.same;
    left = ap (released_from c.args.signature.now (c.loop-fluent.fluent + 1)) w.left-is ∙ counted c.args.signature.now c.loop-fluent.fluent c.loop-fluent.left (c.has_release_axiom.ensures ∙ ap Some w.if-has_release_axiom.true) (omega (arith, w.if-left-eq0.false)) ∙ c.loop-fluent.invariant.left;
  }
  | else-has_release_axiom w ↦ record {
    same = c.loop-fluent.invariant.same;
    left = ap (released_from c.args.signature.now (c.loop-fluent.fluent + 1)) w.left-is ∙ without c.args.signature.now c.loop-fluent.fluent c.loop-fluent.left (c.has_release_axiom.ensures ∙ ap Some w.if-has_release_axiom.false) ∙ c.loop-fluent.invariant.left;
  }
]
