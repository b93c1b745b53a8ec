use Rattle.std.proofs.Common.{◌≡◌, ◌≢◌, [], false, length, sym, ap, subst, ◌∙◌}
use Rattle.std.proofs.lemmas.List.{length-replicate}
use Rattle.ec_listing.specs.Passing.{IsReached, IsBroken}
use Rattle.ec_listing.specs.Reading.{ComesAfter}
use Rattle.ec_narr.specs.Slots.{slots_view}
use Rattle.ec_narr.proofs.NextLemmas.{model_next, model_falls, model_breaks, nothing_left, something_left}
use Rattle.ec_narr.proofs.JunctureLemmas.{not_so, true_and_false}
use Rattle.ec_narr.proofs.reading.Reader.narrative.Goals as goal
use Rattle.ec_narr.proofs.reading.Reader.narrative.Goals.{then-is_empty, else-is_empty}

pub returns-in-Broken-clause-next : goal.returns-in-Broken-clause-next
returns-in-Broken-clause-next c = λ signature reader.
    let r = c.args.self.now in
    let whole : length c.in_ok-truth.truth ≡ r.visible = ap length c.in_ok-truth.ensures ∙ length-replicate r.visible false in
    model_breaks signature c.args.models.now (slots_view r.slots.now) r.visible reader c.args.bytes.now c.args.behind.now c.requires.model c.read_slots.new.truth c.in-Broken.rest.now
    (subst (λ n. IsBroken n (slots_view r.slots.now) c.read_slots.new.truth c.args.behind.now c.in-Broken.rest.now) whole c.in-Broken.ensures)

pub returns-then-comes_after-clause-next : goal.returns-then-comes_after-clause-next
returns-then-comes_after-clause-next c = λ signature reader.
    let r = c.args.self.now in
    let whole : length c.in_ok-truth.truth ≡ r.visible = ap length c.in_ok-truth.ensures ∙ length-replicate r.visible false in
    let after : c.in-Whole.rest.now ≢ [] → ComesAfter c.args.models.now c.read_slots.new.truth =
    elim c.if-is_empty.branch [
      | then-is_empty w ↦ λ some. absurd (some (nothing_left c.in-Whole.rest.now c.is_empty.result c.is_empty.ensures w.if-is_empty.true))
      | else-is_empty w ↦ λ some. w.comes_after.ensures.0 (sym w.value-is ∙ c.if-comes_after.true)
    ] in
    model_next signature c.args.models.now (slots_view r.slots.now) r.visible reader c.args.bytes.now c.args.behind.now c.requires.model c.read_slots.new.truth c.in-Whole.rest.now
    (subst (λ n. IsReached n (slots_view r.slots.now) (slots_view r.slots.now) [] c.read_slots.new.truth c.args.behind.now c.in-Whole.rest.now) whole c.in-Whole.ensures) after

pub returns-clause-next : goal.returns-clause-next
returns-clause-next c = λ signature reader.
    let r = c.args.self.now in
    let whole : length c.in_ok-truth.truth ≡ r.visible = ap length c.in_ok-truth.ensures ∙ length-replicate r.visible false in
    let reached : IsReached r.visible (slots_view r.slots.now) (slots_view r.slots.now) [] c.read_slots.new.truth c.args.behind.now c.in-Whole.rest.now =
    subst (λ n. IsReached n (slots_view r.slots.now) (slots_view r.slots.now) [] c.read_slots.new.truth c.args.behind.now c.in-Whole.rest.now) whole c.in-Whole.ensures in
    let some : c.in-Whole.rest.now ≢ [] = elim c.if-is_empty.branch [
      | then-is_empty w ↦ absurd (true_and_false c.if-is_empty.value (w.value-is ∙ w.if-is_empty.true) c.if-comes_after.false)
      | else-is_empty w ↦ something_left c.in-Whole.rest.now c.is_empty.result c.is_empty.ensures w.if-is_empty.false
    ] in
    let not_after : ComesAfter c.args.models.now c.read_slots.new.truth → ⊥ = elim c.if-is_empty.branch [
      | then-is_empty w ↦ absurd (true_and_false c.if-is_empty.value (w.value-is ∙ w.if-is_empty.true) c.if-comes_after.false)
      | else-is_empty w ↦ not_so w.comes_after.result w.comes_after.ensures (sym w.value-is ∙ c.if-comes_after.false)
    ] in
    model_falls signature c.args.models.now (slots_view r.slots.now) r.visible reader c.args.bytes.now c.args.behind.now c.requires.model c.read_slots.new.truth c.in-Whole.rest.now reached some not_after
