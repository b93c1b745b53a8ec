use Rattle.std.proofs.Common.{◌≡◌, ◌++◌, ℕ, List, ap, sym, subst, ◌∙◌}
use Rattle.std.specs.Prelude.{OnOk}
use Rattle.ec_logic.specs.Narrative.{event_text, fluent_text}
use Rattle.ec_narr.proofs.GroundLemmas.{event_place, fluent_place, value_of_event, value_of_fluent}
use Rattle.ec_narr.proofs.ground.push_value.Goals as goal

pub place_of-requires : goal.place_of-requires
place_of-requires c = (event_place c.args.signature.now c.args.sort c.args.value.0 c.requires.valid (rw c.in-Event.is at c.kind.ensures.kind) c.requires.within).low

pub push_event-requires-clause-within : goal.push_event-requires-clause-within
push_event-requires-clause-within c = (event_place c.args.signature.now c.args.sort c.args.value.0 c.requires.valid (rw c.in-Event.is at c.kind.ensures.kind) c.requires.within).within c.place_of.result c.place_of.ensures

pub returns-in-Event : goal.returns-in-Event
returns-in-Event c =
    let same = ap (event_text c.args.signature.now) c.place_of.ensures ∙ sym (value_of_event c.args.signature.now c.args.sort c.args.value.0 (rw c.in-Event.is at c.kind.ensures.kind)) in
    let Q : List ℕ → Type 0 = λ t. OnOk c.push_event.result (c.push_event.new.out.items ≡ c.args.out.now.items ++ t) in
    subst Q same c.push_event.ensures

pub place_of-requires-in-Fluent : goal.place_of-requires-in-Fluent
place_of-requires-in-Fluent c = (fluent_place c.args.signature.now c.args.sort c.args.value.0 c.requires.valid (rw c.in-Fluent.is at c.kind.ensures.kind) c.requires.within).low

pub push_fluent-requires-clause-within : goal.push_fluent-requires-clause-within
push_fluent-requires-clause-within c = (fluent_place c.args.signature.now c.args.sort c.args.value.0 c.requires.valid (rw c.in-Fluent.is at c.kind.ensures.kind) c.requires.within).within c.place_of-in-Fluent.result c.place_of-in-Fluent.ensures

pub returns-in-Fluent : goal.returns-in-Fluent
returns-in-Fluent c =
    let same = ap (fluent_text c.args.signature.now) c.place_of-in-Fluent.ensures ∙ sym (value_of_fluent c.args.signature.now c.args.sort c.args.value.0 (rw c.in-Fluent.is at c.kind.ensures.kind)) in
    let Q : List ℕ → Type 0 = λ t. OnOk c.push_fluent.result (c.push_fluent.new.out.items ≡ c.args.out.now.items ++ t) in
    subst Q same c.push_fluent.ensures
