use Rattle.std.proofs.Common.{◌++◌, ◌∙◌, [], ◌∷◌, List, map, ap}
use Rattle.ec_listing.specs.Slots.{Slot, fixed, fluent_slot, released_slot, happens_slot}
use Rattle.ec_logic.specs.Narrative.{integer_text}
use Rattle.ec_logic.specs.Signature.{event_sort, fluent_sort}
use Rattle.ec_logic.specs.Universe.{universe_of, domain}
use Rattle.ec_narr.specs.Slots.{slots_view}
use Rattle.ec_narr.proofs.SlotLemmas.{four}
use Rattle.ec_narr.proofs.slots.push_time_slots.Goals as goal

pub returns : goal.returns
returns c =
    let s = c.args.signature.now in
    let t = c.args.time.0 in
    let told = map (fluent_slot s t) (domain (universe_of s) fluent_sort) in
    let released = map (released_slot s t) (domain (universe_of s) fluent_sort) in
    let happening = map (happens_slot s t) (domain (universe_of s) event_sort) in
    let first : List Slot → List Slot = λ x. x ++ told ++ released ++ happening in
    let second : List Slot → List Slot = λ x. x ++ released ++ happening in
    let third : List Slot → List Slot = λ x. x ++ happening in
    c.in_ok-push_happens_slots.ensures ∙ (ap third c.in_ok-push_released_slots.ensures ∙ (ap second c.in_ok-push_fluent_slots.ensures ∙ (ap first c.in_ok-push_time_number.ensures ∙ four (slots_view c.args.out.now.items) (fixed (integer_text t) ∷ []) told released happening)))
