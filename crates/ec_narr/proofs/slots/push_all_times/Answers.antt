use Rattle.std.proofs.Common.{◌++◌, ◌∙◌, ℤ, List, ap, sym, rules, w64}
use Rattle.std.specs.List.{flat_map}
use Rattle.std.specs.Prelude.{FitsSigned}
use Rattle.std.proofs.lemmas.Int.{to_z-of_z}
use Rattle.std.proofs.lemmas.List.{append-nil}
use Rattle.ec_listing.specs.Slots.{Slot, time_slots}
use Rattle.ec_narr.specs.Slots.{slots_view}
use Rattle.ec_narr.proofs.TimeLemmas.{no_times, first_is, range_low, range_high, times_few, times_extent}
use Rattle.ec_narr.proofs.slots.push_all_times.Goals as goal

pub push_slots_from-requires-clause-first : goal.push_slots_from-requires-clause-first
push_slots_from-requires-clause-first c =
    let fits : FitsSigned w64 c.in-Some.first = search rules in
    simp to_z-of_z (first_is c.args.signature.now c.requires.valid c.range.result (rw c.time_sort-sort.ensures.number at c.range.ensures.range) c.in-Some.first c.in-Some.field-0-1 c.in-Some.is c.range.ensures.small)

pub push_slots_from-requires-clause-extent : goal.push_slots_from-requires-clause-extent
push_slots_from-requires-clause-extent c =
    let fits : FitsSigned w64 c.in-Some.first = search rules in
    simp to_z-of_z (times_extent c.args.signature.now c.requires.valid c.range.result (rw c.time_sort-sort.ensures.number at c.range.ensures.range) c.in-Some.first c.in-Some.field-0-1 c.in-Some.is c.range.ensures.small c.size_of-count.result (rw c.time_sort-sort.ensures.number at c.size_of-count.ensures))

pub push_slots_from-requires-clause-low : goal.push_slots_from-requires-clause-low
push_slots_from-requires-clause-low c =
    let fits : FitsSigned w64 c.in-Some.first = search rules in
    simp to_z-of_z (range_low c.args.signature.now c.requires.valid c.range.result (rw c.time_sort-sort.ensures.number at c.range.ensures.range) c.in-Some.first c.in-Some.field-0-1 c.in-Some.is c.range.ensures.small)

pub push_slots_from-requires-clause-high : goal.push_slots_from-requires-clause-high
push_slots_from-requires-clause-high c =
    let fits : FitsSigned w64 c.in-Some.first = search rules in
    simp to_z-of_z (range_high c.args.signature.now c.requires.valid c.range.result (rw c.time_sort-sort.ensures.number at c.range.ensures.range) c.in-Some.first c.in-Some.field-0-1 c.in-Some.is c.range.ensures.small)

pub push_slots_from-requires-clause-few : goal.push_slots_from-requires-clause-few
push_slots_from-requires-clause-few c = times_few c.args.signature.now c.requires.valid c.range.result (rw c.time_sort-sort.ensures.number at c.range.ensures.range) c.in-Some.first c.in-Some.field-0-1 c.in-Some.is c.range.ensures.small c.size_of-count.result (rw c.time_sort-sort.ensures.number at c.size_of-count.ensures)

pub returns-in-None : goal.returns-in-None
returns-in-None c =
    let none = no_times c.args.signature.now c.requires.valid c.range.result (rw c.time_sort-sort.ensures.number at c.range.ensures.range) c.in-None.is in
    let slots : List ℤ → List Slot = λ ts. slots_view c.args.out.now.items ++ flat_map (time_slots c.args.signature.now) ts in
    sym (append-nil (slots_view c.args.out.now.items)) ∙ ap slots (sym none)
