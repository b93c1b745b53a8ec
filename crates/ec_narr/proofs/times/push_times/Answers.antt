use Rattle.std.proofs.Common.{◌++◌, ◌∙◌, ℕ, ℤ, List, ap, sym, rules, w64}
use Rattle.std.specs.List.{flat_map}
use Rattle.std.specs.Prelude.{FitsSigned}
use Rattle.std.proofs.lemmas.Int.{to_z-of_z}
use Rattle.std.proofs.lemmas.List.{append-nil}
use Rattle.ec_logic.specs.Atom.{structure_of}
use Rattle.ec_logic.specs.Narrative.{time_lines}
use Rattle.ec_logic.specs.Universe.{universe_of}
use Rattle.ec_narr.proofs.TimeLemmas.{no_times, first_is, range_low, range_high, times_few, times_extent}
use Rattle.ec_narr.proofs.times.push_times.Goals as goal

pub push_times_from-requires-clause-first : goal.push_times_from-requires-clause-first
push_times_from-requires-clause-first c =
    let fits : FitsSigned w64 c.in-Some.first = search rules in
    simp to_z-of_z (first_is c.args.signature.now c.requires.valid c.range.result (rw c.time_sort-sort.ensures.number at c.range.ensures.range) c.in-Some.first c.in-Some.field-0-1 c.in-Some.is c.range.ensures.small)

pub push_times_from-requires-clause-extent : goal.push_times_from-requires-clause-extent
push_times_from-requires-clause-extent c =
    let fits : FitsSigned w64 c.in-Some.first = search rules in
    simp to_z-of_z (times_extent c.args.signature.now c.requires.valid c.range.result (rw c.time_sort-sort.ensures.number at c.range.ensures.range) c.in-Some.first c.in-Some.field-0-1 c.in-Some.is c.range.ensures.small c.size_of-count.result (rw c.time_sort-sort.ensures.number at c.size_of-count.ensures))

pub push_times_from-requires-clause-low : goal.push_times_from-requires-clause-low
push_times_from-requires-clause-low c =
    let fits : FitsSigned w64 c.in-Some.first = search rules in
    simp to_z-of_z (range_low c.args.signature.now c.requires.valid c.range.result (rw c.time_sort-sort.ensures.number at c.range.ensures.range) c.in-Some.first c.in-Some.field-0-1 c.in-Some.is c.range.ensures.small)

pub push_times_from-requires-clause-high : goal.push_times_from-requires-clause-high
push_times_from-requires-clause-high c =
    let fits : FitsSigned w64 c.in-Some.first = search rules in
    simp to_z-of_z (range_high c.args.signature.now c.requires.valid c.range.result (rw c.time_sort-sort.ensures.number at c.range.ensures.range) c.in-Some.first c.in-Some.field-0-1 c.in-Some.is c.range.ensures.small)

pub push_times_from-requires-clause-few : goal.push_times_from-requires-clause-few
push_times_from-requires-clause-few c = times_few c.args.signature.now c.requires.valid c.range.result (rw c.time_sort-sort.ensures.number at c.range.ensures.range) c.in-Some.first c.in-Some.field-0-1 c.in-Some.is c.range.ensures.small c.size_of-count.result (rw c.time_sort-sort.ensures.number at c.size_of-count.ensures)

pub returns-in-None : goal.returns-in-None
returns-in-None c =
    let none = no_times c.args.signature.now c.requires.valid c.range.result (rw c.time_sort-sort.ensures.number at c.range.ensures.range) c.in-None.is in
    let lines : List ℤ → List ℕ = λ ts. c.args.out.now.items ++ flat_map (time_lines c.args.signature.now (structure_of (universe_of c.args.signature.now) c.args.truth.now)) ts in
    sym (append-nil c.args.out.now.items) ∙ ap lines (sym none)
