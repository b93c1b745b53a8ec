use Rattle.std.proofs.Common.{◌≡◌, ◌<◌, None, length, get_or, ap, sym, subst, ◌∙◌, arith}
use Rattle.std.specs.Prelude.{IfSome, slice_get, slice_index_or, vec_capacity}
use Rattle.std.proofs.lemmas.Option.{slice_get-get_or}
use Rattle.ec_trail.specs.TrailList.{TrailList, truth_of}
use Rattle.ec_trail.specs.declared.trail.Entry.{Entry}
use Rattle.ec_trail.proofs.Lookup.{entry_past, entry_other, none_value}
use Rattle.ec_trail.proofs.BackTo.{some_entry}
use Rattle.ec_trail.proofs.trail.Trail.place.Goals as goal

pub returns-then-place-len-clause-none : goal.returns-then-place-len-clause-none
returns-then-place-len-clause-none c =
    let a = c.self.inside in
    let same_variables = ap (λ (t : TrailList). t.variables) c.self.view_is in
    let none = entry_past a.variables (vec_capacity a.entries) a.entries.items a.values a.places.items c.args.variable c.index-place.result.now some_entry c.self.invariant (omega arith) c.index-place.ensures (omega arith) in
    subst (λ (t : TrailList). slice_index_or (truth_of t) c.args.variable None ≡ None) c.self.view_is (none_value a.variables a.entries.items c.args.variable none)

pub returns-then-variable-clause-none : goal.returns-then-variable-clause-none
returns-then-variable-clause-none c =
    let a = c.self.inside in
    let same_variables = ap (λ (t : TrailList). t.variables) c.self.view_is in
    let none = entry_other a.variables (vec_capacity a.entries) a.entries.items a.values a.places.items c.args.variable c.index-place.result.now c.index-entry.result.now c.self.invariant (omega arith) c.index-place.ensures c.index-entry.ensures (λ same. omega arith) in
    subst (λ (t : TrailList). slice_index_or (truth_of t) c.args.variable None ≡ None) c.self.view_is (none_value a.variables a.entries.items c.args.variable none)

pub returns-clause-there : goal.returns-clause-there
returns-clause-there c =
    let a = c.self.inside in
    let i = c.index-place.result.now in
    let e = c.index-entry.result.now in
    let lt : i < length a.entries.items = omega arith in
    let is : (get_or a.entries.items i e).lit.variable ≡ c.args.variable = omega (arith, ap (λ (x : Entry). x.lit.variable) c.index-entry.ensures, c.variable.ensures.variable) in
    subst (λ (t : TrailList). IfSome (slice_get t.entries i) (λ x. x.lit.variable ≡ c.args.variable)) c.self.view_is (rw (slice_get-get_or a.entries.items i e lt) is)
