use Rattle.std.proofs.Common.{◌≡◌, Some, None, ap, sym, subst, arith}
use Rattle.std.specs.Prelude.{vec_capacity}
use Rattle.ec_trail.specs.TrailList.{TrailList, entry_of}
use Rattle.ec_trail.proofs.Lookup.{entry_at, entry_past, entry_other}
use Rattle.ec_trail.proofs.BackTo.{some_entry}
use Rattle.ec_trail.proofs.trail.Trail.entry_of.Goals as goal

pub returns-then-place-len : goal.returns-then-place-len
returns-then-place-len c =
    let a = c.self.inside in
    let same_variables = ap (λ (t : TrailList). t.variables) c.self.view_is in
    let none = entry_past a.variables (vec_capacity a.entries) a.entries.items a.values a.places.items c.args.variable c.index.result.now some_entry c.self.invariant (omega arith) c.index.ensures (omega arith) in
    subst (λ (t : TrailList). None ≡ entry_of t.entries c.args.variable) c.self.view_is (sym none)

pub returns-then-variable : goal.returns-then-variable
returns-then-variable c =
    let a = c.self.inside in
    let same_variables = ap (λ (t : TrailList). t.variables) c.self.view_is in
    let none = entry_other a.variables (vec_capacity a.entries) a.entries.items a.values a.places.items c.args.variable c.index.result.now c.index-entry.result.now c.self.invariant (omega arith) c.index.ensures c.index-entry.ensures (λ same. omega arith) in
    subst (λ (t : TrailList). None ≡ entry_of t.entries c.args.variable) c.self.view_is (sym none)

pub returns : goal.returns
returns c =
    let a = c.self.inside in
    let same_variables = ap (λ (t : TrailList). t.variables) c.self.view_is in
    let some = entry_at a.variables (vec_capacity a.entries) a.entries.items a.values a.places.items c.args.variable c.index.result.now c.index-entry.result.now c.self.invariant (omega arith) c.index.ensures (omega arith) c.index-entry.ensures (omega arith) in
    subst (λ (t : TrailList). Some c.index-entry.result.now ≡ entry_of t.entries c.args.variable) c.self.view_is (sym some)
