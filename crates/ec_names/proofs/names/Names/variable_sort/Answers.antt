use Rattle.std.proofs.Common.{◌≡◌, false, true, Some, sym, ap, subst, ◌∙◌}
use Rattle.ec_names.specs.Names.{is_among, sort_words}
use Rattle.ec_names.proofs.Lookups.{among-words}
use Rattle.ec_names.proofs.Variables.{IsStem, key-found, key-none, no-length, stem-empty, stem-found, stem-next, stem-none, stem-whole}
use Rattle.ec_names.proofs.names.Names.variable_sort.Goals as goal

pub loop-name-init : goal.loop-name-init
loop-name-init c = subst (IsStem (sort_words c.args.self.now) c.args.variable.now) (sym c.bytes-stem.ensures) (stem-whole (sort_words c.args.self.now) c.args.variable.now)

pub returns-in-Some : goal.returns-in-Some
returns-in-Some c =
    let found = key-found c.self.inside.sorts.entries c.loop-name.stem.now c.in-Some.name.now (sym c.in-Some.ensures.key) in
    let there = among-words c.self.inside.sorts.entries c.args.self.now c.loop-name.stem.now true (ap (λ n. n.sorts) c.self.view_is) found.1 in
    ap Some found.0 ∙ sym (stem-found (sort_words c.args.self.now) c.args.variable.now c.loop-name.stem.now c.loop-name.invariant there)

pub returns-in_default-split_last : goal.returns-in_default-split_last
returns-in_default-split_last c =
    let none = key-none c.self.inside.sorts.entries c.loop-name.stem.now (sym c.in_default.ensures.key) in
    let no_name = among-words c.self.inside.sorts.entries c.args.self.now c.loop-name.stem.now false (ap (λ n. n.sorts) c.self.view_is) none in
    let empty = no-length c.loop-name.stem.now c.in_default-split_last.ensures.cases in
    sym (stem-empty (sort_words c.args.self.now) c.args.variable.now (subst (IsStem (sort_words c.args.self.now) c.args.variable.now) empty c.loop-name.invariant) (subst (λ w. is_among w (sort_words c.args.self.now) ≡ false) empty no_name))

pub returns-then-not-is_ascii_digit : goal.returns-then-not-is_ascii_digit
returns-then-not-is_ascii_digit c =
    let none = key-none c.self.inside.sorts.entries c.loop-name.stem.now (sym c.in_default.ensures.key) in
    let no_name = among-words c.self.inside.sorts.entries c.args.self.now c.loop-name.stem.now false (ap (λ n. n.sorts) c.self.view_is) none in
    sym (stem-none (sort_words c.args.self.now) c.args.variable.now c.loop-name.stem.now c.in-Some-split_last.shorter.now c.in-Some-split_last.last.now c.loop-name.invariant no_name c.in-Some-split_last.ensures.cases.0 (sym c.is_ascii_digit.ensures.value ∙ c.if-not-is_ascii_digit.true))

pub loop-name-preserved : goal.loop-name-preserved
loop-name-preserved c =
    let none = key-none c.self.inside.sorts.entries c.loop-name.stem.now (sym c.in_default.ensures.key) in
    let no_name = among-words c.self.inside.sorts.entries c.args.self.now c.loop-name.stem.now false (ap (λ n. n.sorts) c.self.view_is) none in
    stem-next (sort_words c.args.self.now) c.args.variable.now c.loop-name.stem.now c.in-Some-split_last.shorter.now c.in-Some-split_last.last.now c.loop-name.invariant no_name c.in-Some-split_last.ensures.cases.0 (sym c.is_ascii_digit.ensures.value ∙ c.if-not-is_ascii_digit.false)
