-- Formulas that are joined with others.
use Rattle.std.proofs.Common.{◌≡◌, ◌∷◌, [], List, length, refl, rules, ◌∙◌, ap}
use Rattle.std.specs.declared.vec.Vec.{Vec}
use Rattle.std.specs.declared.alloc.Global.{Global}
use Rattle.ec_syntax.specs.declared.tree.Tree.{Tree, And, Or, the_lemmas}
use Rattle.ec_syntax.specs.Written.{Formula, formula, and, or, all_of, any_of}
use Rattle.ec_syntax.specs.View.{formula_of, formulas_of}

and_of : (parts : Vec Tree Global) → formula_of (And parts) ≡ and (formulas_of parts.items)
and_of parts = search (rules, the_lemmas)

or_of : (parts : Vec Tree Global) → formula_of (Or parts) ≡ or (formulas_of parts.items)
or_of parts = search (rules, the_lemmas)

and_all : (a : Formula) (bs : List Tree) → (length bs ≡ 0 → ⊥) → and (formula a (formulas_of bs)) ≡ all_of a (formulas_of bs)
and_all a [] some = absurd (some refl)
and_all a (b ∷ bs) some = refl

or_any : (a : Formula) (bs : List Tree) → (length bs ≡ 0 → ⊥) → or (formula a (formulas_of bs)) ≡ any_of a (formulas_of bs)
or_any a [] some = absurd (some refl)
or_any a (b ∷ bs) some = refl

pub joined_by_and : (a : Formula) (bs : List Tree) (parts : Vec Tree Global) → (length bs ≡ 0 → ⊥) → formulas_of parts.items ≡ formula a (formulas_of bs) → formula_of (And parts) ≡ all_of a (formulas_of bs)
joined_by_and a bs parts some same = and_of parts ∙ ap and same ∙ and_all a bs some

pub joined_by_or : (a : Formula) (bs : List Tree) (parts : Vec Tree Global) → (length bs ≡ 0 → ⊥) → formulas_of parts.items ≡ formula a (formulas_of bs) → formula_of (Or parts) ≡ any_of a (formulas_of bs)
joined_by_or a bs parts some same = or_of parts ∙ ap or same ∙ or_any a bs some
