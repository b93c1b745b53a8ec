-- What the pieces spell of which the sample's statements are made, before any rest.
use Rattle.std.proofs.Common.{◌≡◌, ℕ, ◌<◌, false, List, [], ◌∷◌, refl, codes}
use Rattle.ec_lex.specs.declared.token.Kind.TheVariants as kind
use Rattle.ec_syntax.specs.Written.{Term, Terms, no_terms, term, Formula, Formulas}
use Rattle.ec_syntax.specs.Written as w
use Rattle.ec_parse.specs.Mark.{Mark, mark_by}
use Rattle.ec_parse.specs.Mark as m
use Rattle.ec_parse.specs.Terms.{IsTerm, products, factors, digits, variable_alone, no_factor, no_product, AreArguments, application, full, terms, no_more, one_more}
use Rattle.ec_parse.specs.Lists.{IsVariable, AreParted, parted}
use Rattle.ec_parse.specs.Lists as list
use Rattle.ec_parse.specs.Formulas.{goes_on, joins, predicate, IsUnary, negation, every, atomic, Scope, scope, IsConjunction, conjunction, conjunct, no_conjunct, IsDisjunction, disjunction, no_disjunct, IsImplication, plain, implication, IsFormula, implications, no_side}
use Rattle.ec_sampled.specs.Book.{step, time, the_step, the_time, done_of, happens, done_at}

-- ---- marks

-- the mark of a sign
abbrev pub marked : List ℕ → Mark
marked spelled = mark_by kind.Sign spelled

abbrev pub open_mark : Mark
open_mark = marked (codes "(")

abbrev pub close_mark : Mark
close_mark = marked (codes ")")

abbrev pub comma_mark : Mark
comma_mark = marked (codes ",")

-- `name(step)`, before a rest
abbrev pub step_marks : List ℕ → List Mark → List Mark
step_marks name rest = m.upper name ∷ open_mark ∷ m.lower step ∷ close_mark ∷ rest

-- `,time)`, before a rest
abbrev pub time_marks : Mark → List Mark → List Mark
time_marks t rest = comma_mark ∷ t ∷ close_mark ∷ rest

-- ---- terms

pub variable_term : (v : List ℕ) (rest : List Mark) → IsTerm (m.lower v ∷ rest) (w.variable v) rest
variable_term v rest = products (factors (variable_alone refl) no_factor) no_product

pub number_term : (n : ℕ) (rest : List Mark) → IsTerm (m.number n ∷ rest) (w.number n) rest
number_term n rest = products (factors digits no_factor) no_product

pub name_term : (n : List ℕ) (ms : List Mark) (bs : Terms) (rest : List Mark) → AreArguments ms bs rest → IsTerm (m.upper n ∷ ms) (w.name n bs) rest
name_term n ms bs rest d = products (factors (application d) no_factor) no_product

-- one argument
pub one_argument : (a : Term) (ms rest : List Mark) → IsTerm ms a (close_mark ∷ rest) → AreArguments (open_mark ∷ ms) (term a no_terms) rest
one_argument a ms rest d = full (terms d no_more)

-- two arguments
pub two_arguments : (a b : Term) (ms mid rest : List Mark) → IsTerm ms a (comma_mark ∷ mid) → IsTerm mid b (close_mark ∷ rest) → AreArguments (open_mark ∷ ms) (term a (term b no_terms)) rest
two_arguments a b ms mid rest d e = full (terms d (one_more e no_more))

pub three_arguments : (a b c : Term) (ms mid end rest : List Mark) → IsTerm ms a (comma_mark ∷ mid) → IsTerm mid b (comma_mark ∷ end) → IsTerm end c (close_mark ∷ rest)
    → AreArguments (open_mark ∷ ms) (term a (term b (term c no_terms))) rest
three_arguments a b c ms mid end rest d e f = full (terms d (one_more e (one_more f no_more)))

pub of_step_term : (name : List ℕ) (rest : List Mark) → IsTerm (step_marks name rest) (w.name name (term the_step no_terms)) rest
of_step_term name rest = name_term name _ _ rest (one_argument the_step _ rest (variable_term step _))

-- ---- formulas

pub atom_unary : (n : List ℕ) (ms : List Mark) (bs : Terms) (rest : List Mark) → AreArguments ms bs rest → goes_on rest ≡ false → IsUnary (m.upper n ∷ ms) (w.atom n bs) rest
atom_unary n ms bs rest d e = atomic (predicate d e)

pub alone_conjunction : (a : Formula) (ms rest : List Mark) → IsUnary ms a rest → IsConjunction ms a rest
alone_conjunction a ms rest d = conjunction d no_conjunct

pub alone_disjunction : (a : Formula) (ms rest : List Mark) → IsConjunction ms a rest → IsDisjunction ms a rest
alone_disjunction a ms rest d = disjunction d no_disjunct

pub alone_implication : (a : Formula) (ms rest : List Mark) → IsUnary ms a rest → IsImplication ms a rest
alone_implication a ms rest d = plain (alone_disjunction a ms rest (alone_conjunction a ms rest d))

pub alone_formula : (a : Formula) (ms rest : List Mark) → IsUnary ms a rest → IsFormula ms a rest
alone_formula a ms rest d = implications (alone_implication a ms rest d) no_side

-- `a -> b`
pub implies_formula : (a b : Formula) (ms mid rest : List Mark) → IsConjunction ms a (marked (codes "->") ∷ mid) → IsUnary mid b rest → IsFormula ms (w.implies a b) rest
implies_formula a b ms mid rest d e = implications (implication (alone_disjunction a ms _ d) (alone_implication b mid rest e)) no_side

-- `a & b`
pub both_conjunction : (a b : Formula) (ms mid rest : List Mark) → IsUnary ms a (marked (codes "&") ∷ mid) → IsUnary mid b rest
    → IsConjunction ms (w.and (w.formula a (w.formula b w.no_formulas))) rest
both_conjunction a b ms mid rest d e = conjunction d (conjunct e no_conjunct)

-- `!a`
pub not_unary : (a : Formula) (ms rest : List Mark) → IsUnary ms a rest → IsUnary (marked (codes "!") ∷ ms) (w.not a) rest
not_unary a ms rest d = negation d

-- ---- atoms

pub happens_unary : (event : Term) (ms rest : List Mark) → IsTerm ms event (time_marks (m.lower time) rest) → goes_on rest ≡ false
    → IsUnary (m.upper (codes "Happens") ∷ open_mark ∷ ms) (happens event) rest
happens_unary event ms rest d e = atom_unary (codes "Happens") _ _ rest (two_arguments event the_time ms _ rest d (variable_term time _)) e

pub done_unary : (t : Term) (x : Mark) (rest : List Mark) → ((behind : List Mark) → IsTerm (x ∷ behind) t behind) → goes_on rest ≡ false
    → IsUnary (m.upper (codes "HoldsAt") ∷ open_mark ∷ step_marks (codes "Done") (time_marks x rest)) (done_at t) rest
done_unary t x rest d e = atom_unary (codes "HoldsAt") _ _ rest (two_arguments (done_of the_step) t _ _ rest (of_step_term (codes "Done") _) (d _)) e

-- ---- quantifiers

-- `[` names `]` and a formula that nothing goes on behind
pub every_formula : (names : List (List ℕ)) (a : Formula) (ms mid rest : List Mark) → AreParted IsVariable ms names (marked (codes "]") ∷ mid) → IsFormula mid a rest → joins rest < 1
    → IsFormula (marked (codes "[") ∷ ms) (w.for_all names a) rest
every_formula names a ms mid rest d e l =
    let x : Scope = record { names = names; within = a } in
    alone_formula (w.for_all names a) _ rest (every {x = x} (scope d e l))

pub step_parted : (rest : List Mark) → AreParted IsVariable (m.lower step ∷ rest) (step ∷ []) rest
step_parted rest = parted (list.variable refl) list.no_more

pub step_and_time_parted : (rest : List Mark) → AreParted IsVariable (m.lower step ∷ comma_mark ∷ m.lower time ∷ rest) (step ∷ time ∷ []) rest
step_and_time_parted rest = parted (list.variable refl) (list.one_more (list.variable refl) list.no_more)
