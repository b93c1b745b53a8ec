-- Values of the program's types for trees: a theory is accepted where there are such values for its sentences.
use Rattle.std.proofs.Common.{◌≡◌, ◌<◌, ℕ, ℤ, List, [], ◌∷◌, length, Vec, Box, Global, rules, refl, ap, ◌∙◌, arith}
use denote.RawPtr.{null_ptr}
use Rattle.ec_logic.specs.Tree as tree
use Rattle.ec_theory.specs.declared.term.Term.{Term, Variable, Int, Event, Fluent, Sum, the_lemmas}
use Rattle.ec_theory.specs.declared.formula.Formula.{Formula, Atom, Equal, Not, And, Implies, ForAll, the_lemmas as formula_lemmas}
use Rattle.ec_theory.specs.View.{term_tree, term_trees, formula_tree, formula_trees}

-- ---- vectors and boxes

abbrev heap : Global
heap = record { memory = record { seal = tt } }

abbrev pub vec_of : {X : Type 0} → (xs : List X) → length xs < 64 → Vec X Global
vec_of xs few = record { ptr = null_ptr; len = length xs; cap = length xs; alloc = heap; items = xs; ok = (refl, omega arith); small = omega (arith, few) }

abbrev box_of : {X : Type 0} → X → Box X Global
box_of x = record { ptr = null_ptr; alloc = heap; value = x }

-- ---- how trees of values compute

variable-is : (k : ℕ) → term_tree (Variable k) ≡ tree.variable k
variable-is k = search (rules, the_lemmas)

int-is : (z : ℤ) → term_tree (Int z) ≡ tree.int z
int-is z = search (rules, the_lemmas)

event-is : (symbol : ℕ) (args : Vec Term Global) → term_tree (Event symbol args) ≡ tree.event symbol (term_trees args.items)
event-is symbol args = search (rules, the_lemmas)

fluent-is : (symbol : ℕ) (args : Vec Term Global) → term_tree (Fluent symbol args) ≡ tree.fluent symbol (term_trees args.items)
fluent-is symbol args = search (rules, the_lemmas)

sum-is : (a b : Box Term Global) → term_tree (Sum a b) ≡ tree.sum (term_tree a.value) (term_tree b.value)
sum-is a b = search (rules, the_lemmas)

atom-is : (p : ℕ) (args : Vec Term Global) → formula_tree (Atom p args) ≡ tree.atom p (term_trees args.items)
atom-is p args = search (rules, formula_lemmas)

equal-is : (a b : Term) → formula_tree (Equal a b) ≡ tree.equal (term_tree a) (term_tree b)
equal-is a b = search (rules, formula_lemmas)

not-is : (f : Box Formula Global) → formula_tree (Not f) ≡ tree.negation (formula_tree f.value)
not-is f = search (rules, formula_lemmas)

and-is : (fs : Vec Formula Global) → formula_tree (And fs) ≡ tree.all_of (formula_trees fs.items)
and-is fs = search (rules, formula_lemmas)

implies-is : (f g : Box Formula Global) → formula_tree (Implies f g) ≡ tree.implies (formula_tree f.value) (formula_tree g.value)
implies-is f g = search (rules, formula_lemmas)

for_all-is : (sort : ℕ) (scope : Box Formula Global) → formula_tree (ForAll sort scope) ≡ tree.for_all sort (formula_tree scope.value)
for_all-is sort scope = search (rules, formula_lemmas)

-- ---- terms

pub record HasTerm (t : tree.Term) : Type 0 where
  pub term : Term
  pub is : term_tree term ≡ t

pub record HasTerms (ts : tree.Terms) : Type 0 where
  pub terms : List Term
  pub few : length terms < 64
  pub are : term_trees terms ≡ ts

pub variable : (k : ℕ) → HasTerm (tree.variable k)
variable k = record { term = Variable k; is = variable-is k }

pub int : (z : ℤ) → HasTerm (tree.int z)
int z = record { term = Int z; is = int-is z }

pub one : {a : tree.Term} → HasTerm a → HasTerms (tree.term a tree.no_terms)
one a = record { terms = a.term ∷ []; few = omega arith; are = ap (λ t. tree.term t tree.no_terms) a.is }

abbrev pub two : {a b : tree.Term} → HasTerm a → HasTerm b → HasTerms (tree.term a (tree.term b tree.no_terms))
two {a} {b} s t = record {
  terms = s.term ∷ t.term ∷ [];
  few = omega arith;
  are = ap (λ x. tree.term x (term_trees (t.term ∷ []))) s.is ∙ ap (λ x. tree.term a (tree.term x tree.no_terms)) t.is;
}

pub three : {a b c : tree.Term} → HasTerm a → HasTerm b → HasTerm c → HasTerms (tree.term a (tree.term b (tree.term c tree.no_terms)))
three {a} {b} {c} s t u = record {
  terms = s.term ∷ t.term ∷ u.term ∷ [];
  few = omega arith;
  are = ap (λ x. tree.term x (term_trees (t.term ∷ u.term ∷ []))) s.is ∙ ap (tree.term a) (two t u).are;
}

pub event : (symbol : ℕ) {ts : tree.Terms} → HasTerms ts → HasTerm (tree.event symbol ts)
event symbol args = record { term = Event symbol (vec_of args.terms args.few); is = event-is symbol (vec_of args.terms args.few) ∙ ap (tree.event symbol) args.are }

pub fluent : (symbol : ℕ) {ts : tree.Terms} → HasTerms ts → HasTerm (tree.fluent symbol ts)
fluent symbol args = record { term = Fluent symbol (vec_of args.terms args.few); is = fluent-is symbol (vec_of args.terms args.few) ∙ ap (tree.fluent symbol) args.are }

pub sum : {a b : tree.Term} → HasTerm a → HasTerm b → HasTerm (tree.sum a b)
sum {a} s t = record { term = Sum (box_of s.term) (box_of t.term); is = sum-is (box_of s.term) (box_of t.term) ∙ (ap (λ x. tree.sum x (term_tree t.term)) s.is ∙ ap (tree.sum a) t.is) }

-- ---- formulas

pub record HasFormula (f : tree.Formula) : Type 0 where
  pub formula : Formula
  pub is : formula_tree formula ≡ f

pub atom : (p : ℕ) {ts : tree.Terms} → HasTerms ts → HasFormula (tree.atom p ts)
atom p args = record { formula = Atom p (vec_of args.terms args.few); is = atom-is p (vec_of args.terms args.few) ∙ ap (tree.atom p) args.are }

pub equal : {a b : tree.Term} → HasTerm a → HasTerm b → HasFormula (tree.equal a b)
equal {a} s t = record { formula = Equal s.term t.term; is = equal-is s.term t.term ∙ (ap (λ x. tree.equal x (term_tree t.term)) s.is ∙ ap (tree.equal a) t.is) }

pub negation : {f : tree.Formula} → HasFormula f → HasFormula (tree.negation f)
negation f = record { formula = Not (box_of f.formula); is = not-is (box_of f.formula) ∙ ap tree.negation f.is }

pub both : {f g : tree.Formula} → HasFormula f → HasFormula g → HasFormula (tree.all_of (tree.formula f (tree.formula g tree.no_formulas)))
both {f} {g} s t = record {
  formula = And (vec_of (s.formula ∷ t.formula ∷ []) (omega arith));
  is = and-is (vec_of (s.formula ∷ t.formula ∷ []) (omega arith))
      ∙ (ap (λ x. tree.all_of (tree.formula x (formula_trees (t.formula ∷ [])))) s.is ∙ ap (λ x. tree.all_of (tree.formula f (tree.formula x tree.no_formulas))) t.is);
}

pub implies : {f g : tree.Formula} → HasFormula f → HasFormula g → HasFormula (tree.implies f g)
implies {f} s t = record {
  formula = Implies (box_of s.formula) (box_of t.formula);
  is = implies-is (box_of s.formula) (box_of t.formula) ∙ (ap (λ x. tree.implies x (formula_tree t.formula)) s.is ∙ ap (tree.implies f) t.is);
}

pub for_all : (sort : ℕ) {f : tree.Formula} → HasFormula f → HasFormula (tree.for_all sort f)
for_all sort f = record { formula = ForAll sort (box_of f.formula); is = for_all-is sort (box_of f.formula) ∙ ap (tree.for_all sort) f.is }
