-- Which formula a list of marks spells, before a rest.
use Rattle.std.specs.Prelude.{◌≡◌, ℕ, ◌<◌, Bool, true, false, List, [], ◌∷◌, Option, Some, None}
use Rattle.ec_parse.specs.declared.mark.Sign.{Sign}
use Rattle.ec_parse.specs.declared.mark.Sign.TheVariants as s
use Rattle.ec_syntax.specs.declared.tree.Op.{Op}
use Rattle.ec_syntax.specs.declared.tree.Op.TheVariants as op
use Rattle.ec_syntax.specs.Written.{Term, Terms, Formula, Formulas, no_formulas, formula, all_of, any_of}
use Rattle.ec_syntax.specs.Written as w
use Rattle.ec_parse.specs.Mark.{Mark, sign}
use Rattle.ec_parse.specs.Mark as m
use Rattle.ec_parse.specs.Terms.{IsTerm, AreArguments, opens}
use Rattle.ec_parse.specs.Lists.{IsVariable, AreParted}
use Rattle.std.specs.declared.vec.Vec.{Vec}
use Rattle.std.specs.declared.alloc.Global.{Global}
use Rattle.ec_syntax.specs.declared.tree.Tree.{Tree}
use Rattle.ec_syntax.specs.View.{formula_of, formulas_of}

-- How tightly a sign joins formulas.
abbrev pub joining : Sign → ℕ
joining s.Iff = 1
joining s.Implies = 2
joining s.Or = 3
joining s.And = 4
joining _ = 0

-- how tightly the next mark joins, or 0
abbrev pub joins : List Mark → ℕ
joins (sign x ∷ ms) = joining x
joins _ = 0

-- the comparison that a sign stands for
abbrev pub op_of : Sign → Option Op
op_of s.Equal = Some op.Equal
op_of s.Unequal = Some op.Unequal
op_of s.Less = Some op.Less
op_of s.AtMost = Some op.AtMost
op_of s.More = Some op.More
op_of s.AtLeast = Some op.AtLeast
op_of _ = None

-- the comparison whose sign comes next
abbrev pub compared : List Mark → Option Op
compared (sign x ∷ ms) = op_of x
compared _ = None

-- the marks behind the first
abbrev pub behind : List Mark → List Mark
behind [] = []
behind (x ∷ ms) = ms

-- a sign of arithmetic or comparison
abbrev pub continues : Sign → Bool
continues s.Plus = true
continues s.Minus = true
continues s.Times = true
continues s.Equal = true
continues s.Unequal = true
continues s.Less = true
continues s.AtMost = true
continues s.More = true
continues s.AtLeast = true
continues _ = false

-- Whether a sign of arithmetic or comparison comes next.
abbrev pub goes_on : List Mark → Bool
goes_on (sign x ∷ ms) = continues x
goes_on _ = false

-- A comparison's left side doesn't begin with `(`, and no third side follows.
pub data IsComparison : List Mark → Formula → List Mark → Type 0 where
  comparison : {ms mid : List Mark} {a b : Term} {o : Op} {rest : List Mark} → opens ms ≡ false → IsTerm ms a mid → compared mid ≡ Some o → IsTerm (behind mid) b rest → goes_on rest ≡ false
      → IsComparison ms (w.compare o a b) rest

-- A name that begins an atom is a term exactly if a sign of arithmetic or comparison follows it and its arguments.
pub data IsAtom : List Mark → Formula → List Mark → Type 0 where
  predicate : {n : List ℕ} {ms : List Mark} {bs : Terms} {rest : List Mark} → AreArguments ms bs rest → goes_on rest ≡ false → IsAtom (m.upper n ∷ ms) (w.atom n bs) rest
  compares : {ms : List Mark} {a : Formula} {rest : List Mark} → IsComparison ms a rest → IsAtom ms a rest

-- what stands behind the sign of a quantifier
pub record Scope : Type 0 where
  pub names : List (List ℕ)
  pub within : Formula

mutual
  pub data IsUnary : List Mark → Formula → List Mark → Type 0 where
    negation : {ms : List Mark} {a : Formula} {rest : List Mark} → IsUnary ms a rest → IsUnary (sign s.Not ∷ ms) (w.not a) rest
    group : {ms : List Mark} {a : Formula} {rest : List Mark} → IsFormula ms a (sign s.Close ∷ rest) → IsUnary (sign s.Open ∷ ms) a rest
    every : {ms : List Mark} {x : Scope} {rest : List Mark} → IsScope s.CloseBracket ms x rest → IsUnary (sign s.OpenBracket ∷ ms) (w.for_all x.names x.within) rest
    some : {ms : List Mark} {x : Scope} {rest : List Mark} → IsScope s.CloseBrace ms x rest → IsUnary (sign s.OpenBrace ∷ ms) (w.exists x.names x.within) rest
    atomic : {ms : List Mark} {a : Formula} {rest : List Mark} → IsAtom ms a rest → IsUnary ms a rest

  -- The names, the sign that ends them, and the longest formula that can follow: no sign that would go on stands behind it.
  pub data IsScope : Sign → List Mark → Scope → List Mark → Type 0 where
    scope : {close : Sign} {ms mid : List Mark} {names : List (List ℕ)} {a : Formula} {rest : List Mark} → AreParted IsVariable ms names (sign close ∷ mid) → IsFormula mid a rest → joins rest < 1
        → IsScope close ms (record { names = names; within = a }) rest

  pub data IsConjunction : List Mark → Formula → List Mark → Type 0 where
    conjunction : {ms mid : List Mark} {a : Formula} {bs : Formulas} {rest : List Mark} → IsUnary ms a mid → AreConjuncts mid bs rest → IsConjunction ms (all_of a bs) rest

  -- each behind its sign
  pub data AreConjuncts : List Mark → Formulas → List Mark → Type 0 where
    no_conjunct : {ms : List Mark} → AreConjuncts ms no_formulas ms
    conjunct : {ms mid : List Mark} {a : Formula} {bs : Formulas} {rest : List Mark} → IsUnary ms a mid → AreConjuncts mid bs rest → AreConjuncts (sign s.And ∷ ms) (formula a bs) rest

  pub data IsDisjunction : List Mark → Formula → List Mark → Type 0 where
    disjunction : {ms mid : List Mark} {a : Formula} {bs : Formulas} {rest : List Mark} → IsConjunction ms a mid → AreDisjuncts mid bs rest → IsDisjunction ms (any_of a bs) rest

  -- each behind its sign
  pub data AreDisjuncts : List Mark → Formulas → List Mark → Type 0 where
    no_disjunct : {ms : List Mark} → AreDisjuncts ms no_formulas ms
    disjunct : {ms mid : List Mark} {a : Formula} {bs : Formulas} {rest : List Mark} → IsConjunction ms a mid → AreDisjuncts mid bs rest → AreDisjuncts (sign s.Or ∷ ms) (formula a bs) rest

  -- an implication is grouped to the right
  pub data IsImplication : List Mark → Formula → List Mark → Type 0 where
    plain : {ms : List Mark} {a : Formula} {rest : List Mark} → IsDisjunction ms a rest → IsImplication ms a rest
    implication : {ms mid : List Mark} {a b : Formula} {rest : List Mark} → IsDisjunction ms a (sign s.Implies ∷ mid) → IsImplication mid b rest → IsImplication ms (w.implies a b) rest

  pub data IsFormula : List Mark → Formula → List Mark → Type 0 where
    implications : {ms mid : List Mark} {a b : Formula} {rest : List Mark} → IsImplication ms a mid → Equates mid a b rest → IsFormula ms b rest

  -- What stands before is the first formula, and with the implications that follow it, grouped to the left, it is the second.
  pub data Equates : List Mark → Formula → Formula → List Mark → Type 0 where
    no_side : {ms : List Mark} {a : Formula} → Equates ms a a ms
    side : {ms mid : List Mark} {a b c : Formula} {rest : List Mark} → IsImplication ms b mid → Equates mid (w.iff a b) c rest → Equates (sign s.Iff ∷ ms) a c rest

-- what the code reads of it
abbrev pub scope_of : Vec (List ℕ) Global × Tree → Scope
scope_of r = record { names = r.0.items; within = formula_of r.1 }

abbrev pub trees_of : Vec Tree Global → Formulas
trees_of v = formulas_of v.items
