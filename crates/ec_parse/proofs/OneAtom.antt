-- A list of marks spells one atom at most.
use Rattle.std.proofs.Common.{◌≡◌, ℕ, ◌<◌, true, false, List, [], ◌∷◌, Some, refl, ap, arith, ◌⊎◌, inl, inr}
use Rattle.ec_parse.specs.declared.mark.Sign.{Sign}
use Rattle.ec_parse.specs.declared.mark.Sign.TheVariants as s
use Rattle.ec_syntax.specs.declared.tree.Op.{Op}
use Rattle.ec_syntax.specs.Written.{Term, Terms, Formula}
use Rattle.ec_parse.specs.Mark.{Mark, sign}
use Rattle.ec_parse.specs.Mark as m
use Rattle.ec_parse.specs.Terms.{binding, binds, opens, IsFactor, minus, variable_alone, application, group, AreArguments, factors, Multiplies, no_factor, times, IsTerm, products, Adds, no_product, plus, less_by}
use Rattle.ec_parse.specs.Formulas.{op_of, compared, behind, continues, goes_on, IsComparison, comparison, IsAtom, predicate, compares}
use Rattle.ec_parse.proofs.OneTerm.{Same, arguments_one, term_one, term_from}

-- ---- what signs do

op_binding : (x : Sign) (o : Op) → op_of x ≡ Some o → binding x < 2
op_binding s.Equal o h = omega arith
op_binding s.Unequal o h = omega arith
op_binding s.Less o h = omega arith
op_binding s.AtMost o h = omega arith
op_binding s.More o h = omega arith
op_binding s.AtLeast o h = omega arith
op_binding _ o h = absurd cc

op_continues : (x : Sign) (o : Op) → op_of x ≡ Some o → continues x ≡ true
op_continues s.Equal o h = refl
op_continues s.Unequal o h = refl
op_continues s.Less o h = refl
op_continues s.AtMost o h = refl
op_continues s.More o h = refl
op_continues s.AtLeast o h = refl
op_continues _ o h = absurd cc

continues_binding : (x : Sign) → continues x ≡ false → binding x < 2
continues_binding s.Plus h = absurd cc
continues_binding s.Minus h = absurd cc
continues_binding s.Times h = absurd cc
continues_binding s.Comma h = omega arith
continues_binding _ h = omega arith

pub compared_binds : (ms : List Mark) (o : Op) → compared ms ≡ Some o → binds ms < 2
compared_binds (sign x ∷ ms) o h = op_binding x o h
compared_binds _ o h = absurd cc

pub compared_goes : (ms : List Mark) (o : Op) → compared ms ≡ Some o → goes_on ms ≡ true
compared_goes (sign x ∷ ms) o h = op_continues x o h
compared_goes _ o h = absurd cc

pub stays_binds : (ms : List Mark) → goes_on ms ≡ false → binds ms < 2
stays_binds (sign x ∷ ms) h = continues_binding x h
stays_binds _ h = omega arith

multiplies_goes : {ms : List Mark} {a b : Term} {r : List Mark} → Multiplies ms a b r → goes_on r ≡ true → goes_on ms ≡ true
multiplies_goes no_factor l = l
multiplies_goes (times d ds) l = refl

adds_goes : {ms : List Mark} {a b : Term} {r : List Mark} → Adds ms a b r → goes_on r ≡ true → goes_on ms ≡ true
adds_goes no_product l = l
adds_goes (plus d ds) l = refl
adds_goes (less_by d ds) l = refl

-- ---- a name whose arguments no sign of arithmetic or comparison follows begins no comparison

no_name : {n : List ℕ} {ms : List Mark} {bs : Terms} {r mid : List Mark} {a : Term} → AreArguments ms bs r → goes_on r ≡ false → IsTerm (m.upper n ∷ ms) a mid → goes_on mid ≡ true → ⊥
no_name d l (products (factors (variable_alone v) f) g) k = cc
no_name d l (products (factors (application e) f) g) k =
    let h = arguments_one d e in let j = multiplies_goes f (adds_goes g k) in let i = ap goes_on h.1 in cc

pub no_comparison : {n : List ℕ} {ms : List Mark} {bs : Terms} {r : List Mark} {a : Formula} {s : List Mark} → AreArguments ms bs r → goes_on r ≡ false → IsComparison (m.upper n ∷ ms) a s → ⊥
no_comparison d l (comparison {mid = mid} {o = o} p e k f q) = no_name d l e (compared_goes mid o k)

pub comparison_one : {ms : List Mark} {a b : Formula} {r s : List Mark} → IsComparison ms a r → IsComparison ms b s → Same a b r s
comparison_one (comparison {mid = mid} {o = o} {rest = r} p d k e q) (comparison {mid = us} {o = i} {rest = s} x f l g y) =
    let h = term_one d (compared_binds mid o k) f (compared_binds us i l) in
    let t = term_one e (stays_binds r q) (term_from (ap behind h.1) g) (stays_binds s y) in
    let c = ap compared h.1 in (cc, cc)

pub atom_one : {ms : List Mark} {a b : Formula} {r s : List Mark} → IsAtom ms a r → IsAtom ms b s → Same a b r s
atom_one (predicate d l) (predicate e n) = let h = arguments_one d e in (cc, cc)
atom_one (predicate d l) (compares e) = absurd (no_comparison d l e)
atom_one (compares e) (predicate d l) = absurd (no_comparison d l e)
atom_one (compares d) (compares e) = comparison_one d e

-- ---- which signs begin an atom

factor_sign : {x : Sign} {ms : List Mark} {a : Term} {r : List Mark} → IsFactor (sign x ∷ ms) a r → (x ≡ s.Minus) ⊎ (x ≡ s.Open)
factor_sign (minus d) = inl refl
factor_sign (variable_alone v) = absurd cc
factor_sign (group d) = inr refl

term_sign : {x : Sign} {ms : List Mark} {a : Term} {r : List Mark} → IsTerm (sign x ∷ ms) a r → (x ≡ s.Minus) ⊎ (x ≡ s.Open)
term_sign (products (factors d e) f) = factor_sign d

comparison_sign : {x : Sign} {ms : List Mark} {a : Formula} {r : List Mark} → IsComparison (sign x ∷ ms) a r → x ≡ s.Minus
comparison_sign (comparison p d k e q) = elim (term_sign d) [ inl h ↦ h | inr h ↦ absurd (is_open _ _ h p) ]
  where
    is_open : (x : Sign) (ms : List Mark) → x ≡ s.Open → opens (sign x ∷ ms) ≡ false → ⊥
    is_open x ms h p = let e = ap (λ z. opens (sign z ∷ [])) h in cc

pub atom_sign : {x : Sign} {ms : List Mark} {a : Formula} {r : List Mark} → IsAtom (sign x ∷ ms) a r → x ≡ s.Minus
atom_sign (compares d) = comparison_sign d
