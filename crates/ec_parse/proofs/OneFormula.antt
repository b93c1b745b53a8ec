-- A list of marks spells one formula at most.
use Rattle.std.proofs.Common.{◌≡◌, ◌<◌, List, ◌∷◌, refl, ap, sym, subst, arith}
use Rattle.ec_parse.specs.declared.mark.Sign.{Sign}
use Rattle.ec_parse.specs.declared.mark.Sign.TheVariants as s
use Rattle.ec_syntax.specs.Written.{Formula, Formulas, iff}
use Rattle.ec_parse.specs.Mark.{Mark, sign}
use Rattle.ec_parse.specs.Lists.{IsVariable, commas}
use Rattle.ec_parse.specs.Formulas.{joins, Scope, IsAtom, IsUnary, negation, group, every, some, atomic, IsScope, scope, IsConjunction, conjunction, AreConjuncts, no_conjunct, conjunct, IsDisjunction, disjunction, AreDisjuncts, no_disjunct, disjunct, IsImplication, plain, implication, IsFormula, implications, Equates, no_side, side}
use Rattle.ec_parse.proofs.OneTerm.{Same, tail_of}
use Rattle.ec_parse.proofs.OneAtom.{atom_one, atom_sign}
use Rattle.ec_parse.proofs.Parted.{variable_one, parted_one}

pub conjuncts_from : {ms us : List Mark} {bs : Formulas} {r : List Mark} → ms ≡ us → AreConjuncts us bs r → AreConjuncts ms bs r
conjuncts_from {bs = bs} {r = r} e d = subst (λ z. AreConjuncts z bs r) (sym e) d

pub disjuncts_from : {ms us : List Mark} {bs : Formulas} {r : List Mark} → ms ≡ us → AreDisjuncts us bs r → AreDisjuncts ms bs r
disjuncts_from {bs = bs} {r = r} e d = subst (λ z. AreDisjuncts z bs r) (sym e) d

pub implication_from : {ms us : List Mark} {b : Formula} {r : List Mark} → ms ≡ us → IsImplication us b r → IsImplication ms b r
implication_from {b = b} {r = r} e d = subst (λ z. IsImplication z b r) (sym e) d

pub formula_from : {ms us : List Mark} {b : Formula} {r : List Mark} → ms ≡ us → IsFormula us b r → IsFormula ms b r
formula_from {b = b} {r = r} e d = subst (λ z. IsFormula z b r) (sym e) d

pub equates_from : {ms us : List Mark} {a b c : Formula} {r : List Mark} → ms ≡ us → a ≡ b → Equates us b c r → Equates ms a c r
equates_from {us = us} {a = a} {c = c} {r = r} e f d = subst (λ z. Equates z a c r) (sym e) (subst (λ z. Equates us z c r) (sym f) d)

pub disjuncts_stop : {ms : List Mark} {bs : Formulas} {r : List Mark} → AreDisjuncts ms bs r → joins r < 3 → joins ms < 4
disjuncts_stop no_disjunct l = omega arith
disjuncts_stop (disjunct d ds) l = omega arith

pub equates_stop : {ms : List Mark} {a b : Formula} {r : List Mark} → Equates ms a b r → joins r < 1 → joins ms < 2
equates_stop no_side l = omega arith
equates_stop (side d ds) l = omega arith

-- no atom begins with a sign that begins a formula
no_not : {ms : List Mark} {a : Formula} {r : List Mark} → IsAtom (sign s.Not ∷ ms) a r → ⊥
no_not d = let h = atom_sign d in cc

no_open : {ms : List Mark} {a : Formula} {r : List Mark} → IsAtom (sign s.Open ∷ ms) a r → ⊥
no_open d = let h = atom_sign d in cc

no_bracket : {ms : List Mark} {a : Formula} {r : List Mark} → IsAtom (sign s.OpenBracket ∷ ms) a r → ⊥
no_bracket d = let h = atom_sign d in cc

no_brace : {ms : List Mark} {a : Formula} {r : List Mark} → IsAtom (sign s.OpenBrace ∷ ms) a r → ⊥
no_brace d = let h = atom_sign d in cc

mutual
  pub unary_one : {ms : List Mark} {a b : Formula} {r s : List Mark} → IsUnary ms a r → IsUnary ms b s → Same a b r s
  unary_one (negation d) (negation e) = let h = unary_one d e in (cc, cc)
  unary_one (negation d) (atomic e) = absurd (no_not e)
  unary_one (group d) (group e) = let h = formula_one d (omega arith) e (omega arith) in (cc, cc)
  unary_one (group d) (atomic e) = absurd (no_open e)
  unary_one (every d) (every e) = let h = scope_one (λ us. omega arith) d e in (cc, cc)
  unary_one (every d) (atomic e) = absurd (no_bracket e)
  unary_one (some d) (some e) = let h = scope_one (λ us. omega arith) d e in (cc, cc)
  unary_one (some d) (atomic e) = absurd (no_brace e)
  unary_one (atomic d) (negation e) = absurd (no_not d)
  unary_one (atomic d) (group e) = absurd (no_open d)
  unary_one (atomic d) (every e) = absurd (no_bracket d)
  unary_one (atomic d) (some e) = absurd (no_brace d)
  unary_one (atomic d) (atomic e) = atom_one d e

  -- the sign that ends the names is no comma
  pub scope_one : {close : Sign} {ms : List Mark} {a b : Scope} {r s : List Mark} → ((us : List Mark) → commas (sign close ∷ us) < 1) → IsScope close ms a r → IsScope close ms b s → Same a b r s
  scope_one c (scope {mid = mid} v d l) (scope {mid = us} w e n) =
      let h = parted_one IsVariable variable_one v (c mid) w (c us) in
      let k = formula_one d l (formula_from (tail_of h.1) e) n in (cc, cc)

  pub conjunction_one : {ms : List Mark} {a b : Formula} {r s : List Mark} → IsConjunction ms a r → joins r < 4 → IsConjunction ms b s → joins s < 4 → Same a b r s
  conjunction_one (conjunction d ds) l (conjunction e es) n =
      let h = unary_one d e in
      let k = conjuncts_one ds l (conjuncts_from h.1 es) n in (cc, cc)

  pub conjuncts_one : {ms : List Mark} {cs bs : Formulas} {r s : List Mark} → AreConjuncts ms cs r → joins r < 4 → AreConjuncts ms bs s → joins s < 4 → Same cs bs r s
  conjuncts_one no_conjunct l no_conjunct n = (refl, refl)
  conjuncts_one no_conjunct l (conjunct e es) n = absurd (omega arith)
  conjuncts_one (conjunct d ds) l no_conjunct n = absurd (omega arith)
  conjuncts_one (conjunct d ds) l (conjunct e es) n =
      let h = unary_one d e in
      let k = conjuncts_one ds l (conjuncts_from h.1 es) n in (cc, cc)

  pub disjunction_one : {ms : List Mark} {a b : Formula} {r s : List Mark} → IsDisjunction ms a r → joins r < 3 → IsDisjunction ms b s → joins s < 3 → Same a b r s
  disjunction_one (disjunction d ds) l (disjunction e es) n =
      let h = conjunction_one d (disjuncts_stop ds l) e (disjuncts_stop es n) in
      let k = disjuncts_one ds l (disjuncts_from h.1 es) n in (cc, cc)

  pub disjuncts_one : {ms : List Mark} {cs bs : Formulas} {r s : List Mark} → AreDisjuncts ms cs r → joins r < 3 → AreDisjuncts ms bs s → joins s < 3 → Same cs bs r s
  disjuncts_one no_disjunct l no_disjunct n = (refl, refl)
  disjuncts_one no_disjunct l (disjunct e es) n = absurd (omega arith)
  disjuncts_one (disjunct d ds) l no_disjunct n = absurd (omega arith)
  disjuncts_one (disjunct d ds) l (disjunct e es) n =
      let h = conjunction_one d (disjuncts_stop ds l) e (disjuncts_stop es n) in
      let k = disjuncts_one ds l (disjuncts_from h.1 es) n in (cc, cc)

  pub implication_one : {ms : List Mark} {a b : Formula} {r s : List Mark} → IsImplication ms a r → joins r < 2 → IsImplication ms b s → joins s < 2 → Same a b r s
  implication_one (plain d) l (plain e) n = disjunction_one d (omega arith) e (omega arith)
  implication_one (plain d) l (implication e f) n = let h = disjunction_one d (omega arith) e (omega arith) in absurd (omega (arith, ap joins h.1))
  implication_one (implication d f) l (plain e) n = let h = disjunction_one d (omega arith) e (omega arith) in absurd (omega (arith, ap joins h.1))
  implication_one (implication d f) l (implication e g) n =
      let h = disjunction_one d (omega arith) e (omega arith) in
      let k = implication_one f l (implication_from (tail_of h.1) g) n in (cc, cc)

  pub formula_one : {ms : List Mark} {a b : Formula} {r s : List Mark} → IsFormula ms a r → joins r < 1 → IsFormula ms b s → joins s < 1 → Same a b r s
  formula_one (implications d ds) l (implications e es) n =
      let h = implication_one d (equates_stop ds l) e (equates_stop es n) in equates_one ds l (equates_from h.1 h.0 es) n

  pub equates_one : {ms : List Mark} {a b c : Formula} {r s : List Mark} → Equates ms a b r → joins r < 1 → Equates ms a c s → joins s < 1 → Same b c r s
  equates_one no_side l no_side n = (refl, refl)
  equates_one no_side l (side e es) n = absurd (omega arith)
  equates_one (side d ds) l no_side n = absurd (omega arith)
  equates_one (side {a = a} d ds) l (side e es) n =
      let h = implication_one d (equates_stop ds l) e (equates_stop es n) in equates_one ds l (equates_from h.1 (ap (iff a) h.0) es) n
