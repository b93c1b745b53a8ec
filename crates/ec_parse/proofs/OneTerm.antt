-- A list of marks spells one term at most.
use Rattle.std.proofs.Common.{◌≡◌, ◌<◌, List, ◌∷◌, refl, ap, sym, subst, arith}
use Rattle.ec_parse.specs.declared.mark.Sign.TheVariants as s
use Rattle.ec_syntax.specs.Written.{Term, sum, difference, product, Terms}
use Rattle.ec_parse.specs.Mark.{Mark, sign}
use Rattle.ec_parse.specs.Terms.{binds, IsFactor, minus, digits, variable_alone, application, group, AreArguments, bare, empty, full, AreTerms, terms, AreMoreTerms, no_more, one_more, IsProduct, factors, Multiplies, no_factor, times, IsTerm, products, Adds, no_product, plus, less_by}

abbrev pub Same : {A : Type 0} → A → A → List Mark → List Mark → Type 0
Same a b r s = (a ≡ b) × (r ≡ s)

pub tail_of : {x : Mark} {ms us : List Mark} → x ∷ ms ≡ x ∷ us → ms ≡ us
tail_of h = cc

pub multiplies_from : {ms us : List Mark} {a b c : Term} {r : List Mark} → ms ≡ us → a ≡ b → Multiplies us b c r → Multiplies ms a c r
multiplies_from {us = us} {a = a} {c = c} {r = r} e f d = subst (λ z. Multiplies z a c r) (sym e) (subst (λ z. Multiplies us z c r) (sym f) d)

pub adds_from : {ms us : List Mark} {a b c : Term} {r : List Mark} → ms ≡ us → a ≡ b → Adds us b c r → Adds ms a c r
adds_from {us = us} {a = a} {c = c} {r = r} e f d = subst (λ z. Adds z a c r) (sym e) (subst (λ z. Adds us z c r) (sym f) d)

pub term_from : {ms us : List Mark} {b : Term} {r : List Mark} → ms ≡ us → IsTerm us b r → IsTerm ms b r
term_from {b = b} {r = r} e d = subst (λ z. IsTerm z b r) (sym e) d

pub more_from : {ms us : List Mark} {bs : Terms} {r : List Mark} → ms ≡ us → AreMoreTerms us bs r → AreMoreTerms ms bs r
more_from {bs = bs} {r = r} e d = subst (λ z. AreMoreTerms z bs r) (sym e) d

pub adds_stop : {ms : List Mark} {a b : Term} {r : List Mark} → Adds ms a b r → binds r < 2 → binds ms < 3
adds_stop no_product l = omega arith
adds_stop (plus d ds) l = omega arith
adds_stop (less_by d ds) l = omega arith

no_factor_close : {ms : List Mark} {a : Term} {r : List Mark} → IsFactor (sign s.Close ∷ ms) a r → ⊥
no_factor_close (variable_alone v) = absurd cc

no_term_close : {ms : List Mark} {a : Term} {r : List Mark} → IsTerm (sign s.Close ∷ ms) a r → ⊥
no_term_close (products (factors d e) f) = no_factor_close d

pub no_terms_close : {ms : List Mark} {bs : Terms} {r : List Mark} → AreTerms (sign s.Close ∷ ms) bs r → ⊥
no_terms_close (terms d ds) = no_term_close d

pub more_stop : {ms : List Mark} {bs : Terms} {r : List Mark} → AreMoreTerms ms bs r → binds r < 1 → binds ms < 2
more_stop no_more l = omega arith
more_stop (one_more d ds) l = omega arith

mutual
  pub factor_one : {ms : List Mark} {a b : Term} {r s : List Mark} → IsFactor ms a r → IsFactor ms b s → Same a b r s
  factor_one (minus d) (minus e) = let h = factor_one d e in (cc, cc)
  factor_one digits digits = (refl, refl)
  factor_one (minus d) (variable_alone v) = absurd cc
  factor_one digits (variable_alone v) = absurd cc
  factor_one (variable_alone v) (minus d) = absurd cc
  factor_one (variable_alone v) digits = absurd cc
  factor_one (variable_alone v) (variable_alone w) = (cc, cc)
  factor_one (variable_alone v) (application d) = absurd cc
  factor_one (variable_alone v) (group d) = absurd cc
  factor_one (application d) (variable_alone v) = absurd cc
  factor_one (group d) (variable_alone v) = absurd cc
  factor_one (application d) (application e) = let h = arguments_one d e in (cc, cc)
  factor_one (group d) (group e) = let h = term_one d (omega arith) e (omega arith) in (cc, cc)

  pub arguments_one : {ms : List Mark} {bs cs : Terms} {r s : List Mark} → AreArguments ms bs r → AreArguments ms cs s → Same bs cs r s
  arguments_one (bare l) (bare m) = (refl, refl)
  arguments_one (bare l) empty = absurd cc
  arguments_one (bare l) (full e) = absurd cc
  arguments_one empty (bare m) = absurd cc
  arguments_one empty empty = (refl, refl)
  arguments_one empty (full e) = absurd (no_terms_close e)
  arguments_one (full d) (bare m) = absurd cc
  arguments_one (full d) empty = absurd (no_terms_close d)
  arguments_one (full d) (full e) = let h = terms_one d (omega arith) e (omega arith) in (cc, cc)

  pub terms_one : {ms : List Mark} {bs cs : Terms} {r s : List Mark} → AreTerms ms bs r → binds r < 1 → AreTerms ms cs s → binds s < 1 → Same bs cs r s
  terms_one (terms d ds) l (terms e es) m =
      let h = term_one d (more_stop ds l) e (more_stop es m) in
      let k = more_one ds l (more_from h.1 es) m in (cc, cc)

  pub more_one : {ms : List Mark} {bs cs : Terms} {r s : List Mark} → AreMoreTerms ms bs r → binds r < 1 → AreMoreTerms ms cs s → binds s < 1 → Same bs cs r s
  more_one no_more l no_more m = (refl, refl)
  more_one no_more l (one_more e es) m = absurd (omega arith)
  more_one (one_more d ds) l no_more m = absurd (omega arith)
  more_one (one_more d ds) l (one_more e es) m =
      let h = term_one d (more_stop ds l) e (more_stop es m) in
      let k = more_one ds l (more_from h.1 es) m in (cc, cc)

  pub product_one : {ms : List Mark} {a b : Term} {r s : List Mark} → IsProduct ms a r → binds r < 3 → IsProduct ms b s → binds s < 3 → Same a b r s
  product_one (factors d ds) l (factors e es) m =
      let h = factor_one d e in multiplies_one ds l (multiplies_from h.1 h.0 es) m

  pub multiplies_one : {ms : List Mark} {a b c : Term} {r s : List Mark} → Multiplies ms a b r → binds r < 3 → Multiplies ms a c s → binds s < 3 → Same b c r s
  multiplies_one no_factor l no_factor m = (refl, refl)
  multiplies_one no_factor l (times e es) m = absurd (omega arith)
  multiplies_one (times d ds) l no_factor m = absurd (omega arith)
  multiplies_one (times {a = a} d ds) l (times e es) m =
      let h = factor_one d e in multiplies_one ds l (multiplies_from h.1 (ap (product a) h.0) es) m

  pub term_one : {ms : List Mark} {a b : Term} {r s : List Mark} → IsTerm ms a r → binds r < 2 → IsTerm ms b s → binds s < 2 → Same a b r s
  term_one (products d ds) l (products e es) m =
      let h = product_one d (adds_stop ds l) e (adds_stop es m) in adds_one ds l (adds_from h.1 h.0 es) m

  pub adds_one : {ms : List Mark} {a b c : Term} {r s : List Mark} → Adds ms a b r → binds r < 2 → Adds ms a c s → binds s < 2 → Same b c r s
  adds_one no_product l no_product m = (refl, refl)
  adds_one no_product l (plus e es) m = absurd (omega arith)
  adds_one no_product l (less_by e es) m = absurd (omega arith)
  adds_one (plus d ds) l no_product m = absurd (omega arith)
  adds_one (plus {a = a} d ds) l (plus e es) m =
      let h = product_one d (adds_stop ds l) e (adds_stop es m) in adds_one ds l (adds_from h.1 (ap (sum a) h.0) es) m
  adds_one (less_by d ds) l no_product m = absurd (omega arith)
  adds_one (less_by {a = a} d ds) l (less_by e es) m =
      let h = product_one d (adds_stop ds l) e (adds_stop es m) in adds_one ds l (adds_from h.1 (ap (difference a) h.0) es) m
