-- The turns of the loops that read the parts of a formula.
use Rattle.std.proofs.Common.{◌≡◌, ℕ, ◌<◌, ◌≤◌, true, List, [], ◌∷◌, ◌++◌, None, length, refl, ap, subst, arith}
use Rattle.ec_parse.specs.declared.mark.Sign.{Sign}
use Rattle.ec_parse.specs.declared.mark.Sign.TheVariants as s
use Rattle.ec_parse.specs.declared.fault.Fault.{Fault}
use Rattle.ec_parse.specs.declared.fault.Fault.TheVariants.{Memory, Syntax}
use Rattle.ec_syntax.specs.declared.tree.Tree.{Tree}
use Rattle.ec_syntax.specs.Written.{Term, Terms, Formula, Formulas, no_formulas, formula, all_of, any_of, iff}
use Rattle.ec_syntax.specs.View.{formula_of, formulas_of}
use Rattle.ec_parse.specs.Mark.{Mark, sign, seen_all, Lacks}
use Rattle.ec_parse.specs.Mark as m
use Rattle.ec_parse.specs.Terms.{binds, opens, IsTerm, AreArguments, products, factors, variable_alone, application}
use Rattle.ec_parse.specs.Lists.{IsVariable, AreParted, commas}
use Rattle.std.specs.Prelude.{Result, Ok, Err}
use Rattle.std.specs.Borrow.{Bor}
use Rattle.std.specs.declared.vec.Vec.{Vec}
use Rattle.std.specs.declared.alloc.Global.{Global}
use Rattle.ec_parse.specs.declared.mark.Mark as rust
use Rattle.ec_parse.specs.Reads.{Fails, Reads, IsClosed, free}
use Rattle.ec_parse.specs.Formulas.{joining, joins, trees_of, compared, behind, goes_on, IsComparison, comparison, IsAtom, predicate, compares, Scope, IsUnary, negation, group, every, some, atomic, IsScope, scope, IsConjunction, conjunction, AreConjuncts, no_conjunct, conjunct, IsDisjunction, disjunction, AreDisjuncts, no_disjunct, disjunct, IsImplication, plain, implication, IsFormula, implications, Equates, no_side, side}
use Rattle.ec_parse.proofs.OneTerm.{arguments_one, term_one, term_from, tail_of}
use Rattle.ec_parse.proofs.OneAtom.{compared_binds, stays_binds, atom_sign}
use Rattle.ec_parse.proofs.Parted.{variable_one, parted_one}
use Rattle.ec_parse.proofs.OneFormula.{unary_one, conjunction_one, disjunction_one, implication_one, formula_one, conjuncts_from, disjuncts_from, implication_from, formula_from, equates_from, disjuncts_stop, equates_stop}

-- ---- what comes next

sign_lacks : (x y : Sign) (ms : List Mark) → Lacks (sign x ∷ ms) (sign y) → x ≡ y → ⊥
sign_lacks x y ms lacks e = lacks ms (rw e refl)

and_joining : (x : Sign) → (x ≡ s.And → ⊥) → joining x < 4
and_joining s.And n = absurd (n refl)
and_joining s.Or n = omega arith
and_joining s.Implies n = omega arith
and_joining s.Iff n = omega arith
and_joining _ n = omega arith

pub stops_and : (ms : List Mark) → Lacks ms (sign s.And) → joins ms < 4
stops_and (sign x ∷ ms) lacks = and_joining x (sign_lacks x s.And ms lacks)
stops_and _ lacks = omega arith

or_joining : (x : Sign) → joining x < 4 → (x ≡ s.Or → ⊥) → joining x < 3
or_joining s.And l n = absurd (omega arith)
or_joining s.Or l n = absurd (n refl)
or_joining s.Implies l n = omega arith
or_joining s.Iff l n = omega arith
or_joining _ l n = omega arith

pub stops_or : (ms : List Mark) → joins ms < 4 → Lacks ms (sign s.Or) → joins ms < 3
stops_or (sign x ∷ ms) l lacks = or_joining x l (sign_lacks x s.Or ms lacks)
stops_or _ l lacks = omega arith

implies_joining : (x : Sign) → joining x < 3 → (x ≡ s.Implies → ⊥) → joining x < 2
implies_joining s.And l n = absurd (omega arith)
implies_joining s.Or l n = absurd (omega arith)
implies_joining s.Implies l n = absurd (n refl)
implies_joining s.Iff l n = omega arith
implies_joining _ l n = omega arith

pub stops_implies : (ms : List Mark) → joins ms < 3 → Lacks ms (sign s.Implies) → joins ms < 2
stops_implies (sign x ∷ ms) l lacks = implies_joining x l (sign_lacks x s.Implies ms lacks)
stops_implies _ l lacks = omega arith

iff_joining : (x : Sign) → joining x < 2 → (x ≡ s.Iff → ⊥) → joining x < 1
iff_joining s.And l n = absurd (omega arith)
iff_joining s.Or l n = absurd (omega arith)
iff_joining s.Implies l n = absurd (omega arith)
iff_joining s.Iff l n = absurd (n refl)
iff_joining _ l n = omega arith

pub stops_iff : (ms : List Mark) → joins ms < 2 → Lacks ms (sign s.Iff) → joins ms < 1
stops_iff (sign x ∷ ms) l lacks = iff_joining x l (sign_lacks x s.Iff ms lacks)
stops_iff _ l lacks = omega arith

-- ---- conjuncts

abbrev pub joined : Formulas → Formulas → Formulas
joined no_formulas bs = bs
joined (formula a others) bs = formula a (joined others bs)

pub joined-none : (bs : Formulas) → joined bs no_formulas ≡ bs
joined-none no_formulas = refl
joined-none (formula a others) = ap (formula a) (joined-none others)

-- one more tree at the end
pub joined-push : (trees : List Tree) (t : Tree) (bs : Formulas) → joined (formulas_of (trees ++ t ∷ [])) bs ≡ joined (formulas_of trees) (formula (formula_of t) bs)
joined-push [] t bs = refl
joined-push (u ∷ trees) t bs = ap (formula (formula_of u)) (joined-push trees t bs)

-- the conjuncts of start up to rest are those found, and rest has the others
pub record Conjuncts (start rest : List Mark) (found : List Tree) : Type 0 where
  pub so_far : (bs : Formulas) (r : List Mark) → AreConjuncts rest bs r → AreConjuncts start (joined (formulas_of found) bs) r
  pub goes_on : (bs : Formulas) (r : List Mark) → AreConjuncts start bs r → joins r < 4 → (cs : Formulas) × AreConjuncts rest cs r
  pub shorter : length rest ≤ length start

pub conjuncts_begin : (start : List Mark) → Conjuncts start start []
conjuncts_begin start = record { so_far = λ bs r d. d; goes_on = λ bs r d l. (bs, d); shorter = omega arith }

-- what is left, behind a part that was read
conjuncts_left : {more after : List Mark} {a : Formula} {cs : Formulas} {r : List Mark} → joins r < 4 → AreConjuncts (sign s.And ∷ more) cs r → IsUnary more a after → (ds : Formulas) × AreConjuncts after ds r
conjuncts_left l no_conjunct u = absurd (omega arith)
conjuncts_left l (conjunct {bs = bs} d ds) u = (bs, conjuncts_from (unary_one u d).1 ds)

pub conjuncts_more : {start more after : List Mark} {found new : List Tree} → Conjuncts start (sign s.And ∷ more) found → (next : Tree) → IsUnary more (formula_of next) after → length after ≤ length more → new ≡ found ++ next ∷ []
    → Conjuncts start after new
conjuncts_more {after = after} {found = found} c next u l e = record {
  so_far = λ bs r d. rw (e, joined-push) (c.so_far _ r (conjunct u d));
  goes_on = λ bs r d m. let k = c.goes_on bs r d m in conjuncts_left m k.1 u;
  shorter = let s = c.shorter in omega arith;
}

pub conjuncts_end : {start rest : List Mark} {found : List Tree} → Conjuncts start rest found → AreConjuncts start (formulas_of found) rest
conjuncts_end {rest = rest} {found = found} c = rw (← joined-none (formulas_of found)) (c.so_far no_formulas rest no_conjunct)

no_conjuncts : {more : List Mark} {cs : Formulas} {r : List Mark} → joins r < 4 → AreConjuncts (sign s.And ∷ more) cs r → Fails IsUnary free 1 more Syntax → ⊥
no_conjuncts l no_conjunct f = omega arith
no_conjuncts l (conjunct {mid = mid} d ds) f = f _ mid d (omega arith)

pub conjuncts_fail : (start : List Mark) {more : List Mark} {found : List Tree} (e : Fault) → Conjuncts start (sign s.And ∷ more) found → Fails IsUnary free 1 more e → Fails AreConjuncts joins 4 start e
conjuncts_fail start Memory c f = tt
conjuncts_fail start Syntax c f = λ b r d l. let k = c.goes_on b r d l in no_conjuncts l k.1 f

no_conjunction : {marks start : List Mark} {a b : Formula} {r : List Mark} → IsUnary marks a start → Fails AreConjuncts joins 4 start Syntax → IsConjunction marks b r → joins r < 4 → ⊥
no_conjunction u f (conjunction d ds) l = f _ _ (conjuncts_from (unary_one u d).1 ds) l

pub others_fail : (marks : List Mark) {start : List Mark} {a : Formula} (e : Fault) → IsUnary marks a start → Fails AreConjuncts joins 4 start e → Fails IsConjunction joins 4 marks e
others_fail marks Memory u f = tt
others_fail marks Syntax u f = λ b r d l. no_conjunction u f d l

no_first : {marks : List Mark} {b : Formula} {r : List Mark} → Fails IsUnary free 1 marks Syntax → IsConjunction marks b r → ⊥
no_first f (conjunction {mid = mid} d ds) = f _ mid d (omega arith)

pub conjunction_fails : (marks : List Mark) (e : Fault) → Fails IsUnary free 1 marks e → Fails IsConjunction joins 4 marks e
conjunction_fails _ Memory f = tt
conjunction_fails _ Syntax f = λ b r d l. no_first f d

-- ---- the same of disjuncts

pub record Disjuncts (start rest : List Mark) (found : List Tree) : Type 0 where
  pub so_far : (bs : Formulas) (r : List Mark) → AreDisjuncts rest bs r → AreDisjuncts start (joined (formulas_of found) bs) r
  pub goes_on : (bs : Formulas) (r : List Mark) → AreDisjuncts start bs r → joins r < 3 → (cs : Formulas) × AreDisjuncts rest cs r
  pub stops : joins rest < 4
  pub shorter : length rest ≤ length start

pub disjuncts_begin : (start : List Mark) → joins start < 4 → Disjuncts start start []
disjuncts_begin start stop = record { stops = stop; so_far = λ bs r d. d; goes_on = λ bs r d l. (bs, d); shorter = omega arith }

disjuncts_left : {more after : List Mark} {a : Formula} {cs : Formulas} {r : List Mark} → joins r < 3 → AreDisjuncts (sign s.Or ∷ more) cs r → IsConjunction more a after → joins after < 4
    → (ds : Formulas) × AreDisjuncts after ds r
disjuncts_left l no_disjunct u m = absurd (omega arith)
disjuncts_left l (disjunct {bs = bs} d ds) u m = (bs, disjuncts_from (conjunction_one u m d (disjuncts_stop ds l)).1 ds)

pub disjuncts_more : {start more after : List Mark} {found new : List Tree} → Disjuncts start (sign s.Or ∷ more) found → (next : Tree) → IsConjunction more (formula_of next) after → joins after < 4 → length after ≤ length more → new ≡ found ++ next ∷ []
    → Disjuncts start after new
disjuncts_more {after = after} {found = found} c next u stop l e = record {
  stops = stop;
  so_far = λ bs r d. rw (e, joined-push) (c.so_far _ r (disjunct u d));
  goes_on = λ bs r d m. let k = c.goes_on bs r d m in disjuncts_left m k.1 u stop;
  shorter = let s = c.shorter in omega arith;
}

pub disjuncts_end : {start rest : List Mark} {found : List Tree} → Disjuncts start rest found → AreDisjuncts start (formulas_of found) rest
disjuncts_end {rest = rest} {found = found} c = rw (← joined-none (formulas_of found)) (c.so_far no_formulas rest no_disjunct)

no_disjuncts : {more : List Mark} {cs : Formulas} {r : List Mark} → joins r < 3 → AreDisjuncts (sign s.Or ∷ more) cs r → Fails IsConjunction joins 4 more Syntax → ⊥
no_disjuncts l no_disjunct f = omega arith
no_disjuncts l (disjunct d ds) f = f _ _ d (disjuncts_stop ds l)

pub disjuncts_fail : (start : List Mark) {more : List Mark} {found : List Tree} (e : Fault) → Disjuncts start (sign s.Or ∷ more) found → Fails IsConjunction joins 4 more e → Fails AreDisjuncts joins 3 start e
disjuncts_fail start Memory c f = tt
disjuncts_fail start Syntax c f = λ b r d l. let k = c.goes_on b r d l in no_disjuncts l k.1 f

no_disjunction : {marks start : List Mark} {a b : Formula} {r : List Mark} → IsConjunction marks a start → joins start < 4 → Fails AreDisjuncts joins 3 start Syntax → IsDisjunction marks b r → joins r < 3 → ⊥
no_disjunction u stop f (disjunction d ds) l = f _ _ (disjuncts_from (conjunction_one u stop d (disjuncts_stop ds l)).1 ds) l

pub others_of_any_fail : (marks : List Mark) {start : List Mark} {a : Formula} (e : Fault) → IsConjunction marks a start → joins start < 4 → Fails AreDisjuncts joins 3 start e → Fails IsDisjunction joins 3 marks e
others_of_any_fail marks Memory u stop f = tt
others_of_any_fail marks Syntax u stop f = λ b r d l. no_disjunction u stop f d l

no_first_of_any : {marks : List Mark} {b : Formula} {r : List Mark} → Fails IsConjunction joins 4 marks Syntax → IsDisjunction marks b r → joins r < 3 → ⊥
no_first_of_any f (disjunction d ds) l = f _ _ d (disjuncts_stop ds l)

pub disjunction_fails : (marks : List Mark) (e : Fault) → Fails IsConjunction joins 4 marks e → Fails IsDisjunction joins 3 marks e
disjunction_fails _ Memory f = tt
disjunction_fails _ Syntax f = λ b r d l. no_first_of_any f d l

-- ---- implications

no_left : {ms : List Mark} {b : Formula} {r : List Mark} → Fails IsDisjunction joins 3 ms Syntax → IsImplication ms b r → joins r < 2 → ⊥
no_left f (plain d) l = f _ _ d (omega arith)
no_left f (implication d e) l = f _ _ d (omega arith)

pub implication_fails : (ms : List Mark) (e : Fault) → Fails IsDisjunction joins 3 ms e → Fails IsImplication joins 2 ms e
implication_fails ms Memory f = tt
implication_fails ms Syntax f = λ b r d l. no_left f d l

no_right : {ms mid : List Mark} {a b : Formula} {r : List Mark} → IsDisjunction ms a (sign s.Implies ∷ mid) → Fails IsImplication joins 2 mid Syntax → IsImplication ms b r → joins r < 2 → ⊥
no_right u f (plain d) l = let h = disjunction_one u (omega arith) d (omega arith) in omega (arith, ap joins h.1)
no_right u f (implication d e) l = f _ _ (implication_from (tail_of (disjunction_one u (omega arith) d (omega arith)).1) e) l

pub right_fails : (ms : List Mark) {mid : List Mark} {a : Formula} (e : Fault) → IsDisjunction ms a (sign s.Implies ∷ mid) → Fails IsImplication joins 2 mid e → Fails IsImplication joins 2 ms e
right_fails ms Memory u f = tt
right_fails ms Syntax u f = λ b r d l. no_right u f d l

-- ---- sides of `<->`

-- the marks before rest spell left, as the front of a formula
pub record Sides (marks rest : List Mark) (left : Formula) : Type 0 where
  pub so_far : (b : Formula) (r : List Mark) → Equates rest left b r → IsFormula marks b r
  pub goes_on : (b : Formula) (r : List Mark) → IsFormula marks b r → joins r < 1 → Equates rest left b r
  pub stops : joins rest < 2
  pub shorter : length rest ≤ length marks

sides_left : {marks mid : List Mark} {a b : Formula} {r : List Mark} → IsImplication marks a mid → joins mid < 2 → IsFormula marks b r → joins r < 1 → Equates mid a b r
sides_left u s (implications d ds) l = let h = implication_one u s d (equates_stop ds l) in equates_from h.1 h.0 ds

pub sides_begin : {marks mid : List Mark} {a : Formula} → IsImplication marks a mid → joins mid < 2 → length mid ≤ length marks → Sides marks mid a
sides_begin u s l = record { so_far = λ b r d. implications u d; goes_on = λ b r d m. sides_left u s d m; stops = s; shorter = l }

side_left : {more after : List Mark} {a b c : Formula} {r : List Mark} → Equates (sign s.Iff ∷ more) a c r → joins r < 1 → IsImplication more b after → joins after < 2 → Equates after (iff a b) c r
side_left no_side l u s = absurd (omega arith)
side_left {a = a} (side d ds) l u s = let h = implication_one u s d (equates_stop ds l) in equates_from h.1 (ap (iff a) h.0) ds

pub sides_more : {marks more after : List Mark} {a b : Formula} → Sides marks (sign s.Iff ∷ more) a → IsImplication more b after → joins after < 2 → length after ≤ length more → Sides marks after (iff a b)
sides_more p u s l = record {
  so_far = λ c r d. p.so_far c r (side u d);
  goes_on = λ c r d m. side_left (p.goes_on c r d m) m u s;
  stops = s;
  shorter = let k = p.shorter in omega arith;
}

pub sides_end : {marks rest : List Mark} {a : Formula} → Sides marks rest a → IsFormula marks a rest
sides_end p = p.so_far _ _ no_side

no_side_left : {more : List Mark} {a c : Formula} {r : List Mark} → Equates (sign s.Iff ∷ more) a c r → joins r < 1 → Fails IsImplication joins 2 more Syntax → ⊥
no_side_left no_side l f = omega arith
no_side_left (side d ds) l f = f _ _ d (equates_stop ds l)

pub sides_fail : (marks : List Mark) {more : List Mark} {a : Formula} (e : Fault) → Sides marks (sign s.Iff ∷ more) a → Fails IsImplication joins 2 more e → Fails IsFormula joins 1 marks e
sides_fail marks Memory p f = tt
sides_fail marks Syntax p f = λ c r d l. no_side_left (p.goes_on c r d l) l f

no_first_side : {marks : List Mark} {c : Formula} {r : List Mark} → Fails IsImplication joins 2 marks Syntax → IsFormula marks c r → joins r < 1 → ⊥
no_first_side f (implications d ds) l = f _ _ d (equates_stop ds l)

pub formula_fails : (marks : List Mark) (e : Fault) → Fails IsImplication joins 2 marks e → Fails IsFormula joins 1 marks e
formula_fails marks Memory f = tt
formula_fails marks Syntax f = λ c r d l. no_first_side f d l

-- ---- what stands alone

no_negation : {ms : List Mark} {b : Formula} {r : List Mark} → Fails IsUnary free 1 ms Syntax → IsUnary (sign s.Not ∷ ms) b r → ⊥
no_negation f (negation {rest = rest} d) = f _ rest d (omega arith)
no_negation f (atomic d) = let h = atom_sign d in cc

pub negation_fails : (ms : List Mark) (e : Fault) → Fails IsUnary free 1 ms e → Fails IsUnary free 1 (sign s.Not ∷ ms) e
negation_fails ms Memory f = tt
negation_fails ms Syntax f = λ b r d l. no_negation f d

no_group : {ms : List Mark} {b : Formula} {r : List Mark} → Fails IsFormula joins 1 ms Syntax → IsUnary (sign s.Open ∷ ms) b r → ⊥
no_group f (group d) = f _ _ d (omega arith)
no_group f (atomic d) = let h = atom_sign d in cc

pub group_fails : (ms : List Mark) (e : Fault) → Fails IsFormula joins 1 ms e → Fails IsUnary free 1 (sign s.Open ∷ ms) e
group_fails ms Memory f = tt
group_fails ms Syntax f = λ b r d l. no_group f d

pub no_close : {ms mid : List Mark} {a b : Formula} {r : List Mark} → IsFormula ms a mid → joins mid < 1 → Lacks mid (sign s.Close) → IsUnary (sign s.Open ∷ ms) b r → ⊥
no_close u l lacks (group d) = lacks _ (formula_one u l d (omega arith)).1
no_close u l lacks (atomic d) = let h = atom_sign d in cc

no_every : {ms : List Mark} {b : Formula} {r : List Mark} → Fails (IsScope s.CloseBracket) joins 1 ms Syntax → IsUnary (sign s.OpenBracket ∷ ms) b r → ⊥
no_every f (every (scope v d l)) = f _ _ (scope v d l) l
no_every f (atomic d) = let h = atom_sign d in cc

pub every_fails : (ms : List Mark) (e : Fault) → Fails (IsScope s.CloseBracket) joins 1 ms e → Fails IsUnary free 1 (sign s.OpenBracket ∷ ms) e
every_fails ms Memory f = tt
every_fails ms Syntax f = λ b r d l. no_every f d

no_some : {ms : List Mark} {b : Formula} {r : List Mark} → Fails (IsScope s.CloseBrace) joins 1 ms Syntax → IsUnary (sign s.OpenBrace ∷ ms) b r → ⊥
no_some f (some (scope v d l)) = f _ _ (scope v d l) l
no_some f (atomic d) = let h = atom_sign d in cc

pub some_fails : (ms : List Mark) (e : Fault) → Fails (IsScope s.CloseBrace) joins 1 ms e → Fails IsUnary free 1 (sign s.OpenBrace ∷ ms) e
some_fails ms Memory f = tt
some_fails ms Syntax f = λ b r d l. no_some f d

no_unary : {ms : List Mark} {b : Formula} {r : List Mark} → Lacks ms (sign s.Not) → Lacks ms (sign s.Open) → Lacks ms (sign s.OpenBracket) → Lacks ms (sign s.OpenBrace) → Fails IsAtom free 1 ms Syntax → IsUnary ms b r → ⊥
no_unary n o p q f (negation d) = n _ refl
no_unary n o p q f (group d) = o _ refl
no_unary n o p q f (every d) = p _ refl
no_unary n o p q f (some d) = q _ refl
no_unary n o p q f (atomic {rest = rest} d) = f _ rest d (omega arith)

pub unary_fails : (ms : List Mark) (e : Fault) → Lacks ms (sign s.Not) → Lacks ms (sign s.Open) → Lacks ms (sign s.OpenBracket) → Lacks ms (sign s.OpenBrace) → Fails IsAtom free 1 ms e → Fails IsUnary free 1 ms e
unary_fails ms Memory n o p q f = tt
unary_fails ms Syntax n o p q f = λ b r d l. no_unary n o p q f d

-- ---- the scope of a quantifier

no_names : {close : Sign} {ms : List Mark} {b : Scope} {r : List Mark} → ((us : List Mark) → commas (sign close ∷ us) < 1) → Fails (AreParted IsVariable) commas 1 ms Syntax → IsScope close ms b r → ⊥
no_names c f (scope {mid = mid} v d l) = f _ _ v (c mid)

pub names_fail : (ending : Sign) (ms : List Mark) (e : Fault) → ((us : List Mark) → commas (sign ending ∷ us) < 1) → Fails (AreParted IsVariable) commas 1 ms e → Fails (IsScope ending) joins 1 ms e
names_fail ending ms Memory c f = tt
names_fail ending ms Syntax c f = λ b r d l. no_names c f d

pub no_end : {close : Sign} {ms mid : List Mark} {a : List (List ℕ)} {b : Scope} {r : List Mark} → ((us : List Mark) → commas (sign close ∷ us) < 1) → AreParted IsVariable ms a mid → commas mid < 1 → Lacks mid (sign close)
    → IsScope close ms b r → ⊥
no_end c u l lacks (scope {mid = us} v d n) = lacks us (parted_one IsVariable variable_one u l v (c us)).1

no_within : {close : Sign} {ms mid : List Mark} {a : List (List ℕ)} {b : Scope} {r : List Mark} → ((us : List Mark) → commas (sign close ∷ us) < 1) → AreParted IsVariable ms a (sign close ∷ mid)
    → Fails IsFormula joins 1 mid Syntax → IsScope close ms b r → ⊥
no_within {mid = mid} c u f (scope {mid = us} v d n) =
    let h = parted_one IsVariable variable_one u (c mid) v (c us) in f _ _ (formula_from (tail_of h.1) d) n

pub within_fails : (ending : Sign) (ms mid : List Mark) {a : List (List ℕ)} (e : Fault) → ((us : List Mark) → commas (sign ending ∷ us) < 1) → AreParted IsVariable ms a (sign ending ∷ mid) → Fails IsFormula joins 1 mid e
    → Fails (IsScope ending) joins 1 ms e
within_fails ending ms mid Memory c u f = tt
within_fails ending ms mid Syntax c u f = λ b r d l. no_within c u f d

-- ---- atoms

no_left_side : {ms : List Mark} {b : Formula} {r : List Mark} → Fails IsTerm binds 2 ms Syntax → IsComparison ms b r → ⊥
no_left_side f (comparison {mid = mid} {o = o} p d k e q) = f _ _ d (compared_binds mid o k)

pub left_side_fails : (ms : List Mark) (e : Fault) → Fails IsTerm binds 2 ms e → Fails IsComparison free 1 ms e
left_side_fails ms Memory f = tt
left_side_fails ms Syntax f = λ b r d l. no_left_side f d

pub no_op : {ms mid : List Mark} {a : Term} {b : Formula} {r : List Mark} → IsTerm ms a mid → binds mid < 2 → compared mid ≡ None → IsComparison ms b r → ⊥
no_op u l n (comparison {mid = us} {o = o} p d k e q) = let h = ap compared (term_one u l d (compared_binds us o k)).1 in cc

no_right_side : {ms mid : List Mark} {a : Term} {b : Formula} {r : List Mark} → IsTerm ms a mid → binds mid < 2 → Fails IsTerm binds 2 (behind mid) Syntax → IsComparison ms b r → ⊥
no_right_side u l f (comparison {mid = us} {o = o} {rest = r} p d k e q) =
    let h = term_one u l d (compared_binds us o k) in f _ _ (term_from (ap behind h.1) e) (stays_binds r q)

pub right_side_fails : (ms : List Mark) {mid : List Mark} {a : Term} (e : Fault) → IsTerm ms a mid → binds mid < 2 → Fails IsTerm binds 2 (behind mid) e → Fails IsComparison free 1 ms e
right_side_fails ms Memory u l f = tt
right_side_fails ms Syntax u l f = λ b r d m. no_right_side u l f d

-- a third side
pub no_third_side : {ms mid rest : List Mark} {a b : Term} {c : Formula} {r : List Mark} → IsTerm ms a mid → binds mid < 2 → IsTerm (behind mid) b rest → binds rest < 2 → goes_on rest ≡ true → IsComparison ms c r → ⊥
no_third_side u l v m g (comparison {mid = us} {o = o} {rest = r} p d k e q) =
    let h = term_one u l d (compared_binds us o k) in
    let i = ap goes_on (term_one v m (term_from (ap behind h.1) e) (stays_binds r q)).1 in cc

pub no_opened : {ms : List Mark} {b : Formula} {r : List Mark} → opens ms ≡ true → IsComparison ms b r → ⊥
no_opened o (comparison p d k e q) = cc

pub behind_le : (ms : List Mark) → length (behind ms) ≤ length ms
behind_le [] = omega arith
behind_le (x ∷ ms) = omega arith

no_predicate : {n : List ℕ} {ms : List Mark} {b : Formula} {r : List Mark} → Fails AreArguments free 1 ms Syntax → IsAtom (m.upper n ∷ ms) b r → ⊥
no_predicate f (predicate {rest = rest} d g) = f _ rest d (omega arith)
no_predicate f (compares (comparison p (products (factors (variable_alone v) x) y) k e q)) = cc
no_predicate f (compares (comparison p (products (factors (application {rest = rest} d) x) y) k e q)) = f _ rest d (omega arith)

pub predicate_fails : (n : List ℕ) (ms : List Mark) (e : Fault) → Fails AreArguments free 1 ms e → Fails IsAtom free 1 (m.upper n ∷ ms) e
predicate_fails n ms Memory f = tt
predicate_fails n ms Syntax f = λ b r d l. no_predicate f d

no_such_atom : {n : List ℕ} {ms mid : List Mark} {a : Terms} {b : Formula} {r : List Mark} → AreArguments ms a mid → goes_on mid ≡ true → Fails IsComparison free 1 (m.upper n ∷ ms) Syntax → IsAtom (m.upper n ∷ ms) b r → ⊥
no_such_atom u g f (predicate d h) = let i = ap goes_on (arguments_one u d).1 in cc
no_such_atom u g f (compares {rest = rest} d) = f _ rest d (omega arith)

pub compared_fails : (n : List ℕ) (ms : List Mark) {mid : List Mark} {a : Terms} (e : Fault) → AreArguments ms a mid → goes_on mid ≡ true → Fails IsComparison free 1 (m.upper n ∷ ms) e → Fails IsAtom free 1 (m.upper n ∷ ms) e
compared_fails n ms Memory u g f = tt
compared_fails n ms Syntax u g f = λ b r d l. no_such_atom u g f d

no_atom_else : {ms : List Mark} {b : Formula} {r : List Mark} → ((n : List ℕ) (more : List Mark) → ms ≡ m.upper n ∷ more → ⊥) → Fails IsComparison free 1 ms Syntax → IsAtom ms b r → ⊥
no_atom_else lacks f (predicate d g) = lacks _ _ refl
no_atom_else lacks f (compares {rest = rest} d) = f _ rest d (omega arith)

pub else_fails : (ms : List Mark) (e : Fault) → ((n : List ℕ) (more : List Mark) → ms ≡ m.upper n ∷ more → ⊥) → Fails IsComparison free 1 ms e → Fails IsAtom free 1 ms e
else_fails ms Memory lacks f = tt
else_fails ms Syntax lacks f = λ b r d l. no_atom_else lacks f d

-- ---- calls that answer for their caller

pub compared_reads : (n : List ℕ) (ms : List Mark) {mid : List Mark} {a : Terms} (result : Result (Tree × Bor (List rust.Mark)) Fault) → AreArguments ms a mid → goes_on mid ≡ true → Reads formula_of IsComparison free 1 (m.upper n ∷ ms) result
    → Reads formula_of IsAtom free 1 (m.upper n ∷ ms) result
compared_reads n ms (Ok r) u g h = (compares h.0, h.1, h.2)
compared_reads n ms (Err e) u g h = compared_fails n ms e u g h

pub else_reads : (ms : List Mark) (result : Result (Tree × Bor (List rust.Mark)) Fault) → ((n : List ℕ) (more : List Mark) → ms ≡ m.upper n ∷ more → ⊥) → Reads formula_of IsComparison free 1 ms result
    → Reads formula_of IsAtom free 1 ms result
else_reads ms (Ok r) lacks h = (compares h.0, h.1, h.2)
else_reads ms (Err e) lacks h = else_fails ms e lacks h

pub group_reads : (ms mid : List Mark) (inner : Tree) (result : Result (Tree × Bor (List rust.Mark)) Fault) → IsFormula ms (formula_of inner) mid → joins mid < 1 → length mid ≤ length ms → IsClosed inner mid s.Close result
    → Reads formula_of IsUnary free 1 (sign s.Open ∷ ms) result
group_reads ms mid inner (Ok r) u l n h = (rw h.0 (group (rw h.1 at u)), omega arith, omega (arith, n, ap length h.1))
group_reads ms mid inner (Err e) u l n h = rw h.0 (λ b r d m. no_close u l h.1 d)

pub unary_reads : (ms : List Mark) (result : Result (Tree × Bor (List rust.Mark)) Fault) → Lacks ms (sign s.Not) → Lacks ms (sign s.Open) → Lacks ms (sign s.OpenBracket) → Lacks ms (sign s.OpenBrace)
    → Reads formula_of IsAtom free 1 ms result → Reads formula_of IsUnary free 1 ms result
unary_reads ms (Ok r) n o p q h = (atomic h.0, h.1, h.2)
unary_reads ms (Err e) n o p q h = unary_fails ms e n o p q h

-- ---- what was read before, with what is read next

pub with_others_fail : (marks start more : List Mark) {a : Formula} (next : Result (Vec Tree Global × Bor (List rust.Mark)) Fault) (e : Fault) → IsUnary marks a start → start ≡ sign s.And ∷ more → next ≡ Err e → Reads trees_of AreConjuncts joins 4 (sign s.And ∷ more) next
    → Fails IsConjunction joins 4 marks e
with_others_fail marks start more {a} next e u begins is h =
    others_fail marks e (subst (λ z. IsUnary marks a z) begins u) (subst (λ n. Reads trees_of AreConjuncts joins 4 (sign s.And ∷ more) n) is h)

pub with_others : (marks start more : List Mark) (before first : Tree) (others : Vec Tree Global) (rest : Bor (List rust.Mark)) (next : Result (Vec Tree Global × Bor (List rust.Mark)) Fault) → IsUnary marks (formula_of before) start → length start ≤ length marks
    → start ≡ sign s.And ∷ more → first ≡ before → next ≡ Ok (others, rest) → Reads trees_of AreConjuncts joins 4 (sign s.And ∷ more) next
    → IsConjunction marks (all_of (formula_of first) (formulas_of others.items)) (seen_all rest.now) × (joins (seen_all rest.now) < 4) × (length (seen_all rest.now) ≤ length marks)
with_others marks start more before first others rest next u l begins same is h =
    let k = subst (λ n. Reads trees_of AreConjuncts joins 4 (sign s.And ∷ more) n) is h in
    (rw same (conjunction (subst (λ z. IsUnary marks (formula_of before) z) begins u) k.0), k.1, omega (arith, k.2, l, ap length begins))

pub with_others_of_any_fail : (marks start more : List Mark) {a : Formula} (next : Result (Vec Tree Global × Bor (List rust.Mark)) Fault) (e : Fault) → IsConjunction marks a start → joins start < 4 → start ≡ sign s.Or ∷ more → next ≡ Err e
    → Reads trees_of AreDisjuncts joins 3 (sign s.Or ∷ more) next → Fails IsDisjunction joins 3 marks e
with_others_of_any_fail marks start more {a} next e u stop begins is h =
    others_of_any_fail marks e (subst (λ z. IsConjunction marks a z) begins u) (subst (λ z. joins z < 4) begins stop) (subst (λ n. Reads trees_of AreDisjuncts joins 3 (sign s.Or ∷ more) n) is h)

pub with_others_of_any : (marks start more : List Mark) (before first : Tree) (others : Vec Tree Global) (rest : Bor (List rust.Mark)) (next : Result (Vec Tree Global × Bor (List rust.Mark)) Fault) → IsConjunction marks (formula_of before) start → length start ≤ length marks
    → start ≡ sign s.Or ∷ more → first ≡ before → next ≡ Ok (others, rest) → Reads trees_of AreDisjuncts joins 3 (sign s.Or ∷ more) next
    → IsDisjunction marks (any_of (formula_of first) (formulas_of others.items)) (seen_all rest.now) × (joins (seen_all rest.now) < 3) × (length (seen_all rest.now) ≤ length marks)
with_others_of_any marks start more before first others rest next u l begins same is h =
    let k = subst (λ n. Reads trees_of AreDisjuncts joins 3 (sign s.Or ∷ more) n) is h in
    (rw same (disjunction (subst (λ z. IsConjunction marks (formula_of before) z) begins u) k.0), k.1, omega (arith, k.2, l, ap length begins))

pub with_right_fails : (marks start more : List Mark) {a : Formula} (next : Result (Tree × Bor (List rust.Mark)) Fault) (e : Fault) → IsDisjunction marks a start → start ≡ sign s.Implies ∷ more → next ≡ Err e → Reads formula_of IsImplication joins 2 more next
    → Fails IsImplication joins 2 marks e
with_right_fails marks start more {a} next e u begins is h =
    right_fails marks e (subst (λ z. IsDisjunction marks a z) begins u) (subst (λ n. Reads formula_of IsImplication joins 2 more n) is h)

pub with_side_fails : (marks start more : List Mark) {a : Formula} (next : Result (Tree × Bor (List rust.Mark)) Fault) (e : Fault) → Sides marks start a → start ≡ sign s.Iff ∷ more → next ≡ Err e → Reads formula_of IsImplication joins 2 more next → Fails IsFormula joins 1 marks e
with_side_fails marks start more {a} next e u begins is h =
    sides_fail marks e (subst (λ z. Sides marks z a) begins u) (subst (λ n. Reads formula_of IsImplication joins 2 more n) is h)

pub with_side : (marks start more : List Mark) (left before right : Tree) (rest : Bor (List rust.Mark)) (next : Result (Tree × Bor (List rust.Mark)) Fault) → Sides marks start (formula_of left) → start ≡ sign s.Iff ∷ more → before ≡ left → next ≡ Ok (right, rest)
    → Reads formula_of IsImplication joins 2 more next → Sides marks (seen_all rest.now) (iff (formula_of before) (formula_of right))
with_side marks start more left before right rest next u begins same is h =
    let k = subst (λ n. Reads formula_of IsImplication joins 2 more n) is h in
    rw same (sides_more (subst (λ z. Sides marks z (formula_of left)) begins u) k.0 k.1 k.2)

pub ruleset reading = (negation, group, every, some, atomic, scope, predicate, compares, comparison, plain, implication, stops_and, stops_or, stops_implies, stops_iff, sides_begin, sides_end)
