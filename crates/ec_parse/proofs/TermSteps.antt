-- The turns of the loops that group to the left.
use Rattle.std.proofs.Common.{◌≡◌, ℕ, ◌<◌, ◌≤◌, List, [], ◌∷◌, ◌++◌, false, length, refl, ap, arith}
use Rattle.ec_parse.specs.declared.mark.Sign.{Sign}
use Rattle.ec_parse.specs.declared.mark.Sign.TheVariants as s
use Rattle.ec_parse.specs.declared.fault.Fault.{Fault}
use Rattle.ec_parse.specs.declared.fault.Fault.TheVariants.{Memory, Syntax}
use Rattle.ec_syntax.specs.declared.tree.Arg.{Arg}
use Rattle.ec_syntax.specs.Written.{Term, sum, difference, product, Terms, no_terms, term}
use Rattle.ec_syntax.specs.View.{term_of, terms_of}
use Rattle.ec_parse.specs.Mark.{Mark, sign, Lacks}
use Rattle.ec_parse.specs.Mark as m
use Rattle.ec_parse.specs.Terms.{binding, binds, opens, IsFactor, minus, digits, variable_alone, application, group, AreArguments, bare, empty, full, AreTerms, terms, AreMoreTerms, no_more, one_more, IsProduct, factors, Multiplies, no_factor, times, IsTerm, products, Adds, no_product, plus, less_by}
use Rattle.ec_parse.specs.Reads.{Fails, free}
use Rattle.ec_parse.proofs.OneTerm.{factor_one, terms_one, product_one, term_one, multiplies_from, adds_from, more_from, adds_stop, more_stop}

binding_low : (x : Sign) → binding x < 4
binding_low s.Comma = omega arith
binding_low s.Times = omega arith
binding_low s.Plus = omega arith
binding_low _ = omega arith

pub binds_low : (ms : List Mark) → binds ms < 4
binds_low (sign x ∷ ms) = binding_low x
binds_low _ = omega arith

sign_lacks : (x y : Sign) (ms : List Mark) → Lacks (sign x ∷ ms) (sign y) → x ≡ y → ⊥
sign_lacks x y ms lacks e = lacks ms (rw e refl)

times_binding : (x : Sign) → (x ≡ s.Times → ⊥) → binding x < 3
times_binding s.Times n = absurd (n refl)
times_binding s.Comma n = omega arith
times_binding _ n = omega arith

pub stops_times : (ms : List Mark) → Lacks ms (sign s.Times) → binds ms < 3
stops_times (sign x ∷ ms) lacks = times_binding x (sign_lacks x s.Times ms lacks)
stops_times _ lacks = omega arith

adds_binding : (x : Sign) → binding x < 3 → (x ≡ s.Plus → ⊥) → (x ≡ s.Minus → ⊥) → binding x < 2
adds_binding s.Plus l p n = absurd (p refl)
adds_binding s.Minus l p n = absurd (n refl)
adds_binding s.Times l p n = absurd (omega arith)
adds_binding s.Comma l p n = omega arith
adds_binding _ l p n = omega arith

pub stops_adds : (ms : List Mark) → binds ms < 3 → Lacks ms (sign s.Plus) → Lacks ms (sign s.Minus) → binds ms < 2
stops_adds (sign x ∷ ms) l p n = adds_binding x l (sign_lacks x s.Plus ms p) (sign_lacks x s.Minus ms n)
stops_adds _ l p n = omega arith

-- the marks before rest spell left, as the front of a product
pub record Product (marks rest : List Mark) (left : Term) : Type 0 where
  pub so_far : (b : Term) (r : List Mark) → Multiplies rest left b r → IsProduct marks b r
  pub goes_on : (b : Term) (r : List Mark) → IsProduct marks b r → binds r < 3 → Multiplies rest left b r
  pub shorter : length rest ≤ length marks

product_left : {marks mid : List Mark} {a b : Term} {r : List Mark} → IsFactor marks a mid → IsProduct marks b r → Multiplies mid a b r
product_left u (factors d ds) = let h = factor_one u d in multiplies_from h.1 h.0 ds

pub product_begins : {marks mid : List Mark} {a : Term} → IsFactor marks a mid → length mid ≤ length marks → Product marks mid a
product_begins u l = record { so_far = λ b r d. factors u d; goes_on = λ b r d m. product_left u d; shorter = l }

times_left : {more after : List Mark} {a b c : Term} {r : List Mark} → Multiplies (sign s.Times ∷ more) a c r → binds r < 3 → IsFactor more b after → Multiplies after (product a b) c r
times_left no_factor l u = absurd (omega arith)
times_left {a = a} (times d ds) l u = let h = factor_one u d in multiplies_from h.1 (ap (product a) h.0) ds

pub product_goes : {marks more after : List Mark} {a b : Term} → Product marks (sign s.Times ∷ more) a → IsFactor more b after → length after ≤ length more → Product marks after (product a b)
product_goes p u l = record {
  so_far = λ c r d. p.so_far c r (times u d);
  goes_on = λ c r d m. times_left (p.goes_on c r d m) m u;
  shorter = let s = p.shorter in omega arith;
}

times_fails : {more : List Mark} {a c : Term} {r : List Mark} → Multiplies (sign s.Times ∷ more) a c r → binds r < 3 → Fails IsFactor binds 4 more Syntax → ⊥
times_fails no_factor l f = omega arith
times_fails (times {mid = mid} d ds) l f = f _ _ d (binds_low mid)

pub product_fails : (marks : List Mark) {more : List Mark} {a : Term} (e : Fault) → Product marks (sign s.Times ∷ more) a → Fails IsFactor binds 4 more e → Fails IsProduct binds 3 marks e
product_fails marks Memory p f = tt
product_fails marks Syntax p f = λ c r d l. times_fails (p.goes_on c r d l) l f

first_fails : {marks : List Mark} {c : Term} {r : List Mark} → Fails IsFactor binds 4 marks Syntax → IsProduct marks c r → ⊥
first_fails f (factors {mid = mid} d ds) = f _ _ d (binds_low mid)

pub factor_fails : (marks : List Mark) (e : Fault) → Fails IsFactor binds 4 marks e → Fails IsProduct binds 3 marks e
factor_fails marks Memory f = tt
factor_fails marks Syntax f = λ c r d l. first_fails f d

-- ---- the same of sums and differences

pub record Sum (marks rest : List Mark) (left : Term) : Type 0 where
  pub so_far : (b : Term) (r : List Mark) → Adds rest left b r → IsTerm marks b r
  pub goes_on : (b : Term) (r : List Mark) → IsTerm marks b r → binds r < 2 → Adds rest left b r
  pub stops : binds rest < 3
  pub shorter : length rest ≤ length marks

sum_left : {marks mid : List Mark} {a b : Term} {r : List Mark} → IsProduct marks a mid → binds mid < 3 → IsTerm marks b r → binds r < 2 → Adds mid a b r
sum_left u s (products d ds) l = let h = product_one u s d (adds_stop ds l) in adds_from h.1 h.0 ds

pub sum_begins : {marks mid : List Mark} {a : Term} → IsProduct marks a mid → binds mid < 3 → length mid ≤ length marks → Sum marks mid a
sum_begins u s l = record { so_far = λ b r d. products u d; goes_on = λ b r d m. sum_left u s d m; stops = s; shorter = l }

plus_left : {more after : List Mark} {a b c : Term} {r : List Mark} → Adds (sign s.Plus ∷ more) a c r → binds r < 2 → IsProduct more b after → binds after < 3 → Adds after (sum a b) c r
plus_left no_product l u s = absurd (omega arith)
plus_left {a = a} (plus d ds) l u s = let h = product_one u s d (adds_stop ds l) in adds_from h.1 (ap (sum a) h.0) ds

minus_left : {more after : List Mark} {a b c : Term} {r : List Mark} → Adds (sign s.Minus ∷ more) a c r → binds r < 2 → IsProduct more b after → binds after < 3 → Adds after (difference a b) c r
minus_left no_product l u s = absurd (omega arith)
minus_left {a = a} (less_by d ds) l u s = let h = product_one u s d (adds_stop ds l) in adds_from h.1 (ap (difference a) h.0) ds

pub sum_goes : {marks more after : List Mark} {a b : Term} → Sum marks (sign s.Plus ∷ more) a → IsProduct more b after → binds after < 3 → length after ≤ length more → Sum marks after (sum a b)
sum_goes p u s l = record {
  so_far = λ c r d. p.so_far c r (plus u d);
  goes_on = λ c r d m. plus_left (p.goes_on c r d m) m u s;
  stops = s;
  shorter = let k = p.shorter in omega arith;
}

pub difference_goes : {marks more after : List Mark} {a b : Term} → Sum marks (sign s.Minus ∷ more) a → IsProduct more b after → binds after < 3 → length after ≤ length more → Sum marks after (difference a b)
difference_goes p u s l = record {
  so_far = λ c r d. p.so_far c r (less_by u d);
  goes_on = λ c r d m. minus_left (p.goes_on c r d m) m u s;
  stops = s;
  shorter = let k = p.shorter in omega arith;
}

-- ---- what stands alone

no_minus : {ms : List Mark} {b : Term} {r : List Mark} → Fails IsFactor binds 4 ms Syntax → IsFactor (sign s.Minus ∷ ms) b r → ⊥
no_minus f (variable_alone v) = cc
no_minus f (minus {rest = rest} d) = f _ _ d (binds_low rest)

pub minus_fails : (ms : List Mark) (e : Fault) → Fails IsFactor binds 4 ms e → Fails IsFactor binds 4 (sign s.Minus ∷ ms) e
minus_fails ms Memory f = tt
minus_fails ms Syntax f = λ b r d l. no_minus f d

no_group : {ms : List Mark} {b : Term} {r : List Mark} → Fails IsTerm binds 2 ms Syntax → IsFactor (sign s.Open ∷ ms) b r → ⊥
no_group f (variable_alone v) = cc
no_group f (group d) = f _ _ d (omega arith)

pub group_fails : (ms : List Mark) (e : Fault) → Fails IsTerm binds 2 ms e → Fails IsFactor binds 4 (sign s.Open ∷ ms) e
group_fails ms Memory f = tt
group_fails ms Syntax f = λ b r d l. no_group f d

pub no_close : {ms mid : List Mark} {a b : Term} {r : List Mark} → IsTerm ms a mid → binds mid < 2 → Lacks mid (sign s.Close) → IsFactor (sign s.Open ∷ ms) b r → ⊥
no_close u l lacks (variable_alone v) = cc
no_close u l lacks (group d) = lacks _ (term_one u l d (omega arith)).1

adds_fail : {more : List Mark} {a c : Term} {r : List Mark} → Adds (sign s.Plus ∷ more) a c r → binds r < 2 → Fails IsProduct binds 3 more Syntax → ⊥
adds_fail no_product l f = omega arith
adds_fail (plus d ds) l f = f _ _ d (adds_stop ds l)

pub sum_fails : (marks : List Mark) {more : List Mark} {a : Term} (e : Fault) → Sum marks (sign s.Plus ∷ more) a → Fails IsProduct binds 3 more e → Fails IsTerm binds 2 marks e
sum_fails marks Memory p f = tt
sum_fails marks Syntax p f = λ c r d l. adds_fail (p.goes_on c r d l) l f

subtracms_fail : {more : List Mark} {a c : Term} {r : List Mark} → Adds (sign s.Minus ∷ more) a c r → binds r < 2 → Fails IsProduct binds 3 more Syntax → ⊥
subtracms_fail no_product l f = omega arith
subtracms_fail (less_by d ds) l f = f _ _ d (adds_stop ds l)

pub difference_fails : (marks : List Mark) {more : List Mark} {a : Term} (e : Fault) → Sum marks (sign s.Minus ∷ more) a → Fails IsProduct binds 3 more e → Fails IsTerm binds 2 marks e
difference_fails marks Memory p f = tt
difference_fails marks Syntax p f = λ c r d l. subtracms_fail (p.goes_on c r d l) l f

no_first : {marks : List Mark} {c : Term} {r : List Mark} → Fails IsProduct binds 3 marks Syntax → IsTerm marks c r → binds r < 2 → ⊥
no_first f (products d ds) l = f _ _ d (adds_stop ds l)

pub term_fails : (marks : List Mark) (e : Fault) → Fails IsProduct binds 3 marks e → Fails IsTerm binds 2 marks e
term_fails marks Memory f = tt
term_fails marks Syntax f = λ c r d l. no_first f d l

pub product_ends : {marks rest : List Mark} {a : Term} → Product marks rest a → IsProduct marks a rest
product_ends p = p.so_far _ _ no_factor

pub sum_ends : {marks rest : List Mark} {a : Term} → Sum marks rest a → IsTerm marks a rest
sum_ends p = p.so_far _ _ no_product

-- ---- names and their arguments

no_application : {n : List ℕ} {ms : List Mark} {b : Term} {r : List Mark} → Fails AreArguments free 1 ms Syntax → IsFactor (m.upper n ∷ ms) b r → ⊥
no_application f (variable_alone v) = absurd cc
no_application f (application {rest = rest} d) = f _ rest d (omega arith)

pub application_fails : (n : List ℕ) (ms : List Mark) (e : Fault) → Fails AreArguments free 1 ms e → Fails IsFactor binds 4 (m.upper n ∷ ms) e
application_fails n ms Memory f = tt
application_fails n ms Syntax f = λ b r d l. no_application f d

no_open : (x : Sign) → (x ≡ s.Open → ⊥) → (ms : List Mark) → opens (sign x ∷ ms) ≡ false
no_open s.Open n ms = absurd (n refl)
no_open s.Comma n ms = refl
no_open _ n ms = refl

pub lacks_open : (ms : List Mark) → Lacks ms (sign s.Open) → opens ms ≡ false
lacks_open (sign x ∷ ms) lacks = no_open x (sign_lacks x s.Open ms lacks) ms
lacks_open _ lacks = refl

no_arguments : {ms : List Mark} {b : Terms} {r : List Mark} → Lacks ms (sign s.Close) → Fails AreTerms binds 1 ms Syntax → AreArguments (sign s.Open ∷ ms) b r → ⊥
no_arguments lacks f (bare o) = cc
no_arguments lacks f empty = lacks _ refl
no_arguments lacks f (full d) = f _ _ d (omega arith)

pub arguments_fail : (ms : List Mark) (e : Fault) → Lacks ms (sign s.Close) → Fails AreTerms binds 1 ms e → Fails AreArguments free 1 (sign s.Open ∷ ms) e
arguments_fail ms Memory lacks f = tt
arguments_fail ms Syntax lacks f = λ b r d l. no_arguments lacks f d

pub no_arguments_close : {ms mid : List Mark} {a b : Terms} {r : List Mark} → AreTerms ms a mid → binds mid < 1 → Lacks mid (sign s.Close) → Lacks ms (sign s.Close) → AreArguments (sign s.Open ∷ ms) b r → ⊥
no_arguments_close u l lacks first (bare o) = cc
no_arguments_close u l lacks first empty = first _ refl
no_arguments_close u l lacks first (full d) = lacks _ (terms_one u l d (omega arith)).1

-- ---- terms parted by commas

abbrev pub joined : Terms → Terms → Terms
joined no_terms bs = bs
joined (term a others) bs = term a (joined others bs)

pub joined-none : (bs : Terms) → joined bs no_terms ≡ bs
joined-none no_terms = refl
joined-none (term a others) = ap (term a) (joined-none others)

pub joined-push : (args : List Arg) (t : Arg) (bs : Terms) → joined (terms_of (args ++ t ∷ [])) bs ≡ joined (terms_of args) (term (term_of t) bs)
joined-push [] t bs = refl
joined-push (u ∷ args) t bs = ap (term (term_of u)) (joined-push args t bs)

comma_binding : (x : Sign) → binding x < 2 → (x ≡ s.Comma → ⊥) → binding x < 1
comma_binding s.Comma l n = absurd (n refl)
comma_binding s.Plus l n = absurd (omega arith)
comma_binding s.Minus l n = absurd (omega arith)
comma_binding s.Times l n = absurd (omega arith)
comma_binding _ l n = omega arith

pub stops_comma : (ms : List Mark) → binds ms < 2 → Lacks ms (sign s.Comma) → binds ms < 1
stops_comma (sign x ∷ ms) l lacks = comma_binding x l (sign_lacks x s.Comma ms lacks)
stops_comma _ l lacks = omega arith

-- the terms of marks up to rest are those found, and rest has the others
pub record Arguments (marks rest : List Mark) (found : List Arg) : Type 0 where
  pub so_far : (bs : Terms) (r : List Mark) → AreMoreTerms rest bs r → AreTerms marks (joined (terms_of found) bs) r
  pub goes_on : (bs : Terms) (r : List Mark) → AreTerms marks bs r → binds r < 1 → (cs : Terms) × AreMoreTerms rest cs r
  pub stops : binds rest < 2
  pub shorter : length rest ≤ length marks

first_left : {marks mid : List Mark} {a : Term} {bs : Terms} {r : List Mark} → IsTerm marks a mid → binds mid < 2 → AreTerms marks bs r → binds r < 1 → (cs : Terms) × AreMoreTerms mid cs r
first_left u s (terms {bs = bs} d ds) l = (bs, more_from (term_one u s d (more_stop ds l)).1 ds)

pub arguments_begin : {marks mid : List Mark} {found : List Arg} (first : Arg) → IsTerm marks (term_of first) mid → binds mid < 2 → length mid ≤ length marks → found ≡ first ∷ [] → Arguments marks mid found
arguments_begin first u s l e = record { so_far = λ bs r d. rw e (terms u d); goes_on = λ bs r d m. first_left u s d m; stops = s; shorter = l }

next_left : {rest after : List Mark} {a : Term} {cs : Terms} {r : List Mark} → binds r < 1 → AreMoreTerms (sign s.Comma ∷ rest) cs r → IsTerm rest a after → binds after < 2 → (ds : Terms) × AreMoreTerms after ds r
next_left l no_more u s = absurd (omega arith)
next_left l (one_more {bs = bs} d ds) u s = (bs, more_from (term_one u s d (more_stop ds l)).1 ds)

pub arguments_more : {marks rest after : List Mark} {found new : List Arg} → Arguments marks (sign s.Comma ∷ rest) found → (next : Arg) → IsTerm rest (term_of next) after → binds after < 2 → length after ≤ length rest
    → new ≡ found ++ next ∷ [] → Arguments marks after new
arguments_more {found = found} c next u s l e = record {
  so_far = λ bs r d. rw (e, joined-push) (c.so_far _ r (one_more u d));
  goes_on = λ bs r d n. let k = c.goes_on bs r d n in next_left n k.1 u s;
  stops = s;
  shorter = let k = c.shorter in omega arith;
}

pub arguments_end : {marks rest : List Mark} {found : List Arg} → Arguments marks rest found → AreTerms marks (terms_of found) rest
arguments_end {rest = rest} {found = found} c = rw (← joined-none (terms_of found)) (c.so_far no_terms rest no_more)

no_first_term : {marks : List Mark} {b : Terms} {r : List Mark} → Fails IsTerm binds 2 marks Syntax → AreTerms marks b r → binds r < 1 → ⊥
no_first_term f (terms d ds) l = f _ _ d (more_stop ds l)

pub terms_fail_first : (marks : List Mark) (e : Fault) → Fails IsTerm binds 2 marks e → Fails AreTerms binds 1 marks e
terms_fail_first marks Memory f = tt
terms_fail_first marks Syntax f = λ b r d l. no_first_term f d l

no_next_term : {rest : List Mark} {cs : Terms} {r : List Mark} → binds r < 1 → AreMoreTerms (sign s.Comma ∷ rest) cs r → Fails IsTerm binds 2 rest Syntax → ⊥
no_next_term l no_more f = omega arith
no_next_term l (one_more d ds) f = f _ _ d (more_stop ds l)

pub terms_fail : (marks : List Mark) {rest : List Mark} {found : List Arg} (e : Fault) → Arguments marks (sign s.Comma ∷ rest) found → Fails IsTerm binds 2 rest e → Fails AreTerms binds 1 marks e
terms_fail marks Memory c f = tt
terms_fail marks Syntax c f = λ b r d l. let k = c.goes_on b r d l in no_next_term l k.1 f

pub ruleset reading = (minus, digits, variable_alone, application, group, bare, empty, full, binds_low, lacks_open, product_begins, sum_begins, product_goes, sum_goes, difference_goes, product_ends, sum_ends, arguments_end, stops_times, stops_adds, stops_comma)
