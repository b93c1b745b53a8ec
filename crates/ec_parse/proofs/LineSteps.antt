-- What line statements spell: one content at most, and what isn't spelled.
use Rattle.std.proofs.Common.{◌≡◌, ℕ, ℤ, ◌<◌, true, false, List, [], ◌∷◌, ◌==◌, length, map, None, refl, ap, sym, subst, arith}
use Rattle.ec_parse.specs.declared.mark.Sign.{Sign}
use Rattle.ec_parse.specs.declared.mark.Sign.TheVariants as s
use Rattle.ec_parse.specs.declared.mark.Keyword.TheVariants as k
use Rattle.ec_parse.specs.declared.fault.Fault.{Fault}
use Rattle.ec_parse.specs.declared.fault.Fault.TheVariants.{Memory, Syntax}
use Rattle.std.specs.Prelude.{Result, Ok, Err}
use Rattle.ec_syntax.specs.declared.statement.SortItem.{SortItem}
use Rattle.ec_syntax.specs.Written.{Content, Shape}
use Rattle.ec_parse.specs.Mark.{Mark, sign, Lacks}
use Rattle.ec_parse.specs.Mark as m
use Rattle.ec_parse.specs.Reads.{Fails, Unspelled, Whole, Ending, IsEnded, free, item_of}
use Rattle.ec_parse.specs.Lists.{IsName, IsVariable, variable, AreParted, parted, commas}
use Rattle.ec_parse.specs.Lines.{IsWhole, positive, negative, IsShape, bare, empty, full, colons, IsSortItem, orphan, child, lower_of, is_left_out, IsLine, sorts, reified, constants, events, fluents, predicates, noninertial, range, completion, labelled_completion, left_out, IsAlone, load, choice, ignored, is_choice, first_word, after_word}
use Rattle.ec_parse.proofs.OneTerm.{Same}
use Rattle.ec_parse.proofs.TermSteps.{lacks_open}
use Rattle.ec_parse.proofs.Parted.{name_one, variable_one, parted_one, Parts, parts_end}

-- ---- one reading at most

pub whole_one : {ms : List Mark} {a b : ℤ} {r s : List Mark} → IsWhole ms a r → IsWhole ms b s → Same a b r s
whole_one positive positive = (refl, refl)
whole_one negative negative = (refl, refl)

no_close_sort : {ms : List Mark} {a : List (List ℕ)} {r : List Mark} → AreParted IsVariable (sign s.Close ∷ ms) a r → ⊥
no_close_sort (parted (variable v) ds) = cc

pub shape_one : (ms : List Mark) (a b : Shape) (r s : List Mark) → IsShape ms a r → IsShape ms b s → Same a b r s
shape_one _ _ _ _ _ (bare l) (bare n) = (refl, refl)
shape_one _ _ _ _ _ (bare l) empty = absurd cc
shape_one _ _ _ _ _ (bare l) (full e) = absurd cc
shape_one _ _ _ _ _ empty (bare n) = absurd cc
shape_one _ _ _ _ _ empty empty = (refl, refl)
shape_one _ _ _ _ _ empty (full e) = absurd (no_close_sort e)
shape_one _ _ _ _ _ (full d) (bare n) = absurd cc
shape_one _ _ _ _ _ (full d) empty = absurd (no_close_sort d)
shape_one _ _ _ _ _ (full d) (full e) = let h = parted_one IsVariable variable_one d (omega arith) e (omega arith) in (cc, cc)

pub item_one : (ms : List Mark) (a b : SortItem) (r s : List Mark) → IsSortItem ms a r → IsSortItem ms b s → Same a b r s
item_one _ _ _ _ _ (orphan c) (orphan d) = (refl, refl)
item_one _ _ _ _ _ (orphan c) child = absurd cc
item_one _ _ _ _ _ child (orphan d) = absurd cc
item_one _ _ _ _ _ child child = (refl, refl)

whole_from : {ms us : List Mark} {b : ℤ} {r : List Mark} → ms ≡ us → IsWhole us b r → IsWhole ms b r
whole_from {b = b} {r = r} e d = subst (λ z. IsWhole z b r) (sym e) d

pub line_one : {ms : List Mark} {a b : Content} → IsLine ms a → IsLine ms b → a ≡ b
line_one (sorts d) (sorts e) = let h = parted_one IsSortItem item_one d (omega arith) e (omega arith) in cc
line_one (sorts d) (left_out e) = absurd cc
line_one (reified d) (reified e) = cc
line_one (reified d) (left_out e) = absurd cc
line_one (constants d) (constants e) = let h = parted_one IsName name_one d (omega arith) e (omega arith) in cc
line_one (events d) (events e) = let h = parted_one IsShape shape_one d (omega arith) e (omega arith) in cc
line_one (events d) (left_out e) = absurd cc
line_one (fluents d) (fluents e) = let h = parted_one IsShape shape_one d (omega arith) e (omega arith) in cc
line_one (fluents d) (left_out e) = absurd cc
line_one (predicates d) (predicates e) = let h = parted_one IsShape shape_one d (omega arith) e (omega arith) in cc
line_one (predicates d) (left_out e) = absurd cc
line_one (noninertial d) (noninertial e) = let h = parted_one IsName name_one d (omega arith) e (omega arith) in cc
line_one (noninertial d) (left_out e) = absurd cc
line_one (range d e) (range f g) = let h = whole_one d f in let i = whole_one e (whole_from h.1 g) in cc
line_one (range d e) (left_out f) = absurd cc
line_one completion completion = refl
line_one completion (left_out e) = absurd cc
line_one labelled_completion labelled_completion = refl
line_one labelled_completion (left_out e) = absurd cc
line_one (left_out d) (sorts e) = absurd cc
line_one (left_out d) (reified e) = absurd cc
line_one (left_out d) (events e) = absurd cc
line_one (left_out d) (fluents e) = absurd cc
line_one (left_out d) (predicates e) = absurd cc
line_one (left_out d) (noninertial e) = absurd cc
line_one (left_out d) (range e f) = absurd cc
line_one (left_out d) completion = absurd cc
line_one (left_out d) labelled_completion = absurd cc
line_one (left_out d) (left_out e) = refl

-- ---- whole numbers, shapes and sorts that aren't there

pub no_negative : {ms : List Mark} {a : ℤ} {r : List Mark} → ((n : ℕ) (more : List Mark) → ms ≡ m.number n ∷ more → ⊥) → IsWhole (sign s.Minus ∷ ms) a r → ⊥
no_negative lacks negative = lacks _ _ refl

pub no_whole : {ms : List Mark} {a : ℤ} {r : List Mark} → Lacks ms (sign s.Minus) → ((n : ℕ) (more : List Mark) → ms ≡ m.number n ∷ more → ⊥) → IsWhole ms a r → ⊥
no_whole minus lacks positive = lacks _ _ refl
no_whole minus lacks negative = minus _ refl

pub no_shape : {ms : List Mark} {a : Shape} {r : List Mark} → ((n : List ℕ) (more : List Mark) → ms ≡ m.upper n ∷ more → ⊥) → IsShape ms a r → ⊥
no_shape lacks (bare l) = lacks _ _ refl
no_shape lacks empty = lacks _ _ refl
no_shape lacks (full d) = lacks _ _ refl

no_sorts : {n : List ℕ} {ms : List Mark} {a : Shape} {r : List Mark} → Lacks ms (sign s.Close) → Fails (AreParted IsVariable) commas 1 ms Syntax → IsShape (m.upper n ∷ sign s.Open ∷ ms) a r → ⊥
no_sorts lacks f (bare l) = cc
no_sorts lacks f empty = lacks _ refl
no_sorts lacks f (full d) = f _ _ d (omega arith)

pub sorts_fail : (n : List ℕ) (ms : List Mark) (e : Fault) → Lacks ms (sign s.Close) → Fails (AreParted IsVariable) commas 1 ms e → Fails IsShape free 1 (m.upper n ∷ sign s.Open ∷ ms) e
sorts_fail n ms Memory lacks f = tt
sorts_fail n ms Syntax lacks f = λ a r d l. no_sorts lacks f d

pub no_shape_end : {n : List ℕ} {ms mid : List Mark} {b : List (List ℕ)} {a : Shape} {r : List Mark} → Lacks ms (sign s.Close) → AreParted IsVariable ms b mid → commas mid < 1 → Lacks mid (sign s.Close)
    → IsShape (m.upper n ∷ sign s.Open ∷ ms) a r → ⊥
no_shape_end first u l lacks (bare o) = cc
no_shape_end first u l lacks empty = first _ refl
no_shape_end first u l lacks (full d) = lacks _ (parted_one IsVariable variable_one u l d (omega arith)).1

pub no_item : {ms : List Mark} {a : SortItem} {r : List Mark} → ((v : List ℕ) (more : List Mark) → ms ≡ m.lower v ∷ more → ⊥) → IsSortItem ms a r → ⊥
no_item lacks (orphan c) = lacks _ _ refl
no_item lacks child = lacks _ _ refl

pub no_parent : {v : List ℕ} {ms : List Mark} {a : SortItem} {r : List Mark} → ((p : List ℕ) (more : List Mark) → ms ≡ m.lower p ∷ more → ⊥) → IsSortItem (m.lower v ∷ sign s.Colon ∷ ms) a r → ⊥
no_parent lacks (orphan c) = cc
no_parent lacks child = lacks _ _ refl

colon_sign : (x : Sign) (ms : List Mark) → (x ≡ s.Colon → ⊥) → colons (sign x ∷ ms) ≡ false
colon_sign s.Colon ms n = absurd (n refl)
colon_sign s.Stop ms n = refl
colon_sign _ ms n = refl

pub lacks_colon : (ms : List Mark) → Lacks ms (sign s.Colon) → colons ms ≡ false
lacks_colon (sign x ∷ ms) lacks = colon_sign x ms (λ e. lacks ms (rw e refl))
lacks_colon _ lacks = refl

pub map_item : (xs : List SortItem) → map item_of xs ≡ xs
map_item [] = refl
map_item (x ∷ xs) = ap (λ z. x ∷ z) (map_item xs)

pub items_end : {marks rest : List Mark} {found : List SortItem} → Parts item_of IsSortItem marks rest found → AreParted IsSortItem marks found rest
items_end {found = found} c = rw (← map_item found) (parts_end item_of IsSortItem item_one c)

pub ruleset lines = (positive, negative, bare, empty, full, orphan, child, no_negative, no_whole, no_shape, no_item, no_parent, lacks_colon, lacks_open)

-- ---- lists that aren't whole

module _ {X : Type 0} (R : List Mark → X → List Mark → Type 0) (one : (ms : List Mark) (a b : X) (r s : List Mark) → R ms a r → R ms b s → Same a b r s) where
  pub no_whole_list : {ms mid : List Mark} {a b : List X} → AreParted R ms a mid → commas mid < 1 → (mid ≡ [] → ⊥) → AreParted R ms b [] → ⊥
  no_whole_list u l n d = n (parted_one R one u l d (omega arith)).1

  pub list_ended : {A : Type 0} (view : A → List X) (ms mid : List Mark) (found : A) (result : Result A Fault) → AreParted R ms (view found) mid → commas mid < 1 → IsEnded found mid result → Whole view (Ending (AreParted R)) ms result
  list_ended view ms mid found (Ok a) u l h = rw h.0 (subst (λ z. AreParted R ms (view found) z) h.1 u)
  list_ended view ms mid found (Err e) u l h = rw h.0 (λ x d. no_whole_list u l h.1 d)

module _ {X : Type 0} (R : List Mark → X → List Mark → Type 0) where
  pub ending_fails : (ms : List Mark) (e : Fault) → Fails (AreParted R) commas 1 ms e → Unspelled (Ending (AreParted R)) ms e
  ending_fails ms Memory f = tt
  ending_fails ms Syntax f = λ x d. f x [] d (omega arith)

-- ---- line statements that aren't there

pub no_sorts_line : {u : List ℕ} {ms : List Mark} {c : Content} → ((items : List SortItem) → AreParted IsSortItem ms items [] → ⊥) → IsLine (m.keyword k.Sort u ∷ ms) c → ⊥
no_sorts_line f (sorts d) = f _ d
no_sorts_line f (left_out e) = cc

pub no_events_line : {u : List ℕ} {ms : List Mark} {c : Content} → ((shapes : List Shape) → AreParted IsShape ms shapes [] → ⊥) → IsLine (m.keyword k.Event u ∷ ms) c → ⊥
no_events_line f (events d) = f _ d
no_events_line f (left_out e) = cc

pub no_fluents_line : {u : List ℕ} {ms : List Mark} {c : Content} → ((shapes : List Shape) → AreParted IsShape ms shapes [] → ⊥) → IsLine (m.keyword k.Fluent u ∷ ms) c → ⊥
no_fluents_line f (fluents d) = f _ d
no_fluents_line f (left_out e) = cc

pub no_predicates_line : {u : List ℕ} {ms : List Mark} {c : Content} → ((shapes : List Shape) → AreParted IsShape ms shapes [] → ⊥) → IsLine (m.keyword k.Predicate u ∷ ms) c → ⊥
no_predicates_line f (predicates d) = f _ d
no_predicates_line f (left_out e) = cc

pub no_noninertial_line : {u : List ℕ} {ms : List Mark} {c : Content} → ((names : List (List ℕ)) → AreParted IsName ms names [] → ⊥) → IsLine (m.keyword k.Noninertial u ∷ ms) c → ⊥
no_noninertial_line f (noninertial d) = f _ d
no_noninertial_line f (left_out e) = cc

pub no_constants_line : {v : List ℕ} {ms : List Mark} {c : Content} → ((names : List (List ℕ)) → AreParted IsName ms names [] → ⊥) → IsLine (m.lower v ∷ ms) c → ⊥
no_constants_line f (constants d) = f _ d

pub no_reified_sort : {u : List ℕ} {ms : List Mark} {c : Content} → ((v : List ℕ) (more : List Mark) → ms ≡ m.keyword k.Sort v ∷ more → ⊥) → IsLine (m.keyword k.Reified u ∷ ms) c → ⊥
no_reified_sort lacks (reified e) = lacks _ _ refl
no_reified_sort lacks (left_out e) = cc

pub no_reified_end : {u v : List ℕ} {c : Content} → IsLine (m.keyword k.Reified u ∷ m.keyword k.Sort v ∷ []) c → ⊥
no_reified_end (left_out e) = cc

pub no_reified_word : {u v : List ℕ} {x : Mark} {ms : List Mark} {c : Content} → lower_of x ≡ None → IsLine (m.keyword k.Reified u ∷ m.keyword k.Sort v ∷ x ∷ ms) c → ⊥
no_reified_word n (reified e) = cc
no_reified_word n (left_out e) = cc

pub no_reified_more : {u v : List ℕ} {x : Mark} {ms : List Mark} {c : Content} → (ms ≡ [] → ⊥) → IsLine (m.keyword k.Reified u ∷ m.keyword k.Sort v ∷ x ∷ ms) c → ⊥
no_reified_more n (reified e) = n refl
no_reified_more n (left_out e) = cc

pub no_range_sort : {u : List ℕ} {ms : List Mark} {c : Content} → ((v : List ℕ) (more : List Mark) → ms ≡ m.lower v ∷ more → ⊥) → IsLine (m.keyword k.Range u ∷ ms) c → ⊥
no_range_sort lacks (range d e) = lacks _ _ refl
no_range_sort lacks (left_out e) = cc

no_low : {u v : List ℕ} {ms : List Mark} {c : Content} → Fails IsWhole free 1 ms Syntax → IsLine (m.keyword k.Range u ∷ m.lower v ∷ ms) c → ⊥
no_low f (range {mid = mid} d e) = f _ mid d (omega arith)
no_low f (left_out e) = cc

no_high : {u v : List ℕ} {ms mid : List Mark} {low : ℤ} {c : Content} → IsWhole ms low mid → Fails IsWhole free 1 mid Syntax → IsLine (m.keyword k.Range u ∷ m.lower v ∷ ms) c → ⊥
no_high d f (range {mid = us} {high = z} e g) = f z [] (whole_from (whole_one d e).1 g) (omega arith)
no_high d f (left_out e) = cc

pub no_range_end : {u v : List ℕ} {ms mid rest : List Mark} {low high : ℤ} {c : Content} → IsWhole ms low mid → IsWhole mid high rest → (rest ≡ [] → ⊥) → IsLine (m.keyword k.Range u ∷ m.lower v ∷ ms) c → ⊥
no_range_end d e n (range f g) = n (whole_one e (whole_from (whole_one d f).1 g)).1
no_range_end d e n (left_out f) = cc

pub no_completion_name : {u : List ℕ} {ms : List Mark} {c : Content} → ((n : List ℕ) (more : List Mark) → ms ≡ m.upper n ∷ more → ⊥) → IsLine (m.keyword k.Completion u ∷ ms) c → ⊥
no_completion_name lacks completion = lacks _ _ refl
no_completion_name lacks labelled_completion = lacks _ _ refl
no_completion_name lacks (left_out e) = cc

pub no_completion_second : {u n : List ℕ} {ms : List Mark} {c : Content} → (ms ≡ [] → ⊥) → ((n : List ℕ) (more : List Mark) → ms ≡ m.upper n ∷ more → ⊥) → IsLine (m.keyword k.Completion u ∷ m.upper n ∷ ms) c → ⊥
no_completion_second n lacks completion = n refl
no_completion_second n lacks labelled_completion = lacks _ _ refl
no_completion_second n lacks (left_out e) = cc

pub no_completion_end : {u n p : List ℕ} {ms : List Mark} {c : Content} → (ms ≡ [] → ⊥) → IsLine (m.keyword k.Completion u ∷ m.upper n ∷ m.upper p ∷ ms) c → ⊥
no_completion_end n labelled_completion = n refl
no_completion_end n (left_out e) = cc

-- ---- by the fault

pub sorts_line_fails : (u : List ℕ) (ms : List Mark) (e : Fault) → Unspelled (Ending (AreParted IsSortItem)) ms e → Unspelled IsLine (m.keyword k.Sort u ∷ ms) e
sorts_line_fails u ms Memory f = tt
sorts_line_fails u ms Syntax f = λ c d. no_sorts_line f d

pub events_line_fails : (u : List ℕ) (ms : List Mark) (e : Fault) → Unspelled (Ending (AreParted IsShape)) ms e → Unspelled IsLine (m.keyword k.Event u ∷ ms) e
events_line_fails u ms Memory f = tt
events_line_fails u ms Syntax f = λ c d. no_events_line f d

pub fluents_line_fails : (u : List ℕ) (ms : List Mark) (e : Fault) → Unspelled (Ending (AreParted IsShape)) ms e → Unspelled IsLine (m.keyword k.Fluent u ∷ ms) e
fluents_line_fails u ms Memory f = tt
fluents_line_fails u ms Syntax f = λ c d. no_fluents_line f d

pub predicates_line_fails : (u : List ℕ) (ms : List Mark) (e : Fault) → Unspelled (Ending (AreParted IsShape)) ms e → Unspelled IsLine (m.keyword k.Predicate u ∷ ms) e
predicates_line_fails u ms Memory f = tt
predicates_line_fails u ms Syntax f = λ c d. no_predicates_line f d

pub noninertial_line_fails : (u : List ℕ) (ms : List Mark) (e : Fault) → Unspelled (Ending (AreParted IsName)) ms e → Unspelled IsLine (m.keyword k.Noninertial u ∷ ms) e
noninertial_line_fails u ms Memory f = tt
noninertial_line_fails u ms Syntax f = λ c d. no_noninertial_line f d

pub constants_line_fails : (v : List ℕ) (ms : List Mark) (e : Fault) → Unspelled (Ending (AreParted IsName)) ms e → Unspelled IsLine (m.lower v ∷ ms) e
constants_line_fails v ms Memory f = tt
constants_line_fails v ms Syntax f = λ c d. no_constants_line f d

pub low_fails : (u v : List ℕ) (ms : List Mark) (e : Fault) → Fails IsWhole free 1 ms e → Unspelled IsLine (m.keyword k.Range u ∷ m.lower v ∷ ms) e
low_fails u v ms Memory f = tt
low_fails u v ms Syntax f = λ c d. no_low f d

pub high_fails : (u v : List ℕ) (ms mid : List Mark) {low : ℤ} (e : Fault) → IsWhole ms low mid → Fails IsWhole free 1 mid e → Unspelled IsLine (m.keyword k.Range u ∷ m.lower v ∷ ms) e
high_fails u v ms mid Memory d f = tt
high_fails u v ms mid Syntax d f = λ c g. no_high d f g

-- ---- words of an option

pub nonempty : (xs : List ℕ) → false ≡ (length xs == 0) → xs ≡ [] → ⊥
nonempty [] h e = cc
nonempty (x ∷ xs) h e = cc

pub empty_of : (xs : List ℕ) → true ≡ (length xs == 0) → xs ≡ []
empty_of [] h = refl
empty_of (x ∷ xs) h = absurd (grind (arith, h))

pub no_third : (text : List ℕ) {x : Content} → is_choice (first_word text) ≡ true → (first_word (after_word (after_word text)) ≡ [] → ⊥) → IsAlone (m.choice text ∷ []) x → ⊥
no_third text h n (choice p q r) = n r
no_third text h n (ignored p q) = cc
