-- A sentence without a fault is a valid one.
use Rattle.std.proofs.Common.{◌≡◌, ℕ, zero, suc, ◌<◌, ◌==◌, nat_le, Bool, true, false, not, ◌||◌, ◌&&◌, if◌then◌else◌, List, [], ◌∷◌, ◌++◌, length, map, take, codes, Option, Some, None, option_map, slice_get, subst, refl, sym, ap, ◌∙◌, arith}
use Rattle.std.specs.List.{AllByRecursion}
use Rattle.std.proofs.lemmas.Slice.Eq.{bytes_eq-Decides}
use Rattle.ec_logic.specs.Tree as tree
use Rattle.ec_logic.specs.Signature.{Signature, Kind, plain, integer, event_kind, fluent_kind, integer_sort}
use Rattle.ec_logic.specs.Universe.{universe_of}
use Rattle.ec_logic.specs.Valid.{is_plain_sort, is_integer_sort}
use Rattle.ec_logic.specs.Sorting.{Fits, AllFit, are_comparable, AreComparable, IsWellSorted, AreWellSorted}
use Rattle.ec_logic.specs.Bound.{IsBounded, AreBounded, HasSmallBounds, has_fixed_in_range, have_fixed_in_range, fixed_places_fit, all_fixed_fit}
use Rattle.ec_logic.specs.ValidTheory.{IsValidSentence}
use Rattle.ec_logic.proofs.Tests.{or_left, or_right}
use Rattle.ec_names.specs.Names.{Names, Role, constant_role, event_role, fluent_role, predicate_role, SymbolEntry, symbol_named, descends, kind_of, sort_of_variable, sort_number, symbol_number, is_among, firsts_after, itself, word_integer, word_event, word_fluent}
use Rattle.ec_syntax.specs.declared.tree.Op.{Op}
use Rattle.ec_syntax.specs.declared.tree.Op.TheVariants.{Equal, Unequal, Less, AtMost, More, AtLeast}
use Rattle.ec_syntax.specs.Written.{Term, name, variable, number, sum, difference, product, negative, Terms, no_terms, term, Formula, atom, compare, and, or, implies, iff, for_all, exists, Formulas, no_formulas, formula}
use Rattle.ec_syntax.specs.Written as w
use Rattle.ec_declare.specs.Faults.{is_known}
use Rattle.ec_walk.specs.declared.fault.Code.TheVariants.{Misfit, Arithmetic, Binders}
use Rattle.ec_walk.specs.Kinds as kinds
use Rattle.ec_walk.specs.Kinds.{fits, fits_kind, is_of_kind, is_whole, are_alike, exceeds, plain_alone, kind_by_role, kind_of_term, sort_of_term}
use Rattle.ec_walk.specs.Faults as walk
use Rattle.ec_walk.specs.Faults.{◌before◌, fault_where, variable_fault, sort_fault, use_fault, argument_fault, operand_fault, binder_limit, binder_fault, binders_fault, opened, count, name_fault, sorts_of_arguments, is_predicate, same_test, sign, side_exceeds, comparison_fault, term_fault, arguments_fault, formula_fault, formulas_fault}
use Rattle.ec_walk.specs.Variables.{closed_variables, free_variables, free_in_term, free_in_terms, free_in, free_in_each}
use Rattle.ec_walk.specs.Sentences.{sentence_fault, sentence_tree}
use Rattle.ec_walk.specs.Trees.{comparison, term_tree, term_trees, sort_place, variable_sort, symbol_place, quantified, formula_tree, formula_trees}
use Rattle.ec_valid.proofs.Nesting.{first_none, later_none, not_where, sentence_nested}
use Rattle.ec_valid.proofs.Ties.{Ties}
use Rattle.ec_valid.proofs.Fitting.{not_false, left_none, right_none, bound_use, IsNamed, named_well, whole_number, plain_number, of_kind, term_fits, arguments_fit}
use Rattle.ec_valid.proofs.Bounding.{neither, operand_none, IsWithin, term_small, arguments_small}
use Rattle.ec_valid.proofs.Fixed.{term_fixed, arguments_fixed}

-- ---- lists

all_append : {A : Type 0} (P : A → Type 0) (xs ys : List A) → AllByRecursion P xs → AllByRecursion P ys → AllByRecursion P (xs ++ ys)
all_append P [] ys a b = b
all_append P (x ∷ xs) ys a b = (a.0, all_append P xs ys a.1 b)

all_firsts : (P : List ℕ → Type 0) (seen xs : List (List ℕ)) → AllByRecursion P xs → AllByRecursion P (firsts_after itself seen xs)
all_firsts P seen [] a = tt
all_firsts P seen (x ∷ xs) a = by_test (is_among x seen) (all_firsts P seen xs a.1) (all_firsts P (seen ++ x ∷ []) xs a.1)
  where
    by_test : (b : Bool) → AllByRecursion P (firsts_after itself seen xs) → AllByRecursion P (firsts_after itself (seen ++ x ∷ []) xs)
        → AllByRecursion P (if b then firsts_after itself seen xs else x ∷ firsts_after itself (seen ++ x ∷ []) xs)
    by_test true rest more = rest
    by_test false rest more = (a.0, more)

all_take : {A : Type 0} (P : A → Type 0) (n : ℕ) (xs : List A) → AllByRecursion P xs → AllByRecursion P (take n xs)
all_take P zero xs a = tt
all_take P (suc n) [] a = tt
all_take P (suc n) (x ∷ xs) a = (a.0, all_take P n xs a.1)

-- ---- the sort of a term by its kind

below_itself : (names : Names) (steps : ℕ) (s : List ℕ) → descends names steps s s ≡ true
below_itself names zero s = (bytes_eq-Decides s s).1 refl
below_itself names (suc steps) s = rw ((bytes_eq-Decides s s).1 refl) refl

-- A known sort of a kind that a term fits.
record HasSort (names : Names) (kind : Kind) (t : Term) : Type 0 where
  sort : List ℕ
  known : is_known names sort ≡ true
  is : kind_of names sort ≡ kind
  fit : fits names sort t ≡ true

plain_sort : (names : Names) (own : List ℕ) (t : Term) → is_known names own ≡ true → kind_of names own ≡ plain → sort_of_term names t ≡ Some own → HasSort names plain t
plain_sort names own t known k is = record { sort = own; known = known; is = k; fit = rw (k, is) (below_itself names (length names.sorts) own) }

alone_plain : (o : Option Kind) → plain_alone o ≡ Some plain → o ≡ Some plain
alone_plain None h = cc
alone_plain (Some plain) h = refl
alone_plain (Some integer) h = cc
alone_plain (Some event_kind) h = cc
alone_plain (Some fluent_kind) h = cc

same_some : (a b : Kind) → ◌≡◌ {A = Option Kind} (Some a) (Some b) → a ≡ b
same_some a b h = cc

both_whole : (a b : Bool) → (a && b) ≡ true → (a ≡ true) × (b ≡ true)
both_whole true b h = (refl, h)
both_whole false b h = cc

module _ (names : Names) (signature : Signature) (ties : Ties names signature) where
  kind_sort : (scope : List (List ℕ)) (t : Term) (kind : Kind) → term_fault names scope t ≡ None → kind_of_term names t ≡ Some kind → HasSort names kind t
  kind_sort scope t integer h is = record { sort = word_integer; known = ties.integer_known; is = ties.integer_kind; fit = rw (ties.integer_kind, is) refl }
  kind_sort scope t event_kind h is = record { sort = word_event; known = ties.event_known; is = refl; fit = rw is refl }
  kind_sort scope t fluent_kind h is = record { sort = word_fluent; known = ties.fluent_known; is = refl; fit = rw is refl }
  kind_sort scope (name n ts) plain h is = by_symbol (symbol_named names n) refl is
    where
      by_role : (entry : SymbolEntry) (role : Role) → symbol_named names n ≡ Some entry → entry.role ≡ role → kind_by_role names role entry.sorts ≡ Some plain → HasSort names plain (name n ts)
      by_role entry constant_role found r k =
          let c = ties.constants n entry found r in
          let kind : option_map (kind_of names) (slice_get entry.sorts 0) ≡ Some plain = alone_plain (option_map (kind_of names) (slice_get entry.sorts 0)) k in
          let own : kind_of names c.sort ≡ plain = same_some (kind_of names c.sort) plain (rw c.sorts at kind) in
          plain_sort names c.sort (name n ts) c.known own (ap kinds.sort_of_symbol found ∙ ap (λ role. kinds.constant_sort role entry.sorts) r ∙ ap (λ (ss : List (List ℕ)). slice_get ss 0) c.sorts)
      by_role entry event_role found r k = cc
      by_role entry fluent_role found r k = cc
      by_role entry predicate_role found r k = cc

      by_symbol : (o : Option SymbolEntry) → symbol_named names n ≡ o → kinds.kind_of_symbol names o ≡ Some plain → HasSort names plain (name n ts)
      by_symbol None found k = cc
      by_symbol (Some entry) found k = by_role entry entry.role found refl k
  kind_sort scope (variable v) plain h is =
      let b = bound_use names scope v h in
      let k : kind_of names b.sort ≡ plain = same_some (kind_of names b.sort) plain (rw b.is at is) in
      plain_sort names b.sort (variable v) (ties.variables v b.sort b.is) k b.is
  kind_sort scope (number n) plain h is = cc
  kind_sort scope (sum a b) plain h is = cc
  kind_sort scope (difference a b) plain h is = cc
  kind_sort scope (product a b) plain h is = cc
  kind_sort scope (negative a) plain h is = cc

  -- a name without a fault has as many arguments as sorts
  name_counts : (of_atom : Bool) (scope : List (List ℕ)) (n : List ℕ) (ts : Terms) → (name_fault of_atom n (count ts) (symbol_named names n) before arguments_fault names scope (sorts_of_arguments (symbol_named names n)) ts) ≡ None → count ts ≡ length (sorts_of_arguments (symbol_named names n))
  name_counts of_atom scope n ts h = by_symbol (symbol_named names n) h
    where
      by_symbol : (o : Option SymbolEntry) → (name_fault of_atom n (count ts) o before arguments_fault names scope (sorts_of_arguments o) ts) ≡ None → count ts ≡ length (sorts_of_arguments o)
      by_symbol None none = cc
      by_symbol (Some entry) none = (named_well names scope of_atom n ts entry none).count_is

  -- ---- comparisons

  alike_numbers : (kind : Kind) (r s : List ℕ) → is_known names r ≡ true → is_known names s ≡ true → kind_of names r ≡ kind → kind_of names s ≡ kind → are_comparable signature (sort_number names r) (sort_number names s) ≡ true
  alike_numbers integer r s kr ks a b = rw (whole_number names signature ties r kr a, whole_number names signature ties s ks b) refl
  alike_numbers plain r s kr ks a b =
      or_left ((is_integer_sort signature (sort_number names r) && is_integer_sort signature (sort_number names s)) || (is_plain_sort signature (sort_number names r) && is_plain_sort signature (sort_number names s))) (sort_number names r == sort_number names s)
      (or_right (is_integer_sort signature (sort_number names r) && is_integer_sort signature (sort_number names s)) (is_plain_sort signature (sort_number names r) && is_plain_sort signature (sort_number names s))
      (rw (plain_number names signature ties r kr a, plain_number names signature ties s ks b) refl))
  alike_numbers event_kind r s kr ks a b =
      or_right ((is_integer_sort signature (sort_number names r) && is_integer_sort signature (sort_number names s)) || (is_plain_sort signature (sort_number names r) && is_plain_sort signature (sort_number names s))) (sort_number names r == sort_number names s)
      (rw (ties.event_number r a, ties.event_number s b) refl)
  alike_numbers fluent_kind r s kr ks a b =
      or_right ((is_integer_sort signature (sort_number names r) && is_integer_sort signature (sort_number names s)) || (is_plain_sort signature (sort_number names r) && is_plain_sort signature (sort_number names s))) (sort_number names r == sort_number names s)
      (rw (ties.fluent_number r a, ties.fluent_number s b) refl)

  comparable : (scope : List (List ℕ)) (a b : Term) → term_fault names scope a ≡ None → term_fault names scope b ≡ None → are_alike (kind_of_term names a) (kind_of_term names b) ≡ true → AreComparable signature (map (variable_sort names) scope) (term_tree names scope a) (term_tree names scope b)
  comparable scope a b x y alike = by_kinds (kind_of_term names a) (kind_of_term names b) refl refl alike
    where
      by_kinds : (k l : Option Kind) → kind_of_term names a ≡ k → kind_of_term names b ≡ l → are_alike k l ≡ true → AreComparable signature (map (variable_sort names) scope) (term_tree names scope a) (term_tree names scope b)
      by_kinds None l p q e = cc
      by_kinds (Some k) None p q e = cc
      by_kinds (Some k) (Some l) p q e =
          let same : l ≡ k = of_kind k l e in
          let left = kind_sort scope a k x p in
          let right = kind_sort scope b k y (q ∙ ap (λ z. Some z) same) in
          record {
            left_sort = sort_number names left.sort;
            right_sort = sort_number names right.sort;
            left = term_fits names signature ties scope a left.sort x left.known left.fit;
            right = term_fits names signature ties scope b right.sort y right.known right.fit;
            comparable = alike_numbers k left.sort right.sort left.known right.known left.is right.is;
          }

  side_fits : (scope : List (List ℕ)) (a : Term) → term_fault names scope a ≡ None → is_whole names a ≡ true → Fits signature (map (variable_sort names) scope) integer_sort (term_tree names scope a)
  side_fits scope a h whole =
      let P : ℕ → Type 0 = λ s. Fits signature (map (variable_sort names) scope) s (term_tree names scope a) in
      subst P ties.integer_number (term_fits names signature ties scope a word_integer h ties.integer_known (rw ties.integer_kind whole))

  compared_sorted : (op : Op) (scope : List (List ℕ)) (a b : Term) → term_fault names scope a ≡ None → term_fault names scope b ≡ None → walk.are_comparable names op a b ≡ true → IsWellSorted signature (map (variable_sort names) scope) (comparison op (term_tree names scope a) (term_tree names scope b))
  compared_sorted Equal scope a b x y c = comparable scope a b x y c
  compared_sorted Unequal scope a b x y c = comparable scope a b x y c
  compared_sorted Less scope a b x y c = let w = both_whole (is_whole names a) (is_whole names b) c in (side_fits scope a x w.0, side_fits scope b y w.1)
  compared_sorted AtMost scope a b x y c = let w = both_whole (is_whole names a) (is_whole names b) c in (side_fits scope b y w.1, side_fits scope a x w.0)
  compared_sorted More scope a b x y c = let w = both_whole (is_whole names a) (is_whole names b) c in (side_fits scope b y w.1, side_fits scope a x w.0)
  compared_sorted AtLeast scope a b x y c = let w = both_whole (is_whole names a) (is_whole names b) c in (side_fits scope a x w.0, side_fits scope b y w.1)

  side_within : (a : Term) → side_exceeds names a ≡ false → IsWithin names signature ties a
  side_within a h none whole = let w : is_whole names a ≡ true = rw whole refl in rw w at h

  compared_bounded : (op : Op) (scope : List (List ℕ)) (a b : tree.Term) → HasSmallBounds signature (map (variable_sort names) scope) a → HasSmallBounds signature (map (variable_sort names) scope) b → IsBounded signature (map (variable_sort names) scope) (comparison op a b)
  compared_bounded Equal scope a b x y = (x, y)
  compared_bounded Unequal scope a b x y = (x, y)
  compared_bounded Less scope a b x y = (x, y)
  compared_bounded AtMost scope a b x y = (y, x)
  compared_bounded More scope a b x y = (y, x)
  compared_bounded AtLeast scope a b x y = (x, y)

  compared_fixed : (op : Op) (a b : tree.Term) → fixed_places_fit (universe_of signature) a ≡ true → fixed_places_fit (universe_of signature) b ≡ true → has_fixed_in_range (universe_of signature) (comparison op a b) ≡ true
  compared_fixed Equal a b x y = rw (x, y) refl
  compared_fixed Unequal a b x y = rw (x, y) refl
  compared_fixed Less a b x y = rw (x, y) refl
  compared_fixed AtMost a b x y = rw (x, y) refl
  compared_fixed More a b x y = rw (x, y) refl
  compared_fixed AtLeast a b x y = rw (x, y) refl

  -- ---- formulas

  -- What is owed of a formula under a scope.
  record IsOwed (scope : List (List ℕ)) (f : tree.Formula) : Type 0 where
    sorted : IsWellSorted signature (map (variable_sort names) scope) f
    bounded : IsBounded signature (map (variable_sort names) scope) f
    fixed : has_fixed_in_range (universe_of signature) f ≡ true

  record AreOwed (scope : List (List ℕ)) (fs : tree.Formulas) : Type 0 where
    sorted : AreWellSorted signature (map (variable_sort names) scope) fs
    bounded : AreBounded signature (map (variable_sort names) scope) fs
    fixed : have_fixed_in_range (universe_of signature) fs ≡ true

  atom_owed : (scope : List (List ℕ)) (n : List ℕ) (ts : Terms) → formula_fault names scope (atom n ts) ≡ None → IsOwed scope (formula_tree names scope (atom n ts))
  atom_owed scope n ts h = by_symbol (symbol_named names n) refl h
    where
      by_role : (entry : SymbolEntry) (role : Role) → symbol_named names n ≡ Some entry → entry.role ≡ role → IsNamed names scope true ts entry → IsOwed scope (tree.atom (symbol_number role names n) (term_trees names scope ts))
      by_role entry constant_role is r well = let wrong : same_test true (is_predicate entry.role) ≡ false = rw r refl in let right = well.role_is in cc
      by_role entry event_role is r well = let wrong : same_test true (is_predicate entry.role) ≡ false = rw r refl in let right = well.role_is in cc
      by_role entry fluent_role is r well = let wrong : same_test true (is_predicate entry.role) ≡ false = rw r refl in let right = well.role_is in cc
      by_role entry predicate_role is r well =
          let e = ties.predicates n entry is r in
          let none : arguments_fault names scope entry.sorts ts ≡ None = rw r at well.arguments in
          let counted : count ts ≡ length entry.sorts = rw r at well.count_is in
          let all = ties.arguments n entry is in
          let P : List ℕ → Type 0 = λ ss. AllFit signature (map (variable_sort names) scope) ss (term_trees names scope ts) in
          let Q : List ℕ → Type 0 = λ ss. all_fixed_fit (universe_of signature) ss (term_trees names scope ts) ≡ true in
          record {
            sorted = (e.0, subst P (sym e.1) (arguments_fit names signature ties scope entry.sorts ts none counted all));
            bounded = arguments_small names signature ties scope entry.sorts ts none counted;
            fixed = subst Q (sym e.1) (arguments_fixed names signature ties scope entry.sorts ts none counted all);
          }

      by_symbol : (o : Option SymbolEntry) → symbol_named names n ≡ o → (name_fault true n (count ts) o before arguments_fault names scope (sorts_of_arguments o) ts) ≡ None → IsOwed scope (tree.atom (symbol_place names n o) (term_trees names scope ts))
      by_symbol None is none = cc
      by_symbol (Some entry) is none = by_role entry entry.role is refl (named_well names scope true n ts entry none)

  compared_owed : (scope : List (List ℕ)) (op : Op) (a b : Term) → formula_fault names scope (compare op a b) ≡ None → IsOwed scope (formula_tree names scope (compare op a b))
  compared_owed scope op a b h =
      let x = first_none (term_fault names scope a) (term_fault names scope b before comparison_fault names op a b) h in
      let rest = later_none (term_fault names scope a) (term_fault names scope b before comparison_fault names op a b) h in
      let y = first_none (term_fault names scope b) (comparison_fault names op a b) rest in
      let c = later_none (term_fault names scope b) (comparison_fault names op a b) rest in
      let alike : walk.are_comparable names op a b ≡ true = not_false (walk.are_comparable names op a b) (not_where (not (walk.are_comparable names op a b)) Misfit (sign op) (first_none (fault_where (not (walk.are_comparable names op a b)) Misfit (sign op)) (fault_where (side_exceeds names a || side_exceeds names b) Arithmetic (codes "arithmetic")) c)) in
      let within = neither (side_exceeds names a) (side_exceeds names b) (not_where (side_exceeds names a || side_exceeds names b) Arithmetic (codes "arithmetic") (later_none (fault_where (not (walk.are_comparable names op a b)) Misfit (sign op)) (fault_where (side_exceeds names a || side_exceeds names b) Arithmetic (codes "arithmetic")) c)) in
      record {
        sorted = compared_sorted op scope a b x y alike;
        bounded = compared_bounded op scope (term_tree names scope a) (term_tree names scope b) (term_small names signature ties scope a x (side_within a within.0)) (term_small names signature ties scope b y (side_within b within.1));
        fixed = compared_fixed op (term_tree names scope a) (term_tree names scope b) (term_fixed names signature ties scope a x) (term_fixed names signature ties scope b y);
      }

  -- a binder without a fault has a known sort
  binder_known : (outside : ℕ) (v : List ℕ) → binder_fault names outside v ≡ None → variable_sort names v < length signature.sorts
  binder_known outside v h = by_sort (sort_of_variable names v) refl (first_none (variable_fault names v) (fault_where (nat_le binder_limit outside) Binders (codes "binders")) h)
    where
      by_sort : (o : Option (List ℕ)) → sort_of_variable names v ≡ o → sort_fault names v o ≡ None → sort_place names o < length signature.sorts
      by_sort None is none = cc
      by_sort (Some sort) is none = ties.known sort (ties.variables v sort is)

  abbrev AreOpened : List (List ℕ) → Type 0
  AreOpened vs = AllByRecursion (λ v. variable_sort names v < length signature.sorts) vs

  binders_known : (outside : ℕ) (vs : List (List ℕ)) → binders_fault names outside vs ≡ None → AreOpened vs
  binders_known outside [] h = tt
  binders_known outside (v ∷ vs) h = (binder_known outside v (first_none (binder_fault names outside v) (binders_fault names (suc outside) vs) h), binders_known (suc outside) vs (later_none (binder_fault names outside v) (binders_fault names (suc outside) vs) h))

  for_all_owed : (scope vs : List (List ℕ)) (f : tree.Formula) → AreOpened vs → IsOwed (opened scope vs) f → IsOwed scope (quantified tree.for_all names vs f)
  for_all_owed scope [] f known o = o
  for_all_owed scope (v ∷ vs) f known o = let rest = for_all_owed (v ∷ scope) vs f known.1 o in record { sorted = (known.0, rest.sorted); bounded = rest.bounded; fixed = rest.fixed }

  exists_owed : (scope vs : List (List ℕ)) (f : tree.Formula) → AreOpened vs → IsOwed (opened scope vs) f → IsOwed scope (quantified tree.exists names vs f)
  exists_owed scope [] f known o = o
  exists_owed scope (v ∷ vs) f known o = let rest = exists_owed (v ∷ scope) vs f known.1 o in record { sorted = (known.0, rest.sorted); bounded = rest.bounded; fixed = rest.fixed }

  mutual
    formula_owed : (scope : List (List ℕ)) (f : Formula) → formula_fault names scope f ≡ None → IsOwed scope (formula_tree names scope f)
    formula_owed scope (atom n ts) h = atom_owed scope n ts h
    formula_owed scope (compare op a b) h = compared_owed scope op a b h
    formula_owed scope (w.not f) h = let o = formula_owed scope f h in record { sorted = o.sorted; bounded = o.bounded; fixed = o.fixed }
    formula_owed scope (and fs) h = let o = formulas_owed scope fs h in record { sorted = o.sorted; bounded = o.bounded; fixed = o.fixed }
    formula_owed scope (or fs) h = let o = formulas_owed scope fs h in record { sorted = o.sorted; bounded = o.bounded; fixed = o.fixed }
    formula_owed scope (implies f g) h =
        let x = formula_owed scope f (first_none (formula_fault names scope f) (formula_fault names scope g) h) in
        let y = formula_owed scope g (later_none (formula_fault names scope f) (formula_fault names scope g) h) in
        record { sorted = (x.sorted, y.sorted); bounded = (x.bounded, y.bounded); fixed = rw (x.fixed, y.fixed) refl }
    formula_owed scope (iff f g) h =
        let x = formula_owed scope f (first_none (formula_fault names scope f) (formula_fault names scope g) h) in
        let y = formula_owed scope g (later_none (formula_fault names scope f) (formula_fault names scope g) h) in
        record { sorted = (x.sorted, y.sorted); bounded = (x.bounded, y.bounded); fixed = rw (x.fixed, y.fixed) refl }
    formula_owed scope (for_all vs f) h =
        for_all_owed scope vs (formula_tree names (opened scope vs) f) (binders_known (length scope) vs (first_none (binders_fault names (length scope) vs) (formula_fault names (opened scope vs) f) h))
        (formula_owed (opened scope vs) f (later_none (binders_fault names (length scope) vs) (formula_fault names (opened scope vs) f) h))
    formula_owed scope (exists vs f) h =
        exists_owed scope vs (formula_tree names (opened scope vs) f) (binders_known (length scope) vs (first_none (binders_fault names (length scope) vs) (formula_fault names (opened scope vs) f) h))
        (formula_owed (opened scope vs) f (later_none (binders_fault names (length scope) vs) (formula_fault names (opened scope vs) f) h))

    formulas_owed : (scope : List (List ℕ)) (fs : Formulas) → formulas_fault names scope fs ≡ None → AreOwed scope (formula_trees names scope fs)
    formulas_owed scope no_formulas h = record { sorted = tt; bounded = tt; fixed = refl }
    formulas_owed scope (formula f fs) h =
        let x = formula_owed scope f (first_none (formula_fault names scope f) (formulas_fault names scope fs) h) in
        let y = formulas_owed scope fs (later_none (formula_fault names scope f) (formulas_fault names scope fs) h) in
        record { sorted = (x.sorted, y.sorted); bounded = (x.bounded, y.bounded); fixed = rw (x.fixed, y.fixed) refl }

  -- ---- free variables

  abbrev IsOpened : List ℕ → Type 0
  IsOpened v = variable_sort names v < length signature.sorts

  use_known : (scope bound : List (List ℕ)) (v : List ℕ) → use_fault names scope v ≡ None → AllByRecursion IsOpened (if is_among v bound then [] else v ∷ [])
  use_known scope bound v h = by_test (is_among v bound)
    where
      known : variable_sort names v < length signature.sorts
      known = let b = bound_use names scope v h in let e : variable_sort names v ≡ sort_number names b.sort = ap (sort_place names) b.is in let low = ties.known b.sort (ties.variables v b.sort b.is) in omega (arith, e, low)

      by_test : (b : Bool) → AllByRecursion IsOpened (if b then [] else v ∷ [])
      by_test true = tt
      by_test false = (known, tt)

  mutual
    term_uses : (scope bound : List (List ℕ)) (t : Term) → term_fault names scope t ≡ None → AllByRecursion IsOpened (free_in_term bound t)
    term_uses scope bound (name n ts) h = arguments_uses scope bound (sorts_of_arguments (symbol_named names n)) ts (later_none (name_fault false n (count ts) (symbol_named names n)) (arguments_fault names scope (sorts_of_arguments (symbol_named names n)) ts) h) (name_counts false scope n ts h)
    term_uses scope bound (variable v) h = use_known scope bound v h
    term_uses scope bound (number n) h = tt
    term_uses scope bound (sum a b) h = all_append IsOpened (free_in_term bound a) (free_in_term bound b) (term_uses scope bound a (operand_none names scope a (left_none names signature ties scope a b h))) (term_uses scope bound b (operand_none names scope b (right_none names signature ties scope a b h)))
    term_uses scope bound (difference a b) h = all_append IsOpened (free_in_term bound a) (free_in_term bound b) (term_uses scope bound a (operand_none names scope a (left_none names signature ties scope a b h))) (term_uses scope bound b (operand_none names scope b (right_none names signature ties scope a b h)))
    term_uses scope bound (product a b) h = all_append IsOpened (free_in_term bound a) (free_in_term bound b) (term_uses scope bound a (operand_none names scope a (left_none names signature ties scope a b h))) (term_uses scope bound b (operand_none names scope b (right_none names signature ties scope a b h)))
    term_uses scope bound (negative a) h = term_uses scope bound a (operand_none names scope a h)

    arguments_uses : (scope bound sorts : List (List ℕ)) (ts : Terms) → arguments_fault names scope sorts ts ≡ None → count ts ≡ length sorts → AllByRecursion IsOpened (free_in_terms bound ts)
    arguments_uses scope bound sorts no_terms h counted = tt
    arguments_uses scope bound [] (term t ts) h counted = absurd (omega (arith, counted))
    arguments_uses scope bound (sort ∷ sorts) (term t ts) h counted =
        let here = first_none (term_fault names scope t before argument_fault names sort t) (arguments_fault names scope sorts ts) h in
        all_append IsOpened (free_in_term bound t) (free_in_terms bound ts) (term_uses scope bound t (first_none (term_fault names scope t) (argument_fault names sort t) here))
        (arguments_uses scope bound sorts ts (later_none (term_fault names scope t before argument_fault names sort t) (arguments_fault names scope sorts ts) h) (omega (arith, counted)))

  mutual
    formula_uses : (scope bound : List (List ℕ)) (f : Formula) → formula_fault names scope f ≡ None → AllByRecursion IsOpened (free_in bound f)
    formula_uses scope bound (atom n ts) h = arguments_uses scope bound (sorts_of_arguments (symbol_named names n)) ts (later_none (name_fault true n (count ts) (symbol_named names n)) (arguments_fault names scope (sorts_of_arguments (symbol_named names n)) ts) h) (name_counts true scope n ts h)
    formula_uses scope bound (compare op a b) h =
        let x = first_none (term_fault names scope a) (term_fault names scope b before comparison_fault names op a b) h in
        let rest = later_none (term_fault names scope a) (term_fault names scope b before comparison_fault names op a b) h in
        all_append IsOpened (free_in_term bound a) (free_in_term bound b) (term_uses scope bound a x) (term_uses scope bound b (first_none (term_fault names scope b) (comparison_fault names op a b) rest))
    formula_uses scope bound (w.not f) h = formula_uses scope bound f h
    formula_uses scope bound (and fs) h = formulas_uses scope bound fs h
    formula_uses scope bound (or fs) h = formulas_uses scope bound fs h
    formula_uses scope bound (implies f g) h = all_append IsOpened (free_in bound f) (free_in bound g) (formula_uses scope bound f (first_none (formula_fault names scope f) (formula_fault names scope g) h)) (formula_uses scope bound g (later_none (formula_fault names scope f) (formula_fault names scope g) h))
    formula_uses scope bound (iff f g) h = all_append IsOpened (free_in bound f) (free_in bound g) (formula_uses scope bound f (first_none (formula_fault names scope f) (formula_fault names scope g) h)) (formula_uses scope bound g (later_none (formula_fault names scope f) (formula_fault names scope g) h))
    formula_uses scope bound (for_all vs f) h = formula_uses (opened scope vs) (opened bound vs) f (later_none (binders_fault names (length scope) vs) (formula_fault names (opened scope vs) f) h)
    formula_uses scope bound (exists vs f) h = formula_uses (opened scope vs) (opened bound vs) f (later_none (binders_fault names (length scope) vs) (formula_fault names (opened scope vs) f) h)

    formulas_uses : (scope bound : List (List ℕ)) (fs : Formulas) → formulas_fault names scope fs ≡ None → AllByRecursion IsOpened (free_in_each bound fs)
    formulas_uses scope bound no_formulas h = tt
    formulas_uses scope bound (formula f fs) h = all_append IsOpened (free_in bound f) (free_in_each bound fs) (formula_uses scope bound f (first_none (formula_fault names scope f) (formulas_fault names scope fs) h)) (formulas_uses scope bound fs (later_none (formula_fault names scope f) (formulas_fault names scope fs) h))

  -- a sentence without a fault is valid
  pub faultless_sentence : (f : Formula) → sentence_fault names f ≡ None → IsValidSentence signature (sentence_tree names f)
  faultless_sentence f h =
      let closed = closed_variables f in
      let known = all_take IsOpened binder_limit (free_variables f) (all_firsts IsOpened [] (free_in [] f) (formula_uses (opened [] closed) [] f h)) in
      let owed = for_all_owed [] closed (formula_tree names (opened [] closed) f) known (formula_owed (opened [] closed) f h) in
      record {
        sentence = record { well_sorted = owed.sorted; bounded = owed.bounded; fixed_places = owed.fixed };
        nested = sentence_nested names f h;
      }
