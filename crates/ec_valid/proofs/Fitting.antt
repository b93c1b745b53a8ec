-- A term without a fault that fits a sort in words fits the sort's number.
use Rattle.std.proofs.Common.{◌≡◌, ℕ, zero, suc, ◌+◌, ◌==◌, Bool, true, false, not, if◌then◌else◌, List, [], ◌∷◌, length, map, codes, Option, Some, None, option_map, slice_get, subst, refl, sym, ap, ◌∙◌, arith}
use Rattle.std.specs.List.{AllByRecursion, position_or_len}
use Rattle.std.specs.Str.{bytes_eq}
use Rattle.std.proofs.lemmas.Slice.Eq.{bytes_eq-Decides}
use Rattle.std.proofs.lemmas.Bool.Decides.{nat_tests}
use Rattle.ec_logic.specs.Tree as tree
use Rattle.ec_logic.specs.Signature.{Signature, Kind, plain, integer, event_kind, fluent_kind, integer_sort, is_within, descends}
use Rattle.ec_logic.specs.Valid.{kind_is_plain, kind_is_integer, is_plain_sort, is_integer_sort}
use Rattle.ec_logic.specs.Sorting.{Fits, AllFit, has_sort, is_argument_of}
use Rattle.ec_logic.proofs.Tests.{same_itself}
use Rattle.ec_names.specs.Names.{Names, Role, constant_role, event_role, fluent_role, predicate_role, SymbolEntry, symbol_named, is_below, kind_of, is_among, sort_of_variable, sort_number, symbol_number, word_integer}
use Rattle.ec_syntax.specs.Written.{Term, name, variable, number, sum, difference, product, negative, Terms, no_terms, term}
use Rattle.ec_declare.specs.Faults.{is_known}
use Rattle.ec_walk.specs.declared.fault.Code.TheVariants.{Binders, Misfit, ArgumentCount}
use Rattle.ec_walk.specs.Kinds as kinds
use Rattle.ec_walk.specs.Kinds.{fits, fits_kind, is_of_kind, plain_alone, kind_by_role, is_whole, has_sort_below, constant_sort}
use Rattle.ec_walk.specs.Faults.{◌before◌, fault_where, variable_fault, sort_fault, use_fault, count, name_fault, sorts_of_arguments, is_predicate, same_test, argument_fault, operand_fault, term_fault, arguments_fault, number_fault}
use Rattle.ec_walk.specs.Trees.{applied, application, term_tree, term_trees, variable_sort, sort_place}
use Rattle.ec_valid.proofs.Nesting.{first_none, later_none, not_where}
use Rattle.ec_valid.proofs.Ties.{Ties}

pub not_false : (b : Bool) → not b ≡ false → b ≡ true
not_false true h = refl
not_false false h = cc

-- a variable among others stands at its place
pub found : {X : Type 0} (f : List ℕ → X) (v : List ℕ) (scope : List (List ℕ)) → is_among v scope ≡ true → slice_get (map f scope) (position_or_len (bytes_eq v) scope) ≡ Some (f v)
found f v [] h = cc
found f v (w ∷ scope) h = by_test (bytes_eq v w) refl (found f v scope)
  where
    by_test : (b : Bool) → bytes_eq v w ≡ b → (is_among v scope ≡ true → slice_get (map f scope) (position_or_len (bytes_eq v) scope) ≡ Some (f v)) → slice_get (map f (w ∷ scope)) (position_or_len (bytes_eq v) (w ∷ scope)) ≡ Some (f v)
    by_test true e rest = let same : v ≡ w = (bytes_eq-Decides v w).0 e in rw e (ap (λ x. Some (f x)) (sym same))
    by_test false e rest =
        let more : is_among v scope ≡ true = rw e at h in
        let z : 1 + position_or_len (bytes_eq v) scope ≡ suc (position_or_len (bytes_eq v) scope) = omega arith in
        rw (e, z) (rest more)

-- a variable in use without a fault has a sort, and is bound
pub record IsBound (names : Names) (scope : List (List ℕ)) (v : List ℕ) : Type 0 where
  pub sort : List ℕ
  pub is : sort_of_variable names v ≡ Some sort
  pub among : is_among v scope ≡ true

pub bound_use : (names : Names) (scope : List (List ℕ)) (v : List ℕ) → use_fault names scope v ≡ None → IsBound names scope v
bound_use names scope v h = by_sort (sort_of_variable names v) refl (first_none (variable_fault names v) (fault_where (not (is_among v scope)) Binders (codes "binders")) h)
  where
    among : is_among v scope ≡ true
    among = not_false (is_among v scope) (not_where (not (is_among v scope)) Binders (codes "binders") (later_none (variable_fault names v) (fault_where (not (is_among v scope)) Binders (codes "binders")) h))

    by_sort : (o : Option (List ℕ)) → sort_of_variable names v ≡ o → sort_fault names v o ≡ None → IsBound names scope v
    by_sort None is none = cc
    by_sort (Some sort) is none = record { sort = sort; is = is; among = among }

-- a constant stands for nothing but a thing of a plain sort
pub constant_kind : (kind : Kind) (o : Option Kind) → kind_is_plain kind ≡ false → is_of_kind kind (plain_alone o) ≡ false
constant_kind plain o h = cc
constant_kind integer None h = refl
constant_kind integer (Some plain) h = refl
constant_kind integer (Some integer) h = refl
constant_kind integer (Some event_kind) h = refl
constant_kind integer (Some fluent_kind) h = refl
constant_kind event_kind None h = refl
constant_kind event_kind (Some plain) h = refl
constant_kind event_kind (Some integer) h = refl
constant_kind event_kind (Some event_kind) h = refl
constant_kind event_kind (Some fluent_kind) h = refl
constant_kind fluent_kind None h = refl
constant_kind fluent_kind (Some plain) h = refl
constant_kind fluent_kind (Some integer) h = refl
constant_kind fluent_kind (Some event_kind) h = refl
constant_kind fluent_kind (Some fluent_kind) h = refl

pub of_kind : (kind other : Kind) → is_of_kind kind (Some other) ≡ true → other ≡ kind
of_kind plain plain h = refl
of_kind plain integer h = cc
of_kind plain event_kind h = cc
of_kind plain fluent_kind h = cc
of_kind integer plain h = cc
of_kind integer integer h = refl
of_kind integer event_kind h = cc
of_kind integer fluent_kind h = cc
of_kind event_kind plain h = cc
of_kind event_kind integer h = cc
of_kind event_kind event_kind h = refl
of_kind event_kind fluent_kind h = cc
of_kind fluent_kind plain h = cc
of_kind fluent_kind integer h = cc
of_kind fluent_kind event_kind h = cc
of_kind fluent_kind fluent_kind h = refl

own_ancestor : (signature : Signature) (steps r : ℕ) → descends signature steps r r ≡ true
own_ancestor signature zero r = same_itself r
own_ancestor signature (suc steps) r = rw (same_itself r) refl

within_itself : (signature : Signature) (r : ℕ) → is_within signature r r ≡ true
within_itself signature r = own_ancestor signature (length signature.sorts) r

abbrev pub AreKnown : Names → List (List ℕ) → Type 0
AreKnown names sorts = AllByRecursion (λ s. is_known names s ≡ true) sorts

-- What is known of a declared name that has no fault.
pub record IsNamed (names : Names) (scope : List (List ℕ)) (of_atom : Bool) (ts : Terms) (entry : SymbolEntry) : Type 0 where
  pub count_is : count ts ≡ length (kinds.argument_sorts entry.role entry.sorts)
  pub role_is : same_test of_atom (is_predicate entry.role) ≡ true
  pub arguments : arguments_fault names scope (kinds.argument_sorts entry.role entry.sorts) ts ≡ None

pub named_well : (names : Names) (scope : List (List ℕ)) (of_atom : Bool) (n : List ℕ) (ts : Terms) (entry : SymbolEntry)
    → (name_fault of_atom n (count ts) (Some entry) before arguments_fault names scope (sorts_of_arguments (Some entry)) ts) ≡ None → IsNamed names scope of_atom ts entry
named_well names scope of_atom n ts entry h =
    let given = count ts == length (kinds.argument_sorts entry.role entry.sorts) in
    let right = same_test of_atom (is_predicate entry.role) in
    let here = first_none (name_fault of_atom n (count ts) (Some entry)) (arguments_fault names scope (sorts_of_arguments (Some entry)) ts) h in
    let counted : given ≡ true = not_false given (not_where (not given) ArgumentCount n (first_none (fault_where (not given) ArgumentCount n) (fault_where (not right) Misfit n) here)) in
    record {
      count_is = grind (arith, nat_tests, counted);
      role_is = not_false right (not_where (not right) Misfit n (later_none (fault_where (not given) ArgumentCount n) (fault_where (not right) Misfit n) here));
      arguments = later_none (name_fault of_atom n (count ts) (Some entry)) (arguments_fault names scope (sorts_of_arguments (Some entry)) ts) h;
    }

module _ (names : Names) (signature : Signature) (ties : Ties names signature) where
  abbrev pub numbers : List (List ℕ) → List ℕ
  numbers scope = map (variable_sort names) scope

  pub whole_number : (sort : List ℕ) → is_known names sort ≡ true → kind_of names sort ≡ integer → is_integer_sort signature (sort_number names sort) ≡ true
  whole_number sort known k = ties.kinds sort kind_is_integer known ∙ ap kind_is_integer k

  pub plain_number : (sort : List ℕ) → is_known names sort ≡ true → kind_of names sort ≡ plain → is_plain_sort signature (sort_number names sort) ≡ true
  plain_number sort known k = ties.kinds sort kind_is_plain known ∙ ap kind_is_plain k

  pub no_whole_number : (sort : List ℕ) (kind : Kind) → is_known names sort ≡ true → kind_of names sort ≡ kind → kind_is_integer kind ≡ false → is_integer_sort signature (sort_number names sort) ≡ false
  no_whole_number sort kind known k other = ties.kinds sort kind_is_integer known ∙ ap kind_is_integer k ∙ other

  integer_is_whole : is_integer_sort signature integer_sort ≡ true
  integer_is_whole = ap (is_integer_sort signature) (sym ties.integer_number) ∙ whole_number word_integer ties.integer_known ties.integer_kind

  -- ---- variables

  variable_place : (scope : List (List ℕ)) (v own : List ℕ) → is_among v scope ≡ true → sort_of_variable names v ≡ Some own → slice_get (numbers scope) (position_or_len (bytes_eq v) scope) ≡ Some (sort_number names own)
  variable_place scope v own among is = found (variable_sort names) v scope among ∙ ap (λ o. Some (sort_place names o)) is

  variable_fits : (scope : List (List ℕ)) (v own sort : List ℕ) → is_among v scope ≡ true → sort_of_variable names v ≡ Some own → is_known names sort ≡ true → fits names sort (variable v) ≡ true
      → Fits signature (numbers scope) (sort_number names sort) (term_tree names scope (variable v))
  variable_fits scope v own sort among is known fit = by_kind (kind_of names sort) refl fit
    where
      there : is_known names own ≡ true
      there = ties.variables v own is

      placed : (test : ℕ → Bool) → test (sort_number names own) ≡ true → has_sort test (numbers scope) (position_or_len (bytes_eq v) scope) ≡ true
      placed test passes = rw (variable_place scope v own among is) passes

      -- a sort of whole numbers takes any, another one the sorts within it
      not_whole : is_integer_sort signature (sort_number names sort) ≡ false → is_within signature (sort_number names own) (sort_number names sort) ≡ true → is_argument_of signature (sort_number names sort) (sort_number names own) ≡ true
      not_whole other inside = rw other inside

      by_kind : (kind : Kind) → kind_of names sort ≡ kind → fits_kind names sort (variable v) kind ≡ true → Fits signature (numbers scope) (sort_number names sort) (term_tree names scope (variable v))
      by_kind plain k f =
          let below : is_below names own sort ≡ true = rw is at f in
          placed (is_argument_of signature (sort_number names sort)) (not_whole (no_whole_number sort plain known k refl) (ties.within own sort there known ∙ below))
      by_kind integer k f =
          let own_whole : is_of_kind integer (Some (kind_of names own)) ≡ true = rw is at f in
          placed (is_argument_of signature (sort_number names sort)) (rw (whole_number sort known k) (whole_number own there (of_kind integer (kind_of names own) own_whole)))
      by_kind event_kind k f =
          let own_event : is_of_kind event_kind (Some (kind_of names own)) ≡ true = rw is at f in
          let same : sort_number names own ≡ sort_number names sort = ties.event_number own (of_kind event_kind (kind_of names own) own_event) ∙ sym (ties.event_number sort k) in
          placed (is_argument_of signature (sort_number names sort)) (not_whole (no_whole_number sort event_kind known k refl) (ap (λ r. is_within signature r (sort_number names sort)) same ∙ within_itself signature (sort_number names sort)))
      by_kind fluent_kind k f =
          let own_fluent : is_of_kind fluent_kind (Some (kind_of names own)) ≡ true = rw is at f in
          let same : sort_number names own ≡ sort_number names sort = ties.fluent_number own (of_kind fluent_kind (kind_of names own) own_fluent) ∙ sym (ties.fluent_number sort k) in
          placed (is_argument_of signature (sort_number names sort)) (not_whole (no_whole_number sort fluent_kind known k refl) (ap (λ r. is_within signature r (sort_number names sort)) same ∙ within_itself signature (sort_number names sort)))

  -- ---- numbers

  -- nothing but a sort of whole numbers takes a number, a sum, a difference, a product or a negative
  whole_kind : (sort : List ℕ) (t : Term) (kind : Kind) → kinds.sort_of_term names t ≡ None → kinds.kind_of_term names t ≡ Some integer → kind_of names sort ≡ kind → fits_kind names sort t kind ≡ true → kind ≡ integer
  whole_kind sort t plain none whole k f = let n : fits_kind names sort t plain ≡ false = rw none refl in cc
  whole_kind sort t integer none whole k f = refl
  whole_kind sort t event_kind none whole k f = let n : fits_kind names sort t event_kind ≡ false = rw whole refl in cc
  whole_kind sort t fluent_kind none whole k f = let n : fits_kind names sort t fluent_kind ≡ false = rw whole refl in cc

  whole_sort : (sort : List ℕ) (t : Term) → kinds.sort_of_term names t ≡ None → kinds.kind_of_term names t ≡ Some integer → is_known names sort ≡ true → fits names sort t ≡ true → is_integer_sort signature (sort_number names sort) ≡ true
  whole_sort sort t none whole known f = whole_number sort known (whole_kind sort t (kind_of names sort) none whole refl f)

  -- what is a whole number fits the sort of whole numbers
  whole_fits : (t : Term) → is_whole names t ≡ true → fits names word_integer t ≡ true
  whole_fits t h = rw ties.integer_kind h

  -- ---- names

  -- the sort that a name's kind and sort fit
  module _ (scope : List (List ℕ)) (n : List ℕ) (ts : Terms) (entry : SymbolEntry) (sort : List ℕ) (is : symbol_named names n ≡ Some entry) (well : IsNamed names scope false ts entry) (known : is_known names sort ≡ true)
      (arguments : (sorts : List (List ℕ)) → arguments_fault names scope sorts ts ≡ None → count ts ≡ length sorts → AllByRecursion (λ s. is_known names s ≡ true) sorts → AllFit signature (map (variable_sort names) scope) (map (sort_number names) sorts) (term_trees names scope ts)) where
    constant_fits : entry.role ≡ constant_role → (kind : Kind) → kind_of names sort ≡ kind → fits_kind names sort (name n ts) kind ≡ true → Fits signature (numbers scope) (sort_number names sort) (tree.constant (symbol_number constant_role names n))
    constant_fits r plain k f =
        let c = ties.constants n entry is r in
        let below : is_below names c.sort sort ≡ true = rw (is, r, c.sorts) at f in
        let inside : is_within signature c.row.sort (sort_number names sort) ≡ true = rw c.row_sort (ties.within c.sort sort c.known known ∙ below) in
        (plain_number sort known k, rw c.there inside)
    constant_fits r integer k f =
        let n : is_of_kind integer (kind_by_role names entry.role entry.sorts) ≡ false = rw r (constant_kind integer (option_map (kind_of names) (slice_get entry.sorts 0)) refl) in
        let g : is_of_kind integer (kind_by_role names entry.role entry.sorts) ≡ true = rw is at f in
        cc
    constant_fits r event_kind k f =
        let n : is_of_kind event_kind (kind_by_role names entry.role entry.sorts) ≡ false = rw r (constant_kind event_kind (option_map (kind_of names) (slice_get entry.sorts 0)) refl) in
        let g : is_of_kind event_kind (kind_by_role names entry.role entry.sorts) ≡ true = rw is at f in
        cc
    constant_fits r fluent_kind k f =
        let n : is_of_kind fluent_kind (kind_by_role names entry.role entry.sorts) ≡ false = rw r (constant_kind fluent_kind (option_map (kind_of names) (slice_get entry.sorts 0)) refl) in
        let g : is_of_kind fluent_kind (kind_by_role names entry.role entry.sorts) ≡ true = rw is at f in
        cc

    -- an event, or a fluent, fits its own sort alone
    application_kind : (own kind : Kind) → kind_is_plain own ≡ false → constant_sort entry.role entry.sorts ≡ None → kind_by_role names entry.role entry.sorts ≡ Some own → kind_of names sort ≡ kind → fits_kind names sort (name n ts) kind ≡ true → kind ≡ own
    application_kind own plain o none k sk f = let n : fits_kind names sort (name n ts) plain ≡ false = rw (is, none) refl in cc
    application_kind own integer o none k sk f = let g : is_of_kind integer (Some own) ≡ true = rw (is, k) at f in sym (of_kind integer own g)
    application_kind own event_kind o none k sk f = let g : is_of_kind event_kind (Some own) ≡ true = rw (is, k) at f in sym (of_kind event_kind own g)
    application_kind own fluent_kind o none k sk f = let g : is_of_kind fluent_kind (Some own) ≡ true = rw (is, k) at f in sym (of_kind fluent_kind own g)

    event_fits : entry.role ≡ event_role → fits names sort (name n ts) ≡ true → Fits signature (numbers scope) (sort_number names sort) (tree.event (symbol_number event_role names n) (term_trees names scope ts))
    event_fits r f =
        let e = ties.events n entry is r in
        let none : constant_sort entry.role entry.sorts ≡ None = rw r refl in
        let own : kind_by_role names entry.role entry.sorts ≡ Some event_kind = rw r refl in
        let k = application_kind event_kind (kind_of names sort) refl none own refl f in
        let all = arguments entry.sorts (rw r at well.arguments) (rw r at well.count_is) (ties.arguments n entry is) in
        (ties.event_number sort k, e.0, rw e.1 all)

    fluent_fits : entry.role ≡ fluent_role → fits names sort (name n ts) ≡ true → Fits signature (numbers scope) (sort_number names sort) (tree.fluent (symbol_number fluent_role names n) (term_trees names scope ts))
    fluent_fits r f =
        let e = ties.fluents n entry is r in
        let none : constant_sort entry.role entry.sorts ≡ None = rw r refl in
        let own : kind_by_role names entry.role entry.sorts ≡ Some fluent_kind = rw r refl in
        let k = application_kind fluent_kind (kind_of names sort) refl none own refl f in
        let all = arguments entry.sorts (rw r at well.arguments) (rw r at well.count_is) (ties.arguments n entry is) in
        (ties.fluent_number sort k, e.0, rw e.1 all)

    by_role : (role : Role) → entry.role ≡ role → fits names sort (name n ts) ≡ true → Fits signature (numbers scope) (sort_number names sort) (applied role (symbol_number role names n) (term_trees names scope ts))
    by_role constant_role r f = constant_fits r (kind_of names sort) refl f
    by_role event_role r f = event_fits r f
    by_role fluent_role r f = fluent_fits r f
    by_role predicate_role r f = let no_term : same_test false (is_predicate entry.role) ≡ false = rw r refl in let right = well.role_is in cc

  name_fits : (scope : List (List ℕ)) (n : List ℕ) (ts : Terms) (sort : List ℕ) → (name_fault false n (count ts) (symbol_named names n) before arguments_fault names scope (sorts_of_arguments (symbol_named names n)) ts) ≡ None → is_known names sort ≡ true → fits names sort (name n ts) ≡ true
      → ((sorts : List (List ℕ)) → arguments_fault names scope sorts ts ≡ None → count ts ≡ length sorts → AllByRecursion (λ s. is_known names s ≡ true) sorts → AllFit signature (map (variable_sort names) scope) (map (sort_number names) sorts) (term_trees names scope ts))
      → Fits signature (numbers scope) (sort_number names sort) (application names n (symbol_named names n) (term_trees names scope ts))
  name_fits scope n ts sort h known f arguments = by_symbol (symbol_named names n) refl h
    where
      by_symbol : (o : Option SymbolEntry) → symbol_named names n ≡ o → (name_fault false n (count ts) o before arguments_fault names scope (sorts_of_arguments o) ts) ≡ None → Fits signature (numbers scope) (sort_number names sort) (application names n o (term_trees names scope ts))
      by_symbol None is none = cc
      by_symbol (Some entry) is none = by_role scope n ts entry sort is (named_well names scope false n ts entry none) known arguments entry.role refl f

  -- an operand is a whole number, where its own part is known
  operand_fits : (scope : List (List ℕ)) (a : Term) → ((sort : List ℕ) → term_fault names scope a ≡ None → is_known names sort ≡ true → fits names sort a ≡ true → Fits signature (map (variable_sort names) scope) (sort_number names sort) (term_tree names scope a))
      → (term_fault names scope a before operand_fault names a) ≡ None → Fits signature (numbers scope) integer_sort (term_tree names scope a)
  operand_fits scope a fit h =
      let whole : is_whole names a ≡ true = not_false (is_whole names a) (not_where (not (is_whole names a)) Misfit word_integer (later_none (term_fault names scope a) (operand_fault names a) h)) in
      let P : ℕ → Type 0 = λ s. Fits signature (numbers scope) s (term_tree names scope a) in
      subst P ties.integer_number (fit word_integer (first_none (term_fault names scope a) (operand_fault names a) h) ties.integer_known (whole_fits a whole))

  pub left_none : (scope : List (List ℕ)) (a b : Term) → ((term_fault names scope a before operand_fault names a) before (term_fault names scope b before operand_fault names b)) ≡ None → (term_fault names scope a before operand_fault names a) ≡ None
  left_none scope a b h = first_none (term_fault names scope a before operand_fault names a) (term_fault names scope b before operand_fault names b) h

  pub right_none : (scope : List (List ℕ)) (a b : Term) → ((term_fault names scope a before operand_fault names a) before (term_fault names scope b before operand_fault names b)) ≡ None → (term_fault names scope b before operand_fault names b) ≡ None
  right_none scope a b h = later_none (term_fault names scope a before operand_fault names a) (term_fault names scope b before operand_fault names b) h

  mutual
    pub term_fits : (scope : List (List ℕ)) (t : Term) (sort : List ℕ) → term_fault names scope t ≡ None → is_known names sort ≡ true → fits names sort t ≡ true → Fits signature (numbers scope) (sort_number names sort) (term_tree names scope t)
    term_fits scope (name n ts) sort h known f = name_fits scope n ts sort h known f (λ sorts none counted all. arguments_fit scope sorts ts none counted all)
    term_fits scope (variable v) sort h known f = let b = bound_use names scope v h in variable_fits scope v b.sort sort b.among b.is known f
    term_fits scope (number k) sort h known f = whole_sort sort (number k) refl refl known f
    term_fits scope (sum a b) sort h known f = (whole_sort sort (sum a b) refl refl known f, operand_fits scope a (λ s none k g. term_fits scope a s none k g) (left_none scope a b h), operand_fits scope b (λ s none k g. term_fits scope b s none k g) (right_none scope a b h))
    term_fits scope (difference a b) sort h known f = (whole_sort sort (difference a b) refl refl known f, operand_fits scope a (λ s none k g. term_fits scope a s none k g) (left_none scope a b h), operand_fits scope b (λ s none k g. term_fits scope b s none k g) (right_none scope a b h))
    term_fits scope (product a b) sort h known f = (whole_sort sort (product a b) refl refl known f, operand_fits scope a (λ s none k g. term_fits scope a s none k g) (left_none scope a b h), operand_fits scope b (λ s none k g. term_fits scope b s none k g) (right_none scope a b h))
    term_fits scope (negative a) sort h known f = (whole_sort sort (negative a) refl refl known f, integer_is_whole, operand_fits scope a (λ s none k g. term_fits scope a s none k g) h)

    pub arguments_fit : (scope : List (List ℕ)) (sorts : List (List ℕ)) (ts : Terms) → arguments_fault names scope sorts ts ≡ None → count ts ≡ length sorts → AreKnown names sorts → AllFit signature (numbers scope) (map (sort_number names) sorts) (term_trees names scope ts)
    arguments_fit scope [] no_terms h counted all = tt
    arguments_fit scope (sort ∷ sorts) no_terms h counted all = absurd (omega (arith, counted))
    arguments_fit scope [] (term t ts) h counted all = absurd (omega (arith, counted))
    arguments_fit scope (sort ∷ sorts) (term t ts) h counted all =
        let here = first_none (term_fault names scope t before argument_fault names sort t) (arguments_fault names scope sorts ts) h in
        let judged = later_none (term_fault names scope t) (argument_fault names sort t) here in
        let fit : fits names sort t ≡ true = not_false (fits names sort t) (not_where (not (fits names sort t)) Misfit sort (first_none (fault_where (not (fits names sort t)) Misfit sort) (if kinds.same_kind integer (kind_of names sort) then number_fault names sort t else None) judged)) in (
          term_fits scope t sort (first_none (term_fault names scope t) (argument_fault names sort t) here) all.0 fit,
          arguments_fit scope sorts ts (later_none (term_fault names scope t before argument_fault names sort t) (arguments_fault names scope sorts ts) h) (omega (arith, counted)) all.1,
        )
