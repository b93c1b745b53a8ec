-- No whole number in a sentence without a fault has a bound over the limit.
use Rattle.std.proofs.Common.{◌≡◌, ℕ, ◌+◌, ◌*◌, ◌≤◌, ◌^◌, Bool, true, false, not, ◌||◌, ◌&&◌, if◌then◌else◌, List, [], ◌∷◌, length, map, codes, Option, Some, None, option_map, slice_get, refl, sym, ap, ◌∙◌, arith}
use Rattle.std.specs.Fmt.{signed_decimal}
use Rattle.std.specs.Str.{bytes_eq}
use Rattle.std.specs.List.{position_or_len}
use Rattle.std.proofs.lemmas.Bool.Decides.{nat_tests}
use Rattle.ec_logic.specs.Signature.{Signature, Kind, plain, integer, event_kind, fluent_kind}
use Rattle.ec_logic.specs.Bound.{greater_end, bound_of_sort, bound, HasSmallBounds, HaveSmallBounds}
use Rattle.ec_names.specs.Names.{Names, Role, constant_role, event_role, fluent_role, predicate_role, SymbolEntry, RangeEntry, symbol_named, range_named, kind_of, sort_of_variable, symbol_number, is_among, word_integer}
use Rattle.ec_syntax.specs.Written.{Term, name, variable, number, sum, difference, product, negative, Terms, no_terms, term}
use Rattle.ec_declare.specs.Signatures.{ends_of}
use Rattle.ec_walk.specs.declared.fault.Code.TheVariants.{Misfit, Arithmetic, OutOfRange}
use Rattle.ec_walk.specs.Kinds as kinds
use Rattle.ec_walk.specs.Kinds.{fits, fits_kind, is_of_kind, is_whole, is_over, exceeds, kind_by_role, kind_of_symbol, kind_of_term, sort_of_term, same_kind, is_fixed, is_in_range, value}
use Rattle.ec_walk.specs.Faults.{◌before◌, fault_where, count, name_fault, sorts_of_arguments, argument_fault, operand_fault, term_fault, arguments_fault, number_fault}
use Rattle.ec_walk.specs.Trees.{applied, application, term_tree, term_trees, variable_sort}
use Rattle.ec_valid.proofs.Nesting.{first_none, later_none, not_where}
use Rattle.ec_valid.proofs.Ties.{Ties}
use Rattle.ec_valid.proofs.Fitting.{not_false, found, bound_use, constant_kind, IsNamed, named_well, left_none, right_none}

pub neither : (a b : Bool) → (a || b) ≡ false → (a ≡ false) × (b ≡ false)
neither false b h = (refl, h)
neither true b h = cc

-- an operand is a whole number, and its own part has no fault
pub operand_whole : (names : Names) (scope : List (List ℕ)) (a : Term) → (term_fault names scope a before operand_fault names a) ≡ None → is_whole names a ≡ true
operand_whole names scope a h = not_false (is_whole names a) (not_where (not (is_whole names a)) Misfit word_integer (later_none (term_fault names scope a) (operand_fault names a) h))

pub operand_none : (names : Names) (scope : List (List ℕ)) (a : Term) → (term_fault names scope a before operand_fault names a) ≡ None → term_fault names scope a ≡ None
operand_none names scope a h = first_none (term_fault names scope a) (operand_fault names a) h

-- a name is no whole number
pub name_not_whole : (names : Names) (n : List ℕ) (ts : Terms) (P : Type 0) → is_whole names (name n ts) ≡ true → P
name_not_whole names n ts P h = by_symbol (symbol_named names n) h
  where
    by_role : (role : Role) (sorts : List (List ℕ)) → is_of_kind integer (kind_by_role names role sorts) ≡ true → P
    by_role constant_role sorts k = let no_kind = constant_kind integer (option_map (kind_of names) (slice_get sorts 0)) refl in cc
    by_role event_role sorts k = cc
    by_role fluent_role sorts k = cc
    by_role predicate_role sorts k = cc

    by_symbol : (o : Option SymbolEntry) → is_of_kind integer (kind_of_symbol names o) ≡ true → P
    by_symbol None k = cc
    by_symbol (Some entry) k = by_role entry.role entry.sorts k

same_ends : (o : Option RangeEntry) → greater_end (option_map ends_of o) ≡ kinds.greater_end o
same_ends None = refl
same_ends (Some range) = refl

within_limit : (n : ℕ) → is_over n ≡ false → n ≤ 2 ^ 62
within_limit n h = grind (arith, nat_tests)

-- a term that doesn't exceed the limit has a bound within it
bound_small : (names : Names) (t : Term) → exceeds names t ≡ false → kinds.bound names t ≤ 2 ^ 62
bound_small names (name n ts) h = omega arith
bound_small names (variable v) h = within_limit (kinds.bound_of_sort names (sort_of_variable names v)) h
bound_small names (number n) h = within_limit n h
bound_small names (sum a b) h = within_limit (kinds.bound names a + kinds.bound names b) ((neither (exceeds names a || exceeds names b) (is_over (kinds.bound names a + kinds.bound names b)) h).1)
bound_small names (difference a b) h = within_limit (kinds.bound names a + kinds.bound names b) ((neither (exceeds names a || exceeds names b) (is_over (kinds.bound names a + kinds.bound names b)) h).1)
bound_small names (product a b) h = within_limit (kinds.bound names a * kinds.bound names b) ((neither (exceeds names a || exceeds names b) (is_over (kinds.bound names a * kinds.bound names b)) h).1)
bound_small names (negative a) h = bound_small names a h

module _ (names : Names) (signature : Signature) (ties : Ties names signature) where
  -- a variable's bound is the greater end of its sort's range
  variable_bound : (scope : List (List ℕ)) (v own : List ℕ) → is_among v scope ≡ true → sort_of_variable names v ≡ Some own → bound_of_sort signature (slice_get (map (variable_sort names) scope) (position_or_len (bytes_eq v) scope)) ≡ kinds.greater_end (range_named names own)
  variable_bound scope v own among is =
      rw (found (variable_sort names) v scope among, is) (ap greater_end (ties.ranges own (ties.variables v own is)) ∙ same_ends (range_named names own))

  bound_same : (scope : List (List ℕ)) (t : Term) → term_fault names scope t ≡ None → is_whole names t ≡ true → bound signature (map (variable_sort names) scope) (term_tree names scope t) ≡ kinds.bound names t
  bound_same scope (name n ts) h whole = name_not_whole names n ts _ whole
  bound_same scope (variable v) h whole = let b = bound_use names scope v h in variable_bound scope v b.sort b.among b.is ∙ ap (kinds.bound_of_sort names) (sym b.is)
  bound_same scope (number n) h whole = refl
  bound_same scope (sum a b) h whole =
      let left = left_none names signature ties scope a b h in
      let right = right_none names signature ties scope a b h in
      let x = bound_same scope a (operand_none names scope a left) (operand_whole names scope a left) in
      let y = bound_same scope b (operand_none names scope b right) (operand_whole names scope b right) in
      rw (x, y) refl
  bound_same scope (difference a b) h whole =
      let left = left_none names signature ties scope a b h in
      let right = right_none names signature ties scope a b h in
      let x = bound_same scope a (operand_none names scope a left) (operand_whole names scope a left) in
      let y = bound_same scope b (operand_none names scope b right) (operand_whole names scope b right) in
      rw (x, y) refl
  bound_same scope (product a b) h whole =
      let left = left_none names signature ties scope a b h in
      let right = right_none names signature ties scope a b h in
      let x = bound_same scope a (operand_none names scope a left) (operand_whole names scope a left) in
      let y = bound_same scope b (operand_none names scope b right) (operand_whole names scope b right) in
      rw (x, y) refl
  bound_same scope (negative a) h whole =
      let x = bound_same scope a (operand_none names scope a h) (operand_whole names scope a h) in
      rw x (omega arith)

  small_variable : (scope : List (List ℕ)) (v : List ℕ) → term_fault names scope (variable v) ≡ None → HasSmallBounds signature (map (variable_sort names) scope) (term_tree names scope (variable v))
  small_variable scope v h =
      let b = bound_use names scope v h in
      let e = variable_bound scope v b.sort b.among b.is in
      let low = ties.small b.sort (ties.variables v b.sort b.is) in
      omega (arith, e, low)

  pub small_whole : (scope : List (List ℕ)) (t : Term) → term_fault names scope t ≡ None → is_whole names t ≡ true → exceeds names t ≡ false → HasSmallBounds signature (map (variable_sort names) scope) (term_tree names scope t)
  small_whole scope (name n ts) h whole x = name_not_whole names n ts _ whole
  small_whole scope (variable v) h whole x = small_variable scope v h
  small_whole scope (number n) h whole x = within_limit n x
  small_whole scope (sum a b) h whole x =
      let left = left_none names signature ties scope a b h in
      let right = right_none names signature ties scope a b h in
      let parts = neither (exceeds names a) (exceeds names b) ((neither (exceeds names a || exceeds names b) (is_over (kinds.bound names a + kinds.bound names b)) x).0) in (
        small_whole scope a (operand_none names scope a left) (operand_whole names scope a left) parts.0,
        small_whole scope b (operand_none names scope b right) (operand_whole names scope b right) parts.1,
        (let e = bound_same scope (sum a b) h refl in let low = bound_small names (sum a b) x in omega (arith, e, low)),
      )
  small_whole scope (difference a b) h whole x =
      let left = left_none names signature ties scope a b h in
      let right = right_none names signature ties scope a b h in
      let parts = neither (exceeds names a) (exceeds names b) ((neither (exceeds names a || exceeds names b) (is_over (kinds.bound names a + kinds.bound names b)) x).0) in (
        small_whole scope a (operand_none names scope a left) (operand_whole names scope a left) parts.0,
        small_whole scope b (operand_none names scope b right) (operand_whole names scope b right) parts.1,
        (let e = bound_same scope (difference a b) h refl in let low = bound_small names (difference a b) x in omega (arith, e, low)),
      )
  small_whole scope (product a b) h whole x =
      let left = left_none names signature ties scope a b h in
      let right = right_none names signature ties scope a b h in
      let parts = neither (exceeds names a) (exceeds names b) ((neither (exceeds names a || exceeds names b) (is_over (kinds.bound names a * kinds.bound names b)) x).0) in (
        small_whole scope a (operand_none names scope a left) (operand_whole names scope a left) parts.0,
        small_whole scope b (operand_none names scope b right) (operand_whole names scope b right) parts.1,
        (let e = bound_same scope (product a b) h refl in let low = bound_small names (product a b) x in rw (sym e) at low),
      )
  small_whole scope (negative a) h whole x = (
    omega arith,
    small_whole scope a (operand_none names scope a h) (operand_whole names scope a h) x,
    (let e = bound_same scope (negative a) h refl in let low = bound_small names (negative a) x in omega (arith, e, low)),
  )

  -- what has no sort of its own and stands for a whole number doesn't exceed the limit
  abbrev pub IsWithin : Term → Type 0
  IsWithin t = sort_of_term names t ≡ None → kind_of_term names t ≡ Some integer → exceeds names t ≡ false

  -- an argument without a fault doesn't
  pub argument_within : (sort : List ℕ) (t : Term) → argument_fault names sort t ≡ None → IsWithin t
  argument_within sort t h none whole = by_kind (kind_of names sort) refl
    where
      fit : fits names sort t ≡ true
      fit = not_false (fits names sort t) (not_where (not (fits names sort t)) Misfit sort (first_none (fault_where (not (fits names sort t)) Misfit sort) (if same_kind integer (kind_of names sort) then number_fault names sort t else None) h))

      by_kind : (kind : Kind) → kind_of names sort ≡ kind → exceeds names t ≡ false
      by_kind plain k = let f : fits_kind names sort t plain ≡ true = rw k at fit in let g : fits_kind names sort t plain ≡ false = rw none refl in cc
      by_kind integer k =
          let judged : (if same_kind integer (kind_of names sort) then number_fault names sort t else None) ≡ None = later_none (fault_where (not (fits names sort t)) Misfit sort) (if same_kind integer (kind_of names sort) then number_fault names sort t else None) h in
          let n : number_fault names sort t ≡ None = rw k at judged in
          not_where (exceeds names t) Arithmetic (codes "arithmetic") (first_none (fault_where (exceeds names t) Arithmetic (codes "arithmetic")) (fault_where (is_fixed t && not (is_in_range (range_named names sort) (value t))) OutOfRange (signed_decimal (value t))) n)
      by_kind event_kind k = let f : fits_kind names sort t event_kind ≡ true = rw k at fit in let g : fits_kind names sort t event_kind ≡ false = rw whole refl in cc
      by_kind fluent_kind k = let f : fits_kind names sort t fluent_kind ≡ true = rw k at fit in let g : fits_kind names sort t fluent_kind ≡ false = rw whole refl in cc

  -- a name's arguments, where theirs are known
  small_name : (scope : List (List ℕ)) (n : List ℕ) (ts : Terms) → ((sorts : List (List ℕ)) → arguments_fault names scope sorts ts ≡ None → count ts ≡ length sorts → HaveSmallBounds signature (map (variable_sort names) scope) (term_trees names scope ts))
      → term_fault names scope (name n ts) ≡ None → HasSmallBounds signature (map (variable_sort names) scope) (term_tree names scope (name n ts))
  small_name scope n ts rest h = by_symbol (symbol_named names n) h
    where
      by_role : (entry : SymbolEntry) (role : Role) → entry.role ≡ role → IsNamed names scope false ts entry → HasSmallBounds signature (map (variable_sort names) scope) (applied role (symbol_number role names n) (term_trees names scope ts))
      by_role entry constant_role r well = tt
      by_role entry event_role r well = rest (kinds.argument_sorts entry.role entry.sorts) well.arguments well.count_is
      by_role entry fluent_role r well = rest (kinds.argument_sorts entry.role entry.sorts) well.arguments well.count_is
      by_role entry predicate_role r well = tt

      by_symbol : (o : Option SymbolEntry) → (name_fault false n (count ts) o before arguments_fault names scope (sorts_of_arguments o) ts) ≡ None → HasSmallBounds signature (map (variable_sort names) scope) (application names n o (term_trees names scope ts))
      by_symbol None none = cc
      by_symbol (Some entry) none = by_role entry entry.role refl (named_well names scope false n ts entry none)

  mutual
    pub term_small : (scope : List (List ℕ)) (t : Term) → term_fault names scope t ≡ None → IsWithin t → HasSmallBounds signature (map (variable_sort names) scope) (term_tree names scope t)
    term_small scope (name n ts) h x = small_name scope n ts (λ sorts none counted. arguments_small scope sorts ts none counted) h
    term_small scope (variable v) h x = small_variable scope v h
    term_small scope (number n) h x = small_whole scope (number n) h refl (x refl refl)
    term_small scope (sum a b) h x = small_whole scope (sum a b) h refl (x refl refl)
    term_small scope (difference a b) h x = small_whole scope (difference a b) h refl (x refl refl)
    term_small scope (product a b) h x = small_whole scope (product a b) h refl (x refl refl)
    term_small scope (negative a) h x = small_whole scope (negative a) h refl (x refl refl)

    pub arguments_small : (scope : List (List ℕ)) (sorts : List (List ℕ)) (ts : Terms) → arguments_fault names scope sorts ts ≡ None → count ts ≡ length sorts → HaveSmallBounds signature (map (variable_sort names) scope) (term_trees names scope ts)
    arguments_small scope sorts no_terms h counted = tt
    arguments_small scope [] (term t ts) h counted = absurd (omega (arith, counted))
    arguments_small scope (sort ∷ sorts) (term t ts) h counted =
        let here = first_none (term_fault names scope t before argument_fault names sort t) (arguments_fault names scope sorts ts) h in
        let judged = later_none (term_fault names scope t) (argument_fault names sort t) here in (
          term_small scope t (first_none (term_fault names scope t) (argument_fault names sort t) here) (argument_within sort t judged),
          arguments_small scope sorts ts (later_none (term_fault names scope t before argument_fault names sort t) (arguments_fault names scope sorts ts) h) (omega (arith, counted)),
        )
