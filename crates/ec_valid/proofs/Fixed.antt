-- Each place without a variable is in range in a sentence without a fault.
use Rattle.std.proofs.Common.{◌≡◌, ℕ, ◌<◌, Bool, true, false, not, ◌&&◌, if◌then◌else◌, is_none, List, [], ◌∷◌, length, map, ℤ, pos, negsuc, ◌+ℤ◌, neg_ℤ, codes, Option, Some, None, option_map, slice_get, unwrap_or, subst, refl, sym, ap, ◌∙◌, arith}
use Rattle.std.specs.Fmt.{signed_decimal}
use Rattle.std.proofs.lemmas.Int.{ints}
use Rattle.std.proofs.lemmas.Bool.Decides.{nat_tests}
use Rattle.ec_logic.specs.Signature.{Signature, Kind, plain, integer, event_kind, fluent_kind, SortRow}
use Rattle.ec_logic.specs.Extent.{in_range, natural, numbers as numbers_extent}
use Rattle.ec_logic.specs.Universe.{Universe, universe_of, extent_at, extent_of, extent_of_range}
use Rattle.ec_logic.specs.Place.{innermost, nearer}
use Rattle.ec_logic.specs.Value as v
use Rattle.ec_logic.specs.Bound.{fixed_in_range, fixed_places_fit, all_fixed_fit}
use Rattle.ec_logic.specs.Valid.{row_passes, kind_is_integer, is_integer_sort}
use Rattle.ec_logic.proofs.Extents.{extent_of_sort, extent_integer, ground_events, ground_fluents}
use Rattle.ec_names.specs.Names.{Names, Role, constant_role, event_role, fluent_role, predicate_role, SymbolEntry, RangeEntry, symbol_named, range_named, kind_of, sort_number, symbol_number}
use Rattle.ec_syntax.specs.Written.{Term, name, variable, number, sum, difference, product, negative, Terms, no_terms, term}
use Rattle.ec_declare.specs.Faults.{is_known}
use Rattle.ec_declare.specs.Signatures.{ends_of}
use Rattle.ec_walk.specs.declared.fault.Code.TheVariants.{Misfit, Arithmetic, OutOfRange}
use Rattle.ec_walk.specs.Kinds.{fits, is_whole, exceeds, same_kind, is_fixed, is_in_range, value}
use Rattle.ec_walk.specs.Faults.{◌before◌, fault_where, count, name_fault, sorts_of_arguments, argument_fault, term_fault, arguments_fault, number_fault}
use Rattle.ec_walk.specs.Trees.{applied, application, term_tree, term_trees}
use Rattle.ec_valid.proofs.Nesting.{first_none, later_none, not_where}
use Rattle.ec_valid.proofs.Ties.{Ties}
use Rattle.ec_valid.proofs.Fitting.{not_false, AreKnown, IsNamed, named_well, whole_number, no_whole_number, left_none, right_none}
use Rattle.ec_valid.proofs.Bounding.{operand_whole, operand_none, name_not_whole}

-- ---- ranges

in_ends : (o : Option RangeEntry) (z : ℤ) → is_in_range o z ≡ true → in_range (extent_of_range (option_map ends_of o)) z ≡ true
in_ends None z h = cc
in_ends (Some range) z h = by_size (range.high +ℤ neg_ℤ range.low +ℤ pos 1) refl
  where
    by_size : (d : ℤ) → range.high +ℤ neg_ℤ range.low +ℤ pos 1 ≡ d → in_range (numbers_extent range.low (unwrap_or (natural d) 0)) z ≡ true
    by_size (pos n) e = grind (arith, ints, nat_tests, h)
    by_size (negsuc n) e = grind (arith, ints, nat_tests, h)

-- in a sort of no whole numbers everything is in range
others_in_range : (signature : Signature) (s : ℕ) (z : ℤ) → s < length signature.sorts → is_integer_sort signature s ≡ false → in_range (extent_at (universe_of signature) s) z ≡ true
others_in_range signature s z low other = ap (λ e. in_range e z) (extent_of_sort signature s low) ∙ by_row (slice_get signature.sorts s) refl other
  where
    by_kind : (row : SortRow) (kind : Kind) → slice_get signature.sorts s ≡ Some row → row.kind ≡ kind → kind_is_integer kind ≡ false → in_range (extent_of signature (ground_events signature) (ground_fluents signature) s) z ≡ true
    by_kind row plain there k h = rw (there, k) refl
    by_kind row integer there k h = cc
    by_kind row event_kind there k h = rw (there, k) refl
    by_kind row fluent_kind there k h = rw (there, k) refl

    by_row : (o : Option SortRow) → slice_get signature.sorts s ≡ o → row_passes (λ row. kind_is_integer row.kind) o ≡ false → in_range (extent_of signature (ground_events signature) (ground_fluents signature) s) z ≡ true
    by_row None there h = rw there refl
    by_row (Some row) there h = by_kind row row.kind there refl h

-- ---- values

none_nearer : (a b : Option ℕ) → is_none (nearer a b) ≡ (is_none a && is_none b)
none_nearer None None = refl
none_nearer None (Some b) = refl
none_nearer (Some a) None = refl
none_nearer (Some a) (Some b) = refl

both : (a b c d : Bool) → a ≡ c → b ≡ d → (a && b) ≡ (c && d)
both a b c d x y = rw (x, y) refl

parts_fixed : (a b : Bool) → (a && b) ≡ true → (a ≡ true) × (b ≡ true)
parts_fixed true b h = (refl, h)
parts_fixed false b h = cc

module _ (names : Names) (signature : Signature) (ties : Ties names signature) where
  -- a whole number has no variable as a term exactly where its tree has none
  fixed_same : (scope : List (List ℕ)) (t : Term) → term_fault names scope t ≡ None → is_whole names t ≡ true → is_none (innermost (term_tree names scope t)) ≡ is_fixed t
  fixed_same scope (name n ts) h whole = name_not_whole names n ts _ whole
  fixed_same scope (variable x) h whole = refl
  fixed_same scope (number n) h whole = refl
  fixed_same scope (sum a b) h whole =
      let left = left_none names signature ties scope a b h in
      let right = right_none names signature ties scope a b h in
      none_nearer (innermost (term_tree names scope a)) (innermost (term_tree names scope b))
      ∙ both _ _ _ _ (fixed_same scope a (operand_none names scope a left) (operand_whole names scope a left)) (fixed_same scope b (operand_none names scope b right) (operand_whole names scope b right))
  fixed_same scope (difference a b) h whole =
      let left = left_none names signature ties scope a b h in
      let right = right_none names signature ties scope a b h in
      none_nearer (innermost (term_tree names scope a)) (innermost (term_tree names scope b))
      ∙ both _ _ _ _ (fixed_same scope a (operand_none names scope a left) (operand_whole names scope a left)) (fixed_same scope b (operand_none names scope b right) (operand_whole names scope b right))
  fixed_same scope (product a b) h whole =
      let left = left_none names signature ties scope a b h in
      let right = right_none names signature ties scope a b h in
      none_nearer (innermost (term_tree names scope a)) (innermost (term_tree names scope b))
      ∙ both _ _ _ _ (fixed_same scope a (operand_none names scope a left) (operand_whole names scope a left)) (fixed_same scope b (operand_none names scope b right) (operand_whole names scope b right))
  fixed_same scope (negative a) h whole = none_nearer None (innermost (term_tree names scope a)) ∙ fixed_same scope a (operand_none names scope a h) (operand_whole names scope a h)

  value_same : (universe : Universe) (scope : List (List ℕ)) (t : Term) → term_fault names scope t ≡ None → is_whole names t ≡ true → is_fixed t ≡ true → v.value universe [] (term_tree names scope t) ≡ value t
  value_same universe scope (name n ts) h whole f = name_not_whole names n ts _ whole
  value_same universe scope (variable x) h whole f = cc
  value_same universe scope (number n) h whole f = refl
  value_same universe scope (sum a b) h whole f =
      let left = left_none names signature ties scope a b h in
      let right = right_none names signature ties scope a b h in
      let fixed = parts_fixed (is_fixed a) (is_fixed b) f in
      rw (value_same universe scope a (operand_none names scope a left) (operand_whole names scope a left) fixed.0, value_same universe scope b (operand_none names scope b right) (operand_whole names scope b right) fixed.1) refl
  value_same universe scope (difference a b) h whole f =
      let left = left_none names signature ties scope a b h in
      let right = right_none names signature ties scope a b h in
      let fixed = parts_fixed (is_fixed a) (is_fixed b) f in
      rw (value_same universe scope a (operand_none names scope a left) (operand_whole names scope a left) fixed.0, value_same universe scope b (operand_none names scope b right) (operand_whole names scope b right) fixed.1) refl
  value_same universe scope (product a b) h whole f =
      let left = left_none names signature ties scope a b h in
      let right = right_none names signature ties scope a b h in
      let fixed = parts_fixed (is_fixed a) (is_fixed b) f in
      rw (value_same universe scope a (operand_none names scope a left) (operand_whole names scope a left) fixed.0, value_same universe scope b (operand_none names scope b right) (operand_whole names scope b right) fixed.1) refl
  value_same universe scope (negative a) h whole f =
      rw (value_same universe scope a (operand_none names scope a h) (operand_whole names scope a h) f) refl

  -- ---- places

  -- an argument without a fault, if it has no variable, is in range
  argument_fixed : (scope : List (List ℕ)) (sort : List ℕ) (t : Term) → term_fault names scope t ≡ None → argument_fault names sort t ≡ None → is_known names sort ≡ true → fixed_in_range (universe_of signature) (sort_number names sort) (term_tree names scope t) ≡ true
  argument_fixed scope sort t walked h known = by_kind (kind_of names sort) refl
    where
      fit : fits names sort t ≡ true
      fit = not_false (fits names sort t) (not_where (not (fits names sort t)) Misfit sort (first_none (fault_where (not (fits names sort t)) Misfit sort) (if same_kind integer (kind_of names sort) then number_fault names sort t else None) h))

      always : (b c : Bool) → c ≡ true → (if b then c else true) ≡ true
      always true c e = e
      always false c e = refl

      others : (kind : Kind) → kind_of names sort ≡ kind → kind_is_integer kind ≡ false → fixed_in_range (universe_of signature) (sort_number names sort) (term_tree names scope t) ≡ true
      others kind k o = always (is_none (innermost (term_tree names scope t))) (in_range (extent_at (universe_of signature) (sort_number names sort)) (v.value (universe_of signature) [] (term_tree names scope t)))
          (others_in_range signature (sort_number names sort) (v.value (universe_of signature) [] (term_tree names scope t)) (ties.known sort known) (no_whole_number names signature ties sort kind known k o))

      by_kind : (kind : Kind) → kind_of names sort ≡ kind → fixed_in_range (universe_of signature) (sort_number names sort) (term_tree names scope t) ≡ true
      by_kind plain k = others plain k refl
      by_kind event_kind k = others event_kind k refl
      by_kind fluent_kind k = others fluent_kind k refl
      by_kind integer k =
          let whole : is_whole names t ≡ true = rw k at fit in
          let judged : (if same_kind integer (kind_of names sort) then number_fault names sort t else None) ≡ None = later_none (fault_where (not (fits names sort t)) Misfit sort) (if same_kind integer (kind_of names sort) then number_fault names sort t else None) h in
          let n : number_fault names sort t ≡ None = rw k at judged in
          let inside = not_where (is_fixed t && not (is_in_range (range_named names sort) (value t))) OutOfRange (signed_decimal (value t)) (later_none (fault_where (exceeds names t) Arithmetic (codes "arithmetic")) (fault_where (is_fixed t && not (is_in_range (range_named names sort) (value t))) OutOfRange (signed_decimal (value t))) n) in
          by_fixed (is_fixed t) refl whole inside
        where
          by_fixed : (b : Bool) → is_fixed t ≡ b → is_whole names t ≡ true → (is_fixed t && not (is_in_range (range_named names sort) (value t))) ≡ false → fixed_in_range (universe_of signature) (sort_number names sort) (term_tree names scope t) ≡ true
          by_fixed false f whole inside = let o : is_none (innermost (term_tree names scope t)) ≡ false = fixed_same scope t walked whole ∙ f in rw o refl
          by_fixed true f whole inside =
              let o : is_none (innermost (term_tree names scope t)) ≡ true = fixed_same scope t walked whole ∙ f in
              let there : is_in_range (range_named names sort) (value t) ≡ true = not_false (is_in_range (range_named names sort) (value t)) (rw f at inside) in
              let e = value_same (universe_of signature) scope t walked whole f in
              let x : extent_at (universe_of signature) (sort_number names sort) ≡ extent_of_range (option_map ends_of (range_named names sort)) = extent_integer signature (sort_number names sort) (whole_number names signature ties sort known k) ∙ ap extent_of_range (ties.ranges sort known) in
              rw (o, x, e) (in_ends (range_named names sort) (value t) there)

  -- the places inside a name, where those of its arguments are known
  name_fixed : (scope : List (List ℕ)) (n : List ℕ) (ts : Terms) → ((sorts : List (List ℕ)) → arguments_fault names scope sorts ts ≡ None → count ts ≡ length sorts → AreKnown names sorts → all_fixed_fit (universe_of signature) (map (sort_number names) sorts) (term_trees names scope ts) ≡ true)
      → term_fault names scope (name n ts) ≡ None → fixed_places_fit (universe_of signature) (term_tree names scope (name n ts)) ≡ true
  name_fixed scope n ts rest h = by_symbol (symbol_named names n) refl h
    where
      by_role : (entry : SymbolEntry) (role : Role) → symbol_named names n ≡ Some entry → entry.role ≡ role → IsNamed names scope false ts entry → fixed_places_fit (universe_of signature) (applied role (symbol_number role names n) (term_trees names scope ts)) ≡ true
      by_role entry constant_role is r well = refl
      by_role entry event_role is r well = let e = ties.events n entry is r in let P : List ℕ → Type 0 = λ ss. all_fixed_fit (universe_of signature) ss (term_trees names scope ts) ≡ true in subst P (sym e.1) (rest entry.sorts (rw r at well.arguments) (rw r at well.count_is) (ties.arguments n entry is))
      by_role entry fluent_role is r well = let e = ties.fluents n entry is r in let P : List ℕ → Type 0 = λ ss. all_fixed_fit (universe_of signature) ss (term_trees names scope ts) ≡ true in subst P (sym e.1) (rest entry.sorts (rw r at well.arguments) (rw r at well.count_is) (ties.arguments n entry is))
      by_role entry predicate_role is r well = refl

      by_symbol : (o : Option SymbolEntry) → symbol_named names n ≡ o → (name_fault false n (count ts) o before arguments_fault names scope (sorts_of_arguments o) ts) ≡ None → fixed_places_fit (universe_of signature) (application names n o (term_trees names scope ts)) ≡ true
      by_symbol None is none = cc
      by_symbol (Some entry) is none = by_role entry entry.role is refl (named_well names scope false n ts entry none)

  mutual
    pub term_fixed : (scope : List (List ℕ)) (t : Term) → term_fault names scope t ≡ None → fixed_places_fit (universe_of signature) (term_tree names scope t) ≡ true
    term_fixed scope (name n ts) h = name_fixed scope n ts (λ sorts none counted all. arguments_fixed scope sorts ts none counted all) h
    term_fixed scope (variable x) h = refl
    term_fixed scope (number n) h = refl
    term_fixed scope (sum a b) h = rw (term_fixed scope a (operand_none names scope a (left_none names signature ties scope a b h)), term_fixed scope b (operand_none names scope b (right_none names signature ties scope a b h))) refl
    term_fixed scope (difference a b) h = rw (term_fixed scope a (operand_none names scope a (left_none names signature ties scope a b h)), term_fixed scope b (operand_none names scope b (right_none names signature ties scope a b h))) refl
    term_fixed scope (product a b) h = rw (term_fixed scope a (operand_none names scope a (left_none names signature ties scope a b h)), term_fixed scope b (operand_none names scope b (right_none names signature ties scope a b h))) refl
    term_fixed scope (negative a) h = term_fixed scope a (operand_none names scope a h)

    pub arguments_fixed : (scope : List (List ℕ)) (sorts : List (List ℕ)) (ts : Terms) → arguments_fault names scope sorts ts ≡ None → count ts ≡ length sorts → AreKnown names sorts → all_fixed_fit (universe_of signature) (map (sort_number names) sorts) (term_trees names scope ts) ≡ true
    arguments_fixed scope sorts no_terms h counted all = refl
    arguments_fixed scope [] (term t ts) h counted all = absurd (omega (arith, counted))
    arguments_fixed scope (sort ∷ sorts) (term t ts) h counted all =
        let here = first_none (term_fault names scope t before argument_fault names sort t) (arguments_fault names scope sorts ts) h in
        let walked = first_none (term_fault names scope t) (argument_fault names sort t) here in
        let judged = later_none (term_fault names scope t) (argument_fault names sort t) here in
        let rest = arguments_fixed scope sorts ts (later_none (term_fault names scope t before argument_fault names sort t) (arguments_fault names scope sorts ts) h) (omega (arith, counted)) all.1 in
        rw (argument_fixed scope sort t walked judged all.0, term_fixed scope t walked) rest
