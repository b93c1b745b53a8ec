-- The names and the numbers of a book without a fault in its declarations are tied.
use Rattle.std.proofs.Common.{◌≡◌, ℕ, ◌<◌, ◌≤◌, ◌^◌, Bool, true, false, ◌&&◌, ◌||◌, List, [], ◌∷◌, length, map, Option, Some, None, is_some, option_map, slice_get, unwrap_or, subst, refl, sym, ap, ◌∙◌, arith}
use Rattle.std.specs.List.{AllByRecursion, list_all, find}
use Rattle.std.specs.Str.{bytes_eq}
use Rattle.std.specs.Cmp.Lexicographic.{bytes_decides}
use Rattle.std.proofs.lemmas.List.{length-map}
use Rattle.std.proofs.lemmas.Int.{ints}
use Rattle.std.proofs.lemmas.Bool.Decides.{nat_tests}
use Rattle.ec_logic.specs.Signature.{event_kind, fluent_kind, event_sort, fluent_sort, SymbolRow}
use Rattle.ec_logic.specs.Universe.{argument_sorts, row_of}
use Rattle.ec_logic.specs.Valid.{is_range, kind_is_event, kind_is_fluent}
use Rattle.ec_names.specs.Names.{Names, Role, constant_role, event_role, fluent_role, predicate_role, SymbolEntry, RangeEntry, names_of, named, symbol_name, sort_name, symbol_named, symbols_of, symbol_number, sort_number, sort_of_variable, sort_words, spells_longest, is_among, is_role, kind_of, range_named, word_event, word_fluent}
use Rattle.ec_syntax.specs.Written as w
use Rattle.ec_declare.specs.Faults.{is_known, is_plain_sort}
use Rattle.ec_declare.specs.Signatures.{signature_of, symbol_row, constant_row, rows_of, only_number, ends_of}
use Rattle.ec_declare.specs.Sound.{IsFaultless}
use Rattle.ec_declare.proofs.Facts.{argument_ok, only_ok}
use Rattle.ec_declare.proofs.Numbers.{AreSorts, slice_get-map, number-within, passes, range-number, kind-event, kind-fluent}
use Rattle.ec_declare.proofs.Places.{IsFound, is-found, named-among}
use Rattle.ec_declare.proofs.SortFields.{within-number, small-by}
use Rattle.ec_declare.proofs.SymbolFields.{AreSymbols, event-tests, fluent-tests, constant-tests, predicates-known, argument-known}
use Rattle.ec_declare.proofs.Deciding.{all-at, and-first, and-last, some-is}
use Rattle.ec_declare.proofs.Validity.{are-sorts, are-symbols, later-symbols}
use Rattle.ec_walk.specs.Kinds.{greater_end}
use Rattle.ec_valid.proofs.Ties.{Ties, IsConstant}

-- ---- lists

found_among : (p : List ℕ → Bool) (xs : List (List ℕ)) (s : List ℕ) → find p xs ≡ Some s → is_among s xs ≡ true
found_among p [] s h = cc
found_among p (x ∷ xs) s h = by_test (p x) refl (found_among p xs s)
  where
    or_later : (a b : Bool) → b ≡ true → (a || b) ≡ true
    or_later true b e = refl
    or_later false b e = e

    by_test : (b : Bool) → p x ≡ b → (find p xs ≡ Some s → is_among s xs ≡ true) → (bytes_eq s x || is_among s xs) ≡ true
    by_test true e rest = let same : x ≡ s = some-is x s (rw e at h) in let eq : bytes_eq s x ≡ true = (bytes_decides s x).1 (sym same) in rw eq refl
    by_test false e rest = or_later (bytes_eq s x) (is_among s xs) (rest (rw e at h))

-- the first item of a name is still the first among the items of its role
named_kept : (role : Role) (es : List SymbolEntry) (n : List ℕ) (e : SymbolEntry) → named symbol_name es n ≡ Some e → is_role role e.role ≡ true → named symbol_name (symbols_of role es) n ≡ Some e
named_kept role [] n e h r = cc
named_kept role (x ∷ es) n e h r = by_name (bytes_eq n x.name) refl (named_kept role es n e)
  where
    by_role : (b : Bool) → is_role role x.role ≡ b → bytes_eq n x.name ≡ false → named symbol_name (symbols_of role es) n ≡ Some e → named symbol_name (symbols_of role (x ∷ es)) n ≡ Some e
    by_role true k other rest = rw (k, other) rest
    by_role false k other rest = rw k rest

    by_name : (b : Bool) → bytes_eq n x.name ≡ b → (named symbol_name es n ≡ Some e → is_role role e.role ≡ true → named symbol_name (symbols_of role es) n ≡ Some e) → named symbol_name (symbols_of role (x ∷ es)) n ≡ Some e
    by_name true is rest =
        let same : x ≡ e = some-is x e (rw is at h) in
        let k : is_role role x.role ≡ true = ap (λ (y : SymbolEntry). is_role role y.role) same ∙ r in
        rw (k, is) (ap Some same)
    by_name false is rest = by_role (is_role role x.role) refl is (rest (rw is at h) r)

own_role : (role : Role) → is_role role role ≡ true
own_role constant_role = refl
own_role event_role = refl
own_role fluent_role = refl
own_role predicate_role = refl

each_known : (names : Names) (ss : List (List ℕ)) → list_all (is_known names) ss ≡ true → AllByRecursion (λ s. is_known names s ≡ true) ss
each_known names [] h = tt
each_known names (s ∷ ss) h = (and-first (is_known names s) (list_all (is_known names) ss) h, each_known names ss (and-last (is_known names s) (list_all (is_known names) ss) h))

small_end : (o : Option RangeEntry) → is_range (option_map ends_of o) ≡ true → greater_end o ≤ 2 ^ 62
small_end None h = omega arith
small_end (Some range) h = grind (arith, ints, nat_tests, h)

module _ (ps : List w.Placed) (faultless : IsFaultless ps) where
  abbrev names : Names
  names = names_of ps

  are : AreSorts (names_of ps)
  are = are-sorts ps faultless

  have : AreSymbols (names_of ps) (later-symbols ps)
  have = are-symbols ps faultless

  -- ---- symbols of a role

  there : (role : Role) (n : List ℕ) (entry : SymbolEntry) → symbol_named names n ≡ Some entry → entry.role ≡ role → IsFound symbol_name (symbols_of role names.symbols) n
  there role n entry is r = is-found symbol_name (symbols_of role names.symbols) n (ap is_some (named_kept role names.symbols n entry is (ap (is_role role) r ∙ own_role role)))

  entry_there : (role : Role) (n : List ℕ) (entry : SymbolEntry) → symbol_named names n ≡ Some entry → entry.role ≡ role → slice_get (symbols_of role names.symbols) (symbol_number role names n) ≡ Some entry
  entry_there role n entry is r =
      let f = there role n entry is r in
      f.there ∙ sym f.found ∙ named_kept role names.symbols n entry is (ap (is_role role) r ∙ own_role role)

  number_low : (role : Role) (n : List ℕ) (entry : SymbolEntry) → symbol_named names n ≡ Some entry → entry.role ≡ role → symbol_number role names n < length (rows_of names role)
  number_low role n entry is r = let low = (there role n entry is r).within in let size = length-map (symbols_of role names.symbols) (symbol_row names) in omega (arith, low, size)

  row_sorts : (role : Role) (n : List ℕ) (entry : SymbolEntry) → symbol_named names n ≡ Some entry → entry.role ≡ role → row_of (argument_sorts (rows_of names role)) (symbol_number role names n) ≡ map (sort_number names) entry.sorts
  row_sorts role n entry is r =
      ap (λ (o : Option (List ℕ)). unwrap_or o []) (
      slice_get-map (λ (row : SymbolRow). row.sorts) (rows_of names role) (symbol_number role names n)
      ∙ ap (option_map (λ (row : SymbolRow). row.sorts)) (slice_get-map (symbol_row names) (symbols_of role names.symbols) (symbol_number role names n) ∙ ap (option_map (symbol_row names)) (entry_there role n entry is r)))

  constant_tied : (n : List ℕ) (entry : SymbolEntry) → symbol_named names n ≡ Some entry → entry.role ≡ constant_role → IsConstant names (signature_of names) n entry
  constant_tied n entry is r = by_sorts entry.sorts refl (all-at (λ (e : SymbolEntry). only_ok names e.sorts) (symbols_of constant_role names.symbols) (symbol_number constant_role names n) entry (constant-tests names are (later-symbols ps) have) (entry_there constant_role n entry is r))
    where
      row_there : slice_get (signature_of names).constants (symbol_number constant_role names n) ≡ Some (constant_row names entry)
      row_there = slice_get-map (constant_row names) (symbols_of constant_role names.symbols) (symbol_number constant_role names n) ∙ ap (option_map (constant_row names)) (entry_there constant_role n entry is r)

      by_sorts : (ss : List (List ℕ)) → entry.sorts ≡ ss → only_ok names entry.sorts ≡ true → IsConstant names (signature_of names) n entry
      by_sorts [] s ok = let n : only_ok names entry.sorts ≡ false = ap (only_ok names) s in cc
      by_sorts (t ∷ []) s ok =
          let k : (is_known names t && is_plain_sort names t) ≡ true = sym (ap (only_ok names) s) ∙ ok in
          record { sort = t; sorts = s; known = and-first (is_known names t) (is_plain_sort names t) k; row = constant_row names entry; there = row_there; row_sort = ap (only_number names) s }
      by_sorts (t ∷ (u ∷ ss)) s ok = let n : only_ok names entry.sorts ≡ false = ap (only_ok names) s in cc

  -- ---- arguments

  arguments_ok : (role : Role) (ss : List (List ℕ)) → list_all (argument_ok names role) ss ≡ true → AllByRecursion (λ s. is_known names s ≡ true) ss
  arguments_ok role [] h = tt
  arguments_ok role (s ∷ ss) h = (argument-known names are (later-symbols ps) have role s (and-first (argument_ok names role s) (list_all (argument_ok names role) ss) h), arguments_ok role ss (and-last (argument_ok names role s) (list_all (argument_ok names role) ss) h))

  arguments_tied : (n : List ℕ) (entry : SymbolEntry) → symbol_named names n ≡ Some entry → AllByRecursion (λ s. is_known names s ≡ true) entry.sorts
  arguments_tied n entry is = by_role entry.role refl
    where
      by_role : (role : Role) → entry.role ≡ role → AllByRecursion (λ s. is_known names s ≡ true) entry.sorts
      by_role constant_role r = let c = constant_tied n entry is r in subst (AllByRecursion (λ s. is_known names s ≡ true)) (sym c.sorts) (c.known, tt)
      by_role event_role r = arguments_ok event_role entry.sorts (all-at (λ (e : SymbolEntry). list_all (argument_ok names event_role) e.sorts) (symbols_of event_role names.symbols) (symbol_number event_role names n) entry (event-tests names are (later-symbols ps) have) (entry_there event_role n entry is r))
      by_role fluent_role r = arguments_ok fluent_role entry.sorts (all-at (λ (e : SymbolEntry). list_all (argument_ok names fluent_role) e.sorts) (symbols_of fluent_role names.symbols) (symbol_number fluent_role names n) entry (fluent-tests names are (later-symbols ps) have) (entry_there fluent_role n entry is r))
      by_role predicate_role r = each_known names entry.sorts (all-at (λ (e : SymbolEntry). list_all (is_known names) e.sorts) (symbols_of predicate_role names.symbols) (symbol_number predicate_role names n) entry (predicates-known names are (later-symbols ps) have) (entry_there predicate_role n entry is r))

  -- ---- sorts

  event_tied : (s : List ℕ) → kind_of names s ≡ event_kind → sort_number names s ≡ event_sort
  event_tied s k =
      let e : bytes_eq s word_event ≡ true = sym (kind-event names are s) ∙ ap kind_is_event k in
      ap (sort_number names) ((bytes_decides s word_event).0 e) ∙ are.event_at

  fluent_tied : (s : List ℕ) → kind_of names s ≡ fluent_kind → sort_number names s ≡ fluent_sort
  fluent_tied s k =
      let e : bytes_eq s word_fluent ≡ true = sym (kind-fluent names are s) ∙ ap kind_is_fluent k in
      ap (sort_number names) ((bytes_decides s word_fluent).0 e) ∙ are.fluent_at

  variable_tied : (v s : List ℕ) → sort_of_variable names v ≡ Some s → is_known names s ≡ true
  variable_tied v s is = named-among sort_name names.sorts s ∙ found_among (spells_longest (sort_words names) v) (sort_words names) s is

  pub faultless_ties : Ties (names_of ps) (signature_of (names_of ps))
  faultless_ties = record {
    known = number-within names are;
    kinds = λ s test known. passes names are test s known;
    ranges = range-number names are;
    within = within-number names are;
    integer_known = are.integer_known;
    integer_number = are.integer_at;
    integer_kind = refl;
    event_known = are.event_known;
    fluent_known = are.fluent_known;
    event_number = event_tied;
    fluent_number = fluent_tied;
    variables = variable_tied;
    small = λ s known. small_end (range_named names s) (small-by names are s (range_named names s) refl);
    constants = constant_tied;
    events = λ n entry is r. (number_low event_role n entry is r, row_sorts event_role n entry is r);
    fluents = λ n entry is r. (number_low fluent_role n entry is r, row_sorts fluent_role n entry is r);
    predicates = λ n entry is r. (number_low predicate_role n entry is r, row_sorts predicate_role n entry is r);
    arguments = arguments_tied;
  }
