-- What a signature asks of its constants and symbols holds where no declaration has a fault.
use Rattle.std.proofs.Common.{◌≡◌, ℕ, ◌+◌, ◌<◌, Bool, true, false, true≢false, not, cond, ◌&&◌, ◌||◌, List, [], ◌∷◌, ◌++◌, map, drop, length, Option, Some, None, is_some, option_map, slice_get, refl, sym, ap, subst, ◌∙◌, length-append, arith}
use Rattle.std.proofs.lemmas.List.{length-map}
use Rattle.std.specs.List.{list_all}
use Rattle.ec_logic.specs.Signature.{ConstantRow, SymbolRow, built_in, time_sort}
use Rattle.ec_logic.specs.Valid.{EachArgument, EachConstant, EachSymbol, IsRanged, has_range, range_of}
use Rattle.ec_logic.specs.Valid as valid
use Rattle.ec_names.specs.Names.{Names, Role, constant_role, event_role, fluent_role, predicate_role, SymbolEntry, RangeEntry, built_in_symbols, is_among, is_integer_sort, is_noninertial, is_ranged, is_reified_sort, is_role, range_named, range_sort, sort_number, symbols_of, word_time}
use Rattle.ec_declare.specs.Faults.{is_known, is_plain_sort, refuses_reified}
use Rattle.ec_declare.specs.Signatures.{constant_row, ends_of, only_number, signature_of, symbol_row}
use Rattle.ec_declare.proofs.Facts.{argument_ok, only_ok, sorts_ok, symbol_ok}
use Rattle.ec_declare.proofs.Numbers.{AreSorts, integer-number, made-at, number-within, plain-number, range-number, reified-number}
use Rattle.ec_declare.proofs.Places.{named-among}
use Rattle.ec_declare.proofs.Deciding.{all-append, all-at, all-kept, and-first, and-last, and-true, not-true}

-- What is known of the symbols of a book without faults.
pub record AreSymbols (names : Names) (declared : List SymbolEntry) : Type 0 where
  pub symbols_are : names.symbols ≡ built_in_symbols ++ declared
  pub ok : list_all (symbol_ok names) declared ≡ true
  pub built_in_known : list_all (λ e. list_all (is_known names) e.sorts) built_in_symbols ≡ true
  pub time_known : is_known names word_time ≡ true
  pub time_at : sort_number names word_time ≡ time_sort
  pub time_integer : is_integer_sort names word_time ≡ true

event-ok : (names : Names) (role : Role) (sorts : List (List ℕ)) → is_role event_role role ≡ true → sorts_ok names role sorts ≡ true → (is_ranged names word_time && list_all (argument_ok names event_role) sorts) ≡ true
event-ok names constant_role sorts is ok = absurd (true≢false (sym is))
event-ok names event_role sorts is ok = ok
event-ok names fluent_role sorts is ok = absurd (true≢false (sym is))
event-ok names predicate_role sorts is ok = absurd (true≢false (sym is))

fluent-ok : (names : Names) (role : Role) (sorts : List (List ℕ)) → is_role fluent_role role ≡ true → sorts_ok names role sorts ≡ true → (is_ranged names word_time && list_all (argument_ok names fluent_role) sorts) ≡ true
fluent-ok names constant_role sorts is ok = absurd (true≢false (sym is))
fluent-ok names event_role sorts is ok = absurd (true≢false (sym is))
fluent-ok names fluent_role sorts is ok = ok
fluent-ok names predicate_role sorts is ok = absurd (true≢false (sym is))

predicate-ok : (names : Names) (role : Role) (sorts : List (List ℕ)) → is_role predicate_role role ≡ true → sorts_ok names role sorts ≡ true → list_all (argument_ok names predicate_role) sorts ≡ true
predicate-ok names constant_role sorts is ok = absurd (true≢false (sym is))
predicate-ok names event_role sorts is ok = absurd (true≢false (sym is))
predicate-ok names fluent_role sorts is ok = absurd (true≢false (sym is))
predicate-ok names predicate_role sorts is ok = ok

constant-ok : (names : Names) (role : Role) (sorts : List (List ℕ)) → is_role constant_role role ≡ true → sorts_ok names role sorts ≡ true → only_ok names sorts ≡ true
constant-ok names constant_role sorts is ok = ok
constant-ok names event_role sorts is ok = absurd (true≢false (sym is))
constant-ok names fluent_role sorts is ok = absurd (true≢false (sym is))
constant-ok names predicate_role sorts is ok = absurd (true≢false (sym is))

event-inertial : (role : Role) → is_role event_role role ≡ true → is_role role fluent_role ≡ false
event-inertial constant_role is = refl
event-inertial event_role is = refl
event-inertial fluent_role is = absurd (true≢false (sym is))
event-inertial predicate_role is = refl

predicate-inertial : (role : Role) → is_role predicate_role role ≡ true → is_role role fluent_role ≡ false
predicate-inertial constant_role is = refl
predicate-inertial event_role is = refl
predicate-inertial fluent_role is = absurd (true≢false (sym is))
predicate-inertial predicate_role is = refl

-- a test that each item of a role passes
role-by : (b : Bool) (p : SymbolEntry → Bool) (e : SymbolEntry) (es : List SymbolEntry) → (b ≡ true → p e ≡ true) → list_all p es ≡ true → list_all p (cond b (e ∷ es) es) ≡ true
role-by true p e es here rest = and-true (p e) (list_all p es) (here refl) rest
role-by false p e es here rest = rest

role-tests : (names : Names) (r : Role) (p : SymbolEntry → Bool) → ((e : SymbolEntry) → is_role r e.role ≡ true → symbol_ok names e ≡ true → p e ≡ true) → (es : List SymbolEntry) → list_all (symbol_ok names) es ≡ true → list_all p (symbols_of r es) ≡ true
role-tests names r p each [] ok = refl
role-tests names r p each (e ∷ es) ok =
    role-by (is_role r e.role) p e (symbols_of r es) (λ is. each e is (and-first (symbol_ok names e) (list_all (symbol_ok names) es) ok)) (role-tests names r p each es (and-last (symbol_ok names e) (list_all (symbol_ok names) es) ok))

only-by : (names : Names) (P : ℕ → Type 0) (sorts : List (List ℕ)) → only_ok names sorts ≡ true → ((w : List ℕ) → is_known names w ≡ true → is_plain_sort names w ≡ true → P (sort_number names w)) → P (only_number names sorts)
only-by names P [] ok each = absurd (true≢false (sym ok))
only-by names P (s ∷ []) ok each = each s (and-first (is_known names s) (is_plain_sort names s) ok) (and-last (is_known names s) (is_plain_sort names s) ok)
only-by names P (s ∷ (t ∷ ss)) ok each = absurd (true≢false (sym ok))

has-by : (o : Option RangeEntry) → is_some o ≡ true → has_range (option_map ends_of o) ≡ true
has-by None h = absurd (true≢false (sym h))
has-by (Some r) h = refl

all-of : (b : Bool) (xs : List SymbolEntry) → 0 < length xs → list_all (λ x. b) xs ≡ true → b ≡ true
all-of b [] some h = absurd (omega (arith, some))
all-of b (x ∷ xs) some h = and-first b (list_all (λ y. b) xs) h

module _ (names : Names) (are : AreSorts names) (declared : List SymbolEntry) (symbols : AreSymbols names declared) where
  events-are : symbols_of event_role names.symbols ≡ symbols_of event_role declared
  events-are = ap (symbols_of event_role) symbols.symbols_are

  fluents-are : symbols_of fluent_role names.symbols ≡ symbols_of fluent_role declared
  fluents-are = ap (symbols_of fluent_role) symbols.symbols_are

  constants-are : symbols_of constant_role names.symbols ≡ symbols_of constant_role declared
  constants-are = ap (symbols_of constant_role) symbols.symbols_are

  pub predicates-are : symbols_of predicate_role names.symbols ≡ built_in_symbols ++ symbols_of predicate_role declared
  predicates-are = ap (symbols_of predicate_role) symbols.symbols_are

  each-argument : (p : List ℕ → Bool) (P : ℕ → Type 0) (es : List SymbolEntry) → list_all (λ e. list_all p e.sorts) es ≡ true → ((w : List ℕ) → p w ≡ true → P (sort_number names w)) → EachArgument (map (symbol_row names) es) P
  each-argument p P es ok each k row at i s is =
      let m = made-at (symbol_row names) es k row at in
      let n = made-at (sort_number names) m.item.sorts i s (ap (λ r. slice_get r.sorts i) (sym m.is) ∙ is) in
      subst P (sym n.is) (each n.item (all-at p m.item.sorts i n.item (all-at (λ e. list_all p e.sorts) es k m.item ok m.at) n.at))

  pub event-tests : list_all (λ e. list_all (argument_ok names event_role) e.sorts) (symbols_of event_role names.symbols) ≡ true
  event-tests = ap (list_all (λ e. list_all (argument_ok names event_role) e.sorts)) events-are
      ∙ role-tests names event_role (λ e. list_all (argument_ok names event_role) e.sorts) (λ e is ok. and-last (is_ranged names word_time) (list_all (argument_ok names event_role) e.sorts) (event-ok names e.role e.sorts is ok)) declared symbols.ok

  pub fluent-tests : list_all (λ e. list_all (argument_ok names fluent_role) e.sorts) (symbols_of fluent_role names.symbols) ≡ true
  fluent-tests = ap (list_all (λ e. list_all (argument_ok names fluent_role) e.sorts)) fluents-are
      ∙ role-tests names fluent_role (λ e. list_all (argument_ok names fluent_role) e.sorts) (λ e is ok. and-last (is_ranged names word_time) (list_all (argument_ok names fluent_role) e.sorts) (fluent-ok names e.role e.sorts is ok)) declared symbols.ok

  predicate-tests : list_all (λ e. list_all (argument_ok names predicate_role) e.sorts) (symbols_of predicate_role declared) ≡ true
  predicate-tests = role-tests names predicate_role (λ e. list_all (argument_ok names predicate_role) e.sorts) (λ e is ok. predicate-ok names e.role e.sorts is ok) declared symbols.ok

  pub constant-tests : list_all (λ e. only_ok names e.sorts) (symbols_of constant_role names.symbols) ≡ true
  constant-tests = ap (list_all (λ e. only_ok names e.sorts)) constants-are ∙ role-tests names constant_role (λ e. only_ok names e.sorts) (λ e is ok. constant-ok names e.role e.sorts is ok) declared symbols.ok

  -- ---- an argument sort

  pub argument-known : (r : Role) (w : List ℕ) → argument_ok names r w ≡ true → is_known names w ≡ true
  argument-known r w ok = and-first (is_known names w) (is_ranged names w && not (refuses_reified r && is_reified_sort w)) ok

  argument-ranged : (r : Role) (w : List ℕ) → argument_ok names r w ≡ true → is_ranged names w ≡ true
  argument-ranged r w ok = and-first (is_ranged names w) (not (refuses_reified r && is_reified_sort w)) (and-last (is_known names w) (is_ranged names w && not (refuses_reified r && is_reified_sort w)) ok)

  argument-unreified : (r : Role) (w : List ℕ) → argument_ok names r w ≡ true → (refuses_reified r && is_reified_sort w) ≡ false
  argument-unreified r w ok = not-true (refuses_reified r && is_reified_sort w) (and-last (is_ranged names w) (not (refuses_reified r && is_reified_sort w)) (and-last (is_known names w) (is_ranged names w && not (refuses_reified r && is_reified_sort w)) ok))

  ranged : (w : List ℕ) → is_known names w ≡ true → is_ranged names w ≡ true → IsRanged (signature_of names) (sort_number names w)
  ranged w known is integer =
      let whole : is_integer_sort names w ≡ true = sym (integer-number names are w known) ∙ integer in
      let among : is_among w (map range_sort names.ranges) ≡ true = ap (λ b. not b || is_among w (map range_sort names.ranges)) (sym whole) ∙ is in
      ap has_range (range-number names are w known) ∙ has-by (range_named names w) (named-among range_sort names.ranges w ∙ among)

  -- ---- the fields

  pub known-events : EachArgument (signature_of names).events (λ s. s < length (signature_of names).sorts)
  known-events = each-argument (argument_ok names event_role) (λ s. s < length (signature_of names).sorts) (symbols_of event_role names.symbols) event-tests (λ w ok. number-within names are w (argument-known event_role w ok))

  pub known-fluents : EachArgument (signature_of names).fluents (λ s. s < length (signature_of names).sorts)
  known-fluents = each-argument (argument_ok names fluent_role) (λ s. s < length (signature_of names).sorts) (symbols_of fluent_role names.symbols) fluent-tests (λ w ok. number-within names are w (argument-known fluent_role w ok))

  all-known : (r : Role) (es : List SymbolEntry) → list_all (λ e. list_all (argument_ok names r) e.sorts) es ≡ true → list_all (λ e. list_all (is_known names) e.sorts) es ≡ true
  all-known r [] ok = refl
  all-known r (e ∷ es) ok =
      and-true (list_all (is_known names) e.sorts) (list_all (λ f. list_all (is_known names) f.sorts) es) (each e.sorts (and-first (list_all (argument_ok names r) e.sorts) (list_all (λ f. list_all (argument_ok names r) f.sorts) es) ok))
      (all-known r es (and-last (list_all (argument_ok names r) e.sorts) (list_all (λ f. list_all (argument_ok names r) f.sorts) es) ok))
    where
      each : (ws : List (List ℕ)) → list_all (argument_ok names r) ws ≡ true → list_all (is_known names) ws ≡ true
      each [] h = refl
      each (w ∷ ws) h = and-true (is_known names w) (list_all (is_known names) ws) (argument-known r w (and-first (argument_ok names r w) (list_all (argument_ok names r) ws) h)) (each ws (and-last (argument_ok names r w) (list_all (argument_ok names r) ws) h))

  pub predicates-known : list_all (λ e. list_all (is_known names) e.sorts) (symbols_of predicate_role names.symbols) ≡ true
  predicates-known = ap (list_all (λ e. list_all (is_known names) e.sorts)) predicates-are
      ∙ all-append (λ e. list_all (is_known names) e.sorts) built_in_symbols (symbols_of predicate_role declared) symbols.built_in_known (all-known predicate_role (symbols_of predicate_role declared) predicate-tests)

  pub known-predicates : EachArgument (signature_of names).predicates (λ s. s < length (signature_of names).sorts)
  known-predicates = each-argument (is_known names) (λ s. s < length (signature_of names).sorts) (symbols_of predicate_role names.symbols) predicates-known (λ w known. number-within names are w known)

  each-constant : (P : ℕ → Type 0) → ((w : List ℕ) → is_known names w ≡ true → is_plain_sort names w ≡ true → P (sort_number names w)) → EachConstant (signature_of names) (λ row. P row.sort)
  each-constant P each c row at =
      let m = made-at (constant_row names) (symbols_of constant_role names.symbols) c row at in
      subst (λ (r : ConstantRow). P r.sort) (sym m.is) (only-by names P m.item.sorts (all-at (λ e. only_ok names e.sorts) (symbols_of constant_role names.symbols) c m.item constant-tests m.at) each)

  pub known-constants : EachConstant (signature_of names) (λ row. row.sort < length (signature_of names).sorts)
  known-constants = each-constant (λ s. s < length (signature_of names).sorts) (λ w known plain. number-within names are w known)

  pub plain-constants : EachConstant (signature_of names) (λ row. valid.is_plain_sort (signature_of names) row.sort ≡ true)
  plain-constants = each-constant (λ s. valid.is_plain_sort (signature_of names) s ≡ true) (λ w known plain. plain-number names are w known ∙ plain)

  pub unreified-events : EachArgument (signature_of names).events (λ s. valid.is_reified_sort (signature_of names) s ≡ false)
  unreified-events = each-argument (argument_ok names event_role) (λ s. valid.is_reified_sort (signature_of names) s ≡ false) (symbols_of event_role names.symbols) event-tests
      (λ w ok. reified-number names are w (argument-known event_role w ok) ∙ argument-unreified event_role w ok)

  pub unreified-fluents : EachArgument (signature_of names).fluents (λ s. valid.is_reified_sort (signature_of names) s ≡ false)
  unreified-fluents = each-argument (argument_ok names fluent_role) (λ s. valid.is_reified_sort (signature_of names) s ≡ false) (symbols_of fluent_role names.symbols) fluent-tests
      (λ w ok. reified-number names are w (argument-known fluent_role w ok) ∙ argument-unreified fluent_role w ok)

  pub event-ranges : EachArgument (signature_of names).events (IsRanged (signature_of names))
  event-ranges = each-argument (argument_ok names event_role) (IsRanged (signature_of names)) (symbols_of event_role names.symbols) event-tests (λ w ok. ranged w (argument-known event_role w ok) (argument-ranged event_role w ok))

  pub fluent-ranges : EachArgument (signature_of names).fluents (IsRanged (signature_of names))
  fluent-ranges = each-argument (argument_ok names fluent_role) (IsRanged (signature_of names)) (symbols_of fluent_role names.symbols) fluent-tests (λ w ok. ranged w (argument-known fluent_role w ok) (argument-ranged fluent_role w ok))

  pub predicate-ranges : EachArgument (drop built_in (signature_of names).predicates) (IsRanged (signature_of names))
  predicate-ranges =
      let own = each-argument (argument_ok names predicate_role) (IsRanged (signature_of names)) (symbols_of predicate_role declared) predicate-tests (λ w ok. ranged w (argument-known predicate_role w ok) (argument-ranged predicate_role w ok)) in
      subst (λ es. EachArgument (drop built_in (map (symbol_row names) es)) (IsRanged (signature_of names))) (sym predicates-are) own

  inertial : (r : Role) (test : SymbolEntry → Bool) (es : List SymbolEntry) → list_all test es ≡ true → ((e : SymbolEntry) → test e ≡ true → is_role e.role fluent_role ≡ false) → EachSymbol (map (symbol_row names) es) (λ row. row.noninertial ≡ false)
  inertial r test es all none k row at =
      let m = made-at (symbol_row names) es k row at in
      ap (λ (q : SymbolRow). q.noninertial) m.is ∙ ap (λ b. b && is_noninertial names m.item.name) (none m.item (all-at test es k m.item all m.at))

  pub inertial-events : EachSymbol (signature_of names).events (λ row. row.noninertial ≡ false)
  inertial-events = inertial event_role (λ e. is_role event_role e.role) (symbols_of event_role names.symbols) (all-kept (λ (e : SymbolEntry). is_role event_role e.role) names.symbols) (λ e is. event-inertial e.role is)

  pub inertial-predicates : EachSymbol (signature_of names).predicates (λ row. row.noninertial ≡ false)
  inertial-predicates = inertial predicate_role (λ e. is_role predicate_role e.role) (symbols_of predicate_role names.symbols) (all-kept (λ (e : SymbolEntry). is_role predicate_role e.role) names.symbols) (λ e is. predicate-inertial e.role is)

  time-ranged : is_ranged names word_time ≡ true → has_range (range_of (signature_of names) time_sort) ≡ true
  time-ranged is =
      subst (λ s. has_range (range_of (signature_of names) s) ≡ true) symbols.time_at
      (ranged word_time symbols.time_known is (integer-number names are word_time symbols.time_known ∙ symbols.time_integer))

  time-by : (es fs : List SymbolEntry) → list_all (λ e. is_ranged names word_time) es ≡ true → list_all (λ e. is_ranged names word_time) fs ≡ true → 0 < length es + length fs → is_ranged names word_time ≡ true
  time-by [] fs p q some = all-of (is_ranged names word_time) fs (omega (arith, some)) q
  time-by (e ∷ es) fs p q some = all-of (is_ranged names word_time) (e ∷ es) (omega arith) p

  pub time-range : 0 < length ((signature_of names).events ++ (signature_of names).fluents) → has_range (range_of (signature_of names) time_sort) ≡ true
  time-range some =
      let sum = length-append (signature_of names).events (signature_of names).fluents in
      let events = length-map (symbols_of event_role names.symbols) (symbol_row names) in
      let fluents = length-map (symbols_of fluent_role names.symbols) (symbol_row names) in
      let event-times = ap (list_all (λ e. is_ranged names word_time)) events-are ∙ role-tests names event_role (λ e. is_ranged names word_time) (λ e is ok. and-first (is_ranged names word_time) (list_all (argument_ok names event_role) e.sorts) (event-ok names e.role e.sorts is ok)) declared symbols.ok in
      let fluent-times = ap (list_all (λ e. is_ranged names word_time)) fluents-are ∙ role-tests names fluent_role (λ e. is_ranged names word_time) (λ e is ok. and-first (is_ranged names word_time) (list_all (argument_ok names fluent_role) e.sorts) (fluent-ok names e.role e.sorts is ok)) declared symbols.ok in
      time-ranged (time-by (symbols_of event_role names.symbols) (symbols_of fluent_role names.symbols) event-times fluent-times (omega (arith, some, sum, events, fluents)))
