-- A test of what a file can declare, for signatures that are written out.
use Rattle.std.proofs.Common.{◌≡◌, ◌≢◌, ℕ, zero, suc, ◌+◌, ◌<◌, ◌^◌, ◌==◌, nat_lt, Bool, true, false, not, ◌&&◌, ◌||◌, List, [], ◌∷◌, length, drop, Option, Some, None, slice_get, refl, arith, AllPairs, rules}
use Rattle.std.specs.List.{AllByRecursion}
use Rattle.std.proofs.lemmas.Bool.Decides.{nat_tests}
use Rattle.std.proofs.lemmas.List.Elements.{All-from_recursion}
use Rattle.std.proofs.lemmas.List.Kept.{AllPairs-cons}
use Rattle.ec_logic.proofs.Tests.{and_parts, not_true, same_itself}
use Rattle.ec_logic.specs.Signature.{Signature, SortRow, ConstantRow, SymbolRow, integer_sort, time_sort, event_sort, fluent_sort, built_in, parent_of, has_parent, is_within}
use Rattle.ec_logic.specs.Valid.{IsSignature, BeginsBuiltIn, EachSymbol, EachArgument, IsRanged, IsListable, is_plain_sort, is_integer_sort, is_reified_sort, kind_is_integer, kind_is_event, kind_is_fluent, range_of, is_range, has_range, is_upper_word, names_of}

-- ---- tests of each row

-- whether each item passes a test, with its number counted from this one
abbrev pub each : {X : Type 0} → (ℕ → X → Bool) → ℕ → List X → Bool
each test k [] = true
each test k (x ∷ xs) = test k x && each test (suc k) xs

each_at : {X : Type 0} (test : ℕ → X → Bool) (from : ℕ) (xs : List X) → each test from xs ≡ true → (k j : ℕ) (x : X) → slice_get xs k ≡ Some x → j ≡ from + k → test j x ≡ true
each_at test from [] h k j x e i = cc
each_at test from (y ∷ xs) h zero j x e i =
    let both = and_parts (test from y) (each test (suc from) xs) h in
    let item : y ≡ x = cc in
    let number : from ≡ j = omega (arith, i) in
    rw (← item, ← number) both.0
each_at test from (y ∷ xs) h (suc k) j x e i =
    let both = and_parts (test from y) (each test (suc from) xs) h in
    each_at test (suc from) xs both.1 k j x e (omega (arith, i))

-- the item with a number passes the test
pub passes : {X : Type 0} (test : ℕ → X → Bool) (xs : List X) → each test 0 xs ≡ true → (k : ℕ) (x : X) → slice_get xs k ≡ Some x → test k x ≡ true
passes test xs h k x e = each_at test 0 xs h k k x e (omega arith)

-- whether each argument sort of each symbol passes a test
abbrev pub arguments : (ℕ → Bool) → List SymbolRow → Bool
arguments test rows = each (λ k (row : SymbolRow). each (λ i s. test s) 0 row.sorts) 0 rows

arguments_pass : (test : ℕ → Bool) (rows : List SymbolRow) → arguments test rows ≡ true → EachArgument rows (λ s. test s ≡ true)
arguments_pass test rows h k row e i s f = passes (λ i s. test s) row.sorts (passes (λ k (row : SymbolRow). each (λ i s. test s) 0 row.sorts) rows h k row e) i s f

abbrev pub if_there : (ℕ → Bool) → Option ℕ → Bool
if_there test None = true
if_there test (Some k) = test k

abbrev pub same_truth : Bool → Bool → Bool
same_truth true b = b
same_truth false b = not b

same_truths : (a b : Bool) → same_truth a b ≡ true → a ≡ b
same_truths true true h = refl
same_truths true false h = cc
same_truths false true h = cc
same_truths false false h = refl

below : (a b : ℕ) → nat_lt a b ≡ true → a < b
below a b h = grind (arith, nat_tests)

-- ---- names

abbrev pub same_name : List ℕ → List ℕ → Bool
same_name [] [] = true
same_name [] (b ∷ bs) = false
same_name (a ∷ as_) [] = false
same_name (a ∷ as_) (b ∷ bs) = (a == b) && same_name as_ bs

same_name_itself : (a : List ℕ) → same_name a a ≡ true
same_name_itself [] = refl
same_name_itself (a ∷ as_) = rw (same_itself a, same_name_itself as_) refl

abbrev pub distinct : List (List ℕ) → Bool
distinct [] = true
distinct (n ∷ ns) = each (λ k m. not (same_name n m)) 0 ns && distinct ns

differ : (a b : List ℕ) → not (same_name a b) ≡ true → a ≢ b
differ a b h e = let f : same_name a b ≡ false = not_true (same_name a b) h in let t : same_name a b ≡ true = rw (← e) (same_name_itself a) in cc

every : {X : Type 0} (test : X → Bool) (P : X → Type 0) (k : ℕ) (xs : List X) → ((x : X) → test x ≡ true → P x) → each (λ i x. test x) k xs ≡ true → AllByRecursion P xs
every test P k [] is h = tt
every test P k (x ∷ xs) is h =
    let both = and_parts (test x) (each (λ i x. test x) (suc k) xs) h in
    (is x both.0, every test P (suc k) xs is both.1)

distinct_names : (ns : List (List ℕ)) → distinct ns ≡ true → AllPairs (λ a b. a ≢ b) ns
distinct_names [] h = search rules
distinct_names (n ∷ ns) h =
    let both = and_parts (each (λ k m. not (same_name n m)) 0 ns) (distinct ns) h in
    AllPairs-cons (λ a b. a ≢ b) n ns (All-from_recursion (λ m. n ≢ m) ns (every (λ m. not (same_name n m)) (λ m. n ≢ m) 0 ns (differ n) both.0)) (distinct_names ns both.1)

-- ---- the test

module _ (signature : Signature) where
  abbrev pub known : ℕ → Bool
  known s = nat_lt s (length signature.sorts)

  abbrev pub ranged : ℕ → Bool
  ranged s = not (is_integer_sort signature s) || has_range (range_of signature s)

  abbrev pub few : SymbolRow → Bool
  few row = nat_lt (length row.sorts) (2 ^ 31)

-- What a signature that is written out passes by computing alone.
pub record Passes (signature : Signature) : Type 0 where
  pub parents : each (λ s (row : SortRow). if_there (known signature) row.parent) 0 signature.sorts ≡ true
  pub constants : each (λ k (row : ConstantRow). known signature row.sort) 0 signature.constants ≡ true
  pub events : arguments (known signature) signature.events ≡ true
  pub fluents : arguments (known signature) signature.fluents ≡ true
  pub predicates : arguments (known signature) signature.predicates ≡ true
  pub no_parent_cycle : each (λ s (row : SortRow). not (has_parent (λ parent. is_within signature parent s) row.parent)) 0 signature.sorts ≡ true
  pub integer_kinds : each (λ s (row : SortRow). same_truth (kind_is_integer row.kind) ((s == integer_sort) || has_parent (is_integer_sort signature) row.parent)) 0 signature.sorts ≡ true
  pub event_kinds : each (λ s (row : SortRow). same_truth (kind_is_event row.kind) (s == event_sort)) 0 signature.sorts ≡ true
  pub fluent_kinds : each (λ s (row : SortRow). same_truth (kind_is_fluent row.kind) (s == fluent_sort)) 0 signature.sorts ≡ true
  pub reified_no_parent : each (λ s (row : SortRow). not (has_parent (λ parent. (parent == event_sort) || (parent == fluent_sort)) row.parent)) 0 signature.sorts ≡ true
  pub integer_ranges : each (λ s (row : SortRow). not (has_range row.range) || kind_is_integer row.kind) 0 signature.sorts ≡ true
  pub small_ranges : each (λ s (row : SortRow). is_range row.range) 0 signature.sorts ≡ true
  pub plain_constants : each (λ k (row : ConstantRow). is_plain_sort signature row.sort) 0 signature.constants ≡ true
  pub unreified_event_arguments : arguments (λ s. not (is_reified_sort signature s)) signature.events ≡ true
  pub unreified_fluent_arguments : arguments (λ s. not (is_reified_sort signature s)) signature.fluents ≡ true
  pub event_ranges : arguments (ranged signature) signature.events ≡ true
  pub fluent_ranges : arguments (ranged signature) signature.fluents ≡ true
  pub predicate_ranges : arguments (ranged signature) (drop built_in signature.predicates) ≡ true
  pub time_range : has_range (range_of signature time_sort) ≡ true
  pub inertial_events : each (λ k (row : SymbolRow). not row.noninertial) 0 signature.events ≡ true
  pub inertial_predicates : each (λ k (row : SymbolRow). not row.noninertial) 0 signature.predicates ≡ true
  pub upper_names : each (λ k name. is_upper_word name) 0 (names_of signature) ≡ true
  pub distinct_names : distinct (names_of signature) ≡ true
  pub few_sorts : nat_lt (length signature.sorts) (2 ^ 31) ≡ true
  pub few_constants : nat_lt (length signature.constants) (2 ^ 31) ≡ true
  pub few_events : nat_lt (length signature.events) (2 ^ 31) ≡ true
  pub few_fluents : nat_lt (length signature.fluents) (2 ^ 31) ≡ true
  pub few_predicates : nat_lt (length signature.predicates) (2 ^ 31) ≡ true
  pub event_sorts : each (λ k row. few signature row) 0 signature.events ≡ true
  pub fluent_sorts : each (λ k row. few signature row) 0 signature.fluents ≡ true
  pub predicate_sorts : each (λ k row. few signature row) 0 signature.predicates ≡ true

module _ (signature : Signature) (p : Passes signature) where
  parents_known : (s parent : ℕ) → parent_of signature s ≡ Some parent → parent < length signature.sorts
  parents_known s parent h = cases (slice_get signature.sorts s) refl
    where
      inside : (o : Option ℕ) → if_there (known signature) o ≡ true → o ≡ Some parent → parent < length signature.sorts
      inside None t e = cc
      inside (Some k) t e = let is : k ≡ parent = cc in below parent (length signature.sorts) (rw (← is) t)

      cases : (o : Option SortRow) → slice_get signature.sorts s ≡ o → parent < length signature.sorts
      cases None e = let none : None ≡ Some parent = rw e at h in cc
      cases (Some row) e = inside row.parent (passes (λ s (row : SortRow). if_there (known signature) row.parent) signature.sorts p.parents s row e) (rw e at h)

  arguments_known : (rows : List SymbolRow) → arguments (known signature) rows ≡ true → EachArgument rows (λ s. s < length signature.sorts)
  arguments_known rows h k row e i s f = below s (length signature.sorts) (arguments_pass (known signature) rows h k row e i s f)

  arguments_unreified : (rows : List SymbolRow) → arguments (λ s. not (is_reified_sort signature s)) rows ≡ true → EachArgument rows (λ s. is_reified_sort signature s ≡ false)
  arguments_unreified rows h k row e i s f = not_true (is_reified_sort signature s) (arguments_pass (λ s. not (is_reified_sort signature s)) rows h k row e i s f)

  arguments_ranged : (rows : List SymbolRow) → arguments (ranged signature) rows ≡ true → EachArgument rows (IsRanged signature)
  arguments_ranged rows h k row e i s f = λ is. either (is_integer_sort signature s) (has_range (range_of signature s)) (arguments_pass (ranged signature) rows h k row e i s f) is
    where
      either : (a b : Bool) → (not a || b) ≡ true → a ≡ true → b ≡ true
      either true b h e = h
      either false b h e = cc

  rows_few : (rows : List SymbolRow) → each (λ k row. few signature row) 0 rows ≡ true → EachSymbol rows (λ row. IsListable row.sorts)
  rows_few rows h k row e = below (length row.sorts) (2 ^ 31) (passes (λ k row. few signature row) rows h k row e)

  rows_inertial : (rows : List SymbolRow) → each (λ k (row : SymbolRow). not row.noninertial) 0 rows ≡ true → EachSymbol rows (λ row. row.noninertial ≡ false)
  rows_inertial rows h k row e = not_true row.noninertial (passes (λ k (row : SymbolRow). not row.noninertial) rows h k row e)

  implied : (a b : Bool) → (not a || b) ≡ true → a ≡ true → b ≡ true
  implied true b h e = h
  implied false b h e = cc

  pub signature_by_test : BeginsBuiltIn signature → IsSignature signature
  signature_by_test first = record {
    built_in_first = first;
    known_sorts = record {
      parents = parents_known;
      constants = λ c row e. below row.sort (length signature.sorts) (passes (λ k (row : ConstantRow). known signature row.sort) signature.constants p.constants c row e);
      events = arguments_known signature.events p.events;
      fluents = arguments_known signature.fluents p.fluents;
      predicates = arguments_known signature.predicates p.predicates;
    };
    no_parent_cycle = λ s row e. not_true (has_parent (λ parent. is_within signature parent s) row.parent) (passes (λ s (row : SortRow). not (has_parent (λ parent. is_within signature parent s) row.parent)) signature.sorts p.no_parent_cycle s row e);
    integer_kinds = λ s row e. same_truths (kind_is_integer row.kind) ((s == integer_sort) || has_parent (is_integer_sort signature) row.parent) (passes (λ s (row : SortRow). same_truth (kind_is_integer row.kind) ((s == integer_sort) || has_parent (is_integer_sort signature) row.parent)) signature.sorts p.integer_kinds s row e);
    event_kinds = λ s row e. same_truths (kind_is_event row.kind) (s == event_sort) (passes (λ s (row : SortRow). same_truth (kind_is_event row.kind) (s == event_sort)) signature.sorts p.event_kinds s row e);
    fluent_kinds = λ s row e. same_truths (kind_is_fluent row.kind) (s == fluent_sort) (passes (λ s (row : SortRow). same_truth (kind_is_fluent row.kind) (s == fluent_sort)) signature.sorts p.fluent_kinds s row e);
    reified_no_parent = λ s row e. not_true (has_parent (λ parent. (parent == event_sort) || (parent == fluent_sort)) row.parent) (passes (λ s (row : SortRow). not (has_parent (λ parent. (parent == event_sort) || (parent == fluent_sort)) row.parent)) signature.sorts p.reified_no_parent s row e);
    integer_ranges = λ s row e. implied (has_range row.range) (kind_is_integer row.kind) (passes (λ s (row : SortRow). not (has_range row.range) || kind_is_integer row.kind) signature.sorts p.integer_ranges s row e);
    small_ranges = λ s row e. passes (λ s (row : SortRow). is_range row.range) signature.sorts p.small_ranges s row e;
    plain_constants = λ c row e. passes (λ k (row : ConstantRow). is_plain_sort signature row.sort) signature.constants p.plain_constants c row e;
    unreified_event_arguments = arguments_unreified signature.events p.unreified_event_arguments;
    unreified_fluent_arguments = arguments_unreified signature.fluents p.unreified_fluent_arguments;
    event_ranges = arguments_ranged signature.events p.event_ranges;
    fluent_ranges = arguments_ranged signature.fluents p.fluent_ranges;
    predicate_ranges = arguments_ranged (drop built_in signature.predicates) p.predicate_ranges;
    time_range = λ some. p.time_range;
    inertial_events = rows_inertial signature.events p.inertial_events;
    inertial_predicates = rows_inertial signature.predicates p.inertial_predicates;
    upper_names = All-from_recursion (λ name. is_upper_word name ≡ true) (names_of signature) (every is_upper_word (λ name. is_upper_word name ≡ true) 0 (names_of signature) (λ name h. h) p.upper_names);
    distinct_names = distinct_names (names_of signature) p.distinct_names;
    listable = record {
      sorts = below (length signature.sorts) (2 ^ 31) p.few_sorts;
      constants = below (length signature.constants) (2 ^ 31) p.few_constants;
      events = below (length signature.events) (2 ^ 31) p.few_events;
      fluents = below (length signature.fluents) (2 ^ 31) p.few_fluents;
      predicates = below (length signature.predicates) (2 ^ 31) p.few_predicates;
      event_sorts = rows_few signature.events p.event_sorts;
      fluent_sorts = rows_few signature.fluents p.fluent_sorts;
      predicate_sorts = rows_few signature.predicates p.predicate_sorts;
    };
  }
