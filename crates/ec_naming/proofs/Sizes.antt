-- How large the clause list is.
use Rattle.std.proofs.Common.{◌≡◌, ℕ, zero, suc, ◌+◌, ◌*◌, ◌<◌, ◌≤◌, ◌==◌, Bool, true, false, not, List, [], ◌∷◌, ◌++◌, length, filter, get_or, refl, ap, ◌∙◌, arith, subst, if◌then◌else◌}
use Rattle.std.proofs.lemmas.Bool.Decides.{nat_tests}
use Rattle.std.proofs.lemmas.List.{length-append}
use Rattle.std.proofs.lemmas.List.FromFn.{length-range_with_len, get_or-range_with_len}
use Rattle.std.proofs.lemmas.List.Elements.{All-nil, All-cons, All-head, All-tail, Contains-append_left, Contains-append_right}
use Rattle.std.proofs.lemmas.List.Kept.{AllPairs-from_increasing, AllPairs-filter}
use Rattle.std.specs.Prelude.{nat_lt, All, AllPairs, Contains}
use Rattle.std.specs.List.{range_with_len}
use Rattle.std.specs.List.Sorted.{IsStrictlyIncreasing}
use Rattle.ec_folding.specs.Tree.{Tree, always, never, literal, all_of, any_of, Trees, no_trees, tree, as_trees, nodes, nodes_of}
use Rattle.ec_folding.specs.Definition.{Definition, scope_nodes}
use Rattle.ec_clause.specs.Literal.{Literal}
use Rattle.ec_naming.specs.Naming.{names_taken, names_taken_each, positive, names_of, and_clauses, or_clauses, naming, naming_each}
use Rattle.ec_naming.specs.Listing.{names_taken_asserting, names_taken_asserting_each, asserting, asserting_each, names_taken_defining, names_taken_defining_each, defining, defining_each, names_taken_whole, clauses_of, clause_list}
use Rattle.ec_naming.proofs.Adding.{length_and, length_or, length-tidied}

-- ---- names

mutual
  names_few : (t : Tree) → names_taken t ≤ nodes t
  names_few always = omega arith
  names_few never = omega arith
  names_few (literal a sign) = omega arith
  names_few (all_of ts) = omega (arith, names_few_each ts)
  names_few (any_of ts) = omega (arith, names_few_each ts)

  names_few_each : (ts : Trees) → names_taken_each ts ≤ nodes_of ts
  names_few_each no_trees = omega arith
  names_few_each (tree t ts) = omega (arith, names_few t, names_few_each ts)

mutual
  asserting_names_few : (t : Tree) → names_taken_asserting t ≤ nodes t
  asserting_names_few always = omega arith
  asserting_names_few never = omega arith
  asserting_names_few (literal a sign) = omega arith
  asserting_names_few (all_of ts) = omega (arith, asserting_names_few_each ts)
  asserting_names_few (any_of ts) = omega (arith, names_few_each ts)

  asserting_names_few_each : (ts : Trees) → names_taken_asserting_each ts ≤ nodes_of ts
  asserting_names_few_each no_trees = omega arith
  asserting_names_few_each (tree t ts) = omega (arith, asserting_names_few t, asserting_names_few_each ts)

defining_names_few : (t : Tree) → names_taken_defining t ≤ nodes t
defining_names_few always = omega arith
defining_names_few never = omega arith
defining_names_few (literal a sign) = omega arith
defining_names_few (all_of ts) = omega (arith, names_few_each ts)
defining_names_few (any_of ts) = omega (arith, names_few_each ts)

defining_names_few_each : (ds : List Definition) → names_taken_defining_each ds ≤ scope_nodes ds
defining_names_few_each [] = omega arith
defining_names_few_each (d ∷ ds) = omega (arith, defining_names_few d.scope, defining_names_few_each ds)

-- there are no more names than nodes
pub whole_names_few : (ss : List Tree) (ds : List Definition) → names_taken_whole ss ds ≤ nodes_of (as_trees ss) + scope_nodes ds
whole_names_few ss ds = omega (arith, asserting_names_few_each (as_trees ss), defining_names_few_each ds)

-- ---- clauses

module _ (at : ℕ → ℕ) where
  mutual
    naming_few : (n : ℕ) (t : Tree) → length (naming at n t) + 1 ≤ 2 * nodes t
    naming_few n always = omega arith
    naming_few n never = omega arith
    naming_few n (literal a sign) = omega arith
    naming_few n (all_of ts) = omega (arith, naming_few_each n ts, length-append (naming_each at n ts) (and_clauses (positive (n + names_taken_each ts)) (names_of at n ts)), length_and (positive (n + names_taken_each ts)) (names_of at n ts))
    naming_few n (any_of ts) = omega (arith, naming_few_each n ts, length-append (naming_each at n ts) (or_clauses (positive (n + names_taken_each ts)) (names_of at n ts)), length_or (positive (n + names_taken_each ts)) (names_of at n ts))

    naming_few_each : (n : ℕ) (ts : Trees) → length (naming_each at n ts) + length (names_of at n ts) ≤ 2 * nodes_of ts
    naming_few_each n no_trees = omega arith
    naming_few_each n (tree t ts) = omega (arith, naming_few n t, naming_few_each (n + names_taken t) ts, length-append (naming at n t) (naming_each at (n + names_taken t) ts))

  mutual
    asserting_few : (n : ℕ) (t : Tree) → length (asserting at n t) ≤ 2 * nodes t
    asserting_few n always = omega arith
    asserting_few n never = omega arith
    asserting_few n (literal a sign) = omega arith
    asserting_few n (all_of ts) = omega (arith, asserting_few_each n ts)
    asserting_few n (any_of ts) = omega (arith, naming_few_each n ts, length-append (naming_each at n ts) (names_of at n ts ∷ []))

    asserting_few_each : (n : ℕ) (ts : Trees) → length (asserting_each at n ts) ≤ 2 * nodes_of ts
    asserting_few_each n no_trees = omega arith
    asserting_few_each n (tree t ts) = omega (arith, asserting_few n t, asserting_few_each (n + names_taken_asserting t) ts, length-append (asserting at n t) (asserting_each at (n + names_taken_asserting t) ts))

  defining_few : (n : ℕ) (l : Literal) (t : Tree) → length (defining at n l t) ≤ 2 * nodes t
  defining_few n l always = omega arith
  defining_few n l never = omega arith
  defining_few n l (literal a sign) = omega arith
  defining_few n l (all_of ts) = omega (arith, naming_few_each n ts, length-append (naming_each at n ts) (and_clauses l (names_of at n ts)), length_and l (names_of at n ts))
  defining_few n l (any_of ts) = omega (arith, naming_few_each n ts, length-append (naming_each at n ts) (or_clauses l (names_of at n ts)), length_or l (names_of at n ts))

  defining_few_each : (n : ℕ) (ds : List Definition) → length (defining_each at n ds) ≤ 2 * scope_nodes ds
  defining_few_each n [] = omega arith
  defining_few_each n (d ∷ ds) = omega (arith, defining_few n (positive (at d.atom)) d.scope, defining_few_each (n + names_taken_defining d.scope) ds, length-append (defining at n (positive (at d.atom)) d.scope) (defining_each at (n + names_taken_defining d.scope) ds))

  -- there are at most two clauses a node
  pub clauses_few : (n : ℕ) (ss : List Tree) (ds : List Definition) → length (clauses_of at n ss ds) ≤ 2 * (nodes_of (as_trees ss) + scope_nodes ds)
  clauses_few n ss ds = omega (arith, asserting_few_each n (as_trees ss), defining_few_each (n + names_taken_asserting_each (as_trees ss)) ds, length-append (asserting_each at n (as_trees ss)) (defining_each at (n + names_taken_asserting_each (as_trees ss)) ds))

  pub list_few : (n : ℕ) (ss : List Tree) (ds : List Definition) → length (clause_list at n ss ds) ≤ 2 * (nodes_of (as_trees ss) + scope_nodes ds)
  list_few n ss ds = omega (arith, length-tidied (clauses_of at n ss ds), clauses_few n ss ds)

-- ---- the atoms that have a variable

without_absent : (xs : List ℕ) (y : ℕ) → All (λ x. y < x) xs → filter (λ x. not (x == y)) xs ≡ xs
without_absent [] y h = refl
without_absent (x ∷ xs) y h =
    let lt : y < x = All-head (λ x. y < x) x xs h in
    let e : (x == y) ≡ false = grind (arith, nat_tests) in
    rw e (ap (λ (zs : List ℕ). x ∷ zs) (without_absent xs y (All-tail (λ x. y < x) x xs h)))

later : (x : ℕ) (xs : List ℕ) → AllPairs (λ x y. x < y) (x ∷ xs) → All (λ y. x < y) xs
later x xs h = λ k d lt. h 0 (suc k) d (omega arith) (omega (arith, lt))

rest : (x : ℕ) (xs : List ℕ) → AllPairs (λ x y. x < y) (x ∷ xs) → AllPairs (λ x y. x < y) xs
rest x xs h = λ i j d lt within. h (suc i) (suc j) d (omega (arith, lt)) (omega (arith, within))

length-without : (xs : List ℕ) (y : ℕ) → AllPairs (λ x y. x < y) xs → length xs ≤ length (filter (λ x. not (x == y)) xs) + 1
length-without [] y h = omega arith
length-without (x ∷ xs) y h = cases (x == y) refl (length-without xs y (rest x xs h))
  where
    cases : (b : Bool) → (x == y) ≡ b → length xs ≤ length (filter (λ x. not (x == y)) xs) + 1 → length (x ∷ xs) ≤ length (if not b then x ∷ filter (λ x. not (x == y)) xs else filter (λ x. not (x == y)) xs) + 1
    cases true e ih =
        let same : x ≡ y = grind (arith, nat_tests) in
        let all_of_them = without_absent xs y (subst (λ (z : ℕ). All (λ w. z < w) xs) same (later x xs h)) in
        omega (arith, ap length all_of_them)
    cases false e ih = omega (arith, ih)

contains-rest : (ys : List ℕ) (y x : ℕ) → Contains (y ∷ ys) x → (x == y) ≡ false → Contains ys x
contains-rest ys y x (zero, lt, e) apart = absurd (let g : (x == y) ≡ true = grind (arith, nat_tests) in cc)
contains-rest ys y x (suc k, lt, e) apart = (k, omega (arith, lt), e)

covered-rest : (xs ys : List ℕ) (y : ℕ) → All (Contains (y ∷ ys)) xs → All (Contains ys) (filter (λ x. not (x == y)) xs)
covered-rest [] ys y h = All-nil (Contains ys)
covered-rest (x ∷ xs) ys y h = cases (x == y) refl (covered-rest xs ys y (All-tail (Contains (y ∷ ys)) x xs h))
  where
    cases : (b : Bool) → (x == y) ≡ b → All (Contains ys) (filter (λ x. not (x == y)) xs) → All (Contains ys) (if not b then x ∷ filter (λ x. not (x == y)) xs else filter (λ x. not (x == y)) xs)
    cases true e ih = ih
    cases false e ih = All-cons (Contains ys) x (filter (λ x. not (x == y)) xs) (contains-rest ys y x (All-head (Contains (y ∷ ys)) x xs h) e) ih

-- numbers that rise and are all in a list are no more than its entries
covered : (xs ys : List ℕ) → AllPairs (λ x y. x < y) xs → All (Contains ys) xs → length xs ≤ length ys
covered [] [] h all = omega arith
covered (x ∷ xs) [] h all = absurd (omega (arith, (All-head (Contains []) x xs all).1))
covered xs (y ∷ ys) h all =
    let fewer = covered (filter (λ x. not (x == y)) xs) ys (AllPairs-filter (λ x y. x < y) (λ x. not (x == y)) xs h) (covered-rest xs ys y all) in
    omega (arith, fewer, length-without xs y h)

contains-range : (n x : ℕ) → x < n → Contains (range_with_len 0 n) x
contains-range n x h = (x, omega (arith, h, length-range_with_len 0 n), get_or-range_with_len 0 n x x h ∙ omega arith)

-- the atoms that have a variable are the visible ones and at most one more for each definition
pub atoms_few : (vs : List ℕ) (visible : ℕ) (others : List ℕ) → IsStrictlyIncreasing vs → All (λ a. visible ≤ a → Contains others a) vs → length vs ≤ visible + length others
atoms_few vs visible others rises h =
    let fewer = covered vs (range_with_len 0 visible ++ others) (AllPairs-from_increasing vs rises) (λ k d lt. one (get_or vs k d) (h k d lt)) in
    omega (arith, fewer, length-append (range_with_len 0 visible) others, length-range_with_len 0 visible)
  where
    by_test : (x : ℕ) (b : Bool) → nat_lt x visible ≡ b → (visible ≤ x → Contains others x) → Contains (range_with_len 0 visible ++ others) x
    by_test x true e g = Contains-append_left (range_with_len 0 visible) others x (contains-range visible x (grind (arith, nat_tests)))
    by_test x false e g = Contains-append_right (range_with_len 0 visible) others x (g (grind (arith, nat_tests)))

    one : (x : ℕ) → (visible ≤ x → Contains others x) → Contains (range_with_len 0 visible ++ others) x
    one x g = by_test x (nat_lt x visible) refl g

pub some_nodes : (t : Tree) → 1 ≤ nodes t
some_nodes always = omega arith
some_nodes never = omega arith
some_nodes (literal a sign) = omega arith
some_nodes (all_of ts) = omega arith
some_nodes (any_of ts) = omega arith

pub definitions_few : (ds : List Definition) → length ds ≤ scope_nodes ds
definitions_few [] = omega arith
definitions_few (d ∷ ds) = omega (arith, some_nodes d.scope, definitions_few ds)
