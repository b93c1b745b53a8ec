-- Clauses of a naming, as they are added.
use Rattle.std.proofs.Common.{◌≡◌, ℕ, ◌+◌, ◌<◌, ◌≤◌, Bool, true, false, not, List, [], ◌∷◌, ◌++◌, map, length, refl, sym, ap, ◌∙◌, arith, filter, if◌then◌else◌, append_assoc, suc, get_or, subst}
use Rattle.std.specs.Prelude.{All, Contains}
use Rattle.std.proofs.Math.ListN.{get_or-map}
use Rattle.std.proofs.lemmas.List.{length-append, length-map}
use Rattle.ec_folding.specs.Tree.{Tree, always, never, literal, all_of, any_of, Trees, no_trees, tree, as_trees, EachAtom, EachAtomOf}
use Rattle.ec_folding.specs.Definition.{Definition}
use Rattle.ec_clause.specs.Literal.{Literal, opposite}
use Rattle.ec_naming.specs.Naming.{names_taken, names_taken_each, positive, name_of, names_of, and_clauses, or_clauses, naming, naming_each}
use Rattle.ec_naming.specs.Listing.{names_taken_asserting, names_taken_asserting_each, asserting, asserting_each, names_taken_defining, names_taken_defining_each, defining, defining_each, clauses_of}
use Rattle.ec_naming.specs.Tidy.{distinct, has_opposites, tidied}
use Rattle.ec_naming.specs.Marks.{AreInRange}
use Rattle.ec_naming.specs.Variables.{variable_of}
use Rattle.ec_naming.proofs.Numbering.{variable_of-le, variable_of-contained}

pub tidied-append : (cs ds : List (List Literal)) → tidied (cs ++ ds) ≡ tidied cs ++ tidied ds
tidied-append [] ds = refl
tidied-append (c ∷ cs) ds = cases (has_opposites c) (tidied-append cs ds)
  where
    cases : (b : Bool) → tidied (cs ++ ds) ≡ tidied cs ++ tidied ds → map distinct (if not b then c ∷ filter (λ c. not (has_opposites c)) (cs ++ ds) else filter (λ c. not (has_opposites c)) (cs ++ ds)) ≡ map distinct (if not b then c ∷ filter (λ c. not (has_opposites c)) cs else filter (λ c. not (has_opposites c)) cs) ++ tidied ds
    cases true ih = ih
    cases false ih = ap (λ (xs : List (List Literal)). distinct c ∷ xs) ih

pub length-tidied : (cs : List (List Literal)) → length (tidied cs) ≤ length cs
length-tidied [] = omega arith
length-tidied (c ∷ cs) = cases (has_opposites c) (length-tidied cs)
  where
    cases : (b : Bool) → length (tidied cs) ≤ length cs → length (map distinct (if not b then c ∷ filter (λ c. not (has_opposites c)) cs else filter (λ c. not (has_opposites c)) cs)) ≤ length (c ∷ cs)
    cases true ih = omega (arith, ih)
    cases false ih = omega (arith, ih)

pub tidied_then : (old cs ds : List (List Literal)) → (old ++ tidied cs) ++ tidied ds ≡ old ++ tidied (cs ++ ds)
tidied_then old cs ds = append_assoc old (tidied cs) (tidied ds) ∙ ap (λ (xs : List (List Literal)). old ++ xs) (sym (tidied-append cs ds))

name_range : (vs : List ℕ) (v n : ℕ) (t : Tree) → length vs ≤ v → 1 ≤ n → n + names_taken t ≤ v + 1 → EachAtom (Contains vs) t → (1 ≤ (name_of (variable_of vs) n t).variable) × ((name_of (variable_of vs) n t).variable ≤ v)
name_range vs v n always few low high h = (omega arith, omega arith)
name_range vs v n never few low high h = (omega arith, omega arith)
name_range vs v n (literal a sign) few low high h = (variable_of-contained vs a h, omega (arith, variable_of-le vs a, few))
name_range vs v n (all_of ts) few low high h = (omega arith, omega arith)
name_range vs v n (any_of ts) few low high h = (omega arith, omega arith)

pub names_range : (vs : List ℕ) (v n : ℕ) (ts : Trees) → length vs ≤ v → 1 ≤ n → n + names_taken_each ts ≤ v + 1 → EachAtomOf (Contains vs) ts → AreInRange v (names_of (variable_of vs) n ts)
names_range vs v n no_trees few low high h = tt
names_range vs v n (tree t ts) few low high h =
    let here = name_range vs v n t few low (omega (arith, high)) h.0 in
    (here.0, here.1, names_range vs v (n + names_taken t) ts few (omega arith) (omega (arith, high)) h.1)

range_map : (n : ℕ) (cs : List Literal) → AreInRange n cs → AreInRange n (map opposite cs)
range_map n [] h = tt
range_map n (c ∷ cs) h = (h.0, h.1, range_map n cs h.2)

pub range_long : (v n : ℕ) (l : Literal) (cs raw : List Literal) → v ≡ n → raw ≡ l ∷ map opposite cs → AreInRange n (l ∷ []) → AreInRange n cs → AreInRange v raw
range_long v n l cs raw e f h g = rw (e, f) (h.0, h.1, range_map n cs g)

pub range_or : (v n : ℕ) (l : Literal) (cs raw : List Literal) → v ≡ n → raw ≡ opposite l ∷ cs → AreInRange n (l ∷ []) → AreInRange n cs → AreInRange v raw
range_or v n l cs raw e f h g = rw (e, f) (h.0, h.1, g)

pub added_few : (old new cs : List (List Literal)) → new ≡ old ++ tidied cs → length new ≤ length old + length cs
added_few old new cs e = omega (arith, ap length e, length-append old (tidied cs), length-tidied cs)

length-map_pairs : (l : Literal) (cs : List Literal) → length (map (λ c. opposite l ∷ c ∷ []) cs) ≡ length cs
length-map_pairs l [] = refl
length-map_pairs l (c ∷ cs) = ap suc (length-map_pairs l cs)

length-map_ups : (l : Literal) (cs : List Literal) → length (map (λ c. l ∷ opposite c ∷ []) cs) ≡ length cs
length-map_ups l [] = refl
length-map_ups l (c ∷ cs) = ap suc (length-map_ups l cs)

pub length_and : (l : Literal) (cs : List Literal) → length (and_clauses l cs) ≡ length cs + 1
length_and l cs = length-append (map (λ c. opposite l ∷ c ∷ []) cs) ((l ∷ map opposite cs) ∷ []) ∙ ap (λ k. k + 1) (length-map_pairs l cs)

pub length_or : (l : Literal) (cs : List Literal) → length (or_clauses l cs) ≡ length cs + 1
length_or l cs = let e = length-map_ups l cs in omega (arith, e)

-- the room that a gate needs after its parts
pub few_and : (at : ℕ → ℕ) (n bound : ℕ) (ts : Trees) (old new : List (List Literal)) (lits : List Literal) → new ≡ old ++ tidied (naming_each at n ts) → lits ≡ names_of at n ts → length old + length (naming at n (all_of ts)) < bound → length new + length lits < bound
few_and at n bound ts old new lits e f h = omega (arith, added_few old new (naming_each at n ts) e, ap length f, length-append (naming_each at n ts) (and_clauses (positive (n + names_taken_each ts)) (names_of at n ts)), length_and (positive (n + names_taken_each ts)) (names_of at n ts), h)

pub few_or : (at : ℕ → ℕ) (n bound : ℕ) (ts : Trees) (old new : List (List Literal)) (lits : List Literal) → new ≡ old ++ tidied (naming_each at n ts) → lits ≡ names_of at n ts → length old + length (naming at n (any_of ts)) < bound → length new + length lits < bound
few_or at n bound ts old new lits e f h = omega (arith, added_few old new (naming_each at n ts) e, ap length f, length-append (naming_each at n ts) (or_clauses (positive (n + names_taken_each ts)) (names_of at n ts)), length_or (positive (n + names_taken_each ts)) (names_of at n ts), h)

pub named_and : (at : ℕ → ℕ) (n m : ℕ) (ts : Trees) (old mid new : List (List Literal)) (lits : List Literal) → mid ≡ old ++ tidied (naming_each at n ts) → lits ≡ names_of at n ts → m ≡ n + names_taken_each ts → new ≡ mid ++ tidied (and_clauses (positive m) lits) → new ≡ old ++ tidied (naming at n (all_of ts))
named_and at n m ts old mid new lits e f g h =
    h
    ∙ ap (λ (xs : List (List Literal)). xs ++ tidied (and_clauses (positive m) lits)) e
    ∙ ap (λ (k : ℕ). (old ++ tidied (naming_each at n ts)) ++ tidied (and_clauses (positive k) lits)) g
    ∙ ap (λ (ls : List Literal). (old ++ tidied (naming_each at n ts)) ++ tidied (and_clauses (positive (n + names_taken_each ts)) ls)) f
    ∙ tidied_then old (naming_each at n ts) (and_clauses (positive (n + names_taken_each ts)) (names_of at n ts))

pub named_or : (at : ℕ → ℕ) (n m : ℕ) (ts : Trees) (old mid new : List (List Literal)) (lits : List Literal) → mid ≡ old ++ tidied (naming_each at n ts) → lits ≡ names_of at n ts → m ≡ n + names_taken_each ts → new ≡ mid ++ tidied (or_clauses (positive m) lits) → new ≡ old ++ tidied (naming at n (any_of ts))
named_or at n m ts old mid new lits e f g h =
    h
    ∙ ap (λ (xs : List (List Literal)). xs ++ tidied (or_clauses (positive m) lits)) e
    ∙ ap (λ (k : ℕ). (old ++ tidied (naming_each at n ts)) ++ tidied (or_clauses (positive k) lits)) g
    ∙ ap (λ (ls : List Literal). (old ++ tidied (naming_each at n ts)) ++ tidied (or_clauses (positive (n + names_taken_each ts)) ls)) f
    ∙ tidied_then old (naming_each at n ts) (or_clauses (positive (n + names_taken_each ts)) (names_of at n ts))

-- ---- one more part named

module _ (at : ℕ → ℕ) (n m : ℕ) (t : Tree) (ts rest : Trees) (is : rest ≡ tree t ts) (next : m ≡ n + names_taken t) where
  pub lits_step : (done more all : List Literal) (l : Literal) → more ≡ done ++ l ∷ [] → l ≡ name_of at n t → done ++ names_of at n rest ≡ all → more ++ names_of at m ts ≡ all
  lits_step done more all l e f h =
      ap (λ (xs : List Literal). xs ++ names_of at m ts) e
      ∙ append_assoc done (l ∷ []) (names_of at m ts)
      ∙ ap (λ (k : ℕ). done ++ l ∷ names_of at k ts) next
      ∙ ap (λ (x : Literal). done ++ x ∷ names_of at (n + names_taken t) ts) f
      ∙ ap (λ (r : Trees). done ++ names_of at n r) (sym is)
      ∙ h

  pub clauses_step : (cs ds all : List (List Literal)) → ds ≡ cs ++ tidied (naming at n t) → cs ++ tidied (naming_each at n rest) ≡ all → ds ++ tidied (naming_each at m ts) ≡ all
  clauses_step cs ds all e h =
      ap (λ (xs : List (List Literal)). xs ++ tidied (naming_each at m ts)) e
      ∙ ap (λ (k : ℕ). (cs ++ tidied (naming at n t)) ++ tidied (naming_each at k ts)) next
      ∙ tidied_then cs (naming at n t) (naming_each at (n + names_taken t) ts)
      ∙ ap (λ (r : Trees). cs ++ tidied (naming_each at n r)) (sym is)
      ∙ h

  pub few_step : (bound : ℕ) (cs ds : List (List Literal)) → ds ≡ cs ++ tidied (naming at n t) → length cs + length (naming_each at n rest) < bound → length ds + length (naming_each at m ts) < bound
  few_step bound cs ds e h =
      let split : length (naming_each at n rest) ≡ length (naming at n t) + length (naming_each at m ts) = ap (λ (r : Trees). length (naming_each at n r)) is ∙ length-append (naming at n t) (naming_each at (n + names_taken t) ts) ∙ ap (λ (k : ℕ). length (naming at n t) + length (naming_each at k ts)) (sym next) in
      let added = added_few cs ds (naming at n t) e in
      omega (arith, h, split, added)

  pub counts_step : n + names_taken_each rest ≡ m + names_taken_each ts
  counts_step = let split = ap names_taken_each is in omega (arith, split, next)

-- ---- assertions

pub few_names : (at : ℕ → ℕ) (n bound : ℕ) (ts : Trees) (old : List (List Literal)) → length old + length (asserting at n (any_of ts)) < bound → length old + length (naming_each at n ts) < bound
few_names at n bound ts old h = omega (arith, length-append (naming_each at n ts) (names_of at n ts ∷ []), h)

pub few_after : (at : ℕ → ℕ) (n bound : ℕ) (ts : Trees) (old mid : List (List Literal)) → mid ≡ old ++ tidied (naming_each at n ts) → length old + length (asserting at n (any_of ts)) < bound → length mid < bound
few_after at n bound ts old mid e h = omega (arith, added_few old mid (naming_each at n ts) e, length-append (naming_each at n ts) (names_of at n ts ∷ []), h)

pub asserted_any : (at : ℕ → ℕ) (n : ℕ) (ts : Trees) (old mid new : List (List Literal)) (lits : List Literal) → mid ≡ old ++ tidied (naming_each at n ts) → lits ≡ names_of at n ts → new ≡ mid ++ tidied (lits ∷ []) → new ≡ old ++ tidied (asserting at n (any_of ts))
asserted_any at n ts old mid new lits e f h =
    h
    ∙ ap (λ (xs : List (List Literal)). xs ++ tidied (lits ∷ [])) e
    ∙ ap (λ (ls : List Literal). (old ++ tidied (naming_each at n ts)) ++ tidied (ls ∷ [])) f
    ∙ tidied_then old (naming_each at n ts) (names_of at n ts ∷ [])

module _ (at : ℕ → ℕ) (n m : ℕ) (t : Tree) (ts rest : Trees) (is : rest ≡ tree t ts) (next : m ≡ n + names_taken_asserting t) where
  pub asserted_step : (cs ds all : List (List Literal)) → ds ≡ cs ++ tidied (asserting at n t) → cs ++ tidied (asserting_each at n rest) ≡ all → ds ++ tidied (asserting_each at m ts) ≡ all
  asserted_step cs ds all e h =
      ap (λ (xs : List (List Literal)). xs ++ tidied (asserting_each at m ts)) e
      ∙ ap (λ (k : ℕ). (cs ++ tidied (asserting at n t)) ++ tidied (asserting_each at k ts)) next
      ∙ tidied_then cs (asserting at n t) (asserting_each at (n + names_taken_asserting t) ts)
      ∙ ap (λ (r : Trees). cs ++ tidied (asserting_each at n r)) (sym is)
      ∙ h

  pub asserted_few : (bound : ℕ) (cs ds : List (List Literal)) → ds ≡ cs ++ tidied (asserting at n t) → length cs + length (asserting_each at n rest) < bound → length ds + length (asserting_each at m ts) < bound
  asserted_few bound cs ds e h =
      let split : length (asserting_each at n rest) ≡ length (asserting at n t) + length (asserting_each at m ts) = ap (λ (r : Trees). length (asserting_each at n r)) is ∙ length-append (asserting at n t) (asserting_each at (n + names_taken_asserting t) ts) ∙ ap (λ (k : ℕ). length (asserting at n t) + length (asserting_each at k ts)) (sym next) in
      let added = added_few cs ds (asserting at n t) e in
      omega (arith, h, split, added)

  pub asserted_counts : n + names_taken_asserting_each rest ≡ m + names_taken_asserting_each ts
  asserted_counts = let split = ap names_taken_asserting_each is in omega (arith, split, next)

pub atoms_more : (vs : List ℕ) (t : Tree) (ts rest : Trees) → rest ≡ tree t ts → EachAtomOf (Contains vs) rest → EachAtomOf (Contains vs) ts
atoms_more vs t ts rest is h = (rw is at h).1

pub range_names : (vs : List ℕ) (v w n : ℕ) (ts : Trees) (lits : List Literal) → w ≡ v → lits ≡ names_of (variable_of vs) n ts → length vs ≤ v → 1 ≤ n → n + names_taken_each ts ≤ v + 1 → EachAtomOf (Contains vs) ts → AreInRange w lits
range_names vs v w n ts lits e f few low high h = rw (e, f) (names_range vs v n ts few low high h)

-- ---- definitions

pub few_gate : (at : ℕ → ℕ) (n bound : ℕ) (l : Literal) (ts : Trees) (old mid : List (List Literal)) (lits : List Literal) → mid ≡ old ++ tidied (naming_each at n ts) → lits ≡ names_of at n ts → length old + length (defining at n l (all_of ts)) < bound → length mid + length lits < bound
few_gate at n bound l ts old mid lits e f h = omega (arith, added_few old mid (naming_each at n ts) e, ap length f, length-append (naming_each at n ts) (and_clauses l (names_of at n ts)), length_and l (names_of at n ts), h)

pub few_defined : (at : ℕ → ℕ) (n bound : ℕ) (l : Literal) (ts : Trees) (old : List (List Literal)) → length old + length (defining at n l (all_of ts)) < bound → length old + length (naming_each at n ts) < bound
few_defined at n bound l ts old h = omega (arith, length-append (naming_each at n ts) (and_clauses l (names_of at n ts)), h)

pub defined_all : (at : ℕ → ℕ) (n : ℕ) (l : Literal) (ts : Trees) (old mid new : List (List Literal)) (lits : List Literal) → mid ≡ old ++ tidied (naming_each at n ts) → lits ≡ names_of at n ts → new ≡ mid ++ tidied (and_clauses l lits) → new ≡ old ++ tidied (defining at n l (all_of ts))
defined_all at n l ts old mid new lits e f h =
    h
    ∙ ap (λ (xs : List (List Literal)). xs ++ tidied (and_clauses l lits)) e
    ∙ ap (λ (ls : List Literal). (old ++ tidied (naming_each at n ts)) ++ tidied (and_clauses l ls)) f
    ∙ tidied_then old (naming_each at n ts) (and_clauses l (names_of at n ts))

pub few_gate_or : (at : ℕ → ℕ) (n bound : ℕ) (l : Literal) (ts : Trees) (old mid : List (List Literal)) (lits : List Literal) → mid ≡ old ++ tidied (naming_each at n ts) → lits ≡ names_of at n ts → length old + length (defining at n l (any_of ts)) < bound → length mid + length lits < bound
few_gate_or at n bound l ts old mid lits e f h = omega (arith, added_few old mid (naming_each at n ts) e, ap length f, length-append (naming_each at n ts) (or_clauses l (names_of at n ts)), length_or l (names_of at n ts), h)

pub two_added : (old mid new : List (List Literal)) (c d : List Literal) → mid ≡ old ++ tidied (c ∷ []) → new ≡ mid ++ tidied (d ∷ []) → new ≡ old ++ tidied (c ∷ d ∷ [])
two_added old mid new c d e f = f ∙ ap (λ (xs : List (List Literal)). xs ++ tidied (d ∷ [])) e ∙ tidied_then old (c ∷ []) (d ∷ [])

module _ (vs : List ℕ) (n m : ℕ) (d : Definition) (ds rest : List Definition) (is : rest ≡ d ∷ ds) (next : m ≡ n + names_taken_defining d.scope) where
  pub defined_step : (cs es all : List (List Literal)) → es ≡ cs ++ tidied (defining (variable_of vs) n (positive (variable_of vs d.atom)) d.scope) → cs ++ tidied (defining_each (variable_of vs) n rest) ≡ all → es ++ tidied (defining_each (variable_of vs) m ds) ≡ all
  defined_step cs es all e h =
      ap (λ (xs : List (List Literal)). xs ++ tidied (defining_each (variable_of vs) m ds)) e
      ∙ ap (λ (k : ℕ). (cs ++ tidied (defining (variable_of vs) n (positive (variable_of vs d.atom)) d.scope)) ++ tidied (defining_each (variable_of vs) k ds)) next
      ∙ tidied_then cs (defining (variable_of vs) n (positive (variable_of vs d.atom)) d.scope) (defining_each (variable_of vs) (n + names_taken_defining d.scope) ds)
      ∙ ap (λ (r : List Definition). cs ++ tidied (defining_each (variable_of vs) n r)) (sym is)
      ∙ h

  pub defined_few : (bound : ℕ) (cs es : List (List Literal)) → es ≡ cs ++ tidied (defining (variable_of vs) n (positive (variable_of vs d.atom)) d.scope) → length cs + length (defining_each (variable_of vs) n rest) < bound → length es + length (defining_each (variable_of vs) m ds) < bound
  defined_few bound cs es e h =
      let split : length (defining_each (variable_of vs) n rest) ≡ length (defining (variable_of vs) n (positive (variable_of vs d.atom)) d.scope) + length (defining_each (variable_of vs) m ds) = ap (λ (r : List Definition). length (defining_each (variable_of vs) n r)) is ∙ length-append (defining (variable_of vs) n (positive (variable_of vs d.atom)) d.scope) (defining_each (variable_of vs) (n + names_taken_defining d.scope) ds) ∙ ap (λ (k : ℕ). length (defining (variable_of vs) n (positive (variable_of vs d.atom)) d.scope) + length (defining_each (variable_of vs) k ds)) (sym next) in
      let added = added_few cs es (defining (variable_of vs) n (positive (variable_of vs d.atom)) d.scope) e in
      omega (arith, h, split, added)

  pub defined_counts : n + names_taken_defining_each rest ≡ m + names_taken_defining_each ds
  defined_counts = let split = ap names_taken_defining_each is in omega (arith, split, next)

-- what holds of each view holds of the view of an item
pub All-at : {X Y : Type 0} (P : Y → Type 0) (f : X → Y) (xs : List X) (x : X) (i : ℕ) → All P (map f xs) → i < length xs → x ≡ get_or xs i x → P (f x)
All-at P f xs x i h lt e =
    subst P (get_or-map f xs i x ∙ ap f (sym e)) (h i (f x) (omega (arith, lt, length-map xs f)))

-- ---- the whole list, as it is added

module _ (at : ℕ → ℕ) (n : ℕ) (ss : List Tree) (ds : List Definition) where
  pub few_first : (bound : ℕ) (old : List (List Literal)) → length old + length (clauses_of at n ss ds) < bound → length old + length (asserting_each at n (as_trees ss)) < bound
  few_first bound old h = omega (arith, length-append (asserting_each at n (as_trees ss)) (defining_each at (n + names_taken_asserting_each (as_trees ss)) ds), h)

  pub few_second : (bound m : ℕ) (old mid : List (List Literal)) → m ≡ n + names_taken_asserting_each (as_trees ss) → mid ≡ old ++ tidied (asserting_each at n (as_trees ss)) → length old + length (clauses_of at n ss ds) < bound → length mid + length (defining_each at m ds) < bound
  few_second bound m old mid f e h = omega (arith, ap (λ (k : ℕ). length (defining_each at k ds)) f, added_few old mid (asserting_each at n (as_trees ss)) e, length-append (asserting_each at n (as_trees ss)) (defining_each at (n + names_taken_asserting_each (as_trees ss)) ds), h)

  pub whole_added : (m : ℕ) (old mid new : List (List Literal)) → m ≡ n + names_taken_asserting_each (as_trees ss) → mid ≡ old ++ tidied (asserting_each at n (as_trees ss)) → new ≡ mid ++ tidied (defining_each at m ds) → new ≡ old ++ tidied (clauses_of at n ss ds)
  whole_added m old mid new f e g =
      g
      ∙ ap (λ (xs : List (List Literal)). xs ++ tidied (defining_each at m ds)) e
      ∙ ap (λ (k : ℕ). (old ++ tidied (asserting_each at n (as_trees ss))) ++ tidied (defining_each at k ds)) f
      ∙ tidied_then old (asserting_each at n (as_trees ss)) (defining_each at (n + names_taken_asserting_each (as_trees ss)) ds)
