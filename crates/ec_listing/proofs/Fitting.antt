-- The truth of a minimal model fits: noninertial fluents are released at all times.
use Rattle.std.proofs.Common.{◌≡◌, ℕ, zero, suc, ◌+◌, ◌<◌, ◌==◌, Bool, true, false, ◌&&◌, ◌||◌, if◌then◌else◌, List, [], ◌∷◌, ◌++◌, length, map, filter, slice_get, unwrap_or, Some, None, option_map, Contains, get_or, ℤ, pos, int_le, int_lt, ◌+ℤ◌, neg_ℤ, refl, sym, ap, ◌∙◌, subst, append_assoc, arith}
use Rattle.std.specs.List.{flat_map, list_all, range_with_len}
use Rattle.std.proofs.lemmas.Bool.Decides.{nat_tests}
use Rattle.std.proofs.lemmas.List.Elements.{All-contains, All-from_recursion}
use Rattle.std.proofs.lemmas.List.FromFn.{length-map-range_with_len}
use Rattle.std.proofs.lemmas.Option.{slice_get-map}
use Rattle.ec_logic.specs.Atom.{GroundAtom, atom_at, tuples_of, atoms_of, visible_atoms, visible_predicates, predicates_in_order, atoms_before, visible_truth}
use Rattle.ec_logic.specs.Axiom.{variables_from, for_each, always_released, release_axiom, release_axioms, release_axioms_from}
use Rattle.ec_logic.specs.Extent.{Extent, numbers, members, in_range, natural}
use Rattle.ec_logic.specs.Listing.{IsTruth}
use Rattle.ec_logic.specs.Narrative.{is_noninertial}
use Rattle.ec_logic.specs.Place.{place_in_range, terms_keep, keeps}
use Rattle.ec_logic.specs.Signature.{Signature, SymbolRow, time_sort, fluent_sort, released_at}
use Rattle.ec_logic.specs.Theory.{Theory, all_hold}
use Rattle.ec_logic.specs.Tree.{variable, fluent, Terms, no_terms, term, Formula, atom, for_all}
use Rattle.ec_logic.specs.Truth.{Structure, truth}
use Rattle.ec_logic.specs.Turns.{IsValueOf}
use Rattle.ec_logic.specs.Universe.{Universe, universe_of, extent_at, domain, row_of, argument_sorts, tuple_at, symbol_at, place_of}
use Rattle.ec_logic.specs.Valid.{IsSignature}
use Rattle.ec_logic.specs.ValidTheory.{IsValidTheory}
use Rattle.ec_logic.specs.Value.{values}
use Rattle.ec_logic.proofs.FewAtoms.{fluent_extent}
use Rattle.ec_logic.proofs.Numbering.{tuple_rank-tuple_at, tuple_at-tuple_rank}
use Rattle.ec_logic.proofs.Numbers.{is_one_of}
use Rattle.ec_logic.proofs.Tests.{and_parts, same_number}
use Rattle.ec_logic.proofs.Tuples.{tuple_rank_below}
use Rattle.ec_listing.specs.Reading.{IsFitting}
use Rattle.ec_listing.specs.Slots.{atom_number, truth_at}
use Rattle.ec_listing.proofs.Atoms.{released_tuple, truth_is, row_is}
use Rattle.ec_listing.proofs.Decoding.{AreValues, ranked_values}
use Rattle.ec_listing.proofs.Domains.{domain_values, domain_contains}
use Rattle.ec_listing.proofs.Ground.{row_sorts}
use Rattle.ec_listing.proofs.Lines.{IsFluent, IsTime}
use Rattle.ec_listing.proofs.Names.{place_in_front, place_behind}
use Rattle.ec_listing.proofs.Texts.{fluent_at}

-- ---- the truth of a visible atom

-- an atom stands at its number
stands : (universe : Universe) (qs rs : List ℕ) (p k : ℕ) → is_one_of qs p ≡ true → k < tuples_of universe p → slice_get (flat_map (atoms_of universe) qs) (atoms_before universe (qs ++ rs) p + k) ≡ Some (atom_at universe p k)
stands universe [] rs p k h l = cc
stands universe (q ∷ qs) rs p k h l = by_test (q == p) refl h (stands universe qs rs p k)
  where
    made : (n from j : ℕ) → j < n → slice_get (map (atom_at universe p) (range_with_len from n)) j ≡ Some (atom_at universe p (from + j))
    made zero from j m = absurd (omega (arith, m))
    made (suc n) from zero m = let z : from + 0 ≡ from = omega arith in rw z refl
    made (suc n) from (suc j) m = let z : from + suc j ≡ from + 1 + j = omega arith in rw z (made n (from + 1) j (omega (arith, m)))

    by_test : (b : Bool) → (q == p) ≡ b → (b || is_one_of qs p) ≡ true → (is_one_of qs p ≡ true → k < tuples_of universe p → slice_get (flat_map (atoms_of universe) qs) (atoms_before universe (qs ++ rs) p + k) ≡ Some (atom_at universe p k))
        → slice_get (atoms_of universe q ++ flat_map (atoms_of universe) qs) ((if b then 0 else tuples_of universe q + atoms_before universe (qs ++ rs) p) + k) ≡ Some (atom_at universe p k)
    by_test true e h next =
        let z : 0 + k ≡ k = omega arith in
        let P : ℕ → Type 0 = λ r. slice_get (atoms_of universe r) k ≡ Some (atom_at universe p k) in
        rw z (place_in_front (atoms_of universe q) (flat_map (atoms_of universe) qs) k (atom_at universe p k) (subst P (sym (same_number q p e)) (let here = made (tuples_of universe p) 0 k l in rw z at here)))
    by_test false e h next =
        let count = length-map-range_with_len (atom_at universe q) 0 (tuples_of universe q) in
        let sum : (tuples_of universe q + atoms_before universe (qs ++ rs) p) + k ≡ length (atoms_of universe q) + (atoms_before universe (qs ++ rs) p + k) = omega (arith, count) in
        rw sum (place_behind (atoms_of universe q) (flat_map (atoms_of universe) qs) (atoms_before universe (qs ++ rs) p + k) (atom_at universe p k) (next h l))

-- ---- what binders of the release axioms range over

-- the values of a domain are in its range
value_in_range : (e : Extent) (v : ℤ) → IsValueOf e v → in_range e v ≡ true
value_in_range (numbers least size) v h = by_test (int_le least v && int_lt v (least +ℤ pos size)) refl h.1
  where
    by_test : (b : Bool) → (int_le least v && int_lt v (least +ℤ pos size)) ≡ b → (if b then natural (v +ℤ neg_ℤ least) else None) ≡ Some h.0 → (int_le least v && int_lt v (least +ℤ pos size)) ≡ true
    by_test true e k = e
    by_test false e k = cc
value_in_range (members count test) v h = refl

-- values, the first put on first
abbrev onto : List ℤ → List ℤ → List ℤ
onto [] env = env
onto (v ∷ vs) env = onto vs (v ∷ env)

below : (vs env : List ℤ) (k : ℕ) → slice_get (onto vs env) (length vs + k) ≡ slice_get env k
below [] env k = let z : 0 + k ≡ k = omega arith in rw z refl
below (v ∷ vs) env k = let z : suc (length vs) + k ≡ length vs + suc k = omega arith in rw z (below vs (v ∷ env) (suc k))

-- the variables of a release axiom have these values
read_back : (universe : Universe) (t : ℤ) (vs env : List ℤ) (whole : List ℤ) → whole ≡ t ∷ onto vs env → values universe whole (variables_from 1 (length vs)) ≡ vs
read_back universe t [] env whole e = refl
read_back universe t (v ∷ vs) env whole e =
    let z : length vs + 0 ≡ length vs = omega arith in
    let s : 1 + length vs ≡ suc (length vs) = omega arith in
    let there : slice_get whole (1 + length vs) ≡ Some v = rw (e, s) (let b = below vs (v ∷ env) 0 in rw z at b) in
    rw there (ap (λ ws. v ∷ ws) (read_back universe t vs (v ∷ env) whole e))

module _ (universe : Universe) (env : List ℤ) where
  -- no place of later arguments belongs to a binder further out
  none_kept : (d : ℕ) (ss : List ℕ) → length ss < d → terms_keep universe env d ss (variables_from 1 (length ss)) ≡ true
  none_kept d [] h = refl
  none_kept d (s ∷ ss) h =
      let other : (1 + length ss == d) ≡ false = grind (arith, nat_tests) in
      rw (other, none_kept d ss (omega (arith, h))) refl

  -- the place of one argument belongs to its binder
  own_kept : (first : List ℕ) (s : ℕ) (later : List ℕ) (v : ℤ) → slice_get env (1 + length later) ≡ Some v → IsValueOf (extent_at universe s) v
      → terms_keep universe env (1 + length later) (first ++ s ∷ later) (variables_from 1 (length (first ++ s ∷ later))) ≡ true
  own_kept [] s later v e h =
      let same : (1 + length later == 1 + length later) ≡ true = grind (arith, nat_tests) in
      rw (same, e, value_in_range (extent_at universe s) v h, none_kept (1 + length later) later (omega arith)) refl
  own_kept (r ∷ first) s later v e h =
      let longer : length later < length (first ++ s ∷ later) = more first in
      let other : (1 + length (first ++ s ∷ later) == 1 + length later) ≡ false = grind (arith, nat_tests) in
      rw (other, own_kept first s later v e h) refl
    where
      more : (xs : List ℕ) → length later < length (xs ++ s ∷ later)
      more [] = omega arith
      more (x ∷ xs) = omega (arith, more xs)

  -- nor does one belong to the innermost binder
  innermost_kept : (ss : List ℕ) → terms_keep universe env 0 ss (variables_from 1 (length ss)) ≡ true
  innermost_kept [] = refl
  innermost_kept (s ∷ ss) =
      let other : (1 + length ss == 0) ≡ false = grind (arith, nat_tests) in
      rw (other, innermost_kept ss) refl

-- an environment under so many more binders
abbrev under : ℕ → List ℤ → List ℤ
under zero env = env
under (suc n) env = under n (pos 0 ∷ env)

behind : (n : ℕ) (env : List ℤ) (k : ℕ) → slice_get (under n env) (n + k) ≡ slice_get env k
behind zero env k = let z : 0 + k ≡ k = omega arith in rw z refl
behind (suc n) env k = let z : suc n + k ≡ n + suc k = omega arith in rw z (behind n (pos 0 ∷ env) (suc k))

keeps_each : (universe : Universe) (ss : List ℕ) (f : Formula) (env : List ℤ) (d : ℕ) → keeps universe env d (for_each ss f) ≡ keeps universe (under (length ss) env) (length ss + d) f
keeps_each universe [] f env d = let z : 0 + d ≡ d = omega arith in rw z refl
keeps_each universe (s ∷ ss) f env d = let z : suc (length ss) + d ≡ length ss + suc d = omega arith in rw z (keeps_each universe ss f (pos 0 ∷ env) (suc d))

-- what is true at all kept values is true at one of them
at_kept_value : (f p : ℤ → Bool) (xs : List ℤ) (v : ℤ) → list_all f (filter p xs) ≡ true → Contains xs v → p v ≡ true → f v ≡ true
at_kept_value f p xs v h there k = at xs h there.0 there.1 there.2
  where
    at : (ys : List ℤ) → list_all f (filter p ys) ≡ true → (i : ℕ) → i < length ys → get_or ys i v ≡ v → f v ≡ true
    at [] h i l e = absurd (omega (arith, l))
    at (y ∷ ys) h zero l e = first y e h
      where
        first : (y : ℤ) → y ≡ v → list_all f (filter p (y ∷ ys)) ≡ true → f v ≡ true
        first y e h =
            let q : p y ≡ true = ap p e ∙ k in
            let all : (f y && list_all f (filter p ys)) ≡ true = rw q at h in
            ap f (sym e) ∙ (and_parts (f y) (list_all f (filter p ys)) all).0
    at (y ∷ ys) h (suc i) l e = at ys (rest (p y) h) i (omega (arith, l)) e
      where
        rest : (b : Bool) → list_all f (if b then y ∷ filter p ys else filter p ys) ≡ true → list_all f (filter p ys) ≡ true
        rest true h = (and_parts (f y) (list_all f (filter p ys)) h).1
        rest false h = h

as_many : (universe : Universe) (ss : List ℕ) (vs : List ℤ) → AreValues universe ss vs → length ss ≡ length vs
as_many universe [] [] h = refl
as_many universe [] (v ∷ vs) h = absurd h
as_many universe (s ∷ ss) [] h = absurd h
as_many universe (s ∷ ss) (v ∷ vs) h = ap suc (as_many universe ss vs h.1)

module _ (signature : Signature) (valid : IsSignature signature) (m : Structure) where
  abbrev universe : Universe
  universe = universe_of signature

  module _ (number : ℕ) (row : SymbolRow) (found : slice_get signature.fluents number ≡ Some row) where
    abbrev count : ℕ
    count = length row.sorts

    abbrev released : Formula
    released = atom released_at (term (fluent number (variables_from 1 count)) (term (variable 0) no_terms))

    abbrev at_times : Formula
    at_times = for_all time_sort released

    row_fluent : row_of universe.fluents number ≡ row.sorts
    row_fluent = row_sorts signature.fluents number row found

    row_released : row_of universe.predicates 1 ≡ fluent_sort ∷ time_sort ∷ []
    row_released = row_is signature valid 1 (omega arith)

    fluent_place_kept : (env : List ℤ) (d : ℕ) (ts : Terms) → place_in_range universe env d fluent_sort (fluent number ts) ≡ true
    fluent_place_kept env d ts = rw (fluent_extent signature valid) (either _)
      where
        either : (c : Bool) → (if c then true else true) ≡ true
        either true = refl
        either false = refl

    both_kept : (env : List ℤ) (d : ℕ) → terms_keep universe env d row.sorts (variables_from 1 count) ≡ true → place_in_range universe env d time_sort (variable 0) ≡ true → keeps universe env d released ≡ true
    both_kept env d h k =
        let own : terms_keep universe env d (row_of universe.fluents number) (variables_from 1 count) ≡ true = ap (λ ss. terms_keep universe env d ss (variables_from 1 count)) row_fluent ∙ h in
        rw (row_released, fluent_place_kept env d (variables_from 1 count), own, k) refl

    times_kept : (env : List ℤ) (d : ℕ) → terms_keep universe (pos 0 ∷ env) (suc d) row.sorts (variables_from 1 count) ≡ true → keeps universe env d at_times ≡ true
    times_kept env d h = both_kept (pos 0 ∷ env) (suc d) h (let other : (0 == suc d) ≡ false = grind (arith, nat_tests) in rw other refl)

    -- each value of an argument's domain is kept by its binder
    argument_kept : (first later : List ℕ) (s : ℕ) (v : ℤ) (env : List ℤ) → first ++ s ∷ later ≡ row.sorts → IsValueOf (extent_at universe s) v → keeps universe (v ∷ env) 0 (for_each later at_times) ≡ true
    argument_kept first later s v env e h =
        let outer = under (length later) (v ∷ env) in
        let d = length later + 0 in
        let z : length later + 0 ≡ length later = omega arith in
        let n : suc (length later) ≡ 1 + length later = omega arith in
        let there : slice_get (pos 0 ∷ outer) (1 + length later) ≡ Some v = rw (← n) (let b = behind (length later) (v ∷ env) 0 in rw z at b) in
        let own = own_kept universe (pos 0 ∷ outer) first s later v there h in
        let P : List ℕ → Type 0 = λ ss. terms_keep universe (pos 0 ∷ outer) (1 + length later) ss (variables_from 1 (length ss)) ≡ true in
        let D : ℕ → Type 0 = λ k. terms_keep universe (pos 0 ∷ outer) k row.sorts (variables_from 1 count) ≡ true in
        let step : 1 + length later ≡ suc (length later + 0) = omega arith in
        keeps_each universe later at_times (v ∷ env) 0 ∙ times_kept outer d (subst D step (subst P e own))

    peeled : (first later : List ℕ) (vs env : List ℤ) → first ++ later ≡ row.sorts → AreValues universe later vs → truth universe m env (for_each later at_times) ≡ true → truth universe m (onto vs env) at_times ≡ true
    peeled first [] [] env e h t = t
    peeled first [] (v ∷ vs) env e h t = absurd h
    peeled first (s ∷ later) [] env e h t = absurd h
    peeled first (s ∷ later) (v ∷ vs) env e h t =
        let next = at_kept_value (λ w. truth universe m (w ∷ env) (for_each later at_times)) (λ w. keeps universe (w ∷ env) 0 (for_each later at_times)) (domain universe s) v t
        (domain_contains (extent_at universe s) v h.0) (argument_kept first later s v env e h.0) in
        peeled (first ++ s ∷ []) later vs (v ∷ env) (append_assoc first (s ∷ []) later ∙ e) h.1 next

    -- the axiom at one fluent and one time
    axiom_at : (vs : List ℤ) (t : ℤ) → AreValues universe row.sorts vs → IsTime signature t → truth universe m [] (always_released number row) ≡ true → m released_at (place_of universe universe.fluents number vs ∷ t ∷ []) ≡ true
    axiom_at vs t h k a =
        let env = onto vs [] in
        let here = peeled [] row.sorts vs [] refl h a in
        let kept = both_kept (t ∷ env) 0 (innermost_kept universe (t ∷ env) row.sorts) (value_in_range (extent_at universe time_sort) t k) in
        let told = at_kept_value (λ w. truth universe m (w ∷ env) released) (λ w. keeps universe (w ∷ env) 0 released) (domain universe time_sort) t here (domain_contains (extent_at universe time_sort) t k) kept in
        let same : values universe (t ∷ env) (variables_from 1 count) ≡ vs = ap (λ n. values universe (t ∷ env) (variables_from 1 n)) (as_many universe row.sorts vs h) ∙ read_back universe t vs [] (t ∷ env) refl in
        ap (λ ws. m released_at (place_of universe universe.fluents number ws ∷ t ∷ [])) (sym same) ∙ told

  axiom_there : (rows : List SymbolRow) (from k : ℕ) (row : SymbolRow) → all_hold universe m (release_axioms_from signature from rows) ≡ true → slice_get rows k ≡ Some row → row.noninertial ≡ true → truth universe m [] (always_released (from + k) row) ≡ true
  axiom_there [] from k row h e n = cc
  axiom_there (r ∷ rows) from zero row h e n =
      let same : r ≡ row = cc in
      let z : from + 0 ≡ from = omega arith in
      let P : SymbolRow → Type 0 = λ x. all_hold universe m (release_axiom signature from x x.noninertial signature.manual_release ++ release_axioms_from signature (suc from) rows) ≡ true in
      let all : all_hold universe m (release_axiom signature from row row.noninertial signature.manual_release ++ release_axioms_from signature (suc from) rows) ≡ true = subst P same h in
      let one : (truth universe m [] (always_released from row) && all_hold universe m (release_axioms_from signature (suc from) rows)) ≡ true = rw n at all in
      rw z (and_parts (truth universe m [] (always_released from row)) (all_hold universe m (release_axioms_from signature (suc from) rows)) one).0
  axiom_there (r ∷ rows) from (suc k) row h e n =
      let s : from + suc k ≡ suc from + k = omega arith in
      rw s (axiom_there rows (suc from) k row (behind_first r.noninertial signature.manual_release h) e n)
    where
      behind_first : (a b : Bool) → all_hold universe m (release_axiom signature from r a b ++ release_axioms_from signature (suc from) rows) ≡ true → all_hold universe m (release_axioms_from signature (suc from) rows) ≡ true
      behind_first true b h = (and_parts (truth universe m [] (always_released from r)) (all_hold universe m (release_axioms_from signature (suc from) rows)) h).1
      behind_first false true h = h
      behind_first false false h = (and_parts _ (all_hold universe m (release_axioms_from signature (suc from) rows)) h).1

  -- a noninertial fluent is released at each time
  always : all_hold universe m (release_axioms signature) ≡ true → (f t : ℤ) → IsFluent signature f → IsTime signature t → is_noninertial signature f ≡ true → m released_at (f ∷ t ∷ []) ≡ true
  always axioms f t h k n =
      let a = fluent_at signature valid f h in
      let ground = a.2 in
      let flag : ground.row.noninertial ≡ true = noninertial a.0 ground.symbol ground.row ground.at ground.found (ap (is_noninertial signature) (sym a.1) ∙ n) in
      let z : 0 + ground.symbol ≡ ground.symbol = omega arith in
      let stated = rw z at (axiom_there signature.fluents 0 ground.symbol ground.row axioms ground.found flag) in
      let tuple = tuple_at universe ground.row.sorts ground.place in
      let ranked = tuple_rank-tuple_at universe ground.row.sorts ground.place ground.low in
      let released = axiom_at ground.symbol ground.row ground.found tuple t (ranked_values universe ground.row.sorts tuple ground.place ranked) k stated in
      let place : place_of universe universe.fluents ground.symbol tuple ≡ pos a.0 = rw (row_sorts signature.fluents ground.symbol ground.row ground.found, ranked) (ap pos ground.number) in
      ap (λ v. m released_at (v ∷ t ∷ [])) (a.1 ∙ sym place) ∙ released
    where
      noninertial : (n symbol : ℕ) (row : SymbolRow) → (symbol_at universe (argument_sorts signature.fluents) n).0 ≡ symbol → slice_get signature.fluents symbol ≡ Some row → is_noninertial signature (pos n) ≡ true → row.noninertial ≡ true
      noninertial n symbol row at found h =
          let there : slice_get signature.fluents (symbol_at universe (argument_sorts signature.fluents) n).0 ≡ Some row = ap (λ i. slice_get signature.fluents i) at ∙ found in
          rw there at h

  -- the truth of a release among those of the visible atoms
  released_truth : (f t : ℤ) → IsFluent signature f → IsTime signature t → truth_at (visible_truth universe m) (atom_number signature released_at (f ∷ t ∷ [])) ≡ m released_at (f ∷ t ∷ [])
  released_truth f t h k =
      let tuple = released_tuple signature valid f t h k in
      let row = row_of universe.predicates released_at in
      let j = tuple.1.0 in
      let rank = tuple.1.1 in
      let low = tuple_rank_below universe row (f ∷ t ∷ []) j rank in
      let there = stands universe (visible_predicates universe) (3 ∷ 4 ∷ 5 ∷ []) released_at j refl low in
      let number : atom_number signature released_at (f ∷ t ∷ []) ≡ atoms_before universe (predicates_in_order universe) released_at + j = rw rank refl in
      let args = tuple_at-tuple_rank universe row (f ∷ t ∷ []) j rank in
      let truths : GroundAtom → Bool = λ atom. m atom.predicate atom.args in
      let at : slice_get (visible_truth universe m) (atoms_before universe (predicates_in_order universe) released_at + j) ≡ Some (m released_at (tuple_at universe row j)) =
      slice_get-map truths (visible_atoms universe) (atoms_before universe (predicates_in_order universe) released_at + j) ∙ ap (option_map truths) there in
      ap (λ i. truth_at (visible_truth universe m) i) number ∙ (ap (λ o. unwrap_or o false) at ∙ ap (m released_at) args)

  length_mapped : (f : GroundAtom → Bool) (atoms : List GroundAtom) → length (map f atoms) ≡ length atoms
  length_mapped f [] = refl
  length_mapped f (a ∷ atoms) = ap suc (length_mapped f atoms)

  pub release_fits : all_hold universe m (release_axioms signature) ≡ true → IsFitting signature (visible_truth universe m)
  release_fits axioms = record {
    whole = length_mapped (λ (atom : GroundAtom). m atom.predicate atom.args) (visible_atoms universe);
    released = λ f t a b n.
        let h = All-contains (IsFluent signature) (domain universe fluent_sort) f (All-from_recursion (IsFluent signature) (domain universe fluent_sort) (domain_values (extent_at universe fluent_sort))) a in
        let k = All-contains (IsTime signature) (domain universe time_sort) t (All-from_recursion (IsTime signature) (domain universe time_sort) (domain_values (extent_at universe time_sort))) b in
        truth_is signature valid (visible_truth universe m) released_at (f ∷ t ∷ []) (released_tuple signature valid f t h k) ∙ (released_truth f t h k ∙ always axioms f t h k n);
  }

-- the truth of a minimal model of a valid theory fits
pub fits_all : (theory : Theory) (found : List Bool) → IsValidTheory theory → IsTruth theory found → IsFitting theory.signature found
fits_all theory found valid is = subst (IsFitting theory.signature) is.2 (release_fits theory.signature valid.signature is.0 is.1.release)
