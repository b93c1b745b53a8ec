-- Structures that agree on the atoms of a group.
use Rattle.std.proofs.Common.{◌≡◌, ◌∙◌, ◌<◌, ◌+◌, ◌==◌, ◌^◌, ◌↔◌, ℕ, zero, suc, min, Bool, true, false, List, [], ◌∷◌, length, get_or, All, Option, None, Some, option_map, slice_get, unwrap_or, ℤ, refl, sym, ap, subst, arith}
use Rattle.std.specs.List.{list_any}
use Rattle.std.proofs.lemmas.Option.{slice_get-get_or}
use Rattle.ec_logic.specs.Signature.{Signature, SymbolRow}
use Rattle.ec_logic.specs.Universe.{Universe, universe_of, row_of, tuples, tuple_at, tuple_rank, argument_sorts}
use Rattle.ec_logic.specs.Atom.{all_atoms, atoms_before, predicates_in_order, structure_of}
use Rattle.ec_logic.specs.Theory.{Group}
use Rattle.ec_logic.specs.ClauseTree.{has_clause_form, is_supported}
use Rattle.ec_logic.specs.Minimal.{IsMinimalIn}
use Rattle.ec_logic.proofs.Completing.{completed_minimal, minimal_completed}
use Rattle.ec_logic.proofs.MarkedBits.{numbered, structure_at}
use Rattle.ec_logic.proofs.Minimality.{all_head, all_tail}
use Rattle.ec_logic.proofs.Numbering.{tuple_rank-tuple_at}
use Rattle.ec_logic.proofs.Tests.{or_cases, or_left, or_right, same_itself, same_number, test_cases}
use Rattle.ec_logic.proofs.Tuples.{tuple_rank_below}
use Rattle.ec_values.proofs.AtomLemmas.{number_below}
use Rattle.ec_minimal.specs.Agrees.{Agrees, same_truth}

same_truth_is : (x y : Option Bool) → same_truth x y ≡ true → unwrap_or x false ≡ unwrap_or y false
same_truth_is None y h = cc
same_truth_is (Some a) None h = cc
same_truth_is (Some true) (Some true) h = refl
same_truth_is (Some true) (Some false) h = cc
same_truth_is (Some false) (Some true) h = cc
same_truth_is (Some false) (Some false) h = refl

differ_not : (x y : Bool) → same_truth (Some x) (Some y) ≡ false → x ≡ y → ⊥
differ_not true true h e = cc
differ_not true false h e = cc
differ_not false true h e = cc
differ_not false false h e = cc

row_at : (rows : List SymbolRow) (p : ℕ) (ss : List ℕ) → option_map (λ (row : SymbolRow). row.sorts) (slice_get rows p) ≡ Some ss → row_of (argument_sorts rows) p ≡ ss
row_at [] p ss h = cc
row_at (row ∷ rows) zero ss h = let e : row.sorts ≡ ss = cc in e
row_at (row ∷ rows) (suc p) ss h = row_at rows p ss h

-- how many atoms a predicate has
pub count_is : (signature : Signature) (p n : ℕ) (ss : List ℕ) → option_map (λ (row : SymbolRow). row.sorts) (slice_get signature.predicates p) ≡ Some ss → n ≡ min (tuples (universe_of signature) ss) (2 ^ 62) → tuples (universe_of signature) (row_of (universe_of signature).predicates p) < 2 ^ 62 → n ≡ tuples (universe_of signature) (row_of (universe_of signature).predicates p)
count_is signature p n ss h e few = let same = ap (tuples (universe_of signature)) (row_at signature.predicates p ss h) in omega (arith, e, few, same)

module _ (universe : Universe) (p : ℕ) (known : p < length universe.predicates) (first : ℕ) (starts : first ≡ atoms_before universe (predicates_in_order universe) p) where
  at_place : (k : ℕ) → k < tuples universe (row_of universe.predicates p) → tuple_rank universe (row_of universe.predicates p) (tuple_at universe (row_of universe.predicates p) k) ≡ Some k
  at_place k l = tuple_rank-tuple_at universe (row_of universe.predicates p) k l

  pub within_all : (k : ℕ) → k < tuples universe (row_of universe.predicates p) → first + k < length (all_atoms universe)
  within_all k l =
      let vs = tuple_at universe (row_of universe.predicates p) k in
      let at = numbered universe p vs k (at_place k l) in
      omega (arith, starts, number_below universe p vs (atoms_before universe (predicates_in_order universe) p + k) known (sym at))

  module _ (a b : List Bool) where
    truth_in : (bits : List Bool) (vs : List ℤ) (k : ℕ) → tuple_rank universe (row_of universe.predicates p) vs ≡ Some k → structure_of universe bits p vs ≡ unwrap_or (slice_get bits (first + k)) false
    truth_in bits vs k h = structure_at universe bits p vs (atoms_before universe (predicates_in_order universe) p + k) (numbered universe p vs k h) ∙ ap (λ n. unwrap_or (slice_get bits (n + k)) false) (sym starts)

    pub agree_if : ((k : ℕ) → k < tuples universe (row_of universe.predicates p) → same_truth (slice_get a (first + k)) (slice_get b (first + k)) ≡ true) → Agrees universe a b p
    agree_if same = record { agrees = λ vs. by_rank vs (tuple_rank universe (row_of universe.predicates p) vs) refl }
      where
        by_rank : (vs : List ℤ) (o : Option ℕ) → tuple_rank universe (row_of universe.predicates p) vs ≡ o → structure_of universe a p vs ≡ structure_of universe b p vs
        by_rank vs None e = rw e refl
        by_rank vs (Some k) e =
            let l = tuple_rank_below universe (row_of universe.predicates p) vs k e in
            truth_in a vs k e ∙ same_truth_is (slice_get a (first + k)) (slice_get b (first + k)) (same k l) ∙ sym (truth_in b vs k e)

    pub disagree : (k : ℕ) → k < tuples universe (row_of universe.predicates p) → first + k < length a → first + k < length b → same_truth (slice_get a (first + k)) (slice_get b (first + k)) ≡ false → Agrees universe a b p → ⊥
    disagree k l in-a in-b h agrees =
        let vs = tuple_at universe (row_of universe.predicates p) k in
        let is = at_place k l in
        let x = slice_get-get_or a (first + k) false in-a in
        let y = slice_get-get_or b (first + k) false in-b in
        let same : unwrap_or (slice_get a (first + k)) false ≡ unwrap_or (slice_get b (first + k)) false = sym (truth_in a vs k is) ∙ agrees.agrees vs ∙ truth_in b vs k is in
        let equal : get_or a (first + k) false ≡ get_or b (first + k) false = ap (λ o. unwrap_or o false) (sym x) ∙ same ∙ ap (λ o. unwrap_or o false) y in
        let other : same_truth (Some (get_or a (first + k) false)) (Some (get_or b (first + k) false)) ≡ false = ap (λ o. same_truth o (Some (get_or b (first + k) false))) (sym x) ∙ ap (λ o. same_truth (slice_get a (first + k)) o) (sym y) ∙ h in
        differ_not (get_or a (first + k) false) (get_or b (first + k) false) other equal

-- ---- a group

all_any : (P : ℕ → Type 0) (xs : List ℕ) (p : ℕ) → All P xs → list_any (λ q. q == p) xs ≡ true → P p
all_any P [] p a h = cc
all_any P (x ∷ xs) p a h =
    or_cases (P p) (x == p) (list_any (λ q. q == p) xs) (λ e. subst P (same_number x p e) (all_head P x xs a)) (λ e. all_any P xs p (all_tail P x xs a) e) h

any_at : (xs : List ℕ) (i d : ℕ) → i < length xs → list_any (λ q. q == get_or xs i d) xs ≡ true
any_at [] i d l = absurd (omega (arith, l))
any_at (x ∷ xs) zero d l = or_left (x == x) (list_any (λ q. q == x) xs) (same_itself x)
any_at (x ∷ xs) (suc i) d l = or_right (x == get_or xs i d) (list_any (λ q. q == get_or xs i d) xs) (any_at xs i d (omega (arith, l)))

-- a group is minimal exactly where its atoms are those that its sentences support
pub group_law : (universe : Universe) (group : Group) (bits marks : List Bool) (same : Bool) → has_clause_form group ≡ true → ((p : ℕ) (vs : List ℤ) → structure_of universe marks p vs ≡ is_supported universe (structure_of universe bits) group.sentences p vs)
    → (same ≡ true → All (Agrees universe bits marks) group.predicates) → (same ≡ false → All (Agrees universe bits marks) group.predicates → ⊥) → (same ≡ true) ↔ IsMinimalIn universe group (structure_of universe bits)
group_law universe group bits marks same form are as_same as_other = (
  λ e. completed_minimal universe group form (structure_of universe bits) (λ p vs in-g. (all_any (Agrees universe bits marks) group.predicates p (as_same e) in-g).agrees vs ∙ are p vs),
  λ h. test_cases (same ≡ true) same (λ e. e)
      (λ e.
      let completed = minimal_completed universe group form (structure_of universe bits) h in
      absurd (as_other e (λ i d l. record { agrees = λ vs. completed (get_or group.predicates i d) vs (any_at group.predicates i d l) ∙ sym (are (get_or group.predicates i d) vs) }))),
)
