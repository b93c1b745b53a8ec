-- What a search that ended found of a theory.
use Rattle.std.proofs.Common.{◌≡◌, ℕ, suc, ◌+◌, ◌<◌, ◌≤◌, ◌^◌, Bool, List, [], ◌∷◌, length, take, All, Contains, IsPermutation, sym, ap, ◌∙◌, subst, arith}
use Rattle.std.proofs.lemmas.List.{length-take}
use Rattle.std.proofs.lemmas.List.Sorted.{Contains-permutation, IsPermutation-sym, length_permutation}
use Rattle.std.specs.Cmp.Lexicographic.{slice_cmp}
use Rattle.std.specs.List.{AllByRecursion}
use Rattle.std.specs.List.Sorted.{IsSorted}
use Rattle.std.specs.Ordering.{bool_cmp}
use Rattle.ec_logic.specs.Signature.{Signature, built_in}
use Rattle.ec_logic.specs.Universe.{universe_of}
use Rattle.ec_logic.specs.Theory.{Theory}
use Rattle.ec_logic.specs.Valid.{IsSignature}
use Rattle.ec_logic.specs.ValidTheory.{IsValidTheory}
use Rattle.ec_logic.specs.Listing.{IsTruth}
use Rattle.ec_logic.proofs.Extents.{arguments_length}
use Rattle.ec_atom.proofs.AtomLaws.{all_numbered}
use Rattle.ec_supported.proofs.GroupTuples.{groups_support_tuples}
use Rattle.ec_grounding.specs.WellFormed.{visible_count}
use Rattle.ec_clause.specs.ClauseList.{ClauseList}
use Rattle.ec_clause.specs.Note.{Note}
use Rattle.ec_clause.specs.declared.ending.Ending.{Ending}
use Rattle.ec_clause.specs.declared.ending.Ending.TheVariants.{Complete, Models, Conflicts}
use Rattle.ec_log.specs.Log.{Log}
use Rattle.ec_certificate.specs.Progress.{IsMet, AreAmong}
use Rattle.ec_certificate.proofs.Logged.{met-sizes}
use Rattle.ec_certificate.proofs.Reordered.{accepted-permutation, all-among}
use Rattle.ec_cnf.specs.List.{clauses_of}
use Rattle.ec_cnf.specs.Models.{IsListOf}
use Rattle.ec_cnf.proofs.ListOf.{is_list_of}
use Rattle.ec_solve.specs.Found.{IsWithin, IsFound}
use Rattle.ec_solve.specs.Progress.{IsDone}
use Rattle.ec_solve.specs.declared.searching.Bounds.{Bounds}
use Rattle.ec_solve.proofs.LogLines.{lines_of_accepted}
use Rattle.ec_solve.proofs.Rising.{rising_sorted}

-- ---- the clause list of a valid theory

six_there : (signature : Signature) → IsSignature signature → 6 ≤ length (universe_of signature).predicates
six_there signature valid =
    let six : length (take built_in signature.predicates) ≡ 6 = ap length valid.built_in_first.predicates in
    omega (arith, six, length-take 6 signature.predicates, arguments_length signature.predicates)

-- The truths that meet the clause list of a valid theory are those of its minimal models.
pub list_of_valid : (theory : Theory) → IsValidTheory theory → IsListOf theory
list_of_valid theory valid = is_list_of theory valid (groups_support_tuples theory valid) (all_numbered (universe_of theory.signature) (six_there theory.signature valid.signature))

truth_met : (theory : Theory) → IsListOf theory → (truth : List Bool) → IsMet (clauses_of theory) (visible_count theory) truth → IsTruth theory truth
truth_met theory l truth m = subst (IsTruth theory) m.extends (l.sound m.whole m.meets)

-- ---- the truths in another order

each_of : {X : Type 0} (P : X → Type 0) (xs : List X) → All P xs → AllByRecursion P xs
each_of P [] all = tt
each_of P (x ∷ xs) all = (all 0 x (omega arith), each_of P xs (λ k d lt. all (suc k) d (omega (arith, lt))))

within_same : (bounds : Bounds) (truths truths' : List (List Bool)) (notes : List Note) (ending : Ending) → length truths' ≡ length truths → IsWithin bounds truths notes ending → IsWithin bounds truths' notes ending
within_same bounds truths truths' notes (Complete n) size w = (w.0 ∙ sym size, w.1, w.2)
within_same bounds truths truths' notes (Models n) size w = (w.0 ∙ sym size, w.1, w.2)
within_same bounds truths truths' notes (Conflicts n) size w = (w.0, omega (arith, size, w.1))

module _ (theory : Theory) (valid : IsValidTheory theory) (bounds : Bounds) (truths truths' : List (List Bool)) (log : Log) (ending : Ending) (one_model : 1 ≤ bounds.models) (one_conflict : 1 ≤ bounds.conflicts) (few_models : bounds.models ≤ 10000) (few_conflicts : bounds.conflicts ≤ 2000000000) (permutation : IsPermutation truths truths') (sorted : IsSorted (slice_cmp bool_cmp) truths') where
  there : AreAmong truths truths'
  there t c = Contains-permutation truths truths' t permutation c

  back : AreAmong truths' truths
  back t c = Contains-permutation truths' truths t (IsPermutation-sym truths truths' permutation) c

  found_of : (clauses_of theory).variables ≤ 2 ^ 29 → length (clauses_of theory).clauses ≤ 2 ^ 29 → IsDone (clauses_of theory) bounds (visible_count theory) truths log ending → IsFound theory bounds truths' ending log
  found_of few_variables few_clauses d =
      let l = list_of_valid theory valid in
      let sizes = met-sizes (clauses_of theory) (visible_count theory) truths d.met in
      let rising = rising_sorted (visible_count theory) truths truths' permutation sorted (all-among truths truths' (λ t. length t ≡ visible_count theory) back sizes) d.apart in
      let true_truths : All (IsTruth theory) truths = (λ k e lt. truth_met theory l _ (d.met k e lt)) in
      let each = each_of (IsTruth theory) truths' (all-among truths truths' (IsTruth theory) back true_truths) in
      let accepted = accepted-permutation (clauses_of theory) truths truths' ending log permutation d.accepted in
      let within = within_same bounds truths truths' log.notes ending (length_permutation truths truths' permutation) d.within in
      let few : length (clauses_of theory).clauses + length log.notes < 2 ^ 32 = omega (arith, d.few, d.few_truths, few_models, few_conflicts, few_clauses) in
      record {
        rising = rising;
        each = each;
        all = λ complete. record { rising = rising; each = each; all = λ found truth. (let e = l.whole found truth in there found (subst (Contains truths) e.extends (d.whole complete e.whole e.meets))) };
        accepted = accepted;
        fresh = d.fresh;
        within = within;
        few_variables = few_variables;
        few = few;
        lines = lines_of_accepted (clauses_of theory) bounds truths' ending log one_model one_conflict few_models few_conflicts (omega (arith, few_variables)) few accepted within;
      }

  -- What a search of the theory's list found, sorted.
  pub found_sorted : (list : ClauseList) (visible : ℕ) → list ≡ clauses_of theory → visible ≡ visible_count theory → list.variables ≤ 2 ^ 29 → length list.clauses ≤ 2 ^ 29 → IsDone list bounds visible truths log ending → IsFound theory bounds truths' ending log
  found_sorted list visible is seen few_variables few_clauses d =
      let few : length (clauses_of theory).clauses ≤ 2 ^ 29 = subst (λ (c : ClauseList). length c.clauses ≤ 2 ^ 29) is few_clauses in
      found_of (subst (λ (c : ClauseList). c.variables ≤ 2 ^ 29) is few_variables) few (subst (λ v. IsDone (clauses_of theory) bounds v truths log ending) seen (subst (λ c. IsDone c bounds visible truths log ending) is d))
