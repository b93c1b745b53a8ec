-- Sentences whose support is marked one after another.
use Rattle.std.proofs.Common.{◌≡◌, ◌∙◌, ◌<◌, ◌≤◌, ◌+◌, ◌-◌, ◌==◌, ◌||◌, ◌++◌, ℕ, zero, suc, nat_lt, Bool, true, false, List, [], ◌∷◌, length, drop, replicate, get_or, Option, None, Some, slice_get, unwrap_or, ℤ, refl, sym, ap, add-one, subst, arith}
use Rattle.std.proofs.Math.Seq.{drop-cons}
use Rattle.std.proofs.lemmas.Bool.Decides.{nat_tests}
use Rattle.std.proofs.lemmas.List.{length-replicate}
use Rattle.std.proofs.lemmas.List.Folds.{list_any-append}
use Rattle.std.proofs.lemmas.Option.{slice_get_past}
use Rattle.std.specs.List.{range_with_len}
use Rattle.ec_logic.specs.Tree.{Formula}
use Rattle.ec_logic.specs.Signature.{Signature, built_in}
use Rattle.ec_logic.specs.Universe.{Universe, universe_of, row_of, tuple_rank}
use Rattle.ec_logic.specs.Atom.{all_atoms, atoms_before, declared, number_of, predicates_in_order, structure_of, tuples_of}
use Rattle.ec_logic.specs.Total.{total}
use Rattle.ec_logic.specs.Truth.{Structure, IsTuple, IsStructure}
use Rattle.ec_logic.specs.ClauseTree.{supports, is_supported}
use Rattle.ec_logic.specs.Valid.{IsSignature}
use Rattle.ec_logic.specs.ValidTheory.{IsValidSentence, AreValidSentences}
use Rattle.ec_logic.proofs.Tests.{or_cases, or_left, same_number, test_cases}
use Rattle.ec_logic.proofs.FewAtoms.{six_predicates}
use Rattle.ec_logic.proofs.Numbering.{all_count}
use Rattle.ec_logic.proofs.Numbers.{is_one_of}
use Rattle.ec_logic.proofs.Marking.{Comes, supported_by_sentences, comes_end}
use Rattle.ec_logic.proofs.MarkedBits.{numbered, structure_at, structure_none}
use Rattle.ec_logic.proofs.Minimality.{all_head, all_tail}
use Rattle.ec_theory.specs.declared.theory.Sentence.{Sentence}
use Rattle.ec_theory.specs.Theories.{sentence_trees}
use Rattle.ec_theory.specs.View.{formula_tree}
use Rattle.ec_supported.proofs.SupportedTuples.{supported_tuple}

-- the next of some sentences is valid
pub next_valid : (signature : Signature) (sentences : List Sentence) (i : ℕ) (sentence : Sentence) → AreValidSentences signature (sentence_trees sentences) → i < length sentences → sentence ≡ get_or sentences i sentence → IsValidSentence signature (formula_tree sentence.formula)
next_valid signature [] i sentence valid l e = absurd (omega (arith, l))
next_valid signature (s ∷ sentences) zero sentence valid l e =
    let P : Sentence → Type 0 = λ x. IsValidSentence signature (formula_tree x.formula) in
    subst P (sym e) (all_head (IsValidSentence signature) (formula_tree s.formula) (sentence_trees sentences) valid)
next_valid signature (s ∷ sentences) (suc i) sentence valid l e =
    next_valid signature sentences i sentence (all_tail (IsValidSentence signature) (formula_tree s.formula) (sentence_trees sentences) valid) (omega (arith, l)) e

-- the next sentence, before those that follow
pub next_sentence : (sentences : List Sentence) (i : ℕ) (sentence : Sentence) → i < length sentences → sentence ≡ get_or sentences i sentence → sentence_trees (drop i sentences) ≡ formula_tree sentence.formula ∷ sentence_trees (drop (i + 1) sentences)
next_sentence sentences i sentence l e =
    let front : drop i sentences ≡ sentence ∷ drop (i + 1) sentences = rw (add-one i) (drop-cons sentences i sentence l ∙ ap (λ (s : Sentence). s ∷ drop (suc i) sentences) (sym e)) in
    ap sentence_trees front

no_bit : (n k : ℕ) → unwrap_or (slice_get (replicate n false) k) false ≡ false
no_bit zero k = refl
no_bit (suc n) zero = refl
no_bit (suc n) (suc k) = no_bit n k

-- where no bit is set, no atom is true
pub nothing_true : (universe : Universe) (n p : ℕ) (vs : List ℤ) → structure_of universe (replicate n false) p vs ≡ false
nothing_true universe n p vs = by_number (number_of universe p vs) refl
  where
    by_number : (o : Option ℕ) → number_of universe p vs ≡ o → structure_of universe (replicate n false) p vs ≡ false
    by_number None e = rw e refl
    by_number (Some k) e = rw e (no_bit n k)

-- what sentences support are tuples of the domains
pub supported_inside : (signature : Signature) → IsSignature signature → (m : Structure) (fs : List Formula) → AreValidSentences signature fs → (p : ℕ) (vs : List ℤ) → is_supported (universe_of signature) m fs p vs ≡ true → IsTuple (universe_of signature) p vs
supported_inside signature valid m [] all p vs h = cc
supported_inside signature valid m (f ∷ fs) all p vs h =
    or_cases (IsTuple (universe_of signature) p vs) (supports (universe_of signature) m p vs [] f) (is_supported (universe_of signature) m fs p vs)
    (λ e. supported_tuple signature valid m p vs f (all_head (IsValidSentence signature) f fs all).sentence e)
    (λ e. supported_inside signature valid m fs (all_tail (IsValidSentence signature) f fs all) p vs e) h

-- a tuple of the domains, or none
pub tuple_cases : (universe : Universe) (P : Type 0) (p : ℕ) (vs : List ℤ) → (IsTuple universe p vs → P) → ((IsTuple universe p vs → ⊥) → P) → P
tuple_cases universe P p vs f g =
    test_cases P (nat_lt p (length universe.predicates)) (λ h. by_rank h (tuple_rank universe (row_of universe.predicates p) vs) refl) (λ h. g (λ t. let i = t.0 in absurd (grind (arith, nat_tests))))
  where
    by_rank : nat_lt p (length universe.predicates) ≡ true → (o : Option ℕ) → tuple_rank universe (row_of universe.predicates p) vs ≡ o → P
    by_rank h (Some k) e = f (grind (arith, nat_tests), (k, e))
    by_rank h None e = g (λ t. let i = t.1.1 in cc)

false_if : (b : Bool) → (b ≡ true → ⊥) → b ≡ false
false_if true f = absurd (f refl)
false_if false f = refl

pub no_more : (sentences : List Sentence) (i : ℕ) → length sentences ≤ i → sentence_trees (drop i sentences) ≡ []
no_more [] zero l = refl
no_more [] (suc i) l = refl
no_more (s ∷ sentences) zero l = absurd (omega (arith, l))
no_more (s ∷ sentences) (suc i) l = no_more sentences i (omega (arith, l))

-- the structure in which no atom is true, of the same signature
pub blank_of : (a b : Signature) (bits : List Bool) → a ≡ b → bits ≡ replicate (length (all_atoms (universe_of a))) false → bits ≡ replicate (length (all_atoms (universe_of b))) false
blank_of a b bits e h = let P : Signature → Type 0 = λ s. bits ≡ replicate (length (all_atoms (universe_of s))) false in subst P e h

pub blank_size : (bits : List Bool) (n : ℕ) → bits ≡ replicate n false → length bits ≡ n
blank_size bits n h = ap length h ∙ length-replicate n false

-- ---- truths of all atoms are a structure

one_below : (from n p : ℕ) → is_one_of (range_with_len from n) p ≡ true → p < from + n
one_below from zero p h = cc
one_below from (suc n) p h =
    or_cases (p < from + suc n) (from == p) (is_one_of (range_with_len (from + 1) n) p) (λ e. let same : from ≡ p = same_number from p e in omega (arith, same)) (λ e. omega (arith, one_below (from + 1) n p e)) h

known_effect : (n p : ℕ) → 6 ≤ n → is_one_of (3 ∷ 4 ∷ 5 ∷ []) p ≡ true → p < n
known_effect n p l h =
    or_cases (p < n) (3 == p) (is_one_of (4 ∷ 5 ∷ []) p) (λ e. let same : 3 ≡ p = same_number 3 p e in omega (arith, same, l))
    (λ e. or_cases (p < n) (4 == p) (is_one_of (5 ∷ []) p) (λ f. let same : 4 ≡ p = same_number 4 p f in omega (arith, same, l))
    (λ f. or_cases (p < n) (5 == p) false (λ g. let same : 5 ≡ p = same_number 5 p g in omega (arith, same, l)) (λ g. cc) f) e) h

known_in_order : (universe : Universe) (p : ℕ) → 6 ≤ length universe.predicates → is_one_of (predicates_in_order universe) p ≡ true → p < length universe.predicates
known_in_order universe p l h =
    let n = length universe.predicates in
    or_cases (p < n) (0 == p) (is_one_of (1 ∷ 2 ∷ declared universe ++ 3 ∷ 4 ∷ 5 ∷ []) p) (λ e. let same : 0 ≡ p = same_number 0 p e in omega (arith, same, l))
    (λ e. or_cases (p < n) (1 == p) (is_one_of (2 ∷ declared universe ++ 3 ∷ 4 ∷ 5 ∷ []) p) (λ f. let same : 1 ≡ p = same_number 1 p f in omega (arith, same, l))
    (λ f. or_cases (p < n) (2 == p) (is_one_of (declared universe ++ 3 ∷ 4 ∷ 5 ∷ []) p) (λ g. let same : 2 ≡ p = same_number 2 p g in omega (arith, same, l))
    (λ g. or_cases (p < n) (is_one_of (declared universe) p) (is_one_of (3 ∷ 4 ∷ 5 ∷ []) p) (λ i. omega (arith, one_below built_in (n - built_in) p i, l)) (λ i. known_effect n p l i) (sym (list_any-append (λ q. q == p) (declared universe) (3 ∷ 4 ∷ 5 ∷ [])) ∙ g)) f) e) h

after_all : (universe : Universe) (qs : List ℕ) (p : ℕ) → is_one_of qs p ≡ false → atoms_before universe qs p ≡ total universe qs
after_all universe [] p h = refl
after_all universe (q ∷ qs) p h =
    test_cases (atoms_before universe (q ∷ qs) p ≡ total universe (q ∷ qs)) (q == p) (λ e. let t : true ≡ false = sym (or_left (q == p) (is_one_of qs p) e) ∙ h in cc)
    (λ e. let rest : is_one_of qs p ≡ false = rw e at h in rw e (ap (λ n. tuples_of universe q + n) (after_all universe qs p rest)))

pub is_structure : (universe : Universe) (bits : List Bool) → 6 ≤ length universe.predicates → length bits ≡ length (all_atoms universe) → IsStructure universe (structure_of universe bits)
is_structure universe bits six size p vs h = by_rank (tuple_rank universe (row_of universe.predicates p) vs) refl
  where
    by_rank : (o : Option ℕ) → tuple_rank universe (row_of universe.predicates p) vs ≡ o → IsTuple universe p vs
    by_rank None e =
        let none : number_of universe p vs ≡ None = rw e refl in
        let f : structure_of universe bits p vs ≡ false = structure_none universe bits p vs none in
        cc
    by_rank (Some j) e =
        test_cases (IsTuple universe p vs) (is_one_of (predicates_in_order universe) p) (λ t. (known_in_order universe p six t, (j, e)))
        (λ t.
        let at = numbered universe p vs j e in
        let far = after_all universe (predicates_in_order universe) p t in
        let past : length bits ≤ atoms_before universe (predicates_in_order universe) p + j = omega (arith, size, far, all_count universe) in
        let f : structure_of universe bits p vs ≡ false = structure_at universe bits p vs (atoms_before universe (predicates_in_order universe) p + j) at ∙ ap (λ o. unwrap_or o false) (slice_get_past bits (atoms_before universe (predicates_in_order universe) p + j) past) in
        cc)

-- the marks of all sentences are what they support
pub marked_all : (signature : Signature) → IsSignature signature → (m : Structure) (fs : List Formula) (n : ℕ) (bits : List Bool) → AreValidSentences signature fs → length bits ≡ length (all_atoms (universe_of signature)) → Comes (universe_of signature) (structure_of (universe_of signature) bits) (supported_by_sentences (universe_of signature) m []) (structure_of (universe_of signature) (replicate n false)) (supported_by_sentences (universe_of signature) m fs)
    → (p : ℕ) (vs : List ℤ) → structure_of (universe_of signature) bits p vs ≡ is_supported (universe_of signature) m fs p vs
marked_all signature valid m fs n bits all size comes p vs =
    let universe = universe_of signature in
    let joins = comes_end universe (structure_of universe bits) (structure_of universe (replicate n false)) (supported_by_sentences universe m []) (supported_by_sentences universe m fs) (λ q us. refl) comes in
    tuple_cases universe (structure_of universe bits p vs ≡ is_supported universe m fs p vs) p vs
    (λ t. joins.joined p vs t ∙ ap (λ b. b || is_supported universe m fs p vs) (nothing_true universe n p vs))
    (λ out. false_if (structure_of universe bits p vs) (λ e. out (is_structure universe bits (six_predicates signature valid) size p vs e)) ∙ sym (false_if (is_supported universe m fs p vs) (λ e. out (supported_inside signature valid m fs all p vs e))))
