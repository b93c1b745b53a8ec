-- The groups of a valid theory support tuples of the domains alone.
use Rattle.std.proofs.Common.{◌≡◌, ℕ, suc, true, List, [], ◌∷◌, get_or, ℤ, All, arith}
use Rattle.ec_logic.specs.Tree.{Formula}
use Rattle.ec_logic.specs.Signature.{Signature}
use Rattle.ec_logic.specs.Theory.{Group, Theory}
use Rattle.ec_logic.specs.Truth.{Structure, IsTuple}
use Rattle.ec_logic.specs.Universe.{universe_of}
use Rattle.ec_logic.specs.Valid.{IsSignature}
use Rattle.ec_logic.specs.ValidTheory.{AreValidSentences, IsValidTheory}
use Rattle.ec_logic.specs.ClauseTree.{supports, is_supported}
use Rattle.ec_logic.proofs.Tests.{or_cases}
use Rattle.ec_supported.proofs.SupportedTuples.{supported_tuple}

-- what valid sentences support are tuples of the domains
sentences_support : (signature : Signature) → IsSignature signature → (m : Structure) (fs : List Formula) → AreValidSentences signature fs → (p : ℕ) (vs : List ℤ) → is_supported (universe_of signature) m fs p vs ≡ true → IsTuple (universe_of signature) p vs
sentences_support signature valid m [] all p vs h = cc
sentences_support signature valid m (f ∷ fs) all p vs h =
    or_cases (IsTuple (universe_of signature) p vs) (supports (universe_of signature) m p vs [] f) (is_supported (universe_of signature) m fs p vs)
    (λ e. supported_tuple signature valid m p vs f (all 0 f (omega arith)).sentence e)
    (λ e. sentences_support signature valid m fs (λ k d lt. all (suc k) d (omega (arith, lt))) p vs e) h

-- In each structure the sentences of each group support tuples of the domains alone.
pub groups_support_tuples : (theory : Theory) → IsValidTheory theory
    → All (λ (group : Group). (m : Structure) (p : ℕ) (vs : List ℤ) → is_supported (universe_of theory.signature) m group.sentences p vs ≡ true → IsTuple (universe_of theory.signature) p vs) theory.groups
groups_support_tuples theory valid k d lt m p vs h = sentences_support theory.signature valid.signature m (get_or theory.groups k d).sentences (valid.groups k d lt).sentences p vs h
