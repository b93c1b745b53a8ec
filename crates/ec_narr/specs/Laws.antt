-- Laws of narratives and lists.
use Rattle.std.specs.Prelude.{◌≡◌, ℕ, Bool, List, length}
use Rattle.std.specs.List.{AllByRecursion}
use Rattle.ec_logic.specs.Listing.{Ending, list_text, IsRising}
use Rattle.ec_logic.specs.Signature.{Signature}
use Rattle.ec_logic.specs.Valid.{IsSignature}
use Rattle.ec_listing.specs.Reading.{IsFitting, narrative_of, HasNumber, Answer, listed, IsReadAs}

-- a text is the narrative of one truth that fits, at most
abbrev pub HaveOneTruth : Type 0
HaveOneTruth = (signature : Signature) (number other : ℕ) (truth found : List Bool) → IsSignature signature → IsFitting signature truth → IsFitting signature found
    → narrative_of signature number truth ≡ narrative_of signature other found → truth ≡ found

-- bytes come to one answer at most
abbrev pub IsOneAnswer : Type 0
IsOneAnswer = (signature : Signature) (bytes : List ℕ) (a b : Answer) → IsSignature signature → IsReadAs signature bytes a → IsReadAs signature bytes b → a ≡ b

-- the text of truths that fit and rise, with an ending that has the right number, is read as their list
abbrev pub AreReadBack : Type 0
AreReadBack = (signature : Signature) (truths : List (List Bool)) (ending : Ending) → IsSignature signature → AllByRecursion (IsFitting signature) truths → IsRising truths → HasNumber (length truths) ending
    → IsReadAs signature (list_text signature truths ending) (listed truths ending)
