-- How a list text is read.
use Rattle.std.specs.Prelude.{◌≡◌, ◌≢◌, ◌+◌, ◌<◌, ◌≤◌, ℕ, Bool, List, [], ◌++◌, length, Option, MatchOption, Result, Ok, Err}
use denote.Ref.{Bor}
use Rattle.ec_logic.specs.Atom.{visible_atoms}
use Rattle.ec_logic.specs.Listing as listing
use Rattle.ec_logic.specs.Narrative.{line}
use Rattle.ec_logic.specs.Signature.{Signature}
use Rattle.ec_logic.specs.Universe.{universe_of}
use Rattle.ec_listing.specs.Slots.{Slot, slots_of}
use Rattle.ec_listing.specs.Apart.{IsToldBySlots}
use Rattle.ec_listing.specs.Endings.{list_ending}
use Rattle.ec_listing.specs.Reading.{model_text, line_count, IsLast, IsWhole, ComesAfter, listed, faulty, IsReadFrom, IsReadAs}
use Rattle.ec_listing.specs.Reading as listing_answer
use Rattle.ec_listing.specs.Passing.{IsReached, IsBroken}
use Rattle.ec_narr.specs.declared.passing.Narrative.{Narrative}
use Rattle.ec_narr.specs.declared.passing.Narrative.TheVariants.{Whole, Broken}
use Rattle.ec_narr.specs.declared.juncture.Juncture.{Juncture}
use Rattle.ec_narr.specs.declared.juncture.Juncture.TheVariants as juncture
use Rattle.ec_narr.specs.declared.reading.Next.{Next}
use Rattle.ec_narr.specs.declared.reading.Next.TheVariants as next
use Rattle.ec_narr.specs.declared.reading.Answer.{Answer}
use Rattle.ec_narr.specs.declared.reading.Answer.TheVariants as answer
use Rattle.ec_narr.specs.declared.listed.Listed.{Listed}
use Rattle.ec_narr.specs.declared.listed.ListFault.{ListFault}
use Rattle.ec_narr.specs.declared.listed.ListFault.TheVariants as fault

-- what stands behind a line that the bytes begin with, or none where they don't
abbrev pub StandsBehind : List ℕ → List ℕ → Option (Bor (List ℕ)) → Type 0
StandsBehind text bytes behind = MatchOption behind ((more : List ℕ) → bytes ≢ line text ++ more) (λ rest. bytes ≡ line text ++ rest.now)

-- what was read by slots
abbrev pub IsNarrative : ℕ → List Slot → List ℕ → List Bool → Narrative → Type 0
IsNarrative visible slots bytes row (Whole rest) = IsReached visible slots slots [] row bytes rest.now
IsNarrative visible slots bytes row (Broken rest) = IsBroken visible slots row bytes rest.now

-- what stands at the place of a `model` line, behind so many narratives
abbrev pub IsJuncture : ℕ → List ℕ → Juncture → Type 0
IsJuncture count bytes (juncture.Last ending rest) = IsLast count bytes (list_ending ending) rest.now
IsJuncture count bytes (juncture.Model rest) = bytes ≡ line (model_text (count + 1)) ++ rest.now
IsJuncture count bytes juncture.Neither =
    ((ending : listing.Ending) (rest : List ℕ) → IsLast count bytes ending rest → ⊥) × ((rest : List ℕ) → bytes ≢ line (model_text (count + 1)) ++ rest)

-- These slots and so many visible atoms are those of a signature.
pub record IsReaderOf (signature : Signature) (slots : List Slot) (visible : ℕ) : Type 0 where
  pub told : IsToldBySlots signature
  pub are : slots ≡ slots_of signature
  pub count : visible ≡ length (visible_atoms (universe_of signature))

-- The rest begins with the first faulty line.
pub record IsFaultAt (signature : Signature) (before : List (List Bool)) (bytes rest : List ℕ) : Type 0 where
  pub front : List ℕ
  pub parts : bytes ≡ front ++ rest
  pub says : (number : ℕ) → IsReadFrom signature before number bytes (faulty (number + line_count front))

-- A whole narrative of a truth that may come next.
pub record IsModelNext (signature : Signature) (before : List (List Bool)) (bytes : List ℕ) (truth : List Bool) (rest : List ℕ) : Type 0 where
  pub front : List ℕ
  pub whole : IsWhole signature (length before + 1) bytes front rest truth
  pub after : rest ≢ [] → ComesAfter before truth

-- what bytes go on with behind these truths
abbrev pub IsNext : Signature → List (List Bool) → List ℕ → Next → Type 0
IsNext signature before bytes (next.End ending) = (number : ℕ) → IsReadFrom signature before number bytes (listed before (list_ending ending))
IsNext signature before bytes (next.Fault rest) = IsFaultAt signature before bytes rest.now
IsNext signature before bytes (next.Model truth rest) = IsModelNext signature before bytes truth rest.now

-- what is left of the bytes
abbrev pub IsWithinBytes : ℕ → List ℕ → Next → Type 0
IsWithinBytes visible bytes (next.End ending) = Unit {0}
IsWithinBytes visible bytes (next.Fault rest) = length rest.now ≤ length bytes
IsWithinBytes visible bytes (next.Model truth rest) = (length truth ≡ visible) × (length rest.now < length bytes)

-- Bytes were read up to the rest, behind these truths: what it comes to, all comes to.
pub record IsReadTo (signature : Signature) (before : List (List Bool)) (bytes rest : List ℕ) : Type 0 where
  pub front : List ℕ
  pub parts : bytes ≡ front ++ rest
  pub on : (answer : listing_answer.Answer) → IsReadFrom signature before (1 + line_count front) rest answer → IsReadAs signature bytes answer

abbrev pub IsAnswered : Signature → List ℕ → Answer → Type 0
IsAnswered signature bytes (answer.List found) = IsReadAs signature bytes (listed found.models.items (list_ending found.ending))
IsAnswered signature bytes (answer.Faulty number) = IsReadAs signature bytes (faulty number)

-- The truths and the ending that bytes tell, or their first faulty line; want of memory says nothing of them.
abbrev pub IsRead : Signature → List ℕ → Result Listed ListFault → Type 0
IsRead signature bytes (Ok found) = IsReadAs signature bytes (listed found.models.items (list_ending found.ending))
IsRead signature bytes (Err (fault.Line number)) = IsReadAs signature bytes (faulty number)
IsRead signature bytes (Err fault.Memory) = Unit {0}
