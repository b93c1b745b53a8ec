-- How the bytes of a list are read: the truths and the ending that they tell, or the first line that is faulty.
use Rattle.std.specs.Prelude.{◌≡◌, ◌≢◌, ℕ, ◌+◌, ◌≤◌, ◌<◌, ◌^◌, ◌⊎◌, ◌==◌, codes, decimal, ℤ, Bool, true, List, [], ◌∷◌, ◌++◌, length, count_by, All, Contains}
use Rattle.ec_logic.specs.Signature.{Signature, time_sort, fluent_sort, released_at}
use Rattle.ec_logic.specs.Universe.{universe_of, domain}
use Rattle.ec_logic.specs.Atom.{visible_atoms, structure_of}
use Rattle.ec_logic.specs.Narrative.{narrative, line, is_noninertial}
use Rattle.ec_logic.specs.Listing.{Ending, complete, models, conflicts, ending_text, Precedes}

-- ---- narratives of truths that fit

-- A truth of the visible atoms fits where each noninertial fluent is released at each time. It need not be that of a minimal model.
pub record IsFitting (signature : Signature) (truth : List Bool) : Type 0 where
  pub whole : length truth ≡ length (visible_atoms (universe_of signature))
  pub released : (f t : ℤ) → Contains (domain (universe_of signature) fluent_sort) f → Contains (domain (universe_of signature) time_sort) t → is_noninertial signature f ≡ true
      → structure_of (universe_of signature) truth released_at (f ∷ t ∷ []) ≡ true

-- the narrative of a truth under a number
abbrev pub narrative_of : Signature → ℕ → List Bool → List ℕ
narrative_of signature number truth = narrative signature (structure_of (universe_of signature) truth) number

-- the first line of a narrative, without its byte 10
abbrev pub model_text : ℕ → List ℕ
model_text number = codes "model " ++ decimal number ++ codes ":"

-- A narrative of this number, of a truth that fits, begins with this text.
pub record IsBegun (signature : Signature) (number : ℕ) (front : List ℕ) : Type 0 where
  pub truth : List Bool
  pub fits : IsFitting signature truth
  pub rest : List ℕ
  pub is : narrative_of signature number truth ≡ front ++ rest

-- ---- lines

-- a line's text has no byte 10
abbrev pub IsLineText : List ℕ → Type 0
IsLineText text = All (λ b. b ≢ 10) text

-- whole lines: none, or what ends with a byte 10
abbrev pub AreLines : List ℕ → Type 0
AreLines front = (front ≡ []) ⊎ ((text : List ℕ) × (front ≡ text ++ 10 ∷ []))

-- how many lines are ended
abbrev pub line_count : List ℕ → ℕ
line_count bytes = count_by (λ b. b == 10) bytes

-- The longest front of the bytes, of whole lines, with which a narrative of this number begins, and what stands behind it.
pub record IsLongest (signature : Signature) (number : ℕ) (bytes front rest : List ℕ) : Type 0 where
  pub parts : bytes ≡ front ++ rest
  pub lines : AreLines front
  pub begun : IsBegun signature number front
  pub longest : (text more : List ℕ) → IsLineText text → rest ≡ line text ++ more → IsBegun signature number (front ++ line text) → ⊥

-- The longest front is the whole narrative of a truth that fits.
pub record IsWhole (signature : Signature) (number : ℕ) (bytes front rest : List ℕ) (truth : List Bool) : Type 0 where
  pub longest : IsLongest signature number bytes front rest
  pub fits : IsFitting signature truth
  pub is : front ≡ narrative_of signature number truth

-- ---- lists

-- the number of an ending is right behind so many narratives
abbrev pub HasNumber : ℕ → Ending → Type 0
HasNumber count (complete n) = (n ≡ count) × (n < 2 ^ 64)
HasNumber count (models n) = (n ≡ count) × (1 ≤ n) × (n < 2 ^ 64)
HasNumber count (conflicts n) = (1 ≤ n) × (n < 2 ^ 64)

-- The bytes begin with a list's last line, with the right number behind so many narratives, and go on so.
pub record IsLast (count : ℕ) (bytes : List ℕ) (ending : Ending) (rest : List ℕ) : Type 0 where
  pub number : HasNumber count ending
  pub is : bytes ≡ line (ending_text ending) ++ rest

-- a truth is greater than the last of those before it, if there is one
abbrev pub ComesAfter : List (List Bool) → List Bool → Type 0
ComesAfter [] truth = Unit {0}
ComesAfter (earlier ∷ []) truth = Precedes earlier truth
ComesAfter (earlier ∷ next ∷ more) truth = ComesAfter (next ∷ more) truth

-- What a text comes to: the truths and the ending of a list, or its first faulty line, from 1.
pub data Answer : Type 0 where
  listed : (truths : List (List Bool)) (ending : Ending) → Answer
  faulty : (number : ℕ) → Answer

-- What bytes come to at the place of a `model` line, where the truths of the narratives before it and the line's number are given.
pub data IsReadFrom (signature : Signature) : List (List Bool) → ℕ → List ℕ → Answer → Type 0 where
  -- a last line, and nothing behind it
  ends : {before : List (List Bool)} {here : ℕ} {bytes : List ℕ} (ending : Ending) → IsLast (length before) bytes ending [] → IsReadFrom signature before here bytes (listed before ending)
  -- a last line, and something behind it
  goes_past : {before : List (List Bool)} {here : ℕ} {bytes : List ℕ} (ending : Ending) (rest : List ℕ) → IsLast (length before) bytes ending rest → rest ≢ []
      → IsReadFrom signature before here bytes (faulty (here + 1))
  -- neither a last line nor the next `model` line, or nothing at all
  neither : {before : List (List Bool)} {here : ℕ} {bytes : List ℕ} → ((ending : Ending) (rest : List ℕ) → IsLast (length before) bytes ending rest → ⊥)
      → ((rest : List ℕ) → bytes ≢ line (model_text (length before + 1)) ++ rest) → IsReadFrom signature before here bytes (faulty here)
  -- a narrative that no truth goes on with
  breaks : {before : List (List Bool)} {here : ℕ} {bytes : List ℕ} (front rest : List ℕ) → IsLongest signature (length before + 1) bytes front rest → front ≢ []
      → ((truth : List Bool) → IsFitting signature truth → front ≢ narrative_of signature (length before + 1) truth) → IsReadFrom signature before here bytes (faulty (here + line_count front))
  -- a whole narrative of a truth that isn't greater than the one before it; at the end of the bytes it isn't compared
  falls : {before : List (List Bool)} {here : ℕ} {bytes : List ℕ} (front rest : List ℕ) (truth : List Bool) → IsWhole signature (length before + 1) bytes front rest truth → rest ≢ []
      → (ComesAfter before truth → ⊥) → IsReadFrom signature before here bytes (faulty here)
  -- a whole narrative, and what comes behind it
  goes_on : {before : List (List Bool)} {here : ℕ} {bytes : List ℕ} {answer : Answer} (front rest : List ℕ) (truth : List Bool) → IsWhole signature (length before + 1) bytes front rest truth
      → (rest ≢ [] → ComesAfter before truth) → IsReadFrom signature (before ++ truth ∷ []) (here + line_count front) rest answer → IsReadFrom signature before here bytes answer

-- What a text comes to.
abbrev pub IsReadAs : Signature → List ℕ → Answer → Type 0
IsReadAs signature bytes answer = IsReadFrom signature [] 1 bytes answer
