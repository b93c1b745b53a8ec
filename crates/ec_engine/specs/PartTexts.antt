-- How the parts of a theory are named.
use Rattle.std.specs.Prelude.{ℕ, ◌+◌, ◌||◌, not, codes, decimal, List, [], ◌++◌, filter, Option, Some, None, slice_get}
use Rattle.ec_logic.specs.Signature.{Signature, SymbolRow}
use Rattle.ec_minimal.specs.declared.verdict.Part.{Part}
use Rattle.ec_minimal.specs.declared.verdict.Part.TheVariants as part
use Rattle.ec_split.specs.Parts.{GroupParts, Parts}
use Rattle.ec_theory.specs.declared.theory.Sentence.{Sentence}

-- the fluents that have a release axiom: all, or the noninertial ones where the others are released by hand
abbrev pub released_fluents : Signature → List SymbolRow
released_fluents signature = filter (λ (row : SymbolRow). row.noninertial || not signature.manual_release) signature.fluents

abbrev pub sentence_place : Option Sentence → List ℕ
sentence_place None = []
sentence_place (Some sentence) = sentence.file ++ codes ":" ++ decimal sentence.line

abbrev pub symbol_of : Option SymbolRow → List ℕ
symbol_of None = []
symbol_of (Some row) = row.name

abbrev pub group_of : Option GroupParts → List ℕ
group_of None = []
group_of (Some group) = group.name

-- a remaining sentence by its file and line, an axiom by its name, a release axiom by its fluent, a group by its name
abbrev pub part_text : Parts → Part → List ℕ
part_text parts (part.Remaining place) = sentence_place (slice_get parts.remaining place)
part_text parts (part.Axiom place) = codes "DEC" ++ decimal (place + 5)
part_text parts (part.Release place) = codes "release " ++ symbol_of (slice_get (released_fluents parts.signature) place)
part_text parts (part.Group place) = codes "group " ++ group_of (slice_get parts.groups place)
