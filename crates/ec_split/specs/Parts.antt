-- A theory by its lists, each sentence with its place.
use Rattle.std.specs.Prelude.{ℕ, List, map}
use Rattle.ec_logic.specs.Signature.{Signature}
use Rattle.ec_theory.specs.declared.theory.Sentence.{Sentence}
use Rattle.ec_theory.specs.declared.theory.Group.{Group}
use Rattle.ec_theory.specs.declared.theory.Theory.{Theory}

pub record GroupParts : Type 0 where
  pub name : List ℕ
  pub predicates : List ℕ
  pub sentences : List Sentence

pub record Parts : Type 0 where
  pub signature : Signature
  pub remaining : List Sentence
  pub groups : List GroupParts

abbrev pub group_parts : Group → GroupParts
group_parts group = record { name = group.name; predicates = group.predicates.items; sentences = group.sentences.items }

abbrev pub parts_of : Theory → Parts
parts_of theory = record { signature = theory.signature; remaining = theory.remaining.items; groups = map group_parts theory.groups.items }
