-- The effects are the atoms of the first group.
use Rattle.std.proofs.Common.{◌≡◌, ◌<◌, ℕ, List, [], ◌∷◌, length, map, Some, slice_get, Result, Ok, Err, ℤ, ap, arith}
use Rattle.std.specs.Result.{OnOk}
use Rattle.ec_logic.specs.Tree.{Formula}
use Rattle.ec_logic.specs.Signature.{Signature}
use Rattle.ec_logic.specs.Universe.{universe_of}
use Rattle.ec_logic.specs.Truth.{Structure}
use Rattle.ec_logic.specs.Theory.{Group}
use Rattle.ec_logic.specs.Completed.{filled}
use Rattle.ec_logic.specs.ValidTheory.{BeginsWithEffects}
use Rattle.ec_theory.specs.declared.theory.Group as declared
use Rattle.ec_theory.specs.Theories.{group_of}
use Rattle.ec_minimal.specs.Effects.{with_effects}

pub effects_first : (signature : Signature) (sentences : List Formula) (groups : List Group) (group : Group) (m : Structure) → slice_get groups 0 ≡ Some group → (p : ℕ) (vs : List ℤ) → with_effects (record { signature = signature; remaining = sentences; groups = groups }) m p vs ≡ filled (universe_of signature) group m p vs
effects_first signature sentences [] group m e p vs = cc
effects_first signature sentences (first ∷ groups) group m e p vs = let same : first ≡ group = cc in ap (λ g. filled (universe_of signature) g m p vs) same

-- a theory that begins with the effects has a first group
pub some_group : (groups : List declared.Group) → BeginsWithEffects (map group_of groups) → 0 < length groups
some_group [] begins = absurd begins
some_group (group ∷ groups) begins = omega arith

pub on_ok_map : {X E : Type 0} (r : Result X E) (P Q : Type 0) → OnOk r P → (P → Q) → OnOk r Q
on_ok_map (Ok x) P Q h f = f h
on_ok_map (Err e) P Q h f = tt
