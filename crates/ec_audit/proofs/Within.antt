-- Where there is room for the atoms that have a variable, there is for all that trees and definitions speak of.
use Rattle.std.proofs.Common.{◌≡◌, ℕ, zero, suc, ◌+◌, ◌-◌, ◌<◌, ◌≤◌, List, length, map, get_or, All, Contains, Some, slice_get, refl, sym, subst, inl, inr, arith}
use Rattle.std.specs.List.Sorted.{IsStrictlyIncreasing}
use Rattle.std.proofs.lemmas.Bool.{cases_lt}
use Rattle.std.proofs.lemmas.List.Kept.{AllPairs-from_increasing}
use Rattle.std.proofs.lemmas.Option.{get_or_from_slice_get}
use Rattle.std.proofs.lemmas.List.{get_or-map, length-map}
use Rattle.std.proofs.lemmas.List.Elements.{All-weaker}
use Rattle.ec_folding.specs.Tree.{EachAtom}
use Rattle.ec_folding.specs.Definition.{Definition}
use Rattle.ec_prop.specs.Grounded.{IsGrounded, sentences_of, definitions_of}
use Rattle.ec_prop.specs.declared.ground.Grounded.{Grounded}
use Rattle.ec_audit.specs.Ground.{HasRoom}
use Rattle.ec_audit.specs.Fillable.{IsWithin}
use Rattle.ec_audit.proofs.TreeAtoms.{each_weaker}

-- what is said of each image of a list is said of the image of each item
each_image : {A B : Type 0} (P : B → Type 0) (f : A → B) (xs : List A) → All P (map f xs) → All (λ x. P (f x)) xs
each_image P f xs h k d l = subst P (get_or-map f xs k d (f d) l) (h k (f d) (omega (arith, l, length-map xs f)))

module _ (size visible : ℕ) (g : Grounded) (grounded : IsGrounded g visible) (room : HasRoom size g) where
  low : (a : ℕ) → Contains g.variables.items a → a < size
  low a there = subst (λ b. b < size) there.2 (room there.0 a there.1)

  pub sentences_within : All (EachAtom (λ a. a < size)) (sentences_of g)
  sentences_within = All-weaker (EachAtom (Contains g.variables.items)) (EachAtom (λ a. a < size)) (each_weaker (Contains g.variables.items) (λ a. a < size) low) (sentences_of g) grounded.sentence_atoms

  pub definitions_within : All (IsWithin size) (definitions_of g.definitions.items)
  definitions_within k d l =
      let ds = definitions_of g.definitions.items in
      let defined = each_image (Contains g.variables.items) (λ (x : Definition). x.atom) ds grounded.defined_atoms in
      let scopes = each_image (EachAtom (Contains g.variables.items)) (λ (x : Definition). x.scope) ds grounded.scope_atoms in
      (low (get_or ds k d).atom (defined k d l), each_weaker (Contains g.variables.items) (λ a. a < size) low (get_or ds k d).scope (scopes k d l))

  pub visible_within : visible ≤ size
  visible_within = by_count visible refl
    where
      by_count : (n : ℕ) → n ≡ visible → n ≤ size
      by_count zero is = omega arith
      by_count (suc n) is = let there = low n (grounded.visible_atoms n (omega (arith, is))) in omega (arith, there)

-- numbers that rise are below the one behind the last
pub rising_below : (xs : List ℕ) (last size : ℕ) → IsStrictlyIncreasing xs → Some last ≡ slice_get xs (length xs - 1) → size ≡ last + 1 → All (λ a. a < size) xs
rising_below xs last size rises is next k d l =
    let at : get_or xs (length xs - 1) d ≡ last = get_or_from_slice_get xs (length xs - 1) last d (sym is) in
    elim (cases_lt k (length xs - 1)) [
      | inl before ↦ (let below = AllPairs-from_increasing xs rises k (length xs - 1) d before (omega (arith, l)) in omega (arith, below, at, next))
      | inr far ↦ (let same : k ≡ length xs - 1 = omega (arith, l, far) in rw same (omega (arith, at, next)))
    ]
