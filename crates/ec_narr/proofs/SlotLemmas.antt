-- Slots one after the other.
use Rattle.std.proofs.Common.{◌≡◌, ℕ, ◌+◌, ◌≤◌, ℤ, List, [], ◌∷◌, ◌++◌, length, map, drop, slice_get, unwrap_or, Some, refl, sym, ap, ◌∙◌, arith, append_assoc, codes}
use Rattle.std.specs.List.{range_with_len}
use Rattle.std.proofs.lemmas.List.{append-nil}
use Rattle.std.proofs.lemmas.List.FromFn.{map-range_with_len_more}
use Rattle.ec_listing.specs.Slots as listing
use Rattle.ec_logic.specs.Atom.{GroundAtom, visible_atoms}
use Rattle.ec_logic.specs.Narrative.{atom_text}
use Rattle.ec_logic.specs.Signature.{Signature}
use Rattle.ec_logic.specs.Universe.{universe_of}
use Rattle.ec_logic.specs.Valid.{IsSignature}
use Rattle.ec_logic.proofs.FewAtoms.{six_predicates}
use Rattle.ec_atom.proofs.AtomLaws.{visible_numbered}
use Rattle.ec_narr.specs.Slots.{slot_view, slots_view}
use Rattle.ec_narr.specs.declared.slot.Slot.{Slot}
use Rattle.ec_narr.proofs.PredicateLemmas.{drop_item, drop_all}

map_push : {A B : Type 0} (f : A → B) (xs : List A) (x : A) → map f (xs ++ x ∷ []) ≡ map f xs ++ f x ∷ []
map_push f [] x = refl
map_push f (y ∷ xs) x = ap (λ ys. f y ∷ ys) (map_push f xs x)

-- one slot more
pub pushed : (old new : List Slot) (slot : Slot) (shown : listing.Slot) → new ≡ old ++ slot ∷ [] → slot_view slot ≡ shown → slots_view new ≡ slots_view old ++ shown ∷ []
pushed old new slot shown e f = ap slots_view e ∙ (map_push slot_view old slot ∙ ap (λ s. slots_view old ++ s ∷ []) f)

module _ {X : Type 0} (value : ℕ → ℤ) (F : ℤ → X) (old : List X) where
  pub next_slot : (k : ℕ) (out next : List X) → out ≡ old ++ map F (map value (range_with_len 0 k)) → next ≡ out ++ F (value k) ∷ [] → next ≡ old ++ map F (map value (range_with_len 0 (k + 1)))
  next_slot k out next e f =
      let more : map F (map value (range_with_len 0 (k + 1))) ≡ map F (map value (range_with_len 0 k)) ++ F (value k) ∷ [] = ap (map F) (map-range_with_len_more value 0 k k (omega arith)) ∙ map_push F (map value (range_with_len 0 k)) (value k) in
      f ∙ (ap (λ x. x ++ F (value k) ∷ []) e ∙ (append_assoc old (map F (map value (range_with_len 0 k))) (F (value k) ∷ []) ∙ ap (λ x. old ++ x) (sym more)))

  pub last_slot : (k n : ℕ) (out : List X) (all : List ℤ) → k ≡ n → all ≡ map value (range_with_len 0 n) → out ≡ old ++ map F (map value (range_with_len 0 k)) → out ≡ old ++ map F all
  last_slot k n out all e d f = f ∙ ap (λ xs. old ++ map F xs) (ap (λ m. map value (range_with_len 0 m)) e ∙ sym d)

module _ {X : Type 0} (F : GroundAtom → X) (atoms : List GroundAtom) (k : ℕ) where
  pub next_atom_slot : (atom : GroundAtom) (out next all : List X) → slice_get atoms k ≡ Some atom → out ++ map F (drop k atoms) ≡ all → next ≡ out ++ F atom ∷ [] → next ++ map F (drop (k + 1) atoms) ≡ all
  next_atom_slot atom out next all at left more =
      let split : map F (drop k atoms) ≡ F atom ∷ map F (drop (k + 1) atoms) = ap (map F) (drop_item atoms k atom at) in
      ap (λ x. x ++ map F (drop (k + 1) atoms)) more ∙ (append_assoc out (F atom ∷ []) (map F (drop (k + 1) atoms)) ∙ (ap (λ x. out ++ x) (sym split) ∙ left))

  pub last_atom_slot : (out all : List X) → length atoms ≤ k → out ++ map F (drop k atoms) ≡ all → out ≡ all
  last_atom_slot out all h left =
      let none : map F (drop k atoms) ≡ [] = ap (map F) (drop_all atoms k h) in
      sym (append-nil out) ∙ (ap (λ x. out ++ x) (sym none) ∙ left)

-- the slot of a visible atom
pub atom_slot_is : (signature : Signature) (k : ℕ) (atom : GroundAtom) (text : List ℕ) → IsSignature signature → slice_get (visible_atoms (universe_of signature)) k ≡ Some atom → text ≡ atom_text signature atom ++ codes "." → listing.told k text ≡ listing.atom_slot signature atom
atom_slot_is signature k atom text valid at is =
    let number : k ≡ listing.atom_number signature atom.predicate atom.args = ap (λ o. unwrap_or o 0) (sym (visible_numbered (universe_of signature) (six_predicates signature valid) k atom at)) in
    ap (λ n. listing.told n text) number ∙ ap (λ t. listing.told (listing.atom_number signature atom.predicate atom.args) t) is

pub four : {X : Type 0} (o a b c d : List X) → o ++ a ++ b ++ c ++ d ≡ o ++ (a ++ b ++ c ++ d)
four o a b c d = ap (λ x. x ++ c ++ d) (append_assoc o a b) ∙ (ap (λ x. x ++ d) (append_assoc o (a ++ b) c) ∙ append_assoc o (a ++ b ++ c) d)
