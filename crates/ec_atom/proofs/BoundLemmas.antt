-- Few visible atoms, and so few atoms.
use Rattle.std.proofs.Common.{◌≡◌, ℕ, ◌<◌, ◌≤◌, ◌^◌, nat_lt, Bool, true, false, List, length, sym, subst, ◌∙◌, arith}
use Rattle.std.proofs.lemmas.Bool.Decides.{nat_tests}
use Rattle.ec_logic.specs.Signature.{Signature}
use Rattle.ec_logic.specs.Universe.{universe_of}
use Rattle.ec_logic.specs.Atom.{all_atoms, visible_atoms, atoms_before, predicates_in_order, visible_predicates}
use Rattle.ec_logic.specs.Total.{total}
use Rattle.ec_logic.proofs.Numbering.{visible_count, all_count}
use Rattle.ec_logic.proofs.AtomOrder.{total_within, place_in_order}
use Rattle.ec_logic.proofs.FewAtoms.{few_atoms, six_predicates}
use Rattle.ec_theory.proofs.TableLemmas as theory
use Rattle.ec_atom.specs.declared.table.Values.{Values}
use Rattle.ec_atom.specs.declared.blocks.Blocks.{Blocks}
use Rattle.ec_atom.specs.Numbering.{IsNumbering}
use Rattle.ec_atom.proofs.NumberLemmas.{first_in_order}

module _ (signature : Signature) (tables : List Values) (events fluents predicates : Blocks) (numbering : IsNumbering signature tables events fluents predicates) where
  few_in_all : total (universe_of signature) (predicates_in_order (universe_of signature)) < 2 ^ 62
  few_in_all = few_atoms signature numbering.valid numbering.few

  pub all_few : length (all_atoms (universe_of signature)) < 2 ^ 62
  all_few = rw (all_count (universe_of signature)) few_in_all

  pub visible_few : length (visible_atoms (universe_of signature)) ≤ 262144
  visible_few = rw (visible_count (universe_of signature)) numbering.few

  pub first_few : (p : ℕ) → p < length signature.predicates → atoms_before (universe_of signature) (predicates_in_order (universe_of signature)) p < 2 ^ 62
  first_few p h =
      let e = first_in_order signature (theory.six_predicates signature numbering.valid) p h in
      let w = total_within (universe_of signature) (six_predicates signature numbering.valid) (place_in_order (length signature.predicates) p) in
      let f = few_in_all in
      rw (← e) (omega (arith, w, f))

pub many_yes : (signature : Signature) (b : Bool) → b ≡ nat_lt 262144 (total (universe_of signature) (visible_predicates (universe_of signature))) → b ≡ true → 262144 < length (visible_atoms (universe_of signature))
many_yes signature b e h = let c = visible_count (universe_of signature) in rw c (less (total (universe_of signature) (visible_predicates (universe_of signature))) (sym e ∙ h))
  where
    less : (n : ℕ) → nat_lt 262144 n ≡ true → 262144 < n
    less n h = grind (arith, nat_tests)

pub many_no : (signature : Signature) (b : Bool) → b ≡ nat_lt 262144 (total (universe_of signature) (visible_predicates (universe_of signature))) → b ≡ false → 262144 < length (visible_atoms (universe_of signature)) → ⊥
many_no signature b e h l = not_less (total (universe_of signature) (visible_predicates (universe_of signature))) (sym e ∙ h) (rw (visible_count (universe_of signature)) at l)
  where
    not_less : (n : ℕ) → nat_lt 262144 n ≡ false → 262144 < n → ⊥
    not_less n h l = grind (arith, nat_tests)

-- ---- what is said of a copy is said of the signature

pub same_all : (a b : Signature) (n : ℕ) → a ≡ b → n ≡ length (all_atoms (universe_of a)) → n ≡ length (all_atoms (universe_of b))
same_all a b n e h = let P : Signature → Type 0 = λ s. n ≡ length (all_atoms (universe_of s)) in subst P e h

pub same_visible : (a b : Signature) (n : ℕ) → a ≡ b → n ≡ length (visible_atoms (universe_of a)) → n ≡ length (visible_atoms (universe_of b))
same_visible a b n e h = let P : Signature → Type 0 = λ s. n ≡ length (visible_atoms (universe_of s)) in subst P e h

pub same_first : (a b : Signature) (p n : ℕ) → a ≡ b → n ≡ atoms_before (universe_of a) (predicates_in_order (universe_of a)) p → n ≡ atoms_before (universe_of b) (predicates_in_order (universe_of b)) p
same_first a b p n e h = let P : Signature → Type 0 = λ s. n ≡ atoms_before (universe_of s) (predicates_in_order (universe_of s)) p in subst P e h
