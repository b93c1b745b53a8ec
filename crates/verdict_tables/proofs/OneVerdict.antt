-- What may be said of a structure, where its first untrue part is known: this part alone.
use Rattle.std.proofs.Common.{◌≡◌, ◌≤◌, ℕ, zero, suc, true, false, List, [], ◌∷◌, take, Some, slice_get, ap, subst, arith}
use Rattle.ec_logic.specs.Tree.{Formula}
use Rattle.ec_logic.specs.Universe.{Universe, universe_of}
use Rattle.ec_logic.specs.Truth.{Structure, truth}
use Rattle.ec_logic.specs.Axiom.{dec_axioms, release_axioms}
use Rattle.ec_logic.specs.Theory.{Group, Theory, all_hold}
use Rattle.ec_logic.specs.Minimal.{IsMinimalIn, AreMinimalIn}
use Rattle.ec_logic.proofs.Tests.{and_parts}
use Rattle.ec_minimal.specs.declared.verdict.Part.{Part}
use Rattle.ec_minimal.specs.declared.verdict.Part.TheVariants.{Axiom, Group as GroupAt}
use Rattle.ec_minimal.specs.declared.verdict.Verdict.{Verdict}
use Rattle.ec_minimal.specs.declared.verdict.Verdict.TheVariants.{Minimal, Untrue}
use Rattle.ec_minimal.specs.Verdicts.{IsFirstFalse, IsFirstUnminimal, IsFirstUntrue, remaining, axiom_of, release, group, IsVerdict}

-- This is a verdict on the structure, and there is no other one.
pub record IsTheVerdict (theory : Theory) (m : Structure) (verdict : Verdict) : Type 0 where
  pub is_one : IsVerdict theory m verdict
  pub is_only : (other : Verdict) → IsVerdict theory m other → other ≡ verdict

module _ (universe : Universe) (m : Structure) where
  not_all : (fs : List Formula) (i : ℕ) (f : Formula) → slice_get fs i ≡ Some f → truth universe m [] f ≡ false → all_hold universe m fs ≡ true → ⊥
  not_all [] i f e u h = cc
  not_all (g ∷ fs) zero f e u h = let same : g ≡ f = cc in let t : truth universe m [] f ≡ true = rw (← same) (and_parts (truth universe m [] g) (all_hold universe m fs) h).0 in cc
  not_all (g ∷ fs) (suc i) f e u h = not_all fs i f e u (and_parts (truth universe m [] g) (all_hold universe m fs) h).1

  pub false_in : (fs : List Formula) (i : ℕ) → IsFirstFalse universe m fs i → all_hold universe m fs ≡ true → ⊥
  false_in fs i first h = not_all fs i first.sentence first.there first.untrue h

  -- so many hold as stand before one that doesn't, at most
  up_to_false : (fs : List Formula) (i j : ℕ) (f : Formula) → slice_get fs i ≡ Some f → truth universe m [] f ≡ false → all_hold universe m (take j fs) ≡ true → j ≤ i
  up_to_false [] i j f e u h = cc
  up_to_false (g ∷ fs) i zero f e u h = omega arith
  up_to_false (g ∷ fs) zero (suc j) f e u h =
      let same : g ≡ f = cc in
      let t : truth universe m [] f ≡ true = rw (← same) (and_parts (truth universe m [] g) (all_hold universe m (take j fs)) h).0 in
      cc
  up_to_false (g ∷ fs) (suc i) (suc j) f e u h =
      let inner : j ≤ i = up_to_false fs i j f e u (and_parts (truth universe m [] g) (all_hold universe m (take j fs)) h).1 in
      omega (arith, inner)

  pub one_false : (fs : List Formula) (i j : ℕ) → IsFirstFalse universe m fs i → IsFirstFalse universe m fs j → i ≡ j
  one_false fs i j a b =
      let over : j ≤ i = up_to_false fs i j a.sentence a.there a.untrue b.before in
      let under : i ≤ j = up_to_false fs j i b.sentence b.there b.untrue a.before in
      omega (arith, over, under)

  up_to_unminimal : (gs : List Group) (i j : ℕ) (g : Group) → slice_get gs i ≡ Some g → (IsMinimalIn universe g m → ⊥) → AreMinimalIn universe (take j gs) m → j ≤ i
  up_to_unminimal [] i j g e u h = cc
  up_to_unminimal (x ∷ gs) i zero g e u h = omega arith
  up_to_unminimal (x ∷ gs) zero (suc j) g e u h =
      let same : x ≡ g = cc in
      let P : Group → Type 0 = λ y. IsMinimalIn universe y m in
      absurd (u (subst P same h.0))
  up_to_unminimal (x ∷ gs) (suc i) (suc j) g e u h =
      let inner : j ≤ i = up_to_unminimal gs i j g e u h.1 in
      omega (arith, inner)

  pub one_unminimal : (gs : List Group) (i j : ℕ) → IsFirstUnminimal universe m gs i → IsFirstUnminimal universe m gs j → i ≡ j
  one_unminimal gs i j a b =
      let over : j ≤ i = up_to_unminimal gs i j a.group a.there a.untrue b.before in
      let under : i ≤ j = up_to_unminimal gs j i b.group b.there b.untrue a.before in
      omega (arith, over, under)

  not_all_minimal : (gs : List Group) (i : ℕ) (g : Group) → slice_get gs i ≡ Some g → (IsMinimalIn universe g m → ⊥) → AreMinimalIn universe gs m → ⊥
  not_all_minimal [] i g e u h = cc
  not_all_minimal (x ∷ gs) zero g e u h =
      let same : x ≡ g = cc in
      let P : Group → Type 0 = λ y. IsMinimalIn universe y m in
      u (subst P same h.0)
  not_all_minimal (x ∷ gs) (suc i) g e u h = not_all_minimal gs i g e u h.1

  pub unminimal_in : (gs : List Group) (i : ℕ) → IsFirstUnminimal universe m gs i → AreMinimalIn universe gs m → ⊥
  unminimal_in gs i first h = not_all_minimal gs i first.group first.there first.untrue h

module _ (theory : Theory) (m : Structure) (open_are : all_hold (universe_of theory.signature) m theory.remaining ≡ true) where
  abbrev over : Universe
  over = universe_of theory.signature

  pub by_axiom : (place : ℕ) → IsFirstFalse over m dec_axioms place → IsTheVerdict theory m (Untrue (Axiom place))
  by_axiom place first = record { is_one = axiom_of open_are first; is_only = only }
    where
      only_part : (part : Part) → IsFirstUntrue theory m part → part ≡ Axiom place
      only_part part (remaining {place = k} f) = absurd (false_in over m theory.remaining k f open_are)
      only_part part (axiom_of {place = k} r f) = ap Axiom (one_false over m dec_axioms k place f first)
      only_part part (release {place = k} r a f) = absurd (false_in over m dec_axioms place first a)
      only_part part (group {place = k} r a l f) = absurd (false_in over m dec_axioms place first a)

      only : (other : Verdict) → IsVerdict theory m other → other ≡ Untrue (Axiom place)
      only Minimal h = absurd (false_in over m dec_axioms place first h.axioms)
      only (Untrue part) h = ap Untrue (only_part part h)

  pub by_group : (place : ℕ) → all_hold over m dec_axioms ≡ true → all_hold over m (release_axioms theory.signature) ≡ true → IsFirstUnminimal over m theory.groups place
      → IsTheVerdict theory m (Untrue (GroupAt place))
  by_group place axioms releases first = record { is_one = group open_are axioms releases first; is_only = only }
    where
      only_part : (part : Part) → IsFirstUntrue theory m part → part ≡ GroupAt place
      only_part part (remaining {place = k} f) = absurd (false_in over m theory.remaining k f open_are)
      only_part part (axiom_of {place = k} r f) = absurd (false_in over m dec_axioms k f axioms)
      only_part part (release {place = k} r a f) = absurd (false_in over m (release_axioms theory.signature) k f releases)
      only_part part (group {place = k} r a l f) = ap GroupAt (one_unminimal over m theory.groups k place f first)

      only : (other : Verdict) → IsVerdict theory m other → other ≡ Untrue (GroupAt place)
      only Minimal h = absurd (unminimal_in over m theory.groups place first h.groups)
      only (Untrue part) h = ap Untrue (only_part part h)
