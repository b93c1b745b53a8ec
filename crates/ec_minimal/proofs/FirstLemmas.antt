-- The first untrue one of a list of sentences or groups, found in their order, and what it says of a minimal model.
use Rattle.std.proofs.Common.{◌≡◌, ◌∙◌, ◌↔◌, ◌<◌, ◌≤◌, ◌+◌, ℕ, zero, suc, true, List, [], ◌∷◌, All, length, map, take, get_or, Some, slice_get, refl, sym, ap, add-one, subst, arith}
use Rattle.std.proofs.lemmas.List.{take_all}
use Rattle.ec_logic.specs.Tree.{Formula}
use Rattle.ec_logic.specs.TreeList.{formulas_of}
use Rattle.ec_logic.specs.Universe.{Universe, universe_of}
use Rattle.ec_logic.specs.Truth.{Structure, truth}
use Rattle.ec_logic.specs.Axiom.{dec_axioms, release_axioms}
use Rattle.ec_logic.specs.Reach.{nesting, nesting_of}
use Rattle.ec_logic.specs.Theory.{Group, Theory, all_hold}
use Rattle.ec_logic.specs.Minimal.{IsMinimalIn, AreMinimalIn, IsMinimalModel}
use Rattle.ec_logic.proofs.Tests.{and_parts}
use Rattle.ec_logic.proofs.Minimality.{all_head, all_tail}
use Rattle.ec_minimal.specs.declared.verdict.Part.{Part}
use Rattle.ec_minimal.specs.declared.verdict.Verdict.{Verdict}
use Rattle.ec_minimal.specs.declared.verdict.Verdict.TheVariants.{Minimal, Untrue}
use Rattle.ec_minimal.specs.Verdicts.{IsFirstFalse, IsFirstUntrue, remaining, axiom_of, release, group, IsVerdict}

-- ---- an element of a list of trees

tree_at : {X Y : Type 0} (f : X → Y) (xs : List X) (i : ℕ) (d : X) → i < length xs → slice_get (map f xs) i ≡ Some (f (get_or xs i d))
tree_at f [] i d l = absurd (omega (arith, l))
tree_at f (x ∷ xs) zero d l = refl
tree_at f (x ∷ xs) (suc i) d l = tree_at f xs i d (omega (arith, l))

pub item_at : {X Y : Type 0} (f : X → Y) (xs : List X) (i : ℕ) (x : X) → i < length xs → x ≡ get_or xs i x → slice_get (map f xs) i ≡ Some (f x)
item_at f xs i x l e = tree_at f xs i x l ∙ ap (λ y. Some (f y)) (sym e)

pub fact_at : {X : Type 0} (P : X → Type 0) (xs : List X) (i : ℕ) (x : X) → All P xs → slice_get xs i ≡ Some x → P x
fact_at P [] i x all e = cc
fact_at P (y ∷ xs) zero x all e = let same : y ≡ x = cc in subst P same (all_head P y xs all)
fact_at P (y ∷ xs) (suc i) x all e = fact_at P xs i x (all_tail P y xs all) e

-- room for all sentences is room for each
pub room_for : (fs : List Formula) (i n : ℕ) (f : Formula) → nesting_of (formulas_of fs) ≤ n → slice_get fs i ≡ Some f → nesting f ≤ n
room_for [] i n f l e = cc
room_for (g ∷ fs) zero n f l e = let same : g ≡ f = cc in rw (← same) (omega (arith, l))
room_for (g ∷ fs) (suc i) n f l e = room_for fs i n f (omega (arith, l)) e

-- ---- sentences

module _ (universe : Universe) (m : Structure) where
  one_more : (fs : List Formula) (i : ℕ) (f : Formula) → slice_get fs i ≡ Some f → truth universe m [] f ≡ true → all_hold universe m (take i fs) ≡ true → all_hold universe m (take (suc i) fs) ≡ true
  one_more [] i f e t h = cc
  one_more (g ∷ fs) zero f e t h = let same : g ≡ f = cc in rw (same, t) refl
  one_more (g ∷ fs) (suc i) f e t h =
      let both = and_parts (truth universe m [] g) (all_hold universe m (take i fs)) h in
      rw (both.0) (one_more fs i f e t both.1)

  pub next_holds : (fs : List Formula) (i : ℕ) (f : Formula) → slice_get fs i ≡ Some f → truth universe m [] f ≡ true → all_hold universe m (take i fs) ≡ true → all_hold universe m (take (i + 1) fs) ≡ true
  next_holds fs i f e t h = rw (add-one i) (one_more fs i f e t h)

  pub all_held : (fs : List Formula) (i : ℕ) → length fs ≤ i → all_hold universe m (take i fs) ≡ true → all_hold universe m fs ≡ true
  all_held fs i l h = let P : List Formula → Type 0 = λ gs. all_hold universe m gs ≡ true in subst P (take_all i fs l) h

  holds_at : (fs : List Formula) (i : ℕ) (f : Formula) → slice_get fs i ≡ Some f → all_hold universe m fs ≡ true → truth universe m [] f ≡ true
  holds_at [] i f e h = cc
  holds_at (g ∷ fs) zero f e h =
      let same : g ≡ f = cc in
      rw (← same) (and_parts (truth universe m [] g) (all_hold universe m fs) h).0
  holds_at (g ∷ fs) (suc i) f e h = holds_at fs i f e (and_parts (truth universe m [] g) (all_hold universe m fs) h).1

  not_all_hold : (fs : List Formula) (i : ℕ) → IsFirstFalse universe m fs i → all_hold universe m fs ≡ true → ⊥
  not_all_hold fs i first h = let t = holds_at fs i first.sentence first.there h in let f = first.untrue in cc

  -- ---- groups

  one_more_minimal : (gs : List Group) (i : ℕ) (g : Group) → slice_get gs i ≡ Some g → IsMinimalIn universe g m → AreMinimalIn universe (take i gs) m → AreMinimalIn universe (take (suc i) gs) m
  one_more_minimal [] i g e t h = cc
  one_more_minimal (x ∷ gs) zero g e t h = let same : g ≡ x = cc in let P : Group → Type 0 = λ y. IsMinimalIn universe y m in (subst P same t, tt)
  one_more_minimal (x ∷ gs) (suc i) g e t h = (h.0, one_more_minimal gs i g e t h.1)

  pub next_minimal : (gs : List Group) (i : ℕ) (g : Group) → slice_get gs i ≡ Some g → IsMinimalIn universe g m → AreMinimalIn universe (take i gs) m → AreMinimalIn universe (take (i + 1) gs) m
  next_minimal gs i g e t h = rw (add-one i) (one_more_minimal gs i g e t h)

  pub all_minimal : (gs : List Group) (i : ℕ) → length gs ≤ i → AreMinimalIn universe (take i gs) m → AreMinimalIn universe gs m
  all_minimal gs i l h = let P : List Group → Type 0 = λ xs. AreMinimalIn universe xs m in subst P (take_all i gs l) h

  minimal_at : (gs : List Group) (i : ℕ) (g : Group) → slice_get gs i ≡ Some g → AreMinimalIn universe gs m → IsMinimalIn universe g m
  minimal_at [] i g e h = cc
  minimal_at (x ∷ gs) zero g e h = let same : x ≡ g = cc in let P : Group → Type 0 = λ y. IsMinimalIn universe y m in subst P same h.0
  minimal_at (x ∷ gs) (suc i) g e h = minimal_at gs i g e h.1

-- ---- a minimal model has no untrue part

not_minimal : (theory : Theory) (m : Structure) (part : Part) → IsFirstUntrue theory m part → IsMinimalModel theory m → ⊥
not_minimal theory m part (remaining {place = k} first) model = not_all_hold (universe_of theory.signature) m theory.remaining k first model.remaining
not_minimal theory m part (axiom_of {place = k} a first) model = not_all_hold (universe_of theory.signature) m dec_axioms k first model.axioms
not_minimal theory m part (release {place = k} a b first) model = not_all_hold (universe_of theory.signature) m (release_axioms theory.signature) k first model.release
not_minimal theory m part (group {place = k} a b c first) model = first.untrue (minimal_at (universe_of theory.signature) m theory.groups k first.group first.there model.groups)

pub verdict_law : (theory : Theory) (m : Structure) (verdict : Verdict) → IsVerdict theory m verdict → (verdict ≡ Minimal) ↔ IsMinimalModel theory m
verdict_law theory m Minimal h = (λ e. h, λ model. refl)
verdict_law theory m (Untrue part) h = (λ e. cc, λ model. absurd (not_minimal theory m part h model))
