-- Atoms that are supported, joined one sentence, one part and one value after the other.
use Rattle.std.proofs.Common.{◌≡◌, ℕ, ◌+◌, ◌<◌, ◌≤◌, Bool, true, false, ◌||◌, if◌then◌else◌, filter, List, [], ◌∷◌, ℤ, Option, Some, None, refl, sym, ap, ◌∙◌}
use Rattle.std.specs.List.{list_any}
use Rattle.ec_logic.specs.Tree.{Formula, Formulas, formula, implies, for_all}
use Rattle.ec_logic.specs.Extent.{Extent}
use Rattle.ec_logic.specs.Universe.{Universe, extent_at}
use Rattle.ec_logic.specs.Place.{keeps}
use Rattle.ec_logic.specs.Truth.{Structure, IsTuple, truth}
use Rattle.ec_logic.specs.ClauseTree.{supports, is_supported}
use Rattle.ec_logic.specs.Turns.{turns, at_turn, values_from, before_others}
use Rattle.ec_logic.specs.Marks.{Joins, supported_by, supported_by_one, supported_under, supported_in_turn}
use Rattle.ec_logic.proofs.InTurn.{values_from-start, values_from-end, values_from-step}

or_none : (b : Bool) → b ≡ (b || false)
or_none true = refl
or_none false = refl

or_assoc : (a b c : Bool) → ((a || b) || c) ≡ (a || (b || c))
or_assoc true b c = refl
or_assoc false b c = refl

pub joins_none : (universe : Universe) (old : Structure) → Joins universe (λ p vs. false) old old
joins_none universe old = record { joined = λ p vs t. or_none (old p vs) }

pub joins_same : (universe : Universe) (s t : ℕ → List ℤ → Bool) (old new : Structure) → ((p : ℕ) (vs : List ℤ) → t p vs ≡ s p vs) → Joins universe s old new → Joins universe t old new
joins_same universe s t old new e j = record { joined = λ p vs i. rw (e p vs) (j.joined p vs i) }

-- a body that is true
pub joins_implied : (universe : Universe) (m : Structure) (env : List ℤ) (f g : Formula) (old new : Structure) → truth universe m env f ≡ true → Joins universe (supported_by universe m env g) old new → Joins universe (supported_by universe m env (implies f g)) old new
joins_implied universe m env f g old new t j = record { joined = λ p vs i. rw t (j.joined p vs i) }

-- and one that is false
pub joins_idle : (universe : Universe) (m : Structure) (env : List ℤ) (f g : Formula) (old : Structure) → truth universe m env f ≡ false → Joins universe (supported_by universe m env (implies f g)) old old
joins_idle universe m env f g old t = record { joined = λ p vs i. rw t (or_none (old p vs)) }

-- What stands now, with what is left, comes to what stood at the start with all.
pub record Comes (universe : Universe) (now : Structure) (left : ℕ → List ℤ → Bool) (start : Structure) (all : ℕ → List ℤ → Bool) : Type 0 where
  pub comes : (p : ℕ) (vs : List ℤ) → IsTuple universe p vs → (now p vs || left p vs) ≡ (start p vs || all p vs)

pub comes_start : (universe : Universe) (start : Structure) (all : ℕ → List ℤ → Bool) → Comes universe start all start all
comes_start universe start all = record { comes = λ p vs t. refl }

pub comes_end : (universe : Universe) (now start : Structure) (left all : ℕ → List ℤ → Bool) → ((p : ℕ) (vs : List ℤ) → left p vs ≡ false) → Comes universe now left start all → Joins universe all start now
comes_end universe now start left all none c = record { joined = λ p vs t. or_none (now p vs) ∙ (ap (λ b. now p vs || b) (sym (none p vs)) ∙ c.comes p vs t) }

pub comes_more : (universe : Universe) (now next start : Structure) (here rest left all : ℕ → List ℤ → Bool) → ((p : ℕ) (vs : List ℤ) → left p vs ≡ (here p vs || rest p vs)) → Joins universe here now next → Comes universe now left start all → Comes universe next rest start all
comes_more universe now next start here rest left all split j c = record {
  comes = λ p vs t. ap (λ b. b || rest p vs) (j.joined p vs t) ∙ (or_assoc (now p vs) (here p vs) (rest p vs) ∙ (ap (λ b. now p vs || b) (sym (split p vs)) ∙ c.comes p vs t));
}

-- ---- a binder, turn by turn

module _ (universe : Universe) (m : Structure) (env : List ℤ) (f : Formula) (extent : Extent) where
  abbrev pub supported_from : ℕ → ℕ → List ℤ → Bool
  supported_from k p vs = list_any (λ v. supports universe m p vs (v ∷ env) f) (filter (λ v. keeps universe (v ∷ env) 0 f) (values_from extent k))

  pub supported_from_end : (k : ℕ) → turns extent ≤ k → (p : ℕ) (vs : List ℤ) → supported_from k p vs ≡ false
  supported_from_end k h p vs = rw (values_from-end extent k h) refl

  pub supported_from_step : (k : ℕ) → k < turns extent → (p : ℕ) (vs : List ℤ) → supported_from k p vs ≡ (supported_in_turn universe m env f (at_turn extent k) p vs || supported_from (k + 1) p vs)
  supported_from_step k h p vs = rw (values_from-step extent k h) (by_turn (at_turn extent k) (values_from extent (k + 1)))
    where
      by_test : (b : Bool) (v : ℤ) (us : List ℤ) → list_any (λ w. supports universe m p vs (w ∷ env) f) (if b then v ∷ us else us) ≡ ((if b then supports universe m p vs (v ∷ env) f else false) || list_any (λ w. supports universe m p vs (w ∷ env) f) us)
      by_test true v us = refl
      by_test false v us = refl

      by_turn : (o : Option ℤ) (us : List ℤ) → list_any (λ w. supports universe m p vs (w ∷ env) f) (filter (λ w. keeps universe (w ∷ env) 0 f) (before_others o us)) ≡ (supported_in_turn universe m env f o p vs || list_any (λ w. supports universe m p vs (w ∷ env) f) (filter (λ w. keeps universe (w ∷ env) 0 f) us))
      by_turn None us = refl
      by_turn (Some v) us = by_test (keeps universe (v ∷ env) 0 f) v (filter (λ w. keeps universe (w ∷ env) 0 f) us)

  pub comes_turn : (k : ℕ) (now next start : Structure) (all : ℕ → List ℤ → Bool) → k < turns extent → Joins universe (supported_in_turn universe m env f (at_turn extent k)) now next → Comes universe now (supported_from k) start all → Comes universe next (supported_from (k + 1)) start all
  comes_turn k now next start all h j c = comes_more universe now next start (supported_in_turn universe m env f (at_turn extent k)) (supported_from (k + 1)) (supported_from k) all (supported_from_step k h) j c

pub supported_from_start : (universe : Universe) (m : Structure) (env : List ℤ) (f : Formula) (s p : ℕ) (vs : List ℤ) → supported_from universe m env f (extent_at universe s) 0 p vs ≡ supports universe m p vs env (for_all s f)
supported_from_start universe m env f s p vs = rw (values_from-start (extent_at universe s)) refl

pub joins_under : (universe : Universe) (m : Structure) (env : List ℤ) (f : Formula) (v : ℤ) (old new : Structure) → keeps universe (v ∷ env) 0 f ≡ true → Joins universe (supported_by universe m (v ∷ env) f) old new → Joins universe (supported_under universe m env f v) old new
joins_under universe m env f v old new t j = record { joined = λ p vs i. rw t (j.joined p vs i) }

pub joins_outside : (universe : Universe) (m : Structure) (env : List ℤ) (f : Formula) (v : ℤ) (old : Structure) → keeps universe (v ∷ env) 0 f ≡ false → Joins universe (supported_under universe m env f v) old old
joins_outside universe m env f v old t = record { joined = λ p vs i. rw t (or_none (old p vs)) }

-- ---- the parts of a conjunction, and the sentences of a group

pub comes_each : (universe : Universe) (m : Structure) (env : List ℤ) (f : Formula) (fs : Formulas) (now next start : Structure) (all : ℕ → List ℤ → Bool) → Joins universe (supported_by universe m env f) now next → Comes universe now (supported_by_one universe m env (formula f fs)) start all → Comes universe next (supported_by_one universe m env fs) start all
comes_each universe m env f fs now next start all j c = comes_more universe now next start (supported_by universe m env f) (supported_by_one universe m env fs) (supported_by_one universe m env (formula f fs)) all (λ p vs. refl) j c

abbrev pub supported_by_sentences : Universe → Structure → List Formula → ℕ → List ℤ → Bool
supported_by_sentences universe m fs p vs = is_supported universe m fs p vs

pub comes_sentence : (universe : Universe) (m : Structure) (f : Formula) (fs : List Formula) (now next start : Structure) (all : ℕ → List ℤ → Bool) → Joins universe (supported_by universe m [] f) now next → Comes universe now (supported_by_sentences universe m (f ∷ fs)) start all → Comes universe next (supported_by_sentences universe m fs) start all
comes_sentence universe m f fs now next start all j c = comes_more universe now next start (supported_by universe m [] f) (supported_by_sentences universe m fs) (supported_by_sentences universe m (f ∷ fs)) all (λ p vs. refl) j c
