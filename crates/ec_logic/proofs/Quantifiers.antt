-- A binder, turn by turn.
use Rattle.std.proofs.Common.{◌≡◌, ℕ, ◌+◌, ◌<◌, ◌≤◌, ◌&&◌, ◌||◌, Bool, true, false, List, ◌∷◌, ℤ, Option, Some, None, refl, filter, if◌then◌else◌}
use Rattle.std.specs.List.{list_all, list_any}
use Rattle.ec_logic.specs.Tree.{Formula}
use Rattle.ec_logic.specs.Extent.{Extent}
use Rattle.ec_logic.specs.Universe.{Universe, extent_at}
use Rattle.ec_logic.specs.Place.{keeps, kept_values}
use Rattle.ec_logic.specs.Truth.{Structure, truth}
use Rattle.ec_logic.specs.InTurn.{truth_in_turn}
use Rattle.ec_logic.specs.Turns.{turns, at_turn, values_from, before_others}
use Rattle.ec_logic.proofs.InTurn.{values_from-start, values_from-end, values_from-step}

module _ (universe : Universe) (m : Structure) (env : List ℤ) (f : Formula) where
  module _ (extent : Extent) where
    -- the values from a turn on over which the binder ranges
    abbrev pub kept_from : ℕ → List ℤ
    kept_from k = filter (λ v. keeps universe (v ∷ env) 0 f) (values_from extent k)

    abbrev pub all_from : ℕ → Bool
    all_from k = list_all (λ v. truth universe m (v ∷ env) f) (kept_from k)

    abbrev pub any_from : ℕ → Bool
    any_from k = list_any (λ v. truth universe m (v ∷ env) f) (kept_from k)

    pub all_from_end : (k : ℕ) → turns extent ≤ k → all_from k ≡ true
    all_from_end k h = rw (values_from-end extent k h) refl

    pub any_from_end : (k : ℕ) → turns extent ≤ k → any_from k ≡ false
    any_from_end k h = rw (values_from-end extent k h) refl

    pub all_from_step : (k : ℕ) (t : Bool) → k < turns extent → t ≡ truth_in_turn universe m env f true (at_turn extent k) → all_from k ≡ (t && all_from (k + 1))
    all_from_step k t h e = rw (values_from-step extent k h, e) (by_turn (at_turn extent k) (values_from extent (k + 1)))
      where
        by_test : (b : Bool) (v : ℤ) (vs : List ℤ) → list_all (λ w. truth universe m (w ∷ env) f) (if b then v ∷ vs else vs) ≡ ((if b then truth universe m (v ∷ env) f else true) && list_all (λ w. truth universe m (w ∷ env) f) vs)
        by_test true v vs = refl
        by_test false v vs = refl

        by_turn : (o : Option ℤ) (vs : List ℤ) → list_all (λ w. truth universe m (w ∷ env) f) (filter (λ w. keeps universe (w ∷ env) 0 f) (before_others o vs)) ≡ (truth_in_turn universe m env f true o && list_all (λ w. truth universe m (w ∷ env) f) (filter (λ w. keeps universe (w ∷ env) 0 f) vs))
        by_turn None vs = refl
        by_turn (Some v) vs = by_test (keeps universe (v ∷ env) 0 f) v (filter (λ w. keeps universe (w ∷ env) 0 f) vs)

    pub any_from_step : (k : ℕ) (t : Bool) → k < turns extent → t ≡ truth_in_turn universe m env f false (at_turn extent k) → any_from k ≡ (t || any_from (k + 1))
    any_from_step k t h e = rw (values_from-step extent k h, e) (by_turn (at_turn extent k) (values_from extent (k + 1)))
      where
        by_test : (b : Bool) (v : ℤ) (vs : List ℤ) → list_any (λ w. truth universe m (w ∷ env) f) (if b then v ∷ vs else vs) ≡ ((if b then truth universe m (v ∷ env) f else false) || list_any (λ w. truth universe m (w ∷ env) f) vs)
        by_test true v vs = refl
        by_test false v vs = refl

        by_turn : (o : Option ℤ) (vs : List ℤ) → list_any (λ w. truth universe m (w ∷ env) f) (filter (λ w. keeps universe (w ∷ env) 0 f) (before_others o vs)) ≡ (truth_in_turn universe m env f false o || list_any (λ w. truth universe m (w ∷ env) f) (filter (λ w. keeps universe (w ∷ env) 0 f) vs))
        by_turn None vs = refl
        by_turn (Some v) vs = by_test (keeps universe (v ∷ env) 0 f) v (filter (λ w. keeps universe (w ∷ env) 0 f) vs)

pub all_from_start : (universe : Universe) (m : Structure) (env : List ℤ) (f : Formula) (s : ℕ) → all_from universe m env f (extent_at universe s) 0 ≡ list_all (λ v. truth universe m (v ∷ env) f) (kept_values universe env s f)
all_from_start universe m env f s = rw (values_from-start (extent_at universe s)) refl

pub any_from_start : (universe : Universe) (m : Structure) (env : List ℤ) (f : Formula) (s : ℕ) → any_from universe m env f (extent_at universe s) 0 ≡ list_any (λ v. truth universe m (v ∷ env) f) (kept_values universe env s f)
any_from_start universe m env f s = rw (values_from-start (extent_at universe s)) refl
