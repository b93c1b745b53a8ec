-- In a group of the clause form, the completed models are the minimal ones.
use Rattle.std.proofs.Common.{◌≡◌, ◌↔◌, ℕ, ◌==◌, Bool, true, false, not, ◌&&◌, List, [], ◌∷◌, ℤ, refl, sym, ap, ◌∙◌}
use Rattle.std.specs.List.{list_all, list_any}
use Rattle.ec_logic.specs.Tree.{Formula}
use Rattle.ec_logic.specs.Universe.{Universe}
use Rattle.ec_logic.specs.Value.{same_values}
use Rattle.ec_logic.specs.Truth.{Structure, truth}
use Rattle.ec_logic.specs.Theory.{Group, is_in_group, all_hold}
use Rattle.ec_logic.specs.Minimal.{IsBelow, IsMinimalIn}
use Rattle.ec_logic.specs.ClauseTree.{is_clause, is_free_of, has_clause_form, supports, is_supported}
use Rattle.ec_logic.specs.Completed.{IsCompletedIn, filled}
use Rattle.ec_logic.proofs.Tests.{and_parts, not_true, or_left, or_right, or_cases, test_cases, same_number, same_itself, same_values_same, same_values_itself}
use Rattle.ec_logic.proofs.Supporting.{supported_if_true, true_if_supported, head_passes, supports_agrees}

-- ---- lists of sentences

all_any : {A : Type 0} (c s : A → Bool) (P : Type 0) → ((x : A) → c x ≡ true → s x ≡ true → P) → (xs : List A) → list_all c xs ≡ true → list_any s xs ≡ true → P
all_any c s P l [] h k = cc
all_any c s P l (x ∷ xs) h k =
    let both = and_parts (c x) (list_all c xs) h in
    or_cases P (s x) (list_any s xs) (l x both.0) (all_any c s P l xs both.1) k

any_same : {A : Type 0} (c s t : A → Bool) → ((x : A) → c x ≡ true → s x ≡ t x) → (xs : List A) → list_all c xs ≡ true → list_any s xs ≡ list_any t xs
any_same c s t l [] h = refl
any_same c s t l (x ∷ xs) h =
    let both = and_parts (c x) (list_all c xs) h in
    rw (l x both.0, any_same c s t l xs both.1) refl

pub supported_if_all_hold : (universe : Universe) (n : Structure) (fs : List Formula) (p : ℕ) (vs : List ℤ) → all_hold universe n fs ≡ true → is_supported universe n fs p vs ≡ true → n p vs ≡ true
supported_if_all_hold universe n fs p vs = all_any (truth universe n []) (λ f. supports universe n p vs [] f) (n p vs ≡ true) (λ f h s. supported_if_true universe n p vs [] f h s) fs

pub all_hold_if_supported : (universe : Universe) (n : Structure) (head : ℕ → Bool) (body : Formula → Bool) (fs : List Formula) → list_all (is_clause head body) fs ≡ true
    → ((p : ℕ) (vs : List ℤ) → is_supported universe n fs p vs ≡ true → n p vs ≡ true) → all_hold universe n fs ≡ true
all_hold_if_supported universe n head body [] c h = refl
all_hold_if_supported universe n head body (f ∷ fs) c h =
    let both = and_parts (is_clause head body f) (list_all (is_clause head body) fs) c in
    let first = true_if_supported universe n head body [] f both.0 (λ p vs s. h p vs (or_left (supports universe n p vs [] f) (is_supported universe n fs p vs) s)) in
    rw first (all_hold_if_supported universe n head body fs both.1 (λ p vs s. h p vs (or_right (supports universe n p vs [] f) (is_supported universe n fs p vs) s)))

same_tests : (a b : Bool) → (a ≡ true → b ≡ true) → (b ≡ true → a ≡ true) → a ≡ b
same_tests true b f g = sym (f refl)
same_tests false true f g = g refl
same_tests false false f g = refl

module _ (universe : Universe) (group : Group) (form : has_clause_form group ≡ true) where
  pub supported_in_group : (m : Structure) (p : ℕ) (vs : List ℤ) → is_supported universe m group.sentences p vs ≡ true → is_in_group group p ≡ true
  supported_in_group m p vs = all_any (is_clause (is_in_group group) (is_free_of group)) (λ f. supports universe m p vs [] f) (is_in_group group p ≡ true) (λ f c s. head_passes universe m (is_in_group group) (is_free_of group) p vs [] f c s) group.sentences form

  -- what the group supports depends on what is outside it alone
  pub supported_agrees : (m n : Structure) → ((p : ℕ) (vs : List ℤ) → is_in_group group p ≡ false → m p vs ≡ n p vs) → (p : ℕ) (vs : List ℤ) → is_supported universe m group.sentences p vs ≡ is_supported universe n group.sentences p vs
  supported_agrees m n outside p vs = any_same (is_clause (is_in_group group) (is_free_of group)) (λ f. supports universe m p vs [] f) (λ f. supports universe n p vs [] f)
      (λ f c. supports_agrees universe m n (λ q. not (is_in_group group q)) (is_in_group group) (λ q us h. outside q us (not_true (is_in_group group q) h)) p vs [] f c) group.sentences form

  -- ---- a completed model is minimal

  pub completed_model : (m : Structure) → IsCompletedIn universe group m → all_hold universe m group.sentences ≡ true
  completed_model m completed = all_hold_if_supported universe m (is_in_group group) (is_free_of group) group.sentences form
      (λ p vs s. let c = completed p vs (supported_in_group m p vs s) in cc)

  pub completed_minimal : (m : Structure) → IsCompletedIn universe group m → IsMinimalIn universe group m
  completed_minimal m completed = record {
    model = completed_model m completed;
    least = λ n below. test_cases (all_hold universe n group.sentences ≡ false) (all_hold universe n group.sentences) (λ t. absurd (not_model n below t)) (λ e. e);
  }
    where
      -- an atom that is true only above has true bodies below as well
      not_model : (n : Structure) → IsBelow group n m → all_hold universe n group.sentences ≡ true → ⊥
      not_model n below t =
          let p = below.smaller.0 in
          let vs = below.smaller.1 in
          let above : m p vs ≡ true = below.smaller.2 in
          let gone : n p vs ≡ false = below.smaller.3 in
          test_cases ⊥ (is_in_group group p)
          (λ e.
          let c = completed p vs e in
          let same = supported_agrees n m below.outside p vs in
          let supported : is_supported universe n group.sentences p vs ≡ true = cc in
          let has = supported_if_all_hold universe n group.sentences p vs t supported in
          cc)
          (λ e. let o = below.outside p vs e in cc)

  -- ---- a minimal model is completed

  -- the structure without one tuple
  dropped : Structure → ℕ → List ℤ → Structure
  dropped m p vs q us = not ((q == p) && same_values us vs) && m q us

  dropped_included : (m : Structure) (p : ℕ) (vs : List ℤ) (q : ℕ) (us : List ℤ) → dropped m p vs q us ≡ true → m q us ≡ true
  unfolding dropped
  dropped_included m p vs q us h = (and_parts (not ((q == p) && same_values us vs)) (m q us) h).1

  dropped_gone : (m : Structure) (p : ℕ) (vs : List ℤ) → dropped m p vs p vs ≡ false
  unfolding dropped
  dropped_gone m p vs = rw (same_itself p, same_values_itself vs) refl

  dropped_other : (m : Structure) (p : ℕ) (vs : List ℤ) (q : ℕ) (us : List ℤ) → ((q ≡ p) → (us ≡ vs) → ⊥) → dropped m p vs q us ≡ m q us
  unfolding dropped
  dropped_other m p vs q us differs = test_cases (dropped m p vs q us ≡ m q us) ((q == p) && same_values us vs)
      (λ e. let both = and_parts (q == p) (same_values us vs) e in absurd (differs (same_number q p both.0) (same_values_same us vs both.1)))
      (λ e. rw e refl)

  pub minimal_completed : (m : Structure) → IsMinimalIn universe group m → IsCompletedIn universe group m
  minimal_completed m minimal p vs in-g =
      same_tests (m p vs) (is_supported universe m group.sentences p vs)
      (λ t. test_cases (is_supported universe m group.sentences p vs ≡ true) (is_supported universe m group.sentences p vs) (λ e. e) (λ e. absurd (impossible t e)))
      (supported_if_all_hold universe m group.sentences p vs minimal.model)
    where
      outside : (q : ℕ) (us : List ℤ) → is_in_group group q ≡ false → dropped m p vs q us ≡ m q us
      outside q us o = dropped_other m p vs q us (λ e f. let x = ap (is_in_group group) e in cc)

      -- without an atom that isn't supported, each supported atom is still true
      model : is_supported universe m group.sentences p vs ≡ false → all_hold universe (dropped m p vs) group.sentences ≡ true
      model e = all_hold_if_supported universe (dropped m p vs) (is_in_group group) (is_free_of group) group.sentences form
          (λ q us s.
          let same = supported_agrees (dropped m p vs) m outside q us in
          let supported : is_supported universe m group.sentences q us ≡ true = cc in
          let in-m = supported_if_all_hold universe m group.sentences q us minimal.model supported in
          let other = dropped_other m p vs q us (λ a b. let x : is_supported universe m group.sentences p vs ≡ true = rw (← a, ← b) supported in cc) in
          cc)

      impossible : m p vs ≡ true → is_supported universe m group.sentences p vs ≡ false → ⊥
      impossible t e =
          let below : IsBelow group (dropped m p vs) m = record { outside = outside; included = dropped_included m p vs; smaller = (p, vs, t, dropped_gone m p vs) } in
          let least = minimal.least (dropped m p vs) below in
          let holds = model e in
          cc

  pub minimal_iff_completed : (m : Structure) → IsMinimalIn universe group m ↔ IsCompletedIn universe group m
  minimal_iff_completed m = (minimal_completed m, completed_minimal m)

  -- ---- a group's atoms follow from the others

  -- two completed models that agree outside the group are equal
  pub completed_equal : (m n : Structure) → IsCompletedIn universe group m → IsCompletedIn universe group n
      → ((p : ℕ) (vs : List ℤ) → is_in_group group p ≡ false → m p vs ≡ n p vs) → (p : ℕ) (vs : List ℤ) → m p vs ≡ n p vs
  completed_equal m n completed-m completed-n outside p vs = test_cases (m p vs ≡ n p vs) (is_in_group group p)
      (λ e. completed-m p vs e ∙ (supported_agrees m n outside p vs ∙ sym (completed-n p vs e)))
      (outside p vs)

  pub filled_outside : (m : Structure) (p : ℕ) (vs : List ℤ) → is_in_group group p ≡ false → filled universe group m p vs ≡ m p vs
  filled_outside m p vs e = rw e refl

  -- the filled structure is completed
  pub filled_completed : (m : Structure) → IsCompletedIn universe group (filled universe group m)
  filled_completed m p vs in-g =
      let here : filled universe group m p vs ≡ is_supported universe m group.sentences p vs = rw in-g refl in
      here ∙ supported_agrees m (filled universe group m) (λ q us o. sym (filled_outside m q us o)) p vs
