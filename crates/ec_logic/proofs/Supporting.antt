-- A clause tree is true exactly where each atom that it supports is true; and what it supports depends on the bodies alone.
use Rattle.std.proofs.Common.{◌≡◌, ◌↔◌, ℕ, ◌==◌, Bool, true, List, [], ◌∷◌, ℤ, refl, ap}
use Rattle.std.proofs.Math.Path.{fun_ext}
use Rattle.std.specs.List.{list_all, list_any}
use Rattle.ec_logic.specs.Tree.{Formula, verum, falsum, atom, equal, less, negation, all_of, any_of, implies, iff, for_all, exists, Formulas, no_formulas, formula}
use Rattle.ec_logic.specs.Universe.{Universe}
use Rattle.ec_logic.specs.Value.{values, same_values}
use Rattle.ec_logic.specs.Place.{kept_values}
use Rattle.ec_logic.specs.Truth.{Structure, truth, all_true}
use Rattle.ec_logic.specs.ClauseTree.{only_has, is_clause, are_clauses, any_predicate, any_body, supports, one_supports}
use Rattle.ec_logic.proofs.Tests.{and_parts, or_left, or_right, or_cases, test_cases, same_number, same_itself, same_values_same, same_values_itself}
use Rattle.ec_logic.proofs.Agreeing.{truth_agrees}

any_gives : (s : ℤ → Bool) (P : Type 0) → (vs : List ℤ) → ((v : ℤ) → s v ≡ true → P) → list_any s vs ≡ true → P
any_gives s P [] l h = cc
any_gives s P (v ∷ vs) l h = or_cases P (s v) (list_any s vs) (l v) (any_gives s P vs l) h

-- each passes the one test and some the other, so some passes both
all_any_gives : (s t : ℤ → Bool) (P : Type 0) → (vs : List ℤ) → ((v : ℤ) → s v ≡ true → t v ≡ true → P) → list_all s vs ≡ true → list_any t vs ≡ true → P
all_any_gives s t P [] l h k = cc
all_any_gives s t P (v ∷ vs) l h k =
    let both = and_parts (s v) (list_all s vs) h in
    or_cases P (t v) (list_any t vs) (l v both.0) (all_any_gives s t P vs l both.1) k

-- ---- a clause tree is true exactly where each atom that it supports is true

module _ (universe : Universe) (n : Structure) where
  abbrev pub HasEach : List ℤ → Formula → Type 0
  HasEach env f = (p : ℕ) (vs : List ℤ) → supports universe n p vs env f ≡ true → n p vs ≡ true

  mutual
    pub supported_if_true : (p : ℕ) (vs : List ℤ) (env : List ℤ) (f : Formula) → truth universe n env f ≡ true → supports universe n p vs env f ≡ true → n p vs ≡ true
    supported_if_true p vs env verum h s = cc
    supported_if_true p vs env falsum h s = cc
    supported_if_true p vs env (atom q ts) h s =
        let both = and_parts (q == p) (same_values (values universe env ts) vs) s in
        let eq = same_number q p both.0 in
        let es = same_values_same (values universe env ts) vs both.1 in
        rw (← eq, ← es) h
    supported_if_true p vs env (equal a b) h s = cc
    supported_if_true p vs env (less a b) h s = cc
    supported_if_true p vs env (negation f) h s = cc
    supported_if_true p vs env (all_of fs) h s = each_supported p vs env fs h s
    supported_if_true p vs env (any_of fs) h s = cc
    supported_if_true p vs env (implies f g) h s =
        let both = and_parts (truth universe n env f) (supports universe n p vs env g) s in
        let t : truth universe n env g ≡ true = rw both.0 at h in
        supported_if_true p vs env g t both.1
    supported_if_true p vs env (iff f g) h s = cc
    supported_if_true p vs env (for_all s f) h k =
        all_any_gives (λ v. truth universe n (v ∷ env) f) (λ v. supports universe n p vs (v ∷ env) f) (n p vs ≡ true) (kept_values universe env s f)
        (λ v t u. supported_if_true p vs (v ∷ env) f t u) h k
    supported_if_true p vs env (exists s f) h k = cc

    each_supported : (p : ℕ) (vs : List ℤ) (env : List ℤ) (fs : Formulas) → all_true universe n env fs ≡ true → one_supports universe n p vs env fs ≡ true → n p vs ≡ true
    each_supported p vs env no_formulas h s = cc
    each_supported p vs env (formula f fs) h s =
        let both = and_parts (truth universe n env f) (all_true universe n env fs) h in
        or_cases (n p vs ≡ true) (supports universe n p vs env f) (one_supports universe n p vs env fs) (supported_if_true p vs env f both.0) (each_supported p vs env fs both.1) s

  all_by : (env : List ℤ) (f : Formula) → ((v : ℤ) → HasEach (v ∷ env) f → truth universe n (v ∷ env) f ≡ true) → (ws : List ℤ)
      → ((p : ℕ) (vs : List ℤ) → list_any (λ v. supports universe n p vs (v ∷ env) f) ws ≡ true → n p vs ≡ true) → list_all (λ v. truth universe n (v ∷ env) f) ws ≡ true
  all_by env f ih [] h = refl
  all_by env f ih (w ∷ ws) h =
      let first = ih w (λ p vs s. h p vs (or_left (supports universe n p vs (w ∷ env) f) (list_any (λ v. supports universe n p vs (v ∷ env) f) ws) s)) in
      rw first (all_by env f ih ws (λ p vs s. h p vs (or_right (supports universe n p vs (w ∷ env) f) (list_any (λ v. supports universe n p vs (v ∷ env) f) ws) s)))

  mutual
    pub true_if_supported : (head : ℕ → Bool) (body : Formula → Bool) (env : List ℤ) (f : Formula) → is_clause head body f ≡ true → HasEach env f → truth universe n env f ≡ true
    true_if_supported head body env verum c h = cc
    true_if_supported head body env falsum c h = cc
    true_if_supported head body env (atom q ts) c h = h q (values universe env ts) (rw (same_itself q, same_values_itself (values universe env ts)) refl)
    true_if_supported head body env (equal a b) c h = cc
    true_if_supported head body env (less a b) c h = cc
    true_if_supported head body env (negation f) c h = cc
    true_if_supported head body env (all_of fs) c h = all_if_supported head body env fs c h
    true_if_supported head body env (any_of fs) c h = cc
    true_if_supported head body env (implies f g) c h =
        let both = and_parts (body f) (is_clause head body g) c in
        test_cases (truth universe n env (implies f g) ≡ true) (truth universe n env f)
        (λ t. rw t (true_if_supported head body env g both.1 (λ p vs s. h p vs (rw t s))))
        (λ t. rw t refl)
    true_if_supported head body env (iff f g) c h = cc
    true_if_supported head body env (for_all s f) c h = all_by env f (λ v. true_if_supported head body (v ∷ env) f c) (kept_values universe env s f) h
    true_if_supported head body env (exists s f) c h = cc

    all_if_supported : (head : ℕ → Bool) (body : Formula → Bool) (env : List ℤ) (fs : Formulas) → are_clauses head body fs ≡ true
        → ((p : ℕ) (vs : List ℤ) → one_supports universe n p vs env fs ≡ true → n p vs ≡ true) → all_true universe n env fs ≡ true
    all_if_supported head body env no_formulas c h = refl
    all_if_supported head body env (formula f fs) c h =
        let both = and_parts (is_clause head body f) (are_clauses head body fs) c in
        let first = true_if_supported head body env f both.0 (λ p vs s. h p vs (or_left (supports universe n p vs env f) (one_supports universe n p vs env fs) s)) in
        rw first (all_if_supported head body env fs both.1 (λ p vs s. h p vs (or_right (supports universe n p vs env f) (one_supports universe n p vs env fs) s)))

-- ---- a head that is supported passes the test of heads

module _ (universe : Universe) (m : Structure) (head : ℕ → Bool) (body : Formula → Bool) (p : ℕ) (vs : List ℤ) where
  mutual
    pub head_passes : (env : List ℤ) (f : Formula) → is_clause head body f ≡ true → supports universe m p vs env f ≡ true → head p ≡ true
    head_passes env verum c s = cc
    head_passes env falsum c s = cc
    head_passes env (atom q ts) c s =
        let both = and_parts (q == p) (same_values (values universe env ts) vs) s in
        let eq = same_number q p both.0 in
        rw (← eq) c
    head_passes env (equal a b) c s = cc
    head_passes env (less a b) c s = cc
    head_passes env (negation f) c s = cc
    head_passes env (all_of fs) c s = heads_pass env fs c s
    head_passes env (any_of fs) c s = cc
    head_passes env (implies f g) c s = head_passes env g (and_parts (body f) (is_clause head body g) c).1 (and_parts (truth universe m env f) (supports universe m p vs env g) s).1
    head_passes env (iff f g) c s = cc
    head_passes env (for_all s f) c k = any_gives (λ v. supports universe m p vs (v ∷ env) f) (head p ≡ true) (kept_values universe env s f) (λ v. head_passes (v ∷ env) f c) k
    head_passes env (exists s f) c k = cc

    heads_pass : (env : List ℤ) (fs : Formulas) → are_clauses head body fs ≡ true → one_supports universe m p vs env fs ≡ true → head p ≡ true
    heads_pass env no_formulas c s = cc
    heads_pass env (formula f fs) c s =
        let both = and_parts (is_clause head body f) (are_clauses head body fs) c in
        or_cases (head p ≡ true) (supports universe m p vs env f) (one_supports universe m p vs env fs) (head_passes env f both.0) (heads_pass env fs both.1) s

-- ---- what is supported is the same where the bodies are

module _ (universe : Universe) (m n : Structure) (test head : ℕ → Bool) (agree : (p : ℕ) (vs : List ℤ) → test p ≡ true → m p vs ≡ n p vs) (p : ℕ) (vs : List ℤ) where
  mutual
    -- two structures that agree on the predicates of the bodies
    pub supports_agrees : (env : List ℤ) (f : Formula) → is_clause head (only_has test) f ≡ true → supports universe m p vs env f ≡ supports universe n p vs env f
    supports_agrees env verum c = refl
    supports_agrees env falsum c = refl
    supports_agrees env (atom q ts) c = refl
    supports_agrees env (equal a b) c = refl
    supports_agrees env (less a b) c = refl
    supports_agrees env (negation f) c = refl
    supports_agrees env (all_of fs) c = one_supports_agrees env fs c
    supports_agrees env (any_of fs) c = refl
    supports_agrees env (implies f g) c =
        let form = and_parts (only_has test f) (is_clause head (only_has test) g) c in
        rw (truth_agrees universe m n test agree env f form.0, supports_agrees env g form.1) refl
    supports_agrees env (iff f g) c = refl
    supports_agrees env (for_all s f) c = ap (λ t. list_any t (kept_values universe env s f)) (fun_ext (λ v. supports_agrees (v ∷ env) f c))
    supports_agrees env (exists s f) c = refl

    one_supports_agrees : (env : List ℤ) (fs : Formulas) → are_clauses head (only_has test) fs ≡ true → one_supports universe m p vs env fs ≡ one_supports universe n p vs env fs
    one_supports_agrees env no_formulas c = refl
    one_supports_agrees env (formula f fs) c =
        let form = and_parts (is_clause head (only_has test) f) (are_clauses head (only_has test) fs) c in
        rw (supports_agrees env f form.0, one_supports_agrees env fs form.1) refl

-- a clause tree is true exactly where each atom that it supports is true
pub true_iff_supported : (universe : Universe) (n : Structure) (env : List ℤ) (f : Formula) → is_clause any_predicate any_body f ≡ true → (truth universe n env f ≡ true) ↔ HasEach universe n env f
true_iff_supported universe n env f c = (λ h p vs s. supported_if_true universe n p vs env f h s, λ h. true_if_supported universe n any_predicate any_body env f c h)
