-- Naming clauses hold exactly where each name has the truth of its tree.
use Rattle.std.proofs.Common.{◌≡◌, ℕ, zero, suc, ◌+◌, ◌-◌, ◌<◌, ◌≤◌, Bool, true, false, ◌&&◌, List, [], ◌∷◌, ◌++◌, length, get_or, refl, sym, ap, ◌∙◌, arith, ◌⊎◌, inl, inr}
use Rattle.std.specs.List.{list_all, list_any}
use Rattle.std.proofs.lemmas.List.{get_or_append_left, get_or-append_right, get_or-append-add, length-append}
use Rattle.ec_folding.specs.Tree.{Tree, always, never, literal, all_of, any_of, Trees, no_trees, tree, true_in, each_true, some_true}
use Rattle.ec_clause.specs.Literal.{Literal}
use Rattle.ec_clause.specs.Step.{holds}
use Rattle.ec_naming.specs.Naming.{names_taken, names_taken_each, named, named_each, positive, name_of, names_of, and_clauses, or_clauses, naming, naming_each, Agrees}
use Rattle.ec_naming.proofs.Gates.{all_hold, same_truth, same_truth-is, is-same_truth, hold-append, and-hold, or-hold, agree-is}

pub both-left : (a b : Bool) → (a && b) ≡ true → a ≡ true
both-left true b h = refl
both-left false b h = h

pub both-right : (a b : Bool) → (a && b) ≡ true → b ≡ true
both-right true b h = h
both-right false b h = cc

pub both-true : (a b : Bool) → a ≡ true → b ≡ true → (a && b) ≡ true
both-true true b h k = k
both-true false b h k = cc

mutual
  pub length-named : (p : Tree) → length (named p) ≡ names_taken p
  length-named always = refl
  length-named never = refl
  length-named (literal a s) = refl
  length-named (all_of ps) = length-append (named_each ps) (all_of ps ∷ []) ∙ ap (λ k. k + 1) (length-named_each ps)
  length-named (any_of ps) = length-append (named_each ps) (any_of ps ∷ []) ∙ ap (λ k. k + 1) (length-named_each ps)

  pub length-named_each : (ps : Trees) → length (named_each ps) ≡ names_taken_each ps
  length-named_each no_trees = refl
  length-named_each (tree p ps) = length-append (named p) (named_each ps) ∙ (rw (length-named p, length-named_each ps) refl)

module _ (at : ℕ → ℕ) (w : ℕ → Bool) where
  pub agrees-left : (n : ℕ) (ts us : List Tree) → Agrees at w n (ts ++ us) → Agrees at w n ts
  agrees-left n ts us a i d h =
      let far : i < length (ts ++ us) = omega (arith, h, length-append ts us) in
      a i d far ∙ ap (true_in (λ a. w (at a))) (get_or_append_left ts us d i h)

  pub agrees-right : (n k : ℕ) (ts us : List Tree) → length ts ≡ k → Agrees at w n (ts ++ us) → Agrees at w (n + k) us
  agrees-right n k ts us e a i d h =
      let far : length ts + i < length (ts ++ us) = omega (arith, h, length-append ts us) in
      let place : n + k + i ≡ n + (length ts + i) = omega (arith, e) in
      ap w place ∙ a (length ts + i) d far ∙ ap (true_in (λ a. w (at a))) (get_or-append-add ts us i d)

  pub agrees-append : (n k : ℕ) (ts us : List Tree) → length ts ≡ k → Agrees at w n ts → Agrees at w (n + k) us → Agrees at w n (ts ++ us)
  agrees-append n k ts us e a b i d h = cases (split i (length ts))
    where
      split : (i l : ℕ) → (i < l) ⊎ (l ≤ i)
      split i zero = inr (omega arith)
      split zero (suc l) = inl (omega arith)
      split (suc i) (suc l) = elim (split i l) [ inl h ↦ inl (omega (arith, h)) | inr h ↦ inr (omega (arith, h)) ]

      cases : (i < length ts) ⊎ (length ts ≤ i) → w (n + i) ≡ true_in (λ a. w (at a)) (get_or (ts ++ us) i d)
      cases (inl lt) = a i d lt ∙ ap (true_in (λ a. w (at a))) (sym (get_or_append_left ts us d i lt))
      cases (inr le) =
          let near : i - k < length us = omega (arith, h, e, le, length-append ts us) in
          let place : n + i ≡ n + k + (i - k) = omega (arith, e, le) in
          let there : k ≤ i = omega (arith, e, le) in
          ap w place ∙ b (i - k) d near ∙ ap (true_in (λ a. w (at a))) (sym (get_or-append_right ts us k i d e there))

  agrees-one : (n : ℕ) (t : Tree) → w n ≡ true_in (λ a. w (at a)) t → Agrees at w n (t ∷ [])
  agrees-one n t e zero d h = let none : n + 0 ≡ n = omega arith in ap w none ∙ e
  agrees-one n t e (suc i) d h = absurd (omega (arith, h))

  one-agrees : (n : ℕ) (t : Tree) → Agrees at w n (t ∷ []) → w n ≡ true_in (λ a. w (at a)) t
  one-agrees n t a = let none : n ≡ n + 0 = omega arith in ap w none ∙ a 0 t (omega arith)

  agrees-none : (n : ℕ) → Agrees at w n []
  agrees-none n i d h = absurd (omega (arith, h))

  -- a literal has the truth of its tree
  pub name_of-holds : (n : ℕ) (p : Tree) → Agrees at w n (named p) → holds w (name_of at n p) ≡ true_in (λ a. w (at a)) p
  name_of-holds n always a = one-agrees n always a
  name_of-holds n never a = one-agrees n never a
  name_of-holds n (literal k s) a = agree-is s (w (at k))
  name_of-holds n (all_of ps) a = one-agrees (n + names_taken_each ps) (all_of ps) (agrees-right n (names_taken_each ps) (named_each ps) (all_of ps ∷ []) (length-named_each ps) a)
  name_of-holds n (any_of ps) a = one-agrees (n + names_taken_each ps) (any_of ps) (agrees-right n (names_taken_each ps) (named_each ps) (any_of ps ∷ []) (length-named_each ps) a)

  pub names_of-all : (n : ℕ) (ps : Trees) → Agrees at w n (named_each ps) → list_all (holds w) (names_of at n ps) ≡ each_true (λ a. w (at a)) ps
  names_of-all n no_trees a = refl
  names_of-all n (tree p ps) a =
      rw (name_of-holds n p (agrees-left n (named p) (named_each ps) a), names_of-all (n + names_taken p) ps (agrees-right n (names_taken p) (named p) (named_each ps) (length-named p) a)) refl

  pub names_of-any : (n : ℕ) (ps : Trees) → Agrees at w n (named_each ps) → list_any (holds w) (names_of at n ps) ≡ some_true (λ a. w (at a)) ps
  names_of-any n no_trees a = refl
  names_of-any n (tree p ps) a =
      rw (name_of-holds n p (agrees-left n (named p) (named_each ps) a), names_of-any (n + names_taken p) ps (agrees-right n (names_taken p) (named p) (named_each ps) (length-named p) a)) refl

  -- the clauses of a gate, under names that agree
  pub and-gate : (n : ℕ) (l : Literal) (ps : Trees) → Agrees at w n (named_each ps) → all_hold w (and_clauses l (names_of at n ps)) ≡ same_truth (holds w l) (each_true (λ a. w (at a)) ps)
  and-gate n l ps a = and-hold w l (names_of at n ps) ∙ ap (same_truth (holds w l)) (names_of-all n ps a)

  pub or-gate : (n : ℕ) (l : Literal) (ps : Trees) → Agrees at w n (named_each ps) → all_hold w (or_clauses l (names_of at n ps)) ≡ same_truth (holds w l) (some_true (λ a. w (at a)) ps)
  or-gate n l ps a = or-hold w l (names_of at n ps) ∙ ap (same_truth (holds w l)) (names_of-any n ps a)

  mutual
    -- names that meet their clauses have the truth of their trees
    pub agrees : (n : ℕ) (p : Tree) → all_hold w (naming at n p) ≡ true → Agrees at w n (named p)
    agrees n always h = agrees-one n always (same_truth-is (w n) true (sym (and-hold w (positive n) []) ∙ h))
    agrees n never h = agrees-one n never (same_truth-is (w n) false (sym (or-hold w (positive n) []) ∙ h))
    agrees n (literal a s) h = agrees-none n
    agrees n (all_of ps) h =
        let both = sym (hold-append w (naming_each at n ps) (and_clauses (positive (n + names_taken_each ps)) (names_of at n ps))) ∙ h in
        let below = agrees_each n ps (both-left (all_hold w (naming_each at n ps)) (all_hold w (and_clauses (positive (n + names_taken_each ps)) (names_of at n ps))) both) in
        let gate = both-right (all_hold w (naming_each at n ps)) (all_hold w (and_clauses (positive (n + names_taken_each ps)) (names_of at n ps))) both in
        agrees-append n (names_taken_each ps) (named_each ps) (all_of ps ∷ []) (length-named_each ps) below
        (agrees-one (n + names_taken_each ps) (all_of ps) (same_truth-is (w (n + names_taken_each ps)) (each_true (λ a. w (at a)) ps) (sym (and-gate n (positive (n + names_taken_each ps)) ps below) ∙ gate)))
    agrees n (any_of ps) h =
        let both = sym (hold-append w (naming_each at n ps) (or_clauses (positive (n + names_taken_each ps)) (names_of at n ps))) ∙ h in
        let below = agrees_each n ps (both-left (all_hold w (naming_each at n ps)) (all_hold w (or_clauses (positive (n + names_taken_each ps)) (names_of at n ps))) both) in
        let gate = both-right (all_hold w (naming_each at n ps)) (all_hold w (or_clauses (positive (n + names_taken_each ps)) (names_of at n ps))) both in
        agrees-append n (names_taken_each ps) (named_each ps) (any_of ps ∷ []) (length-named_each ps) below
        (agrees-one (n + names_taken_each ps) (any_of ps) (same_truth-is (w (n + names_taken_each ps)) (some_true (λ a. w (at a)) ps) (sym (or-gate n (positive (n + names_taken_each ps)) ps below) ∙ gate)))

    pub agrees_each : (n : ℕ) (ps : Trees) → all_hold w (naming_each at n ps) ≡ true → Agrees at w n (named_each ps)
    agrees_each n no_trees h = agrees-none n
    agrees_each n (tree p ps) h =
        let both = sym (hold-append w (naming at n p) (naming_each at (n + names_taken p) ps)) ∙ h in
        agrees-append n (names_taken p) (named p) (named_each ps) (length-named p)
        (agrees n p (both-left (all_hold w (naming at n p)) (all_hold w (naming_each at (n + names_taken p) ps)) both))
        (agrees_each (n + names_taken p) ps (both-right (all_hold w (naming at n p)) (all_hold w (naming_each at (n + names_taken p) ps)) both))

  mutual
    -- and the other way
    pub meets : (n : ℕ) (p : Tree) → Agrees at w n (named p) → all_hold w (naming at n p) ≡ true
    meets n always a = and-hold w (positive n) [] ∙ is-same_truth (w n) true (one-agrees n always a)
    meets n never a = or-hold w (positive n) [] ∙ is-same_truth (w n) false (one-agrees n never a)
    meets n (literal k s) a = refl
    meets n (all_of ps) a =
        let below = agrees-left n (named_each ps) (all_of ps ∷ []) a in
        hold-append w (naming_each at n ps) (and_clauses (positive (n + names_taken_each ps)) (names_of at n ps))
        ∙ both-true (all_hold w (naming_each at n ps)) (all_hold w (and_clauses (positive (n + names_taken_each ps)) (names_of at n ps))) (meets_each n ps below)
        (and-gate n (positive (n + names_taken_each ps)) ps below ∙ is-same_truth (w (n + names_taken_each ps)) (each_true (λ a. w (at a)) ps) (name_of-holds n (all_of ps) a))
    meets n (any_of ps) a =
        let below = agrees-left n (named_each ps) (any_of ps ∷ []) a in
        hold-append w (naming_each at n ps) (or_clauses (positive (n + names_taken_each ps)) (names_of at n ps))
        ∙ both-true (all_hold w (naming_each at n ps)) (all_hold w (or_clauses (positive (n + names_taken_each ps)) (names_of at n ps))) (meets_each n ps below)
        (or-gate n (positive (n + names_taken_each ps)) ps below ∙ is-same_truth (w (n + names_taken_each ps)) (some_true (λ a. w (at a)) ps) (name_of-holds n (any_of ps) a))

    pub meets_each : (n : ℕ) (ps : Trees) → Agrees at w n (named_each ps) → all_hold w (naming_each at n ps) ≡ true
    meets_each n no_trees a = refl
    meets_each n (tree p ps) a =
        hold-append w (naming at n p) (naming_each at (n + names_taken p) ps)
        ∙ both-true (all_hold w (naming at n p)) (all_hold w (naming_each at (n + names_taken p) ps))
        (meets n p (agrees-left n (named p) (named_each ps) a))
        (meets_each (n + names_taken p) ps (agrees-right n (names_taken p) (named p) (named_each ps) (length-named p) a))
