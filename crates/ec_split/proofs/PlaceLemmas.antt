-- Places in a list of groups, before and after a predicate joins one of them.
use Rattle.std.proofs.Common.{◌≡◌, ◌∙◌, ◌<◌, ◌==◌, ◌||◌, ℕ, zero, suc, Bool, true, false, List, [], ◌∷◌, ◌++◌, length, Option, None, Some, option_map, if◌then◌else◌, refl, sym, ap, subst, arith}
use Rattle.std.proofs.lemmas.Bool.{eqb-true}
use Rattle.std.specs.Option.{option_or}
use Rattle.std.specs.Cmp.Lexicographic.{bytes_decides}
use Rattle.std.specs.List.{list_any}
use Rattle.ec_split.specs.Groups.{Maker, effects, label, alone, same_maker, is_effect, maker_for, Made, is_made_by, has_predicate, place, joined}
use Rattle.ec_split.specs.Plan.{added, new_maker}

-- the two cases of a test
pub by_test : (P : Type 0) (b : Bool) → (b ≡ true → P) → (b ≡ false → P) → P
by_test P true t f = t refl
by_test P false t f = f refl

pub unsuc_none : (o : Option ℕ) → option_map suc o ≡ None → o ≡ None
unsuc_none None h = refl
unsuc_none (Some k) h = cc

-- a place behind the first item
pub record IsBehind (o : Option ℕ) (k : ℕ) : Type 0 where
  pub before : ℕ
  pub found : o ≡ Some before
  pub is : k ≡ suc before

pub unsuc_some : (o : Option ℕ) (k : ℕ) → option_map suc o ≡ Some k → IsBehind o k
unsuc_some None k h = cc
unsuc_some (Some j) k h = record { before = j; found = refl; is = cc }

-- the place, by the test of the first item
pub place_first : {A : Type 0} (test : A → Bool) (x : A) (xs : List A) → test x ≡ true → place test (x ∷ xs) ≡ Some 0
place_first test x xs e = ap (λ b. if b then Some 0 else option_map suc (place test xs)) e

pub place_later : {A : Type 0} (test : A → Bool) (x : A) (xs : List A) → test x ≡ false → place test (x ∷ xs) ≡ option_map suc (place test xs)
place_later test x xs e = ap (λ b. if b then Some 0 else option_map suc (place test xs)) e

pub place_none_first : {A : Type 0} (test : A → Bool) (x : A) (xs : List A) → place test (x ∷ xs) ≡ None → test x ≡ false
place_none_first test x xs h = by_test (test x ≡ false) (test x) (λ e. let z = place_first test x xs e in cc) (λ e. e)

pub place_none_later : {A : Type 0} (test : A → Bool) (x : A) (xs : List A) → place test (x ∷ xs) ≡ None → place test xs ≡ None
place_none_later test x xs h = unsuc_none (place test xs) (sym (place_later test x xs (place_none_first test x xs h)) ∙ h)

pub place_below : {A : Type 0} (test : A → Bool) (xs : List A) (k : ℕ) → place test xs ≡ Some k → k < length xs
place_below test [] k h = cc
place_below test (x ∷ xs) k h =
    by_test (k < length (x ∷ xs)) (test x)
    (λ e. let z : Some 0 ≡ Some k = sym (place_first test x xs e) ∙ h in let y : 0 ≡ k = cc in omega arith)
    (λ e. let s = unsuc_some (place test xs) k (sym (place_later test x xs e) ∙ h) in omega (arith, place_below test xs s.before s.found, s.is))

suc_or : (o : Option ℕ) (b : Bool) (n : ℕ) → option_map suc (option_or o (if b then Some n else None)) ≡ option_or (option_map suc o) (if b then Some (suc n) else None)
suc_or None true n = refl
suc_or None false n = refl
suc_or (Some k) b n = refl

append_step : (b c : Bool) (o r : Option ℕ) (n : ℕ) → r ≡ option_or o (if c then Some n else None) → (if b then Some 0 else option_map suc r) ≡ option_or (if b then Some 0 else option_map suc o) (if c then Some (suc n) else None)
append_step true c o r n h = refl
append_step false c o r n h = ap (option_map suc) h ∙ suc_or o c n

pub place_append : {A : Type 0} (test : A → Bool) (xs : List A) (y : A) → place test (xs ++ y ∷ []) ≡ option_or (place test xs) (if test y then Some (length xs) else None)
place_append test [] y = refl
place_append test (x ∷ xs) y = append_step (test x) (test y) (place test xs) (place test (xs ++ y ∷ [])) (length xs) (place_append test xs y)

or_none : (o : Option ℕ) → option_or o None ≡ o
or_none None = refl
or_none (Some k) = refl

pub joined_new : (maker : Maker) (p : ℕ) (groups : List Made) → place (is_made_by maker) groups ≡ None → joined maker p groups ≡ groups ++ record { maker = maker; predicates = p ∷ [] } ∷ []
joined_new maker p [] h = refl
joined_new maker p (group ∷ groups) h =
    let e = place_none_first (is_made_by maker) group groups h in
    let rest = joined_new maker p groups (place_none_later (is_made_by maker) group groups h) in
    rw e (ap (λ gs. group ∷ gs) rest)

pub joined_added : (maker : Maker) (p k : ℕ) (groups : List Made) → place (is_made_by maker) groups ≡ Some k → joined maker p groups ≡ added k p groups
joined_added maker p k [] h = cc
joined_added maker p zero (group ∷ groups) h =
    by_test (joined maker p (group ∷ groups) ≡ added zero p (group ∷ groups)) (is_made_by maker group) (λ e. rw e refl)
    (λ e. let s = unsuc_some (place (is_made_by maker) groups) zero (sym (place_later (is_made_by maker) group groups e) ∙ h) in absurd (omega (arith, s.is)))
joined_added maker p (suc k) (group ∷ groups) h =
    by_test (joined maker p (group ∷ groups) ≡ added (suc k) p (group ∷ groups)) (is_made_by maker group)
    (λ e. let z : Some 0 ≡ Some (suc k) = sym (place_first (is_made_by maker) group groups e) ∙ h in let y : 0 ≡ suc k = cc in absurd (omega arith))
    (λ e.
    let s = unsuc_some (place (is_made_by maker) groups) (suc k) (sym (place_later (is_made_by maker) group groups e) ∙ h) in
    let same : s.before ≡ k = omega (arith, s.is) in
    rw e (ap (λ gs. group ∷ gs) (joined_added maker p k groups (s.found ∙ ap Some same))))

pub place_added_maker : (maker : Maker) (p k : ℕ) (groups : List Made) → place (is_made_by maker) (added k p groups) ≡ place (is_made_by maker) groups
place_added_maker maker p k [] = refl
place_added_maker maker p zero (group ∷ groups) = refl
place_added_maker maker p (suc k) (group ∷ groups) = ap (λ o. if is_made_by maker group then Some 0 else option_map suc o) (place_added_maker maker p k groups)

pub any_push : (test : ℕ → Bool) (qs : List ℕ) (p : ℕ) → list_any test (qs ++ p ∷ []) ≡ (list_any test qs || test p)
any_push test [] p = by_test ((test p || false) ≡ test p) (test p) (λ e. rw e refl) (λ e. rw e refl)
any_push test (q ∷ qs) p = by_test ((test q || list_any test (qs ++ p ∷ [])) ≡ ((test q || list_any test qs) || test p)) (test q) (λ e. rw e refl) (λ e. rw e (any_push test qs p))

added_step : (b c : Bool) (r o : Option ℕ) (k : ℕ) → (c ≡ true → b ≡ false) → r ≡ (if c then Some k else o) → (if b then Some 0 else option_map suc r) ≡ (if c then Some (suc k) else (if b then Some 0 else option_map suc o))
added_step true true r o k f h = let e = f refl in cc
added_step true false r o k f h = refl
added_step false true r o k f h = ap (option_map suc) h
added_step false false r o k f h = ap (option_map suc) h

-- a predicate that no group has is found in the group that it is added to, and the others where they were
pub place_added : (p q k : ℕ) (groups : List Made) → place (has_predicate p) groups ≡ None → k < length groups → place (has_predicate q) (added k p groups) ≡ (if p == q then Some k else place (has_predicate q) groups)
place_added p q k [] h l = absurd (omega (arith, l))
place_added p q zero (group ∷ groups) h l =
    let push = any_push (λ r. r == q) group.predicates p in
    by_test (place (has_predicate q) (added zero p (group ∷ groups)) ≡ (if p == q then Some 0 else place (has_predicate q) (group ∷ groups))) (p == q)
    (λ e. by_test (place (has_predicate q) (added zero p (group ∷ groups)) ≡ (if p == q then Some 0 else place (has_predicate q) (group ∷ groups))) (has_predicate q group) (λ f. rw (push, f, e) refl) (λ f. rw (push, f, e) refl))
    (λ e. by_test (place (has_predicate q) (added zero p (group ∷ groups)) ≡ (if p == q then Some 0 else place (has_predicate q) (group ∷ groups))) (has_predicate q group) (λ f. rw (push, f, e) refl) (λ f. rw (push, f, e) refl))
place_added p q (suc k) (group ∷ groups) h l =
    let m : k < length groups = omega (arith, l) in
    let P : ℕ → Type 0 = λ r. has_predicate r group ≡ false in
    added_step (has_predicate q group) (p == q) (place (has_predicate q) (added k p groups)) (place (has_predicate q) groups) k
    (λ e. subst P (eqb-true p q e) (place_none_first (has_predicate p) group groups h))
    (place_added p q k groups (place_none_later (has_predicate p) group groups h) m)

-- a group that is new has only what it was made with
pub place_new : (p q : ℕ) (maker : Maker) (groups : List Made) → place (has_predicate p) groups ≡ None → place (has_predicate q) (groups ++ record { maker = maker; predicates = p ∷ [] } ∷ []) ≡ (if p == q then Some (length groups) else place (has_predicate q) groups)
place_new p q maker groups h =
    let new : Made = record { maker = maker; predicates = p ∷ [] } in
    let P : ℕ → Type 0 = λ r. place (has_predicate r) groups ≡ None in
    place_append (has_predicate q) groups new
    ∙ by_test (option_or (place (has_predicate q) groups) (if (p == q) || false then Some (length groups) else None) ≡ (if p == q then Some (length groups) else place (has_predicate q) groups)) (p == q)
    (λ e. let none = subst P (eqb-true p q e) h in rw (none, e) refl)
    (λ e. rw e (or_none (place (has_predicate q) groups)))

-- ---- makers

pub same_maker_is : (a b : Maker) → same_maker a b ≡ true → a ≡ b
same_maker_is effects effects h = refl
same_maker_is effects (label b) h = cc
same_maker_is effects (alone q) h = cc
same_maker_is (label a) effects h = cc
same_maker_is (label a) (label b) h = ap label ((bytes_decides a b).0 h)
same_maker_is (label a) (alone q) h = cc
same_maker_is (alone p) effects h = cc
same_maker_is (alone p) (label b) h = cc
same_maker_is (alone p) (alone q) h = ap alone (eqb-true p q h)

-- a group that is new is found by its maker alone
pub place_new_maker : (maker other : Maker) (p : ℕ) (groups : List Made) → place (is_made_by maker) groups ≡ None → place (is_made_by other) (groups ++ record { maker = maker; predicates = p ∷ [] } ∷ []) ≡ (if same_maker other maker then Some (length groups) else place (is_made_by other) groups)
place_new_maker maker other p groups h =
    let new : Made = record { maker = maker; predicates = p ∷ [] } in
    let P : Maker → Type 0 = λ m. place (is_made_by m) groups ≡ None in
    place_append (is_made_by other) groups new
    ∙ by_test (option_or (place (is_made_by other) groups) (if same_maker other maker then Some (length groups) else None) ≡ (if same_maker other maker then Some (length groups) else place (is_made_by other) groups)) (same_maker other maker)
    (λ e. let none = subst P (sym (same_maker_is other maker e)) h in rw (none, e) refl)
    (λ e. rw e (or_none (place (is_made_by other) groups)))

-- an effect predicate has a group, so what is asked for and absent is new
pub asked_new : (name : Option (List ℕ)) (p : ℕ) (groups : List Made) → place (is_made_by effects) groups ≡ Some 0 → place (is_made_by (maker_for name p)) groups ≡ None → maker_for name p ≡ new_maker name p
asked_new (Some name) p groups h f = refl
asked_new None p groups h f =
    let P : Maker → Type 0 = λ m. place (is_made_by m) groups ≡ None in
    by_test (maker_for None p ≡ alone p) (is_effect p)
    (λ e. let z : place (is_made_by effects) groups ≡ None = subst P (ap (λ b. if b then effects else alone p) e) f in cc)
    (λ e. ap (λ b. if b then effects else alone p) e)
