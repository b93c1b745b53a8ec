-- What marks find is what the words say.
use Rattle.std.proofs.Common.{◌≡◌, ◌≢◌, ℕ, ◌+◌, ◌<◌, ◌≤◌, Bool, true, false, not, ◌&&◌, ◌||◌, ◌==◌, List, [], ◌∷◌, ◌++◌, length, get_or, refl, sym, ap, ◌∙◌, arith, filter, if◌then◌else◌, Option, Some, None}
use Rattle.std.proofs.lemmas.Bool.Decides.{nat_tests}
use Rattle.std.specs.Prelude.{option_map}
use Rattle.std.specs.List.{list_any}
use Rattle.std.proofs.lemmas.List.{get_or-set_same, get_or-set_other}
use Rattle.std.proofs.Math.ListN.{length-set}
use Rattle.std.proofs.Common.{◌⊎◌, inl, inr, append-nil, ◌-◌}
use Rattle.std.proofs.lemmas.List.{length-replicate}
use Rattle.std.specs.Prelude.{All, AllPairs, IsTrue}
use Rattle.std.proofs.lemmas.List.Elements.{All-head, All-tail, All-cons, All-nil}
use Rattle.std.proofs.lemmas.List.Kept.{AllPairs-cons, AllPairs-filter}
use Rattle.ec_folding.specs.Tree.{under_sign}
use Rattle.ec_clause.specs.Literal.{Literal, opposite}
use Rattle.ec_clause.specs.Truth.{Truth, literal_value, with_true}
use Rattle.ec_clause.specs.ClauseList.{IsClause}
use Rattle.ec_naming.specs.Tidy.{same_sign, same, distinct, has_opposites, tidied}
use Rattle.ec_naming.specs.Marks.{blank, AreInRange, kept_step, kept_after, clash_step, clash_after, marks_after, unmarked}
use Rattle.ec_naming.proofs.Tidies.{same-is}
use Rattle.ec_naming.proofs.Marking.{blank-none, nothing, unmarked_marks, length-marks_after}

-- all variables have a place
abbrev pub Fit : Truth → List Literal → Type 0
Fit p [] = Unit {0}
Fit p (l ∷ ls) = (l.variable < length p) × Fit p ls

-- whether a literal is among those seen
abbrev pub contains : List Literal → Literal → Bool
contains seen l = list_any (same l) seen

-- the value of a literal, where it was seen or its opposite was
abbrev pub known : Bool → Bool → Option Bool
known true b = Some true
known false true = Some false
known false false = None

-- a partial truth knows these literals, and no others
pub record Knows (p : Truth) (seen : List Literal) : Type 0 where
  pub value : (l : Literal) → l.variable < length p → literal_value p l ≡ known (contains seen l) (contains seen (opposite l))

pub Fit-more : (p q : Truth) (ls : List Literal) → length p ≡ length q → Fit p ls → Fit q ls
Fit-more p q [] e h = tt
Fit-more p q (l ∷ ls) e h = (omega (arith, h.0, e), Fit-more p q ls e h.1)

same-sign_flip : (s t : Bool) → same_sign s t ≡ same_sign t s
same-sign_flip true true = refl
same-sign_flip true false = refl
same-sign_flip false true = refl
same-sign_flip false false = refl

opposite_flip : (s t : Bool) → same_sign (not s) t ≡ same_sign (not t) s
opposite_flip true true = refl
opposite_flip true false = refl
opposite_flip false true = refl
opposite_flip false false = refl

test_flip : (m n : ℕ) → (m == n) ≡ (n == m)
test_flip m n = grind (arith, nat_tests)

opposite-same : (k l : Literal) → same (opposite k) l ≡ same (opposite l) k
opposite-same k l = rw (test_flip k.variable l.variable, opposite_flip k.positive l.positive) refl

not-not : (b : Bool) → not (not b) ≡ b
not-not true = refl
not-not false = refl

opposite-twice : (l : Literal) → opposite (opposite l) ≡ l
opposite-twice l = ap (with_sign l.variable) (not-not l.positive)
  where
    with_sign : ℕ → Bool → Literal
    with_sign n s = record { variable = n; positive = s }

value-opposite : (p : Truth) (l : Literal) → literal_value p (opposite l) ≡ option_map not (literal_value p l)
value-opposite p l = by_cases l.positive (get_or p l.variable None)
  where
    by_cases : (s : Bool) (o : Option Bool) → option_map (under_sign (not s)) o ≡ option_map not (option_map (under_sign s) o)
    by_cases s None = refl
    by_cases true (Some b) = refl
    by_cases false (Some true) = refl
    by_cases false (Some false) = refl

-- no two seen literals are opposite
seen-apart : (p : Truth) (seen : List Literal) (l : Literal) → Knows p seen → l.variable < length p → contains seen l ≡ true → contains seen (opposite l) ≡ false
seen-apart p seen l h lt e = by_test (contains seen (opposite l)) refl
  where
    by_test : (b : Bool) → contains seen (opposite l) ≡ b → contains seen (opposite l) ≡ false
    by_test false f = f
    by_test true f =
        let one : literal_value p l ≡ Some true = h.value l lt ∙ ap (λ (x : Bool). known x (contains seen (opposite l))) e in
        let two : literal_value p (opposite l) ≡ Some true = h.value (opposite l) lt ∙ ap (λ (x : Bool). known x (contains seen (opposite (opposite l)))) f in
        let three : literal_value p (opposite l) ≡ Some false = value-opposite p l ∙ ap (option_map not) one in
        cc

Knows_none : (n : ℕ) → Knows (blank n) []
Knows_none n = record { value = λ l lt. ap (option_map (under_sign l.positive)) (blank-none n l.variable) }

Knows_more : (p : Truth) (seen : List Literal) (l : Literal) → Knows p seen → l.variable < length p → literal_value p l ≡ None → Knows (with_true p l) (l ∷ seen)
Knows_more p seen l h lt e = record { value = λ k lk. by_test k (omega (arith, lk, length-set p l.variable (Some l.positive))) (k.variable == l.variable) refl }
  where
    no_value : (s : Bool) (o : Option Bool) → option_map (under_sign s) o ≡ None → o ≡ None
    no_value s None e = refl
    no_value s (Some b) e = cc

    unseen : (a b : Bool) → known a b ≡ None → a ≡ false
    unseen true b e = cc
    unseen false b e = refl

    unseen_opposite : (a b : Bool) → known a b ≡ None → b ≡ false
    unseen_opposite true b e = cc
    unseen_opposite false true e = cc
    unseen_opposite false false e = refl

    by_signs : (s t : Bool) → Some (under_sign s t) ≡ known (same_sign s t || false) (same_sign (not s) t || false)
    by_signs true true = refl
    by_signs true false = refl
    by_signs false true = refl
    by_signs false false = refl

    by_test : (k : Literal) → k.variable < length p → (b : Bool) → (k.variable == l.variable) ≡ b → literal_value (with_true p l) k ≡ known (contains (l ∷ seen) k) (contains (l ∷ seen) (opposite k))
    by_test k lk true f =
        let v : k.variable ≡ l.variable = grind (arith, nat_tests) in
        let here : get_or p k.variable None ≡ None = ap (λ (i : ℕ). get_or p i None) v ∙ no_value l.positive (get_or p l.variable None) e in
        let none : known (contains seen k) (contains seen (opposite k)) ≡ None = sym (h.value k lk) ∙ ap (option_map (under_sign k.positive)) here in
        let now : get_or (with_true p l) k.variable None ≡ Some l.positive = ap (λ (i : ℕ). get_or (with_true p l) i None) v ∙ get_or-set_same p l.variable (Some l.positive) None lt in
        rw (now, f, unseen (contains seen k) (contains seen (opposite k)) none, unseen_opposite (contains seen k) (contains seen (opposite k)) none) (by_signs k.positive l.positive)
    by_test k lk false f =
        let apart : k.variable ≢ l.variable = λ v. absurd (let g : (k.variable == l.variable) ≡ true = grind (arith, nat_tests) in cc) in
        rw (get_or-set_other p l.variable k.variable (Some l.positive) None apart, f) (h.value k lk)

-- ---- opposite literals

by_contains : (b : Bool) → (b ≡ true) ⊎ (b ≡ false)
by_contains true = inl refl
by_contains false = inr refl

-- the opposite of a literal that was seen stands among these
seen_later : (seen ls : List Literal) (l : Literal) → contains seen l ≡ true → list_any (same (opposite l)) ls ≡ true → list_any (λ k. contains seen (opposite k)) ls ≡ true
seen_later seen [] l e h = cc
seen_later seen (k ∷ ls) l e h = cases (λ g. seen_later seen ls l e g) (same (opposite l) k) refl h
  where
    or-right : (b : Bool) → (b || true) ≡ true
    or-right true = refl
    or-right false = refl

    cases : (list_any (same (opposite l)) ls ≡ true → list_any (λ k. contains seen (opposite k)) ls ≡ true) → (b : Bool) → same (opposite l) k ≡ b → (b || list_any (same (opposite l)) ls) ≡ true → list_any (λ k. contains seen (opposite k)) (k ∷ ls) ≡ true
    cases ih true f h =
        let is : opposite k ≡ l = ap opposite (sym (same-is (opposite l) k f)) ∙ opposite-twice l in
        let here : contains seen (opposite k) ≡ true = ap (contains seen) is ∙ e in
        rw here refl
    cases ih false f h = rw (ih h) (or-right (contains seen (opposite k)))

split_seen : (seen ls : List Literal) (l : Literal) → list_any (λ k. contains (l ∷ seen) (opposite k)) ls ≡ (list_any (same (opposite l)) ls || list_any (λ k. contains seen (opposite k)) ls)
split_seen seen [] l = refl
split_seen seen (k ∷ ls) l = rw (opposite-same k l, split_seen seen ls l) (by_tests (same (opposite l) k) (contains seen (opposite k)) (list_any (same (opposite l)) ls) (list_any (λ k. contains seen (opposite k)) ls))
  where
    by_tests : (a b c d : Bool) → ((a || b) || (c || d)) ≡ ((a || c) || (b || d))
    by_tests true b c d = refl
    by_tests false true true d = refl
    by_tests false true false d = refl
    by_tests false false c d = refl

pub clash_is : (p : Truth) (seen ls : List Literal) → Knows p seen → Fit p ls → clash_after p ls ≡ (list_any (λ k. contains seen (opposite k)) ls || has_opposites ls)
clash_is p seen [] h fit = refl
clash_is p seen (l ∷ ls) h fit =
    ap (λ (o : Option Bool). clash_step o (clash_after (with_true p l) ls) (clash_after p ls)) (h.value l fit.0)
    ∙ cases (clash_is p seen ls h fit.1) (λ none. clash_is (with_true p l) (l ∷ seen) ls (Knows_more p seen l h fit.0 none) (Fit-more p (with_true p l) ls (sym (length-set p l.variable (Some l.positive))) fit.1)) (contains seen l) refl (contains seen (opposite l)) refl
  where
    after_seen : (a c o : Bool) → (c ≡ true → a ≡ true) → (a || o) ≡ (a || (c || o))
    after_seen true c o h = refl
    after_seen false true o h = let e = h refl in cc
    after_seen false false o h = refl

    after_new : (c a o : Bool) → ((c || a) || o) ≡ (a || (c || o))
    after_new true true o = refl
    after_new true false o = refl
    after_new false true o = refl
    after_new false false o = refl

    cases : clash_after p ls ≡ (list_any (λ k. contains seen (opposite k)) ls || has_opposites ls) → (literal_value p l ≡ None → clash_after (with_true p l) ls ≡ (list_any (λ k. contains (l ∷ seen) (opposite k)) ls || has_opposites ls)) → (a : Bool) → contains seen l ≡ a → (b : Bool) → contains seen (opposite l) ≡ b → clash_step (known a b) (clash_after (with_true p l) ls) (clash_after p ls) ≡ ((b || list_any (λ k. contains seen (opposite k)) ls) || (list_any (same (opposite l)) ls || has_opposites ls))
    cases same_rest new_rest true e true f = let g = seen-apart p seen l h fit.0 e in cc
    cases same_rest new_rest true e false f = same_rest ∙ after_seen (list_any (λ k. contains seen (opposite k)) ls) (list_any (same (opposite l)) ls) (has_opposites ls) (seen_later seen ls l e)
    cases same_rest new_rest false e true f = refl
    cases same_rest new_rest false e false f =
        new_rest (h.value l fit.0 ∙ ap (λ (x : Bool). known x (contains seen (opposite l))) e ∙ ap (known false) f)
        ∙ ap (λ (b : Bool). b || has_opposites ls) (split_seen seen ls l)
        ∙ after_new (list_any (same (opposite l)) ls) (list_any (λ k. contains seen (opposite k)) ls) (has_opposites ls)

-- ---- repeated literals

-- those that were not seen
abbrev pub unseen : List Literal → List Literal → List Literal
unseen seen ls = filter (λ k. not (contains seen k)) ls

unseen_again : (seen ds : List Literal) (l : Literal) → contains seen l ≡ true → unseen seen (filter (λ k. not (same k l)) ds) ≡ unseen seen ds
unseen_again seen [] l e = refl
unseen_again seen (k ∷ ds) l e = cases (unseen_again seen ds l e) (same k l) refl (contains seen k) refl
  where
    cases : unseen seen (filter (λ k. not (same k l)) ds) ≡ unseen seen ds → (a : Bool) → same k l ≡ a → (b : Bool) → contains seen k ≡ b → unseen seen (if not a then k ∷ filter (λ k. not (same k l)) ds else filter (λ k. not (same k l)) ds) ≡ (if not b then k ∷ unseen seen ds else unseen seen ds)
    cases ih true f true g = ih
    cases ih true f false g = let seen_too = ap (contains seen) (same-is k l f) in cc
    cases ih false f true g = rw g ih
    cases ih false f false g = rw g (ap (λ (xs : List Literal). k ∷ xs) ih)

unseen_more : (seen ds : List Literal) (l : Literal) → unseen (l ∷ seen) ds ≡ unseen seen (filter (λ k. not (same k l)) ds)
unseen_more seen [] l = refl
unseen_more seen (k ∷ ds) l = cases (unseen_more seen ds l) (same k l) refl (contains seen k) refl
  where
    cases : unseen (l ∷ seen) ds ≡ unseen seen (filter (λ k. not (same k l)) ds) → (a : Bool) → same k l ≡ a → (b : Bool) → contains seen k ≡ b → (if not (a || b) then k ∷ unseen (l ∷ seen) ds else unseen (l ∷ seen) ds) ≡ unseen seen (if not a then k ∷ filter (λ k. not (same k l)) ds else filter (λ k. not (same k l)) ds)
    cases ih true f b g = ih
    cases ih false f true g = rw g ih
    cases ih false f false g = rw g (ap (λ (xs : List Literal). k ∷ xs) ih)

unseen_none : (ds : List Literal) → unseen [] ds ≡ ds
unseen_none [] = refl
unseen_none (d ∷ ds) = ap (λ (xs : List Literal). d ∷ xs) (unseen_none ds)

pub kept_is : (p : Truth) (seen ls : List Literal) → Knows p seen → Fit p ls → clash_after p ls ≡ false → kept_after p ls ≡ unseen seen (distinct ls)
kept_is p seen [] h fit none = refl
kept_is p seen (l ∷ ls) h fit none =
    ap (λ (o : Option Bool). kept_step o l (kept_after (with_true p l) ls) (kept_after p ls)) (h.value l fit.0)
    ∙ cases (kept_is p seen ls h fit.1) (λ e. kept_is (with_true p l) (l ∷ seen) ls (Knows_more p seen l h fit.0 e) (Fit-more p (with_true p l) ls (sym (length-set p l.variable (Some l.positive))) fit.1)) (contains seen l) refl (contains seen (opposite l)) refl
    (sym (ap (λ (o : Option Bool). clash_step o (clash_after (with_true p l) ls) (clash_after p ls)) (h.value l fit.0)) ∙ none)
  where
    cases : (clash_after p ls ≡ false → kept_after p ls ≡ unseen seen (distinct ls)) → (literal_value p l ≡ None → clash_after (with_true p l) ls ≡ false → kept_after (with_true p l) ls ≡ unseen (l ∷ seen) (distinct ls)) → (a : Bool) → contains seen l ≡ a → (b : Bool) → contains seen (opposite l) ≡ b → clash_step (known a b) (clash_after (with_true p l) ls) (clash_after p ls) ≡ false → kept_step (known a b) l (kept_after (with_true p l) ls) (kept_after p ls) ≡ (if not a then l ∷ unseen seen (filter (λ k. not (same k l)) (distinct ls)) else unseen seen (filter (λ k. not (same k l)) (distinct ls)))
    cases same_rest new_rest true e b f g = same_rest g ∙ sym (unseen_again seen (distinct ls) l e)
    cases same_rest new_rest false e true f g = cc
    cases same_rest new_rest false e false f g =
        ap (λ (xs : List Literal). l ∷ xs) (new_rest (h.value l fit.0 ∙ ap (λ (x : Bool). known x (contains seen (opposite l))) e ∙ ap (known false) f) g ∙ unseen_more seen (distinct ls) l)

-- ---- from no marks on

pub Fit_blank : (n : ℕ) (ls : List Literal) → AreInRange n ls → Fit (blank n) ls
Fit_blank n [] h = tt
Fit_blank n (l ∷ ls) h = (omega (arith, h.1, length-replicate (n + 1) nothing), Fit_blank n ls h.2)

none_seen : (ls : List Literal) → list_any (λ k. contains [] (opposite k)) ls ≡ false
none_seen [] = refl
none_seen (l ∷ ls) = none_seen ls

pub clash_blank : (n : ℕ) (ls : List Literal) → AreInRange n ls → clash_after (blank n) ls ≡ has_opposites ls
clash_blank n ls h = clash_is (blank n) [] ls (Knows_none n) (Fit_blank n ls h) ∙ ap (λ (b : Bool). b || has_opposites ls) (none_seen ls)

pub kept_blank : (n : ℕ) (ls : List Literal) → AreInRange n ls → has_opposites ls ≡ false → kept_after (blank n) ls ≡ distinct ls
kept_blank n ls h e = kept_is (blank n) [] ls (Knows_none n) (Fit_blank n ls h) (clash_blank n ls h ∙ e) ∙ unseen_none (distinct ls)

-- ---- what is kept is a clause

All-filter : (P : Literal → Type 0) (test : Literal → Bool) (ls : List Literal) → All P ls → All P (filter test ls)
All-filter P test [] h = h
All-filter P test (l ∷ ls) h = by_test (test l) (All-head P l ls h) (All-filter P test ls (All-tail P l ls h))
  where
    by_test : (b : Bool) → P l → All P (filter test ls) → All P (if b then l ∷ filter test ls else filter test ls)
    by_test true one rest = All-cons P l (filter test ls) one rest
    by_test false one rest = rest

All-distinct : (P : Literal → Type 0) (ls : List Literal) → All P ls → All P (distinct ls)
All-distinct P [] h = h
All-distinct P (l ∷ ls) h = All-cons P l (filter (λ k. not (same k l)) (distinct ls)) (All-head P l ls h) (All-filter P (λ k. not (same k l)) (distinct ls) (All-distinct P ls (All-tail P l ls h)))

in_range_all : (n : ℕ) (ls : List Literal) → AreInRange n ls → All (λ (l : Literal). (1 ≤ l.variable) × (l.variable ≤ n)) ls
in_range_all n [] h = All-nil (λ (l : Literal). (1 ≤ l.variable) × (l.variable ≤ n))
in_range_all n (l ∷ ls) h = All-cons (λ (l : Literal). (1 ≤ l.variable) × (l.variable ≤ n)) l ls (h.0, h.1) (in_range_all n ls h.2)

abbrev pub NotOpposite : Literal → Literal → Type 0
NotOpposite l k = same (opposite l) k ≡ false

abbrev pub OtherVariable : Literal → Literal → Type 0
OtherVariable l k = l.variable ≢ k.variable

none_opposite : (l : Literal) (ls : List Literal) → list_any (same (opposite l)) ls ≡ false → All (NotOpposite l) ls
none_opposite l [] h = All-nil (NotOpposite l)
none_opposite l (k ∷ ls) h = All-cons (NotOpposite l) k ls (first (same (opposite l) k) h) (none_opposite l ls (later (same (opposite l) k) h))
  where
    first : (b : Bool) → (b || list_any (same (opposite l)) ls) ≡ false → b ≡ false
    first true e = e
    first false e = refl

    later : (b : Bool) → (b || list_any (same (opposite l)) ls) ≡ false → list_any (same (opposite l)) ls ≡ false
    later true e = cc
    later false e = e

other_variable : (l k : Literal) → same (opposite l) k ≡ false → same k l ≡ false → OtherVariable l k
other_variable l k e f v =
    let g : (l.variable == k.variable) ≡ true = grind (arith, nat_tests) in
    let h : (k.variable == l.variable) ≡ true = grind (arith, nat_tests) in
    by_signs l.positive k.positive (sym (ap (λ (b : Bool). b && same_sign (not l.positive) k.positive) g) ∙ e) (sym (ap (λ (b : Bool). b && same_sign k.positive l.positive) h) ∙ f)
  where
    by_signs : (s t : Bool) → same_sign (not s) t ≡ false → same_sign t s ≡ false → ⊥
    by_signs true true e f = cc
    by_signs true false e f = cc
    by_signs false true e f = cc
    by_signs false false e f = cc

others : (l : Literal) (ds : List Literal) → All (NotOpposite l) ds → All (OtherVariable l) (filter (λ k. not (same k l)) ds)
others l [] h = All-nil (OtherVariable l)
others l (k ∷ ds) h = by_test (same k l) refl (others l ds (All-tail (NotOpposite l) k ds h))
  where
    by_test : (b : Bool) → same k l ≡ b → All (OtherVariable l) (filter (λ k. not (same k l)) ds) → All (OtherVariable l) (if not b then k ∷ filter (λ k. not (same k l)) ds else filter (λ k. not (same k l)) ds)
    by_test true e rest = rest
    by_test false e rest = All-cons (OtherVariable l) k (filter (λ k. not (same k l)) ds) (other_variable l k (All-head (NotOpposite l) k ds h) e) rest

distinct_apart : (ls : List Literal) → has_opposites ls ≡ false → AllPairs OtherVariable (distinct ls)
distinct_apart [] h = λ i j d lt within. absurd (omega (arith, within))
distinct_apart (l ∷ ls) h =
    AllPairs-cons OtherVariable l (filter (λ k. not (same k l)) (distinct ls))
    (others l (distinct ls) (All-distinct (NotOpposite l) ls (none_opposite l ls (first (list_any (same (opposite l)) ls) h))))
    (AllPairs-filter OtherVariable (λ k. not (same k l)) (distinct ls) (distinct_apart ls (later (list_any (same (opposite l)) ls) h)))
  where
    first : (b : Bool) → (b || has_opposites ls) ≡ false → b ≡ false
    first true e = e
    first false e = refl

    later : (b : Bool) → (b || has_opposites ls) ≡ false → has_opposites ls ≡ false
    later true e = cc
    later false e = e

pub distinct_clause : (n : ℕ) (ls : List Literal) → AreInRange n ls → has_opposites ls ≡ false → IsClause n (distinct ls)
distinct_clause n ls h e = record {
  in_range = All-distinct (λ (l : Literal). (1 ≤ l.variable) × (l.variable ≤ n)) ls (in_range_all n ls h);
  apart = distinct_apart ls e;
}

-- ---- what is added to a list of clauses

pub kept_clause : (n : ℕ) (ls : List Literal) → AreInRange n ls → clash_after (blank n) ls ≡ false → IsClause n (kept_after (blank n) ls)
kept_clause n ls h e =
    let f = sym (clash_blank n ls h) ∙ e in
    rw (kept_blank n ls h f) (distinct_clause n ls h f)

pub tidied_kept : (n : ℕ) (ls : List Literal) → AreInRange n ls → clash_after (blank n) ls ≡ false → tidied (ls ∷ []) ≡ kept_after (blank n) ls ∷ []
tidied_kept n ls h e =
    let f = sym (clash_blank n ls h) ∙ e in
    rw (f, kept_blank n ls h f) refl

pub tidied_clash : (n : ℕ) (ls : List Literal) → AreInRange n ls → clash_after (blank n) ls ≡ true → tidied (ls ∷ []) ≡ []
tidied_clash n ls h e =
    let f = sym (clash_blank n ls h) ∙ e in
    rw f refl

pub added_is : (n : ℕ) (ls : List Literal) (old : List (List Literal)) → AreInRange n ls → old ++ tidied (ls ∷ []) ≡ (if clash_after (blank n) ls then old else old ++ kept_after (blank n) ls ∷ [])
added_is n ls old h = cases (clash_after (blank n) ls) refl
  where
    cases : (b : Bool) → clash_after (blank n) ls ≡ b → old ++ tidied (ls ∷ []) ≡ (if b then old else old ++ kept_after (blank n) ls ∷ [])
    cases true e = rw (tidied_clash n ls h e) (append-nil old)
    cases false e = rw (tidied_kept n ls h e) refl

pub range_marks : (n : ℕ) (p : Truth) (ls : List Literal) → p ≡ blank n → AreInRange n ls → AreInRange (length p - 1) ls
range_marks n p ls e h = let size : length p - 1 ≡ n = omega (arith, ap length e, length-replicate (n + 1) nothing) in rw size h

pub range_after : (n : ℕ) (p q : Truth) (ls : List Literal) → p ≡ blank n → q ≡ marks_after p ls → AreInRange n ls → AreInRange (length q - 1) ls
range_after n p q ls e f h = let size : length q - 1 ≡ n = omega (arith, ap length f, length-marks_after p ls, ap length e, length-replicate (n + 1) nothing) in rw size h

pub unmarked_after : (n : ℕ) (p q r : Truth) (ls : List Literal) → p ≡ blank n → q ≡ marks_after p ls → r ≡ unmarked q ls → r ≡ blank n
unmarked_after n p q r ls e f g = g ∙ ap (λ (x : Truth). unmarked x ls) (f ∙ ap (λ (x : Truth). marks_after x ls) e) ∙ unmarked_marks n ls

not-true : (b : Bool) → IsTrue (not b) → b ≡ false
not-true true h = absurd (search (arith, h))
not-true false h = refl

pub clause_kept : (n m : ℕ) (ls kept : List Literal) (clash : Bool) → m ≡ n → AreInRange n ls → clash ≡ clash_after (blank n) ls → kept ≡ kept_after (blank n) ls → IsTrue (not clash) → IsClause m kept
clause_kept n m ls kept clash e h f g t = rw (e, g) (kept_clause n ls h (sym f ∙ not-true clash t))

pub clauses_added : (n : ℕ) (ls kept : List Literal) (clash : Bool) (old new : List (List Literal)) → AreInRange n ls → clash ≡ clash_after (blank n) ls → kept ≡ kept_after (blank n) ls → new ≡ (if clash then old else old ++ kept ∷ []) → new ≡ old ++ tidied (ls ∷ [])
clauses_added n ls kept clash old new h f g e = e ∙ (rw (f, g) (sym (added_is n ls old h)))
