-- The groups that statements make: the effect group first, no predicate in two, and each predicate known.
use Rattle.std.proofs.Common.{◌≡◌, ◌∙◌, ◌<◌, ◌≤◌, ◌+◌, ◌==◌, ◌||◌, ℕ, zero, suc, nat_eq, nat_lt, Bool, true, false, List, [], ◌∷◌, length, All, Option, None, Some, option_map, slice_get, Result, Ok, Err, if◌then◌else◌, refl, sym, ap, subst, arith}
use Rattle.std.specs.List.{list_any, position_or_len}
use Rattle.std.specs.Cmp.Lexicographic.{pointwise}
use Rattle.std.proofs.lemmas.Bool.{eqb-true, eqb-false, eq-eqb, ne_eqb, ltb-true}
use Rattle.std.proofs.lemmas.List.Elements.{All-append, All-cons, All-nil}
use Rattle.ec_logic.specs.ValidTheory.{effect_predicates}
use Rattle.ec_theory.specs.declared.sorted.Wanted.{Wanted}
use Rattle.ec_split.specs.Groups.{Maker, effects, same_maker, Made, is_made_by, has_predicate, is_effect, place, same_place, effect_group, maker_for, joined, settled, settled_from, groups_with, groups_after, groups_from, predicate_called, and_then}
use Rattle.ec_split.specs.Split.{is_in}
use Rattle.ec_split.proofs.PlaceLemmas.{by_test, any_push, place_none_first, place_none_later}
use Rattle.ec_split.proofs.StatementLemmas.{after_length, ok_or_some}

-- no predicate of a group is in a later one
abbrev pub IsApart : List Made → Type 0
IsApart [] = Unit {0}
IsApart (group ∷ groups) = ((p : ℕ) → has_predicate p group ≡ true → place (has_predicate p) groups ≡ None) × IsApart groups

abbrev pub AreKnown : ℕ → List Made → Type 0
AreKnown count [] = Unit {0}
AreKnown count (group ∷ groups) = All (λ p. p < count) group.predicates × AreKnown count groups

abbrev pub BeginsSo : List Made → Type 0
BeginsSo [] = ⊥
BeginsSo (group ∷ groups) = (group.maker ≡ effects) × (group.predicates ≡ effect_predicates)

pub record IsSound (count : ℕ) (groups : List Made) : Type 0 where
  pub apart : IsApart groups
  pub known : AreKnown count groups
  pub begins : BeginsSo groups

only : (count p : ℕ) → p < count → All (λ q. q < count) (p ∷ [])
only count p l = All-cons (λ q. q < count) p [] l (All-nil (λ q. q < count))

module _ (maker : Maker) (p : ℕ) where
  none_joined : (q : ℕ) (groups : List Made) → (p == q) ≡ false → place (has_predicate q) groups ≡ None → place (has_predicate q) (joined maker p groups) ≡ None
  none_joined q [] e h = rw e refl
  none_joined q (group ∷ groups) e h =
      let push = any_push (λ r. r == q) group.predicates p in
      let here = place_none_first (has_predicate q) group groups h in
      let later = place_none_later (has_predicate q) group groups h in
      by_test (place (has_predicate q) (joined maker p (group ∷ groups)) ≡ None) (is_made_by maker group) (λ f. rw (f, push, here, e, later) refl) (λ f. rw (f, here, none_joined q groups e later) refl)

  apart_joined : (groups : List Made) → place (has_predicate p) groups ≡ None → IsApart groups → IsApart (joined maker p groups)
  apart_joined [] h a = (λ q e. refl, tt)
  apart_joined (group ∷ groups) h a =
      let here = place_none_first (has_predicate p) group groups h in
      let later = place_none_later (has_predicate p) group groups h in
      by_test (IsApart (joined maker p (group ∷ groups))) (is_made_by maker group)
      (λ f. rw f (
        λ q e. by_test (place (has_predicate q) groups ≡ None) (p == q) (λ s. let P : ℕ → Type 0 = λ r. place (has_predicate r) groups ≡ None in subst P (eqb-true p q s) later)
            (λ s. let push = any_push (λ r. r == q) group.predicates p in by_test (place (has_predicate q) groups ≡ None) (has_predicate q group) (λ t. a.0 q t) (λ t. let z : false ≡ true = sym (push ∙ ap (λ b. b || (p == q)) t ∙ s) ∙ e in cc)),
        a.1,
      ))
      (λ f. rw f (λ q e. none_joined q groups (by_test ((p == q) ≡ false) (p == q) (λ s. let P : ℕ → Type 0 = λ r. has_predicate r group ≡ false in let z = subst P (eqb-true p q s) here in cc) (λ s. s)) (a.0 q e), apart_joined groups later a.1))

  known_joined : (count : ℕ) (groups : List Made) → p < count → AreKnown count groups → AreKnown count (joined maker p groups)
  known_joined count [] l k = (only count p l, tt)
  known_joined count (group ∷ groups) l k =
      by_test (AreKnown count (joined maker p (group ∷ groups))) (is_made_by maker group) (λ f. rw f (All-append (λ q. q < count) group.predicates (p ∷ []) k.0 (only count p l), k.1)) (λ f. rw f (k.0, known_joined count groups l k.1))

  begins_joined : (groups : List Made) → same_maker maker effects ≡ false → BeginsSo groups → BeginsSo (joined maker p groups)
  begins_joined [] e b = absurd b
  begins_joined (group ∷ groups) e b =
      let f : is_made_by maker group ≡ false = ap (λ m. same_maker maker m) b.0 ∙ e in
      rw f b

-- what has no group is no effect predicate, and isn't asked to the effects
asked_elsewhere : (name : Option (List ℕ)) (p : ℕ) → is_effect p ≡ false → same_maker (maker_for name p) effects ≡ false
asked_elsewhere (Some name) p e = refl
asked_elsewhere None p e = rw e refl

no_effect : (p : ℕ) (groups : List Made) → BeginsSo groups → place (has_predicate p) groups ≡ None → is_effect p ≡ false
no_effect p [] b h = absurd b
no_effect p (group ∷ groups) b h = ap (list_any (λ q. q == p)) (sym b.1) ∙ place_none_first (has_predicate p) group groups h

module _ (count : ℕ) where
  sound_settled : (name : Option (List ℕ)) (p : ℕ) (groups new : List Made) (home : Option ℕ) → p < count → place (has_predicate p) groups ≡ home → settled_from (maker_for name p) p groups home ≡ Some new → IsSound count groups → IsSound count new
  sound_settled name p groups new None l e h s =
      let same : joined (maker_for name p) p groups ≡ new = cc in
      let other = asked_elsewhere name p (no_effect p groups s.begins e) in
      subst (IsSound count) same
      (record { apart = apart_joined (maker_for name p) p groups e s.apart; known = known_joined (maker_for name p) p count groups l s.known; begins = begins_joined (maker_for name p) p groups other s.begins })
  sound_settled name p groups new (Some home) l e h s =
      by_test (IsSound count new) (same_place (Some home) (place (is_made_by (maker_for name p)) groups))
      (λ t. let f = ap (λ b. if b then Some groups else None) (sym t) ∙ h in let g : groups ≡ new = cc in subst (IsSound count) g s)
      (λ t. let f = ap (λ b. if b then Some groups else None) (sym t) ∙ h in cc)

  sound_with : (groups new : List Made) (wanted : Wanted) (number : Option ℕ) → ((p : ℕ) → number ≡ Some p → p < count) → groups_with groups wanted number ≡ Ok new → IsSound count groups → IsSound count new
  sound_with groups new wanted None l h s = cc
  sound_with groups new wanted (Some p) l h s =
      sound_settled wanted.label p groups new (place (has_predicate p) groups) (l p refl) refl (ok_or_some (settled (maker_for wanted.label p) p groups) _ new h) s

position_below : (names : List (List ℕ)) (name : List ℕ) (p : ℕ) → predicate_called names name ≡ Some p → p < length names
position_below names name p h =
    let k = position_or_len (pointwise nat_eq name) names in
    by_test (p < length names) (nat_lt k (length names)) (λ e. let f = ap (λ b. if b then Some k else None) (sym e) ∙ h in let g : k ≡ p = cc in omega (arith, g, ltb-true k (length names) e))
    (λ e. let f = ap (λ b. if b then Some k else None) (sym e) ∙ h in cc)

then_cases : {A B E : Type 0} (P : Type 0) (r : Result A E) (f : A → Result B E) (b : B) → and_then r f ≡ Ok b → ((a : A) → r ≡ Ok a → f a ≡ Ok b → P) → P
then_cases P (Ok a) f b h g = g a refl h
then_cases P (Err e) f b h g = cc

pub sound_from : (names : List (List ℕ)) (groups new : List Made) (wanted : List Wanted) → groups_from names groups wanted ≡ Ok new → IsSound (length names) groups → IsSound (length names) new
sound_from names groups new [] h s = let g : groups ≡ new = cc in subst (IsSound (length names)) g s
sound_from names groups new (one ∷ wanted) h s =
    then_cases (IsSound (length names) new) (groups_after names groups one) (λ more. groups_from names more wanted) new h
    (λ more e f. sound_from names more new wanted f (sound_with (length names) groups more one (predicate_called names one.predicate) (λ p g. position_below names one.predicate p g) e s))

pub from_length : (names : List (List ℕ)) (groups new : List Made) (wanted : List Wanted) → groups_from names groups wanted ≡ Ok new → length new ≤ length groups + length wanted
from_length names groups new [] h = let g : groups ≡ new = cc in omega (arith, ap length g)
from_length names groups new (one ∷ wanted) h =
    then_cases (length new ≤ length groups + length (one ∷ wanted)) (groups_after names groups one) (λ more. groups_from names more wanted) new h
    (λ more e f. omega (arith, from_length names more new wanted f, after_length names groups more one e))

-- the effect group alone
pub sound_start : (count : ℕ) → 5 < count → IsSound count (effect_group ∷ [])
sound_start count l =
    let P : ℕ → Type 0 = λ p. p < count in
    let known : All P effect_predicates = All-cons P 3 (4 ∷ 5 ∷ []) (omega arith) (All-cons P 4 (5 ∷ []) (omega arith) (only count 5 l)) in
    record { apart = (λ p e. refl, tt); known = (known, tt); begins = (refl, refl) }

-- ---- the group at a place

suc_place : (o : Option ℕ) (k : ℕ) → same_place (option_map suc o) (Some (suc k)) ≡ same_place o (Some k)
suc_place None k = refl
suc_place (Some j) k =
    by_test ((suc j == suc k) ≡ (j == k)) (j == k) (λ e. eq-eqb (suc j) (suc k) (ap suc (eqb-true j k e)) ∙ sym e)
    (λ e. ne_eqb (suc j) (suc k) (λ same. eqb-false j k e (omega (arith, same))) ∙ sym e)

suc_not_zero : (o : Option ℕ) → same_place (option_map suc o) (Some 0) ≡ false
suc_not_zero None = refl
suc_not_zero (Some j) = ne_eqb (suc j) 0 (λ same. omega (arith, same))

-- a group at a place has what is looked for, so it is found
pub none_at : (test : Made → Bool) (groups : List Made) (k : ℕ) (group : Made) → place test groups ≡ None → slice_get groups k ≡ Some group → test group ≡ false
none_at test [] k group h e = cc
none_at test (g ∷ groups) zero group h e = let f : g ≡ group = cc in subst (λ x. test x ≡ false) f (place_none_first test g groups h)
none_at test (g ∷ groups) (suc k) group h e = none_at test groups k group (place_none_later test g groups h) e

pub is_in_is : (p : ℕ) (groups : List Made) (k : ℕ) (group : Made) → IsApart groups → slice_get groups k ≡ Some group → is_in groups k p ≡ has_predicate p group
is_in_is p [] k group a e = cc
is_in_is p (g ∷ groups) zero group a e =
    let f : g ≡ group = cc in
    subst (λ x. is_in (g ∷ groups) 0 p ≡ has_predicate p x) f
    (by_test (is_in (g ∷ groups) 0 p ≡ has_predicate p g) (has_predicate p g) (λ t. rw t refl) (λ t. rw t (suc_not_zero (place (has_predicate p) groups))))
is_in_is p (g ∷ groups) (suc k) group a e =
    by_test (is_in (g ∷ groups) (suc k) p ≡ has_predicate p group) (has_predicate p g) (λ t. rw t (ne_eqb 0 (suc k) (λ same. omega (arith, same)) ∙ sym (none_at (has_predicate p) groups k group (a.0 p t) e)))
    (λ t. rw t (suc_place (place (has_predicate p) groups) k ∙ is_in_is p groups k group a.1 e))
