-- A join of trees that have constants only at their top has them only at its top.
use Rattle.std.proofs.Common.{◌≡◌, Bool, true, false, not, ◌&&◌, List, [], ◌∷◌, refl, ◌∙◌, filter, if◌then◌else◌}
use Rattle.std.specs.List.{list_all, list_any}
use Rattle.std.proofs.lemmas.List.Folds.{list_all-append}
use Rattle.ec_folding.specs.Tree.{Tree, always, never, literal, all_of, any_of, Trees, no_trees, tree, as_trees, as_list}
use Rattle.ec_folding.specs.Join.{constant, is_constant, parts_of, opened, closed, join}
use Rattle.ec_folding.specs.Constants.{has_no_constant, have_no_constant, is_constant_at_top_only}

and-left : (a b : Bool) → (a && b) ≡ true → a ≡ true
and-left true b h = refl
and-left false b h = h

and-right : (a b : Bool) → (a && b) ≡ true → b ≡ true
and-right true b h = h
and-right false b h = cc

and-true : (a b : Bool) → a ≡ true → b ≡ true → (a && b) ≡ true
and-true true b h k = k
and-true false b h k = cc

top_only_from_none : (t : Tree) → has_no_constant t ≡ true → is_constant_at_top_only t ≡ true
top_only_from_none always h = refl
top_only_from_none never h = refl
top_only_from_none (literal a sign) h = refl
top_only_from_none (all_of ts) h = h
top_only_from_none (any_of ts) h = h

each_top_only : (ts : Trees) → have_no_constant ts ≡ true → list_all is_constant_at_top_only (as_list ts) ≡ true
each_top_only no_trees h = refl
each_top_only (tree t ts) h = and-true (is_constant_at_top_only t) (list_all is_constant_at_top_only (as_list ts)) (top_only_from_none t (and-left (has_no_constant t) (have_no_constant ts) h)) (each_top_only ts (and-right (has_no_constant t) (have_no_constant ts) h))

none_in_trees : (ts : List Tree) → list_all has_no_constant ts ≡ true → have_no_constant (as_trees ts) ≡ true
none_in_trees [] h = refl
none_in_trees (t ∷ ts) h = and-true (has_no_constant t) (have_no_constant (as_trees ts)) (and-left (has_no_constant t) (list_all has_no_constant ts) h) (none_in_trees ts (and-right (has_no_constant t) (list_all has_no_constant ts) h))

parts_top_only : (sign : Bool) (t : Tree) → is_constant_at_top_only t ≡ true → list_all is_constant_at_top_only (parts_of sign t) ≡ true
parts_top_only true always h = refl
parts_top_only true never h = refl
parts_top_only true (literal a b) h = refl
parts_top_only true (all_of ts) h = each_top_only ts h
parts_top_only true (any_of ts) h = and-true (have_no_constant ts) true h refl
parts_top_only false always h = refl
parts_top_only false never h = refl
parts_top_only false (literal a b) h = refl
parts_top_only false (all_of ts) h = and-true (have_no_constant ts) true h refl
parts_top_only false (any_of ts) h = each_top_only ts h

opened_top_only : (sign : Bool) (ts : List Tree) → list_all is_constant_at_top_only ts ≡ true → list_all is_constant_at_top_only (opened sign ts) ≡ true
opened_top_only sign [] h = refl
opened_top_only sign (t ∷ ts) h =
    list_all-append is_constant_at_top_only (parts_of sign t) (opened sign ts)
    ∙ and-true (list_all is_constant_at_top_only (parts_of sign t)) (list_all is_constant_at_top_only (opened sign ts)) (parts_top_only sign t (and-left (is_constant_at_top_only t) (list_all is_constant_at_top_only ts) h)) (opened_top_only sign ts (and-right (is_constant_at_top_only t) (list_all is_constant_at_top_only ts) h))

none_in_kept : (sign : Bool) (ts : List Tree) → list_all is_constant_at_top_only ts ≡ true → list_any (is_constant (not sign)) ts ≡ false → list_all has_no_constant (filter (λ t. not (is_constant sign t)) ts) ≡ true
none_in_kept sign [] h e = refl
none_in_kept true (always ∷ ts) h e = none_in_kept true ts h e
none_in_kept true (never ∷ ts) h e = cc
none_in_kept false (always ∷ ts) h e = cc
none_in_kept false (never ∷ ts) h e = none_in_kept false ts h e
none_in_kept true (literal a b ∷ ts) h e = none_in_kept true ts h e
none_in_kept false (literal a b ∷ ts) h e = none_in_kept false ts h e
none_in_kept true (all_of us ∷ ts) h e = and-true (have_no_constant us) (list_all has_no_constant (filter (λ t. not (is_constant true t)) ts)) (and-left (have_no_constant us) (list_all is_constant_at_top_only ts) h) (none_in_kept true ts (and-right (have_no_constant us) (list_all is_constant_at_top_only ts) h) e)
none_in_kept true (any_of us ∷ ts) h e = and-true (have_no_constant us) (list_all has_no_constant (filter (λ t. not (is_constant true t)) ts)) (and-left (have_no_constant us) (list_all is_constant_at_top_only ts) h) (none_in_kept true ts (and-right (have_no_constant us) (list_all is_constant_at_top_only ts) h) e)
none_in_kept false (all_of us ∷ ts) h e = and-true (have_no_constant us) (list_all has_no_constant (filter (λ t. not (is_constant false t)) ts)) (and-left (have_no_constant us) (list_all is_constant_at_top_only ts) h) (none_in_kept false ts (and-right (have_no_constant us) (list_all is_constant_at_top_only ts) h) e)
none_in_kept false (any_of us ∷ ts) h e = and-true (have_no_constant us) (list_all has_no_constant (filter (λ t. not (is_constant false t)) ts)) (and-left (have_no_constant us) (list_all is_constant_at_top_only ts) h) (none_in_kept false ts (and-right (have_no_constant us) (list_all is_constant_at_top_only ts) h) e)

constant_top_only : (sign : Bool) → is_constant_at_top_only (constant sign) ≡ true
constant_top_only true = refl
constant_top_only false = refl

closed_top_only : (sign : Bool) (ts : List Tree) → list_all has_no_constant ts ≡ true → is_constant_at_top_only (closed sign ts) ≡ true
closed_top_only sign [] h = constant_top_only sign
closed_top_only sign (t ∷ []) h = top_only_from_none t (and-left (has_no_constant t) true h)
closed_top_only true (t ∷ u ∷ ts) h = none_in_trees (t ∷ u ∷ ts) h
closed_top_only false (t ∷ u ∷ ts) h = none_in_trees (t ∷ u ∷ ts) h

pub is_constant_at_top_only-join : (sign : Bool) (ts : List Tree) → list_all is_constant_at_top_only ts ≡ true → is_constant_at_top_only (join sign ts) ≡ true
is_constant_at_top_only-join sign ts h = cases (list_any (is_constant (not sign)) (opened sign ts)) refl
  where
    cases : (b : Bool) → list_any (is_constant (not sign)) (opened sign ts) ≡ b → is_constant_at_top_only (if b then constant (not sign) else closed sign (filter (λ t. not (is_constant sign t)) (opened sign ts))) ≡ true
    cases true e = constant_top_only (not sign)
    cases false e = closed_top_only sign (filter (λ t. not (is_constant sign t)) (opened sign ts)) (none_in_kept sign (opened sign ts) (opened_top_only sign ts h) e)
