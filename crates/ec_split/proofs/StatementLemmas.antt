-- The groups after one more completion statement.
use Rattle.std.proofs.Common.{◌≡◌, ◌∙◌, ◌<◌, ◌≤◌, ◌+◌, ℕ, suc, List, [], ◌∷◌, length, drop, Option, None, Some, Ok, get_or, if◌then◌else◌, sym, ap, add-one, arith}
use Rattle.std.specs.Option.{ok_or}
use Rattle.std.proofs.Math.Seq.{drop-cons}
use Rattle.ec_theory.specs.declared.sorted.Wanted.{Wanted}
use Rattle.ec_split.specs.Groups.{Maker, Made, is_made_by, has_predicate, place, same_place, maker_for, joined, settled, settled_from, groups_with, groups_after, groups_from, predicate_called, and_then}
use Rattle.ec_split.proofs.PlaceLemmas.{by_test}

-- the statements that are left, once the next is taken
pub taken : (names : List (List ℕ)) (old new : List Made) (all : List Wanted) (i : ℕ) (wanted : Wanted) → i < length all → wanted ≡ get_or all i wanted → groups_after names old wanted ≡ Ok new → groups_from names new (drop (i + 1) all) ≡ groups_from names old (drop i all)
taken names old new all i wanted l e h =
    let rest = drop (suc i) all in
    let front : drop i all ≡ wanted ∷ rest = drop-cons all i wanted l ∙ ap (λ (w : Wanted). w ∷ rest) (sym e) in
    ap (λ (ws : List Wanted). groups_from names new ws) (ap (λ k. drop k all) (add-one i))
    ∙ ap (λ r. and_then r (λ more. groups_from names more rest)) (sym h)
    ∙ ap (λ (ws : List Wanted). groups_from names old ws) (sym front)

joined_length : (maker : Maker) (p : ℕ) (groups : List Made) → length (joined maker p groups) ≤ length groups + 1
joined_length maker p [] = omega arith
joined_length maker p (group ∷ groups) =
    by_test (length (joined maker p (group ∷ groups)) ≤ length (group ∷ groups) + 1) (is_made_by maker group) (λ e. rw e (omega arith)) (λ e. rw e (omega (arith, joined_length maker p groups)))

pub ok_or_some : {A E : Type 0} (o : Option A) (e : E) (a : A) → ok_or o e ≡ Ok a → o ≡ Some a
ok_or_some None e a h = cc
ok_or_some (Some b) e a h = cc

settled_length : (maker : Maker) (p : ℕ) (groups new : List Made) (home : Option ℕ) → settled_from maker p groups home ≡ Some new → length new ≤ length groups + 1
settled_length maker p groups new None h = let e : joined maker p groups ≡ new = cc in omega (arith, ap length e, joined_length maker p groups)
settled_length maker p groups new (Some home) h =
    by_test (length new ≤ length groups + 1) (same_place (Some home) (place (is_made_by maker) groups))
    (λ e. let f = ap (λ b. if b then Some groups else None) (sym e) ∙ h in let g : groups ≡ new = cc in omega (arith, ap length g))
    (λ e. let f = ap (λ b. if b then Some groups else None) (sym e) ∙ h in cc)

with_length : (groups new : List Made) (wanted : Wanted) (number : Option ℕ) → groups_with groups wanted number ≡ Ok new → length new ≤ length groups + 1
with_length groups new wanted None h = cc
with_length groups new wanted (Some p) h =
    let maker = maker_for wanted.label p in
    settled_length maker p groups new (place (has_predicate p) groups) (ok_or_some (settled maker p groups) _ new h)

pub after_length : (names : List (List ℕ)) (groups new : List Made) (wanted : Wanted) → groups_after names groups wanted ≡ Ok new → length new ≤ length groups + 1
after_length names groups new wanted h = with_length groups new wanted (predicate_called names wanted.predicate) h
