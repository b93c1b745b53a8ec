-- Tables of places, before and after a group is made or joined.
use Rattle.std.proofs.Common.{◌≡◌, ◌∙◌, ◌<◌, ◌==◌, ◌||◌, ◌≢◌, ⊎_elim, ℕ, zero, suc, nat_eq, nat_lt, Bool, true, false, Vec, Global, List, [], ◌∷◌, ◌++◌, length, map, replicate, Option, None, Some, if◌then◌else◌, Result, Ok, Err, OnOk, get_or, set, refl, sym, ap, arith}
use Rattle.std.specs.Cmp.Lexicographic.{pointwise}
use Rattle.std.proofs.lemmas.Bool.{ltb-true, ltb-false}
use Rattle.std.proofs.lemmas.Bool.Decides.{eqb_tells}
use Rattle.std.proofs.lemmas.List.{get_or-set_same, get_or-set_other, length-set, get_or-replicate, get_or_past, length-replicate, map-append}
use Rattle.std.proofs.lemmas.Option.{unwrap_or-slice_get}
use Rattle.indexmap.specs.IndexMap.{get}
use Rattle.ec_split.specs.declared.plan.Made as code
use Rattle.ec_split.specs.declared.plan.Plan.{Plan}
use Rattle.ec_split.specs.Groups.{Maker, effects, label, alone, same_maker, effect_group, Made, is_made_by, has_predicate, place}
use Rattle.ec_split.specs.Plan.{added, maker_of, made_of, groups_in, told, new_maker, AreNoted, IsNotedAlone, IsTabled}
use Rattle.ec_split.proofs.PlaceLemmas.{by_test, place_added, place_added_maker, place_new, place_new_maker}

pub told_set : (table : List (Option ℕ)) (p q : ℕ) (o : Option ℕ) → p < length table → told (set table p o) q ≡ (if p == q then o else told table q)
told_set table p q o l = ⊎_elim same other (eqb_tells p q)
  where
    same : ((p == q) ≡ true) × (p ≡ q) → told (set table p o) q ≡ (if p == q then o else told table q)
    same h = rw h.0 (unwrap_or-slice_get (set table p o) q None ∙ ap (λ k. get_or (set table p o) k None) (sym h.1) ∙ get_or-set_same table p o None l)

    other : ((p == q) ≡ false) × (p ≢ q) → told (set table p o) q ≡ (if p == q then o else told table q)
    other h = rw h.0 (unwrap_or-slice_get (set table p o) q None ∙ get_or-set_other table p q o None (λ e. h.1 (sym e)) ∙ sym (unwrap_or-slice_get table q None))

pub told_nothing : (n p : ℕ) → told (replicate n None) p ≡ None
told_nothing n p =
    let lacking : Option ℕ = None in
    unwrap_or-slice_get (replicate n lacking) p lacking
    ∙ by_test (get_or (replicate n lacking) p lacking ≡ lacking) (nat_lt p n) (λ e. get_or-replicate n p lacking lacking (ltb-true p n e))
    (λ e. get_or_past (replicate n lacking) p lacking (omega (arith, ltb-false p n e, length-replicate n lacking)))

three_tests : (a b c : Bool) (found lacking : Option ℕ) → (if c then found else (if b then found else (if a then found else lacking))) ≡ (if a || (b || (c || false)) then found else lacking)
three_tests true true true found lacking = refl
three_tests true true false found lacking = refl
three_tests true false true found lacking = refl
three_tests true false false found lacking = refl
three_tests false true true found lacking = refl
three_tests false true false found lacking = refl
three_tests false false true found lacking = refl
three_tests false false false found lacking = refl

pub first_homes : (n q : ℕ) → 5 < n → told (set (set (set (replicate n None) 3 (Some 0)) 4 (Some 0)) 5 (Some 0)) q ≡ place (has_predicate q) (effect_group ∷ [])
first_homes n q l =
    let nothing : Option ℕ = None in
    let lacking = replicate n nothing in
    let three = set lacking 3 (Some 0) in
    let four = set three 4 (Some 0) in
    let n0 = length-replicate n nothing in
    let n3 = length-set lacking 3 (Some 0) in
    let n4 = length-set three 4 (Some 0) in
    told_set four 5 q (Some 0) (omega (arith, n0, n3, n4))
    ∙ ap (λ o. if 5 == q then Some 0 else o) (told_set three 4 q (Some 0) (omega (arith, n0, n3)))
    ∙ ap (λ o. if 5 == q then Some 0 else (if 4 == q then Some 0 else o)) (told_set lacking 3 q (Some 0) (omega (arith, n0)) ∙ ap (λ o. if 3 == q then Some 0 else o) (told_nothing n q))
    ∙ three_tests (3 == q) (4 == q) (5 == q) (Some 0) None

-- one group, in the code's list, takes a predicate more
pub added_at : (k p : ℕ) (groups : List code.Made) (group : code.Made) (predicates : Vec ℕ Global) → k < length groups → group ≡ get_or groups k group → predicates.items ≡ group.predicates.items ++ p ∷ [] → map made_of (set groups k (record { maker = group.maker; predicates = predicates })) ≡ added k p (map made_of groups)
added_at k p [] group predicates l e f = absurd (omega (arith, l))
added_at zero p (g ∷ groups) group predicates l e f =
    let rest = map made_of groups in
    let m : maker_of group.maker ≡ maker_of g.maker = ap (λ (x : code.Made). maker_of x.maker) e in
    let ps : predicates.items ≡ g.predicates.items ++ p ∷ [] = f ∙ ap (λ (x : code.Made). x.predicates.items ++ p ∷ []) e in
    λ i. record { maker = m i; predicates = ps i } ∷ rest
added_at (suc k) p (g ∷ groups) group predicates l e f = ap (λ gs. made_of g ∷ gs) (added_at k p groups group predicates (omega (arith, l)) e f)

-- the tables of the effect group alone
pub start_tabled : (n : ℕ) (plan : Plan) → 5 < n → groups_in plan ≡ effect_group ∷ [] → ((name : List ℕ) → get (pointwise nat_eq) plan.labels name ≡ None) → plan.alone.items ≡ replicate n None → plan.homes.items ≡ set (set (set (replicate n None) 3 (Some 0)) 4 (Some 0)) 5 (Some 0) → IsTabled n plan
start_tabled n plan many gs empty al hs =
    let nothing : Option ℕ = None in
    let each = replicate n nothing in
    record {
      labels = λ name. empty name ∙ ap (place (is_made_by (label name))) (sym gs);
      alone = λ p. ap (λ t. told t p) al ∙ told_nothing n p ∙ ap (place (is_made_by (alone p))) (sym gs);
      homes = λ q. ap (λ t. told t q) hs ∙ first_homes n q many ∙ ap (place (has_predicate q)) (sym gs);
      effects = ap (place (is_made_by effects)) gs;
      alone_count = ap length al ∙ length-replicate n nothing;
      home_count = ap length hs ∙ length-set (set (set each 3 (Some 0)) 4 (Some 0)) 5 (Some 0) ∙ length-set (set each 3 (Some 0)) 4 (Some 0) ∙ length-set each 3 (Some 0) ∙ length-replicate n nothing;
    }

-- one group more, in the code's list
pub opened_groups : (made all : List code.Made) (new : code.Made) (maker : Maker) (p : ℕ) → all ≡ made ++ new ∷ [] → maker_of new.maker ≡ maker → new.predicates.items ≡ p ∷ [] → map made_of all ≡ map made_of made ++ record { maker = maker; predicates = p ∷ [] } ∷ []
opened_groups made all new maker p e m ps =
    ap (map made_of) e ∙ map-append made_of made (new ∷ []) ∙ ap (λ (g : Made). map made_of made ++ g ∷ []) (λ i. record { maker = m i; predicates = ps i })

pub not_effects : (name : Option (List ℕ)) (p : ℕ) → same_maker effects (new_maker name p) ≡ false
not_effects None p = refl
not_effects (Some name) p = refl

pub on_ok_both : {X E : Type 0} (A B : Type 0) (r : Result X E) → OnOk r A → OnOk r B → OnOk r (A × B)
on_ok_both A B (Ok x) a b = (a, b)
on_ok_both A B (Err e) a b = tt

module _ (count p : ℕ) (maker : Maker) (old new : Plan) (tabled : IsTabled count old) (known : p < count) (homeless : place (has_predicate p) (groups_in old) ≡ None) where
  -- the tables once a predicate is added to a group
  pub added_tabled : (k : ℕ) → k < length (groups_in old) → groups_in new ≡ added k p (groups_in old) → new.homes.items ≡ set old.homes.items p (Some k) → new.alone ≡ old.alone → new.labels ≡ old.labels → IsTabled count new
  added_tabled k below gs hs al la =
      let room : p < length old.homes.items = omega (arith, known, tabled.home_count) in
      record {
        labels = λ name. ap (λ t. get (pointwise nat_eq) t name) la ∙ tabled.labels name ∙ sym (place_added_maker (label name) p k (groups_in old)) ∙ ap (place (is_made_by (label name))) (sym gs);
        alone = λ q. ap (λ (t : Vec (Option ℕ) Global). told t.items q) al ∙ tabled.alone q ∙ sym (place_added_maker (alone q) p k (groups_in old)) ∙ ap (place (is_made_by (alone q))) (sym gs);
        homes = λ q. ap (λ t. told t q) hs ∙ told_set old.homes.items p q (Some k) room ∙ ap (λ o. if p == q then Some k else o) (tabled.homes q) ∙ sym (place_added p q k (groups_in old) homeless below) ∙ ap (place (has_predicate q)) (sym gs);
        effects = ap (place (is_made_by effects)) gs ∙ place_added_maker effects p k (groups_in old) ∙ tabled.effects;
        alone_count = ap (λ (t : Vec (Option ℕ) Global). length t.items) al ∙ tabled.alone_count;
        home_count = ap length hs ∙ length-set old.homes.items p (Some k) ∙ tabled.home_count;
      }

  -- the tables once a group is made
  pub opened_tabled : same_maker effects maker ≡ false → place (is_made_by maker) (groups_in old) ≡ None → groups_in new ≡ groups_in old ++ record { maker = maker; predicates = p ∷ [] } ∷ [] → new.homes.items ≡ set old.homes.items p (Some (length (groups_in old))) → IsNotedAlone maker (length (groups_in old)) old.alone.items new.alone.items → AreNoted maker (length (groups_in old)) old.labels new.labels → IsTabled count new
  opened_tabled other absent gs hs al la =
      let k = length (groups_in old) in
      let room : p < length old.homes.items = omega (arith, known, tabled.home_count) in
      record {
        labels = λ name. la.noted name ∙ ap (λ o. if same_maker (label name) maker then Some k else o) (tabled.labels name) ∙ sym (place_new_maker maker (label name) p (groups_in old) absent) ∙ ap (place (is_made_by (label name))) (sym gs);
        alone = λ q. al.noted q ∙ ap (λ o. if same_maker (alone q) maker then Some k else o) (tabled.alone q) ∙ sym (place_new_maker maker (alone q) p (groups_in old) absent) ∙ ap (place (is_made_by (alone q))) (sym gs);
        homes = λ q. ap (λ t. told t q) hs ∙ told_set old.homes.items p q (Some k) room ∙ ap (λ o. if p == q then Some k else o) (tabled.homes q) ∙ sym (place_new p q maker (groups_in old) homeless) ∙ ap (place (has_predicate q)) (sym gs);
        effects = ap (place (is_made_by effects)) gs ∙ place_new_maker maker effects p (groups_in old) absent ∙ ap (λ b. if b then Some k else place (is_made_by effects) (groups_in old)) other ∙ tabled.effects;
        alone_count = al.count ∙ tabled.alone_count;
        home_count = ap length hs ∙ length-set old.homes.items p (Some k) ∙ tabled.home_count;
      }
