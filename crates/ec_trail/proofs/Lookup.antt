-- the entry of a variable, by its place
use Rattle.std.proofs.Common.{◌≡◌, ℕ, zero, suc, ◌+◌, ◌<◌, ◌≤◌, Bool, true, false, cond, List, [], ◌∷◌, Some, None, length, get_or, replicate, refl, sym, ap, ◌∙◌, subst, inl, inr, arith}
use Rattle.std.proofs.lemmas.Bool.{cases_eq, eq-eqb, ne_eqb}
use Rattle.std.proofs.lemmas.List.{get_or-set_same, get_or-set_other, get_or_default, length-set, length-replicate}
use Rattle.std.specs.Prelude.{find, fold}
use Rattle.ec_clause.specs.Truth.{Truth}
use Rattle.ec_clause.proofs.StepLemmas.{nothing, none_everywhere}
use Rattle.ec_trail.specs.declared.trail.Entry.{Entry}
use Rattle.ec_trail.specs.TrailList.{add_entry, values_of, is_of, entry_of, IsKept}

find_first : {X : Type 0} (p : X → Bool) (xs : List X) (k : ℕ) (d : X) → k < length xs → p (get_or xs k d) ≡ true → ((i : ℕ) → i < k → p (get_or xs i d) ≡ false) → find p xs ≡ Some (get_or xs k d)
find_first p [] k d lt is before = absurd (omega arith)
find_first p (x ∷ xs) zero d lt is before = ap (λ b. cond b (Some x) (find p xs)) is
find_first p (x ∷ xs) (suc k) d lt is before =
    ap (λ b. cond b (Some x) (find p xs)) (before 0 (omega arith)) ∙ find_first p xs k d (omega arith) is (λ i l. before (suc i) (omega arith))

find_none : {X : Type 0} (p : X → Bool) (xs : List X) (d : X) → ((i : ℕ) → i < length xs → p (get_or xs i d) ≡ false) → find p xs ≡ None
find_none p [] d never = refl
find_none p (x ∷ xs) d never =
    ap (λ b. cond b (Some x) (find p xs)) (never 0 (omega arith)) ∙ find_none p xs d (λ i l. never (suc i) (omega arith))

other : (v : ℕ) (e : Entry) → (e.lit.variable ≡ v → ⊥) → is_of v e ≡ false
other v e ne = ne_eqb e.lit.variable v ne

-- an entry of the variable stands at its place, and nowhere else
pub entry_at : (n capacity : ℕ) (es : List Entry) (values : Truth) (places : List ℕ) (v place : ℕ) (e : Entry) → IsKept n capacity es values places → v ≤ n → place ≡ get_or places v place → place < length es → e ≡ get_or es place e → e.lit.variable ≡ v → entry_of es v ≡ Some e
entry_at n capacity es values places v place e h le at lt is same =
    let zero_at : place ≡ get_or places v 0 = at ∙ get_or_default places v place 0 (omega (arith, h.table)) in
    find_first (is_of v) es place e lt (eq-eqb (get_or es place e).lit.variable v (ap (λ (x : Entry). x.lit.variable) (sym is) ∙ same)) (λ i l. other v (get_or es i e) (λ there.
    let here : get_or places (get_or es i e).lit.variable 0 ≡ i = h.at_place i e (omega arith) in
    let i_is : place ≡ i = zero_at ∙ ap (λ w. get_or places w 0) (sym there) ∙ here in
    omega arith))
    ∙ ap Some (sym is)

none_from : (n capacity : ℕ) (es : List Entry) (values : Truth) (places : List ℕ) (v place : ℕ) (d : Entry) → IsKept n capacity es values places → v ≤ n → place ≡ get_or places v place → (place < length es → (get_or es place d).lit.variable ≡ v → ⊥) → entry_of es v ≡ None
none_from n capacity es values places v place d h le at never =
    let zero_at : place ≡ get_or places v 0 = at ∙ get_or_default places v place 0 (omega (arith, h.table)) in
    find_none (is_of v) es d (λ i l. other v (get_or es i d) (λ there.
    let here : get_or places (get_or es i d).lit.variable 0 ≡ i = h.at_place i d l in
    let i_is : i ≡ place = sym (zero_at ∙ ap (λ w. get_or places w 0) (sym there) ∙ here) in
    never (omega arith) (subst (λ k. (get_or es k d).lit.variable ≡ v) i_is there)))

-- where no entry stands at its place, the variable has none
pub entry_past : (n capacity : ℕ) (es : List Entry) (values : Truth) (places : List ℕ) (v place : ℕ) (d : Entry) → IsKept n capacity es values places → v ≤ n → place ≡ get_or places v place → length es ≤ place → entry_of es v ≡ None
entry_past n capacity es values places v place d h le at past =
    none_from n capacity es values places v place d h le at (λ lt same. omega arith)

-- where an entry of another variable stands there, the variable has none
pub entry_other : (n capacity : ℕ) (es : List Entry) (values : Truth) (places : List ℕ) (v place : ℕ) (e : Entry) → IsKept n capacity es values places → v ≤ n → place ≡ get_or places v place → e ≡ get_or es place e → (e.lit.variable ≡ v → ⊥) → entry_of es v ≡ None
entry_other n capacity es values places v place e h le at is ne =
    none_from n capacity es values places v place e h le at (λ lt same. ne (ap (λ (x : Entry). x.lit.variable) is ∙ same))

some_stays : (es : List Entry) (p : Truth) (v : ℕ) (b : Bool) → v < length p → get_or p v None ≡ Some b → (b' : Bool) × (get_or (fold add_entry p es) v None ≡ Some b')
some_stays [] p v b lt h = (b, h)
some_stays (x ∷ xs) p v b lt h =
    let lt' : v < length (add_entry p x) = omega (arith, length-set p x.lit.variable (Some x.lit.positive)) in
    elim (cases_eq v x.lit.variable) [
      | inl here ↦ some_stays xs (add_entry p x) v x.lit.positive lt' (rw here (get_or-set_same p x.lit.variable (Some x.lit.positive) None (omega arith)))
      | inr ne ↦ some_stays xs (add_entry p x) v b lt' (get_or-set_other p x.lit.variable v (Some x.lit.positive) None ne ∙ h)
    ]

valued : (es : List Entry) (p : Truth) (v : ℕ) (e : Entry) → v < length p → entry_of es v ≡ Some e → (b : Bool) × (get_or (fold add_entry p es) v None ≡ Some b)
valued [] p v e lt h = cc
valued (x ∷ xs) p v e lt h =
    elim (cases_eq v x.lit.variable) [
      | inl here ↦ some_stays xs (add_entry p x) v x.lit.positive (omega (arith, length-set p x.lit.variable (Some x.lit.positive))) (rw here (get_or-set_same p x.lit.variable (Some x.lit.positive) None (omega arith)))
      | inr ne ↦ valued xs (add_entry p x) v e (omega (arith, length-set p x.lit.variable (Some x.lit.positive))) (sym (ap (λ b. cond b (Some x) (entry_of xs v)) (other v x (λ same. ne (sym same)))) ∙ h)
    ]

unvalued : (es : List Entry) (p : Truth) (v : ℕ) → entry_of es v ≡ None → get_or (fold add_entry p es) v None ≡ get_or p v None
unvalued [] p v h = refl
unvalued (x ∷ xs) p v h =
    elim (cases_eq v x.lit.variable) [
      | inl here ↦ (let e = ap (λ b. cond b (Some x) (entry_of xs v)) (eq-eqb x.lit.variable v (sym here)) in cc)
      | inr ne ↦ unvalued xs (add_entry p x) v (sym (ap (λ b. cond b (Some x) (entry_of xs v)) (other v x (λ same. ne (sym same)))) ∙ h) ∙ get_or-set_other p x.lit.variable v (Some x.lit.positive) None ne
    ]

-- a variable without an entry has no value
pub none_value : (n : ℕ) (es : List Entry) (v : ℕ) → entry_of es v ≡ None → get_or (values_of n es) v None ≡ None
none_value n es v h = unvalued es (replicate (n + 1) None) v h ∙ none_everywhere (n + 1) v

-- a variable with an entry has a value
pub some_value : (n : ℕ) (es : List Entry) (v : ℕ) (e : Entry) → v ≤ n → entry_of es v ≡ Some e → get_or (values_of n es) v None ≡ None → ⊥
some_value n es v e le h none =
    let w = valued es (replicate (n + 1) nothing) v e (omega (arith, length-replicate (n + 1) nothing)) h in
    let is = w.1 in
    cc
