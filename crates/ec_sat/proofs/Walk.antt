-- the walk down the trail from a conflict
use Rattle.std.proofs.Common.{◌≡◌, ◌≢◌, ℕ, zero, suc, ◌+◌, ◌<◌, ◌≤◌, ◌⊎◌, Bool, true, false, not, cond, List, [], ◌∷◌, ◌++◌, Option, Some, None, length, take, get_or, set, replicate, refl, sym, ap, ◌∙◌, inl, inr, arith, add-one}
use Rattle.std.proofs.lemmas.Bool.{cases_lt, cases_eq, cases_Bool, true≢false, cond-true, cond-false}
use Rattle.std.proofs.lemmas.List.{length-set, length-replicate, get_or-set_same, get_or-set_other, set_past, take_more, length-take-le, get_or-take, get_or_default}
use Rattle.std.proofs.lemmas.List.Sums.{fold_push}
use Rattle.std.specs.Prelude.{fold, option_map}
use Rattle.ec_clause.specs.Literal.{Literal, opposite}
use Rattle.ec_clause.specs.ClauseList.{ClauseList, clause_at, IsClause}
use Rattle.ec_clause.specs.Truth.{Truth, agree, literal_value, with_true, is_false, unit_literal, unit_step, false_step}
use Rattle.ec_trail.specs.declared.trail.Entry.{Entry}
use Rattle.ec_trail.specs.TrailList.{values_of, IsTrail}
use Rattle.ec_trail.proofs.TrailLemmas.{value_at}
use Rattle.ec_trail.proofs.BackTo.{some_entry}
use Rattle.ec_trail.proofs.Values.{value_where}
use Rattle.ec_clause.specs.Step.{Fault, NotFalse, Unknown, is_known, unit_or, go_on, hints_fault, all_false, set_false, IsStep}
use Rattle.ec_clause.proofs.TruthLemmas.{false_parts, unit_parts, each_false}
use Rattle.ec_clause.proofs.StepLemmas.{fault_more, known, IsClause_push, nothing, none_everywhere}
use Rattle.ec_sat.specs.Stops.{Fits, Walked}
use Rattle.ec_sat.specs.Reasons.{AreReasons, mark, mark_all, left_of}

-- the value of a literal, from that of its variable
value_is : (s b x : Bool) → agree s x ≡ b → x ≡ agree s b
value_is true b x h = h
value_is false true true h = cc
value_is false true false h = refl
value_is false false true h = refl
value_is false false false h = cc

false_sign : (s : Bool) (o : Option Bool) → option_map (agree s) o ≡ Some false → o ≡ Some (not s)
false_sign s None h = cc
false_sign true (Some true) h = cc
false_sign true (Some false) h = refl
false_sign false (Some true) h = refl
false_sign false (Some false) h = cc

-- a false literal's variable has the other sign
pub false_variable : (p : Truth) (l : Literal) → literal_value p l ≡ Some false → get_or p l.variable None ≡ Some (not l.positive)
false_variable p l h = false_sign l.positive (get_or p l.variable None) h

pub sign_false : (s : Bool) (o : Option Bool) → o ≡ Some (not s) → option_map (agree s) o ≡ Some false
sign_false s None h = cc
sign_false true (Some true) h = cc
sign_false true (Some false) h = refl
sign_false false (Some true) h = refl
sign_false false (Some false) h = cc

-- what is false stays false where each literal does
pub false_moves : (q p : Truth) (c : List Literal) → ((k : ℕ) (d : Literal) → k < length c → literal_value q (get_or c k d) ≡ Some false → literal_value p (get_or c k d) ≡ Some false) → is_false q c ≡ true → is_false p c ≡ true
false_moves q p [] f h = refl
false_moves q p (x ∷ xs) f h =
    let parts = false_parts (literal_value q x) (is_false q xs) h in
    let rest = false_moves q p xs (λ k d lt. f (suc k) d (omega arith)) parts.1 in
    let here = f 0 x (omega arith) parts.0 in
    ap (λ o. false_step o (is_false p xs)) here ∙ rest

pub unit_moves : (q p : Truth) (c : List Literal) (l : Literal) → ((k : ℕ) (d : Literal) → k < length c → literal_value q (get_or c k d) ≡ Some false → literal_value p (get_or c k d) ≡ Some false) → literal_value p l ≡ None → unit_literal q c ≡ Some l → unit_literal p c ≡ Some l
unit_moves q p [] l f none h = cc
unit_moves q p (x ∷ xs) l f none h =
    elim (unit_parts (literal_value q x) x l (is_false q xs) (unit_literal q xs) h) [
      | inl w ↦ (
          let rest = false_moves q p xs (λ k d lt. f (suc k) d (omega arith)) w.1 in
          let open' : literal_value p x ≡ None = ap (literal_value p) w.2 ∙ none in
          ap (λ o. unit_step o x (is_false p xs) (unit_literal p xs)) open' ∙ ap (λ b. cond b (Some x) None) rest ∙ ap (λ y. Some y) w.2)
      | inr w ↦ (
          let here = f 0 x (omega arith) w.0 in
          let rest = unit_moves q p xs l (λ k d lt. f (suc k) d (omega arith)) none w.1 in
          ap (λ o. unit_step o x (is_false p xs) (unit_literal p xs)) here ∙ rest)
    ]

-- each literal of a unit clause is the one left, or false
pub unit_each : (q : Truth) (c : List Literal) (l : Literal) → unit_literal q c ≡ Some l → (k : ℕ) (d : Literal) → k < length c → (get_or c k d ≡ l) ⊎ (literal_value q (get_or c k d) ≡ Some false)
unit_each q [] l h k d lt = cc
unit_each q (x ∷ xs) l h zero d lt =
    elim (unit_parts (literal_value q x) x l (is_false q xs) (unit_literal q xs) h) [ inl w ↦ inl w.2 | inr w ↦ inr w.0 ]
unit_each q (x ∷ xs) l h (suc k) d lt =
    elim (unit_parts (literal_value q x) x l (is_false q xs) (unit_literal q xs) h) [
      | inl w ↦ inr (each_false q xs w.1 k d (omega arith))
      | inr w ↦ unit_each q xs l w.1 k d (omega arith)
    ]

-- marks
pub mark_all-length : (c : List Literal) (m : List Bool) → length (mark_all m c) ≡ length m
mark_all-length [] m = refl
mark_all-length (x ∷ xs) m = mark_all-length xs (mark m x) ∙ length-set m x.variable true

pub mark_all_keeps : (c : List Literal) (m : List Bool) (v : ℕ) → get_or m v false ≡ true → get_or (mark_all m c) v false ≡ true
mark_all_keeps [] m v h = h
mark_all_keeps (x ∷ xs) m v h = mark_all_keeps xs (mark m x) v (elim (cases_eq v x.variable) [
  | inl same ↦ elim (cases_lt x.variable (length m)) [
    | inl lt ↦ rw same (get_or-set_same m x.variable true false lt)
    | inr ge ↦ rw (set_past m x.variable true ge) h
  ]
  | inr ne ↦ get_or-set_other m x.variable v true false ne ∙ h
])

pub mark_all_has : (c : List Literal) (m : List Bool) (k : ℕ) (d : Literal) → k < length c → (get_or c k d).variable < length m → get_or (mark_all m c) (get_or c k d).variable false ≡ true
mark_all_has [] m k d lt r = absurd (omega arith)
mark_all_has (x ∷ xs) m zero d lt r = mark_all_keeps xs (mark m x) x.variable (get_or-set_same m x.variable true false r)
mark_all_has (x ∷ xs) m (suc k) d lt r = mark_all_has xs (mark m x) k d (omega arith) (omega (arith, length-set m x.variable true))

pub mark_all_where : (c : List Literal) (m : List Bool) (v : ℕ) (d : Literal) → (get_or (mark_all m c) v false ≡ get_or m v false) ⊎ ((k : ℕ) × (k < length c) × ((get_or c k d).variable ≡ v))
mark_all_where [] m v d = inl refl
mark_all_where (x ∷ xs) m v d =
    elim (mark_all_where xs (mark m x) v d) [
      | inl same ↦ elim (cases_eq x.variable v) [
        | inl here ↦ inr (0, omega arith, here)
        | inr ne ↦ (let ne' : v ≢ x.variable = λ e. ne (sym e) in inl (same ∙ get_or-set_other m x.variable v true false ne'))
      ]
      | inr w ↦ inr (suc w.0, omega (arith, w.1), w.2)
    ]

-- two entries of one variable are one
pub same_place : (n : ℕ) (es : List Entry) → IsTrail n es → (i j : ℕ) (d : Entry) → i < j → j < length es → (get_or es i d).lit.variable ≢ (get_or es j d).lit.variable
same_place n es h i j d lt lj = λ same.
    let some = value_at n es h j i d lt (omega arith) in
    let none = h.fresh j d lj in
    cc (some, none, same)

last_none : (a b : Bool) (f g : Fault) → a ≡ true → b ≡ true → cond a (cond b None (Some f)) (Some g) ≡ None
last_none true true f g h k = refl
last_none true false f g h k = cc
last_none false b f g h k = cc

-- the walk begins with the variables of the false clause
pub walked_start : (c : ClauseList) (n : ℕ) (es : List Entry) (r : ℕ) → IsTrail n es → IsClause n (clause_at c r) → 1 ≤ r → r ≤ length c.clauses → is_false (values_of n es) (clause_at c r) ≡ true → Walked c n es (mark_all (replicate (n + 1) false) (clause_at c r)) (r ∷ []) (length es)
walked_start c n es r trail clause low high is = record {
  size = mark_all-length (clause_at c r) (replicate (n + 1) false) ∙ length-replicate (n + 1) false;
  some = omega arith;
  above = λ i d le lt. absurd (omega arith);
  follows = λ p at fits. last_none (is_known c r) (is_false p (clause_at c r)) NotFalse (Unknown at) (known c r low high)
      (false_moves (values_of n es) p (clause_at c r) (λ k d lt before.
      let l = get_or (clause_at c r) k d in
      let e0 = some_entry in
      let w = value_where n es l.variable (not l.positive) e0 (false_variable (values_of n es) l before) in
      let range : l.variable < length (replicate (n + 1) false) = omega (arith, (clause.in_range k d lt).1, length-replicate (n + 1) false) in
      let marked = mark_all_has (clause_at c r) (replicate (n + 1) false) k d lt range in
      let value = fits.below w.0 e0 w.1 w.1 (rw w.2 marked) in
      sign_false l.positive (get_or p l.variable None) (rw w.2 at (rw w.3 at value))) is);
}

pub false_before : (n : ℕ) (es : List Entry) (j : ℕ) (l : Literal) (d : Entry) → j ≤ length es → literal_value (values_of n (take j es)) l ≡ Some false → (i : ℕ) × (i < j) × ((get_or es i d).lit.variable ≡ l.variable) × ((get_or es i d).lit.positive ≡ not l.positive)
false_before n es j l d le h =
    let w = value_where n (take j es) l.variable (not l.positive) d (false_variable (values_of n (take j es)) l h) in
    let lt : w.0 < j = omega (arith, w.1, length-take-le j es le) in
    let same = get_or-take j es w.0 d lt in
    (w.0, lt, ap (λ (e : Entry). e.lit.variable) (sym same) ∙ w.2, ap (λ (e : Entry). e.lit.positive) (sym same) ∙ w.3)

-- two entries at different places have different variables
pub apart : (n : ℕ) (es : List Entry) → IsTrail n es → (i j : ℕ) (d : Entry) → i ≢ j → i < length es → j < length es → (get_or es i d).lit.variable ≢ (get_or es j d).lit.variable
apart n es h i j d ne li lj =
    elim (cases_lt i j) [
      | inl l ↦ same_place n es h i j d l lj
      | inr g ↦ (λ same. same_place n es h j i d (omega arith) li (sym same))
    ]

pub walked_more : (c : ClauseList) (n : ℕ) (es : List Entry) (m : List Bool) (hints : List ℕ) (j r : ℕ) (d : Entry) → IsTrail n es → AreReasons c n es → IsClause n (clause_at c r) → j < length es → (get_or es j d).reason ≡ Some r → Walked c n es m hints (j + 1) → Walked c n es (set (mark_all m (clause_at c r)) (get_or es j d).lit.variable false) (r ∷ hints) j
walked_more c n es m hints j r d trail reasons clause lj is old =
    let e = get_or es j d in
    let v = e.lit.variable in
    let cl = clause_at c r in
    let m1 = mark_all m cl in
    let m2 = set m1 v false in
    let q = values_of n (take j es) in
    let unit = reasons.unit j r d lj is in
    let size1 : length m1 ≡ n + 1 = mark_all-length cl m ∙ old.size in
    let in_range : v < n + 1 = omega (arith, (trail.in_range j d lj).1) in
    record {
      size = length-set m1 v false ∙ size1;
      some = omega arith;
      above = λ i d' le lt. elim (cases_eq i j) [
        | inl at ↦ (
            let here : (get_or es i d').lit.variable ≡ v = ap (λ (e : Entry). e.lit.variable) (get_or_default es i d' d lt) ∙ ap (λ k. (get_or es k d).lit.variable) at in
            rw here (get_or-set_same m1 v false false (omega arith)))
        | inr ne ↦ (
            let x = (get_or es i d).lit.variable in
            let here : (get_or es i d').lit.variable ≡ x = ap (λ (e : Entry). e.lit.variable) (get_or_default es i d' d lt) in
            let far : x ≢ v = apart n es trail i j d ne lt lj in
            rw here (get_or-set_other m1 v x false false far ∙ elim (mark_all_where cl m x e.lit) [
              | inl same ↦ same ∙ old.above i d (omega arith) lt
              | inr w ↦ absurd (elim (unit_each q cl e.lit unit w.0 e.lit w.1) [
                | inl it ↦ far (sym w.2 ∙ ap (λ (l : Literal). l.variable) it)
                | inr false' ↦ (
                    let b = false_before n es j (get_or cl w.0 e.lit) d (omega arith) false' in
                    same_place n es trail b.0 i d (omega (arith, b.1)) lt (b.2 ∙ w.2))
              ])
            ]))
      ];
      follows = λ p at fits.
          let none = fits.above j d (omega arith) lj in
          let none' : literal_value p e.lit ≡ None = ap (option_map (agree e.lit.positive)) none in
          let unit_p : unit_literal p cl ≡ Some e.lit = unit_moves q p cl e.lit (λ k d' lt h.
          let l = get_or cl k d' in
          let b = false_before n es j l d (omega arith) h in
          let far : (get_or es b.0 d).lit.variable ≢ v = same_place n es trail b.0 j d b.1 lj in
          let marked1 : get_or m1 (get_or es b.0 d).lit.variable false ≡ true = rw b.2 (mark_all_has cl m k d' lt (omega (arith, old.size, (clause.in_range k d' lt).1))) in
          let marked = get_or-set_other m1 v (get_or es b.0 d).lit.variable false false far ∙ marked1 in
          let value = fits.below b.0 d b.1 (omega (arith, b.1)) marked in
          sign_false l.positive (get_or p l.variable None) (rw b.2 at (rw b.3 at value))) none' unit in
          let p' = with_true p e.lit in
          let fits' : Fits n es m (j + 1) p' = record {
            size = length-set p v (Some e.lit.positive) ∙ fits.size;
            below = λ i d' li lt marked. elim (cases_eq i j) [
              | inl here ↦ (
                  let same : get_or es i d' ≡ e = get_or_default es i d' d lt ∙ ap (λ k. get_or es k d) here in
                  rw same (get_or-set_same p v (Some e.lit.positive) None (omega (arith, fits.size))))
              | inr ne ↦ (
                  let same : get_or es i d' ≡ get_or es i d = get_or_default es i d' d lt in
                  let far : (get_or es i d').lit.variable ≢ v = rw same (apart n es trail i j d ne lt lj) in
                  let marked' = get_or-set_other m1 v (get_or es i d').lit.variable false false far ∙ mark_all_keeps cl m (get_or es i d').lit.variable marked in
                  get_or-set_other p v (get_or es i d').lit.variable (Some e.lit.positive) None far ∙ fits.below i d' (omega arith) lt marked')
            ];
            above = λ i d' le lt.
                let same : get_or es i d' ≡ get_or es i d = get_or_default es i d' d lt in
                let ne : i ≢ j = omega arith in
                let far : (get_or es i d').lit.variable ≢ v = rw same (apart n es trail i j d ne lt lj) in
                get_or-set_other p v (get_or es i d').lit.variable (Some e.lit.positive) None far ∙ fits.above i d' (omega arith) lt;
          } in
          fault_more c r hints p at old.some ∙ cond-true (is_known c r) _ _ (known c r (reasons.low j r d lj is) (reasons.high j r d lj is))
          ∙ ap (λ o. go_on (λ q. hints_fault c hints q (at + 1)) at (unit_or o p)) unit_p ∙ old.follows p' (at + 1) fits';
    }

pub same_at : (n : ℕ) (es : List Entry) → IsTrail n es → (i j : ℕ) (d e : Entry) → i < j → j < length es → (get_or es i d).lit.variable ≢ (get_or es j e).lit.variable
same_at n es h i j d e lt lj = λ same. same_place n es h i j d lt lj (same ∙ ap (λ (x : Entry). x.lit.variable) (get_or_default es j e d lj))

-- an entry that isn't marked
pub walked_skip : (c : ClauseList) (n : ℕ) (es : List Entry) (m : List Bool) (hints : List ℕ) (j : ℕ) (d : Entry) → j < length es → get_or m (get_or es j d).lit.variable false ≡ false → Walked c n es m hints (j + 1) → Walked c n es m hints j
walked_skip c n es m hints j d lj off old = record {
  size = old.size;
  some = old.some;
  above = λ i d' le lt. elim (cases_eq i j) [
    | inl at ↦ ap (λ (e : Entry). get_or m e.lit.variable false) (get_or_default es i d' d lt ∙ ap (λ k. get_or es k d) at) ∙ off
    | inr ne ↦ old.above i d' (omega arith) lt
  ];
  follows = λ p at fits. old.follows p at (record {
    size = fits.size;
    below = λ i d' li lt marked. elim (cases_eq i j) [
      | inl here ↦ absurd (true≢false (sym marked ∙ ap (λ (e : Entry). get_or m e.lit.variable false) (get_or_default es i d' d lt ∙ ap (λ k. get_or es k d) here) ∙ off))
      | inr ne ↦ fits.below i d' (omega arith) lt marked
    ];
    above = λ i d' le lt. fits.above i d' (omega arith) lt;
  });
}

push_cases : (a b : Bool) (x y : Literal) (xs ys : List Literal) → ys ≡ cond b (xs ++ y ∷ []) xs → cond a (x ∷ ys) ys ≡ cond b (cond a (x ∷ xs) xs ++ y ∷ []) (cond a (x ∷ xs) xs)
push_cases true true x y xs ys h = ap (λ zs. x ∷ zs) h
push_cases true false x y xs ys h = ap (λ zs. x ∷ zs) h
push_cases false true x y xs ys h = h
push_cases false false x y xs ys h = h

left_of_push : (m : List Bool) (xs : List Entry) (e : Entry) → left_of m (xs ++ e ∷ []) ≡ cond (get_or m e.lit.variable false) (left_of m xs ++ opposite e.lit ∷ []) (left_of m xs)
left_of_push m [] e = elim (get_or m e.lit.variable false) as (λ b. cond b (opposite e.lit ∷ []) [] ≡ cond b (opposite e.lit ∷ []) []) [ true ↦ refl | false ↦ refl ]
left_of_push m (x ∷ xs) e =
    push_cases (get_or m x.lit.variable false) (get_or m e.lit.variable false) (opposite x.lit) (opposite e.lit) (left_of m xs) (left_of m (xs ++ e ∷ [])) (left_of_push m xs e)

not_not : (b : Bool) → not (not b) ≡ b
not_not true = refl
not_not false = refl

-- the clause that the marks below a place make, and the truth in which it is false
pub record Built (n : ℕ) (es : List Entry) (m : List Bool) (k : ℕ) : Type 0 where
  pub clause : IsClause n (left_of m (take k es))
  pub some : (i : ℕ) (d : Entry) → i < k → i < length es → get_or m (get_or es i d).lit.variable false ≡ true → get_or (all_false n (left_of m (take k es))) (get_or es i d).lit.variable None ≡ Some (get_or es i d).lit.positive
  pub none : (v : ℕ) → ((i : ℕ) (d : Entry) → i < k → i < length es → get_or m (get_or es i d).lit.variable false ≡ true → (get_or es i d).lit.variable ≢ v) → get_or (all_false n (left_of m (take k es))) v None ≡ None

pub built_none : (n : ℕ) (es : List Entry) (m : List Bool) → Built n es m 0
built_none n es m = record {
  clause = record { in_range = λ k d lt. absurd (omega arith); apart = λ i j d l lt. absurd (omega arith) };
  some = λ i d li lt marked. absurd (omega arith);
  none = λ v far. none_everywhere (n + 1) v;
}

pub falses-length : (lits : List Literal) (p : Truth) → length (fold set_false p lits) ≡ length p
falses-length [] p = refl
falses-length (x ∷ xs) p = falses-length xs (set_false p x) ∙ length-set p x.variable (Some (not x.positive))

pub built_more : (n : ℕ) (es : List Entry) (m : List Bool) (k : ℕ) (d : Entry) → IsTrail n es → k < length es → Built n es m k → Built n es m (k + 1)
built_more n es m k d trail lk old =
    let e = get_or es k d in
    let v = e.lit.variable in
    let lits = left_of m (take k es) in
    let p = all_false n lits in
    let range = trail.in_range k d lk in
    let more : left_of m (take (k + 1) es) ≡ cond (get_or m v false) (lits ++ opposite e.lit ∷ []) lits = ap (left_of m) (take_more es k d lk) ∙ left_of_push m (take k es) e in
    elim (cases_Bool (get_or m v false)) [
      | inl t ↦ (
          let now : left_of m (take (k + 1) es) ≡ lits ++ opposite e.lit ∷ [] = more ∙ cond-true (get_or m v false) _ _ t in
          let truth : all_false n (left_of m (take (k + 1) es)) ≡ set p v (Some e.lit.positive) =
          ap (all_false n) now ∙ fold_push set_false (replicate (n + 1) None) lits (opposite e.lit) ∙ ap (λ b. set p v (Some b)) (not_not e.lit.positive) in
          let size : length p ≡ n + 1 = falses-length lits (replicate (n + 1) None) ∙ length-replicate (n + 1) nothing in
          record {
            clause = rw now (IsClause_push n lits (opposite e.lit) old.clause range.0 range.1 (old.none v (λ i d' li lt on. same_at n es trail i k d' d li lk)));
            some = λ i d' li lt marked. elim (cases_eq i k) [
              | inl here ↦ (
                  let same : get_or es i d' ≡ e = get_or_default es i d' d lt ∙ ap (λ j. get_or es j d) here in
                  rw (truth, same) (get_or-set_same p v (Some e.lit.positive) None (omega (arith, range.1))))
              | inr ne ↦ (
                  let far : (get_or es i d').lit.variable ≢ v = same_at n es trail i k d' d (omega arith) lk in
                  rw truth (get_or-set_other p v (get_or es i d').lit.variable (Some e.lit.positive) None far ∙ old.some i d' (omega arith) lt marked))
            ];
            none = λ w far.
                let ne : w ≢ v = λ same. far k d (omega arith) lk t (sym same) in
                rw truth (get_or-set_other p v w (Some e.lit.positive) None ne ∙ old.none w (λ i d' li lt on. far i d' (omega arith) lt on));
          })
      | inr f ↦ (
          let now : left_of m (take (k + 1) es) ≡ lits = more ∙ cond-false (get_or m v false) _ _ f in
          record {
            clause = rw now old.clause;
            some = λ i d' li lt marked. elim (cases_eq i k) [
              | inl here ↦ absurd (true≢false (sym marked ∙ ap (λ (e : Entry). get_or m e.lit.variable false) (get_or_default es i d' d lt ∙ ap (λ j. get_or es j d) here) ∙ f))
              | inr ne ↦ rw now (old.some i d' (omega arith) lt marked)
            ];
            none = λ w far. rw now (old.none w (λ i d' li lt on. far i d' (omega arith) lt on));
          })
    ]

pub built : (n : ℕ) (es : List Entry) (m : List Bool) (d : Entry) → IsTrail n es → (k : ℕ) → k ≤ length es → Built n es m k
built n es m d trail zero le = built_none n es m
built n es m d trail (suc k) le = rw (← add-one k) (built_more n es m k d trail (omega arith) (built n es m d trail k (omega arith)))

-- what is left marked below a place is a clause that follows by the hints
pub learned_step : (c : ClauseList) (es : List Entry) (m : List Bool) (hints : List ℕ) (k : ℕ) → IsTrail c.variables es → k ≤ length es → Walked c c.variables es m hints k → IsStep c (left_of m (take k es)) hints
learned_step c es m hints k trail le walked =
    let n = c.variables in
    let made = built n es m some_entry trail k le in
    record {
      clause = made.clause;
      follows = walked.follows (all_false n (left_of m (take k es))) 0 (record {
        size = falses-length (left_of m (take k es)) (replicate (n + 1) None) ∙ length-replicate (n + 1) nothing;
        below = made.some;
        above = λ i d ge lt. made.none (get_or es i d).lit.variable (λ j d' lj ltj on. same_at n es trail j i d' d (omega arith) lt);
      });
    }

pub left_take : (m : List Bool) (es : List Entry) (i : ℕ) (e : Entry) → i < length es → get_or es i e ≡ e → left_of m (take (i + 1) es) ≡ cond (get_or m e.lit.variable false) (left_of m (take i es) ++ opposite e.lit ∷ []) (left_of m (take i es))
left_take m es i e lt same = ap (left_of m) (take_more es i e lt ∙ ap (λ x. take i es ++ x ∷ []) same) ∙ left_of_push m (take i es) e
