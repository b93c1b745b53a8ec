-- the places of marked literals, as they are collected and read
use Rattle.std.proofs.Common.{◌≡◌, ℕ, zero, suc, ◌+◌, ◌<◌, ◌≤◌, ◌⊎◌, Bool, true, false, List, [], ◌∷◌, ◌++◌, Some, None, length, take, get_or, set, replicate, sym, ap, ◌∙◌, subst, inl, inr, arith, add-one}
use Rattle.std.proofs.lemmas.Bool.{cases_lt, cases_eq, cases_Bool, true≢false, cond-true, cond-false}
use Rattle.std.proofs.lemmas.List.{get_or-set_same, get_or-set_other, set_past, get_or_default, get_or-replicate, take_all}
use Rattle.std.proofs.lemmas.List.Elements.{Contains-push, Contains-append_left}
use Rattle.std.proofs.lemmas.List.Sorted.{Contains-permutation}
use Rattle.std.proofs.lemmas.Option.{get_or_from_slice_get}
use Rattle.std.specs.List.Sorted.{IsPermutation, IsNonDecreasingBy}
use Rattle.std.specs.Prelude.{Contains, slice_get}
use Rattle.ec_trail.specs.declared.trail.Entry.{Entry}
use Rattle.ec_trail.specs.TrailList.{values_of, top_level, IsTrail}
use Rattle.ec_trail.proofs.TrailLemmas.{value_at, top_above}
use Rattle.ec_trail.proofs.BackTo.{some_entry}
use Rattle.ec_clause.specs.Literal.{Literal, opposite}
use Rattle.ec_clause.specs.ClauseList.{ClauseList}
use Rattle.ec_sat.specs.Reasons.{left_of}
use Rattle.ec_sat.specs.Stops.{AreListed, AreListedUpTo, StayListed, IsAsserting}
use Rattle.ec_sat.proofs.Walk.{apart, left_take}

-- nothing is marked
pub listed_none : (n : ℕ) (es : List Entry) (m : List Bool) (level : ℕ) (places : List ℕ) → IsTrail n es → m ≡ replicate (n + 1) false → AreListed es m level places
listed_none n es m level places trail none i d lt low on =
    let v = (get_or es i d).lit.variable in
    absurd (true≢false (sym on ∙ ap (λ x. get_or x v false) none ∙ get_or-replicate (n + 1) v false false (omega (arith, (trail.in_range i d lt).1))))

-- a mark was taken away
pub stay_unmark : (es : List Entry) (m : List Bool) (v : ℕ) → StayListed es m (set m v false)
stay_unmark es m v level places h i d lt low on =
    let x = (get_or es i d).lit.variable in
    h i d lt low (elim (cases_eq x v) [
      | inl same ↦ elim (cases_lt v (length m)) [
        | inl l ↦ absurd (true≢false (sym on ∙ ap (λ w. get_or (set m v false) w false) same ∙ get_or-set_same m v false false l))
        | inr g ↦ ap (λ y. get_or y x false) (sym (set_past m v false g)) ∙ on
      ]
      | inr ne ↦ sym (get_or-set_other m v x false false ne) ∙ on
    ])

-- a variable is marked, whose place is listed if it must be
mark_cases : (es : List Entry) (m : List Bool) (v level : ℕ) (places more : List ℕ) → ((i : ℕ) → Contains places i → Contains more i) → ((i : ℕ) (d : Entry) → i < length es → (get_or es i d).level < level → (get_or es i d).lit.variable ≡ v → Contains more i) → AreListed es m level places → AreListed es (set m v true) level more
mark_cases es m v level places more keeps here h i d lt low on =
    let x = (get_or es i d).lit.variable in
    elim (cases_eq x v) [
      | inl same ↦ here i d lt low same
      | inr ne ↦ keeps i (h i d lt low (sym (get_or-set_other m v x true false ne) ∙ on))
    ]

pub mark_old : (es : List Entry) (m : List Bool) (v level : ℕ) (places : List ℕ) → get_or m v false ≡ true → AreListed es m level places → AreListed es (set m v true) level places
mark_old es m v level places on h =
    mark_cases es m v level places places (λ i c. c) (λ i d lt low same. h i d lt low (ap (λ w. get_or m w false) same ∙ on)) h

pub mark_none : (n : ℕ) (es : List Entry) (m : List Bool) (v level : ℕ) (places : List ℕ) → IsTrail n es → get_or (values_of n es) v None ≡ None → AreListed es m level places → AreListed es (set m v true) level places
mark_none n es m v level places trail none h =
    mark_cases es m v level places places (λ i c. c) (λ i d lt low same. absurd (
    let some = value_at n es trail (length es) i d lt (omega arith) in
    let whole = take_all (length es) es (omega arith) in
    cc (some, whole, none, same))) h

-- a variable has one place
only_place : (n : ℕ) (es : List Entry) (v place i : ℕ) (e d : Entry) → IsTrail n es → place < length es → slice_get es place ≡ Some e → e.lit.variable ≡ v → i < length es → (get_or es i d).lit.variable ≡ v → (i ≡ place) × (get_or es i d ≡ e)
only_place n es v place i e d trail lp at is lt same =
    let there : get_or es place d ≡ e = get_or_default es place d e lp ∙ get_or_from_slice_get es place e e at in
    let variable : (get_or es i d).lit.variable ≡ (get_or es place d).lit.variable = same ∙ sym (ap (λ (x : Entry). x.lit.variable) there ∙ is) in
    let here : i ≡ place = elim (cases_eq i place) [ inl e ↦ e | inr ne ↦ absurd (apart n es trail i place d ne lt lp variable) ] in
    (here, ap (λ k. get_or es k d) here ∙ there)

pub mark_high : (n : ℕ) (es : List Entry) (m : List Bool) (v level place : ℕ) (places : List ℕ) (e : Entry) → IsTrail n es → place < length es → slice_get es place ≡ Some e → e.lit.variable ≡ v → level ≤ e.level → AreListed es m level places → AreListed es (set m v true) level places
mark_high n es m v level place places e trail lp at is high h =
    mark_cases es m v level places places (λ i c. c) (λ i d lt low same. absurd (
    let one = only_place n es v place i e d trail lp at is lt same in
    omega (arith, ap (λ (x : Entry). x.level) one.1))) h

pub mark_low : (n : ℕ) (es : List Entry) (m : List Bool) (v level place : ℕ) (places more : List ℕ) (e : Entry) → IsTrail n es → place < length es → slice_get es place ≡ Some e → e.lit.variable ≡ v → more ≡ places ++ place ∷ [] → AreListed es m level places → AreListed es (set m v true) level more
mark_low n es m v level place places more e trail lp at is grown h =
    mark_cases es m v level places more (λ i c. subst (λ xs. Contains xs i) (sym grown) (Contains-append_left places (place ∷ []) i c)) (λ i d lt low same.
    let one = only_place n es v place i e d trail lp at is lt same in
    subst (λ xs. Contains xs i) (sym grown) (subst (λ k. Contains (places ++ place ∷ []) k) (sym one.0) (Contains-push places place))) h

-- with the place of the first unique implication point, in another order, all marked places are there
pub listed_all : (c : ClauseList) (n : ℕ) (es : List Entry) (m m' : List Bool) (hints : List ℕ) (place : ℕ) (lower more sorted : List ℕ) → IsTrail n es → more ≡ lower ++ place ∷ [] → IsPermutation more sorted → AreListed es m (top_level es) lower → StayListed es m m' → IsAsserting c n es m' hints place 0 → AreListedUpTo es m' (place + 1) sorted
listed_all c n es m m' hints place lower more sorted trail grown moved listed stay asserts i d below lt on =
    Contains-permutation more sorted i moved (subst (λ xs. Contains xs i) (sym grown) (elim (cases_lt i place) [
      | inl l ↦ (
          let low : (get_or es i d).level < top_level es = omega (arith, asserts.alone i d l on, top_above es trail.rising place some_entry asserts.in_range, ap (λ (x : Entry). x.level) (get_or_default es place some_entry d asserts.in_range)) in
          Contains-append_left lower (place ∷ []) i (stay (top_level es) lower listed i d lt low on))
      | inr g ↦ (let here : i ≡ place = omega arith in subst (λ k. Contains (lower ++ place ∷ []) k) (sym here) (Contains-push lower place))
    ]))

-- nothing is marked from one place on and before another
abbrev pub AreUnmarked : List Entry → List Bool → ℕ → ℕ → Type 0
AreUnmarked es m a b = (i : ℕ) (d : Entry) → a ≤ i → i < b → i < length es → get_or m (get_or es i d).lit.variable false ≡ true → ⊥

left_skip : (es : List Entry) (m : List Bool) (a b : ℕ) → a ≤ b → b ≤ length es → AreUnmarked es m a b → left_of m (take b es) ≡ left_of m (take a es)
left_skip es m a zero le lb none = let here : zero ≡ a = omega arith in ap (λ k. left_of m (take k es)) here
left_skip es m a (suc b) le lb none = elim (cases_lt b a) [
  | inl l ↦ (let here : suc b ≡ a = omega arith in ap (λ k. left_of m (take k es)) here)
  | inr g ↦ (
      let e = get_or es b some_entry in
      let lt : b < length es = omega arith in
      let off : get_or m e.lit.variable false ≡ false = elim (cases_Bool (get_or m e.lit.variable false)) [
        | inl on ↦ absurd (none b some_entry (omega arith) (omega arith) lt on)
        | inr off ↦ off
      ] in
      ap (λ k. left_of m (take k es)) (sym (add-one b)) ∙ left_take m es b e lt (get_or_default es b e some_entry lt) ∙ cond-false _ _ _ off ∙ left_skip es m a b (omega arith) (omega arith) (λ i d low high. none i d low (omega arith)))
]

-- the literals of the places that were read are there, each marked one before a place
pub record IsReading (es : List Entry) (m : List Bool) (places : List ℕ) (count next j : ℕ) (lits : List Literal) : Type 0 where
  pub low : next ≤ count
  pub are : lits ≡ left_of m (take next es)
  pub past : (k d : ℕ) → k < j → (get_or places k d < next) ⊎ (count ≤ get_or places k d)

pub reading_start : (es : List Entry) (m : List Bool) (places : List ℕ) (count : ℕ) (lits : List Literal) → lits ≡ [] → IsReading es m places count 0 0 lits
reading_start es m places count lits none = record {
  low = omega arith;
  are = none;
  past = λ k d lt. absurd (omega arith);
}

past_more : (places : List ℕ) (count next next' j x : ℕ) → j < length places → x ≡ get_or places j 0 → next ≤ next' → (x < next') ⊎ (count ≤ x) → ((k d : ℕ) → k < j → (get_or places k d < next) ⊎ (count ≤ get_or places k d)) → (k d : ℕ) → k < j + 1 → (get_or places k d < next') ⊎ (count ≤ get_or places k d)
past_more places count next next' j x lj is le now past k d lt = elim (cases_lt k j) [
  | inl l ↦ elim (past k d l) [ inl p ↦ inl (omega arith) | inr q ↦ inr q ]
  | inr g ↦ (
      let here : k ≡ j = omega arith in
      let at : get_or places k d ≡ x = ap (λ i. get_or places i d) here ∙ get_or_default places j d 0 lj ∙ sym is in
      elim now [ inl p ↦ inl (omega (arith, p, at)) | inr q ↦ inr (omega (arith, q, at)) ])
]

-- a place that was read before, or is past the end
pub reading_skip : (es : List Entry) (m : List Bool) (places : List ℕ) (count next j x : ℕ) (lits : List Literal) → j < length places → x ≡ get_or places j 0 → (x < next) ⊎ (count ≤ x) → IsReading es m places count next j lits → IsReading es m places count next (j + 1) lits
reading_skip es m places count next j x lits lj is now h = record {
  low = h.low;
  are = h.are;
  past = past_more places count next next j x lj is (omega arith) now h.past;
}

between : (es : List Entry) (m : List Bool) (places : List ℕ) (count next j x : ℕ) (lits : List Literal) → IsNonDecreasingBy (λ n. n) places → AreListedUpTo es m count places → j < length places → x ≡ get_or places j 0 → x < count → IsReading es m places count next j lits → AreUnmarked es m next x
between es m places count next j x lits rising listed lj is below h i d low high lt on =
    let there = listed i d (omega arith) lt on in
    elim (cases_lt there.0 j) [
      | inl l ↦ elim (h.past there.0 i l) [ inl p ↦ omega (arith, p, there.2) | inr q ↦ omega (arith, q, there.2) ]
      | inr g ↦ omega (arith, rising j there.0 i (omega arith) there.1, there.2, is, get_or_default places j i 0 lj)
    ]

-- the next place, if it is not marked
pub reading_off : (es : List Entry) (m : List Bool) (places : List ℕ) (count next j x v : ℕ) (e : Entry) (lits : List Literal) → count ≤ length es → IsNonDecreasingBy (λ n. n) places → AreListedUpTo es m count places → j < length places → x ≡ get_or places j 0 → next ≤ x → x < count → slice_get es x ≡ Some e → v ≡ e.lit.variable → get_or m v false ≡ false → IsReading es m places count next j lits → IsReading es m places count (x + 1) (j + 1) lits
reading_off es m places count next j x v e lits size rising listed lj is low below at var off h =
    let same : get_or es x e ≡ e = get_or_from_slice_get es x e e at in
    let more = left_take m es x e (omega arith) same in
    let skip = left_skip es m next x low (omega arith) (between es m places count next j x lits rising listed lj is below h) in
    record {
      low = omega arith;
      are = h.are ∙ sym skip ∙ sym (more ∙ cond-false _ _ _ (ap (λ w. get_or m w false) (sym var) ∙ off));
      past = past_more places count next (x + 1) j x lj is (omega arith) (inl (omega arith)) h.past;
    }

-- the next place, if it is marked
pub reading_on : (es : List Entry) (m : List Bool) (places : List ℕ) (count next j x v : ℕ) (e : Entry) (l : Literal) (lits more : List Literal) → count ≤ length es → IsNonDecreasingBy (λ n. n) places → AreListedUpTo es m count places → j < length places → x ≡ get_or places j 0 → next ≤ x → x < count → slice_get es x ≡ Some e → v ≡ e.lit.variable → get_or m v false ≡ true → l ≡ opposite e.lit → more ≡ lits ++ l ∷ [] → IsReading es m places count next j lits → IsReading es m places count (x + 1) (j + 1) more
reading_on es m places count next j x v e l lits more size rising listed lj is low below at var on opp grown h =
    let same : get_or es x e ≡ e = get_or_from_slice_get es x e e at in
    let step = left_take m es x e (omega arith) same in
    let skip = left_skip es m next x low (omega arith) (between es m places count next j x lits rising listed lj is below h) in
    record {
      low = omega arith;
      are = grown ∙ ap (λ xs. xs ++ l ∷ []) (h.are ∙ sym skip) ∙ ap (λ y. left_of m (take x es) ++ y ∷ []) opp ∙ sym (step ∙ cond-true _ _ _ (ap (λ w. get_or m w false) (sym var) ∙ on));
      past = past_more places count next (x + 1) j x lj is (omega arith) (inl (omega arith)) h.past;
    }

pub reading_end : (es : List Entry) (m : List Bool) (places : List ℕ) (count next j : ℕ) (lits : List Literal) → count ≤ length es → AreListedUpTo es m count places → length places ≤ j → IsReading es m places count next j lits → lits ≡ left_of m (take count es)
reading_end es m places count next j lits size listed all h =
    h.are ∙ sym (left_skip es m next count h.low size (λ i d low high lt on.
    let there = listed i d high lt on in
    elim (h.past there.0 i (omega (arith, there.1))) [ inl p ↦ omega (arith, p, there.2) | inr q ↦ omega (arith, q, there.2) ]))
