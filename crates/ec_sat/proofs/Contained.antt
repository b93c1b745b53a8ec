-- no clause stands in what is learned
use Rattle.std.proofs.Common.{◌≡◌, ◌≢◌, ℕ, zero, suc, ◌+◌, ◌<◌, ◌≤◌, ◌⊎◌, Bool, true, false, not, cond, List, [], ◌∷◌, Option, Some, None, length, take, get_or, refl, sym, ap, ◌∙◌, inl, inr, arith, nat_le}
use Rattle.std.proofs.lemmas.Bool.{cases_lt, cases_eq, true≢false, leb-true, leb-false}
use Rattle.std.proofs.lemmas.List.{length-take-le, get_or-take}
use Rattle.std.proofs.lemmas.List.Sums.{prefix_len_passes, prefix_len_stops}
use Rattle.std.specs.Prelude.{All, AllPairs, Contains, option_map}
use Rattle.std.specs.List.{prefix_len}
use Rattle.ec_clause.specs.Literal.{Literal, opposite}
use Rattle.ec_clause.specs.ClauseList.{IsClause}
use Rattle.ec_clause.specs.Truth.{Truth, agree, literal_value, is_false, unit_literal, unit_step, false_step}
use Rattle.ec_trail.specs.declared.trail.Entry.{Entry}
use Rattle.ec_trail.specs.TrailList.{values_of, IsTrail}
use Rattle.ec_clause.proofs.TruthLemmas.{false_from}
use Rattle.ec_trail.proofs.TrailLemmas.{value_at}
use Rattle.ec_trail.proofs.BackTo.{some_entry}
use Rattle.ec_unit.specs.Settling.{IsQuiet}
use Rattle.ec_sat.specs.Reasons.{left_of}
use Rattle.ec_trail.proofs.Values.{value_where}
use Rattle.ec_sat.proofs.Walk.{same_at}

-- all literals false, but maybe one that has no value
pub one_left : (q : Truth) (c : List Literal) (y : Literal) → AllPairs (λ (j k : Literal). j.variable ≢ k.variable) c → ((k : ℕ) (d : Literal) → k < length c → (literal_value q (get_or c k d) ≡ Some false) ⊎ (get_or c k d ≡ y)) → literal_value q y ≡ None → (is_false q c ≡ true) ⊎ (unit_literal q c ≡ Some y)
one_left q [] y apart h none = inl refl
one_left q (x ∷ xs) y apart h none =
    elim (h 0 x (omega arith)) [
      | inl f ↦ elim (one_left q xs y (λ i j d lt l. apart (suc i) (suc j) d (omega arith) (omega arith)) (λ k d lt. h (suc k) d (omega arith)) none) [
        | inl a ↦ inl (ap (λ o. false_step o (is_false q xs)) f ∙ a)
        | inr b ↦ inr (ap (λ o. unit_step o x (is_false q xs) (unit_literal q xs)) f ∙ b)
      ]
      | inr here ↦ (
          let rest : is_false q xs ≡ true = false_from q xs (λ k d lt. elim (h (suc k) d (omega arith)) [
            | inl f ↦ f
            | inr too ↦ absurd (apart 0 (suc k) d (omega arith) (omega arith) (ap (λ (l : Literal). l.variable) (here ∙ sym too)))
          ]) in
          let open' : literal_value q x ≡ None = ap (literal_value q) here ∙ none in
          inr (ap (λ o. unit_step o x (is_false q xs) (unit_literal q xs)) open' ∙ ap (λ b. cond b (Some x) None) rest ∙ ap (λ z. Some z) here))
    ]

left_step : (m : List Bool) (e : Entry) (es : List Entry) (x : Literal) (d : Entry) (b : Bool) → get_or m e.lit.variable false ≡ b → Contains (cond b (opposite e.lit ∷ left_of m es) (left_of m es)) x → (Contains (left_of m es) x → (i : ℕ) × (i < length es) × (get_or m (get_or es i d).lit.variable false ≡ true) × (x ≡ opposite (get_or es i d).lit)) → (i : ℕ) × (i < suc (length es)) × (get_or m (get_or (e ∷ es) i d).lit.variable false ≡ true) × (x ≡ opposite (get_or (e ∷ es) i d).lit)
left_step m e es x d true is (zero, h, same) rest = (0, omega arith, is, sym same)
left_step m e es x d true is (suc k, h, same) rest = (let r = rest (k, omega arith, same) in (suc r.0, omega (arith, r.1), r.2, r.3))
left_step m e es x d false is h rest = (let r = rest h in (suc r.0, omega (arith, r.1), r.2, r.3))

-- a literal that is left is the opposite of a marked one
pub left_where : (m : List Bool) (es : List Entry) (x : Literal) (d : Entry) → Contains (left_of m es) x → (i : ℕ) × (i < length es) × (get_or m (get_or es i d).lit.variable false ≡ true) × (x ≡ opposite (get_or es i d).lit)
left_where m [] x d h = absurd (omega (arith, h.1))
left_where m (e ∷ es) x d h = left_step m e es x d (get_or m e.lit.variable false) refl (h.0, h.1, h.2) (left_where m es x d)

none_case : (o : Option Bool) → ((b : Bool) → o ≡ Some b → ⊥) → o ≡ None
none_case None h = refl
none_case (Some b) h = absurd (h b refl)

pub none_below : (n : ℕ) (es : List Entry) (s u : ℕ) (d : Entry) → IsTrail n es → s ≤ u → u < length es → get_or (values_of n (take s es)) (get_or es u d).lit.variable None ≡ None
none_below n es s u d trail le lt = none_case (get_or (values_of n (take s es)) (get_or es u d).lit.variable None) (λ b e.
    let w = value_where n (take s es) (get_or es u d).lit.variable b d e in
    let before : w.0 < s = omega (arith, w.1, length-take-le s es (omega arith)) in
    same_at n es trail w.0 u d d (omega arith) lt (ap (λ (x : Entry). x.lit.variable) (sym (get_or-take s es w.0 d before)) ∙ w.2))

sign_back : (s : Bool) (o : Option Bool) → o ≡ Some s → option_map (agree (not s)) o ≡ Some false
sign_back true o h = ap (option_map (agree false)) h
sign_back false o h = ap (option_map (agree true)) h

-- the marked literals up to a place, of which only the last isn't below the quiet part, contain no quiet clause
pub none_contained : (n : ℕ) (es : List Entry) (m : List Bool) (u s : ℕ) (cl : List Literal) → IsTrail n es → u < length es → s ≤ u → ((i : ℕ) (d : Entry) → i < u → get_or m (get_or es i d).lit.variable false ≡ true → i < s) → IsClause n cl → IsQuiet (values_of n (take s es)) cl → All (Contains (left_of m (take (u + 1) es))) cl → ⊥
none_contained n es m u s cl trail lu le only clause quiet inside =
    let q = values_of n (take s es) in
    let e0 = some_entry in
    let y = opposite (get_or es u e0).lit in
    let open' : literal_value q y ≡ None = ap (option_map (agree y.positive)) (none_below n es s u e0 trail le lu) in
    let each = λ (k : ℕ) (d : Literal) (lt : k < length cl).
    let x = get_or cl k d in
    let w = left_where m (take (u + 1) es) x e0 (inside k d lt) in
    let below : w.0 < u + 1 = omega (arith, w.1, length-take-le (u + 1) es (omega arith)) in
    let same : get_or (take (u + 1) es) w.0 e0 ≡ get_or es w.0 e0 = get_or-take (u + 1) es w.0 e0 below in
    let sides : (literal_value q x ≡ Some false) ⊎ (x ≡ y) = elim (cases_eq w.0 u) [
      | inl at ↦ inr (w.3 ∙ ap (λ (e : Entry). opposite e.lit) (same ∙ ap (λ i. get_or es i e0) at))
      | inr ne ↦ (
          let e = get_or es w.0 e0 in
          let marked : get_or m e.lit.variable false ≡ true = ap (λ (e : Entry). get_or m e.lit.variable false) (sym same) ∙ w.2 in
          let early : w.0 < s = only w.0 e0 (omega arith) marked in
          let value = value_at n es trail s w.0 e0 early (omega arith) in
          let is : x ≡ opposite e.lit = w.3 ∙ ap (λ (e : Entry). opposite e.lit) same in
          inl (ap (literal_value q) is ∙ sign_back e.lit.positive (get_or q e.lit.variable None) value))
    ] in
    sides in
    elim (one_left q cl y clause.apart each open') [
      | inl f ↦ true≢false (sym f ∙ quiet.not_false)
      | inr o ↦ (let no_unit = quiet.not_unit in cc)
    ]

-- what a level keeps, by places
pub kept_before : (es : List Entry) (level i : ℕ) (d : Entry) → AllPairs (λ (a b : Entry). a.level ≤ b.level) es → i < length es → (get_or es i d).level ≤ level → i < prefix_len (λ (e : Entry). nat_le e.level level) es
kept_before es level i d rising lt low =
    let p = λ (e : Entry). nat_le e.level level in
    elim (cases_lt i (prefix_len p es)) [
      | inl l ↦ l
      | inr g ↦ (
          let at : prefix_len p es < length es = omega arith in
          let stops = leb-false _ _ (prefix_len_stops p es d at) in
          elim (cases_eq i (prefix_len p es)) [
            | inl same ↦ absurd (omega (arith, ap (λ j. (get_or es j d).level) same, stops))
            | inr ne ↦ absurd (omega (arith, rising (prefix_len p es) i d (omega arith) lt, stops))
          ])
    ]

pub kept_after : (es : List Entry) (level u : ℕ) (d : Entry) → level < (get_or es u d).level → prefix_len (λ (e : Entry). nat_le e.level level) es ≤ u
kept_after es level u d above =
    let p = λ (e : Entry). nat_le e.level level in
    elim (cases_lt u (prefix_len p es)) [
      | inl l ↦ absurd (omega (arith, leb-true _ _ (prefix_len_passes p es u d l)))
      | inr g ↦ g
    ]
