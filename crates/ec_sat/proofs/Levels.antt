-- the two highest levels of a clause, literal by literal
use Rattle.std.proofs.Common.{◌≡◌, ℕ, zero, suc, ◌+◌, ◌<◌, ◌≤◌, Bool, true, false, cond, List, [], ◌∷◌, Option, Some, None, length, get_or, refl, sym, ap, ◌∙◌, subst, inl, inr, arith}
use Rattle.std.specs.Prelude.{min, max}
use Rattle.std.proofs.lemmas.Bool.{cases_lt, eqb-true}
use Rattle.std.proofs.lemmas.List.{get_or_default}
use Rattle.std.specs.Prelude.{find, option_map, unwrap_or, AllPairs}
use Rattle.ec_clause.specs.Literal.{Literal}
use Rattle.ec_trail.specs.declared.trail.Entry.{Entry}
use Rattle.ec_trail.specs.TrailList.{is_of, entry_of, level_of, top_level}
use Rattle.ec_trail.proofs.TrailLemmas.{top_above}
use Rattle.ec_trail.proofs.BackTo.{some_entry}
use Rattle.ec_sat.specs.Back.{IsHigh, HasTwo}

-- one of the first literals is of this level or above
pub record OneBelow (es : List Entry) (lits : List Literal) (count level : ℕ) : Type 0 where
  pub place : ℕ
  pub below : place < count
  pub high : (d : Literal) → IsHigh es (get_or lits place d) level

-- two of them are
pub record TwoBelow (es : List Entry) (lits : List Literal) (count level : ℕ) : Type 0 where
  pub first : ℕ
  pub second : ℕ
  pub apart : first < second
  pub below : second < count
  pub high_first : (d : Literal) → IsHigh es (get_or lits first d) level
  pub high_second : (d : Literal) → IsHigh es (get_or lits second d) level

pub record AreLevels (es : List Entry) (lits : List Literal) (count first second : ℕ) : Type 0 where
  pub low_first : first ≤ top_level es
  pub low_second : second ≤ first
  pub one : 0 < first → OneBelow es lits count first
  pub two : 0 < second → TwoBelow es lits count second

lower : (es : List Entry) (l : Literal) (a b : ℕ) → b ≤ a → IsHigh es l a → IsHigh es l b
lower es l a b le h = record { place = h.place; within = h.within; same = h.same; high = λ d. omega (arith, h.high d, le) }

found_step : (p : Entry → Bool) (x : Entry) (xs : List Entry) (e : Entry) (b : Bool) → p x ≡ b → cond b (Some x) (find p xs) ≡ Some e → (find p xs ≡ Some e → (k : ℕ) × (k < length xs) × ((d : Entry) → get_or xs k d ≡ e) × (p e ≡ true)) → (k : ℕ) × (k < suc (length xs)) × ((d : Entry) → get_or (x ∷ xs) k d ≡ e) × (p e ≡ true)
found_step p x xs e true is h rest = (let same : x ≡ e = cc in (0, omega arith, λ d. same, ap p (sym same) ∙ is))
found_step p x xs e false is h rest = (let r = rest h in (suc r.0, omega (arith, r.1), r.2, r.3))

found_place : (p : Entry → Bool) (es : List Entry) (e : Entry) → find p es ≡ Some e → (k : ℕ) × (k < length es) × ((d : Entry) → get_or es k d ≡ e) × (p e ≡ true)
found_place p [] e h = cc
found_place p (x ∷ xs) e h = found_step p x xs e (p x) refl h (found_place p xs e)

-- the level of a literal whose variable has one
level_case : (es : List Entry) (l : Literal) (level : ℕ) (o : Option Entry) → entry_of es l.variable ≡ o → level ≡ unwrap_or (option_map (λ (e : Entry). e.level) o) 0 → 0 < level → IsHigh es l level
level_case es l level None is h high = absurd (omega arith)
level_case es l level (Some e) is h high =
    let w = found_place (is_of l.variable) es e is in
    record {
      place = w.0;
      within = w.1;
      same = λ d. ap (λ (x : Entry). x.lit.variable) (w.2 d) ∙ eqb-true e.lit.variable l.variable w.3;
      high = λ d. omega (arith, ap (λ (x : Entry). x.level) (w.2 d), h);
    }

pub is_high : (es : List Entry) (l : Literal) (level : ℕ) → level ≡ unwrap_or (level_of es l.variable) 0 → 0 < level → IsHigh es l level
is_high es l level h high = level_case es l level (entry_of es l.variable) refl h high

-- no level is above the top
high_low : (es : List Entry) (l : Literal) (level : ℕ) → AllPairs (λ (a b : Entry). a.level ≤ b.level) es → (0 < level → IsHigh es l level) → level ≤ top_level es
high_low es l zero rising h = omega arith
high_low es l (suc level) rising h =
    let w = h (omega arith) in
    omega (arith, w.high some_entry, top_above es rising w.place some_entry w.within)

wider : (es : List Entry) (lits : List Literal) (count level : ℕ) → TwoBelow es lits count level → TwoBelow es lits (count + 1) level
wider es lits count level t = record {
  first = t.first;
  second = t.second;
  apart = t.apart;
  below = omega (arith, t.below);
  high_first = t.high_first;
  high_second = t.high_second;
}

pub levels_more : (es : List Entry) (lits : List Literal) (i first second level : ℕ) (x : Literal) → AllPairs (λ (a b : Entry). a.level ≤ b.level) es → AreLevels es lits i first second → i < length lits → x ≡ get_or lits i x → level ≡ unwrap_or (level_of es x.variable) 0 → AreLevels es lits (i + 1) (max first level) (max second (min first level))
levels_more es lits i first second level x rising h lt is lev =
    let high = is_high es x level lev in
    let low = high_low es x level rising high in
    let here = λ (d : Literal) (some : 0 < level). subst (λ (y : Literal). IsHigh es y level) (is ∙ get_or_default lits i x d lt) (high some) in
    record {
      low_first = omega (arith, h.low_first, low);
      low_second = omega (arith, h.low_second);
      one = λ some. elim (cases_lt level first) [
        | inl l ↦ (
            let same : max first level ≡ first = omega arith in
            let o = h.one (omega arith) in
            rw same (record { place = o.place; below = omega (arith, o.below); high = o.high }))
        | inr g ↦ (
            let same : max first level ≡ level = omega arith in
            rw same (record { place = i; below = omega arith; high = λ d. here d (omega arith) }))
      ];
      two = λ some. elim (cases_lt second (min first level)) [
        | inl l ↦ (
            let same : max second (min first level) ≡ min first level = omega arith in
            let o = h.one (omega arith) in
            rw same (record {
              first = o.place;
              second = i;
              apart = o.below;
              below = omega arith;
              high_first = λ d. lower es (get_or lits o.place d) first (min first level) (omega arith) (o.high d);
              high_second = λ d. lower es (get_or lits i d) level (min first level) (omega arith) (here d (omega arith));
            }))
        | inr g ↦ (
            let same : max second (min first level) ≡ second = omega arith in
            rw same (wider es lits i second (h.two (omega arith))))
      ];
    }

pub levels_end : (es : List Entry) (lits : List Literal) (count level : ℕ) → count ≤ length lits → TwoBelow es lits count level → HasTwo es lits level
levels_end es lits count level le t = record {
  first = t.first;
  second = t.second;
  apart = t.apart;
  within = omega (arith, t.below);
  high_first = t.high_first;
  high_second = t.high_second;
}
