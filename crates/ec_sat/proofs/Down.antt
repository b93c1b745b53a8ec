-- the loop of the walk
use Rattle.std.proofs.Common.{◌≡◌, ◌≢◌, ℕ, suc, ◌+◌, ◌-◌, ◌<◌, ◌≤◌, Bool, true, false, List, [], ◌∷◌, ◌++◌, Option, Some, None, length, take, get_or, set, replicate, refl, sym, ap, ◌∙◌, subst, inl, inr, arith}
use Rattle.std.proofs.lemmas.Bool.{cases_lt, true≢false}
use Rattle.std.proofs.lemmas.List.{get_or_default, reverse-append, get_or-set_other, length-replicate}
use Rattle.std.proofs.lemmas.Option.{get_or_from_slice_get}
use Rattle.std.specs.Prelude.{reverse, slice_get, option_map}
use Rattle.ec_clause.specs.Literal.{Literal}
use Rattle.ec_clause.specs.ClauseList.{ClauseList, clause_at, IsClause}
use Rattle.ec_clause.specs.Truth.{Truth, agree, literal_value, is_false, unit_literal, unit_step, false_step}
use Rattle.ec_trail.specs.declared.trail.Entry.{Entry}
use Rattle.ec_trail.specs.TrailList.{values_of, IsTrail}
use Rattle.ec_trail.proofs.TrailLemmas.{value_at}
use Rattle.ec_trail.proofs.BackTo.{some_entry}
use Rattle.ec_unit.specs.Settling.{IsQuiet}
use Rattle.ec_clause.proofs.TruthLemmas.{unit_parts, each_false}
use Rattle.ec_sat.specs.Reasons.{AreReasons, mark_all}
use Rattle.ec_sat.specs.Stops.{Walked, IsLeftBelow, first_top}
use Rattle.ec_sat.proofs.Walk.{walked_skip, walked_more, false_before, sign_false, mark_all_has, same_place}
use Rattle.ec_sat.proofs.Contained.{none_below}

pub record IsDown (c : ClauseList) (n : ℕ) (es : List Entry) (m : List Bool) (hints : List ℕ) (k : ℕ) : Type 0 where
  pub low : k ≤ length es
  pub trail : IsTrail n es
  pub walked : Walked c n es m (reverse hints) k
  pub left : IsLeftBelow es m k

open_step : (q : Truth) (x : Literal) (xs : List Literal) (d : Literal) (o : Option Bool) → literal_value q x ≡ o → false_step o (is_false q xs) ≡ false → (is_false q xs ≡ false → (k : ℕ) × (k < length xs) × (literal_value q (get_or xs k d) ≡ Some false → ⊥)) → (k : ℕ) × (k < suc (length xs)) × (literal_value q (get_or (x ∷ xs) k d) ≡ Some false → ⊥)
open_step q x xs d None is h rest = (0, omega arith, λ e. cc (e, is))
open_step q x xs d (Some true) is h rest = (0, omega arith, λ e. cc (e, is))
open_step q x xs d (Some false) is h rest = (let r = rest h in (suc r.0, omega (arith, r.1), r.2))

not_false_from : (b : Bool) (x : Literal) (o : Option Literal) → unit_step None x b o ≡ None → b ≡ false
not_false_from true x o h = cc
not_false_from false x o h = refl

unit_step_open : (q p : Truth) (x : Literal) (xs : List Literal) (d : Literal) (o : Option Bool) → literal_value p x ≡ o → literal_value q x ≡ Some false → unit_step o x (is_false p xs) (unit_literal p xs) ≡ None → (unit_literal p xs ≡ None → (k : ℕ) × (k < length xs) × (literal_value q (get_or xs k d) ≡ Some false) × (literal_value p (get_or xs k d) ≡ Some false → ⊥)) → (k : ℕ) × (k < suc (length xs)) × (literal_value q (get_or (x ∷ xs) k d) ≡ Some false) × (literal_value p (get_or (x ∷ xs) k d) ≡ Some false → ⊥)
unit_step_open q p x xs d None is f h rest = (0, omega arith, f, λ e. cc (e, is))
unit_step_open q p x xs d (Some true) is f h rest = (0, omega arith, f, λ e. cc (e, is))
unit_step_open q p x xs d (Some false) is f h rest = (let r = rest h in (suc r.0, omega (arith, r.1), r.2, r.3))

-- a clause that isn't false has a literal that isn't
exists_open : (q : Truth) (c : List Literal) (d : Literal) → is_false q c ≡ false → (k : ℕ) × (k < length c) × (literal_value q (get_or c k d) ≡ Some false → ⊥)
exists_open q [] d h = absurd (true≢false h)
exists_open q (x ∷ xs) d h = open_step q x xs d (literal_value q x) refl h (exists_open q xs d)

unit_open : (q p : Truth) (c : List Literal) (l d : Literal) → unit_literal q c ≡ Some l → unit_literal p c ≡ None → literal_value p l ≡ None → (k : ℕ) × (k < length c) × (literal_value q (get_or c k d) ≡ Some false) × (literal_value p (get_or c k d) ≡ Some false → ⊥)
unit_open q p [] l d h no_unit none = cc
unit_open q p (x ∷ xs) l d h no_unit none =
    elim (unit_parts (literal_value q x) x l (is_false q xs) (unit_literal q xs) h) [
      | inl w ↦ (
          let rest : is_false p xs ≡ false = not_false_from (is_false p xs) x (unit_literal p xs) (ap (λ o. unit_step o x (is_false p xs) (unit_literal p xs)) (sym (ap (literal_value p) w.2 ∙ none)) ∙ no_unit) in
          let o = exists_open p xs d rest in
          (suc o.0, omega (arith, o.1), each_false q xs w.1 o.0 d o.1, o.2))
      | inr w ↦ unit_step_open q p x xs d (literal_value p x) refl w.0 no_unit (λ e. unit_open q p xs l d w.1 e none)
    ]

-- a literal that is false at the top, and isn't below it
top_place : (n : ℕ) (es : List Entry) (j : ℕ) (l : Literal) → IsTrail n es → j ≤ length es → first_top es ≤ length es → literal_value (values_of n (take j es)) l ≡ Some false → (literal_value (values_of n (take (first_top es) es)) l ≡ Some false → ⊥) → (i : ℕ) × (i < j) × (first_top es ≤ i) × ((get_or es i some_entry).lit.variable ≡ l.variable)
top_place n es j l trail le les is differs =
    let w = false_before n es j l some_entry le is in
    let s = first_top es in
    elim (cases_lt w.0 s) [
      | inl early ↦ absurd (
          let value = value_at n es trail s w.0 some_entry early les in
          differs (sign_false l.positive (get_or (values_of n (take s es)) l.variable None) (rw w.2 at (rw w.3 at value))))
      | inr late ↦ (w.0, w.1, late, w.2)
    ]

pub left_start : (c : ClauseList) (n : ℕ) (es : List Entry) (r : ℕ) (m : List Bool) → IsTrail n es → IsClause n (clause_at c r) → first_top es ≤ length es → is_false (values_of n (take (length es) es)) (clause_at c r) ≡ true → IsQuiet (values_of n (take (first_top es) es)) (clause_at c r) → m ≡ mark_all (replicate (n + 1) false) (clause_at c r) → IsLeftBelow es m (length es)
left_start c n es r m trail clause les is quiet marked =
    let cl = clause_at c r in
    let d : Literal = record { variable = 0; positive = true } in
    let o = exists_open (values_of n (take (first_top es) es)) cl d quiet.not_false in
    let w = top_place n es (length es) (get_or cl o.0 d) trail (omega arith) les (each_false (values_of n (take (length es) es)) cl is o.0 d o.1) o.2 in
    record {
      place = w.0;
      below = w.1;
      high = w.2;
      marked = λ e. ap (λ (x : Entry). get_or m x.lit.variable false) (get_or_default es w.0 e some_entry w.1) ∙ rw (marked, w.3) (mark_all_has cl (replicate (n + 1) false) o.0 d o.1 (omega (arith, (clause.in_range o.0 d o.1).1, length-replicate (n + 1) false)));
    }

left_more : (c : ClauseList) (n : ℕ) (es : List Entry) (m : List Bool) (j r : ℕ) → IsTrail n es → AreReasons c n es → IsClause n (clause_at c r) → length m ≡ n + 1 → j < length es → first_top es ≤ j → (get_or es j some_entry).reason ≡ Some r → IsQuiet (values_of n (take (first_top es) es)) (clause_at c r) → IsLeftBelow es (set (mark_all m (clause_at c r)) (get_or es j some_entry).lit.variable false) j
left_more c n es m j r trail reasons clause size lj late is quiet =
    let cl = clause_at c r in
    let d : Literal = record { variable = 0; positive = true } in
    let e = get_or es j some_entry in
    let v = e.lit.variable in
    let q = values_of n (take j es) in
    let p = values_of n (take (first_top es) es) in
    let none : literal_value p e.lit ≡ None = ap (option_map (agree e.lit.positive)) (none_below n es (first_top es) j some_entry trail late lj) in
    let o = unit_open q p cl e.lit d (reasons.unit j r some_entry lj is) quiet.not_unit none in
    let w = top_place n es j (get_or cl o.0 d) trail (omega arith) (omega arith) o.2 o.3 in
    let far : (get_or es w.0 some_entry).lit.variable ≢ v = same_place n es trail w.0 j some_entry w.1 lj in
    let marked : get_or (mark_all m cl) (get_or es w.0 some_entry).lit.variable false ≡ true = rw w.3 (mark_all_has cl m o.0 d o.1 (omega (arith, size, (clause.in_range o.0 d o.1).1))) in
    record {
      place = w.0;
      below = w.1;
      high = w.2;
      marked = λ x. ap (λ (y : Entry). get_or (set (mark_all m cl) v false) y.lit.variable false) (get_or_default es w.0 x some_entry (omega (arith, w.1))) ∙ get_or-set_other (mark_all m cl) v (get_or es w.0 some_entry).lit.variable false false far ∙ marked;
    }

pub down_skip : (c : ClauseList) (n : ℕ) (es : List Entry) (m : List Bool) (hints : List ℕ) (count v : ℕ) (e : Entry) → IsDown c n es m hints count → 0 < count → slice_get es (count - 1) ≡ Some e → v ≡ e.lit.variable → get_or m v false ≡ false → IsDown c n es m hints (count - 1)
down_skip c n es m hints count v e down low at var off =
    let j = count - 1 in
    let same : get_or es j e ≡ e = get_or_from_slice_get es j e e at in
    let up : count ≡ j + 1 = omega arith in
    let old = subst (λ (k : ℕ). Walked c n es m (reverse hints) k) up down.walked in
    let off' : get_or m (get_or es j e).lit.variable false ≡ false = ap (λ (x : Entry). get_or m x.lit.variable false) same ∙ ap (λ w. get_or m w false) (sym var) ∙ off in
    record {
      low = omega (arith, down.low);
      trail = down.trail;
      walked = walked_skip c n es m (reverse hints) j e (omega (arith, down.low)) off' old;
      left = record {
        place = down.left.place;
        below = elim (cases_lt down.left.place j) [
          | inl l ↦ l
          | inr g ↦ absurd (
              let here : down.left.place ≡ j = omega (arith, down.left.below) in
              true≢false (sym (down.left.marked e) ∙ ap (λ i. get_or m (get_or es i e).lit.variable false) here ∙ off'))
        ];
        high = down.left.high;
        marked = down.left.marked;
      };
    }

pub down_more : (c : ClauseList) (n : ℕ) (es : List Entry) (m m1 : List Bool) (hints hints' : List ℕ) (count v r : ℕ) (e : Entry) → AreReasons c n es → IsClause n (clause_at c r) → IsDown c n es m hints count → 0 < count → slice_get es (count - 1) ≡ Some e → v ≡ e.lit.variable → e.reason ≡ Some r → m1 ≡ mark_all m (clause_at c r) → hints' ≡ hints ++ r ∷ [] → IsQuiet (values_of n (take (first_top es) es)) (clause_at c r) → IsDown c n es (set m1 v false) hints' (count - 1)
down_more c n es m m1 hints hints' count v r e reasons clause down low at var is marked more quiet =
    let j = count - 1 in
    let lj : j < length es = omega (arith, down.low) in
    let same : get_or es j e ≡ e = get_or_from_slice_get es j e e at in
    let same' : get_or es j some_entry ≡ e = get_or_from_slice_get es j e some_entry at in
    let up : count ≡ j + 1 = omega arith in
    let old = subst (λ (k : ℕ). Walked c n es m (reverse hints) k) up down.walked in
    let step = walked_more c n es m (reverse hints) j r e down.trail reasons clause lj (ap (λ (x : Entry). x.reason) same ∙ is) old in
    let order : reverse hints' ≡ r ∷ reverse hints = ap reverse more ∙ reverse-append hints (r ∷ []) in
    let below = left_more c n es m j r down.trail reasons clause old.size lj (omega (arith, down.left.high, down.left.below)) (ap (λ (x : Entry). x.reason) same' ∙ is) quiet in
    record {
      low = omega (arith, down.low);
      trail = down.trail;
      walked = rw (order, marked, var) (subst (λ (x : Entry). Walked c n es (set (mark_all m (clause_at c r)) x.lit.variable false) (r ∷ reverse hints) j) same step);
      left = rw (marked, var) (subst (λ (x : Entry). IsLeftBelow es (set (mark_all m (clause_at c r)) x.lit.variable false) j) same' below);
    }
