-- what a look at a clause of which a watched literal is false gives
use Rattle.std.proofs.Common.{◌≡◌, ◌≢◌, ℕ, ◌+◌, ◌<◌, ◌≤◌, Bool, true, false, List, [], ◌∷◌, ◌++◌, Option, Some, None, length, get_or, refl, sym, ap, ◌∙◌, subst, inl, inr, arith}
use Rattle.std.proofs.lemmas.Bool.{cases_lt, cases_eq}
use Rattle.std.proofs.lemmas.List.{get_or_default, get_or_push, length_push}
use Rattle.std.specs.Prelude.{All, Contains, is_some}
use Rattle.ec_clause.specs.Literal.{Literal}
use Rattle.ec_clause.specs.ClauseList.{ClauseList, IsClause, clause_at}
use Rattle.ec_clause.specs.Truth.{Truth, IsFalse, IsUnit, literal_value, unit_literal}
use Rattle.ec_clause.proofs.TruthLemmas.{false_from, unit_from}
use Rattle.ec_trail.specs.declared.trail.Entry.{Entry}
use Rattle.ec_trail.specs.TrailList.{TrailList, truth_of, top_level}
use Rattle.ec_unit.specs.Settling.{IsFalseAt, AddsImplied}
use Rattle.ec_trail.proofs.BackTo.{some_entry}
use Rattle.ec_unit.specs.declared.seen.Seen.{Seen}
use Rattle.ec_unit.specs.Leaning.{no_seen, seen_at, Follows, Grows, HasTrue}
use Rattle.ec_unit.proofs.Growing.{has_true_more}
use Rattle.ec_trail.proofs.Values.{true_where}
use Rattle.ec_unit.specs.Chained.{index_of}
use Rattle.ec_unit.proofs.Adding.{adds_none, adds_push}
use Rattle.ec_unit.proofs.Chaining.{index_apart}

-- all literals but one are false
abbrev pub OthersFalse : Truth → List Literal → Literal → Type 0
OthersFalse p lits other = All (λ (l : Literal). l ≢ other → literal_value p l ≡ Some false) lits

false_value : (o : Option Bool) → is_some o ≡ true → o ≢ Some true → o ≡ Some false
false_value None some not_true = cc
false_value (Some true) some not_true = absurd (not_true refl)
false_value (Some false) some not_true = refl

pub no_some : (o : Option Bool) → is_some o ≡ false → o ≡ None
no_some None none = refl
no_some (Some b) none = cc

pub all_false : (c : ClauseList) (p : Truth) (number : ℕ) (other : Literal) → 1 ≤ number → number ≤ length c.clauses → OthersFalse p (clause_at c number) other → is_some (literal_value p other) ≡ true → literal_value p other ≢ Some true → IsFalseAt c p number
all_false c p number other low high others some not_true = record {
  in_range = record { low = low; high = high };
  each_false = false_from p (clause_at c number) (λ k d lt.
      let l = get_or (clause_at c number) k d in
      elim (cases_eq (index_of l) (index_of other)) [
        | inl e ↦ ap (literal_value p) (index_apart l other e) ∙ false_value (literal_value p other) some not_true
        | inr ne ↦ others k d lt (λ e. ne (ap index_of e))
      ]);
}

pub one_open : (c : ClauseList) (p : Truth) (number : ℕ) (other : Literal) → IsClause c.variables (clause_at c number) → Contains (clause_at c number) other → OthersFalse p (clause_at c number) other → literal_value p other ≡ None → unit_literal p (clause_at c number) ≡ Some other
one_open c p number other clause there others none =
    let lits = clause_at c number in
    unit_from p lits other (record {
      place = there.0;
      within = there.1;
      there = there.2;
      no_value = none;
      others = λ k d lt ne. others k d lt (λ same.
          let variable : (get_or lits k d).variable ≡ (get_or lits there.0 d).variable = ap (λ (l : Literal). l.variable) (same ∙ sym there.2 ∙ get_or_default lits there.0 other d there.1) in
          elim (cases_lt k there.0) [
            | inl l ↦ clause.apart k there.0 d l there.1 variable
            | inr g ↦ clause.apart there.0 k d (omega arith) lt (sym variable)
          ]);
    })

pub adds_one : (c : ClauseList) (old new : TrailList) (number : ℕ) (l : Literal) (e : Entry) → 1 ≤ number → number ≤ length c.clauses → unit_literal (truth_of old) (clause_at c number) ≡ Some l → e ≡ record { lit = l; level = top_level old.entries; reason = Some number } → new.variables ≡ old.variables → new.entries ≡ old.entries ++ e ∷ [] → AddsImplied c old new
adds_one c old new number l e low high unit is variables grown =
    adds_push c old old new e (adds_none c old) (record {
      reason = (number, ap (λ (x : Entry). x.reason) is, record { low = low; high = high }, unit ∙ ap Some (ap (λ (x : Entry). x.lit) (sym is)));
      level = ap (λ (x : Entry). x.level) is;
    }) variables grown

-- a literal of a clause was seen last
pub has_true_push : (old new : List Seen) (s : Seen) (lits : List Literal) (l : Literal) → new ≡ old ++ s ∷ [] → s.lit ≡ l → Contains lits l → HasTrue new lits
has_true_push old new s lits l grown same there = record {
  lit = l;
  of_clause = there;
  is_true = record {
    place = length old;
    within = omega (arith, ap length grown, length_push old s);
    there = ap (λ (xs : List Seen). seen_at xs (length old)) grown ∙ ap (λ (x : Seen). x.lit) (get_or_push old s no_seen (length old) refl) ∙ same;
  };
}

by_value : (t : TrailList) (seen : List Seen) (l : Literal) (o : Option Bool) → Follows seen t.entries → literal_value (truth_of t) l ≡ o → (IsFalse (truth_of t) (l ∷ []) → ⊥) → ((k : Literal) → IsUnit (truth_of t) (l ∷ []) k → ⊥) → HasTrue seen (l ∷ [])
by_value t seen l None follows is not_false not_unit = absurd (not_unit l (record {
  place = 0;
  within = omega arith;
  there = refl;
  no_value = is;
  others = λ k d lt ne. absurd (omega arith);
}))
by_value t seen l (Some false) follows is not_false not_unit = absurd (not_false (λ k d lt. (let zero' : k ≡ 0 = omega arith in ap (λ i. literal_value (truth_of t) (get_or (l ∷ []) i d)) zero' ∙ is)))
by_value t seen l (Some true) follows is not_false not_unit =
    let w = true_where t.variables t.entries l some_entry is in
    record {
      lit = l;
      of_clause = (0, omega arith, refl);
      is_true = record { place = w.0; within = omega (arith, w.1, follows.size); there = follows.same w.0 some_entry w.1 ∙ w.2 };
    }

-- a clause of fewer than two literals that is neither false nor unit has a true one
pub short_other : (t : TrailList) (seen : List Seen) (lits : List Literal) → Follows seen t.entries → length lits < 2 → (IsFalse (truth_of t) lits → ⊥) → ((l : Literal) → IsUnit (truth_of t) lits l → ⊥) → HasTrue seen lits
short_other t seen [] follows short not_false not_unit = absurd (not_false (λ k d lt. absurd (omega arith)))
short_other t seen (l ∷ []) follows short not_false not_unit = by_value t seen l (literal_value (truth_of t) l) follows refl not_false not_unit
short_other t seen (k ∷ l ∷ ls) follows short not_false not_unit = absurd (omega arith)

-- a true literal, where a clause has fewer than two
abbrev pub IfShort : ClauseList → List Seen → ℕ → Type 0
IfShort c seen number = length (clause_at c number) < 2 → HasTrue seen (clause_at c number)

-- one clause more has a true literal
pub short_more : (c : ClauseList) (old new : List Seen) (short : List ℕ) (i : ℕ) → i < length short → Grows old new → IfShort c new (get_or short i 0) → ((k d : ℕ) → k < i → IfShort c old (get_or short k d)) → (k d : ℕ) → k < i + 1 → IfShort c new (get_or short k d)
short_more c old new short i fits grows here before k d lt = elim (cases_lt k i) [
  | inl l ↦ (λ size. has_true_more old new (clause_at c (get_or short k d)) grows (before k d l size))
  | inr g ↦ (
      let at : k ≡ i = omega arith in
      let item : get_or short i 0 ≡ get_or short k d = get_or_default short i 0 d fits ∙ ap (λ j. get_or short j d) (sym at) in
      subst (IfShort c new) item here)
]

pub short_hold_more : (c : ClauseList) (old new : List Seen) (short : List ℕ) → Grows old new → All (IfShort c old) short → All (IfShort c new) short
short_hold_more c old new short grows h k d lt size = has_true_more old new (clause_at c (get_or short k d)) grows (h k d lt size)
