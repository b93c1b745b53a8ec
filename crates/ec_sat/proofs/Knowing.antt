-- what is known of a trail when it is settled, and when it changes
use Rattle.std.proofs.Common.{◌≡◌, ℕ, ◌+◌, ◌-◌, ◌<◌, ◌≤◌, Bool, true, false, List, [], ◌∷◌, ◌++◌, Option, Some, None, length, take, get_or, refl, sym, ap, ◌∙◌, subst, inl, inr, arith, nat_le}
use Rattle.std.proofs.lemmas.Bool.{OnTrue_at, OnTrue_from, cases_lt, eqb-true, true≢false}
use Rattle.std.proofs.lemmas.List.{get_or_default, get_or-take, get_or_push, length_push, length-take-le, take_at}
use Rattle.std.proofs.lemmas.List.Sums.{prefix_len-le-length}
use Rattle.std.specs.Bool.{OnTrue}
use Rattle.std.specs.List.{prefix_len}
use Rattle.ec_clause.specs.Literal.{Literal}
use Rattle.ec_clause.specs.ClauseList.{ClauseList, clause_at}
use Rattle.ec_clause.specs.Truth.{literal_value, false_step, unit_step}
use Rattle.ec_trail.specs.declared.trail.Entry.{Entry}
use Rattle.ec_trail.specs.TrailList.{TrailList, IsTrail, truth_of, top_level, kept}
use Rattle.ec_trail.proofs.TrailLemmas.{top_above}
use Rattle.ec_trail.proofs.BackTo.{some_entry}
use Rattle.ec_trail.proofs.Values.{true_where}
use Rattle.ec_unit.specs.declared.watch.Settled.{Settled}
use Rattle.ec_unit.specs.declared.watch.Settled.TheVariants.{Quiet, Conflict}
use Rattle.ec_unit.specs.Settling.{AddsImplied, IsQuiet, Settles, HoldsAtZero, ShortHoldAtZero}
use Rattle.ec_unit.specs.Watching.{Agrees}
use Rattle.ec_sat.specs.Ready.{IsKnown, short_after}
use Rattle.ec_sat.specs.declared.known.Known.{Known}
use Rattle.ec_sat.proofs.Contained.{kept_before}
use Rattle.ec_sat.proofs.Keeps.{clause_at_push}

on_true_more : (b : Bool) (P Q : Type 0) → (P → Q) → OnTrue b P → OnTrue b Q
on_true_more b P Q f h = OnTrue_from b Q (λ e. f (OnTrue_at e h))

-- what holds at level 0 holds on a longer trail
holds_longer : (es new : List Entry) (lits : List Literal) → length es ≤ length new → take (length es) new ≡ es → HoldsAtZero es lits → HoldsAtZero new lits
holds_longer es new lits longer front h =
    let at = λ (d : Entry). sym (get_or-take (length es) new h.place d h.within) ∙ ap (λ xs. get_or xs h.place d) front in
    record {
      lit = h.lit;
      of_clause = h.of_clause;
      place = h.place;
      within = omega (arith, h.within, longer);
      there = λ d. ap (λ (e : Entry). e.lit) (at d) ∙ h.there d;
      level = λ d. ap (λ (e : Entry). e.level) (at d) ∙ h.level d;
    }

pub short_longer : (c : ClauseList) (es new : List Entry) → length es ≤ length new → take (length es) new ≡ es → ShortHoldAtZero c es → ShortHoldAtZero c new
short_longer c es new longer front hold number known size = holds_longer es new (clause_at c number) longer front (hold number known size)

-- and on one that is cut
holds_kept : (n b : ℕ) (es : List Entry) (lits : List Literal) → IsTrail n es → HoldsAtZero es lits → HoldsAtZero (kept b es) lits
holds_kept n b es lits trail h =
    let p = λ (e : Entry). nat_le e.level b in
    let s = prefix_len p es in
    let below = kept_before es b h.place some_entry trail.rising h.within (omega (arith, h.level some_entry)) in
    let at = λ (d : Entry). get_or-take s es h.place d below in
    record {
      lit = h.lit;
      of_clause = h.of_clause;
      place = h.place;
      within = omega (arith, below, length-take-le s es (prefix_len-le-length p es));
      there = λ d. ap (λ (e : Entry). e.lit) (at d) ∙ h.there d;
      level = λ d. ap (λ (e : Entry). e.level) (at d) ∙ h.level d;
    }

-- a literal that has no value, or is false, makes its clause unit or false
by_value : (t : TrailList) (l : Literal) (o : Option Bool) → IsTrail t.variables t.entries → top_level t.entries ≡ 0 → literal_value (truth_of t) l ≡ o → IsQuiet (truth_of t) (l ∷ []) → HoldsAtZero t.entries (l ∷ [])
by_value t l None trail low is quiet = absurd (
    let one : Some l ≡ None = sym (ap (λ o. unit_step o l true None) is) ∙ quiet.not_unit in cc)
by_value t l (Some false) trail low is quiet = absurd (true≢false (sym (ap (λ o. false_step o true) is) ∙ quiet.not_false))
by_value t l (Some true) trail low is quiet =
    let w = true_where t.variables t.entries l some_entry is in
    record {
      lit = l;
      of_clause = (0, omega arith, refl);
      place = w.0;
      within = w.1;
      there = λ d. ap (λ (e : Entry). e.lit) (get_or_default t.entries w.0 d some_entry w.1) ∙ w.2;
      level = λ d. omega (arith, top_above t.entries trail.rising w.0 d w.1, low);
    }

short_one : (t : TrailList) (lits : List Literal) → IsTrail t.variables t.entries → top_level t.entries ≡ 0 → length lits < 2 → IsQuiet (truth_of t) lits → HoldsAtZero t.entries lits
short_one t [] trail low size quiet = absurd (true≢false quiet.not_false)
short_one t (l ∷ []) trail low size quiet = by_value t l (literal_value (truth_of t) l) trail low refl quiet
short_one t (k ∷ l ∷ ls) trail low size quiet = absurd (omega arith)

by_settled : (c : ClauseList) (old new : TrailList) (s : Settled) (b : Bool) → IsTrail new.variables new.entries → AddsImplied c old new → Settles c (truth_of new) s → OnTrue b (ShortHoldAtZero c old.entries) → short_after b s (top_level new.entries) ≡ true → ShortHoldAtZero c new.entries
by_settled c old new s true trail adds settles short is = short_longer c old.entries new.entries adds.longer adds.front short
by_settled c old new (Conflict number) false trail adds settles short is = absurd (true≢false (sym is))
by_settled c old new Quiet false trail adds settles short is = λ number known size.
    short_one new (clause_at c number) trail (eqb-true (top_level new.entries) 0 is) size (settles number known)

-- a trail was settled
pub known_settled : (c : ClauseList) (old new : TrailList) (seen : List Literal) (k k' : Known) (s : Settled) → IsTrail new.variables new.entries → OnTrue k.short (ShortHoldAtZero c old.entries) → AddsImplied c old new → Settles c (truth_of new) s → Agrees seen new.entries (length new.entries) → k'.front ≡ length new.entries → k'.short ≡ short_after k.short s (top_level new.entries) → IsKnown c new seen k'
known_settled c old new seen k k' s trail short adds settles agrees front is = record {
  front = subst (Agrees seen new.entries) (sym front) agrees;
  short = OnTrue_from k'.short (ShortHoldAtZero c new.entries) (λ e. by_settled c old new s k.short trail adds settles short (sym is ∙ e));
}

-- a literal was decided
pub known_decide : (c : ClauseList) (old new : TrailList) (seen : List Literal) (e : Entry) (k : Known) → new.entries ≡ old.entries ++ e ∷ [] → IsKnown c old seen k → IsKnown c new seen k
known_decide c old new seen e k grown h =
    let size : length new.entries ≡ length old.entries + 1 = ap length grown ∙ length_push old.entries e in
    let front : take (length old.entries) new.entries ≡ old.entries = ap (take (length old.entries)) grown ∙ take_at old.entries (e ∷ []) (length old.entries) refl in
    record {
      front = record {
        of_seen = h.front.of_seen;
        of_trail = omega (arith, h.front.of_trail);
        same = λ i d x lt.
            let at = get_or-take (length old.entries) new.entries i x (omega (arith, lt, h.front.of_trail)) in
            h.front.same i d x lt ∙ ap (λ (y : Entry). y.lit) (sym (ap (λ xs. get_or xs i x) front) ∙ at);
      };
      short = on_true_more k.short (ShortHoldAtZero c old.entries) (ShortHoldAtZero c new.entries) (short_longer c old.entries new.entries (omega arith) front) h.short;
    }

-- a clause was added, and the trail cut
pub known_back : (c c' : ClauseList) (old new : TrailList) (seen seen' : List Literal) (x : List Literal) (b count : ℕ) (k k' : Known) → IsTrail old.variables old.entries → c'.clauses ≡ c.clauses ++ x ∷ [] → length x ≡ count → new.entries ≡ kept b old.entries → seen' ≡ seen → k'.front ≤ k.front → k'.front ≤ length new.entries → OnTrue k'.short ((k.short ≡ true) × (2 ≤ count)) → IsKnown c old seen k → IsKnown c' new seen' k'
known_back c c' old new seen seen' x b count k k' trail grown long back same less cut short h =
    let es = old.entries in
    let p = λ (e : Entry). nat_le e.level b in
    let s = prefix_len p es in
    let size : length new.entries ≡ s = ap length back ∙ length-take-le s es (prefix_len-le-length p es) in
    record {
      front = record {
        of_seen = omega (arith, ap length same, less, h.front.of_seen);
        of_trail = cut;
        same = λ i d e lt.
            let at : get_or new.entries i e ≡ get_or es i e = ap (λ xs. get_or xs i e) back ∙ get_or-take s es i e (omega (arith, lt, cut, size)) in
            ap (λ xs. get_or xs i d) same ∙ h.front.same i d e (omega (arith, lt, less)) ∙ ap (λ (y : Entry). y.lit) (sym at);
      };
      short = OnTrue_from k'.short (ShortHoldAtZero c' new.entries) (λ on.
          let both = OnTrue_at on short in
          let hold = OnTrue_at both.0 h.short in
          λ number known few. elim (cases_lt number (length c.clauses + 1)) [
            | inl lt ↦ (
                let le : number ≤ length c.clauses = omega arith in
                let is = clause_at_push c c' x number grown known.low le in
                let held = hold number (record { low = known.low; high = le }) (omega (arith, few, ap length is)) in
                rw (is, back) (holds_kept old.variables b es (clause_at c number) trail held))
            | inr ge ↦ absurd (
                let at : number - 1 ≡ length c.clauses = omega (arith, known.high, ap length grown, length_push c.clauses x) in
                let is : clause_at c' number ≡ x = ap (λ cs. get_or cs (number - 1) []) grown ∙ get_or_push c.clauses x [] (number - 1) (sym at) in
                omega (arith, few, ap length is, long, both.1))
          ]);
    }

-- nothing is known
pub known_nothing : (c : ClauseList) (t : TrailList) (seen : List Literal) (k : Known) → k.front ≡ 0 → k.short ≡ false → IsKnown c t seen k
known_nothing c t seen k front short = record {
  front = record {
    of_seen = omega (arith, front);
    of_trail = omega (arith, front);
    same = λ i d e lt. absurd (omega (arith, front));
  };
  short = OnTrue_from k.short (ShortHoldAtZero c t.entries) (λ on. absurd (true≢false (sym on ∙ short)));
}
