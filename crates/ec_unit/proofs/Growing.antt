-- what was seen grows, and work leans on more
use Rattle.std.proofs.Common.{◌≡◌, ◌≢◌, ℕ, ◌+◌, ◌<◌, ◌≤◌, List, [], ◌∷◌, ◌++◌, length, take, get_or, set, refl, sym, ap, ◌∙◌, inl, inr, arith}
use Rattle.std.proofs.lemmas.Bool.{cases_lt, cases_eq}
use Rattle.std.proofs.lemmas.List.{length-set, length_push, get_or-set_same, get_or-set_other, get_or_append_left, get_or_push, get_or_default, take_all, take_at, take-take}
use Rattle.ec_clause.specs.Literal.{Literal, opposite}
use Rattle.ec_trail.specs.declared.trail.Entry.{Entry}
use Rattle.ec_trail.specs.TrailList.{values_of, IsTrail}
use Rattle.ec_unit.specs.declared.chains.Cell.{Cell}
use Rattle.ec_unit.specs.declared.seen.Seen.{Seen}
use Rattle.std.proofs.Common.{true, Some, int_eq}
use Rattle.std.specs.Prelude.{IfSome, slice_get}
use Rattle.std.proofs.lemmas.Option.{slice_get-get_or}
use Rattle.ec_clause.specs.Literal.{number_of}
use Rattle.ec_clause.specs.Truth.{literal_value}
use Rattle.ec_trail.proofs.BackTo.{some_entry}
use Rattle.ec_unit.proofs.Places.{true_from, one_place, same_number}
use Rattle.ec_unit.specs.Leaning.{IsTrueAt, no_seen, seen_at, lean_at, Follows, Grows, IsSeen, HasTrue, Leans, IsHeld, AreHeld}

pub grows_none : (seen : List Seen) → Grows seen seen
grows_none seen = record { longer = omega arith; lits = λ i lt. refl; leans = λ i lt. omega arith }

pub grows_more : (a b c : List Seen) → Grows a b → Grows b c → Grows a c
grows_more a b c g h = record {
  longer = omega (arith, g.longer, h.longer);
  lits = λ i lt. h.lits i (omega (arith, g.longer)) ∙ g.lits i lt;
  leans = λ i lt. omega (arith, h.leans i (omega (arith, g.longer)), g.leans i lt);
}

pub grows_push : (seen : List Seen) (s : Seen) → Grows seen (seen ++ s ∷ [])
grows_push seen s = record {
  longer = omega (arith, length_push seen s);
  lits = λ i lt. ap (λ (x : Seen). x.lit) (get_or_append_left seen (s ∷ []) no_seen i lt);
  leans = λ i lt. omega (arith, ap (λ (x : Seen). x.lean) (get_or_append_left seen (s ∷ []) no_seen i lt));
}

-- one place leaned on from earlier on
pub grows_lean : (seen : List Seen) (i : ℕ) (s : Seen) → i < length seen → s.lit ≡ seen_at seen i → s.lean ≤ lean_at seen i → Grows seen (set seen i s)
grows_lean seen i s lt same less = record {
  longer = omega (arith, length-set seen i s);
  lits = λ j lj. elim (cases_eq j i) [
    | inl e ↦ ap (λ k. seen_at (set seen i s) k) e ∙ ap (λ (x : Seen). x.lit) (get_or-set_same seen i s no_seen lt) ∙ same ∙ ap (seen_at seen) (sym e)
    | inr ne ↦ ap (λ (x : Seen). x.lit) (get_or-set_other seen i j s no_seen ne)
  ];
  leans = λ j lj. elim (cases_eq j i) [
    | inl e ↦ omega (arith, less, ap (λ k. lean_at (set seen i s) k) e ∙ ap (λ (x : Seen). x.lean) (get_or-set_same seen i s no_seen lt), ap (lean_at seen) e)
    | inr ne ↦ omega (arith, ap (λ (x : Seen). x.lean) (get_or-set_other seen i j s no_seen ne))
  ];
}

pub leans_more : (a b : List Seen) (l : Literal) (i : ℕ) → Grows a b → Leans a l i → Leans b l i
leans_more a b l i g h = record {
  place = h.place;
  within = omega (arith, h.within, g.longer);
  there = g.lits h.place h.within ∙ h.there;
  lean = omega (arith, h.lean, g.leans h.place h.within);
}

pub held_more : (a b : List Seen) (worked : ℕ) (k l : Literal) → worked ≤ length a → Grows a b → IsHeld a worked k l → IsHeld b worked k l
held_more a b worked k l le g h = λ i lt is. leans_more a b l i g (h i lt (sym (g.lits i (omega arith)) ∙ is))

pub held_less : (seen : List Seen) (worked less : ℕ) (k l : Literal) → less ≤ worked → IsHeld seen worked k l → IsHeld seen less k l
held_less seen worked less k l le h = λ i lt is. h i (omega arith) is

pub are_held_more : (cells : List Cell) (upto : ℕ) (a b : List Seen) (worked less : ℕ) → worked ≤ length a → less ≤ worked → Grows a b → AreHeld cells upto a worked → AreHeld cells upto b less
are_held_more cells upto a b worked less le fewer g h = λ number c d k l of_ below is_k is_l.
    held_less b worked less k l fewer (held_more a b worked k l le g (h number c d k l of_ below is_k is_l))

pub seen_more : (a b : List Seen) (l : Literal) → Grows a b → IsSeen a l → IsSeen b l
seen_more a b l g h = record { place = h.place; within = omega (arith, h.within, g.longer); there = g.lits h.place h.within ∙ h.there }

pub has_true_more : (a b : List Seen) (lits : List Literal) → Grows a b → HasTrue a lits → HasTrue b lits
has_true_more a b lits g h = record { lit = h.lit; of_clause = h.of_clause; is_true = seen_more a b h.lit g h.is_true }

-- one literal more of the trail was seen
pub follows_push : (seen : List Seen) (es : List Entry) (s : Seen) (e : Entry) → Follows seen es → s.lit ≡ e.lit → Follows (seen ++ s ∷ []) (es ++ e ∷ [])
follows_push seen es s e h same = record {
  size = omega (arith, h.size, length_push seen s, length_push es e);
  same = λ i d lt. elim (cases_lt i (length es)) [
    | inl l ↦ ap (λ (x : Seen). x.lit) (get_or_append_left seen (s ∷ []) no_seen i (omega (arith, h.size))) ∙ h.same i d l ∙ ap (λ (x : Entry). x.lit) (sym (get_or_append_left es (e ∷ []) d i l))
    | inr g ↦ (
        let at : length es ≡ i = omega (arith, length_push es e) in
        let at' : length seen ≡ i = omega (arith, h.size) in
        ap (λ (x : Seen). x.lit) (get_or_push seen s no_seen i at') ∙ same ∙ ap (λ (x : Entry). x.lit) (sym (get_or_push es e d i at)))
  ];
}

pub follows_grows : (a b : List Seen) (es : List Entry) → Grows a b → length b ≡ length a → Follows a es → Follows b es
follows_grows a b es g same h = record {
  size = same ∙ h.size;
  same = λ i d lt. g.lits i (omega (arith, h.size)) ∙ h.same i d lt;
}

-- the work is held where the literals are still seen
abbrev pub IsHeldSeen : List Seen → ℕ → Literal → Literal → Type 0
IsHeldSeen seen worked l other = (i : ℕ) → i < worked → i < length seen → seen_at seen i ≡ opposite l → Leans seen other i

-- forgetting the last literal takes the work back
held_pop : (old seen : List Seen) (s : Seen) (worked less : ℕ) (k l : Literal) → old ≡ seen ++ s ∷ [] → less ≤ worked → less ≤ s.lean → IsHeldSeen old worked k l → IsHeldSeen seen less k l
held_pop old seen s worked less k l split fewer lean h = λ i lt below is.
    let same : seen_at old i ≡ seen_at seen i = ap (λ (xs : List Seen). seen_at xs i) split ∙ ap (λ (x : Seen). x.lit) (get_or_append_left seen (s ∷ []) no_seen i below) in
    let size : length old ≡ length seen + 1 = ap length split ∙ length_push seen s in
    let leans = h i (omega arith) (omega arith) (same ∙ is) in
    let j = leans.place in
    elim (cases_lt j (length seen)) [
      | inl lj ↦ (
          let item : get_or old j no_seen ≡ get_or seen j no_seen = ap (λ (xs : List Seen). get_or xs j no_seen) split ∙ get_or_append_left seen (s ∷ []) no_seen j lj in
          record { place = j; within = lj; there = ap (λ (x : Seen). x.lit) (sym item) ∙ leans.there; lean = omega (arith, leans.lean, ap (λ (x : Seen). x.lean) item) })
      | inr ge ↦ absurd (
          let at : length seen ≡ j = omega (arith, leans.within) in
          let item : get_or old j no_seen ≡ s = ap (λ (xs : List Seen). get_or xs j no_seen) split ∙ get_or_push seen s no_seen j at in
          omega (arith, leans.lean, ap (λ (x : Seen). x.lean) item))
    ]

-- what stands behind a front is being forgotten
pub record HasForgotten (old seen : List Seen) (before capacity start worked front : ℕ) : Type 0 where
  pub longer : front ≤ length seen
  pub front_of : seen ≡ take (length seen) old
  pub room : capacity ≡ before
  pub held : (k l : Literal) → IsHeld old start k l → IsHeldSeen seen worked k l

pub forgot_none : (old : List Seen) (capacity start front : ℕ) → front ≤ length old → HasForgotten old old capacity capacity start start front
forgot_none old capacity start front le = record {
  longer = le;
  front_of = sym (take_all (length old) old (omega arith));
  room = refl;
  held = λ k l h i lt below is. h i lt is;
}

pub forgot_more : (old seen new : List Seen) (before capacity more start worked less front : ℕ) (s : Seen) → HasForgotten old seen before capacity start worked front → more ≡ capacity → front < length seen → seen ≡ new ++ s ∷ [] → less ≤ worked → less ≤ s.lean → HasForgotten old new before more start less front
forgot_more old seen new before capacity more start worked less front s h same below split fewer lean =
    let size : length seen ≡ length new + 1 = ap length split ∙ length_push new s in
    record {
      longer = omega arith;
      front_of = (
          let a : new ≡ take (length new) (new ++ s ∷ []) = sym (take_at new (s ∷ []) (length new) refl) in
          let b : take (length new) (new ++ s ∷ []) ≡ take (length new) (take (length seen) old) = ap (take (length new)) (sym split ∙ h.front_of) in
          a ∙ b ∙ take-take (length new) (length seen) old (omega arith));
      room = same ∙ h.room;
      held = λ k l is. held_pop seen new s worked less k l split fewer lean (h.held k l is);
    }

-- where a literal is not false, nothing leans for it
pub held_none : (n : ℕ) (es : List Entry) (seen : List Seen) (worked : ℕ) (l other : Literal) → IsTrail n es → Follows seen es → worked ≤ length seen → literal_value (values_of n es) (opposite l) ≢ Some true → IsHeld seen worked l other
held_none n es seen worked l other trail follows within not_true = λ i lt is.
    let below : i < length es = omega (arith, follows.size) in
    absurd (not_true (true_from n es (opposite l) i some_entry trail below (sym (follows.same i some_entry below) ∙ is)))

at_place : (n : ℕ) (es : List Entry) (seen : List Seen) (l : Literal) (place i : ℕ) → IsTrail n es → Follows seen es → IsTrueAt es l place → i < length seen → seen_at seen i ≡ l → i ≡ place
at_place n es seen l place i trail follows at lt is =
    let below : i < length es = omega (arith, follows.size) in
    one_place n es trail i place some_entry below at.within (sym (follows.same i some_entry below) ∙ is ∙ sym (at.there some_entry))

pub held_back : (n : ℕ) (es : List Entry) (seen : List Seen) (worked less place : ℕ) (l other : Literal) → IsTrail n es → Follows seen es → worked ≤ length seen → less ≤ worked → less ≤ place → IsTrueAt es (opposite l) place → IsHeld seen less l other
held_back n es seen worked less place l other trail follows within fewer before at = λ i lt is.
    let same = at_place n es seen (opposite l) place i trail follows at (omega arith) is in
    absurd (omega arith)

pub held_on : (n : ℕ) (es : List Entry) (old seen : List Seen) (worked place base : ℕ) (l other : Literal) → IsTrail n es → Follows old es → Follows seen es → worked ≤ length old → IsTrueAt es (opposite l) place → IsTrueAt es other base → Leans seen (seen_at old base) place → IsHeld seen worked l other
held_on n es old seen worked place base l other trail before follows within at up leans = λ i lt is.
    let same = at_place n es seen (opposite l) place i trail follows at (omega (arith, before.size, follows.size)) is in
    let lit : seen_at old base ≡ other = before.same base some_entry up.within ∙ up.there some_entry in
    record { place = leans.place; within = leans.within; there = leans.there ∙ lit; lean = omega (arith, leans.lean) }

pub leans_push : (seen : List Seen) (s : Seen) → Leans (seen ++ s ∷ []) s.lit s.lean
leans_push seen s = let last = get_or_push seen s no_seen (length seen) refl in record {
  place = length seen;
  within = omega (arith, length_push seen s);
  there = ap (λ (x : Seen). x.lit) last;
  lean = omega (arith, ap (λ (x : Seen). x.lean) last);
}

pub leans_set : (seen : List Seen) (base place : ℕ) (s : Seen) → base < length seen → s.lit ≡ seen_at seen base → s.lean ≤ place → Leans (set seen base s) (seen_at seen base) place
leans_set seen base place s lt same lean =
    let item = get_or-set_same seen base s no_seen lt in
    record { place = base; within = omega (arith, length-set seen base s); there = ap (λ (x : Seen). x.lit) item ∙ same; lean = omega (arith, lean, ap (λ (x : Seen). x.lean) item) }

-- one literal more was seen that stands on the trail
pub sees_more : (es : List Entry) (seen : List Seen) (place : ℕ) (one : Seen) → length seen ≡ place → place < length es → IfSome (slice_get es place) (λ e. one.lit ≡ e.lit) → ((i : ℕ) (d : Entry) → i < place → seen_at seen i ≡ (get_or es i d).lit) → (i : ℕ) (d : Entry) → i < place + 1 → seen_at (seen ++ one ∷ []) i ≡ (get_or es i d).lit
sees_more es seen place one size below at same i d lt = elim (cases_lt i place) [
  | inl before ↦ ap (λ (x : Seen). x.lit) (get_or_append_left seen (one ∷ []) no_seen i (omega (arith, size))) ∙ same i d before
  | inr ge ↦ (
      let here : i ≡ place = omega arith in
      let lit : one.lit ≡ (get_or es place d).lit = rw (slice_get-get_or es place d below) at at in
      rw here (ap (λ (x : Seen). x.lit) (get_or_push seen one no_seen place size) ∙ lit))
]

-- one place more agrees
pub agrees_more : (n : ℕ) (es : List Entry) (seen : List Seen) (place : ℕ) (one : Seen) (l : Literal) → IsTrail n es → place < length es → place < length seen → one ≡ get_or seen place one → IfSome (slice_get es place) (λ e. l ≡ e.lit) → int_eq (number_of one.lit) (number_of l) ≡ true → ((i : ℕ) (d : Entry) → i < place → seen_at seen i ≡ (get_or es i d).lit) → (i : ℕ) (d : Entry) → i < place + 1 → seen_at seen i ≡ (get_or es i d).lit
agrees_more n es seen place one l trail below below' is at same h i d lt = elim (cases_lt i place) [
  | inl before ↦ h i d before
  | inr ge ↦ (
      let here : i ≡ place = omega arith in
      let lit : l ≡ (get_or es place d).lit = rw (slice_get-get_or es place d below) at at in
      let low : 1 ≤ l.variable = rw lit ((trail.in_range place d below).0) in
      let equal : one.lit ≡ l = same_number one.lit l low same in
      let item : get_or seen place no_seen ≡ one = get_or_default seen place no_seen one below' ∙ sym is in
      rw here (ap (λ (s : Seen). s.lit) item ∙ equal ∙ lit))
]
