-- one watch after the other is walked over
use Rattle.std.proofs.Common.{◌≡◌, ◌≢◌, ℕ, zero, suc, ◌+◌, ◌-◌, ◌*◌, ◌<◌, ◌≤◌, true, false, List, [], ◌∷◌, Option, Some, None, length, map, get_or, set, refl, sym, ap, ◌∙◌, subst, inl, inr, arith}
use Rattle.std.proofs.lemmas.Bool.{cases_lt, cases_eq}
use Rattle.std.proofs.lemmas.List.{length-set, length-map, get_or-set_same, get_or-set_other, get_or_default}
use Rattle.std.specs.Prelude.{IfSome, Contains, is_some, vec_capacity}
use Rattle.ec_clause.specs.Literal.{Literal, opposite}
use Rattle.ec_clause.specs.ClauseList.{ClauseList, clause_at}
use Rattle.ec_clause.specs.Truth.{Truth, literal_value}
use Rattle.ec_trail.specs.TrailList.{TrailList, truth_of, IsTrail}
use Rattle.ec_trail.proofs.BackTo.{some_entry}
use Rattle.ec_unit.specs.declared.chains.Chain.{Chain}
use Rattle.ec_unit.specs.declared.chains.Cell.{Cell}
use Rattle.ec_unit.specs.declared.seen.Seen.{Seen}
use Rattle.ec_unit.specs.declared.table.Table.{Table}
use Rattle.ec_unit.specs.declared.visit.Walk.{Walk}
use Rattle.ec_unit.specs.Settling.{IsFalseAt}
use Rattle.ec_unit.specs.Watching.{IsWatched, both, watched_at}
use Rattle.ec_unit.specs.Chained.{index_of, no_cell, no_chain, chain_at, lit_at, next_at, IsOn, IsBehind, Unlinks}
use Rattle.ec_unit.specs.Leaning.{Follows, Grows, Leans, IsHeld, AreHeld, AreOf, seen_at, no_seen}
use Rattle.ec_unit.specs.Working.{IsWorking, AreChained, watched_of, cell_lit}
use Rattle.ec_unit.specs.Visiting.{IsVisiting, IsOther}
use Rattle.ec_unit.proofs.Places.{true_from, false_from_true, opposite_twice}
use Rattle.ec_unit.proofs.Growing.{are_held_more, leans_more, held_none}
use Rattle.ec_unit.proofs.Chaining.{index_apart, index_below, none_ahead}
use Rattle.ec_unit.proofs.Unlinking.{has_left, moved_at, behind_moved}

-- what is seen of the cells
watch_lit : (cells : List Cell) (i : ℕ) → get_or (map cell_lit cells) i None ≡ lit_at cells i
watch_lit [] i = refl
watch_lit (x ∷ xs) zero = refl
watch_lit (x ∷ xs) (suc i) = watch_lit xs i

pub watched_is : (t : Table) (number : ℕ) → watched_at (watched_of t) number ≡ both (lit_at t.chains.cells.items (2 * (number - 1))) (lit_at t.chains.cells.items (2 * (number - 1) + 1))
watched_is t number =
    ap (λ o. both o (get_or (map cell_lit t.chains.cells.items) (2 * (number - 1) + 1) None)) (watch_lit t.chains.cells.items (2 * (number - 1)))
    ∙ ap (both (lit_at t.chains.cells.items (2 * (number - 1)))) (watch_lit t.chains.cells.items (2 * (number - 1) + 1))

pub pair_parts : (lits : List Literal) (o p : Option Literal) (k l : Literal) → o ≡ Some k → p ≡ Some l → IsWatched lits (both o p) → Contains lits k × Contains lits l × (k ≢ l)
pair_parts lits o p k l e f h = rw (e, f) at h

pub pair_make : (lits : List Literal) (o p : Option Literal) (k l : Literal) → o ≡ Some k → p ≡ Some l → Contains lits k → Contains lits l → k ≢ l → IsWatched lits (both o p)
pair_make lits o p k l e f a b ne = rw (e, f) (a, b, ne)

-- each watch has one twin
pub twin_one : (n m c d e f : ℕ) → AreOf n c d → AreOf m e f → e ≡ c → f ≡ d
twin_one n m c d e f p q same = elim p.1 [
  | inl a ↦ elim q.1 [
    | inl b ↦ omega (arith, p.0, q.0, a.0, a.1, b.0, b.1)
    | inr b ↦ absurd (omega (arith, p.0, q.0, a.0, a.1, b.0, b.1))
  ]
  | inr a ↦ elim q.1 [
    | inl b ↦ absurd (omega (arith, p.0, q.0, a.0, a.1, b.0, b.1))
    | inr b ↦ omega (arith, p.0, q.0, a.0, a.1, b.0, b.1)
  ]
]

pub twin_swap : (n c d : ℕ) → AreOf n c d → AreOf n d c
twin_swap n c d p = (p.0, elim p.1 [ inl a ↦ inr a | inr a ↦ inl a ])

twin_apart : (n c d : ℕ) → AreOf n c d → d ≢ c
twin_apart n c d p e = elim p.1 [
  | inl a ↦ omega (arith, a.0, a.1)
  | inr a ↦ omega (arith, a.0, a.1)
]

pub twin_number : (n c d upto : ℕ) → AreOf n c d → c < 2 * upto → n ≤ upto
twin_number n c d upto p lt = elim p.1 [
  | inl a ↦ omega (arith, p.0, a.0, a.1)
  | inr a ↦ omega (arith, p.0, a.0, a.1)
]

value_clash : (p : Truth) (l : Literal) → literal_value p l ≡ Some true → literal_value p l ≡ Some false → ⊥
value_clash p l t f = (let e : Some true ≡ Some false = sym t ∙ f in cc)

some_same : {A : Type 0} {a b : A} → Some a ≡ Some b → a ≡ b
some_same e = cc

-- a seen literal is true
pub seen_true : (t : TrailList) (seen : List Seen) (i : ℕ) (l : Literal) → IsTrail t.variables t.entries → Follows seen t.entries → i < length seen → seen_at seen i ≡ l → literal_value (truth_of t) l ≡ Some true
seen_true t seen i l trail follows lt is =
    let below : i < length t.entries = omega (arith, follows.size) in
    true_from t.variables t.entries l i some_entry trail below (sym (follows.same i some_entry below) ∙ is)

seen_false : (t : TrailList) (seen : List Seen) (i : ℕ) (l : Literal) → IsTrail t.variables t.entries → Follows seen t.entries → i < length seen → seen_at seen i ≡ opposite l → literal_value (truth_of t) l ≡ Some false
seen_false t seen i l trail follows lt is = false_from_true (truth_of t) l (seen_true t seen i (opposite l) trail follows lt is)

-- the trail grows while it is worked
pub working_more : (c : ClauseList) (t u : Table) (old new : TrailList) → IsWorking c t old → u ≡ record t { seen = u.seen } → vec_capacity u.seen ≡ vec_capacity t.seen → Grows t.seen.items u.seen.items → Follows u.seen.items new.entries → new.variables ≡ old.variables → IsWorking c u new
working_more c t u old new w same room grows follows variables =
    subst (λ (x : Table). IsWorking c x new) (sym same) (record {
      variables = w.variables ∙ sym variables;
      list = w.list ∙ sym variables;
      room = omega (arith, w.room, room);
      watches = w.watches;
      short = w.short;
      chained = w.chained;
      follows = follows;
      worked = omega (arith, w.worked, grows.longer);
      held = are_held_more t.chains.cells.items t.chained t.seen.items u.seen.items t.worked t.worked w.worked (omega arith) grows w.held;
    })

-- so it does while a walk stands
pub visiting_more : (c : ClauseList) (t u : Table) (old new : TrailList) (walk : Walk) → IsVisiting c t old walk None → u ≡ record t { seen = u.seen; chains = record t.chains { starts = u.chains.starts } } → vec_capacity u.seen ≡ vec_capacity t.seen → Grows t.seen.items u.seen.items → Follows u.seen.items new.entries → new.variables ≡ old.variables → IsVisiting c u new walk None
visiting_more c t u old new walk v same room grows follows variables =
    subst (λ (x : Table). IsVisiting c x new walk None) (sym same) (record {
      working = record {
        variables = v.working.variables ∙ sym variables;
        list = v.working.list ∙ sym variables;
        room = omega (arith, v.working.room, room);
        watches = v.working.watches;
        short = v.working.short;
        chained = v.working.chained;
        follows = follows;
        worked = omega (arith, v.working.worked, grows.longer);
        held = are_held_more t.chains.cells.items t.chained t.seen.items u.seen.items t.worked t.worked v.working.worked (omega arith) grows v.working.held;
      };
      all = v.all;
      here = omega (arith, v.here, grows.longer);
      range = v.range;
      is_false = grows.lits t.worked v.here ∙ v.is_false;
      walking = v.walking;
      ahead = v.ahead;
      behind = v.behind;
      kept = λ none n a b l of_ below is rest other. leans_more t.seen.items u.seen.items l t.worked grows (v.kept none n a b l of_ below is rest other);
      found = tt;
    })

-- the watches are on the literals that they were on
working_lits : (c : ClauseList) (t u : Table) (trail : TrailList) → IsWorking c t trail → u ≡ record t { chains = u.chains } → length u.chains.cells.items ≡ length t.chains.cells.items → ((i : ℕ) → lit_at u.chains.cells.items i ≡ lit_at t.chains.cells.items i) → IsWorking c u trail
working_lits c t u trail w same size lits =
    subst (λ (x : Table). IsWorking c x trail) (sym same) (record {
      variables = w.variables;
      list = w.list;
      room = w.room;
      watches = record {
        variables = w.watches.variables;
        count = length-map u.chains.cells.items cell_lit ∙ size ∙ sym (length-map t.chains.cells.items cell_lit) ∙ w.watches.count;
        each = λ n low high.
            let new = watched_is (record t { chains = u.chains }) n in
            let pair : watched_at (watched_of (record t { chains = u.chains })) n ≡ watched_at (watched_of t) n = new ∙ ap (λ o. both o (lit_at u.chains.cells.items (2 * (n - 1) + 1))) (lits (2 * (n - 1))) ∙ ap (both (lit_at t.chains.cells.items (2 * (n - 1)))) (lits (2 * (n - 1) + 1)) ∙ sym (watched_is t n) in
            subst (IsWatched (clause_at c n)) (sym pair) (w.watches.each n low high);
      };
      short = record {
        each = λ n low high none. w.short.each n low high (sym (lits (2 * (n - 1))) ∙ none);
        together = λ n low high. ap is_some (lits (2 * (n - 1))) ∙ w.short.together n low high ∙ ap is_some (sym (lits (2 * (n - 1) + 1)));
        in_range = w.short.in_range;
      };
      chained = w.chained;
      follows = w.follows;
      worked = w.worked;
      held = λ n a b k l of_ below is_k is_l. w.held n a b k l of_ below (sym (lits a) ∙ is_k) (sym (lits b) ∙ is_l);
    })

-- a watch of the literal is in its chain
on_chain : (c : ClauseList) (t : Table) (trail : TrailList) (walk : Walk) (conflict : Option ℕ) (v : IsVisiting c t trail walk conflict) (n e f : ℕ) → AreOf n e f → n ≤ t.chained → lit_at t.chains.cells.items e ≡ Some walk.lit → v.walking.on e ≡ true
on_chain c t trail walk conflict v n e f of_ below is =
    let lt : e < 2 * t.chained = elim of_.1 [ inl q ↦ omega (arith, q.0, of_.0, below) | inr q ↦ omega (arith, q.1, of_.0, below) ] in
    elim (v.walking.all e walk.lit lt is) [
      | inl o ↦ o
      | inr r ↦ absurd (none_ahead t.variables t.chains.chains.items t.chains.cells.items (2 * t.chained) no_seen.lit 0 v.walking e r)
    ]

-- the next watch stays on its literal
pub visiting_stay : (c : ClauseList) (t : Table) (trail : TrailList) (walk : Walk) (conflict found : Option ℕ) (head left : ℕ) → IsVisiting c t trail walk conflict → head ≡ next_at t.chains.cells.items walk.head → walk.left ≡ left + 1 → (found ≡ None → conflict ≡ None) → (found ≡ None → (n b : ℕ) (l : Literal) → AreOf n walk.head b → lit_at t.chains.cells.items b ≡ Some l → Leans t.seen.items l t.worked) → IfSome found (IsFalseAt c (truth_of trail)) → IsVisiting c t trail (record { lit = walk.lit; last = Some walk.head; head = head; left = left }) found
visiting_stay c t trail walk conflict found head left v is_head one before here is_found =
    let w = v.walking in
    let a = walk.lit in
    let o = v.ahead (omega (arith, one)) in
    let chain = w.each a v.range in
    record {
      working = v.working;
      all = v.all;
      here = v.here;
      range = v.range;
      is_false = v.is_false;
      walking = w;
      ahead = λ some. (
          let n = chain.next walk.head o.0 (omega (arith, o.1, one)) in
          (subst (IsOn t.chains.cells.items w.on a) (sym is_head) n.0, omega (arith, ap w.rank is_head, n.1, o.1, one)));
      behind = (o.0, omega (arith, o.1, one), λ some. sym is_head);
      kept = λ none n e f l of_ below is_e le is_f. elim (cases_eq e walk.head) [
        | inl same ↦ here none n f l (subst (λ i. AreOf n i f) same of_) is_f
        | inr ne ↦ (
            let on = on_chain c t trail walk conflict v n e f of_ below is_e in
            let ne' : w.rank e ≢ w.rank walk.head = λ r. ne (chain.apart e walk.head (on, is_e) o.0 r) in
            v.kept (before none) n e f l of_ below is_e (omega (arith, le, ne', o.1, one)) is_f)
      ];
      found = is_found;
    }

some_set : (a : Option Literal) (x y : Literal) (o : Option Literal) → o ≡ Some x → a ≡ Some y → is_some a ≡ is_some o
some_set a x y o e f = ap is_some f ∙ ap is_some (sym e)

-- the next watch moves to a literal that is not false
pub visiting_move : (c : ClauseList) (t u : Table) (trail : TrailList) (walk : Walk) (chains' : List Chain) (cells' : List Cell) (chain : Chain) (cell : Cell) (number twin : ℕ) (x other : Literal) (next left' : ℕ) → IsTrail trail.variables trail.entries → IsVisiting c t trail walk None → u ≡ record t { chains = u.chains } → next ≡ next_at t.chains.cells.items walk.head → walk.left ≡ left' + 1 → Unlinks walk.last t.chains.chains.items t.chains.cells.items walk.lit walk.head chains' cells' → chain ≡ record { head = walk.head; len = (chain_at chains' x).len + 1 } → cell ≡ record { lit = Some x; next = (chain_at chains' x).head } → u.chains.chains.items ≡ set chains' (index_of x) chain → u.chains.cells.items ≡ set cells' walk.head cell → x.variable ≤ t.variables → AreOf number walk.head twin → lit_at t.chains.cells.items twin ≡ Some other → IsOther (truth_of trail) (clause_at c number) other x → IsVisiting c u trail (record { lit = walk.lit; last = walk.last; head = next; left = left' }) None
visiting_move c t u trail walk chains' cells' chain cell number twin x other next left' good v same is_next one unlinks is_chain is_cell chains cells range of_place is_other to =
    let place = walk.head in
    let a = walk.lit in
    let w = v.walking in
    let old = t.chains.cells.items in
    let new = u.chains.cells.items in
    let o = v.ahead (omega (arith, one)) in
    let at = o.0.1 in
    let below' = w.on_below place o.0.0 in
    let whole = w.each a v.range in
    let behind = subst (λ n. IsBehind w.on w.rank t.chains.chains.items old a walk.last place n) (sym o.1) v.behind in
    let has = has_left t.chains.chains.items chains' old cells' w.on w.rank a walk.last place whole (λ c is. omega (arith, w.on_below c is, w.fits)) o.0 behind unlinks in
    let fits : place < length cells' = omega (arith, below', w.fits, has.size) in
    let p = truth_of trail in
    let at_new : lit_at new place ≡ Some x = ap (λ (xs : List Cell). lit_at xs place) cells ∙ ap (λ (y : Cell). y.lit) (get_or-set_same cells' place cell no_cell fits ∙ is_cell) in
    let else_new : (i : ℕ) → i ≢ place → lit_at new i ≡ lit_at old i = λ i ne. ap (λ (xs : List Cell). lit_at xs i) cells ∙ ap (λ (y : Cell). y.lit) (get_or-set_other cells' place i cell no_cell ne) ∙ has.lits i in
    let next_new : (i : ℕ) → i ≢ place → next_at new i ≡ next_at cells' i = λ i ne. ap (λ (xs : List Cell). next_at xs i) cells ∙ ap (λ (y : Cell). y.next) (get_or-set_other cells' place i cell no_cell ne) in
    let size : length new ≡ length old = ap length cells ∙ length-set cells' place cell ∙ has.size in
    let twin_ne = twin_apart number place twin of_place in
    let twin_new : lit_at new twin ≡ Some other = else_new twin twin_ne ∙ is_other in
    let high : number ≤ length c.clauses = omega (arith, twin_number number place twin t.chained of_place below', v.all) in
    let lits = clause_at c number in
    let a_false : literal_value p a ≡ Some false = seen_false trail t.seen.items t.worked a good v.working.follows v.here v.is_false in
    let pair = subst (IsWatched lits) (watched_is t number) (v.working.watches.each number of_place.0 high) in
    let parts : Contains lits other × (a ≢ other) = elim of_place.1 [
      | inl q ↦ (
          let r = pair_parts lits (lit_at old (2 * (number - 1))) (lit_at old (2 * (number - 1) + 1)) a other (ap (lit_at old) (sym q.0) ∙ at) (ap (lit_at old) (sym q.1) ∙ is_other) pair in
          (r.1, r.2))
      | inr q ↦ (
          let r = pair_parts lits (lit_at old (2 * (number - 1))) (lit_at old (2 * (number - 1) + 1)) other a (ap (lit_at old) (sym q.0) ∙ is_other) (ap (lit_at old) (sym q.1) ∙ at) pair in
          (r.0, λ e. r.2 (sym e)))
    ] in
    let some_same_new : (i : ℕ) → is_some (lit_at new i) ≡ is_some (lit_at old i) = λ i. elim (cases_eq i place) [
      | inl e ↦ ap (λ j. is_some (lit_at new j)) e ∙ ap is_some at_new ∙ ap is_some (sym at) ∙ ap (λ j. is_some (lit_at old j)) (sym e)
      | inr ne ↦ ap is_some (else_new i ne)
    ] in
    let x_not_a : x ≢ a = λ e. to.not_false (ap (literal_value p) e ∙ a_false) in
    let moved = moved_at t.variables t.chains.chains.items chains' u.chains.chains.items old cells' new (2 * t.chained) a x place chain cell w v.range range o.0 has is_chain is_cell chains cells in
    let z = moved.0 in
    let far : index_of a ≢ index_of x = λ e. x_not_a (index_apart x a (sym e)) in
    let index : index_of a < length t.chains.chains.items = omega (arith, index_below t.variables a v.range, w.size) in
    let less : chain_at u.chains.chains.items a ≡ record { head = has.head'; len = (chain_at t.chains.chains.items a).len - 1 } =
    ap (λ (xs : List Chain). chain_at xs a) chains ∙ get_or-set_other chains' (index_of x) (index_of a) chain no_chain far ∙ ap (λ (xs : List Chain). chain_at xs a) has.is ∙ get_or-set_same t.chains.chains.items (index_of a) _ no_chain index in
    let shorter : (chain_at u.chains.chains.items a).len + 1 ≡ (chain_at t.chains.chains.items a).len = omega (arith, ap (λ (y : Chain). y.len) less, whole.below place o.0) in
    let linked : (i : ℕ) → IsOn old w.on a i → i ≢ place → 0 < w.rank i → next_at old i ≡ place → next_at new i ≡ next = λ i is ne pos e. next_new i ne ∙ has.jump i is pos e ∙ sym is_next in
    subst (λ (y : Table). IsVisiting c y trail (record { lit = a; last = walk.last; head = next; left = left' }) None) (sym same) (record {
      working = record {
        variables = v.working.variables;
        list = v.working.list;
        room = v.working.room;
        watches = record {
          variables = v.working.watches.variables;
          count = length-map new cell_lit ∙ size ∙ sym (length-map old cell_lit) ∙ v.working.watches.count;
          each = λ n low n_high.
              let is = watched_is (record t { chains = u.chains }) n in
              subst (IsWatched (clause_at c n)) (sym is) (elim (cases_eq n number) [
                | inl e ↦ subst (λ m. IsWatched (clause_at c m) (both (lit_at new (2 * (m - 1))) (lit_at new (2 * (m - 1) + 1)))) (sym e) (elim of_place.1 [
                  | inl q ↦ pair_make lits (lit_at new (2 * (number - 1))) (lit_at new (2 * (number - 1) + 1)) x other (ap (lit_at new) (sym q.0) ∙ at_new) (ap (lit_at new) (sym q.1) ∙ twin_new) to.of_clause parts.0 to.differs
                  | inr q ↦ pair_make lits (lit_at new (2 * (number - 1))) (lit_at new (2 * (number - 1) + 1)) other x (ap (lit_at new) (sym q.0) ∙ twin_new) (ap (lit_at new) (sym q.1) ∙ at_new) parts.0 to.of_clause (λ e'. to.differs (sym e'))
                ])
                | inr ne ↦ (
                    let far : (2 * (n - 1) ≢ place) × (2 * (n - 1) + 1 ≢ place) = elim of_place.1 [
                      | inl q ↦ (λ e. omega (arith, q.0, of_place.0, low, ne, e), λ e. omega (arith, q.0, of_place.0, low, ne, e))
                      | inr q ↦ (λ e. omega (arith, q.1, of_place.0, low, ne, e), λ e. omega (arith, q.1, of_place.0, low, ne, e))
                    ] in
                    let was = subst (IsWatched (clause_at c n)) (watched_is t n) (v.working.watches.each n low n_high) in
                    subst (λ o. IsWatched (clause_at c n) (both o (lit_at new (2 * (n - 1) + 1)))) (sym (else_new (2 * (n - 1)) far.0)) (subst (λ o. IsWatched (clause_at c n) (both (lit_at old (2 * (n - 1))) o)) (sym (else_new (2 * (n - 1) + 1) far.1)) was))
              ]);
        };
        short = record {
          each = λ n low n_high none. elim (cases_eq (2 * (n - 1)) place) [
            | inl e ↦ absurd (let clash : Some x ≡ None = sym at_new ∙ ap (lit_at new) (sym e) ∙ none in cc)
            | inr ne ↦ v.working.short.each n low n_high (sym (else_new (2 * (n - 1)) ne) ∙ none)
          ];
          together = λ n low n_high. some_same_new (2 * (n - 1)) ∙ v.working.short.together n low n_high ∙ sym (some_same_new (2 * (n - 1) + 1));
          in_range = v.working.short.in_range;
        };
        chained = v.working.chained;
        follows = v.working.follows;
        worked = v.working.worked;
        held = λ n e f k l of_ below is_k is_l. elim (cases_eq e place) [
          | inl here ↦ (
              let there : f ≡ twin = twin_one number n place twin e f of_place of_ here in
              let is_x : x ≡ k = some_same (sym at_new ∙ ap (lit_at new) (sym here) ∙ is_k) in
              subst (λ y. IsHeld t.seen.items t.worked y l) is_x (held_none trail.variables trail.entries t.seen.items t.worked x l good v.working.follows v.working.worked (λ h. to.not_false (false_from_true p x h))))
          | inr far ↦ elim (cases_eq f place) [
            | inl here ↦ (
                let there : e ≡ twin = twin_one number n place twin f e of_place (twin_swap n e f of_) here in
                let is_k' : other ≡ k = some_same (sym twin_new ∙ ap (lit_at new) (sym there) ∙ is_k) in
                subst (λ y. IsHeld t.seen.items t.worked y l) is_k' (λ i lt is. absurd (
                let leans = v.working.held number twin place other a (twin_swap number place twin of_place) (twin_number number place twin t.chained of_place below') is_other at i lt is in
                value_clash p a (seen_true trail t.seen.items leans.place a good v.working.follows leans.within leans.there) a_false)))
            | inr off ↦ v.working.held n e f k l of_ below (sym (else_new e far) ∙ is_k) (sym (else_new f off) ∙ is_l)
          ]
        ];
      };
      all = v.all;
      here = v.here;
      range = v.range;
      is_false = v.is_false;
      walking = z;
      ahead = λ some. (
          let n = whole.next place o.0 (omega (arith, o.1, one)) in
          let ne : next ≢ place = λ e. omega (arith, ap w.rank (sym is_next ∙ e), n.1) in
          let on = subst (IsOn old w.on a) (sym is_next) n.0 in
          let rank : w.rank next + 1 ≡ w.rank place = omega (arith, ap w.rank is_next, n.1) in
          ((moved.1 next ne ∙ on.0, else_new next ne ∙ on.1), omega (arith, moved.2 next ne (omega (arith, rank)), rank, o.1, one)));
      behind = behind_moved w.on z.on w.rank z.rank t.chains.chains.items u.chains.chains.items old new a walk.last place next left' (subst (IsBehind w.on w.rank t.chains.chains.items old a walk.last place) one v.behind) (omega (arith, o.1, one)) moved.1 else_new moved.3 shorter linked;
      kept = λ none n e f l of_ below is_e le is_f. elim (cases_eq e place) [
        | inl here ↦ absurd (x_not_a (some_same (sym at_new ∙ ap (lit_at new) (sym here) ∙ is_e)))
        | inr far_e ↦ elim (cases_eq f place) [
          | inl here ↦ absurd (
              let there : e ≡ twin = twin_one number n place twin f e of_place (twin_swap n e f of_) here in
              parts.1 (some_same (sym (sym twin_new ∙ ap (lit_at new) (sym there) ∙ is_e))))
          | inr off ↦ (
              let was = sym (else_new e far_e) ∙ is_e in
              let on = on_chain c t trail walk None v n e f of_ below was in
              let ne : w.rank e ≢ w.rank place = λ r. far_e (whole.apart e place (on, was) o.0 r) in
              let more : walk.left ≤ w.rank e = elim (cases_lt (w.rank place) (w.rank e)) [
                | inl lt ↦ omega (arith, lt, o.1)
                | inr ge ↦ absurd (omega (arith, moved.2 e far_e (omega arith), le, ge, ne, o.1, one))
              ] in
              v.kept none n e f l of_ below was more (sym (else_new f off) ∙ is_f))
        ]
      ];
      found = tt;
    })

-- a walk begins
pub visiting_start : (c : ClauseList) (t : Table) (trail : TrailList) (walk : Walk) → IsWorking c t trail → AreChained t → t.chained ≡ length c.clauses → t.worked < length t.seen.items → seen_at t.seen.items t.worked ≡ opposite walk.lit → walk.lit.variable ≤ t.variables → walk.last ≡ None → walk.head ≡ (chain_at t.chains.chains.items walk.lit).head → walk.left ≡ (chain_at t.chains.chains.items walk.lit).len → IsVisiting c t trail walk None
visiting_start c t trail walk working w all here is_false range last head left =
    let a = walk.lit in
    let whole = w.each a range in
    record {
      working = working;
      all = all;
      here = here;
      range = range;
      is_false = is_false;
      walking = w;
      ahead = λ some. (let f = whole.first (omega (arith, left)) in (subst (IsOn t.chains.cells.items w.on a) (sym head) f.0, omega (arith, ap w.rank head, f.1, left)));
      behind = rw last left;
      kept = λ none n e f l of_ below is_e le is_f. absurd (
          let lt : e < 2 * t.chained = elim of_.1 [ inl q ↦ omega (arith, q.0, of_.0, below) | inr q ↦ omega (arith, q.1, of_.0, below) ] in
          elim (w.all e a lt is_e) [
            | inl o ↦ omega (arith, whole.below e (o, is_e), le, left)
            | inr r ↦ none_ahead t.variables t.chains.chains.items t.chains.cells.items (2 * t.chained) no_seen.lit 0 w e r
          ]);
      found = tt;
    }

-- a walk ends
pub visited_held : (c : ClauseList) (t : Table) (trail : TrailList) (walk : Walk) → IsVisiting c t trail walk None → walk.left ≡ 0 → AreHeld t.chains.cells.items t.chained t.seen.items (t.worked + 1)
visited_held c t trail walk v none = λ n e f k l of_ below is_k is_l i lt is. elim (cases_lt i t.worked) [
  | inl before ↦ v.working.held n e f k l of_ below is_k is_l i before is
  | inr after ↦ (
      let here : i ≡ t.worked = omega arith in
      let same : opposite walk.lit ≡ opposite k = sym v.is_false ∙ ap (seen_at t.seen.items) (sym here) ∙ is in
      let lit : k ≡ walk.lit = sym (opposite_twice k) ∙ ap opposite (sym same) ∙ opposite_twice walk.lit in
      rw here (v.kept refl n e f l of_ below (is_k ∙ ap Some lit) (omega (arith, none)) is_l))
]

pub next_is : (cells : List Cell) (place : ℕ) (x : Cell) → place < length cells → x ≡ get_or cells place x → x.next ≡ next_at cells place
next_is cells place x lt is = ap (λ (y : Cell). y.next) (is ∙ get_or_default cells place x no_cell lt)

pub lit_is : (cells : List Cell) (place : ℕ) (x : Cell) → place < length cells → x ≡ get_or cells place x → x.lit ≡ lit_at cells place
lit_is cells place x lt is = ap (λ (y : Cell). y.lit) (is ∙ get_or_default cells place x no_cell lt)

pub head_fits : (c : ClauseList) (t : Table) (trail : TrailList) (walk : Walk) (conflict : Option ℕ) → IsVisiting c t trail walk conflict → 0 < walk.left → walk.head < length t.chains.cells.items
head_fits c t trail walk conflict v more =
    omega (arith, v.walking.on_below walk.head (v.ahead more).0.0, v.walking.fits)

pub twin_fits : (c : ClauseList) (t : Table) (trail : TrailList) (walk : Walk) (conflict : Option ℕ) (number twin : ℕ) → IsVisiting c t trail walk conflict → 0 < walk.left → AreOf number walk.head twin → twin < length t.chains.cells.items
twin_fits c t trail walk conflict number twin v more of_ =
    let below = v.walking.on_below walk.head (v.ahead more).0.0 in
    elim of_.1 [
      | inl q ↦ omega (arith, q.0, q.1, of_.0, below, v.working.chained, sym (length-map t.chains.cells.items cell_lit) ∙ v.working.watches.count)
      | inr q ↦ omega (arith, q.0, q.1, of_.0, below, v.working.chained, sym (length-map t.chains.cells.items cell_lit) ∙ v.working.watches.count)
    ]

-- the watch before it, if there is one, is one of the list
pub last_fits : (c : ClauseList) (t : Table) (trail : TrailList) (walk : Walk) (conflict last : Option ℕ) → IsVisiting c t trail walk conflict → walk.last ≡ last → IfSome last (λ i. i < length t.chains.cells.items)
last_fits c t trail walk conflict None v is = tt
last_fits c t trail walk conflict (Some p) v is =
    let b = subst (λ o. IsBehind v.walking.on v.walking.rank t.chains.chains.items t.chains.cells.items walk.lit o walk.head walk.left) is v.behind in
    omega (arith, v.walking.on_below p b.0.0, v.walking.fits)

-- the chain has a watch
pub chain_some : (c : ClauseList) (t : Table) (trail : TrailList) (walk : Walk) (conflict : Option ℕ) → IsVisiting c t trail walk conflict → 0 < walk.left → 0 < (chain_at t.chains.chains.items walk.lit).len
chain_some c t trail walk conflict v more = omega (arith, (v.walking.each walk.lit v.range).below walk.head (v.ahead more).0)

pub twin_leans : (seen : List Seen) (cells : List Cell) (n m place twin b : ℕ) (other l : Literal) (worked : ℕ) → AreOf n place twin → AreOf m place b → lit_at cells twin ≡ Some other → lit_at cells b ≡ Some l → Leans seen other worked → Leans seen l worked
twin_leans seen cells n m place twin b other l worked of_ of' is is_l leans =
    let same = twin_one n m place twin place b of_ of' refl in
    subst (λ (x : Literal). Leans seen x worked) (some_same (sym is ∙ ap (lit_at cells) (sym same) ∙ is_l)) leans
