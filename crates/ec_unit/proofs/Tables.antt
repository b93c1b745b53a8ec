-- what a table keeps when clauses are added, and when a trail is settled
use Rattle.std.proofs.Common.{◌≡◌, ℕ, zero, suc, ◌+◌, ◌-◌, ◌*◌, ◌<◌, ◌≤◌, List, [], ◌∷◌, ◌++◌, None, length, get_or, replicate, refl, sym, ap, ◌∙◌, subst, inl, inr, arith}
use Rattle.std.proofs.lemmas.Bool.{cases_lt}
use Rattle.std.proofs.lemmas.List.{length-map, length-append, length_push, get_or_append_left, get_or-append_right, get_or_push}
use Rattle.std.specs.Prelude.{All, Contains, IfSome, is_some, slice_get, vec_capacity}
use Rattle.std.proofs.lemmas.Option.{slice_get-get_or}
use Rattle.ec_trail.proofs.BackTo.{some_entry}
use Rattle.ec_unit.proofs.Places.{opposite_twice}
use Rattle.ec_clause.specs.Literal.{Literal, opposite}
use Rattle.ec_clause.specs.ClauseList.{ClauseList, IsClause, clause_at}
use Rattle.ec_trail.specs.TrailList.{TrailList, IsTrail}
use Rattle.ec_unit.specs.declared.chains.Cell.{Cell}
use Rattle.ec_unit.specs.declared.seen.Seen.{Seen}
use Rattle.ec_unit.specs.declared.table.Table.{Table}
use Rattle.ec_unit.specs.Watching.{Watches, WatchesUpTo, IsWatched, both}
use Rattle.ec_unit.specs.Chained.{no_cell, no_chain, lit_at, IsWalking}
use Rattle.ec_unit.specs.Leaning.{Follows, Grows, IsHeld, AreHeld, no_seen, seen_at}
use Rattle.ec_unit.specs.Working.{IsTable, IsWorking, AreShort, AreChained, watched_of, cell_lit, cells_of, short_of, first_two_of}
use Rattle.ec_unit.proofs.Growing.{held_more}
use Rattle.ec_unit.proofs.Chaining.{walk_grow, walk_init}
use Rattle.ec_unit.proofs.Visits.{watched_is}
use Rattle.ec_unit.proofs.Enchains.{size_of}

-- a table of the clauses of a list
count_is : (c : ClauseList) (t : Table) (h : IsTable t) → Watches c (watched_of t) → h.count ≡ length c.clauses
count_is c t h w = omega (arith, h.pairs, sym (length-map t.chains.cells.items cell_lit) ∙ w.count)

pub working_from : (c : ClauseList) (t u : Table) (trail : TrailList) (mid : List Seen) → IsTable t → Watches c (watched_of t) → c.variables ≡ trail.variables → u ≡ record t { seen = u.seen; worked = u.worked } → vec_capacity u.seen ≡ vec_capacity t.seen → Follows u.seen.items trail.entries → Grows mid u.seen.items → u.worked ≤ length mid → ((k l : Literal) → IsHeld t.seen.items t.worked k l → IsHeld mid u.worked k l) → IsWorking c u trail
working_from c t u trail mid h w list same room follows grows within held =
    let count = count_is c t h w in
    subst (λ (x : Table). IsWorking c x trail) (sym same) (record {
      variables = w.variables ∙ list;
      list = list;
      room = omega (arith, h.room, room);
      watches = w;
      short = subst (λ n. AreShort t.chains.cells.items n t.short.items) count h.short;
      chained = omega (arith, h.chained, count);
      follows = follows;
      worked = omega (arith, within, grows.longer);
      held = λ n a b k l of_ below is_k is_l. held_more mid u.seen.items u.worked k l within grows (held k l (h.held n a b k l of_ below is_k is_l));
    })

pub table_from : (c : ClauseList) (t : Table) (trail : TrailList) → IsWorking c t trail → AreChained t → IsTable t
table_from c t trail w walking = record {
  room = w.room;
  count = length c.clauses;
  pairs = size_of c t trail w;
  short = w.short;
  chained = w.chained;
  walking = walking;
  worked = w.worked;
  held = w.held;
}

pub table_empty : (t : Table) → t.variables ≤ vec_capacity t.seen → t.chains.chains.items ≡ replicate (2 * t.variables + 2) no_chain → t.chains.cells.items ≡ [] → t.short.items ≡ [] → t.chained ≡ 0 → t.seen.items ≡ [] → t.worked ≡ 0 → IsTable t
table_empty t room chains cells short chained seen worked = record {
  room = room;
  count = 0;
  pairs = ap length cells;
  short = record {
    each = λ n low high none. absurd (omega arith);
    together = λ n low high. absurd (omega arith);
    in_range = λ k d lt. absurd (omega (arith, ap length short));
  };
  chained = omega (arith, chained);
  walking = subst (λ n. IsWalking t.variables t.chains.chains.items t.chains.cells.items (2 * n) no_seen.lit 0 0) (sym chained) (walk_init t.variables t.chains.chains.items t.chains.cells.items no_seen.lit 0 chains);
  worked = omega (arith, worked);
  held = λ n a b k l of_ below is_k is_l i lt is. absurd (omega (arith, worked));
}

pub watches_empty : (c : ClauseList) (t : Table) → t.variables ≡ c.variables → t.chains.cells.items ≡ [] → WatchesUpTo c 0 (watched_of t)
watches_empty c t variables cells = record {
  variables = variables;
  count = length-map t.chains.cells.items cell_lit ∙ ap length cells;
  each = λ n low high. absurd (omega arith);
}

-- the two places behind the others
old_lit : (cells more : List Cell) (i : ℕ) → i < length cells → lit_at (cells ++ more) i ≡ lit_at cells i
old_lit cells more i lt = ap (λ (x : Cell). x.lit) (get_or_append_left cells more no_cell i lt)

first_lit : (cells : List Cell) (lits : List Literal) (i : ℕ) → length cells ≡ i → lit_at (cells ++ cells_of lits) i ≡ (first_two_of lits).0
first_lit cells lits i at = ap (λ (x : Cell). x.lit) (get_or-append_right cells (cells_of lits) i i no_cell at (omega arith) ∙ ap (λ k. get_or (cells_of lits) k no_cell) (let z : i - i ≡ 0 = omega arith in z))

second_lit : (cells : List Cell) (lits : List Literal) (i : ℕ) → length cells ≡ i → lit_at (cells ++ cells_of lits) (i + 1) ≡ (first_two_of lits).1
second_lit cells lits i at = ap (λ (x : Cell). x.lit) (get_or-append_right cells (cells_of lits) i (i + 1) no_cell at (omega arith) ∙ ap (λ k. get_or (cells_of lits) k no_cell) (let z : i + 1 - i ≡ 1 = omega arith in z))

short_has : (short : List ℕ) (lits : List Literal) (number : ℕ) → (first_two_of lits).0 ≡ None → Contains (short ++ short_of lits number) number
short_has short [] number none = (length short, omega (arith, length_push short number), get_or_push short number number (length short) refl)
short_has short (k ∷ []) number none = (length short, omega (arith, length_push short number), get_or_push short number number (length short) refl)
short_has short (k ∷ l ∷ ls) number none = cc

two_alike : (lits : List Literal) → is_some (first_two_of lits).0 ≡ is_some (first_two_of lits).1
two_alike [] = refl
two_alike (k ∷ []) = refl
two_alike (k ∷ l ∷ ls) = refl

short_keeps : (short more : List ℕ) (n : ℕ) → Contains short n → Contains (short ++ more) n
short_keeps short more n there = (there.0, omega (arith, there.1, length-append short more), get_or_append_left short more n there.0 there.1 ∙ there.2)

short_one : (lits : List Literal) (number k d : ℕ) → k < length (short_of lits number) → get_or (short_of lits number) k d ≡ number
short_one [] number zero d lt = refl
short_one [] number (suc k) d lt = absurd (omega arith)
short_one (x ∷ []) number zero d lt = refl
short_one (x ∷ []) number (suc k) d lt = absurd (omega arith)
short_one (x ∷ y ∷ ls) number k d lt = absurd (omega arith)

short_range : (short : List ℕ) (lits : List Literal) (number count : ℕ) → 1 ≤ number → count ≤ number → All (λ n. (1 ≤ n) × (n ≤ count)) short → All (λ n. (1 ≤ n) × (n ≤ number)) (short ++ short_of lits number)
short_range short lits number count low less h = λ k d lt. elim (cases_lt k (length short)) [
  | inl l ↦ (
      let is = get_or_append_left short (short_of lits number) d k l in
      let r = h k d l in
      (omega (arith, is, r.0), omega (arith, is, r.1)))
  | inr g ↦ (
      let is = get_or-append_right short (short_of lits number) (length short) k d refl (omega arith) in
      let one = short_one lits number (k - length short) d (omega (arith, lt, length-append short (short_of lits number))) in
      (omega (arith, is, one), omega (arith, is, one)))
]

-- a clause more is watched over
pub table_add : (t u : Table) (lits : List Literal) (number : ℕ) → IsTable t → 1 ≤ number → length t.chains.cells.items ≡ 2 * (number - 1) → u.variables ≡ t.variables → u.chains.chains.items ≡ t.chains.chains.items → u.chained ≡ t.chained → u.seen ≡ t.seen → u.worked ≡ t.worked → u.chains.cells.items ≡ t.chains.cells.items ++ cells_of lits → u.short.items ≡ t.short.items ++ short_of lits number → IsTable u
table_add t u lits number h low size variables chains chained seen worked cells short =
    let old = t.chains.cells.items in
    let count : h.count + 1 ≡ number = omega (arith, h.pairs, size) in
    let old_at : (i : ℕ) → i < length old → lit_at u.chains.cells.items i ≡ lit_at old i = λ i lt. ap (λ xs. lit_at xs i) cells ∙ old_lit old (cells_of lits) i lt in
    record {
      room = omega (arith, h.room, variables, ap vec_capacity seen);
      count = number;
      pairs = omega (arith, ap length cells, length-append old (cells_of lits), size);
      short = record {
        each = λ n low' high none. elim (cases_lt n number) [
          | inl lt ↦ subst (λ xs. Contains xs n) (sym short) (short_keeps t.short.items (short_of lits number) n (h.short.each n low' (omega (arith, count)) (sym (old_at (2 * (n - 1)) (omega (arith, size))) ∙ none)))
          | inr ge ↦ (
              let here : n ≡ number = omega arith in
              let at : length old ≡ 2 * (n - 1) = omega (arith, size, here) in
              let none' : (first_two_of lits).0 ≡ None = sym (first_lit old lits (2 * (n - 1)) at) ∙ ap (λ xs. lit_at xs (2 * (n - 1))) (sym cells) ∙ none in
              subst (λ m. Contains u.short.items m) (sym here) (subst (λ xs. Contains xs number) (sym short) (short_has t.short.items lits number none')))
        ];
        together = λ n low' high. elim (cases_lt n number) [
          | inl lt ↦ ap is_some (old_at (2 * (n - 1)) (omega (arith, size))) ∙ h.short.together n low' (omega (arith, count)) ∙ ap is_some (sym (old_at (2 * (n - 1) + 1) (omega (arith, size))))
          | inr ge ↦ (
              let at : length old ≡ 2 * (n - 1) = omega (arith, size) in
              ap (λ xs. is_some (lit_at xs (2 * (n - 1)))) cells ∙ ap is_some (first_lit old lits (2 * (n - 1)) at) ∙ two_alike lits ∙ ap is_some (sym (second_lit old lits (2 * (n - 1)) at)) ∙ ap (λ xs. is_some (lit_at xs (2 * (n - 1) + 1))) (sym cells))
        ];
        in_range = subst (All (λ n. (1 ≤ n) × (n ≤ number))) (sym short) (short_range t.short.items lits number h.count low (omega (arith, count)) h.short.in_range);
      };
      chained = omega (arith, h.chained, chained, count);
      walking = (
          let grown = walk_grow t.variables t.chains.chains.items old (cells_of lits) (2 * t.chained) no_seen.lit 0 h.walking in
          let a = subst (λ xs. IsWalking t.variables t.chains.chains.items xs (2 * t.chained) no_seen.lit 0 0) (sym cells) grown in
          let b = subst (λ xs. IsWalking t.variables xs u.chains.cells.items (2 * t.chained) no_seen.lit 0 0) (sym chains) a in
          let d = subst (λ n. IsWalking n u.chains.chains.items u.chains.cells.items (2 * t.chained) no_seen.lit 0 0) (sym variables) b in
          subst (λ n. IsWalking u.variables u.chains.chains.items u.chains.cells.items (2 * n) no_seen.lit 0 0) (sym chained) d);
      worked = omega (arith, h.worked, worked, ap (λ x. length x.items) seen);
      held = (
          let held' : AreHeld u.chains.cells.items t.chained t.seen.items t.worked = λ n a b k l of_ below is_k is_l. (
          let fits : (a < length old) × (b < length old) = elim of_.1 [
            | inl q ↦ (omega (arith, q.0, of_.0, below, h.chained, count, size), omega (arith, q.1, of_.0, below, h.chained, count, size))
            | inr q ↦ (omega (arith, q.1, of_.0, below, h.chained, count, size), omega (arith, q.0, of_.0, below, h.chained, count, size))
          ] in
          h.held n a b k l of_ below (sym (old_at a fits.0) ∙ is_k) (sym (old_at b fits.1) ∙ is_l)) in
          let a = subst (λ n. AreHeld u.chains.cells.items n t.seen.items t.worked) (sym chained) held' in
          let b = subst (λ x. AreHeld u.chains.cells.items u.chained x.items t.worked) (sym seen) a in
          subst (λ n. AreHeld u.chains.cells.items u.chained u.seen.items n) (sym worked) b);
    }

watched_first : (n : ℕ) (lits : List Literal) → IsClause n lits → IsWatched lits (both (first_two_of lits).0 (first_two_of lits).1)
watched_first n [] clause = omega arith
watched_first n (k ∷ []) clause = omega arith
watched_first n (k ∷ l ∷ ls) clause = ((0, omega arith, refl), (1, omega arith, refl), λ same. clause.apart 0 1 k (omega arith) (omega arith) (ap (λ (x : Literal). x.variable) same))

pub watches_add : (c : ClauseList) (t u : Table) (number : ℕ) → WatchesUpTo c (number - 1) (watched_of t) → 1 ≤ number → IsClause c.variables (clause_at c number) → u.variables ≡ t.variables → u.chains.cells.items ≡ t.chains.cells.items ++ cells_of (clause_at c number) → WatchesUpTo c number (watched_of u)
watches_add c t u number w low clause variables cells =
    let old = t.chains.cells.items in
    let lits = clause_at c number in
    let size : length old ≡ 2 * (number - 1) = sym (length-map old cell_lit) ∙ w.count in
    let old_at : (i : ℕ) → i < length old → lit_at u.chains.cells.items i ≡ lit_at old i = λ i lt. ap (λ xs. lit_at xs i) cells ∙ old_lit old (cells_of lits) i lt in
    record {
      variables = variables ∙ w.variables;
      count = omega (arith, length-map u.chains.cells.items cell_lit, ap length cells, length-append old (cells_of lits), size);
      each = λ n low' high. subst (IsWatched (clause_at c n)) (sym (watched_is u n)) (elim (cases_lt n number) [
        | inl lt ↦ (
            let was = subst (IsWatched (clause_at c n)) (watched_is t n) (w.each n low' (omega arith)) in
            subst (λ o. IsWatched (clause_at c n) (both o (lit_at u.chains.cells.items (2 * (n - 1) + 1)))) (sym (old_at (2 * (n - 1)) (omega (arith, size)))) (subst (λ o. IsWatched (clause_at c n) (both (lit_at old (2 * (n - 1))) o)) (sym (old_at (2 * (n - 1) + 1) (omega (arith, size)))) was))
        | inr ge ↦ (
            let here : number ≡ n = omega arith in
            let first : lit_at u.chains.cells.items (2 * (number - 1)) ≡ (first_two_of lits).0 = ap (λ xs. lit_at xs (2 * (number - 1))) cells ∙ first_lit old lits (2 * (number - 1)) size in
            let second : lit_at u.chains.cells.items (2 * (number - 1) + 1) ≡ (first_two_of lits).1 = ap (λ xs. lit_at xs (2 * (number - 1) + 1)) cells ∙ second_lit old lits (2 * (number - 1)) size in
            let at : IsWatched lits (both (lit_at u.chains.cells.items (2 * (number - 1))) (lit_at u.chains.cells.items (2 * (number - 1) + 1))) = subst (λ o. IsWatched lits (both o (lit_at u.chains.cells.items (2 * (number - 1) + 1)))) (sym first) (subst (λ o. IsWatched lits (both (first_two_of lits).0 o)) (sym second) (watched_first c.variables lits clause)) in
            subst (λ m. IsWatched (clause_at c m) (both (lit_at u.chains.cells.items (2 * (m - 1))) (lit_at u.chains.cells.items (2 * (m - 1) + 1)))) here at)
      ]);
    }

-- the same table in other memory
pub table_same : (t u : Table) → IsTable t → u.variables ≡ t.variables → u.chains.chains.items ≡ t.chains.chains.items → u.chains.cells.items ≡ t.chains.cells.items → u.short.items ≡ t.short.items → u.chained ≡ t.chained → u.seen ≡ t.seen → u.worked ≡ t.worked → IsTable u
table_same t u h variables chains cells short chained seen worked = record {
  room = omega (arith, h.room, variables, ap vec_capacity seen);
  count = h.count;
  pairs = ap length cells ∙ h.pairs;
  short = subst (λ xs. AreShort xs h.count u.short.items) (sym cells) (subst (AreShort t.chains.cells.items h.count) (sym short) h.short);
  chained = omega (arith, h.chained, chained);
  walking = (
      let a = subst (λ xs. IsWalking t.variables t.chains.chains.items xs (2 * t.chained) no_seen.lit 0 0) (sym cells) h.walking in
      let b = subst (λ xs. IsWalking t.variables xs u.chains.cells.items (2 * t.chained) no_seen.lit 0 0) (sym chains) a in
      let d = subst (λ n. IsWalking n u.chains.chains.items u.chains.cells.items (2 * t.chained) no_seen.lit 0 0) (sym variables) b in
      subst (λ n. IsWalking u.variables u.chains.chains.items u.chains.cells.items (2 * n) no_seen.lit 0 0) (sym chained) d);
  worked = omega (arith, h.worked, worked, ap (λ x. length x.items) seen);
  held = (
      let z = subst (λ xs. AreHeld xs t.chained t.seen.items t.worked) (sym cells) h.held in
      let a = subst (λ n. AreHeld u.chains.cells.items n t.seen.items t.worked) (sym chained) z in
      let b = subst (λ x. AreHeld u.chains.cells.items u.chained x.items t.worked) (sym seen) a in
      subst (λ n. AreHeld u.chains.cells.items u.chained u.seen.items n) (sym worked) b);
}

-- one place more is worked
pub working_next : (c : ClauseList) (t : Table) (trail : TrailList) → IsWorking c t trail → t.worked < length t.seen.items → AreHeld t.chains.cells.items t.chained t.seen.items (t.worked + 1) → IsWorking c (record t { worked = t.worked + 1 }) trail
working_next c t trail w more held = record {
  variables = w.variables;
  list = w.list;
  room = w.room;
  watches = w.watches;
  short = w.short;
  chained = w.chained;
  follows = w.follows;
  worked = omega arith;
  held = held;
}

-- a literal of the trail is in range
pub at_range : (t : TrailList) (i : ℕ) (l : Literal) → IsTrail t.variables t.entries → i < length t.entries → IfSome (slice_get t.entries i) (λ e. l ≡ e.lit) → l.variable ≤ t.variables
at_range t i l good lt is =
    let here : l ≡ (get_or t.entries i some_entry).lit = rw (slice_get-get_or t.entries i some_entry lt) at is in
    omega (arith, ap (λ (x : Literal). x.variable) here, (good.in_range i some_entry lt).1)

pub at_seen : (t : TrailList) (seen : List Seen) (i : ℕ) (l m : Literal) → Follows seen t.entries → i < length t.entries → IfSome (slice_get t.entries i) (λ e. l ≡ e.lit) → m ≡ opposite l → seen_at seen i ≡ opposite m
at_seen t seen i l m follows lt is same =
    let here : l ≡ (get_or t.entries i some_entry).lit = rw (slice_get-get_or t.entries i some_entry lt) at is in
    follows.same i some_entry lt ∙ sym here ∙ sym (opposite_twice l) ∙ ap opposite (sym same)

pub watches_size : (c : ClauseList) (t : Table) (upto : ℕ) → WatchesUpTo c upto (watched_of t) → length t.chains.cells.items ≡ 2 * upto
watches_size c t upto w = sym (length-map t.chains.cells.items cell_lit) ∙ w.count
