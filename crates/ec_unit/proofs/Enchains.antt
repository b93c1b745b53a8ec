-- the watches of one clause more enter their chains
use Rattle.std.proofs.Common.{◌≡◌, ◌≢◌, ℕ, ◌+◌, ◌-◌, ◌*◌, ◌<◌, ◌≤◌, List, Option, Some, None, length, get_or, set, refl, sym, ap, ◌∙◌, subst, inl, inr, arith}
use Rattle.std.proofs.lemmas.Bool.{cases_lt, cases_eq}
use Rattle.std.proofs.lemmas.List.{length-set, length-map, get_or-set_same, get_or-set_other, get_or_default}
use Rattle.std.specs.Prelude.{Contains, is_some, vec_capacity}
use Rattle.ec_clause.specs.Literal.{Literal}
use Rattle.ec_clause.specs.ClauseList.{ClauseList, IsClause, clause_at}
use Rattle.ec_trail.specs.TrailList.{TrailList}
use Rattle.ec_unit.specs.declared.chains.Chain.{Chain}
use Rattle.ec_unit.specs.declared.chains.Cell.{Cell}
use Rattle.ec_unit.specs.declared.seen.Seen.{Seen}
use Rattle.ec_unit.specs.declared.table.Table.{Table}
use Rattle.ec_unit.specs.Watching.{IsWatched, both}
use Rattle.ec_unit.specs.Chained.{index_of, no_cell, chain_at, lit_at, IsWalking}
use Rattle.ec_unit.specs.Leaning.{Follows, Grows, IsHeld, no_seen}
use Rattle.ec_unit.specs.Working.{IsWorking, AreChained, cell_lit}
use Rattle.ec_unit.proofs.Growing.{grows_more, held_more, held_less, are_held_more}
use Rattle.ec_unit.proofs.Chaining.{walk_fresh, walk_none}
use Rattle.ec_unit.proofs.Visits.{watched_is, pair_make}

some_one : {A : Type 0} {a b : A} → Some a ≡ Some b → a ≡ b
some_one e = cc

-- a clause of fewer than two literals has no watches
none_pair : (lits : List Literal) (o p : Option Literal) → is_some o ≡ is_some p → IsWatched lits (both o p) → length lits < 2 → (o ≡ None) × (p ≡ None)
none_pair lits None None same h short = (refl, refl)
none_pair lits None (Some l) same h short = cc
none_pair lits (Some k) None same h short = cc
none_pair lits (Some k) (Some l) same h short = absurd (
    let i = h.0 in
    let j = h.1 in
    let at : i.0 ≡ j.0 = omega (arith, i.1, j.1) in
    h.2 (sym i.2 ∙ ap (λ n. get_or lits n k) at ∙ get_or_default lits j.0 k l j.1 ∙ j.2))

pub pair_of : (c : ClauseList) (t : Table) (trail : TrailList) → IsWorking c t trail → (number : ℕ) → 1 ≤ number → number ≤ length c.clauses → IsWatched (clause_at c number) (both (lit_at t.chains.cells.items (2 * (number - 1))) (lit_at t.chains.cells.items (2 * (number - 1) + 1)))
pair_of c t trail w number low high = subst (IsWatched (clause_at c number)) (watched_is t number) (w.watches.each number low high)

pub size_of : (c : ClauseList) (t : Table) (trail : TrailList) → IsWorking c t trail → length t.chains.cells.items ≡ 2 * length c.clauses
size_of c t trail w = sym (length-map t.chains.cells.items cell_lit) ∙ w.watches.count

pub enchain_none : (c : ClauseList) (t : Table) (trail : TrailList) → IsWorking c t trail → t.chained < length c.clauses → length (clause_at c (t.chained + 1)) < 2 → (lit_at t.chains.cells.items (2 * t.chained) ≡ None) × (lit_at t.chains.cells.items (2 * t.chained + 1) ≡ None)
enchain_none c t trail w more short =
    let number = t.chained + 1 in
    let low : 1 ≤ number = omega arith in
    let high : number ≤ length c.clauses = omega arith in
    let at : number - 1 ≡ t.chained = omega arith in
    let n = none_pair (clause_at c number) (lit_at t.chains.cells.items (2 * (number - 1))) (lit_at t.chains.cells.items (2 * (number - 1) + 1)) (w.short.together number low high) (pair_of c t trail w number low high) short in
    (ap (λ k. lit_at t.chains.cells.items (2 * k)) (sym at) ∙ n.0, ap (λ k. lit_at t.chains.cells.items (2 * k + 1)) (sym at) ∙ n.1)

pub enchain_short : (c : ClauseList) (t : Table) (trail : TrailList) → IsWorking c t trail → t.chained < length c.clauses → length (clause_at c (t.chained + 1)) < 2 → IsWorking c (record t { chained = t.chained + 1 }) trail
enchain_short c t trail w more short =
    let none = enchain_none c t trail w more short in
    record {
      variables = w.variables;
      list = w.list;
      room = w.room;
      watches = w.watches;
      short = w.short;
      chained = omega arith;
      follows = w.follows;
      worked = w.worked;
      held = λ n a b k l of_ below is_k is_l. elim (cases_lt n (t.chained + 1)) [
        | inl before ↦ w.held n a b k l of_ (omega arith) is_k is_l
        | inr here ↦ absurd (elim of_.1 [
          | inl q ↦ (let at : 2 * t.chained ≡ a = omega (arith, q.0, of_.0) in let clash : None ≡ Some k = sym none.0 ∙ ap (lit_at t.chains.cells.items) at ∙ is_k in cc)
          | inr q ↦ (let at : 2 * t.chained ≡ b = omega (arith, q.0, of_.0) in let clash : None ≡ Some l = sym none.0 ∙ ap (lit_at t.chains.cells.items) at ∙ is_l in cc)
        ])
      ];
    }

pub enchain_short_chained : (c : ClauseList) (t : Table) (trail : TrailList) → IsWorking c t trail → AreChained t → t.chained < length c.clauses → length (clause_at c (t.chained + 1)) < 2 → IsWalking t.variables t.chains.chains.items t.chains.cells.items (2 * (t.chained + 1)) no_seen.lit 0 0
enchain_short_chained c t trail w walking more short =
    let none = enchain_none c t trail w more short in
    let size = size_of c t trail w in
    let one = walk_none t.variables t.chains.chains.items t.chains.cells.items (2 * t.chained) no_seen.lit 0 walking (omega (arith, size)) none.0 in
    let two = walk_none t.variables t.chains.chains.items t.chains.cells.items (2 * t.chained + 1) no_seen.lit 0 one (omega (arith, size)) none.1 in
    let at : 2 * t.chained + 1 + 1 ≡ 2 * (t.chained + 1) = omega arith in
    subst (λ n. IsWalking t.variables t.chains.chains.items t.chains.cells.items n no_seen.lit 0 0) at two

pub enchain_two_chained : (t : Table) (first second : Literal) (chains chains' : List Chain) (cells cells' : List Cell) → AreChained t → 2 * t.chained + 1 < length t.chains.cells.items → first.variable ≤ t.variables → second.variable ≤ t.variables → chains ≡ set t.chains.chains.items (index_of first) (record { head = 2 * t.chained; len = (chain_at t.chains.chains.items first).len + 1 }) → cells ≡ set t.chains.cells.items (2 * t.chained) (record { lit = Some first; next = (chain_at t.chains.chains.items first).head }) → chains' ≡ set chains (index_of second) (record { head = 2 * t.chained + 1; len = (chain_at chains second).len + 1 }) → cells' ≡ set cells (2 * t.chained + 1) (record { lit = Some second; next = (chain_at chains second).head }) → IsWalking t.variables chains' cells' (2 * (t.chained + 1)) no_seen.lit 0 0
enchain_two_chained t first second chains chains' cells cells' walking fits range range' e f g h =
    let place = 2 * t.chained in
    let one = walk_fresh t.variables t.chains.chains.items t.chains.cells.items place no_seen.lit first 0 _ _ walking (omega arith) range refl refl in
    let one' = subst (λ xs. IsWalking t.variables xs (set t.chains.cells.items place (record { lit = Some first; next = (chain_at t.chains.chains.items first).head })) (place + 1) no_seen.lit 0 0) (sym e) one in
    let one'' = subst (λ xs. IsWalking t.variables chains xs (place + 1) no_seen.lit 0 0) (sym f) one' in
    let size : length cells ≡ length t.chains.cells.items = ap length f ∙ length-set t.chains.cells.items place _ in
    let two = walk_fresh t.variables chains cells (place + 1) no_seen.lit second 0 _ _ one'' (omega (arith, size)) range' refl refl in
    let two' = subst (λ xs. IsWalking t.variables xs (set cells (place + 1) (record { lit = Some second; next = (chain_at chains second).head })) (place + 1 + 1) no_seen.lit 0 0) (sym g) two in
    let two'' = subst (λ xs. IsWalking t.variables chains' xs (place + 1 + 1) no_seen.lit 0 0) (sym h) two' in
    let at : place + 1 + 1 ≡ 2 * (t.chained + 1) = omega arith in
    subst (λ n. IsWalking t.variables chains' cells' n no_seen.lit 0 0) at two''

-- two literals at different places of a clause
pub two_of_clause : (n : ℕ) (lits : List Literal) (i j : ℕ) (first second : Literal) → IsClause n lits → i < length lits → j < length lits → i ≢ j → first ≡ get_or lits i first → second ≡ get_or lits j second → first ≢ second
two_of_clause n lits i j first second clause li lj ne is is' same =
    let variable : (get_or lits i first).variable ≡ (get_or lits j first).variable = ap (λ (l : Literal). l.variable) (sym is ∙ same ∙ is' ∙ get_or_default lits j second first lj) in
    elim (cases_lt i j) [
      | inl l ↦ clause.apart i j first l lj variable
      | inr g ↦ clause.apart j i first (omega arith) li (sym variable)
    ]

pub enchain_two : (c : ClauseList) (t u : Table) (trail : TrailList) (first second : Literal) (seen : List Seen) (worked : ℕ) (cells : List Cell) (x y : Cell) → IsWorking c t trail → t.chained < length c.clauses → Contains (clause_at c (t.chained + 1)) first → Contains (clause_at c (t.chained + 1)) second → first ≢ second → u ≡ record t { chains = u.chains; chained = t.chained + 1; seen = u.seen; worked = u.worked } → x.lit ≡ Some first → y.lit ≡ Some second → cells ≡ set t.chains.cells.items (2 * t.chained) x → u.chains.cells.items ≡ set cells (2 * t.chained + 1) y → vec_capacity u.seen ≡ vec_capacity t.seen → Follows u.seen.items trail.entries → Grows t.seen.items seen → Grows seen u.seen.items → worked ≤ t.worked → u.worked ≤ worked → IsHeld seen worked first second → IsHeld u.seen.items u.worked second first → IsWorking c u trail
enchain_two c t u trail first second seen worked cells x y w more in_first in_second differ same is_x is_y e f room follows grows grows' less less' held held' =
    let place = 2 * t.chained in
    let number = t.chained + 1 in
    let old = t.chains.cells.items in
    let new = u.chains.cells.items in
    let size = size_of c t trail w in
    let size' : length cells ≡ length old = ap length e ∙ length-set old place x in
    let at : number - 1 ≡ t.chained = omega arith in
    let all_grows = grows_more t.seen.items seen u.seen.items grows grows' in
    let at_first : lit_at new place ≡ Some first = ap (λ (xs : List Cell). lit_at xs place) f ∙ ap (λ (z : Cell). z.lit) (get_or-set_other cells (place + 1) place y no_cell (omega arith)) ∙ ap (λ (xs : List Cell). lit_at xs place) e ∙ ap (λ (z : Cell). z.lit) (get_or-set_same old place x no_cell (omega (arith, size))) ∙ is_x in
    let at_second : lit_at new (place + 1) ≡ Some second = ap (λ (xs : List Cell). lit_at xs (place + 1)) f ∙ ap (λ (z : Cell). z.lit) (get_or-set_same cells (place + 1) y no_cell (omega (arith, size, size'))) ∙ is_y in
    let else_new : (i : ℕ) → i ≢ place → i ≢ place + 1 → lit_at new i ≡ lit_at old i = λ i ne ne'. ap (λ (xs : List Cell). lit_at xs i) f ∙ ap (λ (z : Cell). z.lit) (get_or-set_other cells (place + 1) i y no_cell ne') ∙ ap (λ (xs : List Cell). lit_at xs i) e ∙ ap (λ (z : Cell). z.lit) (get_or-set_other old place i x no_cell ne) in
    let far : (n : ℕ) → 1 ≤ n → n ≢ number → (2 * (n - 1) ≢ place) × (2 * (n - 1) ≢ place + 1) × (2 * (n - 1) + 1 ≢ place) × (2 * (n - 1) + 1 ≢ place + 1) = λ n low ne. (λ z. omega (arith, low, ne, z), λ z. omega (arith, low, ne, z), λ z. omega (arith, low, ne, z), λ z. omega (arith, low, ne, z)) in
    let first_here : lit_at new (2 * (number - 1)) ≡ Some first = ap (λ k. lit_at new (2 * k)) at ∙ at_first in
    let second_here : lit_at new (2 * (number - 1) + 1) ≡ Some second = ap (λ k. lit_at new (2 * k + 1)) at ∙ at_second in
    let start : IsHeld u.seen.items u.worked first second = held_less u.seen.items worked u.worked first second less' (held_more seen u.seen.items worked first second (omega (arith, less, w.worked, grows.longer)) grows' held) in
    subst (λ (z : Table). IsWorking c z trail) (sym same) (record {
      variables = w.variables;
      list = w.list;
      room = omega (arith, w.room, room);
      watches = record {
        variables = w.watches.variables;
        count = length-map new cell_lit ∙ ap length f ∙ length-set cells (place + 1) y ∙ size' ∙ sym (length-map old cell_lit) ∙ w.watches.count;
        each = λ n low high.
            let is = watched_is (record t { chains = u.chains; chained = t.chained + 1; seen = u.seen; worked = u.worked }) n in
            subst (IsWatched (clause_at c n)) (sym is) (elim (cases_eq n number) [
              | inl q ↦ subst (λ m. IsWatched (clause_at c m) (both (lit_at new (2 * (m - 1))) (lit_at new (2 * (m - 1) + 1)))) (sym q) (pair_make (clause_at c number) (lit_at new (2 * (number - 1))) (lit_at new (2 * (number - 1) + 1)) first second first_here second_here in_first in_second differ)
              | inr ne ↦ (
                  let r = far n low ne in
                  subst (λ o. IsWatched (clause_at c n) (both o (lit_at new (2 * (n - 1) + 1)))) (sym (else_new (2 * (n - 1)) r.0 r.1)) (subst (λ o. IsWatched (clause_at c n) (both (lit_at old (2 * (n - 1))) o)) (sym (else_new (2 * (n - 1) + 1) r.2 r.3)) (pair_of c t trail w n low high)))
            ]);
      };
      short = record {
        each = λ n low high none. elim (cases_eq n number) [
          | inl q ↦ absurd (let clash : Some first ≡ None = sym first_here ∙ ap (λ m. lit_at new (2 * (m - 1))) (sym q) ∙ none in cc)
          | inr ne ↦ (let r = far n low ne in w.short.each n low high (sym (else_new (2 * (n - 1)) r.0 r.1) ∙ none))
        ];
        together = λ n low high. elim (cases_eq n number) [
          | inl q ↦ ap (λ m. is_some (lit_at new (2 * (m - 1)))) q ∙ ap is_some first_here ∙ ap is_some (sym second_here) ∙ ap (λ m. is_some (lit_at new (2 * (m - 1) + 1))) (sym q)
          | inr ne ↦ (let r = far n low ne in ap is_some (else_new (2 * (n - 1)) r.0 r.1) ∙ w.short.together n low high ∙ ap is_some (sym (else_new (2 * (n - 1) + 1) r.2 r.3)))
        ];
        in_range = w.short.in_range;
      };
      chained = omega arith;
      follows = follows;
      worked = omega (arith, less, less', w.worked, all_grows.longer);
      held = λ n a b k l of_ below is_k is_l. elim (cases_lt n (t.chained + 1)) [
        | inl before ↦ elim of_.1 [
          | inl q ↦ are_held_more old t.chained t.seen.items u.seen.items t.worked u.worked w.worked (omega (arith, less, less')) all_grows w.held n a b k l of_ (omega arith) (sym (else_new a (λ z. omega (arith, z, q.0, of_.0)) (λ z. omega (arith, z, q.0, of_.0))) ∙ is_k) (sym (else_new b (λ z. omega (arith, z, q.1, of_.0)) (λ z. omega (arith, z, q.1, of_.0))) ∙ is_l)
          | inr q ↦ are_held_more old t.chained t.seen.items u.seen.items t.worked u.worked w.worked (omega (arith, less, less')) all_grows w.held n a b k l of_ (omega arith) (sym (else_new a (λ z. omega (arith, z, q.1, of_.0)) (λ z. omega (arith, z, q.1, of_.0))) ∙ is_k) (sym (else_new b (λ z. omega (arith, z, q.0, of_.0)) (λ z. omega (arith, z, q.0, of_.0))) ∙ is_l)
        ]
        | inr here ↦ elim of_.1 [
          | inl q ↦ (
              let a_is : a ≡ place = omega (arith, q.0, of_.0) in
              let b_is : b ≡ place + 1 = omega (arith, q.1, of_.0) in
              let k_is : first ≡ k = some_one (sym at_first ∙ ap (lit_at new) (sym a_is) ∙ is_k) in
              let l_is : second ≡ l = some_one (sym at_second ∙ ap (lit_at new) (sym b_is) ∙ is_l) in
              subst (λ z. IsHeld u.seen.items u.worked z l) k_is (subst (IsHeld u.seen.items u.worked first) l_is start))
          | inr q ↦ (
              let b_is : b ≡ place = omega (arith, q.0, of_.0) in
              let a_is : a ≡ place + 1 = omega (arith, q.1, of_.0) in
              let l_is : first ≡ l = some_one (sym at_first ∙ ap (lit_at new) (sym b_is) ∙ is_l) in
              let k_is : second ≡ k = some_one (sym at_second ∙ ap (lit_at new) (sym a_is) ∙ is_k) in
              subst (λ z. IsHeld u.seen.items u.worked z l) k_is (subst (IsHeld u.seen.items u.worked second) l_is held'))
        ]
      ];
    })
