-- watches that leave a chain and enter another
use Rattle.std.proofs.Common.{◌≡◌, ◌≢◌, ℕ, ◌+◌, ◌*◌, ◌<◌, ◌≤◌, ◌==◌, ◌&&◌, Bool, true, false, not, cond, List, ◌++◌, Option, Some, None, length, get_or, set, replicate, refl, sym, ap, ◌∙◌, subst, inl, inr, arith}
use Rattle.std.proofs.lemmas.Bool.{cases_eq, cases_Bool, cond-true, cond-false, eqb-true, eq-eqb}
use Rattle.std.proofs.lemmas.List.{length-set, get_or-set_same, get_or-set_other, get_or_append_left, get_or-replicate, length-append, length-replicate}
use Rattle.std.proofs.lemmas.List.Sums.{sum_by-set}
use Rattle.std.proofs.lemmas.List.Folds.{sum_by-replicate}
use Rattle.std.specs.Prelude.{sum_by}
use Rattle.ec_clause.specs.Literal.{Literal}
use Rattle.ec_unit.specs.declared.chains.Chain.{Chain}
use Rattle.ec_unit.specs.declared.chains.Cell.{Cell}
use Rattle.ec_unit.specs.Chained.{index_of, no_chain, no_cell, chain_at, lit_at, next_at, chain_len, IsChain, IsOn, IsWalking}
use Rattle.ec_trail.proofs.Values.{same_literal}

-- a function with one value changed
abbrev pub with : {A : Type 0} → (ℕ → A) → ℕ → A → ℕ → A
with f p v c = cond (c == p) v (f c)

pub with_same : {A : Type 0} (f : ℕ → A) (p : ℕ) (v : A) (c : ℕ) → c ≡ p → with f p v c ≡ v
with_same f p v c e = cond-true (c == p) v (f c) (eq-eqb c p e)

pub with_other : {A : Type 0} (f : ℕ → A) (p : ℕ) (v : A) (c : ℕ) → c ≢ p → with f p v c ≡ f c
with_other f p v c ne = elim (cases_Bool (c == p)) [
  | inl t ↦ absurd (ne (eqb-true c p t))
  | inr f' ↦ cond-false (c == p) v (f c) f'
]

pub clash : (b : Bool) → b ≡ true → b ≡ false → ⊥
clash true t f = cc
clash false t f = cc

-- literals with one index are one
same_index : (s t : Bool) (m n : ℕ) → 2 * m + (cond s 1 0) ≡ 2 * n + (cond t 1 0) → (m ≡ n) × (s ≡ t)
same_index true true m n h = (omega arith, refl)
same_index true false m n h = absurd (omega arith)
same_index false true m n h = absurd (omega arith)
same_index false false m n h = (omega arith, refl)

pub index_apart : (k l : Literal) → index_of k ≡ index_of l → k ≡ l
index_apart k l h =
    let e = same_index k.positive l.positive k.variable l.variable h in
    same_literal k l e.0 e.1

sign_small : (s : Bool) → cond s 1 0 ≤ 1
sign_small true = omega arith
sign_small false = omega arith

pub index_below : (n : ℕ) (l : Literal) → l.variable ≤ n → index_of l < 2 * n + 2
index_below n l h = let s : cond l.positive 1 0 ≤ 1 = sign_small l.positive in omega (arith, s)

-- a chain is the same where its members and their links are
pub chain_frame : (cells cells' : List Cell) (m m' : ℕ → Type 0) (rank rank' : ℕ → ℕ) (head len : ℕ) → ((c : ℕ) → m' c → m c) → ((c : ℕ) → m c → m' c) → ((c : ℕ) → m c → next_at cells' c ≡ next_at cells c) → ((c : ℕ) → m c → rank' c ≡ rank c) → IsChain cells m rank head len → IsChain cells' m' rank' head len
chain_frame cells cells' m m' rank rank' head len back forth next same h = record {
  below = λ c is. (let o = back c is in omega (arith, h.below c o, same c o));
  first = λ some. (let f = h.first some in (forth head f.0, omega (arith, f.1, same head f.0)));
  next = λ c is pos. (
      let o = back c is in
      let e = same c o in
      let n = h.next c o (omega (arith, e)) in
      let link = next c o in
      let to : m' (next_at cells' c) = subst m' (sym link) (forth (next_at cells c) n.0) in
      (to, omega (arith, ap rank' link, same (next_at cells c) n.0, n.1, e)));
  apart = λ c d is js e. (
      let o = back c is in
      let p = back d js in
      h.apart c d o p (sym (same c o) ∙ e ∙ same d p));
}

-- a watch at the front of a chain
chain_push : (cells cells' : List Cell) (m m' : ℕ → Type 0) (rank rank' : ℕ → ℕ) (head len place : ℕ) → ((c : ℕ) → m' c → c ≢ place → m c) → ((c : ℕ) → m c → m' c) → m' place → (m place → ⊥) → ((c : ℕ) → m c → next_at cells' c ≡ next_at cells c) → ((c : ℕ) → m c → rank' c ≡ rank c) → next_at cells' place ≡ head → rank' place ≡ len → IsChain cells m rank head len → IsChain cells' m' rank' place (len + 1)
chain_push cells cells' m m' rank rank' head len place back forth here new next same link at h =
    let below : (c : ℕ) → m' c → c ≢ place → rank' c < len = λ c is ne. (let o = back c is ne in omega (arith, h.below c o, same c o)) in
    record {
      below = λ c is. elim (cases_eq c place) [
        | inl e ↦ omega (arith, ap rank' e, at)
        | inr ne ↦ omega (arith, below c is ne)
      ];
      first = λ some. (here, omega (arith, at));
      next = λ c is pos. elim (cases_eq c place) [
        | inl e ↦ (
            let to : next_at cells' c ≡ head = ap (next_at cells') e ∙ link in
            let some : 0 < len = omega (arith, ap rank' e, at) in
            let f = h.first some in
            (subst m' (sym to) (forth head f.0), omega (arith, ap rank' to, same head f.0, f.1, ap rank' e, at)))
        | inr ne ↦ (
            let o = back c is ne in
            let e = same c o in
            let n = h.next c o (omega (arith, e)) in
            let to = next c o in
            (subst m' (sym to) (forth (next_at cells c) n.0), omega (arith, ap rank' to, same (next_at cells c) n.0, n.1, e)))
      ];
      apart = λ c d is js e. elim (cases_eq c place) [
        | inl ec ↦ elim (cases_eq d place) [
          | inl ed ↦ ec ∙ sym ed
          | inr nd ↦ absurd (omega (arith, below d js nd, e, ap rank' ec, at))
        ]
        | inr nc ↦ elim (cases_eq d place) [
          | inl ed ↦ absurd (omega (arith, below c is nc, e, ap rank' ed, at))
          | inr nd ↦ (let o = back c is nc in let p = back d js nd in h.apart c d o p (sym (same c o) ∙ e ∙ same d p))
        ]
      ];
    }

-- the front of a chain taken away
chain_pop : (cells : List Cell) (m m' : ℕ → Type 0) (rank : ℕ → ℕ) (head len : ℕ) → ((c : ℕ) → m' c → m c × (c ≢ head)) → ((c : ℕ) → m c → c ≢ head → m' c) → IsChain cells m rank head (len + 1) → IsChain cells m' rank (next_at cells head) len
chain_pop cells m m' rank head len back forth h =
    let f = h.first (omega arith) in
    let below : (c : ℕ) → m' c → rank c < len = λ c is. (
    let o = back c is in
    let ne : rank c ≢ rank head = λ e. o.1 (h.apart c head o.0 f.0 e) in
    omega (arith, h.below c o.0, f.1, ne)) in
    record {
      below = below;
      first = λ some. (
          let n = h.next head f.0 (omega (arith, f.1)) in
          let ne : next_at cells head ≢ head = λ e. omega (arith, ap rank e, n.1) in
          (forth (next_at cells head) n.0 ne, omega (arith, n.1, f.1)));
      next = λ c is pos. (
          let o = back c is in
          let n = h.next c o.0 pos in
          let ne : next_at cells c ≢ head = λ e. omega (arith, ap rank e, n.1, below c is, f.1) in
          (forth (next_at cells c) n.0 ne, n.1));
      apart = λ c d is js e. h.apart c d (back c is).0 (back d js).0 e;
    }

-- a cell that is set, and the others
lit_set : (cells : List Cell) (place : ℕ) (cell : Cell) (c : ℕ) → c ≢ place → lit_at (set cells place cell) c ≡ lit_at cells c
lit_set cells place cell c ne = ap (λ (x : Cell). x.lit) (get_or-set_other cells place c cell no_cell ne)

next_set : (cells : List Cell) (place : ℕ) (cell : Cell) (c : ℕ) → c ≢ place → next_at (set cells place cell) c ≡ next_at cells c
next_set cells place cell c ne = ap (λ (x : Cell). x.next) (get_or-set_other cells place c cell no_cell ne)

pub lit_here : (cells : List Cell) (place : ℕ) (cell : Cell) → place < length cells → lit_at (set cells place cell) place ≡ cell.lit
lit_here cells place cell lt = ap (λ (x : Cell). x.lit) (get_or-set_same cells place cell no_cell lt)

next_here : (cells : List Cell) (place : ℕ) (cell : Cell) → place < length cells → next_at (set cells place cell) place ≡ cell.next
next_here cells place cell lt = ap (λ (x : Cell). x.next) (get_or-set_same cells place cell no_cell lt)

pub some_same : {A : Type 0} {a b : A} → Some a ≡ Some b → a ≡ b
some_same e = cc

-- a watch that is in no chain put onto a literal: what becomes of each chain
each_attach : (chains : List Chain) (cells : List Cell) (on : ℕ → Bool) (rank : ℕ → ℕ) (place : ℕ) (x l : Literal) (chain : Chain) (cell : Cell) → index_of x < length chains → place < length cells → on place ≡ false → chain ≡ record { head = place; len = (chain_at chains x).len + 1 } → cell ≡ record { lit = Some x; next = (chain_at chains x).head } → IsChain cells (IsOn cells on x) rank (chain_at chains x).head (chain_at chains x).len → IsChain cells (IsOn cells on l) rank (chain_at chains l).head (chain_at chains l).len → IsChain (set cells place cell) (IsOn (set cells place cell) (with on place true) l) (with rank place (chain_at chains x).len) (chain_at (set chains (index_of x) chain) l).head (chain_at (set chains (index_of x) chain) l).len
each_attach chains cells on rank place x l chain cell index fits off is_chain is_cell hx hl =
    let cells' = set cells place cell in
    let chains' = set chains (index_of x) chain in
    let on' = with on place true in
    let rank' = with rank place (chain_at chains x).len in
    let apart : (c : ℕ) → on c ≡ true → c ≢ place = λ c t e. clash (on c) t (ap on e ∙ off) in
    let lit' : lit_at cells' place ≡ Some x = lit_here cells place cell fits ∙ ap (λ (y : Cell). y.lit) is_cell in
    elim (cases_eq (index_of l) (index_of x)) [
      | inl e ↦ (
          let same : l ≡ x = index_apart l x e in
          let at : chain_at chains' l ≡ chain = ap (λ i. get_or chains' i no_chain) e ∙ get_or-set_same chains (index_of x) chain no_chain index in
          let pushed = chain_push cells cells' (IsOn cells on x) (IsOn cells' on' x) rank rank' (chain_at chains x).head (chain_at chains x).len place
          (λ c is ne. (sym (with_other on place true c ne) ∙ is.0, sym (lit_set cells place cell c ne) ∙ is.1))
          (λ c is. (let ne = apart c is.0 in (with_other on place true c ne ∙ is.0, lit_set cells place cell c ne ∙ is.1)))
          (with_same on place true place refl, lit')
          (λ is. apart place is.0 refl)
          (λ c is. next_set cells place cell c (apart c is.0))
          (λ c is. with_other rank place (chain_at chains x).len c (apart c is.0))
          (next_here cells place cell fits ∙ ap (λ (y : Cell). y.next) is_cell)
          (with_same rank place (chain_at chains x).len place refl)
          hx in
          let to : IsChain cells' (IsOn cells' on' x) rank' (chain_at chains' l).head (chain_at chains' l).len = subst (λ (y : Chain). IsChain cells' (IsOn cells' on' x) rank' y.head y.len) (sym (at ∙ is_chain)) pushed in
          subst (λ (y : Literal). IsChain cells' (IsOn cells' on' y) rank' (chain_at chains' l).head (chain_at chains' l).len) (sym same) to)
      | inr ne ↦ (
          let at : chain_at chains' l ≡ chain_at chains l = get_or-set_other chains (index_of x) (index_of l) chain no_chain ne in
          let framed = chain_frame cells cells' (IsOn cells on l) (IsOn cells' on' l) rank rank' (chain_at chains l).head (chain_at chains l).len
          (λ c is. elim (cases_eq c place) [
            | inl e ↦ absurd (ne (ap index_of (some_same (sym is.1 ∙ ap (lit_at cells') e ∙ lit'))))
            | inr nc ↦ (sym (with_other on place true c nc) ∙ is.0, sym (lit_set cells place cell c nc) ∙ is.1)
          ])
          (λ c is. (let nc = apart c is.0 in (with_other on place true c nc ∙ is.0, lit_set cells place cell c nc ∙ is.1)))
          (λ c is. next_set cells place cell c (apart c is.0))
          (λ c is. with_other rank place (chain_at chains x).len c (apart c is.0))
          hl in
          subst (λ (y : Chain). IsChain cells' (IsOn cells' on' l) rank' y.head y.len) (sym at) framed)
    ]

-- the next watch of a walk put onto a literal
abbrev step_record : (variables : ℕ) (chains : List Chain) (cells : List Cell) (upto : ℕ) (a x : Literal) (place more left : ℕ) (chain : Chain) (cell : Cell) → more ≡ left + 1 → IsWalking variables chains cells upto a place more → x.variable ≤ variables → chain ≡ record { head = place; len = (chain_at chains x).len + 1 } → cell ≡ record { lit = Some x; next = (chain_at chains x).head } → IsWalking variables (set chains (index_of x) chain) (set cells place cell) upto a (next_at cells place) left
step_record variables chains cells upto a x place more left chain cell one w range is_chain is_cell =
    let first = w.ahead.first (omega arith) in
    let index : index_of x < length chains = omega (arith, index_below variables x range, w.size) in
    let below = w.rest_below place first.0 in
    let fits : place < length cells = omega (arith, below, w.fits) in
    let off = w.loose place first.0 in
    let sum = sum_by-set chain_len chains (index_of x) chain no_chain index in
    record {
      on = with w.on place true;
      rest = with w.rest place false;
      rank = with w.rank place (chain_at chains x).len;
      size = length-set chains (index_of x) chain ∙ w.size;
      fits = omega (arith, w.fits, length-set cells place cell);
      total = omega (arith, w.total, sum, ap chain_len is_chain);
      each = λ l lr. each_attach chains cells w.on w.rank place x l chain cell index fits off is_chain is_cell (w.each x range) (w.each l lr);
      ahead = (
          let popped = chain_pop cells (λ c. w.rest c ≡ true) (λ c. with w.rest place false c ≡ true) w.rank place left
          (λ c is. elim (cases_eq c place) [
            | inl e ↦ absurd (clash (with w.rest place false c) is (with_same w.rest place false c e))
            | inr nc ↦ (sym (with_other w.rest place false c nc) ∙ is, nc)
          ])
          (λ c is nc. with_other w.rest place false c nc ∙ is)
          (subst (IsChain cells (λ c. w.rest c ≡ true) w.rank place) one w.ahead) in
          chain_frame cells (set cells place cell) (λ c. with w.rest place false c ≡ true) (λ c. with w.rest place false c ≡ true) w.rank (with w.rank place (chain_at chains x).len) (next_at cells place) left
          (λ c is. is)
          (λ c is. is)
          (λ c is. next_set cells place cell c (λ e. clash (with w.rest place false c) is (with_same w.rest place false c e)))
          (λ c is. with_other w.rank place (chain_at chains x).len c (λ e. clash (with w.rest place false c) is (with_same w.rest place false c e)))
          popped);
      of_walked = λ c is. (
          let nc : c ≢ place = λ e. clash (with w.rest place false c) is (with_same w.rest place false c e) in
          lit_set cells place cell c nc ∙ w.of_walked c (sym (with_other w.rest place false c nc) ∙ is));
      rest_below = λ c is. (
          let nc : c ≢ place = λ e. clash (with w.rest place false c) is (with_same w.rest place false c e) in
          w.rest_below c (sym (with_other w.rest place false c nc) ∙ is));
      on_below = λ c is. elim (cases_eq c place) [
        | inl e ↦ omega (arith, below)
        | inr nc ↦ w.on_below c (sym (with_other w.on place true c nc) ∙ is)
      ];
      loose = λ c is. (
          let nc : c ≢ place = λ e. clash (with w.rest place false c) is (with_same w.rest place false c e) in
          with_other w.on place true c nc ∙ w.loose c (sym (with_other w.rest place false c nc) ∙ is));
      all = λ c l lt is. elim (cases_eq c place) [
        | inl e ↦ inl (with_same w.on place true c e)
        | inr nc ↦ elim (w.all c l lt (sym (lit_set cells place cell c nc) ∙ is)) [
          | inl o ↦ inl (with_other w.on place true c nc ∙ o)
          | inr r ↦ inr (with_other w.rest place false c nc ∙ r)
        ]
      ];
    }

-- and the others keep their ranks
pub walk_step : (variables : ℕ) (chains : List Chain) (cells : List Cell) (upto : ℕ) (a x : Literal) (place more left : ℕ) (chain : Chain) (cell : Cell) → more ≡ left + 1 → (w : IsWalking variables chains cells upto a place more) → x.variable ≤ variables → chain ≡ record { head = place; len = (chain_at chains x).len + 1 } → cell ≡ record { lit = Some x; next = (chain_at chains x).head } → (v : IsWalking variables (set chains (index_of x) chain) (set cells place cell) upto a (next_at cells place) left) × ((c : ℕ) → c ≢ place → v.on c ≡ w.on c) × ((c : ℕ) → c ≢ place → v.rank c ≡ w.rank c)
walk_step variables chains cells upto a x place more left chain cell one w range is_chain is_cell =
    (step_record variables chains cells upto a x place more left chain cell one w range is_chain is_cell, λ c ne. with_other w.on place true c ne, λ c ne. with_other w.rank place (chain_at chains x).len c ne)

-- where nothing is left of a walk, nothing is ahead
pub none_ahead : (variables : ℕ) (chains : List Chain) (cells : List Cell) (upto : ℕ) (a : Literal) (head : ℕ) (w : IsWalking variables chains cells upto a head 0) (c : ℕ) → w.rest c ≡ true → ⊥
none_ahead variables chains cells upto a head w c is = omega (arith, w.ahead.below c is)

pub nothing_ahead : (cells : List Cell) (rank : ℕ → ℕ) (head : ℕ) → IsChain cells (λ (c : ℕ). false ≡ true) rank head 0
nothing_ahead cells rank head = record {
  below = λ c is. absurd (clash false is refl);
  first = λ some. absurd (omega arith);
  next = λ c is pos. absurd (clash false is refl);
  apart = λ c d is js e. absurd (clash false is refl);
}

-- a watch behind those that are in chains put onto a literal
pub walk_fresh : (variables : ℕ) (chains : List Chain) (cells : List Cell) (upto : ℕ) (a x : Literal) (head : ℕ) (chain : Chain) (cell : Cell) → IsWalking variables chains cells upto a head 0 → upto < length cells → x.variable ≤ variables → chain ≡ record { head = upto; len = (chain_at chains x).len + 1 } → cell ≡ record { lit = Some x; next = (chain_at chains x).head } → IsWalking variables (set chains (index_of x) chain) (set cells upto cell) (upto + 1) a head 0
walk_fresh variables chains cells upto a x head chain cell w fits range is_chain is_cell =
    let index : index_of x < length chains = omega (arith, index_below variables x range, w.size) in
    let sum = sum_by-set chain_len chains (index_of x) chain no_chain index in
    let off : w.on upto ≡ false = elim (cases_Bool (w.on upto)) [
      | inl t ↦ absurd (omega (arith, w.on_below upto t))
      | inr f ↦ f
    ] in
    record {
      on = with w.on upto true;
      rest = λ c. false;
      rank = with w.rank upto (chain_at chains x).len;
      size = length-set chains (index_of x) chain ∙ w.size;
      fits = omega (arith, fits, length-set cells upto cell);
      total = omega (arith, w.total, sum, ap chain_len is_chain);
      each = λ l lr. each_attach chains cells w.on w.rank upto x l chain cell index fits off is_chain is_cell (w.each x range) (w.each l lr);
      ahead = nothing_ahead (set cells upto cell) (with w.rank upto (chain_at chains x).len) head;
      of_walked = λ c is. absurd (clash false is refl);
      rest_below = λ c is. absurd (clash false is refl);
      on_below = λ c is. elim (cases_eq c upto) [
        | inl e ↦ omega arith
        | inr nc ↦ omega (arith, w.on_below c (sym (with_other w.on upto true c nc) ∙ is))
      ];
      loose = λ c is. absurd (clash false is refl);
      all = λ c l lt is. elim (cases_eq c upto) [
        | inl e ↦ inl (with_same w.on upto true c e)
        | inr nc ↦ elim (w.all c l (omega arith) (sym (lit_set cells upto cell c nc) ∙ is)) [
          | inl o ↦ inl (with_other w.on upto true c nc ∙ o)
          | inr r ↦ absurd (none_ahead variables chains cells upto a head w c r)
        ]
      ];
    }

-- an empty watch behind those that are in chains
pub walk_none : (variables : ℕ) (chains : List Chain) (cells : List Cell) (upto : ℕ) (a : Literal) (head : ℕ) → IsWalking variables chains cells upto a head 0 → upto < length cells → lit_at cells upto ≡ None → IsWalking variables chains cells (upto + 1) a head 0
walk_none variables chains cells upto a head w fits none = record {
  on = w.on;
  rest = w.rest;
  rank = w.rank;
  size = w.size;
  fits = omega arith;
  total = omega (arith, w.total);
  each = w.each;
  ahead = w.ahead;
  of_walked = w.of_walked;
  rest_below = λ c is. omega (arith, w.rest_below c is);
  on_below = λ c is. omega (arith, w.on_below c is);
  loose = w.loose;
  all = λ c l lt is. elim (cases_eq c upto) [
    | inl e ↦ absurd (let clash' : Some l ≡ None = sym is ∙ ap (lit_at cells) e ∙ none in cc)
    | inr nc ↦ w.all c l (omega arith) is
  ];
}

-- where nothing is left of a walk, the literal doesn't matter
pub walk_any : (variables : ℕ) (chains : List Chain) (cells : List Cell) (upto : ℕ) (a b : Literal) (head head' : ℕ) → IsWalking variables chains cells upto a head 0 → IsWalking variables chains cells upto b head' 0
walk_any variables chains cells upto a b head head' w = record {
  on = w.on;
  rest = λ c. false;
  rank = w.rank;
  size = w.size;
  fits = w.fits;
  total = w.total;
  each = w.each;
  ahead = nothing_ahead cells w.rank head';
  of_walked = λ c is. absurd (clash false is refl);
  rest_below = λ c is. absurd (clash false is refl);
  on_below = w.on_below;
  loose = λ c is. absurd (clash false is refl);
  all = λ c l lt is. elim (w.all c l lt is) [
    | inl o ↦ inl o
    | inr r ↦ absurd (none_ahead variables chains cells upto a head w c r)
  ];
}

-- whether a literal is watched
abbrev pub is_lit : Option Literal → Literal → Bool
is_lit None l = false
is_lit (Some k) l = index_of k == index_of l

pub is_lit-true : (o : Option Literal) (l : Literal) → is_lit o l ≡ true → o ≡ Some l
is_lit-true None l h = cc
is_lit-true (Some k) l h = ap Some (index_apart k l (eqb-true (index_of k) (index_of l) h))

pub is_lit-same : (o : Option Literal) (l : Literal) → o ≡ Some l → is_lit o l ≡ true
is_lit-same None l h = cc
is_lit-same (Some k) l h = eq-eqb (index_of k) (index_of l) (ap index_of (some_same h))

both_true : (a b : Bool) → (a && b) ≡ true → (a ≡ true) × (b ≡ true)
both_true true true h = (refl, refl)
both_true true false h = cc
both_true false b h = cc

both_from : (a b : Bool) → a ≡ true → b ≡ true → (a && b) ≡ true
both_from true true h k = refl
both_from true false h k = cc
both_from false b h k = cc

not_true : (b : Bool) → not b ≡ true → b ≡ false
not_true true h = cc
not_true false h = refl

not_from : (b : Bool) → b ≡ false → not b ≡ true
not_from true h = cc
not_from false h = refl

and_not : (a b : Bool) → (a && b) ≡ true → (a && not b) ≡ false
and_not true true h = refl
and_not true false h = cc
and_not false b h = cc

-- watches added behind the others
pub walk_grow : (variables : ℕ) (chains : List Chain) (cells more : List Cell) (upto : ℕ) (a : Literal) (head : ℕ) → IsWalking variables chains cells upto a head 0 → IsWalking variables chains (cells ++ more) upto a head 0
walk_grow variables chains cells more upto a head w =
    let same : (c : ℕ) → c < upto → get_or (cells ++ more) c no_cell ≡ get_or cells c no_cell = λ c lt. get_or_append_left cells more no_cell c (omega (arith, w.fits)) in
    record {
      on = w.on;
      rest = λ c. false;
      rank = w.rank;
      size = w.size;
      fits = omega (arith, w.fits, length-append cells more);
      total = w.total;
      each = λ l lr. chain_frame cells (cells ++ more) (IsOn cells w.on l) (IsOn (cells ++ more) w.on l) w.rank w.rank (chain_at chains l).head (chain_at chains l).len
          (λ c is. (is.0, ap (λ (x : Cell). x.lit) (sym (same c (w.on_below c is.0))) ∙ is.1))
          (λ c is. (is.0, ap (λ (x : Cell). x.lit) (same c (w.on_below c is.0)) ∙ is.1))
          (λ c is. ap (λ (x : Cell). x.next) (same c (w.on_below c is.0)))
          (λ c is. refl)
          (w.each l lr);
      ahead = nothing_ahead (cells ++ more) w.rank head;
      of_walked = λ c is. absurd (clash false is refl);
      rest_below = λ c is. absurd (clash false is refl);
      on_below = w.on_below;
      loose = λ c is. absurd (clash false is refl);
      all = λ c l lt is. elim (w.all c l lt (ap (λ (x : Cell). x.lit) (sym (same c lt)) ∙ is)) [
        | inl o ↦ inl o
        | inr r ↦ absurd (none_ahead variables chains cells upto a head w c r)
      ];
    }

-- no watch is in a chain
pub walk_init : (variables : ℕ) (chains : List Chain) (cells : List Cell) (a : Literal) (head : ℕ) → chains ≡ replicate (2 * variables + 2) no_chain → IsWalking variables chains cells 0 a head 0
walk_init variables chains cells a head is =
    let size : length chains ≡ 2 * variables + 2 = ap length is ∙ length-replicate (2 * variables + 2) no_chain in
    record {
      on = λ c. false;
      rest = λ c. false;
      rank = λ c. 0;
      size = size;
      fits = omega arith;
      total = (let s = ap (sum_by chain_len) is ∙ sum_by-replicate chain_len (2 * variables + 2) no_chain in omega (arith, s));
      each = λ l lr. (
          let index = index_below variables l lr in
          let at : chain_at chains l ≡ no_chain = ap (λ (xs : List Chain). get_or xs (index_of l) no_chain) is ∙ get_or-replicate (2 * variables + 2) (index_of l) no_chain no_chain index in
          subst (λ (y : Chain). IsChain cells (IsOn cells (λ c. false) l) (λ c. 0) y.head y.len) (sym at) (record {
            below = λ c is. absurd (clash false is.0 refl);
            first = λ some. absurd (omega arith);
            next = λ c is pos. absurd (clash false is.0 refl);
            apart = λ c d is js e. absurd (clash false is.0 refl);
          }));
      ahead = nothing_ahead cells (λ c. 0) head;
      of_walked = λ c is. absurd (clash false is refl);
      rest_below = λ c is. absurd (clash false is refl);
      on_below = λ c is. absurd (clash false is refl);
      loose = λ c is. absurd (clash false is refl);
      all = λ c l lt is. absurd (omega arith);
    }
