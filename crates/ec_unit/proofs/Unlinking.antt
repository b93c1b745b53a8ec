-- a watch taken out of its chain, wherever it stands there
use Rattle.std.proofs.Common.{◌≡◌, ◌≢◌, ℕ, ◌+◌, ◌-◌, ◌<◌, ◌≤◌, ◌⊎◌, Bool, true, false, cond, List, Option, Some, None, length, get_or, set, nat_le, sum_by, refl, sym, ap, ◌∙◌, subst, inl, inr, arith}
use Rattle.std.proofs.lemmas.Bool.{cases_lt, cases_eq, cases_Bool, cond-true, cond-false, leb-true, leb-false}
use Rattle.std.proofs.lemmas.List.{length-set, get_or-set_same, get_or-set_other}
use Rattle.std.proofs.lemmas.List.Sums.{sum_by-set}
use Rattle.ec_clause.specs.Literal.{Literal}
use Rattle.ec_unit.specs.declared.chains.Chain.{Chain}
use Rattle.ec_unit.specs.declared.chains.Cell.{Cell}
use Rattle.ec_unit.specs.Chained.{index_of, no_chain, no_cell, chain_at, lit_at, next_at, chain_len, IsChain, IsOn, IsBehind, Unlinks, IsWalking}
use Rattle.ec_unit.specs.Leaning.{no_seen}
use Rattle.ec_unit.proofs.Chaining.{with, with_same, with_other, clash, chain_frame, index_apart, index_below, is_lit, is_lit-true, is_lit-same, none_ahead, nothing_ahead, some_same, walk_step}

-- a member taken out of a chain: its link is that of the one before, and those before have a rank less
chain_remove : (cells cells' : List Cell) (m m' : ℕ → Type 0) (rank rank' : ℕ → ℕ) (head head' len place : ℕ) → ((c : ℕ) → m' c → m c × (c ≢ place)) → ((c : ℕ) → m c → c ≢ place → m' c) → m place → ((c : ℕ) → m c → 0 < rank c → next_at cells c ≡ place → next_at cells' c ≡ next_at cells place) → ((c : ℕ) → m c → 0 < rank c → c ≢ place → next_at cells c ≢ place → next_at cells' c ≡ next_at cells c) → (head ≡ place → head' ≡ next_at cells place) → (head ≢ place → head' ≡ head) → ((c : ℕ) → m c → c ≢ place → rank place < rank c → rank' c + 1 ≡ rank c) → ((c : ℕ) → m c → c ≢ place → rank c < rank place → rank' c ≡ rank c) → IsChain cells m rank head (len + 1) → IsChain cells' m' rank' head' len
chain_remove cells cells' m m' rank rank' head head' len place back forth here jump keep at_head off_head high low h =
    let top = h.below place here in
    let side : (c : ℕ) → m c → c ≢ place → (rank c < rank place) ⊎ (rank place < rank c) = λ c o nc. elim (cases_lt (rank c) (rank place)) [
      | inl l ↦ inl l
      | inr g ↦ (let ne : rank c ≢ rank place = λ e. nc (h.apart c place o here e) in inr (omega arith))
    ] in
    record {
      below = λ c is. (
          let o = back c is in
          elim (side c o.0 o.1) [
            | inl l ↦ omega (arith, low c o.0 o.1 l)
            | inr g ↦ omega (arith, high c o.0 o.1 g, h.below c o.0)
          ]);
      first = λ some. (
          let f = h.first (omega arith) in
          elim (cases_eq head place) [
            | inl e ↦ (
                let n = h.next place here (omega (arith, ap rank e, f.1)) in
                let ne : next_at cells place ≢ place = λ e'. omega (arith, ap rank e', n.1) in
                let r = low (next_at cells place) n.0 ne (omega (arith, n.1)) in
                (subst m' (sym (at_head e)) (forth (next_at cells place) n.0 ne), omega (arith, ap rank' (at_head e), r, n.1, ap rank e, f.1)))
            | inr ne ↦ (
                let ne' : rank head ≢ rank place = λ e. ne (h.apart head place f.0 here e) in
                let r = high head f.0 ne (omega (arith, f.1, top, ne')) in
                (subst m' (sym (off_head ne)) (forth head f.0 ne), omega (arith, ap rank' (off_head ne), r, f.1)))
          ]);
      next = λ c is pos. (
          let o = back c is in
          elim (side c o.0 o.1) [
            | inl l ↦ (
                let r = low c o.0 o.1 l in
                let n = h.next c o.0 (omega (arith, r)) in
                let ne : next_at cells c ≢ place = λ e. omega (arith, ap rank e, n.1) in
                let to = keep c o.0 (omega (arith, r)) o.1 ne in
                let r' = low (next_at cells c) n.0 ne (omega (arith, n.1)) in
                (subst m' (sym to) (forth (next_at cells c) n.0 ne), omega (arith, ap rank' to, r', n.1, r)))
            | inr g ↦ (
                let r = high c o.0 o.1 g in
                let n = h.next c o.0 (omega arith) in
                elim (cases_eq (next_at cells c) place) [
                  | inl e ↦ (
                      let to = jump c o.0 (omega arith) e in
                      let n' = h.next place here (omega (arith, r, n.1, ap rank e)) in
                      let ne : next_at cells place ≢ place = λ e'. omega (arith, ap rank e', n'.1) in
                      let r' = low (next_at cells place) n'.0 ne (omega (arith, n'.1)) in
                      (subst m' (sym to) (forth (next_at cells place) n'.0 ne), omega (arith, ap rank' to, r', n'.1, r, n.1, ap rank e)))
                  | inr ne ↦ (
                      let to = keep c o.0 (omega arith) o.1 ne in
                      let ne' : rank (next_at cells c) ≢ rank place = λ e. ne (h.apart (next_at cells c) place n.0 here e) in
                      let r' = high (next_at cells c) n.0 ne (omega (arith, n.1, ne')) in
                      (subst m' (sym to) (forth (next_at cells c) n.0 ne), omega (arith, ap rank' to, r', n.1, r)))
                ])
          ]);
      apart = λ c d is js e. (
          let o = back c is in
          let p = back d js in
          elim (side c o.0 o.1) [
            | inl l ↦ elim (side d p.0 p.1) [
              | inl k ↦ h.apart c d o.0 p.0 (omega (arith, low c o.0 o.1 l, low d p.0 p.1 k, e))
              | inr k ↦ absurd (omega (arith, low c o.0 o.1 l, high d p.0 p.1 k, e))
            ]
            | inr g ↦ elim (side d p.0 p.1) [
              | inl k ↦ absurd (omega (arith, high c o.0 o.1 g, low d p.0 p.1 k, e))
              | inr k ↦ h.apart c d o.0 p.0 (omega (arith, high c o.0 o.1 g, high d p.0 p.1 k, e))
            ]
          ]);
    }

-- the ranks without a watch: those before it in its chain have a rank less
abbrev pub less_rank : List Cell → (ℕ → ℕ) → Literal → ℕ → ℕ → ℕ
less_rank cells rank a place c = cond (nat_le (rank c) (rank place)) (rank c) (cond (is_lit (lit_at cells c) a) (rank c - 1) (rank c))

less_low : (cells : List Cell) (rank : ℕ → ℕ) (a : Literal) (place c : ℕ) → rank c ≤ rank place → less_rank cells rank a place c ≡ rank c
less_low cells rank a place c le = elim (cases_Bool (nat_le (rank c) (rank place))) [
  | inl t ↦ cond-true (nat_le (rank c) (rank place)) _ _ t
  | inr f ↦ absurd (omega (arith, leb-false _ _ f))
]

less_high : (cells : List Cell) (rank : ℕ → ℕ) (a : Literal) (place c : ℕ) → rank place < rank c → lit_at cells c ≡ Some a → less_rank cells rank a place c + 1 ≡ rank c
less_high cells rank a place c lt is = elim (cases_Bool (nat_le (rank c) (rank place))) [
  | inl t ↦ absurd (omega (arith, leb-true _ _ t))
  | inr f ↦ (
      let e : less_rank cells rank a place c ≡ rank c - 1 = cond-false (nat_le (rank c) (rank place)) _ _ f ∙ cond-true (is_lit (lit_at cells c) a) _ _ (is_lit-same (lit_at cells c) a is) in
      omega (arith, e))
]

less_other : (cells : List Cell) (rank : ℕ → ℕ) (a : Literal) (place c : ℕ) → is_lit (lit_at cells c) a ≡ false → less_rank cells rank a place c ≡ rank c
less_other cells rank a place c is = elim (cases_Bool (nat_le (rank c) (rank place))) [
  | inl t ↦ cond-true (nat_le (rank c) (rank place)) _ _ t
  | inr f ↦ cond-false (nat_le (rank c) (rank place)) _ _ f ∙ cond-false (is_lit (lit_at cells c) a) _ _ is
]

-- what becomes of cells and chains, by the watch before
pub record HasLeft (chains chains' : List Chain) (cells cells' : List Cell) (on : ℕ → Bool) (rank : ℕ → ℕ) (a : Literal) (place : ℕ) : Type 0 where
  pub head' : ℕ
  pub size : length cells' ≡ length cells
  pub lits : (c : ℕ) → lit_at cells' c ≡ lit_at cells c
  pub jump : (c : ℕ) → IsOn cells on a c → 0 < rank c → next_at cells c ≡ place → next_at cells' c ≡ next_at cells place
  pub keep : (c : ℕ) → IsOn cells on a c → 0 < rank c → next_at cells c ≢ place → next_at cells' c ≡ next_at cells c
  pub other : (c : ℕ) (l : Literal) → lit_at cells c ≡ Some l → l ≢ a → next_at cells' c ≡ next_at cells c
  pub is : chains' ≡ set chains (index_of a) (record { head = head'; len = (chain_at chains a).len - 1 })
  pub at_head : (chain_at chains a).head ≡ place → head' ≡ next_at cells place
  pub off_head : (chain_at chains a).head ≢ place → head' ≡ (chain_at chains a).head

pub has_left : (chains chains' : List Chain) (cells cells' : List Cell) (on : ℕ → Bool) (rank : ℕ → ℕ) (a : Literal) (last : Option ℕ) (place : ℕ) → IsChain cells (IsOn cells on a) rank (chain_at chains a).head (chain_at chains a).len → ((c : ℕ) → on c ≡ true → c < length cells) → IsOn cells on a place → IsBehind on rank chains cells a last place (rank place + 1) → Unlinks last chains cells a place chains' cells' → HasLeft chains chains' cells cells' on rank a place
has_left chains chains' cells cells' on rank a None place h fits here behind u =
    let top : (c : ℕ) → IsOn cells on a c → next_at cells c ≡ place → 0 < rank c → ⊥ = λ c o e pos. (
    let n = h.next c o pos in
    omega (arith, ap rank e, n.1, h.below c o, behind)) in
    let f = h.first (omega (arith, behind)) in
    let same : (chain_at chains a).head ≡ place = h.apart (chain_at chains a).head place f.0 here (omega (arith, f.1, behind)) in
    record {
      head' = next_at cells place;
      size = ap length u.1;
      lits = λ c. ap (λ (xs : List Cell). lit_at xs c) u.1;
      jump = λ c o pos e. absurd (top c o e pos);
      keep = λ c o pos ne. ap (λ (xs : List Cell). next_at xs c) u.1;
      other = λ c l is ne. ap (λ (xs : List Cell). next_at xs c) u.1;
      is = u.0;
      at_head = λ e. refl;
      off_head = λ ne. absurd (ne same);
    }
has_left chains chains' cells cells' on rank a (Some p) place h fits here behind u =
    let cell : Cell = record { lit = lit_at cells p; next = next_at cells place } in
    let within = fits p behind.0.0 in
    let link = behind.2 (omega arith) in
    let at_p : next_at cells' p ≡ next_at cells place = ap (λ (xs : List Cell). next_at xs p) u.1 ∙ ap (λ (x : Cell). x.next) (get_or-set_same cells p cell no_cell within) in
    let off_p : (c : ℕ) → c ≢ p → next_at cells' c ≡ next_at cells c = λ c ne. ap (λ (xs : List Cell). next_at xs c) u.1 ∙ ap (λ (x : Cell). x.next) (get_or-set_other cells p c cell no_cell ne) in
    let only : (c : ℕ) → IsOn cells on a c → 0 < rank c → next_at cells c ≡ place → c ≡ p = λ c o pos e. (
    let n = h.next c o pos in
    h.apart c p o behind.0 (omega (arith, ap rank e, n.1, behind.1))) in
    record {
      head' = (chain_at chains a).head;
      size = ap length u.1 ∙ length-set cells p cell;
      lits = λ c. ap (λ (xs : List Cell). lit_at xs c) u.1 ∙ elim (cases_eq c p) [
        | inl e ↦ ap (lit_at (set cells p cell)) e ∙ ap (λ (x : Cell). x.lit) (get_or-set_same cells p cell no_cell within) ∙ ap (lit_at cells) (sym e)
        | inr ne ↦ ap (λ (x : Cell). x.lit) (get_or-set_other cells p c cell no_cell ne)
      ];
      jump = λ c o pos e. ap (next_at cells') (only c o pos e) ∙ at_p;
      keep = λ c o pos ne. off_p c (λ e. ne (ap (next_at cells) e ∙ link));
      other = λ c l is ne. off_p c (λ e. ne (some_same (sym is ∙ ap (lit_at cells) e ∙ behind.0.1)));
      is = u.0;
      at_head = λ e. absurd (
          let f = h.first (omega (arith, h.below p behind.0)) in
          omega (arith, f.1, ap rank e, h.below p behind.0, behind.1));
      off_head = λ ne. refl;
    }

-- the watch taken out is in no chain, and the others are where they were
abbrev pub Unlinked : ℕ → List Chain → List Cell → ℕ → Literal → ℕ → List Cell → (ℕ → Bool) → (ℕ → ℕ) → Type 0
Unlinked variables chains' cells' upto a place cells on rank = (v : IsWalking variables chains' cells' upto a place 1) × ((c : ℕ) → c ≢ place → v.on c ≡ on c) × ((c : ℕ) → c ≢ place → rank c ≤ rank place → v.rank c ≡ rank c) × ((c : ℕ) → c ≢ place → lit_at cells c ≡ Some a → rank place < rank c → v.rank c + 1 ≡ rank c)

pub walk_unlink : (variables : ℕ) (chains chains' : List Chain) (cells cells' : List Cell) (upto : ℕ) (a : Literal) (place : ℕ) (w : IsWalking variables chains cells upto no_seen.lit 0 0) → a.variable ≤ variables → IsOn cells w.on a place → HasLeft chains chains' cells cells' w.on w.rank a place → Unlinked variables chains' cells' upto a place cells w.on w.rank
walk_unlink variables chains chains' cells cells' upto a place w range here left =
    let index : index_of a < length chains = omega (arith, index_below variables a range, w.size) in
    let on' : ℕ → Bool = with w.on place false in
    let rank' : ℕ → ℕ = with (less_rank cells w.rank a place) place 0 in
    let chain : Chain = record { head = left.head'; len = (chain_at chains a).len - 1 } in
    let whole = w.each a range in
    let some : 0 < (chain_at chains a).len = omega (arith, whole.below place here) in
    let sum = sum_by-set chain_len chains (index_of a) chain no_chain index in
    let gone : (c : ℕ) → on' c ≡ true → c ≢ place = λ c is e. clash (on' c) is (with_same w.on place false c e) in
    let v : IsWalking variables chains' cells' upto a place 1 = record {
      on = on';
      rest = with (λ c. false) place true;
      rank = rank';
      size = ap length left.is ∙ length-set chains (index_of a) chain ∙ w.size;
      fits = omega (arith, w.fits, left.size);
      total = omega (arith, w.total, sum, ap (sum_by chain_len) left.is, some);
      each = λ l lr. elim (cases_eq (index_of l) (index_of a)) [
        | inl e ↦ (
            let same : l ≡ a = index_apart l a e in
            let at : chain_at chains' a ≡ chain = ap (λ (xs : List Chain). chain_at xs a) left.is ∙ get_or-set_same chains (index_of a) chain no_chain index in
            let longer : (chain_at chains a).len ≡ ((chain_at chains a).len - 1) + 1 = omega (arith, some) in
            let removed = chain_remove cells cells' (IsOn cells w.on a) (IsOn cells' on' a) w.rank rank' (chain_at chains a).head left.head' ((chain_at chains a).len - 1) place
            (λ c is. (let ne = gone c is.0 in ((sym (with_other w.on place false c ne) ∙ is.0, sym (left.lits c) ∙ is.1), ne)))
            (λ c is ne. (with_other w.on place false c ne ∙ is.0, left.lits c ∙ is.1))
            here
            left.jump
            (λ c is pos nc ne. left.keep c is pos ne)
            left.at_head
            left.off_head
            (λ c is ne lt. omega (arith, with_other (less_rank cells w.rank a place) place 0 c ne, less_high cells w.rank a place c lt is.1))
            (λ c is ne lt. with_other (less_rank cells w.rank a place) place 0 c ne ∙ less_low cells w.rank a place c (omega arith))
            (subst (IsChain cells (IsOn cells w.on a) w.rank (chain_at chains a).head) longer whole) in
            let to = subst (λ (y : Chain). IsChain cells' (IsOn cells' on' a) rank' y.head y.len) (sym at) removed in
            subst (λ (y : Literal). IsChain cells' (IsOn cells' on' y) rank' (chain_at chains' y).head (chain_at chains' y).len) (sym same) to)
        | inr ne ↦ (
            let at : chain_at chains' l ≡ chain_at chains l = ap (λ (xs : List Chain). chain_at xs l) left.is ∙ get_or-set_other chains (index_of a) (index_of l) chain no_chain ne in
            let differs : (c : ℕ) → IsOn cells w.on l c → c ≢ place = λ c is e. ne (ap index_of (some_same (sym is.1 ∙ ap (lit_at cells) e ∙ here.1))) in
            let framed = chain_frame cells cells' (IsOn cells w.on l) (IsOn cells' on' l) w.rank rank' (chain_at chains l).head (chain_at chains l).len
            (λ c is. (let nc = gone c is.0 in (sym (with_other w.on place false c nc) ∙ is.0, sym (left.lits c) ∙ is.1)))
            (λ c is. (with_other w.on place false c (differs c is) ∙ is.0, left.lits c ∙ is.1))
            (λ c is. left.other c l is.1 (λ e. ne (ap index_of e)))
            (λ c is. with_other (less_rank cells w.rank a place) place 0 c (differs c is) ∙ less_other cells w.rank a place c (elim (cases_Bool (is_lit (lit_at cells c) a)) [
              | inl t ↦ absurd (ne (ap index_of (some_same (sym is.1 ∙ is_lit-true (lit_at cells c) a t))))
              | inr f ↦ f
            ]))
            (w.each l lr) in
            subst (λ (y : Chain). IsChain cells' (IsOn cells' on' l) rank' y.head y.len) (sym at) framed)
      ];
      ahead = (
          let only : (c : ℕ) → with (λ c. false) place true c ≡ true → c ≡ place = λ c is. elim (cases_eq c place) [
            | inl e ↦ e
            | inr ne ↦ absurd (clash (with (λ c. false) place true c) is (with_other (λ c. false) place true c ne))
          ] in
          record {
            below = λ c is. omega (arith, with_same (less_rank cells w.rank a place) place 0 c (only c is));
            first = λ some'. (with_same (λ c. false) place true place refl, omega (arith, with_same (less_rank cells w.rank a place) place 0 place refl));
            next = λ c is pos. absurd (omega (arith, with_same (less_rank cells w.rank a place) place 0 c (only c is)));
            apart = λ c d is js e. only c is ∙ sym (only d js);
          });
      of_walked = λ c is. elim (cases_eq c place) [
        | inl e ↦ left.lits c ∙ ap (lit_at cells) e ∙ here.1
        | inr ne ↦ absurd (clash (with (λ c. false) place true c) is (with_other (λ c. false) place true c ne))
      ];
      rest_below = λ c is. elim (cases_eq c place) [
        | inl e ↦ omega (arith, w.on_below place here.0)
        | inr ne ↦ absurd (clash (with (λ c. false) place true c) is (with_other (λ c. false) place true c ne))
      ];
      on_below = λ c is. w.on_below c (sym (with_other w.on place false c (gone c is)) ∙ is);
      loose = λ c is. elim (cases_eq c place) [
        | inl e ↦ with_same w.on place false c e
        | inr ne ↦ absurd (clash (with (λ c. false) place true c) is (with_other (λ c. false) place true c ne))
      ];
      all = λ c l lt is. elim (cases_eq c place) [
        | inl e ↦ inr (with_same (λ c. false) place true c e)
        | inr ne ↦ elim (w.all c l lt (sym (left.lits c) ∙ is)) [
          | inl o ↦ inl (with_other w.on place false c ne ∙ o)
          | inr r ↦ absurd (none_ahead variables chains cells upto no_seen.lit 0 w c r)
        ]
      ];
    } in (
      v,
      λ c ne. with_other w.on place false c ne,
      λ c ne le. with_other (less_rank cells w.rank a place) place 0 c ne ∙ less_low cells w.rank a place c le,
      λ c ne is lt. omega (arith, with_other (less_rank cells w.rank a place) place 0 c ne, less_high cells w.rank a place c lt is),
    )

-- a watch taken out of one chain is put onto another literal
abbrev pub Moved : ℕ → List Chain → List Cell → ℕ → Literal → ℕ → List Cell → (ℕ → Bool) → (ℕ → ℕ) → Type 0
Moved variables chains' cells' upto a place cells on rank = (z : IsWalking variables chains' cells' upto no_seen.lit 0 0) × ((c : ℕ) → c ≢ place → z.on c ≡ on c) × ((c : ℕ) → c ≢ place → rank c ≤ rank place → z.rank c ≡ rank c) × ((c : ℕ) → c ≢ place → lit_at cells c ≡ Some a → rank place < rank c → z.rank c + 1 ≡ rank c)

walk_move : (variables : ℕ) (chains chains' : List Chain) (cells cells' : List Cell) (upto : ℕ) (a x : Literal) (place : ℕ) (chain : Chain) (cell : Cell) (w : IsWalking variables chains cells upto no_seen.lit 0 0) → a.variable ≤ variables → x.variable ≤ variables → IsOn cells w.on a place → HasLeft chains chains' cells cells' w.on w.rank a place → chain ≡ record { head = place; len = (chain_at chains' x).len + 1 } → cell ≡ record { lit = Some x; next = (chain_at chains' x).head } → Moved variables (set chains' (index_of x) chain) (set cells' place cell) upto a place cells w.on w.rank
walk_move variables chains chains' cells cells' upto a x place chain cell w range range' here left is_chain is_cell =
    let u = walk_unlink variables chains chains' cells cells' upto a place w range here left in
    let s = walk_step variables chains' cells' upto a x place 1 0 chain cell refl u.0 range' is_chain is_cell in
    let z : IsWalking variables (set chains' (index_of x) chain) (set cells' place cell) upto no_seen.lit 0 0 = record {
      on = s.0.on;
      rest = λ c. false;
      rank = s.0.rank;
      size = s.0.size;
      fits = s.0.fits;
      total = s.0.total;
      each = s.0.each;
      ahead = nothing_ahead (set cells' place cell) s.0.rank 0;
      of_walked = λ c is. absurd (clash false is refl);
      rest_below = λ c is. absurd (clash false is refl);
      on_below = s.0.on_below;
      loose = λ c is. absurd (clash false is refl);
      all = λ c l lt is. elim (s.0.all c l lt is) [
        | inl o ↦ inl o
        | inr r ↦ absurd (none_ahead variables (set chains' (index_of x) chain) (set cells' place cell) upto a (next_at cells' place) s.0 c r)
      ];
    } in (
      z,
      λ c ne. s.1 c ne ∙ u.1 c ne,
      λ c ne le. s.2 c ne ∙ u.2 c ne le,
      λ c ne is lt. omega (arith, s.2 c ne, u.3 c ne is lt),
    )

pub moved_at : (variables : ℕ) (chains chains' chains'' : List Chain) (cells cells' cells'' : List Cell) (upto : ℕ) (a x : Literal) (place : ℕ) (chain : Chain) (cell : Cell) (w : IsWalking variables chains cells upto no_seen.lit 0 0) → a.variable ≤ variables → x.variable ≤ variables → IsOn cells w.on a place → HasLeft chains chains' cells cells' w.on w.rank a place → chain ≡ record { head = place; len = (chain_at chains' x).len + 1 } → cell ≡ record { lit = Some x; next = (chain_at chains' x).head } → chains'' ≡ set chains' (index_of x) chain → cells'' ≡ set cells' place cell → Moved variables chains'' cells'' upto a place cells w.on w.rank
moved_at variables chains chains' chains'' cells cells' cells'' upto a x place chain cell w range range' here left is_chain is_cell f g =
    let m = walk_move variables chains chains' cells cells' upto a x place chain cell w range range' here left is_chain is_cell in
    subst (λ (xs : List Cell). Moved variables chains'' xs upto a place cells w.on w.rank) (sym g) (subst (λ (xs : List Chain). Moved variables xs (set cells' place cell) upto a place cells w.on w.rank) (sym f) m)

-- so the walk stands where it stood, with one watch less left
pub behind_moved : (on on' : ℕ → Bool) (rank rank' : ℕ → ℕ) (chains chains' : List Chain) (cells cells' : List Cell) (a : Literal) (last : Option ℕ) (place head' left' : ℕ) → IsBehind on rank chains cells a last place (left' + 1) → rank place ≡ left' → ((c : ℕ) → c ≢ place → on' c ≡ on c) → ((c : ℕ) → c ≢ place → lit_at cells' c ≡ lit_at cells c) → ((c : ℕ) → c ≢ place → lit_at cells c ≡ Some a → rank place < rank c → rank' c + 1 ≡ rank c) → (chain_at chains' a).len + 1 ≡ (chain_at chains a).len → ((c : ℕ) → IsOn cells on a c → c ≢ place → 0 < rank c → next_at cells c ≡ place → next_at cells' c ≡ head') → IsBehind on' rank' chains' cells' a last head' left'
behind_moved on on' rank rank' chains chains' cells cells' a None place head' left' behind at on_same lits high len link = omega (arith, behind, len)
behind_moved on on' rank rank' chains chains' cells cells' a (Some p) place head' left' behind at on_same lits high len link =
    let ne : p ≢ place = λ e. omega (arith, ap rank e, behind.1, at) in (
      (on_same p ne ∙ behind.0.0, lits p ne ∙ behind.0.1),
      omega (arith, high p ne behind.0.1 (omega (arith, behind.1, at)), behind.1),
      λ some. link p behind.0 ne (omega (arith, behind.1)) (behind.2 (omega arith)),
    )

-- no chain gets longer
set_less : (chains chains' : List Chain) (a x : Literal) (chain : Chain) → index_of a < length chains → chain.len ≤ (chain_at chains a).len → chains' ≡ set chains (index_of a) chain → (chain_at chains' x).len ≤ (chain_at chains x).len
set_less chains chains' a x chain index le is = elim (cases_eq (index_of x) (index_of a)) [
  | inl e ↦ (
      let at : chain_at chains' x ≡ chain = ap (λ (xs : List Chain). chain_at xs x) is ∙ ap (λ i. get_or (set chains (index_of a) chain) i no_chain) e ∙ get_or-set_same chains (index_of a) chain no_chain index in
      let was : chain_at chains x ≡ chain_at chains a = ap (λ i. get_or chains i no_chain) e in
      omega (arith, le, ap (λ (y : Chain). y.len) at, ap (λ (y : Chain). y.len) was))
  | inr ne ↦ (
      let at : chain_at chains' x ≡ chain_at chains x = ap (λ (xs : List Chain). chain_at xs x) is ∙ get_or-set_other chains (index_of a) (index_of x) chain no_chain ne in
      omega (arith, ap (λ (y : Chain). y.len) at))
]

pub unlinks_less : (last : Option ℕ) (chains chains' : List Chain) (cells cells' : List Cell) (a x : Literal) (place : ℕ) → index_of a < length chains → Unlinks last chains cells a place chains' cells' → (chain_at chains' x).len ≤ (chain_at chains x).len
unlinks_less None chains chains' cells cells' a x place index u = set_less chains chains' a x _ index (omega arith) u.0
unlinks_less (Some p) chains chains' cells cells' a x place index u = set_less chains chains' a x _ index (omega arith) u.0

pub unlinks_size : (last : Option ℕ) (chains chains' : List Chain) (cells cells' : List Cell) (a : Literal) (place : ℕ) → Unlinks last chains cells a place chains' cells' → (length chains' ≡ length chains) × (length cells' ≡ length cells)
unlinks_size None chains chains' cells cells' a place u = (ap length u.0 ∙ length-set chains (index_of a) _, ap length u.1)
unlinks_size (Some p) chains chains' cells cells' a place u = (ap length u.0 ∙ length-set chains (index_of a) _, ap length u.1 ∙ length-set cells p _)

pub chain_few : (variables : ℕ) (chains : List Chain) (cells : List Cell) (upto : ℕ) (x : Literal) → IsWalking variables chains cells upto no_seen.lit 0 0 → x.variable ≤ variables → (chain_at chains x).len ≤ upto
chain_few variables chains cells upto x w range =
    let index : index_of x < length chains = omega (arith, index_below variables x range, w.size) in
    omega (arith, sum_by-set chain_len chains (index_of x) no_chain no_chain index, w.total)
