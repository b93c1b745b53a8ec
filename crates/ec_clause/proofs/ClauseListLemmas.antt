-- a push onto the two vectors is a push onto the list of clauses
use Rattle.std.proofs.Common.{◌≡◌, ℕ, ◌+◌, ◌-◌, ◌^◌, ◌<◌, ◌≤◌, List, [], ◌∷◌, ◌++◌, length, take, drop, get_or, refl, sym, ap, subst, ◌∙◌, arith}
use Rattle.std.proofs.lemmas.List.{drop-append-le, take-append-le, take-append-drop, length-drop, length-append, length-take-le, take_all, drop_at, map-append, take-map, get_or-take, get_or_default}
use Rattle.std.proofs.lemmas.List.Quantifiers.{all_pairs_push}
use Rattle.std.proofs.lemmas.List.Elements.{All-head, All-tail, All-push}
use Rattle.std.specs.Prelude.{All}
use Rattle.ec_clause.specs.Literal.{Literal}
use Rattle.ec_clause.specs.ClauseList.{piece, pieces, AreSpans, IsClause}
use Rattle.ec_clause.specs.declared.clauses.Span.{Span}

pub piece-append : (lits new : List Literal) (s : Span) → s.start + s.len ≤ length lits → piece (lits ++ new) s ≡ piece lits s
piece-append lits new s h =
    let a : s.start ≤ length lits = omega arith in
    let b : s.start + s.len - s.start ≤ length (drop s.start lits) = omega (arith, length-drop s.start lits) in
    rw drop-append-le (rw take-append-le refl)

pub pieces-append : (lits new : List Literal) (spans : List Span) → All (λ (s : Span). s.start + s.len ≤ length lits) spans → pieces (lits ++ new) spans ≡ pieces lits spans
pieces-append lits new [] h = refl
pieces-append lits new (s ∷ ss) h =
    let a = piece-append lits new s (All-head (λ (s : Span). s.start + s.len ≤ length lits) s ss h) in
    let b = pieces-append lits new ss (All-tail (λ (s : Span). s.start + s.len ≤ length lits) s ss h) in
    cc

pub piece-new : (lits new : List Literal) (s : Span) → s.start ≡ length lits → s.len ≡ length new → piece (lits ++ new) s ≡ new
piece-new lits new s e f =
    rw (e, f) (rw drop_at (take_all (length lits + length new - length lits) new (omega arith)))

pub pieces_push : (lits new : List Literal) (spans : List Span) (s : Span) → All (λ (s : Span). s.start + s.len ≤ length lits) spans → s.start ≡ length lits → s.len ≡ length new → pieces (lits ++ new) (spans ++ s ∷ []) ≡ pieces lits spans ++ new ∷ []
pieces_push lits new spans s h e f =
    map-append (piece (lits ++ new)) spans (s ∷ []) ∙ ap (λ xs. xs ++ piece (lits ++ new) s ∷ []) (pieces-append lits new spans h) ∙ ap (λ x. pieces lits spans ++ x ∷ []) (piece-new lits new s e f)

pub AreSpans_push : (n : ℕ) (lits new : List Literal) (spans : List Span) (s : Span) → AreSpans n lits spans → IsClause n new → length spans + 1 < 2 ^ 32 → s.start ≡ length lits → s.len ≡ length new → AreSpans n (lits ++ new) (spans ++ s ∷ [])
AreSpans_push n lits new spans s h clause few e f = record {
  few = omega (arith, length-append spans (s ∷ []));
  small = h.small;
  behind = all_pairs_push (λ (s t : Span). s.start + s.len ≤ t.start) spans s h.behind (λ k d lt. omega (arith, h.within k d lt, e));
  within = All-push (λ (s : Span). s.start + s.len ≤ length (lits ++ new)) spans s (λ k d lt. omega (arith, h.within k d lt, length-append lits new)) (omega (arith, length-append lits new));
  each = All-push (λ (s : Span). IsClause n (piece (lits ++ new) s)) spans s (λ k d lt. rw (piece-append lits new (get_or spans k d) (h.within k d lt)) (h.each k d lt)) (rw (piece-new lits new s e f) clause);
}

-- the spans of the first clauses name pieces of the literals before the next one
pub front : (n : ℕ) (lits : List Literal) (spans : List Span) (len : ℕ) (s : Span) → AreSpans n lits spans → len < length spans → s ≡ get_or spans len s → All (λ (t : Span). t.start + t.len ≤ s.start) (take len spans)
front n lits spans len s h lt is k d below =
    let k_len : k < len = omega (arith, below, length-take-le len spans (omega arith)) in
    rw (get_or-take len spans k d k_len) (subst (λ (t : Span). (get_or spans k d).start + (get_or spans k d).len ≤ t.start) (get_or_default spans len d s lt ∙ sym is) (h.behind k len d k_len lt))

piece-take : (lits : List Literal) (n : ℕ) (s : Span) → n ≤ length lits → s.start + s.len ≤ n → piece (take n lits) s ≡ piece lits s
piece-take lits n s le h =
    sym (piece-append (take n lits) (drop n lits) s (omega (arith, length-take-le n lits le))) ∙ ap (λ xs. piece xs s) (take-append-drop n lits)

pieces-take : (lits : List Literal) (n : ℕ) (spans : List Span) → n ≤ length lits → All (λ (s : Span). s.start + s.len ≤ n) spans → pieces (take n lits) spans ≡ pieces lits spans
pieces-take lits n [] le h = refl
pieces-take lits n (s ∷ ss) le h =
    let a = piece-take lits n s le (All-head (λ (s : Span). s.start + s.len ≤ n) s ss h) in
    let b = pieces-take lits n ss le (All-tail (λ (s : Span). s.start + s.len ≤ n) s ss h) in
    cc

start_within : (n : ℕ) (lits : List Literal) (spans : List Span) (len : ℕ) (s : Span) → AreSpans n lits spans → len < length spans → s ≡ get_or spans len s → s.start ≤ length lits
start_within n lits spans len s h lt is =
    let w : s.start + s.len ≤ length lits = rw (← is) at (h.within len s lt) in omega (arith, w)

pub pieces_front : (n : ℕ) (lits : List Literal) (spans : List Span) (len : ℕ) (s : Span) → AreSpans n lits spans → len < length spans → s ≡ get_or spans len s → pieces (take s.start lits) (take len spans) ≡ take len (pieces lits spans)
pieces_front n lits spans len s h lt is =
    pieces-take lits s.start (take len spans) (start_within n lits spans len s h lt is) (front n lits spans len s h lt is) ∙ sym (take-map (piece lits) len spans)

pub AreSpans_front : (n : ℕ) (lits : List Literal) (spans : List Span) (len : ℕ) (s : Span) → AreSpans n lits spans → len < length spans → s ≡ get_or spans len s → AreSpans n (take s.start lits) (take len spans)
AreSpans_front n lits spans len s h lt is =
    let le = start_within n lits spans len s h lt is in
    let size : length (take len spans) ≡ len = length-take-le len spans (omega arith) in
    record {
      few = omega (arith, h.few);
      small = h.small;
      within = λ k d below. (let f = front n lits spans len s h lt is k d below in omega (arith, f, length-take-le s.start lits le));
      behind = λ i j d ij below. (
          let j_len : j < len = omega (arith, below, size) in
          let i_len : i < len = omega arith in
          rw (get_or-take len spans i d i_len, get_or-take len spans j d j_len) (h.behind i j d ij (omega arith)));
      each = λ k d below. (
          let k_len : k < len = omega (arith, below, size) in
          rw (piece-take lits s.start (get_or (take len spans) k d) le (front n lits spans len s h lt is k d below)) (rw (get_or-take len spans k d k_len) (h.each k d (omega arith))));
    }
