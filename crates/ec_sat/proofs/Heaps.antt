-- a heap whose last variable takes the first one's place
use Rattle.std.proofs.Common.{◌≡◌, ℕ, ◌+◌, ◌<◌, ◌≤◌, List, [], ◌∷◌, ◌++◌, length, get_or, set, refl, sym, ap, ◌∙◌, subst, inl, inr, arith}
use Rattle.std.proofs.lemmas.Bool.{cases_eq}
use Rattle.std.proofs.lemmas.List.{length-set, length_push, get_or_append_left, get_or_push, get_or-set_same, get_or-set_other}
use Rattle.ec_sat.specs.Heaped.{IsHeaped}

abbrev InRange : ℕ → ℕ → Type 0
InRange n v = (1 ≤ v) × (v ≤ n)

pub replaced : (n capacity : ℕ) (heap new places activity : List ℕ) (last : ℕ) → IsHeaped n capacity heap places activity → heap ≡ new ++ last ∷ [] → IsHeaped n capacity (set new 0 last) (set places last 0) activity
replaced n capacity heap new places activity last h is =
    let size : length heap ≡ length new + 1 = omega (arith, ap length is, length_push new last) in
    let there = λ (k : ℕ) (d : ℕ) (lt : k < length new). subst (λ (v : ℕ). InRange n v) (ap (λ (xs : List ℕ). get_or xs k d) is ∙ get_or_append_left new (last ∷ []) d k lt) (h.each k d (omega arith)) in
    let end' : InRange n last = subst (λ (v : ℕ). InRange n v) (ap (λ (xs : List ℕ). get_or xs (length new) 0) is ∙ get_or_push new last 0 (length new) refl) (h.each (length new) 0 (omega arith)) in
    let same : length (set new 0 last) ≡ length new = length-set new 0 last in
    record {
      small = h.small;
      room = h.room;
      few = omega (arith, h.few);
      each = λ k d lt. elim (cases_eq k 0) [
        | inl at ↦ subst (λ (v : ℕ). InRange n v) (sym (ap (λ i. get_or (set new 0 last) i d) at ∙ get_or-set_same new 0 last d (omega arith))) end'
        | inr ne ↦ subst (λ (v : ℕ). InRange n v) (sym (get_or-set_other new 0 k last d ne)) (there k d (omega arith))
      ];
      table = length-set places last 0 ∙ h.table;
      scores = h.scores;
    }
