-- Values one after the other.
use Rattle.std.proofs.Common.{◌≡◌, ℕ, zero, suc, ◌+◌, ◌<◌, ◌≤◌, ℤ, List, [], ◌∷◌, ◌++◌, length, drop, get_or, slice_get, Option, Some, None, option_map, refl, sym, ap, ◌∙◌, arith, append_assoc, codes}
use Rattle.std.proofs.lemmas.List.{append-nil, drop_more}
use Rattle.ec_logic.specs.Signature.{Signature, SortRow, Kind}
use Rattle.ec_logic.specs.Narrative.{comma_separated, texts_of, kind_of}
use Rattle.ec_theory.specs.Values.{numbers_of}
use Rattle.ec_theory.specs.declared.value.Value.{Value}
use Rattle.ec_narr.specs.Parts.{separator}

pub kind_is : (signature : Signature) (s : ℕ) (k : Kind) → option_map (λ (row : SortRow). row.kind) (slice_get signature.sorts s) ≡ Some k → kind_of signature s ≡ k
kind_is signature s k h = cases (slice_get signature.sorts s) refl h
  where
    cases : (o : Option SortRow) → slice_get signature.sorts s ≡ o → option_map (λ (row : SortRow). row.kind) o ≡ Some k → kind_of signature s ≡ k
    cases None e i = cc
    cases (Some row) e i = let same : row.kind ≡ k = cc in rw e same

-- the texts that are left, after so many
abbrev pub later : ℕ → List (List ℕ) → List ℕ
later zero texts = comma_separated texts
later (suc k) [] = []
later (suc k) (text ∷ texts) = codes ", " ++ text ++ later (suc k) texts

first_and_later : (text : List ℕ) (texts : List (List ℕ)) (k : ℕ) → comma_separated (text ∷ texts) ≡ text ++ later (suc k) texts
first_and_later text [] k = sym (append-nil text)
first_and_later text (more ∷ texts) k =
    append_assoc text (codes ", ") (comma_separated (more ∷ texts))
    ∙ ap (λ xs. text ++ xs) (ap (λ xs. codes ", " ++ xs) (first_and_later more texts k) ∙ sym (append_assoc (codes ", ") more (later (suc k) texts)))

pub later_next : (i : ℕ) (text : List ℕ) (texts : List (List ℕ)) → later i (text ∷ texts) ≡ separator i ++ text ++ later (i + 1) texts
later_next zero text texts = first_and_later text texts 0
later_next (suc i) text texts = let z : suc i + 1 ≡ suc (i + 1) = omega arith in rw z (same i text texts)
  where
    same : (j : ℕ) (text : List ℕ) (texts : List (List ℕ)) → later (suc j) (text ∷ texts) ≡ codes ", " ++ text ++ later (suc (j + 1)) texts
    same j text texts = ap (λ xs. codes ", " ++ text ++ xs) (any_later j (j + 1) texts)
      where
        any_later : (j k : ℕ) (texts : List (List ℕ)) → later (suc j) texts ≡ later (suc k) texts
        any_later j k [] = refl
        any_later j k (t ∷ texts) = ap (λ xs. codes ", " ++ t ++ xs) (any_later j k texts)

pub later_end : (i : ℕ) → later i [] ≡ []
later_end zero = refl
later_end (suc i) = refl

module _ (text : ℕ → ℤ → List ℕ) (sorts : List ℕ) (args : List Value) (i : ℕ) where
  -- the text of the value at a place comes next
  pub value_next : (d : ℕ) (e : Value) → i < length sorts → i < length args → (out one two all : List ℕ) → one ≡ out ++ separator i → two ≡ one ++ text (get_or sorts i d) (get_or args i e).0
      → out ++ later i (texts_of text (drop i sorts) (numbers_of (drop i args))) ≡ all → two ++ later (i + 1) (texts_of text (drop (i + 1) sorts) (numbers_of (drop (i + 1) args))) ≡ all
  value_next d e h k out one two all o t left =
      let here = text (get_or sorts i d) (get_or args i e).0 in
      let rest = later (i + 1) (texts_of text (drop (i + 1) sorts) (numbers_of (drop (i + 1) args))) in
      let split : later i (texts_of text (drop i sorts) (numbers_of (drop i args))) ≡ separator i ++ here ++ rest = rw (drop_more sorts i d h, drop_more args i e k) (later_next i here (texts_of text (drop (i + 1) sorts) (numbers_of (drop (i + 1) args)))) in
      rw (t, o) (append_assoc (out ++ separator i) here rest ∙ (append_assoc out (separator i) (here ++ rest) ∙ (ap (λ xs. out ++ xs) (sym (append_assoc (separator i) here rest) ∙ sym split) ∙ left)))

  pub values_end : length sorts ≤ i → (out all : List ℕ) → out ++ later i (texts_of text (drop i sorts) (numbers_of (drop i args))) ≡ all → out ≡ all
  values_end h out all left =
      let none : drop i sorts ≡ [] = drop_past sorts i h in
      let empty : later i (texts_of text (drop i sorts) (numbers_of (drop i args))) ≡ [] = rw none (later_end i) in
      sym (append-nil out) ∙ (ap (λ xs. out ++ xs) (sym empty) ∙ left)
    where
      drop_past : (xs : List ℕ) (i : ℕ) → length xs ≤ i → drop i xs ≡ []
      drop_past [] zero h = refl
      drop_past [] (suc i) h = refl
      drop_past (x ∷ xs) zero h = absurd (omega (arith, h))
      drop_past (x ∷ xs) (suc i) h = drop_past xs i (omega (arith, h))
