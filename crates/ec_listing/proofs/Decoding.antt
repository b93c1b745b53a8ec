-- Texts that are read back from the front: what stands before a parenthesis or a comma, and arguments in parentheses.
use Rattle.std.proofs.Common.{◌≡◌, ℕ, ◌==◌, Bool, true, false, not, ◌||◌, List, [], ◌∷◌, ◌++◌, ℤ, Option, Some, None, refl, sym, ◌∙◌, append_assoc, codes}
use Rattle.std.specs.List.{list_all, AllByRecursion}
use Rattle.ec_logic.specs.Extent.{rank}
use Rattle.ec_logic.specs.Turns.{IsValueOf}
use Rattle.ec_logic.specs.Universe.{Universe, extent_at, tuple_rank, tuples, ranked}
use Rattle.ec_logic.specs.Narrative.{comma_separated, texts_of, applied}
use Rattle.ec_logic.proofs.Tests.{and_parts}

-- ---- plain texts, which have no parenthesis and no comma

abbrev pub is_parting : ℕ → Bool
is_parting b = (b == 40) || (b == 41) || (b == 44)

abbrev pub is_plain_text : List ℕ → Bool
is_plain_text text = list_all (λ b. not (is_parting b)) text

-- whether a text begins with a parenthesis or a comma
abbrev pub begins_parting : List ℕ → Bool
begins_parting [] = false
begins_parting (b ∷ bs) = is_parting b

pub plain_append : (xs ys : List ℕ) → is_plain_text xs ≡ true → is_plain_text ys ≡ true → is_plain_text (xs ++ ys) ≡ true
plain_append [] ys h k = k
plain_append (x ∷ xs) ys h k = let both = and_parts (not (is_parting x)) (is_plain_text xs) h in rw (both.0, plain_append xs ys both.1 k) refl

clash : (b : ℕ) → is_parting b ≡ true → not (is_parting b) ≡ true → ⊥
clash b h k = cc

-- a plain text ends where a parenthesis or a comma stands
pub plain_decoded : (xs ys r q : List ℕ) → is_plain_text xs ≡ true → is_plain_text ys ≡ true → begins_parting r ≡ true → begins_parting q ≡ true → xs ++ r ≡ ys ++ q → (xs ≡ ys) × (r ≡ q)
plain_decoded [] [] r q h k a b e = (refl, e)
plain_decoded [] (y ∷ ys) [] q h k a b e = cc
plain_decoded [] (y ∷ ys) (c ∷ r) q h k a b e =
    let same : c ≡ y = cc in
    absurd (clash y (rw same at a) (and_parts (not (is_parting y)) (is_plain_text ys) k).0)
plain_decoded (x ∷ xs) [] r [] h k a b e = cc
plain_decoded (x ∷ xs) [] r (c ∷ q) h k a b e =
    let same : c ≡ x = cc in
    absurd (clash x (rw same at b) (and_parts (not (is_parting x)) (is_plain_text xs) h).0)
plain_decoded (x ∷ xs) (y ∷ ys) r q h k a b e =
    let first : x ≡ y = cc in
    let rest : xs ++ r ≡ ys ++ q = cc in
    let later = plain_decoded xs ys r q (and_parts (not (is_parting x)) (is_plain_text xs) h).1 (and_parts (not (is_parting y)) (is_plain_text ys) k).1 a b rest in
    let tails = later.0 in
    (cc, later.1)

-- ---- arguments

-- each value is of its sort's domain
abbrev pub AreValues : Universe → List ℕ → List ℤ → Type 0
AreValues universe [] [] = Unit {0}
AreValues universe (s ∷ ss) (v ∷ vs) = IsValueOf (extent_at universe s) v × AreValues universe ss vs
AreValues universe _ _ = ⊥

pub ranked_values : (universe : Universe) (ss : List ℕ) (vs : List ℤ) (k : ℕ) → tuple_rank universe ss vs ≡ Some k → AreValues universe ss vs
ranked_values universe [] [] k h = tt
ranked_values universe [] (v ∷ vs) k h = cc
ranked_values universe (s ∷ ss) [] k h = cc
ranked_values universe (s ∷ ss) (v ∷ vs) k h = cases (rank (extent_at universe s) v) (tuple_rank universe ss vs) refl refl h (ranked_values universe ss vs)
  where
    cases : (a b : Option ℕ) → rank (extent_at universe s) v ≡ a → tuple_rank universe ss vs ≡ b → ranked (tuples universe ss) a b ≡ Some k → ((j : ℕ) → tuple_rank universe ss vs ≡ Some j → AreValues universe ss vs) → IsValueOf (extent_at universe s) v × AreValues universe ss vs
    cases None b d e h next = cc
    cases (Some x) None d e h next = cc
    cases (Some x) (Some y) d e h next = ((x, d), next y e)

-- Values of a sort can be read from the front where a parenthesis or a comma stands behind them.
abbrev pub IsDecoded : Universe → (ℕ → ℤ → List ℕ) → ℕ → Type 0
IsDecoded universe text s = (v w : ℤ) (r q : List ℕ) → IsValueOf (extent_at universe s) v → IsValueOf (extent_at universe s) w → begins_parting r ≡ true → begins_parting q ≡ true → text s v ++ r ≡ text s w ++ q → (v ≡ w) × (r ≡ q)

module _ (universe : Universe) (text : ℕ → ℤ → List ℕ) where
  -- more values behind one
  more_values : (t m : List ℕ) (ts : List (List ℕ)) (r : List ℕ) → comma_separated (t ∷ m ∷ ts) ++ 41 ∷ r ≡ t ++ (44 ∷ 32 ∷ (comma_separated (m ∷ ts) ++ 41 ∷ r))
  more_values t m ts r = append_assoc (t ++ codes ", ") (comma_separated (m ∷ ts)) (41 ∷ r) ∙ append_assoc t (codes ", ") (comma_separated (m ∷ ts) ++ 41 ∷ r)

  pub arguments_decoded : (ss : List ℕ) (vs ws : List ℤ) (r q : List ℕ) → AllByRecursion (IsDecoded universe text) ss → AreValues universe ss vs → AreValues universe ss ws
      → comma_separated (texts_of text ss vs) ++ 41 ∷ r ≡ comma_separated (texts_of text ss ws) ++ 41 ∷ q → (vs ≡ ws) × (r ≡ q)
  arguments_decoded [] [] [] r q d a b e = (refl, cc)
  arguments_decoded [] [] (w ∷ ws) r q d a b e = absurd b
  arguments_decoded [] (v ∷ vs) ws r q d a b e = absurd a
  arguments_decoded (s ∷ ss) [] ws r q d a b e = absurd a
  arguments_decoded (s ∷ ss) (v ∷ vs) [] r q d a b e = absurd b
  arguments_decoded (s ∷ []) (v ∷ []) (w ∷ []) r q d a b e =
      let one = d.0 v w (41 ∷ r) (41 ∷ q) a.0 b.0 refl refl e in
      let first = one.0 in
      let rest = one.1 in
      (cc, cc)
  arguments_decoded (s ∷ []) (v ∷ []) (w ∷ x ∷ ws) r q d a b e = absurd b.1
  arguments_decoded (s ∷ []) (v ∷ x ∷ vs) (w ∷ ws) r q d a b e = absurd a.1
  arguments_decoded (s ∷ t ∷ ss) (v ∷ []) (w ∷ ws) r q d a b e = absurd a.1
  arguments_decoded (s ∷ t ∷ ss) (v ∷ x ∷ vs) (w ∷ []) r q d a b e = absurd b.1
  arguments_decoded (s ∷ t ∷ ss) (v ∷ x ∷ vs) (w ∷ y ∷ ws) r q d a b e =
      let left = more_values (text s v) (text t x) (texts_of text ss vs) r in
      let right = more_values (text s w) (text t y) (texts_of text ss ws) q in
      let one = d.0 v w (44 ∷ 32 ∷ (comma_separated (texts_of text (t ∷ ss) (x ∷ vs)) ++ 41 ∷ r)) (44 ∷ 32 ∷ (comma_separated (texts_of text (t ∷ ss) (y ∷ ws)) ++ 41 ∷ q)) a.0 b.0 refl refl (sym left ∙ (e ∙ right)) in
      let first = one.0 in
      let behind : comma_separated (texts_of text (t ∷ ss) (x ∷ vs)) ++ 41 ∷ r ≡ comma_separated (texts_of text (t ∷ ss) (y ∷ ws)) ++ 41 ∷ q = let both = one.1 in cc in
      let rest = arguments_decoded (t ∷ ss) (x ∷ vs) (y ∷ ws) r q d.1 a.1 b.1 behind in
      (let tails = rest.0 in cc, rest.1)

-- ---- a name with arguments

pub applied_front : (name : List ℕ) (texts : List (List ℕ)) (r : List ℕ) → applied name texts ++ r ≡ name ++ (40 ∷ (comma_separated texts ++ 41 ∷ r))
applied_front name texts r =
    append_assoc (name ++ codes "(" ++ comma_separated texts) (codes ")") r
    ∙ (append_assoc (name ++ codes "(") (comma_separated texts) (41 ∷ r) ∙ append_assoc name (codes "(") (comma_separated texts ++ 41 ∷ r))

-- the name of such a text, and what stands behind its parenthesis
pub name_decoded : (name other : List ℕ) (texts more : List (List ℕ)) (r q : List ℕ) → is_plain_text name ≡ true → is_plain_text other ≡ true → applied name texts ++ r ≡ applied other more ++ q
    → (name ≡ other) × (comma_separated texts ++ 41 ∷ r ≡ comma_separated more ++ 41 ∷ q)
name_decoded name other texts more r q h k e =
    let both = plain_decoded name other (40 ∷ (comma_separated texts ++ 41 ∷ r)) (40 ∷ (comma_separated more ++ 41 ∷ q)) h k refl refl (sym (applied_front name texts r) ∙ (e ∙ applied_front other more q)) in
    let rest = both.1 in
    (both.0, cc)
