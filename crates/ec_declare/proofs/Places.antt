-- Words and their numbers.
use Rattle.std.proofs.Common.{◌≡◌, ℕ, zero, suc, ◌+◌, ◌<◌, ◌==◌, Bool, true, false, true≢false, cond, ◌||◌, List, [], ◌∷◌, ◌++◌, map, length, Option, Some, is_some, slice_get, refl, sym, ap, subst, ◌∙◌, if◌then◌else◌, arith}
use Rattle.std.proofs.lemmas.Bool.{eq-eqb, eqb-true}
use Rattle.std.specs.Str.{bytes_eq}
use Rattle.std.specs.Cmp.Lexicographic.{bytes_decides}
use Rattle.ec_names.specs.Names.{firsts_after, is_among, named, place_of}
use Rattle.ec_declare.proofs.Deciding.{none-some, or-first, or-last, some-is}

pub same-word : (w : List ℕ) → bytes_eq w w ≡ true
same-word w = (bytes_decides w w).1 refl

pub other-word : (v w : List ℕ) → (v ≡ w → ⊥) → bytes_eq v w ≡ false
other-word v w other = by (bytes_eq v w) refl
  where
    by : (b : Bool) → bytes_eq v w ≡ b → bytes_eq v w ≡ false
    by true is = absurd (other ((bytes_decides v w).0 is))
    by false is = is

pub swapped : (v w : List ℕ) → bytes_eq v w ≡ false → bytes_eq w v ≡ false
swapped v w other = other-word w v (λ is. true≢false (sym ((bytes_decides v w).1 (sym is)) ∙ other))

pub eq-same : (n : ℕ) → (n == n) ≡ true
eq-same n = eq-eqb n n refl

pub eq-other : (m n : ℕ) → (m ≡ n → ⊥) → (m == n) ≡ false
eq-other m n other = by (m == n) refl
  where
    by : (b : Bool) → (m == n) ≡ b → (m == n) ≡ false
    by true is = absurd (other (eqb-true m n is))
    by false is = is

module _ {X : Type 0} (name : X → List ℕ) where
  -- no item has the name of one before it, nor one of these names
  abbrev pub IsApart : List (List ℕ) → List X → Type 0
  IsApart before [] = Unit {0}
  IsApart before (x ∷ xs) = (is_among (name x) before ≡ false) × IsApart (before ++ name x ∷ []) xs

  apart-by : (b : Bool) (before : List (List ℕ)) (x : X) (xs ys : List X) → is_among (name x) before ≡ b → IsApart before xs → IsApart (before ++ name x ∷ []) ys → IsApart before (if b then xs else x ∷ ys)
  apart-by true before x xs ys is f g = f
  apart-by false before x xs ys is f g = (is, g)

  pub firsts-apart : (before : List (List ℕ)) (xs : List X) → IsApart before (firsts_after name before xs)
  firsts-apart before [] = tt
  firsts-apart before (x ∷ xs) = apart-by (is_among (name x) before) before x (firsts_after name before xs) (firsts_after name (before ++ name x ∷ []) xs) refl (firsts-apart before xs) (firsts-apart (before ++ name x ∷ []) xs)

  pub among-last : (w : List ℕ) (before : List (List ℕ)) (v : List ℕ) → is_among w (before ++ v ∷ []) ≡ false → (is_among w before ≡ false) × (bytes_eq w v ≡ false)
  among-last w [] v h = (refl, or-first (bytes_eq w v) false h)
  among-last w (b ∷ before) v h =
      let rest = among-last w before v (or-last (bytes_eq w b) (is_among w (before ++ v ∷ [])) h) in
      (rw (or-first (bytes_eq w b) (is_among w (before ++ v ∷ [])) h) rest.0, rest.1)

  -- an item further on has none of the names before
  pub apart-at : (before : List (List ℕ)) (xs : List X) (i : ℕ) (x : X) → IsApart before xs → slice_get xs i ≡ Some x → is_among (name x) before ≡ false
  apart-at before [] i x apart is = absurd (none-some x is)
  apart-at before (y ∷ xs) zero x apart is = subst (λ z. is_among (name z) before ≡ false) (some-is y x is) apart.0
  apart-at before (y ∷ xs) (suc i) x apart is = (among-last (name x) before (name y) (apart-at (before ++ name y ∷ []) xs i x apart.1 is)).0

  -- an item is the first of its name
  pub named-at : (before : List (List ℕ)) (xs : List X) (i : ℕ) (x : X) → IsApart before xs → slice_get xs i ≡ Some x → named name xs (name x) ≡ Some x
  named-at before [] i x apart is = absurd (none-some x is)
  named-at before (y ∷ xs) zero x apart is = let e = some-is y x is in rw (ap (λ z. bytes_eq (name x) (name z)) e ∙ same-word (name x)) (ap Some e)
  named-at before (y ∷ xs) (suc i) x apart is =
      let other = (among-last (name x) before (name y) (apart-at (before ++ name y ∷ []) xs i x apart.1 is)).1 in
      rw other (named-at (before ++ name y ∷ []) xs i x apart.1 is)

  place-first : (w : List ℕ) (y : X) (xs : List X) → bytes_eq w (name y) ≡ true → place_of name (y ∷ xs) w ≡ 0
  place-first w y xs h = rw h refl

  place-later : (w : List ℕ) (y : X) (xs : List X) → bytes_eq w (name y) ≡ false → place_of name (y ∷ xs) w ≡ suc (place_of name xs w)
  place-later w y xs h = let e : place_of name (y ∷ xs) w ≡ 1 + place_of name xs w = rw h refl in omega (arith, e)

  -- the place of an item's name is its own
  pub place-at : (before : List (List ℕ)) (xs : List X) (i : ℕ) (x : X) → IsApart before xs → slice_get xs i ≡ Some x → place_of name xs (name x) ≡ i
  place-at before [] i x apart is = absurd (none-some x is)
  place-at before (y ∷ xs) zero x apart is = let e = some-is y x is in place-first (name x) y xs (ap (λ z. bytes_eq (name x) (name z)) e ∙ same-word (name x))
  place-at before (y ∷ xs) (suc i) x apart is =
      let other = (among-last (name x) before (name y) (apart-at (before ++ name y ∷ []) xs i x apart.1 is)).1 in
      place-later (name x) y xs other ∙ ap suc (place-at (before ++ name y ∷ []) xs i x apart.1 is)

  -- what is found by a name
  pub record IsFound (xs : List X) (w : List ℕ) : Type 0 where
    pub item : X
    pub found : named name xs w ≡ Some item
    pub has_name : name item ≡ w
    pub there : slice_get xs (place_of name xs w) ≡ Some item
    pub within : place_of name xs w < length xs

  found-by : (b : Bool) (y : X) (xs : List X) (w : List ℕ) → bytes_eq w (name y) ≡ b → is_some (cond b (Some y) (named name xs w)) ≡ true → (is_some (named name xs w) ≡ true → IsFound xs w) → IsFound (y ∷ xs) w
  found-by true y xs w is some rest =
      let first = place-first w y xs is in
      record { item = y; found = rw is refl; has_name = sym ((bytes_decides w (name y)).0 is); there = rw first refl; within = omega (arith, first) }
  found-by false y xs w is some rest =
      let r = rest some in
      let later = place-later w y xs is in
      let small = r.within in
      record { item = r.item; found = rw is r.found; has_name = r.has_name; there = ap (λ i. slice_get (y ∷ xs) i) later ∙ r.there; within = omega (arith, later, small) }

  pub is-found : (xs : List X) (w : List ℕ) → is_some (named name xs w) ≡ true → IsFound xs w
  is-found [] w some = absurd (true≢false (sym some))
  is-found (y ∷ xs) w some = found-by (bytes_eq w (name y)) y xs w refl some (is-found xs w)

  one-place : (xs : List X) (v w : List ℕ) → IsFound xs v → IsFound xs w → place_of name xs v ≡ place_of name xs w → v ≡ w
  one-place xs v w a b same = sym a.has_name ∙ ap name (some-is a.item b.item (sym a.there ∙ ap (slice_get xs) same ∙ b.there)) ∙ b.has_name

  -- two names that are there have one place if they are the same
  pub same-place : (xs : List X) (v w : List ℕ) → is_some (named name xs v) ≡ true → is_some (named name xs w) ≡ true → (place_of name xs v == place_of name xs w) ≡ bytes_eq v w
  same-place xs v w a b = by (bytes_eq v w) refl
    where
      by : (c : Bool) → bytes_eq v w ≡ c → (place_of name xs v == place_of name xs w) ≡ bytes_eq v w
      by true is = ap (λ u. place_of name xs v == place_of name xs u) (sym ((bytes_decides v w).0 is)) ∙ eq-same (place_of name xs v) ∙ sym is
      by false is = eq-other (place_of name xs v) (place_of name xs w) (λ same. true≢false (sym ((bytes_decides v w).1 (one-place xs v w (is-found xs v a) (is-found xs w b) same)) ∙ is)) ∙ sym is

  some-or : (b : Bool) (x : X) (o : Option X) → is_some (cond b (Some x) o) ≡ (b || is_some o)
  some-or true x o = refl
  some-or false x o = refl

  -- a name is there where an item has it
  pub named-among : (xs : List X) (w : List ℕ) → is_some (named name xs w) ≡ is_among w (map name xs)
  named-among [] w = refl
  named-among (y ∷ xs) w = some-or (bytes_eq w (name y)) y (named name xs w) ∙ ap (λ b. bytes_eq w (name y) || b) (named-among xs w)
