-- A table's entries and the items that they stand for.
use Rattle.std.proofs.Common.{◌≡◌, ℕ, Bool, true, false, true≢false, List, [], ◌∷◌, ◌++◌, map, refl, sym, ap, ◌∙◌, ◌||◌, cond, Option, Some, option_map, is_some, if◌then◌else◌}
use Rattle.std.specs.List.{list_any}
use Rattle.std.specs.Map.{lookup}
use Rattle.std.specs.Str.{bytes_eq}
use Rattle.std.specs.Cmp.Lexicographic.{bytes_decides}
use Rattle.indexmap.specs.IndexMap.{insert_entry}
use Rattle.ec_names.specs.Names.{is_among, named}
use Rattle.ec_names.specs.View.{with_first}

module _ {V X : Type 0} (name : X → List ℕ) (item : List ℕ × V → X) (keyed : (entry : List ℕ × V) → name (item entry) ≡ entry.0) where
  some_by : (b : Bool) (v : V) (found : Option V) → is_some (cond b (Some v) found) ≡ (b || is_some found)
  some_by true v found = refl
  some_by false v found = refl

  -- a test finds a key of the table where it finds a name of the items
  pub found-among : (test : List ℕ → Bool) (entries : List (List ℕ × V)) → is_some (lookup test entries) ≡ list_any test (map name (map item entries))
  found-among test [] = refl
  found-among test (entry ∷ entries) = some_by (test entry.0) entry.1 (lookup test entries) ∙ rw (keyed entry, found-among test entries) refl

  inserted_by : (b : Bool) (e : List ℕ × V) (es : List (List ℕ × V)) (k : List ℕ) (v : V) → (b || is_some (lookup (bytes_eq k) es)) ≡ false
      → (is_some (lookup (bytes_eq k) es) ≡ false → map item (insert_entry bytes_eq es k v) ≡ map item es ++ item (k, v) ∷ [])
      → map item (if b then (e.0, v) ∷ es else e ∷ insert_entry bytes_eq es k v) ≡ item e ∷ (map item es ++ item (k, v) ∷ [])
  inserted_by true e es k v absent rest = absurd (true≢false absent)
  inserted_by false e es k v absent rest = ap (λ (xs : List X). item e ∷ xs) (rest absent)

  -- a new key goes last
  pub inserted-last : (entries : List (List ℕ × V)) (k : List ℕ) (v : V) → is_some (lookup (bytes_eq k) entries) ≡ false → map item (insert_entry bytes_eq entries k v) ≡ map item entries ++ item (k, v) ∷ []
  inserted-last [] k v absent = refl
  inserted-last (e ∷ es) k v absent = inserted_by (bytes_eq k e.0) e es k v (sym (some_by (bytes_eq k e.0) e.1 (lookup (bytes_eq k) es)) ∙ absent) (inserted-last es k v)

  -- whether the name of an item is there
  pub name-there : (entries : List (List ℕ × V)) (k : List ℕ) (v : V) → is_among (name (item (k, v))) (map name (map item entries)) ≡ is_some (lookup (bytes_eq k) entries)
  name-there entries k v = ap (λ w. is_among w (map name (map item entries))) (keyed (k, v)) ∙ sym (found-among (bytes_eq k) entries)

  -- an item whose name isn't there goes last
  pub first-new : (entries : List (List ℕ × V)) (k : List ℕ) (v : V) → is_some (lookup (bytes_eq k) entries) ≡ false → map item (insert_entry bytes_eq entries k v) ≡ with_first name (map item entries) (item (k, v))
  first-new entries k v absent = inserted-last entries k v absent ∙ rw (name-there entries k v ∙ absent) refl

  -- an item whose name is there is left out
  pub first-there : (entries : List (List ℕ × V)) (k : List ℕ) (v : V) → is_some (lookup (bytes_eq k) entries) ≡ true → map item entries ≡ with_first name (map item entries) (item (k, v))
  first-there entries k v there = rw (name-there entries k v ∙ there) refl

  found_by : (b : Bool) (k : List ℕ) (e : List ℕ × V) (es : List (List ℕ × V)) → bytes_eq k e.0 ≡ b
      → option_map (λ v. item (k, v)) (lookup (bytes_eq k) es) ≡ named name (map item es) k
      → option_map (λ v. item (k, v)) (cond b (Some e.1) (lookup (bytes_eq k) es)) ≡ cond b (Some (item e)) (named name (map item es) k)
  found_by true k e es same rest = ap (λ w. Some (item (w, e.1))) ((bytes_decides k e.0).0 same)
  found_by false k e es same rest = rest

  -- what is found by a key is the item of that name
  pub found-named : (entries : List (List ℕ × V)) (k : List ℕ) → option_map (λ v. item (k, v)) (lookup (bytes_eq k) entries) ≡ named name (map item entries) k
  found-named [] k = refl
  found-named (e ∷ es) k = found_by (bytes_eq k e.0) k e es refl (found-named es k) ∙ rw (keyed e) refl

  -- an item is left out if its name is there
  pub there-already : (entries : List (List ℕ × V)) (k : List ℕ) (x : X) → name x ≡ k → is_some (lookup (bytes_eq k) entries) ≡ true → map item entries ≡ with_first name (map item entries) x
  there-already entries k x is there = rw (ap (λ w. is_among w (map name (map item entries))) is ∙ sym (found-among (bytes_eq k) entries) ∙ there) refl

module _ {V : Type 0} where
  last_by : (b : Bool) (e : List ℕ × V) (es : List (List ℕ × V)) (k : List ℕ) (v : V) → is_some (cond b (Some e.1) (lookup (bytes_eq k) es)) ≡ false
      → (is_some (lookup (bytes_eq k) es) ≡ false → insert_entry bytes_eq es k v ≡ es ++ (k, v) ∷ [])
      → (if b then (e.0, v) ∷ es else e ∷ insert_entry bytes_eq es k v) ≡ e ∷ (es ++ (k, v) ∷ [])
  last_by true e es k v absent rest = absurd (true≢false absent)
  last_by false e es k v absent rest = ap (λ (xs : List (List ℕ × V)). e ∷ xs) (rest absent)

  -- the entries with a new key
  pub entries-last : (es : List (List ℕ × V)) (k : List ℕ) (v : V) → is_some (lookup (bytes_eq k) es) ≡ false → insert_entry bytes_eq es k v ≡ es ++ (k, v) ∷ []
  entries-last [] k v absent = refl
  entries-last (e ∷ es) k v absent = last_by (bytes_eq k e.0) e es k v absent (entries-last es k v)
