-- Look-ups in a table of names.
use Rattle.std.proofs.Common.{is_some, ◌≡◌, ℕ, zero, suc, Bool, List, [], ◌∷◌, map, Option, Some, None, option_map, slice_get, refl, sym, ap, ◌∙◌}
use Rattle.std.specs.Map.{keys_of, lookup}
use Rattle.std.specs.Str.{bytes_eq}
use Rattle.ec_names.specs.Names.{Names, SortEntry, is_among, named, parent_in, sort_name, sort_words}
use Rattle.ec_names.specs.View.{sort_of, sorts_of}
use Rattle.ec_names.proofs.Tables.{found-named}

abbrev parent_found : Option (Option (List ℕ)) → Option (List ℕ)
parent_found None = None
parent_found (Some parent) = parent

parent-by : (k : List ℕ) (found : Option (Option (List ℕ))) → parent_in (option_map (λ v. sort_of (k, v)) found) ≡ parent_found found
parent-by k None = refl
parent-by k (Some parent) = refl

parent-is : (es : List (List ℕ × Option (List ℕ))) (k : List ℕ) → parent_in (named sort_name (sorts_of es) k) ≡ parent_found (lookup (bytes_eq k) es)
parent-is es k = ap parent_in (sym (found-named sort_name sort_of (λ e. refl) es k)) ∙ parent-by k (lookup (bytes_eq k) es)

pub parent-none : (es : List (List ℕ × Option (List ℕ))) (k : List ℕ) → lookup (bytes_eq k) es ≡ None → ◌≡◌ {A = Option (List ℕ)} None (parent_in (named sort_name (sorts_of es) k))
parent-none es k none = sym (parent-is es k ∙ ap parent_found none)

pub parent-some : (es : List (List ℕ × Option (List ℕ))) (k : List ℕ) (parent : Option (List ℕ)) → lookup (bytes_eq k) es ≡ Some parent → parent ≡ parent_in (named sort_name (sorts_of es) k)
parent-some es k parent some = sym (parent-is es k ∙ ap parent_found some)

pub sort_words-keys : (es : List (List ℕ × Option (List ℕ))) → map sort_name (sorts_of es) ≡ keys_of es
sort_words-keys [] = refl
sort_words-keys (e ∷ es) = ap (λ (ks : List (List ℕ)). e.0 ∷ ks) (sort_words-keys es)

-- a test finds a sort where it finds a key of the table
pub among-words : (es : List (List ℕ × Option (List ℕ))) (names : Names) (k : List ℕ) (b : Bool) → sorts_of es ≡ names.sorts → is_among k (keys_of es) ≡ b → is_among k (sort_words names) ≡ b
among-words es names k b is among = ap (λ (sorts : List SortEntry). is_among k (map sort_name sorts)) (sym is) ∙ ap (is_among k) (sort_words-keys es) ∙ among

some-map : {A B : Type 0} (f : A → B) (o : Option A) → is_some (option_map f o) ≡ is_some o
some-map f None = refl
some-map f (Some a) = refl

pub sort-there : (es : List (List ℕ × Option (List ℕ))) (k : List ℕ) → is_some (lookup (bytes_eq k) es) ≡ is_some (named sort_name (sorts_of es) k)
sort-there es k = sym (some-map (λ v. sort_of (k, v)) (lookup (bytes_eq k) es)) ∙ ap is_some (found-named sort_name sort_of (λ e. refl) es k)

pub slice_get-map : {A B : Type 0} (f : A → B) (xs : List A) (i : ℕ) → slice_get (map f xs) i ≡ option_map f (slice_get xs i)
slice_get-map f [] i = refl
slice_get-map f (x ∷ xs) zero = refl
slice_get-map f (x ∷ xs) (suc i) = slice_get-map f xs i
