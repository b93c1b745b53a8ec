-- The longest sort name that spells a variable is found by cutting digits off its end.
use Rattle.std.proofs.Common.{◌≡◌, ◌≤◌, ℕ, ◌+◌, Bool, true, false, true≢false, cond, not, ◌&&◌, ◌||◌, List, [], ◌∷◌, ◌++◌, length, drop, Some, None, is_some, unwrap_or, refl, sym, ap, subst, ◌∙◌, ⊎_elim, append-nil, append_assoc, length-append, arith}
use Rattle.std.proofs.lemmas.Bool.{le-leb, leb-true}
use Rattle.std.proofs.Math.Nat.{eq-or-lt_of_le}
use Rattle.std.specs.List.{list_all, find}
use Rattle.std.specs.Map.{keys_of, lookup_key}
use Rattle.std.specs.Prelude.{nat_le, get_or}
use Rattle.std.specs.Str.{bytes_eq}
use Rattle.std.specs.Cmp.Lexicographic.{bytes_decides}
use Rattle.ec_names.specs.Names.{is_among, is_digit, spells, spells_longest}

and-first : (b c : Bool) → (b && c) ≡ true → b ≡ true
and-first true c h = refl
and-first false c h = h

and-last : (b c : Bool) → (b && c) ≡ true → c ≡ true
and-last true c h = h
and-last false c h = absurd (true≢false (sym h))

or-first : (b c : Bool) → (b || c) ≡ false → b ≡ false
or-first true c h = absurd (true≢false h)
or-first false c h = refl

or-last : (b c : Bool) → (b || c) ≡ false → c ≡ false
or-last true c h = absurd (true≢false h)
or-last false c h = h

same-word : (w : List ℕ) → bytes_eq w w ≡ true
same-word w = (bytes_decides w w).1 refl

among-first : (w : List ℕ) (ns : List (List ℕ)) → is_among w (w ∷ ns) ≡ true
among-first w ns = rw (same-word w) refl

or-true : (b c : Bool) → c ≡ true → (b || c) ≡ true
or-true true c h = refl
or-true false c h = h

among-later : (w n : List ℕ) (ns : List (List ℕ)) → is_among w ns ≡ true → is_among w (n ∷ ns) ≡ true
among-later w n ns h = or-true (bytes_eq w n) (is_among w ns) h

-- ---- spelling

record IsSpelled (v t : List ℕ) : Type 0 where
  digits : List ℕ
  is : v ≡ t ++ digits
  all : list_all is_digit digits ≡ true

split-by : (c b : ℕ) (v t : List ℕ) → (bytes_eq (c ∷ []) (b ∷ []) && spells v t) ≡ true → IsSpelled v t → IsSpelled (c ∷ v) (b ∷ t)
split-by c b v t h rest =
    let same = (bytes_decides (c ∷ []) (b ∷ [])).0 (and-first (bytes_eq (c ∷ []) (b ∷ [])) (spells v t) h) in
    record { digits = rest.digits; is = ap (λ (xs : List ℕ). xs ++ v) same ∙ ap (λ (xs : List ℕ). b ∷ xs) rest.is; all = rest.all }

spells-split : (v t : List ℕ) → spells v t ≡ true → IsSpelled v t
spells-split v [] h = record { digits = v; is = refl; all = h }
spells-split [] (b ∷ t) h = absurd (true≢false (sym h))
spells-split (c ∷ v) (b ∷ t) h = split-by c b v t h (spells-split v t (and-last (bytes_eq (c ∷ []) (b ∷ [])) (spells v t) h))

spells-joined : (t ds : List ℕ) → list_all is_digit ds ≡ true → spells (t ++ ds) t ≡ true
spells-joined [] ds h = h
spells-joined (b ∷ t) ds h = rw (same-word (b ∷ [])) (spells-joined t ds h)

spelled-long : (v t : List ℕ) → IsSpelled v t → length t ≤ length v
spelled-long v t s = let all = ap (λ (xs : List ℕ). length xs) s.is in let sum = length-append t s.digits in omega (arith, all, sum)

same-prefix : (t s ds es : List ℕ) → t ++ ds ≡ s ++ es → length t ≡ length s → t ≡ s
same-prefix [] [] ds es h n = refl
same-prefix [] (b ∷ s) ds es h n = absurd (omega (arith, n))
same-prefix (a ∷ t) [] ds es h n = absurd (omega (arith, n))
same-prefix (a ∷ t) (b ∷ s) ds es h n =
    let first : a ≡ b = ap (λ (xs : List ℕ). get_or xs 0 0) h in
    let rest = same-prefix t s ds es (ap (λ (xs : List ℕ). drop 1 xs) h) (omega (arith, n)) in
    rw (first, rest) refl

last-by : (shorter : List ℕ) (last : ℕ) (digits : List ℕ) → list_all is_digit (shorter ++ last ∷ digits) ≡ true → is_digit last ≡ true
last-by [] last digits h = and-first (is_digit last) (list_all is_digit digits) h
last-by (a ∷ shorter) last digits h = last-by shorter last digits (and-last (is_digit a) (list_all is_digit (shorter ++ last ∷ digits)) h)

-- a byte behind a name that spells the word is a digit
digit-behind : (y ds shorter : List ℕ) (last : ℕ) (digits : List ℕ) → y ++ ds ≡ shorter ++ last ∷ digits → length y ≤ length shorter → list_all is_digit ds ≡ true → is_digit last ≡ true
digit-behind [] ds shorter last digits h le all = last-by shorter last digits (subst (λ xs. list_all is_digit xs ≡ true) h all)
digit-behind (b ∷ y) ds [] last digits h le all = absurd (omega (arith, le))
digit-behind (b ∷ y) ds (a ∷ shorter) last digits h le all = digit-behind y ds shorter last digits (ap (λ (xs : List ℕ). drop 1 xs) h) (omega (arith, le)) all

-- ---- what is found in a list

find-by : (b : Bool) (p : List ℕ → Bool) (s n : List ℕ) (ns : List (List ℕ)) → p n ≡ b → (bytes_eq s n || is_among s ns) ≡ true → p s ≡ true → (b ≡ true → n ≡ s)
    → (is_among s ns ≡ true → find p ns ≡ Some s) → cond b (Some n) (find p ns) ≡ Some s
find-by true p s n ns is among ps same rest = ap Some (same refl)
find-by false p s n ns is among ps same rest = rest (by (bytes_eq s n) refl among)
  where
    by : (c : Bool) → bytes_eq s n ≡ c → (c || is_among s ns) ≡ true → is_among s ns ≡ true
    by true eq h = absurd (true≢false (sym ps ∙ ap p ((bytes_decides s n).0 eq) ∙ is))
    by false eq h = h

find-is : (p : List ℕ → Bool) (ns : List (List ℕ)) (s : List ℕ) → is_among s ns ≡ true → p s ≡ true → ((y : List ℕ) → is_among y ns ≡ true → p y ≡ true → y ≡ s) → find p ns ≡ Some s
find-is p [] s among ps same = absurd (true≢false (sym among))
find-is p (n ∷ ns) s among ps same = find-by (p n) p s n ns refl among ps (λ h. same n (among-first n ns) h) (λ later. find-is p ns s later ps (λ y there py. same y (among-later y n ns there) py))

find-none : (p : List ℕ → Bool) (ns : List (List ℕ)) → ((y : List ℕ) → is_among y ns ≡ true → p y ≡ false) → find p ns ≡ None
find-none p [] none = refl
find-none p (n ∷ ns) none = rw (none n (among-first n ns)) (find-none p ns (λ y there. none y (among-later y n ns there)))

-- ---- the stem of a variable

-- The stem is the variable without some digits at its end, and no name that spells the variable is longer.
pub record IsStem (names : List (List ℕ)) (v stem : List ℕ) : Type 0 where
  pub digits : List ℕ
  pub spelled : v ≡ stem ++ digits
  pub are_digits : list_all is_digit digits ≡ true
  pub longest : (t : List ℕ) → is_among t names ≡ true → spells v t ≡ true → length t ≤ length stem

pub stem-whole : (names : List (List ℕ)) (v : List ℕ) → IsStem names v v
stem-whole names v = record { digits = []; spelled = sym (append-nil v); are_digits = refl; longest = λ t among h. spelled-long v t (spells-split v t h) }

-- a name that spells the variable and is as long as the stem is the stem
is-stem : (names : List (List ℕ)) (v stem t : List ℕ) → IsStem names v stem → spells v t ≡ true → length t ≡ length stem → t ≡ stem
is-stem names v stem t s h n = let split = spells-split v t h in same-prefix t stem split.digits s.digits (sym split.is ∙ s.spelled) n

not-among : (names : List (List ℕ)) (t stem : List ℕ) → is_among t names ≡ true → is_among stem names ≡ false → t ≡ stem → ⊥
not-among names t stem among none same = true≢false (sym among ∙ ap (λ w. is_among w names) same ∙ none)

shorter-by : (m n : ℕ) → m ≤ n + 1 → (m ≡ n + 1 → ⊥) → m ≤ n
shorter-by m n most other = ⊎_elim (λ e. absurd (other e)) (λ lt. omega (arith, lt)) (eq-or-lt_of_le most)

pub stem-next : (names : List (List ℕ)) (v stem shorter : List ℕ) (last : ℕ) → IsStem names v stem → is_among stem names ≡ false → stem ≡ shorter ++ last ∷ [] → is_digit last ≡ true → IsStem names v shorter
stem-next names v stem shorter last s none is digit = record {
  digits = last ∷ s.digits;
  spelled = s.spelled ∙ ap (λ (xs : List ℕ). xs ++ s.digits) is ∙ append_assoc shorter (last ∷ []) s.digits;
  are_digits = rw digit s.are_digits;
  longest = λ t among h.
      let most = s.longest t among h in
      let long = ap (λ (xs : List ℕ). length xs) is ∙ length-append shorter (last ∷ []) in
      shorter-by (length t) (length shorter) (omega (arith, most, long)) (λ n. not-among names t stem among none (is-stem names v stem t s h (n ∙ sym long)));
}

long-by : (b : Bool) (m n : ℕ) → (b ≡ true → m ≤ n) → (not b || nat_le m n) ≡ true
long-by true m n few = le-leb m n (few refl)
long-by false m n few = refl

and-true : (b c : Bool) → b ≡ true → c ≡ true → (b && c) ≡ true
and-true true c p q = q
and-true false c p q = p

all-long : (v : List ℕ) (stem : List ℕ) (ns : List (List ℕ)) → ((t : List ℕ) → is_among t ns ≡ true → spells v t ≡ true → length t ≤ length stem) → list_all (λ t. not (spells v t) || nat_le (length t) (length stem)) ns ≡ true
all-long v stem [] few = refl
all-long v stem (n ∷ ns) few =
    and-true (not (spells v n) || nat_le (length n) (length stem)) (list_all (λ t. not (spells v t) || nat_le (length t) (length stem)) ns)
    (long-by (spells v n) (length n) (length stem) (few n (among-first n ns))) (all-long v stem ns (λ t among. few t (among-later t n ns among)))

at-long : (b : Bool) (m n : ℕ) → b ≡ true → (not b || nat_le m n) ≡ true → m ≤ n
at-long true m n is h = leb-true m n h
at-long false m n is h = absurd (true≢false (sym is))

all-at : (p : List ℕ → Bool) (s : List ℕ) (ns : List (List ℕ)) → list_all p ns ≡ true → is_among s ns ≡ true → p s ≡ true
all-at p s [] all among = absurd (true≢false (sym among))
all-at p s (n ∷ ns) all among = by (bytes_eq s n) refl among (all-at p s ns (and-last (p n) (list_all p ns) all))
  where
    by : (c : Bool) → bytes_eq s n ≡ c → (c || is_among s ns) ≡ true → (is_among s ns ≡ true → p s ≡ true) → p s ≡ true
    by true eq h rest = ap p ((bytes_decides s n).0 eq) ∙ and-first (p n) (list_all p ns) all
    by false eq h rest = rest h

stem-spells : (names : List (List ℕ)) (v stem : List ℕ) → IsStem names v stem → spells v stem ≡ true
stem-spells names v stem s = subst (λ w. spells w stem ≡ true) (sym s.spelled) (spells-joined stem s.digits s.are_digits)

no-longer : (names : List (List ℕ)) (v stem y : List ℕ) → IsStem names v stem → is_among y names ≡ true → spells_longest names v y ≡ true → length y ≤ length stem
no-longer names v stem y s among h = s.longest y among (and-first (spells v y) (list_all (λ t. not (spells v t) || nat_le (length t) (length y)) names) h)

only-stem : (names : List (List ℕ)) (v stem y : List ℕ) → IsStem names v stem → is_among stem names ≡ true → is_among y names ≡ true → spells_longest names v y ≡ true → y ≡ stem
only-stem names v stem y s there among h =
    let spelled = and-first (spells v y) (list_all (λ t. not (spells v t) || nat_le (length t) (length y)) names) h in
    let all = and-last (spells v y) (list_all (λ t. not (spells v t) || nat_le (length t) (length y)) names) h in
    let least = at-long (spells v stem) (length stem) (length y) (stem-spells names v stem s) (all-at (λ t. not (spells v t) || nat_le (length t) (length y)) stem names all there) in
    let most = no-longer names v stem y s among h in
    is-stem names v stem y s spelled (omega (arith, least, most))

-- a stem that is a name is the longest
pub stem-found : (names : List (List ℕ)) (v stem : List ℕ) → IsStem names v stem → is_among stem names ≡ true → find (spells_longest names v) names ≡ Some stem
stem-found names v stem s there =
    let long = and-true (spells v stem) (list_all (λ t. not (spells v t) || nat_le (length t) (length stem)) names) (stem-spells names v stem s) (all-long v stem names s.longest) in
    find-is (spells_longest names v) names stem there long (λ y among h. only-stem names v stem y s there among h)

refuted : (b : Bool) → (b ≡ true → ⊥) → b ≡ false
refuted true h = absurd (h refl)
refuted false h = refl

shorter-digit : (names : List (List ℕ)) (v shorter y : List ℕ) (last : ℕ) (stem : List ℕ) → IsStem names v stem → stem ≡ shorter ++ last ∷ [] → spells v y ≡ true → length y ≤ length shorter → is_digit last ≡ true
shorter-digit names v shorter y last stem s is h le =
    let split = spells-split v y h in
    let whole = sym split.is ∙ s.spelled ∙ ap (λ (xs : List ℕ). xs ++ s.digits) is ∙ append_assoc shorter (last ∷ []) s.digits in
    digit-behind y split.digits shorter last s.digits whole le split.all

-- a stem that is no name and ends without a digit is the last one
pub stem-none : (names : List (List ℕ)) (v stem shorter : List ℕ) (last : ℕ) → IsStem names v stem → is_among stem names ≡ false → stem ≡ shorter ++ last ∷ [] → is_digit last ≡ false → find (spells_longest names v) names ≡ None
stem-none names v stem shorter last s none is ends = find-none (spells_longest names v) names (λ y among. refuted (spells_longest names v y) (λ h.
    let spelled = and-first (spells v y) (list_all (λ t. not (spells v t) || nat_le (length t) (length y)) names) h in
    let most = no-longer names v stem y s among h in
    let long = ap (λ (xs : List ℕ). length xs) is ∙ length-append shorter (last ∷ []) in
    let le = shorter-by (length y) (length shorter) (omega (arith, most, long)) (λ n. not-among names y stem among none (is-stem names v stem y s spelled (n ∙ sym long))) in
    true≢false (sym (shorter-digit names v shorter y last stem s is spelled le) ∙ ends)))

no-bytes : (y : List ℕ) → length y ≤ 0 → y ≡ []
no-bytes [] h = refl
no-bytes (b ∷ y) h = absurd (omega (arith, h))

pub no-length : (y : List ℕ) → length y ≡ 0 → y ≡ []
no-length y h = no-bytes y (omega (arith, h))

-- the empty stem
pub stem-empty : (names : List (List ℕ)) (v : List ℕ) → IsStem names v [] → is_among [] names ≡ false → find (spells_longest names v) names ≡ None
stem-empty names v s none = find-none (spells_longest names v) names (λ y among. refuted (spells_longest names v y) (λ h. not-among names y [] among none (no-bytes y (no-longer names v [] y s among h))))

-- ---- the table

key-by : {V : Type 0} (b : Bool) (k : List ℕ) (e : List ℕ × V) (es : List (List ℕ × V)) (n : List ℕ) → bytes_eq k e.0 ≡ b → cond b (Some e.0) (lookup_key (bytes_eq k) es) ≡ Some n
    → (lookup_key (bytes_eq k) es ≡ Some n → (n ≡ k) × (is_among k (keys_of es) ≡ true)) → (n ≡ k) × ((b || is_among k (keys_of es)) ≡ true)
key-by true k e es n is found rest = (sym (ap (λ o. unwrap_or o k) found) ∙ sym ((bytes_decides k e.0).0 is), refl)
key-by false k e es n is found rest = rest found

pub key-found : {V : Type 0} (es : List (List ℕ × V)) (k n : List ℕ) → lookup_key (bytes_eq k) es ≡ Some n → (n ≡ k) × (is_among k (keys_of es) ≡ true)
key-found [] k n found = absurd (true≢false (sym (ap is_some found)))
key-found (e ∷ es) k n found = key-by (bytes_eq k e.0) k e es n refl found (key-found es k n)

none-by : {V : Type 0} (b : Bool) (k : List ℕ) (e : List ℕ × V) (es : List (List ℕ × V)) → cond b (Some e.0) (lookup_key (bytes_eq k) es) ≡ None → (lookup_key (bytes_eq k) es ≡ None → is_among k (keys_of es) ≡ false) → (b || is_among k (keys_of es)) ≡ false
none-by true k e es none rest = absurd (true≢false (ap is_some none))
none-by false k e es none rest = rest none

pub key-none : {V : Type 0} (es : List (List ℕ × V)) (k : List ℕ) → lookup_key (bytes_eq k) es ≡ None → is_among k (keys_of es) ≡ false
key-none [] k none = refl
key-none (e ∷ es) k none = none-by (bytes_eq k e.0) k e es none (key-none es k)
