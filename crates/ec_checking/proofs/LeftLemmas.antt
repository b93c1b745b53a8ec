-- The table of the truths that are still to be blocked: as it is filled, and as truths are taken out.
use Rattle.std.proofs.Common.{◌≡◌, ◌⊎◌, ℕ, ◌+◌, ◌<◌, Bool, true, false, cond, List, [], ◌∷◌, ◌++◌, Option, Some, None, Vec, Global, length, nat_eq, Contains, refl, sym, ap, subst, ◌∙◌, inl, inr, true≢false, arith}
use Rattle.std.specs.Prelude.{MatchOption}
use Rattle.std.specs.Cmp.Lexicographic.{pointwise, bytes_decides}
use Rattle.std.specs.Map.{lookup}
use Rattle.std.proofs.lemmas.Bool.{cases_Bool, cases_lt}
use Rattle.std.proofs.lemmas.List.{get_or_default}
use Rattle.std.proofs.lemmas.List.Elements.{Contains-append_left, Contains-push, Contains-push_cases}
use Rattle.ec_clause.specs.Note.{Note, Derived, Blocked}
use Rattle.ec_clause.specs.Literal.{Literal}
use Rattle.ec_log.specs.Digits.{digits_of}
use Rattle.ec_certificate.specs.Accepted.{forbids}
use Rattle.ec_certificate.proofs.Forbidding.{forbids-apart}
use Rattle.ec_certificate.proofs.LineBytes.{OfOneLength, digits_of-apart}
use Rattle.ec_checking.specs.Left.{Table, same_bytes, table_of, truth_at, IsBlockedIn, Blocks, IsOpen, IsBlocked, IsIn, AreLeft}
use Rattle.ec_checking.specs.declared.left.Left.{Left}

same-from : (a b : Vec ℕ Global) → same_bytes a b ≡ true → a.items ≡ b.items
same-from a b h = (bytes_decides a.items b.items).0 h

same-to : (a b : Vec ℕ Global) → a.items ≡ b.items → same_bytes a b ≡ true
same-to a b e = (bytes_decides a.items b.items).1 e

some≢none : {X : Type 0} (x : X) (o : Option X) → o ≡ None → o ≡ Some x → ⊥
some≢none x o e f = let same : None ≡ Some x = sym e ∙ f in cc

-- what the table has at a key, where one key was changed
changed-other : (b : Bool) (w o : Option ℕ) (x : ℕ) → w ≡ None → cond b w o ≡ Some x → (b ≡ false) × (o ≡ Some x)
changed-other true w o x none h = absurd (some≢none x w none h)
changed-other false w o x none h = (refl, h)

-- ---- filling

-- the table has the first truths of the list, so many
pub record AreFirst (truths : List (List Bool)) (count : ℕ) (table : Table) : Type 0 where
  pub own : (digits : Vec ℕ Global) (place : ℕ) → table digits ≡ Some place → (place < count) × (digits.items ≡ digits_of (truth_at truths place))
  pub each : (place : ℕ) → place < count → IsIn table (truth_at truths place)

pub first-none : (truths : List (List Bool)) (table : Table) → ((digits : Vec ℕ Global) → table digits ≡ None) → AreFirst truths 0 table
first-none truths table none = record {
  own = λ digits place h. absurd (some≢none place (table digits) (none digits) h);
  each = λ place lt. absurd (omega (arith, lt));
}

own-more : (truths : List (List Bool)) (count : ℕ) (table : Table) (key digits : Vec ℕ Global) (place : ℕ) (b : Bool) → same_bytes key digits ≡ b → AreFirst truths count table → key.items ≡ digits_of (truth_at truths count)
    → cond b (Some count) (table digits) ≡ Some place → (place < count + 1) × (digits.items ≡ digits_of (truth_at truths place))
own-more truths count table key digits place true same first is h =
    let e : count ≡ place = cc in
    (omega (arith, e), sym (same-from key digits same) ∙ is ∙ ap (λ n. digits_of (truth_at truths n)) e)
own-more truths count table key digits place false same first is h =
    let old = first.own digits place h in
    (omega (arith, old.0), old.1)

there-more : (count place : ℕ) (o : Option ℕ) (b : Bool) → o ≡ Some place → (p : ℕ) × (cond b (Some count) o ≡ Some p)
there-more count place o true h = (count, refl)
there-more count place o false h = (place, h)

pub first-more : (truths : List (List Bool)) (count : ℕ) (old new : Table) (key : Vec ℕ Global) → AreFirst truths count old → key.items ≡ digits_of (truth_at truths count) → ((q : Vec ℕ Global) → new q ≡ cond (same_bytes key q) (Some count) (old q)) → AreFirst truths (count + 1) new
first-more truths count old new key first is updates = record {
  own = λ digits place h. own-more truths count old key digits place (same_bytes key digits) refl first is (sym (updates digits) ∙ h);
  each = λ place lt. elim (cases_lt place count) [
    | inl below ↦ (
        let was = first.each place below in
        let now = there-more count was.place (old was.digits) (same_bytes key was.digits) was.there in
        record { digits = was.digits; place = now.0; are = was.are; there = updates was.digits ∙ now.1 })
    | inr above ↦ (
        let e : count ≡ place = omega (arith, lt, above) in
        record { digits = key; place = count; are = is ∙ ap (λ n. digits_of (truth_at truths n)) e; there = updates key ∙ ap (λ b. cond b (Some count) (old key)) (same-to key key refl) })
  ];
}

no_note : (truth : List Bool) → IsBlockedIn [] truth → ⊥
no_note truth h = omega (arith, h.1)

pub first-left : (truths : List (List Bool)) (count : ℕ) (table : Table) → AreFirst truths count table → count ≡ length truths → AreLeft truths [] table
first-left truths count table first all = record {
  unblocked = λ digits place h. (let own = first.own digits place h in record { within = omega (arith, own.0, all); are = own.1; unblocked = no_note (truth_at truths place) });
  each = λ place lt. inr (first.each place (omega (arith, lt, all)));
}

-- ---- notes

blocked-before : (notes : List Note) (truth truth' : List Bool) → IsBlockedIn (notes ++ Blocked (forbids truth) ∷ []) truth' → IsBlockedIn notes truth' ⊎ (truth' ≡ truth)
blocked-before notes truth truth' h = elim (Contains-push_cases notes (Blocked (forbids truth)) (Blocked (forbids truth')) h) [
  | inl before ↦ inl before
  | inr same ↦ (let lits : forbids truth ≡ forbids truth' = cc in inr (sym (forbids-apart truth truth' lits)))
]

derived-before : (notes : List Note) (lits : List Literal) (hints : List ℕ) (truth : List Bool) → IsBlockedIn (notes ++ Derived lits hints ∷ []) truth → IsBlockedIn notes truth
derived-before notes lits hints truth h = elim (Contains-push_cases notes (Derived lits hints) (Blocked (forbids truth)) h) [
  | inl before ↦ before
  | inr same ↦ cc
]

-- a derived note blocks nothing
pub left-derived : (truths : List (List Bool)) (notes : List Note) (lits : List Literal) (hints : List ℕ) (table : Table) → AreLeft truths notes table → AreLeft truths (notes ++ Derived lits hints ∷ []) table
left-derived truths notes lits hints table left = record {
  unblocked = λ digits place h. (
      let open_still = left.unblocked digits place h in
      record { within = open_still.within; are = open_still.are; unblocked = λ b. open_still.unblocked (derived-before notes lits hints (truth_at truths place) b) });
  each = λ place lt. elim (left.each place lt) [
    | inl blocked ↦ inl (Contains-append_left notes (Derived lits hints ∷ []) (Blocked (forbids (truth_at truths place))) blocked)
    | inr there ↦ inr there
  ];
}

-- a truth is taken out and blocked
pub left-taken : (visible : ℕ) (truths : List (List Bool)) (notes : List Note) (old new : Table) (key : Vec ℕ Global) (place : ℕ) → OfOneLength visible truths → AreLeft truths notes old → old key ≡ Some place → ((q : Vec ℕ Global) → new q ≡ cond (same_bytes key q) None (old q))
    → IsOpen truths notes key.items place × AreLeft truths (notes ++ Blocked (forbids (truth_at truths place)) ∷ []) new
left-taken visible truths notes old new key place sizes left found updates = (
  open_still,
  record {
    unblocked = λ digits other h. (
        let was = changed-other (same_bytes key digits) None (old digits) other refl (sym (updates digits) ∙ h) in
        let open_other = left.unblocked digits other was.1 in
        record {
          within = open_other.within;
          are = open_other.are;
          unblocked = λ b. elim (blocked-before notes (truth_at truths place) (truth_at truths other) b) [
            | inl before ↦ open_other.unblocked before
            | inr same ↦ true≢false (sym (same-to key digits (open_still.are ∙ ap digits_of (sym same) ∙ sym open_other.are)) ∙ was.0)
          ];
        });
    each = λ other lt. elim (left.each other lt) [
      | inl blocked ↦ inl (Contains-append_left notes (Blocked (forbids (truth_at truths place)) ∷ []) (Blocked (forbids (truth_at truths other))) blocked)
      | inr there ↦ elim (cases_Bool (same_bytes key there.digits)) [
        | inl same ↦ (
            let digits : digits_of (truth_at truths place) ≡ digits_of (truth_at truths other) = sym open_still.are ∙ same-from key there.digits same ∙ there.are in
            let size : length (truth_at truths place) ≡ length (truth_at truths other) = sizes place [] open_still.within ∙ sym (sizes other [] lt) in
            let truth : truth_at truths place ≡ truth_at truths other = digits_of-apart (truth_at truths place) (truth_at truths other) size digits in
            inl (subst (λ (t : List Bool). Contains (notes ++ Blocked (forbids (truth_at truths place)) ∷ []) (Blocked (forbids t))) truth (Contains-push notes (Blocked (forbids (truth_at truths place))))))
        | inr apart ↦ inr (record { digits = there.digits; place = there.place; are = there.are; there = updates there.digits ∙ ap (λ b. cond b None (old there.digits)) apart ∙ there.there })
      ]
    ];
  },
)
  where
    open_still : IsOpen truths notes key.items place
    open_still = left.unblocked key place found

-- a table depends on the bytes of a key alone
table-same : (left : Left) (a b : Vec ℕ Global) → a.items ≡ b.items → table_of left a ≡ table_of left b
table-same left a b e = ap (λ (bytes : List ℕ). lookup (λ (k : Vec ℕ Global). pointwise nat_eq bytes k.items) left.places.entries) e

-- no truth with these digits is left
pub left-none : (truths : List (List Bool)) (notes : List Note) (left : Left) (key : Vec ℕ Global) → AreLeft truths notes (table_of left) → table_of left key ≡ None → IsBlocked truths notes key.items
left-none truths notes left key are none place lt digits = elim (are.each place lt) [
  | inl blocked ↦ blocked
  | inr there ↦ absurd (some≢none there.place (table_of left key) none (table-same left key there.digits (digits ∙ sym there.are) ∙ there.there))
]

-- what taking a key out of the table answers
pub taken : (old new : Left) (key : Vec ℕ Global) (result : Option ℕ) → result ≡ table_of old key → ((q : Vec ℕ Global) → table_of new q ≡ cond (same_bytes key q) None (table_of old q))
    → (visible : ℕ) (truths : List (List Bool)) (notes : List Note) → OfOneLength visible truths → AreLeft truths notes (table_of old)
    → MatchOption result (IsBlocked truths notes key.items) (λ place. IsOpen truths notes key.items place × AreLeft truths (notes ++ Blocked (forbids (truth_at truths place)) ∷ []) (table_of new))
taken old new key None found updates visible truths notes sizes left = left-none truths notes old key left (sym found)
taken old new key (Some place) found updates visible truths notes sizes left = left-taken visible truths notes (table_of old) (table_of new) key place sizes left (sym found) updates

-- a table without entries has no truth,
pub left-all : (truths : List (List Bool)) (notes : List Note) (left : Left) → AreLeft truths notes (table_of left) → left.places.entries ≡ [] → Blocks notes truths
left-all truths notes left are empty place d lt = elim (are.each place lt) [
  | inl blocked ↦ subst (IsBlockedIn notes) (get_or_default truths place [] d lt) blocked
  | inr there ↦ absurd (some≢none there.place (table_of left there.digits) (ap (λ es. lookup (same_bytes there.digits) es) empty) there.there)
]

-- and one with an entry has one that is open
left-some : (truths : List (List Bool)) (notes : List Note) (left : Left) (key : Vec ℕ Global) (place : ℕ) (more : List (Vec ℕ Global × ℕ)) → AreLeft truths notes (table_of left) → left.places.entries ≡ (key, place) ∷ more → Blocks notes truths → ⊥
left-some truths notes left key place more are first blocks =
    let there : table_of left key ≡ Some place = ap (λ es. lookup (same_bytes key) es) first ∙ ap (λ b. cond b (Some place) (lookup (same_bytes key) more)) (same-to key key refl) in
    let open_still = are.unblocked key place there in
    open_still.unblocked (blocks place [] open_still.within)

-- so it is empty exactly where each truth is blocked
pub left-empty : (truths : List (List Bool)) (notes : List Note) (left : Left) → AreLeft truths notes (table_of left) → Blocks notes truths → length left.places.entries ≡ 0
left-empty truths notes left are blocks = by left.places.entries refl
  where
    by : (entries : List (Vec ℕ Global × ℕ)) → left.places.entries ≡ entries → length entries ≡ 0
    by [] e = refl
    by (entry ∷ more) e = absurd (left-some truths notes left entry.0 entry.1 more are e blocks)
