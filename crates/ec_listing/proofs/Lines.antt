-- The lines of the slots of a signature.
use Rattle.std.proofs.Common.{◌≡◌, ◌≢◌, ℕ, ◌<◌, ◌==◌, nat_lt, nat_le, Bool, true, false, not, ◌&&◌, if◌then◌else◌, List, [], ◌∷◌, ◌++◌, drop, slice_get, Some, ℤ, pos, negsuc, All, decimal, refl, sym, ap, ◌∙◌, arith, append_assoc, codes}
use Rattle.std.specs.List.{AllByRecursion, list_all}
use Rattle.std.proofs.lemmas.Bool.Decides.{nat_tests}
use Rattle.std.proofs.lemmas.List.Elements.{All-from_recursion}
use Rattle.ec_logic.specs.Signature.{Signature, time_sort, event_sort, fluent_sort}
use Rattle.ec_logic.specs.BuiltIn.{predicate_row}
use Rattle.ec_logic.specs.Atom.{GroundAtom}
use Rattle.ec_logic.specs.Truth.{IsTuple}
use Rattle.ec_logic.specs.Turns.{IsValueOf}
use Rattle.ec_logic.specs.Universe.{Universe, universe_of, extent_at}
use Rattle.ec_logic.specs.Narrative.{integer_text, event_text, fluent_text, atom_text}
use Rattle.ec_logic.specs.Valid.{IsSignature, is_upper_word, is_word_byte}
use Rattle.ec_logic.proofs.Tests.{and_parts}
use Rattle.ec_listing.specs.Slots.{Slot, told, changed, silent, fluent_slot, released_slot, happens_slot, atom_slot}
use Rattle.ec_listing.specs.Apart.{lines_of, IsSlotLine}
use Rattle.ec_listing.proofs.Decoding.{is_plain_text, is_parting}
use Rattle.ec_listing.proofs.Numerals.{is_digit, is_numeral, decimal_numeral, IsSmall, integer_plain}
use Rattle.ec_listing.proofs.Names.{built_in_at}
use Rattle.ec_listing.proofs.Values.{is_printed, printed_append, integer_printed}
use Rattle.ec_listing.proofs.Texts.{IsNamed, fluent_named, atom_named, fluent_no_predicate, fluent_same, event_same, atom_same, fluent_printed, event_printed, atom_printed}
use Rattle.ec_listing.proofs.Times.{time_small}

-- ---- what a text begins with

-- whether a text begins with a byte below the small letters
abbrev pub begins_low : List ℕ → Bool
begins_low [] = false
begins_low (b ∷ bs) = nat_lt b 97

-- whether a text begins with a byte from the great letters on
abbrev begins_high : List ℕ → Bool
begins_high [] = false
begins_high (b ∷ bs) = nat_le 65 b

-- whether a text begins with a byte
abbrev begins_with : ℕ → List ℕ → Bool
begins_with b [] = false
begins_with b (c ∷ cs) = b == c

true_false : true ≡ false → ⊥
true_false e = cc

named_low : (text : List ℕ) → IsNamed text → begins_low text ≡ true
named_low text h = ap begins_low h.is ∙ first h.name h.upper
  where
    first : (name : List ℕ) → is_upper_word name ≡ true → begins_low (name ++ 40 ∷ h.rest) ≡ true
    first [] u = cc
    first (b ∷ bs) u = let both = and_parts (nat_le 65 b) (nat_le b 90) (and_parts (nat_le 65 b && nat_le b 90) (list_all is_word_byte bs) u).0 in let high = both.1 in grind (arith, nat_tests)

named_high : (text : List ℕ) → IsNamed text → begins_high text ≡ true
named_high text h = ap begins_high h.is ∙ first h.name h.upper
  where
    first : (name : List ℕ) → is_upper_word name ≡ true → begins_high (name ++ 40 ∷ h.rest) ≡ true
    first [] u = cc
    first (b ∷ bs) u = (and_parts (nat_le 65 b) (nat_le b 90) (and_parts (nat_le 65 b && nat_le b 90) (list_all is_word_byte bs) u).0).0

parted_not_plain : (front rest : List ℕ) → is_plain_text (front ++ 40 ∷ rest) ≡ false
parted_not_plain [] rest = refl
parted_not_plain (b ∷ bs) rest = by_test (not (is_parting b)) (parted_not_plain bs rest)
  where
    by_test : (t : Bool) → is_plain_text (bs ++ 40 ∷ rest) ≡ false → (t && is_plain_text (bs ++ 40 ∷ rest)) ≡ false
    by_test true h = h
    by_test false h = refl

named_not_plain : (text : List ℕ) → IsNamed text → is_plain_text text ≡ false
named_not_plain text h = ap is_plain_text h.is ∙ parted_not_plain h.name h.rest

-- ---- lines

printed_one : (text : List ℕ) → is_printed text ≡ true → All (λ b. b ≢ 10) text
printed_one text h = All-from_recursion (λ b. b ≢ 10) text (each text h)
  where
    each : (bs : List ℕ) → is_printed bs ≡ true → AllByRecursion (λ b. b ≢ 10) bs
    each [] h = tt
    each (b ∷ bs) h = let both = and_parts (nat_le 32 b) (is_printed bs) h in ((λ e. let low = both.0 in grind (arith, nat_tests)), each bs both.1)

pub slot_line : (text : List ℕ) → is_printed text ≡ true → begins_low text ≡ true → IsSlotLine text
slot_line [] h low = cc
slot_line (b ∷ bs) h low = record { first = b; others = bs; is = refl; not_small = grind (arith, nat_tests); one = printed_one (b ∷ bs) h }

-- A line that is told between two lines that are always there: it has a parenthesis, which these don't have.
pub record IsBetween (text : List ℕ) : Type 0 where
  pub line : IsSlotLine text
  pub parted : is_plain_text text ≡ false

numeral_low : (bs : List ℕ) → is_numeral bs ≡ true → begins_low bs ≡ true
numeral_low [] h = cc
numeral_low (b ∷ bs) h = let both = and_parts (nat_le 48 b) (nat_le b 57) (and_parts (is_digit b) (list_all is_digit bs) h).0 in let high = both.1 in grind (arith, nat_tests)

integer_low : (z : ℤ) → IsSmall z → begins_low (integer_text z) ≡ true
integer_low (pos n) h = numeral_low (decimal n) (decimal_numeral n (omega (arith, h)))
integer_low (negsuc n) h = refl

four : (a b c d : List ℕ) → a ++ b ++ c ++ d ≡ a ++ (b ++ (c ++ d))
four a b c d = append_assoc (a ++ b) c d ∙ append_assoc a b (c ++ d)

-- ---- the lines of a slot that depend on a choice

module _ (P : List ℕ → Type 0) where
  pub told_or_changed : (c : Bool) (e k : ℕ) (text : List ℕ) → P text → P (codes "+" ++ text) → P (codes "-" ++ text) → AllByRecursion P (lines_of (if c then told k text else changed e k text))
  told_or_changed true e k text h p m = (h, tt)
  told_or_changed false e k text h p m = (p, (m, tt))

  pub silent_or_told : (c : Bool) (k : ℕ) (text : List ℕ) → P text → AllByRecursion P (lines_of (if c then silent k else told k text))
  silent_or_told true k text h = tt
  silent_or_told false k text h = (h, tt)

-- ---- values of the domains

abbrev pub IsFluent : Signature → ℤ → Type 0
IsFluent signature f = IsValueOf (extent_at (universe_of signature) fluent_sort) f

abbrev pub IsEvent : Signature → ℤ → Type 0
IsEvent signature e = IsValueOf (extent_at (universe_of signature) event_sort) e

abbrev pub IsTime : Signature → ℤ → Type 0
IsTime signature t = IsValueOf (extent_at (universe_of signature) time_sort) t

module _ (signature : Signature) (valid : IsSignature signature) where
  abbrev universe : Universe
  universe = universe_of signature

  abbrev holds_text : ℤ → List ℕ
  holds_text f = fluent_text signature f ++ codes "."

  abbrev released_text : ℤ → ℤ → List ℕ
  released_text t f = codes "ReleasedAt(" ++ fluent_text signature f ++ codes ", " ++ integer_text t ++ codes ")."

  abbrev happens_text : ℤ → ℤ → List ℕ
  happens_text t e = codes "Happens(" ++ event_text signature e ++ codes ", " ++ integer_text t ++ codes ")."

  abbrev declared_text : GroundAtom → List ℕ
  declared_text atom = atom_text signature atom ++ codes "."

  -- ---- each is a line

  holds_named : (f : ℤ) → IsFluent signature f → IsNamed (holds_text f)
  holds_named f h = fluent_named signature valid f (codes ".") h

  holds_printed : (f : ℤ) → IsFluent signature f → is_printed (holds_text f) ≡ true
  holds_printed f h = printed_append (fluent_text signature f) (codes ".") (fluent_printed signature valid f h) refl

  holds_between : (f : ℤ) → IsFluent signature f → IsBetween (holds_text f)
  holds_between f h = record { line = slot_line (holds_text f) (holds_printed f h) (named_low (holds_text f) (holds_named f h)); parted = named_not_plain (holds_text f) (holds_named f h) }

  begins_between : (f : ℤ) → IsFluent signature f → IsBetween (codes "+" ++ holds_text f)
  begins_between f h = record { line = slot_line (codes "+" ++ holds_text f) (holds_printed f h) refl; parted = named_not_plain (holds_text f) (holds_named f h) }

  ends_between : (f : ℤ) → IsFluent signature f → IsBetween (codes "-" ++ holds_text f)
  ends_between f h = record { line = slot_line (codes "-" ++ holds_text f) (holds_printed f h) refl; parted = named_not_plain (holds_text f) (holds_named f h) }

  pub fluent_between : (t f : ℤ) → IsFluent signature f → AllByRecursion IsBetween (lines_of (fluent_slot signature t f))
  fluent_between t f h = told_or_changed IsBetween _ _ _ (holds_text f) (holds_between f h) (begins_between f h) (ends_between f h)

  timed_printed : (front text : List ℕ) (t : ℤ) → is_printed front ≡ true → is_printed text ≡ true → IsTime signature t → is_printed (front ++ text ++ codes ", " ++ integer_text t ++ codes ").") ≡ true
  timed_printed front text t a b h =
      printed_append (front ++ text ++ codes ", " ++ integer_text t) (codes ").")
      (printed_append (front ++ text ++ codes ", ") (integer_text t) (printed_append (front ++ text) (codes ", ") (printed_append front text a b) refl) (integer_printed t (time_small signature valid t h))) refl

  released_between_text : (t f : ℤ) → IsTime signature t → IsFluent signature f → IsBetween (released_text t f)
  released_between_text t f h k = record { line = slot_line (released_text t f) (timed_printed (codes "ReleasedAt(") (fluent_text signature f) t refl (fluent_printed signature valid f k) h) refl; parted = refl }

  pub released_between : (t f : ℤ) → IsTime signature t → IsFluent signature f → AllByRecursion IsBetween (lines_of (released_slot signature t f))
  released_between t f h k = silent_or_told IsBetween _ _ (released_text t f) (released_between_text t f h k)

  pub happens_between : (t e : ℤ) → IsTime signature t → IsEvent signature e → AllByRecursion IsBetween (lines_of (happens_slot signature t e))
  happens_between t e h k = (record { line = slot_line (happens_text t e) (timed_printed (codes "Happens(") (event_text signature e) t refl (event_printed signature valid e k) h) refl; parted = refl }, tt)

  pub atom_between : (p : ℕ) (vs : List ℤ) → IsTuple universe p vs → AllByRecursion IsBetween (lines_of (atom_slot signature (record { predicate = p; args = vs })))
  atom_between p vs h =
      let text = atom_text signature (record { predicate = p; args = vs }) in
      let named = atom_named signature valid p vs (codes ".") h in
      (record { line = slot_line (text ++ codes ".") (printed_append text (codes ".") (atom_printed signature valid p vs h) refl) (named_low (text ++ codes ".") named); parted = named_not_plain (text ++ codes ".") named }, tt)

  pub time_line : (t : ℤ) → IsTime signature t → IsSlotLine (integer_text t)
  time_line t h = slot_line (integer_text t) (integer_printed t (time_small signature valid t h)) (integer_low t (time_small signature valid t h))

  pub time_plain : (t : ℤ) → IsTime signature t → is_plain_text (integer_text t) ≡ true
  time_plain t h = integer_plain t (time_small signature valid t h)

  -- ---- no two are the same

  -- the lines of one slot are none of another's
  abbrev pub Differs : Slot → Slot → Type 0
  Differs s z = AllByRecursion (λ text. AllByRecursion (λ ahead. text ≢ ahead) (lines_of z)) (lines_of s)

  not_marked : (text more : List ℕ) (b : ℕ) → IsNamed text → nat_le 65 b ≡ false → text ≢ b ∷ more
  not_marked text more b h low = λ e. let high = named_high text h in let same = ap begins_high e in true_false (sym high ∙ (same ∙ low))

  behind_first : (b : ℕ) (xs ys : List ℕ) → b ∷ xs ≡ b ∷ ys → xs ≡ ys
  behind_first b xs ys e = cc

  holds_same : (f g : ℤ) → IsFluent signature f → IsFluent signature g → f ≢ g → holds_text f ≢ holds_text g
  holds_same f g h k apart = λ e. apart (fluent_same signature valid f g (codes ".") (codes ".") h k e).0

  pub fluents_differ : (t f g : ℤ) → IsFluent signature f → IsFluent signature g → f ≢ g → Differs (fluent_slot signature t f) (fluent_slot signature t g)
  fluents_differ t f g h k apart =
      told_or_changed (λ text. AllByRecursion (λ ahead. text ≢ ahead) (lines_of (fluent_slot signature t g))) _ _ _ (holds_text f)
      (told_or_changed (λ ahead. holds_text f ≢ ahead) _ _ _ (holds_text g) (holds_same f g h k apart) (not_marked (holds_text f) (holds_text g) 43 (holds_named f h) refl) (not_marked (holds_text f) (holds_text g) 45 (holds_named f h) refl))
      (told_or_changed (λ ahead. codes "+" ++ holds_text f ≢ ahead) _ _ _ (holds_text g) (λ e. not_marked (holds_text g) (holds_text f) 43 (holds_named g k) refl (sym e)) (λ e. holds_same f g h k apart (behind_first 43 (holds_text f) (holds_text g) e)) (λ e. true_false (ap (begins_with 43) e)))
      (told_or_changed (λ ahead. codes "-" ++ holds_text f ≢ ahead) _ _ _ (holds_text g) (λ e. not_marked (holds_text g) (holds_text f) 45 (holds_named g k) refl (sym e)) (λ e. true_false (ap (begins_with 45) e)) (λ e. holds_same f g h k apart (behind_first 45 (holds_text f) (holds_text g) e)))

  -- the line of a fluent isn't that of a release or of an event, which begin with the names of predicates
  fluent_apart : (t f : ℤ) (k : ℕ) (name sorts rest : List ℕ) → IsFluent signature f → k < 6 → slice_get signature.predicates k ≡ Some (predicate_row name sorts) → begins_high (name ++ 40 ∷ rest) ≡ true
      → AllByRecursion (λ text. text ≢ name ++ 40 ∷ rest) (lines_of (fluent_slot signature t f))
  fluent_apart t f k name sorts rest h low found high =
      told_or_changed (λ text. text ≢ name ++ 40 ∷ rest) _ _ _ (holds_text f)
      (λ e. fluent_no_predicate signature valid f k (predicate_row name sorts) (codes ".") rest h found e) (λ e. marked 43 refl e) (λ e. marked 45 refl e)
    where
      marked : (b : ℕ) → nat_le 65 b ≡ false → b ∷ holds_text f ≡ name ++ 40 ∷ rest → ⊥
      marked b low e = true_false (sym high ∙ (sym (ap begins_high e) ∙ low))

  swapped : (P : List ℕ → List ℕ → Type 0) (texts : List (List ℕ)) (ahead : List ℕ) → AllByRecursion (λ text. P text ahead) texts → AllByRecursion (λ text. AllByRecursion (P text) (ahead ∷ [])) texts
  swapped P [] ahead h = tt
  swapped P (t ∷ ts) ahead h = ((h.0, tt), swapped P ts ahead h.1)

  none_ahead : (P : List ℕ → List ℕ → Type 0) (texts : List (List ℕ)) → AllByRecursion (λ text. AllByRecursion (P text) []) texts
  none_ahead P [] = tt
  none_ahead P (t ∷ ts) = (tt, none_ahead P ts)

  pub fluent_released : (t f g : ℤ) → IsFluent signature f → Differs (fluent_slot signature t f) (released_slot signature t g)
  fluent_released t f g h = by_kind _ _
    where
      by_kind : (c : Bool) (k : ℕ) → AllByRecursion (λ text. AllByRecursion (λ ahead. text ≢ ahead) (lines_of (if c then silent k else told k (released_text t g)))) (lines_of (fluent_slot signature t f))
      by_kind true k = none_ahead (λ a b. a ≢ b) (lines_of (fluent_slot signature t f))
      by_kind false k = swapped (λ a b. a ≢ b) (lines_of (fluent_slot signature t f)) (released_text t g)
          (fluent_apart t f 1 (codes "ReleasedAt") (fluent_sort ∷ time_sort ∷ []) (fluent_text signature g ++ codes ", " ++ integer_text t ++ codes ").") h (omega arith) (built_in_at signature valid 1 (omega arith)) refl)

  pub fluent_happens : (t f e : ℤ) → IsFluent signature f → Differs (fluent_slot signature t f) (happens_slot signature t e)
  fluent_happens t f e h = swapped (λ a b. a ≢ b) (lines_of (fluent_slot signature t f)) (happens_text t e)
      (fluent_apart t f 2 (codes "Happens") (event_sort ∷ time_sort ∷ []) (event_text signature e ++ codes ", " ++ integer_text t ++ codes ").") h (omega arith) (built_in_at signature valid 2 (omega arith)) refl)

  released_same : (t f g : ℤ) → IsFluent signature f → IsFluent signature g → f ≢ g → released_text t f ≢ released_text t g
  released_same t f g h k apart = λ e.
      let behind : fluent_text signature f ++ codes ", " ++ integer_text t ++ codes ")." ≡ fluent_text signature g ++ codes ", " ++ integer_text t ++ codes ")." = ap (λ bs. drop 11 bs) e in
      apart (fluent_same signature valid f g (codes ", " ++ (integer_text t ++ codes ").")) (codes ", " ++ (integer_text t ++ codes ").")) h k
      (sym (four (fluent_text signature f) (codes ", ") (integer_text t) (codes ").")) ∙ (behind ∙ four (fluent_text signature g) (codes ", ") (integer_text t) (codes ").")))).0

  pub released_differ : (t f g : ℤ) → IsFluent signature f → IsFluent signature g → f ≢ g → Differs (released_slot signature t f) (released_slot signature t g)
  released_differ t f g h k apart =
      silent_or_told (λ text. AllByRecursion (λ ahead. text ≢ ahead) (lines_of (released_slot signature t g))) _ _ (released_text t f)
      (silent_or_told (λ ahead. released_text t f ≢ ahead) _ _ (released_text t g) (released_same t f g h k apart))

  pub released_happens : (t f e : ℤ) → Differs (released_slot signature t f) (happens_slot signature t e)
  released_happens t f e =
      silent_or_told (λ text. AllByRecursion (λ ahead. text ≢ ahead) (lines_of (happens_slot signature t e))) _ _ (released_text t f) ((λ d. true_false (ap (begins_with 82) d)), tt)

  happens_same : (t d e : ℤ) → IsEvent signature d → IsEvent signature e → d ≢ e → happens_text t d ≢ happens_text t e
  happens_same t d e h k apart = λ s.
      let behind : event_text signature d ++ codes ", " ++ integer_text t ++ codes ")." ≡ event_text signature e ++ codes ", " ++ integer_text t ++ codes ")." = ap (λ bs. drop 8 bs) s in
      apart (event_same signature valid d e (codes ", " ++ (integer_text t ++ codes ").")) (codes ", " ++ (integer_text t ++ codes ").")) h k
      (sym (four (event_text signature d) (codes ", ") (integer_text t) (codes ").")) ∙ (behind ∙ four (event_text signature e) (codes ", ") (integer_text t) (codes ").")))).0

  pub happens_differ : (t d e : ℤ) → IsEvent signature d → IsEvent signature e → d ≢ e → Differs (happens_slot signature t d) (happens_slot signature t e)
  happens_differ t d e h k apart = ((happens_same t d e h k apart, tt), tt)

  pub atoms_differ : (p o : ℕ) (vs ws : List ℤ) → IsTuple universe p vs → IsTuple universe o ws → (p ≡ o → vs ≡ ws → ⊥) → Differs (atom_slot signature (record { predicate = p; args = vs })) (atom_slot signature (record { predicate = o; args = ws }))
  atoms_differ p o vs ws h k apart = (((λ e. (let same = atom_same signature valid p o vs ws (codes ".") (codes ".") h k e in apart same.0 same.1)), tt), tt)
