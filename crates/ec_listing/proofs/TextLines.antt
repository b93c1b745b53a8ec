-- Lines of a text: two texts that begin with a line begin with the same one.
use Rattle.std.proofs.Common.{◌≡◌, ◌≢◌, ℕ, Bool, true, false, eqb, List, [], ◌∷◌, ◌++◌, ◌⊎◌, inl, inr, refl, sym, ap, ◌∙◌, append_assoc}
use Rattle.std.specs.List.{AllByRecursion}
use Rattle.std.proofs.lemmas.Bool.{eqb-true, eq-eqb}
use Rattle.std.proofs.lemmas.List.{append-nil, append_cancel_left}
use Rattle.std.proofs.lemmas.List.Elements.{All-from_recursion, recursion_from_All}
use Rattle.ec_logic.specs.Narrative.{line}
use Rattle.ec_listing.specs.Reading.{IsLineText, AreLines}

-- a line's text, by recursion
abbrev pub HasNoEnd : List ℕ → Type 0
HasNoEnd text = AllByRecursion (λ b. b ≢ 10) text

pub no_end : (text : List ℕ) → IsLineText text → HasNoEnd text
no_end text h = recursion_from_All (λ b. b ≢ 10) text h

pub line_text : (text : List ℕ) → HasNoEnd text → IsLineText text
line_text text h = All-from_recursion (λ b. b ≢ 10) text h

pub cons_same : {X : Type 0} {x y : X} {xs ys : List X} → x ≡ y → xs ≡ ys → (x ∷ xs) ≡ (y ∷ ys)
cons_same e f = cc

first_same : (a b r s : List ℕ) → HasNoEnd a → HasNoEnd b → a ++ 10 ∷ r ≡ b ++ 10 ∷ s → (a ≡ b) × (r ≡ s)
first_same [] [] r s h g is = (refl, cc)
first_same [] (y ∷ b) r s h g is = let e : y ≡ 10 = cc in absurd (g.0 e)
first_same (x ∷ a) [] r s h g is = let e : x ≡ 10 = cc in absurd (h.0 e)
first_same (x ∷ a) (y ∷ b) r s h g is =
    let head : x ≡ y = cc in
    let tail : a ++ 10 ∷ r ≡ b ++ 10 ∷ s = cc in
    let rest = first_same a b r s h.1 g.1 tail in
    (cons_same head rest.0, rest.1)

pub line_is : (a r : List ℕ) → line a ++ r ≡ a ++ 10 ∷ r
line_is a r = append_assoc a (10 ∷ []) r

pub same_lines : (a b r s : List ℕ) → IsLineText a → IsLineText b → line a ++ r ≡ line b ++ s → (a ≡ b) × (r ≡ s)
same_lines a b r s h g is = first_same a b r s (no_end a h) (no_end b g) (sym (line_is a r) ∙ is ∙ line_is b s)

-- a text with a line in it isn't nothing
pub some_line : (a r : List ℕ) → line a ++ r ≢ []
some_line [] r is = cc
some_line (x ∷ a) r is = cc

pub some_behind : (front a r : List ℕ) → front ≡ front ++ (line a ++ r) → ⊥
some_behind front a r is = some_line a r (sym (append_cancel_left front [] (line a ++ r) (append-nil front ∙ is)))

-- ---- the first line of a text

pub record HasFirst (bytes : List ℕ) : Type 0 where
  pub text : List ℕ
  pub more : List ℕ
  pub one : HasNoEnd text
  pub is : bytes ≡ line text ++ more

first_step : (b : ℕ) (bytes : List ℕ) (is_end : Bool) → eqb b 10 ≡ is_end → HasFirst bytes ⊎ HasNoEnd bytes → HasFirst (b ∷ bytes) ⊎ HasNoEnd (b ∷ bytes)
first_step b bytes true e h = inl (record { text = []; more = bytes; one = tt; is = ap (λ x. x ∷ bytes) (eqb-true b 10 e) })
first_step b bytes false e (inl h) = inl (record { text = b ∷ h.text; more = h.more; one = (λ is. absurd (apart is), h.one); is = ap (λ xs. b ∷ xs) h.is })
  where
    apart : b ≡ 10 → ⊥
    apart is = let f : true ≡ false = sym (eq-eqb b 10 is) ∙ e in cc
first_step b bytes false e (inr h) = inr (λ is. absurd (apart is), h)
  where
    apart : b ≡ 10 → ⊥
    apart is = let f : true ≡ false = sym (eq-eqb b 10 is) ∙ e in cc

pub first_or_none : (bytes : List ℕ) → HasFirst bytes ⊎ HasNoEnd bytes
first_or_none [] = inr tt
first_or_none (b ∷ bytes) = first_step b bytes (eqb b 10) refl (first_or_none bytes)

pub ends_so : (text : List ℕ) → HasNoEnd (text ++ 10 ∷ []) → ⊥
ends_so [] h = h.0 refl
ends_so (b ∷ text) h = ends_so text h.1

-- whole lines have a first one, if they are some
pub first_line_of : (bytes : List ℕ) → AreLines bytes → bytes ≢ [] → HasFirst bytes
first_line_of bytes lines some = by_case (first_or_none bytes) lines
  where
    by_case : HasFirst bytes ⊎ HasNoEnd bytes → AreLines bytes → HasFirst bytes
    by_case (inl h) l = h
    by_case (inr h) (inl e) = absurd (some e)
    by_case (inr h) (inr (text, is)) = absurd (ends_so text (let f : HasNoEnd (text ++ 10 ∷ []) = rw is at h in f))

-- ---- whole lines behind a line

pub lines_behind : (text more : List ℕ) → AreLines more → AreLines (line text ++ more)
lines_behind text more (inl e) = inr (text, ap (λ r. line text ++ r) e ∙ line_is text [])
lines_behind text more (inr (last, e)) = inr (line text ++ last, ap (λ r. line text ++ r) e ∙ sym (append_assoc (line text) last (10 ∷ [])))
