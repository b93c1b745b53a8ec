-- The longest front is one.
use Rattle.std.proofs.Common.{◌≡◌, ℕ, ◌⊎◌, List, [], ◌∷◌, ◌++◌, inl, inr, refl, sym, ap, subst, ◌∙◌, append_assoc}
use Rattle.std.proofs.lemmas.List.{append-nil}
use Rattle.ec_logic.specs.Signature.{Signature}
use Rattle.ec_logic.specs.Narrative.{line}
use Rattle.ec_listing.specs.Reading.{AreLines, IsBegun, IsLongest}
use Rattle.ec_listing.proofs.TextLines.{cons_same, ends_so, HasNoEnd, HasFirst, first_or_none, line_text}

-- of two fronts of a text one begins with the other
pub record IsLonger (front rest longer behind : List ℕ) : Type 0 where
  pub between : List ℕ
  pub is : longer ≡ front ++ between
  pub left : rest ≡ between ++ behind

fronts : (f r g s : List ℕ) → f ++ r ≡ g ++ s → IsLonger f r g s ⊎ IsLonger g s f r
fronts [] r g s is = inl (record { between = g; is = refl; left = is })
fronts (x ∷ f) r [] s is = inr (record { between = x ∷ f; is = refl; left = sym is })
fronts (x ∷ f) r (y ∷ g) s is = more (fronts f r g s tail)
  where
    tail : f ++ r ≡ g ++ s
    tail = cc

    head : x ≡ y
    head = cc

    more : IsLonger f r g s ⊎ IsLonger g s f r → IsLonger (x ∷ f) r (y ∷ g) s ⊎ IsLonger (y ∷ g) s (x ∷ f) r
    more (inl h) = inl (record { between = h.between; is = cons_same (sym head) h.is; left = h.left })
    more (inr h) = inr (record { between = h.between; is = cons_same head h.is; left = h.left })

nil_of : (f g : List ℕ) → f ++ g ≡ [] → g ≡ []
nil_of [] g is = is
nil_of (x ∷ f) g is = cc

-- a part without byte 10 at the end of whole lines is nothing
no_part : (f g text : List ℕ) → HasNoEnd g → f ++ g ≡ text ++ 10 ∷ [] → g ≡ []
no_part [] g text h is = absurd (ends_so text (subst HasNoEnd is h))
no_part (x ∷ f) g [] h is = nil_of f g cc
no_part (x ∷ f) g (y ∷ text) h is = no_part f g text h cc

part_none : (f g : List ℕ) → HasNoEnd g → AreLines (f ++ g) → g ≡ []
part_none f g h (inl e) = nil_of f g e
part_none f g h (inr (text, e)) = no_part f g text h e

module _ (signature : Signature) (number : ℕ) (bytes : List ℕ) where
  no_longer : (f r g s : List ℕ) → IsLongest signature number bytes f r → IsLongest signature number bytes g s → IsLonger f r g s → (f ≡ g) × (r ≡ s)
  no_longer f r g s longest other longer = by_case (first_or_none longer.between)
    where
      by_case : HasFirst longer.between ⊎ HasNoEnd longer.between → (f ≡ g) × (r ≡ s)
      by_case (inl h) =
          let behind : List ℕ = h.more ++ other.begun.rest in
          let goes : g ≡ f ++ line h.text ++ h.more = longer.is ∙ (ap (λ x. f ++ x) h.is ∙ sym (append_assoc f (line h.text) h.more)) in
          let begun : IsBegun signature number (f ++ line h.text) = record {
            truth = other.begun.truth;
            fits = other.begun.fits;
            rest = behind;
            is = other.begun.is ∙ (ap (λ x. x ++ other.begun.rest) goes ∙ append_assoc (f ++ line h.text) h.more other.begun.rest);
          } in
          absurd (longest.longest h.text (h.more ++ s) (line_text h.text h.one) (longer.left ∙ (ap (λ x. x ++ s) h.is ∙ append_assoc (line h.text) h.more s)) begun)
      by_case (inr h) =
          let none : longer.between ≡ [] = part_none f longer.between h (subst AreLines longer.is other.lines) in
          (sym (longer.is ∙ (ap (λ x. f ++ x) none ∙ append-nil f)), longer.left ∙ ap (λ x. x ++ s) none)

  pub one_front : (f r g s : List ℕ) → IsLongest signature number bytes f r → IsLongest signature number bytes g s → (f ≡ g) × (r ≡ s)
  one_front f r g s h k = by_case (fronts f r g s (sym h.parts ∙ k.parts))
    where
      by_case : IsLonger f r g s ⊎ IsLonger g s f r → (f ≡ g) × (r ≡ s)
      by_case (inl longer) = no_longer f r g s h k longer
      by_case (inr longer) = let same = no_longer g s f r k h longer in (sym same.0, sym same.1)
