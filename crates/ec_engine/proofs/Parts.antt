-- Pieces put one after another: a fault in a later one leaves a prefix of the whole.
use Rattle.std.proofs.Common.{◌≡◌, ℕ, ◌+◌, ◌<◌, Bool, List, ◌∷◌, ◌++◌, Result, Ok, Err, length, drop, get_or, refl, sym, ap, ◌∙◌, append_assoc, add-one}
use Rattle.std.proofs.Math.Seq.{drop-cons}
use Rattle.std.specs.Prelude.{OnErr}
use Rattle.ec_edge.specs.Pieces.{AppendsPrefix}
use Rattle.ec_logic.specs.Listing.{narratives_from}
use Rattle.ec_logic.specs.Signature.{Signature}
use Rattle.ec_engine.specs.Narratives.{narrative_of}

-- what is left begins with the narrative of the truth at the place
pub next_is : (signature : Signature) (number i : ℕ) (truths : List (List Bool)) (truth : List Bool) → i < length truths → truth ≡ get_or truths i truth
    → narratives_from signature number (drop i truths) ≡ narrative_of signature number truth ++ narratives_from signature (number + 1) (drop (i + 1) truths)
next_is signature number i truths truth lt is =
    let parts : drop i truths ≡ get_or truths i truth ∷ drop (i + 1) truths = rw (add-one, drop-cons truths i truth) refl in
    ap (narratives_from signature number) parts
    ∙ ap (λ (n : ℕ). narrative_of signature number (get_or truths i truth) ++ narratives_from signature n (drop (i + 1) truths)) (sym (add-one number))
    ∙ ap (λ (t : List Bool). narrative_of signature number t ++ narratives_from signature (number + 1) (drop (i + 1) truths)) (sym is)

-- a prefix of a text's front is one of the text
pub front_part : (front rest old new : List ℕ) → AppendsPrefix front old new → AppendsPrefix (front ++ rest) old new
front_part front rest old new p = (p.0, p.1 ++ rest, ap (λ (x : List ℕ). x ++ rest) p.2 ∙ append_assoc p.0 p.1 rest, p.3)

-- a prefix of a text's rest stands behind its front
pub rest_part : {T E : Type 0} (put : Result T E) (front rest start old new : List ℕ) → old ≡ start ++ front → OnErr put (AppendsPrefix rest old new) → OnErr put (AppendsPrefix (front ++ rest) start new)
rest_part (Ok _) front rest start old new before part = tt
rest_part (Err e) front rest start old new before part =
    (front ++ part.0, part.1, ap (λ (x : List ℕ). front ++ x) part.2 ∙ sym (append_assoc front part.0 part.1), part.3 ∙ ap (λ (x : List ℕ). x ++ part.0) before ∙ append_assoc start front part.0)
