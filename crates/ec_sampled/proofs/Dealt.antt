-- What sentences are dealt to a group, once the place of each one's group is known.
use Rattle.std.proofs.Common.{◌≡◌, ℕ, Bool, true, false, List, [], ◌∷◌, map, Option, if◌then◌else◌, refl, ap}
use Rattle.ec_split.specs.Groups.{Made, same_place}
use Rattle.ec_split.specs.Split.{home_of, sentences_at}
use Rattle.ec_theory.specs.declared.sorted.Labelled.{Labelled}
use Rattle.ec_theory.specs.declared.theory.Sentence.{Sentence}

-- the sentences with this place, where the places of all are these
abbrev pub picked : Option ℕ → List (Option ℕ) → List Labelled → List Sentence
picked k [] labelled = []
picked k (home ∷ homes) [] = []
picked k (home ∷ homes) (one ∷ labelled) = if same_place home k then one.sentence ∷ picked k homes labelled else picked k homes labelled

by_test : (P : Type 0) (b : Bool) → (b ≡ true → P) → (b ≡ false → P) → P
by_test P true f g = f refl
by_test P false f g = g refl

pub sentences_picked : (groups : List Made) (k : Option ℕ) (labelled : List Labelled) → sentences_at groups k labelled ≡ picked k (map (home_of groups) labelled) labelled
sentences_picked groups k [] = refl
sentences_picked groups k (one ∷ labelled) =
    let rest = sentences_picked groups k labelled in
    by_test (sentences_at groups k (one ∷ labelled) ≡ picked k (map (home_of groups) (one ∷ labelled)) (one ∷ labelled)) (same_place (home_of groups one) k)
    (λ e. rw e (ap (λ sentences. one.sentence ∷ sentences) rest)) (λ e. rw e rest)
