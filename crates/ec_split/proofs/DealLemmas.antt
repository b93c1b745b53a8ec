-- Sentences dealt out one after another.
use Rattle.std.proofs.Common.{◌≡◌, ◌∙◌, ◌<◌, ◌+◌, ◌==◌, ℕ, zero, suc, true, false, Vec, Global, List, [], ◌∷◌, ◌++◌, length, map, filter, set, get_or, Option, None, Some, IfSome, if◌then◌else◌, ◌≤◌, refl, ap, arith}
use Rattle.std.specs.Option.{option_or, option_and_then}
use Rattle.std.proofs.lemmas.List.{map-append, append-nil}
use Rattle.std.proofs.lemmas.List.Elements.{filter-append}
use Rattle.std.proofs.lemmas.Bool.{ne_eqb, eq-eqb}
use Rattle.ec_logic.specs.Tree.{Formula}
use Rattle.ec_theory.specs.declared.sorted.Labelled.{Labelled}
use Rattle.ec_theory.specs.declared.theory.Sentence.{Sentence}
use Rattle.ec_theory.specs.declared.theory.Group.{Group}
use Rattle.ec_split.specs.Groups.{Maker, Made, is_made_by, same_place, place}
use Rattle.ec_split.specs.Parts.{group_parts}
use Rattle.ec_split.specs.Split.{home_by_heads, home_by_label, home_of, maker_by_heads, place_made_by, sentences_at, sentence_refusal, first_refusal, group_name, filled_from}
use Rattle.ec_split.specs.Dealt.{dealt, dealt_at, dealt_remaining, empty_parts}
use Rattle.ec_split.proofs.PlaceLemmas.{by_test, place_below}

-- ---- the places of sentences are those of groups

place_if : (groups : List Made) (maker : Maker) (o : Option ℕ) → place (is_made_by maker) groups ≡ o → IfSome o (λ k. k < length groups)
place_if groups maker None h = tt
place_if groups maker (Some k) h = place_below (is_made_by maker) groups k h

place_of_maker : (groups : List Made) (maker : Option Maker) → IfSome (option_and_then (place_made_by groups) maker) (λ k. k < length groups)
place_of_maker groups None = tt
place_of_maker groups (Some maker) = place_if groups maker (place_made_by groups maker) refl

pub heads_below : (groups : List Made) (f : Formula) → IfSome (home_by_heads groups f) (λ k. k < length groups)
heads_below groups f = place_of_maker groups (maker_by_heads f)

pub label_below : (groups : List Made) (name : Option (List ℕ)) (k : ℕ) → home_by_label groups name ≡ Some k → k < length groups
label_below groups None k h = cc
label_below groups (Some name) k h = place_below _ groups k h

-- ---- one sentence

-- one group, in the code's list, takes a sentence more
pub dealt_into : (k : ℕ) (sentence : Sentence) (groups : List Group) (group : Group) (sentences : Vec Sentence Global) → k < length groups → group ≡ get_or groups k group → sentences.items ≡ group.sentences.items ++ sentence ∷ [] → map group_parts (set groups k (record { name = group.name; predicates = group.predicates; sentences = sentences })) ≡ dealt_at k sentence (map group_parts groups)
dealt_into k sentence [] group sentences l e f = absurd (omega (arith, l))
dealt_into zero sentence (g ∷ groups) group sentences l e f =
    let rest = map group_parts groups in
    let n : group.name ≡ g.name = ap (λ (x : Group). x.name) e in
    let ps : group.predicates.items ≡ g.predicates.items = ap (λ (x : Group). x.predicates.items) e in
    let ss : sentences.items ≡ g.sentences.items ++ sentence ∷ [] = f ∙ ap (λ (x : Group). x.sentences.items ++ sentence ∷ []) e in
    λ i. record { name = n i; predicates = ps i; sentences = ss i } ∷ rest
dealt_into (suc k) sentence (g ∷ groups) group sentences l e f = ap (λ gs. group_parts g ∷ gs) (dealt_into k sentence groups group sentences (omega (arith, l)) e f)

module _ (all : List Made) (seen : List Labelled) (one : Labelled) where
  at_more : (k : Option ℕ) → sentences_at all k (seen ++ one ∷ []) ≡ (if same_place (home_of all one) k then sentences_at all k seen ++ one.sentence ∷ [] else sentences_at all k seen)
  at_more k =
      let sentence = λ (x : Labelled). x.sentence in
      let test = λ (x : Labelled). same_place (home_of all x) k in
      ap (map sentence) (filter-append test seen (one ∷ [])) ∙ map-append sentence (filter test seen) (filter test (one ∷ []))
      ∙ by_test (map sentence (filter test seen) ++ map sentence (filter test (one ∷ [])) ≡ (if same_place (home_of all one) k then sentences_at all k seen ++ one.sentence ∷ [] else sentences_at all k seen)) (same_place (home_of all one) k)
      (λ e. rw e refl) (λ e. rw e (append-nil (map sentence (filter test seen))))

  pub remaining_more : sentences_at all None (seen ++ one ∷ []) ≡ dealt_remaining (home_of all one) one.sentence (sentences_at all None seen)
  remaining_more = at_more None ∙ by_home (home_of all one)
    where
      by_home : (h : Option ℕ) → (if same_place h None then sentences_at all None seen ++ one.sentence ∷ [] else sentences_at all None seen) ≡ dealt_remaining h one.sentence (sentences_at all None seen)
      by_home None = refl
      by_home (Some k) = refl

  module _ (names : List (List ℕ)) where
    -- no group from a place on takes the sentence
    filled_same : (h : Option ℕ) (k : ℕ) (groups : List Made) → home_of all one ≡ h → ((j : ℕ) → k ≤ j → same_place h (Some j) ≡ false) → filled_from names all (seen ++ one ∷ []) k groups ≡ filled_from names all seen k groups
    filled_same h k [] e other = refl
    filled_same h k (group ∷ groups) e other =
        let here = at_more (Some k) ∙ ap (λ b. if b then sentences_at all (Some k) seen ++ one.sentence ∷ [] else sentences_at all (Some k) seen) (ap (λ o. same_place o (Some k)) e ∙ other k (omega arith)) in
        let rest = filled_same h (suc k) groups e (λ j l. other j (omega (arith, l))) in
        λ i. record { name = group_name names group.maker; predicates = group.predicates; sentences = here i } ∷ rest i

    filled_one : (place i k : ℕ) (groups : List Made) → home_of all one ≡ Some place → place ≡ k + i → filled_from names all (seen ++ one ∷ []) k groups ≡ dealt_at i one.sentence (filled_from names all seen k groups)
    filled_one place i k [] e f = refl
    filled_one place zero k (group ∷ groups) e f =
        let same : (place == k) ≡ true = eq-eqb place k (omega (arith, f)) in
        let here = at_more (Some k) ∙ ap (λ b. if b then sentences_at all (Some k) seen ++ one.sentence ∷ [] else sentences_at all (Some k) seen) (ap (λ o. same_place o (Some k)) e ∙ same) in
        let rest = filled_same (Some place) (suc k) groups e (λ j l. ne_eqb place j (λ same. omega (arith, l, f, same))) in
        λ i. record { name = group_name names group.maker; predicates = group.predicates; sentences = here i } ∷ rest i
    filled_one place (suc i) k (group ∷ groups) e f =
        let here = at_more (Some k) ∙ ap (λ b. if b then sentences_at all (Some k) seen ++ one.sentence ∷ [] else sentences_at all (Some k) seen) (ap (λ o. same_place o (Some k)) e ∙ ne_eqb place k (λ same. omega (arith, f, same))) in
        let rest = filled_one place i (suc k) groups e (omega (arith, f)) in
        λ j. record { name = group_name names group.maker; predicates = group.predicates; sentences = here j } ∷ rest j

    pub filled_more : (h : Option ℕ) → home_of all one ≡ h → filled_from names all (seen ++ one ∷ []) 0 all ≡ dealt h one.sentence (filled_from names all seen 0 all)
    filled_more None e = filled_same None 0 all e (λ j l. refl)
    filled_more (Some k) e = filled_one k k 0 all e (omega arith)

-- ---- the first and the last turn

pub filled_nothing : (names : List (List ℕ)) (all : List Made) (k : ℕ) (groups : List Made) → map (empty_parts names) groups ≡ filled_from names all [] k groups
filled_nothing names all k [] = refl
filled_nothing names all k (group ∷ groups) = ap (λ gs. empty_parts names group ∷ gs) (filled_nothing names all (suc k) groups)

pub refusal_later : (names : List (List ℕ)) (all : List Made) (one : Labelled) (rest : List Labelled) → sentence_refusal names all one ≡ None → first_refusal names all (one ∷ rest) ≡ first_refusal names all rest
refusal_later names all one rest h = ap (λ o. option_or o (first_refusal names all rest)) h
