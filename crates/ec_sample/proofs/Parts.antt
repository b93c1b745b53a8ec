-- The text of the sample as its numbers and what stands between them.
use Rattle.std.proofs.Common.{◌≡◌, ℕ, ◌+◌, codes, decimal, List, [], ◌∷◌, ◌++◌, flat_map, ap, ◌∙◌, append_assoc, append-nil}
use Rattle.ec_sample.specs.Text.{sort_line, fluent_line, event_line, effect_line, start_line, once_line, order_line, single_line, ended, sample_text}

-- what stands before the first number
abbrev pub before_steps : List ℕ
before_steps = ended sort_line ++ codes "range step 1 "

abbrev pub before_times : List ℕ
before_times = 10 ∷ codes "range time 0 "

abbrev pub before_end : List ℕ
before_end = 10 ∷ (flat_map ended (fluent_line ∷ event_line ∷ effect_line ∷ start_line ∷ once_line ∷ order_line ∷ single_line ∷ []) ++ codes "[step] HoldsAt(Done(step),")

abbrev pub behind_end : List ℕ
behind_end = ended (codes ").")

abbrev pub parts : List ℕ → List ℕ → List ℕ
parts n k = before_steps ++ (n ++ (before_times ++ (k ++ (before_end ++ (k ++ behind_end)))))

last : (k : List ℕ) → (((k ++ codes ").") ++ 10 ∷ []) ++ []) ≡ k ++ behind_end
last k = append-nil ((k ++ codes ").") ++ 10 ∷ []) ∙ append_assoc k (codes ").") (10 ∷ [])

pub sample_parts : (n : ℕ) → sample_text n ≡ parts (decimal n) (decimal (n + 1))
sample_parts n =
    let end = ap (λ t. before_end ++ t) (last (decimal (n + 1))) in
    let times = ap (λ t. before_times ++ t) (append_assoc (decimal (n + 1)) (10 ∷ []) _ ∙ ap (λ t. decimal (n + 1) ++ t) end) in
    ap (λ t. before_steps ++ t) (append_assoc (decimal n) (10 ∷ []) _ ∙ ap (λ t. decimal n ++ t) times)
