-- How much a log under way can hold.
use Rattle.std.proofs.Common.{◌≡◌, ◌≢◌, ℕ, suc, ◌+◌, ◌*◌, ◌^◌, ◌<◌, ◌≤◌, Bool, true, false, cond, List, [], ◌∷◌, ◌++◌, length, get_or, map, All, AllPairs, Contains, count_by, refl, sym, ap, subst, ◌∙◌, arith}
use Rattle.std.proofs.Math.Nat.{pow-succ'}
use Rattle.std.proofs.lemmas.Bool.{eqb-true, or_parts, true≢false}
use Rattle.std.proofs.lemmas.Bool.Decides.{Decides-eqb}
use Rattle.std.proofs.lemmas.List.{get_or-map, length-map, length_push}
use Rattle.std.proofs.lemmas.List.Elements.{All-contains, All-map, All-push, Contains-get_or}
use Rattle.std.proofs.lemmas.List.Quantifiers.{all_pairs_push}
use Rattle.std.proofs.lemmas.List.Sums.{sum_by-cons}
use Rattle.std.proofs.lemmas.Map.Views.{Contains-from_any}
use Rattle.std.proofs.lemmas.Map.Made.{IsDistinct-from_AllPairs}
use Rattle.std.proofs.lemmas.Map.Steps.{length-le_from_distinct_below}
use Rattle.std.specs.List.{list_any, range_with_len}
use Rattle.ec_clause.specs.ClauseList.{ClauseList}
use Rattle.ec_clause.specs.Note.{Note, Derived, Blocked}
use Rattle.ec_clause.specs.Step.{AllHold}
use Rattle.ec_sat.specs.Run.{value_in}
use Rattle.ec_sat.specs.Searched.{Searched}
use Rattle.ec_certificate.specs.Accepted.{is_derived, refutes, has_literal}
use Rattle.ec_certificate.specs.Progress.{IsMet, IsLogged, log_of}
use Rattle.ec_certificate.proofs.FewDerived.{are_few_derived}
use Rattle.ec_certificate.proofs.Logged.{logged-models, model-new, model-met, met-sizes}
use Rattle.ec_clause.specs.declared.ending.Ending.TheVariants.{Models}

abbrev pub bit : Bool → ℕ
bit true = 1
bit false = 0

-- a truth as a number in base two
abbrev pub truth_code : List Bool → ℕ
truth_code [] = 0
truth_code (b ∷ bs) = 2 * truth_code bs + bit b

bit-le : (b : Bool) → bit b ≤ 1
bit-le true = omega arith
bit-le false = omega arith

bit-apart : (a b : Bool) → bit a ≡ bit b → a ≡ b
bit-apart true true h = refl
bit-apart true false h = absurd (omega (arith, h))
bit-apart false true h = absurd (omega (arith, h))
bit-apart false false h = refl

truth_code-lt : (t : List Bool) → truth_code t < 2 ^ length t
truth_code-lt [] = omega arith
truth_code-lt (b ∷ bs) =
    let more : 2 ^ suc (length bs) ≡ 2 * 2 ^ length bs = pow-succ' 2 (length bs) in
    omega (arith, more, truth_code-lt bs, bit-le b)

truth_code-apart : (s t : List Bool) → length s ≡ length t → truth_code s ≡ truth_code t → s ≡ t
truth_code-apart [] [] size e = refl
truth_code-apart [] (b ∷ ts) size e = absurd (omega (arith, size))
truth_code-apart (a ∷ ss) [] size e = absurd (omega (arith, size))
truth_code-apart (a ∷ ss) (b ∷ ts) size e =
    let sums : 2 * truth_code ss + bit a ≡ 2 * truth_code ts + bit b = e in
    let here : bit a ≡ bit b = omega (arith, sums, bit-le a, bit-le b) in
    let rest = truth_code-apart ss ts (omega (arith, size)) (omega (arith, sums, here)) in
    ap (λ c. c ∷ ss) (bit-apart a b here) ∙ ap (λ cs. b ∷ cs) rest

-- truths of some variables, no two alike, are no more than there are
pub truths-few : (visible : ℕ) (truths : List (List Bool)) → All (λ truth. length truth ≡ visible) truths → AllPairs (λ (t u : List Bool). t ≢ u) truths → length truths ≤ 2 ^ visible
truths-few visible truths sizes apart =
    let numbers = map truth_code truths in
    let size : length numbers ≡ length truths = length-map truths truth_code in
    let two : AllPairs (λ (x y : ℕ). x ≢ y) numbers = (λ i j d ij lt e. (
    let li : i < length truths = omega (arith, ij, lt, size) in
    let lj : j < length truths = omega (arith, lt, size) in
    let same : truth_code (get_or truths i []) ≡ truth_code (get_or truths j []) = sym (get_or-map truth_code truths i [] d li) ∙ e ∙ get_or-map truth_code truths j [] d lj in
    apart i j [] ij lj (truth_code-apart (get_or truths i []) (get_or truths j []) (sizes i [] li ∙ sym (sizes j [] lj)) same))) in
    let below : All (λ x. x < 2 ^ visible) numbers =
    All-map (λ x. x < 2 ^ visible) truth_code truths (λ k d lt. (let power : 2 ^ length (get_or truths k d) ≡ 2 ^ visible = ap (λ n. 2 ^ n) (sizes k d lt) in omega (arith, truth_code-lt (get_or truths k d), power))) in
    let few = length-le_from_distinct_below numbers (2 ^ visible) (IsDistinct-from_AllPairs Decides-eqb numbers two) (λ q h. All-contains (λ x. x < 2 ^ visible) numbers q below (Contains-from_any eqb-true q numbers h)) in
    omega (arith, few, size)

-- No more truths are blocked than there are of the visible variables,
pub logged-few_blocked : (list : ClauseList) (truths : List (List Bool)) (notes : List Note) (s : Searched) → IsLogged list truths notes s → s.blocked ≤ 2 ^ s.visible
logged-few_blocked list truths notes s h = omega (arith, h.blocked, truths-few s.visible truths (met-sizes list s.visible truths h.met) h.apart)

-- and fewer where a model was found.
pub model-few_blocked : (list : ClauseList) (truths : List (List Bool)) (notes : List Note) (s : Searched) → IsLogged list truths notes s → AllHold (value_in s.assignment) s.list → s.blocked < 2 ^ s.visible
model-few_blocked list truths notes s h all =
    let truth = map (value_in s.assignment) (range_with_len 1 s.visible) in
    let met : All (IsMet list s.visible) (truths ++ truth ∷ []) = All-push (IsMet list s.visible) truths truth h.met (model-met list truths notes s h all) in
    let apart : AllPairs (λ (t u : List Bool). t ≢ u) (truths ++ truth ∷ []) =
    all_pairs_push (λ (t u : List Bool). t ≢ u) truths truth h.apart (λ k d lt e. model-new list truths notes s h all (subst (Contains truths) e (Contains-get_or truths k d lt))) in
    omega (arith, h.blocked, truths-few s.visible (truths ++ truth ∷ []) (met-sizes list s.visible (truths ++ truth ∷ []) met) apart, length_push truths truth)

derived-literal : (note : Note) → refutes note ≡ false → is_derived note ≡ has_literal note
derived-literal (Derived [] hints) h = absurd (true≢false h)
derived-literal (Derived (l ∷ lits) hints) h = refl
derived-literal (Blocked lits) h = refl

-- where nothing is refuted, each derived clause has a literal
pub count-literals : (notes : List Note) → list_any refutes notes ≡ false → count_by is_derived notes ≡ count_by has_literal notes
count-literals [] none = refl
count-literals (note ∷ notes) none =
    let parts = or_parts (refutes note) (list_any refutes notes) none in
    let left : count_by is_derived (note ∷ notes) ≡ cond (is_derived note) 1 0 + count_by is_derived notes = sum_by-cons (λ (n : Note). cond (is_derived n) 1 0) note notes in
    let right : count_by has_literal (note ∷ notes) ≡ cond (has_literal note) 1 0 + count_by has_literal notes = sum_by-cons (λ (n : Note). cond (has_literal n) 1 0) note notes in
    let here : cond (is_derived note) 1 0 ≡ cond (has_literal note) 1 0 = ap {B = ℕ} (λ b. cond b 1 0) (derived-literal note parts.0) in
    omega (arith, left, right, here, count-literals notes parts.1)

-- A solver derives fewer clauses than there are ways to put each variable into a clause, as it is, negated, or not at all.
pub logged-few_derived : (list : ClauseList) (truths : List (List Bool)) (notes : List Note) (s : Searched) → IsLogged list truths notes s → s.derived < 3 ^ list.variables
logged-few_derived list truths notes s h =
    let few = are_few_derived list truths (Models 0) (log_of list notes) (logged-models list truths notes s 0 h) h.under_way.repeats_nothing in
    omega (arith, few, h.derived, count-literals notes h.under_way.open_still)
