use Rattle.std.proofs.Common.{◌≡◌, ◌∙◌, ◌≤◌, ℕ, [], ◌∷◌, length, List, ap, sym, subst, arith}
use Rattle.std.proofs.lemmas.List.{length-map}
use Rattle.ec_logic.specs.Signature.{SymbolRow}
use Rattle.ec_theory.specs.declared.sorted.Wanted.{Wanted}
use Rattle.ec_theory.specs.declared.theory.Theory.{Theory}
use Rattle.ec_split.specs.Groups.{Made, effect_group}
use Rattle.ec_split.specs.Plan.{groups_in}
use Rattle.ec_split.specs.Split.{first_refusal, filled_from}
use Rattle.ec_theory.proofs.TableLemmas.{six_predicates}
use Rattle.ec_split.proofs.SoundLemmas.{IsSound, sound_start, sound_from, from_length}
use Rattle.ec_split.proofs.ValidLemmas.{split_valid}
use Rattle.ec_split.proofs.splitting.split.Goals as goal

pub returns-clause-valid : goal.returns-clause-valid
returns-clause-valid c =
    let signature = c.args.sorted.signature in
    let labelled = c.args.sorted.labelled.items in
    let keys : List (List ℕ) = c.in_ok-names.names.keys in
    let all : List Made = groups_in c.in_ok-plan.plan in
    let names = c.in_ok-names.ensures.names in
    let made = c.in_ok-plan.ensures.0 in
    let count : length keys ≡ length signature.predicates = ap length names ∙ length-map signature.predicates (λ (row : SymbolRow). row.name) in
    let six : 6 ≤ length signature.predicates = six_predicates signature c.predicate_names.ensures.valid in
    let S : ℕ → Type 0 = λ n. IsSound n all in
    let sound = subst S count (sound_from keys (effect_group ∷ []) all c.deref.result.now made (sound_start (length keys) (omega (arith, count, six)))) in
    let few = from_length keys (effect_group ∷ []) all c.deref.result.now made in
    let statements = ap (λ (xs : List Wanted). length xs) c.deref.ensures.value in
    let theory : Theory = record { signature = signature; remaining = c.in_ok-shares.shares.remaining; groups = c.in_ok-shares.shares.groups } in
    split_valid theory all labelled c.predicate_names.ensures.valid c.requires.sentences c.requires.few_sentences (omega (arith, few, statements, c.requires.few_statements)) sound
    (ap (λ (ns : List (List ℕ)). first_refusal ns all labelled) (sym names) ∙ c.in_ok-shares.ensures.0)
    c.in_ok-shares.ensures.1
    (c.in_ok-shares.ensures.2 ∙ ap (λ (ns : List (List ℕ)). filled_from ns all labelled 0 all) names)
