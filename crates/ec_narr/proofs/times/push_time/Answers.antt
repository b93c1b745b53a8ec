use Rattle.std.proofs.Common.{◌++◌, ◌∙◌, [], ◌∷◌, ℕ, List, ap, rules, w64}
use Rattle.std.specs.Prelude.{FitsSigned}
use Rattle.std.proofs.lemmas.Int.{to_z-of_z}
use Rattle.std.specs.List.{flat_map}
use Rattle.ec_logic.specs.Atom.{structure_of}
use Rattle.ec_logic.specs.Narrative.{integer_text, fluent_line, released_line, happens_line}
use Rattle.ec_logic.specs.Signature.{event_sort, fluent_sort}
use Rattle.ec_logic.specs.Universe.{universe_of, domain}
use Rattle.ec_narr.proofs.LineLemmas.{five}
use Rattle.ec_narr.proofs.times.push_time.Goals as goal

pub returns : goal.returns
returns c =
    let s = c.args.signature.now in
    let m = structure_of (universe_of s) c.args.truth.now in
    let t = c.args.time.0 in
    let told = flat_map (fluent_line s m t) (domain (universe_of s) fluent_sort) in
    let released = flat_map (released_line s m t) (domain (universe_of s) fluent_sort) in
    let happening = flat_map (happens_line s m t) (domain (universe_of s) event_sort) in
    let line : List ℕ → List ℕ = λ x. x ++ (10 ∷ []) ++ told ++ released ++ happening in
    let first : List ℕ → List ℕ = λ x. x ++ told ++ released ++ happening in
    let second : List ℕ → List ℕ = λ x. x ++ released ++ happening in
    let third : List ℕ → List ℕ = λ x. x ++ happening in
    let fits : FitsSigned w64 t = search rules in
    let number = simp to_z-of_z at c.in_ok-push_integer.ensures in
    c.in_ok-push_happens_lines.ensures ∙ (ap third c.in_ok-push_released_lines.ensures ∙ (ap second c.in_ok-push_fluent_lines.ensures ∙ (ap first c.in_ok-push.ensures.items ∙ (ap line number ∙ five c.args.out.now.items (integer_text t) (10 ∷ []) told released happening))))
