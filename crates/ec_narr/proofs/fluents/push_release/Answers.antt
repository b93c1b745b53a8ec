use Rattle.std.proofs.Common.{◌++◌, ◌∙◌, ℕ, List, pos, ap, codes}
use Rattle.ec_logic.specs.Narrative.{fluent_text}
use Rattle.ec_narr.specs.Parts.{at_time}
use Rattle.ec_narr.proofs.TimeLemmas.{joined}
use Rattle.ec_narr.proofs.fluents.push_release.Goals as goal

pub returns : goal.returns
returns c =
    let told = fluent_text c.args.signature.now (pos c.args.fluent) in
    let behind : List ℕ → List ℕ = λ x. x ++ told ++ at_time c.args.time.0 in
    let end : List ℕ → List ℕ = λ x. x ++ at_time c.args.time.0 in
    c.in_ok-push_at_time.ensures ∙ (ap end c.in_ok-push_fluent.ensures ∙ (ap behind c.in_ok-extend_from_slice.ensures.items ∙ joined c.args.out.now.items (codes "ReleasedAt(") told c.args.time.0))
