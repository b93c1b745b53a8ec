use Rattle.std.proofs.Common.{◌≡◌, ◌+◌, ◌++◌, sym, ap, ◌∙◌}
use Rattle.ec_logic.specs.Narrative.{line}
use Rattle.ec_listing.specs.Reading.{model_text}
use Rattle.ec_narr.proofs.juncture.juncture_of.Goals as goal

pub returns : goal.returns
returns c =
    let text : c.deref.result.now ≡ model_text (c.args.count + 1) = c.deref.ensures.value ∙ c.in_ok-text.ensures in
    (c.in-None.ensures, λ rest is. c.in_default.ensures rest (is ∙ ap (λ t. line t ++ rest) (sym text)))
