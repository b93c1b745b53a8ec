use Rattle.std.proofs.Common.{◌≡◌, ◌<◌, sym, subst}
use Rattle.ec_logic.specs.Extent.{size_of}
use Rattle.ec_logic.specs.Signature.{Signature, fluent_sort}
use Rattle.ec_logic.specs.Universe.{universe_of, extent_at}
use Rattle.ec_atom.specs.Blocks.{application, application_at}
use Rattle.ec_narr.proofs.TimeLemmas.{noninertial_is}
use Rattle.ec_narr.proofs.fluents.is_noninertial.Goals as goal

pub fluent_at-requires : goal.fluent_at-requires
fluent_at-requires c =
    let P : Signature → Type 0 = λ s. c.args.fluent < size_of (extent_at (universe_of s) fluent_sort) in
    subst P (sym c.requires.same) c.requires.fluent

pub returns : goal.returns
returns c =
    let P : Signature → Type 0 = λ s. application c.in_ok-term.term ≡ application_at (universe_of s) (universe_of s).fluents c.args.fluent in
    noninertial_is c.args.signature.now c.args.fluent c.in_ok-term.term c.noninertial.result (subst P c.requires.same c.in_ok-term.ensures.term) c.noninertial.ensures
