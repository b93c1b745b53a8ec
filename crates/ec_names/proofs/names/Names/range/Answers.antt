use Rattle.std.proofs.Common.{option_map, refl, ap, ◌∙◌}
use Rattle.ec_names.specs.Names.{range_named, range_sort}
use Rattle.ec_names.specs.View.{named_range, range_of}
use Rattle.ec_names.proofs.Tables.{found-named}
use Rattle.ec_names.proofs.names.Names.range.Goals as goal

pub returns : goal.returns
returns c =
    let sort = c.args.sort.now in
    ap (option_map (named_range sort)) (c.copied.ensures ∙ c.get.ensures.value) ∙ found-named range_sort range_of (λ e. refl) c.self.inside.ranges.entries sort ∙ ap (λ n. range_named n sort) c.self.view_is
