use Rattle.std.proofs.Common.{◌≡◌, ◌||◌, not, map, true, refl, sym, ap, ◌∙◌}
use Rattle.std.specs.Str.{bytes_eq}
use Rattle.ec_names.specs.Names.{is_among, is_integer_sort, range_sort}
use Rattle.ec_names.specs.View.{range_of}
use Rattle.ec_names.proofs.Tables.{found-among}
use Rattle.ec_names.proofs.names.Names.is_ranged.Goals as goal

pub returns-else-not-is_integer : goal.returns-else-not-is_integer
returns-else-not-is_integer c =
    let sort = c.args.sort.now in
    let integer : is_integer_sort c.args.self.now sort ≡ true = sym c.is_integer.ensures ∙ c.if-not-is_integer.false in
    c.contains_key.ensures ∙ found-among range_sort range_of (λ e. refl) (bytes_eq sort) c.self.inside.ranges.entries ∙ ap (λ n. is_among sort (map range_sort n.ranges)) c.self.view_is
    ∙ ap (λ b. not b || is_among sort (map range_sort c.args.self.now.ranges)) (sym integer)
