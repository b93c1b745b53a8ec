use Rattle.std.proofs.Common.{Some, option_map, slice_get, sym, ap, ◌∙◌}
use Rattle.std.specs.Map.Iter.{deref_pair}
use Rattle.ec_names.specs.Names.{sort_entry}
use Rattle.ec_names.specs.View.{sort_of}
use Rattle.ec_names.proofs.Lookups.{slice_get-map}
use Rattle.ec_names.proofs.names.Names.sort_at.Goals as goal

pub returns : goal.returns
returns c =
    ap (λ n. slice_get n.sorts c.args.sort) (sym c.self.view_is) ∙ slice_get-map sort_of c.self.inside.sorts.entries c.args.sort
    ∙ ap (option_map sort_of) (sym c.get_index.ensures.entry ∙ ap (option_map deref_pair) c.unwrap.ensures) ∙ ap (λ p. Some (sort_entry c.unwrap.result.0.now p)) (sym c.as_ref.ensures.value)
