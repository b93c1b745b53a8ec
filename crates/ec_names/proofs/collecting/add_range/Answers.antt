use Rattle.std.proofs.Common.{[], rules, to_z-of_z, w64, FitsSigned, refl, sym, ap, ◌∙◌}
use Rattle.std.specs.Str.{bytes_eq}
use Rattle.indexmap.specs.IndexMap.{insert_entry}
use Rattle.ec_syntax.specs.View.{content_of}
use Rattle.ec_names.specs.Names.{range_entry, range_sort, ranges_in}
use Rattle.ec_names.specs.View.{continued, range_of, ranges_of, with_first}
use Rattle.ec_names.specs.declared.range.Range.{Range}
use Rattle.ec_names.proofs.Firsts.{continued-nil, continued-step}
use Rattle.ec_names.proofs.Tables.{first-new, there-already}
use Rattle.ec_names.proofs.collecting.add_range.Goals as goal

pub returns-in_ok-insert : goal.returns-in_ok-insert
returns-in_ok-insert c =
    let es = c.args.ranges.now.entries in
    let sort = c.in-Range.sort in
    let range : Range = record { low = c.in-Range.low; high = c.in-Range.high } in
    let x = range_entry sort range.low range.high in
    let low : FitsSigned w64 c.in-Range.low = search rules in
    let high : FitsSigned w64 c.in-Range.high = search rules in
    let entries = simp to_z-of_z at c.in_ok-insert.ensures.entries in
    ap ranges_of entries ∙ ap (λ k. ranges_of (insert_entry bytes_eq es k range)) c.in_ok-copied.ensures
    ∙ first-new range_sort range_of (λ e. refl) es sort range (sym c.contains_key.ensures ∙ c.if-not-contains_key.true)
    ∙ sym (continued-nil range_sort (with_first range_sort (ranges_of es) x)) ∙ continued-step range_sort (ranges_of es) x [] ∙ ap (λ r. continued range_sort (ranges_of es) (ranges_in (content_of r))) (sym c.in-Range.is)

pub returns-else-not-contains_key : goal.returns-else-not-contains_key
returns-else-not-contains_key c =
    let es = c.args.ranges.now.entries in
    let sort = c.in-Range.sort in
    let x = range_entry sort c.in-Range.low c.in-Range.high in
    there-already range_sort range_of (λ e. refl) es sort x refl (sym c.contains_key.ensures ∙ c.if-not-contains_key.false)
    ∙ sym (continued-nil range_sort (with_first range_sort (ranges_of es) x)) ∙ continued-step range_sort (ranges_of es) x [] ∙ ap (λ r. continued range_sort (ranges_of es) (ranges_in (content_of r))) (sym c.in-Range.is)
