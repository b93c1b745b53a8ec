use Rattle.std.proofs.Common.{ℕ, ◌∙◌, arith, ap, sym, ◌∷◌, [], ◌++◌, map}
use Rattle.std.specs.List.{range_with_len}
use Rattle.std.proofs.lemmas.List.{length-map}
use Rattle.std.proofs.lemmas.List.FromFn.{map-range_with_len_more}
use Rattle.ec_logic.specs.Extent.{size_of}
use Rattle.ec_logic.specs.Universe.{extent_of}
use Rattle.ec_theory.specs.Rows.{signature_of, constant_of}
use Rattle.ec_theory.specs.Sizes.{stopped}
use Rattle.ec_theory.proofs.sizes.sizes_before_symbols.Goals as goal

pub size_in-requires-clause-few : goal.size_in-requires-clause-few
size_in-requires-clause-few c = omega (arith, c.requires.listable.constants, length-map c.args.rows.now.constants.items constant_of)

pub size_in-requires-clause-counts : goal.size_in-requires-clause-counts
size_in-requires-clause-counts c = rw c.deref.ensures.value c.in_ok-counts.ensures

pub size_in-requires-clause-ranges : goal.size_in-requires-clause-ranges
size_in-requires-clause-ranges c = c.requires.small_ranges

pub loop-sort-preserved : goal.loop-sort-preserved
loop-sort-preserved c =
    let f = λ (s : ℕ). stopped (size_of (extent_of (signature_of c.args.rows.now) 0 0 s)) in
    c.in_ok-push.ensures.items ∙ (ap (λ xs. xs ++ c.size_in.result ∷ []) c.loop-sort.invariant ∙ (ap (λ x. map f (range_with_len 0 c.loop-sort.sort) ++ x ∷ []) c.size_in.ensures ∙ sym (map-range_with_len_more f 0 c.loop-sort.sort c.loop-sort.sort (omega arith))))
