use Rattle.std.proofs.Common.{◌≡◌, ℕ, ◌+◌, ◌∙◌, List, length, sym, ap, subst, arith}
use Rattle.ec_clause.specs.Literal.{Literal}
use Rattle.ec_clause.specs.ClauseList.{IsClause}
use Rattle.ec_sat.specs.Back.{HasTwo}
use Rattle.ec_sat.proofs.Knowing.{known_back}
use Rattle.ec_sat.proofs.Searches.{searching_back}
use Rattle.ec_sat.proofs.Marks.{length-lent}
use Rattle.ec_sat.proofs.search.resolve.Goals as goal

pub bump-requires : goal.bump-requires
bump-requires g c =
    let n = c.args.search.now.trail.variables in
    let clause = subst (λ (m : ℕ). IsClause m c.in_ok-learned.learned.lits.items) c.requires.ready.searching.variables c.in_ok-learned.ensures.step.clause in
    let clause' = subst (λ (xs : List Literal). IsClause n xs) (sym c.deref-2.ensures.value) clause in
    record {
      variables = c.requires.ready.ordered ∙ sym (c.note.ensures.variables ∙ c.requires.ready.searching.variables);
      lits = λ k d lt. omega (arith, (clause'.in_range k d lt).1, c.requires.ready.ordered);
    }

pub returns-clause-ready : goal.returns-clause-ready
returns-clause-ready g c = λ learned.
    let old = c.args.search.now in
    let lits = c.in_ok-learned.learned.lits.items in
    let long : length lits ≡ c.len-2.result = omega (arith, c.len-2.ensures) in
    record {
      searching = searching_back old.clauses c.note.new.clauses old.trail c.back_to.new.self lits c.return_level-level.result c.requires.ready.searching c.return_level-level.ensures.trail c.note.ensures.variables c.in_ok-note.ensures.ok c.back_to.ensures.variables c.back_to.ensures.entries (λ high. subst (λ (xs : List Literal). HasTwo old.trail.entries xs c.return_level-level.result) c.deref.ensures.value (c.return_level-level.ensures.two high));
      watched = c.in_ok-note.ensures.watched;
      ordered = c.save.ensures ∙ c.bump.ensures ∙ c.requires.ready.ordered ∙ sym c.back_to.ensures.variables;
      marked = length-lent old.marks.len c.learn.new.marks old.marks.items (c.learn.auto.marks ∙ ap length c.deref_mut.ensures.value) (sym c.deref_mut.ensures.len ∙ ap length c.deref_mut.ensures.value) ∙ c.requires.ready.marked ∙ ap (λ n. n + 1) (sym c.back_to.ensures.variables);
      known = known_back old.clauses c.note.new.clauses old.trail c.back_to.new.self old.watch.seen c.note.new.watch.seen lits c.return_level-level.result c.len-2.result old.known c.added-search.result c.return_level-level.ensures.trail c.in_ok-note.ensures.ok long c.back_to.ensures.entries c.note.ensures.seen c.added-search.ensures.front c.added-search.ensures.cut c.added-search.ensures.short c.requires.ready.known;
    }
