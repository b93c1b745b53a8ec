use Rattle.std.proofs.Common.{◌≡◌, ◌+◌, ◌∙◌, List, length, sym, ap, subst, arith}
use Rattle.ec_clause.specs.Literal.{Literal}
use Rattle.ec_clause.specs.ClauseList.{IsClause}
use Rattle.ec_trail.specs.TrailList.{truth_of}
use Rattle.ec_sat.specs.Back.{HasTwo}
use Rattle.ec_sat.proofs.Knowing.{known_back}
use Rattle.ec_sat.proofs.Searches.{searching_back}
use Rattle.ec_sat.proofs.Blocking.{blocked_is_clause}
use Rattle.ec_sat.proofs.search.block.Goals as goal

pub note_blocked-requires-clause-clause : goal.note_blocked-requires-clause-clause
note_blocked-requires-clause-clause g c =
    let n = c.args.search.now.clauses.variables in
    subst (λ (xs : List Literal). IsClause n xs) (sym (c.deref.ensures.value ∙ c.in_ok-lits.ensures)) (blocked_is_clause n c.args.visible (truth_of c.args.search.now.trail) (omega (arith, c.requires.visible, c.requires.ready.searching.variables)))

pub second_level-level-requires : goal.second_level-level-requires
second_level-level-requires g c =
    let n = c.args.search.now.trail.variables in
    let clause = blocked_is_clause n c.args.visible (truth_of c.args.search.now.trail) c.requires.visible in
    let clause' = subst (λ (xs : List Literal). IsClause n xs) (sym (c.deref-2.ensures.value ∙ c.in_ok-lits.ensures)) clause in
    λ k d lt. (clause'.in_range k d lt).1

pub returns-clause-ready : goal.returns-clause-ready
returns-clause-ready g c =
    let old = c.args.search.now in
    let lits = c.deref.result.now in
    let long : length lits ≡ c.len.result = omega (arith, ap length c.deref.ensures.value, c.len.ensures) in
    record {
      searching = searching_back old.clauses c.note_blocked.new.clauses old.trail c.back_to.new.self lits c.second_level-level.result c.requires.ready.searching c.second_level-level.ensures.trail c.note_blocked.ensures.variables c.in_ok-note_blocked.ensures.ok c.back_to.ensures.variables c.back_to.ensures.entries (λ high. subst (λ (xs : List Literal). HasTwo old.trail.entries xs c.second_level-level.result) (c.deref-2.ensures.value ∙ sym c.deref.ensures.value) (c.second_level-level.ensures.two high));
      watched = c.in_ok-note_blocked.ensures.watched;
      ordered = c.save.ensures ∙ c.requires.ready.ordered ∙ sym c.back_to.ensures.variables;
      marked = c.requires.ready.marked ∙ ap (λ n. n + 1) (sym c.back_to.ensures.variables);
      known = known_back old.clauses c.note_blocked.new.clauses old.trail c.back_to.new.self old.watch.seen c.note_blocked.new.watch.seen lits c.second_level-level.result c.len.result old.known c.added-search.result c.second_level-level.ensures.trail c.in_ok-note_blocked.ensures.ok long c.back_to.ensures.entries c.note_blocked.ensures.seen c.added-search.ensures.front c.added-search.ensures.cut c.added-search.ensures.short c.requires.ready.known;
    }
