use Rattle.std.proofs.Common.{◌≡◌, Some, refl}
use Rattle.ec_clause.specs.ClauseList.{clause_at}
use Rattle.ec_clause.specs.Truth.{unit_literal}
use Rattle.ec_trail.specs.TrailList.{truth_of}
use Rattle.ec_unit.proofs.Looked.{adds_one, has_true_push, short_other}
use Rattle.ec_unit.proofs.table.examine.Goals as goal

pub returns-in-OneLeft-clause-adds : goal.returns-in-OneLeft-clause-adds
returns-in-OneLeft-clause-adds c =
    let clauses = c.args.clauses.now in
    let unit : unit_literal (truth_of c.args.trail.now) (clause_at clauses c.args.number) ≡ Some c.in-OneLeft.lit = rw (← c.values.ensures.value, ← c.get.ensures.value) c.in-OneLeft.ensures.sees.one_left in
    adds_one clauses c.args.trail.now c.imply.new.trail c.args.number c.in-OneLeft.lit _ c.requires.low c.requires.high unit refl c.imply.ensures.variables c.imply.ensures.entries

pub returns-in-OneLeft-clause-none : goal.returns-in-OneLeft-clause-none
returns-in-OneLeft-clause-none c = λ short.
    has_true_push c.args.seen.now.items c.imply.new.seen.items _ (clause_at c.args.clauses.now c.args.number) c.in-OneLeft.lit c.imply.ensures.seen refl (rw (← c.get.ensures.value) c.in-OneLeft.ensures.left.0)

pub returns-in-Other-clause-none : goal.returns-in-Other-clause-none
returns-in-Other-clause-none c = λ short.
    short_other c.args.trail.now c.args.seen.now.items (clause_at c.args.clauses.now c.args.number) c.requires.follows short (rw (← c.values.ensures.value, ← c.get.ensures.value) c.in-Other.ensures.means.0) (rw (← c.values.ensures.value, ← c.get.ensures.value) c.in-Other.ensures.means.1)
