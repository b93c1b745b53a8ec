use Rattle.ec_theory.specs.Rows.{symbol_of}
use Rattle.ec_theory.proofs.signature.sorts_at.Goals as goal

pub returns-clause-few : goal.returns-clause-few
returns-clause-few c = rw c.as_slice.ensures.value (c.requires.few c.args.symbol (symbol_of c.symbol_row.result.now) c.symbol_row.ensures)
