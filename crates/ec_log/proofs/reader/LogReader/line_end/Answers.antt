use Rattle.std.proofs.Common.{◌≡◌, Some, None, sym, subst}
use Rattle.ec_edge.specs.Lines.{cut_line}
use Rattle.ec_log.proofs.Unending.{CutEnds, cut_ends}
use Rattle.ec_log.proofs.reader.LogReader.line_end.Goals as goal

pub returns-in-Some : goal.returns-in-Some
returns-in-Some c =
    let held = c.args.self.now.held in
    let cut : Some (c.in-Some.line.now, c.in-Some.field-0-1.now) ≡ cut_line held = rw c.held.ensures at c.in-Some.ensures.exact in
    subst (CutEnds held) (sym cut) (cut_ends held)

pub returns-in-None : goal.returns-in-None
returns-in-None c =
    let held = c.args.self.now.held in
    let cut : None ≡ cut_line held = rw c.held.ensures at c.in-None.ensures.exact in
    subst (CutEnds held) (sym cut) (cut_ends held)
