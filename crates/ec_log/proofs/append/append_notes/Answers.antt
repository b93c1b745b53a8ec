use Rattle.std.proofs.Common.{IsTrue, arith, ◌∙◌}
use Rattle.std.proofs.lemmas.Result.{err_from_is_err_and}
use Rattle.ec_log.proofs.Parts.{note_part, note_whole, split_there}
use Rattle.ec_log.proofs.WrittenLines.{ranges_more, all_ranges}
use Rattle.ec_log.proofs.append.append_notes.Goals as goal

pub returns-in_err-append_entry-clause-part : goal.returns-in_err-append_entry-clause-part
returns-in_err-append_entry-clause-part g c = λ told.
    let p = err_from_is_err_and c.from_residual.result c.from_residual.ensures.1 in
    let now : IsTrue (g.F.Files.tells c.loop-kept.files) = rw c.loop-kept.invariant.tells told in
    rw p.1 (note_part _ _ _ c.kept-item.result _ _ _ (split_there c.args.notes.now c.loop-kept.kept-index c.kept-item.result (omega arith) c.kept-item.is) (c.loop-kept.invariant.so_far told) (c.in_err-append_entry.ensures.part now))

pub loop-kept-preserved : goal.loop-kept-preserved
loop-kept-preserved g c = record {
  so_far = λ told.
      let now : IsTrue (g.F.Files.tells c.loop-kept.files) = rw c.loop-kept.invariant.tells told in
      note_whole c.args.notes.now c.loop-kept.kept-index c.kept-item.result _ _ _ (omega arith) c.kept-item.is (c.loop-kept.invariant.so_far told) (c.in_ok-append_entry.ensures.ok now);
  range = ranges_more c.args.notes.now c.loop-kept.kept-index c.kept-item.result (omega arith) c.kept-item.is c.loop-kept.invariant.range c.in_ok-append_entry.ensures.range;
  others = λ other apart. c.in_ok-append_entry.ensures.others other apart ∙ c.loop-kept.invariant.others other apart;
  tells = c.in_ok-append_entry.ensures.tells ∙ c.loop-kept.invariant.tells;
  faults = omega (arith, c.in_ok-append_entry.ensures.faults);
  absences = omega (arith, c.in_ok-append_entry.ensures.absences);
  failed_starts = c.in_ok-append_entry.ensures.failed_starts ∙ c.loop-kept.invariant.failed_starts;
}

pub returns-clause-range : goal.returns-clause-range
returns-clause-range g c = all_ranges c.args.notes.now c.loop-kept.kept-index (omega arith) c.loop-kept.invariant.range
