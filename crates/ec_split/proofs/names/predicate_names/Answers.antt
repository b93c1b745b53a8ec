use Rattle.std.proofs.Common.{◌∙◌, Some, ap, sym}
use Rattle.ec_split.proofs.NameLemmas.{added_name}
use Rattle.ec_split.proofs.names.predicate_names.Goals as goal

pub loop-p-preserved : goal.loop-p-preserved
loop-p-preserved c =
    added_name c.args.signature.now c.loop-p.p c.in_ok-copied.field-0 c.loop-p.names.keys c.insert.new.self.keys c.predicates-p-end.ensures.valid (c.predicate_name.ensures ∙ ap Some (sym c.in_ok-copied.ensures)) c.loop-p.invariant
    c.in_ok-insert.ensures.keys
