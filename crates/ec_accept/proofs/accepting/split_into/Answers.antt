use Rattle.std.proofs.Common.{Err, subst}
use Rattle.ec_split.specs.IsSplit.{IsSplit}
use Rattle.ec_split.specs.declared.fault.SplitFault.{SplitFault}
use Rattle.ec_accept.specs.Accepted.{split, unsplit}
use Rattle.ec_accept.proofs.Codes.{split_other}
use Rattle.ec_accept.proofs.accepting.split_into.Goals as goal

pub returns-in-Ok-clause-splits : goal.returns-in-Ok-clause-splits
returns-in-Ok-clause-splits c = split c.in-Ok.theory c.in-Ok.ensures.theory

pub returns-in-Err-Refused-clause-splits : goal.returns-in-Err-Refused-clause-splits
returns-in-Err-Refused-clause-splits c =
    let refused = subst (λ (e : SplitFault). IsSplit c.args.sorted (Err e)) c.in-Err-Refused.field-0-is c.in-Err-Refused.ensures.theory in
    unsplit {refusal = c.in-Err-Refused.refusal} refused

pub returns-in-Err-Refused-clause-text : goal.returns-in-Err-Refused-clause-text
returns-in-Err-Refused-clause-text c =
    let sorted = c.args.sorted in
    let refused = subst (λ (e : SplitFault). IsSplit sorted (Err e)) c.in-Err-Refused.field-0-is c.in-Err-Refused.ensures.theory in
    split_other sorted.signature sorted.labelled.items sorted.wanted.items c.in-Err-Refused.refusal refused
