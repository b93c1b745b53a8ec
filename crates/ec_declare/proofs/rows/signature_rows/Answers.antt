use Rattle.std.proofs.Common.{sym, subst}
use Rattle.ec_logic.specs.Valid.{IsSignature}
use Rattle.ec_declare.specs.Signatures.{signature_of}
use Rattle.ec_declare.proofs.Validity.{lawful}
use Rattle.ec_declare.proofs.rows.signature_rows.Goals as goal

pub returns-clause-valid : goal.returns-clause-valid
returns-clause-valid c = λ statements is faultless. subst IsSignature (sym c.in_ok-found.ensures) (subst (λ names. IsSignature (signature_of names)) (sym is) (lawful statements faultless))
