use Rattle.ec_theory.proofs.signature.Signature.copied.Goals as goal

pub new-requires : goal.new-requires
new-requires c = rw c.in_ok-rows.ensures c.self.invariant.valid
