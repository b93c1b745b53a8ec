-- marks that were lent and came back
use Rattle.std.proofs.Common.{◌≡◌, ℕ, Bool, List, ◌++◌, length, take, drop, ◌∙◌, arith}
use Rattle.std.proofs.lemmas.List.{length-take-le, length-append}

pub length-lent : (k : ℕ) (new old : List Bool) → length new ≡ length old → k ≡ length old → length (take k (new ++ drop (length new) old)) ≡ length old
length-lent k new old same is =
    length-take-le k (new ++ drop (length new) old) (omega (arith, length-append new (drop (length new) old))) ∙ is
