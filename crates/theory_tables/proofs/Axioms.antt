-- The axioms DEC5 to DEC12 and the release axioms as text, worked out by hand.
use Rattle.std.proofs.Common.{◌≡◌, codes, true, false, [], ◌∷◌, map, refl}
use Rattle.ec_logic.specs.Axiom.{dec_axioms, release_axioms}
use Rattle.theory_tables.specs.Samples.{small}
use Rattle.theory_tables.specs.Text.{formula_text}

dec : map formula_text dec_axioms
    ≡ codes "[fluent] [time] ((HoldsAt(v1, v0) & !ReleasedAt(v1, (v0 + 1)) & !{event} (Happens(v0, v1) & Terminates(v0, v2, v1))) -> HoldsAt(v1, (v0 + 1)))"
    ∷ codes "[fluent] [time] ((!HoldsAt(v1, v0) & !ReleasedAt(v1, (v0 + 1)) & !{event} (Happens(v0, v1) & Initiates(v0, v2, v1))) -> !HoldsAt(v1, (v0 + 1)))"
    ∷ codes "[fluent] [time] ((ReleasedAt(v1, v0) & !{event} (Happens(v0, v1) & (Initiates(v0, v2, v1) | Terminates(v0, v2, v1)))) -> ReleasedAt(v1, (v0 + 1)))"
    ∷ codes "[fluent] [time] ((!ReleasedAt(v1, v0) & !{event} (Happens(v0, v1) & Releases(v0, v2, v1))) -> !ReleasedAt(v1, (v0 + 1)))"
    ∷ codes "[event] [fluent] [time] ((Happens(v2, v0) & Initiates(v2, v1, v0)) -> HoldsAt(v1, (v0 + 1)))"
    ∷ codes "[event] [fluent] [time] ((Happens(v2, v0) & Terminates(v2, v1, v0)) -> !HoldsAt(v1, (v0 + 1)))"
    ∷ codes "[event] [fluent] [time] ((Happens(v2, v0) & Releases(v2, v1, v0)) -> ReleasedAt(v1, (v0 + 1)))"
    ∷ codes "[event] [fluent] [time] ((Happens(v2, v0) & (Initiates(v2, v1, v0) | Terminates(v2, v1, v0))) -> !ReleasedAt(v1, (v0 + 1)))"
    ∷ []
dec = refl

-- the least time is 1, and the second fluent is noninertial
release : map formula_text (release_axioms (small false))
    ≡ codes "[s6] !ReleasedAt(f0(v0), 1)"
    ∷ codes "[s7] [s8] [time] ReleasedAt(f1(v2, v1), v0)"
    ∷ codes "!ReleasedAt(f2(), 1)"
    ∷ []
release = refl

manual-release : map formula_text (release_axioms (small true)) ≡ codes "[s7] [s8] [time] ReleasedAt(f1(v2, v1), v0)" ∷ []
manual-release = refl
