-- A worked log.
use Rattle.std.proofs.Common.{◌≡◌, ℕ, zero, suc, ◌+◌, ◌<◌, Bool, true, false, List, [], ◌∷◌, length, get_or, Contains, refl, sym, arith}
use Rattle.std.proofs.lemmas.Bool.{true≢false}
use Rattle.ec_clause.specs.ClauseList.{ClauseList}
use Rattle.ec_clause.specs.Note.{Note, Derived, Blocked}
use Rattle.ec_clause.specs.declared.ending.Ending.TheVariants.{Complete}
use Rattle.ec_certificate.specs.Accepted.{IsAccepted, AreRight, refutes, forbids}
use Rattle.ec_certificate.specs.Progress.{log_of}

-- one variable, which is true
abbrev pub list : ClauseList
list = record { variables = 1; clauses = (record { variable = 1; positive = true } ∷ []) ∷ [] }

-- its one truth is blocked, and then nothing is left
abbrev pub notes : List Note
notes = Blocked (record { variable = 1; positive = false } ∷ []) ∷ Derived [] (1 ∷ 2 ∷ []) ∷ []

right : AreRight list ((true ∷ []) ∷ []) notes
right zero d lt = (record { truth = true ∷ []; listed = (0, omega arith, refl); forbidden = refl }, λ h. absurd (omega (arith, h.1)))
right (suc zero) d lt = record { clause = record { in_range = λ k e l. absurd (omega (arith, l)); apart = λ i j e ij l. absurd (omega (arith, l)) }; follows = refl }
right (suc (suc k)) d lt = absurd (omega (arith, lt))

last : (k : ℕ) (d : Note) → k < length notes → refutes (get_or notes k d) ≡ true → k + 1 ≡ length notes
last zero d lt h = absurd (true≢false (sym h))
last (suc zero) d lt h = refl
last (suc (suc k)) d lt h = absurd (omega (arith, lt))

blocked : (k : ℕ) (d : List Bool) → k < length ((true ∷ []) ∷ []) → Contains notes (Blocked (forbids (get_or ((true ∷ []) ∷ []) k d)))
blocked zero d lt = (0, omega arith, refl)
blocked (suc k) d lt = absurd (omega (arith, lt))

-- A log can be accepted that lists a truth and leaves none out.
pub accepted_example : IsAccepted list ((true ∷ []) ∷ []) (Complete 1) (log_of list notes)
accepted_example = record {
  numbers = refl;
  right = right;
  last = last;
  blocked = blocked;
  ended = refl;
}
