-- What the layers answer, one after another.
use Rattle.std.specs.Prelude.{ℕ, ◌≡◌, ◌≢◌, ◌≤◌, ◌<◌, codes, List, Some, Result, Ok, Err}
use Rattle.ec_syntax.specs.declared.book.Refusal.{Refusal}
use Rattle.ec_syntax.specs.Written as w
use Rattle.ec_load.specs.Refusals.{refused, in_file}
use Rattle.ec_sort.specs.Answers.{IsSorted, book_refusal}
use Rattle.ec_theory.specs.Theories.{theory_of}
use Rattle.ec_theory.specs.declared.sorted.Sorted.{Sorted}
use Rattle.ec_theory.specs.declared.theory.Theory.{Theory}
use Rattle.ec_accept.specs.Accepted.{visible_count, IsMeasured}
use Rattle.ec_weight.specs.Weight.{weight_of}
use Rattle.ec_accept.specs.declared.accepting.NumberedTheory.{NumberedTheory}
use Rattle.ec_accept.specs.declared.fault.AcceptFault.{AcceptFault}
use Rattle.ec_accept.specs.declared.fault.AcceptFault.TheVariants as fault

-- What a rule gives, seen as the rule sees it, or the refusal that it gives.
abbrev pub Gives : {A X : Type 0} → (A → X) → (Result X Refusal → Type 0) → Result A AcceptFault → Type 0
Gives view rule (Ok a) = rule (Ok (view a))
Gives view rule (Err (fault.Refused refusal)) = rule (Err refusal)
Gives view rule (Err fault.Files) = Unit {0}
Gives view rule (Err fault.Memory) = Unit {0}

-- The fault is one of what the files say: they did not fail, and none is absent.
abbrev pub IsOfText : AcceptFault → Type 0
IsOfText (fault.Refused refusal) = refusal.code ≢ 1
IsOfText fault.Files = ⊥
IsOfText fault.Memory = Unit {0}

abbrev pub FailsByText : {A : Type 0} → Result A AcceptFault → Type 0
FailsByText (Ok a) = Unit {0}
FailsByText (Err e) = IsOfText e

-- A book is sorted, or refused for its first fault.
abbrev pub Sorts : w.Book → Result Sorted AcceptFault → Type 0
Sorts book (Ok sorted) = IsSorted book sorted
Sorts book (Err (fault.Refused refusal)) = book_refusal book ≡ Some refusal
Sorts book (Err fault.Files) = Unit {0}
Sorts book (Err fault.Memory) = Unit {0}

-- A theory has its atoms' numbers, or too many visible atoms.
abbrev pub Numbers : List ℕ → Theory → Result NumberedTheory AcceptFault → Type 0
Numbers root theory (Ok numbered) = (numbered.theory ≡ theory) × (numbered.atoms ≡ theory.signature) × (visible_count (theory_of theory) ≤ 262144)
Numbers root theory (Err (fault.Refused refusal)) = (refusal ≡ refused 20 (in_file root 0) (codes "atoms")) × (262144 < visible_count (theory_of theory))
Numbers root theory (Err fault.Files) = Unit {0}
Numbers root theory (Err fault.Memory) = Unit {0}

-- A theory that isn't too heavy stays as it is.
abbrev pub Weighs : List ℕ → NumberedTheory → Result NumberedTheory AcceptFault → Type 0
Weighs root before (Ok weighed) = (weighed ≡ before) × (weight_of (theory_of before.theory) ≤ 4000000)
Weighs root before (Err (fault.Refused refusal)) = (refusal ≡ refused 19 (in_file root 0) (codes "weight")) × (4000000 < weight_of (theory_of before.theory))
Weighs root before (Err fault.Files) = Unit {0}
Weighs root before (Err fault.Memory) = Unit {0}

-- A theory that isn't too large has its atoms' numbers; any other is refused.
abbrev pub Measures : List ℕ → Theory → Result NumberedTheory AcceptFault → Type 0
Measures root theory (Ok measured) = (measured.theory ≡ theory) × (measured.atoms ≡ theory.signature) × IsMeasured root (theory_of theory) (Ok (theory_of theory))
Measures root theory (Err (fault.Refused refusal)) = IsMeasured root (theory_of theory) (Err refusal)
Measures root theory (Err fault.Files) = Unit {0}
Measures root theory (Err fault.Memory) = Unit {0}

-- the refusal, or that there was no memory for it
abbrev pub Refuses : Refusal → AcceptFault → Type 0
Refuses refusal (fault.Refused r) = r ≡ refusal
Refuses refusal fault.Files = ⊥
Refuses refusal fault.Memory = Unit {0}
