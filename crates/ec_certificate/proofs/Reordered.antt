-- The order of the truths, and how often each is listed, does not matter.
use Rattle.std.proofs.Common.{Bool, List, get_or, All, Contains, IsPermutation}
use Rattle.std.proofs.lemmas.List.Elements.{All-contains, Contains-get_or}
use Rattle.std.proofs.lemmas.List.Sorted.{Contains-permutation, IsPermutation-sym}
use Rattle.ec_clause.specs.ClauseList.{ClauseList}
use Rattle.ec_clause.specs.Note.{Note, Blocked}
use Rattle.ec_clause.specs.declared.ending.Ending.{Ending}
use Rattle.ec_log.specs.Log.{Log}
use Rattle.ec_certificate.specs.Accepted.{forbids, IsAccepted}
use Rattle.ec_certificate.specs.Progress.{IsUnderWay, AreAmong}
use Rattle.ec_certificate.proofs.Appending.{are_right-more}

-- what holds of each truth of one list holds of those of another among them
pub all-among : (truths truths' : List (List Bool)) (P : List Bool → Type 0) → AreAmong truths' truths → All P truths → All P truths'
all-among truths truths' P back all k d lt = All-contains P truths (get_or truths' k d) all (back (get_or truths' k d) (Contains-get_or truths' k d lt))

-- A log that is accepted for some truths is accepted for the same truths in another order.
pub accepted-reordered : (list : ClauseList) (truths truths' : List (List Bool)) (ending : Ending) (log : Log) → AreAmong truths truths' → AreAmong truths' truths → IsAccepted list truths ending log → IsAccepted list truths' ending log
accepted-reordered list truths truths' ending log there back a = record {
  numbers = a.numbers;
  right = are_right-more list truths truths' log.notes there a.right;
  last = a.last;
  blocked = all-among truths truths' (λ truth. Contains log.notes (Blocked (forbids truth))) back a.blocked;
  ended = a.ended;
}

pub under_way-reordered : (list now : ClauseList) (truths truths' : List (List Bool)) (notes : List Note) → AreAmong truths truths' → AreAmong truths' truths → IsUnderWay list truths notes now → IsUnderWay list truths' notes now
under_way-reordered list now truths truths' notes there back u = record {
  right = are_right-more list truths truths' notes there u.right;
  repeats_nothing = u.repeats_nothing;
  blocked = all-among truths truths' (λ truth. Contains notes (Blocked (forbids truth))) back u.blocked;
  open_still = u.open_still;
  now_is = u.now_is;
}

-- a permutation, as a sort gives it, is another order in this sense
pub accepted-permutation : (list : ClauseList) (truths truths' : List (List Bool)) (ending : Ending) (log : Log) → IsPermutation truths truths' → IsAccepted list truths ending log → IsAccepted list truths' ending log
accepted-permutation list truths truths' ending log p a =
    accepted-reordered list truths truths' ending log (λ t c. Contains-permutation truths truths' t p c) (λ t c. Contains-permutation truths' truths t (IsPermutation-sym truths truths' p) c) a
