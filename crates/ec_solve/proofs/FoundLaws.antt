-- Laws of what a search found, for who writes its log and states that a list is complete.
use Rattle.std.proofs.Common.{◌≡◌, ◌≢◌, ℕ, zero, suc, ◌+◌, ◌<◌, ◌≤◌, ◌^◌, Bool, true, List, [], ◌∷◌, length, take, get_or, All, AllPairs, Contains, refl, ap, subst, arith}
use Rattle.std.proofs.lemmas.Map.Made.{IsDistinct-from_AllPairs, is_member-Decides, length-le_from_is_member}
use Rattle.std.specs.Cmp.{bool_eq_equiv}
use Rattle.std.specs.Cmp.Lexicographic.{lists_equiv}
use Rattle.std.specs.List.{AllByRecursion}
use Rattle.ec_row.proofs.OrderLaws.{eq_decides}
use Rattle.ec_logic.specs.Theory.{Theory}
use Rattle.ec_logic.specs.Listing.{IsTruth, AreTruths}
use Rattle.ec_clause.specs.Ending.{is_complete}
use Rattle.ec_clause.specs.declared.ending.Ending.{Ending}
use Rattle.ec_clause.specs.declared.ending.Ending.TheVariants.{Complete, Models, Conflicts}
use Rattle.ec_log.specs.Log.{Log, IsNote, HasLimit}
use Rattle.ec_certificate.proofs.Counting.{count-literals}
use Rattle.ec_certificate.proofs.FewDerived.{are_few_derived}
use Rattle.ec_cnf.specs.List.{clauses_of}
use Rattle.ec_solve.specs.Found.{IsFound}
use Rattle.ec_solve.specs.declared.searching.Bounds.{Bounds}
use Rattle.ec_solve.proofs.LogLines.{note_of_right, limit_of_within}
use Rattle.ec_solve.proofs.Rising.{rising_apart}

-- ---- notes that can be written

-- Each note of the log can be written,
pub notes_writable : (theory : Theory) (bounds : Bounds) (truths : List (List Bool)) (ending : Ending) (log : Log) → IsFound theory bounds truths ending log → All IsNote log.notes
notes_writable theory bounds truths ending log f k d lt = note_of_right (clauses_of theory) truths (take k log.notes) (get_or log.notes k d) (f.accepted.right k d lt)

-- each clause of the list and of the log has a number of 32 bits,
pub numbers_writable : (theory : Theory) (bounds : Bounds) (truths : List (List Bool)) (ending : Ending) (log : Log) → IsFound theory bounds truths ending log → log.numbers.1 + length log.notes < 2 ^ 32
numbers_writable theory bounds truths ending log f =
    let count : log.numbers.1 ≡ length (clauses_of theory).clauses = ap (λ (ns : ℕ × ℕ). ns.1) f.accepted.numbers in
    omega (arith, count, f.few)

-- and the ending has a number that can be told.
pub ending_writable : (theory : Theory) (bounds : Bounds) (truths : List (List Bool)) (ending : Ending) (log : Log) → 1 ≤ bounds.models → 1 ≤ bounds.conflicts → IsFound theory bounds truths ending log → HasLimit ending
ending_writable theory bounds truths ending log models conflicts f = limit_of_within bounds truths log.notes ending models conflicts f.within

-- ---- a search that comes to its end

-- distinct truths that are all among others are no more than those
fewer_among : (truths all : List (List Bool)) → AllPairs (λ (t u : List Bool). t ≢ u) truths → ((t : List Bool) → Contains truths t → Contains all t) → length truths ≤ length all
fewer_among truths all apart among =
    length-le_from_is_member (lists_equiv bool_eq_equiv) truths all (IsDistinct-from_AllPairs eq_decides truths apart) (λ t there. (is_member-Decides eq_decides all t).1 (among t ((is_member-Decides eq_decides truths t).0 there)))

contained : (theory : Theory) (truths : List (List Bool)) → AllByRecursion (IsTruth theory) truths → (t : List Bool) → Contains truths t → IsTruth theory t
contained theory [] each t c = (let lt = c.1 in absurd (omega (arith, lt)))
contained theory (u ∷ truths) each t (zero, lt, is) = subst (IsTruth theory) is each.0
contained theory (u ∷ truths) each t (suc k, lt, is) = contained theory truths each.1 t (k, omega (arith, lt), is)

-- Where the theory has fewer truths than are asked for, and the conflicts are not fewer than there are ways to put each variable into a clause, as it is,
-- negated, or not at all, the search comes to its end.
pub comes_to_its_end : (theory : Theory) (bounds : Bounds) (truths all : List (List Bool)) (ending : Ending) (log : Log) → IsFound theory bounds truths ending log → AreTruths theory all → length all < bounds.models → 3 ^ (clauses_of theory).variables ≤ bounds.conflicts
    → is_complete ending ≡ true
comes_to_its_end theory bounds truths all (Complete n) log f whole fewer enough = refl
comes_to_its_end theory bounds truths all (Models n) log f whole fewer enough =
    let few = fewer_among truths all (rising_apart truths f.rising) (λ t c. whole.all t (contained theory truths f.each t c)) in
    absurd (omega (arith, few, fewer, f.within.0, f.within.1))
comes_to_its_end theory bounds truths all (Conflicts n) log f whole fewer enough =
    let few = are_few_derived (clauses_of theory) truths (Conflicts n) log f.accepted f.fresh in
    absurd (omega (arith, few, enough, f.within.0, f.accepted.ended.1, count-literals log.notes f.accepted.ended.0))
