-- What a root comes to, by the layers' answers.
use Rattle.std.proofs.Common.{◌≡◌, ℕ, ◌≤◌, ◌<◌, ◌∙◌, List, Option, Result, Ok, Err, IfOk, ap, sym, subst}
use Rattle.ec_load.specs.Book.{IsBook}
use Rattle.ec_logic.specs.Theory as logic
use Rattle.ec_syntax.specs.declared.book.Refusal.{Refusal}
use Rattle.ec_syntax.specs.View.{book_of}
use Rattle.ec_syntax.specs.Written as w
use Rattle.ec_theory.specs.Theories.{theory_of}
use Rattle.ec_theory.specs.declared.sorted.Sorted.{Sorted}
use Rattle.ec_theory.specs.declared.theory.Theory.{Theory}
use Rattle.ec_sort.specs.Answers.{IsSorted}
use Rattle.ec_split.specs.Parts.{parts_of}
use Rattle.ec_split.specs.Split.{split_of}
use Rattle.ec_accept.specs.Accepted.{IsAccepted, said, unread, unsaid, IsMeasured, fits, heavy, many_atoms, IsSaid, sorted, unsorted, IsSplitInto, SaysParts, visible_count}
use Rattle.ec_accept.specs.Answers.{Answers}
use Rattle.ec_accept.specs.Steps.{Gives, Measures, Numbers, Sorts, Weighs}
use Rattle.ec_weight.specs.Weight.{weight_of}
use Rattle.ec_accept.specs.declared.accepting.NumberedTheory.{NumberedTheory}
use Rattle.ec_accept.specs.declared.fault.AcceptFault.{AcceptFault}
use Rattle.ec_accept.specs.declared.fault.AcceptFault.TheVariants as fault

-- ---- a book

pub said_unsorted : (book : w.Book) (e : AcceptFault) → Sorts book (Err e) → Gives theory_of (IsSaid book) (Err e)
said_unsorted book (fault.Refused refusal) h = unsorted h
said_unsorted book fault.Files h = tt
said_unsorted book fault.Memory h = tt

pub said_sorted : (book : w.Book) (found : Sorted) → IsSorted book found → (result : Result Theory AcceptFault) → Gives theory_of (IsSplitInto found) result → Gives theory_of (IsSaid book) result
said_sorted book found h (Ok theory) s = sorted found h s
said_sorted book found h (Err (fault.Refused refusal)) s = sorted found h s
said_sorted book found h (Err fault.Files) s = tt
said_sorted book found h (Err fault.Memory) s = tt

pub says_parts : (book : w.Book) (found : Sorted) → IsSorted book found → (result : Result Theory AcceptFault)
    → IfOk result (λ theory. split_of found.signature found.labelled.items found.wanted.items ≡ Ok (parts_of theory)) → IfOk result (λ theory. SaysParts book (parts_of theory))
says_parts book found h (Ok theory) s = record { found = found; sorted = h; split = s }
says_parts book found h (Err fault) s = tt

-- ---- a root

module _ (held : List ℕ → Option (List ℕ)) (root : List ℕ) where
  pub accepts_unread : (e : AcceptFault) → Gives book_of (IsBook held root) (Err e) → Answers (IsAccepted held root) (Err e)
  accepts_unread (fault.Refused refusal) h = unread h
  accepts_unread fault.Files h = tt
  accepts_unread fault.Memory h = tt

  pub accepts_unsaid : (book : w.Book) → IsBook held root (Ok book) → (e : AcceptFault) → Gives theory_of (IsSaid book) (Err e) → Answers (IsAccepted held root) (Err e)
  accepts_unsaid book b (fault.Refused refusal) h = unsaid book b h
  accepts_unsaid book b fault.Files h = tt
  accepts_unsaid book b fault.Memory h = tt

  pub accepts_unmeasured : (book : w.Book) (theory : Theory) → IsBook held root (Ok book) → IsSaid book (Ok (theory_of theory)) → (e : AcceptFault) → Measures root theory (Err e) → Answers (IsAccepted held root) (Err e)
  accepts_unmeasured book theory b s (fault.Refused refusal) n = said book (theory_of theory) b s n
  accepts_unmeasured book theory b s fault.Files n = tt
  accepts_unmeasured book theory b s fault.Memory n = tt

  pub accepts_measured : (book : w.Book) (theory : Theory) → IsBook held root (Ok book) → IsSaid book (Ok (theory_of theory)) → (found : NumberedTheory) → Measures root theory (Ok found) → IsAccepted held root (Ok (theory_of found.theory))
  accepts_measured book theory b s found n =
      let P : Theory → Type 0 = λ t. IsAccepted held root (Ok (theory_of t)) in
      subst P (sym n.0) (said book (theory_of theory) b s n.2)

-- ---- how large a theory is

measured_size : {root : List ℕ} {theory : logic.Theory} {answer : Result logic.Theory Refusal} → IsMeasured root theory answer → IfOk answer (λ (t : logic.Theory). (visible_count t ≤ 262144) × (weight_of t ≤ 4000000))
measured_size (many_atoms l) = tt
measured_size (heavy l w) = tt
measured_size (fits l w) = (l, w)

pub few_visible : (root : List ℕ) (theory : Theory) (found : NumberedTheory) → Measures root theory (Ok found) → visible_count (theory_of found.theory) ≤ 262144
few_visible root theory found n = subst (λ (t : Theory). visible_count (theory_of t) ≤ 262144) (sym n.0) (measured_size n.2).0

pub is_light : (root : List ℕ) (theory : Theory) (found : NumberedTheory) → Measures root theory (Ok found) → weight_of (theory_of found.theory) ≤ 4000000
is_light root theory found n = subst (λ (t : Theory). weight_of (theory_of t) ≤ 4000000) (sym n.0) (measured_size n.2).1

-- a theory that is numbered and then weighed is measured
pub measures_weighed : (root : List ℕ) (theory : Theory) (before : NumberedTheory) → Numbers root theory (Ok before) → (result : Result NumberedTheory AcceptFault) → Weighs root before result → Measures root theory result
measures_weighed root theory before n (Ok found) w =
    let P : Theory → Type 0 = λ t. weight_of (theory_of t) ≤ 4000000 in
    (ap (λ (m : NumberedTheory). m.theory) w.0 ∙ n.0, ap (λ (m : NumberedTheory). m.atoms) w.0 ∙ n.1, fits n.2 (subst P n.0 w.1))
measures_weighed root theory before n (Err (fault.Refused refusal)) w =
    let P : Theory → Type 0 = λ t. 4000000 < weight_of (theory_of t) in
    let Q : Refusal → Type 0 = λ r. IsMeasured root (theory_of theory) (Err r) in
    subst Q (sym w.0) (heavy n.2 (subst P n.0 w.1))
measures_weighed root theory before n (Err fault.Files) w = tt
measures_weighed root theory before n (Err fault.Memory) w = tt

pub measures_unnumbered : (root : List ℕ) (theory : Theory) (e : AcceptFault) → Numbers root theory (Err e) → Measures root theory (Err e)
measures_unnumbered root theory (fault.Refused refusal) n =
    let Q : Refusal → Type 0 = λ r. IsMeasured root (theory_of theory) (Err r) in
    subst Q (sym n.0) (many_atoms n.1)
measures_unnumbered root theory fault.Files n = tt
measures_unnumbered root theory fault.Memory n = tt
