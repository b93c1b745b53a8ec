-- What a log that was judged shows of a list that has passed.
use Rattle.std.proofs.Common.{◌≡◌, ℕ, Bool, true, List, [], ◌∷◌, length, Contains, Option, Some, None, refl, sym, subst}
use Rattle.std.specs.Prelude.{All, IsSomeAnd}
use Rattle.std.specs.List.{AllByRecursion}
use Rattle.std.proofs.lemmas.List.Elements.{All-nil, All-cons}
use Rattle.ec_logic.specs.Atom.{visible_atoms}
use Rattle.ec_logic.specs.Listing.{AreTruths}
use Rattle.ec_logic.specs.Signature.{Signature}
use Rattle.ec_logic.specs.Theory.{Theory}
use Rattle.ec_logic.specs.Universe.{universe_of}
use Rattle.ec_logic.specs.ValidTheory.{IsValidTheory}
use Rattle.ec_clause.specs.ClauseList.{ClauseList}
use Rattle.ec_clause.specs.Ending.{is_complete}
use Rattle.ec_clause.specs.declared.ending.Ending.{Ending}
use Rattle.ec_clause.specs.declared.ending.Ending.TheVariants.{Complete, Models, Conflicts}
use Rattle.ec_certificate.specs.Judged.{Accepted, Faulty, IsJudged}
use Rattle.ec_certificate.proofs.JudgedLogs.{judged-none_out}
use Rattle.ec_cnf.specs.List.{clauses_of}
use Rattle.ec_grounding.specs.WellFormed.{visible_count}
use Rattle.ec_listing.specs.Reading.{IsFitting}
use Rattle.ec_log.specs.Reader.{largest_log}
use Rattle.ec_solve.proofs.Finding.{list_of_valid}
use Rattle.ec_evidence.specs.declared.finding.Reason.TheVariants as reason
use Rattle.std.proofs.Math.Path.{fun_ext}
use Rattle.ec_edge.specs.Pieces.{AllStay}
use Rattle.ec_narr.specs.declared.listed.Listed.{Listed}
use Rattle.ec_evidence.specs.declared.finding.Finding.{Finding}
use Rattle.ec_evidence.specs.Found.{Held, HasList, IsAudited, IsShown, IsNot, IsFound, log_line}
use Rattle.ec_evidence.specs.Steps.{ArePassed, ChecksTo}

-- truths that fit have one length
pub lengths_of : (signature : Signature) (truths : List (List Bool)) → AllByRecursion (IsFitting signature) truths → All (λ (truth : List Bool). length truth ≡ length (visible_atoms (universe_of signature))) truths
lengths_of signature [] h = All-nil (λ (truth : List Bool). length truth ≡ length (visible_atoms (universe_of signature)))
lengths_of signature (truth ∷ truths) h = All-cons (λ (t : List Bool). length t ≡ length (visible_atoms (universe_of signature))) truth truths h.0.whole (lengths_of signature truths h.1)

pub whole_of : (signature : Signature) (truths : List (List Bool)) → AllByRecursion (IsFitting signature) truths → AllByRecursion (λ (truth : List Bool). length truth ≡ length (visible_atoms (universe_of signature))) truths
whole_of signature [] h = tt
whole_of signature (truth ∷ truths) h = (h.0.whole, whole_of signature truths h.1)

module _ (held : Held) (name log : List ℕ) (theory : Theory) (valid : IsValidTheory theory) (truths : List (List Bool)) where
  -- a complete list has the truth of every minimal model
  are_all : (ending : Ending) (bytes : List ℕ) → IsAudited held name theory truths ending → IsJudged largest_log (clauses_of theory) truths ending bytes Accepted → is_complete ending ≡ true → AreTruths theory truths
  are_all (Complete n) bytes audited judged complete = record {
    rising = audited.lists.text.rise;
    each = audited.each;
    all = λ found is.
        let w = (list_of_valid theory valid).whole found is in
        let none_out = judged-none_out largest_log (clauses_of theory) truths n (visible_count theory) bytes (lengths_of theory.signature truths audited.lists.text.fit) judged w.whole w.meets in
        subst (Contains truths) w.extends none_out;
  }
  are_all (Models n) bytes audited judged complete = cc
  are_all (Conflicts n) bytes audited judged complete = cc

  pub shown : (clauses : ClauseList) (ending : Ending) → IsSomeAnd (held log) (λ bytes. IsJudged largest_log clauses truths ending bytes Accepted) → clauses ≡ clauses_of theory → IsAudited held name theory truths ending → IsShown held name log theory ending
  shown clauses ending h is audited = by_held (held log) refl h
    where
      by_held : (o : Option (List ℕ)) → held log ≡ o → IsSomeAnd o (λ bytes. IsJudged largest_log clauses truths ending bytes Accepted) → IsShown held name log theory ending
      by_held None e h = absurd h
      by_held (Some bytes) e h =
          let judged = subst (λ (c : ClauseList). IsJudged largest_log c truths ending bytes Accepted) is h in
          record { truths = truths; audited = audited; logged = bytes; there = e; accepted = judged; all = are_all ending bytes audited judged }

  pub not_shown : (clauses : ClauseList) (ending : Ending) (number : ℕ) → IsSomeAnd (held log) (λ bytes. IsJudged largest_log clauses truths ending bytes (Faulty number)) → clauses ≡ clauses_of theory → IsAudited held name theory truths ending
      → IsNot held name log theory (reason.Log number)
  not_shown clauses ending number h is audited = by_held (held log) refl h
    where
      by_held : (o : Option (List ℕ)) → held log ≡ o → IsSomeAnd o (λ bytes. IsJudged largest_log clauses truths ending bytes (Faulty number)) → IsNot held name log theory (reason.Log number)
      by_held None e h = absurd h
      by_held (Some bytes) e h = log_line truths ending bytes audited e (subst (λ (c : ClauseList). IsJudged largest_log c truths ending bytes (Faulty number)) is h)

-- What a log shows, where the names hold what they held when the list was read.
pub found_after : (held now : Held) (name log : List ℕ) (theory : Theory) → IsValidTheory theory → (list : Listed) (clauses : ClauseList) (finding : Finding) → AllStay held now
    → HasList held name theory list.models.items list.ending → ArePassed theory list clauses → ChecksTo now log clauses list finding → IsFound held name log theory finding
found_after held now name log theory valid list clauses finding stays lists passed checks =
    let same : now ≡ held = fun_ext stays in
    let there = subst (λ h. HasList h name theory list.models.items list.ending) (sym same) lists in
    subst (λ h. IsFound h name log theory finding) same (checks theory name valid passed.is (record { lists = there; each = passed.each }))
