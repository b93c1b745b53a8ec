-- What is found of names that hold what they held.
use Rattle.std.proofs.Common.{ℕ, Bool, List, Option, sym, ◌∙◌}
use Rattle.ec_edge.specs.Pieces.{AllStay}
use Rattle.ec_clause.specs.declared.ending.Ending.{Ending}
use Rattle.ec_logic.specs.Theory.{Theory}
use Rattle.ec_evidence.specs.Found.{HasList, IsAudited, IsFound, IsNot, list_line, model, log_line}
use Rattle.ec_evidence.specs.declared.finding.Finding.{Finding}
use Rattle.ec_evidence.specs.declared.finding.Finding.TheVariants as finding
use Rattle.ec_evidence.specs.declared.finding.Reason.{Reason}

module _ (held now : List ℕ → Option (List ℕ)) (list log : List ℕ) (theory : Theory) (stays : AllStay held now) where
  list_before : (truths : List (List Bool)) (ending : Ending) → HasList now list theory truths ending → HasList held list theory truths ending
  list_before truths ending has = record { bytes = has.bytes; there = sym (stays list) ∙ has.there; read = has.read; text = has.text }

  audited_before : (truths : List (List Bool)) (ending : Ending) → IsAudited now list theory truths ending → IsAudited held list theory truths ending
  audited_before truths ending audited = record { lists = list_before truths ending audited.lists; each = audited.each }

  not_before : (why : Reason) → IsNot now list log theory why → IsNot held list log theory why
  not_before _ (list_line bytes there faulty) = list_line bytes (sym (stays list) ∙ there) faulty
  not_before _ (model truths ending failing has first) = model truths ending failing (list_before truths ending has) first
  not_before _ (log_line truths ending logged audited there judged) = log_line truths ending logged (audited_before truths ending audited) (sym (stays log) ∙ there) judged

  pub found_before : (found : Finding) → IsFound now list log theory found → IsFound held list log theory found
  found_before (finding.Yes ending) shown = record {
    truths = shown.truths;
    audited = audited_before shown.truths ending shown.audited;
    logged = shown.logged;
    there = sym (stays log) ∙ shown.there;
    accepted = shown.accepted;
    all = shown.all;
  }
  found_before (finding.No why) is = not_before why is
  found_before finding.NoList is = sym (stays list) ∙ is
  found_before finding.NoLog is = record { truths = is.truths; ending = is.ending; audited = audited_before is.truths is.ending is.audited; none = sym (stays log) ∙ is.none }
  found_before finding.Files is = tt
  found_before finding.Memory is = tt
