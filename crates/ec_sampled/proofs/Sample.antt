-- The text of a sample is accepted by whatever files hold it: one theory, of one file, within all limits.
use Rattle.std.proofs.Common.{◌≡◌, ◌≤◌, ◌*◌, ◌^◌, ℕ, codes, List, [], ◌∷◌, Contains, Option, Some, Result, Ok, Err}
use Rattle.ec_accept.specs.Accepted.{HasFiles, IsAccepted, visible_count}
use Rattle.ec_logic.specs.Theory.{Theory}
use Rattle.ec_sample.specs.Text.{sample_text}
use Rattle.ec_syntax.specs.declared.book.Refusal.{Refusal}
use Rattle.ec_sampled.specs.Book.{sample_file}
use Rattle.ec_sampled.specs.Theory.{sample_theory}
use Rattle.ec_sampled.proofs.Accepted as book
use Rattle.ec_sampled.proofs.Says.{sample_is_book}
use Rattle.ec_sampled.proofs.Size.{sample_is_small}

-- What is so of a root that holds the text of n steps.
pub record IsSampled (held : List ℕ → Option (List ℕ)) (n : ℕ) : Type 0 where
  pub accepted : IsAccepted held sample_file (Ok (sample_theory n))
  pub answer : {found : Result Theory Refusal} → IsAccepted held sample_file found → found ≡ Ok (sample_theory n)
  pub unrefused : {refusal : Refusal} → IsAccepted held sample_file (Err refusal) → ⊥
  pub files : HasFiles held sample_file (sample_file ∷ [])
  pub apart : Contains (sample_file ∷ []) (codes "sample.log") → ⊥
  pub small : 1000 * visible_count (sample_theory n) ≤ 2 ^ 28

pub sample_is_sampled : (held : List ℕ → Option (List ℕ)) (n : ℕ) → 1 ≤ n → n ≤ 40 → held sample_file ≡ Some (sample_text n) → IsSampled held n
sample_is_sampled held n low high holds =
    let is = sample_is_book held n low high holds in
    record {
      accepted = book.sample_is_accepted held n low high is;
      answer = book.sample_answer held n low high is;
      unrefused = book.sample_unrefused held n low high is;
      files = book.sample_files held n low high is;
      apart = book.sample_log_apart;
      small = sample_is_small n low high;
    }
