-- The rules of the words at work: each row is read as it is to be.
use Rattle.std.proofs.Common.{◌≡◌, ℕ, List, [], ◌∷◌, ◌++◌, codes, Option, Some, None, refl, ap, ◌∙◌, arith}
use Rattle.std.specs.Prelude.{nat_le, ◌&&◌, option_map, if◌then◌else◌}
use Rattle.std.specs.Str.{bytes_eq}
use Rattle.std.proofs.lemmas.Fmt.{decimal_digit, decimal_step}
use Rattle.ec_command.specs.declared.words.Job.{Job}
use Rattle.ec_command.specs.declared.words.Job.TheVariants as job
use Rattle.ec_command.specs.Words.{job_of}

listed : job_of (codes "list" ∷ codes "a.e" ∷ []) ≡ Some (job.List (codes "a.e"))
listed = refl

shown : job_of (codes "show" ∷ codes "a.e" ∷ []) ≡ Some (job.Show (codes "a.e"))
shown = refl

-- the usual bounds
solved : job_of (codes "solve" ∷ codes "a.e" ∷ codes "l" ∷ []) ≡ Some (job.Solve (codes "a.e") (codes "l") (record { models = 1000; conflicts = 200000 }))
solved = refl

checked : job_of (codes "check" ∷ codes "a.e" ∷ codes "a.out" ∷ codes "a.log" ∷ []) ≡ Some (job.Check (codes "a.e") (codes "a.out") (codes "a.log"))
checked = refl

check_without_log : job_of (codes "check" ∷ codes "a.e" ∷ codes "a.out" ∷ []) ≡ None
check_without_log = refl

check_with_options : job_of (codes "check" ∷ codes "a.e" ∷ codes "a.out" ∷ codes "a.log" ∷ codes "--models" ∷ codes "2" ∷ []) ≡ None
check_with_options = refl

without_log : job_of (codes "solve" ∷ codes "a.e" ∷ []) ≡ None
without_log = refl

without_number : job_of (codes "solve" ∷ codes "a.e" ∷ codes "l" ∷ codes "--models" ∷ []) ≡ None
without_number = refl

zero_models : job_of (codes "solve" ∷ codes "a.e" ∷ codes "l" ∷ codes "--models" ∷ codes "0" ∷ []) ≡ None
zero_models = refl

many_models : job_of (codes "solve" ∷ codes "a.e" ∷ codes "l" ∷ codes "--models" ∷ codes "10001" ∷ []) ≡ None
many_models = refl

models_twice : job_of (codes "solve" ∷ codes "a.e" ∷ codes "l" ∷ codes "--models" ∷ codes "2" ∷ codes "--models" ∷ codes "2" ∷ []) ≡ None
models_twice = refl

unknown_option : job_of (codes "solve" ∷ codes "a.e" ∷ codes "l" ∷ codes "--seed" ∷ codes "2" ∷ []) ≡ None
unknown_option = refl

-- what stands first is the file, whatever it is
option_as_file : job_of (codes "solve" ∷ codes "--models" ∷ codes "2" ∷ []) ≡ Some (job.Solve (codes "--models") (codes "2") (record { models = 1000; conflicts = 200000 }))
option_as_file = refl

no_word : job_of [] ≡ None
no_word = refl

-- ---- samples

-- the job of `sample` and a word, by the number that the word has if it is one, and the digits of that number
abbrev sample_of : ℕ → List ℕ → List ℕ → Option Job
sample_of n word digits = option_map (λ n. job.Sample n) (if nat_le 1 n && nat_le n 40 && bytes_eq digits word then Some n else None)

one_step : job_of (codes "sample" ∷ codes "1" ∷ []) ≡ Some (job.Sample 1)
one_step = ap (sample_of 1 (codes "1")) (decimal_digit 1 (omega arith))

most_steps : job_of (codes "sample" ∷ codes "40" ∷ []) ≡ Some (job.Sample 40)
most_steps = ap (sample_of 40 (codes "40")) (decimal_step 40 (omega arith) (omega arith) ∙ ap (λ ds. ds ++ codes "0") (decimal_digit 4 (omega arith)))

without_steps : job_of (codes "sample" ∷ []) ≡ None
without_steps = refl

zero_steps : job_of (codes "sample" ∷ codes "0" ∷ []) ≡ None
zero_steps = refl

many_steps : job_of (codes "sample" ∷ codes "41" ∷ []) ≡ None
many_steps = refl

leading_zeros : job_of (codes "sample" ∷ codes "007" ∷ []) ≡ None
leading_zeros = ap (sample_of 7 (codes "007")) (decimal_digit 7 (omega arith))

no_number : job_of (codes "sample" ∷ codes "x" ∷ []) ≡ None
no_number = ap (sample_of 33 (codes "x")) (decimal_step 33 (omega arith) (omega arith) ∙ ap (λ ds. ds ++ codes "3") (decimal_digit 3 (omega arith)))

two_numbers : job_of (codes "sample" ∷ codes "1" ∷ codes "2" ∷ []) ≡ None
two_numbers = refl
