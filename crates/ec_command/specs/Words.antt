-- The job of the words, if they are one.
use Rattle.std.specs.Prelude.{ℕ, ◌≡◌, ◌≤◌, Bool, ◌&&◌, ◌||◌, nat_le, codes, decimal, List, [], ◌∷◌, Option, Some, None, option_map, if◌then◌else◌}
use Rattle.std.specs.List.{list_all}
use Rattle.std.specs.Option.{option_and_then}
use Rattle.std.specs.Str.{bytes_eq}
use Rattle.std.specs.Str.Parse.{digits_value}
use Rattle.ec_solve.specs.declared.searching.Bounds.{Bounds}
use Rattle.ec_engine.specs.Solve.{AreBounds}
use Rattle.ec_command.specs.declared.words.Job.{Job}
use Rattle.ec_command.specs.declared.words.Job.TheVariants as job
use Rattle.ec_command.specs.declared.words.JobFault.{JobFault}
use Rattle.ec_command.specs.declared.words.JobFault.TheVariants as fault

-- the number is from 1 to the most, and the word is its decimal text
abbrev pub is_number : ℕ → List ℕ → ℕ → Bool
is_number most word n = nat_le 1 n && nat_le n most && bytes_eq (decimal n) word

-- the number from 1 to the most whose decimal text a word is
abbrev pub number_of : ℕ → List ℕ → Option ℕ
number_of most word = if is_number most word (digits_value 10 word) then Some (digits_value 10 word) else None

-- the words two by two, as a name and the word behind it; none where one is left over
abbrev pub pairs_of : List (List ℕ) → Option (List (List ℕ × List ℕ))
pairs_of [] = Some []
pairs_of (name ∷ []) = None
pairs_of (name ∷ word ∷ words) = option_map (λ pairs. (name, word) ∷ pairs) (pairs_of words)

-- the word is the name of an option
abbrev pub is_option : List ℕ → Bool
is_option word = bytes_eq word (codes "--models") || bytes_eq word (codes "--conflicts")

-- the words behind a name
abbrev pub words_behind : List ℕ → List (List ℕ × List ℕ) → List (List ℕ)
words_behind name [] = []
words_behind name (pair ∷ pairs) = if bytes_eq pair.0 name then pair.1 ∷ words_behind name pairs else words_behind name pairs

-- The number that the words behind an option's name give: the usual one where there is none, and none where there are two.
abbrev pub setting : ℕ → ℕ → List (List ℕ) → Option ℕ
setting usual most [] = Some usual
setting usual most (word ∷ []) = number_of most word
setting usual most (word ∷ again ∷ words) = None

-- the bounds of a search whose words set none
abbrev pub usual_bounds : Bounds
usual_bounds = record { models = 1000; conflicts = 200000 }

-- the bounds with these numbers
abbrev pub bounds_with : Option ℕ → Option ℕ → Option Bounds
bounds_with (Some models) (Some conflicts) = Some (record { models = models; conflicts = conflicts })
bounds_with (Some models) None = None
bounds_with None conflicts = None

-- the bounds that pairs give, where each name is that of an option
abbrev pub bounds_in : List (List ℕ × List ℕ) → Option Bounds
bounds_in pairs = if list_all (λ pair. is_option pair.0) pairs
    then bounds_with (setting 1000 10000 (words_behind (codes "--models") pairs)) (setting 200000 2000000000 (words_behind (codes "--conflicts") pairs))
    else None

-- the bounds that options give
abbrev pub bounds_of : List (List ℕ) → Option Bounds
bounds_of options = option_and_then bounds_in (pairs_of options)

-- the job of checking a list and a log of a file, if the words are those of `check`
abbrev pub check_of : List ℕ → List ℕ → List ℕ → List (List ℕ) → Option Job
check_of command file list (log ∷ []) = if bytes_eq command (codes "check") then Some (job.Check file list log) else None
check_of command file list _ = None

-- the job of a command and one word
abbrev pub short_job_of : List ℕ → List ℕ → Option Job
short_job_of command word =
    if bytes_eq command (codes "list") then Some (job.List word)
    else if bytes_eq command (codes "show") then Some (job.Show word)
    else if bytes_eq command (codes "sample") then option_map (λ n. job.Sample n) (number_of 40 word)
    else None

abbrev pub job_of : List (List ℕ) → Option Job
job_of (command ∷ word ∷ []) = short_job_of command word
job_of (command ∷ file ∷ log ∷ options) = if bytes_eq command (codes "solve") then option_map (λ bounds. job.Solve file log bounds) (bounds_of options) else check_of command file log options
job_of _ = None

-- why there is no job
abbrev pub IsNoJob : List (List ℕ) → JobFault → Type 0
IsNoJob words fault.Usage = job_of words ≡ None
IsNoJob words fault.Memory = Unit {0}

-- a sample has from 1 to 40 steps
pub record IsSteps (n : ℕ) : Type 0 where
  pub some : 1 ≤ n
  pub few : n ≤ 40

-- the bounds of a solve job are those that a search may have, and the steps of a sample job those that a sample may have
abbrev pub HasBounds : Job → Type 0
HasBounds (job.List file) = Unit {0}
HasBounds (job.Solve file log bounds) = AreBounds bounds
HasBounds (job.Check file list log) = Unit {0}
HasBounds (job.Show file) = Unit {0}
HasBounds (job.Sample n) = IsSteps n
