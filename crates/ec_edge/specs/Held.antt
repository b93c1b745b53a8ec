-- What files in memory show: the bytes that each name holds, and the calls and counts.
use Rattle.std.specs.Prelude.{ℕ, List, Option, option_map}
use Rattle.std.specs.BTreeMap.{get_by_text}
use Rattle.ec_edge.specs.declared.mem_files.MemFiles.{MemFiles}
use Rattle.ec_edge.specs.Memory.{FilesTally}

-- the bytes that the name holds, if it is held
abbrev pub held_in : MemFiles → List ℕ → Option (List ℕ)
held_in m name = option_map (λ v. v.items) (get_by_text m.files name)

-- the calls so far, and the three counts
abbrev pub tally_of : MemFiles → FilesTally
tally_of m = record { pieces = m.pieces; starts = m.starts; appends = m.appends; faults = m.faults; absences = m.absences; failed_starts = m.failed_starts }
