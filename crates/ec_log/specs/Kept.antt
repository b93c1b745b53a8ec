-- What a writer keeps of a note, and the line of each entry of its log.
use Rattle.std.specs.Prelude.{◌<◌, ◌^◌}
use Rattle.ec_clause.specs.Ending.{number_of}
use Rattle.ec_clause.specs.Note.{Note, Derived, Blocked}
use Rattle.ec_log.specs.Line as line
use Rattle.ec_log.specs.Line.{LogLine}
use Rattle.ec_log.specs.Log.{noted, HasRange}
use Rattle.ec_log.specs.declared.kept.Kept.{Kept}
use Rattle.ec_log.specs.declared.kept.Kept.TheVariants as kept
use Rattle.ec_log.specs.declared.kept.Entry.{Entry}
use Rattle.ec_log.specs.declared.kept.Entry.TheVariants as entry

-- the note that is kept
abbrev pub note_of : Kept → Note
note_of (kept.Derived lits hints) = Derived lits.items hints.items
note_of (kept.Blocked lits) = Blocked lits.items

-- the line of an entry
abbrev pub entry_line : Entry → LogLine
entry_line (entry.Header variables clauses) = line.Header variables clauses
entry_line (entry.Note kept) = noted (note_of kept.now)
entry_line (entry.End ending) = line.End ending.now

-- the ranges that the types of an entry's parts have
abbrev pub EntryHasRange : Entry → Type 0
EntryHasRange (entry.Header variables clauses) = (variables < 2 ^ 32) × (clauses < 2 ^ 32)
EntryHasRange (entry.Note kept) = HasRange (note_of kept.now)
EntryHasRange (entry.End ending) = number_of ending.now < 2 ^ 64
