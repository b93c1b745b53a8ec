-- How a command ends once its text was put, or wasn't.
use Rattle.std.specs.Prelude.{Result, Ok, Err}
use Rattle.ec_edge.specs.declared.fault.SinkFault.{SinkFault}
use Rattle.ec_edge.specs.declared.fault.SinkFault.TheVariants as sink

-- the end that what was put tells, or that of a failed sink, or that of no memory
abbrev pub end_of : {T End : Type 0} → (T → End) → End → End → Result T SinkFault → End
end_of told out memory (Ok put) = told put
end_of told out memory (Err sink.Failed) = out
end_of told out memory (Err sink.Memory) = memory
