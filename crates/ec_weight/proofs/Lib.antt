mod StopLemmas
mod FormulaLemmas
mod Examples
