-- The bound of a term of whole numbers and, if it has no variable, its value, beside one another.
use Rattle.std.specs.Prelude.{ℕ, ◌+◌, ◌*◌, ◌≤◌, ◌^◌, nat_abs, ℤ, ◌+ℤ◌, ◌*ℤ◌, neg_ℤ, Bool, true, false, Option, Some, None, IfSome}
use Rattle.std.specs.Prelude.{List, codes, not}
use Rattle.std.specs.Fmt.{signed_decimal}
use Rattle.ec_names.specs.Names.{Names, range_named}
use Rattle.ec_syntax.specs.Written.{Term}
use Rattle.ec_walk.specs.declared.measure.Measure.{Measure}
use Rattle.ec_walk.specs.declared.fault.Code.TheVariants.{Arithmetic, OutOfRange}
use Rattle.ec_walk.specs.declared.fault.Fault.{Fault}
use Rattle.ec_walk.specs.Kinds.{bound, exceeds, is_over, is_fixed, value, is_in_range}
use Rattle.ec_walk.specs.Faults.{fault_where}

abbrev pub measure_of : ℕ → Option ℤ → Measure
measure_of n v = record { bound = n; value = v }

-- a thing, unless a test holds
abbrev pub unless : {X : Type 0} → Bool → X → Option X
unless true x = None
unless false x = Some x

abbrev pub value_if : Bool → ℤ → Option ℤ
value_if true v = Some v
value_if false v = None

-- the measure of a term, unless the bound of a part is over the limit
abbrev pub measured : Names → Term → Option Measure
measured names t = unless (exceeds names t) (measure_of (bound names t) (value_if (is_fixed t) (value t)))

abbrev pub both : (ℤ → ℤ → ℤ) → Option ℤ → Option ℤ → Option ℤ
both f (Some v) (Some w) = Some (f v w)
both f (Some v) None = None
both f None other = None

abbrev pub less_by : ℤ → ℤ → ℤ
less_by v w = v +ℤ neg_ℤ w

abbrev pub limited : Measure → Option Measure
limited m = unless (is_over m.bound) m

abbrev pub sum_of : Measure → Measure → Option Measure
sum_of a b = limited (measure_of (a.bound + b.bound) (both ◌+ℤ◌ a.value b.value))

abbrev pub difference_of : Measure → Measure → Option Measure
difference_of a b = limited (measure_of (a.bound + b.bound) (both less_by a.value b.value))

abbrev pub product_of : Measure → Measure → Option Measure
product_of a b = limited (measure_of (a.bound * b.bound) (both ◌*ℤ◌ a.value b.value))

abbrev pub joined : (Measure → Measure → Option Measure) → Option Measure → Option Measure → Option Measure
joined f (Some a) (Some b) = f a b
joined f (Some a) None = None
joined f None other = None

-- A bound within the limit, and a value within the bound.
pub record IsSmall (m : Measure) : Type 0 where
  pub within : m.bound ≤ 2 ^ 62
  pub value : IfSome m.value (λ v. nat_abs v ≤ m.bound)

-- the fault of an argument of a sort, by its measure
abbrev pub value_fault : Names → List ℕ → Option ℤ → Option Fault
value_fault names sort None = None
value_fault names sort (Some v) = fault_where (not (is_in_range (range_named names sort) v)) OutOfRange (signed_decimal v)

abbrev pub measured_fault : Names → List ℕ → Option Measure → Option Fault
measured_fault names sort None = fault_where true Arithmetic (codes "arithmetic")
measured_fault names sort (Some m) = value_fault names sort m.value
