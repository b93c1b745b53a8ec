-- The order of lists of truth values, place by place.
use Rattle.std.proofs.Common.{◌≡◌, Less, Equal, Greater, ℕ, zero, suc, ◌<◌, Bool, true, false, List, [], ◌∷◌, length, get_or, refl, sym, ap, ◌∙◌, arith}
use Rattle.std.specs.Bool.{beq}
use Rattle.std.specs.Cmp.{bool_cmp_total, booleans_Decides, tied_itself}
use Rattle.std.specs.Cmp.Lexicographic.{lists_total, pointwise, pointwise_decides, slice_cmp}
use Rattle.std.specs.Ordering.{bool_cmp, is_lt, is_eq, is_gt}
use Rattle.std.specs.Bool.{Decides}

-- a front that both have decides nothing
pub same_front : (x : Bool) (xs ys : List Bool) → slice_cmp bool_cmp (x ∷ xs) (x ∷ ys) ≡ slice_cmp bool_cmp xs ys
same_front false xs ys = refl
same_front true xs ys = refl

less_not_greater : (C : Type 0) → Greater ≡ Less → C
less_not_greater C e = absurd (let f : is_gt Greater ≡ is_gt Less = ap is_gt e in cc)

-- ---- equal

-- lists that the order doesn't tell apart are the same
pub equal_same : (xs ys : List Bool) → slice_cmp bool_cmp xs ys ≡ Equal → xs ≡ ys
equal_same [] [] e = refl
equal_same [] (y ∷ ys) e = absurd (let f : is_eq Less ≡ is_eq Equal = ap is_eq e in cc)
equal_same (x ∷ xs) [] e = absurd (let f : is_eq Greater ≡ is_eq Equal = ap is_eq e in cc)
equal_same (false ∷ xs) (false ∷ ys) e = ap (λ zs. false ∷ zs) (equal_same xs ys e)
equal_same (false ∷ xs) (true ∷ ys) e = absurd (let f : is_eq Less ≡ is_eq Equal = ap is_eq e in cc)
equal_same (true ∷ xs) (false ∷ ys) e = absurd (let f : is_eq Greater ≡ is_eq Equal = ap is_eq e in cc)
equal_same (true ∷ xs) (true ∷ ys) e = ap (λ zs. true ∷ zs) (equal_same xs ys e)

pub same_equal : (xs ys : List Bool) → xs ≡ ys → slice_cmp bool_cmp xs ys ≡ Equal
same_equal xs ys e = ap (λ zs. slice_cmp bool_cmp xs zs) (sym e) ∙ tied_itself (lists_total bool_cmp_total) xs

-- `==` holds of the same lists alone
pub eq_decides : (xs ys : List Bool) → Decides (pointwise beq xs ys) (xs ≡ ys)
eq_decides = pointwise_decides booleans_Decides

-- ---- less

-- at the first place in which they differ the first has false and the second true
pub first_less : (k : ℕ) (xs ys : List Bool) → k < length xs → k < length ys → ((i : ℕ) → i < k → get_or xs i false ≡ get_or ys i false) → get_or xs k false ≡ false → get_or ys k false ≡ true → slice_cmp bool_cmp xs ys ≡ Less
first_less k [] ys a b same low high = absurd (omega (arith, a))
first_less k (x ∷ xs) [] a b same low high = absurd (omega (arith, b))
first_less zero (x ∷ xs) (y ∷ ys) a b same low high = ap (λ z. slice_cmp bool_cmp (z ∷ xs) (y ∷ ys)) low ∙ ap (λ z. slice_cmp bool_cmp (false ∷ xs) (z ∷ ys)) high
first_less (suc k) (x ∷ xs) (y ∷ ys) a b same low high =
    let rest = first_less k xs ys (omega (arith, a)) (omega (arith, b)) (λ i h. same (suc i) (omega (arith, h))) low high in
    ap (λ z. slice_cmp bool_cmp (z ∷ xs) (y ∷ ys)) (same 0 (omega arith)) ∙ (same_front y xs ys ∙ rest)

-- a list before each longer one that it begins
pub front_less : (xs ys : List Bool) → length xs < length ys → ((i : ℕ) → i < length xs → get_or xs i false ≡ get_or ys i false) → slice_cmp bool_cmp xs ys ≡ Less
front_less [] [] h same = absurd (omega (arith, h))
front_less [] (y ∷ ys) h same = refl
front_less (x ∷ xs) [] h same = absurd (omega (arith, h))
front_less (x ∷ xs) (y ∷ ys) h same =
    let rest = front_less xs ys (omega (arith, h)) (λ i l. same (suc i) (omega (arith, l))) in
    ap (λ z. slice_cmp bool_cmp (z ∷ xs) (y ∷ ys)) (same 0 (omega arith)) ∙ (same_front y xs ys ∙ rest)

-- the first place in which two lists differ, where the first has false and the second true
pub record DiffersFirst (xs ys : List Bool) : Type 0 where
  pub place : ℕ
  pub within : place < length xs
  pub within_other : place < length ys
  pub same : (i : ℕ) → i < place → get_or xs i false ≡ get_or ys i false
  pub low : get_or xs place false ≡ false
  pub high : get_or ys place false ≡ true

pub differs_less : (xs ys : List Bool) → DiffersFirst xs ys → slice_cmp bool_cmp xs ys ≡ Less
differs_less xs ys d = first_less d.place xs ys d.within d.within_other d.same d.low d.high

behind : (x : Bool) (xs ys : List Bool) → DiffersFirst xs ys → DiffersFirst (x ∷ xs) (x ∷ ys)
behind x xs ys d = record {
  place = suc d.place;
  within = (let h = d.within in omega (arith, h));
  within_other = (let h = d.within_other in omega (arith, h));
  same = each;
  low = d.low;
  high = d.high;
}
  where
    each : (i : ℕ) → i < suc d.place → get_or (x ∷ xs) i false ≡ get_or (x ∷ ys) i false
    each zero h = refl
    each (suc i) h = d.same i (omega (arith, h))

pub less_differs : (xs ys : List Bool) → length xs ≡ length ys → slice_cmp bool_cmp xs ys ≡ Less → DiffersFirst xs ys
less_differs [] [] e l = absurd (let f : is_lt Equal ≡ is_lt Less = ap is_lt l in cc)
less_differs [] (y ∷ ys) e l = absurd (omega (arith, e))
less_differs (x ∷ xs) [] e l = absurd (omega (arith, e))
less_differs (false ∷ xs) (false ∷ ys) e l = behind false xs ys (less_differs xs ys (omega (arith, e)) l)
less_differs (false ∷ xs) (true ∷ ys) e l = record { place = 0; within = omega arith; within_other = omega arith; same = λ i h. absurd (omega (arith, h)); low = refl; high = refl }
less_differs (true ∷ xs) (false ∷ ys) e l = less_not_greater (DiffersFirst (true ∷ xs) (false ∷ ys)) l
less_differs (true ∷ xs) (true ∷ ys) e l = behind true xs ys (less_differs xs ys (omega (arith, e)) l)

-- the same as a way to any relation that holds where the first has false and the second true, and behind one front
pub less_by : (P : List Bool → List Bool → Type 0) → ((xs ys : List Bool) → P (false ∷ xs) (true ∷ ys)) → ((x : Bool) (xs ys : List Bool) → P xs ys → P (x ∷ xs) (x ∷ ys)) → (xs ys : List Bool) → length xs ≡ length ys → slice_cmp bool_cmp xs ys ≡ Less → P xs ys
less_by P here step [] [] e l = absurd (let f : is_lt Equal ≡ is_lt Less = ap is_lt l in cc)
less_by P here step [] (y ∷ ys) e l = absurd (omega (arith, e))
less_by P here step (x ∷ xs) [] e l = absurd (omega (arith, e))
less_by P here step (false ∷ xs) (false ∷ ys) e l = step false xs ys (less_by P here step xs ys (omega (arith, e)) l)
less_by P here step (false ∷ xs) (true ∷ ys) e l = here xs ys
less_by P here step (true ∷ xs) (false ∷ ys) e l = less_not_greater (P (true ∷ xs) (false ∷ ys)) l
less_by P here step (true ∷ xs) (true ∷ ys) e l = step true xs ys (less_by P here step xs ys (omega (arith, e)) l)
