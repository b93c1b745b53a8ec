-- The loop that counts what is nested.
use Rattle.std.proofs.Common.{◌≡◌, ℕ, zero, suc, ◌+◌, ◌<◌, ◌≤◌, Bool, true, false, List, [], ◌∷◌, length, take, ap, arith, inl, inr}
use Rattle.ec_parse.specs.Mark.{Mark}
use Rattle.ec_parse.specs.Cut.{is_open, is_close, is_nesting, one_if, count, IsDeep}

-- at some mark of those that are left too many parentheses are open
abbrev pub OpensFrom : ℕ → ℕ → List Mark → Type 0
OpensFrom opened closed ms = (n : ℕ) × (closed + count is_close (take n ms) + 100 < opened + count is_open (take n ms))

pub record Depth (marks rest : List Mark) (opened closed nesting : ℕ) : Type 0 where
  pub back : OpensFrom opened closed rest → OpensFrom 0 0 marks
  pub on : OpensFrom 0 0 marks → OpensFrom opened closed rest
  pub nested : nesting + count is_nesting rest ≡ count is_nesting marks
  pub flat : opened ≤ closed + 100
  pub room : (opened + length rest ≤ length marks) × (closed + length rest ≤ length marks) × (nesting + length rest ≤ length marks)

pub depth_begins : (marks : List Mark) → Depth marks marks 0 0 0
depth_begins marks = record { back = λ d. d; on = λ d. d; nested = omega arith; flat = omega arith; room = (omega arith, omega arith, omega arith) }

low : (b : Bool) → one_if b ≤ 1
low true = omega arith
low false = omega arith

opens_back : (opened closed : ℕ) (x : Mark) (ms : List Mark) → OpensFrom (opened + one_if (is_open x)) (closed + one_if (is_close x)) ms → OpensFrom opened closed (x ∷ ms)
opens_back opened closed x ms d = (suc d.0, let h = d.1 in omega arith)

opens_on : (opened closed : ℕ) (x : Mark) (ms : List Mark) → opened ≤ closed + 100 → OpensFrom opened closed (x ∷ ms) → OpensFrom (opened + one_if (is_open x)) (closed + one_if (is_close x)) ms
opens_on opened closed x ms f (zero, h) = absurd (omega (arith, h))
opens_on opened closed x ms f (suc n, h) = (n, omega (arith, h))

pub depth_goes : {marks rest : List Mark} {opened closed nesting o c k : ℕ} → Depth marks rest opened closed nesting → (x : Mark) (ms : List Mark) → rest ≡ x ∷ ms → o ≡ one_if (is_open x) → c ≡ one_if (is_close x) → k ≡ one_if (is_nesting x)
    → opened + o ≤ closed + c + 100 → Depth marks ms (opened + o) (closed + c) (nesting + k)
depth_goes d x ms e p q r f = record {
  back = λ g. d.back (rw e (opens_back _ _ x ms (rw (p, q) at g)));
  on = λ g. rw (p, q) (opens_on _ _ x ms d.flat (rw e at d.on g));
  nested = let h = d.nested in let i = ap (count is_nesting) e in omega (arith, r);
  flat = f;
  room = let h = d.room in let i = ap length e in (omega (arith, low (is_open x), p, h.0), omega (arith, low (is_close x), q, h.1), omega (arith, low (is_nesting x), r, h.2));
}

pub depth_found : {marks rest : List Mark} {opened closed nesting o c : ℕ} → Depth marks rest opened closed nesting → (x : Mark) (ms : List Mark) → rest ≡ x ∷ ms → o ≡ one_if (is_open x) → c ≡ one_if (is_close x) → closed + c + 100 < opened + o
    → IsDeep marks
depth_found {opened = opened} {closed = closed} {o = o} {c = c} d x ms e p q f =
    let here : closed + one_if (is_close x) + count is_close (take 0 ms) + 100 < opened + one_if (is_open x) + count is_open (take 0 ms) = omega (arith, p, q) in
    let g = d.back (rw e (opens_back opened closed x ms (0, here))) in inl (g.0, omega (arith, g.1))

pub depth_ends : {marks rest : List Mark} {opened closed nesting : ℕ} → Depth marks rest opened closed nesting → rest ≡ [] → IsDeep marks → 300 < nesting
depth_ends {opened = opened} {closed = closed} d e (inl g) =
    let first : 0 + count is_close (take g.0 _) + 100 < 0 + count is_open (take g.0 _) = omega (arith, g.1) in
    absurd (none_open opened closed (rw e at (d.on (g.0, first))) d.flat)
  where
    none_open : (opened closed : ℕ) → OpensFrom opened closed [] → opened ≤ closed + 100 → ⊥
    none_open opened closed (zero, h) f = omega (arith, h)
    none_open opened closed (suc n, h) f = omega (arith, h)
depth_ends d e (inr g) = let h = d.nested in let i = ap (count is_nesting) e in omega (arith, g)

pub nested_ends : {marks rest : List Mark} {opened closed nesting : ℕ} → Depth marks rest opened closed nesting → rest ≡ [] → 300 < nesting → IsDeep marks
nested_ends d e g = inr (let h = d.nested in let i = ap (count is_nesting) e in omega (arith, g))
