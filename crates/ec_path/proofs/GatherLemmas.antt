-- Paths gathered below a stack of steps.
use Rattle.std.proofs.Common.{◌≡◌, ◌<◌, ◌+◌, ℕ, suc, List, [], ◌∷◌, ◌++◌, map, length, drop, drop-cons, get_or, refl, ap, arith, append_assoc}
use Rattle.ec_logic.specs.Tree.{Terms, Formula, Formulas, atom, formula}
use Rattle.ec_logic.specs.Paths.{Step, Path, under, paths, paths_of}
use Rattle.ec_path.specs.View.{below}

append_nil : {A : Type 0} (xs : List A) → xs ++ [] ≡ xs
append_nil [] = refl
append_nil (x ∷ xs) = ap (λ ys. x ∷ ys) (append_nil xs)

pub gathered_atom : (ss : List Step) (p : ℕ) (ts : Terms) → below ss (paths (atom p ts)) ≡ record { steps = ss; predicate = p; args = ts } ∷ []
gathered_atom ss p ts = rw (append_nil ss) refl

pub gathered_whole : (qs : List Path) → below [] qs ≡ qs
gathered_whole [] = refl
gathered_whole (q ∷ qs) = ap (λ rs. q ∷ rs) (gathered_whole qs)

gathered_under : (ss : List Step) (s : Step) (qs : List Path) → below (ss ++ s ∷ []) qs ≡ below ss (map (under s) qs)
gathered_under ss s [] = refl
gathered_under ss s (q ∷ qs) = rw (gathered_under ss s qs, append_assoc ss (s ∷ []) q.steps) refl

below_append : (ss : List Step) (qs rs : List Path) → below ss (qs ++ rs) ≡ below ss qs ++ below ss rs
below_append ss [] rs = refl
below_append ss (q ∷ qs) rs = rw (below_append ss qs rs) refl

pub gathered_more : (ss : List Step) (now next done : List Path) (f : Formula) (fs : Formulas) → next ≡ now ++ below ss (paths f) → now ++ below ss (paths_of (formula f fs)) ≡ done → next ++ below ss (paths_of fs) ≡ done
gathered_more ss now next done f fs e h = rw (e, append_assoc now (below ss (paths f)) (below ss (paths_of fs)), ← below_append ss (paths f) (paths_of fs)) h

pub drop_item : {A : Type 0} (xs : List A) (i : ℕ) (x : A) → i < length xs → x ≡ get_or xs i x → drop i xs ≡ x ∷ drop (i + 1) xs
drop_item xs i x h e = let next : i + 1 ≡ suc i = omega arith in rw (next, drop-cons xs i x, ← e) refl

map_push : {A : Type 0} (view : A → Step) (xs : List A) (x : A) → map view (xs ++ x ∷ []) ≡ map view xs ++ view x ∷ []
map_push view [] x = refl
map_push view (y ∷ xs) x = ap (λ zs. view y ∷ zs) (map_push view xs x)

pub gathered_pushed : {A : Type 0} (view : A → Step) (stack : List A) (s : A) (qs : List Path) → below (map view (stack ++ s ∷ [])) qs ≡ below (map view stack) (map (under (view s)) qs)
gathered_pushed view stack s qs = rw (map_push view stack s) (gathered_under (map view stack) (view s) qs)
