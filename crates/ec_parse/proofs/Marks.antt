-- Marks of tokens, and what is found among them.
use Rattle.std.proofs.Common.{◌≡◌, ℕ, zero, suc, ◌+◌, ◌≤◌, ◌<◌, Bool, List, [], ◌∷◌, length, take, drop, map, cond, get_or, not, nat_lt, Some, None, refl, ap, sym, ◌∙◌, arith}
use Rattle.std.specs.List.{position, prefix_len}
use Rattle.std.proofs.lemmas.List.{drop_more, drop-map, take-map, length-map}
use Rattle.ec_lex.specs.declared.token.Token.{Token}
use Rattle.ec_parse.specs.declared.mark.Mark as rust
use Rattle.ec_parse.specs.Mark.{seen, seen_all, marks, mark_of}

prefix_len-map : {X Y : Type 0} (p : Y → Bool) (f : X → Y) (xs : List X) → prefix_len p (map f xs) ≡ prefix_len (λ x. p (f x)) xs
prefix_len-map p f [] = refl
prefix_len-map p f (x ∷ xs) = ap (λ n. cond (p (f x)) (1 + n) 0) (prefix_len-map p f xs)

-- where the first is found by what it is seen as
pub position-map : {X Y : Type 0} (p : Y → Bool) (f : X → Y) (xs : List X) → position p (map f xs) ≡ position (λ x. p (f x)) xs
position-map p f xs =
    ap (λ n. cond (nat_lt n (length (map f xs))) (Some n) None) (prefix_len-map (λ y. not (p y)) f xs) ∙ ap (λ n. cond (nat_lt (prefix_len (λ x. not (p (f x))) xs) n) (Some (prefix_len (λ x. not (p (f x))) xs)) None) (length-map xs f)

-- what is left begins with the next one
pub next_seen : (ms : List rust.Mark) (i : ℕ) (m : rust.Mark) → i < length ms → m ≡ get_or ms i m → seen_all (drop i ms) ≡ seen m ∷ seen_all (drop (i + 1) ms)
next_seen ms i m w e = ap seen_all (drop_more ms i m w ∙ ap (λ x. x ∷ drop (i + 1) ms) (sym e))

-- marks are cut where their tokens are
pub seen_behind : (ms : List rust.Mark) (ts : List Token) (i : ℕ) → seen_all ms ≡ marks ts → seen_all (drop i ms) ≡ marks (drop i ts)
seen_behind ms ts i e = sym (drop-map seen i ms) ∙ ap (drop i) e ∙ drop-map mark_of i ts

pub seen_front : (ms : List rust.Mark) (ts : List Token) (i : ℕ) → seen_all ms ≡ marks ts → seen_all (take i ms) ≡ marks (take i ts)
seen_front ms ts i e = sym (take-map seen i ms) ∙ ap (take i) e ∙ take-map mark_of i ts

-- past its last one nothing is left
pub past_end : {X : Type 0} (xs : List X) (i : ℕ) → length xs ≤ i → drop i xs ≡ []
past_end [] zero w = refl
past_end [] (suc i) w = refl
past_end (x ∷ xs) zero w = absurd (omega (arith, w))
past_end (x ∷ xs) (suc i) w = past_end xs i (omega (arith, w))
