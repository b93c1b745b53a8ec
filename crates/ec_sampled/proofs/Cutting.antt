-- Bytes cut into tokens by a walk that computes, and carries what it shows.
use Rattle.std.proofs.Common.{◌≡◌, ℕ, zero, suc, ◌+◌, ◌==◌, Bool, true, false, List, [], ◌∷◌, take, drop, Option, Some, None, Ok, refl, subst, arith}
use Rattle.std.specs.List.{prefix_len}
use Rattle.std.proofs.lemmas.Bool.Decides.{nat_tests}
use Rattle.ec_lex.specs.declared.token.Kind.{Kind}
use Rattle.ec_lex.specs.declared.token.Kind.TheVariants.{Upper, Lower, Number, Sign}
use Rattle.ec_lex.specs.declared.token.Token.{Token}
use Rattle.ec_lex.specs.Bytes.{is_blank, is_upper, is_lower, is_digit, is_word, signs, first_prefix, IsLongest, is_large, line_kind}
use Rattle.ec_lex.specs.Lex.{Lexes, end, blank, next_line, token}
use Rattle.ec_lex.proofs.Longest.{upper_at, lower_at, number_at, sign_at}

-- the tokens that were found, and that they are those of the bytes; none where the walk knows none
abbrev pub Cut : ℕ → List ℕ → Type 0
Cut line bytes = Option ((ts : List Token) × Lexes line bytes (Ok ts))

abbrev Front : List ℕ → Type 0
Front bytes = Option ((kind : Kind) × (len : ℕ) × IsLongest bytes kind len)

abbrev past_blank : {line b : ℕ} {bytes : List ℕ} → is_blank b ≡ true → Cut line bytes → Cut line (b ∷ bytes)
past_blank e None = None
past_blank e (Some p) = Some (p.0, blank e p.1)

pub ends : (line b : ℕ) (bytes : List ℕ) (ts : List Token) → (b == 10) ≡ true → Lexes (suc line) bytes (Ok ts) → Lexes line (b ∷ bytes) (Ok ts)
ends line b bytes ts e d = let is : b ≡ 10 = grind (arith, nat_tests, e) in rw is (next_line d)

abbrev past_end : {line b : ℕ} {bytes : List ℕ} → (b == 10) ≡ true → Cut (suc line) bytes → Cut line (b ∷ bytes)
past_end e None = None
past_end {line} {b} {bytes} e (Some p) = Some (p.0, ends line b bytes p.0 e p.1)

abbrev past_token : {line : ℕ} {bytes : List ℕ} (kind : Kind) (len : ℕ) → IsLongest bytes kind len → (o : Option Kind) → line_kind (take len bytes) ≡ o → (l : Bool) → is_large kind (take len bytes) ≡ l → Cut line (drop len bytes)
    → Cut line bytes
past_token kind len is (Some k) o l e c = None
past_token kind len is None o true e c = None
past_token kind len is None o false e None = None
past_token {line} {bytes} kind len is None o false e (Some p) = Some (record { kind = kind; word = take len bytes; line = line } ∷ p.0, token is o e p.1)

abbrev front_by : (b : ℕ) (bs : List ℕ) (u l d : Bool) (s : Option ℕ) → is_upper b ≡ u → is_lower b ≡ l → is_digit b ≡ d → first_prefix signs (b ∷ bs) ≡ s → Front (b ∷ bs)
front_by b bs true l d s eu el ed es = Some (Upper, 1 + prefix_len is_word bs, upper_at (b ∷ bs) bs b (prefix_len is_word bs) refl eu refl)
front_by b bs false true d s eu el ed es = Some (Lower, 1 + prefix_len is_word bs, lower_at (b ∷ bs) bs b (prefix_len is_word bs) refl el refl)
front_by b bs false false true s eu el ed es = Some (Number, 1 + prefix_len is_digit bs, number_at (b ∷ bs) bs b (prefix_len is_digit bs) refl ed refl)
front_by b bs false false false None eu el ed es = None
front_by b bs false false false (Some n) eu el ed es = Some (Sign, n, sign_at (b ∷ bs) bs b n refl eu el ed es)

abbrev front : (bytes : List ℕ) → Front bytes
front [] = None
front (b ∷ bs) = front_by b bs (is_upper b) (is_lower b) (is_digit b) (first_prefix signs (b ∷ bs)) refl refl refl refl

-- one turn, where the rest of the walk is known
abbrev cut_by : ((line : ℕ) (bytes : List ℕ) → Cut line bytes) → (line b : ℕ) (bs : List ℕ) (k n : Bool) → is_blank b ≡ k → (b == 10) ≡ n → Front (b ∷ bs) → Cut line (b ∷ bs)
cut_by more line b bs true n ek en f = past_blank ek (more line bs)
cut_by more line b bs false true ek en f = past_end en (more (suc line) bs)
cut_by more line b bs false false ek en None = None
cut_by more line b bs false false ek en (Some f) =
    past_token f.0 f.1 f.2 (line_kind (take f.1 (b ∷ bs))) refl (is_large f.0 (take f.1 (b ∷ bs))) refl (more line (drop f.1 (b ∷ bs)))

-- the walk, of at most so many turns
abbrev pub cut : (turns line : ℕ) (bytes : List ℕ) → Cut line bytes
cut zero line bytes = None
cut (suc turns) line [] = Some ([], end)
cut (suc turns) line (b ∷ bs) = cut_by (λ l rest. cut turns l rest) line b bs (is_blank b) (b == 10) refl refl (front (b ∷ bs))

abbrev pub tokens_in : {line : ℕ} {bytes : List ℕ} → Cut line bytes → Option (List Token)
tokens_in None = None
tokens_in (Some p) = Some p.0

-- what was found are the tokens
pub cut_is : (line : ℕ) (bytes : List ℕ) (c : Cut line bytes) (ts : List Token) → tokens_in c ≡ Some ts → Lexes line bytes (Ok ts)
cut_is line bytes None ts e = absurd cc
cut_is line bytes (Some p) ts e = let is : p.0 ≡ ts = cc in subst (λ t. Lexes line bytes (Ok t)) is p.1
