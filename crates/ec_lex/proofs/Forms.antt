-- Each token's word has the form of its kind.
use Rattle.std.proofs.Common.{◌≡◌, ℕ, true, false, List, take, Ok, Err, Some, None, All, arith}
use Rattle.std.proofs.lemmas.List.Elements.{All-nil, All-cons}
use Rattle.std.proofs.lemmas.Bool.Decides.{nat_tests}
use Rattle.ec_lex.specs.declared.token.Kind.{Kind}
use Rattle.ec_lex.specs.declared.token.Kind.TheVariants.{Upper, Lower, Number, Load, Choice, Sign}
use Rattle.ec_lex.specs.declared.token.Token.{Token}
use Rattle.ec_lex.specs.Bytes.{is_token, is_large, line_kind, bad_in, has_form}
use Rattle.ec_lex.specs.Lex.{Found, put, Lexes, end, blank, next_line, comment, line_word, bad_line, token, too_large, bad_byte, IsFormed}
use Rattle.ec_lex.proofs.Ascii.{text_passes}

abbrev FormedIn : Found → Type 0
FormedIn (Ok ts) = All IsFormed ts
FormedIn (Err e) = Unit {0}

put_formed : (t : Token) (r : Found) → IsFormed t → FormedIn r → FormedIn (put t r)
put_formed t (Ok ts) h f = All-cons IsFormed t ts h f
put_formed t (Err e) h f = tt

token_form : (k : Kind) (w : List ℕ) → is_token k w ≡ true → is_large k w ≡ false → has_form k w ≡ true
token_form Upper w t l = t
token_form Lower w t l = t
token_form Number w t l = grind (arith, nat_tests, t, l)
token_form Load w t l = absurd cc
token_form Choice w t l = absurd cc
token_form Sign w t l = t

line_form : (w text : List ℕ) (k : Kind) → line_kind w ≡ Some k → bad_in text ≡ None → has_form k text ≡ true
line_form w text Upper o b = absurd (grind (arith, o))
line_form w text Lower o b = absurd (grind (arith, o))
line_form w text Number o b = absurd (grind (arith, o))
line_form w text Load o b = text_passes text b
line_form w text Choice o b = text_passes text b
line_form w text Sign o b = absurd (grind (arith, o))

pub lexes_formed : {line : ℕ} {bytes : List ℕ} {r : Found} → Lexes line bytes r → FormedIn r
lexes_formed end = All-nil IsFormed
lexes_formed (blank k d) = lexes_formed d
lexes_formed (next_line d) = lexes_formed d
lexes_formed (comment d) = lexes_formed d
lexes_formed (line_word {line = line} {len = len} {word_kind = k} {bytes = bytes} {r = r} t o b d) = put_formed _ r (line_form (take len bytes) _ k o b) (lexes_formed d)
lexes_formed (bad_line t o b) = tt
lexes_formed (token {len = len} {kind = k} {bytes = bytes} {r = r} t o l d) = put_formed _ r (token_form k (take len bytes) t.token l) (lexes_formed d)
lexes_formed (too_large t o l) = tt
lexes_formed (bad_byte k n s g) = tt

pub formed : (bytes : List ℕ) (ts : List Token) → Lexes 1 bytes (Ok ts) → All IsFormed ts
formed bytes ts d = lexes_formed d
