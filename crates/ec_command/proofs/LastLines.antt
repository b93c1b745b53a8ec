-- The last line of a text, where it is cut line by line.
use Rattle.std.proofs.Common.{◌≡◌, ℕ, List, [], ◌∷◌, Option, Some, None, option_map, Bool, true, false, cond, eqb, refl, ap, sym, subst}
use Rattle.ec_edge.specs.Lines.{cut_at, cut_line}
use Rattle.ec_command.specs.LastLine.{with_byte, lines_of}

abbrev pair : List ℕ → List ℕ → List ℕ × List ℕ
pair a b = (a, b)

abbrev with_front : ℕ → List ℕ × List ℕ → List ℕ × List ℕ
with_front byte p = (byte ∷ p.0, p.1)

-- what a cut says of the lines
abbrev CutSays : List (List ℕ) → Option (List ℕ × List ℕ) → Type 0
CutSays lines None = lines ≡ []
CutSays lines (Some p) = lines ≡ p.0 ∷ lines_of p.1

longer : (byte : ℕ) (lines : List (List ℕ)) (o : Option (List ℕ × List ℕ)) → CutSays lines o → CutSays (with_byte byte lines) (option_map (with_front byte) o)
longer byte lines None h = ap (with_byte byte) h
longer byte lines (Some p) h = ap (with_byte byte) h

cut_step : (byte : ℕ) (bytes : List ℕ) (is : Bool) → CutSays (lines_of bytes) (cut_at 10 bytes)
    → CutSays (cond is ([] ∷ lines_of bytes) (with_byte byte (lines_of bytes))) (cond is (Some (pair [] bytes)) (option_map (with_front byte) (cut_at 10 bytes)))
cut_step byte bytes true h = refl
cut_step byte bytes false h = longer byte (lines_of bytes) (cut_at 10 bytes) h

cut_says : (text : List ℕ) → CutSays (lines_of text) (cut_line text)
cut_says [] = refl
cut_says (byte ∷ bytes) = cut_step byte bytes (eqb byte 10) (cut_says bytes)

-- where no line is cut off, there is none
pub no_more_lines : (text : List ℕ) → None ≡ cut_line text → lines_of text ≡ []
no_more_lines text h = subst (CutSays (lines_of text)) (sym h) (cut_says text)

-- a line that is cut off stands before the others
pub line_before : (text line rest : List ℕ) → Some (pair line rest) ≡ cut_line text → lines_of text ≡ line ∷ lines_of rest
line_before text line rest h = subst (CutSays (lines_of text)) (sym h) (cut_says text)
