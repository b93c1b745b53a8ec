-- A root has one book at most, or one first fault.
use Rattle.std.proofs.Common.{◌≡◌, ℕ, List, [], ◌∷◌, Option, refl, ap, sym, arith, subst}
use Rattle.ec_lex.specs.declared.token.Token.{Token}
use Rattle.ec_lex.proofs.One.{lexes_one}
use Rattle.ec_parse.specs.Statements as parse
use Rattle.ec_parse.specs.Statements.{AreStatements}
use Rattle.ec_parse.proofs.Turns.{statements_one}
use Rattle.ec_syntax.specs.Written.{Statement}
use Rattle.ec_load.specs.Refusals.{Place}
use Rattle.ec_load.specs.Opening.{Says, statements, bad_byte, too_large, outside, deep, Opens, absent, large, read}
use Rattle.ec_load.specs.Opening as opening
use Rattle.ec_load.specs.Book.{Found, put, placed_at, Loads, many, faulty, opened, ComeTo, none, own, passed, loaded, fault}

statements_from : {ts us : List Token} {r : parse.Found} → ts ≡ us → AreStatements us r → AreStatements ts r
statements_from {r = r} e d = subst (λ (ts : List Token). AreStatements ts r) (sym e) d

-- ---- one file

says_one : {file bytes : List ℕ} {r s : opening.Found} → Says file bytes r → Says file bytes s → r ≡ s
says_one (statements ts l d) (statements us m e) = let same = lexes_one l m in let k = statements_one d (statements_from (cc) e) in cc
says_one (statements ts l d) (bad_byte m) = absurd (let same = lexes_one l m in cc)
says_one (statements ts l d) (too_large m) = absurd (let same = lexes_one l m in cc)
says_one (statements ts l d) (outside us m e) = absurd (let same = lexes_one l m in let k = statements_one d (statements_from (cc) e) in cc)
says_one (statements ts l d) (deep us m e) = absurd (let same = lexes_one l m in let k = statements_one d (statements_from (cc) e) in cc)
says_one (bad_byte l) (statements us m e) = absurd (let same = lexes_one l m in cc)
says_one (bad_byte l) (bad_byte m) = let same = lexes_one l m in cc
says_one (bad_byte l) (too_large m) = absurd (let same = lexes_one l m in cc)
says_one (bad_byte l) (outside us m e) = absurd (let same = lexes_one l m in cc)
says_one (bad_byte l) (deep us m e) = absurd (let same = lexes_one l m in cc)
says_one (too_large l) (statements us m e) = absurd (let same = lexes_one l m in cc)
says_one (too_large l) (bad_byte m) = absurd (let same = lexes_one l m in cc)
says_one (too_large l) (too_large m) = let same = lexes_one l m in cc
says_one (too_large l) (outside us m e) = absurd (let same = lexes_one l m in cc)
says_one (too_large l) (deep us m e) = absurd (let same = lexes_one l m in cc)
says_one (outside ts l d) (statements us m e) = absurd (let same = lexes_one l m in let k = statements_one d (statements_from (cc) e) in cc)
says_one (outside ts l d) (bad_byte m) = absurd (let same = lexes_one l m in cc)
says_one (outside ts l d) (too_large m) = absurd (let same = lexes_one l m in cc)
says_one (outside ts l d) (outside us m e) = let same = lexes_one l m in let k = statements_one d (statements_from (cc) e) in cc
says_one (outside ts l d) (deep us m e) = absurd (let same = lexes_one l m in let k = statements_one d (statements_from (cc) e) in cc)
says_one (deep ts l d) (statements us m e) = absurd (let same = lexes_one l m in let k = statements_one d (statements_from (cc) e) in cc)
says_one (deep ts l d) (bad_byte m) = absurd (let same = lexes_one l m in cc)
says_one (deep ts l d) (too_large m) = absurd (let same = lexes_one l m in cc)
says_one (deep ts l d) (outside us m e) = absurd (let same = lexes_one l m in let k = statements_one d (statements_from (cc) e) in cc)
says_one (deep ts l d) (deep us m e) = let same = lexes_one l m in let k = statements_one d (statements_from (cc) e) in cc

opens_one : {place : Place} {file : List ℕ} {held : Option (List ℕ)} {r s : opening.Found} → Opens place file held r → Opens place file held s → r ≡ s
opens_one absent absent = refl
opens_one (large l) (large m) = refl
opens_one (large l) (read m e) = absurd (omega arith)
opens_one (read l d) (large m) = absurd (omega arith)
opens_one (read l d) (read m e) = says_one d e

-- ---- files that load one another

come_from : {held : List ℕ → Option (List ℕ)} {files : List (List ℕ)} {at : ℕ} {file : List ℕ} {ss ts : List Statement} {r : Found} → ss ≡ ts → ComeTo held files at file ts r → ComeTo held files at file ss r
come_from {held = held} {files = files} {at = at} {file = file} {r = r} e d = subst (λ (ts : List Statement). ComeTo held files at file ts r) (sym e) d

come_then : {held : List ℕ → Option (List ℕ)} {files others : List (List ℕ)} {at : ℕ} {file : List ℕ} {ss : List Statement} {r : Found} → files ≡ others → ComeTo held others at file ss r → ComeTo held files at file ss r
come_then {held = held} {at = at} {file = file} {ss = ss} {r = r} e d = subst (λ (fs : List (List ℕ)). ComeTo held fs at file ss r) (sym e) d

loads_from : {held : List ℕ → Option (List ℕ)} {files : List (List ℕ)} {place : Place} {file other : List ℕ} {r : Found} → file ≡ other → Loads held files place other r → Loads held files place file r
loads_from {held = held} {files = files} {place = place} {r = r} e d = subst (λ (f : List ℕ). Loads held files place f r) (sym e) d

mutual
  pub loads_one : {held : List ℕ → Option (List ℕ)} {files : List (List ℕ)} {place : Place} {file : List ℕ} {r s : Found} → Loads held files place file r → Loads held files place file s → r ≡ s
  loads_one (many l) (many m) = refl
  loads_one (many l) (faulty m p) = absurd (omega arith)
  loads_one (many l) (opened us m p e) = absurd (omega arith)
  loads_one (faulty l o) (many m) = absurd (omega arith)
  loads_one (faulty l o) (faulty m p) = let same = opens_one o p in cc
  loads_one (faulty l o) (opened us m p e) = absurd (let same = opens_one o p in cc)
  loads_one (opened ss l o d) (many m) = absurd (omega arith)
  loads_one (opened ss l o d) (faulty m p) = absurd (let same = opens_one o p in cc)
  loads_one (opened ss l o d) (opened us m p e) = let same = opens_one o p in come_one d (come_from (cc) e)

  pub come_one : {held : List ℕ → Option (List ℕ)} {files : List (List ℕ)} {at : ℕ} {file : List ℕ} {ss : List Statement} {r s : Found} → ComeTo held files at file ss r → ComeTo held files at file ss s → r ≡ s
  come_one none none = refl
  come_one (own n d) (own m e) = ap (put (placed_at _ _ ∷ [])) (come_one d e)
  come_one (own n d) (passed g m p e) = absurd (cc)
  come_one (own n d) (loaded g b m p l e) = absurd (cc)
  come_one (own n d) (fault g m p l) = absurd (cc)
  come_one (passed f n o d) (own m e) = absurd (cc)
  come_one (passed f n o d) (passed g m p e) = come_one d e
  come_one (passed f n o d) (loaded g b m p l e) = absurd (cc)
  come_one (passed f n o d) (fault g m p l) = absurd (cc)
  come_one (loaded f a n o k d) (own m e) = absurd (cc)
  come_one (loaded f a n o k d) (passed g m p e) = absurd (cc)
  come_one (loaded f a n o k d) (loaded g b m p l e) = let same = loads_one k (loads_from (cc) l) in let book : a ≡ b = cc in let rest = come_one d (come_then (cc) e) in cc
  come_one (loaded f a n o k d) (fault g m p l) = absurd (let same = loads_one k (loads_from (cc) l) in cc)
  come_one (fault f n o k) (own m e) = absurd (cc)
  come_one (fault f n o k) (passed g m p e) = absurd (cc)
  come_one (fault f n o k) (loaded g b m p l e) = absurd (let same = loads_one k (loads_from (cc) l) in cc)
  come_one (fault f n o k) (fault g m p l) = loads_one k (loads_from (cc) l)
