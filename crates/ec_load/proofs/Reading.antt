-- What a file that was read says.
use Rattle.std.proofs.Common.{◌≡◌, ℕ, ◌+◌, ◌<◌, ◌≤◌, nat_lt, Bool, true, false, List, length, Option, Some, None, Result, Ok, Err, All, sym, ap, arith, ◌∙◌, subst}
use Rattle.std.specs.Prelude.{IsSomeAnd, IfOk}
use Rattle.std.specs.declared.vec.Vec.{Vec}
use Rattle.std.specs.declared.alloc.Global.{Global}
use Rattle.std.proofs.lemmas.List.{take_all}
use Rattle.std.proofs.lemmas.Bool.Decides.{nat_tests}
use Rattle.ec_edge.specs.Pieces.{IsRead}
use Rattle.ec_lex.specs.declared.token.Token.{Token}
use Rattle.ec_lex.specs.Lex.{Lexes}
use Rattle.ec_syntax.specs.declared.statement.Statement as rust
use Rattle.ec_load.specs.declared.fault.LoadFault.{LoadFault}
use Rattle.ec_load.specs.declared.fault.LoadFault.TheVariants.{Refused, Files, Memory}
use Rattle.ec_load.specs.Refusals.{Place, refused}
use Rattle.ec_load.specs.Opening.{Says, statements, Opens, absent, large, read}
use Rattle.ec_load.specs.Sound.{AreNamed, counted}
use Rattle.ec_load.specs.Answers.{Answers, SpellTo, statements_of}
use Rattle.ec_load.proofs.Named.{spelled_named, spelled_few}

abbrev Parsed : Type 0
Parsed = Result (Vec rust.Statement Global) LoadFault

pub spelled_says : (file bytes : List ℕ) (tokens : List Token) → Lexes 1 bytes (Ok tokens) → (result : Parsed) → Answers statements_of (SpellTo file tokens) result → Answers statements_of (Says file bytes) result
spelled_says file bytes tokens l (Ok v) a = statements tokens l a
spelled_says file bytes tokens l (Err (Refused r)) a = a bytes l
spelled_says file bytes tokens l (Err Files) a = tt
spelled_says file bytes tokens l (Err Memory) a = tt

pub spelled_are_named : (file bytes : List ℕ) (tokens : List Token) → Lexes 1 bytes (Ok tokens) → (result : Parsed) → Answers statements_of (SpellTo file tokens) result → IfOk result (λ found. All AreNamed (statements_of found))
spelled_are_named file bytes tokens l (Ok v) a = spelled_named bytes tokens (statements_of v) l a
spelled_are_named file bytes tokens l (Err e) a = tt

pub spelled_are_few : (file bytes : List ℕ) (tokens : List Token) → Lexes 1 bytes (Ok tokens) → length bytes ≤ 1048576 → (result : Parsed) → Answers statements_of (SpellTo file tokens) result
    → IfOk result (λ found. counted (statements_of found) ≤ 1048576)
spelled_are_few file bytes tokens l n (Ok v) a = omega (arith, spelled_few bytes tokens (statements_of v) l a)
spelled_are_few file bytes tokens l n (Err e) a = tt

-- ---- by what is held

pub opens_absent : (place : Place) (file : List ℕ) (held : Option (List ℕ)) → held ≡ None → Opens place file held (Err (refused 1 place file))
opens_absent place file held e = subst (λ (o : Option (List ℕ)). Opens place file o (Err (refused 1 place file))) (sym e) absent

pub opens_large : (place : Place) (file : List ℕ) (held : Option (List ℕ)) (front : List ℕ) (past : Bool) → IsSomeAnd held (λ bytes. IsRead bytes 1048576 front past) → past ≡ true → Opens place file held (Err (refused 3 place file))
opens_large place file None front past h e = absurd h
opens_large place file (Some bytes) front past h e =
    let long : nat_lt 1048576 (length bytes) ≡ true = sym h.is_past ∙ e in
    let more : 1048576 < length bytes = grind (arith, nat_tests) in
    large more

whole : (held : Option (List ℕ)) (front : List ℕ) (past : Bool) → IsSomeAnd held (λ bytes. IsRead bytes 1048576 front past) → past ≡ false → held ≡ Some front
whole None front past h e = absurd h
whole (Some bytes) front past h e =
    let short : nat_lt 1048576 (length bytes) ≡ false = sym h.is_past ∙ e in
    let le : length bytes ≤ 1048576 + 1 = grind (arith, nat_tests) in
    ap Some (sym (h.front ∙ take_all (1048576 + 1) bytes le))

opens_read : (place : Place) (file bytes : List ℕ) (held : Option (List ℕ)) → held ≡ Some bytes → length bytes ≤ 1048576 → (result : Parsed) → Answers statements_of (Says file bytes) result → Answers statements_of (Opens place file held) result
opens_read place file bytes held e n (Ok v) a = subst (λ (o : Option (List ℕ)). Opens place file o (Ok (statements_of v))) (sym e) (read n a)
opens_read place file bytes held e n (Err (Refused r)) a = subst (λ (o : Option (List ℕ)). Opens place file o (Err r)) (sym e) (read n a)
opens_read place file bytes held e n (Err Files) a = tt
opens_read place file bytes held e n (Err Memory) a = tt

pub opens_said : (place : Place) (file : List ℕ) (held : Option (List ℕ)) (front seen : List ℕ) (past : Bool) → IsSomeAnd held (λ bytes. IsRead bytes 1048576 front past) → past ≡ false → seen ≡ front → length seen ≤ 1048576
    → (result : Parsed) → Answers statements_of (Says file seen) result → Answers statements_of (Opens place file held) result
opens_said place file held front seen past h e same n result a = opens_read place file seen held (whole held front past h e ∙ ap Some (sym same)) n result a
