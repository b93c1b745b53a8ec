-- Lists parted by commas: one reading at most, and the turns of the loops that read them.
use Rattle.std.proofs.Common.{◌≡◌, ℕ, ◌<◌, ◌≤◌, List, [], ◌∷◌, ◌++◌, length, map, refl, ap, sym, subst, arith}
use Rattle.ec_parse.specs.declared.mark.Sign.{Sign}
use Rattle.ec_parse.specs.declared.mark.Sign.TheVariants as s
use Rattle.ec_parse.specs.declared.fault.Fault.{Fault}
use Rattle.ec_parse.specs.declared.fault.Fault.TheVariants.{Memory, Syntax}
use Rattle.ec_parse.specs.Mark.{Mark, sign, Lacks}
use Rattle.ec_parse.specs.Reads.{Fails, free}
use Rattle.ec_parse.specs.Lists.{IsName, name, IsVariable, variable, AreMore, no_more, one_more, AreParted, parted, commas}
use Rattle.ec_parse.proofs.OneTerm.{Same}

pub name_one : (ms : List Mark) (a b : List ℕ) (r s : List Mark) → IsName ms a r → IsName ms b s → Same a b r s
name_one _ _ _ _ _ name name = (refl, refl)

pub variable_one : (ms : List Mark) (a b : List ℕ) (r s : List Mark) → IsVariable ms a r → IsVariable ms b s → Same a b r s
variable_one _ _ _ _ _ (variable v) (variable w) = (cc, cc)

comma_sign : (x : Sign) (ms : List Mark) → (x ≡ s.Comma → ⊥) → commas (sign x ∷ ms) < 1
comma_sign s.Comma ms n = absurd (n refl)
comma_sign s.Stop ms n = omega arith
comma_sign _ ms n = omega arith

pub stops_commas : (ms : List Mark) → Lacks ms (sign s.Comma) → commas ms < 1
stops_commas (sign x ∷ ms) lacks = comma_sign x ms (λ e. lacks ms (rw e refl))
stops_commas _ lacks = omega arith

-- words as they are
pub map_word : (xs : List (List ℕ)) → map (λ w. w) xs ≡ xs
map_word [] = refl
map_word (x ∷ xs) = ap (λ z. x ∷ z) (map_word xs)

module _ {X : Type 0} (R : List Mark → X → List Mark → Type 0) where
  pub more_from : {ms us : List Mark} {bs : List X} {r : List Mark} → ms ≡ us → AreMore R us bs r → AreMore R ms bs r
  more_from {bs = bs} {r = r} e d = subst (λ z. AreMore R z bs r) (sym e) d

module _ {X : Type 0} (R : List Mark → X → List Mark → Type 0) (one : (ms : List Mark) (a b : X) (r s : List Mark) → R ms a r → R ms b s → Same a b r s) where
  pub more_one : {ms : List Mark} {cs bs : List X} {r s : List Mark} → AreMore R ms cs r → commas r < 1 → AreMore R ms bs s → commas s < 1 → Same cs bs r s
  more_one no_more l no_more n = (refl, refl)
  more_one no_more l (one_more e es) n = absurd (omega arith)
  more_one (one_more d ds) l no_more n = absurd (omega arith)
  more_one (one_more d ds) l (one_more e es) n =
      let h = one _ _ _ _ _ d e in
      let k = more_one ds l (more_from R h.1 es) n in (cc, cc)

  pub parted_one : {ms : List Mark} {cs bs : List X} {r s : List Mark} → AreParted R ms cs r → commas r < 1 → AreParted R ms bs s → commas s < 1 → Same cs bs r s
  parted_one (parted d ds) l (parted e es) n =
      let h = one _ _ _ _ _ d e in
      let k = more_one ds l (more_from R h.1 es) n in (cc, cc)

  pub first_left : {marks mid : List Mark} {a : X} {bs : List X} {r : List Mark} → R marks a mid → AreParted R marks bs r → (cs : List X) × AreMore R mid cs r
  first_left u (parted {bs = bs} d ds) = (bs, more_from R (one _ _ _ _ _ u d).1 ds)

  pub next_left : {rest after : List Mark} {a : X} {cs : List X} {r : List Mark} → commas r < 1 → AreMore R (sign s.Comma ∷ rest) cs r → R rest a after → (ds : List X) × AreMore R after ds r
  next_left l no_more u = absurd (omega arith)
  next_left l (one_more {bs = bs} d ds) u = (bs, more_from R (one _ _ _ _ _ u d).1 ds)

  pub no_next : {rest : List Mark} {cs : List X} {r : List Mark} → commas r < 1 → AreMore R (sign s.Comma ∷ rest) cs r → Fails R free 1 rest Syntax → ⊥
  no_next l no_more f = omega arith
  no_next l (one_more {mid = mid} d ds) f = f _ mid d (omega arith)

  pub no_first : {marks : List Mark} {bs : List X} {r : List Mark} → Fails R free 1 marks Syntax → AreParted R marks bs r → ⊥
  no_first f (parted {mid = mid} d ds) = f _ mid d (omega arith)

  pub fail_first : (marks : List Mark) (e : Fault) → Fails R free 1 marks e → Fails (AreParted R) commas 1 marks e
  fail_first marks Memory f = tt
  fail_first marks Syntax f = λ b r d l. no_first f d

-- the items of marks up to rest are those found, and rest has the others
pub record Parts {A X : Type 0} (view : A → X) (R : List Mark → X → List Mark → Type 0) (marks rest : List Mark) (found : List A) : Type 0 where
  pub so_far : (bs : List X) (r : List Mark) → AreMore R rest bs r → AreParted R marks (map view found ++ bs) r
  pub goes_on : (bs : List X) (r : List Mark) → AreParted R marks bs r → commas r < 1 → (cs : List X) × AreMore R rest cs r
  pub shorter : length rest ≤ length marks

map_push : {A X : Type 0} (view : A → X) (found : List A) (x : A) (bs : List X) → map view (found ++ x ∷ []) ++ bs ≡ map view found ++ (view x ∷ bs)
map_push view [] x bs = refl
map_push view (y ∷ found) x bs = ap (λ z. view y ∷ z) (map_push view found x bs)

append_none : {X : Type 0} (xs : List X) → xs ++ [] ≡ xs
append_none [] = refl
append_none (x ∷ xs) = ap (λ z. x ∷ z) (append_none xs)

module _ {A X : Type 0} (view : A → X) (R : List Mark → X → List Mark → Type 0) (one : (ms : List Mark) (a b : X) (r s : List Mark) → R ms a r → R ms b s → Same a b r s) where
  pub parts_begin : {marks mid : List Mark} {found : List A} (first : A) → R marks (view first) mid → length mid ≤ length marks → found ≡ first ∷ [] → Parts view R marks mid found
  parts_begin first u l e = record { so_far = λ bs r d. rw e (parted u d); goes_on = λ bs r d n. first_left R one u d; shorter = l }

  pub parts_more : {marks rest after : List Mark} {found new : List A} → Parts view R marks (sign s.Comma ∷ rest) found → (next : A) → R rest (view next) after → length after ≤ length rest → new ≡ found ++ next ∷ []
      → Parts view R marks after new
  parts_more {found = found} c next u l e = record {
    so_far = λ bs r d. rw (e, map_push view found next bs) (c.so_far _ r (one_more u d));
    goes_on = λ bs r d n. let k = c.goes_on bs r d n in next_left R one n k.1 u;
    shorter = let k = c.shorter in omega arith;
  }

  pub parts_end : {marks rest : List Mark} {found : List A} → Parts view R marks rest found → AreParted R marks (map view found) rest
  parts_end {rest = rest} {found = found} c = rw (← append_none (map view found)) (c.so_far [] rest no_more)

  pub parts_fail : (marks : List Mark) {rest : List Mark} {found : List A} (e : Fault) → Parts view R marks (sign s.Comma ∷ rest) found → Fails R free 1 rest e → Fails (AreParted R) commas 1 marks e
  parts_fail marks Memory c f = tt
  parts_fail marks Syntax c f = λ b r d l. let k = c.goes_on b r d l in no_next R one l k.1 f
