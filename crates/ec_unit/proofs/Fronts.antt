-- what was seen of a trail, as it is told outside, and short clauses that are known to hold
use Rattle.std.proofs.Common.{◌≡◌, ℕ, ◌<◌, ◌≤◌, List, length, take, get_or, map, sym, ap, ◌∙◌, arith}
use Rattle.std.proofs.lemmas.List.{length-map, get_or-map, get_or-take}
use Rattle.std.specs.Prelude.{All}
use Rattle.ec_clause.specs.Literal.{Literal}
use Rattle.ec_clause.specs.ClauseList.{ClauseList}
use Rattle.ec_trail.specs.declared.trail.Entry.{Entry}
use Rattle.ec_trail.proofs.BackTo.{some_entry}
use Rattle.ec_unit.specs.declared.seen.Seen.{Seen}
use Rattle.ec_unit.specs.Settling.{ShortHoldAtZero}
use Rattle.ec_unit.specs.Watching.{Agrees}
use Rattle.ec_unit.specs.Leaning.{no_seen, seen_at, Follows}
use Rattle.ec_unit.specs.Working.{seen_lit}
use Rattle.ec_unit.proofs.Looked.{IfShort}

lit_seen : (seen : List Seen) (i : ℕ) (d : Literal) → i < length seen → get_or (map seen_lit seen) i d ≡ seen_at seen i
lit_seen seen i d lt = get_or-map seen_lit seen i no_seen d lt

-- what was compared agrees
pub agrees_from : (seen : List Seen) (es : List Entry) (front : ℕ) → front ≤ length seen → front ≤ length es → ((i : ℕ) (d : Entry) → i < front → seen_at seen i ≡ (get_or es i d).lit) → Agrees (map seen_lit seen) es front
agrees_from seen es front of_seen of_trail same = record {
  of_seen = omega (arith, of_seen, length-map seen seen_lit);
  of_trail = of_trail;
  same = λ i d e lt. lit_seen seen i d (omega arith) ∙ same i e lt;
}

-- what follows the trail agrees with all of it
pub agrees_all : (seen : List Seen) (es : List Entry) → Follows seen es → Agrees (map seen_lit seen) es (length es)
agrees_all seen es h = agrees_from seen es (length es) (omega (arith, h.size)) (omega arith) h.same

pub agrees_size : (seen : List Seen) (es : List Entry) (front : ℕ) → Agrees (map seen_lit seen) es front → front ≤ length seen
agrees_size seen es front h = omega (arith, h.of_seen, length-map seen seen_lit)

-- the front of what was seen is that of the trail
pub agrees_front : (seen kept : List Seen) (es : List Entry) (front : ℕ) → Agrees (map seen_lit seen) es front → kept ≡ take front seen → (i : ℕ) (d : Entry) → i < front → seen_at kept i ≡ (get_or es i d).lit
agrees_front seen kept es front h is i d lt =
    let item : get_or kept i no_seen ≡ get_or seen i no_seen = ap (λ xs. get_or xs i no_seen) is ∙ get_or-take front seen i no_seen lt in
    ap (λ (s : Seen). s.lit) item ∙ sym (lit_seen seen i (get_or es i d).lit (omega (arith, agrees_size seen es front h))) ∙ h.same i (get_or es i d).lit d lt

-- short clauses that hold at level 0 have a literal that was seen
pub short_known : (c : ClauseList) (seen : List Seen) (es : List Entry) (short : List ℕ) → Follows seen es → All (λ number. (1 ≤ number) × (number ≤ length c.clauses)) short → ShortHoldAtZero c es → All (IfShort c seen) short
short_known c seen es short follows range hold k d lt size =
    let r = range k d lt in
    let h = hold (get_or short k d) (record { low = r.0; high = r.1 }) size in
    record {
      lit = h.lit;
      of_clause = h.of_clause;
      is_true = record {
        place = h.place;
        within = omega (arith, h.within, follows.size);
        there = follows.same h.place some_entry h.within ∙ h.there some_entry;
      };
    }
