-- The truths that meet the clause list of a theory are those of its minimal models, each with one visible part.
use Rattle.std.proofs.Common.{All, ◌∙◌}
use Rattle.ec_logic.specs.Universe.{universe_of}
use Rattle.ec_logic.specs.Theory.{Theory}
use Rattle.ec_logic.specs.ValidTheory.{IsValidTheory}
use Rattle.ec_grounding.specs.Models.{SupportsTuples, structure_read}
use Rattle.ec_grounding.specs.WellFormed.{AreNumbered}
use Rattle.ec_cnf.specs.Models.{IsListOf}
use Rattle.ec_cnf.proofs.Extensions.{truths_of, whole_of, minimal_read, visible_read, whole_meets, whole_visible}
use Rattle.ec_cnf.proofs.Once.{truths_same}

pub is_list_of : (theory : Theory) → IsValidTheory theory → All (SupportsTuples (universe_of theory.signature)) theory.groups → AreNumbered (universe_of theory.signature) → IsListOf theory
is_list_of theory valid tuples places = record {
  sound = λ w h. (structure_read theory (truths_of theory w), minimal_read theory valid tuples w h, visible_read theory valid places w);
  whole = λ truth there. record {
    whole = whole_of theory there.0;
    meets = whole_meets theory valid places there.0 tuples there.1;
    extends = whole_visible theory valid places there.0 ∙ there.2;
  };
  once = truths_same theory valid tuples places;
}
