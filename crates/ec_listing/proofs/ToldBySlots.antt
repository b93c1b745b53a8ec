-- Narratives are told by slots.
use Rattle.ec_logic.specs.Signature.{Signature}
use Rattle.ec_logic.specs.Valid.{IsSignature}
use Rattle.ec_listing.specs.Apart.{IsToldBySlots}
use Rattle.ec_listing.proofs.Earlier.{slots_earlier}
use Rattle.ec_listing.proofs.Numbered.{atoms_known, atoms_each, atoms_once}
use Rattle.ec_listing.proofs.Readable.{slots_apart, slot_lines}
use Rattle.ec_listing.proofs.Telling.{narrative_told, fits_is}

pub told_by_slots : (signature : Signature) → IsSignature signature → IsToldBySlots signature
told_by_slots signature valid = record {
  readable = record {
    apart = slots_apart signature valid;
    lines = slot_lines signature valid;
    earlier = slots_earlier signature valid;
    known = atoms_known signature valid;
    each = atoms_each signature valid;
    once = atoms_once signature valid;
  };
  tells = λ truth number. narrative_told signature valid truth number;
  fits = λ truth. fits_is signature valid truth;
}
