-- The slots of a narrative, as values of the program.
use Rattle.std.specs.Prelude.{List, map}
use Rattle.ec_listing.specs.Slots as listing
use Rattle.ec_narr.specs.declared.slot.Slot.{Slot}
use Rattle.ec_narr.specs.declared.slot.Slot.TheVariants.{Fixed, Told, Changed, Silent}

abbrev pub slot_view : Slot → listing.Slot
slot_view (Fixed text) = listing.fixed text.items
slot_view (Told atom text) = listing.told atom text.items
slot_view (Changed earlier atom text) = listing.changed earlier atom text.items
slot_view (Silent atom) = listing.silent atom

abbrev pub slots_view : List Slot → List listing.Slot
slots_view slots = map slot_view slots
