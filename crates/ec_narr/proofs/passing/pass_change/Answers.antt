use Rattle.std.proofs.Common.{◌≡◌, ℕ, Bool, List, not, ◌++◌, false, unwrap_or, sym, ap, subst}
use Rattle.ec_listing.specs.Passing.{IsLookedFor, sign_of}
use Rattle.ec_listing.specs.Slots.{truth_at}
use Rattle.ec_narr.proofs.passing.pass_change.Goals as goal

pub returns : goal.returns
returns c =
    let at : truth_at c.args.truth.now c.args.earlier ≡ c.get-held.result = ap (λ o. unwrap_or o false) c.get-held.ensures in
    let P : Bool → Type 0 = λ b. IsLookedFor c.args.atom (not b) (sign_of b ++ c.args.text.now) c.args.truth.now c.args.bytes.now c.settle.new.truth c.settle.result.now in
    let Q : List ℕ → Type 0 = λ sign. IsLookedFor c.args.atom (not c.get-held.result) (sign ++ c.args.text.now) c.args.truth.now c.args.bytes.now c.settle.new.truth c.settle.result.now in
    subst P (sym at) (subst Q c.sign_where.ensures (c.settle.ensures (c.sign_where.result.now ++ c.args.text.now) c.after_signed_line-behind.ensures))
