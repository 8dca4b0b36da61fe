-- The promises of specs/Promises.antt, proved. Assumes nothing.
use mathlib.Core.Path.{◌≡◌}
use Prim.Native.Nat.{ℕ, ◌<◌}
use native.Mathlib.Omega.{arith}
use Rattle.rack.specs.Wiring.{Wiring}
use Rattle.rack.specs.Refusals.{wiring_refusal}
use Rattle.rack.proofs.Crossing.{Rack}
use Rattle.rack.proofs.Accepted.{wiring_accepted}
use Rattle.pendant.specs.Pendant.{with_card}
use Rattle.pendant.specs.Promises.{HopsAdded, ColumnsAdded, AddressesAdded}
use Rattle.pendant.specs.Promises.{AddedAccepted, TakenOffAccepted, HangsMeans, TakenOffRestores}
use Rattle.pendant.proofs.Hops.{Pendant, hops_old, hops_from_new, hops_to_new}
use Rattle.pendant.proofs.Columns.{columns_pendant}
use Rattle.pendant.proofs.Addresses.{count_pendant, address_old, address_new}
use Rattle.pendant.proofs.Acceptance.{accepted_added, accepted_removed}
use Rattle.pendant.proofs.Hanging.{pendant_added, pendant_removed, pendant_hangs, pendant_without}
use Rattle.pendant.proofs.Hanging

module _ (w : Wiring) (c : ℕ) (h : (wiring_refusal w).number ≡ 0) (inside : c < w.cards) where
  rack : Rack w
  rack = (wiring_accepted w (omega arith) h).rack

  pendant : Pendant w c (with_card w c)
  pendant = pendant_added w c rack inside

pub hops_added : HopsAdded
unfolding HopsAdded
hops_added w c a b h inside ha hb =
    let pd = pendant w c h inside in
    let whole = (rack w c h inside).whole in
    (hops_old pd whole a b ha hb, hops_to_new pd whole a ha, hops_from_new pd whole a ha)

pub columns_added : ColumnsAdded
unfolding ColumnsAdded
columns_added w c h inside = columns_pendant (pendant w c h inside) (rack w c h inside).whole

pub addresses_added : AddressesAdded
unfolding AddressesAdded
addresses_added w c h inside =
    let pd = pendant w c h inside in
    let whole = (rack w c h inside).whole in
    (count_pendant pd whole, address_old pd whole, address_new pd whole)

pub added_accepted : AddedAccepted
unfolding AddedAccepted
added_accepted w c h inside = accepted_added (pendant w c h inside) h

pub taken_off_accepted : TakenOffAccepted
unfolding TakenOffAccepted
taken_off_accepted w some h hangs = accepted_removed (pendant_removed w (wiring_accepted w some h).rack hangs) h

pub hangs_means : HangsMeans
hangs_means = Hanging.hangs_means

pub taken_off_restores : TakenOffRestores
unfolding TakenOffRestores
taken_off_restores w c h inside = let pd = pendant w c h inside in (pendant_hangs pd, pendant_without pd)
