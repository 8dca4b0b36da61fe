-- The promises of specs/Promises.antt, proved. Assumes nothing.
use mathlib.Core.Path.{◌∙◌}
use native.Mathlib.Omega.{arith}
use Rattle.rack.specs.Columns.{column_count, address}
use Rattle.rack.proofs.Accepted.{wiring_accepted}
use Rattle.pendant.proofs.Hops.{connected_removed}
use Rattle.pendant.proofs.Hanging.{pendant_added, pendant_removed}
use Rattle.totals.specs.Promises.{TotalByColumns, TotalAdded, TotalRemoved, TotalFits, ChainTotal}
use Rattle.totals.proofs.Products.{embedding_products, address_products}
use Rattle.totals.proofs.Totals.{total_pendant, total_hops_fits}
use Rattle.totals.proofs.Chains.{chain_accepted, chain_hops}

pub total_by_columns : TotalByColumns
unfolding TotalByColumns
total_by_columns w some h = embedding_products w (column_count w) (address w) (wiring_accepted w some h).embedding ∙ address_products w

pub total_added : TotalAdded
unfolding TotalAdded
total_added w c h inside =
    let rack = (wiring_accepted w (omega arith) h).rack in
    total_pendant (pendant_added w c rack inside) rack.whole

pub total_removed : TotalRemoved
unfolding TotalRemoved
total_removed w some h hangs =
    let rack = (wiring_accepted w some h).rack in
    let pd = pendant_removed w rack hangs in
    total_pendant pd (connected_removed pd rack.whole)

pub total_fits : TotalFits
unfolding TotalFits
total_fits w h = omega (arith, total_hops_fits w h)

pub chain_total : ChainTotal
unfolding ChainTotal
chain_total = (omega (arith, chain_hops 255), λ n. (chain_accepted n, chain_hops n))
