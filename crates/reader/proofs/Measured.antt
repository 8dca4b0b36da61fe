-- What `Measured` says of the wiring inside a plan: it is connected, and the plan's bits are an embedding of it. Assumes nothing.
use mathlib.Core.Path.{◌≡◌}
use mathlib.Core.Bool.{true}
use mathlib.Core.List.{List}
use Prim.Native.Nat.{ℕ}
use native.Mathlib.Omega.{arith}
use Rattle.rack.specs.Hops.{connected}
use Rattle.rack.specs.Columns.{Embedding}
use Rattle.rack.specs.PlanFile.{plan_columns, plan_wiring, plan_bit, plan_hamming}
use Rattle.rack.proofs.Hops.{zero_connected}
use Rattle.rack.proofs.WiringFile.{wiring_at_cards}
use Rattle.reader.specs.Promises.{Measured}

module _ (ps : List ℕ) (m : Measured ps) where
  pub plan_embedding : Embedding (plan_wiring ps) (plan_columns ps) (plan_bit ps)
  unfolding plan_hamming
  plan_embedding a b ha hb = let n = wiring_at_cards 6 ps in m.measured a b (omega arith) (omega arith)

  pub plan_connected : connected (plan_wiring ps) ≡ true
  plan_connected =
      let n = wiring_at_cards 6 ps in
      zero_connected (plan_wiring ps) (λ c h. omega (arith, m.reached 0 c (omega arith) (omega arith)))
