-- Three callers on a plan with the hops between each two of them. Assumes nothing: these are definitions.
use Rattle.std.specs.Prelude.{◌≡◌, List, ℕ, ◌<◌}
use Rattle.rack.specs.Hops.{hops}
use Rattle.rack.specs.PlanFile.{plan_cards, plan_wiring}
use Rattle.reader.specs.Promises.{Measured}

-- three cards of a plan that was read, with the hops between each two
pub record CallersAre (ps : List ℕ) (a b c ab ac bc : ℕ) : Type 0 where
  pub read : Measured ps
  pub first : a < plan_cards ps
  pub second : b < plan_cards ps
  pub third : c < plan_cards ps
  pub first_second : ab ≡ hops (plan_wiring ps) a b
  pub first_third : ac ≡ hops (plan_wiring ps) a c
  pub second_third : bc ≡ hops (plan_wiring ps) b c
