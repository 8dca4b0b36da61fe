-- The test of all pairs over the columns decides whether there is an embedding. Assumes nothing.
use mathlib.Core.Path.{◌≡◌, refl}
use mathlib.Core.Bool.{Bool, true, false}
use Prim.Native.Nat.{ℕ}
use native.Mathlib.Omega.{arith}
use Rattle.std.specs.Option.{MatchOption}
use Rattle.std.specs.Bool.{then_some}
use Rattle.planner.proofs.AddressWords.{opened_used}
use Rattle.planner.proofs.MeasuredPairs.{measured_addressed, unmeasured_unaddressed, full_unaddressed}
use Rattle.planner.proofs.address_cards.Goals as goal

pub returns-in_err-k : goal.returns-in_err-k
returns-in_err-k c = rw c.from_residual.ensures (full_unaddressed _ _ _ _ c.args.file.measured.formed.formed c.args.file.connected c.args.file.measured.measured c.in_err-k.ensures)

pub invariant_of-counted : goal.invariant_of-counted
invariant_of-counted c = record { zero = opened_used _ _ _ _ _ _ c.in_ok-k.ensures (omega arith) }

-- a number where a test holds, and none where it fails
then_some_cases : (N : Type 0) (S : ℕ → Type 0) (k : ℕ) (b : Bool) → (b ≡ true → S k) → (b ≡ false → N) → MatchOption (then_some b k) N S
then_some_cases N S k true f g = f refl
then_some_cases N S k false f g = g refl

pub returns : goal.returns
returns c =
    let file = c.args.file.measured in
    rw c.then_some.ensures
    (then_some_cases _ _ _ _
    (λ e. measured_addressed _ _ _ _ file.formed.formed c.args.file.connected file.measured _ _ c.in_ok-k.ensures (c.pairs_measure.ensures.holds e))
    (λ e. unmeasured_unaddressed _ _ _ _ file.formed.formed c.args.file.connected file.measured _ _ c.in_ok-k.ensures (c.pairs_measure.ensures.fails e)))
