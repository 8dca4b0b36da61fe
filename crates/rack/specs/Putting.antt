-- What is appended to a lent buffer that is written up to some place. Assumes nothing: these are definitions.
use Rattle.std.specs.Prelude.{◌≡◌, List, ℕ, ◌+◌, length}
use Rattle.rack.specs.Buffers.{Appends}
use Rattle.rack.specs.declared.output.Output.{Output}

-- `ys` is appended to a buffer that is written up to `at`, and the next position stands behind them
pub record Puts (at : ℕ) (old new ys : List ℕ) (next : ℕ) : Type 0 where
  pub place : next ≡ at + length ys
  pub adds : Appends at old new ys

-- what is written grows by `ys`, in a buffer of the same length
pub record Grows (old new : Output) (ys : List ℕ) : Type 0 where
  pub same : new.bytes.ghost_name ≡ old.bytes.ghost_name
  pub room : length new.bytes.now ≡ length old.bytes.now
  pub puts : Puts old.length old.bytes.now new.bytes.now ys new.length
