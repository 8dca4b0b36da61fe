-- The lowest place in which two addresses differ, as a search gives it. Assumes nothing.
use mathlib.Core.Path.{◌≡◌, refl}
use Prim.Native.Nat.{ℕ}
use native.Mathlib.Omega.{arith}
use borrow.Author.Tests.{lt-ltb, le-ltb}
use Rattle.std.specs.Prelude.{Option, Some, None}
use Rattle.rack.specs.Lists.{FoundBelow}
use Rattle.crossing.specs.Crossing.{some_below}

pub found_some : (k x : ℕ) (r : Option ℕ) → FoundBelow k x r → r ≡ some_below k x
found_some k x None e = rw (le-ltb x k (omega arith)) refl
found_some k x (Some i) f = rw (f.0, lt-ltb x k (omega (arith, f.0, f.1))) refl
