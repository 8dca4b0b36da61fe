-- The ends of a plan's links, copied one part after the other. Assumes nothing.
use mathlib.Core.Path.{◌≡◌, ap, ◌∙◌}
use mathlib.Core.List.{List}
use Prim.Native.Nat.{ℕ, ◌+◌, ◌*◌, ◌-◌, ◌≤◌}
use native.Mathlib.Omega.{arith}
use lib.ListN.{length}
use Rattle.rack.proofs.Putting.{part_counted}
use Rattle.reader.proofs.Parts.{length_part}
use Rattle.plan_parts.specs.Parts.{LinksIn, part, first_ends, second_ends}

module _ (ps : List ℕ) (m : ℕ) (z : LinksIn ps m) where
  pub length_first_ends : (i : ℕ) → i ≤ m → length (first_ends ps i) ≡ 2 * i
  length_first_ends i h = length_part 6 (2 * i) ps (omega (arith, z.long))

  pub length_second_ends : (i : ℕ) → i ≤ m → length (second_ends ps i) ≡ 2 * i
  length_second_ends i h = rw (← z.links) (length_part (6 + 2 * m) (2 * i) ps (omega (arith, z.long)))

  -- as they stand between two places
  pub second_counted : (i : ℕ) → part ps (6 + 2 * m) (6 + 2 * m + 2 * i - (6 + 2 * m)) ≡ second_ends ps i
  second_counted i = part_counted (6 + 2 * m) (2 * i) ps ∙ ap (λ (l : ℕ). part ps (6 + 2 * l) (2 * i)) z.links
