-- The lowest column in which two addresses differ, and the number of a link's column. Assumes nothing: these are definitions.
use Rattle.std.specs.Prelude.{Bool, List, [], ℕ, get_or}
use Rattle.rack.specs.Lists.{differ, lowest}
use Rattle.rack.specs.Wiring.{Link, Wiring}
use Rattle.rack.specs.Columns.{column, same_column, columns, column_count}
use Rattle.rack.specs.PlanFile.{plan_columns, plan_bit}

-- the lowest of the first k places in which two rows of bits differ; k where they are equal
unfoldable pub lowest_differing : (k : ℕ) → (x y : ℕ → Bool) → ℕ
lowest_differing k x y = lowest k (λ j. differ (x j) (y j))

-- of two cards' addresses on a plan: only the first k columns count, spare bits never
unfoldable pub plan_differing : List ℕ → (a b : ℕ) → ℕ
plan_differing ps a b = lowest_differing (plan_columns ps) (plan_bit ps a) (plan_bit ps b)

-- the number of a link's column among a rack's columns, which stand in the order of their lowest links
unfoldable pub column_number : Wiring → Link → ℕ
column_number w l = lowest (column_count w) (λ j. same_column (column w l) (get_or (columns w) j []))
