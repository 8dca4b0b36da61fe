-- The entries before x are the bytes spread. Assumes nothing.
use mathlib.Core.Path.{◌≡◌, refl, ap, ◌∙◌}
use Prim.Native.Nat.{ℕ, ◌+◌, ◌*◌, ◌/◌, ◌%◌}
use native.Mathlib.Omega.{arith}
use lib.ListN.{get_or, length-set}
use lib.Seq.{get_or-set_same, get_or-set_other}
use Rattle.rack.proofs.Logic.{by_eq}
use Rattle.card_sets.specs.WordBytes.{spread}
use Rattle.card_sets.proofs.WordBytes.{spread_none, spread_half, spread_fits}
use Rattle.card_sets.proofs.columns.spread_words.Goals as goal
use Rattle.card_sets.proofs.columns.spread_words.Goals.{In-loop-x}

-- the entry that is written
entry : (c : In-loop-x)
    → 256 * get_or c.loop-x.words (c.loop-x.x / 2) 0 + c.loop-x.x % 2 ≡ spread c.loop-x.x
entry c =
    let l = c.loop-x in
    ap (λ (y : ℕ). 256 * y + l.x % 2) (l.invariant.1 (l.x / 2) (omega arith)) ∙ spread_half l.x (omega arith)

pub loop-x-init : goal.loop-x-init
loop-x-init c = (refl, λ y h. let e : y ≡ 0 = omega arith in rw e spread_none)

pub overflow_mul-words : goal.overflow_mul-words
overflow_mul-words c = omega (arith, entry c, spread_fits c.loop-x.x)

pub overflow_add-words : goal.overflow_add-words
overflow_add-words c = omega (arith, entry c, spread_fits c.loop-x.x)

pub loop-x-preserved : goal.loop-x-preserved
loop-x-preserved c =
    let l = c.loop-x in (
      simp length-set l.invariant.0,
      λ y h. by_eq y l.x
          (λ (e : y ≡ l.x). rw e (get_or-set_same l.words l.x _ 0 (omega (arith, l.invariant.0)) ∙ entry c))
          (λ e. get_or-set_other l.words l.x y _ 0 e ∙ l.invariant.1 y (omega arith)),
    )
