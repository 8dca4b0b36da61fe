-- The word holds the cards from i on. Assumes nothing.
use mathlib.Core.Path.{◌≡◌, refl, ◌∙◌}
use Prim.Native.Nat.{◌+◌, ◌*◌, ◌-◌}
use native.Mathlib.Omega.{arith}
use Rattle.card_sets.proofs.WordBytes.{cards_value, cards_fit, cards_none, cards_all, card_next}
use Rattle.card_sets.proofs.columns.eight_cards.Goals as goal
use Rattle.card_sets.proofs.columns.eight_cards.Goals.{After-byte_spread}

-- the word with one card more
next : (c : After-byte_spread)
    → let a = c.args in
    let l = c.loop-i in
    2 * l.word + c.byte_spread.result ≡ cards_value a.bytes.now a.at a.size (l.i - 1) (a.count - (l.i - 1))
next c =
    let a = c.args in
    let l = c.loop-i in
    card_next a.bytes.now a.at a.size a.count l.i l.word _ (omega arith) (omega arith) l.invariant c.byte_spread.ensures

pub loop-i-init : goal.loop-i-init
loop-i-init c = let a = c.args in cards_none a.bytes.now a.at a.size a.count

pub overflow_mul-word : goal.overflow_mul-word
overflow_mul-word c =
    let a = c.args in
    let l = c.loop-i in
    omega (
      arith,
      card_next a.bytes.now a.at a.size a.count l.i l.word _ (omega arith) (omega arith) l.invariant refl,
      cards_fit a.bytes.now a.at a.size (l.i - 1) (a.count - (l.i - 1)) (omega (arith, c.requires.0)),
    )

pub overflow_add-word : goal.overflow_add-word
overflow_add-word c =
    let a = c.args in
    let l = c.loop-i in
    omega (
      arith,
      next (goal.at.overflow_add-word c).After-byte_spread,
      cards_fit a.bytes.now a.at a.size (l.i - 1) (a.count - (l.i - 1)) (omega (arith, c.requires.0)),
    )

pub loop-i-preserved : goal.loop-i-preserved
loop-i-preserved c = next (goal.at.loop-i-preserved c).After-byte_spread

pub returns : goal.returns
returns c =
    let a = c.args in
    let e : c.loop-i.i ≡ 0 = omega arith in
    rw e at c.loop-i.invariant ∙ cards_all a.bytes.now a.at a.size a.count
